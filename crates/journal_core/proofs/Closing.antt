-- Once all seats are joined into the first one, the journal is in its slot, and has of each seat just its own entries.
use Rattle.std.proofs.Common.{◌≡◌, ℕ, suc, ◌+◌, ◌<◌, ◌≤◌, false, true≢false, List, [], ◌∷◌, map, length, sym, refl, ap, ◌∙◌, subst, ⊎_elim, arith}
use Rattle.std.proofs.lemmas.List.{length-map}
use Rattle.std.specs.Prelude.{Some, None}
use mathlib.Core.Option.{some, some-injective}
use lib.ListN.{get_elem?}
use Rattle.atomic_table.specs.Seated.{TableId}
use Rattle.atomic_table.specs.Table.{State, Final, Seen}
use Rattle.journal_core.specs.declared.stamped.Stamped.{Stamped}
use Rattle.journal_core.specs.declared.view.Share.{Share}
use Rattle.journal_core.specs.declared.view.View.{View}
use Rattle.journal_core.specs.Journal.{of_seat, BeginsWith}
use Rattle.journal_core.specs.Seated.{Seated, AreNumbered, HasAllOf, Closes}
use Rattle.journal_core.specs.Rule.{Book, FitsShare, Fits, IsKept, Kept, slot_of}
use Rattle.journal_core.specs.Turns.{share_of, HasGathered}
use Rattle.journal_core.proofs.Journals.{of_more_seats}
use Rattle.journal_core.proofs.Views.{place_below}
use Rattle.journal_core.proofs.Turns.{none_or_some}

-- what the shares of joined seats say of the journal
shares_have : (journal : List Stamped) (table : TableId) (k : ℕ) (seats : List Seated) → AreNumbered table (k + 2) seats
    → ((i : ℕ) (share : Share) → get_elem? (map share_of seats) i ≡ some share → FitsShare journal (k + i) share)
    → HasAllOf journal seats
shares_have journal table k [] numbered fits = tt
shares_have journal table k (s ∷ ss) numbered fits =
    let here = fits 0 (share_of s) refl in
    let number : s.number ≡ k + 0 + 2 = let n : s.number ≡ k + 2 = numbered.1 in omega arith in (
      ap (λ n. of_seat n journal) number ∙ here.own,
      here.seen,
      shares_have journal table (k + 1) ss
          (subst (λ n. AreNumbered table n ss) (omega arith) numbered.2)
          (λ i share e. subst (λ n. FitsShare journal n share) (omega arith) (fits (suc i) share e)),
    )

-- the first of the seats, and the others by their shares
all_have : (seats : ℕ) (book : Book) (place : ℕ) (v : View) (table : TableId) (all : List Seated) → Fits book place v
    → HasGathered v all → AreNumbered table 1 all → HasAllOf book.journal all
all_have seats book place v table [] fits gathered numbered = absurd gathered
all_have seats book place v table (s ∷ ss) fits gathered numbered =
    let one : v.number ≡ 1 = gathered.0 in (
      ap (λ n. of_seat n book.journal) (numbered.1 ∙ sym one) ∙ (fits.own (omega arith) ∙ gathered.2),
      subst (BeginsWith book.journal) gathered.3 fits.seen,
      shares_have book.journal table 0 ss numbered.2
          (λ i share e. subst (λ n. FitsShare book.journal n share) (omega arith)
          (fits.shares i share (ap (λ l. get_elem? l i) gathered.4 ∙ e))),
    )

-- as many were joined as there are seats besides the first
joined_all : (v : View) (all : List Seated) → HasGathered v all → length v.joined + 1 ≡ length all
joined_all v [] gathered = absurd gathered
joined_all v (s ∷ ss) gathered =
    let e : length v.joined ≡ length ss = ap length gathered.4 ∙ length-map ss share_of in
    omega arith

gathered_first : (v : View) (all : List Seated) → HasGathered v all → (v.number ≡ 1) × (v.taken ≡ false)
gathered_first v [] gathered = absurd gathered
gathered_first v (s ∷ ss) gathered = (gathered.0, gathered.1)

-- nobody has taken the journal
nobody_left : (seats : ℕ) (book : Book) (s : State (List Stamped) View) (k : IsKept seats book s) (place : ℕ)
    (v : View) → get_elem? s.views place ≡ some v → v.number ≡ 1 → v.taken ≡ false → length v.joined + 1 ≡ seats
    → book.holder ≡ None
nobody_left seats book s k place v at one idle all =
    ⊎_elim (λ is. is)
    (λ (some_one : (p : ℕ) × (book.holder ≡ Some p)).
    let p = some_one.0 in
    let u = k.held p some_one.1 in
    let mine = k.each place v at in
    let theirs = k.each p u.0 u.1 in
    let low : 1 ≤ u.0.number = (theirs.taken u.2).3 in
    let number : u.0.number ≡ p + 1 = (theirs.number low).0 in
    let below : p < length s.views = place_below s.views p u.0 u.1 in
    let count : length s.views ≡ book.given = k.numbers in
    let most : book.given ≤ seats = k.most.1 in
    let joined : length v.joined ≡ book.joined = (mine.first one).0 in
    let own : v.number ≡ place + 1 = (mine.number (omega arith)).0 in
    let first : u.0.number ≡ 1 =
    ⊎_elim (λ is. is) (λ (later : book.joined + 1 < u.0.number). absurd (omega arith)) (theirs.number low).1 in
    let same : p ≡ place = omega arith in
    let it : u.0 ≡ v = some-injective u.0 v (sym u.1 ∙ (ap (get_elem? s.views) same ∙ at)) in
    absurd (true≢false (sym u.2 ∙ (ap (λ (x : View). x.taken) it ∙ idle))))
    (none_or_some book.holder)

-- what the table says at its end
pub closes : (seats place : ℕ) (v : View) (table : TableId) (all : List Seated) (words : List ℕ)
    (slots : List (List Stamped)) (journal : List Stamped)
    → Final (Seen (Kept seats) place v) words slots → HasGathered v all → AreNumbered table 1 all
    → length all ≡ seats → get_elem? slots 0 ≡ some journal
    → Closes (record { id = table; seats = seats }) all journal
closes seats place v table all words slots journal last gathered numbered count taken =
    let s = last.0 in
    let book = last.1.0.0 in
    let k = last.1.0.1 in
    let at = last.1.1 in
    let first = gathered_first v all gathered in
    let free : book.holder ≡ None =
    nobody_left seats book s k place v at first.0 first.1 (joined_all v all gathered ∙ count) in
    let home : s.homes ≡ some book.journal ∷ [] = k.slot ∙ ap (λ o. slot_of o book.journal ∷ []) free in
    let there : get_elem? slots 0 ≡ some book.journal = last.4 0 book.journal (ap (λ hs. get_elem? hs 0) home) in
    let same : book.journal ≡ journal = some-injective book.journal journal (sym there ∙ taken) in
    subst (Closes (record { id = table; seats = seats }) all) same
    (record {
      whole = all_have seats book place v table all (k.each place v at) gathered numbered;
      order = k.order;
      others = of_more_seats book.given seats book.journal k.most.1 k.within;
    })
