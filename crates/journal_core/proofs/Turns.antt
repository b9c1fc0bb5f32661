-- The steps of an append keep the rule: drawing a ticket, looking who is served and taking the journal, and putting the
-- journal back.
use Rattle.std.proofs.Common.{◌≡◌, ◌≢◌, ◌⊎◌, ℕ, ◌+◌, ◌%◌, ◌^◌, ◌<◌, ◌≤◌, eqb, eq-eqb, ne_eqb, cond, true, false, true≢false, List, [], ◌∷◌, ◌++◌, length, get_or, set, drop, sym, refl, ap, ◌∙◌, subst, inl, inr, ⊎_elim, length-set, append-nil, arith}
use Rattle.std.specs.Prelude.{Option, Some, None}
use Rattle.std.proofs.lemmas.Option.{same_Some, none-some}
use Rattle.std.proofs.Math.Nat.{add-mod-mod}
use mathlib.Core.Option.{none, some, some-injective}
use mathlib.Core.Logic.{dite}
use native.Mathlib.Decide.{ℕ_discrete}
use lib.ListN.{get_elem?}
use lib.Seq.{set-get_or}
use Rattle.atomic_table.specs.Table.{State, Allows, keeps, takes, gives, stepped}
use Rattle.atomic_table.proofs.Lists.{set_again, set_here, one_turn}
use Rattle.journal_core.specs.declared.stamped.Stamped.{Stamped}
use Rattle.journal_core.specs.declared.view.Share.{Share}
use Rattle.journal_core.specs.declared.view.View.{View}
use Rattle.journal_core.specs.Journal.{of_seat, BeginsWith, IsInOrder, IsOfSeats}
use Rattle.journal_core.specs.Rule.{Book, FitsShare, Fits, IsKept, Kept, slot_of, tickets_of, tickets_out}
use Rattle.journal_core.specs.Steps.{Mine, waiting, holding, done, Draws, Looks, PutsBack}
use Rattle.journal_core.specs.Turns.{IsOf}
use Rattle.journal_core.proofs.Journals.{begins_twice, begins_with_all, of_seat-append, all_of_seat, none_of_another, of_seats_own, of_seats-append, drop_seen}
use Rattle.journal_core.proofs.Views.{place_below, each_set, held_set, tickets_set, tickets_at_most}

abbrev St : Type 0
St = State (List Stamped) View

-- a word that counts, one further
next_word : (n : ℕ) → (n % 2 ^ 64 + 1) % 2 ^ 64 ≡ (n + 1) % 2 ^ 64
next_word n =
    let here : n % 2 ^ 64 + 1 ≡ 1 + n % 2 ^ 64 = omega arith in
    let there : 1 + n ≡ n + 1 = omega arith in
    ap (λ k. k % 2 ^ 64) here ∙ (add-mod-mod 1 n (2 ^ 64) ∙ ap (λ k. k % 2 ^ 64) there)

-- who drew which ticket, after this seat has drawn the next one
abbrev drawer_after : Book → ℕ → ℕ → ℕ
drawer_after book place t = cond (eqb t book.drawn) place (book.drawer t)

abbrev drawn_by : Book → ℕ → Book
drawn_by book place = record book { drawn = book.drawn + 1; drawer = drawer_after book place }

-- tickets that were drawn before are whose they were
fits_drawn : (book : Book) (by place : ℕ) (v : View) → Fits book place v → Fits (drawn_by book by) place v
fits_drawn book by place v fits =
    record {
      own = fits.own;
      seen = fits.seen;
      ticket = λ t e.
          let f = fits.ticket t e in
          let low : t < book.drawn = f.1 in (
            f.0,
            omega arith,
            ap (λ b. cond b by (book.drawer t)) (ne_eqb t book.drawn (λ is. absurd (omega arith)))
                ∙ f.2,
          );
      taken = fits.taken;
      number = fits.number;
      first = fits.first;
      others = fits.others;
      shares = fits.shares;
    }

fits_waiting : (book : Book) (place : ℕ) (v : View) → v.taken ≡ false → book.served ≤ book.drawn → Fits book place v
    → Fits (drawn_by book place) place (waiting v book.drawn)
fits_waiting book place v idle low fits =
    record {
      own = fits.own;
      seen = fits.seen;
      ticket = λ t e.
          let is : book.drawn ≡ t = same_Some book.drawn t e in
          (omega arith, omega arith, ap (λ b. cond b place (book.drawer t)) (eq-eqb t book.drawn (sym is)));
      taken = λ e. absurd (true≢false (sym e ∙ idle));
      number = fits.number;
      first = fits.first;
      others = fits.others;
      shares = fits.shares;
    }

-- a seat draws a ticket
pub draws : (seats slots place : ℕ) (m : Mine) → m.0.ticket ≡ None → m.0.taken ≡ false
    → Allows (Kept seats) slots place m 0 (λ n. (n + 1) % 2 ^ 64) (λ n m'. Draws m n m')
draws seats slots place m ticketless idle s kept wide at small =
    let book = kept.0 in
    let k = kept.1 in
    let v = m.0 in
    let w = waiting v book.drawn in
    let after = drawn_by book place in
    let out : book.drawn ≡ book.served + tickets_out s.views = k.tickets in
    let more : tickets_out (set s.views place w) + tickets_of v.ticket ≡ tickets_out s.views + 1 =
    tickets_set s.views place v w at in
    let zero : tickets_of v.ticket ≡ 0 = ap tickets_of ticketless in (
      w,
      keeps,
      tt,
      (
        after,
        record {
          words = ap (λ ws. set ws 0 ((get_or ws 0 0 + 1) % 2 ^ 64)) k.words
              ∙ ap (λ n. n ∷ (book.served % 2 ^ 64) ∷ []) (next_word book.drawn);
          slot = k.slot;
          held = held_set book.holder s.views place v w at refl k.held;
          tickets = omega arith;
          numbers = length-set s.views place w ∙ k.numbers;
          most = k.most;
          order = k.order;
          within = k.within;
          each = each_set after s.views place w (fits_waiting book place v idle (omega arith) (k.each place v at))
              (λ j u apart e. fits_drawn book place j u (k.each j u e));
        },
      ),
      (book.drawn, ap (λ ws. get_or ws 0 0) k.words, refl),
    )

-- the ticket that is served is the one whose word is shown
served_is : (seats : ℕ) (book : Book) (s : St) (k : IsKept seats book s) (place : ℕ) (v : View) (t : ℕ)
    → get_elem? s.views place ≡ some v → v.ticket ≡ Some t → book.served % 2 ^ 64 ≡ t % 2 ^ 64 → book.served ≡ t
served_is seats book s k place v t at has shown =
    let f = (k.each place v at).ticket t has in
    let low : book.served ≤ t = f.0 in
    let high : t < book.drawn = f.1 in
    let out : book.drawn ≡ book.served + tickets_out s.views = k.tickets in
    let few : tickets_out s.views ≤ book.given = tickets_at_most s.views book.given k.numbers in
    let most : book.given ≤ seats = k.most.1 in
    let all : seats < 2 ^ 64 = k.most.2 in
    one_turn book.served t (2 ^ 64) low (omega arith) shown

-- the two cases of an option
pub none_or_some : (o : Option ℕ) → (o ≡ None) ⊎ ((p : ℕ) × (o ≡ Some p))
none_or_some None = inl refl
none_or_some (Some p) = inr (p, refl)

-- where the ticket of a seat that has not taken the journal is served, nobody has taken it
nobody : (seats : ℕ) (book : Book) (s : St) (k : IsKept seats book s) (place : ℕ) (v : View) (t : ℕ)
    → get_elem? s.views place ≡ some v → v.ticket ≡ Some t → v.taken ≡ false → book.served ≡ t → book.holder ≡ None
nobody seats book s k place v t at has idle served =
    ⊎_elim (λ is. is)
    (λ (some_one : (p : ℕ) × (book.holder ≡ Some p)).
    let p = some_one.0 in
    let u = k.held p some_one.1 in
    let theirs = k.each p u.0 u.1 in
    let drew : book.drawer book.served ≡ p = (theirs.ticket book.served (theirs.taken u.2).1).2 in
    let mine : book.drawer t ≡ place = ((k.each place v at).ticket t has).2 in
    let same : p ≡ place = sym drew ∙ (ap book.drawer served ∙ mine) in
    let one : u.0 ≡ v = some-injective u.0 v (sym u.1 ∙ (ap (get_elem? s.views) same ∙ at)) in
    absurd (true≢false (sym u.2 ∙ (ap (λ (x : View). x.taken) one ∙ idle))))
    (none_or_some book.holder)

-- the others, once this seat has taken the journal
fits_taken : (book : Book) (by place : ℕ) (v : View) → book.holder ≡ None → Fits book place v
    → Fits (record book { holder = Some by }) place v
fits_taken book by place v nobody fits =
    record {
      own = fits.own;
      seen = fits.seen;
      ticket = fits.ticket;
      taken = λ e. absurd (none-some place (sym nobody ∙ (fits.taken e).0));
      number = fits.number;
      first = fits.first;
      others = fits.others;
      shares = fits.shares;
    }

fits_holding : (book : Book) (place : ℕ) (v : View) → v.ticket ≡ Some book.served → 1 ≤ v.number → Fits book place v
    → Fits (record book { holder = Some place }) place (holding v book.journal)
fits_holding book place v has low fits =
    record {
      own = fits.own;
      seen = begins_with_all book.journal;
      ticket = fits.ticket;
      taken = λ _. (refl, has, refl, low);
      number = fits.number;
      first = fits.first;
      others = fits.others;
      shares = fits.shares;
    }

-- the table, once the seat whose ticket is served has the journal
taken_keeps : (seats : ℕ) (book : Book) (s : St) (k : IsKept seats book s) (place : ℕ) (v : View)
    → get_elem? s.views place ≡ some v → v.ticket ≡ Some book.served → 1 ≤ v.number → book.holder ≡ None
    → s.homes ≡ some book.journal ∷ []
    → IsKept seats (record book { holder = Some place })
    (stepped s 1 (get_or s.words 1 0) place [] (holding v book.journal) (takes 0 book.journal))
taken_keeps seats book s k place v at has low free home =
    let w = holding v book.journal in
    let after = record book { holder = Some place } in
    let out : book.drawn ≡ book.served + tickets_out s.views = k.tickets in
    let same : tickets_out (set s.views place w) + tickets_of v.ticket ≡ tickets_out s.views + tickets_of v.ticket =
    tickets_set s.views place v w at in
    record {
      words = set-get_or s.words 1 0 ∙ k.words;
      slot = ap (λ hs. set hs 0 none) home;
      held = λ p e.
          let is : place ≡ p = same_Some place p e in
          let here = set_here s.views place w (place_below s.views place v at) in
          (w, ap (get_elem? (set s.views place w)) (sym is) ∙ here, refl);
      tickets = omega arith;
      numbers = length-set s.views place w ∙ k.numbers;
      most = k.most;
      order = k.order;
      within = k.within;
      each = each_set after s.views place w (fits_holding book place v has low (k.each place v at))
          (λ j u apart e. fits_taken book place j u free (k.each j u e));
    }

-- the table, where the seat found that another is served
unchanged_keeps : (seats : ℕ) (s : St) (place : ℕ) (v : View) → get_elem? s.views place ≡ some v → Kept seats s
    → Kept seats (stepped s 1 (get_or s.words 1 0) place [] v keeps)
unchanged_keeps seats s place v at kept =
    let words = sym (set-get_or s.words 1 0) in
    let views = sym (set_again s.views place v at) in
    subst (Kept seats) (λ i. record { words = words i; homes = s.homes; views = views i }) kept

-- a seat looks who is served: it takes the journal out of its slot, or nothing changes
pub looks : (seats slots place : ℕ) (v : View) (t : ℕ) → v.ticket ≡ Some t → v.taken ≡ false → 1 ≤ v.number
    → Allows (Kept seats) slots place (v, []) 1 (λ n. n) (λ n m'. Looks (v, []) n m')
looks seats slots place v t has idle low s kept wide at small =
    dite (ℕ_discrete (get_or s.words 1 0) (t % 2 ^ 64))
    (λ (shown : get_or s.words 1 0 ≡ t % 2 ^ 64).
    let book = kept.0 in
    let k = kept.1 in
    let word : get_or s.words 1 0 ≡ book.served % 2 ^ 64 = ap (λ ws. get_or ws 1 0) k.words in
    let served : book.served ≡ t = served_is seats book s k place v t at has (sym word ∙ shown) in
    let free : book.holder ≡ None = nobody seats book s k place v t at has idle served in
    let home : s.homes ≡ some book.journal ∷ [] = k.slot ∙ ap (λ o. slot_of o book.journal ∷ []) free in
    let mine = k.each place v at in (
      holding v book.journal,
      takes 0 book.journal,
      ap (λ hs. get_elem? hs 0) home,
      (
        record book { holder = Some place },
        taken_keeps seats book s k place v at (has ∙ ap Some (sym served)) low free home,
      ),
      λ t' has'. (
        (λ _. (book.journal, refl, mine.seen, k.order)),
        (λ off. absurd (off (shown ∙ ap (λ x. x % 2 ^ 64) (same_Some t t' (sym has ∙ has'))))),
      ),
    ))
    (λ (off : get_or s.words 1 0 ≢ t % 2 ^ 64). (
      v,
      keeps,
      tt,
      unchanged_keeps seats s place v at kept,
      λ t' has'.
          ((λ shown. absurd (off (shown ∙ ap (λ x. x % 2 ^ 64) (same_Some t' t (sym has' ∙ has))))), (λ _. refl)),
    ))

-- the book, once this journal is in the slot
abbrev put_by : Book → List Stamped → Book
put_by book journal = record book { journal = journal; holder = None; served = book.served + 1 }

module _ (book : Book) (place : ℕ) (v : View) (added : List Stamped) (mine : Fits book place v)
    (taken : v.taken ≡ true) (own : IsOf v.number added) where
  -- what was found and what was added, as one journal
  abbrev now : List Stamped
  now = book.journal ++ added

  low : 1 ≤ v.number
  low = (mine.taken taken).3

  -- a seat of another number has no more entries than before
  others_have : (number : ℕ) → v.number ≢ number → of_seat number now ≡ of_seat number book.journal
  others_have number apart =
      of_seat-append number book.journal added
      ∙ (ap (λ l. of_seat number book.journal ++ l) (none_of_another v.number number added own apart)
      ∙ append-nil (of_seat number book.journal))

  -- the journal begins with what it began with
  begins_still : (seen : List Stamped) → BeginsWith book.journal seen → BeginsWith now seen
  begins_still seen h = begins_twice now book.journal seen (added, refl) h

  -- shares are of other seats
  shares_still : (j : ℕ) (u : View) → Fits book j u → (k : ℕ) (share : Share) → get_elem? u.joined k ≡ some share
      → FitsShare now k share
  shares_still j u fits k share e =
      let below : k < length u.joined = place_below u.joined k share e in
      let f = fits.shares k share e in
      let apart : v.number ≢ k + 2 =
      ⊎_elim
      (λ (one : u.number ≡ 1).
      let joined : length u.joined ≡ book.joined = (fits.first one).0 in
      ⊎_elim (λ (first : v.number ≡ 1) (is : v.number ≡ k + 2). omega arith)
      (λ (later : book.joined + 1 < v.number) (is : v.number ≡ k + 2). omega arith) (mine.number low).1)
      (λ (nothing : u.joined ≡ []). let zero : length u.joined ≡ 0 = ap length nothing in absurd (omega arith))
      fits.others
      in
      record { own = others_have (k + 2) apart ∙ f.own; seen = begins_still share.seen f.seen }

  -- the others, once the journal is back
  fits_put : (j : ℕ) (u : View) → j ≢ place → Fits book j u → Fits (put_by book now) j u
  fits_put j u apart fits =
      record {
        own = λ some_number.
            let theirs : u.number ≡ j + 1 = (fits.number some_number).0 in
            let ours : v.number ≡ place + 1 = (mine.number low).0 in
            others_have u.number (λ is. apart (omega arith)) ∙ fits.own some_number;
        seen = begins_still u.seen fits.seen;
        ticket = λ t e.
            let f = fits.ticket t e in
            let above : book.served ≤ t = f.0 in
            let m = mine.ticket book.served (mine.taken taken).1 in
            let other : book.served ≢ t = λ is. apart (sym f.2 ∙ (ap book.drawer (sym is) ∙ m.2)) in (
              (dite (ℕ_discrete book.served t) (λ is. absurd (other is))
                  (λ not. let n : book.served ≢ t = not in grind arith)),
              f.1,
              f.2,
            );
        taken = λ e. absurd (apart (same_Some j place (sym (fits.taken e).0 ∙ (mine.taken taken).0)));
        number = fits.number;
        first = fits.first;
        others = fits.others;
        shares = shares_still j u fits;
      }

  -- the seat itself
  fits_done : Fits (put_by book now) place (done v now)
  fits_done =
      let whole : v.seen ≡ book.journal = (mine.taken taken).2 in
      record {
        own = λ _.
            of_seat-append v.number book.journal added
            ∙ (ap (λ l. l ++ of_seat v.number added) (mine.own low)
            ∙ (ap (λ l. v.own ++ l)
            (all_of_seat v.number added own ∙ sym (drop_seen book.journal added)
            ∙ ap (λ l. drop (length l) now) (sym whole))));
        seen = begins_with_all now;
        ticket = λ t e. absurd (none-some t e);
        taken = λ e. absurd (true≢false (sym e));
        number = mine.number;
        first = mine.first;
        others = mine.others;
        shares = shares_still place v mine;
      }

-- the journal that a seat has taken
taken_one : (journal l : List Stamped) → ◌≡◌ {A = List (ℕ × List Stamped)} ((0, journal) ∷ []) ((0, l) ∷ [])
    → journal ≡ l
taken_one journal l e = ap carried e
  where
    carried : List (ℕ × List Stamped) → List Stamped
    carried [] = []
    carried (x ∷ xs) = x.1

-- the seat puts the journal back, with entries of its own behind what it found, and the next ticket is served
pub puts : (seats slots place : ℕ) (v : View) (journal added : List Stamped) → v.taken ≡ true
    → journal ≡ v.seen ++ added → IsOf v.number added → IsInOrder journal
    → Allows (Kept seats) slots place (v, (0, journal) ∷ []) 1 (λ n. (n + 1) % 2 ^ 64)
    (λ n m'. PutsBack (v, (0, journal) ∷ []) m')
puts seats slots place v journal added taken is own order s kept wide at small =
    let book = kept.0 in
    let k = kept.1 in
    let mine = k.each place v at in
    let mt = mine.taken taken in
    let same : journal ≡ book.journal ++ added = is ∙ ap (λ l. l ++ added) mt.2 in
    let w = done v journal in
    let number : v.number ≡ place + 1 = (mine.number mt.3).0 in
    let below : place < length s.views = place_below s.views place v at in
    let count : length s.views ≡ book.given = k.numbers in
    let out : book.drawn ≡ book.served + tickets_out s.views = k.tickets in
    let less : tickets_out (set s.views place w) + tickets_of v.ticket ≡ tickets_out s.views + 0 =
    tickets_set s.views place v w at in
    let one : tickets_of v.ticket ≡ 1 = ap tickets_of mt.1 in
    let after = put_by book journal in (
      w,
      gives,
      tt,
      (
        after,
        record {
          words = ap (λ ws. set ws 1 ((get_or ws 1 0 + 1) % 2 ^ 64)) k.words
              ∙ ap (λ n. (book.drawn % 2 ^ 64) ∷ n ∷ []) (next_word book.served);
          slot = ap (λ hs. set hs 0 (some journal)) k.slot;
          held = λ p e. absurd (none-some p e);
          tickets = omega arith;
          numbers = length-set s.views place w ∙ count;
          most = k.most;
          order = order;
          within = subst (IsOfSeats book.given) (sym same)
              (of_seats-append book.given book.journal added k.within
              (of_seats_own book.given v.number added own mt.3 (omega arith)));
          each = each_set after s.views place w
              (subst (λ l. Fits (put_by book l) place (done v l)) (sym same)
              (fits_done book place v added mine taken own))
              (λ j u apart e. subst (λ l. Fits (put_by book l) j u) (sym same)
              (fits_put book place v added mine taken own j u apart (k.each j u e)));
        },
      ),
      λ l here. ap (λ j. (done v j, [])) (taken_one journal l here),
    )
