-- A new table, a seat more and a seat joined into the first one keep the rule.
use Rattle.std.proofs.Common.{List, ◌≡◌, ◌≢◌, ◌⊎◌, ℕ, zero, suc, ◌+◌, ◌^◌, ◌<◌, ◌≤◌, false, true≢false, [], ◌∷◌, ◌++◌, length, set, sym, refl, ap, ◌∙◌, subst, inl, inr, ⊎_elim, length-append, length-set, arith}
use Rattle.std.specs.Prelude.{None}
use Rattle.std.proofs.lemmas.Option.{none-some}
use mathlib.Core.Option.{some, some-injective, some-ne-none}
use mathlib.Core.Logic.{dite}
use native.Mathlib.Decide.{ℕ_discrete}
use lib.ListN.{get_elem?}
use Rattle.atomic_table.specs.Table.{opening, Splits, Joins}
use Rattle.atomic_table.proofs.Lists.{at_longer, set_else}
use Rattle.journal_core.specs.declared.view.Share.{Share}
use Rattle.journal_core.specs.declared.view.View.{View}
use Rattle.journal_core.specs.Journal.{of_seat, IsOfSeats}
use Rattle.journal_core.specs.Rule.{Book, FitsShare, Fits, Kept, fresh_view, first_view, spent_view, newcomer, one_more_given, with_share, tickets_of, tickets_out}
use Rattle.journal_core.proofs.Journals.{none_of_later, of_more_seats}
use Rattle.journal_core.proofs.Views.{place_below, at_behind, each_set, each_set_but, held_set, tickets_set, tickets_behind}

-- a seat that has done nothing yet fits
fits_fresh : (book : Book) (place number given : ℕ)
    → (1 ≤ number → of_seat number book.journal ≡ [])
    → (1 ≤ number → (number ≡ place + 1) × ((number ≡ 1) ⊎ (book.joined + 1 < number)))
    → (number ≡ 1 → (0 ≡ book.joined) × (given ≡ book.given))
    → Fits book place (fresh_view number given)
fits_fresh book place number given none own first =
    record {
      own = none;
      seen = (book.journal, refl);
      ticket = λ t e. absurd (none-some t e);
      taken = λ e. absurd (true≢false (sym e));
      number = own;
      first = first;
      others = inr refl;
      shares = λ k share e. absurd (some-ne-none share (sym e));
    }

-- the table at the start
pub begins : (seats : ℕ) → 1 ≤ seats → seats < 2 ^ 64 → Kept seats (opening (0 ∷ 0 ∷ []) ([] ∷ []) first_view)
begins seats low high = (
  opened,
  record {
    words = refl;
    slot = refl;
    held = λ p e. absurd (none-some p e);
    tickets = refl;
    numbers = refl;
    most = (omega arith, low, high);
    order = tt;
    within = tt;
    each = alone;
  },
)
  where
    opened : Book
    opened = record { journal = []; holder = None; served = 0; drawn = 0; drawer = λ _. 0; joined = 0; given = 1 }

    alone : (place : ℕ) (v : View) → get_elem? (first_view ∷ []) place ≡ some v → Fits opened place v
    alone zero v e =
        subst (Fits opened 0) (some-injective first_view v e)
        (fits_fresh opened 0 1 1 (λ _. refl) (λ _. (refl, inl refl)) (λ _. (refl, refl)))
    alone (suc place) v e = absurd (some-ne-none v (sym e))

-- the first seat stands first
first_place : (book : Book) (place : ℕ) (v : View) → Fits book place v → v.number ≡ 1 → place ≡ 0
first_place book place v fits one = let own : v.number ≡ place + 1 = (fits.number (omega arith)).0 in omega arith

-- another seat fits where one more number was given out
fits_one_more : (book : Book) (place : ℕ) (v : View) → v.number ≢ 1 → Fits book place v
    → Fits (record book { given = book.given + 1 }) place v
fits_one_more book place v other fits =
    record {
      own = fits.own;
      seen = fits.seen;
      ticket = fits.ticket;
      taken = fits.taken;
      number = fits.number;
      first = λ one. absurd (other one);
      others = fits.others;
      shares = fits.shares;
    }

-- the first seat itself
fits_giving : (book : Book) (place : ℕ) (v : View) → v.number ≡ 1 → Fits book place v
    → Fits (record book { given = book.given + 1 }) place (one_more_given v)
fits_giving book place v one fits =
    record {
      own = fits.own;
      seen = fits.seen;
      ticket = fits.ticket;
      taken = fits.taken;
      number = fits.number;
      first = λ _. let f = fits.first one in (f.0, ap (λ n. n + 1) f.1);
      others = fits.others;
      shares = fits.shares;
    }

-- each seat fits, with one more at the end
each_given : (book : Book) (views : List View) (place : ℕ) (v : View)
    → ((j : ℕ) (u : View) → get_elem? views j ≡ some u → Fits book j u) → get_elem? views place ≡ some v → v.number ≡ 1
    → length views ≡ book.given → book.joined < book.given → IsOfSeats book.given book.journal
    → (j : ℕ) (u : View) → get_elem? (set views place (one_more_given v) ++ newcomer v.given ∷ []) j ≡ some u
    → Fits (record book { given = book.given + 1 }) j u
each_given book views place v fits at one count below within j u e =
    let mine = fits place v at in
    let given : v.given ≡ book.given = (mine.first one).1 in
    let first : place ≡ 0 = first_place book place v mine one in
    let w = one_more_given v in
    let longer = set views place w in
    let after = record book { given = book.given + 1 } in
    ⊎_elim
    (λ old.
    each_set after views place w (fits_giving book place v one mine)
    (λ i x apart there.
    let f = fits i x there in
    fits_one_more book i x (λ is. apart (first_place book i x f is ∙ sym first)) f)
    j u old)
    (λ (new : (newcomer v.given ≡ u) × (j ≡ length longer)).
    let here : j ≡ book.given = new.1 ∙ (length-set views place w ∙ count) in
    subst (Fits after j) new.0
    (fits_fresh after j (v.given + 1) 0
    (λ _. none_of_later book.given (v.given + 1) book.journal within (omega arith))
    (λ _. (omega arith, inr (omega arith)))
    (λ is. absurd (omega arith))))
    (at_behind longer (newcomer v.given) u j e)

-- the first seat gives out a number
pub gives : (seats place : ℕ) (v : View) → v.number ≡ 1 → v.given + 1 ≤ seats
    → Splits (Kept seats) place v (one_more_given v) (newcomer v.given)
gives seats place v one room s kept at =
    let book = kept.0 in
    let k = kept.1 in
    let given : v.given ≡ book.given = ((k.each place v at).first one).1 in
    let w = one_more_given v in
    let fresh = newcomer v.given in
    let longer = set s.views place w in
    let below : book.joined < book.given = k.most.0 in
    let same : tickets_out longer + tickets_of v.ticket ≡ tickets_out s.views + tickets_of v.ticket =
    tickets_set s.views place v w at in
    let behind : tickets_out (longer ++ fresh ∷ []) ≡ tickets_out longer + 0 = tickets_behind longer fresh in
    let out : book.drawn ≡ book.served + tickets_out s.views = k.tickets in (
      record book { given = book.given + 1 },
      record {
        words = k.words;
        slot = k.slot;
        held = λ p e.
            let h = held_set book.holder s.views place v w at refl k.held p e in
            (h.0, at_longer longer (fresh ∷ []) p h.0 h.1, h.2);
        tickets = omega arith;
        numbers = length-append longer (fresh ∷ []) ∙ ap (λ n. n + 1) (length-set s.views place w ∙ k.numbers);
        most = (omega arith, (let r : v.given + 1 ≤ seats = room in omega arith), k.most.2);
        order = k.order;
        within = of_more_seats book.given (book.given + 1) book.journal (omega arith) k.within;
        each = each_given book s.views place v k.each at one k.numbers below k.within;
      },
    )

-- a seat that is neither, where one more was joined
fits_joined : (book : Book) (place : ℕ) (v : View) → v.number ≢ 1 → v.number ≢ book.joined + 2 → Fits book place v
    → Fits (record book { joined = book.joined + 1 }) place v
fits_joined book place v other apart fits =
    record {
      own = fits.own;
      seen = fits.seen;
      ticket = fits.ticket;
      taken = fits.taken;
      number = λ low.
          let n = fits.number low in
          (n.0, ⊎_elim (λ one. absurd (other one)) (λ (more : book.joined + 1 < v.number). inr (above more)) n.1);
      first = λ one. absurd (other one);
      others = fits.others;
      shares = fits.shares;
    }
  where
    above : book.joined + 1 < v.number → book.joined + 1 + 1 < v.number
    above more =
        dite (ℕ_discrete v.number (book.joined + 2)) (λ is. absurd (apart is))
        (λ not. let n : v.number ≢ book.joined + 2 = not in grind arith)

-- the first seat, with the next share
fits_gathering : (book : Book) (place : ℕ) (v w : View) → v.number ≡ 1
    → FitsShare book.journal (length v.joined) (record { own = w.own; seen = w.seen }) → Fits book place v
    → Fits (record book { joined = book.joined + 1 }) place (with_share v w)
fits_gathering book place v w one share fits =
    record {
      own = fits.own;
      seen = fits.seen;
      ticket = fits.ticket;
      taken = fits.taken;
      number = λ low. ((fits.number low).0, inl one);
      first = λ _. let f = fits.first one in (length-append v.joined (new ∷ []) ∙ ap (λ n. n + 1) f.0, f.1);
      others = inl one;
      shares = λ k x e.
          ⊎_elim (λ old. fits.shares k x old)
          (λ (is : (new ≡ x) × (k ≡ length v.joined)).
          subst (λ (y : ℕ × Share). FitsShare book.journal y.0 y.1) (λ i. (sym is.1 i, is.0 i)) share)
          (at_behind v.joined new x k e);
    }
  where
    new : Share
    new = record { own = w.own; seen = w.seen }

-- each seat fits, with one joined into the first
each_joined : (book : Book) (views : List View) (place : ℕ) (v : View) (other : ℕ) (w : View)
    → ((j : ℕ) (u : View) → get_elem? views j ≡ some u → Fits book j u) → get_elem? views place ≡ some v
    → get_elem? views other ≡ some w → v.number ≡ 1 → w.number ≡ length v.joined + 2
    → (j : ℕ) (u : View) → get_elem? (set (set views place (with_share v w)) other spent_view) j ≡ some u
    → Fits (record book { joined = book.joined + 1 }) j u
each_joined book views place v other w fits at there one next =
    let both = with_share v w in
    let mine = fits place v at in
    let theirs = fits other w there in
    let first : place ≡ 0 = first_place book place v mine one in
    let joined : length v.joined ≡ book.joined = (mine.first one).0 in
    let number : w.number ≡ other + 1 = (theirs.number (omega arith)).0 in
    let after = record book { joined = book.joined + 1 } in
    let share : FitsShare book.journal (length v.joined) (record { own = w.own; seen = w.seen }) = record {
      own = ap (λ n. of_seat n book.journal) (sym next) ∙ theirs.own (omega arith);
      seen = theirs.seen;
    } in
    each_set after (set views place both) other spent_view
    (fits_fresh after other 0 0 (λ low. absurd (omega arith)) (λ low. absurd (omega arith)) (λ is. absurd
    (omega arith)))
    (λ j u else e.
    each_set_but after views place both other (fits_gathering book place v w one share mine)
    (λ i x away off x_at.
    let f = fits i x x_at in
    fits_joined book i x (λ is. away (first_place book i x f is ∙ sym first))
    (λ is. let own : x.number ≡ i + 1 = (f.number (omega arith)).0 in off (omega arith)) f)
    j u else e)

-- the next seat is joined into the first one
pub joins : (seats place : ℕ) (v : View) (other : ℕ) (w : View) → v.number ≡ 1 → w.number ≡ length v.joined + 2
    → w.taken ≡ false → w.ticket ≡ None → Joins (Kept seats) place v other w (with_share v w) spent_view
joins seats place v other w one next idle none s kept at apart there =
    let book = kept.0 in
    let k = kept.1 in
    let both = with_share v w in
    let middle = set s.views place both in
    let at_other : get_elem? s.views other ≡ some w = sym (set_else s.views place other both apart) ∙ there in
    let joined : length v.joined ≡ book.joined = ((k.each place v at).first one).0 in
    let number : w.number ≡ other + 1 = ((k.each other w at_other).number (omega arith)).0 in
    let below : other < length s.views = place_below s.views other w at_other in
    let count : length s.views ≡ book.given = k.numbers in
    let same : tickets_out middle + tickets_of v.ticket ≡ tickets_out s.views + tickets_of v.ticket =
    tickets_set s.views place v both at in
    let gone : tickets_out (set middle other spent_view) + tickets_of w.ticket ≡ tickets_out middle + 0 =
    tickets_set middle other w spent_view there in
    let zero : tickets_of w.ticket ≡ 0 = ap tickets_of none in
    let out : book.drawn ≡ book.served + tickets_out s.views = k.tickets in (
      record book { joined = book.joined + 1 },
      record {
        words = k.words;
        slot = k.slot;
        held = held_set book.holder middle other w spent_view there (sym idle)
            (held_set book.holder s.views place v both at refl k.held);
        tickets = omega arith;
        numbers = length-set middle other spent_view ∙ (length-set s.views place both ∙ count);
        most = (omega arith, k.most.1, k.most.2);
        order = k.order;
        within = k.within;
        each = each_joined book s.views place v other w k.each at at_other one next;
      },
    )
