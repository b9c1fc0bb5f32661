-- Facts about journals: what each seat has of them, how they grow, and in what order they stand.
use Rattle.std.proofs.Common.{◌≡◌, ℕ, ◌<◌, ◌≤◌, ◌≢◌, List, [], ◌∷◌, ◌++◌, cond, eqb, eq-eqb, ne_eqb, length, drop, sym, refl, ap, ◌∙◌, inl, inr, append_assoc, append-nil, arith}
use Rattle.std.proofs.lemmas.List.Elements.{filter-append}
use Rattle.std.proofs.Math.Seq.{drop-append_seam}
use Rattle.pico_base.specs.declared.reply.Entry.{Entry}
use Rattle.journal_core.specs.declared.stamped.Stamped.{Stamped}
use Rattle.journal_core.specs.Journal.{of_seat, stamp_after, under, BeginsWith, Follows, AllFollow, IsInOrder, IsOfSeats}
use Rattle.journal_core.specs.Turns.{IsOf}

-- a journal begins with itself
pub begins_with_all : (xs : List Stamped) → BeginsWith xs xs
begins_with_all xs = ([], sym (append-nil xs))

-- what begins a beginning, begins the whole
pub begins_twice : (xs ys zs : List Stamped) → BeginsWith xs ys → BeginsWith ys zs → BeginsWith xs zs
begins_twice xs ys zs h k = (k.0 ++ h.0, h.1 ∙ (ap (λ l. l ++ h.0) k.1 ∙ append_assoc zs k.0 h.0))

-- a seat's entries in two journals, one behind the other
pub of_seat-append : (seat : ℕ) (xs ys : List Stamped) → of_seat seat (xs ++ ys) ≡ of_seat seat xs ++ of_seat seat ys
of_seat-append seat xs ys = filter-append (λ (e : Stamped). eqb e.seat seat) xs ys

-- of entries that are all of one seat, that seat has all
pub all_of_seat : (seat : ℕ) (xs : List Stamped) → IsOf seat xs → of_seat seat xs ≡ xs
all_of_seat seat [] h = refl
all_of_seat seat (e ∷ es) h =
    ap (λ b. cond b (e ∷ of_seat seat es) (of_seat seat es)) (eq-eqb e.seat seat h.0)
    ∙ ap (λ l. e ∷ l) (all_of_seat seat es h.1)

-- and another seat has none
pub none_of_another : (seat other : ℕ) (xs : List Stamped) → IsOf seat xs → seat ≢ other → of_seat other xs ≡ []
none_of_another seat other [] h apart = refl
none_of_another seat other (e ∷ es) h apart =
    ap (λ b. cond b (e ∷ of_seat other es) (of_seat other es)) (ne_eqb e.seat other (λ same. apart (sym h.0 ∙ same)))
    ∙ none_of_another seat other es h.1 apart

-- a seat whose number was not given out yet has none
pub none_of_later : (seats other : ℕ) (xs : List Stamped) → IsOfSeats seats xs → seats < other → of_seat other xs ≡ []
none_of_later seats other [] h later = refl
none_of_later seats other (e ∷ es) h later =
    ap (λ b. cond b (e ∷ of_seat other es) (of_seat other es))
    (ne_eqb e.seat other (λ same. let low = h.1 in absurd (omega arith))) ∙ none_of_later seats other es h.2 later

-- what was added to what was seen, as the rule has it
pub drop_seen : (seen added : List Stamped) → drop (length seen) (seen ++ added) ≡ added
drop_seen seen added = drop-append_seam seen added

-- entries of a seat that has a number are of seats
pub of_seats_own : (seats seat : ℕ) (xs : List Stamped) → IsOf seat xs → 1 ≤ seat → seat ≤ seats → IsOfSeats seats xs
of_seats_own seats seat [] h low high = tt
of_seats_own seats seat (e ∷ es) h low high = let same = h.0 in
    (omega arith, omega arith, of_seats_own seats seat es h.1 low high)

-- of two journals, one behind the other
pub of_seats-append : (seats : ℕ) (xs ys : List Stamped) → IsOfSeats seats xs → IsOfSeats seats ys
    → IsOfSeats seats (xs ++ ys)
of_seats-append seats [] ys h k = k
of_seats-append seats (e ∷ es) ys h k = (h.0, h.1, of_seats-append seats es ys h.2 k)

-- with more seats
pub of_more_seats : (seats more : ℕ) (xs : List Stamped) → seats ≤ more → IsOfSeats seats xs → IsOfSeats more xs
of_more_seats seats more [] up h = tt
of_more_seats seats more (e ∷ es) up h = let high = h.1 in (h.0, omega arith, of_more_seats seats more es up h.2)

-- entries that were appended together are all of their seat
pub under_is_of : (stamp seat : ℕ) (entries : List Entry) → IsOf seat (under stamp seat entries)
under_is_of stamp seat [] = tt
under_is_of stamp seat (e ∷ es) = (refl, under_is_of stamp seat es)

all_follow-append : (e : Stamped) (xs ys : List Stamped) → AllFollow e xs → AllFollow e ys → AllFollow e (xs ++ ys)
all_follow-append e [] ys h k = k
all_follow-append e (x ∷ xs) ys h k = (h.0, all_follow-append e xs ys h.1 k)

under_follows : (e : Stamped) (stamp seat : ℕ) (entries : List Entry) → e.stamp < stamp
    → AllFollow e (under stamp seat entries)
under_follows e stamp seat [] less = tt
under_follows e stamp seat (x ∷ xs) less = (inl less, under_follows e stamp seat xs less)

under_follows_itself : (e : Stamped) (stamp seat : ℕ) (entries : List Entry) → e.stamp ≡ stamp → e.seat ≡ seat
    → AllFollow e (under stamp seat entries)
under_follows_itself e stamp seat [] one same = tt
under_follows_itself e stamp seat (x ∷ xs) one same = (inr (one, same), under_follows_itself e stamp seat xs one same)

under_in_order : (stamp seat : ℕ) (entries : List Entry) → IsInOrder (under stamp seat entries)
under_in_order stamp seat [] = tt
under_in_order stamp seat (x ∷ xs) = (
  under_follows_itself (record { stamp = stamp; seat = seat; entry = x }) stamp seat xs refl refl,
  under_in_order
      stamp seat xs,
)

not_below : (e f : Stamped) → Follows e f → e.stamp ≤ f.stamp
not_below e f (inl less) = omega arith
not_below e f (inr same) = let is = same.0 in omega arith

-- in a journal that is in order the last stamp is the greatest
first_below_last : (e : Stamped) (es : List Stamped) → IsInOrder (e ∷ es) → e.stamp ≤ stamp_after e.stamp es
first_below_last e [] h = omega arith
first_below_last e (f ∷ fs) h =
    let step : e.stamp ≤ f.stamp = not_below e f h.0.0 in
    let rest : f.stamp ≤ stamp_after f.stamp fs = first_below_last f fs h.1 in
    omega arith

-- entries under a stamp above the last one keep the order
pub order_behind : (last : ℕ) (found : List Stamped) (stamp seat : ℕ) (entries : List Entry) → IsInOrder found
    → stamp_after last found < stamp → IsInOrder (found ++ under stamp seat entries)
order_behind last [] stamp seat entries h above = under_in_order stamp seat entries
order_behind last (e ∷ es) stamp seat entries h above =
    let here : e.stamp ≤ stamp_after e.stamp es = first_below_last e es h in (
      all_follow-append e es (under stamp seat entries) h.0 (under_follows e stamp seat entries (omega arith)),
      order_behind e.stamp es stamp seat entries h.1 above,
    )
