-- What is left of a stream whose two ends are together, and what a take leaves of it.
use Rattle.std.proofs.Common.{◌≡◌, List, [], ◌∷◌, ◌++◌, length, drop, sym, ap, ◌∙◌, subst, append_assoc, true, Option, Some, None}
use Rattle.std.proofs.Math.Seq.{drop-append_seam}
use Rattle.std.specs.Prelude.{MatchOption}
use Rattle.stream_pair.specs.declared.piece.Piece.{Piece}
use Rattle.stream_pair.specs.declared.order.Hand.{Hand}
use Rattle.stream_pair.specs.Order.{after_take, TakesNext, left_of, HasBothEnds}

-- what the queue holds is what is left
pub items_are_left : (h : Hand) (items : List Piece) → h.sent ≡ h.taken ++ items → left_of h ≡ items
items_are_left h items whole = ap (λ l. drop (length h.taken) l) whole ∙ drop-append_seam h.taken items

-- who has both ends, and sees what the queue holds
pub both_ends_are_there : (h : Hand) (items : List Piece) → h.sends ≡ true → h.takes ≡ true
    → h.sent ≡ h.taken ++ items → HasBothEnds h
both_ends_are_there h items may_send may_take whole = record {
  sends = may_send;
  takes = may_take;
  whole = whole ∙ ap (λ l. h.taken ++ l) (sym (items_are_left h items whole));
}

-- What a take tells who has both ends: nothing was left; or this piece was next. `Also` is what else it tells.
abbrev Tells : Hand → Option Piece → Hand → Type 0 → Type 0
Tells h r new Also = MatchOption r ((new ≡ h) × (h.sent ≡ h.taken ++ [])) (λ p. TakesNext h p new × Also)

behind : (h : Hand) (p : Piece) (items : List Piece) → h.sent ≡ h.taken ++ p ∷ items
    → (after_take h p).sent ≡ (after_take h p).taken ++ items
behind h p items whole = whole ∙ sym (append_assoc h.taken (p ∷ []) items)

-- both ends stay together
pub takes_leave_both_ends : (h new : Hand) (r : Option Piece) (Also : Type 0) → HasBothEnds h → Tells h r new Also
    → HasBothEnds new
takes_leave_both_ends h new None Also both told = subst HasBothEnds (sym told.0) both
takes_leave_both_ends h new (Some p) Also both told =
    subst HasBothEnds (sym told.0.0)
    (both_ends_are_there (after_take h p) told.0.1.0 both.sends both.takes (behind h p told.0.1.0 told.0.1.1))

-- the piece comes off the front of what was left
pub takes_come_off_the_front : (h new : Hand) (r : Option Piece) (Also : Type 0) → Tells h r new Also
    → MatchOption r ((left_of h ≡ []) × (left_of new ≡ [])) (λ p. left_of h ≡ p ∷ left_of new)
takes_come_off_the_front h new None Also told =
    let none = items_are_left h [] told.1 in (none, ap left_of told.0 ∙ none)
takes_come_off_the_front h new (Some p) Also told =
    let items = told.0.1.0 in
    let whole = told.0.1.1 in
    let after : left_of new ≡ items = ap left_of told.0.0 ∙ items_are_left (after_take h p) items
    (behind h p items whole) in
    items_are_left h (p ∷ items) whole ∙ ap (λ l. p ∷ l) (sym after)
