-- A step adds entries behind those that are in the journal.
use Rattle.std.proofs.Common.{◌≡◌, ℕ, ◌+◌, ◌≤◌, List, [], ◌∷◌, ◌++◌, length, Option, Some, None, IfSome, ap, sym, subst, ◌∙◌, arith, length-append}
use Rattle.pico_base.specs.declared.script.Event.{Event}
use Rattle.pico_base.specs.declared.script.Event.TheVariants as events
use Rattle.pico_base.specs.declared.reply.Entry.{Entry}
use Rattle.world_model.specs.Node.{Node}
use Rattle.world_model.specs.Step.{Step}
use Rattle.world_model.specs.Starting.{run}
use Rattle.world_model.specs.Turn.{take_frame}
use Rattle.world_model.specs.World.{World, node_at, stream, with_stream, after_turn, runs_at, takes_at, step}
use Rattle.world_core.specs.Stepped.{IsStepped}
use Rattle.log_laws.proofs.Shapes.{after-some}

turn-adds : (v next : World) (p : ℕ) (o : Option Step) → after_turn v p o ≡ Some next
    → length v.journal ≤ length next.journal
turn-adds v next p o h =
    let found = after-some v next p o h
    in let both : length (v.journal ++ found.0.entries) ≡ length v.journal + length found.0.entries =
    length-append v.journal found.0.entries
    in subst (λ (w : World). length v.journal ≤ length w.journal) (sym found.1.1) (omega (arith, both))

run-adds : (w next : World) (p : ℕ) (o : Option Node) → runs_at w p o ≡ Some next
    → length w.journal ≤ length next.journal
run-adds w next p None h = absurd (let f : ⊥ = cc in f)
run-adds w next p (Some n) h = turn-adds w next p (run w.script n) h

take-adds : (w next : World) (p from : ℕ) (o : Option Node) → takes_at w p from o (stream w p from) ≡ Some next
    → length w.journal ≤ length next.journal
take-adds w next p from None h = absurd (let f : ⊥ = cc in f)
take-adds w next p from (Some n) h =
    elim (stream w p from) as (λ fs. takes_at w p from (Some n) fs ≡ Some next
    → length w.journal ≤ length next.journal) [
      | [] ↦ λ h. absurd (let f : ⊥ = cc in f)
      | frame ∷ rest ↦ λ h.
          turn-adds (record w { streams = with_stream w.streams p from rest }) next p
          (take_frame w.script n from frame) h
    ] h

step-adds : (w next : World) (e : Event) → step w e ≡ Some next → length w.journal ≤ length next.journal
step-adds w next (events.Run p) h = run-adds w next p (node_at w p) h
step-adds w next (events.Take p from) h = take-adds w next p from (node_at w p) h

-- the journal of the world after it, as a slice, is no shorter
pub journal-grows : (e : Event) (old new : Option World) (before after xs ys : List Entry) → IsStepped old e new
    → IfSome old (λ w. before ≡ w.journal) → IfSome new (λ w. after ≡ w.journal) → xs ≡ before → ys ≡ after
    → length xs ≤ length ys
journal-grows e old new before after xs ys s was is xs_are ys_are =
    let old_is : before ≡ s.0.journal = subst (λ (o : Option World). IfSome o (λ w. before ≡ w.journal)) s.2 was
    in let new_is : after ≡ s.1.journal = subst (λ (o : Option World). IfSome o (λ w. after ≡ w.journal)) s.3 is
    in let low : length s.0.journal ≤ length s.1.journal = step-adds s.0 s.1 e s.4
    in let first : length xs ≡ length s.0.journal = ap length (xs_are ∙ old_is)
    in let last : length ys ≡ length s.1.journal = ap length (ys_are ∙ new_is)
    in omega (arith, low, first, last)
