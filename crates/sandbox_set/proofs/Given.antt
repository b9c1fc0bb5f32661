-- What an answer of reading says.
use Rattle.std.proofs.Common.{◌≡◌, ◌⊎◌, inl, inr, ℕ, List, Ok, Err, refl, sym, ap, ◌∙◌}
use Rattle.std.specs.Prelude.{IfOk, IfErr}
use Rattle.sandbox_set.specs.declared.read.Sandbox.{Sandbox as Box}
use Rattle.sandbox_set.specs.declared.fault.BoxFault.{BoxFault}
use Rattle.sandbox_set.specs.declared.fault.BoxStop.{BoxStop}
use Rattle.sandbox_set.specs.declared.fault.BoxStop.TheVariants.{Memory, At}
use Rattle.sandbox_set.specs.Boxes.{Read, Gives, Stops}

-- sandboxes that are given are those that are read
pub given_ok : (r read : Read) → Gives r read → IfOk r (λ boxes. read ≡ Ok boxes)
given_ok (Ok boxes) read h = h
given_ok (Err stop) read h = tt

-- a fault that is given is the first one
pub given_fault : (r read : Read) → Gives r read → IfErr r (λ stop. Stops stop read)
given_fault (Ok boxes) read h = tt
given_fault (Err stop) read h = h

given_boxes : (stop : BoxStop) (read : Read) (boxes : List Box) → Stops stop read → read ≡ Ok boxes → stop ≡ Memory
given_boxes Memory read boxes h e = refl
given_boxes (At line fault) read boxes h e = cc

-- an input of sandboxes gives them, or memory ran out
pub given_only : (r read : Read) → Gives r read → (boxes : List Box) → read ≡ Ok boxes → (r ≡ Ok boxes)
    ⊎ (r ≡ Err Memory)
given_only (Ok others) read h boxes e = inl (sym h ∙ e)
given_only (Err stop) read h boxes e = inr (ap Err (given_boxes stop read boxes h e))

given_stop : (stop : BoxStop) (read : Read) (line : ℕ) (fault : BoxFault) → Stops stop read
    → read ≡ Err (At line fault) → (stop ≡ At line fault) ⊎ (stop ≡ Memory)
given_stop Memory read line fault h e = inr refl
given_stop (At other kind) read line fault h e = inl cc

as_answer : (stop : BoxStop) (line : ℕ) (fault : BoxFault) → (stop ≡ At line fault) ⊎ (stop ≡ Memory)
    → let r : Read = Err stop in (r ≡ Err (At line fault)) ⊎ (r ≡ Err Memory)
as_answer stop line fault (inl e) = inl (ap Err e)
as_answer stop line fault (inr e) = inr (ap Err e)

-- an input with a fault gives that, or memory ran out
pub given_only_fault : (r read : Read) → Gives r read → (line : ℕ) (fault : BoxFault) → read ≡ Err (At line fault)
    → (r ≡ Err (At line fault)) ⊎ (r ≡ Err Memory)
given_only_fault (Ok others) read h line fault e = inl cc
given_only_fault (Err stop) read h line fault e = as_answer stop line fault (given_stop stop read line fault h e)
