-- One line of a text more.
use Rattle.std.proofs.Common.{◌≡◌, ℕ, ◌+◌, List, [], ◌∷◌, length, Some, None, Err, refl}
use Rattle.script_reader.specs.declared.fault.ScriptFault.{ScriptFault}
use Rattle.script_reader.specs.declared.place.Place.{Place}
use Rattle.script_reader.specs.declared.says.Said.{Said}
use Rattle.script_reader.specs.Fault as spec
use Rattle.script_reader.specs.Fault.{fault_of}
use Rattle.mq_model.specs.Reading.{mq_said_of, mq_blocks_from}

-- a line with a fault is the answer
pub mq_blocks_from-stops : (names : List (List ℕ)) (place : Place) (number : ℕ) (line : List ℕ)
    (lines : List (List ℕ)) (said : Said) (fault : ScriptFault) → said ≡ mq_said_of names line
    → fault_of place (length line) said ≡ Some fault
    → mq_blocks_from names place number (line ∷ lines) ≡ Err (number, fault)
unfolding mq_blocks_from
mq_blocks_from-stops names place number line lines said fault is e =
    rw (← is, e) refl

-- a line without one leaves the answer to the rest
pub mq_blocks_from-goes : (names : List (List ℕ)) (place : Place) (number : ℕ) (line : List ℕ)
    (lines : List (List ℕ)) (said : Said) → said ≡ mq_said_of names line
    → fault_of place (length line) said ≡ None
    → mq_blocks_from names place number (line ∷ lines)
    ≡ mq_blocks_from names (spec.behind place said) (number + 1) lines
unfolding mq_blocks_from
mq_blocks_from-goes names place number line lines said is e =
    rw (← is, e) refl

-- where no line is left
pub mq_blocks_from-ends : (names : List (List ℕ)) (place : Place) (number : ℕ) (lines : List (List ℕ))
    → lines ≡ [] → mq_blocks_from names place number lines ≡ spec.ending place number
unfolding mq_blocks_from
mq_blocks_from-ends names place number lines e = rw e refl
