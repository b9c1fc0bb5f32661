use Rattle.std.proofs.Common.{◌≡◌, ◌++◌, ◌∷◌, take}
use Rattle.std.specs.List.{flat_map}
use Rattle.script_speller.specs.Spelling as spec
use Rattle.script_speller.proofs.words.push_steps.Given as goal

-- the operations so far
abbrev pub invariant-loop-step : goal.invariant-loop-step
invariant-loop-step l =
    l.out.items ≡ l.fn.out.items ++ flat_map (λ s. 32 ∷ spec.step_word s) (take l.step-index l.steps)
