use Rattle.std.proofs.Common.{◌≡◌, ◌++◌, ◌∷◌, take}
use Rattle.std.specs.List.{flat_map}
use Rattle.std.specs.Fmt.{decimal}
use Rattle.trace_text.proofs.fields.push_values.Given as goal

-- the first one and those so far
abbrev pub invariant-loop-value : goal.invariant-loop-value
invariant-loop-value l =
    l.out.items ≡ l.initial.out.items ++ flat_map (λ x. 44 ∷ decimal x) (take l.value-index l.others)
