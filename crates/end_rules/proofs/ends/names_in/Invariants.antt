use Rattle.std.proofs.Common.{◌≡◌, take, map}
use Rattle.end_rules.proofs.ends.names_in.Given as goal

abbrev pub invariant-loop-deed : goal.invariant-loop-deed
invariant-loop-deed l = l.names.items ≡ map (λ deed. deed.name) (take l.deed-index l.deeds)
