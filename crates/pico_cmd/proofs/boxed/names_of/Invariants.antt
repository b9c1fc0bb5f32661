use Rattle.std.proofs.Common.{◌≡◌, take, map}
use Rattle.pico_cmd.proofs.boxed.names_of.Given as goal

-- so far
abbrev pub invariant-loop-sandbox : goal.invariant-loop-sandbox
invariant-loop-sandbox l = l.names.items ≡ map (λ b. b.name) (take l.sandbox-index l.boxes)
