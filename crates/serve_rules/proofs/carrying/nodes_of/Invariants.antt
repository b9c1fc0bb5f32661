use Rattle.std.proofs.Common.{◌≡◌, map, take}
use Rattle.std.specs.List.{filter}
use Rattle.node_serve.specs.Serving.{reads_among}
use Rattle.serve_rules.proofs.carrying.nodes_of.Given as goal

-- the nodes of those so far who are woken and have read
abbrev pub invariant-loop-wake : goal.invariant-loop-wake
invariant-loop-wake l = l.nodes.items ≡ map (λ w. w.caller) (filter (reads_among l.readers) (take l.wake-index l.wakes))
