use Rattle.sysv_msg.proofs.Packing.{HasPacked}
use Rattle.sysv_msg.proofs.pack.push_linked.Given as goal

abbrev pub invariant-loop : goal.invariant-loop
invariant-loop l = HasPacked l.links.nodes l.at l.counter l.fn.out.items l.out.items
