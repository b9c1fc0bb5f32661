use Rattle.std.proofs.Common.{arith}
use denote.Param.Send.{sendable}
use Rattle.pico_run.proofs.Turns.{lent-is-ready}
use Rattle.pico_run.proofs.threads.turn_all.Goals as goal

pub for_each_mut-requires-clause-accepts : goal.for_each_mut-requires-clause-accepts
for_each_mut-requires-clause-accepts g c κs within = λ i p lt is. (
  c.requires.sound,
  (
    (let few = c.requires.count.1 in omega (arith, lt, few)),
    (
      lent-is-ready c.args.script.now c.args.lock.now c.args.nodes.now i p.now c.requires.ready lt is,
      (search sendable depth 20, search sendable depth 20),
    ),
  ),
)
