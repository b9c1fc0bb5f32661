use Rattle.std.proofs.Common.{◌≤◌, ◌*◌}
use Rattle.sysv_msg.proofs.Passing.{Passing}
use Rattle.sysv_msg.proofs.unpack.pass_messages.Given as goal

abbrev pub invariant-loop : goal.invariant-loop
invariant-loop l =
    record {
      passed : Passing l.count l.counter l.size l.bytes l.rest;
      small : l.size ≤ 4096 * l.counter;
    }
