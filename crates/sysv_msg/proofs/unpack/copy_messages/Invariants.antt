use Rattle.std.proofs.Common.{◌≤◌, ◌+◌, ◌-◌, ◌*◌}
use Rattle.sysv_msg.proofs.Copying.{HasCopied}
use Rattle.sysv_msg.proofs.unpack.copy_messages.Given as goal

abbrev pub invariant-loop : goal.invariant-loop
invariant-loop l =
    record {
      copied : HasCopied l.count l.counter l.size l.bytes l.rest l.into.nodes;
      small : l.size ≤ 4096 * l.counter;
      room : (l.count - l.counter) + 32 ≤ l.into.spare;
    }
