use Rattle.node_serve.proofs.Alone.{queue-alone, set-alone}
use Rattle.node_serve.proofs.unpacking.is_unawaited.Goals as goal

pub returns-else-are_removed : goal.returns-else-are_removed
returns-else-are_removed c =
    rw c.in-Msg.is (queue-alone c.is_unawaited.result c.in-Msg.field-0 c.args.bytes.now c.is_unawaited.ensures)

pub returns-else-are_removed-2 : goal.returns-else-are_removed-2
returns-else-are_removed-2 c =
    rw c.in-Sem.is
    (set-alone c.is_unawaited-else-are_removed-2.result c.in-Sem.field-0 c.args.bytes.now
    c.is_unawaited-else-are_removed-2.ensures)
