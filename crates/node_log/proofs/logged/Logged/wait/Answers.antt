use Rattle.node_log.proofs.Inside.{noted-turns}
use Rattle.node_log.proofs.logged.Logged.wait.Goals as goal

pub returns-clause-turns : goal.returns-clause-turns
returns-clause-turns g c =
    let waits = rw (← c.self.view_is) at (c.is_waiting.ensures c.if-not-is_waiting.false) in
    rw (← c.self.view_is, c.quiet_on-self-inside.ensures)
    (λ script h. noted-turns script c.count_silences-count.result c.self.inside waits.0 waits.1 waits.2 h)
