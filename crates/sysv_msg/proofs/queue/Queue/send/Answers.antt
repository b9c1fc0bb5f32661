use Rattle.std.proofs.lemmas.Int.{to_z-of_z}
use Rattle.sysv_msg.proofs.queue.Queue.send.Goals as goal

pub returns-clause-refused : goal.returns-clause-refused
returns-clause-refused c =
    let range = c.ranges.class in
    rw (← c.self.view_is) (simp to_z-of_z at c.send.ensures.refused)
