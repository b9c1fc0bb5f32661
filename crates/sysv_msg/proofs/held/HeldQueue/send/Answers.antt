use Rattle.std.proofs.lemmas.Int.{to_z-of_z}
use Rattle.sysv_msg.proofs.held.HeldQueue.send.Goals as goal
use Rattle.sysv_msg.proofs.held.HeldQueue.send.Goals.{in-Linked, in-Packed}

pub returns-clause-refused : goal.returns-clause-refused
returns-clause-refused c =
    let range = c.ranges.class in
    elim c.match-self.branch [
      | in-Linked w ↦
          rw (w.result-is, ← c.self.view_is, w.in-Linked.is)
          (simp to_z-of_z at w.send.ensures.refused)
      | in-Packed w ↦
          rw (w.result-is, ← c.self.view_is, w.in-Packed.is)
          (simp to_z-of_z at w.send-in-Packed.ensures.refused)
    ]
