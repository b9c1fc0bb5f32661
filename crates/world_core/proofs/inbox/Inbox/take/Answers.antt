use Rattle.std.proofs.Common.{length, sym, ap, ◌∙◌, arith}
use Rattle.world_core.proofs.Masks.{marked-emptied, marked-left}
use Rattle.world_core.proofs.Streams.{left-filled, second-filled}
use Rattle.world_core.proofs.inbox.Inbox.take.Goals as goal
use Rattle.world_core.proofs.inbox.Inbox.take.Goals.{then-not-has_second, else-not-has_second}

pub invariant_of-self : goal.invariant_of-self
invariant_of-self c =
    let old = c.index_mut-stream.result.now in
    let second = sym c.has_second.ensures in
    let left = left-filled old c.take.new.self c.take.result c.take.ensures in
    elim c.if-not-has_second.branch [
      | then-not-has_second w ↦ (
          let h =
          marked-emptied c.self.inside.filled c.self.inside.streams.items c.place-at.result c.take.new.self
          c.self.invariant (omega (arith, ap length c.self.view_is))
          (sym left ∙ second ∙ w.if-not-has_second.true) in
          (h.0, ap (λ s. s.1.1.0) w.self-inside-is ∙ h.1))
      | else-not-has_second w ↦ (
          let h =
          marked-left c.self.inside.filled c.self.inside.streams.items c.place-at.result old c.take.new.self
          c.self.invariant (omega (arith, ap length c.self.view_is)) c.index_mut-stream.ensures.value
          (second-filled old (second ∙ w.if-not-has_second.false)) (sym left ∙ second ∙ w.if-not-has_second.false) in
          (h.0, ap (λ s. s.1.1.0) w.self-inside-is ∙ h.1))
    ]
