use Rattle.std.proofs.Common.{sym, ◌∙◌}
use Rattle.world_core.proofs.Alive.{IsAlive-next, went-well}
use Rattle.world_core.proofs.streaming.StreamingWorld.step.Goals as goal

pub invariant_of-self-else-is_err : goal.invariant_of-self-else-is_err
invariant_of-self-else-is_err c =
    IsAlive-next c.self.inside.state c.args.self.now c.in-Some.state c.step-stepped.new.self c.args.event c.in-Some.is
    c.self.invariant c.self.view_is c.requires.enabled
    (went-well c.step-stepped.result (sym c.is_err.ensures.value ∙ c.if-is_err.false) c.step-stepped.ensures)
