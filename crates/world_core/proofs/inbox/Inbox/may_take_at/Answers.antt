use Rattle.std.proofs.Common.{ap, ◌∙◌}
use Rattle.world_core.specs.Inbox.{filled_mask}
use Rattle.world_core.proofs.Masks.{born-takes, empty-takes}
use Rattle.world_core.proofs.inbox.Inbox.may_take_at.Goals as goal

pub returns-then-is_born : goal.returns-then-is_born
returns-then-is_born c =
    born-takes c.self.inside.filled c.args.self.now c.args.at c.args.is_born
    (c.self.invariant.1 ∙ ap filled_mask c.self.view_is) c.if-self-at-eq1.true c.if-is_born.true

pub returns-else-self-at-eq1 : goal.returns-else-self-at-eq1
returns-else-self-at-eq1 c =
    empty-takes c.self.inside.filled c.args.self.now c.args.at c.args.is_born
    (c.self.invariant.1 ∙ ap filled_mask c.self.view_is) c.if-self-at-eq1.false
