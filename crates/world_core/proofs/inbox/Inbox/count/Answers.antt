use Rattle.std.proofs.Common.{ap, ◌∙◌}
use Rattle.std.specs.Prelude.{count_ones}
use Rattle.world_core.specs.Inbox.{filled_mask}
use Rattle.world_core.proofs.Masks.{mask-count, marked-none}
use Rattle.world_core.proofs.Seats.{takes_born, takes_none, takes_unborn}
use Rattle.world_core.proofs.inbox.Inbox.count.Goals as goal

pub returns-then-is_born-clause-count : goal.returns-then-is_born-clause-count
returns-then-is_born-clause-count c =
    ap count_ones (c.self.invariant.1 ∙ ap filled_mask c.self.view_is) ∙ mask-count c.args.self.now
    ∙ takes_born c.args.is_born c.args.self.now c.if-is_born.true

pub returns-then-self-eq0-clause-count : goal.returns-then-self-eq0-clause-count
returns-then-self-eq0-clause-count c =
    takes_none c.args.is_born c.args.self.now
    (marked-none c.self.inside.filled c.args.self.now (c.self.invariant.1 ∙ ap filled_mask c.self.view_is)
    c.if-self-eq0.true)

pub returns-else-self-eq0-clause-count : goal.returns-else-self-eq0-clause-count
returns-else-self-eq0-clause-count c =
    c.checkpoints.ensures ∙ takes_unborn c.args.is_born c.args.self.now c.if-is_born.false
