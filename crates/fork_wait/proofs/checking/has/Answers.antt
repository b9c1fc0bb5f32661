use Rattle.fork_wait.proofs.Families.{list_any-children}
use Rattle.fork_wait.proofs.checking.has.Goals as goal

pub returns : goal.returns
returns c = rw (c.has_living.ensures, c.has_ended.ensures)
    (list_any-children c.args.child c.args.living.now c.args.ended.now)
