use Rattle.mono_kernel.proofs.TableLemmas.{IsTable-ended_child}
use Rattle.mono_kernel.proofs.EndedLemmas.{found-in}
use Rattle.mono_kernel.proofs.processes.Processes.end_child.Goals as goal

pub invariant_of-self : goal.invariant_of-self
invariant_of-self c =
    let lives = rw (← c.self.view_is) at c.requires.lives
    in let listed = rw (← c.self.view_is) at c.requires.listed
    in let ended = rw (← c.self.view_is) at c.requires.ended
    in IsTable-ended_child c.self.inside.cells.entries _ c.self.inside.parents.entries c.args.parent c.args.child
    c.args.ending
    c.self.invariant lives listed ended c.end_child_at.ensures.changed c.end_child_at.ensures.rising

pub returns-clause-there : goal.returns-clause-there
returns-clause-there c =
    let lives = rw (← c.self.view_is) at c.requires.lives
    in let listed = rw (← c.self.view_is) at c.requires.listed
    in rw (← c.self.view_is)
    (found-in c.self.inside.cells.entries c.self.inside.parents.entries c.args.parent c.args.child c.args.ending _
    c.self.invariant lives listed c.end_child_at.ensures.found)
