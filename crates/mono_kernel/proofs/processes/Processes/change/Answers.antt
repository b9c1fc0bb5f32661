use Rattle.mono_kernel.proofs.TableLemmas.{IsTable-plain}
use Rattle.mono_kernel.proofs.processes.Processes.change.Goals as goal

pub invariant_of-self : goal.invariant_of-self
invariant_of-self c =
    let lives = rw (← c.self.view_is) at c.requires
    in IsTable-plain c.self.inside.cells.entries _ c.self.inside.parents.entries c.args.pid c.args.change
    c.self.invariant lives
    c.change_at.ensures.changed c.change_at.ensures.rising

pub returns-clause-same_numbers : goal.returns-clause-same_numbers
returns-clause-same_numbers c = rw (← c.self.view_is) c.change_at.ensures.same_numbers
