use Rattle.std.proofs.Common.{sym}
use Rattle.mono_kernel.proofs.EndedLemmas.{found-there}
use Rattle.mono_kernel.proofs.processes.Processes.find.Goals as goal

pub returns-in-Some-clause-there : goal.returns-in-Some-clause-there
returns-in-Some-clause-there c =
    let lives = rw (← c.self.view_is) at (sym c.in-Some.ensures)
    in rw (← c.self.view_is, c.wait.ensures)
    (found-there c.self.inside.cells.entries c.self.inside.parents.entries c.args.pid c.in-Some.alive.now
    c.args.which.now c.self.invariant lives)
