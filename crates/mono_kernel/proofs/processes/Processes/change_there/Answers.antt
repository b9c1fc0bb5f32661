use Rattle.std.proofs.Common.{◌∙◌, sym}
use Rattle.mono_kernel.specs.Process.{after_change}
use Rattle.mono_kernel.proofs.ChangedLemmas.{change-dead, change-lives}
use Rattle.mono_kernel.proofs.processes.Processes.change_there.Goals as goal

pub returns-then-is_living-clause-changed : goal.returns-then-is_living-clause-changed
returns-then-is_living-clause-changed c =
    change-lives c.args.pid (λ a. after_change c.args.change a) c.args.self.now c.change.new.self
    c.is_living.ensures.rising
    (sym c.is_living.ensures.lives ∙ c.if-is_living.true) c.change.ensures.changed

pub returns-else-is_living-clause-changed : goal.returns-else-is_living-clause-changed
returns-else-is_living-clause-changed c =
    sym (change-dead c.args.pid (λ a. after_change c.args.change a) c.args.self.now c.is_living.ensures.rising
    (sym c.is_living.ensures.lives ∙ c.if-is_living.false))
