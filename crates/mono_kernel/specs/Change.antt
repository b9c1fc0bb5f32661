-- A change at a number, if a process lives there.
use Rattle.std.specs.Prelude.{◌≡◌, ℕ, true}
use Rattle.pico_base.specs.declared.reply.Ending.{Ending}
use Rattle.kernel_model.specs.Row.{Waited, NotYet, lists}
use Rattle.waiting_model.specs.Kernel.{Process, Living, Ended, Gone}
use Rattle.waiting_model.specs.ProcessCalls.{parent_after_fork, found_after_end}

-- a new child, if a process lives there
abbrev pub with_child_there : ℕ → Process → Process
with_child_there child (Living a) = Living (parent_after_fork a child)
with_child_there child (Ended ending) = Ended ending
with_child_there child Gone = Gone

-- the child is listed, if a process lives there
abbrev pub lists_in : ℕ → Process → Type 0
lists_in child (Living a) = lists a.row.family child ≡ true
lists_in child (Ended ending) = Unit {0}
lists_in child Gone = Unit {0}

-- what its waitpid finds where the child has ended, if a process lives there and waits in one
abbrev pub found_in : ℕ → Ending → Process → Waited
found_in child ending (Living a) = found_after_end a child ending
found_in child ending (Ended e) = NotYet
found_in child ending Gone = NotYet
