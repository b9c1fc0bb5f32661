-- A process of the program as one of the definitions, and the changes of a living one.
use Rattle.std.specs.Prelude.{Some}
use Rattle.kernel_model.specs.Row as rows
use Rattle.waiting_model.specs.Marks.{Alive, with_signals_of, after_reply, spent, raise_by_other}
use Rattle.waiting_model.specs.ProcessCalls.{parent_after_wait}
use Rattle.mono_kernel.specs.declared.process.Allowance.{Allowance}
use Rattle.mono_kernel.specs.declared.process.Allowance.TheVariants.{Free, One, Spent}
use Rattle.mono_kernel.specs.declared.process.Change.{Change}
use Rattle.mono_kernel.specs.declared.process.Change.TheVariants.{Signals as SetSignals, Raise, Reap, Spend, Park, Answer}

abbrev pub allowance_of : Allowance → rows.Allowance
allowance_of Free = rows.Free
allowance_of One = rows.One
allowance_of Spent = rows.Spent

abbrev pub after_change : Change → Alive → Alive
after_change (SetSignals s) a = with_signals_of a s
after_change (Raise sig) a = raise_by_other a sig
after_change (Reap child) a = parent_after_wait a child
after_change Spend a = spent a
after_change (Park call) a = record a { marks = record a.marks { parked = Some call } }
after_change Answer a = after_reply a
