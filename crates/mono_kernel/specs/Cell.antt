-- A process's place in the table.
use Rattle.waiting_model.specs.Kernel as kernels
use Rattle.mono_kernel.specs.declared.process.State.{State}
use Rattle.mono_kernel.specs.declared.process.State.TheVariants.{Living, Ended, Gone}

abbrev pub process_of : State → kernels.Process
process_of (Living a) = kernels.Living a
process_of (Ended ending) = kernels.Ended ending
process_of Gone = kernels.Gone
