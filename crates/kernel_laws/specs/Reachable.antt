-- The kernels that a legal history leads to.
use Rattle.std.specs.Prelude.{List}
use Rattle.pico_base.specs.declared.reply.Entry.{Entry}
use Rattle.kernel_model.specs.Kernel.{Kernel, opening}
use Rattle.kernel_model.specs.History.{Replays}

abbrev pub IsReachableKernel : Kernel → Type 0
IsReachableKernel k = (history : List Entry) × Replays opening history k
