use Rattle.std.proofs.Common.{◌≡◌, ◌++◌, take}
use Rattle.std.specs.List.{flat_map}
use Rattle.kernel_model.specs.Trace.{wake_text}
use Rattle.posix_mq.proofs.show.push_wakes.Given as goal

-- so far
abbrev pub invariant-loop-pid : goal.invariant-loop-pid
invariant-loop-pid l = l.out.items ≡ l.initial.out.items ++ flat_map wake_text (take l.pid-index l.woken)
