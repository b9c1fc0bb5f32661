use Rattle.std.proofs.Common.{◌≡◌, drop}
use Rattle.std.specs.Prelude.{fold}
use Rattle.waiting_model.specs.Fitting as waiting
use Rattle.posix_mq.proofs.follow.wake_all.Given as goal

-- those so far, and then those who are left
abbrev pub invariant-loop-pid : goal.invariant-loop-pid
invariant-loop-pid l =
    fold waiting.after_woken l.places.entries (drop l.pid-index l.woken)
    ≡ fold waiting.after_woken l.fn.places.entries l.woken
