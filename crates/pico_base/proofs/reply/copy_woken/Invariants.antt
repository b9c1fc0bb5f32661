use Rattle.std.proofs.Common.{◌≡◌, take}
use Rattle.pico_base.proofs.reply.copy_woken.Given as goal

-- the callers so far
abbrev pub invariant-loop-pid : goal.invariant-loop-pid
invariant-loop-pid l = l.copy ≡ take l.pid-index l.woken
