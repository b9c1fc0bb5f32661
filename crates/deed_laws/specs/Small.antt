-- What a body has to be beyond what the kernel's laws say of it, so that it has bytes.
use Rattle.std.specs.Prelude.{◌≡◌, ◌<◌, ◌^◌, false, All, FitsSigned}
use Rattle.std.specs.Int.{w32}
use Rattle.pico_base.specs.declared.call.Call.{Call}
use Rattle.pico_base.specs.declared.call.Call.TheVariants as calls
use Rattle.pico_base.specs.declared.signal.Sig.{Sig}
use Rattle.pico_base.specs.Signal.{at}
use Rattle.kernel_model.specs.Queue.{Message, Queue}
use Rattle.kernel_model.specs.SemaphoreSet.{Semaphore, SemaphoreSet}
use Rattle.kernel_model.specs.Signals.{Signals}
use Rattle.node_model.specs.Bodies.{Body, Living, AQueue, ASet}

-- KILL is never pending, since it ends the process at once, and each count has four bytes
pub record AreSmallSignals (s : Signals) : Type 0 where
  pub no_kill : s.pending.kill ≡ false
  pub counts : (g : Sig) → at s.handled g < 2 ^ 32

-- each message's type and both process numbers have four bytes
abbrev pub HasSmallType : Message → Type 0
HasSmallType m = FitsSigned w32 m.class

pub record IsSmallQueue (q : Queue) : Type 0 where
  pub types : All HasSmallType q.messages
  pub sender : q.last_sender < 2 ^ 32
  pub receiver : q.last_receiver < 2 ^ 32

abbrev pub HasSmallLast : Semaphore → Type 0
HasSmallLast s = s.last < 2 ^ 32

abbrev pub IsSmallSet : SemaphoreSet → Type 0
IsSmallSet s = All HasSmallLast s.semaphores

-- whoever waits there
abbrev pub IsSmall : Body → Type 0
IsSmall (Living row) = AreSmallSignals row.signals
IsSmall (AQueue queue) = IsSmallQueue queue.state
IsSmall (ASet set) = IsSmallSet set.state
IsSmall body = Unit {0}

-- a call whose message's type has four bytes
abbrev pub IsSmallCall : Call → Type 0
IsSmallCall (calls.MsgSnd id class text nowait) = FitsSigned w32 class
IsSmallCall call = Unit {0}
