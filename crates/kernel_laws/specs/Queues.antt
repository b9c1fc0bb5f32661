-- What holds of each message queue, whatever was called before (profile).
use Rattle.std.specs.Prelude.{◌≡◌, ℕ, ◌≤◌, ◌≤ℤ◌, pos, length, Some}
use Rattle.std.specs.List.{All}
use Rattle.number_maps.specs.Maps.{get}
use Rattle.kernel_model.specs.Queue.{Queue, Message, bytes_in}
use Rattle.kernel_model.specs.Kernel.{Kernel}
use Rattle.kernel_laws.specs.Reachable.{IsReachableKernel}

-- a message's type is at least 1, and its text has at most 4,096 bytes
pub record IsMessage (m : Message) : Type 0 where
  pub class : pos 1 ≤ℤ m.class
  pub text : length m.text ≤ 4096

-- a queue's texts have at most 16,384 bytes together, and there are at most 1,024 of them
pub record IsQueueWithinLimits (q : Queue) : Type 0 where
  pub limit : q.qbytes ≤ 16384
  pub bytes : bytes_in q ≤ 16384
  pub count : length q.messages ≤ 1024
  pub messages : All IsMessage q.messages

abbrev pub QueuesAreWithinLimits : Type 0
QueuesAreWithinLimits =
    (k : Kernel) → IsReachableKernel k → (id : ℕ) (q : Queue) → get k.queues id ≡ Some q → IsQueueWithinLimits q
