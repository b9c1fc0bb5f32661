-- When a kernel of System V stands for a kernel of POSIX message queues.
use Rattle.std.specs.Prelude.{◌≡◌, ℕ, ℤ, pos, negsuc, Bool, true, false, ◌&&◌, nat_le, [], length, map}
use Rattle.std.specs.List.{list_all}
use Rattle.kernel_model.specs.Queue as plain_queues
use Rattle.kernel_model.specs.Queue.{max_queue_bytes}
use Rattle.waiting_model.specs.Waiters.{Awaited}
use Rattle.waiting_model.specs.Kernel as plain
use Rattle.waiting_model.specs.Plain.{each, AllValues}
use Rattle.waiting_laws.specs.Sound.{IsSound}
use Rattle.mq_model.specs.Queue.{Queue, Message, max_text}
use Rattle.mq_model.specs.Kernel.{MqKernel}
use Rattle.mq_model.specs.SystemV.{turned}

-- the message that one of System V stands for: the lower its type, the higher its priority
abbrev pub shown_priority : ℤ → ℕ
shown_priority (pos class) = turned class
shown_priority (negsuc n) = 0

abbrev pub shown_message : plain_queues.Message → Message
shown_message m = record { priority = shown_priority m.class; text = m.text }

abbrev pub shown_queue : Awaited plain_queues.Queue → Queue
shown_queue q = map shown_message q.state.messages

-- the same kernel, each queue with the messages that its own stand for
abbrev pub shown_kernel : plain.Kernel → MqKernel
shown_kernel k =
    record {
      processes = k.processes;
      names = k.queue_keys;
      set_keys = k.set_keys;
      queues = each shown_queue k.queues;
      sets = k.sets;
      used_processes = k.used_processes;
      used_queues = k.used_queues;
      used_sets = k.used_sets;
    }

-- the type of a priority from 0 to 31
abbrev pub is_turned : ℤ → Bool
is_turned (pos class) = nat_le 1 class && nat_le class 32
is_turned (negsuc n) = false

abbrev pub stands_for_message : plain_queues.Message → Bool
stands_for_message m = is_turned m.class && nat_le (length m.text) max_text

-- Nobody waits at the queue, and it has room for 1,024 messages of 16 bytes.
pub record StandsForQueue (q : Awaited plain_queues.Queue) : Type 0 where
  pub waiters : q.waiters ≡ []
  pub qbytes : q.state.qbytes ≡ max_queue_bytes
  pub messages : list_all stands_for_message q.state.messages ≡ true

-- a kernel of System V that a history leads to, and the kernel of POSIX message queues for which it stands
pub record Alike (k : plain.Kernel) (m : MqKernel) : Type 0 where
  pub shown : m ≡ shown_kernel k
  pub queues : AllValues StandsForQueue k.queues
  pub sound : IsSound k
