-- What the law of the footprint asks of a kernel, which each kernel has that a legal history leads to.
use Rattle.std.specs.Prelude.{◌≡◌, ◌↔◌, ℕ, Bool, true, List, Option, Some, None, is_some, IsTrue}
use Rattle.pico_base.specs.declared.call.Call.TheVariants as calls
use Rattle.pico_base.specs.declared.reply.Entry.{Entry}
use Rattle.number_maps.specs.Maps.{get, is_used}
use Rattle.number_maps.specs.Rising.{IsRising}
use Rattle.kernel_model.specs.Row.{Free, NotYet, lists, wait}
use Rattle.waiting_model.specs.Marks.{Alive}
use Rattle.waiting_model.specs.Kernel.{Kernel, living_at, opening}
use Rattle.waiting_model.specs.History.{Replays}

-- a living process is doomed exactly where its allowance isn't free, and finds nothing where it is parked in waitpid:
-- no child that has ended, and one that lives
pub record IsValidProcess (a : Alive) : Type 0 where
  pub allowed : (a.row.signals.doom ≡ None) ↔ (a.marks.allowance ≡ Free)
  pub patient : (child : Option ℕ) (nohang : Bool) → a.marks.parked ≡ Some (calls.WaitPid child nohang)
      → wait a.row.family child ≡ NotYet

pub record IsValid (k : Kernel) : Type 0 where
  pub processes : IsRising k.processes
  pub queue_keys : IsRising k.queue_keys
  pub set_keys : IsRising k.set_keys
  -- a queue or a set that is there has a used number
  pub used_queues : (n : ℕ) → IsTrue (is_some (get k.queues n)) → IsTrue (is_used k.used_queues n)
  pub used_sets : (n : ℕ) → IsTrue (is_some (get k.sets n)) → IsTrue (is_used k.used_sets n)
  pub alive : (pid : ℕ) (a : Alive) → living_at k pid ≡ Some a → IsValidProcess a
  -- no two processes list the same child
  pub one_parent : (p q : ℕ) (a b : Alive) (child : ℕ) → living_at k p ≡ Some a → living_at k q ≡ Some b
      → lists a.row.family child ≡ true → lists b.row.family child ≡ true → p ≡ q

-- each kernel that a legal history leads to
abbrev pub ReachableKernelsAreValid : Type 0
ReachableKernelsAreValid = (h : List Entry) (k : Kernel) → Replays opening h k → IsValid k
