-- What holds of each kernel that a legal history leads to.
use Rattle.std.specs.Prelude.{◌≡◌, ◌↔◌, ℕ, true, Some, None, is_some, IsTrue, Contains}
use Rattle.pico_base.specs.declared.reply.Ending.{Ending}
use Rattle.number_maps.specs.Maps.{Numbered, get, is_used}
use Rattle.number_maps.specs.Rising.{IsRising}
use Rattle.kernel_model.specs.Signals.{AreSoundSignals}
use Rattle.kernel_model.specs.Row.{Alive, Free, ended_child, lists}
use Rattle.kernel_model.specs.Kernel.{Kernel, Ended, living_at}

-- each key leads to something that is there, and no two to the same
pub record AreKeys {V : Type 0} (keys : Numbered ℕ) (things : Numbered V) : Type 0 where
  pub ordered : IsRising keys
  pub lead : (key id : ℕ) → get keys key ≡ Some id → IsTrue (is_some (get things id))
  pub apart : (key other id : ℕ) → get keys key ≡ Some id → get keys other ≡ Some id → key ≡ other

-- a living process: its signals are sound, it is doomed exactly where its allowance isn't free, its living
-- children live, and its ended ones have these endings
pub record IsValidProcess (k : Kernel) (pid : ℕ) (a : Alive) : Type 0 where
  pub signals : AreSoundSignals a.row.signals
  pub allowed : (a.row.signals.doom ≡ None) ↔ (a.allowance ≡ Free)
  pub living : (child : ℕ) → lists a.row.family child ≡ true → IsTrue (is_some (living_at k child))
  pub ended : (child : ℕ) (ending : Ending) → Contains a.row.family.ended (ended_child child ending)
      → get k.processes child ≡ Some (Ended ending)

-- it lists the child as ended
abbrev pub ListsEnded : Alive → ℕ → Type 0
ListsEnded a child = (ending : Ending) × Contains a.row.family.ended (ended_child child ending)

-- a living process keeps the ended child, with its ending
pub record HasKeeper (k : Kernel) (child : ℕ) (ending : Ending) : Type 0 where
  pub keeper : ℕ
  pub alive : Alive
  pub lives : living_at k keeper ≡ Some alive
  pub kept : Contains alive.row.family.ended (ended_child child ending)

pub record IsValid (k : Kernel) : Type 0 where
  pub processes : IsRising k.processes
  pub queues : IsRising k.queues
  pub sets : IsRising k.sets
  -- what is there has a used number, and each used process number leads to a process
  pub used_processes : (n : ℕ) → is_used k.used_processes n ≡ is_some (get k.processes n)
  pub used_queues : (n : ℕ) → IsTrue (is_some (get k.queues n)) → IsTrue (is_used k.used_queues n)
  pub used_sets : (n : ℕ) → IsTrue (is_some (get k.sets n)) → IsTrue (is_used k.used_sets n)
  pub queue_keys : AreKeys k.queue_keys k.queues
  pub set_keys : AreKeys k.set_keys k.sets
  pub alive : (pid : ℕ) (a : Alive) → living_at k pid ≡ Some a → IsValidProcess k pid a
  -- no two processes list the same child
  pub one_parent : (p q : ℕ) (a b : Alive) (child : ℕ) → living_at k p ≡ Some a → living_at k q ≡ Some b
      → lists a.row.family child ≡ true → lists b.row.family child ≡ true → p ≡ q
  pub one_keeper : (p q : ℕ) (a b : Alive) (child : ℕ) → living_at k p ≡ Some a → living_at k q ≡ Some b
      → ListsEnded a child → ListsEnded b child → p ≡ q
  -- an ended process is kept for a living one
  pub kept : (pid : ℕ) (ending : Ending) → get k.processes pid ≡ Some (Ended ending)
      → HasKeeper k pid ending
