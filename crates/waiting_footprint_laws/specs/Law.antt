-- The law of the footprint where callers wait: two kernels that agree on a call's parts make the same step of it, and
-- the rest stays.
use Rattle.std.specs.Prelude.{◌≡◌, ℕ, Bool, true, false, nat_eq, List, Option, Some, None}
use Rattle.std.specs.List.{list_any, AllByRecursion}
use Rattle.std.specs.Option.{option_map}
use Rattle.pico_base.specs.declared.call.Call.{Call}
use Rattle.pico_base.specs.declared.numbers.Kind.{Kind}
use Rattle.pico_base.specs.declared.reply.Outcome.{Outcome}
use Rattle.pico_base.specs.declared.reply.Reply.TheVariants.{Num}
use Rattle.number_maps.specs.Maps.{get, is_used}
use Rattle.kernel_model.specs.Footprint.{created_kind, grown_by}
use Rattle.waiting_model.specs.Marks.{Marks, new_marks}
use Rattle.waiting_model.specs.Kernel.{Kernel, Process, Living, Ended, Gone, living_at}
use Rattle.waiting_model.specs.SetCalls.{set_size}
use Rattle.waiting_model.specs.Transition.{Successor, transition}
use Rattle.waiting_footprint_laws.specs.Footprint.{Part, MarksOf, Whole, ParentOf, QueueAt, SetAt, SizeOf, QueueKeys, SetKeys, parent_number, footprint, used_of, used_for, has_created}
use Rattle.waiting_footprint_laws.specs.Valid.{IsValid}

-- Two kernels have the same at a part.

abbrev pub marks_at : Kernel → ℕ → Option Marks
marks_at k pid = option_map (λ a. a.marks) (living_at k pid)

abbrev pub SameAt : Kernel → Kernel → Part → Type 0
SameAt j k (MarksOf pid) = marks_at j pid ≡ marks_at k pid
SameAt j k (Whole pid) = get j.processes pid ≡ get k.processes pid
SameAt j k (ParentOf pid) = parent_number j pid ≡ parent_number k pid
SameAt j k (QueueAt id) = get j.queues id ≡ get k.queues id
SameAt j k (SetAt id) = get j.sets id ≡ get k.sets id
SameAt j k (SizeOf id) = set_size j id ≡ set_size k id
SameAt j k QueueKeys = (key : ℕ) → get j.queue_keys key ≡ get k.queue_keys key
SameAt j k SetKeys = (key : ℕ) → get j.set_keys key ≡ get k.set_keys key

abbrev pub AgreeOn : List Part → Kernel → Kernel → Type 0
AgreeOn parts j k = AllByRecursion (SameAt j k) parts

-- The rest stays.

abbrev pub is_marks : ℕ → Part → Bool
is_marks pid (MarksOf p) = nat_eq pid p
is_marks pid part = false

abbrev pub is_whole : ℕ → Part → Bool
is_whole pid (Whole p) = nat_eq pid p
is_whole pid part = false

abbrev pub is_queue : ℕ → Part → Bool
is_queue id (QueueAt q) = nat_eq id q
is_queue id part = false

abbrev pub is_set : ℕ → Part → Bool
is_set id (SetAt s) = nat_eq id s
is_set id part = false

abbrev pub is_queue_keys : Part → Bool
is_queue_keys QueueKeys = true
is_queue_keys part = false

abbrev pub is_set_keys : Part → Bool
is_set_keys SetKeys = true
is_set_keys part = false

-- a process but for its marks
abbrev pub bare : Process → Process
bare (Living a) = Living (record a { marks = new_marks })
bare (Ended ending) = Ended ending
bare Gone = Gone

abbrev pub bare_at : Kernel → ℕ → Option Process
bare_at k pid = option_map bare (get k.processes pid)

pub record RestStays (parts : List Part) (before after : Kernel) : Type 0 where
  pub processes : (pid : ℕ) → list_any (is_whole pid) parts ≡ false → list_any (is_marks pid) parts ≡ false
      → get after.processes pid ≡ get before.processes pid
  pub rows : (pid : ℕ) → list_any (is_whole pid) parts ≡ false → bare_at after pid ≡ bare_at before pid
  pub queues : (id : ℕ) → list_any (is_queue id) parts ≡ false → get after.queues id ≡ get before.queues id
  pub sets : (id : ℕ) → list_any (is_set id) parts ≡ false → get after.sets id ≡ get before.sets id
  pub queue_keys : list_any is_queue_keys parts ≡ false → (key : ℕ)
      → get after.queue_keys key ≡ get before.queue_keys key
  pub set_keys : list_any is_set_keys parts ≡ false → (key : ℕ) → get after.set_keys key ≡ get before.set_keys key

-- Only the used numbers of the call's own kind grow, exactly where it created something, and by exactly the number that
-- this has, which is the reply.
pub record GrowsBy (call : Call) (n : ℕ) (outcome : Outcome) (before after : Kernel) (kind : Kind) : Type 0 where
  pub used : used_of after kind ≡ grown_by (has_created (created_kind call) after kind n) (used_of before kind) n
  pub reply : has_created (created_kind call) after kind n ≡ true → outcome.own ≡ Some (Num n)

-- The same step from two kernels: the same outcome, with whom it wakes, agreement on the parts afterwards, and the rest
-- of each stays, but that the number of something new is used.

pub record SameStep (parts : List Part) (call : Call) (n : ℕ) (j k : Kernel) (to_j to_k : Successor) : Type 0 where
  pub outcome : to_j.outcome ≡ to_k.outcome
  pub agree : AgreeOn parts to_j.kernel to_k.kernel
  pub rest_of_first : RestStays parts j to_j.kernel
  pub rest_of_second : RestStays parts k to_k.kernel
  pub used_of_first : (kind : Kind) → GrowsBy call n to_j.outcome j to_j.kernel kind
  pub used_of_second : (kind : Kind) → GrowsBy call n to_k.outcome k to_k.kernel kind

abbrev pub SameSteps : List Part → Call → ℕ → Kernel → Kernel → Option Successor → Option Successor → Type 0
SameSteps parts call n j k None None = Unit {0}
SameSteps parts call n j k (Some to_j) (Some to_k) = SameStep parts call n j k to_j to_k
SameSteps parts call n j k _ _ = ⊥

-- Two valid kernels that agree on a call's footprint, with its number unused in both, make the same step, or none.
abbrev pub FootprintLaw : Type 0
FootprintLaw = (j k : Kernel) (pid : ℕ) (call : Call) (n : ℕ) → IsValid j → IsValid k
    → AgreeOn (footprint j pid call n) j k
    → is_used (used_for j call) n ≡ false → is_used (used_for k call) n ≡ false
    → SameSteps (footprint j pid call n) call n j k (transition j pid call n) (transition k pid call n)
