-- What a call looks at and changes where callers wait: its parts of the kernel. Two kernels that agree on these give
-- the same outcome.
use Rattle.std.specs.Prelude.{ℕ, Bool, false, ◌&&◌, List, [], ◌∷◌, ◌++◌, map, Option, Some, None, is_some}
use Rattle.std.specs.Option.{option_map}
use Rattle.pico_base.specs.declared.call.Call.{Call}
use Rattle.pico_base.specs.declared.call.Call.TheVariants as calls
use Rattle.pico_base.specs.declared.call.Home.{Home}
use Rattle.pico_base.specs.declared.call.Home.TheVariants as homes
use Rattle.pico_base.specs.declared.numbers.Kind.{Kind}
use Rattle.pico_base.specs.declared.numbers.Kind.TheVariants as kinds
use Rattle.pico_base.specs.declared.numbers.Name.{Name}
use Rattle.pico_base.specs.declared.numbers.Name.TheVariants.{Proc, Msg, Sem}
use Rattle.pico_base.specs.Home.{home_of}
use Rattle.number_maps.specs.Maps.{get}
use Rattle.kernel_model.specs.Footprint.{created_kind, is_same_kind}
use Rattle.waiting_model.specs.Marks.{Alive}
use Rattle.waiting_model.specs.Waiters.{Awaited}
use Rattle.waiting_model.specs.Kernel.{Kernel, living_at, parent_in}

-- a part of the kernel
pub data Part : Type 0 where
  -- a living process's marks: what it may still do, the call of its that waits, and whether a signal has struck it
  MarksOf : (pid : ℕ) → Part
  -- a process, with its marks
  Whole : (pid : ℕ) → Part
  -- the number of a process's parent
  ParentOf : (pid : ℕ) → Part
  -- a queue or a set, with those who wait there
  QueueAt : (id : ℕ) → Part
  SetAt : (id : ℕ) → Part
  SizeOf : (id : ℕ) → Part
  QueueKeys : Part
  SetKeys : Part

-- Which parts a call has, by its home. The caller's marks are always one, since a call may park, and a reply ends a
-- wait. A call that has none beside those of its home isn't named; were one left out that has, the law of the footprint
-- would fail.

abbrev pub parts_of_ended : Option Alive → List Part
parts_of_ended None = []
parts_of_ended (Some a) = map (λ e. Whole e.pid) a.row.family.ended

abbrev pub ended_parts : Kernel → ℕ → List Part
ended_parts k pid = parts_of_ended (living_at k pid)

-- beside the caller: the new process, queue or set, and for waitpid the caller's ended children
abbrev pub own_parts : Kernel → ℕ → Call → ℕ → List Part
own_parts k caller (calls.Fork block) n = Whole n ∷ []
own_parts k caller (calls.MsgGet key create excl) n = QueueAt n ∷ []
own_parts k caller (calls.SemGet key count create excl) n = SetAt n ∷ []
own_parts k caller (calls.WaitPid child nohang) n = ended_parts k caller
own_parts k caller call n = []

abbrev pub size_parts : Option ℕ → List Part
size_parts None = []
size_parts (Some id) = SizeOf id ∷ []

abbrev pub size_bound : Kernel → Option ℕ → List Part
size_bound k None = []
size_bound k (Some key) = size_parts (get k.set_keys key)

-- the key table of the kind, the bound set's size, and the new queue or set
abbrev pub key_parts : Kernel → Call → ℕ → List Part
key_parts k (calls.MsgGet key create excl) n = QueueKeys ∷ QueueAt n ∷ []
key_parts k (calls.SemGet key count create excl) n = SetKeys ∷ SetAt n ∷ size_bound k key
key_parts k call n = []

-- the marks of those who wait at a queue or a set: a call there may wake them
abbrev pub parts_of_waiters : {T : Type 0} → Option (Awaited T) → List Part
parts_of_waiters None = []
parts_of_waiters (Some object) = map (λ w. MarksOf w.pid) object.waiters

abbrev pub name_parts : Kernel → Name → List Part
name_parts k (Proc pid) = Whole pid ∷ []
name_parts k (Msg id) = QueueAt id ∷ parts_of_waiters (get k.queues id)
name_parts k (Sem id) = SetAt id ∷ parts_of_waiters (get k.sets id)

abbrev pub table_parts : Name → List Part
table_parts (Proc pid) = []
table_parts (Msg id) = QueueKeys ∷ []
table_parts (Sem id) = SetKeys ∷ []

abbrev pub parent_number : Kernel → ℕ → Option ℕ
parent_number k pid = option_map (λ p. p.pid) (parent_in pid k.processes)

abbrev pub parent_parts : Option ℕ → List Part
parent_parts None = []
parent_parts (Some parent) = Whole parent ∷ []

abbrev pub home_parts : Kernel → ℕ → Call → ℕ → Home → List Part
home_parts k pid call n homes.Own = Whole pid ∷ own_parts k pid call n
home_parts k pid call n homes.Keys = key_parts k call n
home_parts k pid call n (homes.At name) = name_parts k name
home_parts k pid call n (homes.Removal name) = table_parts name ++ name_parts k name
home_parts k pid call n homes.Parent =
    Whole pid ∷ ParentOf pid ∷ (ended_parts k pid ++ parent_parts (parent_number k pid))

abbrev pub footprint : Kernel → ℕ → Call → ℕ → List Part
footprint k pid call n = MarksOf pid ∷ home_parts k pid call n (home_of pid call)

-- The numbers used.

-- something of this kind has the number
abbrev pub is_there : Kernel → Kind → ℕ → Bool
is_there k kinds.Proc n = is_some (get k.processes n)
is_there k kinds.Msg n = is_some (get k.queues n)
is_there k kinds.Sem n = is_some (get k.sets n)

-- the numbers used so far of this kind
abbrev pub used_of : Kernel → Kind → List ℕ
used_of k kinds.Proc = k.used_processes
used_of k kinds.Msg = k.used_queues
used_of k kinds.Sem = k.used_sets

-- the numbers used so far of the kind that a call may create
abbrev pub used_for_kind : Kernel → Option Kind → List ℕ
used_for_kind k None = []
used_for_kind k (Some kind) = used_of k kind

abbrev pub used_for : Kernel → Call → List ℕ
used_for k call = used_for_kind k (created_kind call)

-- the call has created something of this kind with its number, which was unused before it
abbrev pub has_created : Option Kind → Kernel → Kind → ℕ → Bool
has_created None after kind n = false
has_created (Some own) after kind n = is_same_kind own kind && is_there after kind n
