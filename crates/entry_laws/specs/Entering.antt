-- What an entry in line comes to: a call of a process leads to the next kernel, with this reply, and what that leaves
-- of bodies, of used numbers, of keys, and of what other processes may do.
use Rattle.std.specs.Prelude.{◌≡◌, ◌≢◌, ◌⊎◌, ℕ, Bool, true, false, List, nat_eq, if◌then◌else◌, Option, Some, None, Contains}
use Rattle.std.specs.Option.{option_map, option_and_then}
use Rattle.pico_base.specs.declared.call.Call.{Call}
use Rattle.pico_base.specs.declared.call.Call.TheVariants as calls
use Rattle.pico_base.specs.declared.numbers.Kind.{Kind}
use Rattle.pico_base.specs.declared.numbers.Name.{Name}
use Rattle.pico_base.specs.declared.numbers.Name.TheVariants.{Proc}
use Rattle.pico_base.specs.declared.reply.Ending.{Ending}
use Rattle.pico_base.specs.declared.reply.Entry.{Entry}
use Rattle.pico_base.specs.declared.reply.Reply.{Reply}
use Rattle.pico_base.specs.declared.reply.Reply.TheVariants as replies
use Rattle.pico_base.specs.declared.script.Script.{Script}
use Rattle.pico_base.specs.declared.signal.Sig.{Sig}
use Rattle.key_table.specs.declared.Bound.{Bound}
use Rattle.number_maps.specs.Maps.{Numbered, get, is_used, without_value}
use Rattle.number_maps.specs.Rising.{IsRising}
use Rattle.kernel_model.specs.Row.{Alive, Family, Row, ended_child, lists, without_ended}
use Rattle.kernel_model.specs.Kernel.{Kernel, Process, living_at, opening}
use Rattle.kernel_model.specs.Kernel as kernel
use Rattle.kernel_model.specs.SetCalls.{set_size}
use Rattle.kernel_model.specs.Transition.{may_make, is_spent, is_doomed_by}
use Rattle.kernel_model.specs.Fitting.{Places, FitsFrom, opening_places}
use Rattle.kernel_model.specs.Footprint.{used_of, grown_by}
use Rattle.kernel_model.specs.Valid.{IsValid, ListsEnded}
use Rattle.kernel_laws.specs.Processes.{NoneListsItself}
use Rattle.waiting_model.specs.Linear.{LeadInLine, LeadsTo, line_of}
use Rattle.node_model.specs.Kinds.{kind_of, number_of, is_same_kind}
use Rattle.node_model.specs.Bodies.{Body, Living, Ended, Gone, body_in}

-- ---- before the entry

-- a process that lives may make the call, in a valid kernel in which no process lists itself
pub record MayMake (k : Kernel) (pid : ℕ) (call : Call) : Type 0 where
  pub valid : IsValid k
  pub alone : NoneListsItself k
  pub alive : Alive
  pub lives : living_at k pid ≡ Some alive
  pub may : may_make alive call ≡ true

-- ---- the entry

-- This process's call has this reply, and leads to the next kernel, whichever node carries it out: it does what it does
-- at once, it counts those who wait, or its wait is broken off.
pub record Makes (k : Kernel) (pid : ℕ) (call : Call) (reply : Reply) (next : Kernel) : Type 0 where
  pub leads : (node : ℕ) → LeadsTo k (line_of node pid call reply) next

-- the used numbers of a kind once a name was made, or none
abbrev pub used_after : Option Name → Kind → List ℕ → List ℕ
used_after None kind used = used
used_after (Some name) kind used = grown_by (is_same_kind (kind_of name) kind) used (number_of name)

-- the entry leads on, and the numbers used are those before it, with the one of what it made
pub record Enters (k : Kernel) (pid : ℕ) (call : Call) (reply : Reply) (made : Option Name)
    (next : Kernel) : Type 0 where
  pub makes : Makes k pid call reply next
  pub used : (kind : Kind) → used_of next kind ≡ used_after made kind (used_of k kind)

-- ---- what it leaves

-- something has, or had, the name's number
abbrev pub is_used_name : Kernel → Name → Bool
is_used_name k name = is_used (used_of k (kind_of name)) (number_of name)

-- each name's body is as before
abbrev pub KeepsBodies : Kernel → Kernel → Type 0
KeepsBodies k next = (name : Name) → body_in next name ≡ body_in k name

-- a process lives, and has this row
pub record HasRow (k : Kernel) (p : ℕ) (row : Row) : Type 0 where
  pub alive : Alive
  pub lives : living_at k p ≡ Some alive
  pub row_is : alive.row ≡ row

-- what a living process may do, it may do as another one
pub record IsAsFree (a b : Alive) : Type 0 where
  pub unspent : is_spent a.allowance ≡ false → is_spent b.allowance ≡ false
  pub doomed : (sig : Sig) → is_doomed_by a.row.signals.doom sig ≡ true → is_doomed_by b.row.signals.doom sig ≡ true

-- what a process is after an entry of another: it lives on and may do what it might, or it has ended and stays so, or
-- is gone. A number that leads to no process may then lead to one
abbrev pub TurnsTo : Option Process → Option Process → Type 0
TurnsTo None after = Unit {0}
TurnsTo (Some (kernel.Living a)) after = (b : Alive) × (after ≡ Some (kernel.Living b)) × IsAsFree a b
TurnsTo (Some (kernel.Ended ending)) after = (after ≡ Some (kernel.Ended ending)) ⊎ (after ≡ Some kernel.Gone)
TurnsTo (Some kernel.Gone) after = after ≡ Some kernel.Gone

-- what each entry of a process leaves, whatever its call is
pub record LeavesOthers (k : Kernel) (pid : ℕ) (next : Kernel) : Type 0 where
  pub valid : IsValid next
  pub alone : NoneListsItself next
  pub others : (p : ℕ) → p ≢ pid → TurnsTo (get k.processes p) (get next.processes p)

-- ---- the keys

abbrev pub bound_to : ℕ → ℕ → Bound
bound_to id count = record { id = id; count = count }

-- these tables have the kernel's keys, each with the identifier that it leads to and, for a set, its size
pub record HasKeys (queue_keys set_keys : Numbered Bound) (k : Kernel) : Type 0 where
  pub queues : (key : ℕ) → get queue_keys key ≡ option_map (λ id. bound_to id 0) (get k.queue_keys key)
  pub sets : (key : ℕ) → get set_keys key ≡ option_map (λ id. bound_to id (set_size k id)) (get k.set_keys key)

-- the queue, or set, that a call removes
abbrev pub removed_queue : Call → Option ℕ
removed_queue (calls.MsgRmid id) = Some id
removed_queue call = None

abbrev pub removed_set : Call → Option ℕ
removed_set (calls.SemRmid id) = Some id
removed_set call = None

-- what a key leads to once no key leads to this identifier any more
abbrev pub other_than : ℕ → ℕ → Option ℕ
other_than id found = if nat_eq found id then None else Some found

abbrev pub unless_removed : Option ℕ → Option ℕ → Option ℕ
unless_removed None found = found
unless_removed (Some id) found = option_and_then (other_than id) found

-- the table without the keys of this identifier
abbrev pub without_keys_of : Option ℕ → Numbered Bound → Numbered Bound
without_keys_of None keys = keys
without_keys_of (Some id) keys = without_value (λ bound. bound.id) keys id

-- the keys are as before, and so are the sizes of the sets that they lead to
pub record KeepsKeys (k next : Kernel) : Type 0 where
  pub queues : (key : ℕ) → get next.queue_keys key ≡ get k.queue_keys key
  pub sets : (key : ℕ) → get next.set_keys key ≡ get k.set_keys key
  pub sizes : (key id : ℕ) → get k.set_keys key ≡ Some id → set_size next id ≡ set_size k id

-- ---- families

-- the family of who has this reply: a child that it waited for isn't kept any more
abbrev pub family_after : Reply → Family → Family
family_after (replies.Child child ending) f = without_ended child f
family_after reply f = f

-- a process lives, with this family
pub record HasFamily (k : Kernel) (p : ℕ) (f : Family) : Type 0 where
  pub row : Row
  pub is : body_in k (Proc p) ≡ Living row
  pub family_is : row.family ≡ f

-- a process's parent, by the body of who it was: if that lives it lists the process, and no other does
pub record IsChildOf (k : Kernel) (pid parent : ℕ) (body : Body) : Type 0 where
  pub is : body_in k (Proc parent) ≡ body
  pub listed : (row : Row) → body ≡ Living row → lists row.family pid ≡ true
  pub only : (p : ℕ) (a : Alive) → living_at k p ≡ Some a → lists a.row.family pid ≡ true → p ≡ parent

-- by how the kernel has a process: a living parent lists it among the living, keeps its ending, or forgot it
abbrev pub IsChildIn : Kernel → ℕ → ℕ → Process → Type 0
IsChildIn k parent pid (kernel.Living alive) =
    (a : Alive) → living_at k parent ≡ Some a → lists a.row.family pid ≡ true
IsChildIn k parent pid (kernel.Ended ending) = (a : Alive) × (living_at k parent ≡ Some a) × ListsEnded a pid
IsChildIn k parent pid kernel.Gone =
    (a : Alive) → living_at k parent ≡ Some a → lists a.row.family pid ≡ false

-- the number leads to a process, which is this one's child
pub record IsKin (k : Kernel) (parent pid : ℕ) : Type 0 where
  pub process : Process
  pub is : get k.processes pid ≡ Some process
  pub child : IsChildIn k parent pid process

-- the same by bodies
abbrev pub KeepsEnding : Row → ℕ → Type 0
KeepsEnding row pid = (ending : Ending) × Contains row.family.ended (ended_child pid ending)

abbrev pub AreKin : Body → ℕ → Body → Type 0
AreKin parent pid (Living row) = (r : Row) → parent ≡ Living r → lists r.family pid ≡ true
AreKin parent pid (Ended ending) = (r : Row) × (parent ≡ Living r) × KeepsEnding r pid
AreKin parent pid Gone = (r : Row) → parent ≡ Living r → lists r.family pid ≡ false
AreKin parent pid body = ⊥

-- a body that is as before for its family: the same one, or another row with the same children
pub data SameKind (before after : Body) : Type 0 where
  Same : after ≡ before → SameKind before after
  Lives : (r s : Row) → before ≡ Living r → after ≡ Living s → s.family ≡ r.family → SameKind before after

-- ---- the history

-- the lines lead to the kernel, and they fit the script so far
pub record HasHistory (script : Script) (lines : List Entry) (k : Kernel) (places : Places) : Type 0 where
  pub legal : LeadInLine opening lines k
  pub fits : FitsFrom script (opening_places script) lines places
  pub ordered : IsRising places
