-- What it is to serve a call on the deeds that a node holds.
use Rattle.std.specs.Prelude.{◌≡◌, ℕ, Bool, true, false, not, ◌&&◌, ◌||◌, nat_eq, nat_lt, List, [], ◌++◌, length, map, Option, Some, None, IsTrue}
use Rattle.std.specs.List.{filter, list_any, AllByRecursion}
use Rattle.std.specs.Option.{option_map, option_map_or}
use Rattle.pico_base.specs.declared.call.Call.{Call}
use Rattle.pico_base.specs.declared.numbers.Name.{Name}
use Rattle.pico_base.specs.declared.numbers.Name.TheVariants.{Proc}
use Rattle.pico_base.specs.declared.reply.Outcome.{Outcome}
use Rattle.pico_base.specs.declared.reply.Reply.{Reply}
use Rattle.pico_base.specs.declared.reply.Reply.TheVariants as replies
use Rattle.kernel_model.specs.Kernel.{Kernel}
use Rattle.kernel_model.specs.Transition.{successor, transition}
use Rattle.kernel_model.specs.Valid.{IsValid}
use Rattle.waiting_model.specs.declared.callers.Waiting.{Waiting}
use Rattle.waiting_model.specs.declared.callers.Wake.{Wake}
use Rattle.waiting_model.specs.Calls.{is_withdrawal}
use Rattle.waiter_fields.specs.Waiters.{max_waiters}
use Rattle.serve_laws.specs.Laws.{is_found}
use Rattle.serve_laws.specs.Served.{MakesOwn}
use Rattle.node_model.specs.Kinds.{Named, get_named, is_same_name, put_all, put_named}
use Rattle.node_model.specs.Bodies.{body_in, fits_name, waiters_of}
use Rattle.node_model.specs.Bodies as model
use Rattle.node_model.specs.Awaiting.{on_whole}
use Rattle.node_model.specs.Carrying.{is_own, is_served, makes_or_ends}
use Rattle.node_model.specs.Entries.{outcome_with}
use Rattle.node_model.specs.Serving as definition
use Rattle.node_model.specs.Serving.{admits, caller_if, has_read_if, name_for, waits_in, woken_reads}
use Rattle.node_serve.specs.declared.body.Body.{Body}
use Rattle.node_serve.specs.declared.body.Body.TheVariants.{Gone}
use Rattle.node_serve.specs.declared.serving.Readers.{Readers}
use Rattle.node_serve.specs.declared.serving.Readers.TheVariants.{OfMessages, OfSemaphores}
use Rattle.node_serve.specs.declared.serving.Served.{Served}
use Rattle.node_serve.specs.declared.serving.Served.TheVariants.{Did, NotAdmitted, NotHeld}
use Rattle.node_serve.specs.Bodies.{bodies_of, body_of}

-- it makes nothing, gets nothing by a key, doesn't end its process, and ends no wait
abbrev pub may_be_served : Call → Bool
may_be_served call = not (makes_or_ends call) && not (is_withdrawal call)

-- the body of a name, if it has one and it is held
abbrev pub held_at : Named Body → Option Name → Option Body
held_at bodies None = None
held_at bodies (Some name) = get_named bodies name

-- the child that a reply names
abbrev pub child_in : Option Reply → Option ℕ
child_in (Some (replies.Child child ending)) = Some child
child_in own = None

-- a child that `waitpid` found is gone
abbrev pub bury_child : Option ℕ → Named Body → Named Body
bury_child None bodies = bodies
bury_child (Some child) bodies = put_named bodies (Proc child) Gone

abbrev pub bury_found : Option Reply → Named Body → Named Body
bury_found own bodies = bury_child (child_in own) bodies

-- ---- who reads

abbrev pub gives_message : Reply → Bool
gives_message (replies.Message class text) = true
gives_message reply = false

abbrev pub gives_number : Reply → Bool
gives_number (replies.Num n) = true
gives_number reply = false

-- the call of one who is woken has read: a receive that is given a message, or a `semop` that takes from a semaphore
abbrev pub reads_among : Readers → Wake → Bool
reads_among OfMessages w = gives_message w.reply
reads_among (OfSemaphores pids) w = list_any (λ pid. nat_eq pid w.pid) pids.items && gives_number w.reply

-- this is said of those who are woken at the body
abbrev pub SayWhoReads : model.Body → Readers → List Wake → Type 0
SayWhoReads body readers wakes = AllByRecursion (λ w. reads_among readers w ≡ woken_reads (waiters_of body) w) wakes

-- ---- a call on a body

-- fewer wait there than there is room for, and this process isn't one of them
abbrev pub has_room : model.Body → ℕ → Bool
has_room body pid = nat_lt (length (waiters_of body)) max_waiters && not (waits_in body pid)

-- the call is carried out on the body, which admits it
pub record IsDone (name : Name) (old : Body) (who : Waiting) (new : Body) (own : Option Reply) (wakes : List Wake)
    (reads : Bool) (readers : Readers) : Type 0 where
  pub admitted : admits (body_of old) who ≡ true
  pub does : on_whole name (body_of old) who ≡ record { left = body_of new; own = own; wakes = wakes }
  pub read : reads ≡ has_read_if who.call own
  pub woken : SayWhoReads (body_of old) readers wakes

abbrev pub ComesTo : Name → Body → Waiting → Body → Served → Type 0
ComesTo name old who new (Did own wakes reads readers) = IsDone name old who new own wakes reads readers
ComesTo name old who new NotAdmitted = (admits (body_of old) who ≡ false) × (new ≡ old)
ComesTo name old who new NotHeld = ⊥

-- ---- a call on the body of a name that is held

-- each name has the body that it had
abbrev pub AreSame : Named Body → Named Body → Type 0
AreSame old new = (name : Name) → get_named new name ≡ get_named old name

-- what is left of the name's body, and the rest that comes of the call
pub record CarriesName (old : Named Body) (name : Name) (who : Waiting) (new : Named Body) (own : Option Reply)
    (wakes : List Wake) (reads : Bool) (readers : Readers) : Type 0 where
  pub body : Body
  pub left : Body
  pub held : get_named old name ≡ Some body
  pub does : IsDone name body who left own wakes reads readers
  pub after : new ≡ put_named old name left

-- the name's body doesn't admit the call
pub record RefusesName (old : Named Body) (name : Name) (who : Waiting) : Type 0 where
  pub body : Body
  pub held : get_named old name ≡ Some body
  pub refuses : admits (body_of body) who ≡ false

abbrev pub ServesName : Named Body → Name → Waiting → Named Body → Served → Type 0
ServesName old name who new NotHeld = (get_named old name ≡ None) × (new ≡ old)
ServesName old name who new NotAdmitted = RefusesName old name who × (new ≡ old)
ServesName old name who new (Did own wakes reads readers) = CarriesName old name who new own wakes reads readers

-- ---- a call by its own name

-- The name of the call is held. It has the body that the call leaves there, a found child is gone, and all other bodies
-- are those that they were.
pub record Carries (old : Named Body) (who : Waiting) (new : Named Body) (own : Option Reply) (wakes : List Wake)
    (reads : Bool) (readers : Readers) : Type 0 where
  pub name : Name
  pub body : Body
  pub left : Body
  pub names : name_for who.pid who.call ≡ Some name
  pub held : get_named old name ≡ Some body
  pub does : IsDone name body who left own wakes reads readers
  pub after : new ≡ bury_found own (put_named old name left)

pub record Refuses (old : Named Body) (who : Waiting) : Type 0 where
  pub name : Name
  pub names : name_for who.pid who.call ≡ Some name
  pub refuses : RefusesName old name who

abbrev pub Serves : Named Body → Waiting → Named Body → Served → Type 0
Serves old who new NotHeld = (held_at old (name_for who.pid who.call) ≡ None) × (new ≡ old)
Serves old who new NotAdmitted = Refuses old who × (new ≡ old)
Serves old who new (Did own wakes reads readers) = Carries old who new own wakes reads readers

-- ---- by the definition of a served call

-- The body that the call is carried out on goes with its name, and whoever makes a call of its own lives and isn't its
-- own child.
abbrev pub MayMake : Named Body → ℕ → Call → Type 0
MayMake old caller call =
    (name : Name) (body : Body) → name_for caller call ≡ Some name → get_named old name ≡ Some body
    → IsTrue (fits_name name (body_of body)) × (is_own caller call ≡ true → MakesOwn caller (body_of body))

-- what is held admits the call
abbrev pub admits_at : model.Deeds → Waiting → Option Name → Bool
admits_at deeds who None = true
admits_at deeds who (Some name) = option_map_or (λ body. admits body who) (get_named deeds name) true

-- the nodes that read: the caller's where its call does, and those of the woken
abbrev pub nodes_that_read : ℕ → Bool → List Wake → Readers → List ℕ
nodes_that_read caller reads wakes readers =
    caller_if reads caller ++ map (λ w. w.caller) (filter (reads_among readers) wakes)

-- the deeds, the reply, who is woken and which nodes read are those of the definition
pub record IsDefined (old : Named Body) (who : Waiting) (new : Named Body) (own : Option Reply) (wakes : List Wake)
    (reads : Bool) (readers : Readers) : Type 0 where
  pub served : definition.Served
  pub admitted : admits_at (bodies_of old) who (name_for who.pid who.call) ≡ true
  pub is : definition.serve (bodies_of old) who ≡ Some served
  pub after : bodies_of new ≡ put_all (bodies_of old) served.changes
  pub replies : own ≡ served.own
  pub woken : wakes ≡ served.wakes
  pub read : nodes_that_read who.caller reads wakes readers ≡ served.readers

abbrev pub ServesAsDefined : Named Body → Waiting → Named Body → Served → Type 0
ServesAsDefined old who new NotHeld = definition.serve (bodies_of old) who ≡ None
ServesAsDefined old who new NotAdmitted = admits_at (bodies_of old) who (name_for who.pid who.call) ≡ false
ServesAsDefined old who new (Did own wakes reads readers) =
    MayMake old who.pid who.call → IsDefined old who new own wakes reads readers

-- ---- by the kernel in which nobody waits

-- the child that the caller's reply names
abbrev pub is_found_by : Option Reply → Name → Bool
is_found_by None name = false
is_found_by (Some answer) name = is_found answer name

-- the name that the call is carried out on, and the child that it found
abbrev pub concerns : Name → Outcome → Name → Bool
concerns name outcome other = is_same_name name other || is_found_by outcome.own other

-- Where the kernel's transition has a result it is this outcome, and what the call concerns has the next kernel's part.
-- All other names have the body and the part that they had.
pub record FollowsKernel (k : Kernel) (old : Named Body) (name : Name) (new : Named Body) (next : Kernel)
    (outcome reached : Outcome) : Type 0 where
  pub same : outcome ≡ reached
  pub concerned : (other : Name) → concerns name outcome other ≡ true
      → option_map body_of (get_named new other) ≡ Some (body_in next other)
  pub others : (other : Name) → concerns name outcome other ≡ false → body_in next other ≡ body_in k other
  pub stays : (other : Name) → concerns name outcome other ≡ false → get_named new other ≡ get_named old other

-- the kernel agrees with the deeds on what the call looks at: its name's body, at which nobody waits
abbrev pub AgreesOn : Kernel → Named Body → Name → Type 0
AgreesOn k old name = (body : Body) → get_named old name ≡ Some body → body_in k name ≡ body_of body

-- on each valid kernel that agrees and has a transition for the call
pub record IsTheKernels (old : Named Body) (who : Waiting) (new : Named Body) (outcome : Outcome) : Type 0 where
  pub follows : (k next : Kernel) (n : ℕ) (name : Name) (reached : Outcome) → IsValid k
      → name_for who.pid who.call ≡ Some name → AgreesOn k old name
      → transition k who.pid who.call n ≡ Some (successor next reached)
      → FollowsKernel k old name new next outcome reached

-- a call that can't have to wait
abbrev pub ServesAsTheKernel : Named Body → Waiting → Named Body → Served → Type 0
ServesAsTheKernel old who new NotHeld = Unit {0}
ServesAsTheKernel old who new NotAdmitted = Unit {0}
ServesAsTheKernel old who new (Did own wakes reads readers) =
    is_served who.call ≡ true → IsTheKernels old who new (outcome_with own wakes)
