-- Entries that change nothing, and those that make something: forks, and new queues and sets with no key.
use Rattle.std.proofs.Common.{◌≡◌, ◌≢◌, ℕ, Bool, true, false, not, ◌&&◌, List, Option, Some, None, Ok, Err, refl, ap, sym, subst, ◌∙◌, inl, inr}
use Rattle.std.specs.Prelude.{is_some, if◌then◌else◌}
use Rattle.std.proofs.lemmas.Bool.{false≢true}
use Rattle.pico_base.specs.declared.call.Call.{Call}
use Rattle.pico_base.specs.declared.call.Call.TheVariants as calls
use Rattle.pico_base.specs.declared.numbers.Kind.{Kind}
use Rattle.pico_base.specs.declared.numbers.Kind.TheVariants as kinds
use Rattle.pico_base.specs.declared.numbers.Name.{Name}
use Rattle.pico_base.specs.declared.numbers.Name.TheVariants.{Proc, Msg, Sem}
use Rattle.pico_base.specs.declared.reply.Errno.{Errno}
use Rattle.pico_base.specs.declared.reply.Reply.{Reply}
use Rattle.pico_base.specs.declared.reply.Reply.TheVariants as replies
use Rattle.number_maps.specs.Maps.{Numbered, get, put, is_used, used_with}
use Rattle.number_maps.proofs.LookUps.{get-put-same, get-put-other}
use Rattle.kernel_model.specs.Numbers.{is_positive_u32}
use Rattle.kernel_model.specs.Queue.{empty_queue}
use Rattle.kernel_model.specs.SemaphoreSet.{SemaphoreSet, new_set}
use Rattle.kernel_model.specs.Row.{Alive, Row}
use Rattle.kernel_model.specs.Kernel.{Kernel, Process, alive_in, living_at}
use Rattle.kernel_model.specs.Kernel as kernel
use Rattle.kernel_model.specs.Effect.{Effect, is_fresh, reply_with}
use Rattle.kernel_model.specs.ProcessCalls.{new_child, parent_after_fork, processes_after_fork}
use Rattle.kernel_model.specs.SetCalls.{new_set_of}
use Rattle.kernel_model.specs.Transition.{effect}
use Rattle.kernel_model.specs.History.{number_in}
use Rattle.kernel_model.specs.Footprint.{used_of}
use Rattle.kernel_model.specs.Valid.{IsValid}
use Rattle.kernel_laws.proofs.People.{from-living}
use Rattle.waiting_model.specs.Linear.{at_once}
use Rattle.waiting_model.specs.Waiters.{unawaited}
use Rattle.node_model.specs.Kinds.{number_of}
use Rattle.node_model.specs.Bodies.{Body, Living, Gone, AQueue, ASet, Removed, body_in, process_body, queue_body, set_body}
use Rattle.node_model.specs.Carrying.{is_served, on_body}
use Rattle.node_model.specs.Serving.{child_body, name_for, no_such_name, parent_body}
use Rattle.serve_laws.specs.Served.{DoesLine, Does, Line, line}
use Rattle.entry_laws.specs.Entering.{Enters, KeepsBodies, KeepsKeys, MayMake, is_used_name, removed_queue, removed_set, unless_removed, used_after}
use Rattle.entry_laws.proofs.Bodies.{living-body, body-living}
use Rattle.entry_laws.proofs.Keys.{size-same}
use Rattle.entry_laws.proofs.Lined.{Lined, lined}
use Rattle.entry_laws.proofs.Making.{finished, finished-is-like, enters-by, keys-finished, keys-same}
use Rattle.entry_laws.proofs.Names.{name-cases}
use Rattle.entry_laws.proofs.Others.{Lived}
use Rattle.entry_laws.proofs.Served.{absent-other, lived-finished, some-is}

-- ---- entries that change nothing

pub record LeavesAll (k : Kernel) (pid : ℕ) (call : Call) (reply : Reply) : Type 0 where
  pub next : Kernel
  pub enters : Enters k pid call reply None next
  pub bodies : KeepsBodies k next
  pub keys : KeepsKeys k next
  pub caller : Lived next pid

-- a call whose effect is the kernel as it is
pub leaves-all : (k : Kernel) (pid : ℕ) (call : Call) (reply : Reply) (m : MayMake k pid call)
    → effect k pid m.alive call (number_in (Some reply)) ≡ Some (record { kernel = k; reply = reply })
    → LeavesAll k pid call reply
leaves-all k pid call reply m gives =
    let e : Effect = record { kernel = k; reply = reply }
    in record {
      next = finished k pid;
      enters = enters-by k pid call e None m gives (λ kind. refl);
      bodies = (finished-is-like k pid).bodies;
      keys = keys-finished k k pid (keys-same k);
      caller = lived-finished k pid (record { alive = m.alive; lives = m.lives });
    }

-- ---- numbers that nothing has

is-false : (b used : Bool) → (b ≡ true → used ≡ true) → used ≡ false → b ≡ false
is-false true used h unused = absurd (false≢true (sym unused ∙ h refl))
is-false false used h unused = refl

pub none-there : {V : Type 0} (o : Option V) → is_some o ≡ false → o ≡ None
none-there None h = refl
none-there (Some v) h = absurd (false≢true (sym h))

pub unused-process : (k : Kernel) (n : ℕ) → IsValid k → is_used k.used_processes n ≡ false → get k.processes n ≡ None
unused-process k n valid unused = none-there (get k.processes n) (sym (valid.used_processes n) ∙ unused)

pub unused-queue : (k : Kernel) (n : ℕ) → IsValid k → is_used k.used_queues n ≡ false → get k.queues n ≡ None
unused-queue k n valid unused =
    none-there (get k.queues n) (is-false (is_some (get k.queues n)) _ (valid.used_queues n) unused)

pub unused-set : (k : Kernel) (n : ℕ) → IsValid k → is_used k.used_sets n ≡ false → get k.sets n ≡ None
unused-set k n valid unused =
    none-there (get k.sets n) (is-false (is_some (get k.sets n)) _ (valid.used_sets n) unused)

-- the body of a name that nothing has
abbrev pub nothing_at : Name → Body
nothing_at (Proc pid) = Gone
nothing_at (Msg id) = Removed
nothing_at (Sem id) = Removed

-- nothing has the part of a name whose number isn't used
pub unused-body : (k : Kernel) (name : Name) → IsValid k → is_used_name k name ≡ false
    → body_in k name ≡ nothing_at name
unused-body k (Proc n) valid unused = ap process_body (unused-process k n valid unused)
unused-body k (Msg n) valid unused = ap queue_body (unused-queue k n valid unused)
unused-body k (Sem n) valid unused = ap set_body (unused-set k n valid unused)

nobody-queue-keys : (k : Kernel) (pid : ℕ) (call : Call) (name : Name) → IsValid k → name_for pid call ≡ Some name
    → is_used_name k name ≡ false → (key : ℕ)
    → unless_removed (removed_queue call) (get k.queue_keys key) ≡ get k.queue_keys key
nobody-queue-keys k pid (calls.MsgRmid id) name valid named unused key =
    let is : name ≡ Msg id = some-is name (Msg id) (sym named)
    in let none : get k.queues id ≡ None =
    unused-queue k id valid (ap (is_used_name k) (sym is) ∙ unused)
    in sym (absent-other k.queue_keys k.queues id key valid.queue_keys none)
nobody-queue-keys k pid call name valid named unused key = refl

nobody-set-keys : (k : Kernel) (pid : ℕ) (call : Call) (name : Name) → IsValid k → name_for pid call ≡ Some name
    → is_used_name k name ≡ false → (key : ℕ)
    → unless_removed (removed_set call) (get k.set_keys key) ≡ get k.set_keys key
nobody-set-keys k pid (calls.SemRmid id) name valid named unused key =
    let is : name ≡ Sem id = some-is name (Sem id) (sym named)
    in let none : get k.sets id ≡ None = unused-set k id valid (ap (is_used_name k) (sym is) ∙ unused)
    in sym (absent-other k.set_keys k.sets id key valid.set_keys none)
nobody-set-keys k pid call name valid named unused key = refl

on-nothing : (name : Name) (pid : ℕ) (call : Call)
    → on_body name (nothing_at name) pid call
    ≡ record { left = nothing_at name; reply = replies.Fail (no_such_name name) }
on-nothing (Proc p) pid call = refl
on-nothing (Msg id) pid call = refl
on-nothing (Sem id) pid call = refl

-- A call on a name whose number nothing has, or had, is refused, and changes nothing. So is one that may have to wait.
pub nobody : (k : Kernel) (pid : ℕ) (call : Call) (name : Name) → MayMake k pid call
    → is_served (at_once call) ≡ true → name_for pid call ≡ Some name → is_used_name k name ≡ false
    → LeavesAll k pid call (replies.Fail (no_such_name name))
nobody k pid call name m served named unused =
    let reply : Reply = replies.Fail (no_such_name name)
    in let l : Line = line pid call reply
    in let body : body_in k name ≡ nothing_at name = unused-body k name m.valid unused
    in let does : DoesLine name (body_in k name) l (body_in k name) =
    subst (λ (b : Body). DoesLine name b l b) (sym body) (Does _ (on-nothing name pid (at_once call)) refl refl)
    in let c : Lined k name l (body_in k name) = lined k name l (body_in k name) m served named does
    in let sets : (key : ℕ) → get c.next.set_keys key ≡ get k.set_keys key =
    λ key. c.set_keys key ∙ nobody-set-keys k pid call name m.valid named unused key
    in record {
      next = c.next;
      enters = c.enters;
      bodies = λ other.
          elim (name-cases other name) [
            | inl same ↦ ap (body_in c.next) same ∙ c.there ∙ sym (ap (body_in k) same)
            | inr apart ↦ c.others other apart refl
          ];
      keys = record {
        queues = λ key. c.queue_keys key ∙ nobody-queue-keys k pid call name m.valid named unused key;
        sets = sets;
        sizes = λ key id bound. c.sizes key id (sets key ∙ bound);
      };
      caller = c.caller;
    }

-- ---- forks

-- The new process has the parent's row but for what isn't inherited, and the parent lists it. All else stays.
pub record Forks (k : Kernel) (pid block child : ℕ) (row : Row) : Type 0 where
  pub next : Kernel
  pub enters : Enters k pid (calls.Fork block) (replies.Num child) (Some (Proc child)) next
  pub parent : body_in next (Proc pid) ≡ parent_body row child
  pub child_is : body_in next (Proc child) ≡ child_body row
  pub rest : (m : Name) → m ≢ Proc pid → m ≢ Proc child → body_in next m ≡ body_in k m
  pub keys : KeepsKeys k next
  pub apart : child ≢ pid
  pub absent : get k.processes child ≡ None
  pub caller : Lived next pid

-- a number of four bytes that isn't used is fresh
pub fresh-is : (used : List ℕ) (n : ℕ) → is_positive_u32 n ≡ true → is_used used n ≡ false → is_fresh used n ≡ true
fresh-is used n low unused =
    ap (λ (b : Bool). b && not (is_used used n)) low ∙ ap (λ (b : Bool). not b) unused

abbrev forked : Kernel → ℕ → Alive → ℕ → Kernel
forked k pid a n =
    record k { processes = processes_after_fork k.processes pid a n; used_processes = used_with k.used_processes n }

fork-used : (k : Kernel) (pid : ℕ) (a : Alive) (n : ℕ) (kind : Kind)
    → used_of (forked k pid a n) kind ≡ used_after (Some (Proc n)) kind (used_of k kind)
fork-used k pid a n kinds.Proc = refl
fork-used k pid a n kinds.Msg = refl
fork-used k pid a n kinds.Sem = refl

fork-rest : (k : Kernel) (pid : ℕ) (a : Alive) (n : ℕ) (m : Name) → m ≢ Proc pid → m ≢ Proc n
    → body_in (forked k pid a n) m ≡ body_in k m
fork-rest k pid a n (Msg id) apart new = refl
fork-rest k pid a n (Sem id) apart new = refl
fork-rest k pid a n (Proc p) apart new =
    ap process_body
    (get-put-other (put k.processes n (kernel.Living (new_child a))) pid (kernel.Living (parent_after_fork a n)) p
    (λ (e : p ≡ pid). apart (ap Proc e))
    ∙ get-put-other k.processes n (kernel.Living (new_child a)) p (λ (e : p ≡ n). new (ap Proc e)))

-- a fork with an unused number is the kernel's
pub forks : (k : Kernel) (pid block child : ℕ) (row : Row) → MayMake k pid (calls.Fork block)
    → body_in k (Proc pid) ≡ Living row → is_used k.used_processes child ≡ false → is_positive_u32 child ≡ true
    → Forks k pid block child row
forks k pid block child row m own unused low =
    let a : Alive = m.alive
    in let j : Kernel = forked k pid a child
    in let e : Effect = reply_with j child
    in let like = finished-is-like j pid
    in let mid : Numbered Process = put k.processes child (kernel.Living (new_child a))
    in let absent : get k.processes child ≡ None = unused-process k child m.valid unused
    in let there : get k.processes pid ≡ Some (kernel.Living a) = from-living k.processes pid a m.lives
    in let apart : child ≢ pid =
    λ same. none-living (get k.processes pid) a (ap (get k.processes) (sym same) ∙ absent) there
    in let rows : a.row ≡ row = same-row a.row row (sym (living-body k pid a m.lives) ∙ own)
    in let parent : body_in j (Proc pid) ≡ parent_body row child =
    ap process_body (get-put-same mid pid (kernel.Living (parent_after_fork a child)))
    ∙ ap (λ (r : Row). parent_body r child) rows
    in record {
      next = finished j pid;
      enters = enters-by k pid (calls.Fork block) e (Some (Proc child)) m
          (ap (λ (t : Bool). if t then Some e else None) (fresh-is k.used_processes child low unused))
          (fork-used k pid a child);
      parent = like.bodies (Proc pid) ∙ parent;
      child_is =
          like.bodies (Proc child)
          ∙ ap process_body
          (get-put-other mid pid (kernel.Living (parent_after_fork a child)) child apart
          ∙ get-put-same k.processes child (kernel.Living (new_child a)))
          ∙ ap child_body rows;
      rest = λ name not_parent not_child. like.bodies name ∙ fork-rest k pid a child name not_parent not_child;
      keys = keys-finished k j pid
          (record { queues = λ key. refl; sets = λ key. refl; sizes = λ key id bound. refl });
      apart = apart;
      absent = absent;
      caller = lived-finished j pid (lives-with j pid row child parent);
    }
  where
    none-living : (o : Option Process) (b : Alive) → o ≡ None → o ≡ Some (kernel.Living b) → ⊥
    none-living o b h g = absurd (cc)

    same-row : (r s : Row) → Living r ≡ Living s → r ≡ s
    same-row r s h = cc

    lives-with : (l : Kernel) (p : ℕ) (r : Row) (n : ℕ) → body_in l (Proc p) ≡ parent_body r n → Lived l p
    lives-with l p r n is = let h = body-living l p _ is in record { alive = h.alive; lives = h.lives }

-- ---- new queues and sets

-- A new queue or set of this name is there with this body, and all else stays.
pub record MakesObject (k : Kernel) (pid : ℕ) (call : Call) (name : Name) (body : Body) : Type 0 where
  pub next : Kernel
  pub enters : Enters k pid call (replies.Num (number_of name)) (Some name) next
  pub there : body_in next name ≡ body
  pub rest : (m : Name) → m ≢ name → body_in next m ≡ body_in k m
  pub caller : Lived next pid

-- it is bound to no key
pub record MakesPrivate (k : Kernel) (pid : ℕ) (call : Call) (name : Name) (body : Body) : Type 0 where
  pub object : MakesObject k pid call name body
  pub keys : KeepsKeys k object.next

-- the kernel with one more queue
abbrev pub with_new_queue : Kernel → Numbered ℕ → ℕ → Kernel
with_new_queue k keys n =
    record k { queues = put k.queues n empty_queue; queue_keys = keys; used_queues = used_with k.used_queues n }

-- one more number of queues is used then
pub queue-used : (k : Kernel) (keys : Numbered ℕ) (n : ℕ) (kind : Kind)
    → used_of (with_new_queue k keys n) kind ≡ used_after (Some (Msg n)) kind (used_of k kind)
queue-used k keys n kinds.Proc = refl
queue-used k keys n kinds.Msg = refl
queue-used k keys n kinds.Sem = refl

-- all other names have what they had
pub queue-rest : (k : Kernel) (keys : Numbered ℕ) (n : ℕ) (m : Name) → m ≢ Msg n
    → body_in (with_new_queue k keys n) m ≡ body_in k m
queue-rest k keys n (Proc p) other = refl
queue-rest k keys n (Sem s) other = refl
queue-rest k keys n (Msg i) other =
    ap queue_body (get-put-other k.queues n empty_queue i (λ (e : i ≡ n). other (ap Msg e)))

-- msgget with IPC_PRIVATE
pub makes-private-queue : (k : Kernel) (pid n : ℕ) (create excl : Bool) → MayMake k pid (calls.MsgGet None create excl)
    → is_used k.used_queues n ≡ false → is_positive_u32 n ≡ true
    → MakesPrivate k pid (calls.MsgGet None create excl) (Msg n) (AQueue (unawaited empty_queue))
makes-private-queue k pid n create excl m unused low =
    let j : Kernel = with_new_queue k k.queue_keys n
    in let e : Effect = reply_with j n
    in let like = finished-is-like j pid
    in record {
      object = record {
        next = finished j pid;
        enters = enters-by k pid (calls.MsgGet None create excl) e (Some (Msg n)) m
            (ap (λ (t : Bool). if t then Some e else None) (fresh-is k.used_queues n low unused))
            (queue-used k k.queue_keys n);
        there = like.bodies (Msg n) ∙ ap queue_body (get-put-same k.queues n empty_queue);
        rest = λ name other. like.bodies name ∙ queue-rest k k.queue_keys n name other;
        caller = lived-finished j pid (record { alive = m.alive; lives = m.lives });
      };
      keys = keys-finished k j pid
          (record { queues = λ key. refl; sets = λ key. refl; sizes = λ key id bound. refl });
    }

-- the kernel with one more set
abbrev pub with_new_set : Kernel → Numbered ℕ → ℕ → SemaphoreSet → Kernel
with_new_set k keys n set =
    record k { sets = put k.sets n set; set_keys = keys; used_sets = used_with k.used_sets n }

-- one more number of sets is used then
pub set-used : (k : Kernel) (keys : Numbered ℕ) (n : ℕ) (set : SemaphoreSet) (kind : Kind)
    → used_of (with_new_set k keys n set) kind ≡ used_after (Some (Sem n)) kind (used_of k kind)
set-used k keys n set kinds.Proc = refl
set-used k keys n set kinds.Msg = refl
set-used k keys n set kinds.Sem = refl

-- all other names have what they had
pub set-rest : (k : Kernel) (keys : Numbered ℕ) (n : ℕ) (set : SemaphoreSet) (m : Name) → m ≢ Sem n
    → body_in (with_new_set k keys n set) m ≡ body_in k m
set-rest k keys n set (Proc p) other = refl
set-rest k keys n set (Msg i) other = refl
set-rest k keys n set (Sem i) other =
    ap set_body (get-put-other k.sets n set i (λ (e : i ≡ n). other (ap Sem e)))

-- what a key leads to isn't the number that nothing has
pub bound-apart : (k : Kernel) (n key id : ℕ) → IsValid k → is_used k.used_sets n ≡ false
    → get k.set_keys key ≡ Some id → id ≢ n
bound-apart k n key id valid unused bound same =
    let there : is_some (get k.sets id) ≡ true = valid.set_keys.lead key id bound
    in false≢true
    (sym (ap is_some (ap (get k.sets) same ∙ unused-set k n valid unused)) ∙ there)

-- semget with IPC_PRIVATE, for a number of semaphores that a set may have
pub makes-private-set : (k : Kernel) (pid n count : ℕ) (create excl : Bool) (set : SemaphoreSet)
    → MayMake k pid (calls.SemGet None count create excl) → new_set count ≡ Ok set
    → is_used k.used_sets n ≡ false → is_positive_u32 n ≡ true
    → MakesPrivate k pid (calls.SemGet None count create excl) (Sem n) (ASet (unawaited set))
makes-private-set k pid n count create excl set m sized unused low =
    let j : Kernel = with_new_set k k.set_keys n set
    in let e : Effect = reply_with j n
    in let like = finished-is-like j pid
    in let call : Call = calls.SemGet None count create excl
    in record {
      object = record {
        next = finished j pid;
        enters = enters-by k pid call e (Some (Sem n)) m
            (ap (new_set_of k k.set_keys n) sized
            ∙ ap (λ (t : Bool). if t then Some e else None) (fresh-is k.used_sets n low unused))
            (set-used k k.set_keys n set);
        there = like.bodies (Sem n) ∙ ap set_body (get-put-same k.sets n set);
        rest = λ name other. like.bodies name ∙ set-rest k k.set_keys n set name other;
        caller = lived-finished j pid (record { alive = m.alive; lives = m.lives });
      };
      keys = keys-finished k j pid
          (record {
            queues = λ key. refl;
            sets = λ key. refl;
            sizes = λ key id bound.
                let apart : id ≢ n = bound-apart k n key id m.valid unused bound
                in size-same j k id (set-rest k k.set_keys n set (Sem id) (λ e. apart (ap number_of e)));
          });
    }

-- semget for any other number of semaphores is refused
pub refuses-private-set : (k : Kernel) (pid count : ℕ) (create excl : Bool) (error : Errno)
    → MayMake k pid (calls.SemGet None count create excl) → new_set count ≡ Err error
    → LeavesAll k pid (calls.SemGet None count create excl) (replies.Fail error)
refuses-private-set k pid count create excl error m bad =
    leaves-all k pid (calls.SemGet None count create excl) (replies.Fail error) m
    (ap (new_set_of k k.set_keys 0) bad)
