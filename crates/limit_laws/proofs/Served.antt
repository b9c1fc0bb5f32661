-- What a call leaves of the parts of a kernel that a node has, and its reply.
use Rattle.std.proofs.Common.{◌≡◌, ◌++◌, Option, Some, None, Result, Err, Ok, ℕ, Bool, true, false, not, nat_eq, refl, ◌+◌, ◌<◌, ◌≤◌, length, cond, List, [], ◌∷◌, is_some, ◌||◌, filter, arith, sym}
use Rattle.std.proofs.lemmas.Bool.{false≢true}
use Rattle.std.proofs.lemmas.List.{length-append}
use Rattle.std.specs.List.{AllByRecursion, list_any}
use Rattle.std.specs.Prelude.{fold}
use Rattle.kernel_laws.proofs.Plain.{Of, by_test}
use Rattle.kernel_laws.proofs.Lists.{all-both, all-filtered}
use Rattle.kernel_model.specs.Queue.{Queue}
use Rattle.kernel_model.specs.Row.{Found, Family, lists, ended_child, Waited, NotYet, NoChild, with_child, without_ended, wait, family_after_end, others, matches, first_ended_child, wait_result, no_family}
use Rattle.kernel_model.specs.SemaphoreSet.{SemaphoreSet}
use Rattle.kernel_model.specs.Signals.{Signals, raise, act_on}
use Rattle.limit_laws.proofs.Replies.{num-is-short}
use Rattle.limit_laws.proofs.Tables.{all-get, all-put, all-without}
use Rattle.limit_laws.proofs.Waking.{IsQueueCarried, IsSetCarried, queue-carried-within, removed-wakes-within, set-carried-within}
use Rattle.limit_laws.specs.Bodies.{IsFamilyWithin, IsPersonWithin, IsKernelWithin, IsQueueWithin, IsSetWithin}
use Rattle.limit_laws.specs.Within.{IsReplyShort, IsWakeWithin}
use Rattle.node_model.specs.Carrying.{is_own_home, is_removal}
use Rattle.node_model.specs.Serving.{name_for, makes_something}
use Rattle.number_maps.specs.Maps.{Numbered, get, put}
use Rattle.pico_base.specs.Home.{home_of}
use Rattle.pico_base.specs.declared.call.Call.TheVariants as calls
use Rattle.pico_base.specs.declared.call.Call.{Call}
use Rattle.pico_base.specs.declared.reply.EndedChild.{EndedChild}
use Rattle.pico_base.specs.declared.reply.Ending.{Ending}
use Rattle.pico_base.specs.declared.reply.Errno.{Errno}
use Rattle.pico_base.specs.declared.reply.Reply.TheVariants as replies
use Rattle.pico_base.specs.declared.reply.Reply.{Reply}
use Rattle.pico_base.specs.declared.signal.SigArg.TheVariants.{Zero, Is, Bad}
use Rattle.pico_base.specs.declared.signal.SigArg.{SigArg}
use Rattle.waiter_fields.specs.Waiters.{max_waiters}
use Rattle.waiting_model.specs.Effect.{Effect, on_named, refuse, reply_with, waking}
use Rattle.waiting_model.specs.Kernel as kernel
use Rattle.waiting_model.specs.Kernel.{Kernel, Process, change_if, change_living, wake_all, wake_one, where_living, with_alive}
use Rattle.waiting_model.specs.Marks.{Alive, after_reply, raise_by_other}
use Rattle.waiting_model.specs.ProcessCalls.{action_effect, kill, kill_at, parent_after_wait, processes_after_wait, reap_child, signal_living, with_signals}
use Rattle.waiting_model.specs.Queue.{carry_out_on_queue}
use Rattle.waiting_model.specs.QueueCalls.{on_queue, queue_effect, remove_queue, with_queue}
use Rattle.waiting_model.specs.SemaphoreSet.{carry_out_on_set}
use Rattle.waiting_model.specs.SetCalls.{on_set, remove_set, set_effect, with_set}
use Rattle.waiting_model.specs.Transition.{effect, effect_by}
use Rattle.waiting_model.specs.Waiters.{Awaited}
use Rattle.waiting_model.specs.declared.callers.Wake.{Wake}
use Rattle.waiting_model.specs.declared.callers.Waiting.{Waiting}

-- ---- families

-- no children are few
pub no-family-within : (most : ℕ) → IsFamilyWithin most no_family
no-family-within most = record { few = omega arith; living = tt; ended = tt }

-- a family has room where more may be
pub family-more : (most more : ℕ) (f : Family) → most ≤ more → IsFamilyWithin most f → IsFamilyWithin more f
family-more most more f le within =
    let few = within.few in record { few = omega (arith, few, le); living = within.living; ended = within.ended }

-- one child more
pub child-within : (most child : ℕ) (f : Family) → 1 ≤ child → IsFamilyWithin most f
    → IsFamilyWithin (most + 1) (with_child f child)
child-within most child f low within =
    let few = within.few
    in let longer : length (f.living ++ child ∷ []) ≡ length f.living + length (child ∷ []) =
    length-append f.living (child ∷ [])
    in record {
      few = omega (arith, few, longer);
      living = all-both (λ (c : ℕ). 1 ≤ c) f.living (child ∷ []) within.living (low, tt);
      ended = within.ended;
    }

-- a filter leaves no more
pub filtered-is-short : {A : Type 0} (test : A → Bool) (xs : List A) → length (filter test xs) ≤ length xs
filtered-is-short test [] = omega arith
filtered-is-short test (x ∷ xs) = by (test x) (filtered-is-short test xs)
  where
    by : (b : Bool) → length (filter test xs) ≤ length xs
        → length (cond b (x ∷ filter test xs) (filter test xs)) ≤ length (x ∷ xs)
    by true short = omega (arith, short)
    by false short = omega (arith, short)

-- an ended child less
pub reaped-within : (most child : ℕ) (f : Family) → IsFamilyWithin most f → IsFamilyWithin most (without_ended child f)
reaped-within most child f within =
    let few = within.few
    in let short = filtered-is-short (λ (e : EndedChild). not (nat_eq child e.pid)) f.ended
    in record {
      few = omega (arith, few, short);
      living = within.living;
      ended = all-filtered (λ (e : EndedChild). 1 ≤ e.pid) (λ e. not (nat_eq child e.pid)) f.ended within.ended;
    }

-- one that is found has a number
abbrev pub IsFoundWithin : Waited → Type 0
IsFoundWithin (Found child ending) = 1 ≤ child
IsFoundWithin NotYet = Unit {0}
IsFoundWithin NoChild = Unit {0}

-- the first child that has ended has a number
pub first-ended-within : (which : Option ℕ) (es : List EndedChild) → AllByRecursion (λ (e : EndedChild). 1 ≤ e.pid) es
    → Of (λ (e : EndedChild). 1 ≤ e.pid) (first_ended_child which es)
first-ended-within which [] all = tt
first-ended-within which (e ∷ es) all =
    by_test (Of (λ (x : EndedChild). 1 ≤ x.pid)) (matches which e.pid) (Some e) (first_ended_child which es)
    (λ _. all.0) (λ _. first-ended-within which es all.1)

-- so has one that is found for a parent
pub found-within : (o : Option EndedChild) (living : Bool) → Of (λ (e : EndedChild). 1 ≤ e.pid) o
    → IsFoundWithin (wait_result o living)
found-within (Some e) living h = h
found-within None true h = tt
found-within None false h = tt

-- a living child that ends
others-are-fewer : (child : ℕ) (xs : List ℕ) → list_any (nat_eq child) xs ≡ true
    → length (others child xs) + 1 ≤ length xs
others-are-fewer child [] h = absurd (false≢true h)
others-are-fewer child (x ∷ xs) h = by (nat_eq child x) h (λ later. others-are-fewer child xs later)
  where
    by : (b : Bool) → (b || list_any (nat_eq child) xs) ≡ true
        → (list_any (nat_eq child) xs ≡ true → length (others child xs) + 1 ≤ length xs)
        → length (cond (not b) (x ∷ others child xs) (others child xs)) + 1 ≤ length (x ∷ xs)
    by true h later = let short = filtered-is-short (λ (c : ℕ). not (nat_eq child c)) xs in omega (arith, short)
    by false h later = let fewer = later h in omega (arith, fewer)

-- the child has ended, and is kept or forgotten
pub family-ended-within : (most child : ℕ) (f : Family) (ending : Ending) (ignored : Bool) → 1 ≤ child
    → lists f child ≡ true → IsFamilyWithin most f → IsFamilyWithin most (family_after_end f child ending ignored)
family-ended-within most child f ending true low listed within =
    let few = within.few
    in let fewer = others-are-fewer child f.living listed
    in record {
      few = omega (arith, few, fewer);
      living = all-filtered (λ (c : ℕ). 1 ≤ c) (λ c. not (nat_eq child c)) f.living within.living;
      ended = within.ended;
    }
family-ended-within most child f ending false low listed within =
    let few = within.few
    in let fewer = others-are-fewer child f.living listed
    in let longer : length (f.ended ++ ended_child child ending ∷ [])
    ≡ length f.ended + length (ended_child child ending ∷ []) =
    length-append f.ended (ended_child child ending ∷ [])
    in record {
      few = omega (arith, few, fewer, longer);
      living = all-filtered (λ (c : ℕ). 1 ≤ c) (λ c. not (nat_eq child c)) f.living within.living;
      ended = all-both (λ (e : EndedChild). 1 ≤ e.pid) f.ended (ended_child child ending ∷ []) within.ended (low, tt);
    }

-- ---- an effect

-- a child that is replied has a number
abbrev pub IsChildNumbered : Option Reply → Type 0
IsChildNumbered (Some (replies.Child child ending)) = 1 ≤ child
IsChildNumbered own = Unit {0}

-- a short reply is no child's end
short-is-no-child : (own : Option Reply) → Of IsReplyShort own → IsChildNumbered own
short-is-no-child (Some (replies.Child child ending)) short = absurd (false≢true short.within)
short-is-no-child own short = tt

-- the kernel is within the limits, and so are the child that is replied and the replies of those who are woken
pub record IsEffectWithin (own most : ℕ) (e : Effect) : Type 0 where
  pub kernel : IsKernelWithin own most e.kernel
  pub child : IsChildNumbered e.own
  pub wakes : AllByRecursion IsWakeWithin e.wakes

-- there is room for one more who waits
pub record HasRooms (k : Kernel) : Type 0 where
  pub queues : AllByRecursion (λ (e : ℕ × Awaited Queue). length e.1.waiters < max_waiters) k.queues
  pub sets : AllByRecursion (λ (e : ℕ × Awaited SemaphoreSet). length e.1.waiters < max_waiters) k.sets

module _ (own most : ℕ) where
  abbrev Within : Effect → Type 0
  Within e = IsEffectWithin own most e

  abbrev Holds : Kernel → Type 0
  Holds k = IsKernelWithin own most k

  abbrev People : Numbered Process → Type 0
  People ps = AllByRecursion (IsPersonWithin own most) ps

  with-processes : (k : Kernel) (ps : Numbered Process) → Holds k → People ps → Holds (record k { processes = ps })
  with-processes k ps h all = record { processes = all; queues = h.queues; sets = h.sets }

  alive-within : (k : Kernel) (pid : ℕ) (a : Alive) → Holds k → pid ≡ own → IsFamilyWithin most a.row.family
      → Holds (with_alive k pid a)
  alive-within k pid a h own_is family =
      with-processes k (put k.processes pid (kernel.Living a)) h
      (all-put (IsPersonWithin own most) k.processes pid (kernel.Living a) (own_is, family) h.processes)

  num-within : (k : Kernel) (n : ℕ) → Holds k → Within (reply_with k n)
  num-within k n h = record { kernel = h; child = tt; wakes = tt }

  fail-within : (k : Kernel) (e : Errno) → Holds k → Within (refuse k e)
  fail-within k e h = record { kernel = h; child = tt; wakes = tt }

  named-within : {V : Type 0} (k : Kernel) (o : Option V) (f : V → Effect) → Holds k
      → ((v : V) → o ≡ Some v → Within (f v)) → Within (on_named k o f)
  named-within k None f h g = fail-within k _ h
  named-within k (Some v) f h g = g v refl

  -- ---- those who are woken

  woken-person : (pid : ℕ) (p : Process) → IsPersonWithin own most (pid, p)
      → IsPersonWithin own most (pid, where_living after_reply p)
  woken-person pid (kernel.Living a) h = h
  woken-person pid (kernel.Ended ending) h = tt
  woken-person pid kernel.Gone h = tt

  one-woken : (pid : ℕ) (ps : Numbered Process) → People ps → People (change_living ps pid after_reply)
  one-woken pid [] all = tt
  one-woken pid (p ∷ ps) all = (
    by_test (λ (x : Process). IsPersonWithin own most (p.0, x)) (nat_eq pid p.0) (where_living after_reply p.1) p.1
        (λ _. woken-person p.0 p.1 all.0) (λ _. all.0),
    one-woken pid ps all.1,
  )

  all-woken : (wakes : List Wake) (ps : Numbered Process) → People ps → People (fold wake_one ps wakes)
  all-woken [] ps all = all
  all-woken (w ∷ wakes) ps all = all-woken wakes (wake_one ps w) (one-woken w.pid ps all)

  waking-within : (k : Kernel) (reply : Option Reply) (wakes : List Wake) → Holds k → Of IsReplyShort reply
      → AllByRecursion IsWakeWithin wakes → Within (waking k reply wakes)
  waking-within k reply wakes h short all =
      record {
        kernel = with-processes k (fold wake_one k.processes wakes) h (all-woken wakes k.processes h.processes);
        child = short-is-no-child reply short;
        wakes = all;
      }

  -- ---- processes

  living-is : (k : Kernel) (pid : ℕ) (a : Alive) → Holds k → get k.processes pid ≡ Some (kernel.Living a)
      → IsPersonWithin own most (pid, kernel.Living a)
  living-is k pid a h is = all-get (IsPersonWithin own most) k.processes pid (kernel.Living a) h.processes is

  signal-within : (k : Kernel) (caller pid : ℕ) (target : Alive) (sig : SigArg) → Holds k
      → get k.processes pid ≡ Some (kernel.Living target) → Within (signal_living k caller pid target sig)
  signal-within k caller pid target Zero h is = num-within k 0 h
  signal-within k caller pid target Bad h is = fail-within k _ h
  signal-within k caller pid target (Is g) h is =
      let it = living-is k pid target h is
      in by_test (λ (x : Kernel). Within (reply_with x 0)) (nat_eq caller pid)
      (with_signals k pid target (raise target.row.signals g)) (with_alive k pid (raise_by_other target g))
      (λ _. num-within _ 0 (alive-within k pid _ h it.0 it.1))
      (λ _. num-within _ 0 (alive-within k pid (raise_by_other target g) h it.0 it.1))

  kill-at-within : (k : Kernel) (caller pid : ℕ) (sig : SigArg) (o : Option Process) → Holds k
      → get k.processes pid ≡ o → Within (kill_at k caller pid sig o)
  kill-at-within k caller pid sig None h is = fail-within k _ h
  kill-at-within k caller pid sig (Some kernel.Gone) h is = fail-within k _ h
  kill-at-within k caller pid sig (Some (kernel.Ended ending)) h is = num-within k 0 h
  kill-at-within k caller pid sig (Some (kernel.Living target)) h is = signal-within k caller pid target sig h is

  kill-within : (k : Kernel) (caller pid : ℕ) (sig : SigArg) → Holds k → Within (kill k caller pid sig)
  kill-within k caller pid Bad h = fail-within k _ h
  kill-within k caller pid Zero h = kill-at-within k caller pid Zero (get k.processes pid) h refl
  kill-within k caller pid (Is g) h = kill-at-within k caller pid (Is g) (get k.processes pid) h refl

  action-within : (k : Kernel) (pid : ℕ) (a : Alive) (r : Result Signals Errno) → Holds k → pid ≡ own
      → IsFamilyWithin most a.row.family → Within (action_effect k pid a r)
  action-within k pid a (Ok s) h own_is family = num-within _ 0 (alive-within k pid _ h own_is family)
  action-within k pid a (Err e) h own_is family = fail-within k e h

  reap-within : (k : Kernel) (pid : ℕ) (a : Alive) (nohang : Bool) (w : Waited) → Holds k → pid ≡ own
      → IsFamilyWithin most a.row.family → IsFoundWithin w → Within (reap_child k pid a nohang w)
  reap-within k pid a nohang (Found child ending) h own_is family found =
      record {
        kernel =
            with-processes k (processes_after_wait k.processes pid a child) h
            (all-put (IsPersonWithin own most) (put k.processes pid (kernel.Living (parent_after_wait a child))) child
            kernel.Gone tt
            (all-put (IsPersonWithin own most) k.processes pid (kernel.Living (parent_after_wait a child))
            (own_is, reaped-within most child a.row.family family) h.processes));
        child = found;
        wakes = tt;
      }
  reap-within k pid a true NotYet h own_is family found = num-within k 0 h
  reap-within k pid a false NotYet h own_is family found = record { kernel = h; child = tt; wakes = tt }
  reap-within k pid a nohang NoChild h own_is family found = fail-within k _ h

  -- ---- queues and sets

  queue-is : (k : Kernel) (id : ℕ) (q : Awaited Queue) → Holds k → get k.queues id ≡ Some q → IsQueueWithin q
  queue-is k id q h is = all-get (λ (e : ℕ × Awaited Queue). IsQueueWithin e.1) k.queues id q h.queues is

  set-is : (k : Kernel) (id : ℕ) (s : Awaited SemaphoreSet) → Holds k → get k.sets id ≡ Some s → IsSetWithin s
  set-is k id s h is = all-get (λ (e : ℕ × Awaited SemaphoreSet). IsSetWithin e.1) k.sets id s h.sets is

  put-queue-within : (k : Kernel) (id : ℕ) (q : Awaited Queue) → Holds k → IsQueueWithin q → Holds (with_queue k id q)
  put-queue-within k id q h own_is =
      record {
        processes = h.processes;
        queues = all-put (λ (e : ℕ × Awaited Queue). IsQueueWithin e.1) k.queues id q own_is h.queues;
        sets = h.sets;
      }

  put-set-within : (k : Kernel) (id : ℕ) (s : Awaited SemaphoreSet) → Holds k → IsSetWithin s
      → Holds (with_set k id s)
  put-set-within k id s h own_is =
      record {
        processes = h.processes;
        queues = h.queues;
        sets = all-put (λ (e : ℕ × Awaited SemaphoreSet). IsSetWithin e.1) k.sets id s own_is h.sets;
      }

  on-queue-within : (k : Kernel) (id : ℕ) (who : Waiting) → Holds k → HasRooms k → 1 ≤ who.ticket
      → Within (on_queue k id who)
  on-queue-within k id who h rooms ticket =
      named-within k (get k.queues id) (λ q. queue_effect k id (carry_out_on_queue q who)) h
      (λ q is.
      let c : IsQueueCarried (carry_out_on_queue q who) =
      queue-carried-within q who (queue-is k id q h is) ticket
      (all-get (λ (e : ℕ × Awaited Queue). length e.1.waiters < max_waiters) k.queues id q rooms.queues is)
      in waking-within (with_queue k id (carry_out_on_queue q who).object) (carry_out_on_queue q who).own
      (carry_out_on_queue q who).wakes
      (put-queue-within k id (carry_out_on_queue q who).object h c.object) c.own c.wakes)

  on-set-within : (k : Kernel) (id : ℕ) (who : Waiting) → Holds k → HasRooms k → 1 ≤ who.ticket
      → Within (on_set k id who)
  on-set-within k id who h rooms ticket =
      named-within k (get k.sets id) (λ s. set_effect k id (carry_out_on_set s who)) h
      (λ s is.
      let c : IsSetCarried (carry_out_on_set s who) =
      set-carried-within s who (set-is k id s h is) ticket
      (all-get (λ (e : ℕ × Awaited SemaphoreSet). length e.1.waiters < max_waiters) k.sets id s rooms.sets is)
      in waking-within (with_set k id (carry_out_on_set s who).object) (carry_out_on_set s who).own
      (carry_out_on_set s who).wakes
      (put-set-within k id (carry_out_on_set s who).object h c.object) c.own c.wakes)

  remove-queue-within : (k : Kernel) (id : ℕ) (q : Awaited Queue) → Holds k → IsQueueWithin q
      → Within (remove_queue k id q)
  remove-queue-within k id q h it =
      waking-within _ (Some (replies.Num 0)) _
      (record {
        processes = h.processes;
        queues = all-without (λ (e : ℕ × Awaited Queue). IsQueueWithin e.1) k.queues id h.queues;
        sets = h.sets;
      })
      (num-is-short 0) (removed-wakes-within q it.waiters)

  remove-set-within : (k : Kernel) (id : ℕ) (s : Awaited SemaphoreSet) → Holds k → IsSetWithin s
      → Within (remove_set k id s)
  remove-set-within k id s h it =
      waking-within _ (Some (replies.Num 0)) _
      (record {
        processes = h.processes;
        queues = h.queues;
        sets = all-without (λ (e : ℕ × Awaited SemaphoreSet). IsSetWithin e.1) k.sets id h.sets;
      })
      (num-is-short 0) (removed-wakes-within s it.waiters)

  -- ---- the calls that are served

  module _ (k : Kernel) (who : Waiting) (a : Alive) (h : Holds k) (family : IsFamilyWithin most a.row.family)
      (ticket : 1 ≤ who.ticket) where
    -- A call on a name leaves a kernel within the limits. A call that its process carries out on itself is of the
    -- node's own process, and one that may have to wait finds room.
    effect-by-within : (call : Call) → makes_something call ≡ false → is_some (name_for who.pid call) ≡ true
        → (is_own_home (home_of who.pid call) ≡ true → who.pid ≡ own) → (is_removal call ≡ false → HasRooms k)
        → Of Within (effect_by k who a call 0)
    effect-by-within (calls.Fork block) makes named own_is rooms = absurd (false≢true (sym makes))
    effect-by-within (calls.Exit status) makes named own_is rooms = absurd (false≢true named)
    effect-by-within (calls.Killed sig) makes named own_is rooms = absurd (false≢true named)
    effect-by-within calls.GetPid makes named own_is rooms = num-within k who.pid h
    effect-by-within (calls.Kill target sig) makes named own_is rooms = kill-within k who.pid target sig h
    effect-by-within (calls.SigAction sig act) makes named own_is rooms =
        action-within k who.pid a (act_on a.row.signals sig act) h (own_is refl) family
    effect-by-within (calls.SigProcMask how set) makes named own_is rooms =
        record { kernel = alive-within k who.pid _ h (own_is refl) family; child = tt; wakes = tt }
    effect-by-within calls.SigPending makes named own_is rooms = record { kernel = h; child = tt; wakes = tt }
    effect-by-within (calls.Handled sig) makes named own_is rooms = num-within k _ h
    effect-by-within (calls.WaitPid child nohang) makes named own_is rooms =
        reap-within k who.pid a nohang (wait a.row.family child) h (own_is refl) family
        (found-within (first_ended_child child a.row.family.ended) (list_any (matches child) a.row.family.living)
        (first-ended-within child a.row.family.ended family.ended))
    effect-by-within (calls.MsgGet key create excl) makes named own_is rooms = absurd (false≢true (sym makes))
    effect-by-within (calls.MsgSnd id class text nowait) makes named own_is rooms =
        on-queue-within k id who h (rooms refl) ticket
    effect-by-within (calls.MsgRcv id class size noerror nowait) makes named own_is rooms =
        on-queue-within k id who h (rooms refl) ticket
    effect-by-within (calls.MsgStat id) makes named own_is rooms = on-queue-within k id who h (rooms refl) ticket
    effect-by-within (calls.MsgSet id qbytes) makes named own_is rooms =
        on-queue-within k id who h (rooms refl) ticket
    effect-by-within (calls.MsgRmid id) makes named own_is rooms =
        named-within k (get k.queues id) (remove_queue k id) h
        (λ q is. remove-queue-within k id q h (queue-is k id q h is))
    effect-by-within (calls.SemGet key count create excl) makes named own_is rooms =
        absurd (false≢true (sym makes))
    effect-by-within (calls.SemOp id steps) makes named own_is rooms = on-set-within k id who h (rooms refl) ticket
    effect-by-within (calls.SemGetVal id num) makes named own_is rooms = on-set-within k id who h (rooms refl) ticket
    effect-by-within (calls.SemGetPid id num) makes named own_is rooms = on-set-within k id who h (rooms refl) ticket
    effect-by-within (calls.SemGetNcnt id num) makes named own_is rooms = on-set-within k id who h (rooms refl) ticket
    effect-by-within (calls.SemGetZcnt id num) makes named own_is rooms = on-set-within k id who h (rooms refl) ticket
    effect-by-within (calls.SemSetVal id num value) makes named own_is rooms =
        on-set-within k id who h (rooms refl) ticket
    effect-by-within (calls.SemGetAll id) makes named own_is rooms = on-set-within k id who h (rooms refl) ticket
    effect-by-within (calls.SemSetAll id values) makes named own_is rooms =
        on-set-within k id who h (rooms refl) ticket
    effect-by-within (calls.SemRmid id) makes named own_is rooms =
        named-within k (get k.sets id) (remove_set k id) h (λ s is. remove-set-within k id s h (set-is k id s h is))
    effect-by-within (calls.Withdraw name) makes named own_is rooms = tt

    -- the same of the call with which its caller would wait
    pub effect-within : makes_something who.call ≡ false → is_some (name_for who.pid who.call) ≡ true
        → (is_own_home (home_of who.pid who.call) ≡ true → who.pid ≡ own)
        → (is_removal who.call ≡ false → HasRooms k) → Of Within (effect k who a 0)
    effect-within makes named own_is rooms = effect-by-within who.call makes named own_is rooms
