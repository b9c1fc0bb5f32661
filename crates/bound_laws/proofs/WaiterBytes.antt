-- Whoever waits at a queue or a set has bytes, and none of their calls could go on: so bodies with those who wait are
-- read back.
use Rattle.std.proofs.Common.{◌≡◌, ℕ, ◌≤◌, true, List, [], ◌∷◌, length, map, Option, Some, None, refl, ap, sym, subst, ◌∙◌, arith}
use Rattle.std.proofs.lemmas.Bool.{false≢true, lt-ltb}
use Rattle.std.proofs.lemmas.List.Elements.{All-contains, All-from_recursion}
use Rattle.std.specs.List.{AllByRecursion}
use Rattle.std.specs.Prelude.{Contains}
use Rattle.pico_base.specs.declared.numbers.Name.{Name}
use Rattle.pico_base.specs.declared.numbers.Name.TheVariants.{Proc, Msg, Sem}
use Rattle.pico_base.specs.declared.script.Script.{Script}
use Rattle.number_maps.specs.Maps.{get}
use Rattle.kernel_model.specs.Queue.{Queue, empty_queue}
use Rattle.kernel_model.specs.SemaphoreSet.{SemaphoreSet, set_of}
use Rattle.kernel_model.specs.Script.{IsSoundScript}
use Rattle.kernel_laws.specs.Reachable.{IsReachableKernel}
use Rattle.kernel_laws.proofs.Members.{contains-first, contains-later}
use Rattle.waiting_model.specs.declared.callers.Waiting.{Waiting}
use Rattle.waiting_model.specs.Queue.{try_queue}
use Rattle.waiting_model.specs.SemaphoreSet.{try_set}
use Rattle.waiting_model.specs.Waiters.{Awaited, IsSettled, Try, erased, erased_waiter, unawaited}
use Rattle.waiting_laws.proofs.Maps.{all-get}
use Rattle.waiter_fields.specs.Ranges.{IsWaiter}
use Rattle.waiter_fields.specs.Waiters.{are_different, processes_of}
use Rattle.sysv_msg.specs.Body.{IsWaitingCall}
use Rattle.sysv_sem.specs.Body.{HasWaiterRanges}
use Rattle.sysv_sem.specs.Waiters.{HaveOwnProcesses, IsSetWaiter}
use Rattle.node_model.specs.declared.held.Held.{Held}
use Rattle.node_model.specs.Bodies.{Body, Living, Ended, Gone, AQueue, ASet, Removed, erase, fits_name, waiters_of, whole_queue, whole_set}
use Rattle.entry_laws.specs.Entering.{is_used_name}
use Rattle.entry_laws.proofs.History.{history-reachable}
use Rattle.deed_laws.specs.Spelled.{HaveQueueBytes, HaveSetBytes, WaitersHaveBytes}
use Rattle.deed_laws.proofs.Families.{used-queue-is-small, used-set-is-small}
use Rattle.deed_laws.proofs.Within.{body-fits-name}
use Rattle.world_model.specs.World.{World}
use Rattle.world_laws.specs.Cancels.{Owing}
use Rattle.world_laws.specs.Invariant.{HoldsOwing}
use Rattle.world_laws.specs.Places.{Beside}
use Rattle.world_laws.specs.Wholes.{HasWhole}
use Rattle.bound_laws.proofs.WhoWaits.{HasWaiterNumbers, IsWaitingOp, few-wait, own-nodes, own-processes, processes-differ, queue-call, set-call, waiter-is-on, waiter-is-ranged, waiter-numbers, waiter-parks}

-- ---- none of them could go on

abbrev queue-in : Body → Awaited Queue
queue-in (AQueue q) = q
queue-in body = unawaited empty_queue

abbrev set-in : Body → Awaited SemaphoreSet
set-in (ASet s) = s
set-in body = unawaited (set_of [])

queue-there : (q : Awaited Queue) (o : Option (Awaited Queue)) → erase (AQueue q) ≡ whole_queue o → o ≡ Some (erased q)
queue-there q None is = absurd cc
queue-there q (Some other) is = ap Some (sym (ap queue-in is))

set-there : (s : Awaited SemaphoreSet) (o : Option (Awaited SemaphoreSet)) → erase (ASet s) ≡ whole_set o
    → o ≡ Some (erased s)
set-there s None is = absurd cc
set-there s (Some other) is = ap Some (sym (ap set-in is))

-- a try doesn't look at nodes and tickets
settled-with-nodes : {T : Type 0} (try : Try T) (state : T) (ws : List Waiting)
    → AllByRecursion (λ w. try state w.pid w.call ≡ None) (map erased_waiter ws)
    → AllByRecursion (λ w. try state w.pid w.call ≡ None) ws
settled-with-nodes try state [] all = tt
settled-with-nodes try state (w ∷ ws) all = (all.0, settled-with-nodes try state ws all.1)

-- what holds of each that is among them holds of all
all-contained : {A : Type 0} (P : A → Type 0) (xs : List A) → ((x : A) → Contains xs x → P x) → AllByRecursion P xs
all-contained P [] each = tt
all-contained P (x ∷ xs) each = (
  each x (contains-first x xs),
  all-contained P xs (λ y there. each y (contains-later x xs y there)),
)

among-all : {A : Type 0} (P : A → Type 0) (xs : List A) (x : A) → AllByRecursion P xs → Contains xs x → P x
among-all P xs x all there = All-contains P xs x (All-from_recursion P xs all) there

-- ---- in a world

module _ (script : Script) (sound : IsSoundScript script) (w : World) (hand : List Held) (owes : Owing) (b : Beside)
    (holds : HoldsOwing script w hand owes b) (whole : HasWhole w b) where
  reachable : IsReachableKernel b.kernel
  reachable = history-reachable script b.lines b.kernel b.places holds.history

  queue-settled : (id : ℕ) (q : Awaited Queue) → b.body (Msg id) ≡ AQueue q → IsSettled try_queue q
  queue-settled id q is =
      settled-with-nodes try_queue q.state q.waiters
      (all-get (IsSettled try_queue) b.whole.queues id (erased q) whole.sound.settled.queues
      (queue-there q (get b.whole.queues id) (sym (ap erase is) ∙ whole.bodies (Msg id))))

  set-settled : (id : ℕ) (s : Awaited SemaphoreSet) → b.body (Sem id) ≡ ASet s → IsSettled try_set s
  set-settled id s is =
      settled-with-nodes try_set s.state s.waiters
      (all-get (IsSettled try_set) b.whole.sets id (erased s) whole.sound.settled.sets
      (set-there s (get b.whole.sets id) (sym (ap erase is) ∙ whole.bodies (Sem id))))

  -- one of them
  module _ (name : Name) (v : Waiting) (there : Contains (waiters_of (b.body name)) v) where
    numbers : HasWaiterNumbers v
    numbers = waiter-numbers script sound w hand owes b holds name v there

    waiter-has : (call : IsWaitingCall v.call) → IsWaiter IsWaitingCall v
    waiter-has call =
        let low = numbers.positive
        in record {
          caller = numbers.caller;
          ticket = numbers.ticket;
          positive = lt-ltb 0 v.ticket (omega (arith, low));
          pid = numbers.pid;
          call = call;
        }

    waiter-ranges : IsWaitingOp v.call → HasWaiterRanges v
    waiter-ranges op = (numbers.caller, record { ticket = numbers.ticket; pid = numbers.pid; call = op.ranges })

  queue-bytes : (id : ℕ) (q : Awaited Queue) → is_used_name b.kernel (Msg id) ≡ true → b.body (Msg id) ≡ AQueue q
      → HaveQueueBytes q
  queue-bytes id q used is =
      let name : Name = Msg id
      in let settled : IsSettled try_queue q = queue-settled id q is
      in let mine = ap waiters_of is
      in record {
        waiters = record {
          few = subst (λ (vs : List Waiting). length vs ≤ 32) mine (few-wait script sound w hand owes b holds name);
          different = subst (λ (vs : List Waiting). are_different (processes_of vs) ≡ true) mine
              (processes-differ (waiters_of (b.body name)) (own-nodes script sound w hand owes b holds name));
          each = all-contained (IsWaiter IsWaitingCall) q.waiters
              (λ v among.
              let there : Contains (waiters_of (b.body name)) v =
              subst (λ (vs : List Waiting). Contains vs v) (sym mine) among
              in waiter-has name v there
              (queue-call v.pid id v.call q.state (used-queue-is-small b.kernel reachable id used)
              (waiter-is-ranged script sound w hand owes b holds name v there)
              (waiter-is-on script sound w hand owes b holds name v there)
              (waiter-parks script sound w hand owes b holds name v there)
              (among-all (λ u. try_queue q.state u.pid u.call ≡ None) q.waiters v settled among)));
        };
        settled = settled;
      }

  set-bytes : (id : ℕ) (s : Awaited SemaphoreSet) → is_used_name b.kernel (Sem id) ≡ true → b.body (Sem id) ≡ ASet s
      → HaveSetBytes s
  set-bytes id s used is =
      let name : Name = Sem id
      in let settled : IsSettled try_set s = set-settled id s is
      in let mine = ap waiters_of is
      in let op : (v : Waiting) → Contains s.waiters v → IsWaitingOp v.call =
      λ v among.
      let there : Contains (waiters_of (b.body name)) v =
      subst (λ (vs : List Waiting). Contains vs v) (sym mine) among
      in set-call v.pid id v.call s.state (used-set-is-small b.kernel reachable id used)
      (waiter-is-ranged script sound w hand owes b holds name v there)
      (waiter-is-on script sound w hand owes b holds name v there)
      (waiter-parks script sound w hand owes b holds name v there)
      (among-all (λ u. try_set s.state u.pid u.call ≡ None) s.waiters v settled among)
      in record {
        waiters = record {
          few = subst (λ (vs : List Waiting). length vs ≤ 32) mine (few-wait script sound w hand owes b holds name);
          each = all-contained IsSetWaiter s.waiters
              (λ v among.
              let there : Contains (waiters_of (b.body name)) v =
              subst (λ (vs : List Waiting). Contains vs v) (sym mine) among
              in record { ticket = (numbers name v there).positive; call = (op v among).short });
          apart = subst HaveOwnProcesses mine
              (own-processes (waiters_of (b.body name)) (own-nodes script sound w hand owes b holds name));
        };
        ranges = all-contained HasWaiterRanges s.waiters
            (λ v among.
            waiter-ranges name v (subst (λ (vs : List Waiting). Contains vs v) (sym mine) among) (op v among));
        settled = settled;
      }

  -- Whoever waits at a used name has bytes.
  pub waiters-have-bytes : (name : Name) → is_used_name b.kernel name ≡ true → WaitersHaveBytes (b.body name)
  waiters-have-bytes name used =
      by name (b.body name) used refl (body-fits-name b.kernel name (b.body name) (holds.names name).parts)
    where
      by : (n : Name) (body : Body) → is_used_name b.kernel n ≡ true → b.body n ≡ body → fits_name n body ≡ true
          → WaitersHaveBytes body
      by (Msg id) (AQueue q) named is fits = queue-bytes id q named is
      by (Sem id) (ASet s) named is fits = set-bytes id s named is
      by (Proc pid) (AQueue q) named is fits = absurd (false≢true fits)
      by (Proc pid) (ASet s) named is fits = absurd (false≢true fits)
      by (Msg id) (ASet s) named is fits = absurd (false≢true fits)
      by (Sem id) (AQueue q) named is fits = absurd (false≢true fits)
      by n (Living row) named is fits = tt
      by n (Ended e) named is fits = tt
      by n Gone named is fits = tt
      by n Removed named is fits = tt
