-- Bodies, with the nodes and tickets of those who wait, after a line of the history that leaves those who wait as they
-- were: they are the parts of the kernel in which callers wait.
use Rattle.std.proofs.Common.{◌≡◌, ℕ, map, Option, Some, None, option_map, refl, ap, sym, ◌∙◌}
use Rattle.pico_base.specs.declared.numbers.Name.{Name}
use Rattle.pico_base.specs.declared.numbers.Name.TheVariants.{Proc, Msg, Sem}
use Rattle.number_maps.specs.Maps.{get}
use Rattle.kernel_model.specs.Kernel as plain
use Rattle.kernel_model.specs.Queue.{Queue}
use Rattle.kernel_model.specs.SemaphoreSet.{SemaphoreSet}
use Rattle.waiting_model.specs.Kernel.{Kernel, Process}
use Rattle.waiting_model.specs.Kernel as kernel
use Rattle.waiting_model.specs.Waiters.{Awaited, erased_waiter, unawaited}
use Rattle.waiting_laws.specs.InLine.{AlikeAt, IsAlike}
use Rattle.waiting_laws.proofs.Leads.{KeepsWaiters}
use Rattle.waiting_laws.proofs.Maps.{get-each}
use Rattle.waiting_laws.proofs.Marked.{waiters_of as waiting_at}
use Rattle.node_model.specs.Bodies.{Body, Living, Ended, Gone, AQueue, ASet, Removed, bare, body_in, erase, process_body, queue_body, set_body, waiters_of, whole_in, whole_process, whole_queue, whole_set}

-- ---- processes' bodies

-- bodies with each process's part of this kernel
abbrev pub process_bodies : plain.Kernel → (Name → Body) → Name → Body
process_bodies k bodies (Proc pid) = body_in k (Proc pid)
process_bodies k bodies name = bodies name

queue-no-process : (q : Awaited Queue) (o : Option plain.Process) → AQueue q ≡ process_body o → ⊥
queue-no-process q None h = cc
queue-no-process q (Some (plain.Living a)) h = cc
queue-no-process q (Some (plain.Ended ending)) h = cc
queue-no-process q (Some plain.Gone) h = cc

set-no-process : (s : Awaited SemaphoreSet) (o : Option plain.Process) → ASet s ≡ process_body o → ⊥
set-no-process s None h = cc
set-no-process s (Some (plain.Living a)) h = cc
set-no-process s (Some (plain.Ended ending)) h = cc
set-no-process s (Some plain.Gone) h = cc

bare-process : (v : Body) (o : Option plain.Process) → bare v ≡ process_body o → v ≡ process_body o
bare-process (Living row) o h = h
bare-process (Ended ending) o h = h
bare-process Gone o h = h
bare-process Removed o h = h
bare-process (AQueue q) o h = absurd (queue-no-process (unawaited q.state) o h)
bare-process (ASet s) o h = absurd (set-no-process (unawaited s.state) o h)

-- a process's body is the same whether those who wait are left out or not
pub erased-process : (v : Body) (o : Option plain.Process) → bare v ≡ process_body o → erase v ≡ process_body o
erased-process (Living row) o h = h
erased-process (Ended ending) o h = h
erased-process Gone o h = h
erased-process Removed o h = h
erased-process (AQueue q) o h = absurd (queue-no-process (unawaited q.state) o h)
erased-process (ASet s) o h = absurd (set-no-process (unawaited s.state) o h)

-- nobody waits at a process's body, so it is the kernel's part itself
pub process-body-is : (k : plain.Kernel) (v : Body) (pid : ℕ) → bare v ≡ body_in k (Proc pid) → v ≡ body_in k (Proc pid)
process-body-is k v pid h = bare-process v (get k.processes pid) h

alike-process : (o : Option Process) (p : Option plain.Process) → AlikeAt o p → whole_process o ≡ process_body p
alike-process None None h = refl
alike-process (Some (kernel.Living a)) (Some (plain.Living b)) h = ap Living h.0
alike-process (Some (kernel.Ended ending)) (Some (plain.Ended other)) h = ap Ended h
alike-process (Some kernel.Gone) (Some plain.Gone) h = refl
alike-process None (Some p) h = absurd h
alike-process (Some (kernel.Living a)) None h = absurd h
alike-process (Some (kernel.Ended ending)) None h = absurd h
alike-process (Some kernel.Gone) None h = absurd h
alike-process (Some (kernel.Living a)) (Some (plain.Ended other)) h = absurd h
alike-process (Some (kernel.Living a)) (Some plain.Gone) h = absurd h
alike-process (Some (kernel.Ended ending)) (Some (plain.Living b)) h = absurd h
alike-process (Some (kernel.Ended ending)) (Some plain.Gone) h = absurd h
alike-process (Some kernel.Gone) (Some (plain.Living b)) h = absurd h
alike-process (Some kernel.Gone) (Some (plain.Ended other)) h = absurd h

-- a process has the same body in both kernels
pub alike-body : (whole : Kernel) (k : plain.Kernel) → IsAlike whole k → (pid : ℕ)
    → whole_in whole (Proc pid) ≡ body_in k (Proc pid)
alike-body whole k alike pid = alike-process (get whole.processes pid) (get k.processes pid) (alike.processes pid)

-- ---- queues and sets

abbrev queue_in : Queue → Body → Queue
queue_in other (AQueue q) = q.state
queue_in other body = other

abbrev set_in : SemaphoreSet → Body → SemaphoreSet
set_in other (ASet s) = s.state
set_in other body = other

erased-queue : (v : Body) (o : Option (Awaited Queue)) → bare v ≡ queue_body (option_map (λ q. q.state) o)
    → map erased_waiter (waiters_of v) ≡ waiting_at o → erase v ≡ whole_queue o
erased-queue (AQueue x) (Some q) h w =
    let states : x.state ≡ q.state = ap (queue_in x.state) h in λ i. AQueue (record { state = states i; waiters = w i })
erased-queue (AQueue x) None h w = absurd (cc)
erased-queue Removed None h w = refl
erased-queue Removed (Some q) h w = absurd (cc)
erased-queue (ASet x) None h w = absurd (cc)
erased-queue (ASet x) (Some q) h w = absurd (cc)
erased-queue (Living row) None h w = absurd (cc)
erased-queue (Living row) (Some q) h w = absurd (cc)
erased-queue (Ended ending) None h w = absurd (cc)
erased-queue (Ended ending) (Some q) h w = absurd (cc)
erased-queue Gone None h w = absurd (cc)
erased-queue Gone (Some q) h w = absurd (cc)

erased-set : (v : Body) (o : Option (Awaited SemaphoreSet)) → bare v ≡ set_body (option_map (λ s. s.state) o)
    → map erased_waiter (waiters_of v) ≡ waiting_at o → erase v ≡ whole_set o
erased-set (ASet x) (Some s) h w =
    let states : x.state ≡ s.state = ap (set_in x.state) h in λ i. ASet (record { state = states i; waiters = w i })
erased-set (ASet x) None h w = absurd (cc)
erased-set Removed None h w = refl
erased-set Removed (Some s) h w = absurd (cc)
erased-set (AQueue x) None h w = absurd (cc)
erased-set (AQueue x) (Some s) h w = absurd (cc)
erased-set (Living row) None h w = absurd (cc)
erased-set (Living row) (Some s) h w = absurd (cc)
erased-set (Ended ending) None h w = absurd (cc)
erased-set (Ended ending) (Some s) h w = absurd (cc)
erased-set Gone None h w = absurd (cc)
erased-set Gone (Some s) h w = absurd (cc)

-- who waits at a body, without nodes and tickets
waiters-erased : (v : Body) → waiters_of (erase v) ≡ map erased_waiter (waiters_of v)
waiters-erased (AQueue q) = refl
waiters-erased (ASet s) = refl
waiters-erased (Living row) = refl
waiters-erased (Ended ending) = refl
waiters-erased Gone = refl
waiters-erased Removed = refl

queue-waiters : (o : Option (Awaited Queue)) → waiters_of (whole_queue o) ≡ waiting_at o
queue-waiters None = refl
queue-waiters (Some q) = refl

set-waiters : (o : Option (Awaited SemaphoreSet)) → waiters_of (whole_set o) ≡ waiting_at o
set-waiters None = refl
set-waiters (Some s) = refl

module _ (whole next : Kernel) (last : plain.Kernel) (alike : IsAlike next last) (keeps : KeepsWaiters whole next)
    (before after : Name → Body) (were : (name : Name) → erase (before name) ≡ whole_in whole name)
    (parts : (name : Name) → bare (after name) ≡ body_in last name)
    (same : (name : Name) → waiters_of (after name) ≡ waiters_of (before name)) where
  queue-states : (id : ℕ) → get last.queues id ≡ option_map (λ q. q.state) (get next.queues id)
  queue-states id = ap (λ m. get m id) (sym alike.queues) ∙ get-each (λ q. q.state) next.queues id

  set-states : (id : ℕ) → get last.sets id ≡ option_map (λ s. s.state) (get next.sets id)
  set-states id = ap (λ m. get m id) (sym alike.sets) ∙ get-each (λ s. s.state) next.sets id

  still-waiting : (name : Name) → map erased_waiter (waiters_of (after name)) ≡ waiters_of (whole_in whole name)
  still-waiting name =
      ap (map erased_waiter) (same name) ∙ sym (waiters-erased (before name)) ∙ ap waiters_of (were name)

  -- Each body is the next kernel's part, where it is the other one's without those who wait, and these are as before.
  pub bodies-kept : (name : Name) → erase (after name) ≡ whole_in next name
  bodies-kept (Proc pid) =
      erased-process (after (Proc pid)) (get last.processes pid) (parts (Proc pid))
      ∙ sym (alike-body next last alike pid)
  bodies-kept (Msg id) =
      erased-queue (after (Msg id)) (get next.queues id) (parts (Msg id) ∙ ap queue_body (queue-states id))
      (still-waiting (Msg id) ∙ queue-waiters (get whole.queues id) ∙ sym (keeps.queues id))
  bodies-kept (Sem id) =
      erased-set (after (Sem id)) (get next.sets id) (parts (Sem id) ∙ ap set_body (set-states id))
      (still-waiting (Sem id) ∙ set-waiters (get whole.sets id) ∙ sym (keeps.sets id))
