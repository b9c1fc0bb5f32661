-- The deeds of a kernel that a history leads to are read back, where its bodies are small and its families fit.
use Rattle.std.proofs.Common.{◌≡◌, ◌∙◌, ℕ, ◌≤◌, true, false, List, [], ◌∷◌, Option, Some, None, refl, ap, subst, sym}
use Rattle.std.proofs.lemmas.Bool.{false≢true}
use Rattle.std.specs.Prelude.{All}
use Rattle.std.specs.List.{AllByRecursion}
use Rattle.std.proofs.lemmas.List.Elements.{recursion_from_All, All-head, All-tail}
use Rattle.pico_base.specs.declared.numbers.Name.{Name}
use Rattle.pico_base.specs.declared.numbers.Name.TheVariants.{Proc, Msg, Sem}
use Rattle.number_maps.specs.Maps.{get}
use Rattle.kernel_model.specs.Kernel.{Kernel, Process}
use Rattle.kernel_model.specs.Kernel as kernel
use Rattle.kernel_model.specs.Queue.{Message, Queue, empty_queue}
use Rattle.kernel_model.specs.Row.{Alive, Row, new_row}
use Rattle.kernel_model.specs.SemaphoreSet.{Semaphore, SemaphoreSet, set_of}
use Rattle.kernel_laws.specs.Reachable.{IsReachableKernel}
use Rattle.kernel_laws.specs.Queues.{IsMessage, IsQueueWithinLimits}
use Rattle.kernel_laws.specs.Sets.{IsSetWithinLimits}
use Rattle.kernel_laws.proofs.People.{to-living}
use Rattle.kernel_laws.proofs.QueueLaws.{queues_are_within_limits_lemma}
use Rattle.kernel_laws.proofs.SetLaws.{sets_are_within_limits_lemma}
use Rattle.kernel_laws.proofs.ValidLaws.{signals_are_sound_lemma}
use Rattle.fork_wait.specs.Spelling.{HasBytes as HasFamilyBytes}
use Rattle.sysv_msg.specs.Limits.{IsSendable}
use Rattle.waiting_model.specs.Waiters.{Awaited}
use Rattle.node_model.specs.Bodies.{Body, Living, Ended, Gone, AQueue, ASet, Removed, bare, body_in, fits_name, process_body, queue_body, set_body}
use Rattle.node_model.specs.Spelling.{pack, read_deed}
use Rattle.deed_laws.specs.Small.{AreSmallSignals, HasSmallLast, HasSmallType, IsSmall}
use Rattle.deed_laws.specs.Spelled.{HasBytes, HasQueueBytes, HasRowBytes, HasSetBytes, HaveQueueBytes, HaveSetBytes, WaitersHaveBytes}
use Rattle.deed_laws.proofs.Reading.{deed-again}

sendable : (ms : List Message) → All IsMessage ms → All HasSmallType ms → AllByRecursion IsSendable ms
sendable [] h small = tt
sendable (m ∷ ms) h small =
    let first : IsMessage m = All-head IsMessage m ms h
    in (
      record { class = first.class; fits = All-head HasSmallType m ms small; text = first.text },
      sendable ms (All-tail IsMessage m ms h) (All-tail HasSmallType m ms small),
    )

queue-bytes : (q : Awaited Queue) → IsQueueWithinLimits q.state → IsSmall (AQueue q) → HaveQueueBytes q
    → HasQueueBytes q
queue-bytes q w small waiting =
    record {
      limits = record {
        qbytes = w.limit;
        count = w.count;
        bytes = w.bytes;
        each = sendable q.state.messages w.messages small.types;
      };
      sender = small.sender;
      receiver = small.receiver;
      waiting = waiting;
    }

set-bytes : (s : Awaited SemaphoreSet) → IsSetWithinLimits s.state → IsSmall (ASet s) → HaveSetBytes s → HasSetBytes s
set-bytes s w small waiting =
    record {
      limits = record {
        some = w.least;
        count = w.most;
        each = recursion_from_All (λ (x : Semaphore). x.value ≤ 32767) s.state.semaphores w.values;
      };
      processes = recursion_from_All HasSmallLast s.state.semaphores small;
      waiting = waiting;
    }

row-bytes : (k : Kernel) (pid : ℕ) (a : Alive) → IsReachableKernel k → get k.processes pid ≡ Some (kernel.Living a)
    → AreSmallSignals a.row.signals → HasFamilyBytes a.row.family → HasRowBytes a.row
row-bytes k pid a reachable is small family =
    record {
      signals = record {
        held = record {
          sound = signals_are_sound_lemma k reachable pid a (to-living k.processes pid a is);
          no_kill = small.no_kill;
        };
        counts = small.counts;
      };
      family = family;
    }

-- ---- a name's body, which without those who wait is the kernel's part

process-fits : (pid : ℕ) (o : Option Process) → fits_name (Proc pid) (process_body o) ≡ true
process-fits pid None = refl
process-fits pid (Some (kernel.Living a)) = refl
process-fits pid (Some (kernel.Ended e)) = refl
process-fits pid (Some kernel.Gone) = refl

queue-fits : (id : ℕ) (o : Option Queue) → fits_name (Msg id) (queue_body o) ≡ true
queue-fits id None = refl
queue-fits id (Some q) = refl

set-fits : (id : ℕ) (o : Option SemaphoreSet) → fits_name (Sem id) (set_body o) ≡ true
set-fits id None = refl
set-fits id (Some s) = refl

part-fits : (k : Kernel) (name : Name) → fits_name name (body_in k name) ≡ true
part-fits k (Proc pid) = process-fits pid (get k.processes pid)
part-fits k (Msg id) = queue-fits id (get k.queues id)
part-fits k (Sem id) = set-fits id (get k.sets id)

bare-fits : (name : Name) (body : Body) → fits_name name (bare body) ≡ fits_name name body
bare-fits (Proc pid) (AQueue q) = refl
bare-fits (Proc pid) (ASet s) = refl
bare-fits (Msg id) (AQueue q) = refl
bare-fits (Msg id) (ASet s) = refl
bare-fits (Sem id) (AQueue q) = refl
bare-fits (Sem id) (ASet s) = refl
bare-fits name (Living row) = refl
bare-fits name (Ended e) = refl
bare-fits name Gone = refl
bare-fits name Removed = refl

-- such a body is of its name's kind
pub body-fits-name : (k : Kernel) (name : Name) (body : Body) → bare body ≡ body_in k name
    → fits_name name body ≡ true
body-fits-name k name body is = sym (bare-fits name body) ∙ ap (fits_name name) is ∙ part-fits k name

abbrev row-in : Body → Row
row-in (Living row) = row
row-in body = new_row

abbrev queue-in : Body → Queue
queue-in (AQueue q) = q.state
queue-in body = empty_queue

abbrev set-in : Body → SemaphoreSet
set-in (ASet s) = s.state
set-in body = set_of []

living-has : (k : Kernel) (pid : ℕ) (o : Option Process) (row : Row) → IsReachableKernel k
    → get k.processes pid ≡ o → Living row ≡ process_body o → AreSmallSignals row.signals
    → HasFamilyBytes row.family → HasRowBytes row
living-has k pid None row reachable there is small family = absurd cc
living-has k pid (Some (kernel.Living a)) row reachable there is small family =
    let same : row ≡ a.row = ap row-in is
    in subst HasRowBytes (sym same)
    (row-bytes k pid a reachable there (subst (λ (r : Row). AreSmallSignals r.signals) same small)
    (subst (λ (r : Row). HasFamilyBytes r.family) same family))
living-has k pid (Some (kernel.Ended e)) row reachable there is small family = absurd cc
living-has k pid (Some kernel.Gone) row reachable there is small family = absurd cc

awaited-queue-has : (k : Kernel) (id : ℕ) (o : Option Queue) (q : Awaited Queue) → IsReachableKernel k
    → get k.queues id ≡ o → bare (AQueue q) ≡ queue_body o → IsSmall (AQueue q) → HaveQueueBytes q → HasQueueBytes q
awaited-queue-has k id None q reachable there is small waiting = absurd cc
awaited-queue-has k id (Some plain) q reachable there is small waiting =
    queue-bytes q
    (queues_are_within_limits_lemma k reachable id q.state (there ∙ ap Some (sym (ap queue-in is)))) small waiting

awaited-set-has : (k : Kernel) (id : ℕ) (o : Option SemaphoreSet) (s : Awaited SemaphoreSet) → IsReachableKernel k
    → get k.sets id ≡ o → bare (ASet s) ≡ set_body o → IsSmall (ASet s) → HaveSetBytes s → HasSetBytes s
awaited-set-has k id None s reachable there is small waiting = absurd cc
awaited-set-has k id (Some plain) s reachable there is small waiting =
    set-bytes s (sets_are_within_limits_lemma k reachable id s.state (there ∙ ap Some (sym (ap set-in is)))) small
    waiting

-- a living process's family has bytes
abbrev pub FamilyHasBytes : Body → Type 0
FamilyHasBytes (Living row) = HasFamilyBytes row.family
FamilyHasBytes body = Unit {0}

has-bytes : (k : Kernel) (name : Name) (body : Body) → IsReachableKernel k → bare body ≡ body_in k name
    → fits_name name body ≡ true → IsSmall body → FamilyHasBytes body → WaitersHaveBytes body → HasBytes name body
has-bytes k (Proc p) (Living row) reachable is fits small family waiting =
    living-has k p (get k.processes p) row reachable refl is small family
has-bytes k (Proc p) (Ended e) reachable is fits small family waiting = tt
has-bytes k (Proc p) Gone reachable is fits small family waiting = tt
has-bytes k (Msg id) (AQueue q) reachable is fits small family waiting =
    awaited-queue-has k id (get k.queues id) q reachable refl is small waiting
has-bytes k (Msg id) Removed reachable is fits small family waiting = tt
has-bytes k (Sem id) (ASet s) reachable is fits small family waiting =
    awaited-set-has k id (get k.sets id) s reachable refl is small waiting
has-bytes k (Sem id) Removed reachable is fits small family waiting = tt
has-bytes k (Proc p) body reachable is fits small family waiting = absurd (false≢true fits)
has-bytes k (Msg id) body reachable is fits small family waiting = absurd (false≢true fits)
has-bytes k (Sem id) body reachable is fits small family waiting = absurd (false≢true fits)

-- What the kernel's part is like, the body is, whoever waits there.

small-whole : (body : Body) → IsSmall (bare body) → IsSmall body
small-whole (Living row) h = h
small-whole (Ended e) h = h
small-whole Gone h = h
small-whole (AQueue q) h = h
small-whole (ASet s) h = h
small-whole Removed h = h

-- Each name's deed, packed, is read back, with those who wait there.
pub deeds-are-read : (k : Kernel) (name : Name) (body : Body) → IsReachableKernel k → bare body ≡ body_in k name
    → IsSmall (body_in k name)
    → ((pid : ℕ) (row : Row) → body_in k (Proc pid) ≡ Living row → HasFamilyBytes row.family)
    → WaitersHaveBytes body → read_deed (pack name body) ≡ Some body
deeds-are-read k name body reachable is small families waiting =
    let fits = body-fits-name k name body is
    in deed-again name body
    (has-bytes k name body reachable is fits (small-whole body (subst IsSmall (sym is) small))
    (families-are name body is fits) waiting)
  where
    families-are : (n : Name) (x : Body) → bare x ≡ body_in k n → fits_name n x ≡ true → FamilyHasBytes x
    families-are (Proc pid) (Living row) same fits = families pid row (sym same)
    families-are (Msg id) (Living row) same fits = absurd (false≢true fits)
    families-are (Sem id) (Living row) same fits = absurd (false≢true fits)
    families-are n (Ended e) same fits = tt
    families-are n Gone same fits = tt
    families-are n (AQueue q) same fits = tt
    families-are n (ASet s) same fits = tt
    families-are n Removed same fits = tt
