-- What an entry of a small call leaves of bodies is small where they were.
use Rattle.std.proofs.Common.{◌≡◌, ℕ, ◌<◌, ◌^◌, Bool, true, false, not, ◌&&◌, ◌||◌, nat_eq, nat_le, List, [], ◌∷◌, fold, Option, Some, None, Result, Ok, Err, refl, ap, sym, subst, ◌∙◌, inl, inr}
use Rattle.std.specs.Prelude.{if◌then◌else◌, is_some}
use Rattle.std.proofs.lemmas.Bool.{cases_Bool, false≢true}
use Rattle.pico_base.specs.declared.call.Call.{Call}
use Rattle.pico_base.specs.declared.call.Call.TheVariants as calls
use Rattle.pico_base.specs.declared.call.Home.TheVariants as homes
use Rattle.pico_base.specs.declared.numbers.Name.{Name}
use Rattle.pico_base.specs.declared.numbers.Name.TheVariants.{Proc, Msg, Sem}
use Rattle.pico_base.specs.declared.reply.Ending.{Ending}
use Rattle.pico_base.specs.declared.reply.EndedChild.{EndedChild}
use Rattle.pico_base.specs.declared.reply.Errno.{Errno}
use Rattle.pico_base.specs.declared.reply.Outcome.{Outcome}
use Rattle.pico_base.specs.declared.signal.SigArg.TheVariants.{Zero, Is, Bad}
use Rattle.number_maps.specs.Maps.{Numbered, get, put}
use Rattle.kernel_model.specs.Effect.{Effect, refuse, reply_with}
use Rattle.kernel_model.specs.Kernel.{Kernel, Parent, Process, living_at, opening, parent_in, with_alive}
use Rattle.kernel_model.specs.Kernel as kernel
use Rattle.kernel_model.specs.ProcessCalls.{bury, bury_all, end_under, process_after_end, processes_after_end}
use Rattle.kernel_model.specs.Queue.{Queue, empty_queue}
use Rattle.kernel_model.specs.QueueCalls.{get_queue_at, new_queue}
use Rattle.kernel_model.specs.Row.{Alive, Spent, ignores_children, with_ended_child}
use Rattle.kernel_model.specs.SemaphoreSet.{SemaphoreSet, new_set}
use Rattle.kernel_model.specs.SetCalls.{find_set, get_set_at, new_set_of, set_size}
use Rattle.kernel_model.specs.Transition.{effect, finish_call, successor, transition}
use Rattle.kernel_model.specs.Valid.{IsValid}
use Rattle.kernel_model.specs.Waiting.{is_waiting}
use Rattle.kernel_laws.proofs.EndChanges.{parent-is}
use Rattle.kernel_laws.proofs.People.{each-put, from-living}
use Rattle.kernel_laws.proofs.Plain.{Of, by_test, not_some, of_choice}
use Rattle.kernel_laws.proofs.Steps.{Step, step}
use Rattle.node_model.specs.Bodies.{body_in, process_body, queue_body, set_body}
use Rattle.node_model.specs.Carrying.{is_served, makes_or_ends, on_body}
use Rattle.node_model.specs.Serving.{name_for, name_in}
use Rattle.serve_laws.specs.Laws.{Follows, IsServed, is_found}
use Rattle.serve_laws.proofs.Steps.{served-calls}
use Rattle.entry_laws.proofs.Names.{name-cases}
use Rattle.deed_laws.specs.Small.{AreSmallSignals, IsSmall, IsSmallCall, IsSmallQueue, IsSmallSet}
use Rattle.deed_laws.proofs.Small.{small-empty, small-inherited, small-left, small-made, small-new, small-noted}
use Rattle.bound_laws.proofs.Tables.{put-thing}

-- each body of the kernel is small
abbrev pub AreAllSmall : Kernel → Type 0
AreAllSmall k = (name : Name) → IsSmall (body_in k name)

-- ---- the same by tables

abbrev AreSmallRows : Numbered Process → Type 0
AreSmallRows ps = (p : ℕ) (a : Alive) → get ps p ≡ Some (kernel.Living a) → AreSmallSignals a.row.signals

abbrev AreSmallQueues : Numbered Queue → Type 0
AreSmallQueues queues = (id : ℕ) (q : Queue) → get queues id ≡ Some q → IsSmallQueue q

abbrev AreSmallSets : Numbered SemaphoreSet → Type 0
AreSmallSets sets = (id : ℕ) (s : SemaphoreSet) → get sets id ≡ Some s → IsSmallSet s

record HasSmallTables (k : Kernel) : Type 0 where
  rows : AreSmallRows k.processes
  queues : AreSmallQueues k.queues
  sets : AreSmallSets k.sets

tables-of : (k : Kernel) → AreAllSmall k → HasSmallTables k
tables-of k all = record {
  rows = λ p a is. subst (λ (o : Option Process). IsSmall (process_body o)) is (all (Proc p));
  queues = λ id q is. subst (λ (o : Option Queue). IsSmall (queue_body o)) is (all (Msg id));
  sets = λ id s is. subst (λ (o : Option SemaphoreSet). IsSmall (set_body o)) is (all (Sem id));
}

row-of-table : (k : Kernel) (p : ℕ) (o : Option Process) → AreSmallRows k.processes → get k.processes p ≡ o
    → IsSmall (process_body o)
row-of-table k p None h is = tt
row-of-table k p (Some (kernel.Living a)) h is = h p a is
row-of-table k p (Some (kernel.Ended ending)) h is = tt
row-of-table k p (Some kernel.Gone) h is = tt

queue-of-table : (k : Kernel) (id : ℕ) (o : Option Queue) → AreSmallQueues k.queues → get k.queues id ≡ o
    → IsSmall (queue_body o)
queue-of-table k id None h is = tt
queue-of-table k id (Some q) h is = h id q is

set-of-table : (k : Kernel) (id : ℕ) (o : Option SemaphoreSet) → AreSmallSets k.sets → get k.sets id ≡ o
    → IsSmall (set_body o)
set-of-table k id None h is = tt
set-of-table k id (Some s) h is = h id s is

all-of : (k : Kernel) → HasSmallTables k → AreAllSmall k
all-of k t (Proc p) = row-of-table k p (get k.processes p) t.rows refl
all-of k t (Msg id) = queue-of-table k id (get k.queues id) t.queues refl
all-of k t (Sem id) = set-of-table k id (get k.sets id) t.sets refl

-- ---- changes of a table

living-same : (a b : Alive) → kernel.Living a ≡ kernel.Living b → a ≡ b
living-same a b h = cc

gone-lives : (a : Alive) → kernel.Gone ≡ kernel.Living a → ⊥
gone-lives a h = cc

ended-lives : (ending : Ending) (a : Alive) → kernel.Ended ending ≡ kernel.Living a → ⊥
ended-lives ending a h = cc

put-living : (ps : Numbered Process) (p : ℕ) (a : Alive) → AreSmallRows ps → AreSmallSignals a.row.signals
    → AreSmallRows (put ps p (kernel.Living a))
put-living ps p a each own =
    each-put (λ n x. AreSmallSignals x.row.signals) ps p (kernel.Living a) each
    (λ x is. subst (λ (y : Alive). AreSmallSignals y.row.signals) (living-same a x is) own)

put-gone : (ps : Numbered Process) (p : ℕ) → AreSmallRows ps → AreSmallRows (put ps p kernel.Gone)
put-gone ps p each =
    each-put (λ n x. AreSmallSignals x.row.signals) ps p kernel.Gone each (λ x is. absurd (gone-lives x is))

put-over : (ps : Numbered Process) (p : ℕ) (ignored : Bool) (ending : Ending) → AreSmallRows ps
    → AreSmallRows (put ps p (process_after_end ignored ending))
put-over ps p true ending each = put-gone ps p each
put-over ps p false ending each =
    each-put (λ n x. AreSmallSignals x.row.signals) ps p (kernel.Ended ending) each
    (λ x is. absurd (ended-lives ending x is))

buried-small : (es : List EndedChild) (ps : Numbered Process) → AreSmallRows ps → AreSmallRows (fold bury ps es)
buried-small [] ps each = each
buried-small (e ∷ es) ps each = buried-small es (bury ps e) (put-gone ps e.pid each)

-- ---- calls that make something, or end their process

ended-small : (ps qs : Numbered Process) (pid : ℕ) (ending : Ending) (o : Option Parent) → AreSmallRows ps
    → AreSmallRows qs → ((p : Parent) → o ≡ Some p → get ps p.pid ≡ Some (kernel.Living p.alive))
    → AreSmallRows (end_under qs pid ending o)
ended-small ps qs pid ending None was now there = put-gone qs pid now
ended-small ps qs pid ending (Some p) was now there =
    put-living (put qs pid (process_after_end (ignores_children p.alive.row) ending)) p.pid
    (with_ended_child p.alive pid ending) (put-over qs pid (ignores_children p.alive.row) ending now)
    (small-noted p.alive pid ending (was p.pid p.alive (there p refl)))

module _ (k : Kernel) (pid n : ℕ) (a : Alive) (t : HasSmallTables k) where
  abbrev IsSmallAfter : Effect → Type 0
  IsSmallAfter e = HasSmallTables e.kernel

  new-queue-small : (keys : Numbered ℕ) → Of IsSmallAfter (new_queue k keys n)
  new-queue-small keys =
      of_choice IsSmallAfter _ (Some _) None
      (record {
        rows = t.rows;
        queues = put-thing IsSmallQueue k.queues n empty_queue t.queues small-empty;
        sets = t.sets;
      })
      tt

  get-queue-small : (key : ℕ) (create excl : Bool) (found : Option ℕ)
      → Of IsSmallAfter (get_queue_at k key create excl n found)
  get-queue-small key create excl (Some id) =
      by_test IsSmallAfter (create && excl) (refuse k _) (reply_with k id) (λ _. t) (λ _. t)
  get-queue-small key create excl None =
      of_choice IsSmallAfter create (new_queue k (put k.queue_keys key n) n) _
      (new-queue-small (put k.queue_keys key n)) t

  abbrev IsMade : Result SemaphoreSet Errno → Type 0
  IsMade (Ok s) = IsSmallSet s
  IsMade (Err e) = Unit {0}

  new-set-small : (keys : Numbered ℕ) (r : Result SemaphoreSet Errno) → IsMade r
      → Of IsSmallAfter (new_set_of k keys n r)
  new-set-small keys (Err e) made = t
  new-set-small keys (Ok s) made =
      of_choice IsSmallAfter _ (Some _) None
      (record { rows = t.rows; queues = t.queues; sets = put-thing IsSmallSet k.sets n s t.sets made }) tt

  get-set-small : (key count : ℕ) (create excl : Bool) (found : Option ℕ)
      → Of IsSmallAfter (get_set_at k key count create excl n found)
  get-set-small key count create excl (Some id) =
      by_test IsSmallAfter (create && excl) (refuse k _) (find_set k id count) (λ _. t)
      (λ _. by_test IsSmallAfter (nat_eq count 0 || nat_le count (set_size k id)) (reply_with k id) (refuse k _)
      (λ _. t) (λ _. t))
  get-set-small key count create excl None =
      of_choice IsSmallAfter create (new_set_of k (put k.set_keys key n) n (new_set count)) _
      (new-set-small (put k.set_keys key n) (new_set count) (small-made count)) t

  module _ (valid : IsValid k) (lives : living_at k pid ≡ Some a) where
    own-small : AreSmallSignals a.row.signals
    own-small = t.rows pid a (from-living k.processes pid a lives)

    end-small : (ending : Ending) → AreSmallRows (processes_after_end k.processes pid a ending)
    end-small ending =
        ended-small k.processes (bury_all k.processes a.row.family) pid ending (parent_in pid k.processes) t.rows
        (buried-small a.row.family.ended k.processes t.rows)
        (λ p is. (parent-is pid k.processes valid.processes p is).0)

    -- what a call that makes something, or ends its process, leaves
    made-small : (call : Call) → makes_or_ends call ≡ true → Of IsSmallAfter (effect k pid a call n)
    made-small (calls.Fork block) h =
        of_choice IsSmallAfter _ (Some _) None
        (record {
          rows = put-living _ pid _ (put-living k.processes n _ t.rows (small-inherited a.row.signals)) own-small;
          queues = t.queues;
          sets = t.sets;
        }) tt
    made-small (calls.MsgGet None create excl) h = new-queue-small k.queue_keys
    made-small (calls.MsgGet (Some key) create excl) h = get-queue-small key create excl (get k.queue_keys key)
    made-small (calls.SemGet None count create excl) h =
        new-set-small k.set_keys (new_set count) (small-made count)
    made-small (calls.SemGet (Some key) count create excl) h =
        get-set-small key count create excl (get k.set_keys key)
    made-small (calls.Exit status) h =
        record { rows = end-small _; queues = t.queues; sets = t.sets }
    made-small (calls.Killed sig) h =
        record { rows = end-small _; queues = t.queues; sets = t.sets }
    made-small call h = absurd (false≢true h)

-- a process that has spent its allowance has the same row
finish-small : (k : Kernel) (pid : ℕ) (o : Option Alive) → living_at k pid ≡ o → HasSmallTables k
    → HasSmallTables (finish_call k pid o)
finish-small k pid None is t = t
finish-small k pid (Some a) is t =
    by_test HasSmallTables (is_some a.row.signals.doom) (with_alive k pid (record a { allowance = Spent })) k
    (λ _. record {
      rows = put-living k.processes pid (record a { allowance = Spent }) t.rows
          (t.rows pid a (from-living k.processes pid a is));
      queues = t.queues;
      sets = t.sets;
    }) (λ _. t)

-- ---- served calls

not-made : {A : Type 0} → true ≡ false → A
not-made h = absurd (false≢true (sym h))

kill-on : (pid target : ℕ) (own : Bool)
    → (name : Name) × (name_in pid (if own then homes.Own else homes.At (Proc target)) ≡ Some name)
kill-on pid target true = (Proc pid, refl)
kill-on pid target false = (Proc target, refl)

-- a call that makes nothing and ends nothing is on a name
served-on : (pid : ℕ) (call : Call) → makes_or_ends call ≡ false → (name : Name) × (name_for pid call ≡ Some name)
served-on pid (calls.Fork block) h = not-made h
served-on pid (calls.MsgGet key create excl) h = not-made h
served-on pid (calls.SemGet key count create excl) h = not-made h
served-on pid (calls.Exit status) h = not-made h
served-on pid (calls.Killed sig) h = not-made h
served-on pid (calls.Kill target Bad) h = (Proc pid, refl)
served-on pid (calls.Kill target Zero) h = kill-on pid target (nat_eq target pid)
served-on pid (calls.Kill target (Is sig)) h = kill-on pid target (nat_eq target pid)
served-on pid (calls.Withdraw (Proc target)) h = kill-on pid target (nat_eq target pid)
served-on pid (calls.Withdraw (Msg id)) h = (Msg id, refl)
served-on pid (calls.Withdraw (Sem id)) h = (Sem id, refl)
served-on pid call h = (_, refl)

served-small : (k next : Kernel) (pid : ℕ) (call : Call) (name : Name) (outcome : Outcome) → AreAllSmall k
    → pid < 2 ^ 32 → IsSmallCall call → IsServed k pid call name next outcome → AreAllSmall next
served-small k next pid call name outcome all low small served other =
    elim (cases_Bool (is_found served.answer other)) [
      | inl found ↦ subst IsSmall (sym (follows.found other found)) tt
      | inr not_found ↦
          elim (name-cases other name) [
            | inl same ↦
                subst (λ (m : Name). IsSmall (body_in next m)) (sym same)
                (subst IsSmall (sym follows.there) (small-left name (body_in k name) pid call (all name) low small))
            | inr apart ↦ subst IsSmall (sym (follows.others other apart not_found)) (all other)
          ]
    ]
  where
    follows : Follows k name (on_body name (body_in k name) pid call) next served.answer
    follows = served.follows

-- ---- an entry

-- what the kernel makes of a call
pub record GoesOn (k : Kernel) (pid : ℕ) (call : Call) (n : ℕ) (next : Kernel) (outcome : Outcome) : Type 0 where
  pub valid : IsValid k
  pub low : pid < 2 ^ 32
  pub small : IsSmallCall call
  pub not_waiting : is_waiting call ≡ false
  pub gives : transition k pid call n ≡ Some (successor next outcome)

made-step-small : (k next : Kernel) (pid n : ℕ) (call : Call) (outcome : Outcome) → AreAllSmall k
    → GoesOn k pid call n next outcome → makes_or_ends call ≡ true → AreAllSmall next
made-step-small k next pid n call outcome all g makes =
    let s : Step k pid call n next outcome = step k pid call n next outcome g.gives
    in let Small : Effect → Type 0 = λ e. HasSmallTables e.kernel
    in let after : HasSmallTables s.result.kernel =
    subst (λ (o : Option Effect). Of Small o) s.gives
    (made-small k pid n s.alive (tables-of k all) g.valid s.lives call makes)
    in all-of next
    (subst HasSmallTables s.leads (finish-small s.result.kernel pid (living_at s.result.kernel pid) refl after))

-- Each entry of a small call in no form that may wait leaves all bodies small.
pub entry-leaves-small : (k next : Kernel) (pid n : ℕ) (call : Call) (outcome : Outcome) → AreAllSmall k
    → GoesOn k pid call n next outcome → AreAllSmall next
entry-leaves-small k next pid n call outcome all g =
    elim (cases_Bool (makes_or_ends call)) [
      | inl makes ↦ made-step-small k next pid n call outcome all g makes
      | inr plain ↦
          let on = served-on pid call plain
          in let served : is_served call ≡ true =
          ap (λ t. not t && not (is_waiting call)) plain ∙ ap not g.not_waiting
          in served-small k next pid call on.0 outcome all g.low g.small
          (served-calls k pid n call on.0 next outcome g.valid served on.1 g.gives)
    ]

-- the first process is small
first-small : HasSmallTables opening
first-small =
    record {
      rows = put-living [] 1 _ (λ p a is. not_some (kernel.Living a) is) small-new;
      queues = λ id q is. not_some q is;
      sets = λ id s is. not_some s is;
    }

-- At first all bodies are small.
pub opening-is-small : AreAllSmall opening
opening-is-small = all-of opening first-small
