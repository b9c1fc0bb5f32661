-- What a removal and a withdrawal do to those who wait.
use Rattle.std.proofs.Common.{◌≡◌, ◌∙◌, ℕ, Bool, true, false, nat_eq, List, [], ◌∷◌, map, Option, Some, None, is_some, refl, ap, sym, subst, inl, inr}
use Rattle.std.specs.Prelude.{if◌then◌else◌}
use Rattle.std.specs.Option.{option_map}
use Rattle.std.proofs.lemmas.Bool.{cases_eq, eq-eqb, ne_eqb}
use Rattle.pico_base.specs.declared.call.Call.{Call}
use Rattle.pico_base.specs.declared.call.Call.TheVariants as calls
use Rattle.pico_base.specs.declared.numbers.Name.{Name}
use Rattle.pico_base.specs.declared.numbers.Name.TheVariants.{Proc, Msg, Sem}
use Rattle.pico_base.specs.declared.reply.Errno.TheVariants.{Eidrm, Eintr}
use Rattle.pico_base.specs.declared.reply.Outcome.{Outcome}
use Rattle.pico_base.specs.declared.reply.Reply.{Reply}
use Rattle.pico_base.specs.declared.reply.Reply.TheVariants.{Num, Fail}
use Rattle.number_maps.specs.Maps.{Numbered, get, put}
use Rattle.number_maps.proofs.LookUps.{get-put-same, get-put-other, get-without-same}
use Rattle.kernel_model.specs.Effect.{reply_alone}
use Rattle.kernel_model.specs.Queue.{Queue}
use Rattle.kernel_model.specs.SemaphoreSet.{SemaphoreSet}
use Rattle.waiting_model.specs.declared.callers.Waiting.{Waiting}
use Rattle.waiting_model.specs.Waiters.{Awaited, wake, without_waiter}
use Rattle.waiting_model.specs.Marks.{Alive, spent, after_reply}
use Rattle.waiting_model.specs.Kernel.{Kernel, living_at, with_alive, change_living}
use Rattle.waiting_model.specs.Effect.{Effect, on_named, woken_pair, outcome_of_effect}
use Rattle.waiting_model.specs.QueueCalls.{remove_queue}
use Rattle.waiting_model.specs.SetCalls.{remove_set}
use Rattle.waiting_model.specs.Transition.{Successor, successor, allowance_after, finish_call, queue_without, set_without, withdraw}
use Rattle.waiting_laws.specs.Removals.{all_removed, RemovesQueue, QueueRemovalsWakeAll, RemovesSet, SetRemovalsWakeAll, Withdraws, WithdrawalsLeaveTheRest}
use Rattle.waiting_laws.proofs.Steps.{Makes, makes, Leaves, leaves}

-- who is woken, as a history has it
pairs-removed : (ws : List Waiting) → map woken_pair (map (λ w. wake w (Fail Eidrm)) ws) ≡ all_removed ws
pairs-removed [] = refl
pairs-removed (w ∷ ws) =
    ap (λ (xs : List (ℕ × Reply)). (let x : ℕ × Reply = (w.pid, Fail Eidrm) in x ∷ xs)) (pairs-removed ws)

-- the caller's own marks leave queues and sets
record KeepsObjects (j k : Kernel) : Type 0 where
  queues : j.queues ≡ k.queues
  sets : j.sets ≡ k.sets

objects-if : (b : Bool) (k : Kernel) (pid : ℕ) (a : Alive) → KeepsObjects (if b then with_alive k pid a else k) k
objects-if true k pid a = record { queues = refl; sets = refl }
objects-if false k pid a = record { queues = refl; sets = refl }

objects-allowance : (k : Kernel) (pid : ℕ) (o : Option Alive) → KeepsObjects (allowance_after k pid o) k
objects-allowance k pid None = record { queues = refl; sets = refl }
objects-allowance k pid (Some a) = objects-if (is_some a.row.signals.doom) k pid (spent a)

objects-finish : (k : Kernel) (pid : ℕ) (call : Call) (own : Option Reply) → KeepsObjects (finish_call k pid call own) k
objects-finish k pid call own =
    let first = objects-allowance k pid (living_at k pid)
    in record { queues = first.queues; sets = first.sets }

-- removals

queue-removal : (k : Kernel) (pid id n : ℕ) (q : Awaited Queue) (s : Successor) → get k.queues id ≡ Some q
    → Makes k pid (calls.MsgRmid id) n s → RemovesQueue id q.waiters s
queue-removal k pid id n q s there m =
    let done : Some (remove_queue k id q) ≡ Some m.step =
    ap (λ (o : Option (Awaited Queue)). (let e : Option Effect = Some (on_named k o (remove_queue k id)) in e))
    (sym there)
    ∙ m.does
    in let step : remove_queue k id q ≡ m.step = cc
    in let to : Successor → Type 0 = λ t. RemovesQueue id q.waiters t
    in let by : Effect → Type 0 =
    λ e. to (successor (finish_call e.kernel pid (calls.MsgRmid id) e.own) (outcome_of_effect e))
    in subst to m.is
    (subst by step
    (let e = remove_queue k id q
    in record {
      outcome =
          ap (λ (ps : List (ℕ × Reply)). (let o : Outcome = record { own = Some (Num 0); woken = ps } in o))
          (pairs-removed q.waiters);
      gone =
          ap (λ (qs : Numbered (Awaited Queue)). get qs id)
          (objects-finish e.kernel pid (calls.MsgRmid id) e.own).queues
          ∙ get-without-same k.queues id;
    }))

-- a queue
pub queue-removals : QueueRemovalsWakeAll
queue-removals k pid id n q s there is = queue-removal k pid id n q s there (makes k pid (calls.MsgRmid id) n s refl is)

set-removal : (k : Kernel) (pid id n : ℕ) (set : Awaited SemaphoreSet) (s : Successor) → get k.sets id ≡ Some set
    → Makes k pid (calls.SemRmid id) n s → RemovesSet id set.waiters s
set-removal k pid id n set s there m =
    let done : Some (remove_set k id set) ≡ Some m.step =
    ap
    (λ (o : Option (Awaited SemaphoreSet)). (let e : Option Effect = Some (on_named k o (remove_set k id)) in e))
    (sym there)
    ∙ m.does
    in let step : remove_set k id set ≡ m.step = cc
    in let to : Successor → Type 0 = λ t. RemovesSet id set.waiters t
    in let by : Effect → Type 0 =
    λ e. to (successor (finish_call e.kernel pid (calls.SemRmid id) e.own) (outcome_of_effect e))
    in subst to m.is
    (subst by step
    (let e = remove_set k id set
    in record {
      outcome =
          ap (λ (ps : List (ℕ × Reply)). (let o : Outcome = record { own = Some (Num 0); woken = ps } in o))
          (pairs-removed set.waiters);
      gone =
          ap (λ (ss : Numbered (Awaited SemaphoreSet)). get ss id)
          (objects-finish e.kernel pid (calls.SemRmid id) e.own).sets
          ∙ get-without-same k.sets id;
    }))

-- a set
pub set-removals : SetRemovalsWakeAll
set-removals k pid id n set s there is = set-removal k pid id n set s there (makes k pid (calls.SemRmid id) n s refl is)

-- withdrawals

module _ {V : Type 0} where
  -- another value at one number alone
  put-at : (f : V → V) (m : Numbered V) (id : ℕ) (v : V) → get m id ≡ Some v → (other : ℕ)
      → get (put m id (f v)) other ≡ option_map (λ x. if nat_eq other id then f x else x) (get m other)
  put-at f m id v there other =
      elim (cases_eq other id) [
        | inl same ↦
            subst
            (λ (i : ℕ). get (put m id (f v)) i ≡ option_map (λ x. if nat_eq i id then f x else x) (get m i))
            (sym same)
            (get-put-same m id (f v)
            ∙ sym
            (ap (option_map (λ (x : V). if nat_eq id id then f x else x)) there
            ∙ ap (λ (b : Bool). (let o : Option V = Some (if b then f v else v) in o)) (eq-eqb id id refl)))
        | inr ne ↦
            get-put-other m id (f v) other ne
            ∙ (kept (get m other)
            ∙ ap (λ (b : Bool). option_map (λ (x : V). if b then f x else x) (get m other)) (sym (ne_eqb other id ne)))
      ]
    where
      kept : (o : Option V) → o ≡ option_map (λ x. if false then f x else x) o
      kept None = refl
      kept (Some x) = refl

  nothing-at : (f : V → V) (m : Numbered V) (id : ℕ) → get m id ≡ None → (other : ℕ)
      → get m other ≡ option_map (λ x. if nat_eq other id then f x else x) (get m other)
  nothing-at f m id there other =
      elim (cases_eq other id) [
        | inl same ↦
            subst
            (λ (i : ℕ). get m i ≡ option_map (λ x. if nat_eq i id then f x else x) (get m i))
            (sym same)
            (there ∙ sym (ap (option_map (λ (x : V). if nat_eq id id then f x else x)) there))
        | inr ne ↦
            kept (get m other)
            ∙ ap (λ (b : Bool). option_map (λ (x : V). if b then f x else x) (get m other)) (sym (ne_eqb other id ne))
      ]
    where
      kept : (o : Option V) → o ≡ option_map (λ x. if false then f x else x) o
      kept None = refl
      kept (Some x) = refl

  pub same-option : (o : Option V) → o ≡ option_map (λ x. x) o
  same-option None = refl
  same-option (Some x) = refl

queue-left : (k : Kernel) (pid id : ℕ) (o : Option (Awaited Queue)) → get k.queues id ≡ o
    → Withdraws k pid (Msg id)
    (let left = queue_without k id pid o
    in successor (record left { processes = change_living left.processes pid after_reply }) (reply_alone (Fail Eintr)))
queue-left k pid id None there =
    record {
      outcome = refl;
      queues = nothing-at (without_waiter pid) k.queues id there;
      sets = λ i. same-option (get k.sets i);
      processes = refl;
      queue_keys = refl;
      set_keys = refl;
      used_processes = refl;
      used_queues = refl;
      used_sets = refl;
    }
queue-left k pid id (Some q) there =
    record {
      outcome = refl;
      queues = put-at (without_waiter pid) k.queues id q there;
      sets = λ i. same-option (get k.sets i);
      processes = refl;
      queue_keys = refl;
      set_keys = refl;
      used_processes = refl;
      used_queues = refl;
      used_sets = refl;
    }

set-left : (k : Kernel) (pid id : ℕ) (o : Option (Awaited SemaphoreSet)) → get k.sets id ≡ o
    → Withdraws k pid (Sem id)
    (let left = set_without k id pid o
    in successor (record left { processes = change_living left.processes pid after_reply }) (reply_alone (Fail Eintr)))
set-left k pid id None there =
    record {
      outcome = refl;
      queues = λ i. same-option (get k.queues i);
      sets = nothing-at (without_waiter pid) k.sets id there;
      processes = refl;
      queue_keys = refl;
      set_keys = refl;
      used_processes = refl;
      used_queues = refl;
      used_sets = refl;
    }
set-left k pid id (Some q) there =
    record {
      outcome = refl;
      queues = λ i. same-option (get k.queues i);
      sets = put-at (without_waiter pid) k.sets id q there;
      processes = refl;
      queue_keys = refl;
      set_keys = refl;
      used_processes = refl;
      used_queues = refl;
      used_sets = refl;
    }

left-at : (k : Kernel) (pid : ℕ) (name : Name) → Withdraws k pid name (withdraw k pid name)
left-at k pid (Proc own) =
    record {
      outcome = refl;
      queues = λ i. same-option (get k.queues i);
      sets = λ i. same-option (get k.sets i);
      processes = refl;
      queue_keys = refl;
      set_keys = refl;
      used_processes = refl;
      used_queues = refl;
      used_sets = refl;
    }
left-at k pid (Msg id) = queue-left k pid id (get k.queues id) refl
left-at k pid (Sem id) = set-left k pid id (get k.sets id) refl

-- a withdrawal
pub withdrawals : WithdrawalsLeaveTheRest
withdrawals k pid name n s is =
    let l : Leaves k pid name s = leaves k pid name n s is
    in subst (λ (t : Successor). Withdraws k pid name t) l.is (left-at k pid name)
