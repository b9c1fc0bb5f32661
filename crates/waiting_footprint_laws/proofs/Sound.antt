-- Each entry leaves processes, families, tables of keys and used numbers in order.
use Rattle.std.proofs.Common.{◌≡◌, ◌≢◌, ◌∙◌, ℕ, Bool, true, false, List, Option, Some, None, is_some, refl, ap, sym, subst, inl, inr}
use Rattle.std.specs.Prelude.{if◌then◌else◌}
use Rattle.std.specs.Option.{option_and_then}
use Rattle.std.proofs.lemmas.Bool.{cases_eq}
use Rattle.pico_base.specs.declared.call.Call.{Call}
use Rattle.pico_base.specs.declared.numbers.Name.{Name}
use Rattle.pico_base.specs.declared.numbers.Name.TheVariants.{Proc, Msg, Sem}
use Rattle.pico_base.specs.declared.reply.Reply.{Reply}
use Rattle.number_maps.specs.Maps.{Numbered, get}
use Rattle.number_maps.specs.Rising.{IsRising}
use Rattle.number_maps.proofs.Rising.{rising-put}
use Rattle.kernel_model.specs.Queue.{Queue}
use Rattle.kernel_model.specs.Row.{lists}
use Rattle.kernel_model.specs.SemaphoreSet.{SemaphoreSet}
use Rattle.kernel_laws.proofs.Plain.{Of, of_choice, from_some, not_some}
use Rattle.kernel_laws.proofs.Tables.{Table, table-change}
use Rattle.waiting_model.specs.Calls.{withdrawn_from}
use Rattle.waiting_model.specs.Waiters.{Awaited, waiter, without_waiter}
use Rattle.waiting_model.specs.Marks.{Alive, after_reply, spent}
use Rattle.waiting_model.specs.Kernel.{Kernel, Process, Living, Ended, Gone, alive_in, change_living, living_at, living_in, with_alive}
use Rattle.waiting_model.specs.Effect.{Effect}
use Rattle.waiting_model.specs.Transition.{Successor, effect, after_call, allowance_after, finish_call, may_make, may_withdraw, outcome_of, queue_without, set_without, step_by, transition, transition_by, withdraw}
use Rattle.waiting_footprint_laws.proofs.Moved.{doomed_in, remark, remarked}
use Rattle.waiting_footprint_laws.proofs.Finish.{Kept, finished_marks, finished-at, finished-other, kept-allowance}
use Rattle.waiting_footprint_laws.proofs.Kin.{Came, Moves, People, moves-none, moves-replied, people-moved, rising-changed}
use Rattle.waiting_footprint_laws.proofs.Doomed.{IsFair, IsNearlyFair, fair-finished}
use Rattle.waiting_footprint_laws.proofs.Midway.{Any, InOrder, IsSound, IsMidway, midway}

-- The caller's own marks.

finished-by : (pid : ℕ) (call : Call) (own : Option Reply) (o : Option Process) (b : Alive)
    → option_and_then alive_in (remarked (finished_marks call own (doomed_in o)) o) ≡ Some b
    → ((a : Alive) → option_and_then alive_in o ≡ Some a → IsNearlyFair pid pid a)
    → (a : Alive) × (option_and_then alive_in o ≡ Some a) × (b.row ≡ a.row) × IsFair pid b
finished-by pid call own None b h near = not_some b h
finished-by pid call own (Some (Living a)) b h near =
    let after = remark (finished_marks call own (is_some a.row.signals.doom)) a
    in let same : after ≡ b = from_some after b h
    in (
      a,
      refl,
      sym (ap (λ (x : Alive). x.row) same),
      subst (λ (x : Alive). IsFair pid x) same (fair-finished pid call own a (near a refl)),
    )
finished-by pid call own (Some (Ended ending)) b h near = not_some b h
finished-by pid call own (Some Gone) b h near = not_some b h

rising-if : (k : Kernel) (pid : ℕ) (a : Alive) (b : Bool) → IsRising k.processes
    → IsRising (if b then with_alive k pid (spent a) else k).processes
rising-if k pid a true r = rising-put k.processes pid (Living (spent a)) r
rising-if k pid a false r = r

rising-allowance : (k : Kernel) (pid : ℕ) (o : Option Alive) → IsRising k.processes
    → IsRising (allowance_after k pid o).processes
rising-allowance k pid None r = r
rising-allowance k pid (Some a) r = rising-if k pid a (is_some a.row.signals.doom) r

rising-finished : (k : Kernel) (pid : ℕ) (call : Call) (own : Option Reply) → IsRising k.processes
    → IsRising (finish_call k pid call own).processes
rising-finished k pid call own r =
    rising-changed (allowance_after k pid (living_at k pid)).processes pid (after_call call own)
    (rising-allowance k pid (living_at k pid) r)

module _ (k : Kernel) (pid : ℕ) (call : Call) (own : Option Reply) (people : People (IsNearlyFair pid) k.processes
    k.used_processes) where
  finished-caller : (b : Alive) → living_in (finish_call k pid call own).processes pid ≡ Some b
      → Came IsFair k.processes pid b
  finished-caller b l =
      let w = finished-by pid call own (get k.processes pid) b
      (sym (ap (option_and_then alive_in) (finished-at k pid call own)) ∙ l) (λ a h. people.each pid a h)
      in record {
        alive = w.0;
        lived = w.1;
        listed = λ c h. sym (ap (λ row. lists row.family c) w.2) ∙ h;
        has = w.3;
      }

  finished-away : (p : ℕ) (b : Alive) → p ≢ pid → living_in k.processes p ≡ Some b → Came IsFair k.processes p b
  finished-away p b ne l =
      let near = people.each p b l
      in record { alive = b; lived = l; listed = λ c h. h; has = (near.free, near.undoomed ne) }

  finished-moves : Moves IsFair k.processes (finish_call k pid call own).processes
  finished-moves =
      record {
        rising = rising-finished k pid call own people.rising;
        came = λ p b l.
            elim (cases_eq p pid) [
              | inl e ↦
                  subst (λ (q : ℕ). Came IsFair k.processes q b) (sym e)
                  (finished-caller b
                  (subst (λ (q : ℕ). living_in (finish_call k pid call own).processes q ≡ Some b) e l))
              | inr ne ↦
                  finished-away p b ne
                  (sym (ap (option_and_then alive_in) (finished-other k pid call own p ne)) ∙ l)
            ];
      }

-- tables that are the same
table-same : {T : Type 0} (a b : Numbered (Awaited T)) (x y : Numbered ℕ) (u v : List ℕ) → a ≡ b → x ≡ y → u ≡ v
    → Table Any b y v → Table Any a x u
table-same a b x y u v h g e t =
    subst (λ (m : Numbered (Awaited _)). Table Any m x u) (sym h)
    (subst (λ (m : Numbered ℕ). Table Any b m u) (sym g) (subst (λ (m : List ℕ). Table Any b y m) (sym e) t))

finished-sound : (k : Kernel) (pid : ℕ) (call : Call) (own : Option Reply) → InOrder (IsNearlyFair pid) k
    → IsSound (finish_call k pid call own)
finished-sound k pid call own h =
    let x : Kept _ k = kept-allowance k pid (living_at k pid)
    in record {
      people = subst (λ (u : List ℕ). People IsFair (finish_call k pid call own).processes u) (sym x.used_processes)
          (people-moved (IsNearlyFair pid) IsFair k.processes (finish_call k pid call own).processes k.used_processes
          h.people (finished-moves k pid call own h.people));
      queues = table-same _ _ _ _ _ _ x.queues x.queue_keys x.used_queues h.queues;
      sets = table-same _ _ _ _ _ _ x.sets x.set_keys x.used_sets h.sets;
    }

-- A withdrawal.

module _ (k : Kernel) (sound : IsSound k) (pid : ℕ) where
  replied-people : People IsFair (change_living k.processes pid after_reply) k.used_processes
  replied-people =
      people-moved IsFair IsFair k.processes (change_living k.processes pid after_reply) k.used_processes sound.people
      (moves-replied IsFair k.processes (λ p a h. (h.0, h.1)) k.processes pid
      (moves-none IsFair k.processes sound.people.rising sound.people.each))

  abbrev LeavesSound : Kernel → Type 0
  LeavesSound left = IsSound (record left { processes = change_living left.processes pid after_reply })

  left-alone : LeavesSound k
  left-alone = record { people = replied-people; queues = sound.queues; sets = sound.sets }

  left-queue : (id : ℕ) (o : Option (Awaited Queue)) → get k.queues id ≡ o → LeavesSound (queue_without k id pid o)
  left-queue id None is = left-alone
  left-queue id (Some q) is =
      record {
        people = replied-people;
        queues = table-change Any k.queues k.queue_keys k.used_queues sound.queues id (without_waiter pid q)
            (ap is_some is) tt;
        sets = sound.sets;
      }

  left-set : (id : ℕ) (o : Option (Awaited SemaphoreSet)) → get k.sets id ≡ o → LeavesSound (set_without k id pid o)
  left-set id None is = left-alone
  left-set id (Some s) is =
      record {
        people = replied-people;
        queues = sound.queues;
        sets = table-change Any k.sets k.set_keys k.used_sets sound.sets id (without_waiter pid s) (ap is_some is) tt;
      }

  left-sound : (name : Name) → IsSound (withdraw k pid name).kernel
  left-sound (Proc own) = left-alone
  left-sound (Msg id) = left-queue id (get k.queues id) refl
  left-sound (Sem id) = left-set id (get k.sets id) refl

-- Each entry.

abbrev LeadsSound : Successor → Type 0
LeadsSound s = IsSound s.kernel

outcome-sound : (pid : ℕ) (call : Call) (o : Option Effect) → Of (IsMidway pid) o
    → Of LeadsSound (outcome_of pid call o)
outcome-sound pid call None h = tt
outcome-sound pid call (Some e) h = finished-sound e.kernel pid call e.own h.order

module _ (k : Kernel) (sound : IsSound k) (pid : ℕ) (call : Call) (n : ℕ) where
  step-sound : (a : Alive) → living_at k pid ≡ Some a → (o : Option Name)
      → Of LeadsSound (step_by k pid call n a o)
  step-sound a lives None =
      of_choice LeadsSound (may_make a call) _ None
      (outcome-sound pid call (effect k (waiter pid call) a n) (midway k sound pid a lives n call)) tt
  step-sound a lives (Some name) =
      of_choice LeadsSound (may_withdraw pid a name) (Some (withdraw k pid name)) None (left-sound k sound pid name) tt

  living-sound : (o : Option Alive) → living_at k pid ≡ o → Of LeadsSound (transition_by k pid call n o)
  living-sound None lives = tt
  living-sound (Some a) lives = step-sound a lives (withdrawn_from call)

  -- an entry leads from a sound kernel to one
  pub entry-sound : Of LeadsSound (transition k pid call n)
  entry-sound = living-sound (living_at k pid) refl
