-- The law at a withdrawal.
use Rattle.std.proofs.Common.{◌≡◌, ◌∙◌, ◌&&◌, ℕ, Bool, true, false, cond, List, ◌∷◌, Option, Some, None, refl, ap, sym, subst}
use Rattle.std.specs.Prelude.{◌==◌, if◌then◌else◌}
use Rattle.std.specs.Option.{option_map}
use Rattle.std.proofs.lemmas.Bool.{false≢true, or_left}
use Rattle.pico_base.specs.declared.call.Call.TheVariants as calls
use Rattle.pico_base.specs.declared.call.Home.TheVariants as homes
use Rattle.pico_base.specs.declared.numbers.Name.{Name}
use Rattle.pico_base.specs.declared.numbers.Name.TheVariants.{Proc, Msg, Sem}
use Rattle.pico_base.specs.declared.reply.Errno.TheVariants.{Eintr}
use Rattle.pico_base.specs.declared.reply.Reply.TheVariants.{Fail}
use Rattle.number_maps.specs.Maps.{get}
use Rattle.number_maps.proofs.Order.{eq-same}
use Rattle.kernel_model.specs.Effect.{reply_alone}
use Rattle.kernel_model.specs.Queue.{Queue}
use Rattle.kernel_model.specs.SemaphoreSet.{SemaphoreSet}
use Rattle.waiting_model.specs.Waiters.{Awaited, without_waiter}
use Rattle.waiting_model.specs.Marks.{Alive, Marks, after_reply, is_parked_at, marks_after_reply}
use Rattle.waiting_model.specs.Kernel.{Kernel, change_living, living_at}
use Rattle.waiting_model.specs.Transition.{may_withdraw, queue_without, set_without, transition, transition_by, unparked, withdraw, withdrawn}
use Rattle.footprint_laws.proofs.Change.{changes-none, changes-put}
use Rattle.waiting_footprint_laws.specs.Footprint.{Part, MarksOf, QueueAt, SetAt, home_parts, parts_of_waiters}
use Rattle.waiting_footprint_laws.specs.Law.{AgreeOn}
use Rattle.waiting_footprint_laws.proofs.Changed.{changed-same, changed-other}
use Rattle.waiting_footprint_laws.proofs.Effects.{AlikeSteps, AllMoved, Childless, Stepped, has_marks, has_queue, has_queue_keys, has_set, has_set_keys, marks-same, moved-none, step-from}
use Rattle.waiting_footprint_laws.proofs.Finish.{remarked-at}
use Rattle.waiting_footprint_laws.proofs.Steps.{LawAt}
use Rattle.waiting_footprint_laws.proofs.Queues.{waiters-childless}

module _ (parts : List Part) (j k : Kernel) (h : AgreeOn parts j k) (pid : ℕ) (marked : has_marks parts pid ≡ true)
    (childless : Childless parts) where
  -- the wait ends
  replied-moved : AllMoved parts j k (change_living j.processes pid after_reply)
      (change_living k.processes pid after_reply)
  replied-moved =
      remarked-at parts j k h pid marks_after_reply j.processes k.processes
      (change_living j.processes pid after_reply) (change_living k.processes pid after_reply) marked
      (moved-none parts j k) (changed-same j.processes pid after_reply) (changed-same k.processes pid after_reply)
      (changed-other j.processes pid after_reply) (changed-other k.processes pid after_reply)

  -- what a withdrawal leaves, from what stands where the call waited
  abbrev LeavesAlike : Kernel → Kernel → Type 0
  LeavesAlike to_j to_k =
      Stepped parts j k (record to_j { processes = change_living to_j.processes pid after_reply })
      (record to_k { processes = change_living to_k.processes pid after_reply })

  left-alone : LeavesAlike j k
  left-alone =
      record {
        processes = replied-moved;
        queues = changes-none (has_queue parts) j.queues k.queues;
        sets = changes-none (has_set parts) j.sets k.sets;
        queue_keys = changes-none (has_queue_keys parts) j.queue_keys k.queue_keys;
        set_keys = changes-none (has_set_keys parts) j.set_keys k.set_keys;
        parents = λ p t. absurd (false≢true (sym (childless p) ∙ t));
      }

  left-queue : (id : ℕ) (o : Option (Awaited Queue)) → has_queue parts id ≡ true
      → LeavesAlike (queue_without j id pid o) (queue_without k id pid o)
  left-queue id None t = left-alone
  left-queue id (Some q) t =
      record {
        processes = replied-moved;
        queues = changes-put (has_queue parts) j.queues k.queues j.queues k.queues id (without_waiter pid q) t
            (changes-none (has_queue parts) j.queues k.queues);
        sets = changes-none (has_set parts) j.sets k.sets;
        queue_keys = changes-none (has_queue_keys parts) j.queue_keys k.queue_keys;
        set_keys = changes-none (has_set_keys parts) j.set_keys k.set_keys;
        parents = λ p t. absurd (false≢true (sym (childless p) ∙ t));
      }

  left-set : (id : ℕ) (o : Option (Awaited SemaphoreSet)) → has_set parts id ≡ true
      → LeavesAlike (set_without j id pid o) (set_without k id pid o)
  left-set id None t = left-alone
  left-set id (Some s) t =
      record {
        processes = replied-moved;
        queues = changes-none (has_queue parts) j.queues k.queues;
        sets = changes-put (has_set parts) j.sets k.sets j.sets k.sets id (without_waiter pid s) t
            (changes-none (has_set parts) j.sets k.sets);
        queue_keys = changes-none (has_queue_keys parts) j.queue_keys k.queue_keys;
        set_keys = changes-none (has_set_keys parts) j.set_keys k.set_keys;
        parents = λ p t. absurd (false≢true (sym (childless p) ∙ t));
      }

  withdrawn-if : (name : Name) (b c : Bool) → b ≡ c → LeavesAlike (unparked j pid name) (unparked k pid name)
      → AlikeSteps parts j k (cond b (Some (withdraw j pid name)) None) (cond c (Some (withdraw k pid name)) None)
  withdrawn-if name true true e s =
      step-from parts (reply_alone (Fail Eintr)) (reply_alone (Fail Eintr)) j k (withdrawn j pid name)
      (withdrawn k pid name) refl h s
  withdrawn-if name false false e s = tt
  withdrawn-if name true false e s = cc
  withdrawn-if name false true e s = cc

  withdrawn-by : (n : ℕ) (name : Name) (o p : Option Alive)
      → option_map (λ (a : Alive). a.marks) o ≡ option_map (λ (a : Alive). a.marks) p
      → LeavesAlike (unparked j pid name) (unparked k pid name)
      → AlikeSteps parts j k (transition_by j pid (calls.Withdraw name) n o)
      (transition_by k pid (calls.Withdraw name) n p)
  withdrawn-by n name None None e s = tt
  withdrawn-by n name None (Some b) e s = cc
  withdrawn-by n name (Some a) None e s = cc
  withdrawn-by n name (Some a) (Some b) e s =
      let same : a.marks ≡ b.marks = cc
      in withdrawn-if name (may_withdraw pid a name) (may_withdraw pid b name)
      (ap (λ (m : Marks). m.struck && is_parked_at pid name m.parked) same) s

  withdraw-steps : (n : ℕ) (name : Name) → LeavesAlike (unparked j pid name) (unparked k pid name)
      → AlikeSteps parts j k (transition j pid (calls.Withdraw name) n) (transition k pid (calls.Withdraw name) n)
  withdraw-steps n name s =
      withdrawn-by n name (living_at j pid) (living_at k pid) (marks-same parts pid j k marked h) s

-- its home, where a process waits for its children
abbrev withdrawn_parts : Kernel → ℕ → ℕ → ℕ → Bool → List Part
withdrawn_parts j pid n other b =
    MarksOf pid ∷ home_parts j pid (calls.Withdraw (Proc other)) n (if b then homes.Own else homes.At (Proc other))

own-law : (j k : Kernel) (pid n other : ℕ) (b : Bool) → AgreeOn (withdrawn_parts j pid n other b) j k
    → AlikeSteps (withdrawn_parts j pid n other b) j k (transition j pid (calls.Withdraw (Proc other)) n)
    (transition k pid (calls.Withdraw (Proc other)) n)
own-law j k pid n other true h =
    let parts = withdrawn_parts j pid n other true
    in let here : has_marks parts pid ≡ true = or_left _ _ (eq-same pid)
    in withdraw-steps parts j k h pid here (λ p. refl) n (Proc other)
    (left-alone parts j k h pid here (λ p. refl))
own-law j k pid n other false h =
    let parts = withdrawn_parts j pid n other false
    in let here : has_marks parts pid ≡ true = or_left _ _ (eq-same pid)
    in withdraw-steps parts j k h pid here (λ p. refl) n (Proc other)
    (left-alone parts j k h pid here (λ p. refl))

-- the footprint's law at a withdrawal
pub withdraw-law : (j k : Kernel) (pid n : ℕ) (name : Name) → LawAt j k pid (calls.Withdraw name) n
withdraw-law j k pid n (Proc other) vj vk h uj uk = own-law j k pid n other (other == pid) h
withdraw-law j k pid n (Msg id) vj vk h uj uk =
    let parts = MarksOf pid ∷ QueueAt id ∷ parts_of_waiters (get j.queues id)
    in let childless : Childless parts = λ p. waiters-childless p (get j.queues id)
    in let here : has_marks parts pid ≡ true = or_left _ _ (eq-same pid)
    in withdraw-steps parts j k h pid here childless n (Msg id)
    (subst (λ o. LeavesAlike parts j k h pid here childless (queue_without j id pid (get j.queues id))
    (queue_without k id pid o)) h.1.0
    (left-queue parts j k h pid here childless id (get j.queues id) (or_left _ _ (eq-same id))))
withdraw-law j k pid n (Sem id) vj vk h uj uk =
    let parts = MarksOf pid ∷ SetAt id ∷ parts_of_waiters (get j.sets id)
    in let childless : Childless parts = λ p. waiters-childless p (get j.sets id)
    in let here : has_marks parts pid ≡ true = or_left _ _ (eq-same pid)
    in withdraw-steps parts j k h pid here childless n (Sem id)
    (subst (λ o. LeavesAlike parts j k h pid here childless (set_without j id pid (get j.sets id))
    (set_without k id pid o)) h.1.0
    (left-set parts j k h pid here childless id (get j.sets id) (or_left _ _ (eq-same id))))
