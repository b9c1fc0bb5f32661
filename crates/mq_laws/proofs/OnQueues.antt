-- What a call on queues comes to: its reply at once, with nobody woken and no process changed.
use Rattle.std.proofs.Common.{◌≡◌, ◌∙◌, ℕ, Bool, true, false, List, [], Option, Some, None, refl, ap, sym, subst}
use Rattle.std.specs.Prelude.{if◌then◌else◌}
use Rattle.std.specs.Option.{option_map}
use Rattle.pico_base.specs.declared.call.Call.{Call}
use Rattle.pico_base.specs.declared.numbers.Name.{Name}
use Rattle.pico_base.specs.declared.reply.Errno.TheVariants.{Einval}
use Rattle.pico_base.specs.declared.reply.Reply.{Reply}
use Rattle.pico_base.specs.declared.reply.Reply.TheVariants.{Fail}
use Rattle.number_maps.specs.Maps.{Numbered, get}
use Rattle.number_maps.specs.Rising.{IsRising}
use Rattle.kernel_model.specs.Queue as plain_queues
use Rattle.waiting_model.specs.declared.callers.Waiting.{Waiting}
use Rattle.waiting_model.specs.Calls.{withdrawn_from}
use Rattle.waiting_model.specs.Waiters.{Attempt, Awaited, attempt, awaited, unawaited, waiter, carry_out_by}
use Rattle.waiting_model.specs.Queue.{try_queue, carry_out_on_queue}
use Rattle.waiting_model.specs.Marks.{Alive}
use Rattle.waiting_model.specs.Kernel.{Kernel, Process, living_at, change_living}
use Rattle.waiting_model.specs.Plain.{AllValues, each}
use Rattle.waiting_model.specs.Effect.{Effect, on_named, replying, outcome_of_effect}
use Rattle.waiting_model.specs.QueueCalls as plain_calls
use Rattle.waiting_model.specs.QueueCalls.{with_queue, queue_effect}
use Rattle.waiting_model.specs.Transition.{successor, effect, may_make, finish_call, outcome_of, step_by, transition_by, transition}
use Rattle.waiting_laws.proofs.Maps.{get-each, put-each, put-same, all-get, all-put}
use Rattle.mq_model.specs.Queue as mq_queues
use Rattle.mq_model.specs.Calls.{MqCall}
use Rattle.mq_model.specs.Kernel.{MqKernel}
use Rattle.mq_model.specs.SystemV.{shown_reply, shown_on_queues, shown_outcome}
use Rattle.mq_model.specs.Transition as mq
use Rattle.mq_model.specs.Transition.{MqEffect, MqSuccessor, may_act, after_call, after_effect, on_queue, on_queues}
use Rattle.mq_laws.specs.Alike.{StandsForQueue, shown_queue, shown_kernel}
use Rattle.mq_laws.proofs.Leads.{LeadsShown, LeadShown}
use Rattle.mq_laws.proofs.Finishing.{finished, with_processes}

-- ---- effects

pub record ComesTo (k : Kernel) (call : MqCall) (e : Effect) (f : MqEffect) : Type 0 where
  pub kernel : Kernel
  pub reply : Reply
  pub is : e ≡ replying kernel reply
  pub processes : kernel.processes ≡ k.processes
  pub shown : f ≡ mq.replying (shown_kernel kernel) (shown_reply call reply)
  pub queues : AllValues StandsForQueue kernel.queues

-- both have an effect or none
abbrev pub ComeTo : Kernel → MqCall → Option Effect → Option MqEffect → Type 0
ComeTo k call None None = Unit {0}
ComeTo k call (Some e) (Some f) = ComesTo k call e f
ComeTo k call e f = ⊥

-- ---- steps

module _ (k : Kernel) (rising : IsRising k.processes) (pid : ℕ) (shown : MqCall) where
  finished-alike : (call : Call) (a : Alive) → living_at k pid ≡ Some a → (j : Kernel)
      → j.processes ≡ k.processes → (reply : Reply)
      → finish_call j pid call (Some reply) ≡ with_processes j (change_living j.processes pid after_call)
  finished-alike call a lives j same reply =
      let P : Numbered Process → Type 0 = λ ps.
      finish_call (with_processes j ps) pid call (Some reply)
      ≡ with_processes j (change_living ps pid after_call)
      in subst P (sym same) (finished (with_processes j k.processes) rising pid a lives call reply)

  leads : (call : Call) (a : Alive) → living_at k pid ≡ Some a → (e : Effect) (f : MqEffect) → ComesTo k shown e f
      → LeadsShown (shown_outcome shown (outcome_of_effect e))
      (successor (finish_call e.kernel pid call e.own) (outcome_of_effect e)) (after_effect pid f)
  leads call a lives e f c =
      let j : Kernel = c.kernel
      in let done : finish_call j pid call (Some c.reply)
      ≡ with_processes j (change_living j.processes pid after_call) =
      finished-alike call a lives j c.processes c.reply
      in let at : LeadsShown (shown_outcome shown (outcome_of_effect (replying j c.reply)))
      (successor (finish_call j pid call (Some c.reply)) (outcome_of_effect (replying j c.reply)))
      (after_effect pid (mq.replying (shown_kernel j) (shown_reply shown c.reply))) =
      record {
        outcome_is = refl;
        shown = ap shown_kernel (sym done);
        queues = subst (λ (i : Kernel). AllValues StandsForQueue i.queues) (sym done) c.queues;
      }
      in let P : Effect → Type 0 = λ x.
      LeadsShown (shown_outcome shown (outcome_of_effect x))
      (successor (finish_call x.kernel pid call x.own) (outcome_of_effect x)) (after_effect pid f)
      in subst P (sym c.is)
      (subst
      (λ (g : MqEffect).
      LeadsShown (shown_outcome shown (outcome_of_effect (replying j c.reply)))
      (successor (finish_call j pid call (Some c.reply)) (outcome_of_effect (replying j c.reply)))
      (after_effect pid g))
      (sym c.shown) at)

  module _ (call : Call) (n : ℕ) (does : Option MqEffect) where
    acting : (a : Alive) → living_at k pid ≡ Some a → (b : Bool) → b ≡ may_act a → (e : Option Effect)
        → ComeTo k shown e does
        → LeadShown (λ s. shown_outcome shown s.outcome) (if b then outcome_of pid call e else None)
        (on_queues (shown_kernel k) pid does (Some a))
    acting a lives b may e c = by_effect does e c
      where
        by_test : (t : Bool) (e : Effect) (f : MqEffect) → ComesTo k shown e f
            → LeadShown (λ s. shown_outcome shown s.outcome) (if t then outcome_of pid call (Some e) else None)
            (if t then Some (after_effect pid f) else None)
        by_test true e f c = leads call a lives e f c
        by_test false e f c = tt

        none : (t : Bool)
            → LeadShown (λ s. shown_outcome shown s.outcome) (if t then outcome_of pid call None else None) None
        none true = tt
        none false = tt

        by_effect : (d : Option MqEffect) (e : Option Effect) → ComeTo k shown e d
            → LeadShown (λ s. shown_outcome shown s.outcome) (if b then outcome_of pid call e else None)
            (on_queues (shown_kernel k) pid d (Some a))
        by_effect None None c = none b
        by_effect (Some f) (Some e) c =
            subst
            (λ (t : Bool).
            LeadShown (λ s. shown_outcome shown s.outcome) (if b then outcome_of pid call (Some e) else None)
            (if t then Some (after_effect pid f) else None))
            may (by_test b e f c)
        by_effect None (Some e) c = absurd c
        by_effect (Some f) None c = absurd c

    by-living : withdrawn_from call ≡ None → ((a : Alive) → may_make a call ≡ may_act a)
        → ((a : Alive) → ComeTo k shown (effect k (waiter pid call) a n) does) → (o : Option Alive)
        → living_at k pid ≡ o
        → LeadShown (λ s. shown_outcome shown s.outcome) (transition_by k pid call n o)
        (on_queues (shown_kernel k) pid does o)
    by-living plain may comes None lives = tt
    by-living plain may comes (Some a) lives =
        subst
        (λ (w : Option Name).
        LeadShown (λ s. shown_outcome shown s.outcome) (step_by k pid call n a w)
        (on_queues (shown_kernel k) pid does (Some a)))
        (sym plain)
        (acting a lives (may_make a call) (may a) (effect k (waiter pid call) a n) (comes a))

    -- a call whose effects go together steps together
    pub call-together : withdrawn_from call ≡ None → ((a : Alive) → may_make a call ≡ may_act a)
        → ((a : Alive) → ComeTo k shown (effect k (waiter pid call) a n) does)
        → LeadShown (λ s. shown_outcome shown s.outcome) (transition k pid call n)
        (on_queues (shown_kernel k) pid does (living_at k pid))
    call-together plain may comes = by-living plain may comes (living_at k pid) refl

-- ---- calls on a queue that may be there

module _ (k : Kernel) (stand : AllValues StandsForQueue k.queues) (rising : IsRising k.queues) (id : ℕ)
    (shown : MqCall) (on : (reply : Reply) → shown_reply shown reply ≡ shown_on_queues reply) where
  -- a call that leaves the kernel as it is
  pub stays : (reply : Reply)
      → ComesTo k shown (replying k reply) (mq.replying (shown_kernel k) (shown_on_queues reply))
  stays reply =
      record {
        kernel = k;
        reply = reply;
        is = refl;
        processes = refl;
        shown = ap (mq.replying (shown_kernel k)) (sym (on reply));
        queues = stand;
      }

  carried : (who : Waiting) (state : plain_queues.Queue) (ws : List Waiting) → ws ≡ []
      → (t : Attempt plain_queues.Queue)
      → try_queue state who.pid who.call ≡ Some t
      → queue_effect k id (carry_out_on_queue (awaited state ws) who)
      ≡ replying (with_queue k id (unawaited t.state)) t.reply
  carried who state ws none t is =
      ap (λ (o : Option (Attempt plain_queues.Queue)).
      queue_effect k id (carry_out_by try_queue (awaited state ws) who o)) is
      ∙ subst
      (λ (vs : List Waiting).
      queue_effect k id (carry_out_by try_queue (awaited state vs) who (Some t))
      ≡ replying (with_queue k id (unawaited t.state)) t.reply)
      (sym none) refl

  -- a look, or a refusal
  pub looks : (who : Waiting) (q : Awaited plain_queues.Queue) → get k.queues id ≡ Some q → (reply : Reply)
      → try_queue q.state who.pid who.call ≡ Some (attempt q.state reply)
      → ComesTo k shown (queue_effect k id (carry_out_on_queue q who))
      (mq.replying (shown_kernel k) (shown_on_queues reply))
  looks who q there reply is =
      let stands : StandsForQueue q = all-get StandsForQueue k.queues id q stand there
      in let same : unawaited q.state ≡ q =
      ap (λ (ws : List Waiting). awaited q.state ws) (sym stands.waiters)
      in let kept : with_queue k id (unawaited q.state) ≡ k =
      ap (with_queue k id) same
      ∙ ap (λ (qs : Numbered (Awaited plain_queues.Queue)). record k { queues = qs })
      (put-same k.queues id q rising there)
      in let comes : queue_effect k id (carry_out_on_queue q who) ≡ replying k reply =
      carried who q.state q.waiters stands.waiters (attempt q.state reply) is ∙ ap (λ j. replying j reply) kept
      in subst (λ (e : Effect). ComesTo k shown e (mq.replying (shown_kernel k) (shown_on_queues reply))) (sym comes)
      (stays reply)

  -- a change
  pub changes : (who : Waiting) (q : Awaited plain_queues.Queue) → get k.queues id ≡ Some q
      → (next : plain_queues.Queue) (reply : Reply)
      → try_queue q.state who.pid who.call ≡ Some (attempt next reply)
      → StandsForQueue (unawaited next)
      → ComesTo k shown (queue_effect k id (carry_out_on_queue q who))
      (mq.replying (mq.with_queue (shown_kernel k) id (shown_queue (unawaited next))) (shown_on_queues reply))
  changes who q there next reply is stands =
      let old : StandsForQueue q = all-get StandsForQueue k.queues id q stand there
      in record {
        kernel = with_queue k id (unawaited next);
        reply = reply;
        is = carried who q.state q.waiters old.waiters (attempt next reply) is;
        processes = refl;
        shown =
            ap
            (λ (qs : Numbered mq_queues.Queue).
            (let m : MqKernel = shown_kernel k in mq.replying (record m { queues = qs }) (shown_on_queues reply)))
            (put-each shown_queue k.queues id (unawaited next))
            ∙ ap (mq.replying (shown_kernel (with_queue k id (unawaited next)))) (sym (on reply));
        queues = all-put StandsForQueue k.queues id (unawaited next) stand stands;
      }

  by-queue : (who : Waiting) (f : mq_queues.Queue → MqEffect)
      → ((q : Awaited plain_queues.Queue) → get k.queues id ≡ Some q → StandsForQueue q
      → ComesTo k shown (queue_effect k id (carry_out_on_queue q who)) (f (shown_queue q)))
      → (o : Option (Awaited plain_queues.Queue)) → get k.queues id ≡ o
      → ComesTo k shown (on_named k o (λ q. queue_effect k id (carry_out_on_queue q who)))
      (on_queue (shown_kernel k) (option_map shown_queue o) f)
  by-queue who f comes None there = stays (Fail Einval)
  by-queue who f comes (Some q) there = comes q there (all-get StandsForQueue k.queues id q stand there)

  -- a call on a queue, by what it does where there is one
  pub queue-comes : (who : Waiting) (f : mq_queues.Queue → MqEffect)
      → ((q : Awaited plain_queues.Queue) → get k.queues id ≡ Some q → StandsForQueue q
      → ComesTo k shown (queue_effect k id (carry_out_on_queue q who)) (f (shown_queue q)))
      → ComesTo k shown (plain_calls.on_queue k id who)
      (on_queue (shown_kernel k) (get (each shown_queue k.queues) id) f)
  queue-comes who f comes =
      subst
      (λ (o : Option mq_queues.Queue).
      ComesTo k shown (plain_calls.on_queue k id who) (on_queue (shown_kernel k) o f))
      (sym (get-each shown_queue k.queues id)) (by-queue who f comes (get k.queues id) refl)
