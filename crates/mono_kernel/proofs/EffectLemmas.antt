-- Calls on queues and sets, by what they leave in their maps and at the processes.
use Rattle.std.proofs.Common.{◌≡◌, ◌∙◌, ℕ, List, [], ◌∷◌, map, Option, Some, None, refl, sym, ap}
use Rattle.std.specs.List.{fold}
use Rattle.std.specs.Option.{option_map}
use Rattle.pico_base.specs.declared.call.Call.{Call}
use Rattle.pico_base.specs.declared.reply.Reply.{Reply}
use Rattle.pico_base.specs.declared.reply.Reply.TheVariants.{Num, Fail}
use Rattle.pico_base.specs.declared.reply.Errno.TheVariants.{Eidrm}
use Rattle.number_maps.specs.Maps.{Numbered, get, put, without}
use Rattle.kernel_model.specs.Queue.{Queue}
use Rattle.kernel_model.specs.QueueCalls.{unbind}
use Rattle.kernel_model.specs.SemaphoreSet.{SemaphoreSet}
use Rattle.waiting_model.specs.declared.callers.Waiting.{Waiting}
use Rattle.waiting_model.specs.declared.callers.Wake.{Wake}
use Rattle.waiting_model.specs.Waiters.{Awaited, wake, wakes_at_removal}
use Rattle.waiting_model.specs.Kernel.{Kernel, Process, wake_one}
use Rattle.waiting_model.specs.Effect.{woken_pair, on_named}
use Rattle.waiting_model.specs.Queue.{carry_out_on_queue}
use Rattle.waiting_model.specs.QueueCalls.{on_queue, queue_effect, remove_queue}
use Rattle.waiting_model.specs.SemaphoreSet.{carry_out_on_set}
use Rattle.waiting_model.specs.SetCalls.{on_set, set_effect, remove_set}
use Rattle.mono_kernel.specs.declared.done.Done.{Done}
use Rattle.mono_kernel.specs.declared.done.Done.TheVariants.{Replies}
use Rattle.mono_kernel.specs.Answers.{IsDone}
use Rattle.mono_kernel.specs.At.{CarriesAt, CarriedBy}
use Rattle.mono_kernel.specs.Done.{woken_of}
use Rattle.mono_kernel.specs.Table.{with_answers}
use Rattle.mono_kernel.specs.Waiters.{eidrm_for}

-- those who are woken, as wakes and as pairs
answers-are : (wakes : List Wake) (ps : Numbered Process)
    → fold wake_one ps wakes ≡ with_answers ps (map woken_pair wakes)
answers-are [] ps = refl
answers-are (w ∷ wakes) ps = answers-are wakes (wake_one ps w)

refusals-are : (ws : List Waiting) → map woken_pair (map (λ w. wake w (Fail Eidrm)) ws) ≡ map eidrm_for ws
refusals-are [] = refl
refusals-are (w ∷ ws) = ap (λ (xs : List (ℕ × Reply)). eidrm_for w ∷ xs) (refusals-are ws)

with_queues : Kernel → Numbered (Awaited Queue) → Numbered Process → Kernel
with_queues k queues ps = record k { queues = queues; processes = ps }

-- a call that was carried out on a queue is done
pub queue-done : (k new : Kernel) (id : ℕ) (who : Waiting) (call : Call) (queues : Numbered (Awaited Queue))
    (done : Done)
    → CarriesAt (λ q. carry_out_on_queue q who) k.queues id call queues done
    → new ≡ record k { queues = queues; processes = with_answers k.processes (woken_of done) }
    → IsDone (on_queue k id who) call new done
unfolding with_queues
queue-done k new id who call queues done carried is = at (get k.queues id) carried
  where
    at : (o : Option (Awaited Queue))
        → CarriedBy (option_map (λ q. carry_out_on_queue q who) o) k.queues id call queues done
        → IsDone (on_named k o (λ q. queue_effect k id (carry_out_on_queue q who))) call new done
    at None h =
        rw h.1
        (record {
          kernel = sym (is ∙ ap (λ (d : Done). with_queues k queues (with_answers k.processes (woken_of d))) h.1
              ∙ ap (λ (qs : Numbered (Awaited Queue)). with_queues k qs k.processes) h.0);
          own = refl;
          woken = refl;
          parks = tt;
        })
    at (Some q) h =
        record {
          kernel = ap (with_queues k (put k.queues id (carry_out_on_queue q who).object))
              (answers-are (carry_out_on_queue q who).wakes k.processes
              ∙ ap (with_answers k.processes) h.woken)
              ∙ ap (λ (qs : Numbered (Awaited Queue)). with_queues k qs (with_answers k.processes (woken_of done)))
              (sym h.entries) ∙ sym is;
          own = h.own;
          woken = h.woken;
          parks = h.parks;
        }

-- a queue that is there is removed, and whoever waits there is woken
pub queue-removed : (k new : Kernel) (id : ℕ) (q : Awaited Queue) (call : Call) (woken : List (ℕ × Reply))
    → get k.queues id ≡ Some q
    → woken ≡ map eidrm_for q.waiters
    → new
    ≡ record k {
      queues = without k.queues id;
      queue_keys = unbind k.queue_keys id;
      processes = with_answers k.processes woken;
    }
    → IsDone (on_named k (get k.queues id) (remove_queue k id)) call new (Replies (Num 0) woken)
queue-removed k new id q call woken there told is =
    let pairs : map woken_pair (wakes_at_removal q) ≡ woken = refusals-are q.waiters ∙ sym told
    in rw there
    (record {
      kernel = ap (λ (ps : Numbered Process).
          (record k { queues = without k.queues id; queue_keys = unbind k.queue_keys id; processes = ps }))
          (answers-are (wakes_at_removal q) k.processes ∙ ap (with_answers k.processes) pairs) ∙ sym is;
      own = refl;
      woken = pairs;
      parks = tt;
    })

with_sets : Kernel → Numbered (Awaited SemaphoreSet) → Numbered Process → Kernel
with_sets k sets ps = record k { sets = sets; processes = ps }

-- a call that was carried out on a set is done
pub set-done : (k new : Kernel) (id : ℕ) (who : Waiting) (call : Call) (sets : Numbered (Awaited SemaphoreSet))
    (done : Done)
    → CarriesAt (λ s. carry_out_on_set s who) k.sets id call sets done
    → new ≡ record k { sets = sets; processes = with_answers k.processes (woken_of done) }
    → IsDone (on_set k id who) call new done
unfolding with_sets
set-done k new id who call sets done carried is = at (get k.sets id) carried
  where
    at : (o : Option (Awaited SemaphoreSet))
        → CarriedBy (option_map (λ s. carry_out_on_set s who) o) k.sets id call sets done
        → IsDone (on_named k o (λ s. set_effect k id (carry_out_on_set s who))) call new done
    at None h =
        rw h.1
        (record {
          kernel = sym (is ∙ ap (λ (d : Done). with_sets k sets (with_answers k.processes (woken_of d))) h.1
              ∙ ap (λ (ss : Numbered (Awaited SemaphoreSet)). with_sets k ss k.processes) h.0);
          own = refl;
          woken = refl;
          parks = tt;
        })
    at (Some s) h =
        record {
          kernel = ap (with_sets k (put k.sets id (carry_out_on_set s who).object))
              (answers-are (carry_out_on_set s who).wakes k.processes
              ∙ ap (with_answers k.processes) h.woken)
              ∙ ap (λ (ss : Numbered (Awaited SemaphoreSet)). with_sets k ss (with_answers k.processes (woken_of done)))
              (sym h.entries) ∙ sym is;
          own = h.own;
          woken = h.woken;
          parks = h.parks;
        }

-- a set that is there is removed, and whoever waits there is woken
pub set-removed : (k new : Kernel) (id : ℕ) (s : Awaited SemaphoreSet) (call : Call) (woken : List (ℕ × Reply))
    → get k.sets id ≡ Some s
    → woken ≡ map eidrm_for s.waiters
    → new
    ≡ record k {
      sets = without k.sets id;
      set_keys = unbind k.set_keys id;
      processes = with_answers k.processes woken;
    }
    → IsDone (on_named k (get k.sets id) (remove_set k id)) call new (Replies (Num 0) woken)
set-removed k new id s call woken there told is =
    let pairs : map woken_pair (wakes_at_removal s) ≡ woken = refusals-are s.waiters ∙ sym told
    in rw there
    (record {
      kernel = ap (λ (ps : Numbered Process).
          (record k { sets = without k.sets id; set_keys = unbind k.set_keys id; processes = ps }))
          (answers-are (wakes_at_removal s) k.processes ∙ ap (with_answers k.processes) pairs) ∙ sym is;
      own = refl;
      woken = pairs;
      parks = tt;
    })
