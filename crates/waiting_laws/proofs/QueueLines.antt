-- Calls on a queue, in line.
use Rattle.std.proofs.Common.{◌≡◌, ◌∙◌, ℕ, false, List, [], ◌++◌, map, Option, Some, None, refl, ap, sym, subst}
use Rattle.std.specs.Option.{option_and_then, option_map}
use Rattle.pico_base.specs.declared.call.Call.{Call}
use Rattle.pico_base.specs.declared.call.Call.TheVariants as calls
use Rattle.pico_base.specs.declared.reply.Entry.{Entry}
use Rattle.pico_base.specs.declared.reply.Errno.TheVariants.{Einval}
use Rattle.pico_base.specs.declared.reply.Reply.{Reply}
use Rattle.pico_base.specs.declared.reply.Reply.TheVariants as replies
use Rattle.number_maps.specs.Maps.{Numbered, get, put}
use Rattle.number_maps.specs.Rising.{IsRising}
use Rattle.number_maps.proofs.Changes.{put-put}
use Rattle.number_maps.proofs.LookUps.{get-put-same}
use Rattle.number_maps.proofs.Rising.{rising-put}
use Rattle.kernel_model.specs.Effect as plain_effects
use Rattle.kernel_model.specs.Effect.{reply_alone}
use Rattle.kernel_model.specs.Kernel as plain
use Rattle.kernel_model.specs.Queue.{Queue}
use Rattle.kernel_model.specs.Row.{Spent}
use Rattle.kernel_model.specs.Row as plain_rows
use Rattle.kernel_model.specs.Transition as plain_steps
use Rattle.kernel_laws.proofs.Plain.{from_some, not_some}
use Rattle.waiting_model.specs.declared.callers.Wake.{Wake}
use Rattle.waiting_model.specs.Waiters.{Awaited, Carried, waiter}
use Rattle.waiting_model.specs.Queue.{carry_out_on_queue, try_queue}
use Rattle.waiting_model.specs.Marks.{Alive}
use Rattle.waiting_model.specs.Kernel.{Kernel, living_at, wake_all}
use Rattle.waiting_model.specs.Effect.{Effect, on_named, refuse, woken_pair}
use Rattle.waiting_model.specs.Linear.{LeadInLine, at_once}
use Rattle.waiting_model.specs.Plain.{each}
use Rattle.waiting_model.specs.QueueCalls.{on_queue, queue_effect, with_queue}
use Rattle.waiting_model.specs.Transition.{finish_call}
use Rattle.waiting_laws.specs.InLine.{IsAlike}
use Rattle.waiting_laws.specs.Lines.{MayMakeLines, own_line, wait_lines}
use Rattle.waiting_laws.specs.Woken.{WokenOnce, woken_in}
use Rattle.waiting_laws.proofs.AtOnce.{may-at-once}
use Rattle.waiting_laws.proofs.Fair.{fair-finished, fair-woken}
use Rattle.waiting_laws.proofs.Maps.{get-each, put-each, put-same, rising-each}
use Rattle.waiting_laws.proofs.Order.{wakes-in-order}
use Rattle.waiting_laws.proofs.Rounds.{PlaysTry, Rounds, carried-lines}
use Rattle.waiting_laws.proofs.Rows.{LivesAlike, RowsAlike, alike-finished, alike-living, in_form, plain-finished, rows-woken}
use Rattle.waiting_laws.proofs.Standing.{InBoth, StandsInLine, queue-marked, same-refusal, stands-same}
use Rattle.waiting_laws.proofs.Steps.{plain-step-is}
use Rattle.waiting_laws.proofs.Tries.{answers_queue, at_queue, queue-answers}

-- there is no queue, or set, of the number
pub nothing-named : {V : Type 0} (j : plain.Kernel) (o : Option V) (f : V → plain_effects.Effect) → o ≡ None
    → Some (plain_effects.on_named j o f) ≡ Some (plain_effects.refuse j Einval)
nothing-named {V} j o f none =
    ap (λ (x : Option V). (let e : Option plain_effects.Effect = Some (plain_effects.on_named j x f) in e)) none

-- where there is no such queue
pub lacks-queue : (j : plain.Kernel) (pid : ℕ) (b : plain_rows.Alive) (call : Call) (n id : ℕ)
    → at_queue call ≡ Some id → get j.queues id ≡ None
    → plain_steps.effect j pid b (at_once call) n ≡ Some (plain_effects.refuse j Einval)
lacks-queue j pid b (calls.MsgSnd i class text nowait) n id named none =
    nothing-named j (get j.queues i) _ (ap (get j.queues) (from_some i id named) ∙ none)
lacks-queue j pid b (calls.MsgRcv i class size noerror nowait) n id named none =
    nothing-named j (get j.queues i) _ (ap (get j.queues) (from_some i id named) ∙ none)
lacks-queue j pid b (calls.MsgStat i) n id named none =
    nothing-named j (get j.queues i) _ (ap (get j.queues) (from_some i id named) ∙ none)
lacks-queue j pid b (calls.MsgSet i qbytes) n id named none =
    nothing-named j (get j.queues i) _ (ap (get j.queues) (from_some i id named) ∙ none)
lacks-queue j pid b call n id named none = not_some id named

module _ (k : Kernel) (rising : IsRising k.queues) (id : ℕ) where
  -- the queues by themselves
  abbrev states : Numbered Queue
  states = each (λ q. q.state) k.queues

  -- the other kernel, with this state of the queue
  abbrev form : Numbered plain.Process → Queue → plain.Kernel
  form qs state = record (in_form k qs) { queues = put states id state }

  abbrev Fits : Call → Type 0
  Fits call = at_queue call ≡ Some id

  plays : PlaysTry try_queue Fits form
  plays =
      record {
        lives = λ qs state q. refl;
        does = λ qs state pid call b n t fits tried lives may.
            (let now : plain.Kernel = form qs state
            in let e : plain_effects.Effect = answers_queue now id t
            in let kernel : e.kernel ≡ form qs t.state =
            ap (λ (m : Numbered Queue). record (in_form k qs) { queues = m }) (put-put states id state t.state)
            in plain-step-is now pid (at_once call) n b e lives (may-at-once b call ∙ may)
            (queue-answers now (rising-put states id state (rising-each (λ q. q.state) k.queues rising)) pid b n call id
            fits state (get-put-same states id state) t tried)
            ∙ (ap
            (λ (m : plain.Kernel).
            (let s : Option plain_steps.Successor =
            Some (plain_steps.successor (plain_steps.finish_call m pid (plain.living_at m pid)) (reply_alone t.reply))
            in s))
            kernel
            ∙ (ap
            (λ (o : Option plain_rows.Alive).
            (let s : Option plain_steps.Successor =
            Some (plain_steps.successor (plain_steps.finish_call (form qs t.state) pid o) (reply_alone t.reply))
            in s))
            lives
            ∙ ap
            (λ (m : plain.Kernel).
            (let s : Option plain_steps.Successor = Some (plain_steps.successor m (reply_alone t.reply)) in s))
            (plain-finished (form qs t.state) pid (Some b)))));
      }

  -- the whole kernel afterwards
  after-alike : (o : Awaited Queue) (rows : Numbered plain.Process) → RowsAlike k.processes rows
      → (wakes : List Wake) (pid : ℕ) (call : Call) (own : Option Reply)
      → IsAlike (finish_call (wake_all (with_queue k id o) wakes) pid call own) (form rows o.state)
  after-alike o rows alike wakes pid call own =
      subst
      (λ (m : Numbered Queue).
      IsAlike (finish_call (wake_all (with_queue k id o) wakes) pid call own) (record (in_form k rows) { queues = m }))
      (sym (put-each (λ q. q.state) k.queues id o))
      (alike-finished (wake_all (with_queue k id o) wakes) rows (rows-woken k.processes rows alike wakes) pid call own)

module _ (k : Kernel) (qs : Numbered plain.Process) (both : InBoth k qs) (node pid : ℕ) (a : Alive)
    (lives : living_at k pid ≡ Some a) (call : Call) (id : ℕ) (named : at_queue call ≡ Some id) where
  abbrev lines : Option Reply → List Wake → List Entry
  lines own wakes = own_line node pid call own ++ wait_lines k node (map woken_pair wakes)

  -- at a queue that is there
  queue-there : (q : Awaited Queue) → get k.queues id ≡ Some q
      → (let c : Carried Queue = carry_out_on_queue q (waiter pid call)
      in WokenOnce (map woken_pair c.wakes) → woken_in pid (map woken_pair c.wakes) ≡ false
      → MayMakeLines (in_form k qs) (lines c.own c.wakes)
      → StandsInLine k (in_form k qs) node pid call (queue_effect k id c))
  queue-there q there once isnt may =
      let c : Carried Queue = carry_out_on_queue q (waiter pid call)
      in let state : get (states k both.queues id) id ≡ Some q.state =
      get-each (λ w. w.state) k.queues id ∙ ap (option_map (λ (w : Awaited Queue). w.state)) there
      in let same : form k both.queues id qs q.state ≡ in_form k qs =
      ap (λ (m : Numbered Queue). record (in_form k qs) { queues = m })
      (put-same (states k both.queues id) id q.state (rising-each (λ w. w.state) k.queues both.queues) state)
      in let r : Rounds try_queue (Fits k both.queues id) (form k both.queues id) (plays k both.queues id) k node qs
      q.state (lines c.own c.wakes) c.object.state =
      carried-lines try_queue (Fits k both.queues id) (form k both.queues id) (plays k both.queues id) k node q
      (waiter pid call) (try_queue q.state pid call) refl a lives named (queue-marked k both.marks id q there) qs
      both.alike (λ t is. wakes-in-order.0 q (waiter pid call) t is) once isnt
      (subst (λ (m : plain.Kernel). MayMakeLines m (lines c.own c.wakes)) (sym same) may)
      in record {
        last = form k both.queues id r.rows c.object.state;
        leads =
            subst
            (λ (m : plain.Kernel).
            LeadInLine m (lines c.own c.wakes) (form k both.queues id r.rows c.object.state))
            same r.leads;
        alike = after-alike k both.queues id c.object r.rows r.alike c.wakes pid call c.own;
        fair =
            fair-finished (wake_all (with_queue k id c.object) c.wakes) pid call c.own
            (λ q ne. fair-woken k.processes c.wakes q (both.fair q));
      }

  -- where there is none
  queue-lacking : get k.queues id ≡ None
      → MayMakeLines (in_form k qs) (lines (Some (replies.Fail Einval)) [])
      → StandsInLine k (in_form k qs) node pid call (refuse k Einval)
  queue-lacking none may =
      let other : LivesAlike (get qs pid) a = alike-living k.processes qs both.alike pid a lives
      in stands-same k qs node pid call other.alive (ap (option_and_then plain.alive_in) other.is) (refuse k Einval)
      (plain_effects.refuse (in_form k qs) Einval) (same-refusal k qs both pid Einval) may
      (lacks-queue (in_form k qs) pid other.alive call 0 id named
      (get-each (λ w. w.state) k.queues id ∙ ap (option_map (λ (w : Awaited Queue). w.state)) none))

  -- a call on a queue
  pub queue-in-line : (e : Effect) → on_queue k id (waiter pid call) ≡ e → WokenOnce (map woken_pair e.wakes)
      → woken_in pid (map woken_pair e.wakes) ≡ false → MayMakeLines (in_form k qs) (lines e.own e.wakes)
      → StandsInLine k (in_form k qs) node pid call e
  queue-in-line e is once isnt may = by_queue (get k.queues id) refl e is once isnt may
    where
      by_queue : (o : Option (Awaited Queue)) → get k.queues id ≡ o → (e : Effect)
          → on_named k o (λ q. queue_effect k id (carry_out_on_queue q (waiter pid call))) ≡ e
          → WokenOnce (map woken_pair e.wakes) → woken_in pid (map woken_pair e.wakes) ≡ false
          → MayMakeLines (in_form k qs) (lines e.own e.wakes) → StandsInLine k (in_form k qs) node pid call e
      by_queue None there e is once isnt may =
          subst (λ (x : Effect). StandsInLine k (in_form k qs) node pid call x) is
          (queue-lacking there
          (subst (λ (x : Effect). MayMakeLines (in_form k qs) (lines x.own x.wakes)) (sym is) may))
      by_queue (Some q) there e is once isnt may =
          subst (λ (x : Effect). StandsInLine k (in_form k qs) node pid call x) is
          (queue-there q there (subst (λ (x : Effect). WokenOnce (map woken_pair x.wakes)) (sym is) once)
          (subst (λ (x : Effect). woken_in pid (map woken_pair x.wakes) ≡ false) (sym is) isnt)
          (subst (λ (x : Effect). MayMakeLines (in_form k qs) (lines x.own x.wakes)) (sym is) may))
