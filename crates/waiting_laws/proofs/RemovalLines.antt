-- Removals and withdrawals, in line: waits are broken off.
use Rattle.std.proofs.Common.{◌≡◌, ◌∙◌, ℕ, Bool, true, false, not, List, [], ◌∷◌, ◌++◌, map, Option, Some, None, Result, Ok, Err, refl, ap, sym, subst, inl, inr}
use Rattle.std.specs.List.{AllByRecursion, list_any}
use Rattle.std.specs.Option.{option_and_then, option_map}
use Rattle.std.proofs.lemmas.Bool.{cases_Bool}
use Rattle.pico_base.specs.declared.call.Call.{Call}
use Rattle.pico_base.specs.declared.call.Call.TheVariants as calls
use Rattle.pico_base.specs.declared.numbers.Name.{Name}
use Rattle.pico_base.specs.declared.numbers.Name.TheVariants.{Proc, Msg, Sem}
use Rattle.pico_base.specs.declared.reply.Entry.{Entry}
use Rattle.pico_base.specs.declared.reply.Errno.{Errno}
use Rattle.pico_base.specs.declared.reply.Errno.TheVariants.{Eagain, Eidrm, Einval, Enomsg}
use Rattle.pico_base.specs.declared.reply.Reply.{Reply}
use Rattle.pico_base.specs.declared.reply.Reply.TheVariants as replies
use Rattle.number_maps.specs.Maps.{Numbered, get, put, without}
use Rattle.number_maps.specs.Rising.{IsRising}
use Rattle.kernel_model.specs.Effect as plain_effects
use Rattle.kernel_model.specs.Kernel as plain
use Rattle.kernel_model.specs.Queue.{Queue, Received, receive, send}
use Rattle.kernel_model.specs.QueueCalls as plain_queues
use Rattle.kernel_model.specs.QueueCalls.{unbind}
use Rattle.kernel_model.specs.Row as plain_rows
use Rattle.kernel_model.specs.SemaphoreSet.{SemaphoreSet, op}
use Rattle.kernel_model.specs.SetCalls as plain_sets
use Rattle.kernel_model.specs.Transition as plain_steps
use Rattle.kernel_model.specs.Waiting.{may_wait}
use Rattle.kernel_laws.proofs.Plain.{not_none}
use Rattle.waiting_model.specs.declared.callers.Waiting.{Waiting}
use Rattle.waiting_model.specs.declared.callers.Wake.{Wake}
use Rattle.waiting_model.specs.Calls.{may_park}
use Rattle.waiting_model.specs.Waiters.{Awaited, IsSettled, changed, refused, wake, without_waiter}
use Rattle.waiting_model.specs.Queue.{stopped, try_queue, try_receive, try_send}
use Rattle.waiting_model.specs.SemaphoreSet.{try_set}
use Rattle.waiting_model.specs.Marks.{Alive, after_reply}
use Rattle.waiting_model.specs.Kernel.{Kernel, Process, change_living, living_at, wake_all}
use Rattle.waiting_model.specs.Effect.{Effect, on_named, refuse, woken_pair}
use Rattle.waiting_model.specs.Linear.{LeadInLine, BreaksOff, at_once}
use Rattle.waiting_model.specs.Plain.{each}
use Rattle.waiting_model.specs.QueueCalls.{remove_queue}
use Rattle.waiting_model.specs.SetCalls.{remove_set}
use Rattle.waiting_model.specs.Transition.{queue_without, set_without, unparked, withdrawn}
use Rattle.waiting_laws.specs.InLine.{IsAlike}
use Rattle.waiting_laws.specs.Lines.{MayMakeLines, marked_line, own_line, wait_lines}
use Rattle.waiting_laws.specs.Parked.{mark_in}
use Rattle.waiting_laws.proofs.AtOnce.{op-at-once}
use Rattle.waiting_laws.proofs.Fair.{AllFair, FairAt, fair-finished, fair-marked, fair-woken}
use Rattle.waiting_laws.proofs.MarkMoves.{left-processes}
use Rattle.waiting_laws.proofs.Maps.{all-get, get-each, put-each, put-same, rising-each, without-each}
use Rattle.waiting_laws.proofs.QueueLines.{nothing-named}
use Rattle.waiting_laws.proofs.Rows.{LivesAlike, RowsAlike, alike-living, form-alike, in_form, keeps-replied, rows-marked, rows-woken}
use Rattle.waiting_laws.proofs.Standing.{InBoth, IsOnSet, StandsInLine, all-each, finished-alike, queue-marked, same-refusal, same-line, set-marked, stands-same}
use Rattle.waiting_laws.proofs.Tries.{at_queue}

-- ---- who has to wait is in a call that may

stopped-waits : {T : Type 0} (state : T) (nowait : Bool) (e : Errno) → stopped state nowait e ≡ None → not nowait ≡ true
stopped-waits state true e h = not_none (refused state e) h
stopped-waits state false e h = refl

send-waits : (q : Queue) (nowait : Bool) (r : Result Queue Errno) → try_send q nowait r ≡ None → not nowait ≡ true
send-waits q nowait (Ok next) h = not_none _ h
send-waits q nowait (Err Eagain) h = stopped-waits q nowait Eagain h
send-waits q nowait (Err e) h = not_none _ h

receive-waits : (q : Queue) (nowait : Bool) (r : Result Received Errno) → try_receive q nowait r ≡ None
    → not nowait ≡ true
receive-waits q nowait (Ok r) h = not_none _ h
receive-waits q nowait (Err Enomsg) h = stopped-waits q nowait Enomsg h
receive-waits q nowait (Err e) h = not_none _ h

-- a call that comes to nothing yet on a queue is one that may park
pub queue-waits : (q : Queue) (pid : ℕ) (call : Call) → try_queue q pid call ≡ None → may_park call ≡ true
queue-waits q pid (calls.MsgSnd id class text nowait) h = send-waits q nowait (send q pid class text) h
queue-waits q pid (calls.MsgRcv id class size noerror nowait) h =
    receive-waits q nowait (receive q pid class size noerror) h
queue-waits q pid call h = not_none _ h

-- and so is one on a set
pub set-waits : (s : SemaphoreSet) (pid : ℕ) (call : Call) → try_set s pid call ≡ None → may_park call ≡ true
set-waits s pid (calls.SemOp id steps) h =
    elim (cases_Bool (list_any may_wait steps)) [
      | inl may ↦ may
      | inr never ↦ not_none (changed s (op s pid steps)) (sym (op-at-once s pid steps never) ∙ h)
    ]
set-waits s pid call h = not_none _ h

-- ---- removals

all-and : {A : Type 0} (P Q : A → Type 0) (xs : List A) → AllByRecursion P xs → AllByRecursion Q xs
    → AllByRecursion (λ x. P x × Q x) xs
all-and P Q [] h g = tt
all-and P Q (x ∷ xs) h g = ((h.0, g.0), all-and P Q xs h.1 g.1)

module _ (k : Kernel) (node : ℕ) where
  -- who waits is marked with its call, and that may have to wait
  abbrev pub Waits : Waiting → Type 0
  Waits w = (mark_in k.processes w.pid ≡ Some w.call) × (may_park w.call ≡ true)

  -- the waits are broken off, one after another
  broken : (j : plain.Kernel) (ws : List Waiting) → AllByRecursion Waits ws
      → LeadInLine j (wait_lines k node (map woken_pair (map (λ w. wake w (replies.Fail Eidrm)) ws))) j
  broken j [] all = refl
  broken j (w ∷ ws) all =
      let rest : LeadInLine j (wait_lines k node (map woken_pair (map (λ v. wake v (replies.Fail Eidrm)) ws))) j =
      broken j ws all.1
      in subst
      (λ (m : Option Call).
      LeadInLine j
      (marked_line node w.pid m (replies.Fail Eidrm)
      ++ wait_lines k node (map woken_pair (map (λ v. wake v (replies.Fail Eidrm)) ws)))
      j)
      (sym all.0.0)
      (record { next = j; leads = BreaksOff Eidrm all.0.1 refl refl refl; rest = rest })

  queue-all-wait : (q : Awaited Queue) (id : ℕ) → IsSettled try_queue q
      → AllByRecursion (λ w. (mark_in k.processes w.pid ≡ Some w.call) × (at_queue w.call ≡ Some id)) q.waiters
      → AllByRecursion Waits q.waiters
  queue-all-wait q id settled marked =
      all-each
      (λ w. ((mark_in k.processes w.pid ≡ Some w.call) × (at_queue w.call ≡ Some id))
      × (try_queue q.state w.pid w.call ≡ None))
      Waits (λ w h. (h.0.0, queue-waits q.state w.pid w.call h.1)) q.waiters
      (all-and (λ w. (mark_in k.processes w.pid ≡ Some w.call) × (at_queue w.call ≡ Some id))
      (λ w. try_queue q.state w.pid w.call ≡ None) q.waiters marked settled)

  set-all-wait : (s : Awaited SemaphoreSet) (id : ℕ) → IsSettled try_set s
      → AllByRecursion (λ w. (mark_in k.processes w.pid ≡ Some w.call) × IsOnSet id w.call) s.waiters
      → AllByRecursion Waits s.waiters
  set-all-wait s id settled marked =
      all-each
      (λ w. ((mark_in k.processes w.pid ≡ Some w.call) × IsOnSet id w.call) × (try_set s.state w.pid w.call ≡ None))
      Waits (λ w h. (h.0.0, set-waits s.state w.pid w.call h.1)) s.waiters
      (all-and (λ w. (mark_in k.processes w.pid ≡ Some w.call) × IsOnSet id w.call)
      (λ w. try_set s.state w.pid w.call ≡ None) s.waiters marked settled)

module _ (k : Kernel) (qs : Numbered plain.Process) (both : InBoth k qs) (node pid : ℕ) (a : Alive)
    (lives : living_at k pid ≡ Some a) (call : Call) where
  abbrev its_wakes : List Waiting → List Wake
  its_wakes ws = map (λ w. wake w (replies.Fail Eidrm)) ws

  abbrev lines : Option Reply → List Wake → List Entry
  lines own wakes = own_line node pid call own ++ wait_lines k node (map woken_pair wakes)

  -- Something is removed: the caller's line, and then those of all who wait.
  removed-lines : (mid : Kernel) (next : plain.Kernel) (ws : List Waiting) → mid.processes ≡ k.processes
      → in_form mid qs ≡ next
      → ((b : plain_rows.Alive)
      → plain_steps.effect (in_form k qs) pid b (at_once call) 0 ≡ Some (plain_effects.reply_with next 0))
      → AllByRecursion (Waits k node) ws → MayMakeLines (in_form k qs) (lines (Some (replies.Num 0)) (its_wakes ws))
      → StandsInLine k (in_form k qs) node pid call (let e : Effect =
      record { kernel = wake_all mid (its_wakes ws); own = Some (replies.Num 0); wakes = its_wakes ws }
      in e)
  removed-lines mid next ws same form does waits may =
      let other : LivesAlike (get qs pid) a = alike-living k.processes qs both.alike pid a lives
      in let living : plain.living_in qs pid ≡ Some other.alive = ap (option_and_then plain.alive_in) other.is
      in let last : plain.Kernel = plain_steps.finish_call next pid (plain.living_at next pid)
      in record {
        last = last;
        leads = record {
          next = last;
          leads =
              same-line k qs node pid call other.alive living (plain_effects.reply_with next 0) may.0
              (does other.alive);
          rest = broken k node last ws waits;
        };
        alike =
            finished-alike k qs node pid call other.alive living (wake_all mid (its_wakes ws)) qs
            (rows-woken mid.processes qs
            (subst (λ (ps : Numbered Process). RowsAlike ps qs) (sym same) both.alike) (its_wakes ws))
            (Some (replies.Num 0)) next form;
        fair =
            fair-finished (wake_all mid (its_wakes ws)) pid call (Some (replies.Num 0))
            (λ q ne.
            fair-woken mid.processes (its_wakes ws) q
            (subst (λ (ps : Numbered Process). FairAt ps q) (sym same) (both.fair q)));
      }

  -- there is nothing to remove
  nothing-removed : ((b : plain_rows.Alive)
      → plain_steps.effect (in_form k qs) pid b (at_once call) 0
      ≡ Some (plain_effects.refuse (in_form k qs) Einval))
      → MayMakeLines (in_form k qs) (lines (Some (replies.Fail Einval)) [])
      → StandsInLine k (in_form k qs) node pid call (refuse k Einval)
  nothing-removed does may =
      let other : LivesAlike (get qs pid) a = alike-living k.processes qs both.alike pid a lives
      in stands-same k qs node pid call other.alive (ap (option_and_then plain.alive_in) other.is) (refuse k Einval)
      (plain_effects.refuse (in_form k qs) Einval) (same-refusal k qs both pid Einval) may (does other.alive)

module _ (k : Kernel) (qs : Numbered plain.Process) (both : InBoth k qs) (node pid : ℕ) (a : Alive)
    (lives : living_at k pid ≡ Some a) (id : ℕ) where
  queue-removed : (o : Option (Awaited Queue)) → get k.queues id ≡ o
      → (let e : Effect = on_named k o (remove_queue k id)
      in MayMakeLines (in_form k qs)
      (own_line node pid (calls.MsgRmid id) e.own ++ wait_lines k node (map woken_pair e.wakes))
      → StandsInLine k (in_form k qs) node pid (calls.MsgRmid id) e)
  queue-removed None there may =
      nothing-removed k qs both node pid a lives (calls.MsgRmid id)
      (λ b.
      nothing-named (in_form k qs) (get (each (λ w. w.state) k.queues) id) _
      (get-each (λ w. w.state) k.queues id ∙ ap (option_map (λ (w : Awaited Queue). w.state)) there))
      may
  queue-removed (Some q) there may =
      let mid : Kernel = record k { queues = without k.queues id; queue_keys = unbind k.queue_keys id }
      in let gone : Numbered Queue = without (each (λ w. w.state) k.queues) id
      in let next : plain.Kernel = record (in_form k qs) { queues = gone; queue_keys = unbind k.queue_keys id }
      in removed-lines k qs both node pid a lives (calls.MsgRmid id) mid next q.waiters refl
      (ap
      (λ (m : Numbered Queue). record (in_form k qs) { queues = m; queue_keys = unbind k.queue_keys id })
      (sym (without-each (λ w. w.state) k.queues id)))
      (λ b.
      ap
      (λ (o : Option Queue).
      (let e : Option plain_effects.Effect =
      Some (plain_effects.on_named (in_form k qs) o (λ _. plain_queues.remove_queue (in_form k qs) id))
      in e))
      (get-each (λ w. w.state) k.queues id ∙ ap (option_map (λ (w : Awaited Queue). w.state)) there))
      (queue-all-wait k node q id (all-get (IsSettled try_queue) k.queues id q both.settled.queues there)
      (queue-marked k both.marks id q there))
      may

  set-removed : (o : Option (Awaited SemaphoreSet)) → get k.sets id ≡ o
      → (let e : Effect = on_named k o (remove_set k id)
      in MayMakeLines (in_form k qs)
      (own_line node pid (calls.SemRmid id) e.own ++ wait_lines k node (map woken_pair e.wakes))
      → StandsInLine k (in_form k qs) node pid (calls.SemRmid id) e)
  set-removed None there may =
      nothing-removed k qs both node pid a lives (calls.SemRmid id)
      (λ b.
      nothing-named (in_form k qs) (get (each (λ w. w.state) k.sets) id) _
      (get-each (λ w. w.state) k.sets id ∙ ap (option_map (λ (w : Awaited SemaphoreSet). w.state)) there))
      may
  set-removed (Some s) there may =
      let mid : Kernel = record k { sets = without k.sets id; set_keys = unbind k.set_keys id }
      in let gone : Numbered SemaphoreSet = without (each (λ w. w.state) k.sets) id
      in let next : plain.Kernel = record (in_form k qs) { sets = gone; set_keys = unbind k.set_keys id }
      in removed-lines k qs both node pid a lives (calls.SemRmid id) mid next s.waiters refl
      (ap
      (λ (m : Numbered SemaphoreSet). record (in_form k qs) { sets = m; set_keys = unbind k.set_keys id })
      (sym (without-each (λ w. w.state) k.sets id)))
      (λ b.
      ap
      (λ (o : Option SemaphoreSet).
      (let e : Option plain_effects.Effect =
      Some (plain_effects.on_named (in_form k qs) o (λ _. plain_sets.remove_set (in_form k qs) id))
      in e))
      (get-each (λ w. w.state) k.sets id ∙ ap (option_map (λ (w : Awaited SemaphoreSet). w.state)) there))
      (set-all-wait k node s id (all-get (IsSettled try_set) k.sets id s both.settled.sets there)
      (set-marked k both.marks id s there))
      may

  -- the removal of a queue
  pub queue-removal-in-line : (e : Effect) → on_named k (get k.queues id) (remove_queue k id) ≡ e
      → MayMakeLines (in_form k qs)
      (own_line node pid (calls.MsgRmid id) e.own ++ wait_lines k node (map woken_pair e.wakes))
      → StandsInLine k (in_form k qs) node pid (calls.MsgRmid id) e
  queue-removal-in-line e is may =
      subst (λ (x : Effect). StandsInLine k (in_form k qs) node pid (calls.MsgRmid id) x) is
      (queue-removed (get k.queues id) refl
      (subst
      (λ (x : Effect).
      MayMakeLines (in_form k qs)
      (own_line node pid (calls.MsgRmid id) x.own ++ wait_lines k node (map woken_pair x.wakes)))
      (sym is) may))

  -- and of a set
  pub set-removal-in-line : (e : Effect) → on_named k (get k.sets id) (remove_set k id) ≡ e
      → MayMakeLines (in_form k qs)
      (own_line node pid (calls.SemRmid id) e.own ++ wait_lines k node (map woken_pair e.wakes))
      → StandsInLine k (in_form k qs) node pid (calls.SemRmid id) e
  set-removal-in-line e is may =
      subst (λ (x : Effect). StandsInLine k (in_form k qs) node pid (calls.SemRmid id) x) is
      (set-removed (get k.sets id) refl
      (subst
      (λ (x : Effect).
      MayMakeLines (in_form k qs)
      (own_line node pid (calls.SemRmid id) x.own ++ wait_lines k node (map woken_pair x.wakes)))
      (sym is) may))

-- ---- withdrawals

-- a queue, or a set, without one who waits there has the same state
same-states : {T : Type 0} (m : Numbered (Awaited T)) (id pid : ℕ) (w : Awaited T) → IsRising m → get m id ≡ Some w
    → each (λ o. o.state) (put m id (without_waiter pid w)) ≡ each (λ o. o.state) m
same-states m id pid w rising there =
    sym (put-each (λ o. o.state) m id (without_waiter pid w))
    ∙ put-same (each (λ o. o.state) m) id w.state (rising-each (λ o. o.state) m rising)
    (get-each (λ o. o.state) m id ∙ ap (option_map (λ (o : Awaited _). o.state)) there)

-- so the whole kernel has the same form
pub left-form : (k : Kernel) (qs : Numbered plain.Process) → IsRising k.queues → IsRising k.sets
    → (pid : ℕ) (name : Name)
    → in_form (withdrawn k pid name) qs ≡ in_form k qs
left-form k qs queues sets pid (Proc own) = refl
left-form k qs queues sets pid (Msg id) = by_queue (get k.queues id) refl
  where
    by_queue : (o : Option (Awaited Queue)) → get k.queues id ≡ o
        → in_form (queue_without k id pid o) qs ≡ in_form k qs
    by_queue None there = refl
    by_queue (Some q) there =
        ap (λ (m : Numbered Queue). record (in_form k qs) { queues = m })
        (same-states k.queues id pid q queues there)
left-form k qs queues sets pid (Sem id) = by_set (get k.sets id) refl
  where
    by_set : (o : Option (Awaited SemaphoreSet)) → get k.sets id ≡ o
        → in_form (set_without k id pid o) qs ≡ in_form k qs
    by_set None there = refl
    by_set (Some s) there =
        ap (λ (m : Numbered SemaphoreSet). record (in_form k qs) { sets = m })
        (same-states k.sets id pid s sets there)

-- and is alike as it was
pub left-alike : (k : Kernel) (qs : Numbered plain.Process) → RowsAlike k.processes qs → IsRising k.queues
    → IsRising k.sets → (pid : ℕ) (name : Name) → IsAlike (withdrawn k pid name) (in_form k qs)
left-alike k qs alike queues sets pid name =
    let left : Kernel = unparked k pid name
    in subst (λ (j : plain.Kernel). IsAlike (withdrawn k pid name) j) (left-form k qs queues sets pid name)
    (form-alike (withdrawn k pid name) qs
    (subst (λ (ps : Numbered Process). RowsAlike (change_living ps pid after_reply) qs)
    (sym (left-processes k pid name)) (rows-marked k.processes qs alike pid after_reply keeps-replied)))

-- nobody is doomed and yet free
pub left-fair : (k : Kernel) → AllFair k.processes → (pid : ℕ) (name : Name)
    → (let j : Kernel = withdrawn k pid name in AllFair j.processes)
left-fair k fair pid name q =
    subst (λ (ps : Numbered Process). FairAt (change_living ps pid after_reply) q) (sym (left-processes k pid name))
    (fair-marked k.processes pid after_reply keeps-replied q (fair q))
