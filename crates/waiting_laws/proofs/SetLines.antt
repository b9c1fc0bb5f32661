-- Calls on a semaphore set, in line.
use Rattle.std.proofs.Common.{◌≡◌, ◌∙◌, ℕ, Bool, true, false, List, [], ◌++◌, map, Option, Some, None, Result, Ok, Err, refl, ap, sym, subst}
use Rattle.std.specs.Prelude.{if◌then◌else◌, slice_get}
use Rattle.std.specs.Option.{option_and_then, option_map}
use Rattle.pico_base.specs.declared.call.Call.{Call}
use Rattle.pico_base.specs.declared.call.Call.TheVariants as calls
use Rattle.pico_base.specs.declared.call.SemStep.{SemStep}
use Rattle.pico_base.specs.declared.reply.Entry.{Entry}
use Rattle.pico_base.specs.declared.reply.Errno.{Errno}
use Rattle.pico_base.specs.declared.reply.Errno.TheVariants.{Einval}
use Rattle.pico_base.specs.declared.reply.Reply.{Reply}
use Rattle.pico_base.specs.declared.reply.Reply.TheVariants as replies
use Rattle.number_maps.specs.Maps.{Numbered, get, put}
use Rattle.number_maps.specs.Rising.{IsRising}
use Rattle.number_maps.proofs.Changes.{put-put}
use Rattle.number_maps.proofs.LookUps.{get-put-same}
use Rattle.number_maps.proofs.Rising.{rising-put}
use Rattle.kernel_model.specs.Effect as plain_effects
use Rattle.kernel_model.specs.Effect.{reply_alone}
use Rattle.kernel_model.specs.Kernel as plain
use Rattle.kernel_model.specs.Row as plain_rows
use Rattle.kernel_model.specs.SemaphoreSet.{Semaphore, SemaphoreSet, op, read_semaphore, waiting_at}
use Rattle.kernel_model.specs.SetCalls.{change_set}
use Rattle.kernel_model.specs.Transition as plain_steps
use Rattle.kernel_laws.proofs.Plain.{from_some, not_some, not_true, not_false}
use Rattle.waiting_model.specs.declared.callers.Waiting.{Waiting}
use Rattle.waiting_model.specs.declared.callers.Wake.{Wake}
use Rattle.waiting_model.specs.Waiters.{Attempt, Awaited, Carried, carry_out, looked_up, waiter}
use Rattle.waiting_model.specs.SemaphoreSet.{carry_out_on_set, carry_out_on_set_by, count_reply, count_waiters, counted, is_negative_on, is_zero_on, try_set}
use Rattle.waiting_model.specs.Marks.{Alive}
use Rattle.waiting_model.specs.Kernel.{Kernel, living_at, wake_all}
use Rattle.waiting_model.specs.Effect.{Effect, on_named, refuse, woken_pair}
use Rattle.waiting_model.specs.Linear.{LeadInLine, LeadsTo, Does, Counts, at_once, counts_waiters, line_of, step_at_once}
use Rattle.waiting_model.specs.Plain.{each}
use Rattle.waiting_model.specs.SetCalls.{on_set, set_effect, with_set}
use Rattle.waiting_model.specs.Transition.{finish_call}
use Rattle.waiting_laws.specs.InLine.{IsAlike}
use Rattle.waiting_laws.specs.Lines.{MayMakeLines, own_line, wait_lines}
use Rattle.waiting_laws.specs.Woken.{WokenOnce, woken_in}
use Rattle.waiting_laws.proofs.AtOnce.{may-at-once, none-waits}
use Rattle.waiting_laws.proofs.Fair.{fair-finished, fair-woken}
use Rattle.waiting_laws.proofs.Maps.{get-each, put-each, put-same, rising-each}
use Rattle.waiting_laws.proofs.Order.{carried-in-order}
use Rattle.waiting_laws.proofs.QueueLines.{nothing-named}
use Rattle.waiting_laws.proofs.Rounds.{PlaysTry, Rounds, carried-lines}
use Rattle.waiting_laws.proofs.Rows.{LivesAlike, RowsAlike, alike-finished, alike-living, in_form, plain-finished, rows-spent, rows-woken, spent_in}
use Rattle.waiting_laws.proofs.Standing.{InBoth, IsOnSet, StandsInLine, same-refusal, set-marked, stands-same}
use Rattle.waiting_laws.proofs.Steps.{plain-step-is}
use Rattle.waiting_laws.proofs.Tries.{answers_set, at_set, counted_at, counts-answer, set-answers}

-- where there is no such set
pub lacks-set : (j : plain.Kernel) (pid : ℕ) (b : plain_rows.Alive) (call : Call) (n id : ℕ)
    → at_set call ≡ Some id → get j.sets id ≡ None
    → plain_steps.effect j pid b (at_once call) n ≡ Some (plain_effects.refuse j Einval)
lacks-set j pid b (calls.SemOp i steps) n id named none =
    ap
    (λ (t : Bool).
    (if t then None
    else Some (plain_effects.on_named j (get j.sets i)
    (λ set. change_set j i (op set pid (map step_at_once steps))))))
    (none-waits steps)
    ∙ nothing-named j (get j.sets i) _ (ap (get j.sets) (from_some i id named) ∙ none)
lacks-set j pid b (calls.SemGetVal i num) n id named none =
    nothing-named j (get j.sets i) _ (ap (get j.sets) (from_some i id named) ∙ none)
lacks-set j pid b (calls.SemGetPid i num) n id named none =
    nothing-named j (get j.sets i) _ (ap (get j.sets) (from_some i id named) ∙ none)
lacks-set j pid b (calls.SemGetNcnt i num) n id named none =
    nothing-named j (get j.sets i) _ (ap (get j.sets) (from_some i id named) ∙ none)
lacks-set j pid b (calls.SemGetZcnt i num) n id named none =
    nothing-named j (get j.sets i) _ (ap (get j.sets) (from_some i id named) ∙ none)
lacks-set j pid b (calls.SemSetVal i num value) n id named none =
    nothing-named j (get j.sets i) _ (ap (get j.sets) (from_some i id named) ∙ none)
lacks-set j pid b (calls.SemGetAll i) n id named none =
    nothing-named j (get j.sets i) _ (ap (get j.sets) (from_some i id named) ∙ none)
lacks-set j pid b (calls.SemSetAll i values) n id named none =
    nothing-named j (get j.sets i) _ (ap (get j.sets) (from_some i id named) ∙ none)
lacks-set j pid b call n id named none = not_some id named

-- ---- counts of those who wait

abbrev test_of : Call → Option SemStep → Bool
test_of (calls.SemGetNcnt id num) = is_negative_on num
test_of (calls.SemGetZcnt id num) = is_zero_on num
test_of call = λ step. false

count-is : (s : Awaited SemaphoreSet) (who : Waiting) (call : Call) → counts_waiters call ≡ true
    → carry_out_on_set_by s who call ≡ counted (test_of call) s (counted_at call)
count-is s who (calls.SemGetNcnt id num) h = refl
count-is s who (calls.SemGetZcnt id num) h = refl
count-is s who call h = not_true h

-- it is made at once as it is
pub count-at-once : (call : Call) → counts_waiters call ≡ true → at_once call ≡ call
count-at-once (calls.SemGetNcnt id num) h = refl
count-at-once (calls.SemGetZcnt id num) h = refl
count-at-once call h = not_true h

-- any other call is carried out by its try
look-is : (s : Awaited SemaphoreSet) (who : Waiting) (call : Call) → counts_waiters call ≡ false
    → carry_out_on_set_by s who call ≡ carry_out try_set s who
look-is s who (calls.SemGetNcnt id num) h = not_false h
look-is s who (calls.SemGetZcnt id num) h = not_false h
look-is s who call h = refl

-- the line of a count, by what the other kernel replies
count-line : (j next : plain.Kernel) (node pid : ℕ) (call : Call) (state : SemaphoreSet) (o : Option Semaphore) (m : ℕ)
    → counts_waiters call ≡ true
    → ((n : ℕ) → (let t : Attempt SemaphoreSet = looked_up state (read_semaphore o (λ _. 0))
    in plain_steps.transition j pid call n ≡ Some (plain_steps.successor next (reply_alone t.reply))))
    → LeadsTo j (line_of node pid call (count_reply (read_semaphore o (λ _. m)))) next
count-line j next node pid call state None m counts step =
    Does
    (ap (λ (c : Call). plain_steps.transition j pid c 0) (count-at-once call counts) ∙ step 0)
count-line j next node pid call state (Some semaphore) m counts step = Counts m counts refl (step 0)

module _ (k : Kernel) (rising : IsRising k.sets) (id : ℕ) where
  -- the sets by themselves
  abbrev states : Numbered SemaphoreSet
  states = each (λ s. s.state) k.sets

  -- the other kernel, with this state of the set
  abbrev form : Numbered plain.Process → SemaphoreSet → plain.Kernel
  form qs state = record (in_form k qs) { sets = put states id state }

  abbrev Fits : Call → Type 0
  Fits call = IsOnSet id call

  -- a call whose effect is this one, once its caller's marks are changed
  leads-on : (qs : Numbered plain.Process) (state : SemaphoreSet) (pid : ℕ) (call : Call) (b : plain_rows.Alive)
      → (n : ℕ) (t : Attempt SemaphoreSet) → plain.living_in qs pid ≡ Some b → plain_steps.may_make b call ≡ true
      → plain_steps.effect (form qs state) pid b call n ≡ Some (answers_set (form qs state) id t)
      → plain_steps.transition (form qs state) pid call n
      ≡ Some (plain_steps.successor (form (spent_in qs pid (Some b)) t.state) (reply_alone t.reply))
  leads-on qs state pid call b n t lives may does =
      let now : plain.Kernel = form qs state
      in let e : plain_effects.Effect = answers_set now id t
      in let kernel : e.kernel ≡ form qs t.state =
      ap (λ (m : Numbered SemaphoreSet). record (in_form k qs) { sets = m }) (put-put states id state t.state)
      in plain-step-is now pid call n b e lives may does
      ∙ (ap
      (λ (m : plain.Kernel).
      (let s : Option plain_steps.Successor =
      Some (plain_steps.successor (plain_steps.finish_call m pid (plain.living_at m pid)) (reply_alone t.reply))
      in s))
      kernel
      ∙ (ap
      (λ (o : Option plain_rows.Alive).
      (let s : Option plain_steps.Successor =
      Some (plain_steps.successor (plain_steps.finish_call (form qs t.state) pid o) (reply_alone t.reply))
      in s))
      lives
      ∙ ap
      (λ (m : plain.Kernel).
      (let s : Option plain_steps.Successor = Some (plain_steps.successor m (reply_alone t.reply)) in s))
      (plain-finished (form qs t.state) pid (Some b))))

  states-rise : (state : SemaphoreSet) → IsRising (put states id state)
  states-rise state = rising-put states id state (rising-each (λ s. s.state) k.sets rising)

  plays : PlaysTry try_set Fits form
  plays =
      record {
        lives = λ qs state q. refl;
        does = λ qs state pid call b n t fits tried lives may.
            leads-on qs state pid (at_once call) b n t lives (may-at-once b call ∙ may)
            (set-answers (form qs state) (states-rise state) pid b n call id fits.0 fits.1 state
            (get-put-same states id state) t tried);
      }

  -- a count
  counting : (qs : Numbered plain.Process) (state : SemaphoreSet) (pid : ℕ) (call : Call) (b : plain_rows.Alive)
      → at_set call ≡ Some id → counts_waiters call ≡ true → plain.living_in qs pid ≡ Some b
      → plain_steps.may_make b call ≡ true → (n : ℕ)
      → (let t : Attempt SemaphoreSet = looked_up state (waiting_at state (counted_at call))
      in plain_steps.transition (form qs state) pid call n
      ≡ Some (plain_steps.successor (form (spent_in qs pid (Some b)) state) (reply_alone t.reply)))
  counting qs state pid call b named counts lives may n =
      leads-on qs state pid call b n (looked_up state (waiting_at state (counted_at call))) lives may
      (counts-answer (form qs state) (states-rise state) pid b n call id named counts state
      (get-put-same states id state))
      ∙ ap
      (λ (m : SemaphoreSet).
      (let t : Attempt SemaphoreSet = looked_up state (waiting_at state (counted_at call))
      in let s : Option plain_steps.Successor =
      Some (plain_steps.successor (form (spent_in qs pid (Some b)) m) (reply_alone t.reply))
      in s))
      (same-state (waiting_at state (counted_at call)))
    where
      same-state : (r : Result ℕ Errno) → (looked_up state r).state ≡ state
      same-state (Ok m) = refl
      same-state (Err e) = refl

  -- the whole kernel afterwards
  after-alike : (o : Awaited SemaphoreSet) (rows : Numbered plain.Process) → RowsAlike k.processes rows
      → (wakes : List Wake) (pid : ℕ) (call : Call) (own : Option Reply)
      → IsAlike (finish_call (wake_all (with_set k id o) wakes) pid call own) (form rows o.state)
  after-alike o rows alike wakes pid call own =
      subst
      (λ (m : Numbered SemaphoreSet).
      IsAlike (finish_call (wake_all (with_set k id o) wakes) pid call own) (record (in_form k rows) { sets = m }))
      (sym (put-each (λ s. s.state) k.sets id o))
      (alike-finished (wake_all (with_set k id o) wakes) rows (rows-woken k.processes rows alike wakes) pid call own)

module _ (k : Kernel) (qs : Numbered plain.Process) (both : InBoth k qs) (node pid : ℕ) (a : Alive)
    (lives : living_at k pid ≡ Some a) (call : Call) (id : ℕ) (named : at_set call ≡ Some id) where
  abbrev lines : Option Reply → List Wake → List Entry
  lines own wakes = own_line node pid call own ++ wait_lines k node (map woken_pair wakes)

  -- the other kernel has this state of a set that is there
  state-there : (s : Awaited SemaphoreSet) → get k.sets id ≡ Some s → form k both.sets id qs s.state ≡ in_form k qs
  state-there s there =
      ap (λ (m : Numbered SemaphoreSet). record (in_form k qs) { sets = m })
      (put-same (states k both.sets id) id s.state (rising-each (λ w. w.state) k.sets both.sets)
      (get-each (λ w. w.state) k.sets id ∙ ap (option_map (λ (w : Awaited SemaphoreSet). w.state)) there))

  -- at a set that is there: a call that is carried out by its try
  set-tried : (s : Awaited SemaphoreSet) → get k.sets id ≡ Some s → counts_waiters call ≡ false
      → (let c : Carried SemaphoreSet = carry_out try_set s (waiter pid call)
      in WokenOnce (map woken_pair c.wakes) → woken_in pid (map woken_pair c.wakes) ≡ false
      → MayMakeLines (in_form k qs) (lines c.own c.wakes)
      → StandsInLine k (in_form k qs) node pid call (set_effect k id c))
  set-tried s there looks once isnt may =
      let who : Waiting = waiter pid call
      in let c : Carried SemaphoreSet = carry_out try_set s who
      in let same : form k both.sets id qs s.state ≡ in_form k qs = state-there s there
      in let r : Rounds try_set (Fits k both.sets id) (form k both.sets id) (plays k both.sets id) k node qs
      s.state (lines c.own c.wakes) c.object.state =
      carried-lines try_set (Fits k both.sets id) (form k both.sets id) (plays k both.sets id) k node s who
      (try_set s.state pid call) refl a lives (named, looks) (set-marked k both.marks id s there) qs both.alike
      (λ t is. carried-in-order try_set s who (try_set s.state pid call) t is) once isnt
      (subst (λ (m : plain.Kernel). MayMakeLines m (lines c.own c.wakes)) (sym same) may)
      in record {
        last = form k both.sets id r.rows c.object.state;
        leads =
            subst
            (λ (m : plain.Kernel).
            LeadInLine m (lines c.own c.wakes) (form k both.sets id r.rows c.object.state))
            same r.leads;
        alike = after-alike k both.sets id c.object r.rows r.alike c.wakes pid call c.own;
        fair =
            fair-finished (wake_all (with_set k id c.object) c.wakes) pid call c.own
            (λ q ne. fair-woken k.processes c.wakes q (both.fair q));
      }

  -- a count of those who wait there
  set-counted : (s : Awaited SemaphoreSet) → get k.sets id ≡ Some s → counts_waiters call ≡ true
      → (let c : Carried SemaphoreSet = counted (test_of call) s (counted_at call)
      in MayMakeLines (in_form k qs) (lines c.own c.wakes)
      → StandsInLine k (in_form k qs) node pid call (set_effect k id c))
  set-counted s there counts may =
      let c : Carried SemaphoreSet = counted (test_of call) s (counted_at call)
      in let same : form k both.sets id qs s.state ≡ in_form k qs = state-there s there
      in let other : LivesAlike (get qs pid) a = alike-living k.processes qs both.alike pid a lives
      in let living : plain.living_in qs pid ≡ Some other.alive = ap (option_and_then plain.alive_in) other.is
      in let rows : Numbered plain.Process = spent_in qs pid (Some other.alive)
      in let next : plain.Kernel = form k both.sets id rows s.state
      in let leads : LeadInLine (form k both.sets id qs s.state) (lines c.own c.wakes) next =
      record {
        next = next;
        leads =
            count-line (form k both.sets id qs s.state) next node pid call s.state
            (slice_get s.state.semaphores (counted_at call)) (count_waiters (test_of call) s) counts
            (counting k both.sets id qs s.state pid call other.alive named counts living (may.0 other.alive living));
        rest = refl;
      }
      in record {
        last = next;
        leads = subst (λ (m : plain.Kernel). LeadInLine m (lines c.own c.wakes) next) same leads;
        alike =
            after-alike k both.sets id s rows (rows-spent k.processes qs both.alike pid (Some other.alive) living) []
            pid
            call c.own;
        fair = fair-finished (with_set k id s) pid call c.own (λ q ne. both.fair q);
      }

  -- where there is none
  set-lacking : get k.sets id ≡ None → MayMakeLines (in_form k qs) (lines (Some (replies.Fail Einval)) [])
      → StandsInLine k (in_form k qs) node pid call (refuse k Einval)
  set-lacking none may =
      let other : LivesAlike (get qs pid) a = alike-living k.processes qs both.alike pid a lives
      in stands-same k qs node pid call other.alive (ap (option_and_then plain.alive_in) other.is) (refuse k Einval)
      (plain_effects.refuse (in_form k qs) Einval) (same-refusal k qs both pid Einval) may
      (lacks-set (in_form k qs) pid other.alive call 0 id named
      (get-each (λ w. w.state) k.sets id ∙ ap (option_map (λ (w : Awaited SemaphoreSet). w.state)) none))

  -- in either way
  set-there : (s : Awaited SemaphoreSet) → get k.sets id ≡ Some s → (t : Bool) → counts_waiters call ≡ t
      → (let c : Carried SemaphoreSet = carry_out_on_set s (waiter pid call)
      in WokenOnce (map woken_pair c.wakes) → woken_in pid (map woken_pair c.wakes) ≡ false
      → MayMakeLines (in_form k qs) (lines c.own c.wakes)
      → StandsInLine k (in_form k qs) node pid call (set_effect k id c))
  set-there s there true counts once isnt may =
      let is : carry_out_on_set s (waiter pid call) ≡ counted (test_of call) s (counted_at call) =
      count-is s (waiter pid call) call counts
      in subst (λ (c : Carried SemaphoreSet). StandsInLine k (in_form k qs) node pid call (set_effect k id c)) (sym is)
      (set-counted s there counts
      (subst (λ (c : Carried SemaphoreSet). MayMakeLines (in_form k qs) (lines c.own c.wakes)) is may))
  set-there s there false looks once isnt may =
      let is : carry_out_on_set s (waiter pid call) ≡ carry_out try_set s (waiter pid call) =
      look-is s (waiter pid call) call looks
      in subst (λ (c : Carried SemaphoreSet). StandsInLine k (in_form k qs) node pid call (set_effect k id c)) (sym is)
      (set-tried s there looks (subst (λ (c : Carried SemaphoreSet). WokenOnce (map woken_pair c.wakes)) is once)
      (subst (λ (c : Carried SemaphoreSet). woken_in pid (map woken_pair c.wakes) ≡ false) is isnt)
      (subst (λ (c : Carried SemaphoreSet). MayMakeLines (in_form k qs) (lines c.own c.wakes)) is may))

  -- a call on a set
  pub set-in-line : (e : Effect) → on_set k id (waiter pid call) ≡ e → WokenOnce (map woken_pair e.wakes)
      → woken_in pid (map woken_pair e.wakes) ≡ false → MayMakeLines (in_form k qs) (lines e.own e.wakes)
      → StandsInLine k (in_form k qs) node pid call e
  set-in-line e is once isnt may = by_set (get k.sets id) refl e is once isnt may
    where
      by_set : (o : Option (Awaited SemaphoreSet)) → get k.sets id ≡ o → (e : Effect)
          → on_named k o (λ s. set_effect k id (carry_out_on_set s (waiter pid call))) ≡ e
          → WokenOnce (map woken_pair e.wakes) → woken_in pid (map woken_pair e.wakes) ≡ false
          → MayMakeLines (in_form k qs) (lines e.own e.wakes) → StandsInLine k (in_form k qs) node pid call e
      by_set None there e is once isnt may =
          subst (λ (x : Effect). StandsInLine k (in_form k qs) node pid call x) is
          (set-lacking there
          (subst (λ (x : Effect). MayMakeLines (in_form k qs) (lines x.own x.wakes)) (sym is) may))
      by_set (Some s) there e is once isnt may =
          subst (λ (x : Effect). StandsInLine k (in_form k qs) node pid call x) is
          (set-there s there (counts_waiters call) refl
          (subst (λ (x : Effect). WokenOnce (map woken_pair x.wakes)) (sym is) once)
          (subst (λ (x : Effect). woken_in pid (map woken_pair x.wakes) ≡ false) (sym is) isnt)
          (subst (λ (x : Effect). MayMakeLines (in_form k qs) (lines x.own x.wakes)) (sym is) may))
