-- Whom an entry wakes.
use Rattle.std.proofs.Common.{◌≡◌, ◌∙◌, ℕ, Bool, true, false, not, ◌&&◌, ◌||◌, nat_eq, List, [], ◌∷◌, map, Option, Some, None, Result, Ok, Err, is_some, refl, ap, sym, subst}
use Rattle.std.specs.Prelude.{if◌then◌else◌, fold}
use Rattle.std.specs.Option.{option_and_then}
use Rattle.std.proofs.lemmas.Bool.{false≢true, and_parts}
use Rattle.pico_base.specs.declared.call.Call.{Call}
use Rattle.pico_base.specs.declared.call.Call.TheVariants as calls
use Rattle.pico_base.specs.declared.numbers.Name.{Name}
use Rattle.pico_base.specs.declared.numbers.Name.TheVariants.{Msg, Sem}
use Rattle.pico_base.specs.declared.reply.Ending.{Ending}
use Rattle.pico_base.specs.declared.reply.Ending.TheVariants as endings
use Rattle.pico_base.specs.declared.reply.Errno.{Errno}
use Rattle.pico_base.specs.declared.reply.Reply.{Reply}
use Rattle.pico_base.specs.declared.reply.Reply.TheVariants as replies
use Rattle.pico_base.specs.declared.signal.SigArg.{SigArg}
use Rattle.pico_base.specs.declared.signal.SigArg.TheVariants.{Zero, Is, Bad}
use Rattle.std.specs.Prelude.{◌%◌}
use Rattle.number_maps.specs.Maps.{Numbered, get, put, without}
use Rattle.kernel_model.specs.QueueCalls.{unbind}
use Rattle.number_maps.proofs.LookUps.{get-put-same}
use Rattle.number_maps.proofs.Order.{same-from-nat_eq}
use Rattle.kernel_model.specs.Effect.{is_fresh}
use Rattle.kernel_model.specs.Queue.{Queue}
use Rattle.kernel_model.specs.Row.{Family, Waited, Found, NotYet, NoChild, wait}
use Rattle.kernel_model.specs.SemaphoreSet.{SemaphoreSet, new_set}
use Rattle.kernel_model.specs.Signals.{Signals, act_on}
use Rattle.kernel_model.specs.Transition as plain
use Rattle.waiting_model.specs.declared.callers.Waiting.{Waiting}
use Rattle.waiting_model.specs.declared.callers.Wake.{Wake}
use Rattle.waiting_model.specs.Calls.{is_same_name, waits_at, withdrawn_from}
use Rattle.waiting_model.specs.Waiters.{Awaited, Carried, waiter, wakes_at_removal}
use Rattle.waiting_model.specs.Queue.{carry_out_on_queue, try_queue}
use Rattle.waiting_model.specs.SemaphoreSet.{carry_out_on_set}
use Rattle.waiting_model.specs.Marks.{Alive, awaited_children, plain_alive, spent}
use Rattle.waiting_model.specs.Kernel.{Kernel, Process, Living, Ended, Gone, Parent, alive_in, living_at, living_in, parent_in, wake_one, with_alive}
use Rattle.waiting_model.specs.Effect.{Effect, on_named, outcome_of_effect, woken_pair}
use Rattle.waiting_model.specs.ProcessCalls.{action_effect, bury_all, end_process, end_under, found_after_end, found_for, kill, kill_at, reap_child, signal_living, wakes_of_parent, wakes_under}
use Rattle.waiting_model.specs.QueueCalls.{get_queue, get_queue_at, new_queue, queue_effect, remove_queue}
use Rattle.waiting_model.specs.SetCalls.{get_set, get_set_at, new_set_of, remove_set, set_effect}
use Rattle.waiting_model.specs.Transition.{Successor, allowance_after, effect, finish_call, may_make, successor, transition}
use Rattle.waiting_laws.specs.Parked.{wait_of, wait_in, WaitOnce, mark_at, mark_of, mark_in}
use Rattle.waiting_laws.specs.Woken.{woken_in, WokenOnce, WakesRightly, ReachableEntriesWakeRightly}
use Rattle.waiting_laws.proofs.Maps.{all-get}
use Rattle.waiting_laws.proofs.Options.{not-none, not-some, same-some}
use Rattle.waiting_laws.proofs.Waits.{is_woken, OnceWoken, Settles, Carries, carries}
use Rattle.waiting_laws.proofs.People.{mark-replied, parked_after, parent-parked, parent-view, ParentView}
use Rattle.waiting_laws.proofs.Parked.{marks-woken}
use Rattle.waiting_laws.proofs.Marked.{Fine, Acts, no-mark, mark-put}
use Rattle.waiting_laws.proofs.Entries.{removal-settles, set-carries, reachable-fine}
use Rattle.waiting_laws.proofs.Steps.{Makes, makes, Leaves, leaves}

-- as a history has it
pub pairs-woken : (wakes : List Wake) (q : ℕ) → woken_in q (map woken_pair wakes) ≡ is_woken q wakes
pairs-woken [] q = refl
pairs-woken (w ∷ wakes) q = ap (λ (b : Bool). nat_eq q w.pid || b) (pairs-woken wakes q)

pairs-once : (wakes : List Wake) → OnceWoken wakes → WokenOnce (map woken_pair wakes)
pairs-once [] h = tt
pairs-once (w ∷ wakes) h = (pairs-woken wakes w.pid ∙ h.0, pairs-once wakes h.1)

-- a call in a form that may have to wait
abbrev pub can_wait : Call → Bool
can_wait (calls.WaitPid child nohang) = true
can_wait (calls.MsgSnd id class text nowait) = true
can_wait (calls.MsgRcv id class size noerror nowait) = true
can_wait (calls.SemOp id steps) = true
can_wait call = false

record WakesWell (k : Kernel) (e : Effect) : Type 0 where
  pub was : (q : ℕ) → is_woken q e.wakes ≡ true → is_some (mark_in k.processes q) ≡ true
  pub waited : (q : ℕ) (call : Call) → is_woken q e.wakes ≡ true → mark_in k.processes q ≡ Some call
      → can_wait call ≡ true
  pub now : (q : ℕ) → is_woken q e.wakes ≡ true → mark_in e.kernel.processes q ≡ None
  pub once : OnceWoken e.wakes
  pub replied : e.own ≡ None → e.wakes ≡ []

abbrev WellIf : Kernel → Option Effect → Type 0
WellIf k None = Unit {0}
WellIf k (Some e) = WakesWell k e

not-true : {B : Type 0} (b : Bool) → b ≡ true → b ≡ false → B
not-true b h g = cc

wakes-nobody : (k : Kernel) (e : Effect) → e.wakes ≡ [] → WakesWell k e
wakes-nobody k e none =
    record {
      was = λ q h. not-true (is_woken q e.wakes) h (ap (is_woken q) none);
      waited = λ q call h marked. not-true (is_woken q e.wakes) h (ap (is_woken q) none);
      now = λ q h. not-true (is_woken q e.wakes) h (ap (is_woken q) none);
      once = subst (λ (ws : List Wake). OnceWoken ws) (sym none) tt;
      replied = λ h. none;
    }

well-test : (k : Kernel) (b : Bool) (e : Effect) → e.wakes ≡ [] → WellIf k (if b then Some e else None)
well-test k true e h = wakes-nobody k e h
well-test k false e h = tt

well-choice : (k : Kernel) (b : Bool) (e f : Effect) → e.wakes ≡ [] → f.wakes ≡ []
    → WakesWell k (if b then e else f)
well-choice k true e f h g = wakes-nobody k e h
well-choice k false e f h g = wakes-nobody k f g

well-either : (k : Kernel) (b : Bool) (x y : Option Effect) → WellIf k x → WellIf k y → WellIf k (if b then x else y)
well-either k true x y h g = h
well-either k false x y h g = g

-- Calls on processes but for the ends.

well-reaped : (k : Kernel) (pid : ℕ) (a : Alive) (nohang : Bool) (w : Waited)
    → WakesWell k (reap_child k pid a nohang w)
well-reaped k pid a nohang (Found child ending) = wakes-nobody k (reap_child k pid a nohang (Found child ending)) refl
well-reaped k pid a true NotYet = wakes-nobody k (reap_child k pid a true NotYet) refl
well-reaped k pid a false NotYet = wakes-nobody k (reap_child k pid a false NotYet) refl
well-reaped k pid a nohang NoChild = wakes-nobody k (reap_child k pid a nohang NoChild) refl

well-acted : (k : Kernel) (pid : ℕ) (a : Alive) (r : Result Signals Errno) → WakesWell k (action_effect k pid a r)
well-acted k pid a (Ok s) = wakes-nobody k (action_effect k pid a (Ok s)) refl
well-acted k pid a (Err e) = wakes-nobody k (action_effect k pid a (Err e)) refl

well-signalled : (k : Kernel) (caller pid : ℕ) (a : Alive) (sig : SigArg)
    → WakesWell k (signal_living k caller pid a sig)
well-signalled k caller pid a Zero = wakes-nobody k (signal_living k caller pid a Zero) refl
well-signalled k caller pid a Bad = wakes-nobody k (signal_living k caller pid a Bad) refl
well-signalled k caller pid a (Is g) = wakes-nobody k (signal_living k caller pid a (Is g)) refl

well-killed-at : (k : Kernel) (caller pid : ℕ) (sig : SigArg) (o : Option Process)
    → WakesWell k (kill_at k caller pid sig o)
well-killed-at k caller pid sig None = wakes-nobody k (kill_at k caller pid sig None) refl
well-killed-at k caller pid sig (Some Gone) = wakes-nobody k (kill_at k caller pid sig (Some Gone)) refl
well-killed-at k caller pid sig (Some (Ended ending)) =
    wakes-nobody k (kill_at k caller pid sig (Some (Ended ending))) refl
well-killed-at k caller pid sig (Some (Living a)) = well-signalled k caller pid a sig

well-killed : (k : Kernel) (caller pid : ℕ) (sig : SigArg) → WakesWell k (kill k caller pid sig)
well-killed k caller pid Bad = wakes-nobody k (kill k caller pid Bad) refl
well-killed k caller pid Zero = well-killed-at k caller pid Zero (get k.processes pid)
well-killed k caller pid (Is g) = well-killed-at k caller pid (Is g) (get k.processes pid)

-- Queues and sets that are made or found.

well-made-queue : (k : Kernel) (keys : Numbered ℕ) (n : ℕ) → WellIf k (new_queue k keys n)
well-made-queue k keys n = well-test k (is_fresh k.used_queues n) _ refl

well-got-queue : (k : Kernel) (key : ℕ) (create excl : Bool) (n : ℕ) (o : Option ℕ)
    → WellIf k (get_queue_at k key create excl n o)
well-got-queue k key create excl n (Some id) = well-choice k (create && excl) _ _ refl refl
well-got-queue k key create excl n None =
    well-either k create _ _ (well-made-queue k (put k.queue_keys key n) n) (wakes-nobody k _ refl)

well-queue : (k : Kernel) (key : Option ℕ) (create excl : Bool) (n : ℕ) → WellIf k (get_queue k key create excl n)
well-queue k None create excl n = well-made-queue k k.queue_keys n
well-queue k (Some key) create excl n = well-got-queue k key create excl n (get k.queue_keys key)

well-made-set : (k : Kernel) (keys : Numbered ℕ) (n : ℕ) (r : Result SemaphoreSet Errno)
    → WellIf k (new_set_of k keys n r)
well-made-set k keys n (Err e) = wakes-nobody k _ refl
well-made-set k keys n (Ok s) = well-test k (is_fresh k.used_sets n) _ refl

found-nobody : (b : Bool) (e f : Effect) → e.wakes ≡ [] → f.wakes ≡ []
    → (let x : Effect = (if b then e else f) in x.wakes ≡ [])
found-nobody true e f h g = h
found-nobody false e f h g = g

well-got-set : (k : Kernel) (key count : ℕ) (create excl : Bool) (n : ℕ) (o : Option ℕ)
    → WellIf k (get_set_at k key count create excl n o)
well-got-set k key count create excl n (Some id) =
    well-choice k (create && excl) _ _ refl (found-nobody _ _ _ refl refl)
well-got-set k key count create excl n None =
    well-either k create _ _ (well-made-set k (put k.set_keys key n) n (new_set count)) (wakes-nobody k _ refl)

well-set : (k : Kernel) (key : Option ℕ) (count : ℕ) (create excl : Bool) (n : ℕ)
    → WellIf k (get_set k key count create excl n)
well-set k None count create excl n = well-made-set k k.set_keys n (new_set count)
well-set k (Some key) count create excl n = well-got-set k key count create excl n (get k.set_keys key)

-- Calls on queues and sets: who is woken waited there.

marked : (pid : ℕ) (name : Name) (m : Option Call) → is_some (mark_at pid name m) ≡ true → is_some m ≡ true
marked pid name None h = h
marked pid name (Some call) h = refl

-- who waits at a queue or a set does so in such a call
abbrev AtObject : Name → Type 0
AtObject name = (pid : ℕ) (call : Call) → is_same_name name (waits_at pid call) ≡ true → can_wait call ≡ true

at-queue : (id : ℕ) → AtObject (Msg id)
at-queue id pid (calls.MsgSnd i class text nowait) h = refl
at-queue id pid (calls.MsgRcv i class size noerror nowait) h = refl
at-queue id pid call h = absurd (false≢true h)

at-set : (id : ℕ) → AtObject (Sem id)
at-set id pid (calls.SemOp i steps) h = refl
at-set id pid call h = absurd (false≢true h)

waits-there : (pid : ℕ) (name : Name) → AtObject name → (m : Option Call) → is_some (mark_at pid name m) ≡ true
    → (call : Call) → m ≡ Some call → can_wait call ≡ true
waits-there pid name object None h call is = not-some call is
waits-there pid name object (Some c) h call is =
    subst (λ (x : Call). can_wait x ≡ true) (same-some c call is)
    (object pid c (by_test (is_same_name name (waits_at pid c)) h))
  where
    by_test : (b : Bool) → is_some (if b then Some c else None) ≡ true → b ≡ true
    by_test true g = refl
    by_test false g = absurd (false≢true g)

settled-well : (k mid : Kernel) (own : Option Reply) (ws after : List Waiting) (wakes : List Wake) (name : Name)
    → AtObject name → mid.processes ≡ k.processes → ((q : ℕ) → wait_of q ws ≡ mark_at q name (mark_in k.processes q))
    → Settles ws after wakes → (own ≡ None → wakes ≡ [])
    → WakesWell k (let e : Effect = record {
      kernel = record mid { processes = fold wake_one mid.processes wakes };
      own = own;
      wakes = wakes;
    } in e)
settled-well k mid own ws after wakes name object same there s replied =
    record {
      was = λ q h. marked q name (mark_in k.processes q) (ap is_some (sym (there q)) ∙ s.was q h);
      waited = λ q call h is.
          waits-there q name object (mark_in k.processes q) (ap is_some (sym (there q)) ∙ s.was q h) call is;
      now =
          λ q h.
          marks-woken mid.processes wakes q
          ∙ ap (λ (b : Bool). (if b then None else mark_in mid.processes q)) h;
      once = s.twice;
      replied = replied;
    }

own-well : (k mid : Kernel) (who : Waiting) (own : Option Reply) (ws after : List Waiting) (wakes : List Wake)
    → (name : Name) → AtObject name → mid.processes ≡ k.processes
    → ((q : ℕ) → wait_of q ws ≡ mark_at q name (mark_in k.processes q)) → Carries ws who after wakes own
    → WakesWell k (let e : Effect = record {
      kernel = record mid { processes = fold wake_one mid.processes wakes };
      own = own;
      wakes = wakes;
    } in e)
own-well k mid who None ws after wakes name object same there c = wakes-nobody k _ c.0
own-well k mid who (Some reply) ws after wakes name object same there c =
    settled-well k mid (Some reply) ws after wakes name object same there c (λ h. not-none reply h)

module _ (k : Kernel) (fine : Fine k) (pid : ℕ) (a : Alive) (acts : Acts k pid a) where
  queue-well : (call : Call) (id : ℕ) (o : Option (Awaited Queue)) → get k.queues id ≡ o
      → WakesWell k (on_named k o (λ q. queue_effect k id (carry_out_on_queue q (waiter pid call))))
  queue-well call id None there = wakes-nobody k _ refl
  queue-well call id (Some q) there =
      let c : Carried Queue = carry_out_on_queue q (waiter pid call)
      in let here : (p : ℕ) → wait_of p q.waiters ≡ mark_at p (Msg id) (mark_in k.processes p) =
      λ p. ap (wait_in p) (sym there) ∙ fine.marks.queues id p
      in let once : WaitOnce q.waiters =
      all-get (λ w. WaitOnce w.waiters) k.queues id q fine.marks.queues_once there
      in own-well k (record k { queues = put k.queues id c.object }) (waiter pid call) c.own q.waiters c.object.waiters
      c.wakes (Msg id) (at-queue id) refl here
      (carries try_queue q (waiter pid call) once (here pid ∙ ap (mark_at pid (Msg id)) (no-mark k pid a acts)))

  removed-queue-well : (id : ℕ) (o : Option (Awaited Queue)) → get k.queues id ≡ o
      → WakesWell k (on_named k o (remove_queue k id))
  removed-queue-well id None there = wakes-nobody k _ refl
  removed-queue-well id (Some q) there =
      settled-well k (record k { queues = without k.queues id; queue_keys = unbind k.queue_keys id })
      (Some (replies.Num 0)) q.waiters [] (wakes_at_removal q) (Msg id) (at-queue id) refl
      (λ p. ap (wait_in p) (sym there) ∙ fine.marks.queues id p)
      (removal-settles k fine pid a acts q.waiters
      (all-get (λ w. WaitOnce w.waiters) k.queues id q fine.marks.queues_once there))
      (λ h. not-none (replies.Num 0) h)

  set-well : (call : Call) (id : ℕ) (o : Option (Awaited SemaphoreSet)) → get k.sets id ≡ o
      → WakesWell k (on_named k o (λ s. set_effect k id (carry_out_on_set s (waiter pid call))))
  set-well call id None there = wakes-nobody k _ refl
  set-well call id (Some s) there =
      let c : Carried SemaphoreSet = carry_out_on_set s (waiter pid call)
      in let here : (p : ℕ) → wait_of p s.waiters ≡ mark_at p (Sem id) (mark_in k.processes p) =
      λ p. ap (wait_in p) (sym there) ∙ fine.marks.sets id p
      in let once : WaitOnce s.waiters = all-get (λ w. WaitOnce w.waiters) k.sets id s fine.marks.sets_once there
      in own-well k (record k { sets = put k.sets id c.object }) (waiter pid call) c.own s.waiters c.object.waiters
      c.wakes (Sem id) (at-set id) refl here
      (set-carries k fine pid a acts s (waiter pid call) call once
      (here pid ∙ ap (mark_at pid (Sem id)) (no-mark k pid a acts)))

  removed-set-well : (id : ℕ) (o : Option (Awaited SemaphoreSet)) → get k.sets id ≡ o
      → WakesWell k (on_named k o (remove_set k id))
  removed-set-well id None there = wakes-nobody k _ refl
  removed-set-well id (Some s) there =
      settled-well k (record k { sets = without k.sets id; set_keys = unbind k.set_keys id })
      (Some (replies.Num 0)) s.waiters [] (wakes_at_removal s) (Sem id) (at-set id) refl
      (λ p. ap (wait_in p) (sym there) ∙ fine.marks.sets id p)
      (removal-settles k fine pid a acts s.waiters
      (all-get (λ w. WaitOnce w.waiters) k.sets id s fine.marks.sets_once there))
      (λ h. not-none (replies.Num 0) h)

-- The end of a process: its parent, if it waited for that.

-- a call is found, or none is left: the parent is woken
abbrev is_found : Waited → Bool
is_found NotYet = false
is_found w = true

waited-for : (f : Family) (parked : Option Call) (w : Waited) → found_for f (awaited_children parked) ≡ w
    → is_found w ≡ true → is_some parked ≡ true
waited-for f None w is h = not-true (is_found w) h (sym (ap is_found is))
waited-for f (Some call) w is h = refl

-- and its call was a `waitpid`
waited-in : (f : Family) (parked : Option Call) (w : Waited) → found_for f (awaited_children parked) ≡ w
    → is_found w ≡ true → (call : Call) → parked ≡ Some call → can_wait call ≡ true
waited-in f None w is h call parked = not-some call parked
waited-in f (Some (calls.WaitPid child nohang)) w is h call parked =
    subst (λ (x : Call). can_wait x ≡ true) (same-some (calls.WaitPid child nohang) call parked) refl
waited-in f (Some c) w is h call parked = not-true (is_found w) h (sym (ap is_found is))

is-parent : (q p : ℕ) → (nat_eq q p || false) ≡ true → q ≡ p
is-parent q p h = same-from-nat_eq q p (sym (or_false (nat_eq q p)) ∙ h)
  where
    or_false : (b : Bool) → (b || false) ≡ b
    or_false true = refl
    or_false false = refl

parent-well : (k : Kernel) (bs : Numbered Process) (pid : ℕ) (ending : Ending) (p : Parent)
    → living_in k.processes p.pid ≡ Some p.alive → (w : Waited) → found_after_end p.alive pid ending ≡ w
    → WakesWell k (let e : Effect = record {
      kernel = record k { processes = end_under bs pid ending (Some p) };
      own = Some replies.Ended;
      wakes = wakes_of_parent p.pid w;
    } in e)
parent-well k bs pid ending p lives NotYet is = wakes-nobody k _ refl
parent-well k bs pid ending p lives (Found child how) is =
    record {
      was =
          λ q h.
          subst (λ (i : ℕ). is_some (mark_in k.processes i) ≡ true) (sym (is-parent q p.pid h))
          (ap (λ (o : Option Alive). is_some (mark_of o)) lives
          ∙ waited-for _ p.alive.marks.parked (Found child how) is refl);
      waited =
          λ q call h marked.
          waited-in _ p.alive.marks.parked (Found child how) is refl call
          (sym (ap mark_of lives)
          ∙ subst (λ (i : ℕ). mark_in k.processes i ≡ Some call) (is-parent q p.pid h) marked);
      now =
          λ q h.
          subst (λ (i : ℕ). mark_in (end_under bs pid ending (Some p)) i ≡ None) (sym (is-parent q p.pid h))
          (ap (λ (o : Option Process). mark_of (option_and_then alive_in o)) (get-put-same _ p.pid _)
          ∙ (parent-parked p.alive pid ending ∙ ap (λ (w : Waited). parked_after w p.alive.marks.parked) is));
      once = (refl, tt);
      replied = λ h. not-none replies.Ended h;
    }
parent-well k bs pid ending p lives NoChild is =
    record {
      was =
          λ q h.
          subst (λ (i : ℕ). is_some (mark_in k.processes i) ≡ true) (sym (is-parent q p.pid h))
          (ap (λ (o : Option Alive). is_some (mark_of o)) lives
          ∙ waited-for _ p.alive.marks.parked NoChild is refl);
      waited =
          λ q call h marked.
          waited-in _ p.alive.marks.parked NoChild is refl call
          (sym (ap mark_of lives)
          ∙ subst (λ (i : ℕ). mark_in k.processes i ≡ Some call) (is-parent q p.pid h) marked);
      now =
          λ q h.
          subst (λ (i : ℕ). mark_in (end_under bs pid ending (Some p)) i ≡ None) (sym (is-parent q p.pid h))
          (ap (λ (o : Option Process). mark_of (option_and_then alive_in o)) (get-put-same _ p.pid _)
          ∙ (parent-parked p.alive pid ending ∙ ap (λ (w : Waited). parked_after w p.alive.marks.parked) is));
      once = (refl, tt);
      replied = λ h. not-none replies.Ended h;
    }

end-by-view : (k : Kernel) (bs : Numbered Process) (pid : ℕ) (ending : Ending) (o : Option Parent)
    → ParentView k.processes pid o
    → WakesWell k (let e : Effect = record {
      kernel = record k { processes = end_under bs pid ending o };
      own = Some replies.Ended;
      wakes = wakes_under pid ending o;
    } in e)
end-by-view k bs pid ending None view = wakes-nobody k _ refl
end-by-view k bs pid ending (Some p) view =
    parent-well k bs pid ending p (ap (option_and_then alive_in) view.0) (found_after_end p.alive pid ending) refl

module _ (k : Kernel) (fine : Fine k) (pid : ℕ) (a : Alive) (acts : Acts k pid a) where
  end-well : (ending : Ending) → WakesWell k (end_process k pid a ending)
  end-well ending =
      end-by-view k (bury_all k.processes a.row.family) pid ending (parent_in pid k.processes)
      (parent-view pid k.processes fine.people.rising)

  -- all calls
  call-well : (call : Call) (n : ℕ) → WellIf k (effect k (waiter pid call) a n)
  call-well (calls.Fork block) n = well-test k (is_fresh k.used_processes n) _ refl
  call-well (calls.Exit status) n = end-well (endings.Exited (status % 256))
  call-well (calls.Killed sig) n = end-well (endings.Killed sig)
  call-well calls.GetPid n = wakes-nobody k _ refl
  call-well (calls.Kill target sig) n = well-killed k pid target sig
  call-well (calls.SigAction sig act) n = well-acted k pid a (act_on a.row.signals sig act)
  call-well (calls.SigProcMask how set) n = wakes-nobody k _ refl
  call-well calls.SigPending n = wakes-nobody k _ refl
  call-well (calls.Handled sig) n = wakes-nobody k _ refl
  call-well (calls.WaitPid child nohang) n = well-reaped k pid a nohang (wait a.row.family child)
  call-well (calls.MsgGet key create excl) n = well-queue k key create excl n
  call-well (calls.MsgSnd id class text nowait) n =
      queue-well k fine pid a acts (calls.MsgSnd id class text nowait) id (get k.queues id) refl
  call-well (calls.MsgRcv id class size noerror nowait) n =
      queue-well k fine pid a acts (calls.MsgRcv id class size noerror nowait) id (get k.queues id) refl
  call-well (calls.MsgStat id) n = queue-well k fine pid a acts (calls.MsgStat id) id (get k.queues id) refl
  call-well (calls.MsgSet id qbytes) n =
      queue-well k fine pid a acts (calls.MsgSet id qbytes) id (get k.queues id) refl
  call-well (calls.MsgRmid id) n = removed-queue-well k fine pid a acts id (get k.queues id) refl
  call-well (calls.SemGet key count create excl) n = well-set k key count create excl n
  call-well (calls.SemRmid id) n = removed-set-well k fine pid a acts id (get k.sets id) refl
  call-well (calls.SemOp id steps) n = set-well k fine pid a acts (calls.SemOp id steps) id (get k.sets id) refl
  call-well (calls.SemGetVal id num) n =
      set-well k fine pid a acts (calls.SemGetVal id num) id (get k.sets id) refl
  call-well (calls.SemGetPid id num) n =
      set-well k fine pid a acts (calls.SemGetPid id num) id (get k.sets id) refl
  call-well (calls.SemGetNcnt id num) n =
      set-well k fine pid a acts (calls.SemGetNcnt id num) id (get k.sets id) refl
  call-well (calls.SemGetZcnt id num) n =
      set-well k fine pid a acts (calls.SemGetZcnt id num) id (get k.sets id) refl
  call-well (calls.SemSetVal id num value) n =
      set-well k fine pid a acts (calls.SemSetVal id num value) id (get k.sets id) refl
  call-well (calls.SemGetAll id) n = set-well k fine pid a acts (calls.SemGetAll id) id (get k.sets id) refl
  call-well (calls.SemSetAll id values) n =
      set-well k fine pid a acts (calls.SemSetAll id values) id (get k.sets id) refl
  call-well (calls.Withdraw name) n = tt

-- Entries.

not-parked : (o : Option Call) → not (is_some o) ≡ true → o ≡ None
not-parked None h = refl
not-parked (Some call) h = absurd (false≢true h)

-- who makes a call lives and is not parked
pub acts-by : (k : Kernel) (pid : ℕ) (a : Alive) (call : Call) → living_at k pid ≡ Some a → may_make a call ≡ true
    → Acts k pid a
acts-by k pid a call lives may =
    record {
      lives = lives;
      unparked =
          not-parked a.marks.parked
          (and_parts (not (is_some a.marks.parked)) (plain.may_make (plain_alive a) call) may).0;
    }

-- the allowance is no such mark
pub allowance-marks : (k : Kernel) (pid : ℕ) (o : Option Alive) → living_at k pid ≡ o → (q : ℕ)
    → mark_in (allowance_after k pid o).processes q ≡ mark_in k.processes q
allowance-marks k pid None lives q = refl
allowance-marks k pid (Some a) lives q = by_test (is_some a.row.signals.doom)
  where
    by_test : (b : Bool)
        → mark_in (let j : Kernel = (if b then with_alive k pid (spent a) else k) in j.processes) q
        ≡ mark_in k.processes q
    by_test true = (mark-put k.processes pid a (spent a) lives refl q).0
    by_test false = refl

-- a reply takes the caller's mark away
pub finish-marks : (k : Kernel) (pid : ℕ) (call : Call) (reply : Reply) (q : ℕ)
    → (let j : Kernel = finish_call k pid call (Some reply) in mark_in j.processes q)
    ≡ (if nat_eq pid q then None else mark_in k.processes q)
finish-marks k pid call reply q =
    let first : Kernel = allowance_after k pid (living_at k pid)
    in mark-replied first.processes pid q
    ∙ ap (λ (m : Option Call). (if nat_eq pid q then None else m))
    (allowance-marks k pid (living_at k pid) refl q)

-- with a reply the caller's own marks change none of another; without one nobody is woken
rightly-by : (k : Kernel) → Fine k → (pid : ℕ) (a : Alive) → Acts k pid a → (call : Call) (e : Effect) → WakesWell k e
    → (own : Option Reply) → e.own ≡ own
    → WakesRightly k pid (successor (finish_call e.kernel pid call own) (outcome_of_effect e))
rightly-by k fine pid a acts call e well None is =
    let none : e.wakes ≡ [] = well.replied is
    in let nobody : (q : ℕ) → woken_in q (map woken_pair e.wakes) ≡ false =
    λ q. pairs-woken e.wakes q ∙ ap (is_woken q) none
    in record {
      parked = λ q h. not-true (woken_in q (map woken_pair e.wakes)) h (nobody q);
      unparked = λ q h. not-true (woken_in q (map woken_pair e.wakes)) h (nobody q);
      others = nobody pid;
      once = pairs-once e.wakes well.once;
    }
rightly-by k fine pid a acts call e well (Some reply) is =
    record {
      parked = λ q h. well.was q (sym (pairs-woken e.wakes q) ∙ h);
      unparked =
          λ q h.
          finish-marks e.kernel pid call reply q
          ∙ (ap (λ (m : Option Call). (if nat_eq pid q then None else m)) (well.now q (sym (pairs-woken e.wakes q) ∙ h))
          ∙ either (nat_eq pid q));
      others = pairs-woken e.wakes pid ∙ not-caller (is_woken pid e.wakes) refl;
      once = pairs-once e.wakes well.once;
    }
  where
    either : (b : Bool) → (if b then None else (let o : Option Call = None in o)) ≡ None
    either true = refl
    either false = refl

    not-caller : (b : Bool) → is_woken pid e.wakes ≡ b → is_woken pid e.wakes ≡ false
    not-caller false h = h
    not-caller true h =
        absurd (false≢true (sym (ap is_some (no-mark k pid a acts)) ∙ well.was pid h))

of-makes : (k : Kernel) → Fine k → (pid : ℕ) (call : Call) (n : ℕ) (s : Successor) → Makes k pid call n s
    → WakesRightly k pid s
of-makes k fine pid call n s m =
    let acts : Acts k pid m.alive = acts-by k pid m.alive call m.lives m.may
    in let well : WakesWell k m.step = subst (WellIf k) m.does (call-well k fine pid m.alive acts call n)
    in subst (λ (t : Successor). WakesRightly k pid t) m.is
    (rightly-by k fine pid m.alive acts call m.step well m.step.own refl)

of-leaves : (k : Kernel) (pid : ℕ) (name : Name) (s : Successor) → Leaves k pid name s → WakesRightly k pid s
of-leaves k pid name s l =
    subst (λ (t : Successor). WakesRightly k pid t) l.is
    (record {
      parked = λ q h. absurd (false≢true h);
      unparked = λ q h. absurd (false≢true h);
      others = refl;
      once = tt;
    })

-- a call, or a withdrawal, which wakes nobody
pub entry-wakes : (k : Kernel) → Fine k → (pid : ℕ) (call : Call) (n : ℕ) (s : Successor)
    → transition k pid call n ≡ Some s → WakesRightly k pid s
entry-wakes k fine pid (calls.Withdraw name) n s is = of-leaves k pid name s (leaves k pid name n s is)
entry-wakes k fine pid call n s is = of-makes k fine pid call n s (makes k pid call n s refl is)

-- who is woken waited in such a call
of-made : (k : Kernel) → Fine k → (pid : ℕ) (call : Call) (n : ℕ) (s : Successor) → Makes k pid call n s
    → (q : ℕ) (c : Call) → woken_in q s.outcome.woken ≡ true → mark_in k.processes q ≡ Some c → can_wait c ≡ true
of-made k fine pid call n s m q c woken marked =
    let acts : Acts k pid m.alive = acts-by k pid m.alive call m.lives m.may
    in let well : WakesWell k m.step = subst (WellIf k) m.does (call-well k fine pid m.alive acts call n)
    in well.waited q c
    (sym (pairs-woken m.step.wakes q) ∙ (ap (λ (t : Successor). woken_in q t.outcome.woken) m.is ∙ woken)) marked

-- whom an entry wakes was marked with a call that can wait
pub woken-wait : (k : Kernel) → Fine k → (pid : ℕ) (call : Call) (n : ℕ) (s : Successor)
    → transition k pid call n ≡ Some s → withdrawn_from call ≡ None → (q : ℕ) (c : Call)
    → woken_in q s.outcome.woken ≡ true → mark_in k.processes q ≡ Some c → can_wait c ≡ true
woken-wait k fine pid call n s is plain_call q c woken marked =
    of-made k fine pid call n s (makes k pid call n s plain_call is) q c woken marked

-- behind each legal history
pub reachable-wakes : ReachableEntriesWakeRightly
reachable-wakes h k r pid call n s is = entry-wakes k (reachable-fine h k r) pid call n s is
