-- Each call and each withdrawal keeps marks and waits the same.
use Rattle.std.proofs.Common.{◌≡◌, ◌≢◌, ◌∙◌, ℕ, Bool, true, false, not, ◌&&◌, ◌||◌, nat_eq, List, [], ◌∷◌, ◌++◌, map, Option, Some, None, Result, Ok, Err, is_some, refl, ap, sym, subst, inl, inr}
use Rattle.std.specs.Prelude.{if◌then◌else◌, fold}
use Rattle.std.proofs.lemmas.Bool.{true≢false, false≢true, cases_eq, cases_Bool, eq-eqb, or_from, or_parts, and_parts}
use Rattle.std.specs.List.{list_any}
use Rattle.pico_base.specs.declared.call.Call.{Call}
use Rattle.pico_base.specs.declared.call.Call.TheVariants as calls
use Rattle.pico_base.specs.declared.numbers.Name.{Name}
use Rattle.pico_base.specs.declared.numbers.Name.TheVariants.{Proc, Msg, Sem}
use Rattle.pico_base.specs.declared.reply.Ending.{Ending}
use Rattle.pico_base.specs.declared.reply.Ending.TheVariants as endings
use Rattle.pico_base.specs.declared.reply.Errno.{Errno}
use Rattle.pico_base.specs.declared.reply.Errno.TheVariants.{Esrch, Einval, Echild, Enoent, Eexist, Eidrm}
use Rattle.pico_base.specs.declared.reply.Entry.{Entry}
use Rattle.pico_base.specs.declared.reply.Reply.{Reply}
use Rattle.pico_base.specs.declared.reply.Reply.TheVariants as replies
use Rattle.pico_base.specs.declared.signal.SigArg.{SigArg}
use Rattle.pico_base.specs.declared.signal.SigArg.TheVariants.{Zero, Is, Bad}
use Rattle.pico_base.specs.Signal.{at}
use Rattle.std.specs.Prelude.{◌%◌, nat_le}
use Rattle.std.specs.Option.{option_and_then}
use Rattle.number_maps.specs.Maps.{Numbered, get, put, without, is_used, used_with}
use Rattle.number_maps.proofs.Rising.{rising-nothing, rising-put}
use Rattle.number_maps.proofs.Order.{same-from-nat_eq, eq-other}
use Rattle.number_maps.proofs.Sets.{used-with-same, used-stays}
use Rattle.number_maps.proofs.LookUps.{get-later, get-put-same, get-put-other, get-without-same, get-without-other}
use Rattle.kernel_model.specs.Effect.{is_fresh}
use Rattle.kernel_model.specs.Numbers.{is_positive_u32}
use Rattle.kernel_model.specs.Queue.{Queue, empty_queue}
use Rattle.kernel_model.specs.QueueCalls.{unbind}
use Rattle.kernel_model.specs.Row.{Waited, Found, NotYet, NoChild, lists, wait}
use Rattle.kernel_model.specs.SemaphoreSet.{SemaphoreSet, new_set}
use Rattle.kernel_model.specs.Signals.{Signals, act_on, raise, with_mask}
use Rattle.kernel_model.specs.Transition as plain
use Rattle.waiting_model.specs.declared.callers.Waiting.{Waiting}
use Rattle.waiting_model.specs.declared.callers.Wake.{Wake}
use Rattle.waiting_model.specs.Calls.{waits_at, is_same_name}
use Rattle.waiting_model.specs.Waiters.{Awaited, Carried, unawaited, waiter, wake, wakes_at_removal, without_waiter}
use Rattle.waiting_model.specs.Queue.{try_queue, carry_out_on_queue}
use Rattle.waiting_model.specs.SemaphoreSet.{try_set, carry_out_on_set, carry_out_on_set_by}
use Rattle.waiting_model.specs.Marks.{Alive, after_reply, is_parked_at, new_alive, plain_alive, raise_by_other, with_signals_of}
use Rattle.waiting_model.specs.Kernel.{Kernel, Process, Living, Ended, Gone, alive_in, change_living, living_at, living_in, opening, wake_one, with_alive}
use Rattle.waiting_model.specs.Effect.{Effect, on_named, reply_with}
use Rattle.waiting_model.specs.ProcessCalls.{action_effect, end_process, fork_effect, kill, kill_at, new_child, parent_after_fork, reap_child, signal_living}
use Rattle.waiting_model.specs.QueueCalls.{get_queue, get_queue_at, new_queue, queue_effect, remove_queue, with_queue}
use Rattle.waiting_model.specs.SetCalls.{get_set, get_set_at, new_set_of, remove_set, set_effect, set_size, with_set}
use Rattle.waiting_model.specs.Transition.{Successor, effect, finish_call, may_make, may_withdraw, outcome_of, queue_without, set_without, successor, transition, transition_by, withdraw, withdrawn}
use Rattle.waiting_model.specs.History.{Replays}
use Rattle.waiting_model.specs.Plain.{AllValues}
use Rattle.waiting_laws.specs.Parked.{wait_of, wait_in, WaitOnce, mark_at, mark_of, mark_in, ReachableMarksAreWaits, ReachableWaitsFindNothing}
use Rattle.waiting_laws.proofs.Maps.{all-get, all-put, all-filter}
use Rattle.waiting_laws.proofs.Waits.{is_woken, Settles, Carries, carries, none-woken, left_by, wait-left, once-left, all-woken, all-woken-once}
use Rattle.waiting_laws.proofs.People.{WaitsAlike, alike-self, alike-from, alike-on, People, Moves, AllOver, OverFound, put-marked, put-alive, end-moves, reap-moves, wait-is-over, living-put-other, birth-people, birth-waits, people-changed, there-changed, mark-replied, FindsNothing, replied-patient}
use Rattle.waiting_laws.proofs.Parked.{queue-changes, set-changes, processes-change, same-either-way}
use Rattle.waiting_laws.proofs.Marked.{Fine, Acts, Finishes, finishes, no-mark, process-fine, look-fine, wait-fine, marks-replied, replied-alike, none-there, OtherQueue, OtherSet, queue-replied, set-replied, queue-parked, set-parked, may-reply}
use Rattle.waiting_laws.proofs.Options.{some-isnt-none, not-none, not-some, same-some}

abbrev FineAfter : ℕ → Call → Effect → Type 0
FineAfter pid call e = Fine (finish_call e.kernel pid call e.own)

abbrev FineIf : ℕ → Call → Option Effect → Type 0
FineIf pid call None = Unit {0}
FineIf pid call (Some e) = FineAfter pid call e

fine-test : (pid : ℕ) (call : Call) (b : Bool) (e : Effect) → (b ≡ true → FineAfter pid call e)
    → FineIf pid call (if b then Some e else None)
fine-test pid call true e h = h refl
fine-test pid call false e h = tt

fine-choice : (pid : ℕ) (call : Call) (b : Bool) (e f : Effect) → FineAfter pid call e → FineAfter pid call f
    → FineAfter pid call (if b then e else f)
fine-choice pid call true e f h g = h
fine-choice pid call false e f h g = g

fine-either : (pid : ℕ) (call : Call) (b : Bool) (x y : Option Effect) → FineIf pid call x → FineIf pid call y
    → FineIf pid call (if b then x else y)
fine-either pid call true x y h g = h
fine-either pid call false x y h g = g

-- a number that may be given out isn't used
pub unused : (used : List ℕ) (n : ℕ) → is_fresh used n ≡ true → is_used used n ≡ false
unused used n h = of_not (is_used used n) (and_parts (is_positive_u32 n) (not (is_used used n)) h).1
  where
    of_not : (b : Bool) → not b ≡ true → b ≡ false
    of_not true g = absurd (false≢true g)
    of_not false g = refl

not-true : {B : Type 0} (b : Bool) → b ≡ true → b ≡ false → B
not-true b h g = cc

-- what isn't used with one number more wasn't, and isn't that one
unused-before : (used : List ℕ) (n q : ℕ) → is_used (used_with used n) q ≡ false → is_used used q ≡ false
unused-before used n q h =
    elim (cases_Bool (is_used used q)) [
      | inl was ↦ not-true (is_used (used_with used n) q) (used-stays used n q was) h
      | inr wasnt ↦ wasnt
    ]

unused-other : (used : List ℕ) (n q : ℕ) → is_used (used_with used n) q ≡ false → q ≢ n
unused-other used n q h same =
    not-true (is_used (used_with used n) n) (used-with-same used n)
    (subst (λ (i : ℕ). is_used (used_with used n) i ≡ false) same h)

-- nobody waits at a new object, as where there was none
new-at : {T : Type 0} (m : Numbered (Awaited T)) (n : ℕ) (o : Awaited T) → o.waiters ≡ [] → get m n ≡ None → (p i : ℕ)
    → wait_in p (get (put m n o) i) ≡ wait_in p (get m i)
new-at m n o alone none p i =
    elim (cases_eq i n) [
      | inl same ↦
          subst (λ (x : ℕ). wait_in p (get (put m n o) x) ≡ wait_in p (get m x)) (sym same)
          (ap (wait_in p) (get-put-same m n o) ∙ (ap (wait_of p) alone ∙ sym (ap (wait_in p) none)))
      | inr ne ↦ ap (wait_in p) (get-put-other m n o i ne)
    ]

-- who doesn't list itself doesn't with another child
alone-with : (pid n : ℕ) (cs : List ℕ) → list_any (nat_eq pid) cs ≡ false → nat_eq pid n ≡ false
    → list_any (nat_eq pid) (cs ++ n ∷ []) ≡ false
alone-with pid n [] h g = or_from (nat_eq pid n) false g refl
alone-with pid n (c ∷ cs) h g =
    let parts = or_parts (nat_eq pid c) (list_any (nat_eq pid) cs) h
    in or_from (nat_eq pid c) (list_any (nat_eq pid) (cs ++ n ∷ [])) parts.0 (alone-with pid n cs parts.1 g)

module _ (k : Kernel) (fine : Fine k) (pid : ℕ) (a : Alive) (acts : Acts k pid a) where
  look : (call : Call) (reply : Reply) → Fine (finish_call k pid call (Some reply))
  look call reply = look-fine k fine pid a acts call reply

  -- Queues.

  put-queue : (id : ℕ) (q : Awaited Queue) → get k.queues id ≡ Some q → (o : Awaited Queue) → WaitOnce o.waiters
      → OtherQueue k (with_queue k id o) id (Some o)
  put-queue id q there o once =
      record {
        here = get-put-same k.queues id o;
        others = λ i ne. get-put-other k.queues id o i ne;
        nothing =
            λ n h.
            get-put-other k.queues id o n
            (λ same.
            some-isnt-none q (get k.queues id) there (subst (λ (i : ℕ). get k.queues i ≡ None) same h))
            ∙ h;
        once = all-put (λ w. WaitOnce w.waiters) k.queues id o fine.marks.queues_once once;
        sets = refl;
        processes = refl;
        used_processes = refl;
        used_queues = refl;
        used_sets = refl;
      }

  queue-own : (call : Call) (id : ℕ) (q : Awaited Queue) → get k.queues id ≡ Some q → (o : Awaited Queue)
      → (wakes : List Wake) (own : Option Reply) → Carries q.waiters (waiter pid call) o.waiters wakes own
      → (own ≡ None → waits_at pid call ≡ Msg id)
      → Fine (finish_call (let j : Kernel = record (with_queue k id o) {
        processes = fold wake_one (with_queue k id o).processes wakes;
      } in j) pid call own)
  queue-own call id q there o wakes None c place =
      subst
      (λ (ws : List Wake).
      Fine (finish_call (let j : Kernel = record (with_queue k id o) {
        processes = fold wake_one (with_queue k id o).processes ws;
      } in j) pid call None))
      (sym c.0)
      (queue-parked k fine pid a acts call id (place refl) q there (with_queue k id o) o
      (put-queue id q there o c.2) c.1)
  queue-own call id q there o wakes (Some reply) c place =
      queue-replied k fine pid a acts call reply id (Some q) there (with_queue k id o) (Some o)
      (put-queue id q there o c.once) wakes c

  queue-done : (call : Call) (id : ℕ) (o : Option (Awaited Queue)) → get k.queues id ≡ o
      → ((q : Awaited Queue) → (carry_out_on_queue q (waiter pid call)).own ≡ None → waits_at pid call ≡ Msg id)
      → FineAfter pid call (on_named k o (λ q. queue_effect k id (carry_out_on_queue q (waiter pid call))))
  queue-done call id None there place = look call (replies.Fail Einval)
  queue-done call id (Some q) there place =
      let c : Carried Queue = carry_out_on_queue q (waiter pid call)
      in let absent : wait_of pid q.waiters ≡ None =
      ap (wait_in pid) (sym there)
      ∙ (fine.marks.queues id pid ∙ ap (mark_at pid (Msg id)) (no-mark k pid a acts))
      in let once : WaitOnce q.waiters =
      all-get (λ w. WaitOnce w.waiters) k.queues id q fine.marks.queues_once there
      in queue-own call id q there c.object c.wakes c.own (carries try_queue q (waiter pid call) once absent) (place q)

  -- a removal
  removal-rest : (b : Bool) (x : Option Call) → b ≡ is_some x → None ≡ (if b then None else x)
  removal-rest true x h = refl
  removal-rest false None h = refl
  removal-rest false (Some c) h = absurd (false≢true h)

  pub removal-settles : (ws : List Waiting) → WaitOnce ws → Settles ws [] (map (λ w. wake w (replies.Fail Eidrm)) ws)
  removal-settles ws once =
      record {
        rest =
            λ p.
            removal-rest (is_woken p (map (λ w. wake w (replies.Fail Eidrm)) ws)) (wait_of p ws)
            (all-woken ws (replies.Fail Eidrm) p);
        was = λ p h. sym (all-woken ws (replies.Fail Eidrm) p) ∙ h;
        once = tt;
        twice = all-woken-once ws (replies.Fail Eidrm) once;
      }

  queue-removed : (id : ℕ) (o : Option (Awaited Queue)) → get k.queues id ≡ o
      → FineAfter pid (calls.MsgRmid id) (on_named k o (remove_queue k id))
  queue-removed id None there = look (calls.MsgRmid id) (replies.Fail Einval)
  queue-removed id (Some q) there =
      queue-replied k fine pid a acts (calls.MsgRmid id) (replies.Num 0) id (Some q) there
      (record k { queues = without k.queues id; queue_keys = unbind k.queue_keys id }) None
      (record {
        here = get-without-same k.queues id;
        others = λ i ne. get-without-other k.queues id i ne;
        nothing =
            λ n h.
            elim (cases_eq n id) [
              | inl same ↦
                  subst (λ (i : ℕ). get (without k.queues id) i ≡ None) (sym same) (get-without-same k.queues id)
              | inr ne ↦ get-without-other k.queues id n ne ∙ h
            ];
        once = all-filter (λ w. WaitOnce w.waiters) (λ e. not (nat_eq id e.0)) k.queues fine.marks.queues_once;
        sets = refl;
        processes = refl;
        used_processes = refl;
        used_queues = refl;
        used_sets = refl;
      })
      (wakes_at_removal q)
      (removal-settles q.waiters (all-get (λ w. WaitOnce w.waiters) k.queues id q fine.marks.queues_once there))

  -- a new queue: nobody waits there, as where there was none
  queue-made : (call : Call) (keys : Numbered ℕ) (n : ℕ) → FineIf pid call (new_queue k keys n)
  queue-made call keys n = fine-test pid call (is_fresh k.used_queues n) _ made
    where
      made : is_fresh k.used_queues n ≡ true
          → FineAfter pid call (reply_with (record k {
            queues = put k.queues n (unawaited empty_queue);
            queue_keys = keys;
            used_queues = used_with k.used_queues n;
          }) n)
      made fresh =
          let none : get k.queues n ≡ None = fine.unused_queues n (unused k.used_queues n fresh)
          in let mid : Kernel =
          record k {
            queues = put k.queues n (unawaited empty_queue);
            queue_keys = keys;
            used_queues = used_with k.used_queues n;
          }
          in let j : Kernel = finish_call mid pid call (Some (replies.Num n))
          in let f : Finishes mid j = finishes mid fine.people pid call (Some (replies.Num n))
          (may-reply mid pid call (replies.Num n))
          in record {
            people = f.people;
            unused_processes =
                λ m h.
                none-there (get k.processes m) (get j.processes m) (f.there m)
                (fine.unused_processes m (subst (λ (u : List ℕ). is_used u m ≡ false) f.used_processes h));
            unused_queues =
                λ m h.
                (let g : is_used (used_with k.used_queues n) m ≡ false =
                subst (λ (u : List ℕ). is_used u m ≡ false) f.used_queues h
                in ap (λ (qs : Numbered (Awaited Queue)). get qs m) f.queues
                ∙ (get-put-other k.queues n (unawaited empty_queue) m (unused-other k.used_queues n m g)
                ∙ fine.unused_queues m (unused-before k.used_queues n m g)));
            unused_sets =
                λ m h.
                ap (λ (ss : Numbered (Awaited SemaphoreSet)). get ss m) f.sets
                ∙ fine.unused_sets m (subst (λ (u : List ℕ). is_used u m ≡ false) f.used_sets h);
            marks =
                processes-change k fine.marks j
                (λ i p.
                ap (λ (qs : Numbered (Awaited Queue)). wait_in p (get qs i)) f.queues
                ∙ new-at k.queues n (unawaited empty_queue) refl none p i)
                (λ i p. ap (λ (ss : Numbered (Awaited SemaphoreSet)). wait_in p (get ss i)) f.sets)
                (λ q.
                replied-alike k pid a acts q (mark_in j.processes q) (mark_in k.processes q)
                (marks-replied mid fine.people pid call (replies.Num n) q) (alike-self q (mark_in k.processes q)))
                (subst (λ (qs : Numbered (Awaited Queue)). AllValues (λ w. WaitOnce w.waiters) qs) (sym f.queues)
                (all-put (λ w. WaitOnce w.waiters) k.queues n (unawaited empty_queue) fine.marks.queues_once tt))
                (subst (λ (ss : Numbered (Awaited SemaphoreSet)). AllValues (λ w. WaitOnce w.waiters) ss) (sym f.sets)
                fine.marks.sets_once);
          }

  queue-found : (call : Call) (key : ℕ) (create excl : Bool) (n : ℕ) (o : Option ℕ)
      → FineIf pid call (get_queue_at k key create excl n o)
  queue-found call key create excl n (Some id) =
      fine-choice pid call (create && excl) _ _ (look call (replies.Fail Eexist)) (look call (replies.Num id))
  queue-found call key create excl n None =
      fine-either pid call create _ _ (queue-made call (put k.queue_keys key n) n) (look call (replies.Fail Enoent))

  queue-got : (call : Call) (key : Option ℕ) (create excl : Bool) (n : ℕ)
      → FineIf pid call (get_queue k key create excl n)
  queue-got call None create excl n = queue-made call k.queue_keys n
  queue-got call (Some key) create excl n = queue-found call key create excl n (get k.queue_keys key)

  -- Sets.

  put-set : (id : ℕ) (s : Awaited SemaphoreSet) → get k.sets id ≡ Some s → (o : Awaited SemaphoreSet)
      → WaitOnce o.waiters → OtherSet k (with_set k id o) id (Some o)
  put-set id s there o once =
      record {
        here = get-put-same k.sets id o;
        others = λ i ne. get-put-other k.sets id o i ne;
        nothing =
            λ n h.
            get-put-other k.sets id o n
            (λ same. some-isnt-none s (get k.sets id) there (subst (λ (i : ℕ). get k.sets i ≡ None) same h))
            ∙ h;
        once = all-put (λ w. WaitOnce w.waiters) k.sets id o fine.marks.sets_once once;
        queues = refl;
        processes = refl;
        used_processes = refl;
        used_queues = refl;
        used_sets = refl;
      }

  set-own : (call : Call) (id : ℕ) (s : Awaited SemaphoreSet) → get k.sets id ≡ Some s → (o : Awaited SemaphoreSet)
      → (wakes : List Wake) (own : Option Reply) → Carries s.waiters (waiter pid call) o.waiters wakes own
      → (own ≡ None → waits_at pid call ≡ Sem id)
      → Fine (finish_call (let j : Kernel = record (with_set k id o) {
        processes = fold wake_one (with_set k id o).processes wakes;
      } in j) pid call own)
  set-own call id s there o wakes None c place =
      subst
      (λ (ws : List Wake).
      Fine (finish_call (let j : Kernel = record (with_set k id o) {
        processes = fold wake_one (with_set k id o).processes ws;
      } in j) pid call None))
      (sym c.0)
      (set-parked k fine pid a acts call id (place refl) s there (with_set k id o) o (put-set id s there o c.2) c.1)
  set-own call id s there o wakes (Some reply) c place =
      set-replied k fine pid a acts call reply id (Some s) there (with_set k id o) (Some o)
      (put-set id s there o c.once) wakes c

  pub set-carries : (s : Awaited SemaphoreSet) (who : Waiting) (call : Call) → WaitOnce s.waiters
      → wait_of who.pid s.waiters ≡ None
      → (let c : Carried SemaphoreSet = carry_out_on_set_by s who call
      in Carries s.waiters who c.object.waiters c.wakes c.own)
  set-carries s who (calls.SemGetNcnt id num) once absent = none-woken s.waiters once
  set-carries s who (calls.SemGetZcnt id num) once absent = none-woken s.waiters once
  set-carries s who call once absent = carries try_set s who once absent

  set-done : (call : Call) (id : ℕ) (o : Option (Awaited SemaphoreSet)) → get k.sets id ≡ o
      → ((s : Awaited SemaphoreSet) → (carry_out_on_set s (waiter pid call)).own ≡ None → waits_at pid call ≡ Sem id)
      → FineAfter pid call (on_named k o (λ s. set_effect k id (carry_out_on_set s (waiter pid call))))
  set-done call id None there place = look call (replies.Fail Einval)
  set-done call id (Some s) there place =
      let c : Carried SemaphoreSet = carry_out_on_set s (waiter pid call)
      in let absent : wait_of pid s.waiters ≡ None =
      ap (wait_in pid) (sym there)
      ∙ (fine.marks.sets id pid ∙ ap (mark_at pid (Sem id)) (no-mark k pid a acts))
      in let once : WaitOnce s.waiters = all-get (λ w. WaitOnce w.waiters) k.sets id s fine.marks.sets_once there
      in set-own call id s there c.object c.wakes c.own (set-carries s (waiter pid call) call once absent) (place s)

  set-removed : (id : ℕ) (o : Option (Awaited SemaphoreSet)) → get k.sets id ≡ o
      → FineAfter pid (calls.SemRmid id) (on_named k o (remove_set k id))
  set-removed id None there = look (calls.SemRmid id) (replies.Fail Einval)
  set-removed id (Some s) there =
      set-replied k fine pid a acts (calls.SemRmid id) (replies.Num 0) id (Some s) there
      (record k { sets = without k.sets id; set_keys = unbind k.set_keys id }) None
      (record {
        here = get-without-same k.sets id;
        others = λ i ne. get-without-other k.sets id i ne;
        nothing =
            λ n h.
            elim (cases_eq n id) [
              | inl same ↦
                  subst (λ (i : ℕ). get (without k.sets id) i ≡ None) (sym same) (get-without-same k.sets id)
              | inr ne ↦ get-without-other k.sets id n ne ∙ h
            ];
        once = all-filter (λ w. WaitOnce w.waiters) (λ e. not (nat_eq id e.0)) k.sets fine.marks.sets_once;
        queues = refl;
        processes = refl;
        used_processes = refl;
        used_queues = refl;
        used_sets = refl;
      })
      (wakes_at_removal s)
      (removal-settles s.waiters (all-get (λ w. WaitOnce w.waiters) k.sets id s fine.marks.sets_once there))

  set-made : (call : Call) (keys : Numbered ℕ) (n : ℕ) (r : Result SemaphoreSet Errno)
      → FineIf pid call (new_set_of k keys n r)
  set-made call keys n (Err e) = look call (replies.Fail e)
  set-made call keys n (Ok s) = fine-test pid call (is_fresh k.used_sets n) _ made
    where
      made : is_fresh k.used_sets n ≡ true
          → FineAfter pid call (reply_with (record k {
            sets = put k.sets n (unawaited s);
            set_keys = keys;
            used_sets = used_with k.used_sets n;
          }) n)
      made fresh =
          let none : get k.sets n ≡ None = fine.unused_sets n (unused k.used_sets n fresh)
          in let mid : Kernel =
          record k {
            sets = put k.sets n (unawaited s);
            set_keys = keys;
            used_sets = used_with k.used_sets n;
          }
          in let j : Kernel = finish_call mid pid call (Some (replies.Num n))
          in let f : Finishes mid j = finishes mid fine.people pid call (Some (replies.Num n))
          (may-reply mid pid call (replies.Num n))
          in record {
            people = f.people;
            unused_processes =
                λ m h.
                none-there (get k.processes m) (get j.processes m) (f.there m)
                (fine.unused_processes m (subst (λ (u : List ℕ). is_used u m ≡ false) f.used_processes h));
            unused_queues =
                λ m h.
                ap (λ (qs : Numbered (Awaited Queue)). get qs m) f.queues
                ∙ fine.unused_queues m (subst (λ (u : List ℕ). is_used u m ≡ false) f.used_queues h);
            unused_sets =
                λ m h.
                (let g : is_used (used_with k.used_sets n) m ≡ false =
                subst (λ (u : List ℕ). is_used u m ≡ false) f.used_sets h
                in ap (λ (ss : Numbered (Awaited SemaphoreSet)). get ss m) f.sets
                ∙ (get-put-other k.sets n (unawaited s) m (unused-other k.used_sets n m g)
                ∙ fine.unused_sets m (unused-before k.used_sets n m g)));
            marks =
                processes-change k fine.marks j
                (λ i p. ap (λ (qs : Numbered (Awaited Queue)). wait_in p (get qs i)) f.queues)
                (λ i p.
                ap (λ (ss : Numbered (Awaited SemaphoreSet)). wait_in p (get ss i)) f.sets
                ∙ new-at k.sets n (unawaited s) refl none p i)
                (λ q.
                replied-alike k pid a acts q (mark_in j.processes q) (mark_in k.processes q)
                (marks-replied mid fine.people pid call (replies.Num n) q) (alike-self q (mark_in k.processes q)))
                (subst (λ (qs : Numbered (Awaited Queue)). AllValues (λ w. WaitOnce w.waiters) qs) (sym f.queues)
                fine.marks.queues_once)
                (subst (λ (ss : Numbered (Awaited SemaphoreSet)). AllValues (λ w. WaitOnce w.waiters) ss) (sym f.sets)
                (all-put (λ w. WaitOnce w.waiters) k.sets n (unawaited s) fine.marks.sets_once tt));
          }

  set-found : (call : Call) (key count : ℕ) (create excl : Bool) (n : ℕ) (o : Option ℕ)
      → FineIf pid call (get_set_at k key count create excl n o)
  set-found call key count create excl n (Some id) =
      fine-choice pid call (create && excl) _ _ (look call (replies.Fail Eexist))
      (fine-choice pid call (nat_eq count 0 || nat_le count (set_size k id)) _ _ (look call (replies.Num id))
      (look call (replies.Fail Einval)))
  set-found call key count create excl n None =
      fine-either pid call create _ _ (set-made call (put k.set_keys key n) n (new_set count))
      (look call (replies.Fail Enoent))

  set-got : (call : Call) (key : Option ℕ) (count : ℕ) (create excl : Bool) (n : ℕ)
      → FineIf pid call (get_set k key count create excl n)
  set-got call None count create excl n = set-made call k.set_keys n (new_set count)
  set-got call (Some key) count create excl n = set-found call key count create excl n (get k.set_keys key)

  -- Processes.

  fork-done : (call : Call) (n : ℕ) → FineIf pid call (fork_effect k pid a n)
  fork-done call n = fine-test pid call (is_fresh k.used_processes n) _ forked
    where
      forked : is_fresh k.used_processes n ≡ true
          → FineAfter pid call (reply_with (record k {
            processes = put (put k.processes n (Living (new_child a))) pid (Living (parent_after_fork a n));
            used_processes = used_with k.used_processes n;
          }) n)
      forked fresh =
          let none : get k.processes n ≡ None = fine.unused_processes n (unused k.used_processes n fresh)
          in let ps : Numbered Process = put k.processes n (Living (new_child a))
          in let born : People ps = birth-people k.processes fine.people n (new_child a) none refl refl refl
          in let differs : pid ≢ n =
          λ same.
          some-isnt-none a (living_at k pid) acts.lives
          (ap (option_and_then alive_in) (subst (λ (i : ℕ). get k.processes i ≡ None) (sym same) none))
          in let lives : living_in ps pid ≡ Some a =
          living-put-other k.processes n (Living (new_child a)) pid differs ∙ acts.lives
          in let qs : Numbered Process = put ps pid (Living (parent_after_fork a n))
          in let moves : Moves ps qs =
          put-alive ps born pid a (parent_after_fork a n) lives (alike-self pid a.marks.parked)
          (born.ended pid a lives)
          (alone-with pid n a.row.family.living (fine.people.apart pid a acts.lives) (eq-other pid n differs))
          (λ child nohang h. not-some (calls.WaitPid child nohang) (sym acts.unparked ∙ h))
          in let mid : Kernel = record k { processes = qs; used_processes = used_with k.used_processes n }
          in let j : Kernel = finish_call mid pid call (Some (replies.Num n))
          in let f : Finishes mid j = finishes mid moves.people pid call (Some (replies.Num n))
          (may-reply mid pid call (replies.Num n))
          in record {
            people = f.people;
            unused_processes =
                λ m h.
                (let g : is_used (used_with k.used_processes n) m ≡ false =
                subst (λ (u : List ℕ). is_used u m ≡ false) f.used_processes h
                in none-there (get ps m) (get j.processes m) (f.there m ∙ moves.there m)
                (get-put-other k.processes n (Living (new_child a)) m (unused-other k.used_processes n m g)
                ∙ fine.unused_processes m (unused-before k.used_processes n m g)));
            unused_queues =
                λ m h.
                ap (λ (xs : Numbered (Awaited Queue)). get xs m) f.queues
                ∙ fine.unused_queues m (subst (λ (u : List ℕ). is_used u m ≡ false) f.used_queues h);
            unused_sets =
                λ m h.
                ap (λ (ss : Numbered (Awaited SemaphoreSet)). get ss m) f.sets
                ∙ fine.unused_sets m (subst (λ (u : List ℕ). is_used u m ≡ false) f.used_sets h);
            marks =
                processes-change k fine.marks j
                (λ i p. ap (λ (xs : Numbered (Awaited Queue)). wait_in p (get xs i)) f.queues)
                (λ i p. ap (λ (ss : Numbered (Awaited SemaphoreSet)). wait_in p (get ss i)) f.sets)
                (λ q.
                replied-alike k pid a acts q (mark_in j.processes q) (mark_in qs q)
                (marks-replied mid moves.people pid call (replies.Num n) q)
                (alike-on q (mark_in qs q) (mark_in ps q) (mark_in k.processes q) (moves.waits q)
                (birth-waits k.processes n (new_child a) none refl q)))
                (subst (λ (xs : Numbered (Awaited Queue)). AllValues (λ w. WaitOnce w.waiters) xs) (sym f.queues)
                fine.marks.queues_once)
                (subst (λ (ss : Numbered (Awaited SemaphoreSet)). AllValues (λ w. WaitOnce w.waiters) ss) (sym f.sets)
                fine.marks.sets_once);
          }

  moved : (call : Call) (reply : Reply) (qs : Numbered Process) → Moves k.processes qs
      → Fine (finish_call (let j : Kernel = record k { processes = qs } in j) pid call (Some reply))
  moved call reply qs moves = process-fine k fine pid a acts qs moves call reply

  reaped : (child : Option ℕ) (nohang : Bool) (w : Waited) → wait a.row.family child ≡ w → OverFound k.processes w
      → FineAfter pid (calls.WaitPid child nohang) (reap_child k pid a nohang w)
  reaped child nohang (Found c ending) is over =
      moved (calls.WaitPid child nohang) (replies.Child c ending) _
      (reap-moves k.processes fine.people pid a acts.lives acts.unparked c over)
  reaped child true NotYet is over = look (calls.WaitPid child true) (replies.Num 0)
  reaped child false NotYet is over = wait-fine k fine pid a acts child false is
  reaped child nohang NoChild is over = look (calls.WaitPid child nohang) (replies.Fail Echild)

  signals-changed : (call : Call) (reply : Reply) (s : Signals)
      → Fine (finish_call (with_alive k pid (with_signals_of a s)) pid call (Some reply))
  signals-changed call reply s =
      moved call reply (put k.processes pid (Living (with_signals_of a s)))
      (put-marked k.processes fine.people pid a (with_signals_of a s) acts.lives refl refl)

  acted : (call : Call) (r : Result Signals Errno) → FineAfter pid call (action_effect k pid a r)
  acted call (Ok s) = signals-changed call (replies.Num 0) s
  acted call (Err e) = look call (replies.Fail e)

  struck-if : (call : Call) (target : ℕ) (t : Alive) → living_at k target ≡ Some t → (s : Signals) (u : Alive)
      → u.marks.parked ≡ t.marks.parked → u.row.family ≡ t.row.family → (b : Bool)
      → FineAfter pid call
      (reply_with (if b then with_alive k target (with_signals_of t s) else with_alive k target u) 0)
  struck-if call target t lives s u marks family true =
      moved call (replies.Num 0) (put k.processes target (Living (with_signals_of t s)))
      (put-marked k.processes fine.people target t (with_signals_of t s) lives refl refl)
  struck-if call target t lives s u marks family false =
      moved call (replies.Num 0) (put k.processes target (Living u))
      (put-marked k.processes fine.people target t u lives marks family)

  signalled : (call : Call) (target : ℕ) (t : Alive) → living_at k target ≡ Some t → (sig : SigArg)
      → FineAfter pid call (signal_living k pid target t sig)
  signalled call target t lives Zero = look call (replies.Num 0)
  signalled call target t lives Bad = look call (replies.Fail Einval)
  signalled call target t lives (Is g) =
      struck-if call target t lives (raise t.row.signals g) (raise_by_other t g) refl refl (nat_eq pid target)

  killed-at : (call : Call) (target : ℕ) (sig : SigArg) (o : Option Process) → get k.processes target ≡ o
      → FineAfter pid call (kill_at k pid target sig o)
  killed-at call target sig None there = look call (replies.Fail Esrch)
  killed-at call target sig (Some Gone) there = look call (replies.Fail Esrch)
  killed-at call target sig (Some (Ended ending)) there = look call (replies.Num 0)
  killed-at call target sig (Some (Living t)) there =
      signalled call target t (ap (option_and_then alive_in) there) sig

  killed : (call : Call) (target : ℕ) (sig : SigArg) → FineAfter pid call (kill k pid target sig)
  killed call target Bad = look call (replies.Fail Einval)
  killed call target Zero = killed-at call target Zero (get k.processes target) refl
  killed call target (Is g) = killed-at call target (Is g) (get k.processes target) refl

  ended : (call : Call) (ending : Ending) → FineAfter pid call (end_process k pid a ending)
  ended call ending =
      moved call replies.Ended _ (end-moves k.processes fine.people pid a ending acts.lives acts.unparked)

  -- all calls
  pub call-fine : (call : Call) (n : ℕ) → FineIf pid call (effect k (waiter pid call) a n)
  call-fine (calls.Fork block) n = fork-done (calls.Fork block) n
  call-fine (calls.Exit status) n = ended (calls.Exit status) (endings.Exited (status % 256))
  call-fine (calls.Killed sig) n = ended (calls.Killed sig) (endings.Killed sig)
  call-fine calls.GetPid n = look calls.GetPid (replies.Num pid)
  call-fine (calls.Kill target sig) n = killed (calls.Kill target sig) target sig
  call-fine (calls.SigAction sig act) n = acted (calls.SigAction sig act) (act_on a.row.signals sig act)
  call-fine (calls.SigProcMask how set) n =
      signals-changed (calls.SigProcMask how set) (replies.Bits a.row.signals.mask)
      (with_mask a.row.signals how set)
  call-fine calls.SigPending n = look calls.SigPending (replies.Bits a.row.signals.pending)
  call-fine (calls.Handled sig) n = look (calls.Handled sig) (replies.Num (at a.row.signals.handled sig))
  call-fine (calls.WaitPid child nohang) n =
      reaped child nohang (wait a.row.family child) refl (wait-is-over k.processes fine.people pid a acts.lives child)
  call-fine (calls.MsgGet key create excl) n = queue-got (calls.MsgGet key create excl) key create excl n
  call-fine (calls.MsgSnd id class text nowait) n =
      queue-done (calls.MsgSnd id class text nowait) id (get k.queues id) refl (λ q h. refl)
  call-fine (calls.MsgRcv id class size noerror nowait) n =
      queue-done (calls.MsgRcv id class size noerror nowait) id (get k.queues id) refl (λ q h. refl)
  call-fine (calls.MsgStat id) n =
      queue-done (calls.MsgStat id) id (get k.queues id) refl (λ q h. not-none _ h)
  call-fine (calls.MsgSet id qbytes) n =
      queue-done (calls.MsgSet id qbytes) id (get k.queues id) refl (λ q h. not-none _ h)
  call-fine (calls.MsgRmid id) n = queue-removed id (get k.queues id) refl
  call-fine (calls.SemGet key count create excl) n =
      set-got (calls.SemGet key count create excl) key count create excl n
  call-fine (calls.SemRmid id) n = set-removed id (get k.sets id) refl
  call-fine (calls.SemOp id steps) n = set-done (calls.SemOp id steps) id (get k.sets id) refl (λ s h. refl)
  call-fine (calls.SemGetVal id num) n =
      set-done (calls.SemGetVal id num) id (get k.sets id) refl (λ s h. not-none _ h)
  call-fine (calls.SemGetPid id num) n =
      set-done (calls.SemGetPid id num) id (get k.sets id) refl (λ s h. not-none _ h)
  call-fine (calls.SemGetNcnt id num) n =
      set-done (calls.SemGetNcnt id num) id (get k.sets id) refl (λ s h. not-none _ h)
  call-fine (calls.SemGetZcnt id num) n =
      set-done (calls.SemGetZcnt id num) id (get k.sets id) refl (λ s h. not-none _ h)
  call-fine (calls.SemSetVal id num value) n =
      set-done (calls.SemSetVal id num value) id (get k.sets id) refl (λ s h. not-none _ h)
  call-fine (calls.SemGetAll id) n =
      set-done (calls.SemGetAll id) id (get k.sets id) refl (λ s h. not-none _ h)
  call-fine (calls.SemSetAll id values) n =
      set-done (calls.SemSetAll id values) id (get k.sets id) refl (λ s h. not-none _ h)
  call-fine (calls.Withdraw name) n = tt

-- Withdrawals.

is-same : (name : Name) → is_same_name name name ≡ true
is-same (Proc pid) = eq-eqb pid pid refl
is-same (Msg id) = eq-eqb id id refl
is-same (Sem id) = eq-eqb id id refl

-- a process that waits at the name has its mark there
parked-there : (pid : ℕ) (name : Name) (m : Option Call) → is_parked_at pid name m ≡ true
    → is_some (mark_at pid name m) ≡ true
parked-there pid name None h = absurd (false≢true h)
parked-there pid name (Some call) h = ap (λ (b : Bool). is_some (if b then Some call else None)) h

-- the one who leaves, as one who is woken
one-left : (pid : ℕ) (ws : List Waiting) (call : Call) (reply : Reply) → is_some (wait_of pid ws) ≡ true → WaitOnce ws
    → Settles ws (left_by pid ws) (wake (waiter pid call) reply ∷ [])
one-left pid ws call reply there once =
    record {
      rest =
          λ p.
          wait-left pid ws p
          ∙ ap (λ (b : Bool). (if b then None else wait_of p ws)) (sym (or_false (nat_eq p pid)));
      was =
          λ p h.
          subst (λ (i : ℕ). is_some (wait_of i ws) ≡ true)
          (sym (same-from-nat_eq p pid (sym (or_false (nat_eq p pid)) ∙ h))) there;
      once = once-left pid ws once;
      twice = (refl, tt);
    }
  where
    or_false : (b : Bool) → (b || false) ≡ b
    or_false true = refl
    or_false false = refl

-- who waits for children waits at no queue and at no set
waits-at-own : (pid own : ℕ) (call : Call) (place : Name) → waits_at pid call ≡ place
    → is_same_name (Proc own) place ≡ true → WaitsAlike pid None (Some call)
waits-at-own pid own call (Msg id) is g = absurd (false≢true g)
waits-at-own pid own call (Sem id) is g = absurd (false≢true g)
waits-at-own pid own call (Proc p) is g =
    record {
      queues = λ id. sym (ap (λ (n : Name). (if is_same_name (Msg id) n then Some call else None)) is);
      sets = λ id. sym (ap (λ (n : Name). (if is_same_name (Sem id) n then Some call else None)) is);
    }

waits-nowhere : (pid own : ℕ) (m : Option Call) → is_parked_at pid (Proc own) m ≡ true → WaitsAlike pid None m
waits-nowhere pid own None h = alike-self pid None
waits-nowhere pid own (Some call) h = waits-at-own pid own call (waits_at pid call) refl h

module _ (k : Kernel) (fine : Fine k) (pid : ℕ) (a : Alive) (lives : living_at k pid ≡ Some a) where
  abbrev left_kernel : Kernel → Kernel
  left_kernel left = record left { processes = change_living left.processes pid after_reply }

  left-marks : (left : Kernel) → left.processes ≡ k.processes → (call : Call) (reply : Reply) (q : ℕ)
      → mark_in (change_living left.processes pid after_reply) q
      ≡ (if is_woken q (wake (waiter pid call) reply ∷ []) then None else mark_in k.processes q)
  left-marks left same call reply q =
      ap (λ (ps : Numbered Process). mark_in (change_living ps pid after_reply) q) same
      ∙ (mark-replied k.processes pid q
      ∙ (ap (λ (b : Bool). (if b then None else mark_in k.processes q)) (same-either-way pid q)
      ∙ ap (λ (b : Bool). (if b then None else mark_in k.processes q)) (or_false (nat_eq q pid))))
    where
      or_false : (b : Bool) → b ≡ (b || false)
      or_false true = refl
      or_false false = refl

  left-people : (left : Kernel) → left.processes ≡ k.processes → People (change_living left.processes pid after_reply)
  left-people left same =
      people-changed left.processes (subst People (sym same) fine.people) pid after_reply (λ b. refl)
      (λ b h. replied-patient b)

  left-there : (left : Kernel) → left.processes ≡ k.processes → (n : ℕ) → get k.processes n ≡ None
      → get (change_living left.processes pid after_reply) n ≡ None
  left-there left same n h =
      none-there (get k.processes n) (get (change_living left.processes pid after_reply) n)
      (there-changed left.processes pid after_reply n
      ∙ ap (λ (ps : Numbered Process). is_some (get ps n)) same) h

  left-queue : (id : ℕ) (q : Awaited Queue) → get k.queues id ≡ Some q → is_parked_at pid (Msg id) a.marks.parked ≡ true
      → Fine (let left = with_queue k id (without_waiter pid q) in record left {
        processes = change_living left.processes pid after_reply;
      })
  left-queue id q there parked =
      let ps : Numbered Process = change_living k.processes pid after_reply
      in let o : Awaited Queue = without_waiter pid q
      in let once : WaitOnce q.waiters =
      all-get (λ w. WaitOnce w.waiters) k.queues id q fine.marks.queues_once there
      in let now : wait_of pid q.waiters ≡ mark_at pid (Msg id) (mark_in k.processes pid) =
      ap (wait_in pid) (sym there) ∙ fine.marks.queues id pid
      in let among : is_some (wait_of pid q.waiters) ≡ true =
      ap is_some now
      ∙ (ap (λ (m : Option Call). is_some (mark_at pid (Msg id) m)) (ap mark_of lives)
      ∙ parked-there pid (Msg id) a.marks.parked parked)
      in let j : Kernel = record (with_queue k id o) { processes = ps }
      in let others : (i : ℕ) → i ≢ id → get j.queues i ≡ get k.queues i = λ i ne. get-put-other k.queues id o i ne
      in let kept : AllValues (λ w. WaitOnce w.waiters) j.queues =
      all-put (λ w. WaitOnce w.waiters) k.queues id o fine.marks.queues_once (once-left pid q.waiters once)
      in record {
        people = left-people k refl;
        unused_processes = λ n h. left-there k refl n (fine.unused_processes n h);
        unused_queues =
            λ n h.
            others n
            (λ same.
            some-isnt-none q (get k.queues id) there
            (subst (λ (i : ℕ). get k.queues i ≡ None) same (fine.unused_queues n h)))
            ∙ fine.unused_queues n h;
        unused_sets = fine.unused_sets;
        marks =
            queue-changes k fine.marks id q.waiters o.waiters
            (wake (waiter pid calls.GetPid) (replies.Num 0) ∷ [])
            (λ p. ap (wait_in p) there) (one-left pid q.waiters calls.GetPid (replies.Num 0) among once) j
            (λ p. ap (wait_in p) (get-put-same k.queues id o)) others (λ i. refl)
            (λ p. left-marks k refl calls.GetPid (replies.Num 0) p) kept fine.marks.sets_once;
      }

  left-set : (id : ℕ) (s : Awaited SemaphoreSet) → get k.sets id ≡ Some s
      → is_parked_at pid (Sem id) a.marks.parked ≡ true
      → Fine (let left = with_set k id (without_waiter pid s) in record left {
        processes = change_living left.processes pid after_reply;
      })
  left-set id s there parked =
      let ps : Numbered Process = change_living k.processes pid after_reply
      in let o : Awaited SemaphoreSet = without_waiter pid s
      in let once : WaitOnce s.waiters = all-get (λ w. WaitOnce w.waiters) k.sets id s fine.marks.sets_once there
      in let now : wait_of pid s.waiters ≡ mark_at pid (Sem id) (mark_in k.processes pid) =
      ap (wait_in pid) (sym there) ∙ fine.marks.sets id pid
      in let among : is_some (wait_of pid s.waiters) ≡ true =
      ap is_some now
      ∙ (ap (λ (m : Option Call). is_some (mark_at pid (Sem id) m)) (ap mark_of lives)
      ∙ parked-there pid (Sem id) a.marks.parked parked)
      in let j : Kernel = record (with_set k id o) { processes = ps }
      in let others : (i : ℕ) → i ≢ id → get j.sets i ≡ get k.sets i = λ i ne. get-put-other k.sets id o i ne
      in let kept : AllValues (λ w. WaitOnce w.waiters) j.sets =
      all-put (λ w. WaitOnce w.waiters) k.sets id o fine.marks.sets_once (once-left pid s.waiters once)
      in record {
        people = left-people k refl;
        unused_processes = λ n h. left-there k refl n (fine.unused_processes n h);
        unused_queues = fine.unused_queues;
        unused_sets =
            λ n h.
            others n
            (λ same.
            some-isnt-none s (get k.sets id) there
            (subst (λ (i : ℕ). get k.sets i ≡ None) same (fine.unused_sets n h)))
            ∙ fine.unused_sets n h;
        marks =
            set-changes k fine.marks id s.waiters o.waiters
            (wake (waiter pid calls.GetPid) (replies.Num 0) ∷ [])
            (λ p. ap (wait_in p) there) (one-left pid s.waiters calls.GetPid (replies.Num 0) among once) j
            (λ p. ap (wait_in p) (get-put-same k.sets id o)) others (λ i. refl)
            (λ p. left-marks k refl calls.GetPid (replies.Num 0) p) fine.marks.queues_once kept;
      }

  -- a process that isn't at an object's name leaves no waiter behind
  left-alone : ((q : ℕ) → WaitsAlike q (mark_in (change_living k.processes pid after_reply) q) (mark_in k.processes q))
      → Fine (left_kernel k)
  left-alone alike =
      record {
        people = left-people k refl;
        unused_processes = λ n h. left-there k refl n (fine.unused_processes n h);
        unused_queues = fine.unused_queues;
        unused_sets = fine.unused_sets;
        marks =
            processes-change k fine.marks (left_kernel k) (λ i p. refl) (λ i p. refl) alike fine.marks.queues_once
            fine.marks.sets_once;
      }

  own-alike : (own : ℕ) → is_parked_at pid (Proc own) a.marks.parked ≡ true → (q : ℕ)
      → WaitsAlike q (mark_in (change_living k.processes pid after_reply) q) (mark_in k.processes q)
  own-alike own parked q =
      alike-on q _ (if nat_eq pid q then None else mark_in k.processes q) (mark_in k.processes q)
      (alike-from q _ _ (mark-replied k.processes pid q)) (by_test (nat_eq pid q) refl)
    where
      by_test : (b : Bool) → nat_eq pid q ≡ b
          → WaitsAlike q (if b then None else mark_in k.processes q) (mark_in k.processes q)
      by_test false same = alike-self q (mark_in k.processes q)
      by_test true same =
          subst (λ (i : ℕ). WaitsAlike i None (mark_in k.processes i)) (same-from-nat_eq pid q same)
          (subst (λ (m : Option Call). WaitsAlike pid None m) (sym (ap mark_of lives))
          (waits-nowhere pid own a.marks.parked parked))

  -- an object that isn't there has nobody who waits at it
  absent-queue : (id : ℕ) → get k.queues id ≡ None → is_parked_at pid (Msg id) a.marks.parked ≡ true → ⊥
  absent-queue id none parked =
      false≢true
      (ap is_some (sym (ap (wait_in pid) none) ∙ fine.marks.queues id pid)
      ∙ (ap (λ (m : Option Call). is_some (mark_at pid (Msg id) m)) (ap mark_of lives)
      ∙ parked-there pid (Msg id) a.marks.parked parked))

  absent-set : (id : ℕ) → get k.sets id ≡ None → is_parked_at pid (Sem id) a.marks.parked ≡ true → ⊥
  absent-set id none parked =
      false≢true
      (ap is_some (sym (ap (wait_in pid) none) ∙ fine.marks.sets id pid)
      ∙ (ap (λ (m : Option Call). is_some (mark_at pid (Sem id) m)) (ap mark_of lives)
      ∙ parked-there pid (Sem id) a.marks.parked parked))

  left-queue-at : (id : ℕ) (o : Option (Awaited Queue)) → get k.queues id ≡ o
      → is_parked_at pid (Msg id) a.marks.parked ≡ true
      → Fine (let left = queue_without k id pid o in record left {
        processes = change_living left.processes pid after_reply;
      })
  left-queue-at id None there parked = absurd (absent-queue id there parked)
  left-queue-at id (Some q) there parked = left-queue id q there parked

  left-set-at : (id : ℕ) (o : Option (Awaited SemaphoreSet)) → get k.sets id ≡ o
      → is_parked_at pid (Sem id) a.marks.parked ≡ true
      → Fine (let left = set_without k id pid o in record left {
        processes = change_living left.processes pid after_reply;
      })
  left-set-at id None there parked = absurd (absent-set id there parked)
  left-set-at id (Some s) there parked = left-set id s there parked

  pub withdrawal-fine : (name : Name) → is_parked_at pid name a.marks.parked ≡ true → Fine (withdrawn k pid name)
  withdrawal-fine (Proc own) parked = left-alone (own-alike own parked)
  withdrawal-fine (Msg id) parked = left-queue-at id (get k.queues id) refl parked
  withdrawal-fine (Sem id) parked = left-set-at id (get k.sets id) refl parked

-- Entries and histories.

abbrev LeadsFine : Option Successor → Type 0
LeadsFine None = Unit {0}
LeadsFine (Some s) = Fine s.kernel

leads-if : (b : Bool) (x : Option Successor) → (b ≡ true → LeadsFine x) → LeadsFine (if b then x else None)
leads-if true x h = h refl
leads-if false x h = tt

leads-by : (pid : ℕ) (call : Call) (o : Option Effect) → FineIf pid call o → LeadsFine (outcome_of pid call o)
leads-by pid call None h = tt
leads-by pid call (Some e) h = h

not-parked : (o : Option Call) → not (is_some o) ≡ true → o ≡ None
not-parked None h = refl
not-parked (Some call) h = absurd (false≢true h)

leads-living : (k : Kernel) → Fine k → (pid : ℕ) (call : Call) (n : ℕ) (o : Option Alive) → living_at k pid ≡ o
    → LeadsFine (transition_by k pid call n o)
leads-living k fine pid call n None lives = tt
leads-living k fine pid (calls.Withdraw name) n (Some a) lives =
    leads-if (may_withdraw pid a name) (Some (withdraw k pid name))
    (λ may.
    withdrawal-fine k fine pid a lives name
    (and_parts a.marks.struck (is_parked_at pid name a.marks.parked) may).1)
leads-living k fine pid call n (Some a) lives =
    leads-if (may_make a call) (outcome_of pid call (effect k (waiter pid call) a n))
    (λ may.
    leads-by pid call (effect k (waiter pid call) a n)
    (call-fine k fine pid a
    (record {
      lives = lives;
      unparked =
          not-parked a.marks.parked
          (and_parts (not (is_some a.marks.parked)) (plain.may_make (plain_alive a) call) may).0;
    }) call n))

-- each entry keeps it
pub entry-fine : (k : Kernel) → Fine k → (pid : ℕ) (call : Call) (n : ℕ) (s : Successor)
    → transition k pid call n ≡ Some s → Fine s.kernel
entry-fine k fine pid call n s is = subst LeadsFine is (leads-living k fine pid call n (living_at k pid) refl)

fine-along : (h : List Entry) (k last : Kernel) → Fine k → Replays k h last → Fine last
fine-along [] k last fine r = subst Fine r fine
fine-along (e ∷ es) k last fine r =
    fine-along es r.next last (entry-fine k fine e.pid e.call _ (successor r.next e.outcome) r.step) r.rest

-- the opening kernel has one process, which isn't parked and has no children

opening-other : (pid : ℕ) → pid ≢ 1 → get opening.processes pid ≡ None
opening-other pid ne = get-later (1, Living new_alive) [] pid ne

opening-living : (pid : ℕ) (a : Alive) → living_in opening.processes pid ≡ Some a → new_alive ≡ a
opening-living pid a h =
    elim (cases_eq pid 1) [
      | inl same ↦
          same-some new_alive a (subst (λ (i : ℕ). living_in opening.processes i ≡ Some a) same h)
      | inr ne ↦
          some-isnt-none a (living_in opening.processes pid) h (ap (option_and_then alive_in) (opening-other pid ne))
    ]

-- nobody is parked in it
pub opening-unmarked : (pid : ℕ) → mark_in opening.processes pid ≡ None
opening-unmarked pid =
    elim (cases_eq pid 1) [
      | inl same ↦ subst (λ (i : ℕ). mark_in opening.processes i ≡ None) (sym same) refl
      | inr ne ↦ ap (λ (o : Option Process). mark_of (option_and_then alive_in o)) (opening-other pid ne)
    ]

-- the opening kernel is
pub opening-fine : Fine opening
opening-fine =
    record {
      people = record {
        rising = rising-put [] 1 (Living new_alive) (rising-nothing Process);
        ended =
            λ pid a h.
            subst (λ (b : Alive). AllOver opening.processes b.row.family.ended) (opening-living pid a h) tt;
        apart = λ pid a h. subst (λ (b : Alive). lists b.row.family pid ≡ false) (opening-living pid a h) refl;
        patient =
            λ pid a h.
            subst (λ (b : Alive). FindsNothing b) (opening-living pid a h)
            (λ child nohang g. not-some (calls.WaitPid child nohang) g);
      };
      unused_processes =
          λ n h.
          opening-other n
          (λ same. true≢false (subst (λ (i : ℕ). is_used opening.used_processes i ≡ false) same h));
      unused_queues = λ n h. refl;
      unused_sets = λ n h. refl;
      marks = record {
        queues = λ id pid. sym (ap (mark_at pid (Msg id)) (opening-unmarked pid));
        sets = λ id pid. sym (ap (mark_at pid (Sem id)) (opening-unmarked pid));
        queues_once = tt;
        sets_once = tt;
      };
    }

-- every kernel that a legal history leads to
pub reachable-fine : (h : List Entry) (k : Kernel) → Replays opening h k → Fine k
reachable-fine h k r = fine-along h opening k opening-fine r

-- so its marks are waits
pub reachable-marks : ReachableMarksAreWaits
reachable-marks h k r =
    (let fine : Fine k = fine-along h opening k opening-fine r in fine.marks)

-- and who waits for children in it finds nothing
pub reachable-patience : ReachableWaitsFindNothing
reachable-patience h k r pid a child nohang lives parked =
    (let fine : Fine k = fine-along h opening k opening-fine r
    in fine.people.patient pid a lives child nohang parked)
