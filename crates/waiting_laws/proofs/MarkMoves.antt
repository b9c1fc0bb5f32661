-- How an entry changes the marks of processes.
use Rattle.std.proofs.Common.{◌≡◌, ◌≢◌, ◌∙◌, ℕ, Bool, true, false, ◌&&◌, ◌||◌, nat_eq, List, [], ◌∷◌, map, Option, Some, None, Result, Ok, Err, is_some, refl, ap, sym, subst, inl, inr}
use Rattle.std.specs.Prelude.{if◌then◌else◌, fold, ◌%◌}
use Rattle.std.specs.Option.{option_and_then}
use Rattle.std.proofs.lemmas.Bool.{false≢true, cases_eq}
use Rattle.pico_base.specs.declared.call.Call.{Call}
use Rattle.pico_base.specs.declared.call.Call.TheVariants as calls
use Rattle.pico_base.specs.declared.numbers.Name.{Name}
use Rattle.pico_base.specs.declared.numbers.Name.TheVariants.{Proc, Msg, Sem}
use Rattle.pico_base.specs.declared.reply.Ending.{Ending}
use Rattle.pico_base.specs.declared.reply.Ending.TheVariants as endings
use Rattle.pico_base.specs.declared.reply.Errno.{Errno}
use Rattle.pico_base.specs.declared.reply.Reply.{Reply}
use Rattle.pico_base.specs.declared.reply.Reply.TheVariants as replies
use Rattle.pico_base.specs.declared.signal.SigArg.{SigArg}
use Rattle.pico_base.specs.declared.signal.SigArg.TheVariants.{Zero, Is, Bad}
use Rattle.number_maps.specs.Maps.{Numbered, get, put, without}
use Rattle.kernel_model.specs.Queue.{Queue}
use Rattle.kernel_model.specs.QueueCalls.{unbind}
use Rattle.number_maps.proofs.LookUps.{get-put-same, get-put-other}
use Rattle.number_maps.proofs.Order.{eq-same, eq-other, same-from-nat_eq}
use Rattle.kernel_model.specs.Effect.{is_fresh}
use Rattle.kernel_model.specs.Row.{EndedChild, Family, Waited, Found, NotYet, NoChild, family_after_end, ignores_children, wait}
use Rattle.kernel_model.specs.SemaphoreSet.{SemaphoreSet, new_set}
use Rattle.kernel_model.specs.Signals.{Signals, act_on, raise, with_mask}
use Rattle.waiting_model.specs.declared.callers.Waiting.{Waiting}
use Rattle.waiting_model.specs.declared.callers.Wake.{Wake}
use Rattle.waiting_model.specs.Waiters.{Awaited, Carried, Try, carry_out, waiter, wakes_at_removal}
use Rattle.waiting_model.specs.Queue.{carry_out_on_queue, try_queue}
use Rattle.waiting_model.specs.SemaphoreSet.{carry_out_on_set, carry_out_on_set_by, try_set}
use Rattle.waiting_model.specs.Marks.{Alive, after_reply, awaited_children, raise_by_other, spent, with_signals_of}
use Rattle.waiting_model.specs.Kernel.{Kernel, Process, Living, Ended, Gone, Parent, alive_in, change_living, living_at, living_in, parent_in, wake_one, with_alive}
use Rattle.waiting_model.specs.Effect.{Effect, on_named, reply_with, woken_pair}
use Rattle.waiting_model.specs.ProcessCalls.{action_effect, bury, bury_all, bury_found, end_process, end_under, fork_effect, found_after_end, kill, kill_at, new_child, parent_after_end, parent_after_fork, parent_after_wait, process_after_end, reap_child, signal_living, wakes_of_parent, wakes_under}
use Rattle.waiting_model.specs.QueueCalls.{get_queue, get_queue_at, new_queue, queue_effect, remove_queue}
use Rattle.waiting_model.specs.SetCalls.{get_set, get_set_at, new_set_of, remove_set, set_effect}
use Rattle.waiting_model.specs.Transition.{Successor, after_call, allowance_after, effect, finish_call, set_without, queue_without, transition, unparked}
use Rattle.waiting_laws.specs.Parked.{mark_of, mark_in}
use Rattle.waiting_laws.specs.Woken.{woken_in}
use Rattle.waiting_laws.specs.MarkMoves.{own_mark, MovesMarks, ReachableEntriesMoveMarks}
use Rattle.waiting_laws.proofs.Options.{not-none, same-some, some-isnt-none}
use Rattle.waiting_laws.proofs.Waits.{is_woken}
use Rattle.waiting_laws.proofs.Carrying.{parks-by}
use Rattle.waiting_laws.proofs.People.{AllOver, IsOver, Moves, OverFound, People, ParentView, all-over-put-over, bury-moves, living-bury, living-changed, living-put-other, mark-replied, over-after-end, over-found, over-isnt-living, over-process, parent-parked, parent-view, parked_after, over-put-living, wait-is-over}
use Rattle.waiting_laws.proofs.Parked.{marks-woken}
use Rattle.waiting_laws.proofs.Marked.{Acts, Fine, mark-put, parked-by}
use Rattle.waiting_laws.proofs.Entries.{reachable-fine, unused}
use Rattle.waiting_laws.proofs.Woken.{acts-by, allowance-marks, finish-marks, pairs-woken}
use Rattle.waiting_laws.proofs.Steps.{Makes, makes, Leaves, leaves}

-- the same marks
abbrev Same : Numbered Process → Numbered Process → Type 0
Same ps qs = (q : ℕ) → mark_in qs q ≡ mark_in ps q

same-on : (ps qs rs : Numbered Process) → Same ps qs → Same qs rs → Same ps rs
same-on ps qs rs h g q = g q ∙ h q

-- somebody without a mark in the place of somebody without one
put-unmarked : (ps : Numbered Process) (n : ℕ) (x : Process) → mark_of (alive_in x) ≡ None → mark_in ps n ≡ None
    → Same ps (put ps n x)
put-unmarked ps n x none was q =
    elim (cases_eq q n) [
      | inl same ↦
          subst (λ (i : ℕ). mark_in (put ps n x) i ≡ mark_in ps i) (sym same)
          (ap (λ (o : Option Process). mark_of (option_and_then alive_in o)) (get-put-same ps n x) ∙ (none ∙ sym was))
      | inr ne ↦ ap (λ (o : Option Process). mark_of (option_and_then alive_in o)) (get-put-other ps n x q ne)
    ]

put-marked-same : (ps : Numbered Process) (n : ℕ) (a b : Alive) → living_in ps n ≡ Some a
    → b.marks.parked ≡ a.marks.parked → Same ps (put ps n (Living b))
put-marked-same ps n a b lives marks q = (mark-put ps n a b lives marks q).0

over-unmarked : (ps : Numbered Process) (n : ℕ) → IsOver (get ps n) → mark_in ps n ≡ None
over-unmarked ps n h = ap mark_of (over-isnt-living (get ps n) h)

bury-same : (ps : Numbered Process) (es : List EndedChild) → AllOver ps es → Same ps (fold bury ps es)
bury-same ps [] all = λ q. refl
bury-same ps (e ∷ es) all =
    same-on ps (put ps e.pid Gone) (fold bury (put ps e.pid Gone) es)
    (put-unmarked ps e.pid Gone refl (over-unmarked ps e.pid all.0))
    (bury-same (put ps e.pid Gone) es (all-over-put-over ps e.pid Gone tt es all.1))

unmarked-ending : (b : Bool) (ending : Ending) → mark_of (alive_in (process_after_end b ending)) ≡ None
unmarked-ending true ending = refl
unmarked-ending false ending = refl

found-same : (ps : Numbered Process) (w : Waited) → OverFound ps w → Same ps (bury_found ps w)
found-same ps (Found child ending) h = put-unmarked ps child Gone refl (over-unmarked ps child h)
found-same ps NotYet h = λ q. refl
found-same ps NoChild h = λ q. refl

-- whoever is woken has none any more
abbrev Exact : Numbered Process → Numbered Process → List Wake → Type 0
Exact ps qs wakes = (q : ℕ) → mark_in qs q ≡ (if is_woken q wakes then None else mark_in ps q)

-- The parent of a process that ends.

parent-here : (p : ℕ) (w : Waited) (m : Option Call)
    → parked_after w m ≡ (if is_woken p (wakes_of_parent p w) then None else m)
parent-here p NotYet m = refl
parent-here p (Found child ending) m = sym (ap (λ (b : Bool). (if b || false then None else m)) (eq-same p))
parent-here p NoChild m = sym (ap (λ (b : Bool). (if b || false then None else m)) (eq-same p))

parent-elsewhere : (p q : ℕ) (w : Waited) → q ≢ p → is_woken q (wakes_of_parent p w) ≡ false
parent-elsewhere p q NotYet ne = refl
parent-elsewhere p q (Found child ending) ne = ap (λ (b : Bool). b || false) (eq-other q p ne)
parent-elsewhere p q NoChild ne = ap (λ (b : Bool). b || false) (eq-other q p ne)

parent-exact : (bs : Numbered Process) → People bs → (pid : ℕ) (a : Alive) (ending : Ending) → living_in bs pid ≡ Some a
    → a.marks.parked ≡ None → (p : Parent) → living_in bs p.pid ≡ Some p.alive
    → Exact bs (end_under bs pid ending (Some p)) (wakes_under pid ending (Some p))
parent-exact bs people pid a ending lives unparked p parent q =
    let b : Alive = p.alive
    in let ignored : Bool = ignores_children b.row
    in let x : Process = process_after_end ignored ending
    in let f : Family = family_after_end b.row.family pid ending ignored
    in let w : Waited = found_after_end b pid ending
    in let over : IsOver (Some x) = over-process ignored ending
    in let ps1 : Numbered Process = put bs pid x
    in let same1 : Same bs ps1 = put-unmarked bs pid x (unmarked-ending ignored ending) (ap mark_of lives ∙ unparked)
    in let here : IsOver (get ps1 pid) = subst (λ (o : Option Process). IsOver o) (sym (get-put-same bs pid x)) over
    in let all : AllOver ps1 f.ended =
    over-after-end ps1 b.row.family pid ending ignored
    (all-over-put-over bs pid x over b.row.family.ended (people.ended p.pid b parent)) here
    in let found : OverFound ps1 w = over-found ps1 f (awaited_children b.marks.parked) all
    in let ps2 : Numbered Process = bury_found ps1 w
    in let same2 : Same bs ps2 = same-on bs ps1 ps2 same1 (found-same ps1 w found)
    in let last : Process = Living (parent_after_end b pid ending)
    in elim (cases_eq q p.pid) [
      | inl is ↦
          subst
          (λ (i : ℕ).
          mark_in (put ps2 p.pid last) i
          ≡ (if is_woken i (wakes_of_parent p.pid w) then None else mark_in bs i))
          (sym is)
          (ap (λ (o : Option Process). mark_of (option_and_then alive_in o)) (get-put-same ps2 p.pid last)
          ∙ (parent-parked b pid ending
          ∙ (parent-here p.pid w b.marks.parked
          ∙ ap (λ (m : Option Call). (if is_woken p.pid (wakes_of_parent p.pid w) then None else m))
          (sym (ap mark_of parent)))))
      | inr ne ↦
          ap (λ (o : Option Process). mark_of (option_and_then alive_in o)) (get-put-other ps2 p.pid last q ne)
          ∙ (same2 q
          ∙ sym
          (ap (λ (c : Bool). (if c then None else mark_in bs q)) (parent-elsewhere p.pid q w ne)))
    ]

ends-exact : (bs : Numbered Process) → People bs → (pid : ℕ) (a : Alive) (ending : Ending) → living_in bs pid ≡ Some a
    → a.marks.parked ≡ None → (o : Option Parent)
    → ((p : Parent) → o ≡ Some p → living_in bs p.pid ≡ Some p.alive)
    → Exact bs (end_under bs pid ending o) (wakes_under pid ending o)
ends-exact bs people pid a ending lives unparked None parent =
    put-unmarked bs pid Gone refl (ap mark_of lives ∙ unparked)
ends-exact bs people pid a ending lives unparked (Some p) parent =
    parent-exact bs people pid a ending lives unparked p (parent p refl)

-- a parent lives
pub parent-of : (ps : Numbered Process) (child : ℕ) (o : Option Parent) → ParentView ps child o → (p : Parent)
    → o ≡ Some p
    → living_in ps p.pid ≡ Some p.alive
parent-of ps child None view p is = some-isnt-none p None is refl
parent-of ps child (Some r) view p is =
    subst (λ (x : Parent). living_in ps x.pid ≡ Some x.alive) (same-some r p is)
    (ap (option_and_then alive_in) view.0)

-- Effects.

pub record ExactEffect (k : Kernel) (e : Effect) : Type 0 where
  pub marks : Exact k.processes e.kernel.processes e.wakes
  pub parks : e.own ≡ None → e.kernel.processes ≡ k.processes

-- such is the effect, if there is one at all
abbrev pub ExactIf : Kernel → Option Effect → Type 0
ExactIf k None = Unit {0}
ExactIf k (Some e) = ExactEffect k e

-- a reply that wakes nobody, beside other processes with the same marks
replying-exact : (k : Kernel) (e : Effect) (reply : Reply) → e.own ≡ Some reply → e.wakes ≡ []
    → Same k.processes e.kernel.processes → ExactEffect k e
replying-exact k e reply own none same =
    record {
      marks = λ q. same q ∙ ap (λ (ws : List Wake). (if is_woken q ws then None else mark_in k.processes q)) (sym none);
      parks = λ h. some-isnt-none reply e.own own h;
    }

exact-test : (k : Kernel) (b : Bool) (e : Effect) → (b ≡ true → ExactEffect k e)
    → ExactIf k (if b then Some e else None)
exact-test k true e h = h refl
exact-test k false e h = tt

exact-choice : (k : Kernel) (b : Bool) (e f : Effect) → ExactEffect k e → ExactEffect k f
    → ExactEffect k (if b then e else f)
exact-choice k true e f h g = h
exact-choice k false e f h g = g

exact-either : (k : Kernel) (b : Bool) (x y : Option Effect) → ExactIf k x → ExactIf k y
    → ExactIf k (if b then x else y)
exact-either k true x y h g = h
exact-either k false x y h g = g

module _ (k : Kernel) (fine : Fine k) (pid : ℕ) (a : Alive) (acts : Acts k pid a) where
  -- a reply that leaves the processes
  exact-look : (e : Effect) (reply : Reply) → e.own ≡ Some reply → e.wakes ≡ [] → e.kernel.processes ≡ k.processes
      → ExactEffect k e
  exact-look e reply own none same =
      replying-exact k e reply own none (λ q. ap (λ (ps : Numbered Process). mark_in ps q) same)

  exact-end : (ending : Ending) → ExactEffect k (end_process k pid a ending)
  exact-end ending =
      let ps : Numbered Process = k.processes
      in let bs : Numbered Process = bury_all ps a.row.family
      in let over : AllOver ps a.row.family.ended = fine.people.ended pid a acts.lives
      in let buried : Moves ps bs = bury-moves ps fine.people a.row.family.ended over
      in let same : Same ps bs = bury-same ps a.row.family.ended over
      in let exact : Exact bs (end_under bs pid ending (parent_in pid ps)) (wakes_under pid ending (parent_in pid ps)) =
      ends-exact bs buried.people pid a ending (living-bury ps a.row.family.ended over pid a acts.lives)
      acts.unparked (parent_in pid ps)
      (λ p is.
      living-bury ps a.row.family.ended over p.pid p.alive
      (parent-of ps pid (parent_in pid ps) (parent-view pid ps fine.people.rising) p is))
      in record {
        marks =
            λ q.
            exact q
            ∙ ap
            (λ (m : Option Call). (if is_woken q (wakes_under pid ending (parent_in pid ps)) then None else m))
            (same q);
        parks = λ h. not-none replies.Ended h;
      }

  exact-fork : (n : ℕ) → ExactIf k (fork_effect k pid a n)
  exact-fork n =
      exact-test k (is_fresh k.used_processes n) _
      (λ fresh.
      (let none : get k.processes n ≡ None = fine.unused_processes n (unused k.used_processes n fresh)
      in let ps : Numbered Process = put k.processes n (Living (new_child a))
      in let born : Same k.processes ps =
      put-unmarked k.processes n (Living (new_child a)) refl
      (ap (λ (o : Option Process). mark_of (option_and_then alive_in o)) none)
      in let differs : pid ≢ n =
      λ same.
      some-isnt-none a (living_at k pid) acts.lives
      (ap (option_and_then alive_in) (subst (λ (i : ℕ). get k.processes i ≡ None) (sym same) none))
      in let lives : living_in ps pid ≡ Some a =
      living-put-other k.processes n (Living (new_child a)) pid differs ∙ acts.lives
      in replying-exact k _ (replies.Num n) refl refl
      (same-on k.processes ps (put ps pid (Living (parent_after_fork a n))) born
      (put-marked-same ps pid a (parent_after_fork a n) lives refl))))

  exact-reaped : (child : Option ℕ) (nohang : Bool) (w : Waited) → OverFound k.processes w
      → ExactEffect k (reap_child k pid a nohang w)
  exact-reaped child nohang (Found c ending) over =
      let ps : Numbered Process = put k.processes pid (Living (parent_after_wait a c))
      in replying-exact k _ (replies.Child c ending) refl refl
      (same-on k.processes ps (put ps c Gone)
      (put-marked-same k.processes pid a (parent_after_wait a c) acts.lives refl)
      (put-unmarked ps c Gone refl
      (over-unmarked ps c
      (over-put-living k.processes pid (Living (parent_after_wait a c)) c a acts.lives over))))
  exact-reaped child true NotYet over = exact-look _ (replies.Num 0) refl refl refl
  exact-reaped child false NotYet over = record { marks = λ q. refl; parks = λ h. refl }
  exact-reaped child nohang NoChild over = exact-look _ _ refl refl refl

  exact-signals : (e : Effect) (reply : Reply) (s : Signals) → e.own ≡ Some reply → e.wakes ≡ []
      → e.kernel.processes ≡ put k.processes pid (Living (with_signals_of a s)) → ExactEffect k e
  exact-signals e reply s own none is =
      replying-exact k e reply own none
      (subst (λ (qs : Numbered Process). Same k.processes qs) (sym is)
      (put-marked-same k.processes pid a (with_signals_of a s) acts.lives refl))

  exact-acted : (r : Result Signals Errno) → ExactEffect k (action_effect k pid a r)
  exact-acted (Ok s) = exact-signals _ (replies.Num 0) s refl refl refl
  exact-acted (Err e) = exact-look _ (replies.Fail e) refl refl refl

  exact-struck : (target : ℕ) (t : Alive) → living_at k target ≡ Some t → (s : Signals) (u : Alive)
      → u.marks.parked ≡ t.marks.parked → (b : Bool)
      → ExactEffect k (reply_with (if b then with_alive k target (with_signals_of t s) else with_alive k target u) 0)
  exact-struck target t lives s u marks true =
      replying-exact k _ (replies.Num 0) refl refl
      (put-marked-same k.processes target t (with_signals_of t s) lives refl)
  exact-struck target t lives s u marks false =
      replying-exact k _ (replies.Num 0) refl refl (put-marked-same k.processes target t u lives marks)

  exact-signalled : (target : ℕ) (t : Alive) → living_at k target ≡ Some t → (sig : SigArg)
      → ExactEffect k (signal_living k pid target t sig)
  exact-signalled target t lives Zero = exact-look _ (replies.Num 0) refl refl refl
  exact-signalled target t lives Bad = exact-look _ _ refl refl refl
  exact-signalled target t lives (Is g) =
      exact-struck target t lives (raise t.row.signals g) (raise_by_other t g) refl (nat_eq pid target)

  exact-killed-at : (target : ℕ) (sig : SigArg) (o : Option Process) → get k.processes target ≡ o
      → ExactEffect k (kill_at k pid target sig o)
  exact-killed-at target sig None there = exact-look _ _ refl refl refl
  exact-killed-at target sig (Some Gone) there = exact-look _ _ refl refl refl
  exact-killed-at target sig (Some (Ended ending)) there = exact-look _ _ refl refl refl
  exact-killed-at target sig (Some (Living t)) there =
      exact-signalled target t (ap (option_and_then alive_in) there) sig

  exact-killed : (target : ℕ) (sig : SigArg) → ExactEffect k (kill k pid target sig)
  exact-killed target Bad = exact-look _ _ refl refl refl
  exact-killed target Zero = exact-killed-at target Zero (get k.processes target) refl
  exact-killed target (Is g) = exact-killed-at target (Is g) (get k.processes target) refl

  exact-made-queue : (keys : Numbered ℕ) (n : ℕ) → ExactIf k (new_queue k keys n)
  exact-made-queue keys n =
      exact-test k (is_fresh k.used_queues n) _ (λ fresh. exact-look _ (replies.Num n) refl refl refl)

  exact-got-queue : (key : ℕ) (create excl : Bool) (n : ℕ) (o : Option ℕ)
      → ExactIf k (get_queue_at k key create excl n o)
  exact-got-queue key create excl n (Some id) =
      exact-choice k (create && excl) _ _ (exact-look _ _ refl refl refl) (exact-look _ _ refl refl refl)
  exact-got-queue key create excl n None =
      exact-either k create _ _ (exact-made-queue (put k.queue_keys key n) n) (exact-look _ _ refl refl refl)

  exact-queue : (key : Option ℕ) (create excl : Bool) (n : ℕ) → ExactIf k (get_queue k key create excl n)
  exact-queue None create excl n = exact-made-queue k.queue_keys n
  exact-queue (Some key) create excl n = exact-got-queue key create excl n (get k.queue_keys key)

  exact-made-set : (keys : Numbered ℕ) (n : ℕ) (r : Result SemaphoreSet Errno) → ExactIf k (new_set_of k keys n r)
  exact-made-set keys n (Err e) = exact-look _ _ refl refl refl
  exact-made-set keys n (Ok s) =
      exact-test k (is_fresh k.used_sets n) _ (λ fresh. exact-look _ (replies.Num n) refl refl refl)

  exact-got-set : (key count : ℕ) (create excl : Bool) (n : ℕ) (o : Option ℕ)
      → ExactIf k (get_set_at k key count create excl n o)
  exact-got-set key count create excl n (Some id) =
      exact-choice k (create && excl) _ _ (exact-look _ _ refl refl refl)
      (exact-choice k _ _ _ (exact-look _ _ refl refl refl) (exact-look _ _ refl refl refl))
  exact-got-set key count create excl n None =
      exact-either k create _ _ (exact-made-set (put k.set_keys key n) n (new_set count))
      (exact-look _ _ refl refl refl)

  exact-set : (key : Option ℕ) (count : ℕ) (create excl : Bool) (n : ℕ)
      → ExactIf k (get_set k key count create excl n)
  exact-set None count create excl n = exact-made-set k.set_keys n (new_set count)
  exact-set (Some key) count create excl n = exact-got-set key count create excl n (get k.set_keys key)

  -- those who are woken, and nobody where the call parks
  exact-waking : (mid : Kernel) (own : Option Reply) (wakes : List Wake) → mid.processes ≡ k.processes
      → (own ≡ None → wakes ≡ [])
      → ExactEffect k (let e : Effect = record {
        kernel = record mid { processes = fold wake_one mid.processes wakes };
        own = own;
        wakes = wakes;
      } in e)
  exact-waking mid own wakes same none =
      record {
        marks =
            λ q.
            marks-woken mid.processes wakes q
            ∙ ap (λ (ps : Numbered Process). (if is_woken q wakes then None else mark_in ps q)) same;
        parks = λ h. ap (λ (ws : List Wake). fold wake_one mid.processes ws) (none h) ∙ same;
      }

  parks-alone : {T : Type 0} (try : Try T) (o : Awaited T) (who : Waiting)
      → (let c : Carried T = carry_out try o who in c.own ≡ None → c.wakes ≡ [])
  parks-alone {T} try o who h = ap (λ (c : Carried T). c.wakes) (parks-by try o who (try o.state who.pid who.call) h)

  parks-set : (s : Awaited SemaphoreSet) (who : Waiting) (call : Call)
      → (let c : Carried SemaphoreSet = carry_out_on_set_by s who call in c.own ≡ None → c.wakes ≡ [])
  parks-set s who (calls.SemGetNcnt id num) h = refl
  parks-set s who (calls.SemGetZcnt id num) h = refl
  parks-set s who call h = parks-alone try_set s who h

  exact-on-queue : (call : Call) (id : ℕ) (o : Option (Awaited Queue))
      → ExactEffect k (on_named k o (λ q. queue_effect k id (carry_out_on_queue q (waiter pid call))))
  exact-on-queue call id None = exact-look _ _ refl refl refl
  exact-on-queue call id (Some q) =
      let c : Carried Queue = carry_out_on_queue q (waiter pid call)
      in exact-waking (record k { queues = put k.queues id c.object }) c.own c.wakes refl
      (parks-alone try_queue q (waiter pid call))

  exact-removed-queue : (id : ℕ) (o : Option (Awaited Queue)) → ExactEffect k (on_named k o (remove_queue k id))
  exact-removed-queue id None = exact-look _ _ refl refl refl
  exact-removed-queue id (Some q) =
      exact-waking (record k { queues = without k.queues id; queue_keys = unbind k.queue_keys id })
      (Some (replies.Num 0))
      (wakes_at_removal q) refl (λ h. not-none (replies.Num 0) h)

  exact-on-set : (call : Call) (id : ℕ) (o : Option (Awaited SemaphoreSet))
      → ExactEffect k (on_named k o (λ s. set_effect k id (carry_out_on_set s (waiter pid call))))
  exact-on-set call id None = exact-look _ _ refl refl refl
  exact-on-set call id (Some s) =
      let c : Carried SemaphoreSet = carry_out_on_set s (waiter pid call)
      in exact-waking (record k { sets = put k.sets id c.object }) c.own c.wakes refl
      (parks-set s (waiter pid call) call)

  exact-removed-set : (id : ℕ) (o : Option (Awaited SemaphoreSet)) → ExactEffect k (on_named k o (remove_set k id))
  exact-removed-set id None = exact-look _ _ refl refl refl
  exact-removed-set id (Some s) =
      exact-waking (record k { sets = without k.sets id; set_keys = unbind k.set_keys id }) (Some (replies.Num 0))
      (wakes_at_removal s) refl (λ h. not-none (replies.Num 0) h)

  pub exact-call : (call : Call) (n : ℕ) → ExactIf k (effect k (waiter pid call) a n)
  exact-call (calls.Fork block) n = exact-fork n
  exact-call (calls.Exit status) n = exact-end (endings.Exited (status % 256))
  exact-call (calls.Killed sig) n = exact-end (endings.Killed sig)
  exact-call calls.GetPid n = exact-look _ _ refl refl refl
  exact-call (calls.Kill target sig) n = exact-killed target sig
  exact-call (calls.SigAction sig act) n = exact-acted (act_on a.row.signals sig act)
  exact-call (calls.SigProcMask how set) n =
      exact-signals _ _ (with_mask a.row.signals how set) refl refl refl
  exact-call calls.SigPending n = exact-look _ _ refl refl refl
  exact-call (calls.Handled sig) n = exact-look _ _ refl refl refl
  exact-call (calls.WaitPid child nohang) n =
      exact-reaped child nohang (wait a.row.family child) (wait-is-over k.processes fine.people pid a acts.lives child)
  exact-call (calls.MsgGet key create excl) n = exact-queue key create excl n
  exact-call (calls.MsgSnd id class text nowait) n =
      exact-on-queue (calls.MsgSnd id class text nowait) id (get k.queues id)
  exact-call (calls.MsgRcv id class size noerror nowait) n =
      exact-on-queue (calls.MsgRcv id class size noerror nowait) id (get k.queues id)
  exact-call (calls.MsgStat id) n = exact-on-queue (calls.MsgStat id) id (get k.queues id)
  exact-call (calls.MsgSet id qbytes) n = exact-on-queue (calls.MsgSet id qbytes) id (get k.queues id)
  exact-call (calls.MsgRmid id) n = exact-removed-queue id (get k.queues id)
  exact-call (calls.SemGet key count create excl) n = exact-set key count create excl n
  exact-call (calls.SemRmid id) n = exact-removed-set id (get k.sets id)
  exact-call (calls.SemOp id steps) n = exact-on-set (calls.SemOp id steps) id (get k.sets id)
  exact-call (calls.SemGetVal id num) n = exact-on-set (calls.SemGetVal id num) id (get k.sets id)
  exact-call (calls.SemGetPid id num) n = exact-on-set (calls.SemGetPid id num) id (get k.sets id)
  exact-call (calls.SemGetNcnt id num) n = exact-on-set (calls.SemGetNcnt id num) id (get k.sets id)
  exact-call (calls.SemGetZcnt id num) n = exact-on-set (calls.SemGetZcnt id num) id (get k.sets id)
  exact-call (calls.SemSetVal id num value) n = exact-on-set (calls.SemSetVal id num value) id (get k.sets id)
  exact-call (calls.SemGetAll id) n = exact-on-set (calls.SemGetAll id) id (get k.sets id)
  exact-call (calls.SemSetAll id values) n = exact-on-set (calls.SemSetAll id values) id (get k.sets id)
  exact-call (calls.Withdraw name) n = tt

-- Entries.

lives-still : (k : Kernel) (pid : ℕ) (o : Option Alive) → living_at k pid ≡ o → is_some o ≡ true
    → is_some (living_in (allowance_after k pid o).processes pid) ≡ true
lives-still k pid None lives h = absurd (false≢true h)
lives-still k pid (Some a) lives h = by_test (is_some a.row.signals.doom)
  where
    by_test : (b : Bool)
        → is_some (living_in (let j : Kernel = (if b then with_alive k pid (spent a) else k) in j.processes) pid) ≡ true
    by_test true =
        ap (λ (o : Option Process). is_some (option_and_then alive_in o))
        (get-put-same k.processes pid (Living (spent a)))
    by_test false = ap is_some lives

finish-parked : (k : Kernel) (pid : ℕ) (call : Call) → is_some (living_at k pid) ≡ true → (q : ℕ)
    → (let j : Kernel = finish_call k pid call None in mark_in j.processes q)
    ≡ (if nat_eq pid q then Some call else mark_in k.processes q)
finish-parked k pid call lives q =
    let first : Kernel = allowance_after k pid (living_at k pid)
    in ap mark_of (living-changed first.processes pid (after_call call None) q)
    ∙ (parked-by (living_in first.processes q) call (nat_eq pid q)
    (λ is.
    subst (λ (i : ℕ). is_some (living_in first.processes i) ≡ true) (same-from-nat_eq pid q is)
    (lives-still k pid (living_at k pid) refl lives))
    ∙ ap (λ (m : Option Call). (if nat_eq pid q then Some call else m))
    (allowance-marks k pid (living_at k pid) refl q))

moves-by : (k : Kernel) (pid : ℕ) (a : Alive) → living_at k pid ≡ Some a → (call : Call) (e : Effect) → ExactEffect k e
    → (own : Option Reply) → e.own ≡ own
    → (q : ℕ) → (let j : Kernel = finish_call e.kernel pid call own in mark_in j.processes q)
    ≡ (if nat_eq pid q then own_mark call own
    else if woken_in q (map woken_pair e.wakes) then None else mark_in k.processes q)
moves-by k pid a lives call e x None is q =
    finish-parked e.kernel pid call
    (ap (λ (ps : Numbered Process). is_some (living_in ps pid)) (x.parks is) ∙ ap is_some lives) q
    ∙ ap (λ (m : Option Call). (if nat_eq pid q then Some call else m))
    (x.marks q ∙ ap (λ (b : Bool). (if b then None else mark_in k.processes q)) (sym (pairs-woken e.wakes q)))
moves-by k pid a lives call e x (Some reply) is q =
    finish-marks e.kernel pid call reply q
    ∙ ap (λ (m : Option Call). (if nat_eq pid q then None else m))
    (x.marks q ∙ ap (λ (b : Bool). (if b then None else mark_in k.processes q)) (sym (pairs-woken e.wakes q)))

of-makes : (k : Kernel) → Fine k → (pid : ℕ) (call : Call) (n : ℕ) (s : Successor) → Makes k pid call n s
    → MovesMarks k pid call s
of-makes k fine pid call n s m =
    let acts : Acts k pid m.alive = acts-by k pid m.alive call m.lives m.may
    in let exact : ExactEffect k m.step = subst (ExactIf k) m.does (exact-call k fine pid m.alive acts call n)
    in subst (λ (t : Successor). MovesMarks k pid call t) m.is
    (moves-by k pid m.alive m.lives call m.step exact m.step.own refl)

-- a withdrawal changes no process but by the caller's marks
pub left-processes : (k : Kernel) (pid : ℕ) (name : Name) → (unparked k pid name).processes ≡ k.processes
left-processes k pid (Proc own) = refl
left-processes k pid (Msg id) = of_queue (get k.queues id)
  where
    of_queue : (o : Option (Awaited Queue)) → (queue_without k id pid o).processes ≡ k.processes
    of_queue None = refl
    of_queue (Some q) = refl
left-processes k pid (Sem id) = of_set (get k.sets id)
  where
    of_set : (o : Option (Awaited SemaphoreSet)) → (set_without k id pid o).processes ≡ k.processes
    of_set None = refl
    of_set (Some s) = refl

of-leaves : (k : Kernel) (pid : ℕ) (name : Name) (s : Successor) → Leaves k pid name s
    → MovesMarks k pid (calls.Withdraw name) s
of-leaves k pid name s l =
    subst (λ (t : Successor). MovesMarks k pid (calls.Withdraw name) t) l.is
    (λ q.
    ap (λ (ps : Numbered Process). mark_in (change_living ps pid after_reply) q) (left-processes k pid name)
    ∙ mark-replied k.processes pid q)

-- each entry
pub entry-moves : (k : Kernel) → Fine k → (pid : ℕ) (call : Call) (n : ℕ) (s : Successor)
    → transition k pid call n ≡ Some s → MovesMarks k pid call s
entry-moves k fine pid (calls.Withdraw name) n s is = of-leaves k pid name s (leaves k pid name n s is)
entry-moves k fine pid call n s is = of-makes k fine pid call n s (makes k pid call n s refl is)

-- behind each legal history
pub reachable-moves : ReachableEntriesMoveMarks
reachable-moves h k r pid call n s is = entry-moves k (reachable-fine h k r) pid call n s is
