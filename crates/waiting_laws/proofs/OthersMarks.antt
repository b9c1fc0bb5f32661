-- What an entry leaves of the marks of others: who isn't woken waits on, is struck still, and may make what it might.
use Rattle.std.proofs.Common.{◌≡◌, ◌≢◌, ◌∙◌, ℕ, Bool, true, false, not, ◌&&◌, ◌||◌, nat_eq, List, [], ◌∷◌, Option, Some, None, Result, Ok, Err, is_some, refl, ap, sym, subst, inl, inr, arith}
use Rattle.std.specs.Prelude.{◌⊎◌, if◌then◌else◌, fold, ◌%◌, nat_le}
use Rattle.std.specs.Option.{option_and_then, option_map}
use Rattle.std.proofs.lemmas.Bool.{cases_eq, and_parts, or_parts, true≢false, false≢true}
use Rattle.pico_base.specs.declared.call.Call.{Call}
use Rattle.pico_base.specs.declared.call.Call.TheVariants as calls
use Rattle.pico_base.specs.declared.numbers.Name.{Name}
use Rattle.pico_base.specs.declared.reply.Ending.{Ending}
use Rattle.pico_base.specs.declared.reply.Ending.TheVariants as endings
use Rattle.pico_base.specs.declared.reply.Errno.{Errno}
use Rattle.pico_base.specs.declared.reply.Reply.{Reply}
use Rattle.pico_base.specs.declared.reply.Reply.TheVariants.{Num}
use Rattle.pico_base.specs.declared.signal.Sig.{Sig}
use Rattle.pico_base.specs.declared.signal.Sig.TheVariants.{Chld}
use Rattle.pico_base.specs.declared.signal.SigArg.{SigArg}
use Rattle.pico_base.specs.declared.signal.SigArg.TheVariants.{Zero, Is, Bad}
use Rattle.pico_base.specs.Signal.{at, put_at}
use Rattle.number_maps.specs.Maps.{Numbered, get, put, without}
use Rattle.number_maps.proofs.LookUps.{get-put-same}
use Rattle.number_maps.proofs.Order.{eq-same, eq-other, same-from-nat_eq}
use Rattle.kernel_model.specs.Effect.{is_fresh}
use Rattle.kernel_model.specs.Queue.{Queue}
use Rattle.kernel_model.specs.QueueCalls.{unbind}
use Rattle.kernel_model.specs.Row as plain_rows
use Rattle.kernel_model.specs.Row.{EndedChild, Family, Waited, Found, NotYet, NoChild, allowance_after_raise, family_after_end, ignores_children, lists, wait}
use Rattle.kernel_model.specs.SemaphoreSet.{SemaphoreSet, new_set}
use Rattle.kernel_model.specs.Signals.{Signals, act_on, arrive, discards, doom_by, is_kill, raise, with_mask}
use Rattle.kernel_model.specs.Transition as plain
use Rattle.kernel_model.specs.Transition.{is_spent, is_doomed_by}
use Rattle.kernel_laws.proofs.Plain.{Of, by_test, from_some, not_some, of_choice, of-some, of-test}
use Rattle.waiting_model.specs.declared.callers.Wake.{Wake}
use Rattle.waiting_model.specs.Waiters.{Awaited, Carried, waiter, wakes_at_removal}
use Rattle.waiting_model.specs.Queue.{carry_out_on_queue}
use Rattle.waiting_model.specs.SemaphoreSet.{carry_out_on_set}
use Rattle.waiting_model.specs.Marks.{Alive, after_reply, awaited_children, plain_alive, raise_by_other, spent, strikes, with_family, with_signals_of}
use Rattle.waiting_model.specs.Kernel.{Kernel, Process, Living, Ended, Gone, Parent, alive_in, change_living, living_at, living_in, parent_in, wake_one, with_alive}
use Rattle.waiting_model.specs.Effect.{Effect, on_named, reply_with}
use Rattle.waiting_model.specs.ProcessCalls.{action_effect, after_waiting, bury, bury_all, bury_found, end_process, end_under, fork_effect, found_after_end, kill, kill_at, new_child, parent_after_end, parent_after_fork, parent_after_wait, process_after_end, raise_chld, reap_child, signal_living, wakes_of_parent, wakes_under}
use Rattle.waiting_model.specs.QueueCalls.{get_queue, get_queue_at, new_queue, queue_effect, remove_queue}
use Rattle.waiting_model.specs.SetCalls.{get_set, get_set_at, new_set_of, remove_set, set_effect, set_size}
use Rattle.waiting_model.specs.Transition.{Successor, after_call, allowance_after, effect, finish_call, may_make, transition}
use Rattle.waiting_laws.specs.Woken.{woken_in}
use Rattle.waiting_laws.proofs.EndLines.{raised-unspent}
use Rattle.waiting_laws.proofs.Entries.{unused}
use Rattle.waiting_laws.proofs.Marked.{Acts, Fine}
use Rattle.waiting_laws.proofs.MarkMoves.{left-processes}
use Rattle.waiting_laws.proofs.People.{AllOver, IsOver, Moves, OverFound, ParentView, all-over-put-over, bury-moves, living-bury, living-bury-found, living-changed, living-put-other, living-put-same, over-after-end, over-found, over-isnt-living, over-process, over-put-living, parent-view, wait-is-over}
use Rattle.waiting_laws.proofs.Steps.{Leaves, Makes, leaves, makes}
use Rattle.waiting_laws.proofs.Waits.{is_woken}
use Rattle.waiting_laws.proofs.Woken.{acts-by, pairs-woken}

-- who isn't woken is parked as before, is struck still, and may make what it might
pub record KeepsMarks (a b : Alive) : Type 0 where
  pub parked : b.marks.parked ≡ a.marks.parked
  pub struck : a.marks.struck ≡ true → b.marks.struck ≡ true
  pub may : (call : Call) → may_make a call ≡ true → may_make b call ≡ true

keeps-self : (a : Alive) → KeepsMarks a a
keeps-self a = record { parked = refl; struck = λ h. h; may = λ call h. h }

keeps-on : (a b c : Alive) → KeepsMarks a b → KeepsMarks b c → KeepsMarks a c
keeps-on a b c h g =
    record {
      parked = g.parked ∙ h.parked;
      struck = λ s. g.struck (h.struck s);
      may = λ call m. g.may call (h.may call m);
    }

-- ---- a signal that another raises

or-left : (x y : Bool) → x ≡ true → (x || y) ≡ true
or-left true y h = refl
or-left false y h = absurd (false≢true h)

-- a doom stays
doom-stays : (s : Signals) (g sig : Sig) → is_doomed_by s.doom sig ≡ true → is_doomed_by (raise s g).doom sig ≡ true
doom-stays s g sig h = by_doom s.doom refl h
  where
    by_doom : (d : Option Sig) → s.doom ≡ d → is_doomed_by d sig ≡ true → is_doomed_by (raise s g).doom sig ≡ true
    by_doom None is doomed = absurd (false≢true doomed)
    by_doom (Some doom) is doomed =
        ap
        (λ (b : Bool).
        (let t : Signals =
        (if b then s
        else if is_kill g then doom_by s g
        else if discards (at s.actions g) g then s
        else if at s.mask g then record s { pending = put_at s.pending g true }
        else arrive s g)
        in is_doomed_by t.doom sig))
        (ap is_some is)
        ∙ (ap (λ (o : Option Sig). is_doomed_by o sig) is ∙ doomed)

may-by : (call : Call) (x y : plain_rows.Alive) → (is_spent x.allowance ≡ false → is_spent y.allowance ≡ false)
    → ((sig : Sig) → is_doomed_by x.row.signals.doom sig ≡ true → is_doomed_by y.row.signals.doom sig ≡ true)
    → plain.may_make x call ≡ true → plain.may_make y call ≡ true
may-by (calls.Killed sig) x y free doomed may = doomed sig may
may-by call x y free doomed may = unspent-may (is_spent x.allowance) (is_spent y.allowance) free may
  where
    unspent-may : (s t : Bool) → (s ≡ false → t ≡ false) → not s ≡ true → not t ≡ true
    unspent-may true t f h = absurd (false≢true h)
    unspent-may false t f h = ap not (f refl)

-- not parked, as before, and as far as its allowance goes
both-may : (p q x y : Bool) → q ≡ p → (x ≡ true → y ≡ true) → (not p && x) ≡ true → (not q && y) ≡ true
both-may p q x y same f h =
    let parts = and_parts (not p) x h
    in ap (λ (b : Bool). not b && y) same ∙ (ap (λ (b : Bool). b && y) parts.0 ∙ f parts.1)

keeps-raised : (a : Alive) (g : Sig) → KeepsMarks a (raise_by_other a g)
keeps-raised a g =
    record {
      parked = refl;
      struck = λ h. or-left a.marks.struck (strikes a.row.signals g) h;
      may = λ call h.
          both-may (is_some a.marks.parked) (is_some a.marks.parked) (plain.may_make (plain_alive a) call)
          (plain.may_make (plain_alive (raise_by_other a g)) call) refl
          (may-by call (plain_alive a) (plain_alive (raise_by_other a g))
          (raised-unspent (is_some a.row.signals.doom) (is_some (raise a.row.signals g).doom) a.marks.allowance)
          (doom-stays a.row.signals g))
          h;
    }

-- another family is no mark
keeps-family : (a : Alive) (f : Family) → KeepsMarks a (with_family a f)
keeps-family a f =
    record {
      parked = refl;
      struck = λ h. h;
      may = λ call h.
          both-may (is_some a.marks.parked) (is_some a.marks.parked) (plain.may_make (plain_alive a) call)
          (plain.may_make (plain_alive (with_family a f)) call) refl
          (may-by call (plain_alive a) (plain_alive (with_family a f)) (λ s. s) (λ sig d. d)) h;
    }

keeps-told : (b : Bool) (a : Alive) (f : Family) → KeepsMarks a (raise_chld b (with_family a f))
keeps-told true a f = keeps-family a f
keeps-told false a f =
    keeps-on a (with_family a f) (raise_by_other (with_family a f) Chld) (keeps-family a f)
    (keeps-raised (with_family a f) Chld)

-- ---- one process of the map

pub record LivesOnIn (ps : Numbered Process) (q : ℕ) (a : Alive) : Type 0 where
  pub alive : Alive
  pub lives : living_in ps q ≡ Some alive
  pub keeps : KeepsMarks a alive

abbrev Goes : Numbered Process → Numbered Process → ℕ → Type 0
Goes ps qs q = (a : Alive) → living_in ps q ≡ Some a → LivesOnIn qs q a

goes-same : (ps qs : Numbered Process) (q : ℕ) → living_in qs q ≡ living_in ps q → Goes ps qs q
goes-same ps qs q same a lives = record { alive = a; lives = same ∙ lives; keeps = keeps-self a }

goes-self : (ps : Numbered Process) (q : ℕ) → Goes ps ps q
goes-self ps q = goes-same ps ps q refl

goes-on : (ps qs rs : Numbered Process) (q : ℕ) → Goes ps qs q → Goes qs rs q → Goes ps rs q
goes-on ps qs rs q h g a lives =
    let x : LivesOnIn qs q a = h a lives
    in let y : LivesOnIn rs q x.alive = g x.alive x.lives
    in record { alive = y.alive; lives = y.lives; keeps = keeps-on a x.alive y.alive x.keeps y.keeps }

goes-put-other : (ps : Numbered Process) (n : ℕ) (x : Process) (q : ℕ) → q ≢ n → Goes ps (put ps n x) q
goes-put-other ps n x q ne = goes-same ps (put ps n x) q (living-put-other ps n x q ne)

-- somebody who doesn't live
goes-put-dead : (ps : Numbered Process) (n : ℕ) (x : Process) (q : ℕ) → living_in ps n ≡ None → Goes ps (put ps n x) q
goes-put-dead ps n x q dead a lives =
    goes-put-other ps n x q
    (λ same. not_some a (sym dead ∙ subst (λ (i : ℕ). living_in ps i ≡ Some a) same lives)) a lives

-- somebody who keeps its marks
goes-put-kept : (ps : Numbered Process) (n : ℕ) (t u : Alive) (q : ℕ) → living_in ps n ≡ Some t → KeepsMarks t u
    → Goes ps (put ps n (Living u)) q
goes-put-kept ps n t u q there keeps a lives =
    elim (cases_eq q n) [
      | inl same ↦
          let is : t ≡ a = from_some t a (sym there ∙ subst (λ (i : ℕ). living_in ps i ≡ Some a) same lives)
          in record {
            alive = u;
            lives =
                subst (λ (i : ℕ). living_in (put ps n (Living u)) i ≡ Some u) (sym same)
                (living-put-same ps n (Living u));
            keeps = subst (λ (b : Alive). KeepsMarks b u) is keeps;
          }
      | inr ne ↦ goes-put-other ps n (Living u) q ne a lives
    ]

goes-buried : (ps : Numbered Process) (es : List EndedChild) (q : ℕ) → AllOver ps es → Goes ps (fold bury ps es) q
goes-buried ps [] q all = goes-self ps q
goes-buried ps (e ∷ es) q all =
    goes-on ps (put ps e.pid Gone) (fold bury (put ps e.pid Gone) es) q
    (goes-put-dead ps e.pid Gone q (over-isnt-living (get ps e.pid) all.0))
    (goes-buried (put ps e.pid Gone) es q (all-over-put-over ps e.pid Gone tt es all.1))

goes-found : (ps : Numbered Process) (w : Waited) (q : ℕ) → OverFound ps w → Goes ps (bury_found ps w) q
goes-found ps (Found child ending) q over = goes-put-dead ps child Gone q (over-isnt-living (get ps child) over)
goes-found ps NotYet q over = goes-self ps q
goes-found ps NoChild q over = goes-self ps q

-- those who are woken are others
goes-marked : (ps : Numbered Process) (n : ℕ) (f : Alive → Alive) (q : ℕ) → nat_eq n q ≡ false
    → Goes ps (change_living ps n f) q
goes-marked ps n f q ne =
    goes-same ps (change_living ps n f) q
    (living-changed ps n f q
    ∙ (ap (λ (b : Bool). option_map (λ (a : Alive). if b then f a else a) (living_in ps q)) ne
    ∙ same (living_in ps q)))
  where
    same : (o : Option Alive) → option_map (λ (a : Alive). if false then f a else a) o ≡ o
    same None = refl
    same (Some a) = refl

apart : (n q : ℕ) → nat_eq q n ≡ false → nat_eq n q ≡ false
apart n q h = grind arith

goes-woken : (ps : Numbered Process) (wakes : List Wake) (q : ℕ) → is_woken q wakes ≡ false
    → Goes ps (fold wake_one ps wakes) q
goes-woken ps [] q isnt = goes-self ps q
goes-woken ps (w ∷ wakes) q isnt =
    let tests = or_parts (nat_eq q w.pid) (is_woken q wakes) isnt
    in goes-on ps (change_living ps w.pid after_reply) (fold wake_one (change_living ps w.pid after_reply) wakes) q
    (goes-marked ps w.pid after_reply q (apart w.pid q tests.0))
    (goes-woken (change_living ps w.pid after_reply) wakes q tests.1)

woken-one : (p : ℕ) → (nat_eq p p || false) ≡ true
woken-one p = ap (λ (b : Bool). b || false) (eq-same p)

-- ---- effects

-- who isn't woken keeps its marks
record KeepsOther (k : Kernel) (q : ℕ) (e : Effect) : Type 0 where
  pub goes : is_woken q e.wakes ≡ false → Goes k.processes e.kernel.processes q

module _ (k : Kernel) (fine : Fine k) (pid : ℕ) (a : Alive) (acts : Acts k pid a) (q : ℕ) (ne : q ≢ pid) where
  abbrev Kept : Effect → Type 0
  Kept e = KeepsOther k q e

  kept-look : (e : Effect) → e.kernel.processes ≡ k.processes → Kept e
  kept-look e same =
      record {
        goes = λ isnt.
            goes-same k.processes e.kernel.processes q (ap (λ (ps : Numbered Process). living_in ps q) same);
      }

  kept-own : (e : Effect) (x : Process) → e.kernel.processes ≡ put k.processes pid x → Kept e
  kept-own e x same =
      record {
        goes = λ isnt.
            subst (λ (ps : Numbered Process). Goes k.processes ps q) (sym same) (goes-put-other k.processes pid x q ne);
      }

  kept-forked : (n : ℕ) → Of Kept (fork_effect k pid a n)
  kept-forked n =
      of-test Kept (is_fresh k.used_processes n) _
      (λ fresh.
      record {
        goes = λ isnt.
            goes-on k.processes (put k.processes n (Living (new_child a))) _ q
            (goes-put-dead k.processes n (Living (new_child a)) q
            (ap (option_and_then alive_in) (fine.unused_processes n (unused k.used_processes n fresh))))
            (goes-put-other (put k.processes n (Living (new_child a))) pid (Living (parent_after_fork a n)) q ne);
      })

  kept-reaped : (nohang : Bool) (w : Waited) → OverFound k.processes w → Kept (reap_child k pid a nohang w)
  kept-reaped nohang (Found c ending) over =
      record {
        goes = λ isnt.
            goes-on k.processes (put k.processes pid (Living (parent_after_wait a c))) _ q
            (goes-put-other k.processes pid (Living (parent_after_wait a c)) q ne)
            (goes-put-dead (put k.processes pid (Living (parent_after_wait a c))) c Gone q
            (over-isnt-living (get (put k.processes pid (Living (parent_after_wait a c))) c)
            (over-put-living k.processes pid (Living (parent_after_wait a c)) c a acts.lives over)));
      }
  kept-reaped true NotYet over = kept-look (reap_child k pid a true NotYet) refl
  kept-reaped false NotYet over = kept-look (reap_child k pid a false NotYet) refl
  kept-reaped nohang NoChild over = kept-look (reap_child k pid a nohang NoChild) refl

  kept-acted : (r : Result Signals Errno) → Kept (action_effect k pid a r)
  kept-acted (Ok s) = kept-own (action_effect k pid a (Ok s)) (Living (with_signals_of a s)) refl
  kept-acted (Err e) = kept-look (action_effect k pid a (Err e)) refl

  kept-signalled : (target : ℕ) (t : Alive) → living_at k target ≡ Some t → (sig : SigArg)
      → Kept (signal_living k pid target t sig)
  kept-signalled target t lives Zero = kept-look (signal_living k pid target t Zero) refl
  kept-signalled target t lives Bad = kept-look (signal_living k pid target t Bad) refl
  kept-signalled target t lives (Is g) = by_caller (nat_eq pid target) refl
    where
      by_caller : (b : Bool) → nat_eq pid target ≡ b
          → Kept
          (reply_with
          (if b then with_alive k target (with_signals_of t (raise t.row.signals g))
          else with_alive k target (raise_by_other t g)) 0)
      by_caller true own =
          record {
            goes = λ isnt.
                goes-put-other k.processes target (Living (with_signals_of t (raise t.row.signals g))) q
                (λ same. ne (same ∙ sym (same-from-nat_eq pid target own)));
          }
      by_caller false other =
          record {
            goes = λ isnt.
                goes-put-kept k.processes target t (raise_by_other t g) q lives (keeps-raised t g);
          }

  kept-killed-at : (target : ℕ) (sig : SigArg) (o : Option Process) → get k.processes target ≡ o
      → Kept (kill_at k pid target sig o)
  kept-killed-at target sig None there = kept-look (kill_at k pid target sig None) refl
  kept-killed-at target sig (Some Gone) there = kept-look (kill_at k pid target sig (Some Gone)) refl
  kept-killed-at target sig (Some (Ended ending)) there =
      kept-look (kill_at k pid target sig (Some (Ended ending))) refl
  kept-killed-at target sig (Some (Living t)) there =
      kept-signalled target t (ap (option_and_then alive_in) there) sig

  kept-killed : (target : ℕ) (sig : SigArg) → Kept (kill k pid target sig)
  kept-killed target Bad = kept-look (kill k pid target Bad) refl
  kept-killed target Zero = kept-killed-at target Zero (get k.processes target) refl
  kept-killed target (Is g) = kept-killed-at target (Is g) (get k.processes target) refl

  -- ---- keys

  kept-choice : (b : Bool) (e f : Effect) → Kept e → Kept f → Kept (if b then e else f)
  kept-choice b e f h g = by_test Kept b e f (λ t. h) (λ t. g)

  kept-made-queue : (keys : Numbered ℕ) (n : ℕ) → Of Kept (new_queue k keys n)
  kept-made-queue keys n = of-test Kept (is_fresh k.used_queues n) _ (λ fresh. kept-look _ refl)

  kept-bound-queue : (key : ℕ) (create excl : Bool) (n : ℕ) (o : Option ℕ)
      → Of Kept (get_queue_at k key create excl n o)
  kept-bound-queue key create excl n (Some id) =
      kept-choice (create && excl) _ _ (kept-look _ refl) (kept-look _ refl)
  kept-bound-queue key create excl n None =
      of_choice Kept create _ _ (kept-made-queue (put k.queue_keys key n) n) (kept-look _ refl)

  kept-queue : (key : Option ℕ) (create excl : Bool) (n : ℕ) → Of Kept (get_queue k key create excl n)
  kept-queue None create excl n = kept-made-queue k.queue_keys n
  kept-queue (Some key) create excl n = kept-bound-queue key create excl n (get k.queue_keys key)

  kept-made-set : (keys : Numbered ℕ) (n : ℕ) (r : Result SemaphoreSet Errno) → Of Kept (new_set_of k keys n r)
  kept-made-set keys n (Err e) = kept-look _ refl
  kept-made-set keys n (Ok s) = of-test Kept (is_fresh k.used_sets n) _ (λ fresh. kept-look _ refl)

  kept-bound-set : (key count : ℕ) (create excl : Bool) (n : ℕ) (o : Option ℕ)
      → Of Kept (get_set_at k key count create excl n o)
  kept-bound-set key count create excl n (Some id) =
      kept-choice (create && excl) _ _ (kept-look _ refl)
      (kept-choice (nat_eq count 0 || nat_le count (set_size k id)) _ _ (kept-look _ refl) (kept-look _ refl))
  kept-bound-set key count create excl n None =
      of_choice Kept create _ _ (kept-made-set (put k.set_keys key n) n (new_set count)) (kept-look _ refl)

  kept-set : (key : Option ℕ) (count : ℕ) (create excl : Bool) (n : ℕ) → Of Kept (get_set k key count create excl n)
  kept-set None count create excl n = kept-made-set k.set_keys n (new_set count)
  kept-set (Some key) count create excl n = kept-bound-set key count create excl n (get k.set_keys key)

  -- ---- queues and sets

  kept-waking : (mid : Kernel) (own : Option Reply) (wakes : List Wake) → mid.processes ≡ k.processes
      → Kept (let e : Effect = record {
        kernel = record mid { processes = fold wake_one mid.processes wakes };
        own = own;
        wakes = wakes;
      } in e)
  kept-waking mid own wakes same =
      record {
        goes = λ isnt.
            subst (λ (ps : Numbered Process). Goes ps (fold wake_one mid.processes wakes) q) same
            (goes-woken mid.processes wakes q isnt);
      }

  kept-on-queue : (call : Call) (id : ℕ) (o : Option (Awaited Queue))
      → Kept (on_named k o (λ x. queue_effect k id (carry_out_on_queue x (waiter pid call))))
  kept-on-queue call id None = kept-look _ refl
  kept-on-queue call id (Some x) =
      let c : Carried Queue = carry_out_on_queue x (waiter pid call)
      in kept-waking (record k { queues = put k.queues id c.object }) c.own c.wakes refl

  kept-removed-queue : (id : ℕ) (o : Option (Awaited Queue)) → Kept (on_named k o (remove_queue k id))
  kept-removed-queue id None = kept-look _ refl
  kept-removed-queue id (Some x) =
      kept-waking (record k { queues = without k.queues id; queue_keys = unbind k.queue_keys id }) (Some (Num 0))
      (wakes_at_removal x) refl

  kept-on-set : (call : Call) (id : ℕ) (o : Option (Awaited SemaphoreSet))
      → Kept (on_named k o (λ x. set_effect k id (carry_out_on_set x (waiter pid call))))
  kept-on-set call id None = kept-look _ refl
  kept-on-set call id (Some x) =
      let c : Carried SemaphoreSet = carry_out_on_set x (waiter pid call)
      in kept-waking (record k { sets = put k.sets id c.object }) c.own c.wakes refl

  kept-removed-set : (id : ℕ) (o : Option (Awaited SemaphoreSet)) → Kept (on_named k o (remove_set k id))
  kept-removed-set id None = kept-look _ refl
  kept-removed-set id (Some x) =
      kept-waking (record k { sets = without k.sets id; set_keys = unbind k.set_keys id }) (Some (Num 0))
      (wakes_at_removal x) refl

  -- ---- ends

  -- a parent that isn't woken finds nothing, and keeps its marks
  kept-parent : (p : Parent) (w : Waited) (f : Family) (b : Bool) → is_woken p.pid (wakes_of_parent p.pid w) ≡ false
      → KeepsMarks p.alive (raise_chld b (after_waiting (with_family p.alive f) w))
  kept-parent p NotYet f b isnt = keeps-told b p.alive f
  kept-parent p (Found c ending) f b isnt = absurd (true≢false (sym (woken-one p.pid) ∙ isnt))
  kept-parent p NoChild f b isnt = absurd (true≢false (sym (woken-one p.pid) ∙ isnt))

  abbrev bs : Numbered Process
  bs = bury_all k.processes a.row.family

  over-own : AllOver k.processes a.row.family.ended
  over-own = fine.people.ended pid a acts.lives

  buried : Moves k.processes bs
  buried = bury-moves k.processes fine.people a.row.family.ended over-own

  goes-bs : Goes k.processes bs q
  goes-bs = goes-buried k.processes a.row.family.ended q over-own

  -- a parent's children that are found are over
  found-over : (p : Parent) → living_at k p.pid ≡ Some p.alive → (ending : Ending)
      → OverFound (put bs pid (process_after_end (ignores_children p.alive.row) ending))
      (found_after_end p.alive pid ending)
  found-over p parent ending =
      let b : Alive = p.alive
      in let ignored : Bool = ignores_children b.row
      in let x : Process = process_after_end ignored ending
      in let over : IsOver (Some x) = over-process ignored ending
      in over-found (put bs pid x) (family_after_end b.row.family pid ending ignored)
      (awaited_children b.marks.parked)
      (over-after-end (put bs pid x) b.row.family pid ending ignored
      (all-over-put-over bs pid x over b.row.family.ended
      (buried.people.ended p.pid b (living-bury k.processes a.row.family.ended over-own p.pid b parent)))
      (subst (λ (o : Option Process). IsOver o) (sym (get-put-same bs pid x)) over))

  goes-parent : (p : Parent) → living_at k p.pid ≡ Some p.alive → p.pid ≢ pid → (ending : Ending)
      → is_woken q (wakes_under pid ending (Some p)) ≡ false → Goes bs (end_under bs pid ending (Some p)) q
  goes-parent p parent differs ending isnt =
      let b : Alive = p.alive
      in let x : Process = process_after_end (ignores_children b.row) ending
      in let w : Waited = found_after_end b pid ending
      in let ps1 : Numbered Process = put bs pid x
      in let ps2 : Numbered Process = bury_found ps1 w
      in let over : OverFound ps1 w = found-over p parent ending
      in let first : Goes bs ps2 q =
      goes-on bs ps1 ps2 q (goes-put-other bs pid x q ne) (goes-found ps1 w q over)
      in let lives2 : living_in ps2 p.pid ≡ Some b =
      living-bury-found ps1 w over p.pid b
      (living-put-other bs pid x p.pid differs
      ∙ living-bury k.processes a.row.family.ended over-own p.pid b parent)
      in goes-on bs ps2 (put ps2 p.pid (Living (parent_after_end b pid ending))) q first
      (by_number ps2 lives2 (cases_eq q p.pid))
    where
      by_number : (ps2 : Numbered Process) → living_in ps2 p.pid ≡ Some p.alive → (q ≡ p.pid) ⊎ (q ≢ p.pid)
          → Goes ps2 (put ps2 p.pid (Living (parent_after_end p.alive pid ending))) q
      by_number ps2 lives2 (inr other) =
          goes-put-other ps2 p.pid (Living (parent_after_end p.alive pid ending)) q other
      by_number ps2 lives2 (inl same) =
          goes-put-kept ps2 p.pid p.alive (parent_after_end p.alive pid ending) q lives2
          (kept-parent p (found_after_end p.alive pid ending) _ (ignores_children p.alive.row)
          (subst
          (λ (i : ℕ). is_woken i (wakes_of_parent p.pid (found_after_end p.alive pid ending)) ≡ false)
          same isnt))

  goes-ended : (ending : Ending) (o : Option Parent) → parent_in pid k.processes ≡ o → ParentView k.processes pid o
      → is_woken q (wakes_under pid ending o) ≡ false → Goes bs (end_under bs pid ending o) q
  goes-ended ending None is view isnt = goes-put-other bs pid Gone q ne
  goes-ended ending (Some p) is view isnt =
      let parent : living_at k p.pid ≡ Some p.alive = ap (option_and_then alive_in) view.0
      in goes-parent p parent
      (λ same.
      true≢false
      (sym view.1
      ∙ subst (λ (i : ℕ). lists p.alive.row.family i ≡ false) same (fine.people.apart p.pid p.alive parent)))
      ending isnt

  kept-ended : (ending : Ending) → Kept (end_process k pid a ending)
  kept-ended ending =
      record {
        goes = λ isnt.
            goes-on k.processes bs _ q goes-bs
            (goes-ended ending (parent_in pid k.processes) refl (parent-view pid k.processes fine.people.rising) isnt);
      }

  -- ---- each call

  kept-call : (call : Call) (n : ℕ) → Of Kept (effect k (waiter pid call) a n)
  kept-call (calls.Fork block) n = kept-forked n
  kept-call (calls.Exit status) n = kept-ended (endings.Exited (status % 256))
  kept-call (calls.Killed sig) n = kept-ended (endings.Killed sig)
  kept-call calls.GetPid n = kept-look _ refl
  kept-call (calls.Kill target sig) n = kept-killed target sig
  kept-call (calls.SigAction sig act) n = kept-acted (act_on a.row.signals sig act)
  kept-call (calls.SigProcMask how set) n =
      kept-own _ (Living (with_signals_of a (with_mask a.row.signals how set))) refl
  kept-call calls.SigPending n = kept-look _ refl
  kept-call (calls.Handled sig) n = kept-look _ refl
  kept-call (calls.WaitPid child nohang) n =
      kept-reaped nohang (wait a.row.family child) (wait-is-over k.processes fine.people pid a acts.lives child)
  kept-call (calls.MsgGet key create excl) n = kept-queue key create excl n
  kept-call (calls.MsgSnd id class text nowait) n =
      kept-on-queue (calls.MsgSnd id class text nowait) id (get k.queues id)
  kept-call (calls.MsgRcv id class size noerror nowait) n =
      kept-on-queue (calls.MsgRcv id class size noerror nowait) id (get k.queues id)
  kept-call (calls.MsgStat id) n = kept-on-queue (calls.MsgStat id) id (get k.queues id)
  kept-call (calls.MsgSet id qbytes) n = kept-on-queue (calls.MsgSet id qbytes) id (get k.queues id)
  kept-call (calls.MsgRmid id) n = kept-removed-queue id (get k.queues id)
  kept-call (calls.SemGet key count create excl) n = kept-set key count create excl n
  kept-call (calls.SemRmid id) n = kept-removed-set id (get k.sets id)
  kept-call (calls.SemOp id steps) n = kept-on-set (calls.SemOp id steps) id (get k.sets id)
  kept-call (calls.SemGetVal id num) n = kept-on-set (calls.SemGetVal id num) id (get k.sets id)
  kept-call (calls.SemGetPid id num) n = kept-on-set (calls.SemGetPid id num) id (get k.sets id)
  kept-call (calls.SemGetNcnt id num) n = kept-on-set (calls.SemGetNcnt id num) id (get k.sets id)
  kept-call (calls.SemGetZcnt id num) n = kept-on-set (calls.SemGetZcnt id num) id (get k.sets id)
  kept-call (calls.SemSetVal id num value) n = kept-on-set (calls.SemSetVal id num value) id (get k.sets id)
  kept-call (calls.SemGetAll id) n = kept-on-set (calls.SemGetAll id) id (get k.sets id)
  kept-call (calls.SemSetAll id values) n = kept-on-set (calls.SemSetAll id values) id (get k.sets id)
  kept-call (calls.Withdraw name) n = tt

-- ---- entries

-- the caller's own marks are those of no other
goes-allowed : (k : Kernel) (pid : ℕ) (o : Option Alive) (q : ℕ) → q ≢ pid
    → (let j : Kernel = allowance_after k pid o in Goes k.processes j.processes q)
goes-allowed k pid None q ne = goes-self k.processes q
goes-allowed k pid (Some a) q ne = by_doom (is_some a.row.signals.doom)
  where
    by_doom : (b : Bool)
        → (let j : Kernel = (if b then with_alive k pid (spent a) else k) in Goes k.processes j.processes q)
    by_doom true = goes-put-other k.processes pid (Living (spent a)) q ne
    by_doom false = goes-self k.processes q

-- everyone but the caller lives on, and keeps its marks, once the caller's own are changed
pub goes-finished : (k : Kernel) (pid : ℕ) (call : Call) (own : Option Reply) (q : ℕ) → q ≢ pid
    → (let j : Kernel = finish_call k pid call own in Goes k.processes j.processes q)
goes-finished k pid call own q ne =
    let first : Kernel = allowance_after k pid (living_at k pid)
    in goes-on k.processes first.processes _ q (goes-allowed k pid (living_at k pid) q ne)
    (goes-marked first.processes pid (after_call call own) q (eq-other pid q (λ same. ne (sym same))))

of-made : (k : Kernel) → Fine k → (pid : ℕ) (call : Call) (n : ℕ) (s : Successor) → Makes k pid call n s → (q : ℕ)
    → q ≢ pid → woken_in q s.outcome.woken ≡ false → Goes k.processes s.kernel.processes q
of-made k fine pid call n s m q ne isnt =
    let e : Effect = m.step
    in let kept : KeepsOther k q e =
    of-some (KeepsOther k q) (effect k (waiter pid call) m.alive n) e
    (kept-call k fine pid m.alive (acts-by k pid m.alive call m.lives m.may) q ne call n) m.does
    in subst (λ (t : Successor). Goes k.processes t.kernel.processes q) m.is
    (goes-on k.processes e.kernel.processes _ q
    (kept.goes
    (sym (pairs-woken e.wakes q) ∙ (ap (λ (t : Successor). woken_in q t.outcome.woken) m.is ∙ isnt)))
    (goes-finished e.kernel pid call e.own q ne))

of-left : (k : Kernel) (pid : ℕ) (name : Name) (s : Successor) → Leaves k pid name s → (q : ℕ) → q ≢ pid
    → Goes k.processes s.kernel.processes q
of-left k pid name s l q ne =
    subst (λ (t : Successor). Goes k.processes t.kernel.processes q) l.is
    (subst (λ (ps : Numbered Process). Goes k.processes (change_living ps pid after_reply) q)
    (sym (left-processes k pid name))
    (goes-marked k.processes pid after_reply q (eq-other pid q (λ same. ne (sym same)))))

-- each entry
pub entry-keeps-others : (k : Kernel) → Fine k → (pid : ℕ) (call : Call) (n : ℕ) (s : Successor)
    → transition k pid call n ≡ Some s → (q : ℕ) (a : Alive) → q ≢ pid → woken_in q s.outcome.woken ≡ false
    → living_at k q ≡ Some a → LivesOnIn s.kernel.processes q a
entry-keeps-others k fine pid (calls.Withdraw name) n s is q a ne isnt lives =
    of-left k pid name s (leaves k pid name n s is) q ne a lives
entry-keeps-others k fine pid call n s is q a ne isnt lives =
    of-made k fine pid call n s (makes k pid call n s refl is) q ne isnt a lives
