-- Each entry keeps marks and waits the same.
use Rattle.pico_base.specs.declared.numbers.Name.{Name}
use Rattle.kernel_model.specs.Row.{Row, NotYet, wait}
use Rattle.kernel_model.specs.Fitting.{is_waitpid}
use Rattle.std.proofs.Common.{◌≡◌, ◌≢◌, ◌∙◌, ℕ, Bool, true, false, nat_eq, List, [], ◌∷◌, Option, Some, None, is_some, refl, ap, sym, subst, inl, inr}
use Rattle.std.specs.Prelude.{if◌then◌else◌, fold}
use Rattle.std.specs.Option.{option_map, option_and_then}
use Rattle.std.proofs.lemmas.Bool.{true≢false, false≢true, cases_eq, eq-eqb}
use Rattle.pico_base.specs.declared.call.Call.{Call}
use Rattle.pico_base.specs.declared.call.Call.TheVariants as calls
use Rattle.pico_base.specs.declared.numbers.Name.TheVariants.{Msg, Sem, Proc}
use Rattle.pico_base.specs.declared.reply.Reply.{Reply}
use Rattle.number_maps.specs.Maps.{Numbered, get, put, is_used}
use Rattle.number_maps.proofs.Order.{same-from-nat_eq}
use Rattle.number_maps.proofs.LookUps.{get-put-same}
use Rattle.kernel_model.specs.Queue.{Queue}
use Rattle.kernel_model.specs.SemaphoreSet.{SemaphoreSet}
use Rattle.waiting_model.specs.declared.callers.Waiting.{Waiting}
use Rattle.waiting_model.specs.declared.callers.Wake.{Wake}
use Rattle.waiting_model.specs.Calls.{waits_at, is_same_name}
use Rattle.waiting_model.specs.Waiters.{Awaited, waiter}
use Rattle.waiting_model.specs.Marks.{Alive, after_reply, spent}
use Rattle.waiting_model.specs.Kernel.{Kernel, Process, Living, alive_in, change_living, living_at, living_in, with_alive, wake_all, wake_one}
use Rattle.waiting_model.specs.Transition.{after_call, allowance_after, finish_call}
use Rattle.waiting_model.specs.Plain.{AllValues}
use Rattle.waiting_laws.specs.Parked.{wait_of, wait_in, WaitOnce, mark_of, mark_in, MarksAreWaits}
use Rattle.waiting_laws.proofs.Waits.{is_woken, Settles}
use Rattle.waiting_laws.proofs.People.{WaitsAlike, alike-from, alike-on, People, Moves, moves-self, living-put-other, put-marked, people-changed, there-changed, living-changed, mark-replied, FindsNothing, replied-patient, waits_for_children, children_of}
use Rattle.waiting_laws.proofs.Parked.{marks-woken, same-either-way, queue-changes, set-changes, queue-parks, set-parks, processes-change}
use Rattle.waiting_laws.proofs.Options.{some-isnt-none, same-some}

waits-are : (call : Call) → waits_for_children (Some call) ≡ is_waitpid call
waits-are (calls.WaitPid child nohang) = refl
waits-are call = refl

-- a call that waits at an object isn't waitpid
isnt-waitpid : (pid : ℕ) (call : Call) (name : Name) → is_same_name (Proc pid) name ≡ false → waits_at pid call ≡ name
    → is_waitpid call ≡ false
isnt-waitpid pid (calls.WaitPid child nohang) name away place =
    absurd
    (true≢false
    (sym (eq-eqb pid pid refl) ∙ (ap (is_same_name (Proc pid)) place ∙ away)))
isnt-waitpid pid call name away place = refl

-- What the law needs besides: families in order, and nothing at a number that isn't used.
pub record Fine (k : Kernel) : Type 0 where
  pub people : People k.processes
  pub unused_processes : (n : ℕ) → is_used k.used_processes n ≡ false → get k.processes n ≡ None
  pub unused_queues : (n : ℕ) → is_used k.used_queues n ≡ false → get k.queues n ≡ None
  pub unused_sets : (n : ℕ) → is_used k.used_sets n ≡ false → get k.sets n ≡ None
  pub marks : MarksAreWaits k

-- The caller's marks.

-- where nothing was there is nothing, if the same numbers lead to something
pub none-there : {A B : Type 0} (o : Option A) (p : Option B) → is_some p ≡ is_some o → o ≡ None → p ≡ None
none-there None None h g = refl
none-there None (Some x) h g = absurd (true≢false h)
none-there (Some y) None h g = refl
none-there (Some y) (Some x) h g = some-isnt-none y (Some y) refl g

-- a step of the map of processes that keeps the marks
record Steps (ps qs : Numbered Process) : Type 0 where
  pub people : People qs
  pub marks : (q : ℕ) → mark_in qs q ≡ mark_in ps q
  pub lives : (q : ℕ) → is_some (living_in qs q) ≡ is_some (living_in ps q)
  pub there : (n : ℕ) → is_some (get qs n) ≡ is_some (get ps n)

-- another mark alone
pub mark-put : (ps : Numbered Process) (n : ℕ) (a b : Alive) → living_in ps n ≡ Some a → b.marks.parked ≡ a.marks.parked
    → (q : ℕ) → (mark_in (put ps n (Living b)) q ≡ mark_in ps q)
    × (is_some (living_in (put ps n (Living b)) q) ≡ is_some (living_in ps q))
mark-put ps n a b lives same q =
    elim (cases_eq q n) [
      | inl is ↦
          let now : living_in (put ps n (Living b)) n ≡ Some b =
          ap (λ (o : Option Process). option_and_then alive_in o) (get-put-same ps n (Living b))
          in subst
          (λ (i : ℕ).
          (mark_in (put ps n (Living b)) i ≡ mark_in ps i)
          × (is_some (living_in (put ps n (Living b)) i) ≡ is_some (living_in ps i)))
          (sym is)
          (ap mark_of now ∙ (same ∙ sym (ap mark_of lives)), ap is_some now ∙ sym (ap is_some lives))
      | inr ne ↦
          let kept : living_in (put ps n (Living b)) q ≡ living_in ps q = living-put-other ps n (Living b) q ne
          in (ap mark_of kept, ap is_some kept)
    ]

allowance-steps : (k : Kernel) → People k.processes → (pid : ℕ) (o : Option Alive) → living_at k pid ≡ o
    → Steps k.processes (allowance_after k pid o).processes
allowance-steps k people pid None lives =
    record { people = people; marks = λ q. refl; lives = λ q. refl; there = λ n. refl }
allowance-steps k people pid (Some a) lives = by_test (is_some a.row.signals.doom)
  where
    by_test : (b : Bool)
        → Steps k.processes (let j : Kernel = (if b then with_alive k pid (spent a) else k) in j.processes)
    by_test false = record { people = people; marks = λ q. refl; lives = λ q. refl; there = λ n. refl }
    by_test true =
        let moves : Moves k.processes (put k.processes pid (Living (spent a))) =
        put-marked k.processes people pid a (spent a) lives refl refl
        in record {
          people = moves.people;
          marks = λ q. (mark-put k.processes pid a (spent a) lives refl q).0;
          lives = λ q. (mark-put k.processes pid a (spent a) lives refl q).1;
          there = moves.there;
        }

-- what the caller's marks leave
pub record Finishes (k j : Kernel) : Type 0 where
  pub people : People j.processes
  pub there : (n : ℕ) → is_some (get j.processes n) ≡ is_some (get k.processes n)
  pub queues : j.queues ≡ k.queues
  pub sets : j.sets ≡ k.sets
  pub used_processes : j.used_processes ≡ k.used_processes
  pub used_queues : j.used_queues ≡ k.used_queues
  pub used_sets : j.used_sets ≡ k.used_sets

record Kept (j k : Kernel) : Type 0 where
  pub queues : j.queues ≡ k.queues
  pub sets : j.sets ≡ k.sets
  pub used_processes : j.used_processes ≡ k.used_processes
  pub used_queues : j.used_queues ≡ k.used_queues
  pub used_sets : j.used_sets ≡ k.used_sets

kept-allowance : (k : Kernel) (pid : ℕ) (o : Option Alive) → Kept (allowance_after k pid o) k
kept-allowance k pid None =
    record { queues = refl; sets = refl; used_processes = refl; used_queues = refl; used_sets = refl }
kept-allowance k pid (Some a) = by_test (is_some a.row.signals.doom)
  where
    by_test : (b : Bool) → Kept (if b then with_alive k pid (spent a) else k) k
    by_test true = record { queues = refl; sets = refl; used_processes = refl; used_queues = refl; used_sets = refl }
    by_test false = record { queues = refl; sets = refl; used_processes = refl; used_queues = refl; used_sets = refl }

same-row : (call : Call) (own : Option Reply) (a : Alive) → (after_call call own a).row ≡ a.row
same-row call None a = refl
same-row call (Some reply) a = refl

-- the caller, if it has a row, finds nothing where its call is a waitpid that parks
abbrev pub MayPark : Kernel → ℕ → Call → Option Reply → Type 0
MayPark k pid call own =
    (x : Alive) → living_in (allowance_after k pid (living_at k pid)).processes pid ≡ Some x
    → FindsNothing (after_call call own x)

-- with a reply it waits no more
pub may-reply : (k : Kernel) (pid : ℕ) (call : Call) (reply : Reply) → MayPark k pid call (Some reply)
may-reply k pid call reply x lives = replied-patient x

-- at a queue or a set it waits for no child
may-park : (k : Kernel) (pid : ℕ) (call : Call) → is_waitpid call ≡ false → MayPark k pid call None
may-park k pid call isnt x lives child nohang h =
    absurd (true≢false (sym (ap waits_for_children h) ∙ (waits-are call ∙ isnt)))

-- whatever the call
pub finishes : (k : Kernel) → People k.processes → (pid : ℕ) (call : Call) (own : Option Reply)
    → MayPark k pid call own → Finishes k (finish_call k pid call own)
finishes k people pid call own may =
    let first : Kernel = allowance_after k pid (living_at k pid)
    in let steps : Steps k.processes first.processes = allowance-steps k people pid (living_at k pid) refl
    in let kept : Kept first k = kept-allowance k pid (living_at k pid)
    in record {
      people = people-changed first.processes steps.people pid (after_call call own) (same-row call own) may;
      there = λ n. there-changed first.processes pid (after_call call own) n ∙ steps.there n;
      queues = kept.queues;
      sets = kept.sets;
      used_processes = kept.used_processes;
      used_queues = kept.used_queues;
      used_sets = kept.used_sets;
    }

-- a reply takes the caller's mark away
pub marks-replied : (k : Kernel) → People k.processes → (pid : ℕ) (call : Call) (reply : Reply) (q : ℕ)
    → (let j : Kernel = finish_call k pid call (Some reply) in mark_in j.processes q)
    ≡ (if nat_eq pid q then None else mark_in k.processes q)
marks-replied k people pid call reply q =
    let first : Kernel = allowance_after k pid (living_at k pid)
    in let steps : Steps k.processes first.processes = allowance-steps k people pid (living_at k pid) refl
    in mark-replied first.processes pid q
    ∙ ap (λ (m : Option Call). (if nat_eq pid q then None else m)) (steps.marks q)

-- by whether it is the caller
pub parked-by : (o : Option Alive) (call : Call) (b : Bool) → (b ≡ true → is_some o ≡ true)
    → mark_of (option_map (λ a. if b then after_call call None a else a) o) ≡ (if b then Some call else mark_of o)
parked-by None call true h = absurd (false≢true (h refl))
parked-by None call false h = refl
parked-by (Some a) call true h = refl
parked-by (Some a) call false h = refl

-- a call without a reply is its caller's mark
marks-parked : (k : Kernel) → People k.processes → (pid : ℕ) (call : Call) → is_some (living_at k pid) ≡ true → (q : ℕ)
    → (let j : Kernel = finish_call k pid call None in mark_in j.processes q)
    ≡ (if nat_eq pid q then Some call else mark_in k.processes q)
marks-parked k people pid call lives q =
    let first : Kernel = allowance_after k pid (living_at k pid)
    in let steps : Steps k.processes first.processes = allowance-steps k people pid (living_at k pid) refl
    in ap mark_of (living-changed first.processes pid (after_call call None) q)
    ∙ (parked-by (living_in first.processes q) call (nat_eq pid q)
    (λ is.
    subst (λ (i : ℕ). is_some (living_in first.processes i) ≡ true) (same-from-nat_eq pid q is)
    (steps.lives pid ∙ lives))
    ∙ ap (λ (m : Option Call). (if nat_eq pid q then Some call else m)) (steps.marks q))

-- All is fine afterwards, where the used numbers are the same.
record Leaves (k j : Kernel) : Type 0 where
  pub people : People j.processes
  pub processes : (n : ℕ) → get k.processes n ≡ None → get j.processes n ≡ None
  pub queues : (n : ℕ) → get k.queues n ≡ None → get j.queues n ≡ None
  pub sets : (n : ℕ) → get k.sets n ≡ None → get j.sets n ≡ None
  pub used_processes : j.used_processes ≡ k.used_processes
  pub used_queues : j.used_queues ≡ k.used_queues
  pub used_sets : j.used_sets ≡ k.used_sets

fine-by : (k j : Kernel) → Fine k → Leaves k j → MarksAreWaits j → Fine j
fine-by k j fine l marks =
    record {
      people = l.people;
      unused_processes =
          λ n h.
          l.processes n
          (fine.unused_processes n (subst (λ (u : List ℕ). is_used u n ≡ false) l.used_processes h));
      unused_queues =
          λ n h.
          l.queues n (fine.unused_queues n (subst (λ (u : List ℕ). is_used u n ≡ false) l.used_queues h));
      unused_sets =
          λ n h. l.sets n (fine.unused_sets n (subst (λ (u : List ℕ). is_used u n ≡ false) l.used_sets h));
      marks = marks;
    }

-- Calls that leave the queues and the sets.

-- the caller lives and isn't parked
pub record Acts (k : Kernel) (pid : ℕ) (a : Alive) : Type 0 where
  pub lives : living_at k pid ≡ Some a
  pub unparked : a.marks.parked ≡ None

-- so the map of processes has no mark of it
pub no-mark : (k : Kernel) (pid : ℕ) (a : Alive) → Acts k pid a → mark_in k.processes pid ≡ None
no-mark k pid a acts = ap mark_of acts.lives ∙ acts.unparked

-- its own reply changes no wait
pub replied-alike : (k : Kernel) (pid : ℕ) (a : Alive) → Acts k pid a → (q : ℕ) (x y : Option Call)
    → x ≡ (if nat_eq pid q then None else y) → WaitsAlike q y (mark_in k.processes q)
    → WaitsAlike q x (mark_in k.processes q)
replied-alike k pid a acts q x y is alike =
    alike-on q x (if nat_eq pid q then None else y) (mark_in k.processes q) (alike-from q x _ is)
    (by_test (nat_eq pid q) refl)
  where
    by_test : (b : Bool) → nat_eq pid q ≡ b → WaitsAlike q (if b then None else y) (mark_in k.processes q)
    by_test true same =
        alike-from q None (mark_in k.processes q)
        (sym
        (subst (λ (i : ℕ). mark_in k.processes i ≡ None) (same-from-nat_eq pid q same) (no-mark k pid a acts)))
    by_test false same = alike

-- other processes, and the same waits
pub process-fine : (k : Kernel) → Fine k → (pid : ℕ) (a : Alive) → Acts k pid a → (qs : Numbered Process)
    → Moves k.processes qs → (call : Call) (reply : Reply)
    → Fine (finish_call (record k { processes = qs }) pid call (Some reply))
process-fine k fine pid a acts qs moves call reply =
    let mid : Kernel = record k { processes = qs }
    in let j : Kernel = finish_call mid pid call (Some reply)
    in let f : Finishes mid j = finishes mid moves.people pid call (Some reply) (may-reply mid pid call reply)
    in fine-by k j fine
    (record {
      people = f.people;
      processes =
          λ n h. none-there (get k.processes n) (get j.processes n) (f.there n ∙ moves.there n) h;
      queues = λ n h. ap (λ (m : Numbered (Awaited Queue)). get m n) f.queues ∙ h;
      sets = λ n h. ap (λ (m : Numbered (Awaited SemaphoreSet)). get m n) f.sets ∙ h;
      used_processes = f.used_processes;
      used_queues = f.used_queues;
      used_sets = f.used_sets;
    })
    (processes-change k fine.marks j
    (λ i p. ap (λ (m : Numbered (Awaited Queue)). wait_in p (get m i)) f.queues)
    (λ i p. ap (λ (m : Numbered (Awaited SemaphoreSet)). wait_in p (get m i)) f.sets)
    (λ q.
    replied-alike k pid a acts q (mark_in j.processes q) (mark_in qs q)
    (marks-replied mid moves.people pid call reply q) (moves.waits q))
    (subst (λ (m : Numbered (Awaited Queue)). AllValues (λ w. WaitOnce w.waiters) m) (sym f.queues)
    fine.marks.queues_once)
    (subst (λ (m : Numbered (Awaited SemaphoreSet)). AllValues (λ w. WaitOnce w.waiters) m) (sym f.sets)
    fine.marks.sets_once))

-- a look
pub look-fine : (k : Kernel) → Fine k → (pid : ℕ) (a : Alive) → Acts k pid a → (call : Call) (reply : Reply)
    → Fine (finish_call k pid call (Some reply))
look-fine k fine pid a acts call reply =
    process-fine k fine pid a acts k.processes (moves-self k.processes fine.people) call reply

-- the caller's row is as it was
row-kept : (k : Kernel) (pid : ℕ) (a : Alive) → living_at k pid ≡ Some a → (o : Option Alive) → living_at k pid ≡ o
    → (x : Alive) → living_in (allowance_after k pid o).processes pid ≡ Some x → x.row ≡ a.row
row-kept k pid a lives None is x h = some-isnt-none a (living_at k pid) lives is
row-kept k pid a lives (Some b) is x h = by_test (is_some b.row.signals.doom) h
  where
    same : b ≡ a
    same = same-some b a (sym is ∙ lives)

    by_test : (d : Bool)
        → living_in (let j : Kernel = (if d then with_alive k pid (spent b) else k) in j.processes) pid ≡ Some x
        → x.row ≡ a.row
    by_test true g =
        let now : living_in (put k.processes pid (Living (spent b))) pid ≡ Some (spent b) =
        ap (λ (o : Option Process). option_and_then alive_in o) (get-put-same k.processes pid (Living (spent b)))
        in ap (λ (y : Alive). y.row) (same-some x (spent b) (sym g ∙ now)) ∙ ap (λ (y : Alive). y.row) same
    by_test false g = ap (λ (y : Alive). y.row) (same-some x a (sym g ∙ lives))

wait-may-park : (k : Kernel) → People k.processes → (pid : ℕ) (a : Alive) → living_at k pid ≡ Some a
    → (child : Option ℕ) (nohang : Bool) → wait a.row.family child ≡ NotYet
    → MayPark k pid (calls.WaitPid child nohang) None
wait-may-park k people pid a lives child nohang nothing x there which how h =
    let row : x.row ≡ a.row = row-kept k pid a lives (living_at k pid) refl x there
    in let same : child ≡ which = ap children_of h
    in subst (λ (c : Option ℕ). wait x.row.family c ≡ NotYet) same
    (subst (λ (r : Row). wait r.family child ≡ NotYet) (sym row) nothing)

-- a waitpid that parks
pub wait-fine : (k : Kernel) → Fine k → (pid : ℕ) (a : Alive) → Acts k pid a → (child : Option ℕ) (nohang : Bool)
    → wait a.row.family child ≡ NotYet → Fine (finish_call k pid (calls.WaitPid child nohang) None)
wait-fine k fine pid a acts child nohang nothing =
    let call : Call = calls.WaitPid child nohang
    in let j : Kernel = finish_call k pid call None
    in let f : Finishes k j = finishes k fine.people pid call None
    (wait-may-park k fine.people pid a acts.lives child nohang nothing)
    in fine-by k j fine
    (record {
      people = f.people;
      processes = λ n h. none-there (get k.processes n) (get j.processes n) (f.there n) h;
      queues = λ n h. ap (λ (m : Numbered (Awaited Queue)). get m n) f.queues ∙ h;
      sets = λ n h. ap (λ (m : Numbered (Awaited SemaphoreSet)). get m n) f.sets ∙ h;
      used_processes = f.used_processes;
      used_queues = f.used_queues;
      used_sets = f.used_sets;
    })
    (processes-change k fine.marks j
    (λ i p. ap (λ (m : Numbered (Awaited Queue)). wait_in p (get m i)) f.queues)
    (λ i p. ap (λ (m : Numbered (Awaited SemaphoreSet)). wait_in p (get m i)) f.sets)
    (λ q.
    waiting-alike q (nat_eq pid q) refl (mark_in j.processes q)
    (marks-parked k fine.people pid call (ap is_some acts.lives) q))
    (subst (λ (m : Numbered (Awaited Queue)). AllValues (λ w. WaitOnce w.waiters) m) (sym f.queues)
    fine.marks.queues_once)
    (subst (λ (m : Numbered (Awaited SemaphoreSet)). AllValues (λ w. WaitOnce w.waiters) m) (sym f.sets)
    fine.marks.sets_once))
  where
    waiting-alike : (q : ℕ) (b : Bool) → nat_eq pid q ≡ b → (x : Option Call)
        → x ≡ (if b then Some (calls.WaitPid child nohang) else mark_in k.processes q)
        → WaitsAlike q x (mark_in k.processes q)
    waiting-alike q true same x is =
        alike-on q x (Some (calls.WaitPid child nohang)) (mark_in k.processes q) (alike-from q x _ is)
        (alike-on q (Some (calls.WaitPid child nohang)) None (mark_in k.processes q)
        (record { queues = λ id. refl; sets = λ id. refl })
        (alike-from q None (mark_in k.processes q)
        (sym
        (subst (λ (i : ℕ). mark_in k.processes i ≡ None) (same-from-nat_eq pid q same) (no-mark k pid a acts)))))
    waiting-alike q false same x is = alike-from q x (mark_in k.processes q) is

-- Calls on queues and sets.

woken-people : (ps : Numbered Process) → People ps → (wakes : List Wake) → People (fold wake_one ps wakes)
woken-people ps people [] = people
woken-people ps people (w ∷ wakes) =
    woken-people (change_living ps w.pid after_reply) (people-changed ps people w.pid after_reply (λ a. refl)
    (λ a h. replied-patient a)) wakes

woken-there : (ps : Numbered Process) (wakes : List Wake) (n : ℕ)
    → is_some (get (fold wake_one ps wakes) n) ≡ is_some (get ps n)
woken-there ps [] n = refl
woken-there ps (w ∷ wakes) n =
    woken-there (change_living ps w.pid after_reply) wakes n ∙ there-changed ps w.pid after_reply n

-- the caller had no mark, so that its own reply changes none
marks-both : (k : Kernel) (pid : ℕ) (a : Alive) → Acts k pid a → (wakes : List Wake) (q : ℕ)
    → (if nat_eq pid q then None else (if is_woken q wakes then None else mark_in k.processes q))
    ≡ (if is_woken q wakes then None else mark_in k.processes q)
marks-both k pid a acts wakes q = by_test (nat_eq pid q) refl
  where
    either : (b : Bool) (m : Option Call) → m ≡ None → None ≡ (if b then None else m)
    either true m h = refl
    either false m h = sym h

    by_test : (b : Bool) → nat_eq pid q ≡ b
        → (if b then None else (if is_woken q wakes then None else mark_in k.processes q))
        ≡ (if is_woken q wakes then None else mark_in k.processes q)
    by_test true same =
        either (is_woken q wakes) (mark_in k.processes q)
        (subst (λ (i : ℕ). mark_in k.processes i ≡ None) (same-from-nat_eq pid q same) (no-mark k pid a acts))
    by_test false same = refl

-- a kernel of which one queue is another one
pub record OtherQueue (k mid : Kernel) (id : ℕ) (o : Option (Awaited Queue)) : Type 0 where
  pub here : get mid.queues id ≡ o
  pub others : (i : ℕ) → i ≢ id → get mid.queues i ≡ get k.queues i
  pub nothing : (n : ℕ) → get k.queues n ≡ None → get mid.queues n ≡ None
  pub once : AllValues (λ w. WaitOnce w.waiters) mid.queues
  pub sets : mid.sets ≡ k.sets
  pub processes : mid.processes ≡ k.processes
  pub used_processes : mid.used_processes ≡ k.used_processes
  pub used_queues : mid.used_queues ≡ k.used_queues
  pub used_sets : mid.used_sets ≡ k.used_sets

pub record OtherSet (k mid : Kernel) (id : ℕ) (o : Option (Awaited SemaphoreSet)) : Type 0 where
  pub here : get mid.sets id ≡ o
  pub others : (i : ℕ) → i ≢ id → get mid.sets i ≡ get k.sets i
  pub nothing : (n : ℕ) → get k.sets n ≡ None → get mid.sets n ≡ None
  pub once : AllValues (λ w. WaitOnce w.waiters) mid.sets
  pub queues : mid.queues ≡ k.queues
  pub processes : mid.processes ≡ k.processes
  pub used_processes : mid.used_processes ≡ k.used_processes
  pub used_queues : mid.used_queues ≡ k.used_queues
  pub used_sets : mid.used_sets ≡ k.used_sets

-- who waits at an object or at none
abbrev pub waiters_of : {T : Type 0} → Option (Awaited T) → List Waiting
waiters_of None = []
waiters_of (Some w) = w.waiters

wait-in : {T : Type 0} (pid : ℕ) (o : Option (Awaited T)) → wait_in pid o ≡ wait_of pid (waiters_of o)
wait-in pid None = refl
wait-in pid (Some w) = refl

-- a call on a queue, a removal among them, that has its reply
pub queue-replied : (k : Kernel) → Fine k → (pid : ℕ) (a : Alive) → Acts k pid a → (call : Call) (reply : Reply)
    → (id : ℕ) (o : Option (Awaited Queue)) → get k.queues id ≡ o → (mid : Kernel) (p : Option (Awaited Queue))
    → OtherQueue k mid id p → (wakes : List Wake) → Settles (waiters_of o) (waiters_of p) wakes
    → Fine (finish_call (wake_all mid wakes) pid call (Some reply))
queue-replied k fine pid a acts call reply id o there mid p m wakes settles =
    let woken : Kernel = wake_all mid wakes
    in let people : People woken.processes =
    woken-people mid.processes (subst People (sym m.processes) fine.people) wakes
    in let j : Kernel = finish_call woken pid call (Some reply)
    in let f : Finishes woken j = finishes woken people pid call (Some reply) (may-reply woken pid call reply)
    in let same : (n : ℕ) → is_some (get j.processes n) ≡ is_some (get k.processes n) =
    λ n.
    f.there n
    ∙ (woken-there mid.processes wakes n ∙ ap (λ (ps : Numbered Process). is_some (get ps n)) m.processes)
    in let queues : (i : ℕ) → get j.queues i ≡ get mid.queues i =
    λ i. ap (λ (qs : Numbered (Awaited Queue)). get qs i) f.queues
    in let sets : (i : ℕ) → get j.sets i ≡ get k.sets i =
    λ i. ap (λ (ss : Numbered (Awaited SemaphoreSet)). get ss i) (f.sets ∙ m.sets)
    in fine-by k j fine
    (record {
      people = f.people;
      processes = λ n h. none-there (get k.processes n) (get j.processes n) (same n) h;
      queues = λ n h. queues n ∙ m.nothing n h;
      sets = λ n h. sets n ∙ h;
      used_processes = f.used_processes ∙ m.used_processes;
      used_queues = f.used_queues ∙ m.used_queues;
      used_sets = f.used_sets ∙ m.used_sets;
    })
    (queue-changes k fine.marks id (waiters_of o) (waiters_of p) wakes
    (λ q. ap (wait_in q) there ∙ wait-in q o) settles j
    (λ q. ap (wait_in q) (queues id ∙ m.here) ∙ wait-in q p)
    (λ i ne. queues i ∙ m.others i ne) sets
    (λ q.
    marks-replied woken people pid call reply q
    ∙ (ap (λ (x : Option Call). (if nat_eq pid q then None else x))
    (marks-woken mid.processes wakes q
    ∙ ap (λ (ps : Numbered Process). (if is_woken q wakes then None else mark_in ps q)) m.processes)
    ∙ marks-both k pid a acts wakes q))
    (subst (λ (qs : Numbered (Awaited Queue)). AllValues (λ w. WaitOnce w.waiters) qs) (sym f.queues) m.once)
    (subst (λ (ss : Numbered (Awaited SemaphoreSet)). AllValues (λ w. WaitOnce w.waiters) ss) (sym (f.sets ∙ m.sets))
    fine.marks.sets_once))

-- the same on a set
pub set-replied : (k : Kernel) → Fine k → (pid : ℕ) (a : Alive) → Acts k pid a → (call : Call) (reply : Reply) (id : ℕ)
    → (o : Option (Awaited SemaphoreSet)) → get k.sets id ≡ o → (mid : Kernel) (p : Option (Awaited SemaphoreSet))
    → OtherSet k mid id p → (wakes : List Wake) → Settles (waiters_of o) (waiters_of p) wakes
    → Fine (finish_call (wake_all mid wakes) pid call (Some reply))
set-replied k fine pid a acts call reply id o there mid p m wakes settles =
    let woken : Kernel = wake_all mid wakes
    in let people : People woken.processes =
    woken-people mid.processes (subst People (sym m.processes) fine.people) wakes
    in let j : Kernel = finish_call woken pid call (Some reply)
    in let f : Finishes woken j = finishes woken people pid call (Some reply) (may-reply woken pid call reply)
    in let same : (n : ℕ) → is_some (get j.processes n) ≡ is_some (get k.processes n) =
    λ n.
    f.there n
    ∙ (woken-there mid.processes wakes n ∙ ap (λ (ps : Numbered Process). is_some (get ps n)) m.processes)
    in let sets : (i : ℕ) → get j.sets i ≡ get mid.sets i =
    λ i. ap (λ (ss : Numbered (Awaited SemaphoreSet)). get ss i) f.sets
    in let queues : (i : ℕ) → get j.queues i ≡ get k.queues i =
    λ i. ap (λ (qs : Numbered (Awaited Queue)). get qs i) (f.queues ∙ m.queues)
    in fine-by k j fine
    (record {
      people = f.people;
      processes = λ n h. none-there (get k.processes n) (get j.processes n) (same n) h;
      queues = λ n h. queues n ∙ h;
      sets = λ n h. sets n ∙ m.nothing n h;
      used_processes = f.used_processes ∙ m.used_processes;
      used_queues = f.used_queues ∙ m.used_queues;
      used_sets = f.used_sets ∙ m.used_sets;
    })
    (set-changes k fine.marks id (waiters_of o) (waiters_of p) wakes
    (λ q. ap (wait_in q) there ∙ wait-in q o) settles j
    (λ q. ap (wait_in q) (sets id ∙ m.here) ∙ wait-in q p)
    (λ i ne. sets i ∙ m.others i ne) queues
    (λ q.
    marks-replied woken people pid call reply q
    ∙ (ap (λ (x : Option Call). (if nat_eq pid q then None else x))
    (marks-woken mid.processes wakes q
    ∙ ap (λ (ps : Numbered Process). (if is_woken q wakes then None else mark_in ps q)) m.processes)
    ∙ marks-both k pid a acts wakes q))
    (subst (λ (qs : Numbered (Awaited Queue)). AllValues (λ w. WaitOnce w.waiters) qs) (sym (f.queues ∙ m.queues))
    fine.marks.queues_once)
    (subst (λ (ss : Numbered (Awaited SemaphoreSet)). AllValues (λ w. WaitOnce w.waiters) ss) (sym f.sets) m.once))

-- a call that parks at a queue
pub queue-parked : (k : Kernel) → Fine k → (pid : ℕ) (a : Alive) → Acts k pid a → (call : Call) (id : ℕ)
    → waits_at pid call ≡ Msg id → (q : Awaited Queue) → get k.queues id ≡ Some q → (mid : Kernel) (o : Awaited Queue)
    → OtherQueue k mid id (Some o)
    → ((p : ℕ) → wait_of p o.waiters ≡ (if nat_eq p pid then Some call else wait_of p q.waiters))
    → Fine (finish_call mid pid call None)
queue-parked k fine pid a acts call id place q there mid o m rest =
    let people : People mid.processes = subst People (sym m.processes) fine.people
    in let lives : is_some (living_at mid pid) ≡ true =
    ap (λ (ps : Numbered Process). is_some (living_in ps pid)) m.processes ∙ ap is_some acts.lives
    in let j : Kernel = finish_call mid pid call None
    in let f : Finishes mid j = finishes mid people pid call None
    (may-park mid pid call (isnt-waitpid pid call (Msg id) refl place))
    in let queues : (i : ℕ) → get j.queues i ≡ get mid.queues i =
    λ i. ap (λ (qs : Numbered (Awaited Queue)). get qs i) f.queues
    in let sets : (i : ℕ) → get j.sets i ≡ get k.sets i =
    λ i. ap (λ (ss : Numbered (Awaited SemaphoreSet)). get ss i) (f.sets ∙ m.sets)
    in fine-by k j fine
    (record {
      people = f.people;
      processes =
          λ n h.
          none-there (get k.processes n) (get j.processes n)
          (f.there n ∙ ap (λ (ps : Numbered Process). is_some (get ps n)) m.processes) h;
      queues = λ n h. queues n ∙ m.nothing n h;
      sets = λ n h. sets n ∙ h;
      used_processes = f.used_processes ∙ m.used_processes;
      used_queues = f.used_queues ∙ m.used_queues;
      used_sets = f.used_sets ∙ m.used_sets;
    })
    (queue-parks k fine.marks id (waiter pid call) place (no-mark k pid a acts) q.waiters o.waiters
    (λ p. ap (wait_in p) there) rest j (λ p. ap (wait_in p) (queues id ∙ m.here))
    (λ i ne. queues i ∙ m.others i ne) sets
    (λ p.
    marks-parked mid people pid call lives p
    ∙ (ap (λ (b : Bool). (if b then Some call else mark_in mid.processes p)) (same-either-way pid p)
    ∙ ap (λ (ps : Numbered Process). (if nat_eq p pid then Some call else mark_in ps p)) m.processes))
    (subst (λ (qs : Numbered (Awaited Queue)). AllValues (λ w. WaitOnce w.waiters) qs) (sym f.queues) m.once)
    (subst (λ (ss : Numbered (Awaited SemaphoreSet)). AllValues (λ w. WaitOnce w.waiters) ss) (sym (f.sets ∙ m.sets))
    fine.marks.sets_once))

-- a call that parks at a set
pub set-parked : (k : Kernel) → Fine k → (pid : ℕ) (a : Alive) → Acts k pid a → (call : Call) (id : ℕ)
    → waits_at pid call ≡ Sem id → (s : Awaited SemaphoreSet) → get k.sets id ≡ Some s → (mid : Kernel)
    → (o : Awaited SemaphoreSet) → OtherSet k mid id (Some o)
    → ((p : ℕ) → wait_of p o.waiters ≡ (if nat_eq p pid then Some call else wait_of p s.waiters))
    → Fine (finish_call mid pid call None)
set-parked k fine pid a acts call id place s there mid o m rest =
    let people : People mid.processes = subst People (sym m.processes) fine.people
    in let lives : is_some (living_at mid pid) ≡ true =
    ap (λ (ps : Numbered Process). is_some (living_in ps pid)) m.processes ∙ ap is_some acts.lives
    in let j : Kernel = finish_call mid pid call None
    in let f : Finishes mid j = finishes mid people pid call None
    (may-park mid pid call (isnt-waitpid pid call (Sem id) refl place))
    in let sets : (i : ℕ) → get j.sets i ≡ get mid.sets i =
    λ i. ap (λ (ss : Numbered (Awaited SemaphoreSet)). get ss i) f.sets
    in let queues : (i : ℕ) → get j.queues i ≡ get k.queues i =
    λ i. ap (λ (qs : Numbered (Awaited Queue)). get qs i) (f.queues ∙ m.queues)
    in fine-by k j fine
    (record {
      people = f.people;
      processes =
          λ n h.
          none-there (get k.processes n) (get j.processes n)
          (f.there n ∙ ap (λ (ps : Numbered Process). is_some (get ps n)) m.processes) h;
      queues = λ n h. queues n ∙ h;
      sets = λ n h. sets n ∙ m.nothing n h;
      used_processes = f.used_processes ∙ m.used_processes;
      used_queues = f.used_queues ∙ m.used_queues;
      used_sets = f.used_sets ∙ m.used_sets;
    })
    (set-parks k fine.marks id (waiter pid call) place (no-mark k pid a acts) s.waiters o.waiters
    (λ p. ap (wait_in p) there) rest j (λ p. ap (wait_in p) (sets id ∙ m.here))
    (λ i ne. sets i ∙ m.others i ne) queues
    (λ p.
    marks-parked mid people pid call lives p
    ∙ (ap (λ (b : Bool). (if b then Some call else mark_in mid.processes p)) (same-either-way pid p)
    ∙ ap (λ (ps : Numbered Process). (if nat_eq p pid then Some call else mark_in ps p)) m.processes))
    (subst (λ (qs : Numbered (Awaited Queue)). AllValues (λ w. WaitOnce w.waiters) qs) (sym (f.queues ∙ m.queues))
    fine.marks.queues_once)
    (subst (λ (ss : Numbered (Awaited SemaphoreSet)). AllValues (λ w. WaitOnce w.waiters) ss) (sym f.sets) m.once))
