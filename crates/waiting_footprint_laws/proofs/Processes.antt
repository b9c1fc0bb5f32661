-- The law at the calls on processes, but for those that end one.
use Rattle.std.proofs.Common.{◌≡◌, ℕ, Bool, true, false, cond, nat_eq, List, [], ◌∷◌, map, Option, Some, None, Result, Ok, Err, refl, ap, sym, subst}
use Rattle.std.specs.Prelude.{if◌then◌else◌}
use Rattle.std.specs.List.{list_any}
use Rattle.std.proofs.lemmas.Bool.{or_left, or_right, eqb-true}
use Rattle.std.proofs.lemmas.Bool.{eq-eqb}
use Rattle.pico_base.specs.declared.call.Call.{Call}
use Rattle.pico_base.specs.declared.call.Call.TheVariants as calls
use Rattle.pico_base.specs.declared.call.Home.TheVariants as homes
use Rattle.pico_base.specs.declared.numbers.Name.TheVariants.{Proc}
use Rattle.pico_base.specs.declared.reply.Errno.{Errno}
use Rattle.pico_base.specs.declared.reply.Errno.TheVariants.{Einval, Esrch, Echild}
use Rattle.pico_base.specs.declared.reply.Reply.{Reply}
use Rattle.pico_base.specs.declared.reply.Reply.TheVariants.{Num, Fail, Bits, Child}
use Rattle.pico_base.specs.declared.signal.Act.{Act}
use Rattle.pico_base.specs.declared.signal.How.{How}
use Rattle.pico_base.specs.declared.signal.PerSignal.{PerSignal}
use Rattle.pico_base.specs.declared.signal.Sig.{Sig}
use Rattle.pico_base.specs.declared.signal.SigArg.{SigArg}
use Rattle.pico_base.specs.declared.signal.SigArg.TheVariants.{Zero, Is, Bad}
use Rattle.pico_base.specs.Signal.{at}
use Rattle.number_maps.specs.Maps.{get, put, used_with}
use Rattle.number_maps.proofs.Order.{eq-same}
use Rattle.kernel_model.specs.Signals.{Signals, act_on, with_mask, raise}
use Rattle.kernel_model.specs.Row.{EndedChild, matches, first_ended_child, wait_result}
use Rattle.waiting_model.specs.Calls.{withdrawn_from}
use Rattle.waiting_model.specs.Waiters.{waiter}
use Rattle.waiting_model.specs.Marks.{Alive, raise_by_other, with_signals_of}
use Rattle.waiting_model.specs.Kernel.{Kernel, Process, Living, Ended, Gone, living_at, with_alive}
use Rattle.waiting_model.specs.Effect.{park, reply_with}
use Rattle.waiting_model.specs.ProcessCalls.{parent_after_fork, new_child, processes_after_fork, parent_after_wait, reap_child, with_signals, action_effect, kill_at, signal_living, kill}
use Rattle.waiting_model.specs.Transition.{effect, transition}
use Rattle.footprint_laws.proofs.Change.{changes-none, changes-put}
use Rattle.waiting_footprint_laws.specs.Footprint.{Part, MarksOf, Whole, parts_of_ended, home_parts}
use Rattle.waiting_footprint_laws.specs.Law.{AgreeOn, is_whole}
use Rattle.waiting_footprint_laws.specs.Valid.{IsValid}
use Rattle.waiting_footprint_laws.proofs.Effects.{AlikeSteps, Childless, SameEffect, SameEffects, fresh-alike, has_whole, is_parent, made-if, processes-changed, unchanged}
use Rattle.waiting_footprint_laws.proofs.Steps.{LawAt, away-steps, whole-steps}

module _ (parts : List Part) (n : ℕ) (j k : Kernel) (childless : Childless parts) where
  alive-put : (id : ℕ) (a : Alive) (r : Reply) → has_whole parts id ≡ true
      → SameEffect parts j k (record { kernel = with_alive j id a; own = Some r; wakes = [] })
      (record { kernel = with_alive k id a; own = Some r; wakes = [] })
  alive-put id a r t =
      processes-changed parts j k childless (put j.processes id (Living a))
      (put k.processes id (Living a)) j.used_processes k.used_processes (Some r)
      (changes-put (has_whole parts) j.processes k.processes j.processes k.processes id (Living a) t
      (changes-none (has_whole parts) j.processes k.processes))

  acted-alike : (pid : ℕ) (a : Alive) (r : Result Signals Errno) → has_whole parts pid ≡ true
      → SameEffect parts j k (action_effect j pid a r) (action_effect k pid a r)
  acted-alike pid a (Ok s) t = alive-put pid (with_signals_of a s) (Num 0) t
  acted-alike pid a (Err e) t = unchanged parts j k childless (Some (Fail e))

  raised-if : (pid : ℕ) (target : Alive) (g : Sig) (b : Bool) → has_whole parts pid ≡ true
      → SameEffect parts j k
      (reply_with (if b then with_signals j pid target (raise target.row.signals g) else with_alive j pid
      (raise_by_other target g)) 0)
      (reply_with (if b then with_signals k pid target (raise target.row.signals g) else with_alive k pid
      (raise_by_other target g)) 0)
  raised-if pid target g true t = alive-put pid (with_signals_of target (raise target.row.signals g)) (Num 0) t
  raised-if pid target g false t = alive-put pid (raise_by_other target g) (Num 0) t

  signalled-alike : (caller pid : ℕ) (target : Alive) (sig : SigArg) → has_whole parts pid ≡ true
      → SameEffect parts j k (signal_living j caller pid target sig) (signal_living k caller pid target sig)
  signalled-alike caller pid target Zero t = unchanged parts j k childless (Some (Num 0))
  signalled-alike caller pid target Bad t = unchanged parts j k childless (Some (Fail Einval))
  signalled-alike caller pid target (Is g) t = raised-if pid target g (nat_eq caller pid) t

  killed-alike : (caller pid : ℕ) (sig : SigArg) (o : Option Process) → has_whole parts pid ≡ true
      → SameEffect parts j k (kill_at j caller pid sig o) (kill_at k caller pid sig o)
  killed-alike caller pid sig None t = unchanged parts j k childless (Some (Fail Esrch))
  killed-alike caller pid sig (Some Gone) t = unchanged parts j k childless (Some (Fail Esrch))
  killed-alike caller pid sig (Some (Ended ending)) t = unchanged parts j k childless (Some (Num 0))
  killed-alike caller pid sig (Some (Living target)) t = signalled-alike caller pid target sig t

  killed-same : (caller pid : ℕ) (sig : SigArg) → has_whole parts pid ≡ true → get j.processes pid ≡ get k.processes pid
      → SameEffect parts j k (kill_at j caller pid sig (get j.processes pid))
      (kill_at k caller pid sig (get k.processes pid))
  killed-same caller pid sig t h =
      subst (λ o. SameEffect parts j k (kill_at j caller pid sig (get j.processes pid)) (kill_at k caller pid sig o)) h
      (killed-alike caller pid sig (get j.processes pid) t)

  kill-alike : (caller pid : ℕ) (sig : SigArg) → has_whole parts pid ≡ true → get j.processes pid ≡ get k.processes pid
      → SameEffect parts j k (kill j caller pid sig) (kill k caller pid sig)
  kill-alike caller pid Bad t h = unchanged parts j k childless (Some (Fail Einval))
  kill-alike caller pid Zero t h = killed-same caller pid Zero t h
  kill-alike caller pid (Is g) t h = killed-same caller pid (Is g) t h

  waited-if : (nohang : Bool)
      → SameEffect parts j k (if nohang then reply_with j 0 else park j) (if nohang then reply_with k 0 else park k)
  waited-if true = unchanged parts j k childless (Some (Num 0))
  waited-if false = unchanged parts j k childless None

  reaped-alike : (pid : ℕ) (a : Alive) (nohang : Bool) (o : Option EndedChild) (living : Bool)
      → has_whole parts pid ≡ true → ((e : EndedChild) → o ≡ Some e → has_whole parts e.pid ≡ true)
      → SameEffect parts j k (reap_child j pid a nohang (wait_result o living))
      (reap_child k pid a nohang (wait_result o living))
  reaped-alike pid a nohang None true t u = waited-if nohang
  reaped-alike pid a nohang None false t u = unchanged parts j k childless (Some (Fail Echild))
  reaped-alike pid a nohang (Some e) living t u =
      processes-changed parts j k childless
      (put (put j.processes pid (Living (parent_after_wait a e.pid))) e.pid Gone)
      (put (put k.processes pid (Living (parent_after_wait a e.pid))) e.pid Gone)
      j.used_processes k.used_processes (Some (Child e.pid e.ending))
      (changes-put (has_whole parts) j.processes k.processes _ _ e.pid Gone (u e refl)
      (changes-put (has_whole parts) j.processes k.processes j.processes k.processes pid
      (Living (parent_after_wait a e.pid)) t
      (changes-none (has_whole parts) j.processes k.processes)))

-- At the caller.

abbrev own : ℕ → List Part
own pid = MarksOf pid ∷ Whole pid ∷ []

own-here : (pid : ℕ) → has_whole (own pid) pid ≡ true
own-here pid = or_left _ false (eq-same pid)

own-steps : (j k : Kernel) (pid : ℕ) (call : Call) (n : ℕ) → IsValid j → IsValid k → withdrawn_from call ≡ None
    → AgreeOn (own pid) j k
    → ((a : Alive) → SameEffects (own pid) j k (effect j (waiter pid call) a n) (effect k (waiter pid call) a n))
    → AlikeSteps (own pid) j k (transition j pid call n) (transition k pid call n)
own-steps j k pid call n vj vk plain h s =
    whole-steps (own pid) n j k pid call h (or_left _ _ (eq-same pid)) vj vk plain h.1.0 (λ a x. s a)

-- the footprint's law at `getpid`
pub getpid-law : (j k : Kernel) (pid n : ℕ) → LawAt j k pid calls.GetPid n
getpid-law j k pid n vj vk h uj uk =
    own-steps j k pid calls.GetPid n vj vk refl h (λ a. unchanged (own pid) j k (λ p. refl) (Some (Num pid)))

-- the footprint's law at `sigaction`
pub action-law : (j k : Kernel) (pid n : ℕ) (sig : SigArg) (act : Act) → LawAt j k pid (calls.SigAction sig act) n
action-law j k pid n sig act vj vk h uj uk =
    own-steps j k pid (calls.SigAction sig act) n vj vk refl h
    (λ a. acted-alike (own pid) n j k (λ p. refl) pid a (act_on a.row.signals sig act) (own-here pid))

-- the footprint's law at `sigprocmask`
pub mask-law : (j k : Kernel) (pid n : ℕ) (how : How) (set : PerSignal Bool)
    → LawAt j k pid (calls.SigProcMask how set) n
mask-law j k pid n how set vj vk h uj uk =
    own-steps j k pid (calls.SigProcMask how set) n vj vk refl h
    (λ a. alive-put (own pid) n j k (λ p. refl) pid (with_signals_of a (with_mask a.row.signals how set))
    (Bits a.row.signals.mask) (own-here pid))

-- the footprint's law at `sigpending`
pub pending-law : (j k : Kernel) (pid n : ℕ) → LawAt j k pid calls.SigPending n
pending-law j k pid n vj vk h uj uk =
    own-steps j k pid calls.SigPending n vj vk refl h
    (λ a. unchanged (own pid) j k (λ p. refl) (Some (Bits a.row.signals.pending)))

-- the footprint's law at `handled`
pub handled-law : (j k : Kernel) (pid n : ℕ) (sig : Sig) → LawAt j k pid (calls.Handled sig) n
handled-law j k pid n sig vj vk h uj uk =
    own-steps j k pid (calls.Handled sig) n vj vk refl h
    (λ a. unchanged (own pid) j k (λ p. refl) (Some (Num (at a.row.signals.handled sig))))

-- kill

kill-own : (j k : Kernel) (pid n target : ℕ) (sig : SigArg) → nat_eq target pid ≡ true → IsValid j → IsValid k
    → AgreeOn (own pid) j k
    → AlikeSteps (own pid) j k (transition j pid (calls.Kill target sig) n) (transition k pid (calls.Kill target sig) n)
kill-own j k pid n target sig e vj vk h =
    let same : get j.processes target ≡ get k.processes target =
    subst (λ (q : ℕ). get j.processes q ≡ get k.processes q) (sym (eqb-true target pid e)) h.1.0
    in own-steps j k pid (calls.Kill target sig) n vj vk refl h
    (λ a. kill-alike (own pid) n j k (λ p. refl) pid target sig (or_left _ false e) same)

abbrev other : ℕ → ℕ → List Part
other pid target = MarksOf pid ∷ Whole target ∷ []

kill-other : (j k : Kernel) (pid n target : ℕ) (sig : SigArg) → IsValid j → IsValid k
    → AgreeOn (other pid target) j k
    → AlikeSteps (other pid target) j k (transition j pid (calls.Kill target sig) n)
    (transition k pid (calls.Kill target sig) n)
kill-other j k pid n target sig vj vk h =
    away-steps (other pid target) n j k pid (calls.Kill target sig) h (or_left _ _ (eq-same pid)) vj vk refl
    (λ a. refl)
    (λ a b. kill-alike (other pid target) n j k (λ p. refl) pid target sig (or_left _ false (eq-same target)) h.1.0)

-- its home
abbrev killed_parts : Kernel → ℕ → ℕ → ℕ → SigArg → Bool → List Part
killed_parts j pid n target sig b =
    MarksOf pid ∷ home_parts j pid (calls.Kill target sig) n (if b then homes.Own else homes.At (Proc target))

kill-by : (j k : Kernel) (pid n target : ℕ) (sig : SigArg) (b : Bool) → nat_eq target pid ≡ b → IsValid j → IsValid k
    → AgreeOn (killed_parts j pid n target sig b) j k
    → AlikeSteps (killed_parts j pid n target sig b) j k (transition j pid (calls.Kill target sig) n)
    (transition k pid (calls.Kill target sig) n)
kill-by j k pid n target sig true e vj vk h = kill-own j k pid n target sig e vj vk h
kill-by j k pid n target sig false e vj vk h = kill-other j k pid n target sig vj vk h

-- the footprint's law at `kill`
pub kill-law : (j k : Kernel) (pid n target : ℕ) (sig : SigArg) → LawAt j k pid (calls.Kill target sig) n
kill-law j k pid n target Bad vj vk h uj uk =
    own-steps j k pid (calls.Kill target Bad) n vj vk refl h
    (λ a. unchanged (own pid) j k (λ p. refl) (Some (Fail Einval)))
kill-law j k pid n target Zero vj vk h uj uk = kill-by j k pid n target Zero (nat_eq target pid) refl vj vk h
kill-law j k pid n target (Is g) vj vk h uj uk = kill-by j k pid n target (Is g) (nat_eq target pid) refl vj vk h

-- fork

-- the footprint's law at `fork`
pub fork-law : (j k : Kernel) (pid n block : ℕ) → LawAt j k pid (calls.Fork block) n
fork-law j k pid n block vj vk h uj uk =
    let parts = MarksOf pid ∷ Whole pid ∷ Whole n ∷ []
    in let whole : has_whole parts pid ≡ true = or_left _ _ (eq-same pid)
    in let new : has_whole parts n ≡ true = or_right _ _ (or_left _ _ (eq-same n))
    in whole-steps parts n j k pid (calls.Fork block) h (or_left _ _ (eq-same pid)) vj vk refl h.1.0
    (λ a x. made-if parts j k _ _ _ _ (fresh-alike j.used_processes k.used_processes n uj uk)
    (processes-changed parts j k (λ p. refl) (processes_after_fork j.processes pid a n)
    (processes_after_fork k.processes pid a n)
    (used_with j.used_processes n) (used_with k.used_processes n) (Some (Num n))
    (changes-put (has_whole parts) j.processes k.processes _ _ pid (Living (parent_after_fork a n)) whole
    (changes-put (has_whole parts) j.processes k.processes j.processes k.processes n (Living (new_child a)) new
    (changes-none (has_whole parts) j.processes k.processes)))))

-- waitpid

first-by : (which : Option ℕ) (x : EndedChild) (xs : List EndedChild) (e : EndedChild) (b : Bool)
    → cond b (Some x) (first_ended_child which xs) ≡ Some e
    → (first_ended_child which xs ≡ Some e → list_any (is_whole e.pid) (map (λ y. Whole y.pid) xs) ≡ true)
    → list_any (is_whole e.pid) (map (λ y. Whole y.pid) (x ∷ xs)) ≡ true
first-by which x xs e true h rest = let s : e ≡ x = cc in or_left _ _ (eq-eqb e.pid x.pid (ap (λ y. y.pid) s))
first-by which x xs e false h rest = or_right _ _ (rest h)

first-listed : (which : Option ℕ) (es : List EndedChild) (e : EndedChild) → first_ended_child which es ≡ Some e
    → list_any (is_whole e.pid) (map (λ y. Whole y.pid) es) ≡ true
first-listed which [] e h = cc
first-listed which (x ∷ xs) e h = first-by which x xs e (matches which x.pid) h (first-listed which xs e)

parentless : (p : ℕ) (es : List EndedChild) → list_any (is_parent p) (map (λ y. Whole y.pid) es) ≡ false
parentless p [] = refl
parentless p (e ∷ es) = parentless p es

-- the parts of ended children name no parent
pub ended-childless : (p : ℕ) (o : Option Alive) → list_any (is_parent p) (parts_of_ended o) ≡ false
ended-childless p None = refl
ended-childless p (Some a) = parentless p a.row.family.ended

wait-effects : (j k : Kernel) (pid n : ℕ) (child : Option ℕ) (nohang : Bool) (a : Alive) → living_at j pid ≡ Some a
    → SameEffects (MarksOf pid ∷ Whole pid ∷ parts_of_ended (living_at j pid)) j k
    (effect j (waiter pid (calls.WaitPid child nohang)) a n) (effect k (waiter pid (calls.WaitPid child nohang)) a n)
wait-effects j k pid n child nohang a lives =
    let parts = MarksOf pid ∷ Whole pid ∷ parts_of_ended (living_at j pid)
    in reaped-alike parts n j k (λ p. ended-childless p (living_at j pid)) pid a nohang
    (first_ended_child child a.row.family.ended) (list_any (matches child) a.row.family.living)
    (or_left _ _ (eq-same pid))
    (λ e h. or_right _ _ (subst (λ o. list_any (is_whole e.pid) (parts_of_ended o) ≡ true) (sym lives)
    (first-listed child a.row.family.ended e h)))

-- the footprint's law at `waitpid`, which may park
pub wait-law : (j k : Kernel) (pid n : ℕ) (child : Option ℕ) (nohang : Bool)
    → LawAt j k pid (calls.WaitPid child nohang) n
wait-law j k pid n child nohang vj vk h uj uk =
    whole-steps (MarksOf pid ∷ Whole pid ∷ parts_of_ended (living_at j pid)) n j k pid (calls.WaitPid child nohang) h
    (or_left _ _ (eq-same pid)) vj vk refl h.1.0
    (λ a x. wait-effects j k pid n child nohang a x)
