-- Who is woken goes on in order, round by round.
use Rattle.std.proofs.Common.{◌≡◌, ℕ, zero, suc, ◌≤◌, List, [], ◌∷◌, ◌++◌, length, Option, Some, None, refl, ap, sym, subst, arith}
use Rattle.std.specs.List.{AllByRecursion}
use Rattle.pico_base.specs.declared.call.Call.{Call}
use Rattle.pico_base.specs.declared.call.Call.TheVariants as calls
use Rattle.pico_base.specs.declared.reply.Errno.TheVariants.{Einval}
use Rattle.kernel_model.specs.SemaphoreSet.{SemaphoreSet}
use Rattle.waiting_model.specs.declared.callers.Waiting.{Waiting}
use Rattle.waiting_model.specs.Waiters.{Attempt, Awaited, Carried, IsSettled, Ready, Settled, Try, awaited, refused, ready_or, first_ready, settle_on, settle_by, carry_out_by}
use Rattle.waiting_model.specs.Queue.{try_queue}
use Rattle.waiting_model.specs.SemaphoreSet.{carry_out_on_set_by, try_set}
use Rattle.waiting_laws.specs.Order.{WakesInOrder, WakesGoInOrder}
use Rattle.waiting_laws.proofs.Settling.{FirstOf, first-of, nobody}

-- the first who is ready, between those before it, who aren't, and those behind it
record First {T : Type 0} (try : Try T) (state : T) (ws : List Waiting) (r : Ready T) : Type 0 where
  before : List Waiting
  behind : List Waiting
  place : ws ≡ before ++ r.waiter ∷ behind
  waits : AllByRecursion (λ w. try state w.pid w.call ≡ None) before
  goes : try state r.waiter.pid r.waiter.call ≡ Some r.attempt
  others : r.others ≡ before ++ behind

module _ {T : Type 0} where
  abbrev FirstIn : Try T → T → List Waiting → Option (Ready T) → Type 0
  FirstIn try state ws None = AllByRecursion (λ w. try state w.pid w.call ≡ None) ws
  FirstIn try state ws (Some r) = First try state ws r

  in-or : (try : Try T) (state : T) (w : Waiting) (ws : List Waiting) (o : Option (Attempt T))
      → try state w.pid w.call ≡ o → (later : Option (Ready T)) → FirstIn try state ws later
      → FirstIn try state (w ∷ ws) (ready_or w ws o later)
  in-or try state w ws (Some a) is later h =
      record { before = []; behind = ws; place = refl; waits = tt; goes = is; others = refl }
  in-or try state w ws None is None h = (is, h)
  in-or try state w ws None is (Some r) h =
      record {
        before = w ∷ h.before;
        behind = h.behind;
        place = ap (λ (l : List Waiting). w ∷ l) h.place;
        waits = (is, h.waits);
        goes = h.goes;
        others = ap (λ (l : List Waiting). w ∷ l) h.others;
      }

  first-in : (try : Try T) (state : T) (ws : List Waiting) → FirstIn try state ws (first_ready try state ws)
  first-in try state [] = tt
  first-in try state (w ∷ ws) =
      in-or try state w ws (try state w.pid w.call) refl (first_ready try state ws) (first-in try state ws)

  -- settling behind so many rounds at most
  abbrev SettlesInOrder : Try T → Awaited T → Settled T → Type 0
  SettlesInOrder try o s = WakesInOrder try o s.wakes s.object

  order-on : (n : ℕ) (try : Try T) (o : Awaited T) (r : Option (Ready T)) → FirstIn try o.state o.waiters r
      → FirstOf try o.state o.waiters r → length o.waiters ≤ suc n
      → ((rest : Awaited T) → length rest.waiters ≤ n → SettlesInOrder try rest (settle_by n try rest))
      → SettlesInOrder try o (settle_on o r (settle_by n try))
  order-on n try o None f g h rec = (refl, f)
  order-on n try o (Some r) f g h rec =
      let fewer : length r.others ≤ n = omega arith
      in record {
        before = f.before;
        waiter = r.waiter;
        behind = f.behind;
        attempt = r.attempt;
        place = f.place;
        waits = f.waits;
        goes = f.goes;
        is = refl;
        rest =
            subst
            (λ (ws : List Waiting).
            SettlesInOrder try (awaited r.attempt.state ws) (settle_by n try (awaited r.attempt.state r.others)))
            f.others
            (rec (awaited r.attempt.state r.others) fewer);
      }

  in-order : (n : ℕ) (try : Try T) (o : Awaited T) → length o.waiters ≤ n → SettlesInOrder try o (settle_by n try o)
  in-order zero try o h = (refl, nobody (λ w. try o.state w.pid w.call ≡ None) o.waiters h)
  in-order (suc n) try o h =
      order-on n try o (first_ready try o.state o.waiters) (first-in try o.state o.waiters)
      (first-of try o.state o.waiters) h (λ rest fewer. in-order n try rest fewer)

  -- each call that has its reply
  pub carried-in-order : (try : Try T) (o : Awaited T) (who : Waiting) (x : Option (Attempt T)) (a : Attempt T)
      → x ≡ Some a
      → (let c : Carried T = carry_out_by try o who x in WakesInOrder try (awaited a.state o.waiters) c.wakes c.object)
  carried-in-order try o who None a is = absurd (cc)
  carried-in-order try o who (Some b) a is =
      let same : b ≡ a = cc
      in let all : length o.waiters ≤ length o.waiters = omega arith
      in subst
      (λ (y : Attempt T).
      (let c : Carried T = carry_out_by try o who (Some b)
      in WakesInOrder try (awaited y.state o.waiters) c.wakes c.object))
      same
      (in-order (length o.waiters) try (awaited b.state o.waiters) all)

-- a call that counts leaves the set as it was
counts-in-order : (s : Awaited SemaphoreSet) (a : Attempt SemaphoreSet) → IsSettled try_set s
    → Some (refused s.state Einval) ≡ Some a → WakesInOrder try_set (awaited a.state s.waiters) [] s
counts-in-order s a settled is =
    let same : refused s.state Einval ≡ a = cc
    in subst (λ (y : Attempt SemaphoreSet). WakesInOrder try_set (awaited y.state s.waiters) [] s) same (refl, settled)

set-in-order : (s : Awaited SemaphoreSet) (who : Waiting) (call : Call) (a : Attempt SemaphoreSet) → IsSettled try_set s
    → try_set s.state who.pid call ≡ Some a
    → (let c : Carried SemaphoreSet = carry_out_on_set_by s who call
    in who.call ≡ call → WakesInOrder try_set (awaited a.state s.waiters) c.wakes c.object)
set-in-order s who (calls.SemGetNcnt id num) a settled is = λ h. counts-in-order s a settled is
set-in-order s who (calls.SemGetZcnt id num) a settled is = λ h. counts-in-order s a settled is
set-in-order s who call a settled is =
    λ h.
    carried-in-order try_set s who (try_set s.state who.pid who.call) a
    (subst (λ (x : Call). try_set s.state who.pid x ≡ Some a) (sym h) is)

-- at a queue, and at a set
pub wakes-in-order : WakesGoInOrder
wakes-in-order = (
  λ q who a is. carried-in-order try_queue q who (try_queue q.state who.pid who.call) a is,
  λ s who a settled is. set-in-order s who who.call a settled is refl,
)
