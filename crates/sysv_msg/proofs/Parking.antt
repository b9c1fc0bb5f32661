-- Those who wait keep their limits: a call adds its own caller at most, and otherwise leaves some of them, in order.
use Rattle.std.proofs.Common.{◌≡◌, ◌∙◌, ℕ, zero, suc, ◌≤◌, ◌<◌, Bool, true, false, not, ◌||◌, List, [], ◌∷◌, ◌++◌, length, Option, Some, None, refl, sym, ap, subst, arith}
use Rattle.std.specs.Prelude.{nat_eq, remove}
use Rattle.std.specs.List.{list_any, AllByRecursion}
use Rattle.std.proofs.lemmas.Bool.{and_from, and_parts, false≢true}
use Rattle.std.proofs.lemmas.Bool.Decides.{nat_tests}
use Rattle.std.proofs.lemmas.List.{length-append}
use Rattle.pico_base.specs.declared.call.Call.{Call}
use Rattle.pico_base.specs.declared.call.Call.TheVariants as calls
use Rattle.waiting_model.specs.declared.callers.Applied.{Applied}
use Rattle.waiting_model.specs.declared.callers.Waiting.{Waiting}
use Rattle.kernel_model.specs.Queue.{Queue}
use Rattle.waiting_model.specs.Waiters.{Attempt, Awaited, Ready, Try, awaited, carry_out_by, first_ready, ready_or, settle_by, settle_on, waits_here}
use Rattle.waiting_model.specs.Queue.{carry_out_on_queue, try_queue}
use Rattle.waiter_fields.specs.Settling.{IsCarried}
use Rattle.waiter_fields.specs.Waiters.{are_different, max_waiters, processes_of}
use Rattle.sysv_msg.proofs.Settling.{settled-carried}
use Rattle.sysv_msg.specs.Limits.{AreParked, IsParked, is_queue_call, may_wait}

-- ---- some of a list, in order

-- the process is one of theirs
abbrev pub has : ℕ → List Waiting → Bool
has pid ws = list_any (nat_eq pid) (processes_of ws)

-- neither of two
pub or-false : (a b : Bool) → (a || b) ≡ false → (a ≡ false) × (b ≡ false)
or-false true b e = absurd cc
or-false false b e = (refl, e)

or-from : (a b : Bool) → a ≡ false → b ≡ false → (a || b) ≡ false
or-from a b p q = rw (p, q) refl

-- these are some of those, in order
pub record AreOf (all some : List Waiting) : Type 1 where
  pub few : length some ≤ length all
  pub each : (P : Waiting → Type 0) → AllByRecursion P all → AllByRecursion P some
  pub lacks : (pid : ℕ) → has pid all ≡ false → has pid some ≡ false
  pub different : are_different (processes_of all) ≡ true → are_different (processes_of some) ≡ true

pub all-are : (ws : List Waiting) → AreOf ws ws
all-are ws =
    record { few = omega arith; each = λ P h. h; lacks = λ pid h. h; different = λ h. h }

-- all but the first, and some of them
pub of-rest : (w : Waiting) (ws vs : List Waiting) → AreOf ws vs → AreOf (w ∷ ws) vs
of-rest w ws vs o =
    let few = o.few in
    record {
      few = omega arith;
      each = λ P h. o.each P h.1;
      lacks = λ pid h. o.lacks pid (or-false (nat_eq pid w.pid) (has pid ws) h).1;
      different = λ h. o.different (and_parts (not (has w.pid ws)) (are_different (processes_of ws)) h).1;
    }

-- what doesn't hold
pub not-false : (b : Bool) → not b ≡ true → b ≡ false
not-false true e = absurd cc
not-false false e = refl

-- the first, and some of the others
pub with-first : (w : Waiting) (ws vs : List Waiting) → AreOf ws vs → AreOf (w ∷ ws) (w ∷ vs)
with-first w ws vs o =
    let few = o.few in
    record {
      few = omega arith;
      each = λ P h. (h.0, o.each P h.1);
      lacks = λ pid h.
          let t = or-false (nat_eq pid w.pid) (has pid ws) h in
          or-from (nat_eq pid w.pid) (has pid vs) t.0 (o.lacks pid t.1);
      different = λ h.
          let t = and_parts (not (has w.pid ws)) (are_different (processes_of ws)) h in
          and_from (not (has w.pid vs)) (are_different (processes_of vs))
          (ap not (o.lacks w.pid (not-false (has w.pid ws) t.0))) (o.different t.1);
    }

pub some-of : (a b c : List Waiting) → AreOf a b → AreOf b c → AreOf a c
some-of a b c p q =
    let ab = p.few in
    let bc = q.few in
    record {
      few = omega arith;
      each = λ P h. q.each P (p.each P h);
      lacks = λ pid h. q.lacks pid (p.lacks pid h);
      different = λ h. q.different (p.different h);
    }

-- without the one at a place
pub of-removed : (ws : List Waiting) (place : ℕ) → AreOf ws (remove ws place)
of-removed [] zero = all-are []
of-removed [] (suc place) = all-are []
of-removed (w ∷ ws) zero = of-rest w ws ws (all-are ws)
of-removed (w ∷ ws) (suc place) = with-first w ws (remove ws place) (of-removed ws place)

-- ---- those who are left by settling

module _ {T : Type 0} (try : Try T) where
  abbrev OthersOf : List Waiting → Option (Ready T) → Type 1
  OthersOf ws None = Unit {1}
  OthersOf ws (Some r) = AreOf ws r.others

  others-or : (w : Waiting) (ws : List Waiting) (o : Option (Attempt T)) (later : Option (Ready T))
      → OthersOf ws later → OthersOf (w ∷ ws) (ready_or w ws o later)
  others-or w ws (Some a) later h = of-rest w ws ws (all-are ws)
  others-or w ws None None h = tt
  others-or w ws None (Some r) h = with-first w ws r.others h

  others-of : (state : T) (ws : List Waiting) → OthersOf ws (first_ready try state ws)
  others-of state [] = tt
  others-of state (w ∷ ws) =
      others-or w ws (try state w.pid w.call) (first_ready try state ws) (others-of state ws)

  left-on : (n : ℕ) (o : Awaited T) (r : Option (Ready T)) → OthersOf o.waiters r
      → ((rest : Awaited T) → AreOf rest.waiters (settle_by n try rest).object.waiters)
      → AreOf o.waiters (settle_on o r (settle_by n try)).object.waiters
  left-on n o None h rec = all-are o.waiters
  left-on n o (Some r) h rec =
      some-of o.waiters r.others (settle_by n try (awaited r.attempt.state r.others)).object.waiters h
      (rec (awaited r.attempt.state r.others))

  -- settling leaves some of those who waited, in order
  pub left-by : (n : ℕ) (o : Awaited T) → AreOf o.waiters (settle_by n try o).object.waiters
  left-by zero o = all-are o.waiters
  left-by (suc n) o =
      left-on n o (first_ready try o.state o.waiters) (others-of o.state o.waiters) (λ rest. left-by n rest)

-- ---- one more behind them

other-way : (a b : ℕ) → nat_eq a b ≡ false → nat_eq b a ≡ false
other-way a b h = grind (arith, nat_tests)

lacks-behind : (pid : ℕ) (ws : List Waiting) (who : Waiting) → has pid ws ≡ false → nat_eq pid who.pid ≡ false
    → has pid (ws ++ who ∷ []) ≡ false
lacks-behind pid [] who lacks other = or-from (nat_eq pid who.pid) false other refl
lacks-behind pid (w ∷ ws) who lacks other =
    let t = or-false (nat_eq pid w.pid) (has pid ws) lacks in
    or-from (nat_eq pid w.pid) (has pid (ws ++ who ∷ [])) t.0 (lacks-behind pid ws who t.1 other)

different-behind : (ws : List Waiting) (who : Waiting) → are_different (processes_of ws) ≡ true
    → has who.pid ws ≡ false → are_different (processes_of (ws ++ who ∷ [])) ≡ true
different-behind [] who different lacks = refl
different-behind (w ∷ ws) who different lacks =
    let d = and_parts (not (has w.pid ws)) (are_different (processes_of ws)) different in
    let t = or-false (nat_eq who.pid w.pid) (has who.pid ws) lacks in
    and_from (not (has w.pid (ws ++ who ∷ []))) (are_different (processes_of (ws ++ who ∷ [])))
    (ap not (lacks-behind w.pid ws who (not-false (has w.pid ws) d.0) (other-way who.pid w.pid t.0)))
    (different-behind ws who d.1 t.1)

each-behind : (P : Waiting → Type 0) (ws : List Waiting) (who : Waiting) → AllByRecursion P ws → P who
    → AllByRecursion P (ws ++ who ∷ [])
each-behind P [] who h g = (g, tt)
each-behind P (w ∷ ws) who h g = (h.0, each-behind P ws who h.1 g)

-- whether a process waits is told by the processes
pub waits-has : (pid : ℕ) (ws : List Waiting) → list_any (λ w. nat_eq pid w.pid) ws ≡ has pid ws
waits-has pid [] = refl
waits-has pid (w ∷ ws) = ap (λ (b : Bool). nat_eq pid w.pid || b) (waits-has pid ws)

-- ---- what holds of those who wait

-- their limits, but for what the queue has for them
record AreKept (ws : List Waiting) : Type 0 where
  few : length ws ≤ max_waiters
  different : are_different (processes_of ws) ≡ true
  each : AllByRecursion IsParked ws

kept-of : (all some : List Waiting) → AreOf all some → AreKept all → AreKept some
kept-of all some o k =
    let few = o.few in
    let most = k.few in
    record { few = omega arith; different = o.different k.different; each = o.each IsParked k.each }

kept-behind : (ws : List Waiting) (who : Waiting) → AreKept ws → length ws < max_waiters → has who.pid ws ≡ false
    → IsParked who → AreKept (ws ++ who ∷ [])
kept-behind ws who k few lacks parks =
    record {
      few = omega (arith, few, length-append ws (who ∷ []));
      different = different-behind ws who k.different lacks;
      each = each-behind IsParked ws who k.each parks;
    }

-- only a send and a receive wait
waits-alone : (q : Queue) (pid : ℕ) (call : Call) → is_queue_call call ≡ true → try_queue q pid call ≡ None
    → may_wait call ≡ true
waits-alone q pid (calls.MsgSnd id class text nowait) here waits = refl
waits-alone q pid (calls.MsgRcv id class size noerror nowait) here waits = refl
waits-alone q pid (calls.MsgStat id) here waits = absurd cc
waits-alone q pid (calls.MsgSet id qbytes) here waits = absurd cc
waits-alone q pid call here waits = absurd (false≢true here)

kept-by : (q : Awaited Queue) (who : Waiting) (o : Option (Attempt Queue)) → try_queue q.state who.pid who.call ≡ o
    → AreKept q.waiters → 1 ≤ who.ticket → is_queue_call who.call ≡ true → has who.pid q.waiters ≡ false
    → length q.waiters < max_waiters → AreKept (carry_out_by try_queue q who o).object.waiters
kept-by q who None is k ticket here lacks few =
    kept-behind q.waiters who k few lacks
    (record { ticket = ticket; call = waits-alone q.state who.pid who.call here is })
kept-by q who (Some a) is k ticket here lacks few =
    kept-of q.waiters (settle_by (length q.waiters) try_queue (awaited a.state q.waiters)).object.waiters
    (left-by try_queue (length q.waiters) (awaited a.state q.waiters)) k

-- a queue whose limits hold keeps them through each call
pub parked-carried : (q new : Awaited Queue) (who : Waiting) (applied : Applied) → AreParked q → 1 ≤ who.ticket
    → is_queue_call who.call ≡ true → waits_here who.pid q ≡ false → length q.waiters < max_waiters
    → IsCarried (carry_out_on_queue q who) new applied → AreParked new
parked-carried q new who applied p ticket here own few carried =
    let lacks : has who.pid q.waiters ≡ false = sym (waits-has who.pid q.waiters) ∙ own in
    let kept = kept-by q who (try_queue q.state who.pid who.call) refl
    (record { few = p.few; different = p.different; each = p.each }) ticket here lacks few in
    let settled = settled-carried try_queue q who p.settled in
    subst AreParked carried.object
    (record { few = kept.few; different = kept.different; each = kept.each; settled = settled })

-- nobody keeps all limits
pub parked-nobody : (q : Awaited Queue) → q.waiters ≡ [] → AreParked q
parked-nobody q nobody =
    subst AreParked (ap (awaited q.state) (sym nobody))
    (record { few = omega arith; different = refl; each = tt; settled = tt })

-- some of those who wait, at the queue as it is
pub parked-left : (q new : Awaited Queue) → AreParked q → new.state ≡ q.state → AreOf q.waiters new.waiters
    → AreParked new
parked-left q new p same o =
    let kept = kept-of q.waiters new.waiters o
    (record { few = p.few; different = p.different; each = p.each }) in
    record {
      few = kept.few;
      different = kept.different;
      each = kept.each;
      settled = rw same (o.each (λ w. try_queue q.state w.pid w.call ≡ None) p.settled);
    }
