-- What holds of a set and of those who wait at it holds after a call.
use Rattle.std.proofs.Common.{◌≡◌, ◌<◌, ◌≤◌, ℕ, zero, suc, Bool, true, false, nat_eq, cond, List, [], ◌∷◌, ◌++◌, length, Option, Some, None, refl, ap, subst, arith}
use Rattle.std.specs.List.{filter, list_any, AllByRecursion}
use Rattle.std.proofs.lemmas.Bool.{or_parts}
use Rattle.std.proofs.lemmas.List.{length-append}
use Rattle.pico_base.specs.declared.call.Call.{Call}
use Rattle.waiting_model.specs.declared.callers.Waiting.{Waiting}
use Rattle.waiting_model.specs.Waiters.{Attempt, Awaited, Ready, Try, awaited, ready_or, first_ready, settle_on, settle_by, settle, IsSettled}
use Rattle.sysv_sem.specs.Waiters.{max_waiters, IsSetWaiter, LackProcess, HaveOwnProcesses, MayWait}

nobody : (P : Waiting → Type 0) (ws : List Waiting) → length ws ≤ 0 → AllByRecursion P ws
nobody P [] h = tt
nobody P (w ∷ ws) h = absurd (omega arith)

-- ---- who is left where one is woken

module _ {T : Type 0} where
  -- it holds of the others, where one is ready
  abbrev pub OthersHave : (List Waiting → Type 0) → Option (Ready T) → Type 0
  OthersHave Q None = Unit {0}
  OthersHave Q (Some r) = Q r.others

  all_or : (P : Waiting → Type 0) (w : Waiting) (ws : List Waiting) (o : Option (Attempt T))
      (later : Option (Ready T)) → AllByRecursion P (w ∷ ws) → OthersHave (AllByRecursion P) later
      → OthersHave (AllByRecursion P) (ready_or w ws o later)
  all_or P w ws (Some a) later h g = h.1
  all_or P w ws None None h g = tt
  all_or P w ws None (Some r) h g = (h.0, g)

  pub all_others : (P : Waiting → Type 0) (try : Try T) (state : T) (ws : List Waiting) → AllByRecursion P ws
      → OthersHave (AllByRecursion P) (first_ready try state ws)
  all_others P try state [] h = tt
  all_others P try state (w ∷ ws) h =
      all_or P w ws (try state w.pid w.call) (first_ready try state ws) h (all_others P try state ws h.1)

  apart_or : (w : Waiting) (ws : List Waiting) (o : Option (Attempt T)) (later : Option (Ready T))
      → HaveOwnProcesses (w ∷ ws) → OthersHave (LackProcess w.pid) later → OthersHave HaveOwnProcesses later
      → OthersHave HaveOwnProcesses (ready_or w ws o later)
  apart_or w ws (Some a) later h lack g = h.1
  apart_or w ws None None h lack g = tt
  apart_or w ws None (Some r) h lack g = (lack, g)

  apart_others : (try : Try T) (state : T) (ws : List Waiting) → HaveOwnProcesses ws
      → OthersHave HaveOwnProcesses (first_ready try state ws)
  apart_others try state [] h = tt
  apart_others try state (w ∷ ws) h =
      apart_or w ws (try state w.pid w.call) (first_ready try state ws) h
      (all_others (λ v. nat_eq w.pid v.pid ≡ false) try state ws h.0) (apart_others try state ws h.1)

  -- nobody is ready, or the others are one fewer
  abbrev FirstOf : Try T → T → List Waiting → Option (Ready T) → Type 0
  FirstOf try state ws None = AllByRecursion (λ w. try state w.pid w.call ≡ None) ws
  FirstOf try state ws (Some r) = length ws ≡ suc (length r.others)

  first_or : (try : Try T) (state : T) (w : Waiting) (ws : List Waiting) (o : Option (Attempt T))
      → try state w.pid w.call ≡ o → (later : Option (Ready T)) → FirstOf try state ws later
      → FirstOf try state (w ∷ ws) (ready_or w ws o later)
  first_or try state w ws (Some a) is later h = refl
  first_or try state w ws None is None h = (is, h)
  first_or try state w ws None is (Some r) h = ap suc h

  first_of : (try : Try T) (state : T) (ws : List Waiting) → FirstOf try state ws (first_ready try state ws)
  first_of try state [] = tt
  first_of try state (w ∷ ws) =
      first_or try state w ws (try state w.pid w.call) refl (first_ready try state ws) (first_of try state ws)

  -- those who may wait together, one fewer
  may_or : (try : Try T) (state : T) (ws : List Waiting) (o : Option (Ready T)) → length ws ≤ max_waiters
      → FirstOf try state ws o → OthersHave (AllByRecursion IsSetWaiter) o → OthersHave HaveOwnProcesses o
      → OthersHave MayWait o
  may_or try state ws None few first each apart = tt
  may_or try state ws (Some r) few first each apart =
      record { few = omega (arith, first, few); each = each; apart = apart }

  may_others : (try : Try T) (state : T) (ws : List Waiting) → MayWait ws
      → OthersHave MayWait (first_ready try state ws)
  may_others try state ws h =
      may_or try state ws (first_ready try state ws) h.few (first_of try state ws)
      (all_others IsSetWaiter try state ws h.each) (apart_others try state ws h.apart)

  -- ---- settling

  -- what a round keeps, settling keeps: of the state what tries keep, of those who wait what holds of each fewer
  abbrev pub KeepsState : (T → Type 0) → Try T → Type 0
  KeepsState S try = (state : T) (pid : ℕ) (call : Call) (a : Attempt T) → S state → try state pid call ≡ Some a
      → S a.state

  state_or : (S : T → Type 0) (try : Try T) (state : T) (w : Waiting) (ws : List Waiting) (o : Option (Attempt T))
      → try state w.pid w.call ≡ o → (later : Option (Ready T)) → KeepsState S try → S state
      → ((r : Ready T) → later ≡ Some r → S r.attempt.state) → (r : Ready T) → ready_or w ws o later ≡ Some r
      → S r.attempt.state
  state_or S try state w ws (Some a) is later keeps h rest r e =
      let same : record { waiter = w; attempt = a; others = ws } ≡ r = some_is _ r e in
      subst (λ (x : Ready T). S x.attempt.state) same (keeps state w.pid w.call a h is)
    where
      some_is : (x y : Ready T) → Some x ≡ Some y → x ≡ y
      some_is x y e = cc
  state_or S try state w ws None is None keeps h rest r e = absurd (cc)
  state_or S try state w ws None is (Some q) keeps h rest r e =
      let same : record q { others = w ∷ q.others } ≡ r = some_is _ r e in
      subst (λ (x : Ready T). S x.attempt.state) same (rest q refl)
    where
      some_is : (x y : Ready T) → Some x ≡ Some y → x ≡ y
      some_is x y e = cc

  state_first : (S : T → Type 0) (try : Try T) (state : T) (ws : List Waiting) → KeepsState S try → S state
      → (r : Ready T) → first_ready try state ws ≡ Some r → S r.attempt.state
  state_first S try state [] keeps h r e = absurd (cc)
  state_first S try state (w ∷ ws) keeps h r e =
      state_or S try state w ws (try state w.pid w.call) refl (first_ready try state ws) keeps h
      (λ q is. state_first S try state ws keeps h q is) r e

  -- a set whose state and whose waiters are so
  pub record IsSo (S : T → Type 0) (object : Awaited T) : Type 0 where
    pub state : S object.state
    pub waiters : MayWait object.waiters

  so_on : (S : T → Type 0) (n : ℕ) (try : Try T) (object : Awaited T) (o : Option (Ready T)) → IsSo S object
      → OthersHave MayWait o → ((r : Ready T) → o ≡ Some r → S r.attempt.state)
      → ((rest : Awaited T) → IsSo S rest → IsSo S (settle_by n try rest).object)
      → IsSo S (settle_on object o (settle_by n try)).object
  so_on S n try object None h others states rec = h
  so_on S n try object (Some r) h others states rec =
      rec (awaited r.attempt.state r.others) (record { state = states r refl; waiters = others })

  pub settling_keeps : (S : T → Type 0) (n : ℕ) (try : Try T) (object : Awaited T) → KeepsState S try → IsSo S object
      → IsSo S (settle_by n try object).object
  settling_keeps S zero try object keeps h = h
  settling_keeps S (suc n) try object keeps h =
      so_on S n try object (first_ready try object.state object.waiters) h
      (may_others try object.state object.waiters h.waiters)
      (λ r e. state_first S try object.state object.waiters keeps h.state r e)
      (λ rest so. settling_keeps S n try rest keeps so)

  settled_on : (n : ℕ) (try : Try T) (o : Awaited T) (r : Option (Ready T)) → FirstOf try o.state o.waiters r
      → length o.waiters ≤ suc n
      → ((rest : Awaited T) → length rest.waiters ≤ n → IsSettled try (settle_by n try rest).object)
      → IsSettled try (settle_on o r (settle_by n try)).object
  settled_on n try o None f h rec = f
  settled_on n try o (Some r) f h rec =
      let fewer : length r.others ≤ n = omega (arith, f, h) in rec (awaited r.attempt.state r.others) fewer

  -- as many rounds as there are waiters are enough
  pub settled_by : (n : ℕ) (try : Try T) (o : Awaited T) → length o.waiters ≤ n
      → IsSettled try (settle_by n try o).object
  settled_by zero try o h = nobody (λ w. try o.state w.pid w.call ≡ None) o.waiters h
  settled_by (suc n) try o h =
      settled_on n try o (first_ready try o.state o.waiters) (first_of try o.state o.waiters) h
      (λ rest fewer. settled_by n try rest fewer)

  pub settled_whole : (try : Try T) (o : Awaited T) → IsSettled try (settle try o).object
  settled_whole try o =
      let all : length o.waiters ≤ length o.waiters = omega arith in settled_by (length o.waiters) try o all

-- ---- one more who waits

-- what holds of all holds with one more of whom it holds
pub all_behind : (P : Waiting → Type 0) (ws : List Waiting) (w : Waiting) → AllByRecursion P ws → P w
    → AllByRecursion P (ws ++ w ∷ [])
all_behind P [] w h g = (g, tt)
all_behind P (v ∷ ws) w h g = (h.0, all_behind P ws w h.1 g)

eq_other : (m n : ℕ) → nat_eq m n ≡ false → nat_eq n m ≡ false
eq_other m n other = grind arith

apart_behind : (ws : List Waiting) (w : Waiting) → HaveOwnProcesses ws
    → list_any (λ v. nat_eq w.pid v.pid) ws ≡ false → HaveOwnProcesses (ws ++ w ∷ [])
apart_behind [] w h none = (tt, tt)
apart_behind (v ∷ ws) w h none =
    let both = or_parts (nat_eq w.pid v.pid) (list_any (λ v. nat_eq w.pid v.pid) ws) none in (
      all_behind (λ x. nat_eq v.pid x.pid ≡ false) ws w h.0 (eq_other w.pid v.pid both.0),
      apart_behind ws w h.1 both.1,
    )

-- one more may wait, where there is room and its process does not wait
pub may_behind : (ws : List Waiting) (w : Waiting) → MayWait ws → length ws < max_waiters → IsSetWaiter w
    → list_any (λ v. nat_eq w.pid v.pid) ws ≡ false → MayWait (ws ++ w ∷ [])
may_behind ws w h few is none =
    record {
      few = omega (arith, few, length-append ws (w ∷ []));
      each = all_behind IsSetWaiter ws w h.each is;
      apart = apart_behind ws w h.apart none;
    }

-- ---- those who are left where one is taken out

all_kept : (P : Waiting → Type 0) (w : Waiting) (b : Bool) (ws : List Waiting) → P w → AllByRecursion P ws
    → AllByRecursion P (cond b (w ∷ ws) ws)
all_kept P w true ws h g = (h, g)
all_kept P w false ws h g = g

-- what holds of all holds of those who are left
pub all_filtered : (P : Waiting → Type 0) (test : Waiting → Bool) (ws : List Waiting) → AllByRecursion P ws
    → AllByRecursion P (filter test ws)
all_filtered P test [] h = tt
all_filtered P test (w ∷ ws) h = all_kept P w (test w) (filter test ws) h.0 (all_filtered P test ws h.1)

apart_kept : (w : Waiting) (b : Bool) (ws : List Waiting) → LackProcess w.pid ws → HaveOwnProcesses ws
    → HaveOwnProcesses (cond b (w ∷ ws) ws)
apart_kept w true ws lack g = (lack, g)
apart_kept w false ws lack g = g

apart_filtered : (test : Waiting → Bool) (ws : List Waiting) → HaveOwnProcesses ws → HaveOwnProcesses (filter test ws)
apart_filtered test [] h = tt
apart_filtered test (w ∷ ws) h =
    apart_kept w (test w) (filter test ws) (all_filtered (λ v. nat_eq w.pid v.pid ≡ false) test ws h.0)
    (apart_filtered test ws h.1)

few_kept : (w : Waiting) (b : Bool) (ws : List Waiting) (n : ℕ) → length ws ≤ n → length (cond b (w ∷ ws) ws) ≤ suc n
few_kept w true ws n h = omega (arith, h)
few_kept w false ws n h = omega (arith, h)

few_filtered : (test : Waiting → Bool) (ws : List Waiting) → length (filter test ws) ≤ length ws
few_filtered test [] = omega arith
few_filtered test (w ∷ ws) = few_kept w (test w) (filter test ws) (length ws) (few_filtered test ws)

-- those who are left may wait
pub may_filtered : (test : Waiting → Bool) (ws : List Waiting) → MayWait ws → MayWait (filter test ws)
may_filtered test ws h =
    let few = h.few in
    record {
      few = omega (arith, few, few_filtered test ws);
      each = all_filtered IsSetWaiter test ws h.each;
      apart = apart_filtered test ws h.apart;
    }
