-- Who waits among those who wait, before and after a call.
use Rattle.std.proofs.Common.{◌≡◌, ◌∙◌, ℕ, zero, suc, Bool, true, false, cond, not, ◌||◌, nat_eq, List, [], ◌∷◌, ◌++◌, map, length, Option, Some, None, is_some, refl, ap, sym, subst, arith}
use Rattle.std.specs.Prelude.{if◌then◌else◌}
use Rattle.std.specs.List.{filter, list_any}
use Rattle.std.proofs.lemmas.Bool.{false≢true}
use Rattle.number_maps.proofs.Order.{eq-same, same-from-nat_eq}
use Rattle.pico_base.specs.declared.call.Call.{Call}
use Rattle.pico_base.specs.declared.reply.Reply.{Reply}
use Rattle.waiting_model.specs.declared.callers.Waiting.{Waiting}
use Rattle.waiting_model.specs.declared.callers.Wake.{Wake}
use Rattle.waiting_model.specs.Waiters.{Attempt, Awaited, Ready, Settled, Carried, Try, awaited, wake, ready_or, first_ready, settle_on, settle_by, carry_out_by, carry_out}
use Rattle.waiting_laws.specs.Parked.{wait_of, WaitOnce}
use Rattle.waiting_laws.proofs.Options.{some-isnt-none}

-- the process is one of those who are woken
abbrev pub is_woken : ℕ → List Wake → Bool
is_woken pid wakes = list_any (λ w. nat_eq pid w.pid) wakes

-- two numbers that a test finds different, the other way round
apart : (a b : ℕ) → nat_eq a b ≡ false → nat_eq b a ≡ false
apart a b h = grind arith

-- who waits with a call isn't who doesn't wait
pub differs : (ws : List Waiting) (p q : ℕ) (call : Call) → wait_of p ws ≡ Some call → wait_of q ws ≡ None
    → nat_eq p q ≡ false
differs ws p q call h g = at (nat_eq p q) refl
  where
    at : (b : Bool) → nat_eq p q ≡ b → nat_eq p q ≡ false
    at false is = is
    at true is =
        some-isnt-none call (wait_of q ws)
        (subst (λ (r : ℕ). wait_of r ws ≡ Some call) (same-from-nat_eq p q is) h) g

-- The first who is ready is taken out: nobody else is.

pub record Took (ws : List Waiting) (w : Waiting) (others : List Waiting) : Type 0 where
  pub rest : (pid : ℕ) → wait_of pid others ≡ (if nat_eq pid w.pid then None else wait_of pid ws)
  pub was : wait_of w.pid ws ≡ Some w.call
  pub once : WaitOnce others

-- of the first
took-first : (w : Waiting) (ws : List Waiting) → wait_of w.pid ws ≡ None → WaitOnce ws → Took (w ∷ ws) w ws
took-first w ws none once =
    record {
      rest = λ pid. at pid (nat_eq pid w.pid) refl;
      was = ap (λ (b : Bool). (if b then Some w.call else wait_of w.pid ws)) (eq-same w.pid);
      once = once;
    }
  where
    at : (pid : ℕ) (b : Bool) → nat_eq pid w.pid ≡ b
        → wait_of pid ws ≡ (if b then None else (if b then Some w.call else wait_of pid ws))
    at pid true is = subst (λ (r : ℕ). wait_of r ws ≡ None) (sym (same-from-nat_eq pid w.pid is)) none
    at pid false is = refl

-- of a later one
took-later : (v : Waiting) (ws : List Waiting) (w : Waiting) (others : List Waiting) → wait_of v.pid ws ≡ None
    → Took ws w others → Took (v ∷ ws) w (v ∷ others)
took-later v ws w others none t =
    let different : nat_eq w.pid v.pid ≡ false = differs ws w.pid v.pid w.call t.was none
    in let turned : nat_eq v.pid w.pid ≡ false = apart w.pid v.pid different
    in record {
      rest = λ pid. at turned pid (nat_eq pid v.pid) refl;
      was = ap (λ (b : Bool). (if b then Some v.call else wait_of w.pid ws)) different ∙ t.was;
      once =
          (t.rest v.pid ∙ (ap (λ (b : Bool). (if b then None else wait_of v.pid ws)) turned ∙ none), t.once);
    }
  where
    at : nat_eq v.pid w.pid ≡ false → (pid : ℕ) (b : Bool) → nat_eq pid v.pid ≡ b
        → (if b then Some v.call else wait_of pid others)
        ≡ (if nat_eq pid w.pid then None else (if b then Some v.call else wait_of pid ws))
    at turned pid true is =
        let other : nat_eq pid w.pid ≡ false =
        subst (λ (r : ℕ). nat_eq r w.pid ≡ false) (sym (same-from-nat_eq pid v.pid is)) turned
        in sym (ap (λ (c : Bool). (if c then None else Some v.call)) other)
    at turned pid false is = t.rest pid

-- nobody is woken twice
abbrev pub OnceWoken : List Wake → Type 0
OnceWoken [] = Unit {0}
OnceWoken (w ∷ wakes) = (is_woken w.pid wakes ≡ false) × OnceWoken wakes

-- What a settling leaves: who is woken waited, and doesn't any more.

pub record Settles (ws : List Waiting) (after : List Waiting) (wakes : List Wake) : Type 0 where
  pub rest : (pid : ℕ) → wait_of pid after ≡ (if is_woken pid wakes then None else wait_of pid ws)
  pub was : (pid : ℕ) → is_woken pid wakes ≡ true → is_some (wait_of pid ws) ≡ true
  pub once : WaitOnce after
  pub twice : OnceWoken wakes

-- nobody is woken
pub none-woken : (ws : List Waiting) → WaitOnce ws → Settles ws ws []
none-woken ws once =
    record { rest = λ pid. refl; was = λ pid h. absurd (false≢true h); once = once; twice = tt }

two-tests : (a b : Bool) (x : Option Call)
    → (if b then None else (if a then None else x)) ≡ (if a || b then None else x)
two-tests true true x = refl
two-tests true false x = refl
two-tests false true x = refl
two-tests false false x = refl

some-under : (a : Bool) (x : Option Call) → is_some (if a then None else x) ≡ true → is_some x ≡ true
some-under true x h = absurd (false≢true h)
some-under false x h = h

-- who is taken out isn't woken later
not-again : (ws : List Waiting) (w : Waiting) (others after : List Waiting) (wakes : List Wake) → Took ws w others
    → Settles others after wakes → (b : Bool) → is_woken w.pid wakes ≡ b → is_woken w.pid wakes ≡ false
not-again ws w others after wakes t s false is = is
not-again ws w others after wakes t s true is =
    let gone : wait_of w.pid others ≡ None =
    t.rest w.pid ∙ ap (λ (b : Bool). (if b then None else wait_of w.pid ws)) (eq-same w.pid)
    in absurd (false≢true (sym (ap is_some gone) ∙ s.was w.pid is))

woken-one-more : (ws : List Waiting) (w : Waiting) (others after : List Waiting) (wakes : List Wake) (reply : Reply)
    → Took ws w others → Settles others after wakes → Settles ws after (wake w reply ∷ wakes)
woken-one-more ws w others after wakes reply t s =
    record {
      rest =
          λ pid.
          s.rest pid
          ∙ (ap (λ (x : Option Call). (if is_woken pid wakes then None else x)) (t.rest pid)
          ∙ two-tests (nat_eq pid w.pid) (is_woken pid wakes) (wait_of pid ws));
      was = λ pid h. at pid (nat_eq pid w.pid) refl h;
      once = s.once;
      twice = (not-again ws w others after wakes t s (is_woken w.pid wakes) refl, s.twice);
    }
  where
    at : (pid : ℕ) (b : Bool) → nat_eq pid w.pid ≡ b → (b || is_woken pid wakes) ≡ true
        → is_some (wait_of pid ws) ≡ true
    at pid true is h =
        ap is_some (subst (λ (r : ℕ). wait_of r ws ≡ Some w.call) (sym (same-from-nat_eq pid w.pid is)) t.was)
    at pid false is h =
        some-under (nat_eq pid w.pid) (wait_of pid ws) (ap is_some (sym (t.rest pid)) ∙ s.was pid h)

module _ {T : Type 0} where
  abbrev TookFirst : List Waiting → Option (Ready T) → Type 0
  TookFirst ws None = Unit {0}
  TookFirst ws (Some r) = Took ws r.waiter r.others

  first-or : (w : Waiting) (ws : List Waiting) → wait_of w.pid ws ≡ None → WaitOnce ws → (o : Option (Attempt T))
      → (later : Option (Ready T)) → TookFirst ws later → TookFirst (w ∷ ws) (ready_or w ws o later)
  first-or w ws none once (Some a) later h = took-first w ws none once
  first-or w ws none once None None h = tt
  first-or w ws none once None (Some r) h = took-later w ws r.waiter r.others none h

  took-ready : (try : Try T) (state : T) (ws : List Waiting) → WaitOnce ws → TookFirst ws (first_ready try state ws)
  took-ready try state [] once = tt
  took-ready try state (w ∷ ws) once =
      first-or w ws once.0 once.1 (try state w.pid w.call) (first_ready try state ws)
      (took-ready try state ws once.1)

  settled-on : (n : ℕ) (try : Try T) (o : Awaited T) (r : Option (Ready T)) → WaitOnce o.waiters
      → TookFirst o.waiters r
      → ((rest : Awaited T) → WaitOnce rest.waiters
      → (let s : Settled T = settle_by n try rest in Settles rest.waiters s.object.waiters s.wakes))
      → (let s : Settled T = settle_on o r (settle_by n try) in Settles o.waiters s.object.waiters s.wakes)
  settled-on n try o None once t rec = none-woken o.waiters once
  settled-on n try o (Some r) once t rec =
      let after : Settled T = settle_by n try (awaited r.attempt.state r.others)
      in woken-one-more o.waiters r.waiter r.others after.object.waiters after.wakes r.attempt.reply t
      (rec (awaited r.attempt.state r.others) t.once)

  -- each settling
  pub settles-by : (n : ℕ) (try : Try T) (o : Awaited T) → WaitOnce o.waiters
      → (let s : Settled T = settle_by n try o in Settles o.waiters s.object.waiters s.wakes)
  settles-by zero try o once = none-woken o.waiters once
  settles-by (suc n) try o once =
      settled-on n try o (first_ready try o.state o.waiters) once (took-ready try o.state o.waiters once)
      (λ rest h. settles-by n try rest h)

-- A call that parks goes behind the others.

none-first : (pid : ℕ) (w : Waiting) (ws : List Waiting) → wait_of pid (w ∷ ws) ≡ None → nat_eq pid w.pid ≡ false
none-first pid w ws h = at (nat_eq pid w.pid) refl
  where
    at : (b : Bool) → nat_eq pid w.pid ≡ b → nat_eq pid w.pid ≡ false
    at false is = is
    at true is =
        some-isnt-none w.call (wait_of pid (w ∷ ws))
        (ap (λ (c : Bool). (if c then Some w.call else wait_of pid ws)) is) h

none-rest : (pid : ℕ) (w : Waiting) (ws : List Waiting) → wait_of pid (w ∷ ws) ≡ None → wait_of pid ws ≡ None
none-rest pid w ws h =
    sym (ap (λ (b : Bool). (if b then Some w.call else wait_of pid ws)) (none-first pid w ws h)) ∙ h

wait-behind : (ws : List Waiting) (who : Waiting) (pid : ℕ) → wait_of who.pid ws ≡ None
    → wait_of pid (ws ++ who ∷ []) ≡ (if nat_eq pid who.pid then Some who.call else wait_of pid ws)
wait-behind [] who pid none = refl
wait-behind (w ∷ ws) who pid none =
    at (nat_eq pid w.pid) refl (wait-behind ws who pid (none-rest who.pid w ws none))
  where
    at : (b : Bool) → nat_eq pid w.pid ≡ b
        → wait_of pid (ws ++ who ∷ []) ≡ (if nat_eq pid who.pid then Some who.call else wait_of pid ws)
        → (if b then Some w.call else wait_of pid (ws ++ who ∷ []))
        ≡ (if nat_eq pid who.pid then Some who.call else (if b then Some w.call else wait_of pid ws))
    at true is rec =
        let other : nat_eq pid who.pid ≡ false =
        subst (λ (r : ℕ). nat_eq r who.pid ≡ false) (sym (same-from-nat_eq pid w.pid is))
        (apart who.pid w.pid (none-first who.pid w ws none))
        in sym (ap (λ (c : Bool). (if c then Some who.call else Some w.call)) other)
    at false is rec = rec

once-behind : (ws : List Waiting) (who : Waiting) → WaitOnce ws → wait_of who.pid ws ≡ None
    → WaitOnce (ws ++ who ∷ [])
once-behind [] who once none = (refl, tt)
once-behind (w ∷ ws) who once none = (
  wait-behind ws who w.pid (none-rest who.pid w ws none)
      ∙ (ap (λ (b : Bool). (if b then Some who.call else wait_of w.pid ws))
      (apart who.pid w.pid (none-first who.pid w ws none))
      ∙ once.0),
  once-behind ws who once.1 (none-rest who.pid w ws none),
)

-- what a call leaves, by whether it parks
abbrev pub Carries : List Waiting → Waiting → List Waiting → List Wake → Option Reply → Type 0
Carries ws who after wakes None =
    (wakes ≡ []) × ((pid : ℕ) → wait_of pid after ≡ (if nat_eq pid who.pid then Some who.call else wait_of pid ws))
    × WaitOnce after
Carries ws who after wakes (Some reply) = Settles ws after wakes

carries-by : {T : Type 0} (try : Try T) (o : Awaited T) (who : Waiting) (x : Option (Attempt T)) → WaitOnce o.waiters
    → wait_of who.pid o.waiters ≡ None
    → (let c : Carried T = carry_out_by try o who x in Carries o.waiters who c.object.waiters c.wakes c.own)
carries-by try o who None once none =
    (refl, λ pid. wait-behind o.waiters who pid none, once-behind o.waiters who once none)
carries-by try o who (Some a) once none = settles-by (length o.waiters) try (awaited a.state o.waiters) once

-- each call that is carried out by a process that doesn't wait there
pub carries : {T : Type 0} (try : Try T) (o : Awaited T) (who : Waiting) → WaitOnce o.waiters
    → wait_of who.pid o.waiters ≡ None
    → (let c : Carried T = carry_out try o who in Carries o.waiters who c.object.waiters c.wakes c.own)
carries try o who once none = carries-by try o who (try o.state who.pid who.call) once none

-- A withdrawal takes out the process alone.

-- those who wait but for this process
abbrev pub left_by : ℕ → List Waiting → List Waiting
left_by p ws = filter (λ w. not (nat_eq p w.pid)) ws

-- all others wait as they did
pub wait-left : (p : ℕ) (ws : List Waiting) (pid : ℕ)
    → wait_of pid (left_by p ws) ≡ (if nat_eq pid p then None else wait_of pid ws)
wait-left p [] pid = nothing (nat_eq pid p)
  where
    nothing : (b : Bool) → None ≡ (if b then None else (let x : Option Call = None in x))
    nothing true = refl
    nothing false = refl
wait-left p (w ∷ ws) pid = at (nat_eq p w.pid) refl (nat_eq pid w.pid) refl (wait-left p ws pid)
  where
    at : (b : Bool) → nat_eq p w.pid ≡ b → (c : Bool) → nat_eq pid w.pid ≡ c
        → wait_of pid (left_by p ws) ≡ (if nat_eq pid p then None else wait_of pid ws)
        → wait_of pid (cond (not b) (w ∷ left_by p ws) (left_by p ws))
        ≡ (if nat_eq pid p then None else (if c then Some w.call else wait_of pid ws))
    at true is false isnt rec = rec
    at true is true same rec =
        let here : nat_eq pid p ≡ true =
        subst (λ (r : ℕ). nat_eq r p ≡ true) (sym (same-from-nat_eq pid w.pid same))
        (subst (λ (r : ℕ). nat_eq w.pid r ≡ true) (sym (same-from-nat_eq p w.pid is)) (eq-same w.pid))
        in rec
        ∙ (ap (λ (d : Bool). (if d then None else wait_of pid ws)) here
        ∙ sym (ap (λ (d : Bool). (if d then None else Some w.call)) here))
    at false isnt false other rec =
        ap (λ (d : Bool). (if d then Some w.call else wait_of pid (left_by p ws))) other ∙ rec
    at false isnt true same rec =
        let there : nat_eq pid p ≡ false =
        subst (λ (r : ℕ). nat_eq r p ≡ false) (sym (same-from-nat_eq pid w.pid same)) (apart p w.pid isnt)
        in ap (λ (d : Bool). (if d then Some w.call else wait_of pid (left_by p ws))) same
        ∙ sym (ap (λ (d : Bool). (if d then None else Some w.call)) there)

none-left : (p : ℕ) (w : Waiting) (ws : List Waiting) → wait_of w.pid ws ≡ None → wait_of w.pid (left_by p ws) ≡ None
none-left p w ws none = wait-left p ws w.pid ∙ still (nat_eq w.pid p)
  where
    still : (b : Bool) → (if b then None else wait_of w.pid ws) ≡ None
    still true = refl
    still false = none

once-if : (b : Bool) (w : Waiting) (ws : List Waiting) → wait_of w.pid ws ≡ None → WaitOnce ws
    → WaitOnce (cond b (w ∷ ws) ws)
once-if true w ws none once = (none, once)
once-if false w ws none once = once

-- nobody twice
pub once-left : (p : ℕ) (ws : List Waiting) → WaitOnce ws → WaitOnce (left_by p ws)
once-left p [] once = tt
once-left p (w ∷ ws) once =
    once-if (not (nat_eq p w.pid)) w (left_by p ws) (none-left p w ws once.0) (once-left p ws once.1)

-- All who wait are woken by a removal.
pub all-woken : (ws : List Waiting) (reply : Reply) (pid : ℕ)
    → is_woken pid (map (λ w. wake w reply) ws) ≡ is_some (wait_of pid ws)
all-woken [] reply pid = refl
all-woken (w ∷ ws) reply pid = at (nat_eq pid w.pid) (all-woken ws reply pid)
  where
    at : (b : Bool) → is_woken pid (map (λ w. wake w reply) ws) ≡ is_some (wait_of pid ws)
        → (b || is_woken pid (map (λ w. wake w reply) ws)) ≡ is_some (if b then Some w.call else wait_of pid ws)
    at true rec = refl
    at false rec = rec

-- each once
pub all-woken-once : (ws : List Waiting) (reply : Reply) → WaitOnce ws → OnceWoken (map (λ w. wake w reply) ws)
all-woken-once [] reply once = tt
all-woken-once (w ∷ ws) reply once =
    (all-woken ws reply w.pid ∙ ap is_some once.0, all-woken-once ws reply once.1)
