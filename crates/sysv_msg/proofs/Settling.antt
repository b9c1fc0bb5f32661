-- Settling ends with nobody who could go on (as `waiting_laws` has it of the kernel).
use Rattle.std.proofs.Common.{◌≡◌, ℕ, zero, suc, ◌≤◌, List, [], ◌∷◌, ◌++◌, length, Option, Some, None, refl, ap, arith}
use Rattle.std.specs.List.{AllByRecursion}
use Rattle.waiting_model.specs.declared.callers.Waiting.{Waiting}
use Rattle.waiting_model.specs.Waiters.{Attempt, Awaited, Ready, Try, awaited, ready_or, first_ready, settle_on, settle_by, carry_out_by, carry_out, IsSettled}

nobody : (P : Waiting → Type 0) (ws : List Waiting) → length ws ≤ 0 → AllByRecursion P ws
nobody P [] h = tt
nobody P (w ∷ ws) h = absurd (omega arith)

all-behind : (P : Waiting → Type 0) (ws : List Waiting) (w : Waiting) → AllByRecursion P ws → P w
    → AllByRecursion P (ws ++ w ∷ [])
all-behind P [] w h g = (g, tt)
all-behind P (v ∷ ws) w h g = (h.0, all-behind P ws w h.1 g)

module _ {T : Type 0} where
  -- nobody is ready, or the others are one fewer
  abbrev FirstOf : Try T → T → List Waiting → Option (Ready T) → Type 0
  FirstOf try state ws None = AllByRecursion (λ w. try state w.pid w.call ≡ None) ws
  FirstOf try state ws (Some r) = length ws ≡ suc (length r.others)

  first-or : (try : Try T) (state : T) (w : Waiting) (ws : List Waiting) (o : Option (Attempt T))
      → try state w.pid w.call ≡ o → (later : Option (Ready T)) → FirstOf try state ws later
      → FirstOf try state (w ∷ ws) (ready_or w ws o later)
  first-or try state w ws (Some a) is later h = refl
  first-or try state w ws None is None h = (is, h)
  first-or try state w ws None is (Some r) h = ap suc h

  first-of : (try : Try T) (state : T) (ws : List Waiting) → FirstOf try state ws (first_ready try state ws)
  first-of try state [] = tt
  first-of try state (w ∷ ws) =
      first-or try state w ws (try state w.pid w.call) refl (first_ready try state ws) (first-of try state ws)

  settled-on : (n : ℕ) (try : Try T) (o : Awaited T) (r : Option (Ready T)) → FirstOf try o.state o.waiters r
      → length o.waiters ≤ suc n
      → ((rest : Awaited T) → length rest.waiters ≤ n → IsSettled try (settle_by n try rest).object)
      → IsSettled try (settle_on o r (settle_by n try)).object
  settled-on n try o None f h rec = f
  settled-on n try o (Some r) f h rec =
      let fewer : length r.others ≤ n = omega arith
      in rec (awaited r.attempt.state r.others) fewer

  -- as many rounds as there are waiters are enough
  pub settled-by : (n : ℕ) (try : Try T) (o : Awaited T) → length o.waiters ≤ n
      → IsSettled try (settle_by n try o).object
  settled-by zero try o h = nobody (λ w. try o.state w.pid w.call ≡ None) o.waiters h
  settled-by (suc n) try o h =
      settled-on n try o (first_ready try o.state o.waiters) (first-of try o.state o.waiters) h
      (λ rest fewer. settled-by n try rest fewer)

  carried-by : (try : Try T) (o : Awaited T) (who : Waiting) (x : Option (Attempt T))
      → try o.state who.pid who.call ≡ x → IsSettled try o → IsSettled try (carry_out_by try o who x).object
  carried-by try o who None is h = all-behind (λ w. try o.state w.pid w.call ≡ None) o.waiters who h is
  carried-by try o who (Some a) is h =
      let all : length o.waiters ≤ length o.waiters = omega arith
      in settled-by (length o.waiters) try (awaited a.state o.waiters) all

  -- after a call nobody could go on, whether it parks or has its reply
  pub settled-carried : (try : Try T) (o : Awaited T) (who : Waiting) → IsSettled try o
      → IsSettled try (carry_out try o who).object
  settled-carried try o who h = carried-by try o who (try o.state who.pid who.call) refl h
