-- Who is woken first, and settling round by round.
use Rattle.std.proofs.Common.{◌≡◌, ◌∙◌, ◌<◌, ◌≤◌, inl, inr, ℕ, zero, suc, ◌+◌, ◌-◌, false, List, [], ◌∷◌, ◌++◌, length, slice_get, Option, Some, None, is_some, refl, sym, ap, subst, arith}
use Rattle.std.proofs.lemmas.Bool.{cases_order}
use Rattle.std.proofs.lemmas.List.{append-nil}
use Rattle.std.specs.Prelude.{remove}
use Rattle.std.specs.Option.{option_map}
use Rattle.pico_base.specs.declared.reply.Reply.{Reply}
use Rattle.waiting_model.specs.declared.callers.Waiting.{Waiting}
use Rattle.waiting_model.specs.declared.callers.Wake.{Wake}
use Rattle.waiting_model.specs.declared.callers.Applied.{Applied}
use Rattle.waiting_model.specs.Waiters.{Awaited, Attempt, Try, Ready, Settled, Carried, awaited, replied, attempt, wake, ready_or, ready_behind, first_ready, settle, settle_by, settle_on, carry_out, carry_out_by}
use Rattle.waiter_fields.specs.Settling.{WakesOne, WakesFirst, WakesThere, WakesAt, WaitUpto, IsCarried, IsSettling, SettlesOn}

pub none-of : {X : Type 0} (o : Option X) → is_some o ≡ false → o ≡ None
none-of None h = refl
none-of (Some x) h = absurd (cc)

module _ {T : Type 0} (try : Try T) (state : T) where
  abbrev ready : Waiting → Attempt T → List Waiting → Ready T
  ready w a others = record { waiter = w; attempt = a; others = others }

  waits-passed : (w : Waiting) (ws : List Waiting) → try state w.pid w.call ≡ None
      → first_ready try state (w ∷ ws) ≡ option_map (ready_behind w) (first_ready try state ws)
  waits-passed w ws waits = ap (λ (o : Option (Attempt T)). ready_or w ws o (first_ready try state ws)) waits

  -- where all wait nobody is ready
  pub first-none : (ws : List Waiting)
      → ((k : ℕ) (w : Waiting) → k < length ws → slice_get ws k ≡ Some w → try state w.pid w.call ≡ None)
      → first_ready try state ws ≡ None
  first-none [] all = refl
  first-none (w ∷ ws) all =
      waits-passed w ws (all zero w (omega arith) refl)
      ∙ ap (option_map (ready_behind w)) (first-none ws (λ k v below there. all (suc k) v (omega arith) there))

  -- the first is the one at this place, where those before it wait and it has a reply
  pub first-at : (ws : List Waiting) (i : ℕ) (w : Waiting) (a : Attempt T) → slice_get ws i ≡ Some w
      → ((k : ℕ) (v : Waiting) → k < i → slice_get ws k ≡ Some v → try state v.pid v.call ≡ None)
      → try state w.pid w.call ≡ Some a
      → first_ready try state ws ≡ Some (ready w a (remove ws i))
  first-at [] i w a there before goes = absurd (cc)
  first-at (v ∷ ws) zero w a there before goes =
      let same : v ≡ w = cc
      in let here : try state v.pid v.call ≡ Some a =
      subst (λ (x : Waiting). try state x.pid x.call ≡ Some a) (sym same) goes
      in ap (λ (o : Option (Attempt T)). ready_or v ws o (first_ready try state ws)) here
      ∙ ap (λ (x : Waiting). Some (ready x a ws)) same
  first-at (v ∷ ws) (suc i) w a there before goes =
      waits-passed v ws (before zero v (omega arith) refl)
      ∙ ap (option_map (ready_behind v))
      (first-at ws i w a there (λ k x below is. before (suc k) x (omega arith) is) goes)

module _ {T : Type 0} (try : Try T) where
  -- nobody is woken where all wait
  pub wakes-nobody : (old new : Awaited T) (n : ℕ) → WaitUpto try old n → length old.waiters ≤ n → new ≡ old
      → WakesFirst try old new None
  wakes-nobody old new n all whole same =
      rw (first-none try old.state old.waiters (λ k w below there. all k w (omega (arith, below, whole)) there)) same

  -- a place further, where its waiter goes on waiting
  pub waits-further : (old new : Awaited T) (i : ℕ) → WaitUpto try old i → i < length old.waiters
      → WakesAt try i old new None
      → WaitUpto try old (i + 1) × (new ≡ old)
  waits-further old new i all inside at = here (slice_get old.waiters i) refl at
    where
      here : (o : Option Waiting) → slice_get old.waiters i ≡ o → WakesThere try i old o new None
          → WaitUpto try old (i + 1) × (new ≡ old)
      here None there h = absurd h
      here (Some v) there h = ((λ k w below is. each k w below is), h.1)
        where
          each : (k : ℕ) (w : Waiting) → k < i + 1 → slice_get old.waiters k ≡ Some w
              → try old.state w.pid w.call ≡ None
          each k w below is = elim (cases_order k i) [
            | inl same ↦ at-last k w same is
            | inr (inl lower) ↦ all k w lower is
            | inr (inr higher) ↦ absurd (omega (arith, below, higher))
          ]
            where
              at-last : (k : ℕ) (w : Waiting) → k ≡ i → slice_get old.waiters k ≡ Some w
                  → try old.state w.pid w.call ≡ None
              at-last k w same is =
                  let itself : Some v ≡ Some w = sym there ∙ rw same at is
                  in let one : v ≡ w = cc
                  in subst (λ (x : Waiting). try old.state x.pid x.call ≡ None) one h.0

  -- the waiter of this place is the first that is woken
  pub wakes-there : (old new : Awaited T) (i : ℕ) (woken : Wake) → WaitUpto try old i
      → WakesAt try i old new (Some woken)
      → WakesFirst try old new (Some woken)
  wakes-there old new i woken before at = here (slice_get old.waiters i) refl at
    where
      here : (o : Option Waiting) → slice_get old.waiters i ≡ o → WakesThere try i old o new (Some woken)
          → WakesFirst try old new (Some woken)
      here None there h = absurd h
      here (Some w) there h =
          rw (first-at try old.state old.waiters i w (attempt new.state woken.reply) there before h.0)
          (ap (awaited new.state) (sym h.2), h.1)

  pub settles-start : (start : Awaited T) → SettlesOn try start [] (length start.waiters - 0) start
  settles-start start =
      subst (λ (n : ℕ). SettlesOn try start [] n start) (whole (length start.waiters))
      (record { object = refl; wakes = refl })
    where
      whole : (n : ℕ) → n ≡ n - 0
      whole n = omega arith

  one_more : (w : Wake) (rest : Settled T) (woken : List Wake) (last : Wake) → w ≡ last
      → woken ++ w ∷ rest.wakes ≡ (woken ++ last ∷ []) ++ rest.wakes
  one_more w rest woken last is =
      ap (λ (v : Wake). woken ++ v ∷ rest.wakes) is ∙ regroup woken last rest.wakes
    where
      regroup : {X : Type 0} (xs : List X) (x : X) (ys : List X) → xs ++ x ∷ ys ≡ (xs ++ x ∷ []) ++ ys
      regroup [] x ys = refl
      regroup (y ∷ xs) x ys = ap (λ zs. y ∷ zs) (regroup xs x ys)

  more : (start now next : Awaited T) (woken : List Wake) (left : ℕ) (last : Wake)
      → SettlesOn try start woken (suc left) now
      → WakesFirst try now next (Some last)
      → SettlesOn try start (woken ++ last ∷ []) left next
  more start now next woken left last on wakes =
      here (first_ready try now.state now.waiters) refl wakes
    where
      here : (o : Option (Ready T)) → first_ready try now.state now.waiters ≡ o → WakesOne o now next (Some last)
          → SettlesOn try start (woken ++ last ∷ []) left next
      here None is h = absurd h
      here (Some r) is h =
          let first = ap (λ (o : Option (Ready T)). settle_on now o (settle_by left try)) is
          in record {
            object = on.object ∙ ap (λ (s : Settled T). s.object) first
                ∙ ap (λ (x : Awaited T). (settle_by left try x).object) h.0;
            wakes = on.wakes ∙ ap (λ (s : Settled T). woken ++ s.wakes) first
                ∙ ap (λ (x : Awaited T). woken ++ wake r.waiter r.attempt.reply ∷ (settle_by left try x).wakes) h.0
                ∙ one_more (wake r.waiter r.attempt.reply) (settle_by left try next) woken last h.1;
          }

  -- one round more
  pub settles-more : (start now next : Awaited T) (woken : List Wake) (all i : ℕ) (last : Wake) → i < all
      → SettlesOn try start woken (all - i) now
      → WakesFirst try now next (Some last)
      → SettlesOn try start (woken ++ last ∷ []) (all - (i + 1)) next
  settles-more start now next woken all i last inside on wakes =
      more start now next woken (all - (i + 1)) last
      (subst (λ (n : ℕ). SettlesOn try start woken n now) (fewer all i inside) on) wakes
    where
      fewer : (a b : ℕ) → b < a → a - b ≡ suc (a - (b + 1))
      fewer a b less = omega arith

  rests : (now : Awaited T) (left : ℕ) → first_ready try now.state now.waiters ≡ None
      → settle_by left try now ≡ record { object = now; wakes = [] }
  rests now zero none = refl
  rests now (suc left) none = ap (λ (o : Option (Ready T)). settle_on now o (settle_by left try)) none

  at-rest : (start now : Awaited T) (woken : List Wake) (left : ℕ) → SettlesOn try start woken left now
      → settle_by left try now ≡ record { object = now; wakes = [] }
      → IsSettling (settle try start) now woken
  at-rest start now woken left on is =
      record {
        object = on.object ∙ ap (λ (s : Settled T). s.object) is;
        wakes = on.wakes ∙ ap (λ (s : Settled T). woken ++ s.wakes) is ∙ append-nil woken;
      }

  -- where nobody can go on settling is done
  pub settles-done : (start now next : Awaited T) (woken : List Wake) (left : ℕ)
      → SettlesOn try start woken left now
      → WakesFirst try now next None
      → IsSettling (settle try start) next woken
  settles-done start now next woken left on wakes = here (first_ready try now.state now.waiters) refl wakes
    where
      here : (o : Option (Ready T)) → first_ready try now.state now.waiters ≡ o → WakesOne o now next None
          → IsSettling (settle try start) next woken
      here None is h = rw h (at-rest start now woken left on (rests now left is))
      here (Some r) is h = absurd h

  -- and after all rounds
  pub settles-out : (start now : Awaited T) (woken : List Wake) (all i : ℕ) → all ≤ i
      → SettlesOn try start woken (all - i) now
      → IsSettling (settle try start) now woken
  settles-out start now woken all i out on =
      at-rest start now woken (all - i) on (ap (λ (n : ℕ). settle_by n try now) (none all i out))
    where
      none : (a b : ℕ) → a ≤ b → a - b ≡ zero
      none a b less = omega arith

  abbrev applied-of : Option Reply → List Wake → Applied
  applied-of own woken = record { own = own; wakes = woken }

  -- a call that has its reply
  pub carried-replies : (old mid new : Awaited T) (who : Waiting) (reply : Reply) (woken : List Wake)
      → try old.state who.pid who.call ≡ Some (attempt mid.state reply)
      → mid.waiters ≡ old.waiters
      → IsSettling (settle try mid) new woken
      → IsCarried (carry_out try old who) new (applied-of (Some reply) woken)
  carried-replies old mid new who reply woken goes same settled =
      let whole : awaited mid.state old.waiters ≡ mid = ap (awaited mid.state) (sym same)
      in let is : carry_out try old who ≡ replied reply (settle try mid) =
      ap (carry_out_by try old who) goes ∙ ap (λ (m : Awaited T). replied reply (settle try m)) whole
      in subst (λ (c : Carried T). IsCarried c new (applied-of (Some reply) woken)) (sym is)
      (record { object = settled.object; own = refl; wakes = settled.wakes })

  -- a call that has to wait
  pub carried-parks : (old new : Awaited T) (who : Waiting) → try old.state who.pid who.call ≡ None
      → new ≡ awaited old.state (old.waiters ++ who ∷ [])
      → IsCarried (carry_out try old who) new (applied-of None [])
  carried-parks old new who waits is =
      subst (λ (c : Carried T). IsCarried c new (applied-of None []))
      (sym (ap (carry_out_by try old who) waits))
      (record { object = sym is; own = refl; wakes = refl })
