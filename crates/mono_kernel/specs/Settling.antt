-- Who is woken first, and all who are woken in turn, as pairs of a process and its reply.
use Rattle.std.specs.Prelude.{◌≡◌, ◌<◌, ℕ, List, ◌++◌, map, remove, slice_get, Option, Some, None}
use Rattle.pico_base.specs.declared.reply.Reply.{Reply}
use Rattle.waiting_model.specs.declared.callers.Waiting.{Waiting}
use Rattle.waiting_model.specs.Effect.{woken_pair}
use Rattle.waiting_model.specs.Waiters.{Awaited, Try, Ready, Settled, awaited, wake, first_ready, attempt, settle, settle_by}

-- the first whose try gives a reply has it and doesn't wait any more; where there is none all stays
abbrev pub WakesOne : {T : Type 0} → Option (Ready T) → Awaited T → Awaited T → Option (ℕ × Reply) → Type 0
WakesOne None old new None = new ≡ old
WakesOne None old new (Some pair) = ⊥
WakesOne (Some r) old new None = ⊥
WakesOne (Some r) old new (Some pair) =
    (awaited r.attempt.state r.others ≡ new) × (woken_pair (wake r.waiter r.attempt.reply) ≡ pair)

abbrev pub WakesFirst : {T : Type 0} → Try T → Awaited T → Awaited T → Option (ℕ × Reply) → Type 0
WakesFirst try old new pair = WakesOne (first_ready try old.state old.waiters) old new pair

-- the waiter of a place has a reply, and doesn't wait any more, or goes on waiting
abbrev pub WakesThere : {T : Type 0} → Try T → ℕ → Awaited T → Option Waiting → Awaited T → Option (ℕ × Reply) → Type 0
WakesThere try place old None new pair = ⊥
WakesThere try place old (Some w) new None = (try old.state w.pid w.call ≡ None) × (new ≡ old)
WakesThere try place old (Some w) new (Some pair) =
    (try old.state w.pid w.call ≡ Some (attempt new.state pair.1))
    × ((w.pid ≡ pair.0) × (new.waiters ≡ remove old.waiters place))

abbrev pub WakesAt : {T : Type 0} → Try T → ℕ → Awaited T → Awaited T → Option (ℕ × Reply) → Type 0
WakesAt try place old new pair = WakesThere try place old (slice_get old.waiters place) new pair

-- the waiters of the first so many places go on waiting
abbrev pub WaitUpto : {T : Type 0} → Try T → Awaited T → ℕ → Type 0
WaitUpto try object n =
    (k : ℕ) (w : Waiting) → k < n → slice_get object.waiters k ≡ Some w → try object.state w.pid w.call ≡ None

-- what settling leaves, and whom it wakes
pub record IsSettling {T : Type 0} (s : Settled T) (new : Awaited T) (pairs : List (ℕ × Reply)) : Type 0 where
  pub object : s.object ≡ new
  pub woken : map woken_pair s.wakes ≡ pairs

-- settling from a state is so many rounds from another, behind those who were woken so far
pub record SettlesOn {T : Type 0} (try : Try T) (start : Awaited T) (pairs : List (ℕ × Reply)) (left : ℕ)
    (now : Awaited T) : Type 0 where
  pub object : (settle try start).object ≡ (settle_by left try now).object
  pub woken : map woken_pair (settle try start).wakes ≡ pairs ++ map woken_pair (settle_by left try now).wakes
