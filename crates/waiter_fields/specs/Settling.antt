-- Who is woken first, and all who are woken in turn, as a loop finds them.
use Rattle.std.specs.Prelude.{◌≡◌, ◌<◌, ℕ, Bool, ◌&&◌, nat_eq, List, ◌++◌, position, remove, slice_get, Option, Some, None}
use Rattle.waiting_model.specs.declared.callers.Applied.{Applied}
use Rattle.waiting_model.specs.declared.callers.Waiting.{Waiting}
use Rattle.waiting_model.specs.declared.callers.Wake.{Wake}
use Rattle.waiting_model.specs.Waiters.{Awaited, Carried, Try, Ready, Settled, awaited, wake, first_ready, attempt, settle, settle_by}

-- the first whose try gives a reply has it and doesn't wait any more; where there is none all stays
abbrev pub WakesOne : {T : Type 0} → Option (Ready T) → Awaited T → Awaited T → Option Wake → Type 0
WakesOne None old new None = new ≡ old
WakesOne None old new (Some woken) = ⊥
WakesOne (Some r) old new None = ⊥
WakesOne (Some r) old new (Some woken) =
    (awaited r.attempt.state r.others ≡ new) × (wake r.waiter r.attempt.reply ≡ woken)

abbrev pub WakesFirst : {T : Type 0} → Try T → Awaited T → Awaited T → Option Wake → Type 0
WakesFirst try old new woken = WakesOne (first_ready try old.state old.waiters) old new woken

-- the waiter of a place has a reply, and doesn't wait any more, or goes on waiting
abbrev pub WakesThere : {T : Type 0} → Try T → ℕ → Awaited T → Option Waiting → Awaited T → Option Wake → Type 0
WakesThere try place old None new woken = ⊥
WakesThere try place old (Some w) new None = (try old.state w.pid w.call ≡ None) × (new ≡ old)
WakesThere try place old (Some w) new (Some woken) =
    (try old.state w.pid w.call ≡ Some (attempt new.state woken.reply))
    × (wake w woken.reply ≡ woken) × (new.waiters ≡ remove old.waiters place)

abbrev pub WakesAt : {T : Type 0} → Try T → ℕ → Awaited T → Awaited T → Option Wake → Type 0
WakesAt try place old new woken = WakesThere try place old (slice_get old.waiters place) new woken

-- the waiters of the first so many places go on waiting
abbrev pub WaitUpto : {T : Type 0} → Try T → Awaited T → ℕ → Type 0
WaitUpto try object n =
    (k : ℕ) (w : Waiting) → k < n → slice_get object.waiters k ≡ Some w → try object.state w.pid w.call ≡ None

-- what settling leaves, and whom it wakes
pub record IsSettling {T : Type 0} (s : Settled T) (new : Awaited T) (woken : List Wake) : Type 0 where
  pub object : s.object ≡ new
  pub wakes : s.wakes ≡ woken

-- settling from a state is so many rounds from another, behind those who were woken so far
pub record SettlesOn {T : Type 0} (try : Try T) (start : Awaited T) (woken : List Wake) (left : ℕ)
    (now : Awaited T) : Type 0 where
  pub object : (settle try start).object ≡ (settle_by left try now).object
  pub wakes : (settle try start).wakes ≡ woken ++ (settle_by left try now).wakes

-- what carrying out a call leaves there, and what it comes to
pub record IsCarried {T : Type 0} (c : Carried T) (new : Awaited T) (applied : Applied) : Type 0 where
  pub object : c.object ≡ new
  pub own : c.own ≡ applied.own
  pub wakes : c.wakes ≡ applied.wakes

-- the one of this process that waits under this ticket
abbrev pub is_waiter : ℕ → ℕ → Waiting → Bool
is_waiter pid ticket w = nat_eq pid w.pid && nat_eq ticket w.ticket

-- the first that passes a test is taken out of its place
pub record IsTaken (test : Waiting → Bool) (old : List Waiting) (w : Waiting) (new : List Waiting) : Type 0 where
  pub place : ℕ
  pub first : position test old ≡ Some place
  pub there : slice_get old place ≡ Some w
  pub rest : new ≡ remove old place
