-- Who is woken waited there, and has its marks changed alike in both kernels.
use Rattle.std.proofs.Common.{◌≡◌, ℕ, zero, suc, Bool, true, List, [], ◌∷◌, length, map, fold, Option, Some, None}
use Rattle.std.specs.List.{list_any, AllByRecursion}
use Rattle.std.proofs.lemmas.Bool.{or_left, or_right}
use Rattle.pico_base.specs.declared.reply.Reply.{Reply}
use Rattle.number_maps.specs.Maps.{Numbered}
use Rattle.number_maps.proofs.Order.{eq-same}
use Rattle.waiting_model.specs.declared.callers.Waiting.{Waiting}
use Rattle.waiting_model.specs.declared.callers.Wake.{Wake}
use Rattle.waiting_model.specs.Waiters.{Attempt, Awaited, Ready, Settled, Try, awaited, carry_out_by, first_ready, ready_or, settle_by, settle_on, wake}
use Rattle.waiting_model.specs.Marks.{after_reply, marks_after_reply}
use Rattle.waiting_model.specs.Kernel.{Kernel, Process, wake_one}
use Rattle.waiting_footprint_laws.specs.Footprint.{Part, MarksOf}
use Rattle.waiting_footprint_laws.specs.Law.{AgreeOn, is_marks}
use Rattle.waiting_footprint_laws.proofs.Changed.{changed-same, changed-other}
use Rattle.waiting_footprint_laws.proofs.Effects.{AllMoved, has_marks}
use Rattle.waiting_footprint_laws.proofs.Finish.{remarked-at}

-- all who wait pass a test of their numbers
abbrev pub AllWaiting : (ℕ → Bool) → List Waiting → Type 0
AllWaiting t ws = AllByRecursion (λ w. t w.pid ≡ true) ws

-- the same of those who are woken
abbrev pub AllWoken : (ℕ → Bool) → List Wake → Type 0
AllWoken t wakes = AllByRecursion (λ w. t w.pid ≡ true) wakes

module _ (t : ℕ → Bool) where
  module _ {T : Type 0} (try : Try T) where
    -- who is ready, and the others
    abbrev ReadyAll : Option (Ready T) → Type 0
    ReadyAll None = Unit {0}
    ReadyAll (Some r) = (t r.waiter.pid ≡ true) × AllWaiting t r.others

    ready-by : (w : Waiting) (ws : List Waiting) → AllWaiting t (w ∷ ws) → (o : Option (Attempt T))
        → (later : Option (Ready T)) → ReadyAll later → ReadyAll (ready_or w ws o later)
    ready-by w ws h (Some a) later r = (h.0, h.1)
    ready-by w ws h None None r = tt
    ready-by w ws h None (Some l) r = (r.0, (h.0, r.1))

    ready-all : (state : T) (ws : List Waiting) → AllWaiting t ws → ReadyAll (first_ready try state ws)
    ready-all state [] h = tt
    ready-all state (w ∷ ws) h =
        ready-by w ws h (try state w.pid w.call) (first_ready try state ws) (ready-all state ws h.1)

    settled-by : (object : Awaited T) (o : Option (Ready T)) (rest : Awaited T → Settled T) → ReadyAll o
        → ((next : Awaited T) → AllWaiting t next.waiters → AllWoken t (rest next).wakes)
        → AllWoken t (settle_on object o rest).wakes
    settled-by object None rest r go = tt
    settled-by object (Some l) rest r go = (r.0, go (awaited l.attempt.state l.others) r.1)

    settled-all : (n : ℕ) (object : Awaited T) → AllWaiting t object.waiters
        → AllWoken t (settle_by n try object).wakes
    settled-all zero object h = tt
    settled-all (suc n) object h =
        settled-by object (first_ready try object.state object.waiters) (settle_by n try)
        (ready-all object.state object.waiters h) (λ next g. settled-all n next g)

    -- whom a call wakes
    pub carried-all : (object : Awaited T) (who : Waiting) (o : Option (Attempt T)) → AllWaiting t object.waiters
        → AllWoken t (carry_out_by try object who o).wakes
    carried-all object who None h = tt
    carried-all object who (Some a) h = settled-all (length object.waiters) (awaited a.state object.waiters) h

  -- whom a removal wakes
  pub removed-all : (ws : List Waiting) (reply : Reply) → AllWaiting t ws → AllWoken t (map (λ w. wake w reply) ws)
  removed-all [] reply h = tt
  removed-all (w ∷ ws) reply h = (h.0, removed-all ws reply h.1)

  -- whose marks are parts
  pub marked-all : (ws : List Waiting)
      → ((p : ℕ) → list_any (is_marks p) (map (λ (w : Waiting). MarksOf w.pid) ws) ≡ true → t p ≡ true)
      → AllWaiting t ws
  marked-all [] h = tt
  marked-all (w ∷ ws) h =
      (h w.pid (or_left _ _ (eq-same w.pid)), marked-all ws (λ p u. h p (or_right _ _ u)))

-- the wakes of both kernels, one after the other
pub woken-moved : (parts : List Part) (j k : Kernel) → AgreeOn parts j k → (wakes : List Wake)
    → AllWoken (has_marks parts) wakes → (a b : Numbered Process) → AllMoved parts j k a b
    → AllMoved parts j k (fold wake_one a wakes) (fold wake_one b wakes)
woken-moved parts j k h [] t a b m = m
woken-moved parts j k h (w ∷ wakes) t a b m =
    woken-moved parts j k h wakes t.1 (wake_one a w) (wake_one b w)
    (remarked-at parts j k h w.pid marks_after_reply a b (wake_one a w) (wake_one b w) t.0 m
    (changed-same a w.pid after_reply) (changed-same b w.pid after_reply)
    (changed-other a w.pid after_reply) (changed-other b w.pid after_reply))
