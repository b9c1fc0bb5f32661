-- Who is woken first, and all who are woken in turn.
use Rattle.std.specs.Prelude.{◌≡◌, ℕ, List, ◌++◌, Option, Some, None}
use Rattle.std.specs.Option.{option_map}
use Rattle.pico_base.specs.declared.reply.Reply.{Reply}
use Rattle.index_links.specs.Nodes.{Node, node_at, without}
use Rattle.kernel_model.specs.SemaphoreSet.{SemaphoreSet}
use Rattle.waiting_model.specs.declared.callers.Waiting.{Waiting}
use Rattle.waiting_model.specs.declared.callers.Wake.{Wake}
use Rattle.waiting_model.specs.Waiters.{Awaited, Attempt, Try, Ready, Settled, attempt, awaited, wake, first_ready, settle, settle_by}
use Rattle.sysv_sem.specs.Waiters.{waiters_in, try_steps}

abbrev pub ready : {T : Type 0} → Waiting → Attempt T → List Waiting → Ready T
ready w a others = record { waiter = w; attempt = a; others = others }

-- the first who can go on, as it is linked
pub record IsReadyAt (old new : SemaphoreSet) (nodes : List (Node Waiting)) (slot : ℕ) (reply : Reply) : Type 0 where
  pub waiter : Waiting
  pub at : option_map (λ n. n.value) (node_at slot nodes) ≡ Some waiter
  pub first : first_ready try_steps old (waiters_in nodes)
      ≡ Some (ready waiter (attempt new reply) (waiters_in (without slot nodes)))

-- what was found: who can go on, which the new set has done, or that nobody can, and all stays
abbrev pub FindsReady : SemaphoreSet → SemaphoreSet → List (Node Waiting) → Option (ℕ × Reply) → Type 0
FindsReady old new nodes None = (first_ready try_steps old (waiters_in nodes) ≡ None) × (new ≡ old)
FindsReady old new nodes (Some x) = IsReadyAt old new nodes x.0 x.1

-- the first whose try gives a reply has it and doesn't wait any more; where there is none all stays
abbrev pub WakesOne : {T : Type 0} → Option (Ready T) → Awaited T → Awaited T → Option Wake → Type 0
WakesOne None old new None = new ≡ old
WakesOne None old new (Some w) = ⊥
WakesOne (Some r) old new None = ⊥
WakesOne (Some r) old new (Some w) =
    (awaited r.attempt.state r.others ≡ new) × (wake r.waiter r.attempt.reply ≡ w)

abbrev pub WakesFirst : {T : Type 0} → Try T → Awaited T → Awaited T → Option Wake → Type 0
WakesFirst try old new w = WakesOne (first_ready try old.state old.waiters) old new w

-- what settling leaves, and whom it wakes
abbrev pub settled : {T : Type 0} → Awaited T → List Wake → Settled T
settled object wakes = record { object = object; wakes = wakes }

-- settling from a state is so many rounds from another, behind those who were woken so far
pub record SettlesOn {T : Type 0} (try : Try T) (start : Awaited T) (woken : List Wake) (left : ℕ) (now : Awaited T)
    : Type 0 where
  pub object : (settle try start).object ≡ (settle_by left try now).object
  pub wakes : (settle try start).wakes ≡ woken ++ (settle_by left try now).wakes
