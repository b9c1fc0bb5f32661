-- A waiter is taken out of a body, by its process and its ticket.
use Rattle.std.specs.Prelude.{◌≡◌, ℕ, Bool, true, false, if◌then◌else◌}
use Rattle.pico_base.specs.declared.numbers.Name.{Name}
use Rattle.node_model.specs.Bodies as model
use Rattle.node_model.specs.Kinds.{Named, put_named}
use Rattle.node_model.specs.Serving as definition
use Rattle.node_model.specs.Serving.{body_without, has_waiter}
use Rattle.node_serve.specs.declared.body.Body.{Body}
use Rattle.node_serve.specs.declared.waiters.Withdrawn.{Withdrawn}
use Rattle.node_serve.specs.declared.waiters.Withdrawn.TheVariants.{TakenOut, NotThere, NotHeld}
use Rattle.node_serve.specs.Bodies.{bodies_of, body_of}

-- there was one, and the others are left; or there was none, and all stays
abbrev pub TakesOut : ℕ → ℕ → Body → Body → Bool → Type 0
TakesOut pid ticket old new true =
    (has_waiter (body_of old) pid ticket ≡ true) × (body_of new ≡ body_without pid ticket (body_of old))
TakesOut pid ticket old new false = (has_waiter (body_of old) pid ticket ≡ false) × (new ≡ old)

abbrev pub withdrawn_if : Bool → Withdrawn
withdrawn_if there = if there then TakenOut else NotThere

-- the waiter is taken out, and the deeds are with the body that this leaves
pub record Leaves (old : Named Body) (name : Name) (pid ticket : ℕ) (new : Named Body) : Type 0 where
  pub left : model.Body
  pub withdraws : definition.withdraw (bodies_of old) name pid ticket ≡ definition.Leaves left
  pub after : bodies_of new ≡ put_named (bodies_of old) name left

-- as the definition has it
abbrev pub Withdraws : Named Body → Name → ℕ → ℕ → Named Body → Withdrawn → Type 0
Withdraws old name pid ticket new TakenOut = Leaves old name pid ticket new
Withdraws old name pid ticket new NotThere =
    (definition.withdraw (bodies_of old) name pid ticket ≡ definition.NotThere) × (new ≡ old)
Withdraws old name pid ticket new NotHeld =
    (definition.withdraw (bodies_of old) name pid ticket ≡ definition.NotHeld) × (new ≡ old)
