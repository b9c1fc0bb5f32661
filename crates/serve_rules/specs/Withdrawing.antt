-- A call that waits at a name that is held here is withdrawn.
use Rattle.std.specs.Prelude.{◌≡◌}
use Rattle.pico_base.specs.declared.numbers.Name.{Name}
use Rattle.pico_base.specs.declared.script.Script.{Script}
use Rattle.rpc_frame.specs.declared.asked.Asked.{Asked}
use Rattle.node_model.specs.Bodies.{Body}
use Rattle.node_model.specs.Serving as model
use Rattle.node_model.specs.Serving.{Withdrawn, withdraw}
use Rattle.world_model.specs.Serving.{interrupted}
use Rattle.world_model.specs.Step.{Step}
use Rattle.serve_rules.specs.declared.withdrawing.Interrupted.{Interrupted}
use Rattle.serve_rules.specs.declared.withdrawing.Interrupted.TheVariants.{Done, NotThere, NotHeld}

-- what the withdrawal comes to by the definition
abbrev pub withdrawn_at : Step → Name → Asked → Withdrawn
withdrawn_at step name asked = withdraw step.node.deeds name asked.pid asked.ticket

-- this body is left, and the call has its reply
pub record IsInterrupted (script : Script) (old : Step) (name : Name) (asked : Asked) (new : Step) : Type 0 where
  pub body : Body
  pub is : withdrawn_at old name asked ≡ model.Leaves body
  pub after : new ≡ interrupted script old name asked body

-- nothing is done, and the withdrawal is here still
pub record IsBack (comes : Withdrawn) (old : Step) (name : Name) (asked : Asked) (new : Step) (back : Asked)
    : Type 0 where
  pub is : withdrawn_at old name asked ≡ comes
  pub same : new ≡ old
  pub back_is : back ≡ asked

abbrev pub Interrupts : Script → Step → Name → Asked → Step → Interrupted → Type 0
Interrupts script old name asked new Done = IsInterrupted script old name asked new
Interrupts script old name asked new (NotThere back) = IsBack model.NotThere old name asked new back
Interrupts script old name asked new (NotHeld back) = IsBack model.NotHeld old name asked new back
