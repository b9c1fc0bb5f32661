-- The machine's turn, under its test, is the step that the node's code makes.
use Rattle.std.proofs.Common.{◌≡◌, ℕ, true, false, ◌||◌, if◌then◌else◌, List, Option, Some, None, IfSome, IsSome, refl, subst, ap}
use Rattle.std.specs.Option.{option_and_then}
use Rattle.pico_base.specs.declared.script.Script.{Script}
use Rattle.rpc_frame.specs.declared.frame.Frame.{Frame}
use Rattle.world_model.specs.Node.{Node, is_born, can_run}
use Rattle.world_model.specs.Starting.{run}
use Rattle.world_model.specs.Turn.{take_frame}
use Rattle.world_model.specs.World.{is_checkpoint}
use Rattle.node_core.specs.declared.turn.Input.TheVariants as inputs
use Rattle.node_core.specs.Step.{step_of}
use Rattle.log_laws.specs.Logs.{Runs, Takes, stamped}
use Rattle.log_model.specs.Views.{Line}
use Rattle.log_model.specs.declared.found.Found.TheVariants as founds
use Rattle.log_model.specs.Turns.{input_of, rule_of, step_if_sent}
use Rattle.node_log.specs.Steps.{sent_step}

-- a run, where the node can run
pub rule-run : (script : Script) (lines : List Line) (n : Node) → can_run n ≡ true
    → rule_of script lines n Runs ≡ sent_step script lines inputs.Run n
unfolding step_of
rule-run script lines n can =
    ap (λ b. option_and_then (step_if_sent lines) (if b then run script n else None)) can

-- a frame, where the node may take it
pub rule-take : (script : Script) (lines : List Line) (n : Node) (from stamp : ℕ) (frame : Frame)
    → is_born n || is_checkpoint frame ≡ true
    → rule_of script lines n (Takes from (stamped stamp frame)) ≡ sent_step script lines (inputs.Take from frame) n
unfolding step_of
rule-take script lines n from stamp frame may =
    ap (λ b. option_and_then (step_if_sent lines) (if b then take_frame script n from frame else None)) may

-- where it may not, there is no rule
pub no_rule-take : (script : Script) (lines : List Line) (n : Node) (from stamp : ℕ) (frame : Frame)
    → is_born n || is_checkpoint frame ≡ false
    → rule_of script lines n (Takes from (stamped stamp frame)) ≡ None
no_rule-take script lines n from stamp frame may =
    ap (λ b. option_and_then (step_if_sent lines) (if b then take_frame script n from frame else None)) may

-- what holds of a node that isn't spent
pub at_node : (P : Node → Type 0) (o : Option Node) (n : Node) → o ≡ Some n → IfSome o P → P n
at_node P o n here h = let Q : Option Node → Type 0 = λ x. IfSome x P in subst Q here h

-- a node that isn't spent is there
pub node-there : (o : Option Node) → IsSome o → (n : Node) × (o ≡ Some n)
node-there None h = absurd (cc)
node-there (Some n) h = (n, refl)

-- where no frame is whole, a node that can runs a line
pub gives-part : (n : Node) → can_run n ≡ true → input_of n founds.Part ≡ Some Runs
gives-part n can = ap (λ b. if b then Some Runs else None) can

-- looks that found nothing give a run, where the node can run
pub gives-nothing : (n : Node) → can_run n ≡ true → input_of n founds.Nothing ≡ Some Runs
gives-nothing n can = ap (λ b. if b then Some Runs else None) can
