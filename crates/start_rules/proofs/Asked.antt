-- A call that the leader can't route can't be asked for.
use Rattle.std.proofs.Common.{◌≡◌, ◌∙◌, ◌⊎◌, inl, inr, Bool, true, None, ap}
use Rattle.std.specs.Prelude.{if◌then◌else◌}
use Rattle.pico_base.specs.declared.call.Call.{Call}
use Rattle.pico_base.specs.declared.call.Home.{Home}
use Rattle.pico_base.specs.declared.call.Home.TheVariants as homes
use Rattle.pico_base.specs.declared.numbers.Name.{Name}
use Rattle.pico_base.specs.declared.script.Script.{Script}
use Rattle.kernel_model.specs.Row.{Row}
use Rattle.node_model.specs.Cache.{Cache}
use Rattle.node_model.specs.Caller.{Caller}
use Rattle.world_model.specs.Node.{asked_here, is_leader}
use Rattle.world_model.specs.Routes.{route_call}
use Rattle.world_model.specs.Starting.{ask, start_by}
use Rattle.world_model.specs.Step.{Step}
use Rattle.route_rules.specs.Asking.{asked_by}
use Rattle.start_rules.specs.Started.{aside}
use Rattle.start_rules.proofs.Routes.{no-route}

chosen : {A : Type 0} (b : Bool) (x y : A) → b ≡ true → (if b then x else y) ≡ x
chosen b x y is = ap (λ (t : Bool). if t then x else y) is

-- at the leader, whatever its caller and its cache are
pub not-asked : (script : Script) (step : Step) (caller : Caller) (cache : Cache) (call : Call)
    → is_leader step.node ≡ true
    → route_call script step (asked_by step.node.number caller.ticket step.node.pid call) ≡ None
    → ask script (aside step caller cache) call ≡ None
not-asked script step caller cache call leads none =
    chosen (is_leader step.node)
    (route_call script (aside step caller cache) (asked_here (aside step caller cache).node call)) _ leads
    ∙ no-route script step caller cache (asked_by step.node.number caller.ticket step.node.pid call) none

-- a call that can't be asked for isn't started, where it is about the keys or a removal
pub not-started : (script : Script) (step : Step) (call : Call) (row : Row) (home : Home)
    → (home ≡ homes.Keys) ⊎ ((name : Name) × (home ≡ homes.Removal name)) → ask script step call ≡ None
    → start_by script step call row home ≡ None
not-started script step call row home (inl keys) none = ap (λ (h : Home). start_by script step call row h) keys ∙ none
not-started script step call row home (inr (name, removal)) none =
    ap (λ (h : Home). start_by script step call row h) removal ∙ none
