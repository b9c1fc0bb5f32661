-- Runs of the machine: any events, each enabled when it comes.
use Rattle.std.specs.Prelude.{◌≡◌, Bool, true, false, ◌&&◌, List, [], ◌∷◌, Some, is_some}
use Rattle.std.specs.List.{list_any}
use Rattle.pico_base.specs.declared.script.Script.{Script}
use Rattle.pico_base.specs.declared.script.Event.{Event}
use Rattle.world_model.specs.Node.{Node, is_living}
use Rattle.world_model.specs.World.{World, opening_world, step, is_enabled}

-- an enabled event, and what holds of the world that it leads to
pub record Goes (w : World) (e : Event) (Rest : World → Type 0) : Type 0 where
  pub enabled : is_enabled w e ≡ true
  pub next : World
  pub steps : step w e ≡ Some next
  pub rest : Rest next

-- these events, one after another, lead from the first world to the last
abbrev pub Runs : World → List Event → World → Type 0
Runs w [] last = w ≡ last
Runs w (e ∷ events) last = Goes w e (λ next. Runs next events last)

-- these events lead from the opening world of the script to this one
abbrev pub IsRunOf : Script → List Event → World → Type 0
IsRunOf script events w = Runs (opening_world script) events w

-- some run leads to it
abbrev pub IsReachableWorld : Script → World → Type 0
IsReachableWorld script w = (events : List Event) × IsRunOf script events w

abbrev pub IsAtRest : World → Type 0
IsAtRest w = (e : Event) → is_enabled w e ≡ false

-- A call waits at a node of the world: its process hasn't ended, and no event will end the wait where the world is at
-- rest.
abbrev pub has_call_under_way : Node → Bool
has_call_under_way n = is_living n.stage && is_some n.caller.under_way

abbrev pub is_stalled : World → Bool
is_stalled w = list_any has_call_under_way w.nodes
