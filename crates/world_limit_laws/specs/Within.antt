-- A world whose nodes are within limits, and so is each frame on its way.
use Rattle.std.specs.Prelude.{◌≡◌, ◌≤◌, ℕ, true, Some}
use Rattle.std.specs.List.{AllByRecursion}
use Rattle.pico_base.specs.declared.script.Event.{Event}
use Rattle.pico_base.specs.declared.script.Script.{Script}
use Rattle.kernel_model.specs.Script.{IsSoundScript}
use Rattle.world_model.specs.World.{World, is_enabled, node_count, opening_world, step}
use Rattle.world_laws.specs.Sights.{frames_to, node_of}
use Rattle.limit_laws.specs.Within.{IsFrameWithin, IsNodeWithin}
use Rattle.bound_laws.specs.Bounded.{IsShapedAndBounded}

-- each node, and each frame in each stream
pub record IsWorldWithin (script : Script) (w : World) : Type 0 where
  pub nodes : (p : ℕ) → 1 ≤ p → p ≤ node_count script → IsNodeWithin script (node_of w p)
  pub streams : (to sender : ℕ) → AllByRecursion IsFrameWithin (frames_to w to sender)

-- It holds at first,
abbrev pub OpeningWorldsAreWithinLimits : Type 0
OpeningWorldsAreWithinLimits = (script : Script) → IsWorldWithin script (opening_world script)

-- and each enabled event keeps it.
abbrev pub EventsKeepLimits : Type 0
EventsKeepLimits =
    (script : Script) (w next : World) (e : Event) → IsSoundScript script → IsShapedAndBounded script w
    → IsWorldWithin script w → is_enabled w e ≡ true → step w e ≡ Some next
    → IsWorldWithin script next
