-- What the leader and the script have to be besides, so that each call can be carried out.
use Rattle.std.specs.Prelude.{◌≡◌, ◌≤◌, ℕ, true, Some}
use Rattle.pico_base.specs.declared.numbers.Kind.{Kind}
use Rattle.pico_base.specs.declared.numbers.Name.{Name}
use Rattle.pico_base.specs.declared.script.Script.{Script}
use Rattle.number_maps.specs.Rising.{IsRising}
use Rattle.node_model.specs.Directory.{At, has_more, place_of}
use Rattle.world_model.specs.Node.{Node}
use Rattle.world_model.specs.World.{node_count}
use Rattle.route_laws.specs.Watching.{WatchesAsOwner}

-- its watches are its own, its key tables are by rising number, its directory names nodes, and each kind has numbers
-- left
pub record IsReady (n : Node) : Type 0 where
  pub watches : WatchesAsOwner n
  pub queues : IsRising n.leader.queue_keys
  pub sets : IsRising n.leader.set_keys
  pub nodes : (name : Name) (node : ℕ) → place_of n.leader.directory name ≡ Some (At node) → 1 ≤ node
  pub numbers : (kind : Kind) → has_more n.leader.directory kind ≡ true

-- No more processes than there is room for where they wait (profile: at most 32 wait at a queue or a set).
abbrev pub HasFewNodes : Script → Type 0
HasFewNodes script = node_count script ≤ 32
