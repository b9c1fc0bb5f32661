-- What the leader keeps of a known name, and which place that means.
use Rattle.std.specs.Prelude.{ℕ, Bool, true, false, List, [], ◌∷◌, ◌++◌, map, if◌then◌else◌, Option, Some, None, IsTrue, is_none, is_some}
use Rattle.number_maps.specs.Maps.{Numbered, get}
use Rattle.pico_base.specs.declared.numbers.Name.{Name}
use Rattle.node_model.specs.declared.held.Held.{Held}
use Rattle.node_model.specs.declared.route.Route.{Route}
use Rattle.node_model.specs.declared.route.Route.TheVariants as routes
use Rattle.node_model.specs.Kinds.{Named, PerKind}
use Rattle.node_model.specs.Directory.{Directory, Parting, Place, At, Coming, place_of}
use Rattle.lease_leader.specs.declared.spot.Spot.{Spot}
use Rattle.lease_leader.specs.declared.spot.Spot.TheVariants as spots

-- A name that came to a node is at it. One that came to a node that stayed is on its way as soon as that node parts,
-- with no destination and nothing held.
abbrev pub place_by : Numbered Parting → Spot → Place
place_by partings (spots.WhileItStays node) = if is_none (get partings node) then At node else Coming None []
place_by partings (spots.Regardless node) = At node
place_by partings (spots.Coming to held) = Coming to held

abbrev pub places_by : Numbered Parting → Numbered Spot → Numbered Place
places_by partings kept = map (λ e. (e.0, place_by partings e.1)) kept

abbrev pub all_places_by : Numbered Parting → Named Spot → Named Place
all_places_by partings kept =
    record {
      processes = places_by partings kept.processes;
      queues = places_by partings kept.queues;
      sets = places_by partings kept.sets;
    }

-- the directory, by what is kept of it
abbrev pub directory_by : Numbered Parting → Named Spot → PerKind (List ℕ) → Directory
directory_by partings kept ranges =
    record { places = all_places_by partings kept; partings = partings; ranges = ranges }

-- what is kept of a name that comes to a node, which stays or not
abbrev pub spot_at : ℕ → Bool → Spot
spot_at node true = spots.WhileItStays node
spot_at node false = spots.Regardless node

-- where the deed of a name that is on its way is to go
abbrev pub destination_in : Spot → Option ℕ
destination_in (spots.WhileItStays node) = None
destination_in (spots.Regardless node) = None
destination_in (spots.Coming to held) = to

-- what is held for a name
abbrev pub items_in : Spot → List Held
items_in (spots.WhileItStays node) = []
items_in (spots.Regardless node) = []
items_in (spots.Coming to held) = held

-- a name that is on its way, with a further item held
abbrev pub with_item : Spot → Held → Spot
with_item (spots.WhileItStays node) item = spots.Coming None (item ∷ [])
with_item (spots.Regardless node) item = spots.Coming None (item ∷ [])
with_item (spots.Coming to held) item = spots.Coming to (held ++ item ∷ [])

-- where a call on a known name goes
abbrev pub route_of : Place → Route
route_of (At node) = routes.At node
route_of (Coming to items) = routes.Coming

-- a known name that is at a node
abbrev pub is_at_node : Option Place → Bool
is_at_node None = false
is_at_node (Some (At node)) = true
is_at_node (Some (Coming to items)) = false

abbrev pub is_at : Directory → Name → Bool
is_at d name = is_at_node (place_of d name)

-- What came to a node regardless came when that node had told that it parts: what is kept says so still when it parts.
abbrev pub IsLate : Numbered Parting → Spot → Type 0
IsLate partings (spots.WhileItStays node) = Unit {0}
IsLate partings (spots.Regardless node) = IsTrue (is_some (get partings node))
IsLate partings (spots.Coming to held) = Unit {0}

abbrev pub AreLate : Numbered Parting → Numbered Spot → Type 0
AreLate partings [] = Unit {0}
AreLate partings (e ∷ kept) = IsLate partings e.1 × AreLate partings kept

pub record AllAreLate (partings : Numbered Parting) (kept : Named Spot) : Type 0 where
  pub processes : AreLate partings kept.processes
  pub queues : AreLate partings kept.queues
  pub sets : AreLate partings kept.sets
