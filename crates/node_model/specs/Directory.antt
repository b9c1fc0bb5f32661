-- What the leader knows: where each name is, who leaves, and who was given which numbers.
use Rattle.std.specs.Prelude.{ℕ, ◌+◌, ◌*◌, ◌-◌, ◌/◌, Bool, true, false, not, ◌&&◌, nat_eq, nat_lt, List, [], ◌∷◌, ◌++◌, length, map, if◌then◌else◌, Option, Some, None, is_none, slice_get, sum_by, count_by}
use Rattle.std.specs.List.{list_any}
use Rattle.pico_base.specs.declared.numbers.Kind.{Kind}
use Rattle.pico_base.specs.declared.numbers.Name.{Name}
use Rattle.rpc_frame.specs.declared.deed.Parcel.{Parcel}
use Rattle.node_model.specs.declared.held.Held.{Held}
use Rattle.node_model.specs.declared.held.Held.TheVariants as held
use Rattle.node_model.specs.declared.route.Route.{Route}
use Rattle.node_model.specs.declared.route.Route.TheVariants as routes
use Rattle.number_maps.specs.Maps.{Numbered, get, put}
use Rattle.node_model.specs.Kinds.{PerKind, Named, kind_of, number_of, is_same_name, for_kind, with_kind, get_named, put_named}

-- A known name is at a node, which owns it or will once it has taken what is on its way there; or its deed is on its
-- way to the leader, perhaps to be sent on to a node, and the leader holds what needs it, in order.
pub data Place : Type 0 where
  At : (node : ℕ) → Place
  Coming : (destination : Option ℕ) (held_list : List Held) → Place

-- A node other than the leader has told that it leaves, or it has handed over all that it held. Any other stays.
pub data Parting : Type 0 where
  IsLeaving : Parting
  HasLeft : Parting

-- The places of the known names, the nodes that leave or have left, and for each kind the nodes that were given a
-- range of numbers, in order: numbers 1 to 8, then 9 to 16, and so on.
pub record Directory : Type 0 where
  pub places : Named Place
  pub partings : Numbered Parting
  pub ranges : PerKind (List ℕ)

-- process 1 is at node 1, and the first range of process numbers is node 1's
abbrev pub opening_directory : Directory
opening_directory =
    record {
      places = record { processes = (1, At 1) ∷ []; queues = []; sets = [] };
      partings = [];
      ranges = record { processes = 1 ∷ []; queues = []; sets = [] };
    }

-- ---- numbers

-- how many numbers a range has
abbrev pub range_size : ℕ
range_size = 8

-- how many ranges of a kind there are at most, so that their numbers have four bytes
abbrev pub max_ranges : ℕ
max_ranges = 536870911

abbrev pub has_more : Directory → Kind → Bool
has_more d kind = nat_lt (length (for_kind d.ranges kind)) max_ranges

-- the first number of the next range
abbrev pub upcoming : Directory → Kind → ℕ
upcoming d kind = length (for_kind d.ranges kind) * range_size + 1

abbrev pub with_range : Directory → Kind → ℕ → Directory
with_range d kind node = record d { ranges = with_kind d.ranges kind (for_kind d.ranges kind ++ node ∷ []) }

-- the node that was given the range of a number
abbrev pub maker_in : List ℕ → ℕ → Option ℕ
maker_in ranges number = if nat_eq number 0 then None else slice_get ranges ((number - 1) / range_size)

abbrev pub maker : Directory → Name → Option ℕ
maker d name = maker_in (for_kind d.ranges (kind_of name)) (number_of name)

-- ---- nodes that leave

abbrev pub is_leaving_as : Option Parting → Bool
is_leaving_as None = false
is_leaving_as (Some IsLeaving) = true
is_leaving_as (Some HasLeft) = false

abbrev pub stays : Directory → ℕ → Bool
stays d node = is_none (get d.partings node)

abbrev pub is_leaving : Directory → ℕ → Bool
is_leaving d node = is_leaving_as (get d.partings node)

-- what was at a node that leaves is on its way
abbrev pub place_without : ℕ → Place → Place
place_without node (At owner) = if nat_eq owner node then Coming None [] else At owner
place_without node (Coming to items) = Coming to items

abbrev pub places_without : ℕ → Numbered Place → Numbered Place
places_without node places = map (λ e. (e.0, place_without node e.1)) places

abbrev pub all_places_without : ℕ → Named Place → Named Place
all_places_without node places =
    record {
      processes = places_without node places.processes;
      queues = places_without node places.queues;
      sets = places_without node places.sets;
    }

abbrev pub with_leaving : Directory → ℕ → Directory
with_leaving d node = record d { places = all_places_without node d.places; partings = put d.partings node IsLeaving }

abbrev pub with_left : Directory → ℕ → Directory
with_left d node = record d { partings = put d.partings node HasLeft }

-- ---- places

abbrev pub place_of : Directory → Name → Option Place
place_of d name = get_named d.places name

abbrev pub with_place : Directory → Name → Place → Directory
with_place d name place = record d { places = put_named d.places name place }

-- a known name is left as it is
abbrev pub is_known : Directory → Name → Bool
is_known d name = not (is_none (place_of d name))

abbrev pub place_name : Directory → Name → ℕ → Directory
place_name d name node = if is_known d name then d else with_place d name (At node)

-- Where a call on a name goes, by its place, the node that was given its number, and whether that node stays.
abbrev pub route_by_maker : Bool → Option ℕ → Route
route_by_maker maker_stays None = routes.Nobody
route_by_maker maker_stays (Some node) = if maker_stays && not (nat_eq node 1) then routes.Range node else routes.Nobody

abbrev pub route_by : Option Place → Bool → Option ℕ → Route
route_by (Some (At node)) maker_stays made_by = routes.At node
route_by (Some (Coming to items)) maker_stays made_by = routes.Coming
route_by None maker_stays made_by = route_by_maker maker_stays made_by

abbrev pub maker_stays : Directory → Option ℕ → Bool
maker_stays d None = false
maker_stays d (Some node) = stays d node

abbrev pub route : Directory → Name → Route
route d name = route_by (place_of d name) (maker_stays d (maker d name)) (maker d name)

-- the deed is asked back, perhaps for another node, and nothing is held yet
abbrev pub recall : Directory → Name → Option ℕ → Directory
recall d name to = with_place d name (Coming to [])

-- a further item is held for a name that is coming
abbrev pub hold_at : Directory → Name → Held → Option Place → Directory
hold_at d name item None = d
hold_at d name item (Some (At node)) = d
hold_at d name item (Some (Coming to items)) = with_place d name (Coming to (items ++ item ∷ []))

abbrev pub hold : Directory → Name → Held → Directory
hold d name item = hold_at d name item (place_of d name)

-- what is held for a name, in order, and where its deed is to go
abbrev pub items_of : Option Place → List Held
items_of None = []
items_of (Some (At node)) = []
items_of (Some (Coming to items)) = items

abbrev pub held_for : Directory → Name → List Held
held_for d name = items_of (place_of d name)

abbrev pub destination_of : Option Place → Option ℕ
destination_of None = None
destination_of (Some (At node)) = None
destination_of (Some (Coming to items)) = to

abbrev pub bound_for : Directory → Name → Option ℕ
bound_for d name = destination_of (place_of d name)

abbrev pub is_coming_to : Option Place → Bool
is_coming_to None = false
is_coming_to (Some (At node)) = false
is_coming_to (Some (Coming to items)) = true

abbrev pub is_coming : Directory → Name → Bool
is_coming d name = is_coming_to (place_of d name)

-- the deed has come, or goes on at once
abbrev pub arrive : Directory → Name → ℕ → Directory
arrive d name node = with_place d name (At node)

-- ---- parcels that are held

abbrev pub has_deed_of : Name → Parcel → Bool
has_deed_of name parcel = list_any (λ deed. is_same_name name deed.name) parcel.deeds

abbrev pub is_parcel : Held → Bool
is_parcel (held.Request asked) = false
is_parcel (held.Ending parcel) = true

abbrev pub is_parcel_with : Name → Held → Bool
is_parcel_with name (held.Request asked) = false
is_parcel_with name (held.Ending parcel) = has_deed_of name parcel

abbrev pub is_held_in : Name → Numbered Place → Bool
is_held_in name places = list_any (λ e. list_any (is_parcel_with name) (items_of (Some e.1))) places

-- a parcel that is held has the deed of the name
abbrev pub is_in_parcel : Directory → Name → Bool
is_in_parcel d name = is_held_in name d.places.processes

-- how many parcels are held
abbrev pub parcels_in : Numbered Place → ℕ
parcels_in places = sum_by (λ e. count_by is_parcel (items_of (Some e.1))) places

abbrev pub parcels_held : Directory → ℕ
parcels_held d = parcels_in d.places.processes
