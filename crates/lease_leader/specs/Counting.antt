-- How many deeds of a name there are in the parcels that are held for processes.
use Rattle.std.specs.Prelude.{◌≡◌, ◌+◌, ◌≤◌, ℕ, List, [], count_by, sum_by, unwrap_or}
use Rattle.std.specs.Map.{lookup, values_of}
use Rattle.number_maps.specs.Maps.{Numbered}
use Rattle.pico_base.specs.declared.numbers.Name.{Name}
use Rattle.pico_base.specs.declared.numbers.Name.TheVariants as names
use Rattle.rpc_frame.specs.declared.deed.PackedDeed.{PackedDeed}
use Rattle.node_model.specs.declared.held.Held.{Held}
use Rattle.node_model.specs.declared.held.Held.TheVariants as held
use Rattle.node_model.specs.Kinds.{Named, is_same_name}
use Rattle.lease_leader.specs.declared.spot.Spot.{Spot}
use Rattle.lease_leader.specs.Places.{items_in}

-- a table of counts, and what it has for a name
abbrev pub Counts : Type 0
Counts = List (Name × ℕ)

abbrev pub count_in : Counts → Name → ℕ
count_in counts name = unwrap_or (lookup (is_same_name name) counts) 0

abbrev pub deeds_named : Name → List PackedDeed → ℕ
deeds_named name deeds = count_by (λ deed. is_same_name name deed.name) deeds

-- the deeds of a parcel; a call has none
abbrev pub parcel_deeds : Held → List PackedDeed
parcel_deeds (held.Ending parcel) = parcel.deeds
parcel_deeds (held.Request asked) = []

-- the deeds that count, of what is held for a name: those of a parcel that is held for a process
abbrev pub deeds_in : Name → Held → List PackedDeed
deeds_in (names.Proc pid) item = parcel_deeds item
deeds_in (names.Msg id) item = []
deeds_in (names.Sem id) item = []

-- how many of a name there are among what is held for one
abbrev pub named_in : Name → Name → List Held → ℕ
named_in name holder items = sum_by (λ item. deeds_named name (deeds_in holder item)) items

abbrev pub named_at : Name → Spot → ℕ
named_at name spot = sum_by (λ item. deeds_named name (parcel_deeds item)) (items_in spot)

abbrev pub named_among : Name → Numbered Spot → ℕ
named_among name kept = sum_by (named_at name) (values_of kept)

-- the counts are those of the parcels that are held
abbrev pub AreCounted : Counts → Named Spot → Type 0
AreCounted counts kept = (name : Name) → count_in counts name ≡ named_among name kept.processes

-- these deeds have come to the counts, or gone from them
abbrev pub HaveCome : List PackedDeed → Counts → Counts → Type 0
HaveCome deeds old new = (name : Name) → count_in new name ≡ count_in old name + deeds_named name deeds

abbrev pub HaveGone : List PackedDeed → Counts → Counts → Type 0
HaveGone deeds old new = (name : Name) → count_in new name + deeds_named name deeds ≡ count_in old name

-- the deeds are all counted
abbrev pub AreIn : Counts → List PackedDeed → Type 0
AreIn counts deeds = (name : Name) → deeds_named name deeds ≤ count_in counts name

abbrev pub AllHaveGone : Name → List Held → Counts → Counts → Type 0
AllHaveGone holder items old new = (name : Name) → count_in new name + named_in name holder items ≡ count_in old name

abbrev pub AllAreIn : Counts → Name → List Held → Type 0
AllAreIn counts holder items = (name : Name) → named_in name holder items ≤ count_in counts name
