-- How nodes are kept: each in a place, with a link to the next and back to the one before, of all nodes and of those of
-- its class.
use Rattle.std.specs.Prelude.{◌≡◌, ◌≢◌, ℕ, zero, suc, ◌≤◌, ◌-◌, min, List, [], ◌∷◌, length, map, Option, Some, None, option_map, nat_eq, slice_get, IsSome, if◌then◌else◌}
use Rattle.std.specs.List.{AllByRecursion, filter}
use Rattle.number_maps.specs.Maps.{Numbered, get}
use Rattle.index_links.specs.declared.places.Link.{Link}
use Rattle.index_links.specs.declared.places.Place.{Place}
use Rattle.index_links.specs.Keys.{key_of, class_of}
use Rattle.index_links.specs.Nodes.{Node, node_at, without}

-- ---- chains over any links

-- the number of no place; a chain's own link stands at it, from which it begins and to which it leads back
abbrev pub nowhere : ℕ
nowhere = 4294967295

-- the links of nothing
abbrev pub blank : Link
blank = record { next = nowhere; back = nowhere }

abbrev pub or_blank : Option Link → Link
or_blank None = blank
or_blank (Some l) = l

-- from a place over others to a last one, each linked with the next and back
abbrev pub Path : (ℕ → Link) → ℕ → List ℕ → ℕ → Type 0
Path link a [] b = ((link a).next ≡ b) × ((link b).back ≡ a)
Path link a (x ∷ xs) b = ((link a).next ≡ x) × ((link x).back ≡ a) × Path link x xs b

-- a chain of these places
abbrev pub Chain : (ℕ → Link) → List ℕ → Type 0
Chain link xs = Path link nowhere xs nowhere

-- what a change does to the link at each place: it stays; one place leads on to another, or back to another; one is
-- joined with another behind it; one comes behind the last
abbrev pub Change : Type 0
Change = ℕ → Link → Link

abbrev pub stays : Change
stays i l = l

abbrev pub on : (at next : ℕ) → Change
on at next i l = record { next = if nat_eq i at then next else l.next; back = l.back }

abbrev pub back_to : (at back : ℕ) → Change
back_to at back i l = record { next = l.next; back = if nat_eq i at then back else l.back }

abbrev pub joined : (before after : ℕ) → Change
joined before after i l = back_to after before i (on before after i l)

abbrev pub added : (last at : ℕ) → Change
added last at i l = joined at nowhere i (joined last at i l)

-- the links of places, with those of the chain itself
abbrev pub linked : Link → (ℕ → Option Link) → ℕ → Link
linked ends links i = if nat_eq i nowhere then ends else or_blank (links i)

-- the chain's links of a class, where it is there
abbrev pub row_at : Numbered Link → ℕ → Link
row_at rows key = or_blank (get rows key)

-- what stands at a class whose links became these: nothing where they lead nowhere
abbrev pub row_of : Link → Option Link
row_of row = if nat_eq row.next nowhere then None else Some row

-- the number of the first row that leads somewhere
abbrev pub first_filled : Numbered Link → Option ℕ
first_filled [] = None
first_filled (e ∷ rows) = if nat_eq e.1.next nowhere then first_filled rows else Some e.0

-- the slot at a place, unless it is the number of none
abbrev pub slot_or_none : ℕ → Option ℕ
slot_or_none at = if nat_eq at nowhere then None else Some at

-- how many nodes more there is room for: there are places, numbers for them, and rows
abbrev pub spare_of : (places capacity rows rows_capacity : ℕ) → ℕ
spare_of places capacity rows rows_capacity = min (min (capacity - places) (nowhere - places)) (rows_capacity - rows)

-- ---- chains in places

module _ {V : Type 0} where
  abbrev pub arrival_links : List (Place V) → ℕ → Option Link
  arrival_links places i = option_map (λ (p : Place V). p.arrival) (slice_get places i)

  abbrev pub alike_links : List (Place V) → ℕ → Option Link
  alike_links places i = option_map (λ (p : Place V). p.alike) (slice_get places i)

  -- a place whose links were changed
  abbrev pub relinked : (of_all of_alike : Change) → ℕ → Place V → Place V
  relinked of_all of_alike i p =
      record { arrival = of_all i p.arrival; alike = of_alike i p.alike; key = p.key; value = p.value }

  -- each place, with its links changed
  pub record AreRelinked (of_all of_alike : Change) (old new : List (Place V)) : Type 0 where
    pub each : (i : ℕ) → slice_get new i ≡ option_map (relinked of_all of_alike i) (slice_get old i)

  -- the place has no value
  pub record IsFree (places : List (Place V)) (at : ℕ) : Type 0 where
    pub none : (p : Place V) → slice_get places at ≡ Some p → p.value ≡ None

  -- a place for a new node, not linked yet, and each other place as it was
  abbrev pub fresh : ℕ → V → Place V
  fresh key value = record { arrival = blank; alike = blank; key = key; value = Some value }

  pub record IsPlaced (at : ℕ) (p : Place V) (old new : List (Place V)) : Type 0 where
    pub each : (i : ℕ) → slice_get new i ≡ (if nat_eq i at then Some p else slice_get old i)

  -- the node in a place, and those behind it; a free place has none
  abbrev pub node_in : ℕ → Place V → Option V → List (Node V) → List (Node V)
  node_in at p None rest = []
  node_in at p (Some value) rest = record { slot = at; class = class_of p.key; value = value } ∷ rest

  abbrev pub nodes_from : ℕ → Option (Place V) → (ℕ → List (Node V)) → List (Node V)
  nodes_from at None rest = []
  nodes_from at (Some p) rest = node_in at p p.value (rest p.arrival.next)

  -- so many nodes from a place on, as the chain of all leads from each to the next
  abbrev pub walk : ℕ → List (Place V) → ℕ → List (Node V)
  walk zero places at = []
  walk (suc n) places at = nodes_from at (slice_get places at) (walk n places)

  abbrev pub slots : List (Node V) → List ℕ
  slots ns = map (λ (n : Node V). n.slot) ns

  -- the nodes of a class
  abbrev pub of_key : ℕ → List (Node V) → List (Node V)
  of_key key ns = filter (λ (n : Node V). nat_eq (key_of n.class) key) ns

  -- the node stands in the place that its slot names
  pub record Stands (places : List (Place V)) (n : Node V) : Type 0 where
    pub place : Place V
    pub there : slice_get places n.slot ≡ Some place
    pub key : place.key ≡ key_of n.class
    pub class : class_of place.key ≡ n.class
    pub value : place.value ≡ Some n.value

  -- none of the nodes has this slot
  abbrev pub LackSlot : ℕ → List (Node V) → Type 0
  LackSlot slot ns = AllByRecursion (λ (n : Node V). n.slot ≢ slot) ns

  -- each node has a slot of its own
  abbrev pub HaveOwnSlots : List (Node V) → Type 0
  HaveOwnSlots [] = Unit {0}
  HaveOwnSlots (n ∷ ns) = LackSlot n.slot ns × HaveOwnSlots ns

  -- the nodes are kept: each in its place, one chain over all in order, and one over those of each class. A class that
  -- no node has may have a row that leads nowhere
  pub record AreKept (places : List (Place V)) (rows : Numbered Link) (ends : Link) (ns : List (Node V)) : Type 0 where
    pub few : length places ≤ nowhere
    pub stand : AllByRecursion (Stands places) ns
    pub own : HaveOwnSlots ns
    pub all : Chain (linked ends (arrival_links places)) (slots ns)
    pub each : (key : ℕ) → Chain (linked (row_at rows key) (alike_links places)) (slots (of_key key ns))

  -- some nodes are kept, so many
  pub record IsKept (places : List (Place V)) (rows : Numbered Link) (ends : Link) (len : ℕ) : Type 0 where
    pub nodes : List (Node V)
    pub kept : AreKept places rows ends nodes
    pub count : len ≡ length nodes

  -- what is left without the node in a place, that was taken out
  pub record Shrunk (old new : List (Place V)) (rows : Numbered Link) (ends ends' : Link) (len at : ℕ) (p : Place V)
      : Type 0 where
    pub kept : IsKept new rows ends' (len - 1)
    pub nodes : walk (len - 1) new ends'.next ≡ without at (walk len old ends.next)
    pub value : p.value ≡ option_map (λ (n : Node V). n.value) (node_at at (walk len old ends.next))
    pub some : IsSome p.value
