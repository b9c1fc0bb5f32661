-- What links are seen as: nodes in the order in which they came, each with its slot, its class and its value.
use Rattle.std.specs.Prelude.{ℕ, ℤ, List, [], ◌∷◌, Option, Some, None, IsSome, nat_eq, int_lt, int_le, if◌then◌else◌, refl}
use Rattle.std.specs.Coded.{Coded, code_by, coded×, coded_list, coded_ℕ, coded_ℤ}
use Rattle.std.specs.Ordering.{int_eq}

-- a value and its class; the slot names the node as long as it is there
pub record Node (V : Type 0) : Type 0 where
  pub slot : ℕ
  pub class : ℤ
  pub value : V

-- the nodes, the oldest first, and how many there can be besides before memory is asked for
pub record Listed (V : Type 0) : Type 0 where
  pub nodes : List (Node V)
  pub spare : ℕ

abbrev pub node_code : {V : Type 0} → Coded V → Coded (Node V)
node_code {V} v =
    code_by (ℕ × (ℤ × V)) (coded× coded_ℕ (coded× coded_ℤ v)) (λ n. (n.slot, (n.class, n.value)))
    (λ p. record { slot = p.0; class = p.1.0; value = p.1.1 }) (λ _. refl)

abbrev pub listed_code : {V : Type 0} → Coded V → Coded (Listed V)
listed_code {V} v =
    code_by (List (Node V) × ℕ) (coded× (coded_list (node_code v)) coded_ℕ) (λ l. (l.nodes, l.spare))
    (λ p. record { nodes = p.0; spare = p.1 }) (λ _. refl)

-- the lower of a class and another, where there is one
abbrev pub lower_of : ℤ → Option ℤ → ℤ
lower_of class None = class
lower_of class (Some other) = if int_lt other class then other else class

module _ {V : Type 0} where
  -- the node that a slot names
  abbrev pub node_at : ℕ → List (Node V) → Option (Node V)
  node_at slot [] = None
  node_at slot (n ∷ ns) = if nat_eq n.slot slot then Some n else node_at slot ns

  -- the slot names a node
  abbrev pub IsThere : ℕ → List (Node V) → Type 0
  IsThere slot ns = IsSome (node_at slot ns)

  -- the nodes without the one that a slot names: the others stay in order, with their slots
  abbrev pub without : ℕ → List (Node V) → List (Node V)
  without slot [] = []
  without slot (n ∷ ns) = if nat_eq n.slot slot then ns else n ∷ without slot ns

  -- the slot of the oldest
  abbrev pub first_slot : List (Node V) → Option ℕ
  first_slot [] = None
  first_slot (n ∷ ns) = Some n.slot

  -- the slot of the oldest of a class
  abbrev pub first_slot_of : ℤ → List (Node V) → Option ℕ
  first_slot_of class [] = None
  first_slot_of class (n ∷ ns) = if int_eq n.class class then Some n.slot else first_slot_of class ns

  -- the slot of the next node after the one that a slot names
  abbrev pub slot_after : ℕ → List (Node V) → Option ℕ
  slot_after slot [] = None
  slot_after slot (n ∷ ns) = if nat_eq n.slot slot then first_slot ns else slot_after slot ns

  -- the lowest class of a node that isn't above a bound
  abbrev pub least_upto : ℤ → List (Node V) → Option ℤ
  least_upto bound [] = None
  least_upto bound (n ∷ ns) = if int_le n.class bound then Some (lower_of n.class (least_upto bound ns))
      else least_upto bound ns
