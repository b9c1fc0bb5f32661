-- Whether there is a number to give doesn't depend on the caller or the cache.
use Rattle.std.proofs.Common.{◌≡◌, ℕ, Bool, true, false, not, ◌&&◌, List, [], ◌∷◌, Option, Some, None, refl}
use Rattle.std.specs.Prelude.{if◌then◌else◌}
use Rattle.std.specs.Option.{option_map}
use Rattle.pico_base.specs.declared.numbers.Kind.{Kind}
use Rattle.node_model.specs.Cache.{Cache}
use Rattle.node_model.specs.Caller.{Caller}
use Rattle.node_model.specs.Directory.{Directory, has_more, upcoming}
use Rattle.node_model.specs.Kinds.{for_kind}
use Rattle.node_model.specs.Leases.{lease_of}
use Rattle.world_model.specs.Node.{Node, is_leader}
use Rattle.world_model.specs.Numbers.{knows_any, take_first, take_from, take_from_next, take_number, with_next_range}

-- where neither branch has a value, the choice has none
pub neither : {A B : Type 0} (b : Bool) (x : Option A) (y : Option B) → (x ≡ None → y ≡ None)
    → (if b then x else None) ≡ None → (if b then y else None) ≡ None
neither true x y goes none = goes none
neither false x y goes none = refl

-- where the first has no value the second has none, and nothing is made of it
pub no-map : {A B C : Type 0} (f : A → B) (g : A → C) (x y : Option A) → (x ≡ None → y ≡ None) → option_map f x ≡ None
    → option_map g y ≡ None
no-map f g x None goes none = refl
no-map f g None (Some y) goes none =
    let never : Some y ≡ None = goes refl
    in absurd (cc)
no-map f g (Some x) (Some y) goes none = absurd (cc)

abbrev aside_node : Node → Caller → Cache → Node
aside_node n caller cache = record n { caller = caller; cache = cache }

no_first : (n m : Node) (kind : Kind) (numbers : List ℕ) → take_first n kind numbers ≡ None
    → take_first m kind numbers ≡ None
no_first n m kind [] none = refl
no_first n m kind (number ∷ numbers) none = absurd (cc)

no_next : (n : Node) (caller : Caller) (cache : Cache) (kind : Kind) → take_from_next n kind ≡ None
    → take_from_next (aside_node n caller cache) kind ≡ None
no_next n caller cache kind none =
    let d : Directory = n.leader.directory
    in neither (has_more d kind && not (knows_any d kind (lease_of (upcoming d kind))))
    (take_first (with_next_range n kind) kind (lease_of (upcoming d kind)))
    (take_first (with_next_range (aside_node n caller cache) kind) kind (lease_of (upcoming d kind)))
    (no_first (with_next_range n kind) (with_next_range (aside_node n caller cache) kind) kind
    (lease_of (upcoming d kind))) none

none_from : (n : Node) (caller : Caller) (cache : Cache) (kind : Kind) (numbers : List ℕ)
    → take_from n kind numbers ≡ None → take_from (aside_node n caller cache) kind numbers ≡ None
none_from n caller cache kind (number ∷ numbers) none = absurd (cc)
none_from n caller cache kind [] none =
    neither (is_leader n) (take_from_next n kind) (take_from_next (aside_node n caller cache) kind)
    (no_next n caller cache kind) none

-- there is no number to give, whatever the caller and the cache are
pub no-number : (n : Node) (caller : Caller) (cache : Cache) (kind : Kind) → take_number n kind ≡ None
    → take_number (record n { caller = caller; cache = cache }) kind ≡ None
no-number n caller cache kind none = none_from n caller cache kind (for_kind n.leases kind) none
