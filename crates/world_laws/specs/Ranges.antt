-- What holds of the numbers of one kind.
use Rattle.std.specs.Prelude.{◌≡◌, ◌⊎◌, ◌≤◌, ℕ, ◌+◌, ◌*◌, Bool, true, false, not, ◌||◌, nat_eq, List, [], ◌∷◌, length, drop, Option, Some, None, Contains, sum_by}
use Rattle.std.specs.List.{list_any, flat_map}
use Rattle.pico_base.specs.declared.numbers.Kind.{Kind}
use Rattle.pico_base.specs.declared.script.Script.{Script}
use Rattle.rpc_frame.specs.declared.frame.Frame.{Frame}
use Rattle.rpc_frame.specs.declared.frame.Frame.TheVariants as frames
use Rattle.number_maps.specs.Maps.{is_used}
use Rattle.kernel_model.specs.Kernel.{Kernel}
use Rattle.kernel_model.specs.Footprint.{used_of}
use Rattle.entry_laws.specs.Entering.{HasKeys}
use Rattle.node_model.specs.Kinds.{for_kind, is_same_kind}
use Rattle.node_model.specs.Directory.{Directory, maker_in, range_size}
use Rattle.node_model.specs.Leases.{lease_of}
use Rattle.world_model.specs.Node.{Node, Leader}
use Rattle.world_model.specs.World.{World, numbers, node_count}
use Rattle.world_laws.specs.Places.{CallPlace, HasLease}
use Rattle.world_laws.specs.Sights.{node_of, frames_to, directory_of}

-- ---- what there is to see of a kind

-- the ranges of a kind on their way to a node, by their first numbers
abbrev pub first_if : Bool → ℕ → List ℕ
first_if true first = first ∷ []
first_if false first = []

abbrev pub lease_in : Kind → Frame → List ℕ
lease_in kind (frames.Lease other first) = first_if (is_same_kind kind other) first
lease_in kind frame = []

abbrev pub lease_at : World → Kind → ℕ → List ℕ
lease_at w kind h =
    let n : Node = node_of w h
    in for_kind n.leases kind

-- the numbers that something has; the rest of each node's range, and those on their way to it; and who has which range
pub record KindSight : Type 0 where
  pub used : ℕ → Bool
  pub leases : ℕ → List ℕ
  pub coming : ℕ → List ℕ
  pub ranges : List ℕ

abbrev pub kind_sight : World → Kernel → Kind → KindSight
kind_sight w k kind =
    let d : Directory = directory_of w
    in record {
      used = is_used (used_of k kind);
      leases = lease_at w kind;
      coming = λ h. flat_map (lease_in kind) (frames_to w h 1);
      ranges = for_kind d.ranges kind;
    }

-- ---- what holds of it

abbrev pub is_in_lease : ℕ → ℕ → Bool
is_in_lease number first = list_any (nat_eq number) (lease_of first)

-- a number that was given out to a node, but is still to be taken there, or on its way
abbrev pub is_still_free : KindSight → ℕ → ℕ → Bool
is_still_free x number h = list_any (nat_eq number) (x.leases h) || list_any (is_in_lease number) (x.coming h)

abbrev pub is_given : KindSight → ℕ → Option ℕ → Bool
is_given x number None = false
is_given x number (Some h) = not (is_still_free x number h)

-- the range that begins with a number is a node's
pub record IsRangeOf (ranges : List ℕ) (first node : ℕ) : Type 0 where
  pub index : ℕ
  pub first_is : first ≡ index * range_size + 1
  pub maker : maker_in ranges first ≡ Some node

-- the rest of such a range, without a gap at its end
pub record IsRestOf (ranges : List ℕ) (numbers : List ℕ) (node : ℕ) : Type 0 where
  pub first : ℕ
  pub range : IsRangeOf ranges first node
  pub taken : ℕ
  pub rest : numbers ≡ drop taken (lease_of first)

pub record KindHolds (born : ℕ → Bool) (x : KindSight) : Type 0 where
  -- a number is used exactly where its range was given out and it is taken
  pub used : (number : ℕ) → x.used number ≡ is_given x number (maker_in x.ranges number)
  pub leases : (h : ℕ) → 1 ≤ h → (x.leases h ≡ []) ⊎ IsRestOf x.ranges (x.leases h) h
  pub coming : (h first : ℕ) → Contains (x.coming h) first → IsRangeOf x.ranges first h
  pub one_coming : (h : ℕ) → length (x.coming h) ≤ 1
  pub to_born : (node : ℕ) → Contains x.ranges node → born node ≡ true

-- each range after the first was taken for a call that was carried out, or that its Lease is on its way for
abbrev pub one_for : Bool → ℕ
one_for true = 1
one_for false = 0

abbrev pub has_lease : Kind → CallPlace → Bool
has_lease kind (HasLease other first) = is_same_kind kind other
has_lease kind place = false

abbrev pub leases_on_way : Script → (ℕ → CallPlace) → Kind → ℕ
leases_on_way script call kind = sum_by (λ p. one_for (has_lease kind (call p))) (numbers 1 (node_count script))

abbrev pub FewRanges : Script → World → (ℕ → CallPlace) → Kind → Type 0
FewRanges script w call kind =
    let d : Directory = directory_of w
    in length (for_kind d.ranges kind) ≤ length w.journal + leases_on_way script call kind + 1

-- the leader's keys are the kernel's, with each set's size
abbrev pub KeysHold : Leader → Kernel → Type 0
KeysHold l k = HasKeys l.queue_keys l.set_keys k
