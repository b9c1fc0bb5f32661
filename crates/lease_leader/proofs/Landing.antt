-- What is written back through an entry that is lent.
use Rattle.std.proofs.Common.{◌≡◌, ℕ, Some, Result, Ok, Err, OnErr, ap, sym, ◌∙◌}
use Rattle.std.specs.BTreeMap.{is_at}
use Rattle.std.specs.Ordering.{nat_cmp}
use Rattle.std.proofs.lemmas.Map.Steps.{set_value_same}
use Rattle.number_maps.specs.Maps.{Numbered, get, put}
use Rattle.number_maps.specs.Rising.{IsRising}
use Rattle.number_maps.proofs.Changes.{set_value-put}
use Rattle.lease_leader.specs.declared.spot.Spot.{Spot}

module _ {U E : Type 0} (m : Numbered Spot) (k : ℕ) (v w : Spot) (rising : IsRising m) (there : get m k ≡ Some v) where
  -- a spot that stays as it is leaves the map so
  pub same-lands : (r : Result U E) → OnErr r (w ≡ v) → OnErr r (put m k w ≡ m)
  same-lands (Ok u) is = is
  same-lands (Err e) is =
      ap (put m k) is ∙ sym (set_value-put m k v v rising there) ∙ set_value_same (is_at (nat_cmp k)) m v there
