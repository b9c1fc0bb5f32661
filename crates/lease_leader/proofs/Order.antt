-- The places stand as the spots do.
use Rattle.std.proofs.Common.{◌≡◌, ℕ, List, [], ◌∷◌, refl, sym, ap, subst}
use Rattle.std.specs.List.Sorted.{IsStrictlySortedBy}
use Rattle.std.specs.Map.{keys_of}
use Rattle.std.specs.Ordering.{nat_cmp}
use Rattle.number_maps.specs.Maps.{Numbered}
use Rattle.number_maps.specs.Rising.{IsRising}
use Rattle.node_model.specs.Directory.{Parting}
use Rattle.lease_leader.specs.Places.{places_by}
use Rattle.lease_leader.specs.declared.spot.Spot.{Spot}

same-numbers : (partings : Numbered Parting) (kept : Numbered Spot) → keys_of (places_by partings kept) ≡ keys_of kept
same-numbers partings [] = refl
same-numbers partings (e ∷ kept) = ap (λ (ks : List ℕ). e.0 ∷ ks) (same-numbers partings kept)

-- places are by rising number where the spots are
pub places-by-rise : (partings : Numbered Parting) (kept : Numbered Spot) → IsRising kept
    → IsRising (places_by partings kept)
places-by-rise partings kept rises =
    subst (λ (ks : List ℕ). IsStrictlySortedBy nat_cmp ks) (sym (same-numbers partings kept)) rises
