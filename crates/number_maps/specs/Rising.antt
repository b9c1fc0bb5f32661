-- Maps by rising number.
use Rattle.std.specs.List.Sorted.{IsStrictlySortedBy}
use Rattle.std.specs.Ordering.{nat_cmp}
use Rattle.std.specs.Map.{keys_of}
use Rattle.number_maps.specs.Maps.{Numbered}

abbrev pub IsRising : {V : Type 0} → Numbered V → Type 0
IsRising m = IsStrictlySortedBy nat_cmp (keys_of m)
