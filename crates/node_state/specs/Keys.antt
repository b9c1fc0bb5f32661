-- A table of keys, as the sorted list of its bindings.
use Rattle.std.specs.FinMap as map
use Rattle.key_table.specs.declared.Bound.{Bound}
use Rattle.key_table.specs.KeyMap.{KeyMap}
use Rattle.number_maps.specs.Maps.{Numbered}

abbrev pub bindings : KeyMap → Numbered Bound
bindings m = map.entries m
