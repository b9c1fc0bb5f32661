use Rattle.std.proofs.Common.{◌≡◌, ◌++◌, take}
use Rattle.std.specs.List.{flat_map, AllByRecursion}
use Rattle.frame_bytes.proofs.many.put_many.Given as goal

abbrev pub invariant-loop-item : goal.invariant-loop-item
invariant-loop-item g l = record {
  bytes : l.out.items ≡ l.fn.out.items ++ flat_map g.T.Item.spelling (take l.item-index l.items);
  fits : AllByRecursion g.T.Item.fits (take l.item-index l.items);
}
