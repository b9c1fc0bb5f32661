-- The example's list is the merge of its logs.
use Rattle.std.proofs.Common.{refl, inl, inr, arith}
use Rattle.stamp_merge.specs.Merge.{AreInOrder}
use Rattle.stamp_merge.specs.Example.{merged}

in_order : AreInOrder merged
in_order = (
  (inl (omega arith), (inl (omega arith), (inl (omega arith), tt))),
  (
    (
      inr (refl, omega arith),
      (
        inl (omega arith),
        tt,
      ),
    ),
    ((inl (omega arith), tt), (tt, tt)),
  ),
)
