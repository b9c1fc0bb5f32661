use Rattle.std.proofs.Common.{rules}
use Rattle.std.proofs.lemmas.List.Sorted.{answers_always}
use Rattle.stamp_merge.proofs.Sorts.{sorted-by-both}
use Rattle.stamp_merge.proofs.sort.Goals as goal

pub returns : goal.returns
returns g c =
    sorted-by-both _ _ _ c.in_ok-sort_by_key.ensures.permutation c.in_ok-sort_by_key-2.ensures.permutation
    (c.in_ok-sort_by_key.ensures.sorted (λ e. e.node) (answers_always _ _ _ (λ f a r h k. search rules)))
    (c.in_ok-sort_by_key-2.ensures.sorted (λ e. e.stamp) (answers_always _ _ _ (λ f a r h k. search rules)))
    (c.in_ok-sort_by_key.ensures.stable (λ e. e.node) (answers_always _ _ _ (λ f a r h k. search rules)))
    (c.in_ok-sort_by_key-2.ensures.stable (λ e. e.stamp) (answers_always _ _ _ (λ f a r h k. search rules)))
