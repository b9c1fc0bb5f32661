-- Going over events in search of one that falls.
use Rattle.std.proofs.Common.{◌≡◌, ℕ, ◌+◌, ◌<◌, ◌≤◌, true, false, List, [], ◌∷◌, length, drop, get_or, Some, None, refl, sym, ap, ◌∙◌}
use Rattle.std.proofs.lemmas.List.{drop_more, drop_all}
use Rattle.stamp_merge.specs.declared.Stamped.{Stamped}
use Rattle.image_text.specs.declared.placed.Placed.{Placed}
use Rattle.image_text.specs.Order.{falls, fall_behind}

-- the next item, and those behind it
pub next-left : {X : Type 0} (x : X) (xs : List X) (i : ℕ) → i < length xs → x ≡ get_or xs i x
    → drop i xs ≡ x ∷ drop (i + 1) xs
next-left {X} x xs i lt is = drop_more xs i x lt ∙ ap (λ (y : X). y ∷ drop (i + 1) xs) (sym is)

module _ (before e : Stamped Placed) (events : List (Stamped Placed)) (i : ℕ) (lt : i < length events)
    (is : e ≡ get_or events i e) where
  pub fall-here : falls before e ≡ true → fall_behind before (drop i events) ≡ Some e.item.line
  unfolding fall_behind
  fall-here h = ap (fall_behind before) (next-left e events i lt is) ∙ rw h refl

  pub fall-next : falls before e ≡ false
      → fall_behind before (drop i events) ≡ fall_behind e (drop (i + 1) events)
  unfolding fall_behind
  fall-next h = ap (fall_behind before) (next-left e events i lt is) ∙ rw h refl

-- no event is left
pub fall-none : (before : Stamped Placed) (events : List (Stamped Placed)) (i : ℕ) → length events ≤ i
    → fall_behind before (drop i events) ≡ None
unfolding fall_behind
fall-none before events i le = ap (fall_behind before) (drop_all i events le)
