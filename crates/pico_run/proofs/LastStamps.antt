-- The last of events in order has the greatest stamp.
use Rattle.std.proofs.Common.{◌≡◌, ℕ, suc, ◌-◌, ◌≤◌, List, [], ◌∷◌, length, slice_get, Some, ap, ◌∙◌, arith, inl, inr}
use Rattle.std.specs.List.{AllByRecursion}
use Rattle.pico_base.specs.declared.script.Event.{Event}
use Rattle.stamp_merge.specs.declared.Stamped.{Stamped}
use Rattle.stamp_merge.specs.Merge.{AreInOrder, IsBefore}

one-item : (f e : Stamped Event) → Some e ≡ Some f → e.stamp ≡ f.stamp
one-item f e is = let same : e ≡ f = cc in ap (λ (x : Stamped Event). x.stamp) same

not-above : (f g : Stamped Event) → IsBefore f g → f.stamp ≤ g.stamp
not-above f g (inl low) = omega (arith, low)
not-above f g (inr same) = let equal : f.stamp ≡ g.stamp = same.0 in omega (arith, equal)

-- the last of more than one is the last of those behind the first
last-behind : (f g : Stamped Event) (es : List (Stamped Event)) (e : Stamped Event)
    → Some e ≡ slice_get (f ∷ g ∷ es) (length (f ∷ g ∷ es) - 1)
    → Some e ≡ slice_get (g ∷ es) (length (g ∷ es) - 1)
last-behind f g es e is =
    let long : length (f ∷ g ∷ es) - 1 ≡ suc (length es) = omega arith
    in let short : length es ≡ length (g ∷ es) - 1 = omega arith
    in is ∙ ap (λ k. slice_get (f ∷ g ∷ es) k) long ∙ ap (λ k. slice_get (g ∷ es) k) short

-- the stamp of the last event is above all
pub last-above : (es : List (Stamped Event)) (e : Stamped Event) → Some e ≡ slice_get es (length es - 1)
    → AreInOrder es → AllByRecursion (λ (f : Stamped Event). f.stamp ≤ e.stamp) es
last-above [] e is order = tt
last-above (f ∷ []) e is order = let own : e.stamp ≡ f.stamp = one-item f e is in (omega (arith, own), tt)
last-above (f ∷ g ∷ es) e is order =
    let rest : AllByRecursion (λ (x : Stamped Event). x.stamp ≤ e.stamp) (g ∷ es) =
    last-above (g ∷ es) e (last-behind f g es e is) order.1
    in let next : f.stamp ≤ g.stamp = not-above f g order.0.0
    in let above : g.stamp ≤ e.stamp = rest.0
    in (omega (arith, next, above), rest)

-- and no higher than any bound of all
pub last-least : (es : List (Stamped Event)) (e : Stamped Event) (bound : ℕ)
    → Some e ≡ slice_get es (length es - 1) → AllByRecursion (λ (f : Stamped Event). f.stamp ≤ bound) es
    → e.stamp ≤ bound
last-least [] e bound is all = absurd (let f : ⊥ = cc in f)
last-least (f ∷ []) e bound is all =
    let own : e.stamp ≡ f.stamp = one-item f e is in let low : f.stamp ≤ bound = all.0 in omega (arith, own, low)
last-least (f ∷ g ∷ es) e bound is all = last-least (g ∷ es) e bound (last-behind f g es e is) all.1
