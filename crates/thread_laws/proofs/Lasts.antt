-- The last stamp of merged events: no turn has a higher one.
use Rattle.std.proofs.Common.{◌≡◌, ℕ, zero, suc, ◌+◌, ◌-◌, ◌<◌, ◌≤◌, List, [], ◌∷◌, ◌++◌, length, map, slice_get, get_or, Option, Some, None, refl, ap, sym, subst, ◌∙◌, arith}
use Rattle.std.specs.List.{AllByRecursion}
use Rattle.std.proofs.lemmas.Option.{slice_get-get_or}
use Rattle.pico_base.specs.declared.script.Event.{Event}
use Rattle.stamp_merge.specs.declared.Stamped as merged
use Rattle.stamp_merge.specs.Merge.{IsBefore, AreInOrder}
use Rattle.stamp_merge.proofs.Filters.{all-map}
use Rattle.log_laws.specs.Merge.{NodeTurn, turn_item}
use Rattle.log_laws.specs.EventLogs.{event_item}
use Rattle.log_laws.specs.Follows.{AreBelow}
use Rattle.log_laws.proofs.Lists.{right-all, not-below}

-- an event with its stamp and its node
abbrev pub Item : Type 0
Item = merged.Stamped Event

-- the stamp of the last item, 0 where there is none
pub data IsLastStamp (items : List Item) (stamp : ℕ) : Type 0 where
  OfNone : items ≡ [] → stamp ≡ 0 → IsLastStamp items stamp
  OfLast : (front : List Item) (e : Item) → items ≡ front ++ e ∷ []
      → e.stamp ≡ stamp → IsLastStamp items stamp

no-items : (P : NodeTurn → Type 0) (turns : List NodeTurn) → map event_item turns ≡ [] → AllByRecursion P turns
no-items P [] h = tt
no-items P (t ∷ turns) h = absurd (cc)

not-empty : (front : List Item) (e : Item) → [] ≡ front ++ e ∷ [] → ⊥
not-empty [] e h = absurd (cc)
not-empty (x ∷ front) e h = absurd (cc)

first-low : (t : NodeTurn) (turns : List NodeTurn) (front : List Item) (e : Item)
    → AllByRecursion (IsBefore (turn_item t)) (map turn_item turns) → map event_item turns ≡ front ++ e ∷ []
    → AllByRecursion (λ (u : NodeTurn). u.turn.stamp ≤ e.stamp) turns → t.turn.stamp ≤ e.stamp
first-low t [] front e before h all = absurd (not-empty front e h)
first-low t (u ∷ turns) front e before h all =
    let low : t.turn.stamp ≤ u.turn.stamp = not-below t u before.0
    in let high : u.turn.stamp ≤ e.stamp = all.0
    in omega arith

-- no turn has a higher one
up-to-last : (turns : List NodeTurn) (front : List Item) (e : Item)
    → AreInOrder (map turn_item turns) → map event_item turns ≡ front ++ e ∷ []
    → AllByRecursion (λ (t : NodeTurn). t.turn.stamp ≤ e.stamp) turns
up-to-last [] front e order h = tt
up-to-last (t ∷ turns) [] e order h =
    let first : event_item t ≡ e = cc
    in let rest : map event_item turns ≡ [] = cc
    in let same : t.turn.stamp ≡ e.stamp = ap (λ (x : Item). x.stamp) first
    in (omega arith, no-items (λ (u : NodeTurn). u.turn.stamp ≤ e.stamp) turns rest)
up-to-last (t ∷ turns) (x ∷ front) e order h =
    let rest : map event_item turns ≡ front ++ e ∷ [] = cc
    in let all = up-to-last turns front e order.1 rest
    in (first-low t turns front e order.0 rest all, all)

below-next : (n : ℕ) (turns : List NodeTurn) → AllByRecursion (λ (t : NodeTurn). t.turn.stamp ≤ n) turns
    → AreBelow (n + 1) turns
below-next n turns all = all-map (λ (t : NodeTurn) low. next t.turn.stamp low) turns all
  where
    next : (m : ℕ) → m ≤ n → m < n + 1
    next m low = omega arith

-- where the last stamp is the greatest, all are below the one after it
pub below-last : (turns : List NodeTurn) (stamp : ℕ) → AreInOrder (map turn_item turns)
    → IsLastStamp (map event_item turns) stamp → AreBelow (stamp + 1) turns
below-last turns stamp order (OfNone none least) = no-items (λ (t : NodeTurn). t.turn.stamp < stamp + 1) turns none
below-last turns stamp order (OfLast front e is same) =
    subst (λ (n : ℕ). AreBelow (n + 1) turns) same (below-next e.stamp turns (up-to-last turns front e order is))

-- the stamps of the items are those of the turns
pub items-below : (n : ℕ) (turns : List NodeTurn) → AreBelow n turns
    → AllByRecursion (λ (e : Item). e.stamp < n) (map event_item turns)
items-below n [] all = tt
items-below n (t ∷ turns) all = (all.0, items-below n turns all.1)

-- the last stamp is no higher than the number of turns
pub last-few : (turns : List NodeTurn) (stamp : ℕ) → AreBelow (length turns + 1) turns
    → IsLastStamp (map event_item turns) stamp → stamp ≤ length turns
last-few turns stamp below (OfNone none least) = omega arith
last-few turns stamp below (OfLast front e is same) =
    let low : AllByRecursion (λ (x : Item). x.stamp < length turns + 1) (e ∷ []) =
    right-all (λ (x : Item). x.stamp < length turns + 1) front (e ∷ [])
    (subst (AllByRecursion (λ (x : Item). x.stamp < length turns + 1)) is
    (items-below (length turns + 1) turns below))
    in let own : e.stamp < length turns + 1 = low.0
    in omega arith

-- ---- as a list's last item

-- the stamp of an item, 0 of none
abbrev pub stamp_or_none : Option Item → ℕ
stamp_or_none None = 0
stamp_or_none (Some e) = e.stamp

front-of : (items : List Item) (i : ℕ) (e : Item) → i + 1 ≡ length items → slice_get items i ≡ Some e
    → (front : List Item) × (items ≡ front ++ e ∷ [])
front-of [] i e size there = absurd (omega arith)
front-of (x ∷ []) zero e size there =
    let same : x ≡ e = cc in ([], ap (λ (y : Item). y ∷ []) same)
front-of (x ∷ y ∷ items) zero e size there = absurd (omega arith)
front-of (x ∷ items) (suc i) e size there =
    let rest = front-of items i e (omega arith) there in (x ∷ rest.0, ap (λ (es : List Item). x ∷ es) rest.1)

pub last-stamp : (items : List Item) (last : Option Item) → last ≡ slice_get items (length items - 1)
    → IsLastStamp items (stamp_or_none last)
last-stamp [] None is = OfNone refl refl
last-stamp [] (Some e) is = absurd (cc)
last-stamp (x ∷ items) None is =
    let there : slice_get (x ∷ items) (length (x ∷ items) - 1)
    ≡ Some (get_or (x ∷ items) (length (x ∷ items) - 1) x) =
    slice_get-get_or (x ∷ items) (length (x ∷ items) - 1) x (omega arith)
    in let both : None ≡ Some (get_or (x ∷ items) (length (x ∷ items) - 1) x) = is ∙ there
    in absurd (cc)
last-stamp (x ∷ items) (Some e) is =
    let front = front-of (x ∷ items) (length (x ∷ items) - 1) e (omega arith) (sym is)
    in OfLast front.0 e front.1 refl
