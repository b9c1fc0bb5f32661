-- The merge of logs: all their items, by stamp, and by node where stamps are the same.
use Rattle.std.specs.Prelude.{◌≡◌, ◌≢◌, ◌⊎◌, ⊤, ℕ, ◌<◌, nat_eq, List, [], ◌∷◌, ◌++◌}
use Rattle.std.specs.List.{AllByRecursion, filter}
use Rattle.std.specs.List.Sorted.{IsPermutation}
use Rattle.stamp_merge.specs.declared.Stamped.{Stamped}

-- ---- what the logs have to be

-- each stamp of a log is below those after it
abbrev pub StampsRise : {T : Type 0} → List (Stamped T) → Type 0
StampsRise [] = ⊤
StampsRise (e ∷ log) = AllByRecursion (λ f. e.stamp < f.stamp) log × StampsRise log

-- all items of a log are of one node
abbrev pub IsOfOneNode : {T : Type 0} → List (Stamped T) → Type 0
IsOfOneNode [] = ⊤
IsOfOneNode (e ∷ log) = AllByRecursion (λ f. f.node ≡ e.node) log

-- no node has items in both logs
abbrev pub ShareNoNode : {T : Type 0} → List (Stamped T) → List (Stamped T) → Type 0
ShareNoNode log other = AllByRecursion (λ e. AllByRecursion (λ f. f.node ≢ e.node) other) log

-- each log is of one node, and of another than those after it
abbrev pub HaveOwnNodes : {T : Type 0} → List (List (Stamped T)) → Type 0
HaveOwnNodes [] = ⊤
HaveOwnNodes (log ∷ logs) = IsOfOneNode log × AllByRecursion (ShareNoNode log) logs × HaveOwnNodes logs

-- ---- what comes of them

-- the items of all logs, one log after the other
abbrev pub all_items : {T : Type 0} → List (List (Stamped T)) → List (Stamped T)
all_items [] = []
all_items (log ∷ logs) = log ++ all_items logs

-- a node's items, in the order in which they stand
abbrev pub items_of : {T : Type 0} → ℕ → List (Stamped T) → List (Stamped T)
items_of node items = filter (λ e. nat_eq e.node node) items

-- a lower stamp, or the same at a lower node
abbrev pub IsBefore : {T : Type 0} → Stamped T → Stamped T → Type 0
IsBefore e f = (e.stamp < f.stamp) ⊎ ((e.stamp ≡ f.stamp) × (e.node < f.node))

-- each item is before those that stand after it
abbrev pub AreInOrder : {T : Type 0} → List (Stamped T) → Type 0
AreInOrder [] = ⊤
AreInOrder (e ∷ items) = AllByRecursion (IsBefore e) items × AreInOrder items

-- each item's log is the part of its node
abbrev pub IsPartOf : {T : Type 0} → List (Stamped T) → List (Stamped T) → Type 0
IsPartOf merged log = AllByRecursion (λ e. items_of e.node merged ≡ log) log

-- the items are in order; each log is the part of its node, and a node without a log has none; the items of the logs
-- are there, each as often as in them, and no others
pub record IsMerge {T : Type 0} (logs : List (List (Stamped T))) (merged : List (Stamped T)) : Type 0 where
  pub in_order : AreInOrder merged
  pub each : AllByRecursion (IsPartOf merged) logs
  pub parts : (node : ℕ) → items_of node merged ≡ items_of node (all_items logs)
  pub all : IsPermutation (all_items logs) merged
