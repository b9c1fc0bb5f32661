-- A merge node by node: the turns are in order, all are of nodes of the script, and each log is the part of its node.
use Rattle.std.proofs.Common.{◌≡◌, ◌≢◌, ◌⊎◌, ℕ, List, [], ◌∷◌, ◌++◌, map, refl, ap, sym, subst, ◌∙◌, inl, inr, arith}
use Rattle.std.specs.List.{AllByRecursion}
use Rattle.std.specs.List.Sorted.{IsPermutation}
use Rattle.std.proofs.lemmas.Bool.{cases_eq, cases_lt}
use Rattle.std.proofs.lemmas.List.Sorted.{IsPermutation-refl, IsPermutation-sym, IsPermutation-trans, IsPermutation-cons, IsPermutation-middle}
use Rattle.pico_base.specs.declared.script.Script.{Script}
use Rattle.stamp_merge.specs.declared.Stamped.{Stamped}
use Rattle.stamp_merge.specs.Merge.{items_of, all_items, AreInOrder, IsPartOf}
use Rattle.stamp_merge.proofs.Filters.{all-map}
use Rattle.stamp_merge.proofs.Merges.{own-item, others-item, none-own, of-append}
use Rattle.world_model.specs.World.{IsNode, node_count}
use Rattle.log_laws.specs.Logs.{Logged, Log, items_in}
use Rattle.log_laws.specs.Merge.{logs_of, NodeTurn, turn_item, IsMerge}
use Rattle.log_laws.proofs.Lists.{all-mapped, all-unmapped, all-moved, log_of, items-of-turns}
use Rattle.log_laws.proofs.MayMerge.{log-part, all-of-logs, each-of-logs}

-- what the proofs take of a merge
pub record IsMergeByNode (script : Script) (logs : ℕ → Log) (turns : List NodeTurn) : Type 0 where
  pub in_order : AreInOrder (map turn_item turns)
  pub each : (p : ℕ) → IsNode script p → log_of p turns ≡ logs p
  pub nodes : AllByRecursion (λ t. IsNode script t.node) turns

-- ---- from a merge

turns-back : (p : ℕ) (log : Log) → map (λ (e : Stamped Logged). e.item) (items_in p log) ≡ log
turns-back p [] = refl
turns-back p (turn ∷ log) = ap (λ (l : Log). turn ∷ l) (turns-back p log)

-- a merge is one node by node
pub by-node : (script : Script) (logs : ℕ → Log) (turns : List NodeTurn) → IsMerge script logs turns
    → IsMergeByNode script logs turns
by-node script logs turns merge =
    record {
      in_order = merge.in_order;
      each = λ p is.
          sym (turns-back p (log_of p turns))
          ∙ ap (map (λ (e : Stamped Logged). e.item))
          (sym (items-of-turns p turns) ∙ merge.parts p ∙ log-part script logs p is)
          ∙ turns-back p (logs p);
      nodes =
          all-unmapped turn_item (λ (e : Stamped Logged). IsNode script e.node) turns
          (all-moved (λ (e : Stamped Logged). IsNode script e.node) (all_items (logs_of script logs))
          (map turn_item turns) merge.all
          (all-of-logs (λ (e : Stamped Logged). IsNode script e.node) script logs (λ p is turn. is)));
    }

-- ---- the same items

-- an item stands between two lists, of which the first has none of its node
record Stands {T : Type 0} (x : Stamped T) (rest ys : List (Stamped T)) : Type 0 where
  front : List (Stamped T)
  behind : List (Stamped T)
  is : ys ≡ front ++ x ∷ behind
  none : AllByRecursion (λ (e : Stamped T). e.node ≢ x.node) front
  others : items_of x.node behind ≡ rest

stands : {T : Type 0} (x : Stamped T) (rest ys : List (Stamped T)) → items_of x.node ys ≡ x ∷ rest → Stands x rest ys
stands x rest [] h = absurd (cc)
stands {T} x rest (y ∷ ys) h =
    elim (cases_eq y.node x.node) [
      | inl e ↦
          let whole : y ∷ items_of x.node ys ≡ x ∷ rest = sym (own-item y ys x.node e) ∙ h
          in let first : y ≡ x = cc
          in let same : items_of x.node ys ≡ rest = cc
          in record {
            front = [];
            behind = ys;
            is = ap (λ (z : Stamped T). z ∷ ys) first;
            none = tt;
            others = same;
          }
      | inr d ↦
          let later : Stands x rest ys = stands x rest ys (sym (others-item y ys x.node d) ∙ h)
          in record {
            front = y ∷ later.front;
            behind = later.behind;
            is = ap (λ (zs : List (Stamped T)). y ∷ zs) later.is;
            none = (d, later.none);
            others = later.others;
          }
    ]

-- the other list without the item has the same of each node
without-item : {T : Type 0} (x : Stamped T) (xs front behind : List (Stamped T))
    → AllByRecursion (λ (e : Stamped T). e.node ≢ x.node) front → items_of x.node behind ≡ items_of x.node xs
    → ((p : ℕ) → items_of p (x ∷ xs) ≡ items_of p (front ++ x ∷ behind)) → (p : ℕ)
    → items_of p xs ≡ items_of p (front ++ behind)
without-item {T} x xs front behind none others same p =
    elim (cases_eq x.node p) [
      | inl e ↦
          subst (λ (q : ℕ). items_of q xs ≡ items_of q (front ++ behind)) e
          (sym others
          ∙ sym (of-append x.node front behind
          ∙ ap (λ (es : List (Stamped T)). es ++ items_of x.node behind) (none-own x.node front none)))
      | inr d ↦
          sym (others-item x xs p d)
          ∙ same p
          ∙ of-append p front (x ∷ behind)
          ∙ ap (λ (es : List (Stamped T)). items_of p front ++ es) (others-item x behind p d)
          ∙ sym (of-append p front behind)
    ]

no-item : {T : Type 0} (y : Stamped T) (ys : List (Stamped T)) → [] ≡ items_of y.node (y ∷ ys) → ⊥
no-item y ys h = let none : [] ≡ y ∷ items_of y.node ys = h ∙ own-item y ys y.node refl in cc

-- two lists with the same items of each node have the same items
same-items : {T : Type 0} (xs ys : List (Stamped T)) → ((p : ℕ) → items_of p xs ≡ items_of p ys) → IsPermutation xs ys
same-items [] [] same = IsPermutation-refl []
same-items [] (y ∷ ys) same = absurd (no-item y ys (same y.node))
same-items {T} (x ∷ xs) ys same =
    let found : Stands x (items_of x.node xs) ys =
    stands x (items_of x.node xs) ys (sym (same x.node) ∙ own-item x xs x.node refl)
    in let rest : IsPermutation xs (found.front ++ found.behind) =
    same-items xs (found.front ++ found.behind)
    (without-item x xs found.front found.behind found.none found.others (λ p.
    same p ∙ ap (items_of p) found.is))
    in let moved : IsPermutation (x ∷ xs) (found.front ++ x ∷ found.behind) =
    IsPermutation-trans (x ∷ xs) (x ∷ (found.front ++ found.behind)) (found.front ++ x ∷ found.behind)
    (IsPermutation-cons x xs (found.front ++ found.behind) rest)
    (IsPermutation-sym (found.front ++ x ∷ found.behind) (x ∷ (found.front ++ found.behind))
    (IsPermutation-middle found.front x found.behind))
    in subst (IsPermutation (x ∷ xs)) (sym found.is) moved

-- ---- to a merge

node-or-none : (script : Script) (p : ℕ) → IsNode script p ⊎ (IsNode script p → ⊥)
node-or-none script p =
    elim (cases_lt 0 p) [
      | inl low ↦ elim (cases_lt (node_count script) p) [
        | inl above ↦ inr (λ is. let high = is.high in omega arith)
        | inr high ↦ inl (record { low = omega arith; high = high })
      ]
      | inr none ↦ inr (λ is. let low = is.low in omega arith)
    ]

-- a number that is no node's has no items where all are of nodes
none-outside : (script : Script) (p : ℕ) (es : List (Stamped Logged)) → (IsNode script p → ⊥)
    → AllByRecursion (λ (e : Stamped Logged). IsNode script e.node) es → items_of p es ≡ []
none-outside script p es out nodes =
    none-own p es
    (all-map {Q = λ (e : Stamped Logged). e.node ≢ p} (λ (e : Stamped Logged) is same.
    out (subst (IsNode script) same is)) es nodes)

is-part : (p : ℕ) (merged log : List (Stamped Logged)) (turns : Log) → items_of p merged ≡ log
    → AllByRecursion (λ (e : Stamped Logged). items_of e.node merged ≡ log) (items_in p turns)
is-part p merged log [] part = tt
is-part p merged log (turn ∷ turns) part = (part, is-part p merged log turns part)

module _ (script : Script) (logs : ℕ → Log) (turns : List NodeTurn) (nodes : IsMergeByNode script logs turns) where
  part-of : (p : ℕ) → IsNode script p → items_of p (map turn_item turns) ≡ items_in p (logs p)
  part-of p is = items-of-turns p turns ∙ ap (items_in p) (nodes.each p is)

  parts : (p : ℕ) → items_of p (map turn_item turns) ≡ items_of p (all_items (logs_of script logs))
  parts p =
      elim (node-or-none script p) [
        | inl is ↦ part-of p is ∙ sym (log-part script logs p is)
        | inr out ↦
            none-outside script p (map turn_item turns) out
            (all-mapped turn_item (λ (e : Stamped Logged). IsNode script e.node) turns nodes.nodes)
            ∙ sym (none-outside script p (all_items (logs_of script logs)) out
            (all-of-logs (λ (e : Stamped Logged). IsNode script e.node) script logs (λ q is turn. is)))
      ]

  -- what is one node by node is a merge
  pub from-nodes : IsMerge script logs turns
  from-nodes =
      record {
        in_order = nodes.in_order;
        each = each-of-logs (IsPartOf (map turn_item turns)) script logs (λ p is.
            is-part p (map turn_item turns) (items_in p (logs p)) (logs p) (part-of p is));
        parts = parts;
        all = same-items (all_items (logs_of script logs)) (map turn_item turns) (λ p. sym (parts p));
      }
