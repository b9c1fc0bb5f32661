-- What is sorted by stamp and by node is the merge of the logs.
use Rattle.std.proofs.Common.{◌≡◌, ◌≢◌, ℕ, ◌<◌, ◌≤◌, List, [], ◌∷◌, ◌++◌, nat_eq, refl, ap, sym, subst, ◌∙◌, append-nil, inl, inr, arith}
use Rattle.std.specs.List.{AllByRecursion}
use Rattle.std.proofs.lemmas.Bool.{cases_eq, eq-eqb, ne_eqb}
use Rattle.std.proofs.lemmas.List.Elements.{filter-append}
use Rattle.std.specs.List.Sorted.{IsPermutation}
use Rattle.std.proofs.lemmas.List.Sorted.{length_permutation}
use Rattle.stamp_merge.specs.declared.Stamped.{Stamped}
use Rattle.stamp_merge.specs.Merge.{StampsRise, IsOfOneNode, ShareNoNode, HaveOwnNodes, all_items, items_of, IsBefore, AreInOrder, IsPartOf, IsMerge}
use Rattle.stamp_merge.specs.Sorted.{IsNotAfter, NoneFalls, IsSortOf}
use Rattle.stamp_merge.proofs.Filters.{all-map, all-both, filter-yes, filter-no, filter-all, filter-none}
use Rattle.stamp_merge.proofs.Orders.{dont-fall-from-rise, dont-fall-from-none, dont-fall-filter, one-order}

-- ---- one node's items

-- the first item is the node's
pub own-item : {T : Type 0} (e : Stamped T) (es : List (Stamped T)) (p : ℕ) → e.node ≡ p
    → items_of p (e ∷ es) ≡ e ∷ items_of p es
own-item e es p h = filter-yes (λ f. nat_eq f.node p) e es (eq-eqb e.node p h)

-- it is another's
pub others-item : {T : Type 0} (e : Stamped T) (es : List (Stamped T)) (p : ℕ) → e.node ≢ p
    → items_of p (e ∷ es) ≡ items_of p es
others-item e es p h = filter-no (λ f. nat_eq f.node p) e es (ne_eqb e.node p h)

-- all are the node's
pub all-own : {T : Type 0} (p : ℕ) (es : List (Stamped T)) → AllByRecursion (λ e. e.node ≡ p) es → items_of p es ≡ es
all-own {T} p es h =
    filter-all (λ f. nat_eq f.node p) es (all-map (λ (e : Stamped T) s. eq-eqb e.node p s) es h)

-- none is
pub none-own : {T : Type 0} (p : ℕ) (es : List (Stamped T)) → AllByRecursion (λ e. e.node ≢ p) es → items_of p es ≡ []
none-own {T} p es h =
    filter-none (λ f. nat_eq f.node p) es (all-map (λ (e : Stamped T) s. ne_eqb e.node p s) es h)

-- one list behind another
pub of-append : {T : Type 0} (p : ℕ) (xs ys : List (Stamped T)) → items_of p (xs ++ ys) ≡ items_of p xs ++ items_of p ys
of-append p xs ys = filter-append (λ f. nat_eq f.node p) xs ys

-- ---- each log is the part of its node in all items

none-later : {T : Type 0} (x : Stamped T) (xs : List (Stamped T)) (logs : List (List (Stamped T)))
    → AllByRecursion (ShareNoNode (x ∷ xs)) logs → items_of x.node (all_items logs) ≡ []
none-later x xs [] h = refl
none-later {T} x xs (log ∷ logs) h =
    of-append x.node log (all_items logs)
    ∙ ap (λ (es : List (Stamped T)). es ++ items_of x.node (all_items logs)) (none-own x.node log h.0.0)
    ∙ none-later x xs logs h.1

first-log : {T : Type 0} (x : Stamped T) (xs : List (Stamped T)) (logs : List (List (Stamped T)))
    → IsOfOneNode (x ∷ xs) → AllByRecursion (ShareNoNode (x ∷ xs)) logs
    → items_of x.node (all_items ((x ∷ xs) ∷ logs)) ≡ x ∷ xs
first-log {T} x xs logs one others =
    of-append x.node (x ∷ xs) (all_items logs)
    ∙ ap (λ (es : List (Stamped T)). es ++ items_of x.node (all_items logs)) (all-own x.node (x ∷ xs) (refl, one))
    ∙ ap (λ (es : List (Stamped T)). (x ∷ xs) ++ es) (none-later x xs logs others)
    ∙ append-nil (x ∷ xs)

first-part : {T : Type 0} (log : List (Stamped T)) (logs : List (List (Stamped T))) → IsOfOneNode log
    → AllByRecursion (ShareNoNode log) logs → IsPartOf (all_items (log ∷ logs)) log
first-part [] logs one others = tt
first-part {T} (x ∷ xs) logs one others =
    all-map (λ (e : Stamped T) (s : e.node ≡ x.node).
    ap (λ p. items_of p (all_items ((x ∷ xs) ∷ logs))) s ∙ first-log x xs logs one others) (x ∷ xs) (refl, one)

all-share : {T : Type 0} (other : List (Stamped T))
    → AllByRecursion (λ f. AllByRecursion (λ (e : Stamped T). e.node ≢ f.node) []) other
all-share [] = tt
all-share (f ∷ other) = (tt, all-share other)

share-back : {T : Type 0} (log other : List (Stamped T)) → ShareNoNode log other
    → AllByRecursion (λ f. AllByRecursion (λ e. e.node ≢ f.node) log) other
share-back [] other h = all-share other
share-back {T} (e ∷ log) other h =
    all-both (λ (f : Stamped T) (d : f.node ≢ e.node) rest. (λ s. d (sym s), rest)) other h.0 (share-back log other h.1)

later-part : {T : Type 0} (log : List (Stamped T)) (logs : List (List (Stamped T))) (other : List (Stamped T))
    → ShareNoNode log other → IsPartOf (all_items logs) other → IsPartOf (all_items (log ∷ logs)) other
later-part {T} log logs other share part =
    all-both (λ (f : Stamped T) none is.
    of-append f.node log (all_items logs)
    ∙ ap (λ (es : List (Stamped T)). es ++ items_of f.node (all_items logs)) (none-own f.node log none) ∙ is) other
    (share-back log other share) part

each-part : {T : Type 0} (logs : List (List (Stamped T))) → HaveOwnNodes logs
    → AllByRecursion (IsPartOf (all_items logs)) logs
each-part [] h = tt
each-part (log ∷ logs) h = (
  first-part log logs h.0 h.1,
  all-both (λ other share part. later-part log logs other share part) logs h.1
      (each-part logs h.2),
)

-- ---- each node's items rise

node-rises : {T : Type 0} (p : ℕ) (logs : List (List (Stamped T))) → AllByRecursion StampsRise logs → HaveOwnNodes logs
    → StampsRise (items_of p (all_items logs))
node-rises p [] rise own = tt
node-rises p ([] ∷ logs) rise own = node-rises p logs rise.1 own.2
node-rises {T} p ((x ∷ xs) ∷ logs) rise own =
    elim (cases_eq x.node p) [
      | inl e ↦
          let log : items_of p (all_items ((x ∷ xs) ∷ logs)) ≡ x ∷ xs =
          ap (λ q. items_of q (all_items ((x ∷ xs) ∷ logs))) (sym e) ∙ first-log x xs logs own.0 own.1
          in subst StampsRise (sym log) rise.0
      | inr d ↦
          let others : AllByRecursion (λ (f : Stamped T). f.node ≢ p) xs =
          all-map {Q = λ (f : Stamped T). f.node ≢ p} (λ (f : Stamped T) s h. d (sym s ∙ h)) xs own.0
          in let none : items_of p (x ∷ xs) ≡ [] = none-own p (x ∷ xs) (d, others)
          in let rest : items_of p (all_items ((x ∷ xs) ∷ logs)) ≡ items_of p (all_items logs) =
          of-append p (x ∷ xs) (all_items logs)
          ∙ ap (λ (es : List (Stamped T)). es ++ items_of p (all_items logs)) none
          in subst StampsRise (sym rest) (node-rises p logs rise.1 own.2)
    ]

-- ---- the sorted items

-- each node's items are as they were
same-part : {T : Type 0} (logs : List (List (Stamped T))) (merged : List (Stamped T)) → AllByRecursion StampsRise logs
    → HaveOwnNodes logs → IsSortOf (all_items logs) merged → (e : Stamped T)
    → items_of e.node merged ≡ items_of e.node (all_items logs)
same-part logs merged rise own sorted e =
    one-order (items_of e.node merged) (items_of e.node (all_items logs))
    (dont-fall-filter (λ f. nat_eq f.node e.node) merged (dont-fall-from-none merged sorted.none_falls))
    (dont-fall-from-rise (items_of e.node (all_items logs)) (node-rises e.node logs rise own))
    (λ s. sorted.stays (record { stamp = s; node = e.node; item = e.item }))

strict-after : {T : Type 0} (x : Stamped T) (ys : List (Stamped T)) → AllByRecursion (IsNotAfter x) ys
    → AllByRecursion (λ f. x.stamp < f.stamp) (items_of x.node ys) → AllByRecursion (IsBefore x) ys
strict-after x [] h rise = tt
strict-after {T} x (y ∷ ys) h rise =
    elim (cases_eq y.node x.node) [
      | inl e ↦
          let own = subst (AllByRecursion (λ (f : Stamped T). x.stamp < f.stamp)) (own-item y ys x.node e) rise
          in (inl own.0, strict-after x ys h.1 own.1)
      | inr d ↦
          let rest = subst (AllByRecursion (λ (f : Stamped T). x.stamp < f.stamp)) (others-item y ys x.node d) rise
          in (
            elim h.0 [
              | inl l ↦ inl l
              | inr s ↦ let low : x.node ≤ y.node = s.1 in inr (s.0, omega arith)
            ],
            strict-after x ys h.1 rest,
          )
    ]

rest-rises : {T : Type 0} (x : Stamped T) (xs : List (Stamped T)) (p : ℕ) → StampsRise (items_of p (x ∷ xs))
    → StampsRise (items_of p xs)
rest-rises x xs p h =
    elim (cases_eq x.node p) [
      | inl e ↦ (subst StampsRise (own-item x xs p e) h).1
      | inr d ↦ subst StampsRise (others-item x xs p d) h
    ]

in-order : {T : Type 0} (zs : List (Stamped T)) → NoneFalls zs → ((e : Stamped T) → StampsRise (items_of e.node zs))
    → AreInOrder zs
in-order [] h rise = tt
in-order (x ∷ zs) h rise = (
  strict-after x zs h.0 (subst StampsRise (own-item x zs x.node refl) (rise x)).0,
  in-order zs h.1 (λ e.
      rest-rises x zs e.node (rise e)),
)

-- so are those of a node without items
any-part : {T : Type 0} (xs zs : List (Stamped T)) → IsPermutation xs zs
    → ((e : Stamped T) → items_of e.node zs ≡ items_of e.node xs) → (p : ℕ) → items_of p zs ≡ items_of p xs
any-part [] [] moved same p = refl
any-part [] (z ∷ zs) moved same p = let none = length_permutation [] (z ∷ zs) moved in absurd (omega arith)
any-part (x ∷ xs) zs moved same p = same (record { stamp = 0; node = p; item = x.item })

-- the sorted items of the logs are their merge
pub merge-from-sort : {T : Type 0} (logs : List (List (Stamped T))) (merged : List (Stamped T))
    → AllByRecursion StampsRise logs → HaveOwnNodes logs → IsSortOf (all_items logs) merged → IsMerge logs merged
merge-from-sort {T} logs merged rise own sorted =
    let same = same-part logs merged rise own sorted
    in record {
      in_order = in-order merged sorted.none_falls (λ e.
          subst StampsRise (sym (same e)) (node-rises e.node logs rise own));
      each = all-map (λ (log : List (Stamped T)) part. all-map (λ (e : Stamped T) is. same e ∙ is) log part) logs
          (each-part logs own);
      parts = any-part (all_items logs) merged sorted.all same;
      all = sorted.all;
    }
