-- Events by node: each node's events in turn are the same events, by rising node.
use Rattle.std.proofs.Common.{◌≡◌, ◌≢◌, ℕ, zero, suc, ◌+◌, ◌<◌, ◌≤◌, Bool, true, false, cond, nat_eq, List, [], ◌∷◌, ◌++◌, length, refl, sym, ap, subst, ◌∙◌, inl, inr, append-nil, arith}
use Rattle.std.specs.List.{AllByRecursion, flat_map}
use Rattle.std.specs.List.Sorted.{IsPermutation}
use Rattle.std.proofs.lemmas.Bool.{cases_eq}
use Rattle.std.proofs.lemmas.List.Sorted.{IsPermutation-refl, IsPermutation-trans, IsPermutation-sym, IsPermutation-cons, IsPermutation-middle, IsPermutation-append_right}
use Rattle.pico_base.specs.declared.script.Event.{Event}
use Rattle.stamp_merge.specs.declared.Stamped.{Stamped}
use Rattle.stamp_merge.specs.Merge.{StampsRise, items_of}
use Rattle.stamp_merge.proofs.Filters.{all-map}
use Rattle.stamp_merge.proofs.Merges.{own-item, others-item, all-own, none-own, of-append}
use Rattle.world_model.specs.World.{numbers}
use Rattle.image_text.specs.Image.{max_node, by_node}
use Rattle.image_text.specs.Order.{NodesRise}
use Rattle.image_text.specs.Grammar.{StampsRiseByNode, IsOrderOf}
use Rattle.image_text.proofs.Orders.{all-append}

abbrev Happened : Type 0
Happened = List (Stamped Event)

abbrev grouped : Happened → ℕ → ℕ → Happened
grouped events first n = flat_map (λ p. items_of p events) (numbers first n)

-- ---- what holds of all

all-items : (P : Stamped Event → Type 0) (p : ℕ) (events : Happened) → AllByRecursion P events
    → AllByRecursion P (items_of p events)
all-items P p [] all = tt
all-items P p (e ∷ events) all = elim (cases_eq e.node p) [
  | inl is ↦ subst (AllByRecursion P) (sym (own-item e events p is)) (all.0, all-items P p events all.1)
  | inr other ↦ subst (AllByRecursion P) (sym (others-item e events p other)) (all-items P p events all.1)
]

all-grouped : (P : Stamped Event → Type 0) (first n : ℕ) (events : Happened) → AllByRecursion P events
    → AllByRecursion P (grouped events first n)
all-grouped P first zero events all = tt
all-grouped P first (suc n) events all =
    all-append P (items_of first events) (grouped events (first + 1) n) (all-items P first events all)
    (all-grouped P (first + 1) n events all)

-- what holds of all events holds of them by node
pub all-by-node : (P : Stamped Event → Type 0) (events : Happened) → AllByRecursion P events
    → AllByRecursion P (by_node events)
unfolding by_node
all-by-node P events all = all-grouped P 1 max_node events all

-- ---- the nodes rise

own-nodes : (p : ℕ) (events : Happened) → AllByRecursion (λ (e : Stamped Event). e.node ≡ p) (items_of p events)
own-nodes p [] = tt
own-nodes p (e ∷ events) = elim (cases_eq e.node p) [
  | inl is ↦
      subst (AllByRecursion (λ (f : Stamped Event). f.node ≡ p)) (sym (own-item e events p is)) (is, own-nodes p events)
  | inr other ↦
      subst (AllByRecursion (λ (f : Stamped Event). f.node ≡ p)) (sym (others-item e events p other))
      (own-nodes p events)
]

rise-lower : (low low' : ℕ) (events : Happened) → low ≤ low' → NodesRise low' events → NodesRise low events
rise-lower low low' [] le rise = tt
rise-lower low low' (e ∷ events) le rise = let first : low' ≤ e.node = rise.0 in (omega arith, rise.1, rise.2)

rise-join : (low p : ℕ) (xs ys : Happened) → low ≤ p → p ≤ max_node
    → AllByRecursion (λ (e : Stamped Event). e.node ≡ p) xs → NodesRise p ys → NodesRise low (xs ++ ys)
rise-join low p [] ys le high all rise = rise-lower low p ys le rise
rise-join low p (e ∷ xs) ys le high all rise =
    let own : e.node ≡ p = all.0 in (
      omega arith,
      omega arith,
      rise-join e.node p xs ys (omega arith) high all.1 rise,
    )

rise-grouped : (first n : ℕ) (events : Happened) → first + n ≤ suc max_node → NodesRise first (grouped events first n)
rise-grouped first zero events le = tt
rise-grouped first (suc n) events le =
    rise-join first first (items_of first events) (grouped events (first + 1) n) (omega arith) (omega arith)
    (own-nodes first events)
    (rise-lower first (first + 1) (grouped events (first + 1) n) (omega arith)
    (rise-grouped (first + 1) n events (omega arith)))

-- the nodes rise
pub rise-by-node : (events : Happened) → NodesRise 1 (by_node events)
unfolding by_node
rise-by-node events = rise-grouped 1 max_node events (omega arith)

-- ---- a node's events stay

all-other : (q p : ℕ) (xs : Happened) → p ≢ q → AllByRecursion (λ (e : Stamped Event). e.node ≡ p) xs
    → AllByRecursion (λ (e : Stamped Event). e.node ≢ q) xs
all-other q p xs other all =
    all-map {Q = λ (e : Stamped Event). e.node ≢ q} (λ (e : Stamped Event) (is : e.node ≡ p) same. other (sym is
    ∙ same)) xs all

none-grouped : (q first n : ℕ) (events : Happened) → q < first → items_of q (grouped events first n) ≡ []
none-grouped q first zero events less = refl
none-grouped q first (suc n) events less =
    of-append q (items_of first events) (grouped events (first + 1) n)
    ∙ ap (λ (xs : Happened). xs ++ items_of q (grouped events (first + 1) n))
    (none-own q (items_of first events) (all-other q first (items_of first events) (λ e. omega arith)
    (own-nodes first events)))
    ∙ none-grouped q (first + 1) n events (omega arith)

stamps-grouped : (q first n : ℕ) (events : Happened) → StampsRise (items_of q events)
    → StampsRise (items_of q (grouped events first n))
stamps-grouped q first zero events rise = tt
stamps-grouped q first (suc n) events rise =
    let rest : Happened = grouped events (first + 1) n in
    elim (cases_eq first q) [
      | inl is ↦
          let own : items_of q (items_of first events) ≡ items_of q events =
          ap (λ (k : ℕ). items_of q (items_of k events)) is ∙ all-own q (items_of q events) (own-nodes q events) in
          let whole : items_of q (items_of first events ++ rest) ≡ items_of q events =
          of-append q (items_of first events) rest ∙ ap (λ (xs : Happened). xs ++ items_of q rest) own
          ∙ ap (λ (xs : Happened). items_of q events ++ xs) (none-grouped q (first + 1) n events (omega arith))
          ∙ append-nil (items_of q events) in
          subst StampsRise (sym whole) rise
      | inr other ↦
          let whole : items_of q (items_of first events ++ rest) ≡ items_of q rest =
          of-append q (items_of first events) rest
          ∙ ap (λ (xs : Happened). xs ++ items_of q rest)
          (none-own q (items_of first events) (all-other q first (items_of first events) other
          (own-nodes first events))) in
          subst StampsRise (sym whole) (stamps-grouped q (first + 1) n events rise)
    ]

-- and so do the stamps of each, as before
pub stamps-by-node : (events : Happened) → StampsRiseByNode events → StampsRiseByNode (by_node events)
unfolding by_node
stamps-by-node events rise p = stamps-grouped p 1 max_node events (rise p)

-- ---- they are the same events

same-behind : (e : Stamped Event) (events : Happened) (first n : ℕ) → e.node < first
    → grouped (e ∷ events) first n ≡ grouped events first n
same-behind e events first zero less = refl
same-behind e events first (suc n) less =
    ap (λ (xs : Happened). xs ++ grouped (e ∷ events) (first + 1) n) (others-item e events first (λ is. omega arith))
    ∙ ap (λ (xs : Happened). items_of first events ++ xs) (same-behind e events (first + 1) n (omega arith))

one-more : (e : Stamped Event) (events : Happened) (first n : ℕ) → first ≤ e.node → e.node < first + n
    → IsPermutation (e ∷ grouped events first n) (grouped (e ∷ events) first n)
one-more e events first zero low high = absurd (omega arith)
one-more e events first (suc n) low high =
    let xs : Happened = items_of first events in
    let rest : Happened = grouped events (first + 1) n in
    elim (cases_eq e.node first) [
      | inl is ↦
          let same : grouped (e ∷ events) first (suc n) ≡ e ∷ (xs ++ rest) =
          ap (λ (ys : Happened). ys ++ grouped (e ∷ events) (first + 1) n) (own-item e events first is)
          ∙ ap (λ (ys : Happened). (e ∷ xs) ++ ys) (same-behind e events (first + 1) n (omega arith)) in
          subst (IsPermutation (e ∷ (xs ++ rest))) (sym same) (IsPermutation-refl (e ∷ (xs ++ rest)))
      | inr other ↦
          let next : Happened = grouped (e ∷ events) (first + 1) n in
          let same : grouped (e ∷ events) first (suc n) ≡ xs ++ next =
          ap (λ (ys : Happened). ys ++ next) (others-item e events first other) in
          let moved : IsPermutation (e ∷ (xs ++ rest)) (xs ++ (e ∷ rest)) =
          IsPermutation-sym (xs ++ (e ∷ rest)) (e ∷ (xs ++ rest)) (IsPermutation-middle xs e rest) in
          subst (IsPermutation (e ∷ (xs ++ rest))) (sym same)
          (IsPermutation-trans (e ∷ (xs ++ rest)) (xs ++ (e ∷ rest)) (xs ++ next) moved
          (IsPermutation-append_right xs (e ∷ rest) next (one-more e events (first + 1) n (omega arith) (omega arith))))
    ]

none-at-all : (first n : ℕ) → grouped [] first n ≡ []
none-at-all first zero = refl
none-at-all first (suc n) = none-at-all (first + 1) n

grouped-same : (events : Happened) → AllByRecursion (λ (e : Stamped Event). (1 ≤ e.node) × (e.node ≤ max_node)) events
    → IsPermutation events (grouped events 1 max_node)
grouped-same [] all = subst (IsPermutation []) (sym (none-at-all 1 max_node)) (IsPermutation-refl [])
grouped-same (e ∷ events) all =
    let low : 1 ≤ e.node = all.0.0 in
    let high : e.node ≤ max_node = all.0.1 in
    let rest = grouped-same events all.1 in
    IsPermutation-trans (e ∷ events) (e ∷ grouped events 1 max_node) (grouped (e ∷ events) 1 max_node)
    (IsPermutation-cons e events (grouped events 1 max_node) rest)
    (one-more e events 1 max_node low (omega arith))

-- events by node are the same events
pub by-node-same : (events : Happened)
    → AllByRecursion (λ (e : Stamped Event). (1 ≤ e.node) × (e.node ≤ max_node)) events
    → IsPermutation events (by_node events)
unfolding by_node
by-node-same events all = grouped-same events all

-- an order of the events is one of them by node
pub order-by-node : (events order : Happened)
    → AllByRecursion (λ (e : Stamped Event). (1 ≤ e.node) × (e.node ≤ max_node)) events → IsOrderOf events order
    → IsOrderOf (by_node events) order
order-by-node events order all is = record {
  in_order = is.in_order;
  same =
      IsPermutation-trans (by_node events) events order
      (IsPermutation-sym events (by_node events) (by-node-same events all)) is.same;
}
