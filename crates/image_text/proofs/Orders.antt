-- The merge of the nodes' logs is the events in order: two lists in order with the same events are the same.
use Rattle.std.proofs.Common.{◌≡◌, ◌≢◌, ℕ, zero, suc, ◌+◌, ◌<◌, ◌≤◌, Bool, true, false, cond, ◌&&◌, ◌||◌, ltb, eqb, List, [], ◌∷◌, ◌++◌, map, refl, sym, ap, subst, ◌∙◌, inl, inr, arith}
use Rattle.std.specs.Prelude.{◌⊎◌, ⊤, Result, Ok, Err, IfOk}
use Rattle.std.specs.List.{AllByRecursion, All, filter}
use Rattle.std.specs.List.Sorted.{IsPermutation}
use Rattle.std.proofs.lemmas.Bool.{cases_eq}
use Rattle.std.proofs.lemmas.List.Elements.{All-nil, All-cons, All-head, All-tail}
use Rattle.std.proofs.lemmas.List.Sorted.{All-permutation, IsPermutation-sym}
use Rattle.stamp_merge.specs.declared.Stamped.{Stamped}
use Rattle.stamp_merge.specs.Merge.{items_of, all_items, IsBefore, AreInOrder, IsMerge}
use Rattle.stamp_merge.proofs.Filters.{all-map, all-both}
use Rattle.stamp_merge.proofs.Merges.{own-item, others-item}
use Rattle.world_model.specs.World.{numbers}
use Rattle.image_text.specs.declared.placed.Placed.{Placed}
use Rattle.image_text.specs.Image.{max_node}
use Rattle.image_text.specs.Order.{is_before, put, ordered, NodesRise, logs_of}
use Rattle.image_text.proofs.Rising.{IsUnder, AllRise}

-- ---- what holds of all items

from-all : {X : Type 0} (P : X → Type 0) (xs : List X) → All P xs → AllByRecursion P xs
from-all P [] all = tt
from-all P (x ∷ xs) all = (All-head P x xs all, from-all P xs (All-tail P x xs all))

to-all : {X : Type 0} (P : X → Type 0) (xs : List X) → AllByRecursion P xs → All P xs
to-all P [] all = All-nil P
to-all P (x ∷ xs) all = All-cons P x xs all.0 (to-all P xs all.1)

-- it holds of the same items in another order
pub all-moved : {X : Type 0} (P : X → Type 0) (xs ys : List X) → IsPermutation xs ys → AllByRecursion P xs
    → AllByRecursion P ys
all-moved P xs ys moved all = from-all P ys (All-permutation P xs ys moved (to-all P xs all))

-- what holds of two lists holds of both in a row
pub all-append : {X : Type 0} (P : X → Type 0) (xs ys : List X) → AllByRecursion P xs → AllByRecursion P ys
    → AllByRecursion P (xs ++ ys)
all-append P [] ys all both = both
all-append P (x ∷ xs) ys all both = (all.0, all-append P xs ys all.1 both)

-- ---- which items are there

-- an item is among these
abbrev pub IsIn : {X : Type 0} → X → List X → Type 0
IsIn x [] = ⊥
IsIn x (y ∷ ys) = (x ≡ y) ⊎ IsIn x ys

-- what holds of all holds of one of them
pub all-at : {X : Type 0} (P : X → Type 0) (x : X) (xs : List X) → AllByRecursion P xs → IsIn x xs → P x
all-at P x [] all there = absurd there
all-at P x (y ∷ ys) all (inl same) = subst P (sym same) all.0
all-at P x (y ∷ ys) all (inr there) = all-at P x ys all.1 there

-- all items of a list are among others where each is
pub all-there : {X : Type 0} (xs ys : List X) → ((x : X) → IsIn x xs → IsIn x ys) → AllByRecursion (λ x. IsIn x ys) xs
all-there [] ys f = tt
all-there (x ∷ xs) ys f = (f x (inl refl), all-there xs ys (λ y there. f y (inr there)))

in-left : {X : Type 0} (x : X) (xs ys : List X) → IsIn x xs → IsIn x (xs ++ ys)
in-left x [] ys there = absurd there
in-left x (y ∷ xs) ys (inl same) = inl same
in-left x (y ∷ xs) ys (inr there) = inr (in-left x xs ys there)

in-right : {X : Type 0} (x : X) (xs ys : List X) → IsIn x ys → IsIn x (xs ++ ys)
in-right x [] ys there = there
in-right x (y ∷ xs) ys there = inr (in-right x xs ys there)

-- ---- two lists in order

not-both : {T : Type 0} (e f : Stamped T) → IsBefore e f → IsBefore f e → ⊥
not-both e f (inl a) (inl b) = omega arith
not-both e f (inl a) (inr b) = let same : f.stamp ≡ e.stamp = b.0 in omega arith
not-both e f (inr a) (inl b) = let same : e.stamp ≡ f.stamp = a.0 in omega arith
not-both e f (inr a) (inr b) = let low : e.node < f.node = a.1 in let high : f.node < e.node = b.1 in omega arith

heads : {T : Type 0} (x y : Stamped T) (xs ys : List (Stamped T)) → AreInOrder (x ∷ xs) → AreInOrder (y ∷ ys)
    → IsIn x (y ∷ ys) → IsIn y (x ∷ xs) → x ≡ y
heads x y xs ys first second (inl same) there = same
heads x y xs ys first second (inr there) (inl same) = sym same
heads {T} x y xs ys first second (inr there) (inr back) =
    absurd (not-both x y (all-at (IsBefore x) y xs first.0 back) (all-at (IsBefore y) x ys second.0 there))

behind : {T : Type 0} (x y : Stamped T) (ys : List (Stamped T)) → x ≡ y → (z : Stamped T) → IsBefore x z
    → IsIn z (y ∷ ys) → IsIn z ys
behind x y ys same z before (inl is) =
    let h : IsBefore x x = subst (λ (e : Stamped _). IsBefore x e) (is ∙ sym same) before in absurd (not-both x x h h)
behind x y ys same z before (inr there) = there

-- two lists in order that have the same items are the same
pub same-order : {T : Type 0} (xs ys : List (Stamped T)) → AreInOrder xs → AreInOrder ys
    → AllByRecursion (λ x. IsIn x ys) xs → AllByRecursion (λ y. IsIn y xs) ys → xs ≡ ys
same-order [] [] first second there back = refl
same-order [] (y ∷ ys) first second there back = absurd back.0
same-order (x ∷ xs) [] first second there back = absurd there.0
same-order {T} (x ∷ xs) (y ∷ ys) first second there back =
    let same : x ≡ y = heads x y xs ys first second there.0 back.0 in
    let rest : xs ≡ ys =
    same-order xs ys first.1 second.1
    (all-both (λ (z : Stamped T) before is. behind x y ys same z before is) xs first.0 there.1)
    (all-both (λ (z : Stamped T) before is. behind y x xs (sym same) z before is) ys second.0 back.1) in
    ap (λ (e : Stamped T). e ∷ xs) same ∙ ap (λ (es : List (Stamped T)). y ∷ es) rest

-- ---- events put in order

before-true : (a b c d : ℕ) → (ltb a b || (eqb a b && ltb c d)) ≡ true → (a < b) ⊎ ((a ≡ b) × (c < d))
before-true a b c d h = grind arith

before-false : (a b c d : ℕ) → (ltb a b || (eqb a b && ltb c d)) ≡ false → (c < d) ⊎ ((c ≡ d) × (a < b))
    → (b < a) ⊎ ((b ≡ a) × (d < c))
before-false a b c d h u = grind arith

before-far : {T : Type 0} (e f g : Stamped T) → IsBefore e f → IsBefore f g → IsBefore e g
before-far e f g (inl a) (inl b) = inl (omega arith)
before-far e f g (inl a) (inr b) = let same : f.stamp ≡ g.stamp = b.0 in inl (omega arith)
before-far e f g (inr a) (inl b) = let same : e.stamp ≡ f.stamp = a.0 in inl (omega arith)
before-far e f g (inr a) (inr b) =
    let low : e.node < f.node = a.1 in let high : f.node < g.node = b.1 in inr (a.0 ∙ b.0, omega arith)

all-put : (P : Stamped Placed → Type 0) (e : Stamped Placed) (events : List (Stamped Placed)) → P e
    → AllByRecursion P events → AllByRecursion P (put e events)
all-put P e [] own all = (own, tt)
all-put P e (f ∷ events) own all = of (is_before e f) (all-put P e events own all.1)
  where
    of : (b : Bool) → AllByRecursion P (put e events) → AllByRecursion P (cond b (e ∷ f ∷ events) (f ∷ put e events))
    of true rest = (own, all)
    of false rest = (all.0, rest)

-- what holds of all events holds of them in order
pub all-ordered : (P : Stamped Placed → Type 0) (events : List (Stamped Placed)) → AllByRecursion P events
    → AllByRecursion P (ordered events)
unfolding ordered
all-ordered P [] all = tt
all-ordered P (e ∷ events) all = all-put P e (ordered events) all.0 (all-ordered P events all.1)

put-order : (e : Stamped Placed) (events : List (Stamped Placed)) → AreInOrder events
    → AllByRecursion (IsUnder e) events → AreInOrder (put e events)
put-order e [] order under = (tt, tt)
put-order e (f ∷ events) order under = of (is_before e f) refl (put-order e events order.1 under.1)
  where
    of : (b : Bool) → is_before e f ≡ b → AreInOrder (put e events)
        → AreInOrder (cond b (e ∷ f ∷ events) (f ∷ put e events))
    of true h rest =
        let first : IsBefore e f = before-true e.stamp f.stamp e.node f.node h in
        ((first, all-map (λ (g : Stamped Placed) b. before-far e f g first b) events order.0), order)
    of false h rest =
        let first : IsBefore f e = before-false e.stamp f.stamp e.node f.node h under.0 in
        (all-put (IsBefore f) e events first order.0, rest)

-- the events in order are in order
pub ordered-is : (events : List (Stamped Placed)) → AllRise events → AreInOrder (ordered events)
unfolding ordered
ordered-is [] rise = tt
ordered-is (e ∷ events) rise =
    put-order e (ordered events) (ordered-is events rise.1) (all-ordered (IsUnder e) events rise.0)

in-put : (e : Stamped Placed) (events : List (Stamped Placed)) → IsIn e (put e events)
in-put e [] = inl refl
in-put e (f ∷ events) = of (is_before e f) (in-put e events)
  where
    of : (b : Bool) → IsIn e (put e events) → IsIn e (cond b (e ∷ f ∷ events) (f ∷ put e events))
    of true rest = inl refl
    of false rest = inr rest

still-put : (x e : Stamped Placed) (events : List (Stamped Placed)) → IsIn x events → IsIn x (put e events)
still-put x e [] there = absurd there
still-put x e (f ∷ events) there = of (is_before e f) (λ h. still-put x e events h) there
  where
    of : (b : Bool) → (IsIn x events → IsIn x (put e events)) → IsIn x (f ∷ events)
        → IsIn x (cond b (e ∷ f ∷ events) (f ∷ put e events))
    of true rest there = inr there
    of false rest (inl same) = inl same
    of false rest (inr there) = inr (rest there)

-- each event is among them
pub in-ordered : (x : Stamped Placed) (events : List (Stamped Placed)) → IsIn x events → IsIn x (ordered events)
unfolding ordered
in-ordered x [] there = absurd there
in-ordered x (e ∷ events) (inl same) =
    subst (λ (y : Stamped Placed). IsIn y (put e (ordered events))) (sym same) (in-put e (ordered events))
in-ordered x (e ∷ events) (inr there) = still-put x e (ordered events) (in-ordered x events there)

-- ---- events in their nodes' logs

in-own : (e : Stamped Placed) (events : List (Stamped Placed)) (p : ℕ) → e.node ≡ p → IsIn e events
    → IsIn e (items_of p events)
in-own e [] p own there = absurd there
in-own e (f ∷ events) p own (inl same) =
    let f_own : f.node ≡ p = ap (λ (x : Stamped Placed). x.node) (sym same) ∙ own in
    subst (IsIn e) (sym (own-item f events p f_own)) (inl same)
in-own e (f ∷ events) p own (inr there) = elim (cases_eq f.node p) [
  | inl is ↦ subst (IsIn e) (sym (own-item f events p is)) (inr (in-own e events p own there))
  | inr other ↦ subst (IsIn e) (sym (others-item f events p other)) (in-own e events p own there)
]

in-logs : (first n : ℕ) (e : Stamped Placed) (events : List (Stamped Placed)) → first ≤ e.node → e.node < first + n
    → IsIn e events → IsIn e (all_items (map (λ p. items_of p events) (numbers first n)))
in-logs first zero e events low high there = absurd (omega arith)
in-logs first (suc n) e events low high there =
    let rest : List (Stamped Placed) = all_items (map (λ p. items_of p events) (numbers (first + 1) n)) in
    elim (cases_eq e.node first) [
      | inl is ↦ in-left e (items_of first events) rest (in-own e events first is there)
      | inr other ↦
          in-right e (items_of first events) rest (in-logs (first + 1) n e events (omega arith) (omega arith) there)
    ]

all-items-of : (P : Stamped Placed → Type 0) (p : ℕ) (events : List (Stamped Placed)) → AllByRecursion P events
    → AllByRecursion P (items_of p events)
all-items-of P p [] all = tt
all-items-of P p (e ∷ events) all = elim (cases_eq e.node p) [
  | inl is ↦
      subst (AllByRecursion P) (sym (own-item e events p is)) (all.0, all-items-of P p events all.1)
  | inr other ↦ subst (AllByRecursion P) (sym (others-item e events p other)) (all-items-of P p events all.1)
]

all-logs : (P : Stamped Placed → Type 0) (first n : ℕ) (events : List (Stamped Placed)) → AllByRecursion P events
    → AllByRecursion P (all_items (map (λ p. items_of p events) (numbers first n)))
all-logs P first zero events all = tt
all-logs P first (suc n) events all =
    all-append P (items_of first events) (all_items (map (λ p. items_of p events) (numbers (first + 1) n)))
    (all-items-of P first events all) (all-logs P (first + 1) n events all)

nodes-bounded : (low : ℕ) (events : List (Stamped Placed)) → 1 ≤ low → NodesRise low events
    → AllByRecursion (λ (e : Stamped Placed). (1 ≤ e.node) × (e.node < 33)) events
nodes-bounded low [] some rise = tt
nodes-bounded low (e ∷ events) some rise =
    let from : low ≤ e.node = rise.0 in
    let to : e.node ≤ 32 = rise.1 in
    ((omega arith, omega arith), nodes-bounded e.node events (omega arith) rise.2)

all-in : (events : List (Stamped Placed)) → AllByRecursion (λ e. IsIn e events) events
all-in events = all-there events events (λ e there. there)

-- the merge of the logs is the events in order
pub merged-is : (events merged : List (Stamped Placed)) → NodesRise 1 events → AllRise events
    → IsMerge (logs_of events) merged → merged ≡ ordered events
unfolding logs_of
merged-is events merged nodes rise h =
    let logs : List (Stamped Placed) = all_items (map (λ p. items_of p events) (numbers 1 max_node)) in
    let bounds = nodes-bounded 1 events (omega arith) nodes in
    let in_logs : AllByRecursion (λ e. IsIn e logs) events =
    all-both
    (λ (e : Stamped Placed) (b : (1 ≤ e.node) × (e.node < 33)) (there : IsIn e events).
    in-logs 1 max_node e events b.0 (omega (arith, b.1)) there)
    events bounds (all-in events) in
    let in_merged : AllByRecursion (λ e. IsIn e merged) events =
    all-map (λ (e : Stamped Placed) there. all-at (λ x. IsIn x merged) e logs
    (all-moved (λ x. IsIn x merged) merged logs (IsPermutation-sym logs merged h.all) (all-in merged)) there)
    events in_logs in
    same-order merged (ordered events) h.in_order (ordered-is events rise)
    (all-moved (λ e. IsIn e (ordered events)) logs merged h.all
    (all-logs (λ e. IsIn e (ordered events)) 1 max_node events
    (all-there events (ordered events) (λ e there. in-ordered e events there))))
    (all-ordered (λ e. IsIn e merged) events in_merged)

-- what holds of a result, if there is one, in weaker words
pub if-weaker : {A E : Type 0} (r : Result A E) (P Q : A → Type 0) → ((x : A) → P x → Q x) → IfOk r P → IfOk r Q
if-weaker (Ok x) P Q f h = f x h
if-weaker (Err e) P Q f h = tt
