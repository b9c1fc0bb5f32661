-- Counts over all streams of a world, and over all that its leader holds, in which one place counts, or none.
use Rattle.std.proofs.Common.{◌≡◌, ◌≢◌, ℕ, zero, suc, ◌+◌, ◌<◌, ◌≤◌, Bool, true, false, ◌&&◌, nat_eq, cond, List, [], ◌∷◌, filter, slice_get, Option, Some, None, Contains, refl, ap, sym, ◌∙◌, inl, inr, arith}
use Rattle.std.specs.Prelude.{count_by, sum_by}
use Rattle.std.proofs.lemmas.Bool.{cases_eq, eq-eqb, eqb-true, ne_eqb}
use Rattle.std.proofs.lemmas.List.Sums.{sum_by-cons}
use Rattle.pico_base.specs.declared.numbers.Name.{Name}
use Rattle.pico_base.specs.declared.numbers.Name.TheVariants.{Proc, Msg, Sem}
use Rattle.rpc_frame.specs.declared.frame.Frame.{Frame}
use Rattle.kernel_laws.proofs.Members.{contains-first, contains-later}
use Rattle.kernel_laws.proofs.Plain.{not_some}
use Rattle.number_maps.specs.Maps.{Numbered, get}
use Rattle.number_maps.specs.Rising.{IsRising}
use Rattle.node_model.specs.declared.held.Held.{Held}
use Rattle.node_model.specs.Directory.{Place, held_for, items_of}
use Rattle.node_model.specs.Kinds.{Named}
use Rattle.world_model.specs.Census.{one_if}
use Rattle.world_model.specs.Node.{Node}
use Rattle.world_model.specs.World.{World, numbers, size, stream}
use Rattle.world_laws.specs.Invariant.{IsLeading}
use Rattle.world_laws.specs.Sights.{directory_of, node_of}
use Rattle.rest_laws.proofs.Sums.{rising-none, rising-one, sum-none}
use Rattle.projection_laws.specs.Projection.{HasNode, frames_that, items_in, items_that, nodes_of, places_by}

-- ---- over a list

-- nothing counts
pub sum-zero : {A : Type 0} (f : A → ℕ) (xs : List A) → ((x : A) → Contains xs x → f x ≡ 0) → sum_by f xs ≡ 0
sum-zero f [] none = refl
sum-zero f (x ∷ xs) none =
    let first = none x (contains-first x xs)
    in let rest = sum-zero f xs (λ y there. none y (contains-later x xs y there))
    in let both = sum_by-cons f x xs
    in omega (arith, first, rest, both)

abbrev counted : {A : Type 0} → (A → Bool) → A → ℕ
counted test y = cond (test y) 1 0

-- none passes, so none counts
pub count-none : {A : Type 0} (test : A → Bool) (xs : List A) → ((x : A) → Contains xs x → test x ≡ false)
    → count_by test xs ≡ 0
count-none test xs none = sum-zero (counted test) xs (λ x there. ap (λ t. cond t 1 0) (none x there))

among-first : {A : Type 0} (f : A → ℕ) (other : A → Bool) (x : A) (xs : List A) → (other x ≡ false → f x ≡ 0)
    → sum_by f xs ≡ sum_by f (filter other xs) → sum_by f (x ∷ xs) ≡ sum_by f (filter other (x ∷ xs))
among-first f other x xs none rest = by-test (other x) refl
  where
    by-test : (t : Bool) → other x ≡ t
        → sum_by f (x ∷ xs) ≡ sum_by f (cond t (x ∷ filter other xs) (filter other xs))
    by-test true e =
        sum_by-cons f x xs ∙ ap (λ n. f x + n) rest ∙ sym (sum_by-cons f x (filter other xs))
    by-test false e =
        let first : f x ≡ 0 = none e
        in let both = sum_by-cons f x xs
        in omega (arith, first, both, rest)

-- what counts passes a test, so it counts among what passes
pub sum-among : {A : Type 0} (f : A → ℕ) (other : A → Bool) (xs : List A)
    → ((x : A) → Contains xs x → other x ≡ false → f x ≡ 0) → sum_by f xs ≡ sum_by f (filter other xs)
sum-among f other [] none = refl
sum-among f other (x ∷ xs) none =
    among-first f other x xs (none x (contains-first x xs))
    (sum-among f other xs (λ y there. none y (contains-later x xs y there)))

-- and so where what counts is what passes another test
pub count-among : {A : Type 0} (test other : A → Bool) (xs : List A)
    → ((x : A) → Contains xs x → other x ≡ false → test x ≡ false) → count_by test xs ≡ count_by test (filter other xs)
count-among test other xs none =
    sum-among (counted test) other xs (λ x there e. ap (λ t. cond t 1 0) (none x there e))

-- one place counts at most
pub sum-most : {A : Type 0} (f : A → ℕ) (xs : List A) (j m : ℕ)
    → ((i : ℕ) (x : A) → slice_get xs i ≡ Some x → i ≢ j → f x ≡ 0)
    → ((x : A) → slice_get xs j ≡ Some x → f x ≤ m) → sum_by f xs ≤ m
sum-most f [] j m others here = omega arith
sum-most f (x ∷ xs) zero m others here =
    let first = here x refl
    in let rest = sum-none f xs (λ i y there. others (suc i) y there (λ e. omega (arith, e)))
    in let both = sum_by-cons f x xs
    in omega (arith, first, rest, both)
sum-most f (x ∷ xs) (suc j) m others here =
    let first = others 0 x refl (λ e. omega (arith, e))
    in let rest = sum-most f xs j m (λ i y there d. others (suc i) y there (λ e. d (omega (arith, e)))) here
    in let both = sum_by-cons f x xs
    in omega (arith, first, rest, both)

-- ---- over the numbers from one on

pub numbers-none : (f : ℕ → ℕ) (first count : ℕ) → ((p : ℕ) → first ≤ p → p < first + count → f p ≡ 0)
    → sum_by f (numbers first count) ≡ 0
numbers-none f first zero none = refl
numbers-none f first (suc count) none =
    let here = none first (omega arith) (omega arith)
    in let rest = numbers-none f (first + 1) count (λ p low high. none p (omega (arith, low)) (omega (arith, high)))
    in let both = sum_by-cons f first (numbers (first + 1) count)
    in omega (arith, here, rest, both)

pub numbers-one : (f : ℕ → ℕ) (first count j : ℕ) → first ≤ j → j < first + count
    → ((p : ℕ) → first ≤ p → p < first + count → p ≢ j → f p ≡ 0) → sum_by f (numbers first count) ≡ f j
numbers-one f first zero j low high others = absurd (omega (arith, low, high))
numbers-one f first (suc count) j low high others =
    elim (cases_eq first j) [
      | inl same ↦
          let here = ap f same
          in let rest =
          numbers-none f (first + 1) count
          (λ p above below. others p (omega (arith, above)) (omega (arith, below)) (λ e. omega (arith, above, same, e)))
          in let both = sum_by-cons f first (numbers (first + 1) count)
          in omega (arith, here, rest, both)
      | inr other ↦
          let here = others first (omega arith) (omega arith) other
          in let rest =
          numbers-one f (first + 1) count j (omega (arith, low, other)) (omega (arith, high))
          (λ p above below d. others p (omega (arith, above)) (omega (arith, below)) d)
          in let both = sum_by-cons f first (numbers (first + 1) count)
          in omega (arith, here, rest, both)
    ]

pub numbers-most : (f : ℕ → ℕ) (first count j m : ℕ)
    → ((p : ℕ) → first ≤ p → p < first + count → p ≢ j → f p ≡ 0) → f j ≤ m → sum_by f (numbers first count) ≤ m
numbers-most f first zero j m others here = omega arith
numbers-most f first (suc count) j m others here =
    elim (cases_eq first j) [
      | inl same ↦
          let equal = ap f same
          in let rest =
          numbers-none f (first + 1) count
          (λ p above below. others p (omega (arith, above)) (omega (arith, below)) (λ e. omega (arith, above, same, e)))
          in let both = sum_by-cons f first (numbers (first + 1) count)
          in omega (arith, equal, here, rest, both)
      | inr other ↦
          let none = others first (omega arith) (omega arith) other
          in let rest =
          numbers-most f (first + 1) count j m
          (λ p above below d. others p (omega (arith, above)) (omega (arith, below)) d) here
          in let both = sum_by-cons f first (numbers (first + 1) count)
          in omega (arith, none, rest, both)
    ]

-- ---- over all streams

-- what is counted in each stream, in all of them
abbrev pub over_streams : World → (ℕ → ℕ → ℕ) → ℕ
over_streams w count = sum_by (λ to. sum_by (count to) (nodes_of w)) (nodes_of w)

module _ (w : World) (count : ℕ → ℕ → ℕ) where
  abbrev row : ℕ → ℕ
  row to = sum_by (count to) (nodes_of w)

  pub streams-none : ((to sender : ℕ) → 1 ≤ to → 1 ≤ sender → count to sender ≡ 0) → over_streams w count ≡ 0
  streams-none none =
      numbers-none row 1 (size w)
      (λ to low high. numbers-none (count to) 1 (size w) (λ sender low_from high_from. none to sender low low_from))

  module _ (to sender : ℕ)
      (others : (a c : ℕ) → 1 ≤ a → 1 ≤ c → (a ≡ to → c ≢ sender) → count a c ≡ 0) where
    other-row : (a : ℕ) → 1 ≤ a → a < 1 + size w → a ≢ to → row a ≡ 0
    other-row a low high d =
        numbers-none (count a) 1 (size w) (λ c low_from high_from. others a c low low_from (λ e. absurd (d e)))

    pub streams-one : 1 ≤ to → to ≤ size w → 1 ≤ sender → sender ≤ size w → over_streams w count ≡ count to sender
    streams-one low high low_from high_from =
        numbers-one row 1 (size w) to low (omega (arith, high)) other-row
        ∙ numbers-one (count to) 1 (size w) sender low_from (omega (arith, high_from))
        (λ c above below d. others to c low above (λ e. d))

    pub streams-most : 1 ≤ to → (m : ℕ) → count to sender ≤ m → over_streams w count ≤ m
    streams-most low m here =
        numbers-most row 1 (size w) to m other-row
        (numbers-most (count to) 1 (size w) sender m (λ c above below d. others to c low above (λ e. d)) here)

-- two numbers pass the test against themselves
pub both-same : (a c : ℕ) → (nat_eq a a && nat_eq c c) ≡ true
both-same a c = rw (eq-eqb a a refl, eq-eqb c c refl) refl

-- what stands in one stream alone, or nowhere, is counted once, or not at all
pub streams-at : (w : World) (count : ℕ → ℕ → ℕ) (t : Bool) (to sender : ℕ)
    → (t ≡ true → ((1 ≤ to) × (to ≤ size w)) × ((1 ≤ sender) × (sender ≤ size w)))
    → ((a c : ℕ) → 1 ≤ a → 1 ≤ c → count a c ≡ one_if (t && (nat_eq a to && nat_eq c sender)))
    → over_streams w count ≡ one_if t
streams-at w count false to sender range counts =
    streams-none w count (λ a c low low_from. counts a c low low_from)
streams-at w count true to sender range counts =
    let r = range refl
    in streams-one w count to sender
    (λ a c low low_from d. counts a c low low_from ∙ ap (λ s. let n : ℕ = one_if s in n) (apart a c d))
    (r.0).0 (r.0).1 (r.1).0 (r.1).1
    ∙ counts to sender (r.0).0 (r.1).0
    ∙ ap (λ s. let n : ℕ = one_if s in n) (both-same to sender)
  where
    apart : (a c : ℕ) → (a ≡ to → c ≢ sender) → (nat_eq a to && nat_eq c sender) ≡ false
    apart a c d = by-row (nat_eq a to) refl
      where
        by-row : (s : Bool) → nat_eq a to ≡ s → (s && nat_eq c sender) ≡ false
        by-row false e = refl
        by-row true e = ne_eqb c sender (d (eqb-true a to e))

-- the frames of each stream that pass a test
abbrev pub passing : World → (ℕ → ℕ → Frame → Bool) → ℕ → ℕ → ℕ
passing w test to sender = count_by (test to sender) (stream w to sender)

-- where none passes in any stream, none does in the world
pub frames-none : (w : World) (test : ℕ → ℕ → Frame → Bool)
    → ((to sender : ℕ) → 1 ≤ to → 1 ≤ sender → passing w test to sender ≡ 0) → frames_that w test ≡ 0
frames-none w test none = streams-none w (passing w test) none

-- where they pass in one stream only, the world has no more of them than that
pub frames-most : (w : World) (test : ℕ → ℕ → Frame → Bool) (to sender : ℕ)
    → ((a c : ℕ) → 1 ≤ a → 1 ≤ c → (a ≡ to → c ≢ sender) → passing w test a c ≡ 0) → 1 ≤ to → (m : ℕ)
    → passing w test to sender ≤ m → frames_that w test ≤ m
frames-most w test to sender others low m here = streams-most w (passing w test) to sender others low m here

-- where one passes in one stream if it is so, and nothing else does, the world has one then and else none
pub frames-at : (w : World) (test : ℕ → ℕ → Frame → Bool) (t : Bool) (to sender : ℕ)
    → (t ≡ true → ((1 ≤ to) × (to ≤ size w)) × ((1 ≤ sender) × (sender ≤ size w)))
    → ((a c : ℕ) → 1 ≤ a → 1 ≤ c
    → count_by (test a c) (stream w a c) ≡ one_if (t && (nat_eq a to && nat_eq c sender)))
    → frames_that w test ≡ one_if t
frames-at w test t to sender range counts = streams-at w (passing w test) t to sender range counts

-- ---- over all that is held

module _ (test : Held → Bool) where
  abbrev of_place : ℕ × Place → ℕ
  of_place e = count_by test (items_of (Some e.1))

  at-place : (m : Numbered Place) (n : ℕ) (v : Place) → get m n ≡ Some v
      → of_place (n, v) ≡ count_by test (items_of (get m n))
  at-place m n v there = ap (λ (o : Option Place). count_by test (items_of o)) (sym there)

  pub in-none : (m : Numbered Place) → IsRising m → ((n : ℕ) → count_by test (items_of (get m n)) ≡ 0)
      → items_in test m ≡ 0
  in-none m rises none = rising-none of_place m rises (λ n v there. at-place m n v there ∙ none n)

  pub in-one : (m : Numbered Place) → IsRising m → (k : ℕ)
      → ((n : ℕ) → n ≢ k → count_by test (items_of (get m n)) ≡ 0)
      → items_in test m ≡ count_by test (items_of (get m k))
  in-one m rises k others = by-place (get m k) refl
    where
      by-place : (o : Option Place) → get m k ≡ o → items_in test m ≡ count_by test (items_of o)
      by-place None e =
          rising-none of_place m rises
          (λ n v there. at-place m n v there
          ∙ others n (λ same. not_some v (sym e ∙ ap (get m) (sym same) ∙ there)))
      by-place (Some u) e =
          rising-one of_place m k u (count_by test (items_of (Some u))) rises e refl
          (λ n v there d. at-place m n v there ∙ others n d)

  module _ (w : World) (leading : IsLeading (directory_of w)) (first : HasNode w 1 (node_of w 1)) where
    abbrev of_name : Name → ℕ
    of_name name = count_by test (held_for (directory_of w) name)

    abbrev all_of : Named Place → ℕ
    all_of m = items_in test m.processes + (items_in test m.queues + items_in test m.sets)

    items-are : items_that w test ≡ all_of (directory_of w).places
    items-are = ap (λ (o : Option Node). all_of (places_by o)) first.there

    pub items-none : ((name : Name) → of_name name ≡ 0) → items_that w test ≡ 0
    items-none none =
        let processes = in-none (directory_of w).places.processes leading.processes (λ n. none (Proc n))
        in let queues = in-none (directory_of w).places.queues leading.queues (λ n. none (Msg n))
        in let sets = in-none (directory_of w).places.sets leading.sets (λ n. none (Sem n))
        in let all = items-are
        in omega (arith, processes, queues, sets, all)

    pub items-one : (name : Name) → ((other : Name) → other ≢ name → of_name other ≡ 0)
        → items_that w test ≡ of_name name
    items-one (Proc k) others =
        let processes =
        in-one (directory_of w).places.processes leading.processes k (λ n d. others (Proc n) (λ e. d (same-number e)))
        in let queues = in-none (directory_of w).places.queues leading.queues (λ n. others (Msg n) (λ e. apart e))
        in let sets = in-none (directory_of w).places.sets leading.sets (λ n. others (Sem n) (λ e. apart_too e))
        in let all = items-are
        in omega (arith, processes, queues, sets, all)
      where
        same-number : {n : ℕ} → Proc n ≡ Proc k → n ≡ k
        same-number e = cc

        apart : {n : ℕ} → Msg n ≡ Proc k → ⊥
        apart e = cc

        apart_too : {n : ℕ} → Sem n ≡ Proc k → ⊥
        apart_too e = cc
    items-one (Msg k) others =
        let queues =
        in-one (directory_of w).places.queues leading.queues k (λ n d. others (Msg n) (λ e. d (same-number e)))
        in let processes =
        in-none (directory_of w).places.processes leading.processes (λ n. others (Proc n) (λ e. apart e))
        in let sets = in-none (directory_of w).places.sets leading.sets (λ n. others (Sem n) (λ e. apart_too e))
        in let all = items-are
        in omega (arith, processes, queues, sets, all)
      where
        same-number : {n : ℕ} → Msg n ≡ Msg k → n ≡ k
        same-number e = cc

        apart : {n : ℕ} → Proc n ≡ Msg k → ⊥
        apart e = cc

        apart_too : {n : ℕ} → Sem n ≡ Msg k → ⊥
        apart_too e = cc
    items-one (Sem k) others =
        let sets =
        in-one (directory_of w).places.sets leading.sets k (λ n d. others (Sem n) (λ e. d (same-number e)))
        in let processes =
        in-none (directory_of w).places.processes leading.processes (λ n. others (Proc n) (λ e. apart e))
        in let queues = in-none (directory_of w).places.queues leading.queues (λ n. others (Msg n) (λ e. apart_too e))
        in let all = items-are
        in omega (arith, processes, queues, sets, all)
      where
        same-number : {n : ℕ} → Sem n ≡ Sem k → n ≡ k
        same-number e = cc

        apart : {n : ℕ} → Proc n ≡ Sem k → ⊥
        apart e = cc

        apart_too : {n : ℕ} → Msg n ≡ Sem k → ⊥
        apart_too e = cc
