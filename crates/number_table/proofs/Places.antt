-- Where a binary search stops among entries by rising number.
use Rattle.std.proofs.Common.{◌≡◌, ℕ, zero, suc, ◌≤◌, ◌<◌, Bool, true, false, ◌&&◌, [], ◌∷◌, ◌++◌, length, get_or, Result, Ok, Err, MatchResult, refl, ap, subst, ◌∙◌, arith, IsTrue}
use Rattle.std.specs.FinMap.Entries.{below_all, is_sorted}
use Rattle.std.specs.List.{AllByRecursion}
use Rattle.std.specs.List.Sorted.{IsBinarySearchResult, IsNonDecreasingBy, IsSearchInRange}
use Rattle.std.specs.Ordering.{is_lt, nat_cmp, ordering_index, ordering_reverse}
use Rattle.std.specs.declared.cmp.Ordering.{Ordering}
use Rattle.std.specs.declared.cmp.Ordering.TheVariants.{Less, Equal, Greater}
use Rattle.std.specs.Cmp.{nat_cmp_total}
use Rattle.std.specs.FinMap.{nat_cmp-IsAntisymmetric}
use Rattle.number_maps.specs.Maps.{Numbered}
use Rattle.number_table.specs.Placing.{BelongsAt, StandsAt}

first : (a b : Bool) → IsTrue (a && b) → IsTrue a
first true b p = refl
first false b p = p

second : (a b : Bool) → IsTrue (a && b) → IsTrue b
second true b p = p
second false b p = absurd (cc)

less : (o : Ordering) → IsTrue (is_lt o) → o ≡ Less
less Less p = refl
less Equal p = absurd (cc)
less Greater p = absurd (cc)

reversed : (x y : ℕ) → nat_cmp x y ≡ Less → nat_cmp y x ≡ Greater
reversed x y e = nat_cmp_total.antisymm y x ∙ ap ordering_reverse e

turned : (x y : ℕ) → nat_cmp x y ≡ Greater → nat_cmp y x ≡ Less
turned x y e = nat_cmp_total.antisymm y x ∙ ap ordering_reverse e

-- a greater name stands no lower to a third one
rising : (x y n : ℕ) → nat_cmp x y ≡ Less → ordering_index (nat_cmp x n) ≤ ordering_index (nat_cmp y n)
rising x y n e =
    elim (nat_cmp x n) as (λ o. nat_cmp x n ≡ o → ordering_index o ≤ ordering_index (nat_cmp y n)) [
      | Less ↦ λ is. omega arith
      | Equal ↦ λ is. let greater : nat_cmp y n ≡ Greater =
          subst (λ z. nat_cmp y z ≡ Greater) (nat_cmp-IsAntisymmetric x n is) (reversed x y e) in
          rw greater (omega arith)
      | Greater ↦ λ is. let greater : nat_cmp y n ≡ Greater =
          reversed n y (nat_cmp_total.trans n x y (turned x n is) e) in rw greater (omega arith)
    ] refl

module _ {B : Type 0} where
  below_in : (x : ℕ) (before : Numbered B) (n : ℕ) (b : B) (after : Numbered B)
      → IsTrue (below_all nat_cmp x (before ++ (n, b) ∷ after)) → nat_cmp x n ≡ Less
  below_in x [] n b after h = less _ (first _ _ h)
  below_in x (e ∷ es) n b after h = below_in x es n b after (second _ _ h)

  pub below_one : (x : ℕ) (e : ℕ × B) (es : Numbered B) → IsTrue (below_all nat_cmp x (e ∷ es)) → nat_cmp x e.0 ≡ Less
  below_one x e es h = less _ (first _ _ h)

  pub below_others : (x : ℕ) (e : ℕ × B) (es : Numbered B) → IsTrue (below_all nat_cmp x (e ∷ es))
      → IsTrue (below_all nat_cmp x es)
  below_others x e es h = second _ _ h

  pub all_above : (e : ℕ × B) (es : Numbered B) → IsTrue (is_sorted nat_cmp (e ∷ es))
      → IsTrue (below_all nat_cmp e.0 es)
  all_above e es h = first _ _ h

  pub rest_sorted : (e : ℕ × B) (es : Numbered B) → IsTrue (is_sorted nat_cmp (e ∷ es)) → IsTrue (is_sorted nat_cmp es)
  rest_sorted e es h = second _ _ h

  pub below_first : (e f : ℕ × B) (es : Numbered B) → IsTrue (is_sorted nat_cmp (e ∷ f ∷ es)) → nat_cmp e.0 f.0 ≡ Less
  below_first e f es h = less _ (first _ _ (first _ _ h))

  above_all : (x : ℕ) (es : Numbered B) → IsTrue (below_all nat_cmp x es)
      → AllByRecursion (λ e. nat_cmp e.0 x ≡ Greater) es
  above_all x [] h = tt
  above_all x (e ∷ es) h = (reversed x e.0 (less _ (first _ _ h)), above_all x es (second _ _ h))

  below_at : (x : ℕ) (es : Numbered B) (i : ℕ) (d : ℕ × B) → IsTrue (below_all nat_cmp x es) → i < length es
      → nat_cmp x (get_or es i d).0 ≡ Less
  below_at x [] i d h lt = absurd (omega arith)
  below_at x (e ∷ es) zero d h lt = less _ (first _ _ h)
  below_at x (e ∷ es) (suc i) d h lt = below_at x es i d (second _ _ h) (omega arith)

  pub rises : (es : Numbered B) (n : ℕ) → IsTrue (is_sorted nat_cmp es)
      → IsNonDecreasingBy (λ e. ordering_index (nat_cmp e.0 n)) es
  rises [] n h i j d le lt = absurd (omega arith)
  rises (e ∷ es) n h zero zero d le lt = omega arith
  rises (e ∷ es) n h zero (suc j) d le lt = rising _ _ n (below_at e.0 es j d (first _ _ h) (omega arith))
  rises (e ∷ es) n h (suc i) zero d le lt = absurd (omega arith)
  rises (e ∷ es) n h (suc i) (suc j) d le lt = rises es n (second _ _ h) i j d (omega arith) (omega arith)

  all_at : (P : ℕ × B → Type 0) (es : Numbered B) → ((k : ℕ) (d : ℕ × B) → k < length es → P (get_or es k d))
      → AllByRecursion P es
  all_at P [] h = tt
  all_at P (e ∷ es) h = (h 0 e (omega arith), all_at P es (λ k d lt. h (suc k) d (omega arith)))

  pub stands_at : (es : Numbered B) (i : ℕ) (n : ℕ) → IsTrue (is_sorted nat_cmp es) → i < length es
      → ((d : ℕ × B) → nat_cmp (get_or es i d).0 n ≡ Equal) → StandsAt es n i
  stands_at [] i n h lt is = absurd (omega arith)
  stands_at (e ∷ es) zero n h lt is =
      let same : e.0 ≡ n = nat_cmp-IsAntisymmetric e.0 n (is e) in
      record {
        before = [];
        body = e.1;
        after = es;
        split = ap (λ m. (m, e.1) ∷ es) same;
        counted = refl;
        lower = tt;
        higher = subst (λ m. AllByRecursion (λ x. nat_cmp x.0 m ≡ Greater) es) same (above_all e.0 es (first _ _ h));
      }
  stands_at (e ∷ es) (suc i) n h lt is =
      let r : StandsAt es n i = stands_at es i n (second _ _ h) (omega arith) is in
      let below : IsTrue (below_all nat_cmp e.0 (r.before ++ (n, r.body) ∷ r.after)) =
      subst (λ xs. IsTrue (below_all nat_cmp e.0 xs)) r.split (first _ _ h) in
      record {
        before = e ∷ r.before;
        body = r.body;
        after = r.after;
        split = ap (λ xs. e ∷ xs) r.split;
        counted = ap suc r.counted;
        lower = (below_in e.0 r.before n r.body r.after below, r.lower);
        higher = r.higher;
      }

  pub belongs_at : (es : Numbered B) (i : ℕ) (n : ℕ) → i ≤ length es
      → ((k : ℕ) (d : ℕ × B) → k < i → nat_cmp (get_or es k d).0 n ≡ Less)
      → ((k : ℕ) (d : ℕ × B) → i ≤ k → k < length es → nat_cmp (get_or es k d).0 n ≡ Greater) → BelongsAt es n i
  belongs_at [] i n le low high =
      record { before = []; after = []; split = refl; counted = omega arith; lower = tt; higher = tt }
  belongs_at (e ∷ es) zero n le low high =
      record {
        before = [];
        after = e ∷ es;
        split = refl;
        counted = refl;
        lower = tt;
        higher =
            all_at _ (e ∷ es) (λ k d lt. high k d (omega arith) lt);
      }
  belongs_at (e ∷ es) (suc i) n le low high =
      let r : BelongsAt es n i =
      belongs_at es i n (omega arith) (λ k d lt. low (suc k) d (omega arith))
      (λ k d ge lt. high (suc k) d (omega arith) (omega arith)) in
      record {
        before = e ∷ r.before;
        after = r.after;
        split = ap (λ xs. e ∷ xs) r.split;
        counted = ap suc r.counted;
        lower = (low 0 e (omega arith), r.lower);
        higher = r.higher;
      }

  -- what a binary search by the names says
  pub place_from : (es : Numbered B) (n : ℕ) (r : Result ℕ ℕ) → IsTrue (is_sorted nat_cmp es)
      → IsSearchInRange r (length es) → IsBinarySearchResult (λ e. nat_cmp e.0 n) es r
      → MatchResult r (StandsAt es n) (BelongsAt es n)
  place_from es n (Ok i) h lt is = stands_at es i n h lt is
  place_from es n (Err i) h le is =
      let parts = is (rises es n h) in
      belongs_at es i n le (λ k d lt. parts.0 k d (omega arith) lt) (λ k d ge lt. parts.1 k d ge lt)
