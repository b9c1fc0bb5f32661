-- Where a number stands or belongs, by one look: at the entry where it stands if none is left out, or at the last one.
use Rattle.std.proofs.Common.{◌≡◌, ℕ, zero, suc, ◌-◌, ◌<◌, [], ◌∷◌, length, get_or, slice_get, Some, None, ◌≤◌, ◌∙◌, refl, inl, inr, sym, subst, arith, IsTrue, append-nil}
use Rattle.std.specs.FinMap.Entries.{below_all, is_sorted}
use Rattle.std.specs.List.{AllByRecursion}
use Rattle.std.specs.Ordering.{nat_cmp}
use Rattle.std.specs.declared.cmp.Ordering.TheVariants.{Less, Equal}
use Rattle.std.specs.Cmp.{nat_cmp_total}
use Rattle.std.proofs.lemmas.Bool.{cases_order}
use Rattle.number_maps.specs.Maps.{Numbered, get}
use Rattle.number_maps.specs.Rising.{IsRising}
use Rattle.number_maps.proofs.Order.{cmp-equal, cmp-less, less-below}
use Rattle.number_maps.proofs.Rising.{Above, rising-behind, rising-nothing}
use Rattle.number_table.specs.Placing.{BelongsAt, StandsAt}
use Rattle.number_table.proofs.Entries.{get-belongs, get-stands}
use Rattle.number_table.proofs.Places.{all_above, below_first, below_one, below_others, rest_sorted, stands_at}

module _ {B : Type 0} where
  -- the entry that was looked at is the number's
  pub stands_there : (es : Numbered B) (n i : ℕ) (e : ℕ × B) → IsTrue (is_sorted nat_cmp es) → i < length es
      → ((d : ℕ × B) → e ≡ get_or es i d) → e.0 ≡ n → StandsAt es n i
  stands_there es n i e sorted within is same =
      stands_at es i n sorted within (λ d. subst (λ (x : ℕ × B). nat_cmp x.0 n ≡ Equal) (is d) (cmp-equal e.0 n same))

  all_lower : (es : Numbered B) (n i : ℕ) (e : ℕ × B) → IsTrue (is_sorted nat_cmp es) → length es ≡ suc i
      → Some e ≡ slice_get es i → nat_cmp e.0 n ≡ Less → AllByRecursion (λ x. nat_cmp x.0 n ≡ Less) es
  all_lower [] n i e sorted long is low = tt
  all_lower (x ∷ []) n zero e sorted long is low =
      (let same : e ≡ x = cc in subst (λ (y : ℕ × B). nat_cmp y.0 n ≡ Less) same low, tt)
  all_lower (x ∷ []) n (suc i) e sorted long is low = absurd (omega (arith, long))
  all_lower (x ∷ y ∷ ys) n zero e sorted long is low = absurd (omega (arith, long))
  all_lower (x ∷ y ∷ ys) n (suc i) e sorted long is low =
      let more = all_lower (y ∷ ys) n i e (rest_sorted x (y ∷ ys) sorted) (omega (arith, long)) is low in
      (nat_cmp_total.trans x.0 y.0 n (below_first x y ys sorted) more.0, more)

  -- the last entry's number is lower
  pub belongs_behind : (es : Numbered B) (n : ℕ) (e : ℕ × B) → IsTrue (is_sorted nat_cmp es)
      → Some e ≡ slice_get es (length es - 1) → e.0 < n → BelongsAt es n (length es)
  belongs_behind [] n e sorted is low = absurd (cc)
  belongs_behind (x ∷ xs) n e sorted is low =
      let last : length (x ∷ xs) - 1 ≡ length xs = omega arith in
      record {
        before = x ∷ xs;
        after = [];
        split = sym (append-nil (x ∷ xs));
        counted = refl;
        lower =
            all_lower (x ∷ xs) n (length xs) e sorted refl (subst (λ k. Some e ≡ slice_get (x ∷ xs) k) last is)
            (cmp-less e.0 n low);
        higher = tt;
      }

  -- then so is each number, and none that is as great has an entry
  pub none_behind : (es : Numbered B) (n : ℕ) (e : ℕ × B) → IsTrue (is_sorted nat_cmp es)
      → Some e ≡ slice_get es (length es - 1) → e.0 < n → (q : ℕ) → n ≤ q → get es q ≡ None
  none_behind es n e sorted is low q le =
      get-belongs es q (length es) (belongs_behind es q e sorted is (omega (arith, low, le)))

  within_get : (es : Numbered B) (i : ℕ) (e : ℕ × B) → Some e ≡ slice_get es i → i < length es
  within_get [] i e is = absurd (cc)
  within_get (x ∷ xs) zero e is = omega arith
  within_get (x ∷ xs) (suc i) e is = let lt : i < length xs = within_get xs i e is in omega arith

  get_or_get : (es : Numbered B) (i : ℕ) (e d : ℕ × B) → Some e ≡ slice_get es i → e ≡ get_or es i d
  get_or_get [] i e d is = absurd (cc)
  get_or_get (x ∷ xs) zero e d is = cc
  get_or_get (x ∷ xs) (suc i) e d is = get_or_get xs i e d is

  some≢none : (b : B) → Some b ≡ None → ⊥
  some≢none b e = cc

  -- the last entry's number is no lower, and has an entry
  pub some_behind : (es : Numbered B) (n : ℕ) (e : ℕ × B) → IsTrue (is_sorted nat_cmp es)
      → Some e ≡ slice_get es (length es - 1) → n ≤ e.0 → ((q : ℕ) → n ≤ q → get es q ≡ None) → ⊥
  some_behind es n e sorted is le none =
      let there : StandsAt es e.0 (length es - 1) =
      stands_there es e.0 (length es - 1) e sorted (within_get es (length es - 1) e is)
      (λ d. get_or_get es (length es - 1) e d is) refl in
      some≢none there.body (sym (get-stands es e.0 (length es - 1) there) ∙ none e.0 le)

  -- where none that is as great has an entry, the last entry's number is lower
  pub lower_behind : (es : Numbered B) (n : ℕ) (e : ℕ × B) → IsTrue (is_sorted nat_cmp es)
      → Some e ≡ slice_get es (length es - 1) → ((q : ℕ) → n ≤ q → get es q ≡ None) → e.0 < n
  lower_behind es n e sorted is none =
      elim (cases_order e.0 n) [
        | inl same ↦ absurd (some_behind es n e sorted is (omega (arith, same)) none)
        | inr c ↦ elim c [ inl l ↦ l | inr g ↦ absurd (some_behind es n e sorted is (omega (arith, g)) none) ]
      ]

  above_each : (x : ℕ) (es : Numbered B) → IsTrue (below_all nat_cmp x es) → Above x es
  above_each x [] h = tt
  above_each x (e ∷ es) h = (less-below x e.0 (below_one x e es h), above_each x es (below_others x e es h))

  -- sorted entries are by rising number
  pub rising_sorted : (es : Numbered B) → IsTrue (is_sorted nat_cmp es) → IsRising es
  rising_sorted [] h = rising-nothing B
  rising_sorted (e ∷ es) h =
      rising-behind e es (above_each e.0 es (all_above e es h)) (rising_sorted es (rest_sorted e es h))
