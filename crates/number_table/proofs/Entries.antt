-- What a map has, and becomes, at a number whose place among its entries is known.
use Rattle.std.proofs.Common.{◌≡◌, ℕ, suc, ◌+◌, ◌≤◌, ◌<◌, Bool, true, false, cond, not, nat_eq, [], ◌∷◌, ◌++◌, length, get_or, set, drop, insert, remove, Some, None, is_some, Result, Ok, Err, is_ok, MatchResult, refl, sym, ap, subst, ◌∙◌, arith, IsTrue, T}
use Rattle.std.proofs.Math.Seq.{take-append_seam, drop-append_seam, set-append_seam}
use Rattle.std.proofs.lemmas.Bool.Decides.{nat_tests}
use Rattle.std.proofs.lemmas.List.{length-append, length-set}
use Rattle.std.specs.Cmp.{nat_cmp_total, tied_itself}
use Rattle.std.specs.FinMap.Entries.{by_order, is_sorted, is_sorted-put, is_sorted-where_key, put as put_in_order}
use Rattle.std.specs.List.{AllByRecursion}
use Rattle.std.specs.Ordering.{is_eq, match_ordering, nat_cmp, ordering_reverse}
use Rattle.std.specs.declared.cmp.Ordering.{Ordering}
use Rattle.std.specs.declared.cmp.Ordering.TheVariants.{Less, Equal, Greater}
use Rattle.number_maps.specs.Maps.{Numbered, get, put, without}
use Rattle.number_table.specs.Placing.{BelongsAt, StandsAt}

turned : (x y : ℕ) (o : Ordering) → nat_cmp x y ≡ o → nat_cmp y x ≡ ordering_reverse o
turned x y o e = nat_cmp_total.antisymm y x ∙ ap ordering_reverse e

tie : (q k : ℕ) → nat_eq q k ≡ is_eq (nat_cmp q k)
tie q k = grind (arith, nat_tests)

to_true : (b : Bool) → T b → IsTrue b
to_true true h = refl
to_true false h = absurd h

from_true : (b : Bool) → IsTrue b → T b
from_true true h = tt
from_true false h = absurd (cc)

module _ {B : Type 0} where
  -- ---- past the lower entries

  get-past : (before : Numbered B) (n : ℕ) (after : Numbered B) → AllByRecursion (λ e. nat_cmp e.0 n ≡ Less) before
      → get (before ++ after) n ≡ get after n
  get-past [] n after low = refl
  get-past (e ∷ es) n after low =
      ap (λ o. cond (is_eq o) (Some e.1) (get (es ++ after) n)) (turned e.0 n Less low.0) ∙ get-past es n after low.1

  put-past : (before : Numbered B) (n : ℕ) (b : B) (after : Numbered B)
      → AllByRecursion (λ e. nat_cmp e.0 n ≡ Less) before → put (before ++ after) n b ≡ before ++ put after n b
  put-past [] n b after low = refl
  put-past (e ∷ es) n b after low =
      ap (λ o. match_ordering o ((n, b) ∷ e ∷ es ++ after) ((e.0, b) ∷ (es ++ after)) (e ∷ put (es ++ after) n b))
      (turned e.0 n Less low.0)
      ∙ ap (λ xs. e ∷ xs) (put-past es n b after low.1)

  without-past : (before : Numbered B) (n : ℕ) (after : Numbered B) → AllByRecursion (λ e. nat_cmp e.0 n ≡ Less) before
      → without (before ++ after) n ≡ before ++ without after n
  without-past [] n after low = refl
  without-past (e ∷ es) n after low =
      ap (λ t. cond (not t) (e ∷ without (es ++ after) n) (without (es ++ after) n))
      (tie n e.0 ∙ ap is_eq (turned e.0 n Less low.0))
      ∙ ap (λ xs. e ∷ xs) (without-past es n after low.1)

  -- ---- before the higher entries

  get-higher : (n : ℕ) (after : Numbered B) → AllByRecursion (λ e. nat_cmp e.0 n ≡ Greater) after → get after n ≡ None
  get-higher n [] high = refl
  get-higher n (e ∷ es) high =
      ap (λ o. cond (is_eq o) (Some e.1) (get es n)) (turned e.0 n Greater high.0) ∙ get-higher n es high.1

  put-higher : (n : ℕ) (b : B) (after : Numbered B) → AllByRecursion (λ e. nat_cmp e.0 n ≡ Greater) after
      → put after n b ≡ (n, b) ∷ after
  put-higher n b [] high = refl
  put-higher n b (e ∷ es) high =
      ap (λ o. match_ordering o ((n, b) ∷ e ∷ es) ((e.0, b) ∷ es) (e ∷ put es n b)) (turned e.0 n Greater high.0)

  without-higher : (n : ℕ) (after : Numbered B) → AllByRecursion (λ e. nat_cmp e.0 n ≡ Greater) after
      → without after n ≡ after
  without-higher n [] high = refl
  without-higher n (e ∷ es) high =
      ap (λ t. cond (not t) (e ∷ without es n) (without es n)) (tie n e.0 ∙ ap is_eq (turned e.0 n Greater high.0))
      ∙ ap (λ xs. e ∷ xs) (without-higher n es high.1)

  -- ---- lists at the end of a part

  insert-seam : (xs ys : Numbered B) (y : ℕ × B) → insert (xs ++ ys) (length xs) y ≡ xs ++ y ∷ ys
  insert-seam xs ys y = rw (take-append_seam xs ys, drop-append_seam xs ys) refl

  drop-seam : (xs ys : Numbered B) (y : ℕ × B) → drop (suc (length xs)) (xs ++ y ∷ ys) ≡ ys
  drop-seam [] ys y = refl
  drop-seam (x ∷ xs) ys y = drop-seam xs ys y

  remove-seam : (xs ys : Numbered B) (y : ℕ × B) → remove (xs ++ y ∷ ys) (length xs) ≡ xs ++ ys
  remove-seam xs ys y = rw (take-append_seam xs (y ∷ ys), drop-seam xs ys y) refl

  get_or-seam : (xs ys : Numbered B) (y d : ℕ × B) → get_or (xs ++ y ∷ ys) (length xs) d ≡ y
  get_or-seam [] ys y d = refl
  get_or-seam (x ∷ xs) ys y d = get_or-seam xs ys y d

  -- ---- where the number stands

  pub get-stands : (es : Numbered B) (n i : ℕ) (s : StandsAt es n i) → get es n ≡ Some s.body
  get-stands es n i s =
      ap (λ xs. get xs n) s.split ∙ get-past s.before n _ s.lower
      ∙ ap (λ o. cond (is_eq o) (Some s.body) (get s.after n)) (tied_itself nat_cmp_total n)

  pub within_stands : (es : Numbered B) (n i : ℕ) (s : StandsAt es n i) → i < length es
  within_stands es n i s =
      let long : length es ≡ length s.before + length ((n, s.body) ∷ s.after) =
      ap length s.split ∙ length-append s.before _ in
      omega (arith, s.counted, long)

  pub get_or-stands : (es : Numbered B) (n i : ℕ) (s : StandsAt es n i) (d : ℕ × B) → get_or es i d ≡ (n, s.body)
  get_or-stands es n i s d =
      ap (λ xs. get_or xs i d) s.split ∙ ap (λ k. get_or (s.before ++ (n, s.body) ∷ s.after) k d) (sym s.counted)
      ∙ get_or-seam s.before s.after (n, s.body) d

  pub put-stands : (es : Numbered B) (n i : ℕ) (b : B) (s : StandsAt es n i) → put es n b ≡ set es i (n, b)
  put-stands es n i b s =
      ap (λ xs. put xs n b) s.split ∙ put-past s.before n b _ s.lower
      ∙ ap (λ o. s.before ++ match_ordering o ((n, b) ∷ (n, s.body) ∷ s.after) ((n, b) ∷ s.after)
      ((n, s.body) ∷ put s.after n b)) (tied_itself nat_cmp_total n)
      ∙ sym (set-append_seam s.before (n, s.body) s.after (n, b))
      ∙ ap (λ k. set (s.before ++ (n, s.body) ∷ s.after) k (n, b)) s.counted ∙ ap (λ xs. set xs i (n, b)) (sym s.split)

  pub without-stands : (es : Numbered B) (n i : ℕ) (s : StandsAt es n i) → without es n ≡ remove es i
  without-stands es n i s =
      ap (λ xs. without xs n) s.split ∙ without-past s.before n _ s.lower
      ∙ ap (λ t. s.before ++ cond (not t) ((n, s.body) ∷ without s.after n) (without s.after n))
      (tie n n ∙ ap is_eq (tied_itself nat_cmp_total n))
      ∙ ap (λ xs. s.before ++ xs) (without-higher n s.after s.higher)
      ∙ sym (remove-seam s.before s.after (n, s.body))
      ∙ ap (λ k. remove (s.before ++ (n, s.body) ∷ s.after) k) s.counted ∙ ap (λ xs. remove xs i) (sym s.split)

  -- ---- where it belongs

  pub get-belongs : (es : Numbered B) (n i : ℕ) → BelongsAt es n i → get es n ≡ None
  get-belongs es n i s = ap (λ xs. get xs n) s.split ∙ get-past s.before n _ s.lower ∙ get-higher n s.after s.higher

  pub within_belongs : (es : Numbered B) (n i : ℕ) → BelongsAt es n i → i ≤ length es
  within_belongs es n i s =
      let long : length es ≡ length s.before + length s.after = ap length s.split ∙ length-append s.before _ in
      omega (arith, s.counted, long)

  pub put-belongs : (es : Numbered B) (n i : ℕ) (b : B) → BelongsAt es n i → put es n b ≡ insert es i (n, b)
  put-belongs es n i b s =
      ap (λ xs. put xs n b) s.split ∙ put-past s.before n b _ s.lower
      ∙ ap (λ xs. s.before ++ xs) (put-higher n b s.after s.higher)
      ∙ sym (insert-seam s.before s.after (n, b))
      ∙ ap (λ k. insert (s.before ++ s.after) k (n, b)) s.counted ∙ ap (λ xs. insert xs i (n, b)) (sym s.split)

  pub without-belongs : (es : Numbered B) (n i : ℕ) → BelongsAt es n i → without es n ≡ es
  without-belongs es n i s =
      ap (λ xs. without xs n) s.split ∙ without-past s.before n _ s.lower
      ∙ ap (λ xs. s.before ++ xs) (without-higher n s.after s.higher)
      ∙ sym s.split

  -- ---- and the order stays

  chosen : (o : Ordering) (a b c : Numbered B) → by_order o a b c ≡ match_ordering o a b c
  chosen Less a b c = refl
  chosen Equal a b c = refl
  chosen Greater a b c = refl

  put_is : (es : Numbered B) (n : ℕ) (b : B) → put_in_order nat_cmp n b es ≡ put es n b
  put_is [] n b = refl
  put_is (e ∷ es) n b =
      chosen (nat_cmp n e.0) _ _ _
      ∙ ap (λ xs. match_ordering (nat_cmp n e.0) ((n, b) ∷ e ∷ es) ((e.0, b) ∷ es) (e ∷ xs)) (put_is es n b)

  pub is_sorted-put_at : (es : Numbered B) (n : ℕ) (b : B) → IsTrue (is_sorted nat_cmp es)
      → IsTrue (is_sorted nat_cmp (put es n b))
  is_sorted-put_at es n b h =
      subst (λ xs. IsTrue (is_sorted nat_cmp xs)) (put_is es n b)
      (to_true _ (is_sorted-put nat_cmp nat_cmp_total n b es (from_true _ h)))

  pub is_sorted-without : (es : Numbered B) (n : ℕ) → IsTrue (is_sorted nat_cmp es)
      → IsTrue (is_sorted nat_cmp (without es n))
  is_sorted-without es n h = to_true _ (is_sorted-where_key nat_cmp (λ k. not (nat_eq n k)) es (from_true _ h))

  -- ---- the same of a table that is seen as these entries

  pub found_get : (xs es : Numbered B) (n i : ℕ) (e : ℕ × B) → xs ≡ es → StandsAt xs n i → e ≡ get_or xs i e
      → Some e.1 ≡ get es n
  found_get xs es n i e seen s is =
      ap (λ x. Some x.1) (is ∙ get_or-stands xs n i s e) ∙ sym (get-stands xs n i s) ∙ ap (λ ys. get ys n) seen

  pub absent_get : (xs es : Numbered B) (n i : ℕ) → xs ≡ es → BelongsAt xs n i → None ≡ get es n
  absent_get xs es n i seen s = sym (get-belongs xs n i s) ∙ ap (λ ys. get ys n) seen

  some≢none : (b : B) → Some b ≡ None → ⊥
  some≢none b e = cc

  pub present_absent : (xs es : Numbered B) (n i : ℕ) → xs ≡ es → StandsAt xs n i → get es n ≡ None → ⊥
  present_absent xs es n i seen s none = some≢none s.body (sym (get-stands xs n i s) ∙ ap (λ ys. get ys n) seen ∙ none)

  pub is_some_place : (xs es : Numbered B) (n : ℕ) (r : Result ℕ ℕ) → xs ≡ es
      → MatchResult r (StandsAt xs n) (BelongsAt xs n) → is_ok r ≡ is_some (get es n)
  is_some_place xs es n (Ok i) seen s = ap is_some (sym (get-stands xs n i s) ∙ ap (λ ys. get ys n) seen)
  is_some_place xs es n (Err i) seen s = ap is_some (absent_get xs es n i seen s)

  pub put_there : (xs es ys : Numbered B) (n i : ℕ) (b : B) → xs ≡ es → BelongsAt xs n i → ys ≡ insert xs i (n, b)
      → ys ≡ put es n b
  put_there xs es ys n i b seen s is = is ∙ sym (put-belongs xs n i b s) ∙ ap (λ zs. put zs n b) seen

  pub without_there : (xs es ys : Numbered B) (n i : ℕ) → xs ≡ es → StandsAt xs n i → ys ≡ remove xs i
      → ys ≡ without es n
  without_there xs es ys n i seen s is = is ∙ sym (without-stands xs n i s) ∙ ap (λ zs. without zs n) seen

  pub without_absent : (xs es : Numbered B) (n i : ℕ) → xs ≡ es → BelongsAt xs n i → es ≡ without es n
  without_absent xs es n i seen s = sym seen ∙ sym (without-belongs xs n i s) ∙ ap (λ zs. without zs n) seen

  pub set_there : (xs es : Numbered B) (n i : ℕ) (e : ℕ × B) (b : B) → xs ≡ es → StandsAt xs n i → e ≡ get_or xs i e
      → set xs i (e.0, b) ≡ put es n b
  set_there xs es n i e b seen s is =
      ap (λ x. set xs i (x.0, b)) (is ∙ get_or-stands xs n i s e) ∙ sym (put-stands xs n i b s)
      ∙ ap (λ zs. put zs n b) seen

  pub length-put_stands : (es : Numbered B) (n i : ℕ) (b : B) → StandsAt es n i → length (put es n b) ≡ length es
  length-put_stands es n i b s = ap length (put-stands es n i b s) ∙ length-set es i (n, b)
