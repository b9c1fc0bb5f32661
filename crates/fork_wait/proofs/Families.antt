-- Children are added, end and are waited for, and their numbers stay different.
use Rattle.std.proofs.Common.{◌≡◌, ℕ, ◌<◌, ◌≤◌, Bool, true, false, not, ◌&&◌, ◌||◌, cond, nat_eq, List, [], ◌∷◌, ◌++◌, length, map, filter, length-append, append_assoc, get_or, take, drop, suc, ◌-◌, refl, sym, ap, ◌∙◌, arith}
use Rattle.std.proofs.Math.Seq.{take-length}
use Rattle.std.proofs.lemmas.List.{map_push}
use Rattle.std.proofs.lemmas.Bool.{false≢true, or_parts, or_from}
use Rattle.std.proofs.lemmas.Bool.Decides.{nat_tests}
use Rattle.std.specs.List.{list_any}
use Rattle.pico_base.specs.declared.reply.Ending.{Ending}
use Rattle.kernel_model.specs.Row.{others, EndedChild, ended_child}
use Rattle.fork_wait.specs.Children.{AreChildren, are_different}

both_true : (a b : Bool) → (not a && b) ≡ true → (a ≡ false) × (b ≡ true)
both_true false b h = (refl, h)
both_true true b h = absurd (false≢true h)

both_are : (a b : Bool) → a ≡ false → b ≡ true → (not a && b) ≡ true
both_are false b p q = q
both_are true b p q = absurd (false≢true (sym p))

-- ---- a number that isn't there

absent-filter : (p : ℕ → Bool) (q : ℕ) (xs ys : List ℕ) → list_any (nat_eq q) (xs ++ ys) ≡ false
    → list_any (nat_eq q) (filter p xs ++ ys) ≡ false
absent-filter p q [] ys h = h
absent-filter p q (x ∷ xs) ys h =
    let here = or_parts (nat_eq q x) (list_any (nat_eq q) (xs ++ ys)) h in
    elim (p x) as (λ (t : Bool). list_any (nat_eq q) (cond t (x ∷ filter p xs) (filter p xs) ++ ys) ≡ false) [
      | true ↦ or_from (nat_eq q x) _ here.0 (absent-filter p q xs ys here.1)
      | false ↦ absent-filter p q xs ys here.1
    ]

absent-filter_after : (p : ℕ → Bool) (q : ℕ) (xs ys : List ℕ) → list_any (nat_eq q) (xs ++ ys) ≡ false
    → list_any (nat_eq q) (xs ++ filter p ys) ≡ false
absent-filter_after p q [] [] h = h
absent-filter_after p q [] (y ∷ ys) h =
    let here = or_parts (nat_eq q y) (list_any (nat_eq q) ys) h in
    elim (p y) as (λ (t : Bool). list_any (nat_eq q) (cond t (y ∷ filter p ys) (filter p ys)) ≡ false) [
      | true ↦ or_from (nat_eq q y) _ here.0 (absent-filter_after p q [] ys here.1)
      | false ↦ absent-filter_after p q [] ys here.1
    ]
absent-filter_after p q (x ∷ xs) ys h =
    let here = or_parts (nat_eq q x) (list_any (nat_eq q) (xs ++ ys)) h in
    or_from (nat_eq q x) _ here.0 (absent-filter_after p q xs ys here.1)

absent-insert : (q c : ℕ) (xs ys : List ℕ) → nat_eq q c ≡ false → list_any (nat_eq q) (xs ++ ys) ≡ false
    → list_any (nat_eq q) ((xs ++ c ∷ []) ++ ys) ≡ false
absent-insert q c [] ys other h = or_from (nat_eq q c) _ other h
absent-insert q c (x ∷ xs) ys other h =
    let here = or_parts (nat_eq q x) (list_any (nat_eq q) (xs ++ ys)) h in
    or_from (nat_eq q x) _ here.0 (absent-insert q c xs ys other here.1)

absent-push : (q c : ℕ) (xs : List ℕ) → nat_eq q c ≡ false → list_any (nat_eq q) xs ≡ false
    → list_any (nat_eq q) (xs ++ c ∷ []) ≡ false
absent-push q c [] other h = or_from (nat_eq q c) _ other h
absent-push q c (x ∷ xs) other h =
    let here = or_parts (nat_eq q x) (list_any (nat_eq q) xs) h in
    or_from (nat_eq q x) _ here.0 (absent-push q c xs other here.1)

absent-after : (q : ℕ) (xs ys : List ℕ) → list_any (nat_eq q) (xs ++ ys) ≡ false → list_any (nat_eq q) ys ≡ false
absent-after q [] ys h = h
absent-after q (x ∷ xs) ys h = absent-after q xs ys (or_parts (nat_eq q x) (list_any (nat_eq q) (xs ++ ys)) h).1

absent-append : (q : ℕ) (xs ys : List ℕ) → list_any (nat_eq q) xs ≡ false → list_any (nat_eq q) ys ≡ false
    → list_any (nat_eq q) (xs ++ ys) ≡ false
absent-append q [] ys p h = h
absent-append q (x ∷ xs) ys p h =
    let here = or_parts (nat_eq q x) (list_any (nat_eq q) xs) p in
    or_from (nat_eq q x) _ here.0 (absent-append q xs ys here.1 h)

-- what was taken out is no longer there
absent-others : (c : ℕ) (xs : List ℕ) → list_any (nat_eq c) (others c xs) ≡ false
absent-others c [] = refl
absent-others c (x ∷ xs) =
    elim (nat_eq c x) as (λ (t : Bool). nat_eq c x ≡ t
    → list_any (nat_eq c) (cond (not t) (x ∷ others c xs) (others c xs)) ≡ false) [
      | true ↦ λ e. absent-others c xs
      | false ↦ λ e. or_from (nat_eq c x) _ e (absent-others c xs)
    ] refl

-- ---- different numbers

different-filter : (p : ℕ → Bool) (xs ys : List ℕ) → are_different (xs ++ ys) ≡ true
    → are_different (filter p xs ++ ys) ≡ true
different-filter p [] ys h = h
different-filter p (x ∷ xs) ys h =
    let here = both_true (list_any (nat_eq x) (xs ++ ys)) (are_different (xs ++ ys)) h in
    elim (p x) as (λ (t : Bool). are_different (cond t (x ∷ filter p xs) (filter p xs) ++ ys) ≡ true) [
      | true ↦ both_are _ _ (absent-filter p x xs ys here.0) (different-filter p xs ys here.1)
      | false ↦ different-filter p xs ys here.1
    ]

different-filter_after : (p : ℕ → Bool) (xs ys : List ℕ) → are_different (xs ++ ys) ≡ true
    → are_different (xs ++ filter p ys) ≡ true
different-filter_after p [] [] h = h
different-filter_after p [] (y ∷ ys) h =
    let here = both_true (list_any (nat_eq y) ys) (are_different ys) h in
    elim (p y) as (λ (t : Bool). are_different (cond t (y ∷ filter p ys) (filter p ys)) ≡ true) [
      | true ↦ both_are _ _ (absent-filter_after p y [] ys here.0) (different-filter_after p [] ys here.1)
      | false ↦ different-filter_after p [] ys here.1
    ]
different-filter_after p (x ∷ xs) ys h =
    let here = both_true (list_any (nat_eq x) (xs ++ ys)) (are_different (xs ++ ys)) h in
    both_are _ _ (absent-filter_after p x xs ys here.0) (different-filter_after p xs ys here.1)

turned : (a b : ℕ) → nat_eq a b ≡ false → nat_eq b a ≡ false
turned a b h = grind (arith, nat_tests)

different-insert : (c : ℕ) (xs ys : List ℕ) → are_different (xs ++ ys) ≡ true → list_any (nat_eq c) (xs ++ ys) ≡ false
    → are_different ((xs ++ c ∷ []) ++ ys) ≡ true
different-insert c [] ys h absent = both_are _ _ absent h
different-insert c (x ∷ xs) ys h absent =
    let here = both_true (list_any (nat_eq x) (xs ++ ys)) (are_different (xs ++ ys)) h in
    let apart = or_parts (nat_eq c x) (list_any (nat_eq c) (xs ++ ys)) absent in
    both_are _ _ (absent-insert x c xs ys (turned c x apart.0) here.0) (different-insert c xs ys here.1 apart.1)

different-push : (c : ℕ) (xs : List ℕ) → are_different xs ≡ true → list_any (nat_eq c) xs ≡ false
    → are_different (xs ++ c ∷ []) ≡ true
different-push c [] h absent = refl
different-push c (x ∷ xs) h absent =
    let here = both_true (list_any (nat_eq x) xs) (are_different xs) h in
    let apart = or_parts (nat_eq c x) (list_any (nat_eq c) xs) absent in
    both_are _ _ (absent-push x c xs (turned c x apart.0) here.0) (different-push c xs here.1 apart.1)

same_number : (c x : ℕ) → nat_eq c x ≡ true → c ≡ x
same_number c x h = grind (arith, nat_tests)

-- a number of the first list isn't in the second
different-apart : (c : ℕ) (xs ys : List ℕ) → are_different (xs ++ ys) ≡ true → list_any (nat_eq c) xs ≡ true
    → list_any (nat_eq c) ys ≡ false
different-apart c [] ys h there = absurd (false≢true there)
different-apart c (x ∷ xs) ys h there =
    let here = both_true (list_any (nat_eq x) (xs ++ ys)) (are_different (xs ++ ys)) h in
    elim (nat_eq c x) as (λ (t : Bool). nat_eq c x ≡ t → (t || list_any (nat_eq c) xs) ≡ true
    → list_any (nat_eq c) ys ≡ false) [
      | true ↦ λ e _. rw (same_number c x e) (absent-after x xs ys here.0)
      | false ↦ λ e later. different-apart c xs ys here.1 later
    ] refl there

absent-before : (q : ℕ) (xs ys : List ℕ) → list_any (nat_eq q) (xs ++ ys) ≡ false → list_any (nat_eq q) xs ≡ false
absent-before q [] ys h = refl
absent-before q (x ∷ xs) ys h =
    let here = or_parts (nat_eq q x) (list_any (nat_eq q) (xs ++ ys)) h in
    or_from (nat_eq q x) _ here.0 (absent-before q xs ys here.1)

-- a number that isn't there is another than one that is
absent-other : (q c : ℕ) (xs ys : List ℕ) → list_any (nat_eq q) (xs ++ ys) ≡ false → list_any (nat_eq c) xs ≡ true
    → nat_eq q c ≡ false
absent-other q c xs ys absent there =
    elim (nat_eq q c) as (λ (t : Bool). nat_eq q c ≡ t → t ≡ false) [
      | true ↦ λ e. absurd (false≢true
          (sym (absent-before q xs ys absent) ∙ ap (λ (n : ℕ). list_any (nat_eq n) xs) (same_number q c e) ∙ there))
      | false ↦ λ e. refl
    ] refl

-- ---- lengths

length-filter_le : (p : ℕ → Bool) (xs : List ℕ) → length (filter p xs) ≤ length xs
length-filter_le p [] = omega arith
length-filter_le p (x ∷ xs) =
    elim (p x) as (λ (t : Bool). length (cond t (x ∷ filter p xs) (filter p xs)) ≤ length (x ∷ xs)) [
      | true ↦ omega (arith, length-filter_le p xs)
      | false ↦ omega (arith, length-filter_le p xs)
    ]

length-others : (c : ℕ) (xs : List ℕ) → list_any (nat_eq c) xs ≡ true → length (others c xs) < length xs
length-others c [] there = absurd (false≢true there)
length-others c (x ∷ xs) there =
    elim (nat_eq c x) as (λ (t : Bool). nat_eq c x ≡ t → (t || list_any (nat_eq c) xs) ≡ true
    → length (cond (not t) (x ∷ others c xs) (others c xs)) < length (x ∷ xs)) [
      | true ↦ λ e _. omega (arith, length-filter_le (λ n. not (nat_eq c n)) xs)
      | false ↦ λ e later. omega (arith, length-others c xs later)
    ] refl there

-- ---- families

abbrev pid_of : EndedChild → ℕ
pid_of e = e.pid

map-filter_pids : (c : ℕ) (es : List EndedChild)
    → map pid_of (filter (λ e. not (nat_eq c e.pid)) es) ≡ others c (map pid_of es)
map-filter_pids c [] = refl
map-filter_pids c (e ∷ es) =
    elim (nat_eq c e.pid) as
    (λ (t : Bool). map pid_of
    (cond (not t) (e ∷ filter (λ e. not (nat_eq c e.pid)) es) (filter (λ e. not (nat_eq c e.pid)) es))
    ≡ cond (not t) (e.pid ∷ others c (map pid_of es)) (others c (map pid_of es))) [
      | true ↦ map-filter_pids c es
      | false ↦ ap (λ (ns : List ℕ). e.pid ∷ ns) (map-filter_pids c es)
    ]

not_zero : (c : ℕ) → 1 ≤ c → nat_eq 0 c ≡ false
not_zero c h = grind (arith, nat_tests)

module _ (living : List ℕ) (ended : List EndedChild) (c : ℕ)
    (sound : AreChildren (living ++ map (λ e. e.pid) ended)) where
  pub children-added : 1 ≤ c → length (living ++ map (λ e. e.pid) ended) < 31
      → list_any (nat_eq c) (living ++ map (λ e. e.pid) ended) ≡ false
      → AreChildren ((living ++ c ∷ []) ++ map (λ e. e.pid) ended)
  children-added positive room absent =
      record {
        few = omega (
          arith,
          length-append (living ++ c ∷ []) (map pid_of ended),
          length-append living (c ∷ []),
          length-append living (map pid_of ended),
        );
        positive = absent-insert 0 c living (map pid_of ended) (not_zero c positive) sound.positive;
        different = different-insert c living (map pid_of ended) sound.different absent;
      }

  pub children-left : AreChildren (others c living ++ map (λ e. e.pid) ended)
  children-left =
      record {
        few = omega (
          arith,
          sound.few,
          length-append (others c living) (map pid_of ended),
          length-append living (map pid_of ended),
          length-filter_le (λ n. not (nat_eq c n)) living,
        );
        positive = absent-filter (λ n. not (nat_eq c n)) 0 living (map pid_of ended) sound.positive;
        different = different-filter (λ n. not (nat_eq c n)) living (map pid_of ended) sound.different;
      }

  pub children-kept : (ending : Ending) → list_any (nat_eq c) living ≡ true
      → AreChildren (others c living ++ map (λ e. e.pid) (ended ++ ended_child c ending ∷ []))
  children-kept ending there =
      let left = children-left in
      let before : List ℕ = others c living ++ map pid_of ended in
      let gone : list_any (nat_eq c) before ≡ false =
      absent-append c (others c living) (map pid_of ended) (absent-others c living)
      (different-apart c living (map pid_of ended) sound.different there) in
      let shape : before ++ c ∷ [] ≡ others c living ++ map (λ e. e.pid) (ended ++ ended_child c ending ∷ []) =
      append_assoc (others c living) (map pid_of ended) (c ∷ [])
      ∙ ap (λ (ns : List ℕ). others c living ++ ns) (sym (map_push pid_of ended (ended_child c ending))) in
      rw (← shape) record {
        few = omega (
          arith,
          sound.few,
          length-append before (c ∷ []),
          length-append (others c living) (map pid_of ended),
          length-append living (map pid_of ended),
          length-others c living there,
        );
        positive = absent-push 0 c before
            (absent-other 0 c living (map pid_of ended) sound.positive there) left.positive;
        different = different-push c before left.different gone;
      }

  pub children-waited : AreChildren (living ++ map (λ e. e.pid) (filter (λ e. not (nat_eq c e.pid)) ended))
  children-waited =
      rw (map-filter_pids c ended) record {
        few = omega (
          arith,
          sound.few,
          length-append living (others c (map pid_of ended)),
          length-append living (map pid_of ended),
          length-filter_le (λ n. not (nat_eq c n)) (map pid_of ended),
        );
        positive = absent-filter_after (λ n. not (nat_eq c n)) 0 living (map pid_of ended) sound.positive;
        different = different-filter_after (λ n. not (nat_eq c n)) living (map pid_of ended) sound.different;
      }

-- ---- numbers that were read

list_any-pids : (c : ℕ) (es : List EndedChild) → list_any (nat_eq c) (map pid_of es) ≡ list_any (λ e. nat_eq c e.pid) es
list_any-pids c [] = refl
list_any-pids c (e ∷ es) = ap (λ (t : Bool). nat_eq c e.pid || t) (list_any-pids c es)

or_after : (a b d : Bool) → ((a || b) || d) ≡ (a || (b || d))
or_after true b d = refl
or_after false b d = refl

-- one list or the other
pub list_any-children : (c : ℕ) (xs : List ℕ) (es : List EndedChild)
    → (list_any (nat_eq c) xs || list_any (λ e. nat_eq c e.pid) es) ≡ list_any (nat_eq c) (xs ++ map (λ e. e.pid) es)
list_any-children c [] es = sym (list_any-pids c es)
list_any-children c (x ∷ xs) es =
    or_after (nat_eq c x) _ _ ∙ ap (λ (t : Bool). nat_eq c x || t) (list_any-children c xs es)

-- ended children differ where the first isn't among the rest, and these differ
pub differ-ended : (first : EndedChild) (es rest : List EndedChild) (there r : Bool) → es ≡ first ∷ rest
    → there ≡ list_any (λ e. nat_eq first.pid e.pid) rest → r ≡ are_different (map (λ e. e.pid) rest)
    → (not there && r) ≡ are_different (map (λ e. e.pid) es)
differ-ended first es rest there r parts is_there is_r =
    rw (parts, is_there, is_r)
    (ap (λ (t : Bool). not t && are_different (map pid_of rest)) (sym (list_any-pids first.pid rest)))

pub differ-living : (first : ℕ) (xs rest : List ℕ) (es : List EndedChild) (there r : Bool) → xs ≡ first ∷ rest
    → there ≡ list_any (nat_eq first) (rest ++ map (λ e. e.pid) es) → r ≡ are_different (rest ++ map (λ e. e.pid) es)
    → (not there && r) ≡ are_different (xs ++ map (λ e. e.pid) es)
differ-living first xs rest es there r parts is_there is_r = rw (parts, is_there, is_r) refl

-- the first element and the slice after it
pub first-rest : {A : Type 0} (xs : List A) (d : A) → 1 ≤ length xs
    → xs ≡ get_or xs 0 d ∷ take (length xs - 1) (drop 1 xs)
first-rest [] d some = absurd (omega arith)
first-rest (x ∷ xs) d some =
    let rest : suc (length xs) - 1 ≡ length xs = omega arith in
    rw (rest, take-length xs) refl
