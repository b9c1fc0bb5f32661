-- Going over lines up to the first one whose first word is `image`.
use Rattle.std.proofs.Common.{◌≡◌, ℕ, zero, suc, ◌+◌, ◌-◌, ◌<◌, ◌≤◌, Bool, true, false, List, [], ◌∷◌, length, take, drop, Option, Some, None, refl, sym, ap, ◌∙◌, subst, arith}
use Rattle.std.specs.Prelude.{option_map, sum_by}
use Rattle.std.proofs.lemmas.List.Sums.{sum_by-cons, sum_by-take-drop}
use Rattle.script_reader.specs.Words.{lines_of}
use Rattle.image_text.specs.Parts.{ends_script, place_in, end_place, size_of, script_of, lines_behind, number_behind}

drop_next : {A : Type 0} (k : ℕ) (xs : List A) → drop (suc k) xs ≡ drop 1 (drop k xs)
drop_next zero xs = refl
drop_next (suc k) [] = refl
drop_next (suc k) (x ∷ xs) = drop_next k xs

drop_sum : {A : Type 0} (k j : ℕ) (xs : List A) → drop j (drop k xs) ≡ drop (k + j) xs
drop_sum k zero xs =
    let e : k ≡ k + 0 = omega arith in
    ap (λ (n : ℕ). drop n xs) e
drop_sum k (suc j) xs =
    let e : suc (k + j) ≡ k + suc j = omega arith in
    drop_next j (drop k xs) ∙ ap (drop 1) (drop_sum k j xs) ∙ sym (drop_next (k + j) xs)
    ∙ ap (λ (n : ℕ). drop n xs) e

drop_behind : {A : Type 0} (k : ℕ) (xs : List A) (x : A) (ys : List A) → x ∷ ys ≡ drop k xs → drop (k + 1) xs ≡ ys
drop_behind k xs x ys e =
    let n : k + 1 ≡ suc k = omega arith in
    ap (λ (m : ℕ). drop m xs) n ∙ drop_next k xs ∙ ap (drop 1) (sym e)

size_more : (k : ℕ) (bytes line : List ℕ) (lines : List (List ℕ)) → line ∷ lines ≡ drop k (lines_of bytes)
    → size_of (k + 1) bytes ≡ size_of k bytes + (length line + 1)
unfolding size_of
size_more k bytes line lines e =
    let f : List ℕ → ℕ = λ (l : List ℕ). length l + 1 in
    let all : List (List ℕ) = lines_of bytes in
    let one : sum_by f (take k all) + sum_by f (drop k all) ≡ sum_by f all = sum_by-take-drop f all k in
    let two : sum_by f (take (k + 1) all) + sum_by f (drop (k + 1) all) ≡ sum_by f all =
    sum_by-take-drop f all (k + 1) in
    let here : sum_by f (drop k all) ≡ (length line + 1) + sum_by f lines =
    ap (sum_by f) (sym e) ∙ sum_by-cons f line lines in
    let behind : sum_by f (drop (k + 1) all) ≡ sum_by f lines = ap (sum_by f) (drop_behind k all line lines e) in
    omega (arith, one, two, here, behind)

-- behind so many lines and bytes, none of the lines ends the script
pub record IsAt (bytes : List ℕ) (before size : ℕ) (rest : List ℕ) : Type 0 where
  pub size_is : size ≡ size_of before bytes
  pub rest_is : rest ≡ drop size bytes
  pub lines_left : lines_of rest ≡ drop before (lines_of bytes)
  pub place : end_place bytes ≡ option_map (λ j. before + j) (place_in (lines_of rest))
  pub count : before + length (lines_of rest) ≡ length (lines_of bytes)
  pub few : before + length rest ≤ length bytes

from_zero : (o : Option ℕ) → o ≡ option_map (λ j. 0 + j) o
from_zero None = refl
from_zero (Some k) =
    let e : k ≡ 0 + k = omega arith in
    ap (λ (n : ℕ). Some n) e

-- before the first line no line and no byte were passed
pub at_start : (bytes : List ℕ) → IsAt bytes 0 0 bytes
unfolding size_of end_place
at_start bytes = record {
  size_is = refl;
  rest_is = refl;
  lines_left = refl;
  place = from_zero (place_in (lines_of bytes));
  count = omega arith;
  few = omega arith;
}

one_more : (k : ℕ) (o : Option ℕ)
    → option_map (λ j. k + j) (option_map (λ j. j + 1) o) ≡ option_map (λ j. (k + 1) + j) o
one_more k None = refl
one_more k (Some n) =
    let e : k + (n + 1) ≡ (k + 1) + n = omega arith in
    ap (λ (m : ℕ). Some m) e

module _ (bytes : List ℕ) (before size : ℕ) (rest line after : List ℕ) (h : IsAt bytes before size rest)
    (lines : lines_of rest ≡ line ∷ lines_of after) (behind : after ≡ drop (length line + 1) rest) where
  here : line ∷ lines_of after ≡ drop before (lines_of bytes)
  here = sym lines ∙ h.lines_left

  next_size : size_of (before + 1) bytes ≡ size + (length line + 1)
  next_size = size_more before bytes line (lines_of after) here ∙ ap (λ (n : ℕ). n + (length line + 1)) (sym h.size_is)

  next_rest : after ≡ drop (size + (length line + 1)) bytes
  next_rest = behind ∙ ap (drop (length line + 1)) h.rest_is ∙ drop_sum size (length line + 1) bytes

  -- behind one line more
  pub at_next : length after < length rest → ends_script line ≡ false
      → IsAt bytes (before + 1) (size + (length line + 1)) after
  at_next shorter other =
      let place : place_in (lines_of rest) ≡ option_map (λ j. j + 1) (place_in (lines_of after)) =
      ap place_in lines ∙ rw other refl in
      let size_here : length (lines_of rest) ≡ suc (length (lines_of after)) = ap length lines in
      let count : before + length (lines_of rest) ≡ length (lines_of bytes) = h.count in
      let few : before + length rest ≤ length bytes = h.few in
      record {
        size_is = sym next_size;
        rest_is = next_rest;
        lines_left = sym (drop_behind before (lines_of bytes) line (lines_of after) here);
        place =
            h.place ∙ ap (λ (o : Option ℕ). option_map (λ j. before + j) o) place
            ∙ one_more before (place_in (lines_of after));
        count = omega (arith, size_here, count);
        few = omega (arith, shorter, few);
      }

  -- at the line that ends the script
  pub at_mark : ends_script line ≡ true → end_place bytes ≡ Some before
  at_mark found =
      let place : place_in (lines_of rest) ≡ Some 0 = ap place_in lines ∙ rw found refl in
      let e : before + 0 ≡ before = omega arith in
      h.place ∙ ap (λ (o : Option ℕ). option_map (λ j. before + j) o) place ∙ ap (λ (n : ℕ). Some n) e

  pub marked_script : ends_script line ≡ true → take (size - 1) bytes ≡ script_of bytes
  marked_script found = rw (at_mark found) (ap (λ (n : ℕ). take (n - 1) bytes) h.size_is)

  pub marked_lines : ends_script line ≡ true → lines_of rest ≡ lines_behind bytes
  marked_lines found = rw (at_mark found) h.lines_left

  pub marked_number : ends_script line ≡ true → before + 1 ≡ number_behind bytes
  marked_number found = rw (at_mark found) refl

module _ (bytes : List ℕ) (before size : ℕ) (rest : List ℕ) (h : IsAt bytes before size rest)
    (end : lines_of rest ≡ []) where
  -- at the end
  pub none_marked : end_place bytes ≡ None
  none_marked = h.place ∙ ap (λ (xs : List (List ℕ)). option_map (λ j. before + j) (place_in xs)) end

  pub unmarked_script : bytes ≡ script_of bytes
  unmarked_script = rw none_marked refl

  pub unmarked_lines : (none : List ℕ) → none ≡ [] → lines_of none ≡ lines_behind bytes
  unmarked_lines none e = rw (none_marked, e) refl

  pub unmarked_number : before + 1 ≡ number_behind bytes
  unmarked_number =
      let none : length (lines_of rest) ≡ 0 = ap length end in
      let count : before + length (lines_of rest) ≡ length (lines_of bytes) = h.count in
      let same : before + 1 ≡ length (lines_of bytes) + 1 = omega (arith, none, count) in
      rw none_marked same
