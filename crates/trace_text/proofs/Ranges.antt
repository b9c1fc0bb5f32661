-- What the tests of the grammar say of numbers, texts and lists.
use Rattle.std.proofs.Common.{◌≡◌, ℕ, ◌≤◌, ℤ, pos, negsuc, Bool, true, false, ◌&&◌, ◌||◌, not, leb, List, [], ◌∷◌, ◌++◌, length, get_or, None, refl, ap, arith}
use Rattle.std.specs.Prelude.{decimal, int_le}
use Rattle.std.specs.List.{AllByRecursion, list_all}
use Rattle.std.proofs.lemmas.Bool.{and_parts, leb-true, ltb-true}
use Rattle.pico_base.specs.declared.call.SemStep.{SemStep}
use Rattle.kernel_model.specs.Numbers.{is_u16, is_u32, is_byte}
use Rattle.kernel_model.specs.Texts.{is_repeated}
use Rattle.kernel_model.specs.Script.{is_type, is_step_in_range}
use Rattle.text_fields.proofs.Chains.{none_from}
use Rattle.quoted_bytes.proofs.Strips.{strip_takes}
use Rattle.quoted_bytes.specs.Front.{strip}
use Rattle.text_fields.proofs.Numerals.{IsWithin, decimal_first}
use Rattle.text_fields.proofs.Spelled.{IsStep}
use Rattle.trace_text.specs.Grammar.{is_text}

-- a number of 32 bits is at most the greatest of them
pub u32-bound : (n : ℕ) → is_u32 n ≡ true → n ≤ 4294967295
u32-bound n h = omega (arith, ltb-true n 4294967296 h)

-- a number of 16 bits is at most the greatest of them
pub u16-bound : (n : ℕ) → is_u16 n ≡ true → n ≤ 65535
u16-bound n h = leb-true n 65535 h

-- a byte is at most 255
pub byte-bound : (n : ℕ) → is_byte n ≡ true → n ≤ 255
byte-bound n h = leb-true n 255 h

-- a message's type is within the greatest number of 31 bits, on either side of 0
pub type-within : (class : ℤ) → is_type class ≡ true → IsWithin 2147483647 class
type-within (pos n) h =
    leb-true n 2147483647 (and_parts (int_le (negsuc 2147483646) (pos n)) (int_le (pos n) (pos 2147483647)) h).1
type-within (negsuc m) h =
    let low : m ≤ 2147483646 =
    leb-true m 2147483646
    (and_parts (int_le (negsuc 2147483646) (negsuc m)) (int_le (negsuc m) (pos 2147483647)) h).0 in
    omega arith

add-within : (z : ℤ) → (int_le (negsuc 65534) z && int_le z (pos 65535)) ≡ true → IsWithin 65535 z
add-within (pos n) h = leb-true n 65535 (and_parts (int_le (negsuc 65534) (pos n)) (int_le (pos n) (pos 65535)) h).1
add-within (negsuc m) h =
    let low : m ≤ 65534 =
    leb-true m 65534 (and_parts (int_le (negsuc 65534) (negsuc m)) (int_le (negsuc m) (pos 65535)) h).0 in
    omega arith

-- an operation that passes the test is within its ranges
pub step-within : (step : SemStep) → is_step_in_range step ≡ true → IsStep step
step-within step h =
    let p = and_parts (is_u16 step.num) (int_le (negsuc 65534) step.add && int_le step.add (pos 65535)) h in
    record { num = u16-bound step.num p.0; add = add-within step.add p.1 }

-- of each element of a list that passes a test holds what the test says
pub all-from : {A : Type 0} (test : A → Bool) (P : A → Type 0) → ((x : A) → test x ≡ true → P x) → (xs : List A)
    → list_all test xs ≡ true → AllByRecursion P xs
all-from test P says [] h = tt
all-from test P says (x ∷ xs) h =
    let p = and_parts (test x) (list_all test xs) h in (says x p.0, all-from test P says xs p.1)

pub record IsTextInRange (text : List ℕ) : Type 0 where
  pub bytes : AllByRecursion (λ b. b ≤ 255) text
  pub few : is_repeated text ≡ true → length text ≤ 8192

-- a text that passes the test is of bytes, and of at most 8192 where one byte is repeated
pub text-in-range : (text : List ℕ) → is_text text ≡ true → IsTextInRange text
text-in-range text h =
    let p = and_parts (list_all is_byte text) (not (is_repeated text) || leb (length text) 8192) h in
    record { bytes = all-from is_byte (λ b. b ≤ 255) byte-bound text p.0; few = of (is_repeated text) refl p.1 }
  where
    of : (c : Bool) → is_repeated text ≡ c → (not (is_repeated text) || leb (length text) 8192) ≡ true
        → is_repeated text ≡ true → length text ≤ 8192
    of true e say is = let bound : leb (length text) 8192 ≡ true = rw e at say in leb-true (length text) 8192 bound
    of false e say is = absurd (cc)

-- a word that begins with no digit isn't a number's spelling
pub no-word : (b : ℕ) (w : List ℕ) (n : ℕ) (rest : List ℕ) → n ≤ 4294967295 → 58 ≤ b
    → strip (b ∷ w) (decimal n ++ rest) ≡ None
no-word b w n rest small high = none_from (strip (b ∷ w) (decimal n ++ rest)) (λ x e.
    omega (
      arith,
      (decimal_first n rest small).1,
      ap (λ (r : List ℕ). get_or r 0 0) (strip_takes (b ∷ w) (decimal n ++ rest) x e),
      high,
    ))
