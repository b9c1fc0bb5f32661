-- Texts, operations, values and sets: a spelling is read, with what follows it.
use Rattle.std.proofs.Common.{◌≡◌, ℕ, suc, ◌≤◌, Bool, true, false, ◌&&◌, cond, eqb, leb, List, [], ◌∷◌, ◌++◌, length, replicate, Some, None, refl, sym, ap, ◌∙◌, append_assoc, arith}
use Rattle.std.specs.Prelude.{codes, decimal}
use Rattle.std.specs.Fmt.{signed_decimal}
use Rattle.std.specs.List.{AllByRecursion, flat_map, list_all}
use Rattle.std.proofs.lemmas.Bool.{and_parts, eqb-true}
use Rattle.pico_base.specs.declared.call.SemStep.{SemStep}
use Rattle.kernel_model.specs.Trace.{step_text, values_text}
use Rattle.kernel_model.specs.Texts.{is_plain, escape, quoted_text, is_repeated, repeated_text, message_text, is_letter_or_digit}
use Rattle.quoted_bytes.specs.Bytes.{text_byte_at}
use Rattle.quoted_bytes.proofs.Bytes.{byte_again, quote_ends}
use Rattle.text_fields.specs.Fields.{digit_at, number_at, quoted_at, repeated_at, repetition_at, text_at, flag_at, step_at, all_at, behind_comma, values_at}
use Rattle.quoted_bytes.proofs.Strips.{strip_again, no_repetition}
use Rattle.quoted_bytes.specs.Front.{strip}
use Rattle.text_fields.proofs.Numerals.{front_number_again, signed_again, IsWithin}
use Rattle.text_fields.proofs.Many.{many-again, parts-room}

-- ---- bytes between quotes

abbrev IsByte : ℕ → Type 0
IsByte b = b ≤ 255

abbrev Anything : List ℕ → Type 0
Anything rest = Unit {0}

escaped_some : (b : ℕ) → 1 ≤ length (escape b)
escaped_some b = of (is_plain b) refl
  where
    of : (c : Bool) → is_plain b ≡ c → 1 ≤ length (escape b)
    of true e = rw e (omega arith)
    of false e = rw e (omega arith)

pub quoted_again : (text rest : List ℕ) → AllByRecursion IsByte text
    → quoted_at (flat_map escape text ++ 34 ∷ rest) ≡ Some (text, rest)
unfolding quoted_at
quoted_again text rest h =
    let bytes : List ℕ = flat_map escape text ++ 34 ∷ rest in
    let room : length text ≤ length bytes =
    parts-room text_byte_at escape IsByte Anything text (34 ∷ rest) (λ b _. escaped_some b) h in
    let all : all_at text_byte_at bytes ≡ (text, 34 ∷ rest) =
    many-again text_byte_at escape IsByte Anything (length bytes) text (34 ∷ rest)
    (λ b more small _. byte_again b more small) (λ _. tt) (quote_ends rest) h room in
    rw (all, strip_again (codes "\"") rest) refl

-- ---- texts

same_bytes : (b : ℕ) (bs : List ℕ) → list_all (eqb b) bs ≡ true → bs ≡ replicate (length bs) b
same_bytes b [] h = refl
same_bytes b (c ∷ bs) h =
    let p = and_parts (eqb b c) (list_all (eqb b) bs) h in
    rw (← eqb-true b c p.0) (ap (λ (xs : List ℕ). b ∷ xs) (same_bytes b bs p.1))

colon_no_digit : (rest : List ℕ) → digit_at (58 ∷ rest) ≡ None
unfolding digit_at
colon_no_digit rest = refl

repetition_again : (count b : ℕ) (rest : List ℕ) → count ≤ 8192
    → repetition_at (decimal count ++ 58 ∷ b ∷ rest) ≡ Some (replicate count b, rest)
unfolding repetition_at repeated_at
repetition_again count b rest small =
    rw (
      front_number_again 8192 count (58 ∷ b ∷ rest) small (omega arith) (colon_no_digit (b ∷ rest)),
      strip_again (codes ":") (b ∷ rest),
    ) refl

-- the byte that a text repeats, and the rest of it
repeats : (b : ℕ) (bs rest : List ℕ) → is_repeated (b ∷ bs) ≡ true → length (b ∷ bs) ≤ 8192
    → text_at (repeated_text (b ∷ bs) ++ rest) ≡ Some (b ∷ bs, rest)
unfolding text_at
repeats b bs rest h small =
    let p = and_parts (is_letter_or_digit b) (leb 16 (length bs) && list_all (eqb b) bs) h in
    let q = and_parts (leb 16 (length bs)) (list_all (eqb b) bs) p.1 in
    let same : bs ≡ replicate (length bs) b = same_bytes b bs q.1 in
    let front : repeated_text (b ∷ bs) ++ rest ≡ codes "rep:" ++ (decimal (length (b ∷ bs)) ++ 58 ∷ b ∷ rest) =
    ap (λ (xs : List ℕ). codes "rep:" ++ xs) (append_assoc (decimal (length (b ∷ bs))) (58 ∷ b ∷ []) rest) in
    let count : length (b ∷ bs) ≡ suc (length bs) = omega arith in
    let all : replicate (length (b ∷ bs)) b ≡ b ∷ bs =
    ap (λ (n : ℕ). replicate n b) count ∙ ap (λ (xs : List ℕ). b ∷ xs) (sym same) in
    rw (
      front,
      strip_again (codes "rep:") (decimal (length (b ∷ bs)) ++ 58 ∷ b ∷ rest),
      repetition_again (length (b ∷ bs)) b rest small,
    ) (ap (λ (xs : List ℕ). Some (xs, rest)) all)

quotes : (text rest : List ℕ) → AllByRecursion IsByte text → text_at (quoted_text text ++ rest) ≡ Some (text, rest)
unfolding text_at
quotes text rest h =
    let front : quoted_text text ++ rest ≡ 34 ∷ (flat_map escape text ++ 34 ∷ rest) =
    ap (λ (xs : List ℕ). 34 ∷ xs) (append_assoc (flat_map escape text) (34 ∷ []) rest) in
    rw (
      front,
      no_repetition (flat_map escape text ++ 34 ∷ rest),
      strip_again (codes "\"") (flat_map escape text ++ 34 ∷ rest),
    ) (quoted_again text rest h)

-- a text that repeats a byte does so at most 8,192 times
pub text_again : (text rest : List ℕ) → AllByRecursion IsByte text → (is_repeated text ≡ true → length text ≤ 8192)
    → text_at (message_text text ++ rest) ≡ Some (text, rest)
text_again [] rest h small = quotes [] rest h
text_again (b ∷ bs) rest h small = of (is_repeated (b ∷ bs)) refl
  where
    of : (c : Bool) → is_repeated (b ∷ bs) ≡ c → text_at (message_text (b ∷ bs) ++ rest) ≡ Some (b ∷ bs, rest)
    of true e = rw e (repeats b bs rest e (small e))
    of false e = rw e (quotes (b ∷ bs) rest h)

-- ---- operations

-- an operation within its ranges
pub record IsStep (step : SemStep) : Type 0 where
  pub num : step.num ≤ 65535
  pub add : IsWithin 65535 step.add

-- what may follow an operation: a blank
abbrev pub IsBlankFirst : List ℕ → Type 0
IsBlankFirst rest = (more : List ℕ) × (rest ≡ 32 ∷ more)

nowait_again : (b : Bool) (more : List ℕ)
    → flag_at (codes ":nowait") (cond b (codes ":nowait") [] ++ 32 ∷ more) ≡ (b, 32 ∷ more)
unfolding flag_at strip
nowait_again true more = refl
nowait_again false more = refl

no_digit_behind : (b : Bool) (more : List ℕ) → digit_at (cond b (codes ":nowait") [] ++ 32 ∷ more) ≡ None
unfolding digit_at
no_digit_behind true more = refl
no_digit_behind false more = refl

step_again : (step : SemStep) (rest : List ℕ) → IsStep step → IsBlankFirst rest
    → step_at (step_text step ++ rest) ≡ Some (step, rest)
unfolding step_at
step_again step rest h (more, e) =
    let last : List ℕ = cond step.nowait (codes ":nowait") [] ++ 32 ∷ more in
    let middle : List ℕ = signed_decimal step.add ++ last in
    let front : step_text step ++ 32 ∷ more ≡ codes " " ++ (decimal step.num ++ (codes ":" ++ middle)) =
    simp append_assoc in
    rw (
      e,
      front,
      strip_again (codes " ") (decimal step.num ++ (codes ":" ++ middle)),
      front_number_again 65535 step.num (codes ":" ++ middle) h.num (omega arith) (colon_no_digit middle),
      strip_again (codes ":") middle,
      signed_again 65535 step.add last (omega arith) h.add (no_digit_behind step.nowait more),
      nowait_again step.nowait more,
    ) refl

step_some : (step : SemStep) → 1 ≤ length (step_text step)
step_some step = omega arith

-- ` =` begins no operation
no_step : (more : List ℕ) → step_at (32 ∷ 61 ∷ more) ≡ None
unfolding step_at strip number_at digit_at
no_step more = refl

blank_first : (steps : List SemStep) (more : List ℕ) → IsBlankFirst (flat_map step_text steps ++ 32 ∷ 61 ∷ more)
blank_first [] more = (61 ∷ more, refl)
blank_first (step ∷ steps) more = (_, refl)

-- the spelling of operations within their ranges is read as these operations, where ` =` follows
pub steps_again : (steps : List SemStep) (more : List ℕ) → AllByRecursion IsStep steps
    → all_at step_at (flat_map step_text steps ++ 32 ∷ 61 ∷ more) ≡ (steps, 32 ∷ 61 ∷ more)
steps_again steps more h =
    let bytes : List ℕ = flat_map step_text steps ++ 32 ∷ 61 ∷ more in
    let room : length steps ≤ length bytes =
    parts-room step_at step_text IsStep IsBlankFirst steps (32 ∷ 61 ∷ more) (λ step _. step_some step) h in
    many-again step_at step_text IsStep IsBlankFirst (length bytes) steps (32 ∷ 61 ∷ more) step_again
    (λ ys. blank_first ys more) (no_step more) h room

-- ---- values

module _ (limit : ℕ) (bound : limit ≤ 4294967295) where
  abbrev IsUpTo : ℕ → Type 0
  IsUpTo n = n ≤ limit

  abbrev EndsDigits : List ℕ → Type 0
  EndsDigits rest = digit_at rest ≡ None

  more_again : (n : ℕ) (rest : List ℕ) → IsUpTo n → EndsDigits rest
      → behind_comma (number_at limit) ((44 ∷ decimal n) ++ rest) ≡ Some (n, rest)
  more_again n rest small ends =
      rw (strip_again (codes ",") (decimal n ++ rest)) (front_number_again limit n rest small bound ends)

  ends_digits : (ns : List ℕ) (more : List ℕ) → EndsDigits (flat_map (λ n. 44 ∷ decimal n) ns ++ 32 ∷ more)
  unfolding digit_at
  ends_digits [] more = refl
  ends_digits (n ∷ ns) more = refl

  no_more : (more : List ℕ) → behind_comma (number_at limit) (32 ∷ more) ≡ None
  unfolding strip
  no_more more = refl

  pub values_again : (n : ℕ) (ns more : List ℕ) → AllByRecursion IsUpTo (n ∷ ns)
      → values_at limit (values_text (n ∷ ns) ++ 32 ∷ more) ≡ Some (n ∷ ns, 32 ∷ more)
  unfolding values_at
  values_again n ns more h =
      let text : ℕ → List ℕ = λ n. 44 ∷ decimal n in
      let bytes : List ℕ = flat_map text ns ++ 32 ∷ more in
      let front : values_text (n ∷ ns) ++ 32 ∷ more ≡ decimal n ++ bytes =
      append_assoc (decimal n) (flat_map text ns) (32 ∷ more) in
      let room : length ns ≤ length bytes =
      parts-room (behind_comma (number_at limit)) text IsUpTo EndsDigits ns (32 ∷ more) (λ m _. omega arith) h.1 in
      let all : all_at (behind_comma (number_at limit)) bytes ≡ (ns, 32 ∷ more) =
      many-again (behind_comma (number_at limit)) text IsUpTo EndsDigits (length bytes) ns (32 ∷ more) more_again
      (λ ys. ends_digits ys more) (no_more more) h.1 room in
      rw (front, front_number_again limit n bytes h.0 bound (ends_digits ns more), all) refl
