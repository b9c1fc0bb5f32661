-- Numbers of one to four digits, and what stands beside them.
use Rattle.std.proofs.Common.{◌≡◌, ℕ, zero, suc, ℤ, pos, negsuc, ◌+◌, ◌-◌, ◌*◌, ◌<◌, ◌≤◌, ◌<ℤ◌, ◌/◌, ◌%◌, Bool, true, ◌&&◌, eqb, [], ◌∷◌, ◌++◌, codes, arith, ap, refl, unsigned_abs, ◌∙◌, get_or, inl, inr, eq-zero-or-pos}
use Rattle.std.specs.Fmt.{decimal, signed_decimal}
use Rattle.std.proofs.lemmas.Bool.{and_parts, eqb-true}
use Rattle.std.proofs.lemmas.Fmt.{decimal_digit, decimal_step}
use Rattle.std.proofs.lemmas.Int.{ints}
use Rattle.itoa.proofs.Decimal.{pair, decimal_pair}
use Rattle.trace_text.specs.declared.text.TheConstants.{PAIRS}

-- whether the first so many pairs of the table are the digits of their numbers
abbrev are_pairs : ℕ → Bool
are_pairs zero = true
are_pairs (suc n) =
    (eqb (get_or PAIRS (n * 2) 0) (48 + n / 10) && eqb (get_or PAIRS (n * 2 + 1) 0) (48 + n % 10)) && are_pairs n

-- then each of them is
pair-below : (n p : ℕ) → are_pairs n ≡ true → p < n
    → (get_or PAIRS (p * 2) 0 ≡ 48 + p / 10) × (get_or PAIRS (p * 2 + 1) 0 ≡ 48 + p % 10)
pair-below zero p all less = absurd (omega (arith, less))
pair-below (suc n) p all less =
    let parts =
    and_parts (eqb (get_or PAIRS (n * 2) 0) (48 + n / 10) && eqb (get_or PAIRS (n * 2 + 1) 0) (48 + n % 10))
    (are_pairs n) all in
    let here =
    and_parts (eqb (get_or PAIRS (n * 2) 0) (48 + n / 10)) (eqb (get_or PAIRS (n * 2 + 1) 0) (48 + n % 10))
    parts.0 in
    elim (eq-zero-or-pos (n - p)) [
      | inl none ↦ let same : p ≡ n = omega (arith, less, none) in
          rw same (
            eqb-true (get_or PAIRS (n * 2) 0) (48 + n / 10) here.0,
            eqb-true (get_or PAIRS (n * 2 + 1) 0) (48 + n % 10) here.1,
          )
      | inr some ↦ pair-below n p parts.1 (omega (arith, some))
    ]

-- the table has both digits of each number below a hundred
pub pair_at : (n : ℕ) → n < 100
    → (get_or PAIRS (n * 2) 0 ≡ 48 + n / 10) × (get_or PAIRS (n * 2 + 1) 0 ≡ 48 + n % 10)
pair_at n small = pair-below 100 n refl small

-- its decimal digits are those of its tens and of what is left
pub two_digits : (n : ℕ) → 10 ≤ n → n < 100 → decimal n ≡ (48 + n / 10) ∷ (48 + n % 10) ∷ []
two_digits n least most =
    decimal_step n least (omega (arith, most))
    ∙ ap (λ tens. tens ++ (48 + n % 10) ∷ []) (decimal_digit (n / 10) (omega (arith, most)))

-- one digit more
pub three_digits : (n : ℕ) → 100 ≤ n → n < 1000
    → decimal n ≡ (48 + n / 100) ∷ (48 + n % 100 / 10) ∷ (48 + n % 100 % 10) ∷ []
three_digits n least most =
    decimal_pair n least (omega (arith, most))
    ∙ ap (λ front. front ++ pair (n % 100)) (decimal_digit (n / 100) (omega (arith, most)))

-- and one more
pub four_digits : (n : ℕ) → 1000 ≤ n → n < 10000
    → decimal n ≡ (48 + n / 100 / 10) ∷ (48 + n / 100 % 10) ∷ (48 + n % 100 / 10) ∷ (48 + n % 100 % 10) ∷ []
four_digits n least most =
    decimal_pair n (omega (arith, least)) (omega (arith, most))
    ∙ ap (λ front. front ++ pair (n % 100)) (two_digits (n / 100) (omega (arith, least)) (omega (arith, most)))

-- a number of one digit with a byte behind it
pub digit_then : (n b : ℕ) → n < 10 → decimal n ++ b ∷ [] ≡ (48 + n) ∷ b ∷ []
digit_then n b most = ap (λ digits. digits ++ b ∷ []) (decimal_digit n most)

-- the end of a line with a number and a node of one digit
pub short_end : (number node : ℕ) → number < 10 → node < 10
    → codes " = " ++ decimal number ++ (codes " by " ++ decimal node ++ 10 ∷ [])
    ≡ 32 ∷ 61 ∷ 32 ∷ (48 + number) ∷ 32 ∷ 98 ∷ 121 ∷ 32 ∷ (48 + node) ∷ 10 ∷ []
short_end number node small least = rw (decimal_digit number small, decimal_digit node least) refl

-- and with a node of two digits
pub longer_end : (number node : ℕ) → number < 10 → 10 ≤ node → node < 100
    → codes " = " ++ decimal number ++ (codes " by " ++ decimal node ++ 10 ∷ [])
    ≡ 32 ∷ 61 ∷ 32 ∷ (48 + number) ∷ 32 ∷ 98 ∷ 121 ∷ 32 ∷ (48 + node / 10) ∷ (48 + node % 10) ∷ 10 ∷ []
longer_end number node small least most = rw (decimal_digit number small, two_digits node least most) refl

-- the same up to the node
pub digit_and_by : (number : ℕ) → number < 10
    → codes " = " ++ decimal number ++ codes " by " ≡ 32 ∷ 61 ∷ 32 ∷ (48 + number) ∷ 32 ∷ 98 ∷ 121 ∷ 32 ∷ []
digit_and_by number small = rw (decimal_digit number small) refl

-- a byte that stands a number of times of two digits
pub short_repeat : (count b : ℕ) → 10 ≤ count → count < 100 → codes "rep:" ++ decimal count ++ 58 ∷ b ∷ []
    ≡ 114 ∷ 101 ∷ 112 ∷ 58 ∷ (48 + count / 10) ∷ (48 + count % 10) ∷ 58 ∷ b ∷ []
short_repeat count b least most = rw (two_digits count least most) refl

-- a number of two digits with a byte behind it
pub two_digits_then : (n b : ℕ) → 10 ≤ n → n < 100 → decimal n ++ b ∷ [] ≡ (48 + n / 10) ∷ (48 + n % 10) ∷ b ∷ []
two_digits_then n b least most = ap (λ digits. digits ++ b ∷ []) (two_digits n least most)

-- a number of three digits with a byte behind it
pub three_digits_then : (n b : ℕ) → 100 ≤ n → n < 1000
    → decimal n ++ b ∷ [] ≡ (48 + n / 100) ∷ (48 + n % 100 / 10) ∷ (48 + n % 100 % 10) ∷ b ∷ []
three_digits_then n b least most = ap (λ digits. digits ++ b ∷ []) (three_digits n least most)

-- the end of a line that woke nobody, by a node of one digit
pub short_by : (node : ℕ) → node < 10
    → codes " by " ++ decimal node ++ 10 ∷ [] ≡ 32 ∷ 98 ∷ 121 ∷ 32 ∷ (48 + node) ∷ 10 ∷ []
short_by node least = rw (decimal_digit node least) refl

-- and by a node of two digits
pub longer_by : (node : ℕ) → 10 ≤ node → node < 100
    → codes " by " ++ decimal node ++ 10 ∷ []
    ≡ 32 ∷ 98 ∷ 121 ∷ 32 ∷ (48 + node / 10) ∷ (48 + node % 10) ∷ 10 ∷ []
longer_by node least most = rw (two_digits node least most) refl

-- a call on a set whose number has one digit
pub short_semop : (id : ℕ) → id < 10
    → codes "semop " ++ decimal id ≡ 115 ∷ 101 ∷ 109 ∷ 111 ∷ 112 ∷ 32 ∷ (48 + id) ∷ []
short_semop id small = rw (decimal_digit id small) refl

-- the first words of a send, with numbers of one digit
pub short_msgsnd : (id class : ℕ) → id < 10 → class < 10
    → codes "msgsnd " ++ decimal id ++ 32 ∷ (decimal class ++ 32 ∷ [])
    ≡ 109 ∷ 115 ∷ 103 ∷ 115 ∷ 110 ∷ 100 ∷ 32 ∷ (48 + id) ∷ 32 ∷ (48 + class) ∷ 32 ∷ []
short_msgsnd id class small few = rw (decimal_digit id small, decimal_digit class few) refl

-- the first words of a receive, with numbers of one digit
pub short_msgrcv : (id class : ℕ) → id < 10 → class < 10
    → codes "msgrcv " ++ decimal id ++ 32 ∷ (decimal class ++ 32 ∷ [])
    ≡ 109 ∷ 115 ∷ 103 ∷ 114 ∷ 99 ∷ 118 ∷ 32 ∷ (48 + id) ∷ 32 ∷ (48 + class) ∷ 32 ∷ []
short_msgrcv id class small few = rw (decimal_digit id small, decimal_digit class few) refl

-- what is added to a semaphore, with numbers of one digit
pub short_add : (num add : ℕ) → num < 10 → add < 10
    → 32 ∷ (decimal num ++ 58 ∷ decimal add) ≡ 32 ∷ (48 + num) ∷ 58 ∷ (48 + add) ∷ []
short_add num add small few = rw (decimal_digit num small, decimal_digit add few) refl

-- what is taken from a semaphore, with numbers of one digit
pub short_less : (num less : ℕ) → num < 10 → less < 10
    → 32 ∷ (decimal num ++ 58 ∷ 45 ∷ decimal less) ≡ 32 ∷ (48 + num) ∷ 58 ∷ 45 ∷ (48 + less) ∷ []
short_less num less small few = rw (decimal_digit num small, decimal_digit less few) refl

-- what is added to a semaphore whose number has two digits
pub longer_add : (num add : ℕ) → 10 ≤ num → num < 100 → add < 10
    → 32 ∷ (decimal num ++ 58 ∷ decimal add) ≡ 32 ∷ (48 + num / 10) ∷ (48 + num % 10) ∷ 58 ∷ (48 + add) ∷ []
longer_add num add least most few = rw (two_digits num least most, decimal_digit add few) refl

-- and what is taken from it
pub longer_less : (num less : ℕ) → 10 ≤ num → num < 100 → less < 10
    → 32 ∷ (decimal num ++ 58 ∷ 45 ∷ decimal less)
    ≡ 32 ∷ (48 + num / 10) ∷ (48 + num % 10) ∷ 58 ∷ 45 ∷ (48 + less) ∷ []
longer_less num less least most few = rw (two_digits num least most, decimal_digit less few) refl

-- a negative number behind its sign
pub signed_less : (z : ℤ) → z <ℤ pos 0 → signed_decimal z ≡ 45 ∷ decimal (unsigned_abs z)
signed_less (pos n) h = absurd (omega (arith, ints))
signed_less (negsuc n) h = refl
