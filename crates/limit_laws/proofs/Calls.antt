-- What a sound script's calls are, so that frames have room for them, whatever process or object they name.
use Rattle.std.proofs.Common.{◌≡◌, ℕ, ◌+◌, ◌^◌, ◌≤◌, true, ◌&&◌, nat_lt, List, [], ◌∷◌, ◌++◌, length, Option, Some, None, refl, inl, inr, arith}
use Rattle.std.proofs.lemmas.Bool.{and_from, and_parts, false≢true, leb-true, lt-ltb, or_cases}
use Rattle.std.proofs.lemmas.List.{length-append}
use Rattle.std.specs.List.{flat_map}
use Rattle.std.specs.Prelude.{nat_le}
use Rattle.frame_bytes.specs.Calls.{call_bytes, step_field}
use Rattle.frame_bytes.specs.Fields.{flag_byte, word}
use Rattle.frame_bytes.specs.Limits.{is_call}
use Rattle.kernel_laws.proofs.Plain.{by_test}
use Rattle.kernel_model.specs.Numbers.{is_between}
use Rattle.kernel_model.specs.Script.{Vars, call_from, is_in_range, is_type, value_of, with_target}
use Rattle.kernel_model.specs.Texts.{escape, has_spelling, is_one_letter, is_plain, quoted_text}
use Rattle.limit_laws.proofs.Plain.{fields-length, some-nonzero}
use Rattle.pico_base.specs.Home.{home_of}
use Rattle.pico_base.specs.declared.call.Call.TheVariants as calls
use Rattle.pico_base.specs.declared.call.Call.{Call}
use Rattle.pico_base.specs.declared.signal.SigArg.TheVariants.{Zero, Is, Bad}
use Rattle.world_model.specs.Calls.{is_for_others}

-- keys aren't 0, texts and lists are those that a script has room for, and no script has a withdrawal
abbrev pub IsSpellable : Call → Type 0
IsSpellable (calls.MsgGet (Some key) create excl) = nat_lt 0 key ≡ true
IsSpellable (calls.SemGet (Some key) count create excl) = nat_lt 0 key ≡ true
IsSpellable (calls.MsgSnd id class text nowait) = length text ≤ 8192
IsSpellable (calls.SemOp id steps) = (1 ≤ length steps) × (length steps ≤ 1024)
IsSpellable (calls.SemSetAll id values) = (1 ≤ length values) × (length values ≤ 2048)
IsSpellable (calls.Withdraw name) = ⊥
IsSpellable call = Unit {0}

-- ---- calls in range

escape-is-some : (b : ℕ) (rest : List ℕ) → 1 + length rest ≤ length (escape b ++ rest)
escape-is-some b rest =
    by_test (λ (bytes : List ℕ). 1 + length rest ≤ length (bytes ++ rest)) (is_plain b) _ _ (λ _. omega arith)
    (λ _. omega arith)

escaped-is-longer : (text : List ℕ) → length text ≤ length (flat_map escape text)
escaped-is-longer [] = omega arith
escaped-is-longer (b ∷ text) =
    let first = escape-is-some b (flat_map escape text)
    in let rest = escaped-is-longer text
    in omega (arith, first, rest)

text-is-short : (text : List ℕ) → has_spelling text ≡ true → length text ≤ 8192
text-is-short text h =
    elim (or_cases (is_one_letter text && nat_le (length text) 8192) (nat_le (length (quoted_text text)) 4096)
    (and_parts _ _ h).1) [
      | inl letters ↦ leb-true (length text) 8192 (and_parts (is_one_letter text) _ letters).1
      | inr quoted ↦
          let most = leb-true (length (quoted_text text)) 4096 quoted
          in let longer = escaped-is-longer text
          in let whole = length-append (flat_map escape text) (34 ∷ [])
          in omega (arith, most, longer, whole)
    ]

between : (low high n : ℕ) → is_between low high n ≡ true → (low ≤ n) × (n ≤ high)
between low high n h =
    let w = and_parts (nat_le low n) (nat_le n high) h
    in (leb-true low n w.0, leb-true n high w.1)

-- A call in range is one that frames have room for,
pub range-is-spellable : (call : Call) → is_in_range call ≡ true → IsSpellable call
range-is-spellable (calls.MsgGet (Some key) create excl) h = (and_parts (nat_lt 0 key) _ h).0
range-is-spellable (calls.SemGet (Some key) count create excl) h =
    (and_parts (nat_lt 0 key) _ (and_parts _ _ h).0).0
range-is-spellable (calls.MsgSnd id class text nowait) h =
    text-is-short text (and_parts (is_type class) _ (and_parts _ _ h).1).1
range-is-spellable (calls.SemOp id steps) h =
    between 1 1024 (length steps) (and_parts _ _ (and_parts _ _ h).1).0
range-is-spellable (calls.SemSetAll id values) h =
    between 1 2048 (length values) (and_parts _ _ (and_parts _ _ h).1).0
range-is-spellable (calls.Withdraw name) h = false≢true h
range-is-spellable call h = tt

target-is-spellable : (call : Call) (n : ℕ) → IsSpellable call → IsSpellable (with_target call n)
target-is-spellable (calls.MsgGet (Some key) create excl) n h = h
target-is-spellable (calls.SemGet (Some key) count create excl) n h = h
target-is-spellable (calls.MsgSnd id class text nowait) n h = h
target-is-spellable (calls.SemOp id steps) n h = h
target-is-spellable (calls.SemSetAll id values) n h = h
target-is-spellable (calls.Withdraw name) n h = h
target-is-spellable call n h = tt

-- and so it is with any variable's value in the place of its number.
pub line-is-spellable : (call : Call) (vars : Vars) (o : Option ℕ) → IsSpellable call
    → IsSpellable (call_from call vars o)
line-is-spellable call vars None h = h
line-is-spellable call vars (Some v) h = target-is-spellable call (value_of vars v) h

-- ---- in frames

is-a-count : (n most : ℕ) → 1 ≤ n → n ≤ 2048 → (nat_lt n (2 ^ 16) && nat_lt 0 n) ≡ true
is-a-count n most low high =
    and_from (nat_lt n (2 ^ 16)) (nat_lt 0 n) (lt-ltb n (2 ^ 16) (omega (arith, high))) (some-nonzero n low)

-- A call that others carry out is within the limits,
pub call-is-within : (pid : ℕ) (call : Call) → IsSpellable call → is_for_others (home_of pid call) ≡ true
    → is_call call ≡ true
call-is-within pid (calls.Kill target Zero) h others = refl
call-is-within pid (calls.Kill target (Is sig)) h others = refl
call-is-within pid (calls.Kill target Bad) h others = absurd (false≢true others)
call-is-within pid (calls.MsgGet (Some key) create excl) h others = h
call-is-within pid (calls.MsgGet None create excl) h others = absurd (false≢true others)
call-is-within pid (calls.MsgSnd id class text nowait) h others =
    lt-ltb (length text) (2 ^ 32) (omega (arith, h))
call-is-within pid (calls.MsgRcv id class size noerror nowait) h others = refl
call-is-within pid (calls.MsgStat id) h others = refl
call-is-within pid (calls.MsgSet id qbytes) h others = refl
call-is-within pid (calls.MsgRmid id) h others = refl
call-is-within pid (calls.SemGet (Some key) count create excl) h others = h
call-is-within pid (calls.SemGet None count create excl) h others = absurd (false≢true others)
call-is-within pid (calls.SemOp id steps) h others =
    let most = h.1 in is-a-count (length steps) 2048 h.0 (omega (arith, most))
call-is-within pid (calls.SemGetVal id num) h others = refl
call-is-within pid (calls.SemSetVal id num value) h others = refl
call-is-within pid (calls.SemGetAll id) h others = refl
call-is-within pid (calls.SemSetAll id values) h others = is-a-count (length values) 2048 h.0 h.1
call-is-within pid (calls.SemGetPid id num) h others = refl
call-is-within pid (calls.SemGetNcnt id num) h others = refl
call-is-within pid (calls.SemGetZcnt id num) h others = refl
call-is-within pid (calls.SemRmid id) h others = refl
call-is-within pid (calls.Withdraw name) h others = absurd h
call-is-within pid call h others = absurd (false≢true others)

-- and short.
pub call-is-short : (call : Call) → IsSpellable call → length (call_bytes call) ≤ 8206
call-is-short (calls.MsgGet (Some key) create excl) h = omega arith
call-is-short (calls.SemGet (Some key) count create excl) h = omega arith
call-is-short (calls.MsgSnd id class text nowait) h =
    let whole = length-append text (flag_byte nowait ∷ []) in omega (arith, whole, h)
call-is-short (calls.SemOp id steps) h =
    let each = fields-length step_field 7 steps (λ _. refl)
    in let most = h.1
    in omega (arith, each, most)
call-is-short (calls.SemSetAll id values) h =
    let each = fields-length word 4 values (λ _. refl)
    in let most = h.1
    in omega (arith, each, most)
call-is-short call h = omega arith
