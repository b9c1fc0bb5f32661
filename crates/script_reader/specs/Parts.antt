-- The parts of a line: words that are numbers, variables, names, signals and texts.
use Rattle.std.specs.Prelude.{ℕ, zero, suc, ◌+◌, ◌-◌, ◌*◌, ℤ, pos, negsuc, Bool, true, false, ◌&&◌, ◌||◌, ◌==◌, nat_le, List, [], ◌∷◌, length, take, drop, replicate, codes, bytes_eq, if◌then◌else◌, Option, Some, None, option_map, position}
use Rattle.std.specs.List.{find}
use Rattle.std.specs.Option.{option_map_or}
use Rattle.pico_base.specs.declared.call.SemStep.{SemStep}
use Rattle.pico_base.specs.declared.signal.Sig.{Sig}
use Rattle.pico_base.specs.declared.signal.SigArg.{SigArg}
use Rattle.pico_base.specs.declared.signal.SigArg.TheVariants.{Zero, Is, Bad}
use Rattle.pico_base.specs.declared.signal.Act.{Act}
use Rattle.pico_base.specs.declared.signal.How.{How}
use Rattle.pico_base.specs.declared.signal.PerSignal.{PerSignal}
use Rattle.pico_base.specs.Options.{◌>>=◌}
use Rattle.pico_base.specs.Signal.{at, put_at, everywhere, all_signals}
use Rattle.kernel_model.specs.Trace.{signal_name, action_name, how_name}
use Rattle.call_words.specs.Words.{all_actions, all_hows}
use Rattle.quoted_bytes.specs.Bytes.{text_byte_at}
use Rattle.quoted_bytes.specs.Front.{strip}
use Rattle.script_reader.specs.Words.{pieces}

-- ---- bytes

abbrev pub is_lowercase : ℕ → Bool
is_lowercase b = nat_le 97 b && nat_le b 122

abbrev pub is_digit : ℕ → Bool
is_digit b = nat_le 48 b && nat_le b 57

-- a letter or a digit
abbrev pub is_alphanumeric : ℕ → Bool
is_alphanumeric b = is_lowercase b || (is_digit b || (nat_le 65 b && nat_le b 90))

-- ---- words taken apart

-- what stands before the first of these bytes, and what behind it
unfoldable pub cut : ℕ → List ℕ → Option (List ℕ × List ℕ)
cut byte word = option_map (λ k. (take k word, drop (k + 1) word)) (position (λ b. b == byte) word)

-- what each of the items gives, where each gives something
unfoldable pub each : {A B : Type 0} → (A → Option B) → List A → Option (List B)
each f [] = Some []
each f (x ∷ xs) = f x >>= λ y. option_map (λ ys. y ∷ ys) (each f xs)

-- ---- numbers

-- the value of these digits, behind digits of this value, up to the limit
unfoldable pub digits : ℕ → ℕ → List ℕ → Option ℕ
digits limit value [] = Some value
digits limit value (b ∷ rest) =
    if is_digit b && nat_le (value * 10 + (b - 48)) limit then digits limit (value * 10 + (b - 48)) rest else None

-- a number up to the limit, which is at least 9: decimal digits without leading zeros
unfoldable pub number : ℕ → List ℕ → Option ℕ
number limit [] = None
number limit (b ∷ []) = digits limit 0 (b ∷ [])
number limit (b ∷ c ∷ rest) = if b == 48 then None else digits limit 0 (b ∷ c ∷ rest)

-- a number from 1 to the limit
unfoldable pub positive : ℕ → List ℕ → Option ℕ
positive limit word = number limit word >>= λ n. if n == 0 then None else Some n

abbrev pub signed_from : ℕ → Option (List ℕ) → List ℕ → Option ℤ
signed_from limit (Some word) whole = option_map (λ n. negsuc (n - 1)) (positive limit word)
signed_from limit None word = option_map pos (number limit word)

-- a number from the limit below zero, with one `-`, to the limit
unfoldable pub signed : ℕ → List ℕ → Option ℤ
signed limit word = signed_from limit (strip (codes "-") word) word

-- ---- variables and names

abbrev pub letter_index : ℕ → ℕ
letter_index b = 111 * (b - 97)

-- a variable by its index: a lower-case letter and at most two digits
unfoldable pub variable : List ℕ → Option ℕ
variable (l ∷ []) = if is_lowercase l then Some (letter_index l) else None
variable (l ∷ d ∷ []) = if is_lowercase l && is_digit d then Some (letter_index l + (1 + (d - 48))) else None
variable (l ∷ d ∷ e ∷ []) =
    if is_lowercase l && (is_digit d && is_digit e)
    then Some (letter_index l + (11 + (10 * (d - 48) + (e - 48))))
    else None
variable _ = None

-- ---- signals

unfoldable pub signal : List ℕ → Option Sig
signal word = find (λ g. bytes_eq (signal_name g) word) all_signals

-- a signal's name, `0` or `badsig`
unfoldable pub signal_argument : List ℕ → Option SigArg
signal_argument word =
    if bytes_eq word (codes "0")
    then Some Zero
    else if bytes_eq word (codes "badsig") then Some Bad else option_map Is (signal word)

unfoldable pub action : List ℕ → Option Act
action word = find (λ a. bytes_eq (action_name a) word) all_actions

unfoldable pub how : List ℕ → Option How
how word = find (λ h. bytes_eq (how_name h) word) all_hows

-- the set with the signals of these names, which are different and not in it
unfoldable pub signals_with : PerSignal Bool → List (List ℕ) → Option (PerSignal Bool)
signals_with set [] = Some set
signals_with set (word ∷ words) = signal word >>= λ g. if at set g then None else signals_with (put_at set g true) words

-- `none`, or different signals joined by commas
unfoldable pub signal_set : List ℕ → Option (PerSignal Bool)
signal_set word =
    if bytes_eq word (codes "none")
    then Some (everywhere false)
    else signals_with (everywhere false) (pieces 44 word)

-- ---- texts of messages

-- the text before a closing quote, which ends the word
abbrev pub closed_at : List ℕ → List ℕ → Option (List ℕ)
closed_at text bytes = if bytes_eq bytes (codes "\"") then Some text else None

abbrev pub with_byte : ℕ → List ℕ → List ℕ
with_byte b text = b ∷ text

-- a text of at most so many bytes and its closing quote
unfoldable pub quoted_at : ℕ → List ℕ → Option (List ℕ)
quoted_at zero bytes = closed_at [] bytes
quoted_at (suc most) bytes =
    option_map_or
    (λ (b : ℕ × List ℕ). option_map (with_byte b.0) (quoted_at most b.1))
    (text_byte_at bytes)
    (closed_at [] bytes)

-- a letter or a digit, the only byte of a word
unfoldable pub letter : List ℕ → Option ℕ
letter (b ∷ []) = if is_alphanumeric b then Some b else None
letter _ = None

-- `N:C`
unfoldable pub counted : List ℕ → Option (ℕ × ℕ)
counted word = do
  parts ← cut 58 word
  count ← number 8192 parts.0
  byte ← letter parts.1
  Some (count, byte)

-- which is N times C
unfoldable pub repetition : List ℕ → Option (List ℕ)
repetition word = option_map (λ (c : ℕ × ℕ). replicate c.0 c.1) (counted word)

abbrev pub text_from : Option (List ℕ) → Option (List ℕ) → Option (List ℕ)
text_from (Some word) quoted = repetition word
text_from None (Some bytes) = quoted_at (length bytes) bytes
text_from None None = None

-- `rep:N:C`, or bytes between quotes: those that stand for themselves, and any byte as `\xhh`
unfoldable pub text : List ℕ → Option (List ℕ)
text word = text_from (strip (codes "rep:") word) (strip (codes "\"") word)

-- ---- operations and values

-- V, or `V:nowait`
abbrev pub added_from : Option (List ℕ × List ℕ) → List ℕ → Option (ℤ × Bool)
added_from None word = option_map (λ add. (add, false)) (signed 65535 word)
added_from (Some parts) word =
    signed 65535 parts.0 >>= λ add. if bytes_eq parts.1 (codes "nowait") then Some (add, true) else None

unfoldable pub added : List ℕ → Option (ℤ × Bool)
added word = added_from (cut 58 word) word

-- an operation's index, and what follows its colon
unfoldable pub indexed : List ℕ → Option (ℕ × List ℕ)
indexed word = do
  parts ← cut 58 word
  num ← number 65535 parts.0
  Some (num, parts.1)

-- an operation, `I:V` or `I:V:nowait`
unfoldable pub step : List ℕ → Option SemStep
step word = do
  parts ← cut 58 word
  num ← number 65535 parts.0
  add ← added parts.1
  Some (record { num = num; add = add.0; nowait = add.1 })

-- values joined by commas
unfoldable pub values : List ℕ → Option (List ℕ)
values word = each (number 65535) (pieces 44 word)
