-- The fields of a call's text, read from the front. A field comes with what follows it.
use Rattle.std.specs.Prelude.{ℕ, zero, suc, ◌+◌, ◌-◌, ◌*◌, ℤ, pos, negsuc, Bool, true, false, ◌&&◌, ◌==◌, nat_le, List, [], ◌∷◌, length, take, drop, replicate, codes, fold, position, if◌then◌else◌, Option, Some, None, option_map, unwrap_or}
use Rattle.std.specs.Option.{option_map_or}
use Rattle.pico_base.specs.declared.call.SemStep.{SemStep}
use Rattle.pico_base.specs.declared.reply.Errno.{Errno}
use Rattle.pico_base.specs.declared.reply.Errno.TheVariants.{Esrch, Einval, Echild, Enoent, Eexist, Enomsg, Eagain, E2big, Efbig, Erange, Eidrm, Eintr}
use Rattle.pico_base.specs.declared.signal.Sig.{Sig}
use Rattle.pico_base.specs.declared.signal.SigArg.{SigArg}
use Rattle.pico_base.specs.declared.signal.SigArg.TheVariants.{Zero, Is, Bad}
use Rattle.pico_base.specs.declared.signal.Act.{Act}
use Rattle.pico_base.specs.declared.signal.How.{How}
use Rattle.pico_base.specs.declared.signal.PerSignal.{PerSignal}
use Rattle.pico_base.specs.Options.{◌>>=◌}
use Rattle.pico_base.specs.Signal.{put_at, everywhere, all_signals}
use Rattle.kernel_model.specs.Trace.{signal_name, action_name, how_name, error_name}
use Rattle.call_words.specs.Words.{all_actions, all_hows}
use Rattle.quoted_bytes.specs.Bytes.{text_byte_at}
use Rattle.quoted_bytes.specs.Front.{strip}

-- Numbers.

abbrev pub is_digit : ℕ → Bool
is_digit b = nat_le 48 b && nat_le b 57

-- a digit at the front
unfoldable pub digit_at : List ℕ → Option (ℕ × List ℕ)
digit_at [] = None
digit_at (b ∷ rest) = if is_digit b then Some (b - 48, rest) else None

-- the number whose digits stand at the front, behind digits of this value
unfoldable pub digits_front : ℕ → ℕ → List ℕ → Option (ℕ × List ℕ)
digits_front limit value [] = Some (value, [])
digits_front limit value (b ∷ rest) =
    if is_digit b
    then if nat_le (value * 10 + (b - 48)) limit then digits_front limit (value * 10 + (b - 48)) rest else None
    else Some (value, b ∷ rest)

-- a number up to the limit, which is at least 9. A zero is a number of its own
unfoldable pub number_at : ℕ → List ℕ → Option (ℕ × List ℕ)
number_at limit bytes = do
  first ← digit_at bytes
  if first.0 == 0 then Some first else digits_front limit first.0 first.1

abbrev pub negative : ℕ × List ℕ → Option (ℤ × List ℕ)
negative number = if number.0 == 0 then None else Some (negsuc (number.0 - 1), number.1)

abbrev pub signed_of : ℕ → Option (List ℕ) → List ℕ → Option (ℤ × List ℕ)
signed_of limit (Some digits) bytes = number_at limit digits >>= negative
signed_of limit None bytes = option_map (λ (number : ℕ × List ℕ). (pos number.0, number.1)) (number_at limit bytes)

-- a number from the limit below zero to the limit
unfoldable pub signed_at : ℕ → List ℕ → Option (ℤ × List ℕ)
signed_at limit bytes = signed_of limit (strip (codes "-") bytes) bytes

-- Words.

-- how many bytes stand before the first blank
abbrev pub word_length : List ℕ → ℕ
word_length bytes = unwrap_or (position (λ b. b == 32) bytes) (length bytes)

-- the bytes before the first blank, and from it on
unfoldable pub word_at : List ℕ → List ℕ × List ℕ
word_at bytes = (take (word_length bytes) bytes, drop (word_length bytes) bytes)

-- whether the word stands at the front, with what follows
abbrev pub flag_of : Option (List ℕ) → List ℕ → Bool × List ℕ
flag_of None bytes = (false, bytes)
flag_of (Some rest) bytes = (true, rest)

unfoldable pub flag_at : List ℕ → List ℕ → Bool × List ℕ
flag_at word bytes = flag_of (strip word bytes) bytes

-- the first of these values whose name stands at the front
unfoldable pub named_at : {A : Type 0} → (A → List ℕ) → List A → List ℕ → Option (A × List ℕ)
named_at name [] bytes = None
named_at name (x ∷ xs) bytes = option_map_or (λ rest. Some (x, rest)) (strip (name x) bytes) (named_at name xs bytes)

abbrev pub all_errors : List Errno
all_errors =
    Esrch ∷ Einval ∷ Echild ∷ Enoent ∷ Eexist ∷ Enomsg ∷ Eagain ∷ E2big ∷ Efbig ∷ Erange ∷ Eidrm ∷ Eintr ∷ []

-- a signal; 0, a signal or `badsig`; an action; how a mask changes; an error
abbrev pub signal_at : List ℕ → Option (Sig × List ℕ)
signal_at bytes = named_at signal_name all_signals bytes

unfoldable pub argument_at : List ℕ → Option (SigArg × List ℕ)
argument_at bytes =
    option_map_or (λ rest. Some (Zero, rest)) (strip (codes "0") bytes)
    (option_map_or (λ rest. Some (Bad, rest)) (strip (codes "badsig") bytes)
    (option_map (λ (g : Sig × List ℕ). (Is g.0, g.1)) (signal_at bytes)))

abbrev pub action_at : List ℕ → Option (Act × List ℕ)
action_at bytes = named_at action_name all_actions bytes

abbrev pub how_at : List ℕ → Option (How × List ℕ)
how_at bytes = named_at how_name all_hows bytes

abbrev pub error_at : List ℕ → Option (Errno × List ℕ)
error_at bytes = named_at error_name all_errors bytes

-- Lists.

abbrev pub in_front : {A : Type 0} → A → List A × List ℕ → List A × List ℕ
in_front x xs = (x ∷ xs.0, xs.1)

-- as many parts as stand at the front, at most so many
unfoldable pub many : {A : Type 0} → (List ℕ → Option (A × List ℕ)) → ℕ → List ℕ → List A × List ℕ
many reader zero bytes = ([], bytes)
many reader (suc most) bytes =
    option_map_or (λ (part : _ × List ℕ). in_front part.0 (many reader most part.1)) (reader bytes) ([], bytes)

abbrev pub all_at : {A : Type 0} → (List ℕ → Option (A × List ℕ)) → List ℕ → List A × List ℕ
all_at reader bytes = many reader (length bytes) bytes

-- what stands behind a comma
abbrev pub behind_comma : {A : Type 0} → (List ℕ → Option (A × List ℕ)) → List ℕ → Option (A × List ℕ)
behind_comma reader bytes = strip (codes ",") bytes >>= reader

-- one part, and further ones behind commas
abbrev pub joined_at : {A : Type 0} → (List ℕ → Option (A × List ℕ)) → List ℕ → Option (List A × List ℕ)
joined_at reader bytes = do
  first ← reader bytes
  Some (in_front first.0 (all_at (behind_comma reader) first.1))

-- Texts.

-- the text before a closing quote, and what follows that
abbrev pub closed_of : List ℕ × List ℕ → Option (List ℕ × List ℕ)
closed_of text = option_map (λ (rest : List ℕ). (text.0, rest)) (strip (codes "\"") text.1)

-- a text behind its opening quote
unfoldable pub quoted_at : List ℕ → Option (List ℕ × List ℕ)
quoted_at bytes = closed_of (all_at text_byte_at bytes)

-- the byte of `rep:N:C`, so many times
unfoldable pub repeated_at : ℕ → List ℕ → Option (List ℕ × List ℕ)
repeated_at count [] = None
repeated_at count (b ∷ rest) = Some (replicate count b, rest)

-- the count of `N:C`, with what follows the colon
abbrev pub count_at : List ℕ → Option (ℕ × List ℕ)
count_at bytes = do
  count ← number_at 8192 bytes
  letter ← strip (codes ":") count.1
  Some (count.0, letter)

-- `N:C`
unfoldable pub repetition_at : List ℕ → Option (List ℕ × List ℕ)
repetition_at bytes = count_at bytes >>= λ count. repeated_at count.0 count.1

unfoldable pub text_at : List ℕ → Option (List ℕ × List ℕ)
text_at bytes =
    option_map_or repetition_at (strip (codes "rep:") bytes) (option_map_or quoted_at (strip (codes "\"") bytes) None)

-- Operations, values and sets.

abbrev pub step_of : ℕ → ℤ → Bool × List ℕ → SemStep × List ℕ
step_of num add nowait = (record { num = num; add = add; nowait = nowait.0 }, nowait.1)

-- an operation behind a blank
unfoldable pub step_at : List ℕ → Option (SemStep × List ℕ)
step_at bytes = do
  front ← strip (codes " ") bytes
  num ← number_at 65535 front
  behind ← strip (codes ":") num.1
  add ← signed_at 65535 behind
  Some (step_of num.0 add.0 (flag_at (codes ":nowait") add.1))

abbrev pub steps_at : List ℕ → List SemStep × List ℕ
steps_at bytes = all_at step_at bytes

-- values up to the limit, with commas between them
unfoldable pub values_at : ℕ → List ℕ → Option (List ℕ × List ℕ)
values_at limit bytes = joined_at (number_at limit) bytes

-- the set with these signals
abbrev pub with_signals : PerSignal Bool → List Sig × List ℕ → PerSignal Bool × List ℕ
with_signals set gs = (fold (λ so_far g. put_at so_far g true) set gs.0, gs.1)

abbrev pub set_from : List Sig × List ℕ → PerSignal Bool × List ℕ
set_from gs = with_signals (everywhere false) gs

-- `none`, or signals with commas between them
unfoldable pub set_at : List ℕ → Option (PerSignal Bool × List ℕ)
set_at bytes =
    option_map_or (λ rest. Some (everywhere false, rest)) (strip (codes "none") bytes)
    (option_map set_from (joined_at signal_at bytes))
