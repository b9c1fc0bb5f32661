-- The fields of frames: how each is spelled and read. Numbers have their high bytes first, and signed ones are in two's
-- complement.
use Rattle.std.specs.Prelude.{◌≡◌, ℕ, ◌+◌, ◌<◌, ◌^◌, Bool, true, false, ◌&&◌, ℤ, List, [], ◌∷◌, ◌++◌, length, map, take, drop, Some, None, nat_lt, nat_le, if◌then◌else◌}
use Rattle.std.specs.Int.{w16, w32, to_be_bytes, cast_signed, cast_unsigned}
use Rattle.body_fields.specs.Fields.{number_at}
use Rattle.pico_base.specs.declared.numbers.Kind.{Kind}
use Rattle.pico_base.specs.declared.numbers.Kind.TheVariants as kinds
use Rattle.pico_base.specs.declared.numbers.Name.{Name}
use Rattle.pico_base.specs.declared.numbers.Name.TheVariants as names
use Rattle.pico_base.specs.declared.reply.Errno.{Errno}
use Rattle.pico_base.specs.declared.signal.Sig.{Sig}
use Rattle.pico_base.specs.declared.signal.SigArg.{SigArg}
use Rattle.pico_base.specs.declared.signal.SigArg.TheVariants.{Zero, Is, Bad}
use Rattle.pico_base.specs.ErrorNumber.{all_errors, error_number}
use Rattle.pico_base.specs.Options.{◌>>=◌}
use Rattle.pico_base.specs.Signal.{all_signals, signal_number}
use Rattle.frame_bytes.specs.Readers.{Reader, byte_at, passing, one_of, two}

-- a number of 4 bytes, and one of 2

abbrev pub IsWord : ℕ → Type 0
IsWord n = n < 2 ^ 32

abbrev pub word : ℕ → List ℕ
word n = to_be_bytes w32 n

abbrev pub word_at : Reader ℕ
word_at bytes = number_at w32 bytes

abbrev pub IsHalf : ℕ → Type 0
IsHalf n = n < 2 ^ 16

abbrev pub half : ℕ → List ℕ
half n = to_be_bytes w16 n

abbrev pub half_at : Reader ℕ
half_at bytes = number_at w16 bytes

-- a number of 4 bytes that is at least 1
unfoldable pub positive_at : Reader ℕ
positive_at bytes = passing (nat_lt 0) word_at bytes

-- a number of 2 bytes that is at least 1
unfoldable pub count_at : Reader ℕ
count_at bytes = passing (nat_lt 0) half_at bytes

-- a signed number of 4 bytes

abbrev pub signed : ℤ → List ℕ
signed z = word (cast_unsigned w32 z)

unfoldable pub signed_at : Reader ℤ
signed_at bytes = do
  n ← word_at bytes
  Some (cast_signed w32 n.0, n.1)

-- a node, in one byte

abbrev pub is_node : ℕ → Bool
is_node n = nat_lt 0 n && nat_le n 32

abbrev pub IsNode : ℕ → Type 0
IsNode n = is_node n ≡ true

unfoldable pub node_at : Reader ℕ
node_at bytes = passing is_node byte_at bytes

-- a flag, in one byte

abbrev pub flag_byte : Bool → ℕ
flag_byte false = 0
flag_byte true = 1

abbrev pub all_flags : List Bool
all_flags = false ∷ true ∷ []

unfoldable pub flag_at : Reader Bool
flag_at bytes = one_of flag_byte all_flags bytes

-- a signal, in one byte: its number; and what a call takes as a signal, which may also be 0

unfoldable pub sig_at : Reader Sig
sig_at bytes = one_of signal_number all_signals bytes

abbrev pub sigarg_byte : SigArg → ℕ
sigarg_byte Zero = 0
sigarg_byte (Is sig) = signal_number sig
sigarg_byte Bad = 0

abbrev pub all_sigargs : List SigArg
all_sigargs = Zero ∷ map Is all_signals

unfoldable pub sigarg_at : Reader SigArg
sigarg_at bytes = one_of sigarg_byte all_sigargs bytes

-- an error, in one byte: its number

unfoldable pub errno_at : Reader Errno
errno_at bytes = one_of error_number all_errors bytes

-- a kind, in one byte; and a name, which is a kind and a number

abbrev pub kind_byte : Kind → ℕ
kind_byte kinds.Proc = 1
kind_byte kinds.Msg = 2
kind_byte kinds.Sem = 3

abbrev pub all_kinds : List Kind
all_kinds = kinds.Proc ∷ kinds.Msg ∷ kinds.Sem ∷ []

unfoldable pub kind_at : Reader Kind
kind_at bytes = one_of kind_byte all_kinds bytes

abbrev pub kind_of : Name → Kind
kind_of (names.Proc n) = kinds.Proc
kind_of (names.Msg n) = kinds.Msg
kind_of (names.Sem n) = kinds.Sem

abbrev pub name_number : Name → ℕ
name_number (names.Proc n) = n
name_number (names.Msg n) = n
name_number (names.Sem n) = n

abbrev pub name_of : Kind → ℕ → Name
name_of kinds.Proc n = names.Proc n
name_of kinds.Msg n = names.Msg n
name_of kinds.Sem n = names.Sem n

abbrev pub name_field : Name → List ℕ
name_field name = kind_byte (kind_of name) ∷ word (name_number name)

unfoldable pub name_at : Reader Name
name_at bytes = two kind_at positive_at name_of bytes

-- a text: its length in 4 bytes, and so many bytes

abbrev pub text : List ℕ → List ℕ
text bytes = word (length bytes) ++ bytes

unfoldable pub text_at : Reader (List ℕ)
text_at bytes = do
  n ← word_at bytes
  if nat_lt (length n.1) n.0 then None else Some (take n.0 n.1, drop n.0 n.1)

-- each number is above the one before it, and the first is at least low
abbrev pub rise_from : ℕ → List ℕ → Bool
rise_from low [] = true
rise_from low (n ∷ ns) = nat_le low n && rise_from (n + 1) ns
