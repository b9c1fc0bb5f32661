-- Reading a body from left to right: a field is its value and the bytes after it, or there is none.
use Rattle.std.specs.Prelude.{◌≡◌, ℕ, zero, suc, Bool, true, false, List, [], ◌∷◌, length, take, drop, Option, Some, None, nat_lt, ◌==◌, if◌then◌else◌}
use Rattle.std.specs.Int.{Width, byte_len, from_be_bytes}
use Rattle.pico_base.specs.declared.fault.UnpackFault.{UnpackFault}
use Rattle.pico_base.specs.declared.fault.UnpackFault.TheVariants.{Memory, NotABody}
use Rattle.pico_base.specs.Options.{◌>>=◌}

-- What a function returned, seen by view, is what reading gives.
abbrev pub Reads : {X Y : Type 0} → (X → Y) → Option X → Option Y → Type 0
Reads view (Some x) read = read ≡ Some (view x)
Reads view None read = read ≡ None

-- Where bytes gave no value: want of memory is told only where they are a value's body, and NotABody only where they
-- are none's.
abbrev pub Refuses : {V : Type 0} → (V → Type 0) → UnpackFault → Type 0
Refuses {V} IsTheirs Memory = (value : V) × IsTheirs value
Refuses {V} IsTheirs NotABody = (value : V) → IsTheirs value → ⊥

-- the bytes are some value's body
pub record IsPacked {V : Type 0} (IsTheirs : V → Type 0) : Type 0 where
  pub value : V
  pub is_body : IsTheirs value

-- whether they are, told without the value: they are some value's, or none's
abbrev pub TellsPacked : {V : Type 0} → (V → Type 0) → Bool → Type 0
TellsPacked IsTheirs true = IsPacked IsTheirs
TellsPacked {V} IsTheirs false = (value : V) → IsTheirs value → ⊥

-- a byte
abbrev pub byte_at : List ℕ → Option (ℕ × List ℕ)
byte_at [] = None
byte_at (b ∷ rest) = Some (b, rest)

-- a number, its high bytes first
abbrev pub number_at : Width → List ℕ → Option (ℕ × List ℕ)
number_at w bytes = if nat_lt (length bytes) (byte_len w) then None else Some
    (from_be_bytes w (take (byte_len w) bytes), drop (byte_len w) bytes)

-- a byte or a number up to a limit
unfoldable pub byte_upto : ℕ → List ℕ → Option (ℕ × List ℕ)
byte_upto limit bytes = do
  b ← byte_at bytes
  if nat_lt limit b.0 then None else Some b

unfoldable pub number_upto : Width → ℕ → List ℕ → Option (ℕ × List ℕ)
number_upto w limit bytes = do
  n ← number_at w bytes
  if nat_lt limit n.0 then None else Some n

-- so many of something, one after the other
abbrev pub many_at : {V : Type 0} → (List ℕ → Option (V × List ℕ)) → ℕ → List ℕ → Option (List V × List ℕ)
many_at one zero bytes = Some ([], bytes)
many_at one (suc n) bytes = do
  first ← one bytes
  others ← many_at one n first.1
  Some (first.0 ∷ others.0, others.1)

-- what was read, if nothing is behind it
abbrev pub whole : {V : Type 0} → Option (V × List ℕ) → Option V
whole None = None
whole (Some x) = if length x.1 == 0 then Some x.0 else None
