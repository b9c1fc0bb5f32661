-- A reader takes a value from the front of the bytes, and gives it with the bytes behind it; or it finds none there.
-- Readers are put together here as frames are made of fields.
use Rattle.std.specs.Prelude.{◌≡◌, ℕ, zero, suc, Bool, ◌==◌, if◌then◌else◌, List, [], ◌∷◌, Option, Some, None, Result, Ok, Err, find}
use Rattle.pico_base.specs.declared.fault.UnpackFault.{UnpackFault}
use Rattle.pico_base.specs.declared.fault.UnpackFault.TheVariants.{Memory, NotABody}
use Rattle.pico_base.specs.Options.{◌>>=◌}
pub use Rattle.body_fields.specs.Fields.{byte_at}

abbrev pub Reader : Type 0 → Type 0
Reader A = List ℕ → Option (A × List ℕ)

-- What a function returned, seen by view, is what a reader gives, unless memory ran out.
abbrev pub Fails : {Y : Type 0} → UnpackFault → Option Y → Type 0
Fails Memory read = Unit {0}
Fails NotABody read = read ≡ None

abbrev pub Gives : {X Y : Type 0} → (X → Y) → Result X UnpackFault → Option Y → Type 0
Gives view (Ok x) read = read ≡ Some (view x)
Gives view (Err e) read = Fails e read

-- a value that passes a test
abbrev pub passing : {A : Type 0} → (A → Bool) → Reader A → Reader A
passing test read bytes = do
  x ← read bytes
  if test x.0 then Some x else None

-- one of a list of values, by its byte
abbrev pub one_of : {A : Type 0} → (A → ℕ) → List A → Reader A
one_of code values bytes = do
  byte ← byte_at bytes
  value ← find (λ x. code x == byte.0) values
  Some (value, byte.1)

-- so many values, one behind the other
unfoldable pub many : {A : Type 0} → Reader A → ℕ → Reader (List A)
many read zero bytes = Some ([], bytes)
many read (suc n) bytes = do
  first ← read bytes
  others ← many read n first.1
  Some (first.0 ∷ others.0, others.1)

-- a count, and so many values
abbrev pub counted : {A : Type 0} → Reader ℕ → Reader A → Reader (List A)
counted count read bytes = do
  n ← count bytes
  many read n.0 n.1

-- what is made of one to five fields

abbrev pub one : {A Z : Type 0} → Reader A → (A → Z) → Reader Z
one read_a make bytes = do
  a ← read_a bytes
  Some (make a.0, a.1)

abbrev pub two : {A B Z : Type 0} → Reader A → Reader B → (A → B → Z) → Reader Z
two read_a read_b make bytes = do
  a ← read_a bytes
  one read_b (make a.0) a.1

abbrev pub three : {A B C Z : Type 0} → Reader A → Reader B → Reader C → (A → B → C → Z) → Reader Z
three read_a read_b read_c make bytes = do
  a ← read_a bytes
  two read_b read_c (make a.0) a.1

abbrev pub four : {A B C D Z : Type 0} → Reader A → Reader B → Reader C → Reader D → (A → B → C → D → Z) → Reader Z
four read_a read_b read_c read_d make bytes = do
  a ← read_a bytes
  three read_b read_c read_d (make a.0) a.1

abbrev pub five : {A B C D E Z : Type 0} → Reader A → Reader B → Reader C → Reader D → Reader E
    → (A → B → C → D → E → Z) → Reader Z
five read_a read_b read_c read_d read_e make bytes = do
  a ← read_a bytes
  four read_b read_c read_d read_e (make a.0) a.1

-- the reader that stands beside a code in a table
abbrev pub pick : {A : Type 0} → List (ℕ × Reader A) → ℕ → Reader A
pick [] code bytes = None
pick (row ∷ rows) code bytes = if code == row.0 then row.1 bytes else pick rows code bytes

-- a code, and what its row of the table reads
abbrev pub tabled : {A : Type 0} → List (ℕ × Reader A) → Reader A
tabled rows bytes = do
  code ← byte_at bytes
  pick rows code.0 code.1
