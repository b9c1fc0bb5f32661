-- The keys of one kind (POSIX.1-2017: XSI Interprocess Communication, msgget, semget).
use Rattle.std.specs.Prelude.{◌≡◌, ℕ, Bool, true, false, not, ◌&&◌, nat_eq, if◌then◌else◌, Option, Some, None, IsTrue, refl}
use Rattle.std.specs.Coded.{Coded, code_by, coded×, coded_ℕ}
use Rattle.std.specs.FinMap as map
use Rattle.std.specs.Ordering.{nat_cmp}
use Rattle.pico_base.specs.declared.reply.Errno.TheVariants.{Enoent, Eexist}
use Rattle.key_table.specs.declared.Bound.{Bound}
use Rattle.key_table.specs.declared.KeyAnswer.{KeyAnswer}
use Rattle.key_table.specs.declared.KeyAnswer.TheVariants.{Found, Create, Fail}

-- what each key is bound to
abbrev pub KeyMap : Type 0
KeyMap = map.FinMap nat_cmp Bound

abbrev pub coded_bound : Coded Bound
coded_bound = code_by (ℕ × ℕ) (coded× coded_ℕ coded_ℕ) (λ b. (b.id, b.count)) (λ p. record { id = p.0; count = p.1 })
    (λ _. refl)

-- A get by a key. An unbound key is an error unless a new thing may be created (IPC_CREAT), and a bound one
-- where it has to be created (IPC_CREAT and IPC_EXCL).
abbrev pub key_answer : Option Bound → Bool → Bool → KeyAnswer
key_answer None create excl = if create then Create else Fail Enoent
key_answer (Some b) create excl = if create && excl then Fail Eexist else Found b.id b.count

-- bound, and to this identifier
abbrev pub is_bound_to : ℕ → Option Bound → Bool
is_bound_to id None = false
is_bound_to id (Some b) = nat_eq b.id id

-- some key is bound to the identifier
abbrev pub Binds : KeyMap → ℕ → Type 0
Binds m id = (key : ℕ) × IsTrue (is_bound_to id (map.get m key))

-- the keys without those that are bound to the identifier
abbrev pub without_id : KeyMap → ℕ → KeyMap
without_id m id = map.retain_keys m (λ key. not (is_bound_to id (map.get m key)))

found : key_answer (Some (record { id = 7; count = 2 })) true false ≡ Found 7 2
found = refl

exists : key_answer (Some (record { id = 7; count = 2 })) true true ≡ Fail Eexist
exists = refl

exclusive_without_create : key_answer (Some (record { id = 7; count = 2 })) false true ≡ Found 7 2
exclusive_without_create = refl

absent : key_answer None false true ≡ Fail Enoent
absent = refl
