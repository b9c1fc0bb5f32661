-- The three kinds of names, and maps from names.
use Rattle.std.specs.Prelude.{ℕ, Bool, true, false, ◌&&◌, nat_eq, List, [], fold, Option}
use Rattle.pico_base.specs.declared.numbers.Kind.{Kind}
use Rattle.pico_base.specs.declared.numbers.Kind.TheVariants as kinds
use Rattle.pico_base.specs.declared.numbers.Name.{Name}
use Rattle.pico_base.specs.declared.numbers.Name.TheVariants as names
use Rattle.number_maps.specs.Maps.{Numbered, get, put, without}

-- a name is a kind and a number, and number 0 names nothing
abbrev pub kind_of : Name → Kind
kind_of (names.Proc pid) = kinds.Proc
kind_of (names.Msg id) = kinds.Msg
kind_of (names.Sem id) = kinds.Sem

abbrev pub number_of : Name → ℕ
number_of (names.Proc pid) = pid
number_of (names.Msg id) = id
number_of (names.Sem id) = id

abbrev pub name_of : Kind → ℕ → Name
name_of kinds.Proc number = names.Proc number
name_of kinds.Msg number = names.Msg number
name_of kinds.Sem number = names.Sem number

abbrev pub is_same_kind : Kind → Kind → Bool
is_same_kind kinds.Proc kinds.Proc = true
is_same_kind kinds.Msg kinds.Msg = true
is_same_kind kinds.Sem kinds.Sem = true
is_same_kind _ _ = false

abbrev pub is_same_name : Name → Name → Bool
is_same_name a b = is_same_kind (kind_of a) (kind_of b) && nat_eq (number_of a) (number_of b)

-- a message queue or a semaphore set
abbrev pub is_object : Name → Bool
is_object (names.Proc pid) = false
is_object (names.Msg id) = true
is_object (names.Sem id) = true

-- a value for each kind
pub record PerKind (A : Type 0) : Type 0 where
  pub processes : A
  pub queues : A
  pub sets : A

abbrev pub for_kind : {A : Type 0} → PerKind A → Kind → A
for_kind m kinds.Proc = m.processes
for_kind m kinds.Msg = m.queues
for_kind m kinds.Sem = m.sets

abbrev pub with_kind : {A : Type 0} → PerKind A → Kind → A → PerKind A
with_kind m kinds.Proc x = record m { processes = x }
with_kind m kinds.Msg x = record m { queues = x }
with_kind m kinds.Sem x = record m { sets = x }

abbrev pub for_all_kinds : {A : Type 0} → A → PerKind A
for_all_kinds x = record { processes = x; queues = x; sets = x }

-- a finite map from names: one from numbers for each kind
abbrev pub Named : Type 0 → Type 0
Named V = PerKind (Numbered V)

abbrev pub none_named : {V : Type 0} → Named V
none_named = for_all_kinds []

abbrev pub get_named : {V : Type 0} → Named V → Name → Option V
get_named m name = get (for_kind m (kind_of name)) (number_of name)

abbrev pub put_named : {V : Type 0} → Named V → Name → V → Named V
put_named m name v = with_kind m (kind_of name) (put (for_kind m (kind_of name)) (number_of name) v)

abbrev pub without_named : {V : Type 0} → Named V → Name → Named V
without_named m name = with_kind m (kind_of name) (without (for_kind m (kind_of name)) (number_of name))

-- the map with these values
abbrev pub put_pair : {V : Type 0} → Named V → Name × V → Named V
put_pair m pair = put_named m pair.0 pair.1

abbrev pub put_all : {V : Type 0} → Named V → List (Name × V) → Named V
put_all m pairs = fold put_pair m pairs
