-- Options, tests and effects in general.
use Rattle.std.proofs.Common.{◌≡◌, Bool, true, false, Option, Some, None, Result, Ok, Err, refl, subst}
use Rattle.std.specs.Prelude.{if◌then◌else◌}
use Rattle.std.specs.Option.{option_and_then, option_map}

-- a value that is there is one
pub from_some : {A : Type 0} (a b : A) → Some a ≡ Some b → a ≡ b
from_some a b h = cc

-- nothing isn't something
pub not_some : {A B : Type 0} (a : A) → None ≡ Some a → B
not_some a h = cc

-- something isn't nothing
pub not_none : {A B : Type 0} (a : A) → Some a ≡ None → B
not_none a h = cc

-- false isn't true
pub not_true : {B : Type 0} → false ≡ true → B
not_true h = cc

-- true isn't false
pub not_false : {B : Type 0} → true ≡ false → B
not_false h = cc

-- a result is one
pub from_ok : {A E : Type 0} (a b : A) → (let x : Result A E = Ok a in let y : Result A E = Ok b in x ≡ y) → a ≡ b
from_ok a b h = cc

-- an error isn't a result
pub not_ok : {A E B : Type 0} (e : E) (a : A) → (let x : Result A E = Err e in let y : Result A E = Ok a in x ≡ y) → B
not_ok e a h = cc

-- what holds of the value, if there is one
abbrev pub Of : {A : Type 0} → (A → Type 0) → Option A → Type 0
Of P None = Unit {0}
Of P (Some a) = P a

-- what holds of both branches holds of the choice
pub of_choice : {A : Type 0} (P : A → Type 0) (b : Bool) (x y : Option A) → Of P x → Of P y → Of P (if b then x else y)
of_choice P true x y h g = h
of_choice P false x y h g = g

-- the same for a value itself, with what the test says
pub by_test : {A : Type 0} (P : A → Type 0) (b : Bool) (x y : A) → (b ≡ true → P x) → (b ≡ false → P y)
    → P (if b then x else y)
by_test P true x y h g = h refl
by_test P false x y h g = g refl

-- what comes of an option, where each thing that it may have leads to what holds
pub of-next : {A B : Type 0} (P : B → Type 0) (o : Option A) (f : A → Option B) → ((x : A) → o ≡ Some x → Of P (f x))
    → Of P (option_and_then f o)
of-next P None f h = tt
of-next P (Some x) f h = h x refl

-- the same of a map
pub of-map : {A B : Type 0} (P : B → Type 0) (o : Option A) (f : A → B) → ((x : A) → o ≡ Some x → P (f x))
    → Of P (option_map f o)
of-map P None f h = tt
of-map P (Some x) f h = h x refl

-- the same of a test
pub of-test : {A : Type 0} (P : A → Type 0) (b : Bool) (o : Option A) → (b ≡ true → Of P o)
    → Of P (if b then o else None)
of-test P true o h = h refl
of-test P false o h = tt

-- and what holds of an option holds of what it has
pub of-some : {A : Type 0} (P : A → Type 0) (o : Option A) (x : A) → Of P o → o ≡ Some x → P x
of-some P None x h is = not_some x is
of-some P (Some y) x h is = subst P (from_some y x is) h

-- a test whose option has something passed
pub if-some : {A : Type 0} (b : Bool) (o : Option A) (x : A) → (if b then o else None) ≡ Some x
    → (b ≡ true) × (o ≡ Some x)
if-some true o x h = (refl, h)
if-some false o x h = not_some x h
