-- Options that are something, or nothing.
use Rattle.std.proofs.Common.{◌≡◌, Option, Some, None}

-- what is something isn't nothing
pub some-isnt-none : {A B : Type 0} (a : A) (o : Option A) → o ≡ Some a → o ≡ None → B
some-isnt-none a o h g = cc

-- the same the other way round, of values
pub not-none : {A B : Type 0} (a : A) → Some a ≡ None → B
not-none a h = cc

-- nothing isn't something
pub not-some : {A B : Type 0} (a : A) → None ≡ Some a → B
not-some a h = cc

-- what is something is one
pub same-some : {A : Type 0} (a b : A) → Some a ≡ Some b → a ≡ b
same-some a b h = cc
