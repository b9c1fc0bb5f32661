-- What is read of words is within its range.
use Rattle.std.proofs.Common.{◌≡◌, ℕ, ◌+◌, ◌-◌, ◌*◌, ◌^◌, ◌<◌, ◌≤◌, ℤ, pos, negsuc, Bool, true, false, ◌&&◌, cond, eqb, leb, List, [], ◌∷◌, Option, Some, None, refl, arith}
use Rattle.std.specs.Prelude.{IfSome, option_map, codes, is_some}
use Rattle.std.proofs.lemmas.Bool.{and_parts, and_from, leb-true, le-leb, eqb-false}
use Rattle.pico_base.specs.Options.{◌>>=◌}
use Rattle.kernel_model.specs.Script as model
use Rattle.quoted_bytes.specs.Front.{strip}
use Rattle.script_reader.specs.Parts as parts
use Rattle.script_reader.specs.Parts.{digits, number, positive, signed, variable, each, step, added, cut}
use Rattle.script_reader.specs.Forms.{Object, FromCall, identifier, process, child, Child}

-- ---- options

-- what holds of a value, if there is one, passes through a step
pub if_bind : {A B : Type 0} (o : Option A) (f : A → Option B) (P : A → Type 0) (Q : B → Type 0) → IfSome o P
    → ((x : A) → P x → IfSome (f x) Q) → IfSome (o >>= f) Q
if_bind None f P Q h g = tt
if_bind (Some x) f P Q h g = g x h

-- it passes through a function
pub if_map : {A B : Type 0} (o : Option A) (f : A → B) (P : A → Type 0) (Q : B → Type 0) → IfSome o P
    → ((x : A) → P x → Q (f x)) → IfSome (option_map f o) Q
if_map None f P Q h g = tt
if_map (Some x) f P Q h g = g x h

-- it passes through a test
pub if_cond : {A : Type 0} (b : Bool) (x y : Option A) (Q : A → Type 0) → (b ≡ true → IfSome x Q)
    → (b ≡ false → IfSome y Q) → IfSome (cond b x y) Q
if_cond true x y Q f g = f refl
if_cond false x y Q f g = g refl

-- nothing is asked
abbrev pub Anything : {A : Type 0} → A → Type 0
Anything x = Unit {0}

-- and that always holds
pub anything : {A : Type 0} (o : Option A) → IfSome o Anything
anything None = tt
anything (Some x) = tt

-- ---- numbers

digits_small : (limit value : ℕ) (w : List ℕ) → value ≤ limit → IfSome (digits limit value w) (λ n. n ≤ limit)
unfolding digits
digits_small limit value [] h = h
digits_small limit value (b ∷ w) h =
    if_cond (parts.is_digit b && leb (value * 10 + (b - 48)) limit) (digits limit (value * 10 + (b - 48)) w) None
    (λ n. n ≤ limit)
    (λ t. digits_small limit (value * 10 + (b - 48)) w
    (leb-true (value * 10 + (b - 48)) limit (and_parts (parts.is_digit b) (leb (value * 10 + (b - 48)) limit) t).1))
    (λ _. tt)

-- a number is at most its limit
pub number_small : (limit : ℕ) (w : List ℕ) → IfSome (number limit w) (λ n. n ≤ limit)
unfolding number
number_small limit [] = tt
number_small limit (b ∷ []) = digits_small limit 0 (b ∷ []) (omega arith)
number_small limit (b ∷ c ∷ w) =
    if_cond (eqb b 48) None (digits limit 0 (b ∷ c ∷ w)) (λ n. n ≤ limit) (λ _. tt)
    (λ _. digits_small limit 0 (b ∷ c ∷ w) (omega arith))

-- a positive number is between 1 and its limit
pub positive_small : (limit : ℕ) (w : List ℕ) → IfSome (positive limit w) (λ n. (1 ≤ n) × (n ≤ limit))
unfolding positive
positive_small limit w =
    if_bind (number limit w) (λ n. cond (eqb n 0) None (Some n)) (λ n. n ≤ limit) (λ n. (1 ≤ n) × (n ≤ limit))
    (number_small limit w)
    (λ n h. if_cond (eqb n 0) None (Some n) (λ n. (1 ≤ n) × (n ≤ limit)) (λ _. tt)
    (λ t. (omega (arith, eqb-false n 0 t), h)))

-- a number whose size is at most the limit
abbrev pub IsWithin : ℕ → ℤ → Type 0
IsWithin limit (pos n) = n ≤ limit
IsWithin limit (negsuc n) = n + 1 ≤ limit

signed_from_small : (limit : ℕ) (o : Option (List ℕ)) (w : List ℕ)
    → IfSome (parts.signed_from limit o w) (IsWithin limit)
signed_from_small limit None w =
    if_map (number limit w) pos (λ n. n ≤ limit) (IsWithin limit) (number_small limit w) (λ n h. h)
signed_from_small limit (Some d) w =
    if_map (positive limit d) (λ n. negsuc (n - 1)) (λ n. (1 ≤ n) × (n ≤ limit)) (IsWithin limit)
    (positive_small limit d) (λ n h. omega (arith, h.0, h.1))

-- a signed number is within its limit
pub signed_small : (limit : ℕ) (w : List ℕ) → IfSome (signed limit w) (IsWithin limit)
unfolding signed
signed_small limit w = signed_from_small limit (strip (codes "-") w) w

-- a type of a message is within its range
pub is_type_from : (z : ℤ) → IsWithin 2147483647 z → model.is_type z ≡ true
is_type_from (pos n) h = le-leb n 2147483647 h
is_type_from (negsuc n) h = and_from (leb n 2147483646) true (le-leb n 2147483646 (omega (arith, h))) refl

-- ---- variables and objects

letter_small : (b : ℕ) → parts.is_lowercase b ≡ true → b - 97 ≤ 25
letter_small b e = omega (arith, leb-true b 122 (and_parts (leb 97 b) (leb b 122) e).1)

digit_small : (b : ℕ) → parts.is_digit b ≡ true → b - 48 ≤ 9
digit_small b e = omega (arith, leb-true b 57 (and_parts (leb 48 b) (leb b 57) e).1)

-- a variable has an index of at most 2,885
pub variable_small : (w : List ℕ) → IfSome (variable w) (λ v. v ≤ 2885)
unfolding variable
variable_small [] = tt
variable_small (l ∷ []) =
    if_cond (parts.is_lowercase l) (Some (parts.letter_index l)) None (λ v. v ≤ 2885)
    (λ t. omega (arith, letter_small l t)) (λ _. tt)
variable_small (l ∷ d ∷ []) =
    if_cond (parts.is_lowercase l && parts.is_digit d) (Some (parts.letter_index l + (1 + (d - 48)))) None
    (λ v. v ≤ 2885)
    (λ t. let p = and_parts (parts.is_lowercase l) (parts.is_digit d) t in
    omega (arith, letter_small l p.0, digit_small d p.1)) (λ _. tt)
variable_small (l ∷ d ∷ e ∷ []) =
    if_cond (parts.is_lowercase l && (parts.is_digit d && parts.is_digit e))
    (Some (parts.letter_index l + (11 + (10 * (d - 48) + (e - 48))))) None (λ v. v ≤ 2885)
    (λ t. let p = and_parts (parts.is_lowercase l) (parts.is_digit d && parts.is_digit e) t in let q =
    and_parts (parts.is_digit d) (parts.is_digit e) p.1 in
    omega (arith, letter_small l p.0, digit_small d q.0, digit_small e q.1)) (λ _. tt)
variable_small (l ∷ d ∷ e ∷ f ∷ w) = tt

pub record IsObject (o : Object) : Type 0 where
  pub small : o.1 < 2 ^ 32
  pub variable : model.is_variable o.0 ≡ true

-- a process that no variable names isn't 0
pub record IsProcess (o : Object) : Type 0 where
  pub object : IsObject o
  pub some : is_some o.0 ≡ false → 1 ≤ o.1

as_u32 : (n : ℕ) → n ≤ 4294967295 → n < 2 ^ 32
as_u32 n h = omega (arith, h)

variable_object : (v : ℕ) → v ≤ 2885 → IsObject (Some v, 0)
variable_object v h = record { small = omega arith; variable = le-leb v 2885 h }

identifier_from : (o : Option (List ℕ)) (w : List ℕ)
    → IfSome (Rattle.script_reader.specs.Forms.identifier_from o w) IsObject
identifier_from (Some name) w =
    if_map (variable name) (λ v. (Some v, 0)) (λ v. v ≤ 2885) IsObject (variable_small name) variable_object
identifier_from None w =
    if_map (number 4294967295 w) (λ n. (None, n)) (λ n. n ≤ 4294967295) IsObject (number_small 4294967295 w)
    (λ n h. record { small = as_u32 n h; variable = refl })

-- an identifier is a u32, or a variable
pub identifier_small : (w : List ℕ) → IfSome (identifier w) IsObject
unfolding identifier
identifier_small w = identifier_from (strip (codes "$") w) w

process_from : (o : Option (List ℕ)) (w : List ℕ) → IfSome (Rattle.script_reader.specs.Forms.process_from o w) IsProcess
process_from (Some name) w =
    if_map (variable name) (λ v. (Some v, 0)) (λ v. v ≤ 2885) IsProcess (variable_small name)
    (λ v h. record { object = variable_object v h; some = λ e. cc })
process_from None w =
    if_map (positive 4294967295 w) (λ n. (None, n)) (λ n. (1 ≤ n) × (n ≤ 4294967295)) IsProcess
    (positive_small 4294967295 w)
    (λ n h. record { object = record { small = as_u32 n h.1; variable = refl }; some = λ e. h.0 })

-- a process number is a u32 of at least 1, or a variable
pub process_small : (w : List ℕ) → IfSome (process w) IsProcess
unfolding process
process_small w = process_from (strip (codes "$") w) w
