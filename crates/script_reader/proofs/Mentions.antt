-- Names that are looked at through a function.
use Rattle.std.proofs.Common.{◌≡◌, ℕ, Bool, true, false, ◌||◌, cond, List, [], ◌∷◌, ◌++◌, map, refl, ap, ◌∙◌}
use Rattle.std.specs.Prelude.{position, bytes_eq}
use Rattle.std.specs.List.{list_any, position_or_len}
use Rattle.std.proofs.lemmas.List.{length-map, map_push}
use Rattle.script_reader.specs.Says.{with_name}

position_or_len-map : {A B : Type 0} (f : A → B) (p : B → Bool) (xs : List A)
    → position_or_len p (map f xs) ≡ position_or_len (λ x. p (f x)) xs
position_or_len-map f p [] = refl
position_or_len-map f p (x ∷ xs) = rw (position_or_len-map f p xs) refl

-- a place is found through a function
pub position-map : {A B : Type 0} (f : A → B) (p : B → Bool) (xs : List A) (ys : List B) → map f xs ≡ ys
    → position (λ x. p (f x)) xs ≡ position p ys
position-map f p xs ys e = rw (← e, position_or_len-map f p xs, length-map xs f) refl

list_any-map : {A B : Type 0} (f : A → B) (p : B → Bool) (xs : List A)
    → list_any (λ x. p (f x)) xs ≡ list_any p (map f xs)
list_any-map f p [] = refl
list_any-map f p (x ∷ xs) = ap (λ b. p (f x) || b) (list_any-map f p xs)

map-with : {A B : Type 0} (f : A → B) (b : Bool) (xs : List A) (y : A)
    → map f (cond b xs (xs ++ y ∷ [])) ≡ cond b (map f xs) (map f xs ++ f y ∷ [])
map-with f true xs y = refl
map-with f false xs y = map_push f xs y

-- a name that is added where it isn't there
pub named : {A : Type 0} (f : A → List ℕ) (keys new : List A) (key : A) (names : List (List ℕ)) (name : List ℕ)
    → new ≡ cond (list_any (λ k. bytes_eq (f key) (f k)) keys) keys (keys ++ key ∷ []) → map f keys ≡ names
    → f key ≡ name → map f new ≡ with_name names name
named f keys new key names name e is same =
    ap (map f) e ∙ map-with f (list_any (λ k. bytes_eq (f key) (f k)) keys) keys key
    ∙ rw (list_any-map f (bytes_eq (f key)) keys, is, same) refl
