-- What is on its way is played: a frame is taken from the head, or sent to the tail.
use Rattle.std.proofs.Common.{◌≡◌, List, [], ◌∷◌, ◌++◌, Option, Some, None, refl, ap, sym, ◌∙◌, append_assoc}
use Rattle.std.specs.List.{flat_map}
use Rattle.world_laws.specs.Plays.{Hold, PlayStep, play_step, play_on}

-- nothing goes on where a frame didn't find what it needed
pub play-none : (ss : List PlayStep) → play_on ss None ≡ None
play-none [] = refl
play-none (s ∷ ss) = refl

-- first what is there, then what comes behind it
pub play-append : (ss ts : List PlayStep) (hold : Option Hold) → play_on (ss ++ ts) hold ≡ play_on ts (play_on ss hold)
play-append [] ts hold = refl
play-append (s ∷ ss) [] None = refl
play-append (s ∷ ss) (t ∷ ts) None = refl
play-append (s ∷ ss) ts (Some hold) = play-append ss ts (play_step hold s)

-- a map that makes lists, over two lists one behind the other
pub flat_map-append : {A B : Type 0} (f : A → List B) (xs ys : List A)
    → flat_map f (xs ++ ys) ≡ flat_map f xs ++ flat_map f ys
flat_map-append f [] ys = refl
flat_map-append f (x ∷ xs) ys =
    ap (λ zs. f x ++ zs) (flat_map-append f xs ys) ∙ sym (append_assoc (f x) (flat_map f xs) (flat_map f ys))
