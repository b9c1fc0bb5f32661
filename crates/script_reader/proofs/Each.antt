-- Lists of words, and what reading each word gives.
use Rattle.std.proofs.Common.{◌≡◌, ℕ, suc, ◌+◌, ◌<◌, ◌≤◌, Bool, true, false, cond, List, [], ◌∷◌, ◌++◌, length, get_or, drop, drop-cons, Option, Some, None, refl, sym, ap, ◌∙◌, append_assoc, arith}
use Rattle.std.specs.Prelude.{option_map, option_and_then}
use Rattle.pico_base.specs.declared.signal.Sig.{Sig}
use Rattle.pico_base.specs.declared.signal.PerSignal.{PerSignal}
use Rattle.pico_base.specs.Signal.{at, put_at}
use denote.Ref.{Bor}
use Rattle.std.proofs.lemmas.List.{map_push, append-nil, drop_all}
use Rattle.script_reader.specs.Words.{texts}
use Rattle.script_reader.specs.Parts.{each, signal, signals_with}

-- one word more
pub texts-push : (words : List (Bor (List ℕ))) (word : Bor (List ℕ))
    → texts (words ++ word ∷ []) ≡ texts words ++ word.now ∷ []
texts-push words word = map_push (λ (w : Bor (List ℕ)). w.now) words word

-- one more word of those that are left
pub onto_rest : (words : List (Bor (List ℕ))) (word : Bor (List ℕ)) (more : List (Bor (List ℕ)))
    (left rest : List (List ℕ)) → more ≡ words ++ word ∷ [] → left ≡ word.now ∷ rest
    → texts more ++ rest ≡ texts words ++ left
onto_rest words word more left rest e split =
    ap (λ ws. texts ws ++ rest) e ∙ ap (λ ws. ws ++ rest) (texts-push words word)
    ∙ append_assoc (texts words) (word.now ∷ []) rest ∙ ap (λ ws. texts words ++ ws) (sym split)

-- the next word of those that are left
pub texts-next : (words : List (Bor (List ℕ))) (i : ℕ) (d : Bor (List ℕ)) → i < length words
    → texts (drop i words) ≡ (get_or words i d).now ∷ texts (drop (i + 1) words)
texts-next words i d h = let more : suc i ≡ i + 1 = omega arith in ap texts (drop-cons words i d h) ∙ rw (← more) refl

-- no word is left past the last
pub texts-none : (words : List (Bor (List ℕ))) (i : ℕ) → length words ≤ i → texts (drop i words) ≡ []
texts-none words i h = ap texts (drop_all i words h)

first_signal : (o : Option Sig) (set : PerSignal Bool) (xs : List (List ℕ))
    → option_and_then (λ g. cond (at set g) None (signals_with (put_at set g true) xs)) o
    ≡ option_and_then (λ s. signals_with s xs)
    (option_and_then (λ g. cond (at set g) None (signals_with (put_at set g true) [])) o)
unfolding signals_with
first_signal None set xs = refl
first_signal (Some g) set xs = new_of (at set g) (put_at set g true) xs
  where
    new_of : (b : Bool) (more : PerSignal Bool) (xs : List (List ℕ)) → cond b None (signals_with more xs)
        ≡ option_and_then (λ s. signals_with s xs) (cond b None (Some more))
    new_of true more xs = refl
    new_of false more xs = refl

-- the first of the names, and the others
pub signals-next : (set : PerSignal Bool) (x : List ℕ) (xs all : List (List ℕ)) (r : Option (PerSignal Bool))
    → all ≡ x ∷ xs → r ≡ signals_with set (x ∷ [])
    → option_and_then (λ s. signals_with s xs) r ≡ signals_with set all
unfolding signals_with
signals-next set x xs all r split e =
    ap (λ o. option_and_then (λ s. signals_with s xs) o) e ∙ sym (first_signal (signal x) set xs)
    ∙ ap (signals_with set) (sym split)

module _ {A B : Type 0} (f : A → Option B) where
  onto_one : (so_far : List B) (y : B) (o : Option (List B))
      → option_map (λ more. so_far ++ more) (option_map (λ ys. y ∷ ys) o)
      ≡ option_map (λ more. (so_far ++ y ∷ []) ++ more) o
  onto_one so_far y None = refl
  onto_one so_far y (Some ys) = ap Some (sym (append_assoc so_far (y ∷ []) ys))

  pub each-goes : (so_far : List B) (all rest : List A) (x : A) (y : B) → all ≡ x ∷ rest → Some y ≡ f x
      → option_map (λ more. (so_far ++ y ∷ []) ++ more) (each f rest) ≡ option_map (λ more. so_far ++ more) (each f all)
  unfolding each
  each-goes so_far all rest x y e g = rw (e, ← g) (sym (onto_one so_far y (each f rest)))

  pub each-stuck : (so_far : List B) (all rest : List A) (x : A) → all ≡ x ∷ rest → f x ≡ None
      → None ≡ option_map (λ more. so_far ++ more) (each f all)
  unfolding each
  each-stuck so_far all rest x e g = rw (e, g) refl

  pub each-done : (so_far : List B) (all : List A) → all ≡ []
      → Some so_far ≡ option_map (λ more. so_far ++ more) (each f all)
  unfolding each
  each-done so_far all e = rw e (ap Some (sym (append-nil so_far)))
