-- The names of a set's signals, one after another.
use Rattle.std.proofs.Common.{◌≡◌, ℕ, ◌+◌, ◌<◌, Bool, true, false, List, [], ◌∷◌, ◌++◌, length, map, take, get_or, refl, ap, sym, ◌∙◌, append_assoc, arith, rules}
use Rattle.std.specs.Prelude.{if◌then◌else◌, codes}
use Rattle.std.specs.List.{filter, list_any}
use Rattle.std.proofs.lemmas.List.{append-nil, take_more, get_or-map}
use Rattle.std.proofs.lemmas.List.Elements.{filter-append}
use Rattle.std.proofs.lemmas.List.Folds.{list_any_more}
use Rattle.std.proofs.lemmas.Grind.{flat_map-append, common_steps}
use Rattle.pico_base.specs.declared.signal.Sig.{Sig}
use Rattle.pico_base.specs.declared.signal.PerSignal.{PerSignal}
use Rattle.pico_base.specs.Signal.{at, all_signals}
use Rattle.kernel_model.specs.Trace.{commas, signal_name, signals_text, set_text}

-- whether a list has an element
abbrev is_filled : List Sig → Bool
is_filled [] = false
is_filled (x ∷ xs) = true

-- a name behind the others, and behind a comma where there are others
joined-more : (xs : List Sig) (x : Sig) (b : Bool) → b ≡ is_filled xs
    → commas signal_name (xs ++ x ∷ []) ≡ commas signal_name xs ++ ((if b then 44 ∷ [] else []) ++ signal_name x)
joined-more [] x b e = rw e (append-nil (signal_name x))
joined-more (y ∷ ys) x b e =
    rw e (search (rules, append_assoc, append-nil, flat_map-append (λ s. 44 ∷ signal_name s) ys (x ∷ [])))

-- a set has a member among these where it keeps one of them
any-filled : (p : Sig → Bool) (xs : List Sig) → list_any p xs ≡ is_filled (filter p xs)
any-filled p [] = refl
any-filled p (x ∷ xs) = grind (arith, common_steps, any-filled p xs)

-- a mark of one of these says whether it is a member
pub member-marked : (p : Sig → Bool) (marks : List Bool) (xs : List Sig) (i : ℕ) (d : Sig) (e b : Bool)
    → i < length xs → marks ≡ map p xs → get_or marks i e ≡ b → p (get_or xs i d) ≡ b
member-marked p marks xs i d e b within are is =
    sym (get_or-map p xs i d e within) ∙ ap (λ ms. get_or ms i e) (sym are) ∙ is

module _ (p : Sig → Bool) (xs : List Sig) (i : ℕ) (d : Sig) (within : i < length xs) where
  kept-more : filter p (take (i + 1) xs) ≡ filter p (take i xs) ++ filter p (get_or xs i d ∷ [])
  kept-more = ap (filter p) (take_more xs i d within) ∙ filter-append p (take i xs) (get_or xs i d ∷ [])

  kept-member : p (get_or xs i d) ≡ true → filter p (take (i + 1) xs) ≡ filter p (take i xs) ++ get_or xs i d ∷ []
  kept-member h = kept-more ∙ ap (λ t. filter p (take i xs) ++ t) (rw h refl)

  -- where the next one is a member, its name follows the others
  pub names-grow : (b : Bool) → b ≡ list_any p (take i xs) → p (get_or xs i d) ≡ true
      → commas signal_name (filter p (take (i + 1) xs))
      ≡ commas signal_name (filter p (take i xs)) ++ ((if b then 44 ∷ [] else []) ++ signal_name (get_or xs i d))
  names-grow b e h =
      rw (kept-member h) (joined-more (filter p (take i xs)) (get_or xs i d) b (e ∙ any-filled p (take i xs)))

  -- where it is none, the members stay the same
  pub members-stay : p (get_or xs i d) ≡ false → filter p (take (i + 1) xs) ≡ filter p (take i xs)
  members-stay h = kept-more ∙ ap (λ t. filter p (take i xs) ++ t) (rw h refl) ∙ append-nil (filter p (take i xs))

  -- where the next one is a member, there are some
  pub some-begun : p (get_or xs i d) ≡ true → true ≡ list_any p (take (i + 1) xs)
  some-begun h = grind (arith, common_steps, list_any_more p xs i d within, h)

  -- where it is none, there are some where there were
  pub some-stay : p (get_or xs i d) ≡ false → list_any p (take (i + 1) xs) ≡ list_any p (take i xs)
  some-stay h = grind (arith, common_steps, list_any_more p xs i d within, h)

some-text : (xs : List Sig) → true ≡ is_filled xs → signals_text xs ≡ commas signal_name xs
some-text (x ∷ xs) h = refl
some-text [] h = grind (arith, h)

none-text : (xs : List Sig) → false ≡ is_filled xs → commas signal_name xs ++ codes "none" ≡ signals_text xs
none-text [] h = refl
none-text (x ∷ xs) h = grind (arith, h)

-- a set that has a member is printed as its members' names
pub set_text-of_names : (set : PerSignal Bool) → true ≡ list_any (at set) all_signals
    → set_text set ≡ commas signal_name (filter (at set) all_signals)
unfolding set_text
set_text-of_names set h = some-text (filter (at set) all_signals) (h ∙ any-filled (at set) all_signals)

-- a set that has none is printed as `none`, behind no name
pub set_text-of_none : (set : PerSignal Bool) → false ≡ list_any (at set) all_signals
    → commas signal_name (filter (at set) all_signals) ++ codes "none" ≡ set_text set
unfolding set_text
set_text-of_none set h = none-text (filter (at set) all_signals) (h ∙ any-filled (at set) all_signals)
