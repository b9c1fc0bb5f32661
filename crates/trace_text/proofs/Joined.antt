-- Values and sets of signals, where what follows begins with no comma. Behind them may stand a blank or nothing: the
-- reply of a caller that is woken may end the line.
use Rattle.std.proofs.Common.{◌≡◌, ℕ, ◌≤◌, Bool, true, false, List, [], ◌∷◌, ◌++◌, length, Option, Some, None, refl, sym, ap, ◌∙◌, append_assoc, arith}
use Rattle.std.specs.Prelude.{codes, decimal, fold}
use Rattle.std.specs.List.{AllByRecursion, flat_map, filter}
use Rattle.std.proofs.lemmas.Option.{same_Some}
use Rattle.pico_base.specs.declared.signal.Sig.{Sig}
use Rattle.pico_base.specs.declared.signal.Sig.TheVariants.{Hup, Int, Quit, Kill, Usr1, Usr2, Pipe, Alrm, Term, Chld}
use Rattle.pico_base.specs.declared.signal.PerSignal.{PerSignal}
use Rattle.pico_base.specs.Signal.{at, put_at, everywhere, all_signals}
use Rattle.kernel_model.specs.Trace.{commas, signal_name, signals_text, set_text, values_text}
use Rattle.quoted_bytes.proofs.Strips.{strip_again}
use Rattle.quoted_bytes.specs.Front.{strip}
use Rattle.text_fields.specs.Fields.{digit_at, number_at, signal_at, all_at, behind_comma, joined_at, values_at, set_at}
use Rattle.text_fields.proofs.Many.{many-again, parts-room}
use Rattle.text_fields.proofs.Numerals.{front_number_again}
use Rattle.text_fields.proofs.Sets.{signal_again, set_again}

-- no comma follows
abbrev pub IsNoComma : List ℕ → Type 0
IsNoComma rest = strip (codes ",") rest ≡ None

module _ {A : Type 0} (reader : List ℕ → Option (A × List ℕ)) (text : A → List ℕ) (P : A → Type 0)
    (Stops : List ℕ → Type 0) where
  abbrev more_text : A → List ℕ
  more_text x = 44 ∷ text x

  behind-again : (x : A) (more : List ℕ) → reader (text x ++ more) ≡ Some (x, more)
      → behind_comma reader (more_text x ++ more) ≡ Some (x, more)
  behind-again x more again = rw (strip_again (codes ",") (text x ++ more)) again

  nothing-more : (rest : List ℕ) → IsNoComma rest → behind_comma reader rest ≡ None
  nothing-more rest none = rw none refl

  -- parts joined by commas are read as these parts
  joined-again : (x : A) (xs : List A) (rest : List ℕ)
      → ((y : A) (more : List ℕ) → P y → Stops more → reader (text y ++ more) ≡ Some (y, more))
      → ((ys : List A) → Stops (flat_map more_text ys ++ rest)) → IsNoComma rest → AllByRecursion P (x ∷ xs)
      → joined_at reader (commas text (x ∷ xs) ++ rest) ≡ Some (x ∷ xs, rest)
  joined-again x xs rest again stops none h =
      let bytes : List ℕ = flat_map more_text xs ++ rest in
      let front : commas text (x ∷ xs) ++ rest ≡ text x ++ bytes =
      append_assoc (text x) (flat_map more_text xs) rest in
      let room : length xs ≤ length bytes =
      parts-room (behind_comma reader) more_text P Stops xs rest (λ y _. omega arith) h.1 in
      let all : all_at (behind_comma reader) bytes ≡ (xs, rest) =
      many-again (behind_comma reader) more_text P Stops (length bytes) xs rest
      (λ y more p s. behind-again y more (again y more p s)) stops (nothing-more rest none) h.1 room in
      rw (front, again x bytes h.0 (stops xs), all) refl

-- ---- values

ends-digits : (ns rest : List ℕ) → digit_at rest ≡ None → digit_at (flat_map (λ n. 44 ∷ decimal n) ns ++ rest) ≡ None
unfolding digit_at
ends-digits [] rest ends = ends
ends-digits (n ∷ ns) rest ends = refl

-- the spelling of values up to the limit is read as these values, where neither a digit nor a comma follows
pub values-again : (limit : ℕ) → limit ≤ 4294967295 → (n : ℕ) (ns rest : List ℕ) → digit_at rest ≡ None
    → IsNoComma rest → AllByRecursion (λ m. m ≤ limit) (n ∷ ns)
    → values_at limit (values_text (n ∷ ns) ++ rest) ≡ Some (n ∷ ns, rest)
unfolding values_at
values-again limit bound n ns rest ends none h =
    joined-again (number_at limit) decimal (λ m. m ≤ limit) (λ more. digit_at more ≡ None) n ns rest
    (λ m more small stops. front_number_again limit m more small bound stops) (λ ms. ends-digits ms rest ends) none h

-- ---- sets of signals

abbrev IsAny : Sig → Type 0
IsAny g = Unit {0}

abbrev Anything : List ℕ → Type 0
Anything rest = Unit {0}

any-of : (gs : List Sig) → AllByRecursion IsAny gs
any-of [] = tt
any-of (g ∷ gs) = (tt, any-of gs)

-- no signal's name begins like `none`
not-none : (g : Sig) (rest : List ℕ) → strip (codes "none") (signal_name g ++ rest) ≡ None
unfolding strip
not-none Hup rest = refl
not-none Int rest = refl
not-none Quit rest = refl
not-none Kill rest = refl
not-none Usr1 rest = refl
not-none Usr2 rest = refl
not-none Pipe rest = refl
not-none Alrm rest = refl
not-none Term rest = refl
not-none Chld rest = refl

-- the set that reading makes of these signals
abbrev set_of : List Sig → PerSignal Bool
set_of gs = fold (λ so_far g. put_at so_far g true) (everywhere false) gs

signals-again : (gs : List Sig) (rest : List ℕ) → IsNoComma rest
    → set_at (signals_text gs ++ rest) ≡ Some (set_of gs, rest)
unfolding set_at
signals-again [] rest none = rw (strip_again (codes "none") rest) refl
signals-again (g ∷ gs) rest none =
    let other : strip (codes "none") (signals_text (g ∷ gs) ++ rest) ≡ None =
    ap (strip (codes "none")) (append_assoc (signal_name g) (flat_map (λ y. 44 ∷ signal_name y) gs) rest)
    ∙ not-none g (flat_map (λ y. 44 ∷ signal_name y) gs ++ rest) in
    let joined = joined-again signal_at signal_name IsAny Anything g gs rest (λ y more _ _. signal_again y more)
    (λ _. tt) none (any-of (g ∷ gs)) in
    rw (other, joined) refl

blank-is-no-comma : IsNoComma (32 ∷ [])
unfolding strip
blank-is-no-comma = refl

-- a set's spelling is read as that set, where no comma follows
pub set-again : (s : PerSignal Bool) (rest : List ℕ) → IsNoComma rest → set_at (set_text s ++ rest) ≡ Some (s, rest)
unfolding set_text
set-again s rest none =
    let gs : List Sig = filter (at s) all_signals in
    let at_blank : Some (set_of gs, 32 ∷ []) ≡ Some (s, 32 ∷ []) =
    sym (signals-again gs (32 ∷ []) blank-is-no-comma) ∙ set_again s [] in
    let same : set_of gs ≡ s =
    ap (λ (q : PerSignal Bool × List ℕ). q.0) (same_Some (set_of gs, 32 ∷ []) (s, 32 ∷ []) at_blank) in
    signals-again gs rest none ∙ ap (λ (x : PerSignal Bool). Some (x, rest)) same
