-- Lines that a first byte shows not to be `proc NAME`.
use Rattle.std.proofs.Common.{◌≡◌, ℕ, Bool, true, false, ◌||◌, eqb, List, [], ◌∷◌, None, refl, sym, ◌∙◌, true≢false}
use Rattle.std.specs.List.{onto_first}
use Rattle.script_reader.specs.Words.{is_blank, words_in, entering}
use Rattle.script_reader.specs.Says.{opened_by, opening_at}

not_proc : (b : ℕ) (words : List (List ℕ)) → eqb b 112 ≡ false → opened_by (onto_first b words) ≡ None
unfolding opened_by
not_proc b [] e = refl
not_proc b (w ∷ []) e = refl
not_proc b (w ∷ n ∷ []) e = rw e refl
not_proc b (w ∷ n ∷ m ∷ words) e = refl

opens_not : (b : ℕ) (bytes : List ℕ) (other solid : Bool) → eqb b 112 ≡ other → is_blank b ≡ solid
    → (other || solid) ≡ false → opening_at (b ∷ bytes) ≡ None
unfolding words_in
opens_not b bytes false false e s h = rw s (not_proc b (words_in (entering b) bytes) e)
opens_not b bytes false true e s h = absurd (true≢false h)
opens_not b bytes true solid e s h = absurd (true≢false h)

-- the first byte is neither blank nor that of `proc`
pub opens_otherwise : (line : List ℕ) (b : ℕ) (bytes : List ℕ) (may : Bool) → line ≡ b ∷ bytes
    → may ≡ (eqb b 112 || is_blank b) → may ≡ false → opening_at line ≡ None
opens_otherwise line b bytes may is e none =
    rw is (opens_not b bytes (eqb b 112) (is_blank b) refl refl (sym e ∙ none))
