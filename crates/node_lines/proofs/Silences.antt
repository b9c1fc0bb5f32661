-- Looks that found nothing: a line after so many of them, and all lines.
use Rattle.std.proofs.Common.{◌≡◌, ℕ, zero, suc, Bool, true, List, [], ◌∷◌, map, refl, sym, ap, ◌∙◌}
use Rattle.stream_pair.specs.Ends.{Taking, after_looks}
use Rattle.log_model.specs.declared.found.Found.TheVariants.{Nothing}
use Rattle.log_model.specs.Views.{Line}
use Rattle.log_model.specs.Looks.{Looks, Went, after_nothing}
use Rattle.node_lines.specs.Lines.{after_silence, after_silences}

-- the end of a stream after so many looks that found nothing
abbrev pub looked : ℕ → Taking → Taking
looked looks into = record into { looks = after_looks looks into.looks }

-- what the end says of itself then
pub looked-so : (looks : ℕ) (old new : Taking) → new.stream ≡ old.stream → new.taken ≡ old.taken
    → new.told ≡ old.told → new.looks ≡ after_looks looks old.looks → new ≡ looked looks old
looked-so looks old new stream taken told is =
    λ i. record { stream = stream i; taken = taken i; told = told i; looks = is i }

-- what the end notes is what the line comes to
pub after_silence-is : (looks : ℕ) (line : Line)
    → record line { into = looked looks line.into } ≡ after_silence looks line
after_silence-is zero line = refl
after_silence-is (suc looks) line = ap after_nothing (after_silence-is looks line)

silences-none : (looks : ℕ) → after_silences looks [] ≡ []
silences-none zero = refl
silences-none (suc looks) = ap (map after_nothing) (silences-none looks)

silences-first : (looks : ℕ) (line : Line) (lines : List Line)
    → after_silence looks line ∷ after_silences looks lines ≡ after_silences looks (line ∷ lines)
silences-first zero line lines = refl
silences-first (suc looks) line lines = ap (map after_nothing) (silences-first looks line lines)

-- each line has so many looks more
pub silences-each : (looks : ℕ) (lines : List Line) → map (after_silence looks) lines ≡ after_silences looks lines
silences-each looks [] = sym (silences-none looks)
silences-each looks (line ∷ lines) =
    ap (λ ls. after_silence looks line ∷ ls) (silences-each looks lines) ∙ silences-first looks line lines

-- one look at each of all lines found nothing on any of them
pub Looks-silence : (may : ℕ → Bool) (lines : List Line) → ((other : ℕ) → may other ≡ true)
    → Looks may lines Nothing (map after_nothing lines)
Looks-silence may [] each = refl
Looks-silence may (line ∷ lines) each =
    Went Nothing Nothing (each line.other) refl refl (Looks-silence may lines each) refl
