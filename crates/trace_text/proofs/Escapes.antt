-- Texts with no byte to escape.
use Rattle.std.proofs.Common.{◌≡◌, ℕ, true, List, [], ◌∷◌, refl}
use Rattle.std.specs.List.{flat_map, list_all}
use Rattle.std.proofs.lemmas.Bool.{and_parts}
use Rattle.kernel_model.specs.Texts.{escape, is_plain}

-- plain bytes are spelled as they are
pub plain_text : (text : List ℕ) → list_all is_plain text ≡ true → flat_map escape text ≡ text
plain_text [] h = refl
plain_text (b ∷ bs) h =
    let p = and_parts (is_plain b) (list_all is_plain bs) h in rw (p.0, plain_text bs p.1) refl
