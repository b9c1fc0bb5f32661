-- Pieces that follow one another.
use Rattle.std.proofs.Common.{◌≡◌, ℕ, ◌+◌, ◌-◌, ◌++◌, List, length, take, drop, refl, sym, ap, ◌∙◌, append_assoc, length-drop, Option, Some, None}
use Rattle.std.proofs.Math.Seq.{take-add, take-length}
use Rattle.host_iface.specs.Told.{followed_by}

-- the bytes from n on, as a slice names them
rest_slice : (bytes : List ℕ) (n : ℕ) → take (length bytes - n) (drop n bytes) ≡ drop n bytes
rest_slice bytes n = ap (λ k. take k (drop n bytes)) (sym (length-drop n bytes)) ∙ take-length (drop n bytes)

-- the first n bytes, and then the first ones of the rest
pub followed_by_more : (told : Option (List ℕ)) (bytes : List ℕ) (n more : ℕ)
    → followed_by (followed_by told (take n bytes)) (take more (take (length bytes - n) (drop n bytes)))
    ≡ followed_by told (take (n + more) bytes)
followed_by_more None bytes n more = refl
followed_by_more (Some told) bytes n more =
    ap Some (append_assoc told (take n bytes) (take more (take (length bytes - n) (drop n bytes)))
    ∙ ap (λ xs. told ++ xs)
    (ap (λ rest. take n bytes ++ take more rest) (rest_slice bytes n) ∙ sym (take-add n more bytes)))
