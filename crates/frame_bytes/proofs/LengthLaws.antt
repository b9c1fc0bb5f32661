-- How many bytes lists of items have, where each item has as many.
use Rattle.std.proofs.Common.{◌≡◌, ℕ, ◌*◌, List, [], ◌∷◌, length, refl, arith, length-append}
use Rattle.std.specs.List.{flat_map}
use Rattle.pico_base.specs.declared.call.SemStep.{SemStep}
use Rattle.frame_bytes.specs.Fields.{word}
use Rattle.frame_bytes.specs.Calls.{step_field}
use Rattle.frame_bytes.specs.Frames.{value_field}

-- k bytes for each
length-even : {A : Type 0} (spell : A → List ℕ) (k : ℕ) → ((x : A) → length (spell x) ≡ k)
    → (xs : List A) → length (flat_map spell xs) ≡ k * length xs
length-even spell k each [] = omega arith
length-even spell k each (x ∷ xs) =
    omega (arith, length-append (spell x) (flat_map spell xs), each x, length-even spell k each xs)

-- words take 4 bytes each
pub length-words : (xs : List ℕ) → length (flat_map word xs) ≡ 4 * length xs
length-words xs = length-even word 4 (λ x. refl) xs

-- a semaphore operation takes 7 bytes
pub length-steps : (steps : List SemStep) → length (flat_map step_field steps) ≡ 7 * length steps
length-steps steps = length-even step_field 7 (λ s. refl) steps

-- a variable's value takes 6 bytes
pub length-vars : (vars : List (ℕ × ℕ)) → length (flat_map value_field vars) ≡ 6 * length vars
length-vars vars = length-even value_field 6 (λ v. refl) vars
