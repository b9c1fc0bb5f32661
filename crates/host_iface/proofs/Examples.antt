-- Worked examples of the definitions.
use Rattle.std.specs.Prelude.{◌≡◌, ◌-◌, ◌^◌, [], ◌∷◌, Some, None, refl}
use Rattle.std.proofs.Common.{inl, inr, arith}
use Rattle.host_iface.specs.Faults.{HasRisen, next_count}
use Rattle.host_iface.specs.Told.{led_by, followed_by}

first_count : next_count 0 ≡ 1
first_count = refl

count_at_its_end : next_count (2 ^ 64 - 1) ≡ 2 ^ 64 - 1
count_at_its_end = refl

risen : HasRisen 3 4
risen = inl (omega arith)

risen_at_its_end : HasRisen (2 ^ 64 - 1) (2 ^ 64 - 1)
risen_at_its_end = inr refl

-- an object whose count is always 0 never fails
never_risen : HasRisen 0 0 → ⊥
never_risen (inl rose) = omega arith
never_risen (inr stands) = omega arith

read_from_two : led_by (1 ∷ []) (Some (2 ∷ [])) ≡ Some (1 ∷ 2 ∷ [])
read_from_two = refl

written_behind_one : followed_by (Some (1 ∷ [])) (2 ∷ []) ≡ Some (1 ∷ 2 ∷ [])
written_behind_one = refl

untold : followed_by None (2 ∷ []) ≡ None
untold = refl
