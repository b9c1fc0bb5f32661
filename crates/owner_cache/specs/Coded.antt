-- How a name is stored: as one of three numbers.
use Rattle.std.specs.Prelude.{◌⊎◌, ℕ, refl}
use Rattle.std.specs.Coded.{Coded, code_by, coded⊎, coded_ℕ}
use Rattle.std.proofs.Common.{inl, inr}
use Rattle.pico_base.specs.declared.numbers.Name.{Name}
use Rattle.pico_base.specs.declared.numbers.Name.TheVariants.{Proc, Msg, Sem}

abbrev pub name_to_sum : Name → ℕ ⊎ (ℕ ⊎ ℕ)
name_to_sum (Proc pid) = inl pid
name_to_sum (Msg id) = inr (inl id)
name_to_sum (Sem id) = inr (inr id)

abbrev pub name_from_sum : ℕ ⊎ (ℕ ⊎ ℕ) → Name
name_from_sum (inl pid) = Proc pid
name_from_sum (inr (inl id)) = Msg id
name_from_sum (inr (inr id)) = Sem id

abbrev pub coded_name : Coded Name
coded_name =
    code_by (ℕ ⊎ (ℕ ⊎ ℕ)) (coded⊎ coded_ℕ (coded⊎ coded_ℕ coded_ℕ)) name_to_sum name_from_sum
    (elim [ Proc pid ↦ refl | Msg id ↦ refl | Sem id ↦ refl ])
