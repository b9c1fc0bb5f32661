-- The footprint's law at one call.
use Rattle.std.proofs.Common.{◌≡◌, ℕ, false}
use Rattle.pico_base.specs.declared.call.Call.{Call}
use Rattle.number_maps.specs.Maps.{is_used}
use Rattle.kernel_model.specs.Kernel.{Kernel}
use Rattle.kernel_model.specs.Transition.{transition}
use Rattle.kernel_model.specs.Valid.{IsValid}
use Rattle.footprint_laws.proofs.Stepped.{AlikeSteps}
use Rattle.kernel_model.specs.Footprint.{footprint, used_for}
use Rattle.kernel_model.specs.FootprintLaw.{AgreeOn}

-- the footprint's law at one call: kernels that agree on its footprint have the same effect there
abbrev pub LawAt : Kernel → Kernel → ℕ → Call → ℕ → Type 0
LawAt j k pid call n =
    IsValid j → IsValid k
    → AgreeOn (footprint j pid call n) j k
    → is_used (used_for j call) n ≡ false → is_used (used_for k call) n ≡ false
    → AlikeSteps (footprint j pid call n) j k (transition j pid call n) (transition k pid call n)
