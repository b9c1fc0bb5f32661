-- The bytes of a signal state, as one node sends it to another (profile).
use Rattle.std.specs.Prelude.{◌≡◌, ℕ, ◌+◌, ◌*◌, ◌<◌, ◌^◌, Bool, true, false, if◌then◌else◌, List, [], ◌∷◌, ◌++◌, map, Option, Some, None, refl}
use Rattle.std.specs.Int.{w16, w32, to_be_bytes}
use Rattle.std.specs.List.{flat_map}
use Rattle.pico_base.specs.declared.signal.Act.{Act}
use Rattle.pico_base.specs.declared.signal.Act.TheVariants.{Dfl, Ign, Catch}
use Rattle.pico_base.specs.declared.signal.PerSignal.{PerSignal}
use Rattle.pico_base.specs.declared.signal.Sig.{Sig}
use Rattle.pico_base.specs.declared.signal.Sig.TheVariants.{Hup, Chld}
use Rattle.pico_base.specs.Signal.{at, everywhere, put_at, all_signals, signal_number}
use Rattle.kernel_model.specs.Signals.{Signals}
use Rattle.signal_state.specs.Held.{IsHeld}

abbrev pub act_byte : Act → ℕ
act_byte Dfl = 0
act_byte Ign = 1
act_byte Catch = 2

-- a signal's number, or 0
abbrev pub doom_byte : Option Sig → ℕ
doom_byte None = 0
doom_byte (Some g) = signal_number g

-- the number whose bits these are, the lowest first
abbrev pub number_of_bits : List Bool → ℕ
number_of_bits [] = 0
number_of_bits (b ∷ bits) = (if b then 1 else 0) + 2 * number_of_bits bits

-- a set as a number: signal g has bit g - 1
abbrev pub set_number : PerSignal Bool → ℕ
set_number m = number_of_bits (map (at m) all_signals)

-- An action for each signal, in table order, the mask and the pending set in two bytes each, a count for each
-- signal in four, and the doom. Numbers have their high bytes first.
unfoldable pub signal_bytes : Signals → List ℕ
signal_bytes s =
    map (λ g. act_byte (at s.actions g)) all_signals
    ++ to_be_bytes w16 (set_number s.mask)
    ++ to_be_bytes w16 (set_number s.pending)
    ++ flat_map (λ g. to_be_bytes w32 (at s.handled g)) all_signals
    ++ doom_byte s.doom ∷ []

-- the states that have bytes: all that a process can have
pub record HasBytes (s : Signals) : Type 0 where
  pub held : IsHeld s
  pub counts : (g : Sig) → at s.handled g < 2 ^ 32

-- HUP and CHLD are the lowest and the highest of ten bits
lowest : set_number (put_at (everywhere false) Hup true) ≡ 1
lowest = refl

highest : set_number (put_at (everywhere false) Chld true) ≡ 512
highest = refl
