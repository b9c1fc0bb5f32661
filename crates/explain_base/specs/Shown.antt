-- Which bytes are written of what is told.
use Rattle.std.specs.Prelude.{◌≢◌, ℕ, ◌≤◌}

-- a printable byte, where it isn't a line feed
abbrev pub IsShown : ℕ → Type 0
IsShown byte = byte ≢ 10 → (32 ≤ byte) × (byte ≤ 126)
