-- Bytes that an object of the outside may tell: what a source has left, and what a sink has taken.
use Rattle.std.specs.Prelude.{ℕ, List, ◌++◌, Option, Some, None}

-- these bytes, and then those that are told
abbrev pub led_by : List ℕ → Option (List ℕ) → Option (List ℕ)
led_by front None = None
led_by front (Some told) = Some (front ++ told)

-- the bytes that are told, and then these
abbrev pub followed_by : Option (List ℕ) → List ℕ → Option (List ℕ)
followed_by None bytes = None
followed_by (Some told) bytes = Some (told ++ bytes)
