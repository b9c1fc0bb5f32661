-- Ranges of numbers.
use Rattle.std.specs.Prelude.{ℕ, ◌^◌, Bool, ◌&&◌, nat_le, nat_lt}

-- both bounds are within
abbrev pub is_between : ℕ → ℕ → ℕ → Bool
is_between low high n = nat_le low n && nat_le n high

-- one past the greatest number of four bytes
abbrev pub number_end : ℕ
number_end = 2 ^ 32

abbrev pub is_u32 : ℕ → Bool
is_u32 n = nat_lt n number_end

-- what a process, a queue, a set or a key may have as its number: 0 names nothing (profile)
abbrev pub is_positive_u32 : ℕ → Bool
is_positive_u32 n = nat_lt 0 n && is_u32 n

abbrev pub is_u16 : ℕ → Bool
is_u16 n = nat_le n 65535

abbrev pub is_byte : ℕ → Bool
is_byte n = nat_le n 255
