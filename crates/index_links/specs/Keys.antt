-- A class as a number without a sign, which rises as the class does: so 2147483648 is class 0.
use Rattle.std.specs.Prelude.{ℕ, suc, ◌+◌, ◌-◌, ℤ, pos, negsuc, nat_lt, if◌then◌else◌}

abbrev pub half : ℕ
half = 2147483648

unfoldable pub key_of : ℤ → ℕ
key_of (pos n) = half + n
key_of (negsuc n) = half - suc n

unfoldable pub class_of : ℕ → ℤ
class_of key = if nat_lt key half then negsuc (half - suc key) else pos (key - half)
