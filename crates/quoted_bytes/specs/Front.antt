-- What stands at the front of bytes.
use Rattle.std.specs.Prelude.{◌≡◌, refl, ℕ, List, length, take, drop, codes, bytes_eq, if◌then◌else◌, Option, Some, None}

-- what follows the prefix
unfoldable pub strip : List ℕ → List ℕ → Option (List ℕ)
strip prefix bytes =
    if bytes_eq (take (length prefix) bytes) prefix then Some (drop (length prefix) bytes) else None

-- ---- examples

pub a_prefix : strip (codes "by ") (codes "by 1") ≡ Some (codes "1")
unfolding strip
a_prefix = refl

pub no_prefix : strip (codes "by ") (codes "by") ≡ None
unfolding strip
no_prefix = refl
