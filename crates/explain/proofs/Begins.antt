-- What `strip_prefix` answers, as a test.
use Rattle.std.proofs.Common.{◌≡◌, ℕ, ◌+◌, true, false, eqb, List, length, take, drop, Option, Some, None, MatchOption, is_some, sym}
use Rattle.std.specs.Borrow.{Bor}
use Rattle.std.specs.Cmp.Lexicographic.{pointwise}
use Rattle.explain.specs.Refusal.{begins_with}

-- something is left exactly where the bytes begin so
pub begins_from : (s p : List ℕ) (r : Option (Bor (List ℕ)))
    → MatchOption r (pointwise eqb (take (length p) s) p ≡ false) (λ x. (pointwise eqb (take (length p) s) p ≡ true)
    × (x.now ≡ drop (length p) s) × (length x.now + length p ≡ length s)) → is_some r ≡ begins_with p s
begins_from s p None h = sym h
begins_from s p (Some x) h = sym h.0
