-- Variables by rising number are few, and within the limits.
use Rattle.std.proofs.Common.{◌≡◌, Option, Some, None, ℕ, true, refl, ◌≤◌, length, ◌+◌, [], ◌∷◌, map, ◌^◌, arith}
use Rattle.std.proofs.lemmas.Bool.{and_from, and_parts, leb-true, lt-ltb, le-leb}
use Rattle.std.specs.List.{AllByRecursion}
use Rattle.std.specs.Prelude.{nat_le}
use Rattle.frame_bytes.specs.Fields.{rise_from}
use Rattle.frame_bytes.specs.Frames.{have_order}
use Rattle.frame_bytes.specs.Limits.{are_vars}
use Rattle.kernel_model.specs.Fitting.{set_variable}
use Rattle.kernel_model.specs.Script.{Vars, is_variable}
use Rattle.limit_laws.proofs.Rises.{AreFrom, above-from}
use Rattle.limit_laws.proofs.Tables.{all-put}
use Rattle.limit_laws.specs.Within.{AreVariables}
use Rattle.number_maps.proofs.Rising.{Above, rising-behind, rising-nothing, rising-put, above-first, rising-rest}
use Rattle.number_maps.specs.Maps.{put}
use Rattle.number_maps.specs.Rising.{IsRising}

put-each : (vars : Vars) (v n : ℕ) → v ≤ 2885 → AllByRecursion (λ (e : ℕ × ℕ). e.0 ≤ 2885) vars
    → AllByRecursion (λ (e : ℕ × ℕ). e.0 ≤ 2885) (put vars v n)
put-each vars v n low all = all-put (λ (e : ℕ × ℕ). e.0 ≤ 2885) vars v n low all

-- one that is set is a variable
pub set-are-variables : (vars : Vars) (o : Option ℕ) (n : ℕ) → is_variable o ≡ true → AreVariables vars
    → AreVariables (set_variable vars o n)
set-are-variables vars None n h fine = fine
set-are-variables vars (Some v) n h fine =
    record {
      rising = rising-put vars v n fine.rising;
      each = put-each vars v n (leb-true v 2885 h) fine.each;
    }

-- no variable at all
pub none-are-variables : AreVariables []
none-are-variables = record { rising = rising-nothing ℕ; each = tt }

-- ---- in frames

rising-rises : (low : ℕ) (vars : Vars) → IsRising vars → AreFrom low vars
    → rise_from low (map (λ v. v.0) vars) ≡ true
rising-rises low [] r all = refl
rising-rises low (v ∷ vars) r all =
    and_from (nat_le low v.0) _ (le-leb low v.0 all.0)
    (rising-rises (v.0 + 1) vars (rising-rest v vars r) (above-from v.0 vars (above-first v vars r)))

all-from-zero : (vars : Vars) → AreFrom 0 vars
all-from-zero [] = tt
all-from-zero (v ∷ vars) = (omega arith, all-from-zero vars)

rising-are-few : (low : ℕ) (vars : Vars) → low ≤ 2886 → IsRising vars → AreFrom low vars
    → AllByRecursion (λ (e : ℕ × ℕ). e.0 ≤ 2885) vars → length vars + low ≤ 2886
rising-are-few low [] limit r all high = omega (arith, limit)
rising-are-few low (v ∷ vars) limit r all high =
    let first = all.0
    in let last = high.0
    in let rest =
    rising-are-few (v.0 + 1) vars (omega (arith, last)) (rising-rest v vars r)
    (above-from v.0 vars (above-first v vars r)) high.1
    in omega (arith, first, rest)

-- Such variables are no more than 2,886,
pub vars-are-few : (vars : Vars) → AreVariables vars → length vars ≤ 2886
vars-are-few vars fine =
    let few = rising-are-few 0 vars (omega arith) fine.rising (all-from-zero vars) fine.each in omega (arith, few)

-- and within the limits.
pub vars-are-within : (vars : Vars) → AreVariables vars → are_vars vars ≡ true
vars-are-within vars fine =
    let few = vars-are-few vars fine
    in and_from _ (have_order vars) (lt-ltb (length vars) (2 ^ 16) (omega (arith, few)))
    (rising-rises 0 vars fine.rising (all-from-zero vars))

-- What a frame brings in order, of variables, is by rising number.

from-rising : (low : ℕ) (vars : Vars) → rise_from low (map (λ v. v.0) vars) ≡ true → AreFrom low vars × IsRising vars
from-rising low [] h = (tt, rising-nothing ℕ)
from-rising low (v ∷ vars) h =
    let w = and_parts (nat_le low v.0) _ h
    in let first = leb-true low v.0 w.0
    in let rest = from-rising (v.0 + 1) vars w.1
    in (
      (first, from-more low (v.0 + 1) vars (omega (arith, first)) rest.0),
      rising-behind v vars (to-above v.0 vars rest.0) rest.1,
    )
  where
    from-more : (low more : ℕ) (m : Vars) → low ≤ more → AreFrom more m → AreFrom low m
    from-more low more [] le all = tt
    from-more low more (e ∷ m) le all = let first = all.0 in (omega (arith, le, first), from-more low more m le all.1)

    to-above : (n : ℕ) (m : Vars) → AreFrom (n + 1) m → Above n m
    to-above n [] all = tt
    to-above n (e ∷ m) all = let first = all.0 in (omega (arith, first), to-above n m all.1)

-- Those that a frame brings are variables by rising number.
pub brought-are-variables : (vars : Vars) → are_vars vars ≡ true → AllByRecursion (λ (e : ℕ × ℕ). e.0 ≤ 2885) vars
    → AreVariables vars
brought-are-variables vars h all =
    let w = and_parts _ (have_order vars) h in record { rising = (from-rising 0 vars w.1).1; each = all }
