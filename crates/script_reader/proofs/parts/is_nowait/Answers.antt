use Rattle.std.proofs.Common.{◌≡◌, ℕ, ◌<◌, ◌≤◌, Bool, true, false, ◌&&◌, eqb, List, [], ◌∷◌, length, get_or, refl, arith}
use Rattle.std.specs.Prelude.{codes, bytes_eq}
use Rattle.script_reader.proofs.parts.is_nowait.Goals as goal

last : (c : Bool) → c ≡ (c && true)
last true = refl
last false = refl

six : (w : List ℕ) → 6 ≤ length w → length w < 7
    → (eqb (get_or w 0 0) 110 && (eqb (get_or w 1 0) 111 && (eqb (get_or w 2 0) 119
    && (eqb (get_or w 3 0) 97 && (eqb (get_or w 4 0) 105 && eqb (get_or w 5 0) 116))))) ≡ bytes_eq w (codes "nowait")
six (a ∷ b ∷ c ∷ d ∷ e ∷ f ∷ []) long short = rw (← last (eqb f 116)) refl
six [] long short = absurd (omega (arith, long))
six (a ∷ []) long short = absurd (omega (arith, long))
six (a ∷ b ∷ []) long short = absurd (omega (arith, long))
six (a ∷ b ∷ c ∷ []) long short = absurd (omega (arith, long))
six (a ∷ b ∷ c ∷ d ∷ []) long short = absurd (omega (arith, long))
six (a ∷ b ∷ c ∷ d ∷ e ∷ []) long short = absurd (omega (arith, long))
six (a ∷ b ∷ c ∷ d ∷ e ∷ f ∷ g ∷ w) long short = absurd (omega (arith, short))

pub returns-in-len6 : goal.returns-in-len6
returns-in-len6 c = six c.args.word.now (omega (arith, c.in-len6.len_at_least)) (omega (arith, c.in-len6.len_below))
