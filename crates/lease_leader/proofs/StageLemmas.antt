-- The table of stages against the map of the nodes that part.
use Rattle.std.proofs.Common.{◌≡◌, ◌≢◌, ℕ, zero, suc, ◌+◌, ◌<◌, List, [], ◌∷◌, length, get_or, set, Option, Some, None, refl, sym, ap, ◌∙◌, arith}
use Rattle.number_maps.specs.Maps.{Numbered, get, put}
use Rattle.number_maps.proofs.LookUps.{get-first, get-later, put-less, put-equal, put-greater}
use Rattle.number_maps.proofs.Rising.{Above, get-above}
use Rattle.node_model.specs.Directory.{Parting}
use Rattle.lease_leader.specs.Stages.{parting_of, parting_first, partings_from}
use Rattle.lease_leader.specs.declared.partings.Stage.{Stage}

above-first : (n m : ℕ) (o : Option Parting) (rest : Numbered Parting) → n < m → Above n rest
    → Above n (parting_first m o rest)
above-first n m None rest h a = a
above-first n m (Some p) rest h a = (h, a)

above-from : (n m : ℕ) (table : List Stage) → n < m → Above n (partings_from m table)
above-from n m [] h = tt
above-from n m (s ∷ table) h = above-first n m (parting_of s) _ h (above-from n (m + 1) table (omega arith))

get-here : (n : ℕ) (o : Option Parting) (rest : Numbered Parting) → Above n rest → get (parting_first n o rest) n ≡ o
get-here n None rest a = get-above n rest a
get-here n (Some p) rest a = get-first (n, p) rest n refl

get-past : (n k : ℕ) (o : Option Parting) (rest : Numbered Parting) → n < k
    → get (parting_first n o rest) k ≡ get rest k
get-past n k None rest h = refl
get-past n k (Some p) rest h = let ne : k ≢ n = omega arith in get-later (n, p) rest k ne

-- what the map has at a node, by its place in the table
pub get-from : (n : ℕ) (table : List Stage) (i k : ℕ) (s : Stage) → k ≡ n + i → i < length table
    → parting_of (get_or table i s) ≡ get (partings_from n table) k
get-from n [] i k s at h = absurd (omega arith)
get-from n (x ∷ table) zero k s at h =
    let here : k ≡ n = omega arith in
    sym (get-here n (parting_of x) _ (above-from n (n + 1) table (omega arith)))
    ∙ ap (get (partings_from n (x ∷ table))) (sym here)
get-from n (x ∷ table) (suc i) k s at h =
    get-from (n + 1) table i k s (omega arith) (omega arith) ∙ sym (get-past n k (parting_of x) _ (omega arith))

put-below : (n : ℕ) (p : Parting) (m : Numbered Parting) → Above n m → put m n p ≡ (n, p) ∷ m
put-below n p [] a = refl
put-below n p (e ∷ m) a = put-less e m n p a.0

put-here : (n : ℕ) (o : Option Parting) (p : Parting) (rest : Numbered Parting) → Above n rest
    → put (parting_first n o rest) n p ≡ (n, p) ∷ rest
put-here n None p rest a = put-below n p rest a
put-here n (Some q) p rest a = put-equal (n, q) rest n p refl

put-past : (n k : ℕ) (o : Option Parting) (p : Parting) (rest rest' : Numbered Parting) → n < k → put rest k p ≡ rest'
    → put (parting_first n o rest) k p ≡ parting_first n o rest'
put-past n k None p rest rest' h rec = rec
put-past n k (Some q) p rest rest' h rec = put-greater (n, q) rest k p h ∙ ap (λ m. (n, q) ∷ m) rec

-- a stage that is written is put into the map
pub set-from : (n : ℕ) (table : List Stage) (i k : ℕ) (s : Stage) (p : Parting) → k ≡ n + i → i < length table
    → parting_of s ≡ Some p → partings_from n (set table i s) ≡ put (partings_from n table) k p
set-from n [] i k s p at h is = absurd (omega arith)
set-from n (x ∷ table) zero k s p at h is =
    let here : k ≡ n = omega arith in
    ap (λ o. parting_first n o (partings_from (n + 1) table)) is
    ∙ sym (put-here n (parting_of x) p _ (above-from n (n + 1) table (omega arith)))
    ∙ ap (λ j. put (partings_from n (x ∷ table)) j p) (sym here)
set-from n (x ∷ table) (suc i) k s p at h is =
    sym (put-past n k (parting_of x) p _ _ (omega arith)
    (sym (set-from (n + 1) table i k s p (omega arith) (omega arith) is)))
