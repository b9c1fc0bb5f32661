-- Variables by rising number: where a search finds one, and what an edit at that place does.
use Rattle.std.proofs.Common.{◌≡◌, ◌∙◌, ℕ, ◌+◌, ◌<◌, ◌≤◌, zero, suc, Bool, true, false, ◌&&◌, nat_lt, [], ◌∷◌, length, get_or, set, Some, None, Result, Ok, Err, OnOk, OnErr, refl, sym, ap, arith, Ordering}
use Rattle.std.specs.declared.cmp.Ordering.TheVariants.{Less, Equal, Greater}
use Rattle.std.specs.List.{insert}
use Rattle.std.specs.Ordering.{nat_cmp, match_ordering}
use Rattle.std.proofs.lemmas.List.{get_or_default}
use Rattle.pico_base.specs.declared.fault.Memory.{Memory}
use Rattle.number_maps.specs.Maps.{get, put}
use Rattle.kernel_model.specs.Script.{Vars, value_of}
use Rattle.node_calls.specs.Caller.{are_rising, rise_from}
use Rattle.node_calls.specs.Place.{IsAt, IsGapFor, variable_at}

both : (a b : Bool) → (a && b) ≡ true → (a ≡ true) × (b ≡ true)
both true b h = (refl, h)
both false b h = absurd (cc)

below : (a b : ℕ) → nat_lt a b ≡ true → a < b
below a b h = grind arith

is_below : (a b : ℕ) → a < b → nat_lt a b ≡ true
is_below a b h = grind arith

-- the order of two numbers

less : (a b : ℕ) → a < b → nat_cmp a b ≡ Less
less a b h = grind arith

greater : (a b : ℕ) → b < a → nat_cmp a b ≡ Greater
greater a b h = grind arith

same : (a : ℕ) → nat_cmp a a ≡ Equal
same a = grind arith

-- Variables that rise.

risen : (last : ℕ) (vars : Vars) → rise_from last vars ≡ true → are_rising vars ≡ true
risen last [] h = refl
risen last (v ∷ vars) h = (both (nat_lt last v.0) (rise_from v.0 vars) h).1

is_above : (last i : ℕ) (vars : Vars) → rise_from last vars ≡ true → i < length vars → last < variable_at vars i
is_above last i [] h within = absurd (omega arith)
is_above last zero (v ∷ vars) h within = below last v.0 (both (nat_lt last v.0) (rise_from v.0 vars) h).0
is_above last (suc i) (v ∷ vars) h within =
    let parts = both (nat_lt last v.0) (rise_from v.0 vars) h
    in let first : last < v.0 = below last v.0 parts.0
    in let later : v.0 < variable_at vars i = is_above v.0 i vars parts.1 (omega arith)
    in omega arith

rises : (vars : Vars) (i j : ℕ) → are_rising vars ≡ true → i < j → j < length vars
    → variable_at vars i < variable_at vars j
rises [] i j h low within = absurd (omega arith)
rises (v ∷ vars) zero zero h low within = absurd (omega arith)
rises (v ∷ vars) zero (suc j) h low within = is_above v.0 j vars h (omega arith)
rises (v ∷ vars) (suc i) zero h low within = absurd (omega arith)
rises (v ∷ vars) (suc i) (suc j) h low within = rises vars i j (risen v.0 vars h) (omega arith) (omega arith)

-- A search narrows the places where a variable can be.

pub record Narrowed (vars : Vars) (k low high : ℕ) : Type 0 where
  pub ordered : low ≤ high
  pub within : high ≤ length vars
  pub smaller : (i : ℕ) → i < low → variable_at vars i < k
  pub greater : (i : ℕ) → high ≤ i → i < length vars → k < variable_at vars i

module _ (vars : Vars) (h : are_rising vars ≡ true) (k low high : ℕ) where
  rise_weakly : (i j : ℕ) → i ≤ j → j < length vars → variable_at vars i ≤ variable_at vars j
  rise_weakly i j le within = grind (arith, rises vars i j h, λ (e : i ≡ j). ap (variable_at vars) e)

  pub narrow-up : (middle : ℕ) → Narrowed vars k low high → low ≤ middle → middle < high → variable_at vars middle < k
      → Narrowed vars k (middle + 1) high
  narrow-up middle was above below small = record {
    ordered = omega arith;
    within = was.within;
    smaller = λ i le. let weakly : variable_at vars i ≤ variable_at vars middle =
        rise_weakly i middle (omega arith) (omega (arith, was.within)) in omega arith;
    greater = was.greater;
  }

  pub narrow-down : (middle : ℕ) → Narrowed vars k low high → low ≤ middle → middle < high → k < variable_at vars middle
      → Narrowed vars k low middle
  narrow-down middle was above below great = record {
    ordered = above;
    within = omega (arith, was.within);
    smaller = was.smaller;
    greater = λ i le inside. let weakly : variable_at vars middle ≤ variable_at vars i =
        rise_weakly middle i le inside in omega arith;
  }

pub gap-found : (vars : Vars) (k low high : ℕ) → Narrowed vars k low high → high ≤ low → IsGapFor vars k low
gap-found vars k low high was end =
    let same : high ≡ low = omega (arith, was.ordered)
    in record {
      within = omega (arith, was.within);
      smaller = was.smaller;
      greater = λ i le inside. was.greater i (omega arith) inside;
    }

-- an entry that was read at a place holds the variable of that place
pub read-at : (vars : Vars) (middle : ℕ) (d : ℕ × ℕ) → middle < length vars → d ≡ get_or vars middle d
    → variable_at vars middle ≡ d.0
read-at vars middle d within is =
    let there : d ≡ get_or vars middle (0, 0) = is ∙ get_or_default vars middle d (0, 0) within
    in ap (λ (e : ℕ × ℕ). e.0) (sym there)

-- Edits and look-ups at that place.

put_here : (vars : Vars) (k x place : ℕ) → are_rising vars ≡ true → place < length vars → variable_at vars place ≡ k
    → set vars place (k, x) ≡ put vars k x
put_here [] k x place h within here = absurd (omega arith)
put_here (v ∷ vars) k x zero h within here =
    let equal : nat_cmp k v.0 ≡ Equal = rw here (same k)
    in rw equal (ap (λ (n : ℕ). (n, x) ∷ vars) (sym here))
put_here (v ∷ vars) k x (suc place) h within here =
    let low : v.0 < variable_at vars place = is_above v.0 place vars h (omega arith)
    in let above : nat_cmp k v.0 ≡ Greater = greater k v.0 (omega arith)
    in rw above (ap (λ (vs : Vars). v ∷ vs) (put_here vars k x place (risen v.0 vars h) (omega arith) here))

put_gap : (vars : Vars) (k x place : ℕ) → place ≤ length vars → ((i : ℕ) → i < place → variable_at vars i < k)
    → ((i : ℕ) → place ≤ i → i < length vars → k < variable_at vars i) → insert vars place (k, x) ≡ put vars k x
put_gap [] k x zero within smaller larger = refl
put_gap [] k x (suc place) within smaller larger = absurd (omega arith)
put_gap (v ∷ vars) k x zero within smaller larger =
    let low : k < v.0 = larger 0 (omega arith) (omega arith)
    in let first : nat_cmp k v.0 ≡ Less = less k v.0 low
    in rw first
put_gap (v ∷ vars) k x (suc place) within smaller larger =
    let low : v.0 < k = smaller 0 (omega arith)
    in let above : nat_cmp k v.0 ≡ Greater = greater k v.0 low
    in rw above (ap (λ (vs : Vars). v ∷ vs)
    (put_gap vars k x place (omega arith) (λ i le. smaller (suc i) (omega arith))
    (λ i le inside. larger (suc i) (omega arith) (omega arith))))

get_here : (vars : Vars) (k place : ℕ) → are_rising vars ≡ true → place < length vars → variable_at vars place ≡ k
    → get vars k ≡ Some (get_or vars place (0, 0)).1
get_here [] k place h within here = absurd (omega arith)
get_here (v ∷ vars) k zero h within here = let equal : nat_cmp k v.0 ≡ Equal = rw here (same k) in rw equal
get_here (v ∷ vars) k (suc place) h within here =
    let low : v.0 < variable_at vars place = is_above v.0 place vars h (omega arith)
    in let above : nat_cmp k v.0 ≡ Greater = greater k v.0 (omega arith)
    in rw above (get_here vars k place (risen v.0 vars h) (omega arith) here)

get_gap : (vars : Vars) (k place : ℕ) → place ≤ length vars → ((i : ℕ) → i < place → variable_at vars i < k)
    → ((i : ℕ) → place ≤ i → i < length vars → k < variable_at vars i) → get vars k ≡ None
get_gap [] k place within smaller larger = refl
get_gap (v ∷ vars) k zero within smaller larger =
    let low : k < v.0 = larger 0 (omega arith) (omega arith)
    in let first : nat_cmp k v.0 ≡ Less = less k v.0 low
    in rw first (get_gap vars k zero (omega arith) (λ i le. absurd (omega arith))
    (λ i le inside. larger (suc i) (omega arith) (omega arith)))
get_gap (v ∷ vars) k (suc place) within smaller larger =
    let low : v.0 < k = smaller 0 (omega arith)
    in let above : nat_cmp k v.0 ≡ Greater = greater k v.0 low
    in rw above (get_gap vars k place (omega arith) (λ i le. smaller (suc i) (omega arith))
    (λ i le inside. larger (suc i) (omega arith) (omega arith)))

-- A variable that is put among rising ones keeps them rising.

rising_with : (last k x : ℕ) (v : ℕ × ℕ) (vars : Vars) (o : Ordering) → nat_cmp k v.0 ≡ o → last < k
    → rise_from last (v ∷ vars) ≡ true
    → (v.0 < k → rise_from v.0 (put vars k x) ≡ true)
    → rise_from last (match_ordering o ((k, x) ∷ v ∷ vars) ((v.0, x) ∷ vars) (v ∷ put vars k x)) ≡ true
rising_with last k x v vars Less is low h later =
    let parts = both (nat_lt last v.0) (rise_from v.0 vars) h
    in rw (is_below last k low, is_below k v.0 (grind arith)) parts.1
rising_with last k x v vars Equal is low h later = h
rising_with last k x v vars Greater is low h later =
    let parts = both (nat_lt last v.0) (rise_from v.0 vars) h
    in rw parts.0 (later (grind arith))

rise_put : (last k x : ℕ) (vars : Vars) → last < k → rise_from last vars ≡ true → rise_from last (put vars k x) ≡ true
rise_put last k x [] low h = rw (is_below last k low)
rise_put last k x (v ∷ vars) low h =
    rising_with last k x v vars (nat_cmp k v.0) refl low h
    (λ above. rise_put v.0 k x vars above (both (nat_lt last v.0) (rise_from v.0 vars) h).1)

first_with : (k x : ℕ) (v : ℕ × ℕ) (vars : Vars) (o : Ordering) → nat_cmp k v.0 ≡ o → rise_from v.0 vars ≡ true
    → are_rising (match_ordering o ((k, x) ∷ v ∷ vars) ((v.0, x) ∷ vars) (v ∷ put vars k x)) ≡ true
first_with k x v vars Less is h = rw (is_below k v.0 (grind arith)) h
first_with k x v vars Equal is h = h
first_with k x v vars Greater is h = rise_put v.0 k x vars (grind arith) h

-- rising variables still rise after one was put among them
pub rising-put : (vars : Vars) (k x : ℕ) → are_rising vars ≡ true → are_rising (put vars k x) ≡ true
rising-put [] k x h = refl
rising-put (v ∷ vars) k x h = first_with k x v vars (nat_cmp k v.0) refl h

-- As the code has it.

-- to write over the entry at a variable's place is to put the variable
pub put-at : (vars : Vars) (k x place : ℕ) → are_rising vars ≡ true → IsAt vars k place
    → set vars place (k, x) ≡ put vars k x
put-at vars k x place h at = put_here vars k x place h at.within at.here

-- to insert an entry in a variable's gap is to put the variable
pub put-in_gap : (vars : Vars) (k x place : ℕ) → IsGapFor vars k place → insert vars place (k, x) ≡ put vars k x
put-in_gap vars k x place gap = put_gap vars k x place gap.within gap.smaller gap.greater

pub value-at : (vars : Vars) (k place : ℕ) → are_rising vars ≡ true → IsAt vars k place
    → value_of vars k ≡ (get_or vars place (0, 0)).1
value-at vars k place h at = rw (get_here vars k place h at.within at.here)

pub value-in_gap : (vars : Vars) (k place : ℕ) → IsGapFor vars k place → value_of vars k ≡ 0
value-in_gap vars k place gap = rw (get_gap vars k place gap.within gap.smaller gap.greater)

-- the value read at the variable's place is the variable's value
pub read-value : (vars own : Vars) (k place : ℕ) (d : ℕ × ℕ) → are_rising own ≡ true → own ≡ vars → IsAt own k place
    → d ≡ get_or own place d → d.1 ≡ value_of vars k
read-value vars own k place d h is at read =
    let there : d ≡ get_or own place (0, 0) = read ∙ get_or_default own place d (0, 0) at.within
    in ap (λ (e : ℕ × ℕ). e.1) there ∙ sym (value-at own k place h at) ∙ ap (λ (vs : Vars). value_of vs k) is

-- a variable that would go into a gap has the value 0
pub none-in_gap : (vars own : Vars) (k place : ℕ) → own ≡ vars → IsGapFor own k place → 0 ≡ value_of vars k
none-in_gap vars own k place is gap = sym (value-in_gap own k place gap) ∙ ap (λ (vs : Vars). value_of vs k) is

-- rising variables still rise after an attempt to put one, which leaves them alone where it fails
pub rising-set : (vars new : Vars) (k x : ℕ) (r : Result (Unit {0}) Memory) → are_rising vars ≡ true
    → OnOk r (new ≡ put vars k x)
    → OnErr r (new ≡ vars) → are_rising new ≡ true
rising-set vars new k x (Ok u) h ok err = rw ok (rising-put vars k x h)
rising-set vars new k x (Err e) h ok err = rw err h
