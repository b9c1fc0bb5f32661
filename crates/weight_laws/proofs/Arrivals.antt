-- Names that come to a node: what was held for them is in hand, and weighs as much there.
use Rattle.std.proofs.Common.{◌≡◌, ◌≢◌, ℕ, zero, suc, ◌+◌, ◌*◌, ◌≤◌, Bool, true, false, not, ◌||◌, if◌then◌else◌, List, [], ◌∷◌, ◌++◌, is_none, Option, Some, None, refl, ap, sym, ◌∙◌, arith}
use Rattle.std.specs.Prelude.{sum_by}
use Rattle.std.specs.List.{AllByRecursion, list_any}
use Rattle.std.proofs.lemmas.Bool.{false≢true}
use Rattle.std.proofs.lemmas.List.Sums.{sum_by-append, sum_by-cons}
use Rattle.pico_base.specs.declared.call.Home.{Home}
use Rattle.pico_base.specs.declared.call.Home.TheVariants as homes
use Rattle.pico_base.specs.declared.numbers.Name.{Name}
use Rattle.pico_base.specs.declared.script.Script.{Script}
use Rattle.pico_base.specs.Home.{home_of}
use Rattle.node_model.specs.declared.held.Held.{Held}
use Rattle.node_model.specs.declared.held.Held.TheVariants.{Request, Ending}
use Rattle.node_model.specs.Directory.{At, Coming, Directory, Place, arrive, held_for, is_known, is_parcel, items_of, place_of}
use Rattle.node_model.specs.Kinds.{is_object, is_same_name}
use Rattle.world_model.specs.Census.{one_if}
use Rattle.world_model.specs.Ends.{arrive_all, held_for_all}
use Rattle.world_model.specs.World.{node_count, numbers}
use Rattle.world_laws.specs.Callers.{is_held_at}
use Rattle.world_laws.specs.Invariant.{IsLeading}
use Rattle.world_laws.specs.Names.{IsItemFor}
use Rattle.world_laws.specs.Places.{CallPlace, Idle, AsksLease, HasLease, InAsk, InRequest, InNotOwner, SentByPlace, SentByRange, InBounce, IsHeld, IsInHand, Parked, Waits, InAnswer, Ends}
use Rattle.world_laws.specs.Plays.{is_home_on}
use Rattle.world_laws.proofs.Named.{same-name, same-name-is}
use Rattle.rule_laws.proofs.Places.{place-with-other, place-with-same}
use Rattle.route_laws.proofs.hand.Holdings.{leading-with}
use Rattle.route_laws.proofs.hand.Routes.{removal-of-object}
use Rattle.route_laws.proofs.exits.Arrivals.{AreApart, is_one_of}
use Rattle.route_laws.proofs.exits.Released.{call_released}
use Rattle.weight_laws.specs.Weights.{asks_back, call_at, call_weight, calls_weight, directory_weight, is_away, is_held_cancel, item_weight, removes_away}
use Rattle.weight_laws.proofs.Counts.{is_request, over, over-both, over-none, over-same, requests_in}
use Rattle.weight_laws.proofs.GiveBacks.{besides_calls, cancels-counted, items-cost, ones, parcels-counted}
use Rattle.weight_laws.proofs.Hand.{FewerAway}
use Rattle.weight_laws.proofs.Known.{KnowsMore, knows-after, knows-with}
use Rattle.weight_laws.proofs.Parts.{place-adds, place-replaces}

or-first : (a c : Bool) → (a || c) ≡ false → a ≡ false
or-first true c h = absurd (false≢true (sym h))
or-first false c h = refl

or-second : (a c : Bool) → (a || c) ≡ false → c ≡ false
or-second true c h = absurd (false≢true (sym h))
or-second false c h = h

-- ---- the directory

freed-at : (d : Directory) (name : Name) (node : ℕ) (o : Option Place) → place_of d name ≡ o → IsLeading d
    → directory_weight (arrive d name node) + besides_calls (items_of o) ≤ directory_weight d
freed-at d name node None e leads = let less = place-adds d name (At node) in omega (arith, less)
freed-at d name node (Some (At other)) e leads =
    let less = place-replaces d name (At node) (At other) leads e in omega (arith, less)
freed-at d name node (Some (Coming to items)) e leads =
    let less = place-replaces d name (At node) (Coming to items) leads e in omega (arith, less)

held-others : (d : Directory) (name : Name) (node : ℕ) (names : List Name) → is_one_of name names ≡ false
    → held_for_all (arrive d name node) names ≡ held_for_all d names
held-others d name node [] h = refl
held-others d name node (m ∷ names) h =
    let other : m ≢ name =
    λ e. false≢true (sym (or-first (is_same_name name m) (is_one_of name names) h) ∙ same-name name m (sym e))
    in ap (λ items. items ++ held_for_all (arrive d name node) names)
    (ap items_of (place-with-other d name (At node) m other))
    ∙ ap (λ items. held_for d m ++ items)
    (held-others d name node names (or-second (is_same_name name m) (is_one_of name names) h))

-- what held items weigh besides calls, item by item
abbrev pub besides : List Held → ℕ
besides items = ones is_parcel items + 3 * ones is_held_cancel items

besides-both : (xs ys : List Held) → besides (xs ++ ys) ≡ besides xs + besides ys
besides-both xs ys =
    let parcels = sum_by-append (λ i. one_if (is_parcel i)) xs ys
    in let cancels = sum_by-append (λ i. one_if (is_held_cancel i)) xs ys
    in omega (arith, parcels, cancels)

besides-counted : (items : List Held) → besides items ≡ besides_calls items
besides-counted items =
    let parcels = parcels-counted items in let cancels = cancels-counted items in omega (arith, parcels, cancels)

-- The directory is lighter by the parcels and withdrawals that were held.
pub arrivals-free : (node : ℕ) (names : List Name) (d : Directory) → AreApart names → IsLeading d
    → directory_weight (arrive_all d names node) + besides (held_for_all d names) ≤ directory_weight d
arrivals-free node [] d apart leads = omega arith
arrivals-free node (name ∷ names) d apart leads =
    let first = freed-at d name node (place_of d name) refl leads
    in let count = besides-counted (held_for d name)
    in let rest = arrivals-free node names (arrive d name node) apart.1 (leading-with d name (At node) leads)
    in let same : besides (held_for_all (arrive d name node) names) ≡ besides (held_for_all d names) =
    ap besides (held-others d name node names apart.0)
    in let both = besides-both (held_for d name) (held_for_all d names)
    in omega (arith, first, count, rest, same, both)

-- what is known stays known
pub arrivals-know : (node : ℕ) (names : List Name) (d : Directory) → KnowsMore d (arrive_all d names node)
arrivals-know node [] d = λ m h. h
arrivals-know node (name ∷ names) d =
    knows-after d (arrive d name node) (arrive_all (arrive d name node) names node) (knows-with d name (At node))
    (arrivals-know node names (arrive d name node))

-- and the names are known
pub arrivals-known : (node : ℕ) (names : List Name) (d : Directory)
    → AllByRecursion (λ m. is_known (arrive_all d names node) m ≡ true) names
arrivals-known node [] d = tt
arrivals-known node (name ∷ names) d = (
  arrivals-know node names (arrive d name node) name
      (ap (λ o. not (is_none o)) (place-with-same d name (At node))),
  arrivals-known node names (arrive d name node),
)

-- names of processes
abbrev pub AreProcesses : List Name → Type 0
AreProcesses names = AllByRecursion (λ m. is_object m ≡ false) names

object-still : (node : ℕ) (names : List Name) (d : Directory) → AreProcesses names → (m : Name)
    → is_object m ≡ true → place_of (arrive_all d names node) m ≡ place_of d m
object-still node [] d all m object = refl
object-still node (name ∷ names) d all m object =
    let other : m ≢ name = λ e. false≢true (sym all.0 ∙ ap is_object (sym e) ∙ object)
    in object-still node names (arrive d name node) all.1 m object ∙ place-with-other d name (At node) m other

-- no queue or set is elsewhere
pub arrivals-fewer : (node : ℕ) (names : List Name) (d : Directory) → AreProcesses names
    → FewerAway d (arrive_all d names node)
arrivals-fewer node names d all m object h =
    sym (ap is_away (object-still node names d all m object)) ∙ h

-- ---- what was held

-- of each name it is what it may be
abbrev pub ItemsFit : Directory → Type 0
ItemsFit d = (m : Name) → AllByRecursion (IsItemFor m) (held_for d m)

-- In hand the calls may cost 7, the parcels 1 and the withdrawals 3.
pub released-cost : (d d' : Directory) → ItemsFit d → (names : List Name)
    → AllByRecursion (λ m. is_known d' m ≡ true) names
    → sum_by (item_weight d') (held_for_all d names)
    ≤ 7 * requests_in (held_for_all d names) + besides (held_for_all d names)
released-cost d d' fit [] known = omega arith
released-cost d d' fit (name ∷ names) known =
    let rest = released-cost d d' fit names known.1
    in let first = items-cost d' name known.0 (held_for d name) (fit name)
    in let count = besides-counted (held_for d name)
    in let costs = sum_by-append (item_weight d') (held_for d name) (held_for_all d names)
    in let calls = sum_by-append (λ i. one_if (is_request i)) (held_for d name) (held_for_all d names)
    in let others = besides-both (held_for d name) (held_for_all d names)
    in omega (arith, rest, first, count, costs, calls, others)

not-removed : (d : Directory) (name : Name) → is_object name ≡ false → (home : Home)
    → ((m : Name) → home ≡ homes.Removal m → is_object m ≡ true) → is_home_on name home ≡ true
    → removes_away d home ≡ false
not-removed d name process (homes.Removal other) object on =
    absurd (false≢true (sym process ∙ ap is_object (same-name-is name other on) ∙ object other refl))
not-removed d name process (homes.At other) object on = refl
not-removed d name process homes.Own object on = refl
not-removed d name process homes.Keys object on = refl
not-removed d name process homes.Parent object on = refl

not-asked : (d : Directory) (name : Name) → is_object name ≡ false → (item : Held) → IsItemFor name item
    → asks_back d item ≡ false
not-asked d name process (Request asked) on =
    not-removed d name process (home_of asked.pid asked.call) (removal-of-object asked.pid asked.call) on
not-asked d name process (Ending parcel) on = refl

any-behind : (test : Held → Bool) (xs ys : List Held) → AllByRecursion (λ x. test x ≡ false) xs
    → list_any test (xs ++ ys) ≡ list_any test ys
any-behind test [] ys all = refl
any-behind test (x ∷ xs) ys all =
    ap (λ t. t || list_any test (xs ++ ys)) all.0 ∙ any-behind test xs ys all.1

none-of : (d d' : Directory) (name : Name) → is_object name ≡ false → (items : List Held)
    → AllByRecursion (IsItemFor name) items → AllByRecursion (λ i. asks_back d' i ≡ false) items
none-of d d' name process [] all = tt
none-of d d' name process (item ∷ items) all =
    (not-asked d' name process item all.0, none-of d d' name process items all.1)

all-append : (P : Held → Type 0) (xs ys : List Held) → AllByRecursion P xs → AllByRecursion P ys
    → AllByRecursion P (xs ++ ys)
all-append P [] ys all others = others
all-append P (x ∷ xs) ys all others = (all.0, all-append P xs ys all.1 others)

none-asked : (d d' : Directory) → ItemsFit d → (names : List Name) → AreProcesses names
    → AllByRecursion (λ i. asks_back d' i ≡ false) (held_for_all d names)
none-asked d d' fit [] all = tt
none-asked d d' fit (name ∷ names) all =
    all-append (λ i. asks_back d' i ≡ false) (held_for d name) (held_for_all d names)
    (none-of d d' name all.0 (held_for d name) (fit name)) (none-asked d d' fit names all.1)

-- none of it asks for a name back
pub released-back : (d d' : Directory) → ItemsFit d → (names : List Name) → AreProcesses names → (rest : List Held)
    → list_any (asks_back d') (held_for_all d names ++ rest) ≡ list_any (asks_back d') rest
released-back d d' fit names all rest =
    any-behind (asks_back d') (held_for_all d names) rest (none-asked d d' fit names all)

-- ---- the calls

abbrev is_freed : List Name → CallPlace → Bool
is_freed names (IsHeld name) = is_one_of name names
is_freed names place = false

released-weight : (names : List Name) (place : CallPlace)
    → call_weight (call_released names place) + 7 * one_if (is_freed names place) ≡ call_weight place
released-weight names (IsHeld name) = by-test (is_one_of name names)
  where
    by-test : (t : Bool) → call_weight (if t then IsInHand else IsHeld name) + 7 * one_if t ≡ 7
    by-test true = refl
    by-test false = refl
released-weight names Idle = refl
released-weight names (AsksLease kind) = refl
released-weight names (HasLease kind first) = refl
released-weight names InAsk = refl
released-weight names (InRequest to) = refl
released-weight names (InNotOwner sender) = refl
released-weight names (SentByPlace to) = refl
released-weight names (SentByRange to) = refl
released-weight names (InBounce sender) = refl
released-weight names IsInHand = refl
released-weight names Parked = refl
released-weight names (Waits name) = refl
released-weight names (InAnswer sender reply) = refl
released-weight names Ends = refl

-- how many of the names it is held for, which is one at most
abbrev held_among : List Name → CallPlace → ℕ
held_among names place = sum_by (λ m. one_if (is_held_at place m)) names

one-among : (names : List Name) (name : Name) → AreApart names
    → one_if (is_one_of name names) ≡ held_among names (IsHeld name)
one-among [] name apart = refl
one-among (m ∷ names) name apart =
    let all = sum_by-cons (λ k. one_if (is_same_name name k)) m names
    in let rest = one-among names name apart.1
    in by-test (is_same_name name m) refl all rest
  where
    by-test : (t : Bool) → is_same_name name m ≡ t
        → held_among (m ∷ names) (IsHeld name) ≡ one_if (is_same_name name m) + held_among names (IsHeld name)
        → one_if (is_one_of name names) ≡ held_among names (IsHeld name)
        → one_if (is_same_name name m || is_one_of name names) ≡ held_among (m ∷ names) (IsHeld name)
    by-test true e all rest =
        let none : one_if (is_one_of name names) ≡ 0 =
        ap (λ k. one_if (is_one_of k names)) (same-name-is name m e) ∙ ap one_if apart.0
        in let first : one_if (is_same_name name m) ≡ 1 = ap one_if e
        in let now : one_if (is_same_name name m || is_one_of name names) ≡ 1 =
        ap (λ t. one_if (t || is_one_of name names)) e
        in omega (arith, none, first, now, all, rest)
    by-test false e all rest =
        let first : one_if (is_same_name name m) ≡ 0 = ap one_if e
        in let now : one_if (is_same_name name m || is_one_of name names) ≡ one_if (is_one_of name names) =
        ap (λ t. one_if (t || is_one_of name names)) e
        in omega (arith, first, now, all, rest)

none-among : (names : List Name) (place : CallPlace) → ((m : Name) → is_held_at place m ≡ false)
    → held_among names place ≡ 0
none-among [] place h = refl
none-among (m ∷ names) place h =
    let all = sum_by-cons (λ k. one_if (is_held_at place k)) m names
    in let rest = none-among names place h
    in let first : one_if (is_held_at place m) ≡ 0 = ap one_if (h m)
    in omega (arith, all, rest, first)

freed-among : (names : List Name) → AreApart names → (place : CallPlace)
    → one_if (is_freed names place) ≡ held_among names place
freed-among names apart (IsHeld name) = one-among names name apart
freed-among names apart Idle = sym (none-among names Idle (λ m. refl))
freed-among names apart (AsksLease kind) = sym (none-among names (AsksLease kind) (λ m. refl))
freed-among names apart (HasLease kind first) = sym (none-among names (HasLease kind first) (λ m. refl))
freed-among names apart InAsk = sym (none-among names InAsk (λ m. refl))
freed-among names apart (InRequest to) = sym (none-among names (InRequest to) (λ m. refl))
freed-among names apart (InNotOwner sender) = sym (none-among names (InNotOwner sender) (λ m. refl))
freed-among names apart (SentByPlace to) = sym (none-among names (SentByPlace to) (λ m. refl))
freed-among names apart (SentByRange to) = sym (none-among names (SentByRange to) (λ m. refl))
freed-among names apart (InBounce sender) = sym (none-among names (InBounce sender) (λ m. refl))
freed-among names apart IsInHand = sym (none-among names IsInHand (λ m. refl))
freed-among names apart Parked = sym (none-among names Parked (λ m. refl))
freed-among names apart (Waits name) = sym (none-among names (Waits name) (λ m. refl))
freed-among names apart (InAnswer sender reply) = sym (none-among names (InAnswer sender reply) (λ m. refl))
freed-among names apart Ends = sym (none-among names Ends (λ m. refl))

-- seven times each
seven : (f : ℕ → ℕ) (first count : ℕ) → over (λ p. 7 * f p) first count ≡ 7 * over f first count
seven f first zero = refl
seven f first (suc count) =
    let rest = seven f (first + 1) count
    in let all = sum_by-cons (λ p. 7 * f p) first (numbers (first + 1) count)
    in let ones_of = sum_by-cons f first (numbers (first + 1) count)
    in omega (arith, rest, all, ones_of)

module _ (script : Script) (call : ℕ → CallPlace) where
  -- as many calls are held for a name as the leader holds
  abbrev pub HeldAsCounted : Directory → Type 0
  HeldAsCounted d =
      (m : Name)
      → over (λ p. one_if (is_held_at (call p) m)) 1 (node_count script) ≡ requests_in (held_for d m)

  each-name : (d : Directory) → HeldAsCounted d → (names : List Name)
      → over (λ p. held_among names (call p)) 1 (node_count script) ≡ requests_in (held_for_all d names)
  each-name d counted [] = over-none 1 (node_count script)
  each-name d counted (name ∷ names) =
      let rest = each-name d counted names
      in let first = counted name
      in let split = over-same (λ p. held_among (name ∷ names) (call p))
      (λ p. one_if (is_held_at (call p) name) + held_among names (call p)) 1 (node_count script)
      (λ p low high. sum_by-cons (λ m. one_if (is_held_at (call p) m)) name names)
      in let both = over-both (λ p. one_if (is_held_at (call p) name)) (λ p. held_among names (call p)) 1
      (node_count script)
      in let all = sum_by-append (λ i. one_if (is_request i)) (held_for d name) (held_for_all d names)
      in omega (arith, rest, first, split, both, all)

  -- The calls weigh 7 less for each that is in hand.
  pub calls-released : (d : Directory) → HeldAsCounted d → (names : List Name) → AreApart names
      → calls_weight script (λ p. call_released names (call p)) + 7 * requests_in (held_for_all d names)
      ≡ calls_weight script call
  calls-released d counted names apart =
      let split = over-same (call_at call)
      (λ p. call_at (λ q. call_released names (call q)) p + 7 * one_if (is_freed names (call p))) 1 (node_count script)
      (λ p low high. sym (released-weight names (call p)))
      in let both = over-both (call_at (λ q. call_released names (call q)))
      (λ p. 7 * one_if (is_freed names (call p))) 1 (node_count script)
      in let times = seven (λ p. one_if (is_freed names (call p))) 1 (node_count script)
      in let same = over-same (λ p. one_if (is_freed names (call p))) (λ p. held_among names (call p)) 1
      (node_count script) (λ p low high. freed-among names apart (call p))
      in let all = each-name d counted names
      in omega (arith, split, both, times, same, all)
