-- The calls that are held for a name: as many as nodes whose calls are held for it.
use Rattle.std.proofs.Common.{◌≡◌, ℕ, zero, suc, ◌+◌, ◌*◌, ◌≤◌, ◌<◌, Bool, true, false, ◌&&◌, not, cond, if◌then◌else◌, List, [], ◌∷◌, length, filter, nat_eq, Option, Some, None, refl, ap, sym, ◌∙◌, inl, inr, arith}
use Rattle.std.specs.Prelude.{sum_by}
use Rattle.std.specs.List.{AllByRecursion}
use Rattle.std.proofs.lemmas.Bool.{cases_eq, eq-eqb, ne_eqb}
use Rattle.std.proofs.lemmas.List.Sums.{sum_by-cons}
use Rattle.pico_base.specs.declared.call.Call.{Call}
use Rattle.pico_base.specs.declared.numbers.Name.{Name}
use Rattle.pico_base.specs.declared.script.Script.{Script}
use Rattle.waiting_model.specs.Calls.{is_withdrawal}
use Rattle.node_model.specs.declared.held.Held.{Held}
use Rattle.node_model.specs.declared.held.Held.TheVariants.{Request, Ending}
use Rattle.node_model.specs.Directory.{held_for}
use Rattle.node_model.specs.Kinds.{is_same_name}
use Rattle.world_model.specs.Census.{one_if}
use Rattle.world_model.specs.World.{World, node_count, numbers}
use Rattle.world_laws.specs.Callers.{CallHolds, CallSight, HasCall, HasCallOrNone, HasNoCall, IsJustThere, IsNowhere, asked_of, call_sight, is_held_at, is_item_about, only_if}
use Rattle.world_laws.specs.Invariant.{HoldsOwing}
use Rattle.world_laws.specs.Places.{Beside, CallPlace, Idle, AsksLease, HasLease, InAsk, InRequest, InNotOwner, SentByPlace, SentByRange, InBounce, IsHeld, IsInHand, Parked, Waits, InAnswer, Ends}
use Rattle.world_laws.specs.Sights.{directory_of, is_born_in}
use Rattle.route_laws.proofs.release.TakenUp.{taken_up}
use Rattle.weight_laws.specs.Weights.{call_at, call_weight, calls_weight}
use Rattle.world_laws.specs.Cancels.{Owing}

-- ---- sums over numbers

-- a sum over so many numbers
abbrev pub over : (ℕ → ℕ) → ℕ → ℕ → ℕ
over f first count = sum_by f (numbers first count)

-- both together
pub over-both : (f g : ℕ → ℕ) (first count : ℕ)
    → over (λ p. f p + g p) first count ≡ over f first count + over g first count
over-both f g first zero = refl
over-both f g first (suc count) =
    let rest = over-both f g (first + 1) count
    in let all = sum_by-cons (λ p. f p + g p) first (numbers (first + 1) count)
    in let ones = sum_by-cons f first (numbers (first + 1) count)
    in let others = sum_by-cons g first (numbers (first + 1) count)
    in omega (arith, rest, all, ones, others)

-- the same of each
pub over-same : (f g : ℕ → ℕ) (first count : ℕ) → ((p : ℕ) → first ≤ p → p < first + count → f p ≡ g p)
    → over f first count ≡ over g first count
over-same f g first zero h = refl
over-same f g first (suc count) h =
    let rest = over-same f g (first + 1) count (λ p low high. h p (omega (arith, low)) (omega (arith, high)))
    in let here = h first (omega arith) (omega arith)
    in let ones = sum_by-cons f first (numbers (first + 1) count)
    in let others = sum_by-cons g first (numbers (first + 1) count)
    in omega (arith, rest, here, ones, others)

-- nothing of any
pub over-none : (first count : ℕ) → over (λ p. 0) first count ≡ 0
over-none first zero = refl
over-none first (suc count) =
    let rest = over-none (first + 1) count
    in let ones = sum_by-cons (λ p. 0) first (numbers (first + 1) count)
    in omega (arith, rest, ones)

-- one of the numbers is this one
over-one : (c first count : ℕ) → first ≤ c → c < first + count → over (λ p. one_if (nat_eq c p)) first count ≡ 1
over-one c first zero low high = absurd (omega arith)
over-one c first (suc count) low high =
    let all = sum_by-cons (λ p. one_if (nat_eq c p)) first (numbers (first + 1) count)
    in elim (cases_eq c first) [
      | inl e ↦
          let here : one_if (nat_eq c first) ≡ 1 = ap one_if (eq-eqb c first e)
          in let none = over-same (λ p. one_if (nat_eq c p)) (λ p. 0) (first + 1) count
          (λ p above below. ap one_if (ne_eqb c p (λ g. omega (arith, e, g, above))))
          in let zero_sum = over-none (first + 1) count
          in omega (arith, all, here, none, zero_sum)
      | inr other ↦
          let here : one_if (nat_eq c first) ≡ 0 = ap one_if (ne_eqb c first other)
          in let rest = over-one c (first + 1) count (omega (arith, low, other)) (omega (arith, high))
          in omega (arith, all, here, rest)
    ]

-- ---- calls among items

-- an item is a call, and no withdrawal or parcel
abbrev pub is_request : Held → Bool
is_request (Request asked) = not (is_withdrawal asked.call)
is_request (Ending parcel) = false

-- how many calls there are
abbrev pub requests_in : List Held → ℕ
requests_in items = sum_by (λ item. one_if (is_request item)) items

abbrev about_in : ℕ → List Held → ℕ
about_in p items = sum_by (λ item. one_if (is_item_about p item)) items

-- a call in the hand or held is of a node of the script
abbrev pub IsOfNode : Script → Held → Type 0
IsOfNode script (Request asked) = (1 ≤ asked.caller) × (asked.caller ≤ node_count script)
IsOfNode script (Ending parcel) = Unit {0}

item-once : (script : Script) (item : Held) → IsOfNode script item
    → over (λ p. one_if (is_item_about p item)) 1 (node_count script) ≡ one_if (is_request item)
item-once script (Request asked) of_node = by-test (not (is_withdrawal asked.call))
  where
    and-true-right : (t : Bool) → (t && true) ≡ t
    and-true-right true = refl
    and-true-right false = refl

    and-false-right : (t : Bool) → (t && false) ≡ false
    and-false-right true = refl
    and-false-right false = refl

    by-test : (t : Bool) → over (λ p. one_if (nat_eq asked.caller p && t)) 1 (node_count script) ≡ one_if t
    by-test true =
        over-same (λ p. one_if (nat_eq asked.caller p && true)) (λ p. one_if (nat_eq asked.caller p)) 1
        (node_count script) (λ p low high. ap one_if (and-true-right (nat_eq asked.caller p)))
        ∙ over-one asked.caller 1 (node_count script) of_node.0 (let high = of_node.1 in omega (arith, high))
    by-test false =
        over-same (λ p. one_if (nat_eq asked.caller p && false)) (λ p. 0) 1 (node_count script)
        (λ p low high. ap one_if (and-false-right (nat_eq asked.caller p)))
        ∙ over-none 1 (node_count script)
item-once script (Ending parcel) of_node = over-none 1 (node_count script)

-- each call is of one node
pub each-once : (script : Script) (items : List Held) → AllByRecursion (IsOfNode script) items
    → over (λ p. about_in p items) 1 (node_count script) ≡ requests_in items
each-once script [] all = over-none 1 (node_count script)
each-once script (item ∷ items) all =
    let rest = each-once script items all.1
    in let here = item-once script item all.0
    in let split = over-same (λ p. about_in p (item ∷ items)) (λ p. one_if (is_item_about p item) + about_in p items) 1
    (node_count script) (λ p low high. sum_by-cons (λ i. one_if (is_item_about p i)) item items)
    in let both = over-both (λ p. one_if (is_item_about p item)) (λ p. about_in p items) 1 (node_count script)
    in let all_of = sum_by-cons (λ i. one_if (is_request i)) item items
    in omega (arith, rest, here, split, both, all_of)

-- ---- calls that are held for a name

one-filtered : (test : Held → Bool) (t : Bool) (item : Held) (items : List Held)
    → length (cond t (item ∷ filter test items) (filter test items)) ≡ one_if t + length (filter test items)
one-filtered test true item items = omega arith
one-filtered test false item items = omega arith

-- the items that pass a test
pub filtered : (test : Held → Bool) (items : List Held)
    → sum_by (λ item. one_if (test item)) items ≡ length (filter test items)
filtered test [] = refl
filtered test (item ∷ items) =
    let rest = filtered test items
    in let one = one-filtered test (test item) item items
    in let all = sum_by-cons (λ i. one_if (test i)) item items
    in omega (arith, rest, one, all)

only-length : (t : Bool) (item : Held) → length (only_if t item) ≡ one_if t
only-length true item = refl
only-length false item = refl

module _ (script : Script) (w : World) (hand : List Held) {owes : Owing} (b : Beside)
    (holds : HoldsOwing script w hand owes b) (name : Name)
  where
    abbrev x : ℕ → CallSight
    x p = call_sight w hand b p

    by-call : (p : ℕ) (o : Option Call) → HasCallOrNone script p (is_born_in w) (x p) o
        → about_in p (held_for (directory_of w) name) ≡ one_if (is_held_at (b.call p) name)
    by-call p (Some call) h =
        let has : HasCall script p (is_born_in w) (x p) call = h
        in let there : IsJustThere p (x p) (asked_of (x p) call) = has.just_there
        in filtered (is_item_about p) (held_for (directory_of w) name)
        ∙ ap length (there.held_for_names name)
        ∙ only-length (is_held_at (b.call p) name) (Request (asked_of (x p) call))
    by-call p None h =
        let none : HasNoCall script p (x p) = h
        in let nowhere : IsNowhere (x p) = none.nowhere
        in filtered (is_item_about p) (held_for (directory_of w) name)
        ∙ ap length (nowhere.held_for_names name)
        ∙ sym (ap (λ place. one_if (is_held_at place name)) none.idle)

    about-held : (p : ℕ) → 1 ≤ p → p ≤ node_count script
        → about_in p (held_for (directory_of w) name) ≡ one_if (is_held_at (b.call p) name)
    about-held p low high =
        let c : CallHolds script p (is_born_in w) (x p) = holds.calls p low high
        in by-call p (x p).caller.under_way c.call

    -- There are as many as nodes whose calls are held for it.
    pub held-count : AllByRecursion (IsOfNode script) (held_for (directory_of w) name)
        → over (λ p. one_if (is_held_at (b.call p) name)) 1 (node_count script)
        ≡ requests_in (held_for (directory_of w) name)
    held-count all =
        sym (over-same (λ p. about_in p (held_for (directory_of w) name)) (λ p. one_if (is_held_at (b.call p) name)) 1
        (node_count script) (λ p low high. about-held p low (omega (arith, high))))
        ∙ each-once script (held_for (directory_of w) name) all

-- ---- they are in hand

up-weight : (name : Name) (place : CallPlace)
    → call_weight (taken_up name place) + 7 * one_if (is_held_at place name) ≡ call_weight place
up-weight name (IsHeld other) = by-test (is_same_name other name)
  where
    by-test : (t : Bool) → call_weight (if t then IsInHand else IsHeld other) + 7 * one_if t ≡ 7
    by-test true = refl
    by-test false = refl
up-weight name Idle = refl
up-weight name (AsksLease kind) = refl
up-weight name (HasLease kind first) = refl
up-weight name InAsk = refl
up-weight name (InRequest to) = refl
up-weight name (InNotOwner sender) = refl
up-weight name (SentByPlace to) = refl
up-weight name (SentByRange to) = refl
up-weight name (InBounce sender) = refl
up-weight name IsInHand = refl
up-weight name Parked = refl
up-weight name (Waits other) = refl
up-weight name (InAnswer sender reply) = refl
up-weight name Ends = refl

ups-weight : (call : ℕ → CallPlace) (name : Name) (first count : ℕ)
    → over (call_at (λ p. taken_up name (call p))) first count
    + 7 * over (λ p. one_if (is_held_at (call p) name)) first count
    ≡ over (call_at call) first count
ups-weight call name first zero = refl
ups-weight call name first (suc count) =
    let rest = ups-weight call name (first + 1) count
    in let one = up-weight name (call first)
    in let now = sum_by-cons (call_at (λ p. taken_up name (call p))) first (numbers (first + 1) count)
    in let ones = sum_by-cons (λ p. one_if (is_held_at (call p) name)) first (numbers (first + 1) count)
    in let old = sum_by-cons (call_at call) first (numbers (first + 1) count)
    in omega (arith, rest, one, now, ones, old)

-- The calls weigh 7 less for each.
pub calls-taken-up : (script : Script) (call : ℕ → CallPlace) (name : Name)
    → calls_weight script (λ p. taken_up name (call p))
    + 7 * over (λ p. one_if (is_held_at (call p) name)) 1 (node_count script)
    ≡ calls_weight script call
calls-taken-up script call name = ups-weight call name 1 (node_count script)
