-- The leader's hand: what the items that stay in it weigh with another directory.
use Rattle.std.proofs.Common.{◌≡◌, ℕ, ◌+◌, ◌≤◌, Bool, true, false, ◌||◌, if◌then◌else◌, List, [], ◌∷◌, refl, ap, ◌∙◌, arith}
use Rattle.std.specs.Prelude.{sum_by}
use Rattle.std.specs.List.{AllByRecursion, list_any}
use Rattle.std.proofs.lemmas.Bool.{false≢true}
use Rattle.std.proofs.lemmas.List.Sums.{sum_by-cons}
use Rattle.pico_base.specs.declared.call.Home.{Home}
use Rattle.pico_base.specs.declared.call.Home.TheVariants as homes
use Rattle.pico_base.specs.declared.numbers.Name.{Name}
use Rattle.pico_base.specs.declared.script.Script.{Script}
use Rattle.pico_base.specs.Home.{home_of}
use Rattle.rpc_frame.specs.declared.asked.Asked.{Asked}
use Rattle.waiting_model.specs.Calls.{is_withdrawal}
use Rattle.node_model.specs.declared.held.Held.{Held}
use Rattle.node_model.specs.declared.held.Held.TheVariants.{Request, Ending}
use Rattle.node_model.specs.Directory.{Directory, is_known, place_of}
use Rattle.node_model.specs.Kinds.{is_object}
use Rattle.world_model.specs.Census.{one_if}
use Rattle.world_model.specs.World.{node_count}
use Rattle.world_model.specs.Step.{Step}
use Rattle.world_laws.specs.Places.{CallPlace, IsInHand, call_in}
use Rattle.route_laws.proofs.hand.Routes.{removal-of-object}
use Rattle.route_laws.proofs.release.RoutedParcels.{directory_in}
use Rattle.weight_laws.specs.Weights.{asks_back, call_weight, cost_if, hand_weight, is_away, item_weight, middle_weight, removes_away, routing_weight}
use Rattle.weight_laws.proofs.Costs.{step_weight}
use Rattle.weight_laws.proofs.Known.{KnowsMore}
use Rattle.weight_laws.proofs.Sums.{call-moves}

-- ---- what each item may cost

cost-less : (a c : Bool) → (a ≡ true → c ≡ true) → cost_if c ≤ cost_if a
cost-less true c h = let e : cost_if c ≡ cost_if true = ap cost_if (h refl) in omega (arith, e)
cost-less false true h = omega arith
cost-less false false h = omega arith

routing-less : (d d' : Directory) → KnowsMore d d' → (home : Home) → routing_weight d' home ≤ routing_weight d home
routing-less d d' knows (homes.At name) = cost-less (is_known d name) (is_known d' name) (knows name)
routing-less d d' knows (homes.Removal name) = cost-less (is_known d name) (is_known d' name) (knows name)
routing-less d d' knows homes.Own = omega arith
routing-less d d' knows homes.Keys = omega arith
routing-less d d' knows homes.Parent = omega arith

item-less : (d d' : Directory) → KnowsMore d d' → (item : Held) → item_weight d' item ≤ item_weight d item
item-less d d' knows (Request asked) = by-test (is_withdrawal asked.call)
  where
    by-test : (t : Bool)
        → (if t then 3 else routing_weight d' (home_of asked.pid asked.call))
        ≤ (if t then 3 else routing_weight d (home_of asked.pid asked.call))
    by-test true = omega arith
    by-test false = routing-less d d' knows (home_of asked.pid asked.call)
item-less d d' knows (Ending parcel) = omega arith

-- with more known names it may cost less
pub items-less : (d d' : Directory) → KnowsMore d d' → (hand : List Held)
    → sum_by (item_weight d') hand ≤ sum_by (item_weight d) hand
items-less d d' knows [] = omega arith
items-less d d' knows (item ∷ hand) =
    let rest = items-less d d' knows hand
    in let one = item-less d d' knows item
    in let now = sum_by-cons (item_weight d') item hand
    in let old = sum_by-cons (item_weight d) item hand
    in omega (arith, rest, one, now, old)

cost-low : (known : Bool) → 7 ≤ cost_if known
cost-low true = omega arith
cost-low false = omega arith

-- a call may cost 7
pub routing-low : (d : Directory) (home : Home) → 7 ≤ routing_weight d home
routing-low d (homes.At name) = cost-low (is_known d name)
routing-low d (homes.Removal name) = cost-low (is_known d name)
routing-low d homes.Own = omega arith
routing-low d homes.Keys = omega arith
routing-low d homes.Parent = omega arith

-- ---- removals for which a name has to be asked back

-- 1 where one of the items needs that
abbrev pub back_weight : Directory → List Held → ℕ
back_weight d hand = one_if (list_any (asks_back d) hand)

one-less : (a c : Bool) → (a ≡ true → c ≡ true) → one_if a ≤ one_if c
one-less false c h = omega arith
one-less true c h = let e : one_if c ≡ 1 = ap one_if (h refl) in omega (arith, e)

or-right : (a c : Bool) → c ≡ true → (a || c) ≡ true
or-right true c h = refl
or-right false c h = h

or-less : (a c b d : Bool) → (a ≡ true → c ≡ true) → (b ≡ true → d ≡ true) → (a || b) ≡ true → (c || d) ≡ true
or-less true c b d h g e = let there : c ≡ true = h refl in ap (λ t. t || d) there
or-less false c b d h g e = or-right c d (g e)

-- one at most
pub back-low : (d : Directory) (hand : List Held) → back_weight d hand ≤ 1
back-low d hand = by-test (list_any (asks_back d) hand)
  where
    by-test : (t : Bool) → one_if t ≤ 1
    by-test true = omega arith
    by-test false = omega arith

-- fewer queues and sets are away
abbrev pub FewerAway : Directory → Directory → Type 0
FewerAway d d' =
    (m : Name) → is_object m ≡ true → is_away (place_of d' m) ≡ true → is_away (place_of d m) ≡ true

removes-less : (d d' : Directory) → FewerAway d d' → (home : Home)
    → ((name : Name) → home ≡ homes.Removal name → is_object name ≡ true)
    → removes_away d' home ≡ true → removes_away d home ≡ true
removes-less d d' fewer (homes.Removal name) object h = fewer name (object name refl) h
removes-less d d' fewer (homes.At name) object h = absurd (false≢true h)
removes-less d d' fewer homes.Own object h = absurd (false≢true h)
removes-less d d' fewer homes.Keys object h = absurd (false≢true h)
removes-less d d' fewer homes.Parent object h = absurd (false≢true h)

asks-less : (d d' : Directory) → FewerAway d d' → (item : Held) → asks_back d' item ≡ true → asks_back d item ≡ true
asks-less d d' fewer (Request asked) h =
    removes-less d d' fewer (home_of asked.pid asked.call) (removal-of-object asked.pid asked.call) h
asks-less d d' fewer (Ending parcel) h = absurd (false≢true h)

some-less : (d d' : Directory) → FewerAway d d' → (hand : List Held) → list_any (asks_back d') hand ≡ true
    → list_any (asks_back d) hand ≡ true
some-less d d' fewer [] h = h
some-less d d' fewer (item ∷ hand) h =
    or-less (asks_back d' item) (asks_back d item) (list_any (asks_back d') hand) (list_any (asks_back d) hand)
    (asks-less d d' fewer item) (some-less d d' fewer hand) h

-- then no more has to be asked back
pub back-less : (d d' : Directory) → FewerAway d d' → (hand : List Held) → back_weight d' hand ≤ back_weight d hand
back-less d d' fewer hand =
    one-less (list_any (asks_back d') hand) (list_any (asks_back d) hand) (some-less d d' fewer hand)

-- nor with one item fewer
pub back-rest : (d : Directory) (item : Held) (hand : List Held) → back_weight d hand ≤ back_weight d (item ∷ hand)
back-rest d item hand =
    one-less (list_any (asks_back d) hand) (list_any (asks_back d) (item ∷ hand))
    (or-right (asks_back d item) (list_any (asks_back d) hand))

-- ---- the removals of a hand are of one name

-- a call removes no other name
abbrev pub RemovesOnly : Name → Home → Type 0
RemovesOnly name (homes.Removal other) = other ≡ name
RemovesOnly name home = Unit {0}

-- nor does an item
abbrev pub IsRemovalOnly : Name → Held → Type 0
IsRemovalOnly name (Request asked) = RemovesOnly name (home_of asked.pid asked.call)
IsRemovalOnly name (Ending parcel) = Unit {0}

-- nor any of a hand
abbrev pub RemovalsAreOf : Name → List Held → Type 0
RemovalsAreOf name hand = AllByRecursion (IsRemovalOnly name) hand

none-removed : (d : Directory) (name : Name) → is_away (place_of d name) ≡ false → (home : Home)
    → RemovesOnly name home → removes_away d home ≡ false
none-removed d name here (homes.Removal other) only = ap (λ m. is_away (place_of d m)) only ∙ here
none-removed d name here (homes.At other) only = refl
none-removed d name here homes.Own only = refl
none-removed d name here homes.Keys only = refl
none-removed d name here homes.Parent only = refl

none-asked : (d : Directory) (name : Name) → is_away (place_of d name) ≡ false → (item : Held)
    → IsRemovalOnly name item → asks_back d item ≡ false
none-asked d name here (Request asked) only = none-removed d name here (home_of asked.pid asked.call) only
none-asked d name here (Ending parcel) only = refl

-- where that isn't away, nothing has to be asked back
pub none-back : (d : Directory) (name : Name) → is_away (place_of d name) ≡ false → (hand : List Held)
    → RemovalsAreOf name hand → back_weight d hand ≡ 0
none-back d name here [] only = refl
none-back d name here (item ∷ hand) only =
    ap (λ t. one_if (t || list_any (asks_back d) hand)) (none-asked d name here item only.0)
    ∙ none-back d name here hand only.1

-- ---- the first call goes

-- what its route costs, with what is left in hand and the call's place, is what it may cost
pub first-goes : (script : Script) (s t : Step) (asked : Asked) (rest : List Held) (call : ℕ → CallPlace)
    (place : CallPlace) → 1 ≤ asked.caller → asked.caller ≤ node_count script → call asked.caller ≡ IsInHand
    → step_weight script t + hand_weight (directory_in t) rest + call_weight place
    ≤ step_weight script s + hand_weight (directory_in s) (Request asked ∷ rest)
    → middle_weight script t rest (call_in call asked.caller place)
    ≤ middle_weight script s (Request asked ∷ rest) call
first-goes script s t asked rest call place low high is less =
    let moved = call-moves script call asked.caller place low high
    in let old : call_weight (call asked.caller) ≡ 0 = ap call_weight is
    in omega (arith, less, moved, old)
