-- A deed comes back to the leader: with what was held for its name in hand, and its step begun, the weight is lower. So
-- it is afterwards, where the release of the hand makes it no heavier.
use Rattle.std.proofs.Common.{◌≡◌, ℕ, ◌+◌, ◌*◌, ◌≤◌, Bool, true, false, not, ◌&&◌, List, [], ◌∷◌, nat_eq, is_none, Option, Some, None, option_and_then, refl, ap, sym, ◌∙◌, arith, if◌then◌else◌}
use Rattle.std.specs.Prelude.{count_by, sum_by}
use Rattle.std.specs.List.{AllByRecursion}
use Rattle.std.proofs.lemmas.Bool.{false≢true}
use Rattle.std.proofs.lemmas.List.Sums.{length-filter, sum_by-cons}
use Rattle.pico_base.specs.declared.call.Home.{Home}
use Rattle.pico_base.specs.declared.call.Home.TheVariants as homes
use Rattle.pico_base.specs.declared.numbers.Name.{Name}
use Rattle.pico_base.specs.declared.script.Script.{Script}
use Rattle.pico_base.specs.Home.{home_of}
use Rattle.rpc_frame.specs.declared.deed.PackedDeed.{PackedDeed}
use Rattle.rpc_frame.specs.declared.frame.Frame.{Frame}
use Rattle.rpc_frame.specs.declared.frame.Frame.TheVariants as frames
use Rattle.kernel_laws.proofs.Plain.{not_some}
use Rattle.node_model.specs.Bodies.{Body}
use Rattle.node_model.specs.declared.held.Held.{Held}
use Rattle.node_model.specs.declared.held.Held.TheVariants.{Request, Ending}
use Rattle.node_model.specs.Directory.{At, Coming, Directory, Place, arrive, bound_for, destination_of, held_for, is_coming, is_coming_to, is_known, is_parcel, items_of, place_of}
use Rattle.node_model.specs.Spelling.{read_deed}
use Rattle.world_model.specs.Census.{one_if}
use Rattle.world_model.specs.Moves.{come_back, goes_on_to, is_new_here, keep, pass_on, take_give_back, has_nodes}
use Rattle.world_model.specs.Node.{Node, is_leader}
use Rattle.world_model.specs.Releases.{release}
use Rattle.world_model.specs.Step.{Step}
use Rattle.world_model.specs.World.{World, node_count}
use Rattle.world_laws.specs.Families.{NodeHolds}
use Rattle.world_laws.specs.Invariant.{Holds}
use Rattle.world_laws.specs.Names.{IsItemFor, NameHolds, name_sight}
use Rattle.world_laws.specs.Places.{Beside, CallPlace}
use Rattle.world_laws.specs.Plays.{is_home_on}
use Rattle.world_laws.specs.Sights.{directory_of, is_born_in, node_of}
use Rattle.world_laws.proofs.Named.{same-name-is}
use Rattle.world_laws.proofs.Steps.{Heads}
use Rattle.rule_laws.proofs.Places.{place-with-same}
use Rattle.route_laws.proofs.release.TakenUp.{taken_up}
use Rattle.weight_laws.specs.Weights.{calls_weight, cost_if, destination_weight, directory_weight, is_away, item_weight, middle_weight, node_weight, routing_weight, is_held_cancel}
use Rattle.weight_laws.proofs.Costs.{table-none}
use Rattle.weight_laws.proofs.Counts.{IsOfNode, calls-taken-up, filtered, held-count, is_request, requests_in}
use Rattle.weight_laws.proofs.Events.{Lowers, TakesLower}
use Rattle.weight_laws.proofs.Hand.{IsRemovalOnly, RemovalsAreOf, RemovesOnly, back-low, back_weight, none-back}
use Rattle.weight_laws.proofs.Routes.{IsComing}
use Rattle.weight_laws.proofs.Parts.{and-left, and-right, passed, place-replaces}
use Rattle.waiting_model.specs.Calls.{is_withdrawal}

-- ---- what is held for a name

known-home : (d : Directory) (name : Name) → is_known d name ≡ true → (home : Home) → is_home_on name home ≡ true
    → routing_weight d home ≤ 7
known-home d name known (homes.At other) on =
    let cost : cost_if (is_known d other) ≡ 7 =
    ap (λ m. cost_if (is_known d m)) (sym (same-name-is name other on)) ∙ ap cost_if known
    in omega (arith, cost)
known-home d name known (homes.Removal other) on =
    let cost : cost_if (is_known d other) ≡ 7 =
    ap (λ m. cost_if (is_known d m)) (sym (same-name-is name other on)) ∙ ap cost_if known
    in omega (arith, cost)
known-home d name known homes.Own on = absurd (false≢true on)
known-home d name known homes.Keys on = absurd (false≢true on)
known-home d name known homes.Parent on = absurd (false≢true on)

-- how many of them
abbrev pub ones : (Held → Bool) → List Held → ℕ
ones test items = sum_by (λ item. one_if (test item)) items

-- as many parcels
pub parcels-counted : (items : List Held) → ones is_parcel items ≡ count_by is_parcel items
parcels-counted items = filtered is_parcel items ∙ length-filter is_parcel items

-- and withdrawals
pub cancels-counted : (items : List Held) → ones is_held_cancel items ≡ count_by is_held_cancel items
cancels-counted items = filtered is_held_cancel items ∙ length-filter is_held_cancel items

item-costs : (d : Directory) (name : Name) → is_known d name ≡ true → (item : Held) → IsItemFor name item
    → item_weight d item ≤ 7 * one_if (is_request item) + (one_if (is_parcel item) + 3 * one_if (is_held_cancel item))
item-costs d name known (Request asked) on =
    by-test (is_withdrawal asked.call) (known-home d name known (home_of asked.pid asked.call) on)
  where
    by-test : (t : Bool) → routing_weight d (home_of asked.pid asked.call) ≤ 7
        → (if t then 3 else routing_weight d (home_of asked.pid asked.call)) ≤ 7 * one_if (not t) + (0 + 3 * one_if t)
    by-test true cost = omega arith
    by-test false cost = omega (arith, cost)
item-costs d name known (Ending parcel) on = omega arith

items-by-one : (d : Directory) (name : Name) → is_known d name ≡ true → (items : List Held)
    → AllByRecursion (IsItemFor name) items
    → sum_by (item_weight d) items
    ≤ 7 * requests_in items + (ones is_parcel items + 3 * ones is_held_cancel items)
items-by-one d name known [] all = omega arith
items-by-one d name known (item ∷ items) all =
    let rest = items-by-one d name known items all.1
    in let one = item-costs d name known item all.0
    in let now = sum_by-cons (item_weight d) item items
    in let calls = sum_by-cons (λ i. one_if (is_request i)) item items
    in let parcels = sum_by-cons (λ i. one_if (is_parcel i)) item items
    in let cancels = sum_by-cons (λ i. one_if (is_held_cancel i)) item items
    in omega (arith, rest, one, now, calls, parcels, cancels)

-- what held items weigh besides calls
abbrev pub besides_calls : List Held → ℕ
besides_calls items = count_by is_parcel items + 3 * count_by is_held_cancel items

-- In hand, for a name that is known, a call may cost 7, a parcel 1 and a withdrawal 3.
pub items-cost : (d : Directory) (name : Name) → is_known d name ≡ true → (items : List Held)
    → AllByRecursion (IsItemFor name) items
    → sum_by (item_weight d) items ≤ 7 * requests_in items + besides_calls items
items-cost d name known items all =
    let cost = items-by-one d name known items all
    in let count = parcels-counted items
    in let cancels = cancels-counted items
    in omega (arith, cost, count, cancels)

removal-only : (name : Name) (home : Home) → is_home_on name home ≡ true → RemovesOnly name home
removal-only name (homes.Removal other) on = sym (same-name-is name other on)
removal-only name (homes.At other) on = tt
removal-only name homes.Own on = tt
removal-only name homes.Keys on = tt
removal-only name homes.Parent on = tt

item-only : (name : Name) (item : Held) → IsItemFor name item → IsRemovalOnly name item
item-only name (Request asked) on = removal-only name (home_of asked.pid asked.call) on
item-only name (Ending parcel) on = tt

-- the removals among them are of the name
pub items-only : (name : Name) (items : List Held) → AllByRecursion (IsItemFor name) items → RemovalsAreOf name items
items-only name [] all = tt
items-only name (item ∷ items) all = (item-only name item all.0, items-only name items all.1)

-- ---- the deed comes

goes-for : (d : Directory) (to : Option ℕ) (other : ℕ) → goes_on_to d to ≡ Some other → destination_weight to ≡ 3
goes-for d None other h = not_some other h
goes-for d (Some to) other h = refl

coming-is : (o : Option Place) → is_coming_to o ≡ true → IsComing o
coming-is None h = absurd (false≢true h)
coming-is (Some (At node)) h = absurd (false≢true h)
coming-is (Some (Coming to items)) h = record { to = to; items = items; is = refl }

module _ (script : Script) (w : World) (b : Beside) (holds : Holds script w [] b) (high : 1 ≤ node_count script)
    (name : Name) (of_nodes : AllByRecursion (IsOfNode script) (held_for (directory_of w) name))
    (coming : IsComing (place_of (directory_of w) name)) where
  abbrev n : Node
  n = node_of w 1

  abbrev d : Directory
  d = directory_of w

  abbrev items : List Held
  items = held_for d name

  -- what was held for the name is in hand
  abbrev pub calls_up : ℕ → CallPlace
  calls_up p = taken_up name (b.call p)

  items-are-for : AllByRecursion (IsItemFor name) items
  items-are-for =
      let its : NameHolds script b.pids (is_born_in w) name (name_sight script w [] b name) = holds.names name
      in its.items

  leads : is_leader n ≡ true
  leads =
      let m : NodeHolds script b.pids (is_born_in w) 1 n = holds.nodes 1 (omega arith) high
      in ap (λ x. nat_eq x 1) m.number

  -- the name's place is a node
  freed : (node : ℕ)
      → directory_weight (arrive d name node) + destination_weight coming.to + besides_calls items
      ≤ directory_weight d
  freed node =
      let less = place-replaces d name (At node) (Coming coming.to coming.items) holds.leading coming.is
      in let same : besides_calls items ≡ besides_calls coming.items =
      ap (λ o. besides_calls (items_of o)) coming.is
      in omega (arith, less, same)

  cost-there : (node : ℕ)
      → sum_by (item_weight (arrive d name node)) items ≤ 7 * requests_in items + besides_calls items
  cost-there node =
      items-cost (arrive d name node) name (ap (λ o. not (is_none o)) (place-with-same d name (At node))) items
      items-are-for

  -- they weigh 7 less in hand
  calls-less : calls_weight script calls_up + 7 * requests_in items ≡ calls_weight script b.call
  calls-less =
      let up = calls-taken-up script b.call name
      in let count = held-count script w [] b holds name of_nodes
      in omega (arith, up, count)

  -- it stays
  kept : (body : Body) → middle_weight script (pass_on n name body None) items calls_up
      ≤ node_weight script n + calls_weight script b.call
  kept body =
      let less = freed 1
      in let cost = cost-there 1
      in let none : back_weight (arrive d name 1) items ≡ 0 =
      none-back (arrive d name 1) name (ap is_away (place-with-same d name (At 1))) items
      (items-only name items items-are-for)
      in let calls = calls-less
      in let table = table-none (keep n name body) leads
      in omega (arith, less, cost, none, calls, table)

  -- or it goes on
  sent-on : (body : Body) (to : ℕ) → goes_on_to d (bound_for d name) ≡ Some to
      → middle_weight script (pass_on n name body (Some to)) items calls_up
      ≤ node_weight script n + calls_weight script b.call
  sent-on body to goes =
      let less = freed to
      in let cost = cost-there to
      in let one = back-low (arrive d name to) items
      in let calls = calls-less
      in let three : destination_weight coming.to ≡ 3 =
      goes-for d coming.to to (sym (ap (λ o. goes_on_to d (destination_of o)) coming.is) ∙ goes)
      in omega (arith, less, cost, one, calls, three)

  by-goal : (body : Body) (o : Option ℕ) → goes_on_to d (bound_for d name) ≡ o
      → middle_weight script (pass_on n name body o) items calls_up
      ≤ node_weight script n + calls_weight script b.call
  by-goal body None e = kept body
  by-goal body (Some to) e = sent-on body to e

  -- In the middle of the event it weighs no more than before without the frame.
  pub give-back-begins : (body : Body)
      → middle_weight script (pass_on n name body (goes_on_to d (bound_for d name))) items calls_up
      ≤ node_weight script n + calls_weight script b.call
  give-back-begins body = by-goal body (goes_on_to d (bound_for d name)) refl

-- ---- the event

module _ (script : Script) (w : World) (b : Beside) (holds : Holds script w [] b) (q : ℕ) (packed : PackedDeed)
    (rest : List Frame) (h : Heads script w 1 q (frames.GiveBack packed) rest)
    (of_nodes : AllByRecursion (IsOfNode script) (held_for (directory_of w) packed.name))
    (call_after : ℕ → CallPlace) where
  abbrev m : Node
  m = node_of w 1

  abbrev held : List Held
  held = held_for (directory_of w) packed.name

  abbrev begun : Body → Step
  begun body =
      pass_on m packed.name body (goes_on_to (directory_of w) (bound_for (directory_of w) packed.name))

  -- the release makes it no heavier
  abbrev pub ReleaseIsLight : Type 0
  ReleaseIsLight =
      (body : Body) (t : Step) → read_deed packed ≡ Some body → release script held (begun body) ≡ Some t
      → middle_weight script t [] call_after
      ≤ middle_weight script (begun body) held (λ p. taken_up packed.name (b.call p))

  ended : (body : Body) (t : Step) → read_deed packed ≡ Some body
      → IsComing (place_of (directory_of w) packed.name) → ReleaseIsLight
      → release script held (begun body) ≡ Some t → Lowers script m 1 b.call call_after t
  ended body t e coming light is =
      let less = light body t e is
      in let begins = give-back-begins script w b holds h.high packed.name of_nodes coming body
      in record { lower = omega (arith, less, begins) }

  by-body : (t : Step) (o : Option Body) → read_deed packed ≡ o
      → IsComing (place_of (directory_of w) packed.name) → ReleaseIsLight
      → option_and_then (come_back script m packed.name) o ≡ Some t → Lowers script m 1 b.call call_after t
  by-body t None e coming light is = not_some t is
  by-body t (Some body) e coming light is =
      ended body t e coming light
      (passed (has_nodes script body) (release script held (begun body)) t is).1

  give-back-lowers : ReleaseIsLight → (t : Step) → take_give_back script m q packed ≡ Some t
      → Lowers script m 1 b.call call_after t
  give-back-lowers light t rule =
      let test = passed (is_leader m && (is_coming (directory_of w) packed.name && is_new_here m packed.name))
      (option_and_then (come_back script m packed.name) (read_deed packed)) t rule
      in by-body t (read_deed packed) refl
      (coming-is (place_of (directory_of w) packed.name) (and-left _ _ (and-right _ _ test.0))) light test.1

  -- So the event lowers the weight.
  pub give-back-falls : ReleaseIsLight → TakesLower script w 1 q (frames.GiveBack packed) b.call call_after
  give-back-falls light = give-back-lowers light
