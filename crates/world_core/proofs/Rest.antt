-- A world whose nodes have no event that is enabled is at rest.
use Rattle.std.proofs.Common.{◌≡◌, ℕ, ◌+◌, ◌-◌, ◌%◌, ◌<◌, ◌≤◌, Bool, true, false, ◌&&◌, List, [], ◌∷◌, length, map, get_or, slice_get, Option, Some, None, refl, sym, ap, ◌∙◌, inl, ⊎_elim, arith}
use Rattle.std.specs.Prelude.{IsTrue, nat_eq}
use Rattle.std.specs.List.{flat_map}
use Rattle.std.proofs.lemmas.Bool.{cases_lt}
use Rattle.std.proofs.lemmas.List.{get_or_past}
use Rattle.std.proofs.lemmas.Option.{slice_get-get_or}
use Rattle.pico_base.specs.declared.script.Event.{Event}
use Rattle.pico_base.specs.declared.script.Event.TheVariants as events
use Rattle.rpc_frame.specs.declared.frame.Frame.{Frame}
use Rattle.world_model.specs.Node.{Node}
use Rattle.world_model.specs.World.{World, numbers, size, node_at, stream, is_number, is_enabled, is_take_enabled}
use Rattle.world_model.specs.Run.{IsAtRest}
use Rattle.world_model.specs.Schedule.{Schedule, InTurn, Drawn, choice, drawn, enabled_at, enabled_events, events_of, nodes_after}
use Rattle.world_core.specs.Laws.{IsWithin, RestIsWhereNothingIsChosen}
use Rattle.world_core.proofs.Enabled.{and_right, run_within, take_within}
use Rattle.world_core.proofs.Members.{Has, Has-left, Has-right, Has-map, Has-filter, Has-flat_map, Has-numbers, nothing-there, filter-none, flat_map-none}
use Rattle.world_core.proofs.Walks.{nothing_first}
use Rattle.world_core.proofs.Worlds.{IsShaped, reachable-shaped}

and_left : (a b : Bool) → (a && b) ≡ true → a ≡ true
and_left true b e = refl
and_left false b e = absurd (let f : ⊥ = cc in f)

number_of : (p : ℕ) → is_number p ≡ true → 1 ≤ p
number_of p e = grind arith

filled_of : (o : Option Node) (fs : List Frame) → is_take_enabled o fs ≡ true → fs ≡ [] → ⊥
filled_of None fs e none = cc
filled_of (Some n) [] e none = cc
filled_of (Some n) (f ∷ fs) e none = cc

-- the nodes of an event that is enabled are nodes of the world

run_listed : (w : World) (p : ℕ) → IsShaped w → is_enabled w (events.Run p) ≡ true
    → (1 ≤ p) × (p ≤ size w) × Has (enabled_at w p) (events.Run p)
run_listed w p shaped enabled =
    let le = run_within w (events.Run p) p enabled refl
    in (
      number_of p (and_left (is_number p) _ enabled),
      omega (arith, shaped.nodes),
      Has-filter (is_enabled w) (events_of (size w) p) (events.Run p)
          (Has-right (map (λ from. events.Take p from) (numbers 1 (size w))) (events.Run p ∷ []) (events.Run p)
          (inl refl)) enabled,
    )

sender_within : (w : World) (p from : ℕ) → IsShaped w → 1 ≤ p → p ≤ size w → (stream w p from ≡ [] → ⊥) → from ≤ size w
sender_within w p from shaped pos le filled =
    let row : List (List Frame) = get_or w.streams (p - 1) []
    in let width : length row ≡ size w = shaped.square (p - 1) (omega (arith, shaped.streams)) ∙ shaped.streams
    in ⊎_elim (λ (lt : size w < from). absurd (filled (get_or_past row (from - 1) [] (omega arith))))
    (λ (ok : from ≤ size w). ok)
    (cases_lt (size w) from)

take_listed : (w : World) (p from : ℕ) → IsShaped w → is_enabled w (events.Take p from) ≡ true
    → (1 ≤ p) × (p ≤ size w) × Has (enabled_at w p) (events.Take p from)
take_listed w p from shaped enabled =
    let numbered = and_left (is_number p && is_number from) _ enabled in
    let pos_p = number_of p (and_left (is_number p) (is_number from) numbered) in
    let pos_from = number_of from (and_right (is_number p) (is_number from) numbered) in
    let le = take_within w (events.Take p from) p from enabled refl in
    let le_p : p ≤ size w = omega (arith, shaped.nodes) in
    let le_from = sender_within w p from shaped pos_p le_p
    (filled_of (node_at w p) (stream w p from) (and_right (is_number p && is_number from) _ enabled)) in
    let take : ℕ → Event = λ k. events.Take p k in (
      pos_p,
      le_p,
      Has-filter (is_enabled w) (events_of (size w) p) (events.Take p from)
          (Has-left (map take (numbers 1 (size w))) (events.Run p ∷ []) (events.Take p from)
          (Has-map take (numbers 1 (size w)) from (Has-numbers (size w) 1 from pos_from (omega arith)))) enabled,
    )

listed : (w : World) (ns : List ℕ) (e : Event) → IsShaped w → ((p : ℕ) → 1 ≤ p → p ≤ size w → Has ns p)
    → is_enabled w e ≡ true → Has (flat_map (enabled_at w) ns) e
listed w ns (events.Run p) shaped all enabled =
    let l = run_listed w p shaped enabled in Has-flat_map (enabled_at w) ns p (events.Run p) (all p l.0 l.1) l.2
listed w ns (events.Take p from) shaped all enabled =
    let l = take_listed w p from shaped enabled in
    Has-flat_map (enabled_at w) ns p (events.Take p from) (all p l.0 l.1) l.2

not_true : (b : Bool) → (b ≡ true → ⊥) → b ≡ false
not_true true h = absurd (h refl)
not_true false h = refl

-- a world is at rest where nodes that include all of its own have no enabled event
pub rests : (w : World) (ns : List ℕ) → IsShaped w → ((p : ℕ) → 1 ≤ p → p ≤ size w → Has ns p)
    → length (flat_map (enabled_at w) ns) ≡ 0 → IsAtRest w
rests w ns shaped all none e =
    not_true (is_enabled w e)
    (λ enabled. nothing-there (flat_map (enabled_at w) ns) e none (listed w ns e shaped all enabled))

-- each of the world's nodes is among the numbers from 1 to its size
pub all_numbers : (w : World) (p : ℕ) → 1 ≤ p → p ≤ size w → Has (numbers 1 (size w)) p
all_numbers w p pos le = Has-numbers (size w) 1 p pos (omega arith)

pub all_after : (w : World) (last p : ℕ) → last ≤ size w → 1 ≤ p → p ≤ size w → Has (nodes_after (size w) last) p
all_after w last p within pos le =
    ⊎_elim (λ (lt : last < p).
    Has-left (numbers (last + 1) (size w - last)) (numbers 1 last) p
    (Has-numbers (size w - last) (last + 1) p (omega arith) (omega arith)))
    (λ (ok : p ≤ last).
    Has-right (numbers (last + 1) (size w - last)) (numbers 1 last) p (Has-numbers last 1 p pos (omega arith)))
    (cases_lt last p)

-- a world at rest has no enabled event to list
pub nothing_at_rest : (w : World) → IsAtRest w → length (enabled_events w) ≡ 0
nothing_at_rest w rest =
    ap length (flat_map-none (enabled_at w) (numbers 1 (size w))
    (λ p. filter-none (is_enabled w) (events_of (size w) p) rest))

-- what a schedule finds

drawn_none : (xs : List Event) (x : ℕ) → slice_get xs (x % length xs) ≡ None → length xs ≡ 0
drawn_none [] x e = refl
drawn_none (y ∷ xs) x e =
    let lt : x % length (y ∷ xs) < length (y ∷ xs) = omega arith
    in absurd (let some = slice_get-get_or (y ∷ xs) (x % length (y ∷ xs)) y lt in let f : ⊥ = cc in f)

choice_none : (w : World) (schedule : Schedule) → IsShaped w → IsWithin (size w) schedule → choice w schedule ≡ None
    → IsAtRest w
choice_none w (InTurn last) shaped within none =
    rests w (nodes_after (size w) last) shaped (λ p pos le. all_after w last p within pos le)
    (let few = nothing_first (flat_map (enabled_at w) (nodes_after (size w) last)) (sym none) in omega arith)
choice_none w (Drawn x) shaped within none =
    rests w (numbers 1 (size w)) shaped (all_numbers w) (drawn_none (enabled_events w) (drawn x) none)

-- a reachable world in which a schedule chooses nothing is at rest
pub rest_is_where_nothing_is_chosen_lemma : RestIsWhereNothingIsChosen
rest_is_where_nothing_is_chosen_lemma script w schedule reached within none =
    choice_none w schedule (reachable-shaped script w reached) within none

-- the test for 0 holds just of 0
pub zero_is : (n : ℕ) → (IsTrue (nat_eq n 0) → n ≡ 0) × (n ≡ 0 → IsTrue (nat_eq n 0))
zero_is n = (λ e. grind arith, λ e. grind arith)
