-- What is frozen may stand in an image, and isn't too large for one.
use Rattle.std.proofs.Common.{◌≡◌, ℕ, suc, ◌+◌, ◌*◌, ◌^◌, ◌<◌, ◌≤◌, Bool, true, false, cond, eqb, ltb, ◌&&◌, List, [], ◌∷◌, ◌++◌, length, inl, refl, ap, subst, arith, length-append}
use Rattle.std.specs.Prelude.{codes, sum_by}
use Rattle.std.specs.Fmt.{decimal}
use Rattle.std.specs.List.{AllByRecursion}
use Rattle.std.proofs.lemmas.Bool.{and_parts, leb-true, ltb-true}
use Rattle.std.proofs.lemmas.Fmt.{length-decimal-le}
use Rattle.std.proofs.lemmas.List.Sorted.{IsPermutation-refl, length_permutation}
use Rattle.pico_base.specs.declared.script.Event.{Event}
use Rattle.pico_base.specs.declared.script.Event.TheVariants as events
use Rattle.pico_base.specs.declared.script.Script.{Script}
use Rattle.stamp_merge.specs.declared.Stamped.{Stamped}
use Rattle.stamp_merge.specs.Merge.{AreInOrder, IsBefore, StampsRise, items_of}
use Rattle.stamp_merge.proofs.Filters.{all-map}
use Rattle.kernel_model.specs.Script.{IsSoundScript, calls_in}
use Rattle.script_reader.specs.Fault.{Reads}
use Rattle.world_model.specs.World.{World, size, node_count, is_enabled, is_take_enabled, node_at, stream}
use Rattle.world_model.specs.Schedule.{InTurn, Schedule, node_of}
use Rattle.image_text.specs.Grammar.{HasNodes, IsOrderOf, MayStand, StampsRiseByNode}
use Rattle.image_text.specs.Image.{act_text, by_node, closed, count_line, ended, event_line, event_lines, image_text, lacks_feed, max_image}
use Rattle.image_text.proofs.Frozen.{blocks-few, low-nodes}
use Rattle.image_text.proofs.Grouped.{all-by-node, by-node-same}
use Rattle.pico_cmd.specs.Frozen.{stamped_event, stamped_from}
use Rattle.pico_cmd.specs.Taking.{Takes}
use Rattle.pico_cmd.proofs.Chosen.{IsNext, SenderWithin, choice_next, choice_sender}
use Rattle.pico_cmd.proofs.Runs.{step_script}
use Rattle.pico_cmd.proofs.Sizes.{script_short}

-- ---- the nodes of what a schedule takes

some_number : (p : ℕ) (b : Bool) → (ltb 0 p && b) ≡ true → 1 ≤ p
some_number p b is = let lt : 0 < p = ltb-true 0 p (and_parts (ltb 0 p) b is).0 in omega (arith, lt)

nodes_of : (count : ℕ) (w : World) (e : Event) → is_enabled w e ≡ true → node_of e ≤ count → SenderWithin count e
    → HasNodes count e
nodes_of count w (events.Run p) is le from_le = (some_number p _ is, le)
nodes_of count w (events.Take p from) is le from_le =
    let both = and_parts (ltb 0 p && ltb 0 from) (is_take_enabled (node_at w p) (stream w p from)) is in
    ((some_number p (ltb 0 from) both.0, le), (some_number from true (and_true (ltb 0 p) (ltb 0 from) both.0), from_le))
  where
    and_true : (a b : Bool) → (a && b) ≡ true → (b && true) ≡ true
    and_true true true h = refl
    and_true true false h = h
    and_true false b h = absurd cc

-- they are nodes of the script
pub takes_nodes : (w : World) (p : ℕ) (es : List Event) (now : World) (at : Schedule) → p ≤ size w
    → Takes w (InTurn p) es now at → AllByRecursion (HasNodes (size w)) es
takes_nodes w p [] now at le t = tt
takes_nodes w p (e ∷ es) now at le t =
    let next : IsNext w (size w) e = choice_next w (InTurn p) e le t.chosen in
    let script : t.next.script ≡ w.script = step_script w e t.next t.steps in
    let same : size t.next ≡ size w = ap (λ (s : Script). node_count s) script in (
      nodes_of (size w) w e next.enabled next.within (choice_sender w (InTurn p) e t.chosen),
      subst (λ (n : ℕ). AllByRecursion (HasNodes n) es) same
          (takes_nodes t.next (node_of e) es now at (omega (arith, same, next.within)) t.rest),
    )

-- ---- stamps

-- it may stand in an image of a script with so many nodes, and its stamp is low
abbrev IsLow : ℕ → ℕ → Stamped Event → Type 0
IsLow nodes top e = MayStand nodes e × (e.stamp < top)

stands : (nodes top stamp : ℕ) (es : List Event) → 1 ≤ stamp → stamp + length es ≤ top → top ≤ 1000000
    → AllByRecursion (HasNodes nodes) es → AllByRecursion (IsLow nodes top) (stamped_from stamp es)
stands nodes top stamp [] low le few all = tt
stands nodes top stamp (e ∷ es) low le few all = (
  (
    record { low = low; high = omega (arith, le, few); own = refl; there = all.0 },
    omega (arith, le),
  ),
  stands nodes top (stamp + 1) es (omega arith) (omega (arith, le)) few all.1,
)

-- those of later events are greater
later : (low stamp : ℕ) (es : List Event) → low ≤ stamp
    → AllByRecursion (λ (f : Stamped Event). low ≤ f.stamp) (stamped_from stamp es)
later low stamp [] le = tt
later low stamp (e ∷ es) le = (le, later low (stamp + 1) es (omega (arith, le)))

-- they stand in order
stamped_in_order : (stamp : ℕ) (es : List Event) → AreInOrder (stamped_from stamp es)
stamped_in_order stamp [] = tt
stamped_in_order stamp (e ∷ es) = (
  all-map {P = λ (f : Stamped Event). stamp + 1 ≤ f.stamp} {Q = IsBefore (stamped_event stamp e)}
      (λ (f : Stamped Event) h. inl (omega (arith, h))) (stamped_from (stamp + 1) es)
      (later (stamp + 1) (stamp + 1) es (omega arith)),
  stamped_in_order (stamp + 1) es,
)

-- so they are their own order
pub order_of_stamped : (es : List Event) → IsOrderOf (stamped_from 1 es) (stamped_from 1 es)
order_of_stamped es =
    record { in_order = stamped_in_order 1 es; same = IsPermutation-refl (stamped_from 1 es) }

-- what holds of all holds of those of one node
of_node : (P : Stamped Event → Type 0) (p : ℕ) (xs : List (Stamped Event)) → AllByRecursion P xs
    → AllByRecursion P (items_of p xs)
of_node P p [] all = tt
of_node P p (x ∷ xs) all = of (eqb x.node p) (of_node P p xs all.1)
  where
    of : (b : Bool) → AllByRecursion P (items_of p xs) → AllByRecursion P (cond b (x ∷ items_of p xs) (items_of p xs))
    of true rest = (all.0, rest)
    of false rest = rest

rises : (p stamp : ℕ) (es : List Event) → StampsRise (items_of p (stamped_from stamp es))
rises p stamp [] = tt
rises p stamp (e ∷ es) = of (eqb (node_of e) p) (items_of p (stamped_from (stamp + 1) es))
    (of_node (λ (f : Stamped Event). stamp + 1 ≤ f.stamp) p (stamped_from (stamp + 1) es)
    (later (stamp + 1) (stamp + 1) es (omega arith))) (rises p (stamp + 1) es)
  where
    of : (b : Bool) (behind : List (Stamped Event))
        → AllByRecursion (λ (f : Stamped Event). stamp + 1 ≤ f.stamp) behind → StampsRise behind
        → StampsRise (cond b (stamped_event stamp e ∷ behind) behind)
    of true behind above rest = (
      all-map {P = λ (f : Stamped Event). stamp + 1 ≤ f.stamp} {Q = λ (f : Stamped Event). stamp < f.stamp}
          (λ (f : Stamped Event) h. omega (arith, h)) behind above,
      rest,
    )
    of false behind above rest = rest

-- each node's stamps rise
pub stamped_rise : (es : List Event) → StampsRiseByNode (stamped_from 1 es)
stamped_rise es p = rises p 1 es

-- they may stand in an image of the script
pub stamped_stand : (nodes : ℕ) (es : List Event) → length es ≤ 640000 → AllByRecursion (HasNodes nodes) es
    → AllByRecursion (MayStand nodes) (stamped_from 1 es)
stamped_stand nodes es few all =
    all-map {P = IsLow nodes 640001} {Q = MayStand nodes} (λ (e : Stamped Event) h. h.0) (stamped_from 1 es)
    (stands nodes 640001 1 es (omega arith) (omega (arith, few)) (omega arith) all)

-- ---- the bytes

-- digits of a small number
digits : (k n : ℕ) → 0 < k → n < 10 ^ k → n < 1000000 → length (decimal n) ≤ k
digits k n some small low = length-decimal-le k n some small (omega (arith, low))

act_short : (nodes : ℕ) (e : Event) → nodes ≤ 32 → HasNodes nodes e → length (act_text e) ≤ 7
act_short nodes (events.Run p) few there = omega arith
act_short nodes (events.Take p from) few there =
    let high : from ≤ nodes = there.1.1 in
    let number : length (decimal from) ≤ 2 = digits 2 from (omega arith) (omega (arith, high, few)) (omega
    (arith, high, few)) in
    let whole : length (act_text (events.Take p from)) ≡ 5 + length (decimal from) =
    length-append (codes "take ") (decimal from) in
    omega (arith, number, whole)

line_short : (nodes : ℕ) (e : Stamped Event) → nodes ≤ 32 → IsLow nodes 640001 e
    → length (ended (event_line e)) ≤ 18
unfolding event_line
line_short nodes e few low =
    let own : e.node ≡ node_of e.item = low.0.own in
    let act : length (act_text e.item) ≤ 7 = act_short nodes e.item few low.0.there in
    let stamp : length (decimal e.stamp) ≤ 6 = digits 6 e.stamp (omega arith) (omega (arith, low.1)) (omega
    (arith, low.1)) in
    let high : node_of e.item ≤ nodes = node_low nodes e.item low.0.there in
    let node : length (decimal e.node) ≤ 2 = digits 2 e.node (omega arith) (omega (arith, own, high, few)) (omega
    (arith, own, high, few)) in
    let a = length-append (decimal e.stamp) (codes " ") in
    let b = length-append (decimal e.stamp ++ codes " ") (decimal e.node) in
    let c = length-append (decimal e.stamp ++ codes " " ++ decimal e.node) (codes " ") in
    let d = length-append (decimal e.stamp ++ codes " " ++ decimal e.node ++ codes " ") (act_text e.item) in
    let f = length-append (event_line e) (10 ∷ []) in
    omega (arith, act, stamp, node, a, b, c, d, f)
  where
    node_low : (nodes : ℕ) (e : Event) → HasNodes nodes e → node_of e ≤ nodes
    node_low nodes (events.Run p) there = there.1
    node_low nodes (events.Take p from) there = there.0.1

lines_short : (xs : List (Stamped Event))
    → AllByRecursion (λ (e : Stamped Event). length (ended (event_line e)) ≤ 18) xs
    → length (event_lines xs) ≤ 18 * length xs
lines_short [] all = omega arith
lines_short (x ∷ xs) all =
    let rest = lines_short xs all.1 in
    let whole = length-append (ended (event_line x)) (event_lines xs) in
    omega (arith, rest, whole, all.0)

closed_short : (bytes : List ℕ) → length (closed bytes) ≤ length bytes + 1
closed_short bytes = of (lacks_feed bytes)
  where
    of : (b : Bool) → length (cond b (ended bytes) bytes) ≤ length bytes + 1
    of true = let whole = length-append bytes (10 ∷ []) in omega (arith, whole)
    of false = omega arith

count_short : (n : ℕ) → n ≤ 640000 → length (ended (count_line n)) ≤ 13
unfolding count_line
count_short n few =
    let number : length (decimal n) ≤ 6 = digits 6 n (omega arith) (omega (arith, few)) (omega (arith, few)) in
    let a = length-append (codes "image ") (decimal n) in
    let b = length-append (count_line n) (10 ∷ []) in
    omega (arith, number, a, b)

-- the image isn't too large
pub image_short : (bytes : List ℕ) (script : Script) (es : List Event) → Reads bytes script → length es ≤ 640000
    → AllByRecursion (HasNodes (length script.blocks)) es
    → length (image_text bytes (stamped_from 1 es)) ≤ max_image
unfolding image_text
image_short bytes script es reads few all =
    let nodes : ℕ = length script.blocks in
    let stamped : List (Stamped Event) = stamped_from 1 es in
    let most : nodes ≤ 32 = blocks-few bytes script reads in
    let low : AllByRecursion (IsLow nodes 640001) stamped =
    stands nodes 640001 1 es (omega arith) (omega (arith, few)) (omega arith) all in
    let lines : AllByRecursion (λ (e : Stamped Event). length (ended (event_line e)) ≤ 18) (by_node stamped) =
    all-by-node (λ (e : Stamped Event). length (ended (event_line e)) ≤ 18) stamped
    (all-map {P = IsLow nodes 640001} (λ (e : Stamped Event) h. line_short nodes e most h) stamped low) in
    let same : length (by_node stamped) ≡ length stamped =
    length_permutation stamped (by_node stamped)
    (by-node-same stamped (low-nodes nodes stamped most (stamped_stand nodes es few all))) in
    let count : length stamped ≡ length es = as_many 1 es in
    let behind = lines_short (by_node stamped) lines in
    let number = count_short (length stamped) (omega (arith, count, few)) in
    let first = length-append (closed bytes) (ended (count_line (length stamped))) in
    let whole = length-append (closed bytes ++ ended (count_line (length stamped))) (event_lines (by_node stamped)) in
    omega (arith, behind, number, first, whole, same, count, few, closed_short bytes, script_short bytes script reads)
  where
    as_many : (stamp : ℕ) (es : List Event) → length (stamped_from stamp es) ≡ length es
    as_many stamp [] = refl
    as_many stamp (e ∷ es) = ap suc (as_many (stamp + 1) es)

-- a run has few events
pub run_few : (script : Script) (es : List Event) → IsSoundScript script
    → length es ≤ 32 * sum_by calls_in script.blocks → length es ≤ 640000
run_few script es sound short =
    let most : sum_by calls_in script.blocks ≤ 20000 =
    leb-true (sum_by calls_in script.blocks) 20000 sound.calls in
    omega (arith, short, most)
