-- Each image is read: its script, and its events in order.
use Rattle.std.proofs.Common.{◌≡◌, ℕ, zero, suc, ◌+◌, ◌-◌, ◌^◌, ◌<◌, ◌≤◌, Bool, true, false, cond, ◌&&◌, ◌||◌, leb, ltb, eqb, List, [], ◌∷◌, ◌++◌, length, map, Option, Some, None, refl, sym, ap, subst, ◌∙◌, inl, inr, append-nil, append_assoc, arith}
use Rattle.std.specs.Prelude.{codes, Result, Ok, Err}
use Rattle.std.specs.Fmt.{decimal}
use Rattle.std.specs.List.{AllByRecursion}
use Rattle.std.specs.List.Sorted.{IsPermutation}
use Rattle.std.specs.Option.{option_map_or}
use Rattle.std.proofs.lemmas.Bool.{cases_eq, and_from, and_parts, le-leb, lt-leb, lt-ltb, ne_eqb, eq-eqb, leb-true}
use Rattle.std.proofs.lemmas.List.{take_all}
use Rattle.std.proofs.lemmas.List.Sorted.{IsPermutation-map, IsPermutation-sym}
use Rattle.pico_base.specs.declared.script.Script.{Script}
use Rattle.pico_base.specs.declared.script.Event.{Event}
use Rattle.pico_base.specs.declared.script.Event.TheVariants.{Run, Take}
use Rattle.stamp_merge.specs.declared.Stamped.{Stamped}
use Rattle.stamp_merge.specs.Merge.{StampsRise, AreInOrder, items_of}
use Rattle.stamp_merge.proofs.Merges.{own-item, others-item}
use Rattle.quoted_bytes.specs.Front.{strip}
use Rattle.quoted_bytes.proofs.Strips.{strip_again}
use Rattle.text_fields.specs.Fields.{digit_at, number_at}
use Rattle.script_reader.specs.Fault.{outcome}
use Rattle.script_reader.proofs.Sound.{reads_sound}
use Rattle.image_text.specs.declared.placed.Placed.{Placed}
use Rattle.image_text.specs.declared.image.Said.{Said}
use Rattle.image_text.specs.declared.fault.ImageStop.{ImageStop}
use Rattle.image_text.specs.declared.fault.ImageStop.TheVariants.{Memory, Script as InScript, At}
use Rattle.image_text.specs.declared.fault.ImageFault.TheVariants.{NotRising}
use Rattle.image_text.specs.Gives.{Gives}
use Rattle.world_model.specs.Schedule.{node_of}
use Rattle.image_text.specs.Image.{max_image, max_stamp, max_node, act_text, event_line, count_line}
use Rattle.image_text.specs.Parts.{seen, is_large, script_of, lines_behind, number_behind}
use Rattle.image_text.specs.Grammar.{IsNodeOf, HasNodes, MayStand, IsImage, StampsRiseByNode, IsOrderOf, IsReadAs}
use Rattle.image_text.specs.Lines.{is_node, is_stamp, may_stand, whole_number, if_node, node_at, take_in, act_in, standing, event_in, max_count, or_long, count_of, count_in}
use Rattle.image_text.specs.Order.{NodesRise, plain, falls, fall_behind, first_fall, ordered}
use Rattle.image_text.specs.Reading.{Events, outside, events_from, listed, ordered_or_fall, in_order, with_script, events_of, of_script, said_by}
use Rattle.image_text.proofs.Decimals.{number-again}
use Rattle.image_text.proofs.Rising.{AllRise, rise-from}
use Rattle.image_text.proofs.Orders.{IsIn, all-moved, all-there, all-at, same-order, ordered-is}
use Rattle.image_text.proofs.Images.{behind-few, map-length, ordered-moves, order-plain}

-- ---- the parts of a line

node-again : (nodes p : ℕ) (rest : List ℕ) → IsNodeOf nodes p → p ≤ max_node → digit_at rest ≡ None
    → node_at nodes (decimal p ++ rest) ≡ Some (p, rest)
unfolding node_at
node-again nodes p rest is few stop =
    let low : 1 ≤ p = is.0 in
    let test : is_node nodes p ≡ true =
    and_from (ltb 0 p) (leb p nodes) (lt-ltb 0 p (omega (arith, low))) (le-leb p nodes is.1) in
    rw (number-again max_node p rest few (omega (arith, few)) stop, test) refl

take-again : (nodes p from : ℕ) → IsNodeOf nodes from → nodes ≤ max_node
    → take_in nodes p (codes "take " ++ decimal from) ≡ Some (Take p from)
unfolding take_in digit_at
take-again nodes p from is few =
    let high : from ≤ nodes = is.1 in
    let read : node_at nodes (decimal from) ≡ Some (from, []) =
    ap (node_at nodes) (sym (append-nil (decimal from))) ∙ node-again nodes from [] is (omega (
      arith,
      high,
      few,
    )) refl in
    rw (strip_again (codes "take ") (decimal from), read) refl

act-again : (nodes p : ℕ) (event : Event) → p ≡ node_of event → HasNodes nodes event → nodes ≤ max_node
    → act_in nodes p (act_text event) ≡ Some event
unfolding act_in
act-again nodes p (Run q) same there few = ap (λ (k : ℕ). Some (Run k)) same
act-again nodes p (Take q from) same there few =
    take-again nodes p from there.1 few ∙ ap (λ (k : ℕ). Some (Take k from)) same

-- an event in line `number`
abbrev pub placed : ℕ → Stamped Event → Stamped Placed
placed number e = record { stamp = e.stamp; node = e.node; item = record { line = number; event = e.item } }

-- it is of a node of the script
pub own-node : (nodes : ℕ) (e : Stamped Event) → MayStand nodes e → IsNodeOf nodes e.node
own-node nodes e h = subst (IsNodeOf nodes) (sym h.own) (of e.item h.there)
  where
    of : (event : Event) → HasNodes nodes event → IsNodeOf nodes (node_of event)
    of (Run p) there = there
    of (Take p from) there = there.0

event-again : (nodes low number : ℕ) (e : Stamped Event) → MayStand nodes e → low ≤ e.node → nodes ≤ max_node
    → event_in nodes low number (event_line e) ≡ Some (placed number e)
unfolding event_in event_line digit_at
event-again nodes low number e h from few =
    let own = own-node nodes e h in
    let high : e.node ≤ nodes = own.1 in
    let stamp_low : 1 ≤ e.stamp = h.low in
    let stamp_high : e.stamp ≤ max_stamp = h.high in
    let act : List ℕ = act_text e.item in
    let right : (((decimal e.stamp ++ codes " ") ++ decimal e.node) ++ codes " ") ++ act
    ≡ decimal e.stamp ++ (codes " " ++ (decimal e.node ++ (codes " " ++ act))) =
    append_assoc ((decimal e.stamp ++ codes " ") ++ decimal e.node) (codes " ") act
    ∙ append_assoc (decimal e.stamp ++ codes " ") (decimal e.node) (codes " " ++ act)
    ∙ append_assoc (decimal e.stamp) (codes " ") (decimal e.node ++ (codes " " ++ act)) in
    let stamps : is_stamp e.stamp ≡ true =
    and_from (ltb 0 e.stamp) (leb e.stamp max_stamp) (lt-ltb 0 e.stamp (omega (arith, stamp_low)))
    (le-leb e.stamp max_stamp stamp_high) in
    let may : may_stand low e.stamp e.node ≡ true =
    and_from (is_stamp e.stamp) (leb low e.node) stamps (le-leb low e.node from) in
    rw (
      right,
      number-again max_stamp e.stamp (codes " " ++ (decimal e.node ++ (codes " " ++ act))) stamp_high
          (omega (arith, stamp_high)) refl,
      strip_again (codes " ") (decimal e.node ++ (codes " " ++ act)),
      node-again nodes e.node (codes " " ++ act) own (omega (arith, high, few)) refl,
      strip_again (codes " ") act,
      act-again nodes e.node e.item h.own h.there few,
      may,
    ) refl

count-again : (count : ℕ) → count ≤ max_count → count_in (count_line count) ≡ Some count
unfolding count_in count_line digit_at
count-again count few =
    let read : number_at max_count (decimal count) ≡ Some (count, []) =
    ap (number_at max_count) (sym (append-nil (decimal count)))
    ∙ number-again max_count count [] few (omega (arith, few)) refl in
    rw (strip_again (codes "image ") (decimal count), read) refl

-- ---- the lines

-- events in lines from this one on
abbrev pub placed_from : ℕ → List (Stamped Event) → Events
placed_from number [] = []
placed_from number (e ∷ events) = placed number e ∷ placed_from (number + 1) events

some-left : (left : ℕ) → eqb (suc left) 0 ≡ false
some-left left = ne_eqb (suc left) 0 (λ e. omega (arith, e))

events-again : (events : List (Stamped Event)) (nodes low number : ℕ) (done : Events) → nodes ≤ max_node
    → AllByRecursion (MayStand nodes) events → NodesRise low events
    → events_from nodes (length events) low number done (map event_line events)
    ≡ Ok (done ++ placed_from number events)
unfolding events_from
events-again [] nodes low number done few stand rise = ap (λ (es : Events). Ok es) (sym (append-nil done))
events-again (e ∷ events) nodes low number done few stand rise =
    let less : suc (length events) - 1 ≡ length events = omega arith in
    rw (
      some-left (length events),
      event-again nodes low number e stand.0 rise.0 few,
      less,
    )
    (events-again events nodes e.node (number + 1) (done ++ placed number e ∷ []) few stand.1 rise.2
    ∙ ap (λ (es : Events). Ok es) (append_assoc done (placed number e ∷ []) (placed_from (number + 1) events)))

listed-again : (nodes number : ℕ) (lines : List (List ℕ)) (events : List (Stamped Event)) → nodes ≤ max_node
    → length events ≤ max_count
    → lines ≡ count_line (length events) ∷ map event_line events → AllByRecursion (MayStand nodes) events
    → NodesRise 1 events → listed nodes number lines ≡ Ok (placed_from (number + 1) events)
unfolding listed
listed-again nodes number lines events few small text stand rise =
    rw (text, count-again (length events) small)
    (events-again events nodes 1 (number + 1) [] few stand rise)

-- ---- none falls

rest-rises : (e : Stamped Placed) (events : Events) → ((p : ℕ) → StampsRise (items_of p (e ∷ events))) → (p : ℕ)
    → StampsRise (items_of p events)
rest-rises e events h p = elim (cases_eq e.node p) [
  | inl is ↦ (subst StampsRise (own-item e events p is) (h p)).1
  | inr other ↦ subst StampsRise (others-item e events p other) (h p)
]

falls-not : (e f : Stamped Placed) (events : Events) → ((p : ℕ) → StampsRise (items_of p (e ∷ f ∷ events)))
    → falls e f ≡ false
falls-not e f events h = elim (cases_eq f.node e.node) [
  | inl is ↦
      let own = (subst StampsRise (own-item e (f ∷ events) e.node refl) (h e.node)).0 in
      let first = (subst (AllByRecursion (λ (g : Stamped Placed). e.stamp < g.stamp))
      (own-item f events e.node is) own).0 in
      let less : leb f.stamp e.stamp ≡ false = lt-leb f.stamp e.stamp first in
      rw (less, eq-eqb f.node e.node is) refl
  | inr other ↦ rw (ne_eqb f.node e.node other) refl
]

fall-none-behind : (e : Stamped Placed) (events : Events) → ((p : ℕ) → StampsRise (items_of p (e ∷ events)))
    → fall_behind e events ≡ None
unfolding fall_behind
fall-none-behind e [] h = refl
fall-none-behind e (f ∷ events) h =
    rw (falls-not e f events h) (fall-none-behind f events (rest-rises e (f ∷ events) h))

none-falls : (events : Events) → ((p : ℕ) → StampsRise (items_of p events)) → first_fall events ≡ None
unfolding first_fall
none-falls [] h = refl
none-falls (e ∷ events) h = fall-none-behind e events h

-- ---- placed events

plain-placed : (number : ℕ) (events : List (Stamped Event)) → map plain (placed_from number events) ≡ events
plain-placed number [] = refl
plain-placed number (e ∷ events) = ap (λ (es : List (Stamped Event)). e ∷ es) (plain-placed (number + 1) events)

nodes-placed : (low number : ℕ) (events : List (Stamped Event)) → NodesRise low events
    → NodesRise low (placed_from number events)
nodes-placed low number [] rise = tt
nodes-placed low number (e ∷ events) rise = (rise.0, rise.1, nodes-placed e.node (number + 1) events rise.2)

stamps-placed : (stamp p number : ℕ) (events : List (Stamped Event))
    → AllByRecursion (λ (f : Stamped Event). stamp < f.stamp) (items_of p events)
    → AllByRecursion (λ (f : Stamped Placed). stamp < f.stamp) (items_of p (placed_from number events))
stamps-placed stamp p number [] all = tt
stamps-placed stamp p number (e ∷ events) all = elim (cases_eq e.node p) [
  | inl is ↦
      let parts = subst (AllByRecursion (λ (f : Stamped Event). stamp < f.stamp)) (own-item e events p is) all in
      subst (AllByRecursion (λ (f : Stamped Placed). stamp < f.stamp))
      (sym (own-item (placed number e) (placed_from (number + 1) events) p is))
      (parts.0, stamps-placed stamp p (number + 1) events parts.1)
  | inr other ↦
      let parts = subst (AllByRecursion (λ (f : Stamped Event). stamp < f.stamp)) (others-item e events p other) all in
      subst (AllByRecursion (λ (f : Stamped Placed). stamp < f.stamp))
      (sym (others-item (placed number e) (placed_from (number + 1) events) p other))
      (stamps-placed stamp p (number + 1) events parts)
]

rises-placed : (p number : ℕ) (events : List (Stamped Event)) → StampsRise (items_of p events)
    → StampsRise (items_of p (placed_from number events))
rises-placed p number [] h = tt
rises-placed p number (e ∷ events) h = elim (cases_eq e.node p) [
  | inl is ↦
      let parts = subst StampsRise (own-item e events p is) h in
      subst StampsRise (sym (own-item (placed number e) (placed_from (number + 1) events) p is))
      (stamps-placed e.stamp p (number + 1) events parts.0, rises-placed p (number + 1) events parts.1)
  | inr other ↦
      subst StampsRise (sym (others-item (placed number e) (placed_from (number + 1) events) p other))
      (rises-placed p (number + 1) events (subst StampsRise (others-item e events p other) h))
]

-- ---- one order

pub order-one : (events xs ys : List (Stamped Event)) → IsOrderOf events xs → IsOrderOf events ys → xs ≡ ys
order-one events xs ys first second =
    same-order xs ys first.in_order second.in_order (there xs ys first.same second.same)
    (there ys xs second.same first.same)
  where
    there : (xs ys : List (Stamped Event)) → IsPermutation events xs → IsPermutation events ys
        → AllByRecursion (λ x. IsIn x ys) xs
    there xs ys a b =
        all-moved (λ x. IsIn x ys) events xs a
        (all-moved (λ x. IsIn x ys) ys events (IsPermutation-sym events ys b) (all-there ys ys (λ x h. h)))

-- ---- the whole

seen-small : (image : List ℕ) → length image ≤ max_image → (seen image ≡ image) × (is_large image ≡ false)
unfolding seen
seen-small image few = (take_all 16777217 image (omega (arith, few)), of (length image) few)
  where
    of : (n : ℕ) → n ≤ 16777216 → ltb 16777216 n ≡ false
    of n le = grind arith

-- what it says, with its events each in its line
pub says-placed : (image : List ℕ) (script : Script) (events : List (Stamped Event)) → IsImage image script events
    → StampsRiseByNode events
    → said_by image
    ≡ Ok (record { script = script; events = ordered (placed_from (number_behind image + 1) events) })
unfolding said_by
says-placed image script events h stamps =
    let small = seen-small image h.within in
    let number : ℕ = number_behind image in
    let sound = reads_sound (script_of image) script h.reads in
    let nodes : ℕ = length script.blocks in
    let few : nodes ≤ max_node = leb-true nodes 32 (and_parts (leb 1 nodes) (leb nodes 32) sound.size).1 in
    let sizes : length (lines_behind image) ≡ suc (length (map event_line events)) = ap length h.lines in
    let count : length events ≤ max_count =
    omega (arith, sizes, map-length event_line events, behind-few image, h.within) in
    let read : listed nodes number (lines_behind image) ≡ Ok (placed_from (number + 1) events) =
    listed-again nodes number (lines_behind image) events few count h.lines h.stand h.rise in
    let none : first_fall (placed_from (number + 1) events) ≡ None =
    none-falls (placed_from (number + 1) events) (λ p. rises-placed p (number + 1) events (stamps p)) in
    rw (small.0, h.reads, small.1, read, none) refl

placed-order : (number : ℕ) (events : List (Stamped Event)) → NodesRise 1 events → StampsRiseByNode events
    → IsOrderOf events (map plain (ordered (placed_from number events)))
placed-order number events nodes stamps =
    let ps : Events = placed_from number events in
    let rise : AllRise ps =
    rise-from 1 ps (nodes-placed 1 number events nodes) (none-falls ps (λ p. rises-placed p number events
    (stamps p))) in
    record {
      in_order = order-plain (ordered ps) (ordered-is ps rise);
      same =
          subst (λ (es : List (Stamped Event)). IsPermutation es (map plain (ordered ps))) (plain-placed number events)
          (IsPermutation-map plain ps (ordered ps) (ordered-moves ps));
    }

apart : (said : Said) (stop : ImageStop) → (let r : Result Said ImageStop = Ok said in r ≡ Err stop) → ⊥
apart said stop e = cc

-- an image is read as its script and its events in order
pub reads-again : (image : List ℕ) (r : Result Said ImageStop) → Gives r (said_by image) → (script : Script)
    (events order : List (Stamped Event)) → IsImage image script events → StampsRiseByNode events
    → IsOrderOf events order → IsReadAs script order r
reads-again image (Ok said) g script events order h stamps is =
    let there : Ok (record { script = script; events = ordered (placed_from (number_behind image + 1) events) })
    ≡ Ok said =
    sym (says-placed image script events h stamps) ∙ g in
    let same : record { script = script; events = ordered (placed_from (number_behind image + 1) events) } ≡ said =
    cc in (
      ap (λ (s : Said). s.script) (sym same),
      ap (λ (s : Said). map plain s.events) (sym same)
          ∙ order-one events (map plain (ordered (placed_from (number_behind image + 1) events))) order
          (placed-order (number_behind image + 1) events h.rise stamps) is,
    )
reads-again image (Err Memory) g script events order h stamps is = tt
reads-again image (Err (InScript line fault)) g script events order h stamps is =
    apart (record { script = script; events = ordered (placed_from (number_behind image + 1) events) })
    (InScript line fault) (sym (says-placed image script events h stamps) ∙ g)
reads-again image (Err (At line fault)) g script events order h stamps is =
    apart (record { script = script; events = ordered (placed_from (number_behind image + 1) events) })
    (At line fault) (sym (says-placed image script events h stamps) ∙ g)
