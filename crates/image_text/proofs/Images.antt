-- What is read is an image: its lines are those of its script and of its events.
use Rattle.std.proofs.Common.{◌≡◌, ℕ, zero, suc, ◌+◌, ◌-◌, ◌<◌, ◌≤◌, Bool, true, false, cond, ◌&&◌, ◌||◌, eqb, ltb, List, [], ◌∷◌, ◌++◌, length, map, take, drop, min, Option, Some, None, refl, sym, ap, subst, ◌∙◌, inl, inr, arith}
use Rattle.std.specs.Prelude.{Result, Ok, Err, IfOk}
use Rattle.std.specs.List.{AllByRecursion, onto_first}
use Rattle.std.specs.List.Sorted.{IsPermutation}
use Rattle.std.specs.Option.{option_map_or}
use Rattle.std.proofs.lemmas.Bool.{cases_eq, eqb-true}
use Rattle.std.proofs.lemmas.List.{take_all, length-take}
use Rattle.std.proofs.lemmas.List.Sorted.{IsPermutation-map, IsPermutation-refl, IsPermutation-trans, IsPermutation-cons, IsPermutation-middle}
use Rattle.pico_base.specs.declared.script.Script.{Script}
use Rattle.pico_base.specs.declared.script.Event.{Event}
use Rattle.stamp_merge.specs.declared.Stamped.{Stamped}
use Rattle.stamp_merge.specs.Merge.{StampsRise, AreInOrder, IsBefore, items_of}
use Rattle.stamp_merge.proofs.Merges.{own-item, others-item}
use Rattle.script_reader.specs.Words.{lines_of}
use Rattle.script_reader.specs.declared.fault.ScriptStop.{ScriptStop}
use Rattle.script_reader.specs.Fault.{outcome, line_behind}
use Rattle.image_text.specs.declared.placed.Placed.{Placed}
use Rattle.image_text.specs.declared.image.Said.{Said}
use Rattle.image_text.specs.declared.fault.ImageStop.{ImageStop}
use Rattle.image_text.specs.declared.fault.ImageFault.TheVariants.{NotRising}
use Rattle.image_text.specs.declared.fault.ImageStop.TheVariants.{Memory, Script as InScript, At}
use Rattle.image_text.specs.Image.{max_image, max_node, event_line, count_line}
use Rattle.image_text.specs.Parts.{end_place, lines_from, lines_behind, script_of, number_behind, is_large, seen}
use Rattle.image_text.specs.Lines.{max_count, count_in, event_in}
use Rattle.image_text.specs.Gives.{Gives}
use Rattle.image_text.specs.Grammar.{MayStand, IsImage, StampsRiseByNode, IsOrderOf, IsSaidBy}
use Rattle.image_text.specs.Order.{NodesRise, plain, put, ordered, first_fall, is_before}
use Rattle.image_text.specs.Reading.{Events, outside, events_from, listed, ordered_or_fall, in_order, with_script, events_of, stop_of, of_script, said_by}
use Rattle.image_text.proofs.Spelled.{count-was}
use Rattle.image_text.proofs.Rising.{AllRise, rise-from, log-rises}
use Rattle.image_text.proofs.Orders.{ordered-is}
use Rattle.image_text.proofs.Listed.{ok-first, ok-some, WereLines, listed-was, WasListed}

-- ---- how many lines there are

onto-length : (b : ℕ) (lines : List (List ℕ)) → length (onto_first b lines) ≤ suc (length lines)
onto-length b [] = omega arith
onto-length b (line ∷ lines) = omega arith

-- there are no more lines than bytes
pub lines-few : (bytes : List ℕ) → length (lines_of bytes) ≤ length bytes
lines-few [] = omega arith
lines-few (b ∷ bytes) = of (eqb b 10) (lines-few bytes)
  where
    of : (c : Bool) → length (lines_of bytes) ≤ length bytes
        → length (cond c ([] ∷ lines_of bytes) (onto_first b (lines_of bytes))) ≤ suc (length bytes)
    of true h = omega (arith, h)
    of false h = omega (arith, h, onto-length b (lines_of bytes))

drop-few : {X : Type 0} (k : ℕ) (xs : List X) → length (drop k xs) ≤ length xs
drop-few zero xs = omega arith
drop-few (suc k) [] = omega arith
drop-few (suc k) (x ∷ xs) = omega (arith, drop-few k xs)

-- there are no more lines behind a script than bytes
pub behind-few : (bytes : List ℕ) → length (lines_behind bytes) ≤ length bytes
behind-few bytes = of (end_place bytes)
  where
    of : (place : Option ℕ) → length (lines_from place bytes) ≤ length bytes
    of None = omega arith
    of (Some k) = omega (arith, drop-few k (lines_of bytes), lines-few bytes)

-- ---- its size

-- where not too much was looked at, it is the whole image
pub seen-whole : (image : List ℕ) → is_large (seen image) ≡ false → (seen image ≡ image) × (length image ≤ max_image)
unfolding seen
seen-whole image h =
    let size : length (take 16777217 image) ≡ min 16777217 (length image) = length-take 16777217 image in
    let few : length (take 16777217 image) ≤ 16777216 = within (length (take 16777217 image)) h in
    let small : length image ≤ 16777216 = lower (length image) (omega (arith, size, few)) in
    (take_all 16777217 image (omega (arith, small)), small)
  where
    within : (n : ℕ) → ltb 16777216 n ≡ false → n ≤ 16777216
    within n e = grind arith

    lower : (n : ℕ) → min 16777217 n ≤ 16777216 → n ≤ 16777216
    lower n e = grind arith

-- ---- the lines

map-map : {A B C : Type 0} (f : B → C) (g : A → B) (xs : List A) → map (λ x. f (g x)) xs ≡ map f (map g xs)
map-map f g [] = refl
map-map {A} {B} {C} f g (x ∷ xs) = ap (λ (ys : List C). f (g x) ∷ ys) (map-map f g xs)

-- a mapped list is as long
pub map-length : {A B : Type 0} (f : A → B) (xs : List A) → length (map f xs) ≡ length xs
map-length f [] = refl
map-length f (x ∷ xs) = ap suc (map-length f xs)

all-plain : (nodes : ℕ) (events : Events) → AllByRecursion (λ e. MayStand nodes (plain e)) events
    → AllByRecursion (MayStand nodes) (map plain events)
all-plain nodes [] all = tt
all-plain nodes (e ∷ events) all = (all.0, all-plain nodes events all.1)

nodes-plain : (low : ℕ) (events : Events) → NodesRise low events → NodesRise low (map plain events)
nodes-plain low [] rise = tt
nodes-plain low (e ∷ events) rise = (rise.0, rise.1, nodes-plain e.node events rise.2)

-- what the lines behind a script are
pub record AreEventLines (nodes : ℕ) (lines : List (List ℕ)) (events : Events) : Type 0 where
  pub text : lines ≡ count_line (length (map plain events)) ∷ map event_line (map plain events)
  pub stand : AllByRecursion (MayStand nodes) (map plain events)
  pub rise : NodesRise 1 events

-- the lines are those of the events that were read
pub listed-lines : (nodes : ℕ) (number : ℕ) (lines : List (List ℕ)) (events : Events)
    → length lines < max_count → listed nodes number lines ≡ Ok events → AreEventLines nodes lines events
listed-lines nodes number lines events few h =
    let was = listed-was nodes number lines events h in
    let were = was.were in
    let whole : events ≡ were.more = were.whole in
    let sizes : length lines ≡ suc (length was.behind) = ap length was.text in
    let behind : length was.behind ≡ length were.more =
    ap length were.text ∙ map-length (λ e. event_line (plain e)) were.more in
    let counted : length were.more ≡ was.count = were.count in
    let head : was.head ≡ count_line was.count =
    count-was was.head was.count was.counted (omega (arith, sizes, behind, counted, few)) in
    let number : was.count ≡ length (map plain events) =
    sym counted ∙ ap length (sym whole) ∙ sym (map-length plain events) in
    record {
      text =
          was.text ∙ ap (λ (l : List ℕ). l ∷ was.behind) (head ∙ ap count_line number)
          ∙ ap (λ (ls : List (List ℕ)). count_line (length (map plain events)) ∷ ls)
          (were.text ∙ map-map event_line plain were.more
          ∙ ap (λ (es : Events). map event_line (map plain es)) (sym whole));
      stand = subst (λ (es : Events). AllByRecursion (MayStand nodes) (map plain es)) (sym whole)
          (all-plain nodes were.more were.stand);
      rise = subst (NodesRise 1) (sym whole) were.rise;
    }

-- ---- the order

first-two : (e f : Stamped Placed) (events : Events) → IsPermutation (e ∷ f ∷ events) (f ∷ e ∷ events)
first-two e f events = IsPermutation-middle (e ∷ []) f events

put-moves : (e : Stamped Placed) (events : Events) → IsPermutation (e ∷ events) (put e events)
put-moves e [] = IsPermutation-refl (e ∷ [])
put-moves e (f ∷ events) = of (is_before e f) (put-moves e events)
  where
    of : (b : Bool) → IsPermutation (e ∷ events) (put e events)
        → IsPermutation (e ∷ f ∷ events) (cond b (e ∷ f ∷ events) (f ∷ put e events))
    of true rest = IsPermutation-refl (e ∷ f ∷ events)
    of false rest =
        IsPermutation-trans (e ∷ f ∷ events) (f ∷ e ∷ events) (f ∷ put e events) (first-two e f events)
        (IsPermutation-cons f (e ∷ events) (put e events) rest)

-- the events in order are the same events
pub ordered-moves : (events : Events) → IsPermutation events (ordered events)
unfolding ordered
ordered-moves [] = IsPermutation-refl []
ordered-moves (e ∷ events) =
    IsPermutation-trans (e ∷ events) (e ∷ ordered events) (put e (ordered events))
    (IsPermutation-cons e events (ordered events) (ordered-moves events)) (put-moves e (ordered events))

before-plain : (e : Stamped Placed) (events : Events) → AllByRecursion (IsBefore e) events
    → AllByRecursion (IsBefore (plain e)) (map plain events)
before-plain e [] all = tt
before-plain e (f ∷ events) all = (all.0, before-plain e events all.1)

-- events in order are so without their lines
pub order-plain : (events : Events) → AreInOrder events → AreInOrder (map plain events)
order-plain [] order = tt
order-plain (e ∷ events) order = (before-plain e events order.0, order-plain events order.1)

stamps-plain : (e : Stamped Placed) (events : Events) → AllByRecursion (λ
    (f : Stamped Placed). e.stamp < f.stamp) events
    → AllByRecursion (λ (f : Stamped Event). e.stamp < f.stamp) (map plain events)
stamps-plain e [] all = tt
stamps-plain e (f ∷ events) all = (all.0, stamps-plain e events all.1)

rises-plain : (events : Events) → StampsRise events → StampsRise (map plain events)
rises-plain [] rise = tt
rises-plain (e ∷ events) rise = (stamps-plain e events rise.0, rises-plain events rise.1)

items-plain : (p : ℕ) (events : Events) → map plain (items_of p events) ≡ items_of p (map plain events)
items-plain p [] = refl
items-plain p (e ∷ events) = of (eqb e.node p) (items-plain p events)
  where
    of : (b : Bool) → map plain (items_of p events) ≡ items_of p (map plain events)
        → map plain (cond b (e ∷ items_of p events) (items_of p events))
        ≡ cond b (plain e ∷ items_of p (map plain events)) (items_of p (map plain events))
    of true h = ap (λ (es : List (Stamped Event)). plain e ∷ es) h
    of false h = h

-- ---- the whole

fall-none : (events ordered_events : Events) → ordered_or_fall events ≡ Ok ordered_events
    → (first_fall events ≡ None) × (ordered events ≡ ordered_events)
fall-none events ordered_events h = of (first_fall events) refl h
  where
    of : (o : Option ℕ) → first_fall events ≡ o
        → option_map_or (λ line. Err (At line NotRising)) o (Ok (ordered events)) ≡ Ok ordered_events
        → (first_fall events ≡ None) × (ordered events ≡ ordered_events)
    of None e h = let same : ordered events ≡ ordered_events = cc in (e, same)
    of (Some line) e h = absurd cc

abbrev Wanted : Type 0
Wanted = Result Said ImageStop

in-order-some : (r : Result Events ImageStop) (events : Events) → in_order r ≡ Ok events
    → (read : Events) × (r ≡ Ok read) × (ordered_or_fall read ≡ Ok events)
in-order-some (Err stop) events h = absurd cc
in-order-some (Ok read) events h = (read, refl, h)

with-some : (script : Script) (r : Result Events ImageStop) (said : Said) → with_script script r ≡ Ok said
    → (r ≡ Ok said.events) × (script ≡ said.script)
with-some script (Err stop) said h = absurd cc
with-some script (Ok events) said h =
    let same : record { script = script; events = events } ≡ said = cc in
    (ap (λ (s : Said). Ok s.events) same, ap (λ (s : Said). s.script) same)

script-some : (bytes : List ℕ) (r : Result Script ScriptStop) (said : Said) → of_script bytes r ≡ Ok said
    → (script : Script) × (r ≡ Ok script) × (with_script script (events_of (length script.blocks) bytes) ≡ Ok said)
script-some bytes (Err stop) said h = absurd cc
script-some bytes (Ok script) said h = (script, refl, h)

-- what is said is what an image says
pub said-is : (image : List ℕ) (said : Said) → said_by image ≡ Ok said → IsSaidBy image said
unfolding said_by
said-is image said h =
    let bytes : List ℕ = seen image in
    let a = script-some bytes (outcome (script_of bytes)) said h in
    let b = with-some a.0 (events_of (length a.0.blocks) bytes) said a.2 in
    let nodes : ℕ = length a.0.blocks in
    let g = ok-first (is_large bytes) (line_behind max_image bytes) _ said.events b.0 in
    let c = in-order-some (listed nodes (number_behind bytes) (lines_behind bytes)) said.events g.1 in
    let events : Events = c.0 in
    let d = fall-none events said.events c.2 in
    let whole = seen-whole image g.0 in
    let few : length bytes ≤ max_image = ap-le whole.0 whole.1 in
    let lines = listed-lines nodes (number_behind bytes) (lines_behind bytes) events
    (omega (arith, behind-few bytes, few)) c.1 in
    let rise : AllRise events = rise-from 1 events lines.rise d.0 in
    of image bytes whole.0 whole.1 a.0 said b.1 a.1 events lines rise d.1
  where
    ap-le : {bytes image : List ℕ} → bytes ≡ image → length image ≤ max_image → length bytes ≤ max_image
    ap-le e le = subst (λ (xs : List ℕ). length xs ≤ max_image) (sym e) le

    of : (image bytes : List ℕ) → bytes ≡ image → length image ≤ max_image → (script : Script) (said : Said)
        → script ≡ said.script → outcome (script_of bytes) ≡ Ok script → (events : Events)
        → AreEventLines (length script.blocks) (lines_behind bytes) events → AllRise events
        → ordered events ≡ said.events → IsSaidBy image said
    of image bytes same few script said is read events lines rise order =
        let now : lines_behind image ≡ count_line (length (map plain events)) ∷ map event_line (map plain events) =
        ap lines_behind (sym same) ∙ lines.text in
        let reads : outcome (script_of image) ≡ Ok said.script =
        ap (λ (xs : List ℕ). outcome (script_of xs)) (sym same) ∙ read ∙ ap (λ (s : Script). Ok s) is in
        record {
          events = map plain events;
          is_image = record {
            within = few;
            reads = reads;
            lines = now;
            stand =
                subst (λ (s : Script). AllByRecursion (MayStand (length s.blocks)) (map plain events)) is lines.stand;
            rise = nodes-plain 1 events lines.rise;
          };
          stamps = λ p. subst StampsRise (items-plain p events) (rises-plain (items_of p events)
              (log-rises p events rise));
          order = record {
            in_order = order-plain said.events (subst AreInOrder order (ordered-is events rise));
            same = IsPermutation-map plain events said.events
                (subst (IsPermutation events) order (ordered-moves events));
          };
        }

-- so it is where it was returned
pub given-is : (image : List ℕ) (r : Result Said ImageStop) → Gives r (said_by image) → IfOk r (IsSaidBy image)
given-is image (Ok said) h = said-is image said h
given-is image (Err stop) h = tt
