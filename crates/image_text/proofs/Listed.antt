-- What the lines of an image are where its events are read: the line `image E`, and a line for each event.
use Rattle.std.proofs.Common.{◌≡◌, ℕ, zero, suc, ◌+◌, ◌-◌, ◌<◌, ◌≤◌, Bool, true, false, cond, ◌&&◌, ◌||◌, eqb, List, [], ◌∷◌, ◌++◌, length, map, Option, Some, None, refl, sym, ap, subst, ◌∙◌, append-nil, append_assoc, arith}
use Rattle.std.specs.Prelude.{Result, Ok, Err, IfOk}
use Rattle.std.specs.List.{AllByRecursion}
use Rattle.std.specs.Option.{option_map_or}
use Rattle.std.proofs.lemmas.Bool.{eqb-true}
use Rattle.stamp_merge.specs.declared.Stamped.{Stamped}
use Rattle.pico_base.specs.declared.script.Event.{Event}
use Rattle.image_text.specs.declared.placed.Placed.{Placed}
use Rattle.image_text.specs.declared.fault.ImageStop.{ImageStop}
use Rattle.image_text.specs.declared.fault.ImageStop.TheVariants.{Memory, Script, At}
use Rattle.image_text.specs.Image.{max_node, event_line, count_line}
use Rattle.image_text.specs.Gives.{Gives}
use Rattle.image_text.specs.Grammar.{MayStand}
use Rattle.image_text.specs.Lines.{max_count, count_in, event_in}
use Rattle.image_text.specs.Order.{NodesRise, plain}
use Rattle.image_text.specs.Reading.{Events, outside, events_from, listed}
use Rattle.image_text.proofs.Spelled.{WasLine, event-was, count-was}

-- ---- an answer that is an Ok

-- a test that gave an Ok
pub ok-first : (b : Bool) (line : ℕ) (r : Result Events ImageStop) (x : Events)
    → cond b (outside line) r ≡ Ok x → (b ≡ false) × (r ≡ Ok x)
ok-first true line r x h = absurd cc
ok-first false line r x h = (refl, h)

-- an option that gave an Ok
pub ok-some : {A : Type 0} (f : A → Result Events ImageStop) (o : Option A) (line : ℕ) (x : Events)
    → option_map_or f o (outside line) ≡ Ok x → (y : A) × (o ≡ Some y) × (f y ≡ Ok x)
ok-some f None line x h = absurd cc
ok-some f (Some y) line x h = (y, refl, h)

-- ---- events that were read of lines, behind others

pub record WereLines (nodes left low number : ℕ) (done : Events) (lines : List (List ℕ)) (events : Events)
    : Type 0 where
  pub more : Events
  pub whole : events ≡ done ++ more
  pub text : lines ≡ map (λ e. event_line (plain e)) more
  pub count : length more ≡ left
  pub stand : AllByRecursion (λ e. MayStand nodes (plain e)) more
  pub rise : NodesRise low more

no-more : (left : ℕ) (number : ℕ) (done events : Events) → cond (eqb left 0) (Ok done) (outside number) ≡ Ok events
    → (left ≡ 0) × (done ≡ events)
no-more left number done events h = of (eqb left 0) refl h
  where
    of : (b : Bool) → eqb left 0 ≡ b → cond b (Ok done) (outside number) ≡ Ok events → (left ≡ 0) × (done ≡ events)
    of true e h = let same : done ≡ events = cc in (eqb-true left 0 e, same)
    of false e h = absurd cc

not-over : (left : ℕ) → eqb left 0 ≡ false → 0 < left
not-over zero h = absurd cc
not-over (suc left) h = omega arith

-- each line that was read is that of its event
pub events-were : (lines : List (List ℕ)) (nodes : ℕ) (left low number : ℕ) (done events : Events)
    → events_from nodes left low number done lines ≡ Ok events
    → WereLines nodes left low number done lines events
unfolding events_from
events-were [] nodes left low number done events h =
    let e = no-more left number done events h in record {
      more = [];
      whole = sym e.1 ∙ sym (append-nil done);
      text = refl;
      count = sym e.0;
      stand = tt;
      rise = tt;
    }
events-were (line ∷ lines) nodes left low number done events h =
    let a = ok-first (eqb left 0) number _ events h in
    let b = ok-some (λ (e : Stamped Placed). events_from nodes (left - 1) e.node (number + 1)
    (done ++ e ∷ []) lines)
    (event_in nodes low number line) number events a.1 in
    let e : Stamped Placed = b.0 in
    let was = event-was nodes low number line e b.1 in
    let rest = events-were lines nodes (left - 1) e.node (number + 1) (done ++ e ∷ []) events b.2 in
    let some : 0 < left = not-over left a.0 in
    let count : length rest.more ≡ left - 1 = rest.count in
    record {
      more = e ∷ rest.more;
      whole = rest.whole ∙ append_assoc done (e ∷ []) rest.more;
      text = ap (λ (l : List ℕ). l ∷ lines) was.text ∙ ap (λ (ls : List (List ℕ)). event_line (plain e) ∷ ls) rest.text;
      count = omega (arith, count, some);
      stand = (was.stands, rest.stand);
      rise = (was.from, was.few, rest.rise);
    }

-- ---- the whole

pub record WasListed (nodes : ℕ) (number : ℕ) (lines : List (List ℕ)) (events : Events) : Type 0 where
  pub count : ℕ
  pub head : List ℕ
  pub behind : List (List ℕ)
  pub text : lines ≡ head ∷ behind
  pub counted : count_in head ≡ Some count
  pub were : WereLines nodes count 1 (number + 1) [] behind events

-- the lines that were read
pub listed-was : (nodes : ℕ) (number : ℕ) (lines : List (List ℕ)) (events : Events)
    → listed nodes number lines ≡ Ok events → WasListed nodes number lines events
unfolding listed
listed-was nodes number [] events h = absurd cc
listed-was nodes number (line ∷ lines) events h =
    let b = ok-some (λ count. events_from nodes count 1 (number + 1) [] lines) (count_in line) number events h in
    record {
      count = b.0;
      head = line;
      behind = lines;
      text = refl;
      counted = b.1;
      were = events-were lines nodes b.0 1 (number + 1) [] events b.2;
    }

-- so the nodes rise
pub given-rise : (nodes : ℕ) (count number : ℕ) (lines : List (List ℕ)) (r : Result Events ImageStop)
    → Gives r (events_from nodes count 1 number [] lines) → IfOk r (NodesRise 1)
given-rise nodes count number lines (Ok events) h =
    let were = events-were lines nodes count 1 number [] events h in
    subst (NodesRise 1) (sym were.whole) were.rise
given-rise nodes count number lines (Err stop) h = tt
