-- An enabled event where logs lead to is a turn of its node: the node stands where its log ends, and a frame that it
-- takes is the first that no log took.
use Rattle.std.proofs.Common.{◌≡◌, ℕ, zero, suc, ◌-◌, ◌<◌, Bool, true, false, ◌||◌, ◌&&◌, List, [], ◌∷◌, ◌++◌, length, map, get_or, nat_eq, if◌then◌else◌, Option, Some, None, refl, ap, sym, subst, ◌∙◌, arith}
use Rattle.std.specs.List.{AllByRecursion}
use Rattle.std.proofs.lemmas.Bool.{eqb-true, ltb-true}
use Rattle.std.proofs.lemmas.Option.{slice_get_within}
use Rattle.pico_base.specs.declared.script.Script.{Script}
use Rattle.pico_base.specs.declared.script.Event.{Event}
use Rattle.pico_base.specs.declared.script.Event.TheVariants as events
use Rattle.rpc_frame.specs.declared.frame.Frame.{Frame}
use Rattle.world_model.specs.Node.{Node, can_run, is_born}
use Rattle.world_model.specs.Step.{Step}
use Rattle.world_model.specs.Starting.{run}
use Rattle.world_model.specs.Turn.{take_frame}
use Rattle.world_model.specs.World.{IsNode, World, node_at, stream, with_stream, node_count, runs_at, takes_at, step, is_enabled, is_run_enabled, is_take_enabled, is_number, is_checkpoint}
use Rattle.world_model.specs.Schedule.{node_of}
use Rattle.log_laws.specs.Logs.{StampedFrame, frame_of, Runs, Takes, Log, turn_on, taken_if, taken_in, sent_in, IsTakenLater}
use Rattle.log_laws.specs.Merge.{NodeTurn, events_of}
use Rattle.log_laws.specs.Follows.{IsRunOfLogs, StandsFirst, IsTurnOf, SendsToNodes, AreBelow}
use Rattle.log_laws.proofs.Lists.{right-all, stamps-of-sent}
use Rattle.log_laws.proofs.Halfway.{OnWay}
use Rattle.log_laws.proofs.Shapes.{HasShape, after-some, shape-of-run}
use Rattle.log_laws.proofs.OneMore.{GoesOn, takes_if, below-in-log}

-- ---- the node's step in a world

-- both tests hold
both-hold : (a b : Bool) → (a && b) ≡ true → (a ≡ true) × (b ≡ true)
both-hold true b h = (refl, h)
both-hold false b h = absurd (cc)

record RunsThere (w : World) (p : ℕ) : Type 0 where
  node : Node
  made : Step
  there : node_at w p ≡ Some node
  may : can_run node ≡ true
  rule : run w.script node ≡ Some made

runs-there : (w next : World) (p : ℕ) (o : Option Node) → node_at w p ≡ o → is_run_enabled o ≡ true
    → runs_at w p o ≡ Some next → RunsThere w p
runs-there w next p None there may steps = absurd (cc)
runs-there w next p (Some n) there may steps =
    let found = after-some w next p (run w.script n) steps
    in record { node = n; made = found.0; there = there; may = may; rule = found.1.0 }

record TakesThere (w : World) (p from : ℕ) : Type 0 where
  node : Node
  frame : Frame
  behind : List Frame
  made : Step
  there : node_at w p ≡ Some node
  heads : stream w p from ≡ frame ∷ behind
  may : (is_born node || is_checkpoint frame) ≡ true
  rule : take_frame w.script node from frame ≡ Some made

takes-there : (w next : World) (p from : ℕ) (o : Option Node) (fs : List Frame) → node_at w p ≡ o → stream w p from ≡ fs
    → is_take_enabled o fs ≡ true → takes_at w p from o fs ≡ Some next → TakesThere w p from
takes-there w next p from None fs there heads may steps = absurd (cc)
takes-there w next p from (Some n) [] there heads may steps = absurd (cc)
takes-there w next p from (Some n) (frame ∷ behind) there heads may steps =
    let found =
    after-some (record w { streams = with_stream w.streams p from behind }) next p (take_frame w.script n from frame)
    steps
    in record {
      node = n;
      frame = frame;
      behind = behind;
      made = found.0;
      there = there;
      heads = heads;
      may = may;
      rule = found.1.0;
    }

-- ---- numbers of nodes

is-node : (script : Script) (w : World) (p : ℕ) (n : Node) → HasShape script w → is_number p ≡ true
    → node_at w p ≡ Some n → IsNode script p
is-node script w p n shape number there =
    let low : 0 < p = ltb-true 0 p number
    in let within : p - 1 < length w.nodes = slice_get_within w.nodes (p - 1) n there
    in let count : length w.nodes ≡ node_count script = shape.count
    in record { low = omega arith; high = omega arith }

filled-within : (row : List (List Frame)) (i : ℕ) (f : Frame) (fs : List Frame) → get_or row i [] ≡ f ∷ fs
    → i < length row
filled-within [] i f fs h = absurd (cc)
filled-within (r ∷ row) zero f fs h = omega arith
filled-within (r ∷ row) (suc i) f fs h = let within : i < length row = filled-within row i f fs h in omega arith

is-sender : (script : Script) (w : World) (p from : ℕ) (f : Frame) (fs : List Frame) → HasShape script w
    → IsNode script p → is_number from ≡ true → stream w p from ≡ f ∷ fs → IsNode script from
is-sender script w p from f fs shape is number heads =
    let low : 0 < from = ltb-true 0 from number
    in let low_p = is.low
    in let high_p = is.high
    in let row : List (List Frame) = get_or w.streams (p - 1) []
    in let width : length (get_or w.streams (p - 1) []) ≡ node_count script = shape.square.row (p - 1) (omega arith)
    in let within : from - 1 < length (get_or w.streams (p - 1) []) =
    filled-within (get_or w.streams (p - 1) []) (from - 1) f fs heads
    in record { low = omega arith; high = omega arith }

-- ---- the machine's turn

run-rule : (script : Script) (w : World) (n : Node) (made : Step) → w.script ≡ script → can_run n ≡ true
    → run w.script n ≡ Some made → turn_on script n Runs ≡ Some made
run-rule script w n made of_script may rule =
    ap (λ b. if b then run script n else None) may ∙ ap (λ (x : Script). run x n) (sym of_script) ∙ rule

take-rule : (script : Script) (w : World) (n : Node) (from : ℕ) (taken : StampedFrame) (frame : Frame) (made : Step)
    → w.script ≡ script → taken.frame ≡ frame → (is_born n || is_checkpoint frame) ≡ true
    → take_frame w.script n from frame ≡ Some made → turn_on script n (Takes from taken) ≡ Some made
take-rule script w n from taken frame made of_script same may rule =
    ap (λ (f : Frame). if is_born n || is_checkpoint f then take_frame script n from f else None) same
    ∙ ap (λ b. if b then take_frame script n from frame else None) may
    ∙ ap (λ (x : Script). take_frame x n from frame) (sym of_script)
    ∙ rule

-- ---- what is on its way

none-taken : (b : Bool) (q stamp : ℕ) (made : Step)
    → takes_if b q (record { stamp = stamp; input = Runs; step = made }) ≡ []
none-taken true q stamp made = refl
none-taken false q stamp made = refl

-- what is on its way is the frame and what is left, on its stream alone
split-cases : (b c : Bool) (way rest : List StampedFrame) (taken : StampedFrame)
    → (b ≡ true → c ≡ true → way ≡ taken ∷ rest)
    → way ≡ (if b then taken_if c taken else []) ++ (if b then (if c then rest else way) else way)
split-cases true true way rest taken h = h refl refl
split-cases true false way rest taken h = refl
split-cases false c way rest taken h = refl

record Heads (way : List StampedFrame) (frame : Frame) : Type 0 where
  taken : StampedFrame
  rest : List StampedFrame
  way_is : way ≡ taken ∷ rest
  frame_is : taken.frame ≡ frame

heads : (way : List StampedFrame) (f : Frame) (fs : List Frame) → map frame_of way ≡ f ∷ fs → Heads way f
heads [] f fs h = absurd (cc)
heads (taken ∷ rest) f fs h =
    let same : taken.frame ≡ f = cc in record { taken = taken; rest = rest; way_is = refl; frame_is = same }

stands-first : (script : Script) (w : World) (p from : ℕ) (taken : StampedFrame) (frame : Frame) (behind : List Frame)
    → IsNode script from → stream w p from ≡ frame ∷ behind → taken.frame ≡ frame
    → StandsFirst script w p from taken.frame
stands-first script w p from taken frame behind from_is first same =
    record {
      sender = from_is;
      rest = behind;
      first = first ∙ ap (λ (f : Frame). f ∷ behind) (sym same);
    }

-- the frame that is taken, and what is left on its stream
abbrev left_from : OnWay → ℕ → ℕ → List StampedFrame → OnWay
left_from untaken p from rest to sender =
    if nat_eq p to then (if nat_eq from sender then rest else untaken to sender) else untaken to sender

splits-there : (untaken : OnWay) (p from : ℕ) (taken : StampedFrame) (rest : List StampedFrame)
    → untaken p from ≡ taken ∷ rest → (to sender : ℕ)
    → untaken to sender
    ≡ (if nat_eq p to then taken_if (nat_eq from sender) taken else []) ++ left_from untaken p from rest to sender
splits-there untaken p from taken rest way to sender =
    split-cases (nat_eq p to) (nat_eq from sender) (untaken to sender) rest taken (λ same sent.
    subst (λ (i : ℕ). untaken i sender ≡ taken ∷ rest) (eqb-true p to same)
    (subst (λ (j : ℕ). untaken p j ≡ taken ∷ rest) (eqb-true from sender sent) way))

-- ---- the turn of an event

-- The event as a turn with this stamp, and what is left on the streams. The frame that it takes was sent under a lower
-- one.
pub record IsTurnThere (script : Script) (w : World) (untaken : OnWay) (e : Event) (stamp : ℕ) : Type 0 where
  pub turn : NodeTurn
  pub stamped : turn.turn.stamp ≡ stamp
  pub node : turn.node ≡ node_of e
  pub is : IsTurnOf script w e turn
  pub later : IsTakenLater script turn.turn.stamp turn.turn.input
  pub left : OnWay
  pub splits : (p q : ℕ) → IsNode script p → IsNode script q
      → untaken p q ≡ takes_if (nat_eq turn.node p) q turn.turn ++ left p q

run-there : (script : Script) (w : World) (untaken : OnWay) (p stamp : ℕ) (n : Node) (made : Step) → IsNode script p
    → node_at w p ≡ Some n → turn_on script n Runs ≡ Some made
    → IsTurnThere script w untaken (events.Run p) stamp
run-there script w untaken p stamp n made is here rule =
    record {
      turn = record { node = p; turn = record { stamp = stamp; input = Runs; step = made } };
      stamped = refl;
      node = refl;
      is = record { event = refl; is_node = is; node = n; here = here; there = tt; turns = rule };
      later = tt;
      left = untaken;
      splits = λ q s is_q is_s.
          sym (ap (λ (fs : List StampedFrame). fs ++ untaken q s) (none-taken (nat_eq p q) s stamp made));
    }

take-there : (script : Script) (w : World) (untaken : OnWay) (p from stamp : ℕ) (n : Node) (made : Step)
    (taken : StampedFrame) (rest : List StampedFrame) → IsNode script p → taken.stamp < stamp
    → untaken p from ≡ taken ∷ rest → node_at w p ≡ Some n → StandsFirst script w p from taken.frame
    → turn_on script n (Takes from taken) ≡ Some made → IsTurnThere script w untaken (events.Take p from) stamp
take-there script w untaken p from stamp n made taken rest is low way here first rule =
    record {
      turn = record { node = p; turn = record { stamp = stamp; input = Takes from taken; step = made } };
      stamped = refl;
      node = refl;
      is = record { event = refl; is_node = is; node = n; here = here; there = first; turns = rule };
      later = (first.sender, low);
      left = left_from untaken p from rest;
      splits = λ to sender is_to is_sender. splits-there untaken p from taken rest way to sender;
    }

module _ (script : Script) (logs : ℕ → Log) (turns : List NodeTurn) (w : World) (stamp : ℕ)
    (r : IsRunOfLogs script logs turns w) (below : AreBelow stamp turns) where
  shape : HasShape script w
  shape = shape-of-run script (events_of turns) w r.runs

  run-turn : (p : ℕ) (next : World) → is_enabled w (events.Run p) ≡ true → step w (events.Run p) ≡ Some next
      → IsTurnThere script w r.untaken (events.Run p) stamp
  run-turn p next enabled steps =
      let tests = both-hold (is_number p) (is_run_enabled (node_at w p)) enabled
      in let found : RunsThere w p = runs-there w next p (node_at w p) refl tests.1 steps
      in run-there script w r.untaken p stamp found.node found.made
      (is-node script w p found.node shape tests.0 found.there) found.there
      (run-rule script w found.node found.made shape.of_script found.may found.rule)

  -- a frame that is on its way was sent under a low stamp
  low-on-way : (p from : ℕ) (taken : StampedFrame) (rest : List StampedFrame) → IsNode script p → IsNode script from
      → r.untaken p from ≡ taken ∷ rest → taken.stamp < stamp
  low-on-way p from taken rest is from_is way =
      let sent : AllByRecursion (λ (f : StampedFrame). f.stamp < stamp) (sent_in p (logs from)) =
      stamps-of-sent (λ s. s < stamp) p (logs from)
      (below-in-log script logs turns stamp r.merge below from from_is)
      in let all : AllByRecursion (λ (f : StampedFrame). f.stamp < stamp)
      (taken_in from (logs p) ++ r.untaken p from) =
      subst (AllByRecursion (λ (f : StampedFrame). f.stamp < stamp))
      (sym (r.consistent.streams p from is from_is)) sent
      in let first : AllByRecursion (λ (f : StampedFrame). f.stamp < stamp) (taken ∷ rest) =
      subst (AllByRecursion (λ (f : StampedFrame). f.stamp < stamp)) way
      (right-all (λ (f : StampedFrame). f.stamp < stamp) (taken_in from (logs p)) (r.untaken p from) all)
      in first.0

  take-turn : (p from : ℕ) (next : World) → is_enabled w (events.Take p from) ≡ true
      → step w (events.Take p from) ≡ Some next → IsTurnThere script w r.untaken (events.Take p from) stamp
  take-turn p from next enabled steps =
      let tests =
      both-hold (is_number p && is_number from) (is_take_enabled (node_at w p) (stream w p from)) enabled
      in let numbers = both-hold (is_number p) (is_number from) tests.0
      in let found : TakesThere w p from =
      takes-there w next p from (node_at w p) (stream w p from) refl refl tests.1 steps
      in let is : IsNode script p = is-node script w p found.node shape numbers.0 found.there
      in let from_is : IsNode script from =
      is-sender script w p from found.frame found.behind shape is numbers.1 found.heads
      in let way : Heads (r.untaken p from) found.frame =
      heads (r.untaken p from) found.frame found.behind (sym (r.stream_is p from is from_is) ∙ found.heads)
      in take-there script w r.untaken p from stamp found.node found.made way.taken way.rest is
      (low-on-way p from way.taken way.rest is from_is way.way_is) way.way_is found.there
      (stands-first script w p from way.taken found.frame found.behind from_is found.heads way.frame_is)
      (take-rule script w found.node from way.taken found.frame found.made shape.of_script way.frame_is found.may
      found.rule)

  -- an enabled event is a turn
  pub event-turn : (e : Event) (next : World) → is_enabled w e ≡ true → step w e ≡ Some next
      → IsTurnThere script w r.untaken e stamp
  event-turn (events.Run p) next enabled steps = run-turn p next enabled steps
  event-turn (events.Take p from) next enabled steps = take-turn p from next enabled steps

  -- with which the logs go on, where what it sends goes to nodes
  pub goes-on : (e : Event) (t : IsTurnThere script w r.untaken e stamp) → SendsToNodes script w e
      → GoesOn script r.last r.untaken turns t.turn
  goes-on e t to_nodes =
      let both : Some (r.last t.turn.node) ≡ Some t.is.node = sym (r.node t.turn.node t.is.is_node) ∙ t.is.here
      in let same : r.last t.turn.node ≡ t.is.node = cc
      in record {
        here = t.is.is_node;
        turned = ap (λ (n : Node). turn_on script n t.turn.turn.input) same ∙ t.is.turns;
        between = record { taken = t.later; sent = to_nodes t.turn t.is };
        below = subst (λ (s : ℕ). AreBelow s turns) (sym t.stamped) below;
        left = t.left;
        splits = t.splits;
      }
