-- A node serves the first call of its hand on a name that it holds: the call has its reply, and those whom it wakes
-- have theirs; or it parks. The withdrawals and the kernel in which callers wait come last.
use Rattle.std.proofs.Common.{◌≡◌, ◌≢◌, ℕ, Bool, true, false, ◌||◌, if◌then◌else◌, List, [], ◌∷◌, ◌++◌, map, nat_eq, Option, Some, None, refl, ap, sym, subst, ◌∙◌, append-nil}
use Rattle.std.specs.List.{AllByRecursion}
use Rattle.std.proofs.lemmas.Bool.{eq-eqb, false≢true, ne_eqb}
use Rattle.pico_base.specs.declared.numbers.Name.{Name}
use Rattle.pico_base.specs.declared.reply.Outcome.{Outcome}
use Rattle.pico_base.specs.declared.reply.Reply.{Reply}
use Rattle.pico_base.specs.declared.script.Script.{Script}
use Rattle.pico_base.specs.Home.{home_of}
use Rattle.rpc_frame.specs.declared.asked.Asked.{Asked}
use Rattle.node_model.specs.declared.held.Held.{Held}
use Rattle.node_model.specs.declared.held.Held.TheVariants.{Request}
use Rattle.node_model.specs.Awaiting.{Applied}
use Rattle.node_model.specs.Bodies.{Body, bare, waiters_of}
use Rattle.node_model.specs.Kinds.{put_named}
use Rattle.node_model.specs.Serving.{waiting_as}
use Rattle.world_model.specs.Node.{Node}
use Rattle.world_model.specs.Step.{Step}
use Rattle.world_model.specs.World.{World, world_after}
use Rattle.entry_laws.proofs.Names.{other-name, same-name}
use Rattle.world_laws.specs.Places.{CallPlace, InTable, Waits, Beside}
use Rattle.world_laws.specs.Sights.{is_born_stage, node_of}
use Rattle.world_laws.specs.Callers.{is_on}
use Rattle.world_laws.specs.Cancels.{Owing, Wakes}
use Rattle.world_laws.specs.Invariant.{HoldsOwing}
use Rattle.world_laws.proofs.Changes.{read-same, Changes}
use Rattle.route_laws.proofs.hand.HandMoves.{IsCallOf}
use Rattle.route_laws.proofs.served.AllTaken.{table-changes, AreAmong}
use Rattle.route_laws.proofs.served.AllTurns.{IsWoken, KeepsRest, is_among, turn_lines, CarriedAt}
use Rattle.route_laws.proofs.served.Nodes.{PutsBody, puts-body, node_with}
use Rattle.route_laws.proofs.served.Parks.{parked_beside, parks-there}
use Rattle.route_laws.proofs.served.Replies.{IsAtWork}
use Rattle.route_laws.proofs.served.Replying.{IsReplying, forgets}
use Rattle.route_laws.proofs.served.Rounds.{Answered, ParksBehind, RepliesInTurn, answered, bare-with, wake_of}
use Rattle.route_laws.proofs.served.Steps.{with_tables}
use Rattle.route_laws.proofs.served.Turns.{node-at}
use Rattle.node_model.specs.Entries.{entry_with}

-- the caller's own turn, where it has its reply
abbrev pub own_turn : Asked → Option Reply → List Answered
own_turn asked None = []
own_turn asked (Some reply) = answered (waiting_as asked) reply ∷ []

-- where the caller's call is then
abbrev pub OwnPlace : ℕ → ℕ → Name → Option Reply → CallPlace → Type 0
OwnPlace p y name None place = place ≡ Waits name
OwnPlace p y name (Some reply) place = CarriedAt p y place

-- The calls were carried out in turn, or the call has parked.
pub record IsServing (script : Script) (v : World) (p : ℕ) (t : Step) (asked : Asked) (rest : List Held) (b : Beside)
    (name : Name) (d : Applied Body) (woken : List Answered) : Type 0 where
  pub beside : Beside
  pub holds : HoldsOwing script (world_after v p t) rest Wakes beside
  pub at : IsAtWork script (world_after v p t) p
  pub lines : beside.lines ≡ b.lines ++ turn_lines p (own_turn asked d.own ++ woken)
  pub body_here : beside.body name ≡ d.left
  pub body_others : (m : Name) → m ≢ name → beside.body m ≡ b.body m
  pub keeps : KeepsRest b beside
  pub wakes : d.wakes ≡ map wake_of woken
  pub among : AreAmong (waiters_of (b.body name)) woken
  pub are_woken : AllByRecursion (IsWoken script name) woken
  pub waited : AllByRecursion (λ a. b.call a.who.caller ≡ Waits name) woken
  pub own : OwnPlace p asked.caller name d.own (beside.call asked.caller)
  pub carried : (y : ℕ) → is_among y woken ≡ true → CarriedAt p y (beside.call y)
  pub still : (y : ℕ) → y ≢ asked.caller → is_among y woken ≡ false → beside.call y ≡ b.call y

-- ---- the call has its reply

own-lines : (p : ℕ) (asked : Asked) (reply : Reply) (o : Option Reply) (woken : List Answered) → o ≡ Some reply
    → turn_lines p (answered (waiting_as asked) reply ∷ woken) ≡ turn_lines p (own_turn asked o ++ woken)
own-lines p asked reply o woken is = sym (ap (λ z. turn_lines p (own_turn asked z ++ woken)) is)

none-of-both : (a c : Bool) → a ≡ false → c ≡ false → (a || c) ≡ false
none-of-both true c h g = h
none-of-both false c h g = g

one-of-both : (a c : Bool) → c ≡ true → (a || c) ≡ true
one-of-both true c h = refl
one-of-both false c h = h

-- it is served then
pub replying-serves : (script : Script) (v : World) (p : ℕ) (t : Step) (asked : Asked) (rest : List Held) (b : Beside)
    (name : Name) (d : Applied Body) (r : RepliesInTurn name (b.body name) (waiting_as asked) d)
    → IsReplying script v p t asked rest b name d.left r.reply r.woken
    → IsServing script v p t asked rest b name d r.woken
replying-serves script v p t asked rest b name d r i =
    record {
      beside = i.beside;
      holds = i.holds;
      at = i.at;
      lines = i.lines ∙ ap (λ ls. b.lines ++ ls) (own-lines p asked r.reply d.own r.woken r.own);
      body_here = i.body_here;
      body_others = i.body_others;
      keeps = i.keeps;
      wakes = r.wakes;
      among = i.among;
      are_woken = i.are_woken;
      waited = i.waited;
      own = subst (λ o. OwnPlace p asked.caller name o (i.beside.call asked.caller)) (sym r.own)
          (i.carried asked.caller
          (ap (λ z. z || is_among asked.caller r.woken) (eq-eqb asked.caller asked.caller refl)));
      carried = λ y h. i.carried y (one-of-both (nat_eq asked.caller y) (is_among y r.woken) h);
      still = λ y d h. i.still y
          (none-of-both (nat_eq asked.caller y) (is_among y r.woken) (ne_eqb asked.caller y (λ e. d (sym e))) h);
    }

-- ---- the call parks

module _ (script : Script) (v : World) (p : ℕ) (s : Step) (asked : Asked) (rest : List Held) {owes : Owing} (b : Beside)
    (holds : HoldsOwing script (world_after v p s) (Request asked ∷ rest) owes b)
    (at : IsAtWork script (world_after v p s) p) (asks : IsCallOf script asked) (name : Name)
    (here : b.deed name ≡ InTable p) (on : is_on name (home_of asked.pid asked.call) ≡ true) (d : Applied Body)
    (r : ParksBehind name (b.body name) (waiting_as asked) d) (outcome : Outcome) (strikes : Bool) where
  -- the step with the entry
  abbrev pub entered_parked : Step
  entered_parked =
      record s {
        entries = s.entries ++ entry_with s.node.number asked.pid asked.call outcome ∷ [];
        strikes = strikes;
      }

  -- and with the body
  abbrev pub parked_step : Step
  parked_step = with_tables entered_parked (put_named s.node.deeds name d.left) s.node.leader

  abbrev w : World
  w = world_after v p entered_parked

  holds-entered : HoldsOwing script w (Request asked ∷ rest) Wakes b
  holds-entered = forgets script v p s entered_parked (Request asked ∷ rest) owes b refl refl _ refl holds

  there : node_of w p ≡ s.node
  there = node-at script v p entered_parked holds-entered.shape at.low at.high

  changes : Changes script p w (world_after v p parked_step)
      (node_with (node_of w p) (let n : Node = node_of w p in n.caller) (put_named s.node.deeds name d.left)
      (let n : Node = node_of w p in n.leader)) [] [] []
  changes =
      table-changes script v p rest name entered_parked s.node.deeds s.node.leader [] s.node.deeds
      (put_named s.node.deeds name d.left) holds-entered.shape at.low at.high

  puts : PutsBody (let n : Node = node_of w p in n.deeds) (put_named s.node.deeds name d.left) name d.left
  puts =
      subst (λ (n : Node). PutsBody n.deeds (put_named s.node.deeds name d.left) name d.left) (sym there)
      (puts-body s.node.deeds name d.left)

  bare-same : bare d.left ≡ bare (b.body name)
  bare-same = ap bare r.left ∙ bare-with (b.body name) (waiters_of (b.body name) ++ waiting_as asked ∷ [])

  at-entered : IsAtWork script w p
  at-entered = record { low = at.low; high = at.high; born = at.born }

  abbrev moved : Beside
  moved =
      parked_beside script w p at-entered asked rest b holds-entered asks name here on r.parks d.left bare-same r.room
      (put_named s.node.deeds name d.left) puts (world_after v p parked_step) changes

  -- It waits there.
  pub parking-serves : IsServing script v p parked_step asked rest b name d []
  parking-serves =
      record {
        beside = moved;
        holds = parks-there script w p at-entered asked rest b holds-entered asks name here on r.parks d.left bare-same
            r.room (put_named s.node.deeds name d.left) puts (world_after v p parked_step) changes;
        at = record {
          low = at.low;
          high = at.high;
          born = read-same script p w (world_after v p parked_step) _ [] [] [] changes
              (λ (n : Node). is_born_stage n.stage) refl p ∙ at.born;
        };
        lines = sym (append-nil b.lines)
            ∙ ap (λ o. b.lines ++ turn_lines p (own_turn asked o ++ [])) (sym r.own);
        body_here = ap (λ t. if t then d.left else b.body name) (same-name name);
        body_others = λ m other. ap (λ t. if t then d.left else b.body m) (other-name name m other);
        keeps = record { pids = refl; deed = refl; whole = refl; cancel = refl; dead = λ q h. h };
        wakes = r.wakes;
        among = tt;
        are_woken = tt;
        waited = tt;
        own = subst (λ o. OwnPlace p asked.caller name o (moved.call asked.caller)) (sym r.own)
            (ap (λ t. if t then Waits name else b.call asked.caller) (eq-eqb asked.caller asked.caller refl));
        carried = λ y h. absurd (false≢true h);
        still = λ y other h. ap (λ t. if t then Waits name else b.call y) (ne_eqb asked.caller y (λ e. other (sym e)));
      }
