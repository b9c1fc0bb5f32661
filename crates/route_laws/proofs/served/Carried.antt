-- A node serves the first call of its hand on a name that it holds, as its rule does: the call has its reply, or waits
-- there, and those whom it wakes have theirs. All holds then, but for a strike that the step owes.
use Rattle.std.proofs.Common.{◌≡◌, ◌≢◌, ℕ, ◌≤◌, Bool, true, false, ◌||◌, if◌then◌else◌, List, [], ◌∷◌, ◌++◌, map, nat_eq, Contains, Option, Some, None, option_map, refl, ap, sym, subst, ◌∙◌, inl, inr}
use Rattle.std.specs.List.{AllByRecursion}
use Rattle.std.specs.Option.{option_map_or}
use Rattle.std.proofs.lemmas.Bool.{cases_eq, eq-eqb, eqb-true, false≢true, ne_eqb}
use Rattle.pico_base.specs.declared.numbers.Name.{Name}
use Rattle.pico_base.specs.declared.reply.Entry.{Entry}
use Rattle.pico_base.specs.declared.reply.Outcome.{Outcome}
use Rattle.pico_base.specs.declared.reply.Reply.{Reply}
use Rattle.pico_base.specs.declared.reply.Reply.TheVariants as replies
use Rattle.pico_base.specs.declared.script.Script.{Script}
use Rattle.pico_base.specs.Home.{home_of}
use Rattle.rpc_frame.specs.declared.asked.Asked.{Asked}
use Rattle.waiting_model.specs.Linear.{at_once}
use Rattle.waiting_model.specs.Kernel as whole_kernels
use Rattle.waiting_model.specs.declared.callers.Waiting.{Waiting}
use Rattle.waiting_model.specs.declared.callers.Wake.{Wake}
use Rattle.node_model.specs.declared.held.Held.{Held}
use Rattle.node_model.specs.declared.held.Held.TheVariants.{Request}
use Rattle.node_model.specs.Awaiting.{Applied, on_whole}
use Rattle.node_model.specs.Bodies.{Body, Deeds, bare, waiters_of}
use Rattle.node_model.specs.Carrying.{is_own, is_removal, is_served}
use Rattle.node_model.specs.Entries.{entry_with, outcome_with}
use Rattle.node_model.specs.Kinds.{get_named, is_object, put_all, put_named}
use Rattle.node_model.specs.Serving.{Served, admits, name_for, serve, waiting_as}
use Rattle.world_model.specs.Node.{Leader, Node}
use Rattle.world_model.specs.Serving.{has_room, is_struck, note_reads, serve_asked, serve_asked_with}
use Rattle.world_model.specs.Step.{Step, carry_out_waking, reply_if, wake_all, with_deeds, with_strike}
use Rattle.world_model.specs.World.{World, node_count, world_after}
use Rattle.serve_laws.specs.Served.{found_gone, line}
use Rattle.entry_laws.specs.Entering.{MayMake, removed_queue, removed_set}
use Rattle.entry_laws.proofs.Holding.{ServesHere, readers_by, serves-here}
use Rattle.entry_laws.proofs.Replies.{finds}
use Rattle.world_laws.specs.Places.{CallPlace, CancelPlace, InTable, Waits, Beside, call_in}
use Rattle.world_laws.specs.Sights.{directory_of, is_born_in, is_born_stage, node_of}
use Rattle.world_laws.specs.Callers.{is_on}
use Rattle.world_laws.specs.Cancels.{CancelIf, Owing, Wakes, cancel_sight, owing_of}
use Rattle.world_laws.specs.Names.{NameHolds, held_as, name_sight}
use Rattle.world_laws.specs.Wholes.{HasWhole, WholeIf, under_way_at}
use Rattle.world_laws.specs.Invariant.{HoldsOwing}
use Rattle.world_laws.proofs.Changes.{read-same}
use Rattle.world_laws.proofs.LeftAlone.{SameCaller}
use Rattle.world_laws.proofs.NameFacts.{held-here}
use Rattle.rule_laws.proofs.own.Moved.{IsMoved, IsStillOrWoken, is_still, is_woken}
use Rattle.route_laws.specs.Ready.{HasFewNodes}
use Rattle.route_laws.proofs.Entered.{whole-if}
use Rattle.route_laws.proofs.Owed.{HoldsAt, IsServedPlace, has_reply, is_empty, waits_there}
use Rattle.route_laws.proofs.hand.Answering.{may-make-in-hand}
use Rattle.route_laws.proofs.hand.HandMoves.{IsCallOf}
use Rattle.route_laws.proofs.served.AllTaken.{AreAmong, takes-among}
use Rattle.route_laws.proofs.served.AllTurns.{carried-out, is_among, on-not-own}
use Rattle.route_laws.proofs.served.Before.{IsInHandAt, MayWaitAt}
use Rattle.route_laws.proofs.served.Cancelled.{after, cancels-then}
use Rattle.route_laws.proofs.served.Lines.{KeysFollow, line-finds-none}
use Rattle.route_laws.proofs.served.Readers.{IsReader, body-is-fit, readers-are, removal-read-by-none}
use Rattle.route_laws.proofs.served.Replies.{IsAtWork}
use Rattle.route_laws.proofs.served.Replying.{IsReplying, first_world, is-replying, keys-left, leader-first, on-served}
use Rattle.route_laws.proofs.served.Room.{is-admitted}
use Rattle.route_laws.proofs.served.Rounds.{Answered, ParksBehind, RepliesInTurn, answered, served-in-turn, wake_of, with_waiters}
use Rattle.route_laws.proofs.served.Serving.{IsServing, OwnPlace, parking-serves, replying-serves}
use Rattle.route_laws.proofs.served.Stepped.{whole-step}
use Rattle.route_laws.proofs.served.Stepping.{IsServingStep, answering-step, entered_step, parking-step}
use Rattle.route_laws.proofs.served.Steps.{answer_all, answer_one, tables-all, wakes-answer, with_tables}
use Rattle.route_laws.proofs.served.Turns.{node-at}
use Rattle.route_laws.proofs.served.Waiters.{name-of-on, wait-at}
use Rattle.route_laws.proofs.served.Whole.{StandsWhole, stands-whole}

-- ---- once all are woken

-- What is said of the kernel in which callers wait, and of withdrawals, comes last.
pub catches-up : (script : Script) (w : World) (hand : List Held) (owes : Owing) (b : Beside)
    (whole : whole_kernels.Kernel) (cancel : ℕ → CancelPlace)
    → HoldsOwing script w hand Wakes b → WholeIf owes w (record b { whole = whole; cancel = cancel })
    → ((p : ℕ) → 1 ≤ p → p ≤ node_count script
    → CancelIf p owes (cancel_sight w hand (record b { whole = whole; cancel = cancel }) p))
    → HoldsOwing script w hand owes (record b { whole = whole; cancel = cancel })
catches-up script w hand owes b whole cancel h stands cancels =
    record {
      shape = h.shape;
      history = h.history;
      whole = stands;
      leading = h.leading;
      pids = h.pids;
      nodes = h.nodes;
      frames_fit = h.frames_fit;
      names = h.names;
      calls = h.calls;
      cancels = cancels;
      ways = h.ways;
      parcels = h.parcels;
      kinds = h.kinds;
      few = h.few;
      keys = h.keys;
      families = h.families;
    }

-- ---- small facts

none-or-some : {A : Type 0} (o : Option A) (x : A) → o ≡ None → o ≡ Some x → ⊥
none-or-some o x none some = cc

-- a reply that finds no child leaves none that is gone
none-gone : (reply : Reply) → finds reply ≡ false → found_gone (Some reply) ≡ []
none-gone (replies.Child child ending) h = absurd (false≢true (sym h))
none-gone reply h = refl

-- one of the woken waited there
woken-waited : (name : Name) (call : ℕ → CallPlace) (woken : List Answered)
    → AllByRecursion (λ a. call a.who.caller ≡ Waits name) woken → (y : ℕ) → is_among y woken ≡ true
    → call y ≡ Waits name
woken-waited name call [] waited y h = absurd (false≢true h)
woken-waited name call (a ∷ more) waited y h =
    by (nat_eq a.who.caller y) refl (woken-waited name call more waited.1 y) h
  where
    by : (t : Bool) → nat_eq a.who.caller y ≡ t → (is_among y more ≡ true → call y ≡ Waits name)
        → (t || is_among y more) ≡ true → call y ≡ Waits name
    by true is rest among = ap call (sym (eqb-true a.who.caller y is)) ∙ waited.0
    by false is rest among = rest among

-- ---- the leader's tables

-- What becomes of the leader's keys, where the node serves a call of this kind: they stay where it removes nothing; and
-- the leader itself may have others, once it has removed something.
pub data KeysThen (p : ℕ) (s : Step) (asked : Asked) (b : Beside) (leader : Leader) : Type 0 where
  they_stay : leader ≡ s.node.leader → removed_queue asked.call ≡ None → removed_set asked.call ≡ None
      → KeysThen p s asked b leader
  they_follow : p ≡ 1 → KeysFollow asked.call b.kernel leader → KeysThen p s asked b leader

-- What holds once the node has served the call, and before it notes who read.
pub record HasServed (script : Script) (v : World) (p : ℕ) (s t : Step) (asked : Asked) (rest : List Held) (b : Beside)
    : Type 0 where
  pub beside : Beside
  pub holds : HoldsAt script v p t rest beside
  pub moved : IsMoved b.call beside.call asked.caller (IsServedPlace s.node asked)
  pub deed : beside.deed ≡ b.deed
  pub born : (y : ℕ) → is_born_in (world_after v p t) y ≡ is_born_in (world_after v p s) y
  pub directory : directory_of (world_after v p t) ≡ directory_of (world_after v p s)
  pub number : t.node.number ≡ p
  pub watches : t.node.watches ≡ s.node.watches

module _ (script : Script) (v : World) (p : ℕ) (s : Step) (asked : Asked) (rest : List Held) (b : Beside)
    (may_wait : MayWaitAt script v p s asked rest b) (at : IsAtWork script (world_after v p s) p)
    (asks : IsCallOf script asked) (name : Name) (on : is_on name (home_of asked.pid asked.call) ≡ true)
    (here : b.deed name ≡ InTable p) where
  abbrev w : World
  w = world_after v p s

  abbrev hand : List Held
  hand = Request asked ∷ rest

  abbrev who : Waiting
  who = waiting_as asked

  -- what it comes to on the body
  abbrev pub applied_here : Applied Body
  applied_here = on_whole name (b.body name) who

  abbrev d : Applied Body
  d = applied_here

  abbrev outcome : Outcome
  outcome = outcome_with d.own d.wakes

  abbrev strikes : Bool
  strikes = s.strikes || is_struck s.node name asked.call

  abbrev pub deeds_then : Deeds
  deeds_then = put_named s.node.deeds name d.left

  abbrev in_hand : IsInHandAt script v p s asked rest b
  in_hand = may_wait.in_hand

  holds : HoldsOwing script w hand in_hand.owed b
  holds = in_hand.holds

  whole : HasWhole w b
  whole = in_hand.whole

  there : node_of w p ≡ s.node
  there = node-at script v p s holds.shape at.low at.high

  name-holds : NameHolds script b.pids (is_born_in w) name (name_sight script w hand b name)
  name-holds = holds.names name

  held : get_named s.node.deeds name ≡ Some (b.body name)
  held =
      sym (ap (λ (n : Node). get_named n.deeds name) there)
      ∙ name-holds.tables p ∙ ap (λ e. held_as e (b.body name) p) here ∙ held-here p (b.body name)

  not-own : is_own who.pid who.call ≡ false
  not-own = on-not-own name (home_of asked.pid asked.call) on

  named : name_for who.pid who.call ≡ Some name
  named = name-of-on name asked.pid (home_of asked.pid asked.call) on

  served : is_served (at_once who.call) ≡ true
  served = on-served name asked.pid asked.call on asks.is_call

  may : MayMake b.kernel asked.pid asked.call
  may = may-make-in-hand script w asked rest b holds asks

  -- what it serves
  pub serves : ServesHere s.node.deeds name (b.body name) who
  serves = serves-here b.kernel name (b.body name) who s.node.deeds may served named held name-holds.parts

  -- the step, before the reads are noted
  abbrev pub carried_step : Step
  carried_step =
      carry_out_waking script (with_deeds (with_strike s (is_struck s.node name asked.call)) deeds_then) asked d.own
      d.wakes

  -- ---- the rest comes last

  pub record IsCarried (t : Step) (woken : List Answered) : Type 0 where
    pub serving : IsServing script v p t asked rest b name d woken
    pub step : IsServingStep script v p s t asked name d woken
    -- a call that waits is on a queue or a set, and wakes nobody
    pub parks : d.own ≡ None → (is_object name ≡ true) × (d.wakes ≡ [])

  module _ (t : Step) (woken : List Answered) (i : IsCarried t woken) where
    serving : IsServing script v p t asked rest b name d woken
    serving = i.serving

    abbrev w' : World
    w' = world_after v p t

    journal : w'.journal ≡ w.journal ++ entry_with p asked.pid asked.call outcome ∷ []
    journal =
        let step = i.step
        in let changes = step.step.changes
        in changes.journal ∙ ap (λ (es : List Entry). w.journal ++ es) step.entered

    callers : (y : ℕ) → (y ≡ asked.caller → d.own ≡ None) → is_among y woken ≡ false
        → under_way_at w' y ≡ under_way_at w y
    callers y own among =
        elim (cases_eq y p) [
          | inl e ↦
              let same : SameCaller (node_of w p) t.node =
              i.step.step.same_caller (λ its. own (e ∙ its)) (subst (λ q. is_among q woken ≡ false) e among)
              in ap (under_way_at w') e ∙ ap (λ (n : Node). n.caller.under_way) i.step.step.changes.here
              ∙ ap (λ c. c.under_way) same.caller ∙ ap (under_way_at w) (sym e)
          | inr other ↦ ap (λ (n : Node). n.caller.under_way) (i.step.step.changes.others y other)
        ]

    stands : StandsWhole v p t asked b serving.beside d woken
    stands =
        stands-whole script v p s t asked rest b holds whole asks name d woken serving journal callers
        (whole-step script v p s t asked rest b holds whole asks name on woken serving)

    object : d.own ≡ None → is_object name ≡ true
    object none = (i.parks none).0

    -- what stands beside the world then
    abbrev beside-then : Beside
    beside-then =
        after script v p s t asked rest b holds whole in_hand.before may_wait.goes at asks name on here woken serving
        stands i.step.step object

    holds-then : HoldsAt script v p t rest beside-then
    holds-then =
        catches-up script w' rest (owing_of p t.strikes) serving.beside stands.next beside-then.cancel serving.holds
        (whole-if p t.strikes w' beside-then (stands.whole_then beside-then.cancel))
        (cancels-then script v p s t asked rest b holds whole in_hand.before may_wait.goes at asks name on here woken
        serving stands i.step.step
        object)

    place-of-other : (y : ℕ) → y ≢ asked.caller
        → IsStillOrWoken (b.call y) (serving.beside.call y)
    place-of-other y other = by (is_among y woken) refl
      where
        by : (k : Bool) → is_among y woken ≡ k → IsStillOrWoken (b.call y) (serving.beside.call y)
        by true among =
            is_woken name (woken-waited name b.call woken serving.waited y among)
            (carried-out p y (serving.beside.call y) (serving.carried y among))
        by false among = is_still (sym (serving.still y other among))

    places : (y : ℕ)
        → IsStillOrWoken (call_in b.call asked.caller (serving.beside.call asked.caller) y) (serving.beside.call y)
    places y =
        elim (cases_eq y asked.caller) [
          | inl e ↦
              is_still (ap (λ k. if k then serving.beside.call asked.caller else b.call y)
              (eq-eqb asked.caller y (sym e)) ∙ ap serving.beside.call (sym e))
          | inr other ↦
              subst (λ c. IsStillOrWoken c (serving.beside.call y))
              (sym (ap (λ k. if k then serving.beside.call asked.caller else b.call y)
              (ne_eqb asked.caller y (λ e. other (sym e))))) (place-of-other y other)
        ]

    nobody : d.own ≡ None → option_map_or (λ (x : Served). is_empty x.readers) (serve s.node.deeds who) true ≡ true
    nobody none =
        ap (λ o. option_map_or (λ (x : Served). is_empty x.readers) o true) serves.serves
        ∙ ap is_empty serves.readers
        ∙ ap (λ o. is_empty (readers_by (b.body name) who o d.wakes)) none
        ∙ ap (λ ws. is_empty (readers_by (b.body name) who None ws)) (i.parks none).1

    fits : (o : Option Reply) → d.own ≡ o → OwnPlace p asked.caller name o (serving.beside.call asked.caller)
        → IsServedPlace s.node asked (serving.beside.call asked.caller)
    fits None none place = waits_there name place (nobody none)
    fits (Some reply) is place = has_reply (carried-out p asked.caller (serving.beside.call asked.caller) place)

    -- All holds then.
    pub has-served : HasServed script v p s t asked rest b
    has-served =
        record {
          beside = beside-then;
          holds = holds-then;
          moved = record {
            place = serving.beside.call asked.caller;
            calls = places;
            fits = fits d.own refl serving.own;
          };
          deed = serving.keeps.deed;
          born = λ y. read-same script p w w' t.node [] i.step.step.sends i.step.step.entries i.step.step.changes
              (λ (n : Node). is_born_stage n.stage) (ap is_born_stage i.step.stage) y;
          directory = i.step.step.directory;
          number = i.step.step.number ∙ (let old = holds.nodes p at.low at.high in old.number);
          watches = i.step.watches;
        }

  -- ---- the call has its reply, or parks

  abbrev entered : Step
  entered = entered_step script v p s asked rest b holds at asks name d s.node.leader refl

  replied-is : (reply : Reply) (woken : List Answered) → d.own ≡ Some reply → d.wakes ≡ map wake_of woken
      → carried_step ≡ with_tables (answer_all script entered (answered who reply ∷ woken)) deeds_then s.node.leader
  replied-is reply woken own wakes =
      ap (λ o. wake_all script (reply_if script with_entry asked o) d.wakes) own
      ∙ ap (wake_all script (answer_one script with_entry (answered who reply))) wakes
      ∙ wakes-answer script (answer_one script with_entry (answered who reply)) woken
      ∙ sym (tables-all script entered (answered who reply ∷ woken) deeds_then s.node.leader)
    where
      with_entry : Step
      with_entry = with_tables entered deeds_then s.node.leader

  parked-is : d.own ≡ None → d.wakes ≡ [] → carried_step ≡ with_tables entered deeds_then s.node.leader
  parked-is own wakes =
      ap (λ o. wake_all script (reply_if script (with_tables entered deeds_then s.node.leader) asked o) d.wakes) own
      ∙ ap (wake_all script (with_tables entered deeds_then s.node.leader)) wakes

  -- What it comes to, whatever the leader has then; no child was found; and who reads is born.
  record ServesSo : Type 0 where
    with_leader : (leader : Leader) → leader.directory ≡ s.node.leader.directory → KeysThen p s asked b leader
        → (d.own ≡ None → leader ≡ s.node.leader)
        → HasServed script v p s (with_tables carried_step deeds_then leader) asked rest b
    own_tables : with_tables carried_step deeds_then s.node.leader ≡ carried_step
    gone : found_gone d.own ≡ []
    reads : (r : ℕ) → Contains (readers_by (b.body name) who d.own d.wakes) r → IsReader script w name r

  reads-by : (woken : List Answered) → AreAmong (waiters_of (b.body name)) woken → d.wakes ≡ map wake_of woken → (r : ℕ)
      → Contains (readers_by (b.body name) who d.own d.wakes) r → IsReader script w name r
  reads-by woken among wakes r h =
      readers-are script w asked rest b holds asks name on d.own woken among r
      (subst (λ ws. Contains (readers_by (b.body name) who d.own ws) r) wakes h)

  module _ (r : RepliesInTurn name (b.body name) who d) where
    abbrev last : Step
    last = answer_all script entered (answered who r.reply ∷ r.woken)

    step-is : carried_step ≡ with_tables last deeds_then s.node.leader
    step-is = replied-is r.reply r.woken r.own r.wakes

    module _ (leader : Leader) (directory_is : leader.directory ≡ s.node.leader.directory)
        (keys : KeysThen p s asked b leader) where
      follow : KeysThen p s asked b leader
          → KeysFollow asked.call b.kernel
          (node_of (first_world script v p s asked rest b holds at asks name here on d r outcome strikes leader
          directory_is) 1).leader
      follow (they_stay same no_queue no_set) =
          keys-left script v p s asked rest b holds at asks name here on d r outcome strikes leader directory_is same
          no_queue no_set
      follow (they_follow is k) =
          subst (λ l. KeysFollow asked.call b.kernel l)
          (sym (leader-first script v p s asked rest b holds at asks name here on d r outcome strikes leader
          directory_is is)) k

      turned : IsReplying script v p (with_tables last deeds_then leader) asked rest b name d.left r.reply r.woken
      turned =
          is-replying script v p s asked rest b holds at asks name here on d r outcome strikes leader directory_is
          (follow keys)

      replied : HasServed script v p s (with_tables carried_step deeds_then leader) asked rest b
      replied =
          subst (λ t. HasServed script v p s t asked rest b)
          (sym (ap (λ m. with_tables m deeds_then leader) step-is))
          (has-served (with_tables last deeds_then leader) r.woken
          (record {
            serving = replying-serves script v p (with_tables last deeds_then leader) asked rest b name d r turned;
            step = answering-step script v p s asked rest b holds at asks name d leader directory_is r.reply r.own
                r.woken turned.are_woken;
            parks = λ none. absurd (none-or-some d.own r.reply none r.own);
          }))

    by-reply : ServesSo
    by-reply =
        record {
          with_leader = λ leader directory_is keys parks. replied leader directory_is keys;
          own_tables = ap (λ m. with_tables m deeds_then s.node.leader) step-is ∙ sym step-is;
          gone = ap found_gone r.own
              ∙ none-gone r.reply
              (line-finds-none name (bare (with_waiters (b.body name) (waiters_of d.left))) (bare r.lines.0)
              (line who.pid who.call r.reply) not-own r.lines.1);
          reads = reads-by r.woken (takes-among (waiters_of (b.body name)) r.woken (waiters_of d.left) r.takes)
              r.wakes;
        }

  module _ (q : ParksBehind name (b.body name) who d) where
    abbrev waits : Step
    waits = with_tables entered deeds_then s.node.leader

    waits-is : carried_step ≡ waits
    waits-is = parked-is q.own q.wakes

    parked : HasServed script v p s carried_step asked rest b
    parked =
        subst (λ t. HasServed script v p s t asked rest b) (sym waits-is)
        (has-served waits []
        (record {
          serving = parking-serves script v p s asked rest b holds at asks name here on d q outcome strikes;
          step = parking-step script v p s asked rest b holds at asks name d s.node.leader refl;
          parks = λ none. (q.object, q.wakes);
        }))

    by-park : ServesSo
    by-park =
        record {
          with_leader = λ leader directory_is keys parks.
              subst (λ t. HasServed script v p s t asked rest b)
              (sym (ap (with_tables carried_step deeds_then) (parks q.own)
              ∙ ap (λ m. with_tables m deeds_then s.node.leader) waits-is ∙ sym waits-is)) parked;
          own_tables = ap (λ m. with_tables m deeds_then s.node.leader) waits-is ∙ sym waits-is;
          gone = ap found_gone q.own;
          reads = reads-by [] tt q.wakes;
        }

  serves-so : ServesSo
  serves-so =
      elim (served-in-turn name (b.body name) who (body-is-fit script w hand b holds name)
      (wait-at script w hand b holds name) not-own) [ inl r ↦ by-reply r | inr q ↦ by-park q ]

  -- All holds once it has served the call, where the leader has these tables then.
  pub serves-with : (leader : Leader) → leader.directory ≡ s.node.leader.directory → KeysThen p s asked b leader
      → (d.own ≡ None → leader ≡ s.node.leader)
      → HasServed script v p s (with_tables carried_step deeds_then leader) asked rest b
  serves-with leader directory_is keys parks = serves-so.with_leader leader directory_is keys parks

  -- So it does where the call removes nothing.
  pub serves-kept : removed_queue asked.call ≡ None → removed_set asked.call ≡ None
      → HasServed script v p s carried_step asked rest b
  serves-kept no_queue no_set =
      subst (λ t. HasServed script v p s t asked rest b) serves-so.own_tables
      (serves-with s.node.leader refl (they_stay refl no_queue no_set) (λ none. refl))

  -- the leader's tables stay as they were
  pub carried-leader : carried_step.node.leader ≡ s.node.leader
  carried-leader = ap (λ (t : Step). t.node.leader) (sym serves-so.own_tables)

  -- and the node's deeds are these
  pub carried-deeds : carried_step.node.deeds ≡ deeds_then
  carried-deeds = ap (λ (t : Step). t.node.deeds) (sym serves-so.own_tables)

  -- ---- the rule

  deeds-are : put_all s.node.deeds serves.served.changes ≡ deeds_then
  deeds-are = serves.deeds_are ∙ ap (put_all deeds_then) serves-so.gone

  room : HasFewNodes script → has_room s name asked ≡ true
  room few =
      ap (λ o. option_map_or (λ body. admits body who) o true) held
      ∙ is-admitted script w asked rest b holds asks name few

  abbrev by-served : Deeds → Option Reply → List Wake → Step
  by-served deeds own wakes =
      note_reads
      (carry_out_waking script (with_deeds (with_strike s (is_struck s.node name asked.call)) deeds) asked own wakes)
      name serves.served.readers

  -- The rule comes to this step, and notes who read.
  pub serve-rule : HasFewNodes script
      → serve_asked script s name asked ≡ Some (note_reads carried_step name serves.served.readers)
  serve-rule few =
      ap (λ t. if t then option_map (serve_asked_with script s name asked) (serve s.node.deeds who) else Some s)
      (room few)
      ∙ ap (option_map (serve_asked_with script s name asked)) serves.serves
      ∙ ap (λ deeds. Some (by-served deeds serves.served.own serves.served.wakes)) deeds-are
      ∙ ap (λ own. Some (by-served deeds_then own serves.served.wakes)) serves.own
      ∙ ap (λ wakes. Some (by-served deeds_then d.own wakes)) serves.wakes

  -- Who reads is a node that is born, and reads a queue or a set.
  pub readers-here : (r : ℕ) → Contains serves.served.readers r → IsReader script w name r
  readers-here r h = serves-so.reads r (subst (λ rs. Contains rs r) serves.readers h)

  -- Nobody reads what is removed.
  pub removal-unread : is_removal asked.call ≡ true → serves.served.readers ≡ []
  removal-unread removes = serves.readers ∙ removal-read-by-none name (b.body name) who removes
