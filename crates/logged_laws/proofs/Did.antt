-- A turn that makes an event: it is one turn more at the end of the node's.
use Rattle.std.proofs.Common.{◌≡◌, ℕ, ◌+◌, ◌<◌, ◌≤◌, List, [], ◌∷◌, ◌++◌, map, Some, refl, ap, sym, subst, ◌∙◌, inr, append-nil, arith}
use Rattle.std.specs.List.{AllByRecursion, Contains, flat_map}
use Rattle.std.proofs.lemmas.List.Elements.{Contains-push}
use Rattle.pico_base.specs.declared.script.Script.{Script}
use Rattle.pico_base.specs.declared.script.Event.{Event}
use Rattle.rpc_frame.specs.declared.frame.Frame.{Frame}
use Rattle.stamp_merge.specs.declared.Stamped as merged
use Rattle.stamp_merge.proofs.Filters.{all-map}
use Rattle.journal_core.specs.declared.stamped.Stamped.{Stamped}
use Rattle.journal_core.specs.Journal.{under}
use Rattle.world_model.specs.Node.{opening_node}
use Rattle.world_model.specs.World.{IsNode}
use Rattle.log_laws.specs.Logs.{Input, Runs, Takes, Logged, Log, IsTakenLater, GoesBetween}
use Rattle.log_laws.specs.EventLogs.{event_item_of}
use Rattle.log_laws.proofs.Lists.{append-all}
use Rattle.log_laws.proofs.OneMore.{rises-with-last, leads-with-last}
use Rattle.log_model.specs.declared.found.Found.{Found}
use Rattle.log_model.specs.Views.{Line, LoggedNode}
use Rattle.log_model.specs.Turns.{floor_of, turn_with, with_sent, DoesEvent}
use Rattle.log_model.specs.Logged.{others_in, others_of, IsOfScript, IsWholeLine, IsDrawn, IsFromOther, GoesToOthers, SendsFrames, entries_under, Stands, IsLogged}
use Rattle.logged_laws.proofs.Lists.{holds-of}
use Rattle.logged_laws.proofs.Others.{others-are-nodes}
use Rattle.logged_laws.proofs.Lines.{whole-line-of}
use Rattle.logged_laws.proofs.OneMore.{all-below, all-up-to, log-with-turn, entries-with-turn, all-with-turn, others-with-turn}
use Rattle.logged_laws.proofs.Sends.{IsRuled, ruled, receivers-there}
use Rattle.logged_laws.proofs.Stamps.{floor-within, IsDrawnStamp, drawn-stamp}
use Rattle.logged_laws.proofs.Draws.{drawn-floor, floor-with-turns, clock-within, drawn-with-turns}
use Rattle.logged_laws.proofs.Came.{HasCome}
use Rattle.logged_laws.proofs.Kept.{from-same, all-go-same}
use Rattle.logged_laws.proofs.Ended.{HasLooked, input-came}

-- what is taken comes from another node of the script, and was sent under a lower stamp
taken-later : (script : Script) (number : ℕ) (lines : List Line) (clock stamp : ℕ) (input : Input)
    → others_in lines ≡ others_of script number → floor_of clock input < stamp → IsFromOther lines input
    → IsTakenLater script stamp input
taken-later script number lines clock stamp Runs same above from = tt
taken-later script number lines clock stamp (Takes sender taken) same above from = (
  holds-of (IsNode script) (others_in lines) sender
      (subst (AllByRecursion (IsNode script)) (sym same) (others-are-nodes script number)) from,
  omega arith,
)

-- what is sent goes to nodes of the script
sent-to-nodes : (script : Script) (number : ℕ) (lines : List Line) (sends : List (ℕ × Frame))
    → others_in lines ≡ others_of script number → AllByRecursion (λ s. Contains (others_in lines) s.0) sends
    → AllByRecursion (λ s. IsNode script s.0) sends
sent-to-nodes script number lines sends same there =
    all-map (λ (s : ℕ × Frame) is.
    holds-of (IsNode script) (others_in lines) s.0
    (subst (AllByRecursion (IsNode script)) (sym same) (others-are-nodes script number)) is)
    sends there

module _ (script : Script) (old new : LoggedNode) (was : IsLogged script old) (found : Found) (lines : List Line)
    (looked : HasLooked script old was found lines) (of : IsOfScript script new)
    (does : DoesEvent script old was.last found lines new) where
  abbrev turn : Logged
  turn = turn_with does.stamp does.input does.step

  abbrev turns : Log
  turns = was.turns ++ turn ∷ []

  come : HasCome script old.number was.turns old.lines lines was.last does.input
  come = input-came script old was found lines does.input looked does.is_input

  rule : IsRuled script lines was.last does.input does.step
  rule = ruled script lines was.last does.input does.step does.is_step

  drawn : IsDrawnStamp (floor_of old.clock does.input) does.step.entries old.seat new.seat does.stamp
  drawn =
      drawn-stamp (floor_of old.clock does.input) does.step.entries old.seat new.seat does.stamp does.is_stamp

  above-floor : floor_of old.clock does.input < does.stamp
  above-floor =
      let within : floor_of old.clock does.input ≤ drawn.larger =
      floor-within (floor_of old.clock does.input) new.seat.seen drawn.larger drawn.from
      in let is : does.stamp ≡ drawn.larger + 1 = drawn.is
      in omega arith

  above-clock : old.clock < does.stamp
  above-clock =
      let low : old.clock ≤ floor_of old.clock does.input = clock-within old.clock does.input
      in let above : floor_of old.clock does.input < does.stamp = above-floor
      in omega arith

  -- the node as the turn leaves it
  abbrev left : LoggedNode
  left =
      record old {
        node = Some does.step.node;
        forker = new.forker;
        clock = does.stamp;
        log = old.log ++ event_item_of old.number turn ∷ [];
        lines = map (with_sent does.stamp does.step.sends) lines;
        seat = new.seat;
        quiet = 0;
      }

  left-of-script : IsOfScript script left
  left-of-script = subst (IsOfScript script) does.is of

  -- its lines are with the same nodes as before, and as behind the looks
  same-others : others_in old.lines ≡ others_in left.lines
  same-others = was.of_script.others ∙ sym left-of-script.others

  same-looked : others_in lines ≡ others_in left.lines
  same-looked = sym (others-with-turn does.stamp does.step.sends lines)

  goes : GoesToOthers left.lines turn
  goes =
      record {
        taken = from-same old.lines left.lines does.input same-others come.from;
        sent = subst (λ (ps : List ℕ). AllByRecursion (λ s. Contains ps s.0) does.step.sends) same-looked
            (receivers-there lines does.step.sends rule.may_send);
      }

  between : GoesBetween script turn
  between =
      record {
        taken = taken-later script old.number left.lines old.clock does.stamp does.input left-of-script.others
            above-floor goes.taken;
        sent = sent-to-nodes script old.number left.lines does.step.sends left-of-script.others goes.sent;
      }

  whole : AllByRecursion (IsWholeLine turns) left.lines
  whole = all-with-turn was.turns turn lines come.with_it

  drawn-from : IsDrawn turns new.seat.seen turn
  drawn-from =
      record {
        floor = drawn.larger;
        from = floor-with-turns was.turns (turn ∷ []) does.input new.seat.seen new.seat.seen drawn.larger
            ([], sym (append-nil new.seat.seen))
            (drawn-floor was.turns does.input new.seat.seen old.clock drawn.larger was.clock_is drawn.from);
        is = drawn.is;
      }

  own-entries : new.seat.own ≡ flat_map (entries_under new.seat.number) turns
  own-entries =
      drawn.own
      ∙ ap (λ (es : List Stamped). es ++ under does.stamp old.seat.number does.step.entries) was.own
      ∙ sym (entries-with-turn old.seat.number was.turns turn)
      ∙ ap (λ (seat : ℕ). flat_map (entries_under seat) turns) (sym does.seat)

  logged : IsLogged script left
  logged =
      record {
        of_script = left-of-script;
        turns = turns;
        last = does.step.node;
        leads = leads-with-last script was.turns (opening_node old.number) was.last turn was.leads rule.turns;
        rise =
            rises-with-last old.number was.turns turn was.rise
            (all-below old.clock does.stamp was.turns above-clock was.clock);
        clock = all-up-to old.clock was.turns turn above-clock was.clock;
        clock_is = inr (turn, Contains-push was.turns turn, refl);
        log =
            ap (λ (log : List (merged.Stamped Event)). log ++ event_item_of old.number turn ∷ []) was.log
            ∙ sym (log-with-turn old.number was.turns turn);
        own = own-entries;
        seat = does.seat ∙ was.seat;
        between = append-all (GoesBetween script) was.turns (turn ∷ []) was.between (between, tt);
        others = append-all (GoesToOthers left.lines) was.turns (turn ∷ [])
            (all-go-same old.lines left.lines same-others was.turns was.others) (goes, tt);
        frames = append-all SendsFrames was.turns (turn ∷ []) was.frames (does.frames, tt);
        drawn = append-all (IsDrawn turns new.seat.seen) was.turns (turn ∷ [])
            (drawn-with-turns was.turns (turn ∷ []) old.seat.seen new.seat.seen drawn.seen was.turns was.drawn)
            (drawn-from, tt);
        lines = all-map (λ line w. whole-line-of turns line w) left.lines whole;
        stands = subst (Stands script left turns does.step.node) (sym looked.none) (refl, whole);
      }

  -- the turn is the last one of the node's
  pub kept-did : IsLogged script new
  kept-did = subst (IsLogged script) (sym does.is) logged
