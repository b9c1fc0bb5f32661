-- What the step of a served call changes: the call has its reply, and those whom it wakes have theirs; or it parks.
use Rattle.std.proofs.Common.{◌≡◌, ◌≢◌, ℕ, Bool, false, ◌||◌, List, [], ◌∷◌, ◌++◌, Option, Some, None, refl, ap, sym, subst, ◌∙◌, append-nil}
use Rattle.std.specs.List.{AllByRecursion}
use Rattle.std.proofs.lemmas.Bool.{ne_eqb}
use Rattle.pico_base.specs.declared.numbers.Name.{Name}
use Rattle.pico_base.specs.declared.reply.Entry.{Entry}
use Rattle.pico_base.specs.declared.reply.Outcome.{Outcome}
use Rattle.pico_base.specs.declared.reply.Reply.{Reply}
use Rattle.pico_base.specs.declared.script.Script.{Script}
use Rattle.rpc_frame.specs.declared.asked.Asked.{Asked}
use Rattle.rpc_frame.specs.declared.frame.Frame.{Frame}
use Rattle.node_model.specs.declared.held.Held.{Held}
use Rattle.node_model.specs.declared.held.Held.TheVariants.{Request}
use Rattle.node_model.specs.Awaiting.{Applied}
use Rattle.node_model.specs.Bodies.{Body, Deeds}
use Rattle.node_model.specs.Entries.{entry_with, outcome_with}
use Rattle.node_model.specs.Kinds.{put_named}
use Rattle.node_model.specs.Serving.{waiting_as}
use Rattle.world_model.specs.Node.{Leader, Node}
use Rattle.world_model.specs.Serving.{is_struck}
use Rattle.world_model.specs.Step.{Step, enter_with}
use Rattle.world_model.specs.World.{World, world_after}
use Rattle.world_laws.specs.Places.{Beside}
use Rattle.world_laws.specs.Sights.{is_born_in, node_of}
use Rattle.world_laws.specs.Families.{NodeHolds}
use Rattle.world_laws.specs.Cancels.{Owing}
use Rattle.world_laws.specs.Invariant.{HoldsOwing}
use Rattle.world_laws.proofs.Cancels.{IsLater, same-later}
use Rattle.world_laws.proofs.Changes.{Changes, read-same}
use Rattle.world_laws.proofs.Middles.{changes-further}
use Rattle.route_laws.proofs.hand.HandMoves.{IsCallOf}
use Rattle.route_laws.proofs.served.AllTurns.{IsWoken, is_among}
use Rattle.route_laws.proofs.served.Cancelled.{IsStepOf}
use Rattle.route_laws.proofs.served.Replies.{IsAtWork}
use Rattle.route_laws.proofs.served.Rounds.{Answered, answered}
use Rattle.route_laws.proofs.served.Sent.{all-caller, all-sends, all-later, all-to-nodes, sends-no-cancel, sends-of-no-other, turn_sends}
use Rattle.route_laws.proofs.served.Steps.{StaysStep, all-stay, answer_all, with_tables}
use Rattle.route_laws.proofs.served.Turns.{node-at}
use Rattle.route_laws.proofs.served.Woken.{asked_from}

none-or-some : {A : Type 0} (o : Option A) (x : A) → o ≡ None → o ≡ Some x → ⊥
none-or-some o x none some = cc

-- those who are woken are nodes of the script
woken-ask : (script : Script) (name : Name) (woken : List Answered) → AllByRecursion (IsWoken script name) woken
    → AllByRecursion (λ a. IsCallOf script (asked_from a.who)) woken
woken-ask script name [] h = tt
woken-ask script name (a ∷ more) h = ((h.0).asks, woken-ask script name more h.1)

-- What a step of a served call is: it makes this entry, and the node lives and watches as before.
pub record IsServingStep (script : Script) (v : World) (p : ℕ) (s t : Step) (asked : Asked) (name : Name)
    (d : Applied Body) (woken : List Answered) : Type 0 where
  pub step : IsStepOf script v p s t asked name d woken
  pub entered : step.entries ≡ entry_with p asked.pid asked.call (outcome_with d.own d.wakes) ∷ []
  pub stage : t.node.stage ≡ (node_of (world_after v p s) p).stage
  pub watches : t.node.watches ≡ s.node.watches

module _ (script : Script) (v : World) (p : ℕ) (s : Step) (asked : Asked) (rest : List Held) (b : Beside)
    {owed : Owing} (holds : HoldsOwing script (world_after v p s) (Request asked ∷ rest) owed b)
    (at : IsAtWork script (world_after v p s) p)
    (asks : IsCallOf script asked) (name : Name) (d : Applied Body) (leader : Leader)
    (directory_is : leader.directory ≡ s.node.leader.directory) where
  abbrev w : World
  w = world_after v p s

  abbrev outcome : Outcome
  outcome = outcome_with d.own d.wakes

  abbrev strikes : Bool
  strikes = s.strikes || is_struck s.node name asked.call

  abbrev entry : Entry
  entry = entry_with s.node.number asked.pid asked.call outcome

  -- the step with the entry
  abbrev pub entered_step : Step
  entered_step = enter_with (record s { strikes = strikes }) asked.pid asked.call outcome

  abbrev deeds : Deeds
  deeds = put_named s.node.deeds name d.left

  there : node_of w p ≡ s.node
  there = node-at script v p s holds.shape at.low at.high

  number : s.node.number ≡ p
  number =
      let old : NodeHolds script b.pids (is_born_in w) p (node_of w p) = holds.nodes p at.low at.high
      in sym (ap (λ (n : Node). n.number) there) ∙ old.number

  entry-is : entry ∷ [] ≡ entry_with p asked.pid asked.call outcome ∷ []
  entry-is = ap (λ node. entry_with node asked.pid asked.call outcome ∷ []) number

  same-directory : leader.directory ≡ (node_of w p).leader.directory
  same-directory = directory_is ∙ ap (λ (n : Node). n.leader.directory) (sym there)

  -- ---- the call has its reply

  module _ (reply : Reply) (own_is : d.own ≡ Some reply) (woken : List Answered)
      (are_woken : AllByRecursion (IsWoken script name) woken) where
    abbrev all : List Answered
    all = answered (waiting_as asked) reply ∷ woken

    abbrev last : Step
    last = answer_all script entered_step all

    -- the step
    abbrev pub answered_step : Step
    answered_step = with_tables last deeds leader

    abbrev sends : List (ℕ × Frame)
    sends = turn_sends p all

    stays : StaysStep entered_step last
    stays = all-stay script entered_step all

    changes : Changes script p w (world_after v p answered_step) answered_step.node [] sends (entry ∷ [])
    changes =
        changes-further script v p s answered_step sends (entry ∷ []) holds.shape at.low at.high
        (all-to-nodes script p all (asks, woken-ask script name woken are_woken))
        (record {
          sends_are = all-sends script entered_step all ∙ ap (λ n. s.sends ++ turn_sends n all) number;
          entries_are = stays.entries;
        })

    none-among : (y : ℕ) → y ≢ asked.caller → is_among y woken ≡ false → is_among y all ≡ false
    none-among y other among =
        ap (λ t. t || is_among y woken) (ne_eqb asked.caller y (λ e. other (sym e))) ∙ among

    other-caller : (p ≡ asked.caller → d.own ≡ None) → p ≢ asked.caller
    other-caller parks e = none-or-some d.own reply (parks e) own_is

    -- It changes so much.
    pub answering-step : IsServingStep script v p s answered_step asked name d woken
    answering-step =
        record {
          step = record {
            sends = sends;
            entries = entry ∷ [];
            changes = changes;
            there = there;
            directory = read-same script p w (world_after v p answered_step) answered_step.node [] sends (entry ∷ [])
                changes (λ (n : Node). n.leader.directory) same-directory 1;
            of_no_other = λ y other among. sends-of-no-other p y all (none-among y other among);
            about_none = λ none. absurd (none-or-some d.own reply none own_is);
            no_cancel = λ y. sends-no-cancel p y all;
            number = stays.number ∙ ap (λ (n : Node). n.number) (sym there);
            pid = stays.pid ∙ ap (λ (n : Node). n.pid) (sym there);
            later = subst (λ (n : Node). IsLater n.caller answered_step.node.caller) (sym there)
                (all-later script entered_step all);
            same_caller = λ parks among. record {
              number = stays.number ∙ ap (λ (n : Node). n.number) (sym there);
              pid = stays.pid ∙ ap (λ (n : Node). n.pid) (sym there);
              stage = stays.stage ∙ ap (λ (n : Node). n.stage) (sym there);
              caller = all-caller script entered_step all
                  (ap (λ n. is_among n all) number ∙ none-among p (other-caller parks) among)
                  ∙ ap (λ (n : Node). n.caller) (sym there);
              leases = stays.leases ∙ ap (λ (n : Node). n.leases) (sym there);
            };
            strikes = stays.strikes;
          };
          entered = entry-is;
          stage = stays.stage ∙ ap (λ (n : Node). n.stage) (sym there);
          watches = stays.watches;
        }

  -- ---- the call parks

  -- the step
  abbrev pub waiting_step : Step
  waiting_step = with_tables entered_step deeds leader

  parked-changes : Changes script p w (world_after v p waiting_step) waiting_step.node [] [] (entry ∷ [])
  parked-changes =
      changes-further script v p s waiting_step [] (entry ∷ []) holds.shape at.low at.high tt
      (record { sends_are = sym (append-nil s.sends); entries_are = refl })

  -- It changes so much.
  pub parking-step : IsServingStep script v p s waiting_step asked name d []
  parking-step =
      record {
        step = record {
          sends = [];
          entries = entry ∷ [];
          changes = parked-changes;
          there = there;
          directory = read-same script p w (world_after v p waiting_step) waiting_step.node [] [] (entry ∷ [])
              parked-changes (λ (n : Node). n.leader.directory) same-directory 1;
          of_no_other = λ y other among. tt;
          about_none = λ none. tt;
          no_cancel = λ y. tt;
          number = ap (λ (n : Node). n.number) (sym there);
          pid = ap (λ (n : Node). n.pid) (sym there);
          later = subst (λ (n : Node). IsLater n.caller s.node.caller) (sym there)
              (same-later s.node.caller s.node.caller refl);
          same_caller = λ parks among. record {
            number = ap (λ (n : Node). n.number) (sym there);
            pid = ap (λ (n : Node). n.pid) (sym there);
            stage = ap (λ (n : Node). n.stage) (sym there);
            caller = ap (λ (n : Node). n.caller) (sym there);
            leases = ap (λ (n : Node). n.leases) (sym there);
          };
          strikes = refl;
        };
        entered = entry-is;
        stage = ap (λ (n : Node). n.stage) (sym there);
        watches = refl;
      }
