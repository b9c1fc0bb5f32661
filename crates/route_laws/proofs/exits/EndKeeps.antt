-- The leader ends the process of the first parcel of its hand, in the middle of an event: where the parent's deed is at
-- another node the parcel goes there, and where it is at the leader the exit is carried out.
use Rattle.std.proofs.Common.{◌≡◌, ◌≢◌, ℕ, ◌≤◌, List, [], ◌∷◌, ◌++◌, if◌then◌else◌, Some, option_map, refl, ap, sym, subst, ◌∙◌, arith, append-nil, inl, inr, ◌||◌}
use Rattle.std.proofs.lemmas.Bool.{eq-eqb, ne_eqb, cases_eq}
use Rattle.pico_base.specs.declared.numbers.Name.{Name}
use Rattle.pico_base.specs.declared.numbers.Name.TheVariants.{Proc}
use Rattle.pico_base.specs.declared.reply.Entry.{Entry}
use Rattle.pico_base.specs.declared.reply.Reply.TheVariants as replies
use Rattle.pico_base.specs.declared.script.Script.{Script}
use Rattle.pico_base.specs.declared.call.Call.{Call}
use Rattle.pico_base.specs.declared.reply.Reply.{Reply}
use Rattle.rpc_frame.specs.declared.deed.Parcel.{Parcel}
use Rattle.rpc_frame.specs.declared.frame.Frame.{Frame}
use Rattle.rpc_frame.specs.declared.frame.Frame.TheVariants as frames
use Rattle.kernel_model.specs.Row.{Row}
use Rattle.node_model.specs.declared.held.Held.{Held}
use Rattle.node_model.specs.declared.held.Held.TheVariants.{Ending}
use Rattle.node_model.specs.Directory.{Directory, At, place_of}
use Rattle.world_model.specs.Node.{Node}
use Rattle.world_model.specs.Step.{Step, with_node, with_deeds, with_directory, send, enter_with, with_strike, reply_here}
use Rattle.world_model.specs.Ends.{Releases, names_in, held_for_all, arrive_all, release_names, exit_here, end_by, end_process, enter_exit, is_struck_by_end, answer_own}
use Rattle.world_model.specs.World.{World, node_count, world_after}
use Rattle.world_laws.specs.Places.{InHand, Beside, CallPlace, InTable, Idle}
use Rattle.world_laws.specs.Sights.{node_of, directory_of, stage_of, is_born_in}
use Rattle.world_laws.specs.Families.{NodeHolds}
use Rattle.world_laws.specs.Invariant.{HoldsOwing}
use Rattle.world_laws.specs.Deeds.{DeedsAreRead}
use Rattle.world_laws.specs.Ways.{under_way_of, HasSender}
use Rattle.world_laws.proofs.Changes.{Changes}
use Rattle.world_laws.proofs.Sends.{AreToNodes}
use Rattle.world_laws.proofs.Middles.{GrowsBy, changes-further}
use Rattle.world_laws.specs.Cancels.{owing_of}
use Rattle.route_laws.proofs.hand.Owners.{owner-in-range}
use Rattle.route_laws.proofs.exits.Arrivals.{Arrives, all-arrive}
use Rattle.node_model.specs.Bodies.{Deeds, Living as LivingBody}
use Rattle.node_model.specs.Entries.{entry_with, outcome_with}
use Rattle.node_model.specs.Parcels.{Committed}
use Rattle.node_model.specs.Kinds.{put_all}
use Rattle.node_model.specs.Caller.{answer_call}
use Rattle.route_laws.proofs.exits.Parcels.{hand-sender, HasParcel}
use Rattle.route_laws.proofs.exits.Exits.{deeds_then, exits, ends_as, awaits, parent_body}
use Rattle.route_laws.proofs.exits.LeaderExits.{leader_parcel, parent-at-leader, leader_entry}
use Rattle.route_laws.proofs.exits.SentOn.{sent_beside}
use Rattle.route_laws.proofs.exits.SentAll.{parcel-sent-on}
use Rattle.route_laws.proofs.Owed.{HoldsAt}
use Rattle.route_laws.proofs.exits.Released.{call_released}
use Rattle.route_laws.proofs.exits.ExitDeeds.{node_then}
use Rattle.route_laws.proofs.exits.Parents.{bereft, ParentWaits, WhomItWakes, own_wake, parent-waits, whom-it-wakes, nobody, the_parent}
use Rattle.route_laws.proofs.exits.Hands.{hand_then}
use Rattle.route_laws.proofs.exits.LeaderEnds.{leader_ended, leader-carried-out, leader-wakes-parent, woken_leader, woken_leader_beside}
use Rattle.rule_laws.proofs.own.Moved.{AreStill, is_still, waited}
use Rattle.rule_laws.proofs.ends.RecallAlls.{deeds_at}
use Rattle.serve_laws.specs.Ends.{WakesThen}

-- In the middle of an event of the leader the process ends, and what that releases is in hand, in front of the rest.
-- The invariant holds then, with calls in these places beside the world.
pub record EndKeeps (script : Script) (v : World) (s : Step) (parcel : Parcel) (rest : List Held)
    (Calls : (ℕ → CallPlace) → Type 0) : Type 0 where
  pub next : Step
  pub items : List Held
  pub is_end : end_process script s parcel ≡ Some (Releases next items)
  pub beside : Beside
  pub holds : HoldsAt script v 1 next (items ++ rest) beside
  pub calls : Calls beside.call

-- Each call is where it was, or in hand where it was held for a name of the parcel. Only the leader's own, which waited
-- for a child, may be over.
abbrev pub AreReleased : (ℕ → CallPlace) → List Name → (ℕ → CallPlace) → Type 0
AreReleased before names after = AreStill (λ p. call_released names (before p)) after

module _ (script : Script) (v : World) (s : Step) (parcel : Parcel) (rest : List Held) (b : Beside)
    (holds : HoldsAt script v 1 s (Ending parcel ∷ rest) b) (some_node : 1 ≤ node_count script) where
  abbrev w : World
  w = world_after v 1 s

  abbrev d : Directory
  d = directory_of w

  abbrev names : List Name
  names = names_in parcel

  changes-now : (t : Step) (sends : List (ℕ × Frame)) (entries : List Entry) → GrowsBy s t sends entries
      → AreToNodes (node_count script) sends → Changes script 1 w (world_after v 1 t) t.node [] sends entries
  changes-now t sends entries grows to_nodes =
      changes-further script v 1 s t sends entries holds.shape (omega arith) some_node to_nodes grows

  -- the world shows the node of the step
  pub leader-here : node_of w 1 ≡ s.node
  leader-here =
      let c : Changes script 1 w w s.node [] [] [] =
      changes-now s [] []
      (record { sends_are = sym (append-nil s.sends); entries_are = sym (append-nil s.entries) }) tt
      in c.here

  -- which is node 1
  pub leader-number : s.node.number ≡ 1
  leader-number =
      let n : NodeHolds script b.pids (is_born_in w) 1 (node_of w 1) = holds.nodes 1 (omega arith) some_node
      in sym (ap (λ (m : Node). m.number) leader-here) ∙ n.number

  -- with this directory
  pub leader-directory : s.node.leader.directory ≡ d
  leader-directory = sym (ap (λ (m : Node). m.leader.directory) leader-here)

  -- ---- at another node

  module _ (x : ℕ) (place : place_of d (Proc parcel.parent) ≡ Some (At x)) (low : 1 ≤ x) (away : x ≢ 1) where
    abbrev directory_then : Directory
    directory_then = arrive_all d names x

    abbrev sent_on : Step
    sent_on =
        with_node (send s x (frames.ExitTo parcel))
        (with_directory s.node (arrive_all s.node.leader.directory names x))

    -- it is above the leader
    two : 2 ≤ x
    two = omega (arith, low, away)

    -- the parcel's names are there then
    arrives : Arrives d directory_then names x
    arrives = all-arrive d names x holds.leading

    -- and this is all that the leader's step changes
    sent-changes : Changes script 1 w (world_after v 1 sent_on) (with_directory (node_of w 1) directory_then) []
        ((x, frames.ExitTo parcel) ∷ []) []
    sent-changes =
        subst (λ (m : Node). Changes script 1 w (world_after v 1 sent_on)
        (with_directory m (arrive_all m.leader.directory names x)) [] ((x, frames.ExitTo parcel) ∷ []) [])
        (sym leader-here)
        (changes-now sent_on ((x, frames.ExitTo parcel) ∷ []) []
        (record { sends_are = refl; entries_are = sym (append-nil s.entries) }) (
          record {
            low = low;
            high = owner-in-range script w (Ending parcel ∷ rest) b holds (Proc parcel.parent) x place two;
          },
          tt,
        ))

    abbrev beside_sent : Beside
    beside_sent =
        sent_beside script w rest parcel b holds x place two directory_then arrives (world_after v 1 sent_on)
        sent-changes

    -- The parcel goes on to the node, and what was held for its names comes into the hand.
    pub end-sent-on : EndKeeps script v s parcel rest (AreReleased b.call names)
    end-sent-on =
        record {
          next = sent_on;
          items = held_for_all s.node.leader.directory names;
          is_end = ap (λ z. end_by script s parcel (place_of z (Proc parcel.parent))) leader-directory
              ∙ ap (end_by script s parcel) place
              ∙ ap (λ t. if t
              then option_map (release_names parcel x) (exit_here script s parcel)
              else Some (release_names parcel x (send s x (frames.ExitTo parcel))))
              (ne_eqb x s.node.number (λ e. away (e ∙ leader-number)));
          beside = beside_sent;
          holds = subst (λ z. HoldsOwing script (world_after v 1 sent_on) (held_for_all z names ++ rest)
              (owing_of 1 s.strikes) beside_sent) (sym leader-directory)
              (parcel-sent-on script w rest parcel b holds x place two directory_then arrives (world_after v 1 sent_on)
              sent-changes);
          calls = λ p. is_still refl;
        }

  -- ---- at the leader

  module _ (reads : DeedsAreRead b.kernel b.body) (place : place_of d (Proc parcel.parent) ≡ Some (At 1)) where
    abbrev sender : HasSender script b.pids (stage_of w) (under_way_of w) parcel
    sender = hand-sender script w rest parcel b holds

    abbrev c : ℕ
    c = sender.node

    abbrev hand : List Held
    hand = Ending parcel ∷ rest

    abbrev its_parcel : HasParcel script w b parcel c sender.call (InHand c)
    its_parcel = leader_parcel script w rest parcel b holds reads some_node place

    abbrev parent-there : b.deed (Proc parcel.parent) ≡ InTable 1
    parent-there = parent-at-leader script w rest parcel b holds reads some_node place

    abbrev ends : Committed
    ends = ends_as script w hand b holds parcel c sender.call (InHand c) its_parcel reads 1 parent-there

    abbrev held_then : Deeds
    held_then = deeds_then script w hand b holds parcel c sender.call (InHand c) its_parcel reads 1 parent-there

    abbrev struck : Step
    struck = with_strike s (is_struck_by_end s.node parcel.parent)

    -- the exit, with these deeds and these wakes, and the parcel's names here
    abbrev exited_with : Deeds → Step
    exited_with deeds =
        enter_with (with_deeds struck deeds) parcel.pid parcel.call (outcome_with (Some replies.Ended) ends.wakes)

    abbrev arrived : Step → Step
    arrived t = with_node t (with_directory t.node (arrive_all t.node.leader.directory names 1))

    abbrev ended : Step
    ended = arrived (exited_with held_then)

    -- the parcel's names are at the leader then
    arrive-here : Arrives d (arrive_all d names 1) names 1
    arrive-here = all-arrive d names 1 holds.leading

    abbrev ended_node : Node
    ended_node =
        with_directory
        (node_then script w hand b holds parcel c sender.call (InHand c) its_parcel reads 1 parent-there)
        (arrive_all d names 1)

    node-there : ended_node ≡ ended.node
    node-there =
        ap (λ (m : Node). with_directory (record m { deeds = held_then }) (arrive_all m.leader.directory names 1))
        leader-here

    -- and this is all that the leader's step changes
    exit-changes : Changes script 1 w (world_after v 1 ended) ended_node [] []
        (leader_entry script w rest parcel b holds reads some_node place ∷ [])
    exit-changes =
        subst (λ (m : Node). Changes script 1 w (world_after v 1 ended) m [] []
        (leader_entry script w rest parcel b holds reads some_node place ∷ [])) (sym node-there)
        (changes-now ended [] (leader_entry script w rest parcel b holds reads some_node place ∷ [])
        (record {
          sends_are = sym (append-nil s.sends);
          entries_are = ap (λ q. s.entries ++ entry_with q parcel.pid parcel.call
              (outcome_with (Some replies.Ended) ends.wakes) ∷ []) leader-number;
        }) tt)

    -- the rule comes to this
    exits-so : end_process script s parcel ≡ Some (release_names parcel 1 (enter_exit script s parcel ends))
    exits-so =
        ap (λ z. end_by script s parcel (place_of z (Proc parcel.parent))) leader-directory
        ∙ ap (end_by script s parcel) place
        ∙ ap (λ t. if t
        then option_map (release_names parcel 1) (exit_here script s parcel)
        else Some (release_names parcel 1 (send s 1 (frames.ExitTo parcel))))
        (eq-eqb 1 s.node.number (sym leader-number))
        ∙ ap (option_map (release_names parcel 1))
        (exits script w hand b holds parcel c sender.call (InHand c) its_parcel reads 1 parent-there s
        (sym leader-here))

    abbrev hand_now : List Held
    hand_now = held_for_all s.node.leader.directory names ++ rest

    -- what is in hand, and what is owed, by the node that the world shows
    by-node : (u : World) (z : Beside)
        → HoldsOwing script u (hand_then script w rest parcel b holds)
        (owing_of 1 (s.strikes || is_struck_by_end (node_of w 1) parcel.parent)) z
        → HoldsOwing script u hand_now (owing_of 1 (s.strikes || is_struck_by_end s.node parcel.parent)) z
    by-node u z h =
        subst (λ (m : Node). HoldsOwing script u (held_for_all m.leader.directory names ++ rest)
        (owing_of 1 (s.strikes || is_struck_by_end m parcel.parent)) z) leader-here h

    -- nobody is woken
    module _ (none : ends.wakes ≡ [])
        (same : ends.changes
        ≡ (bereft script w hand b holds parcel c sender.call (InHand c) its_parcel reads 1 parent-there).changes) where
      step-is : enter_exit script s parcel ends ≡ exited_with held_then
      step-is =
          ap (answer_own script (exited_with (put_all s.node.deeds ends.changes))) none
          ∙ ap exited_with
          (ap (put_all s.node.deeds) same
          ∙ ap (λ (m : Node). put_all m.deeds
          (bereft script w hand b holds parcel c sender.call (InHand c) its_parcel reads 1 parent-there).changes)
          (sym leader-here))

      end-alone : EndKeeps script v s parcel rest (AreReleased b.call names)
      end-alone =
          record {
            next = ended;
            items = held_for_all s.node.leader.directory names;
            is_end = exits-so ∙ ap (λ t. Some (release_names parcel 1 t)) step-is;
            beside = leader_ended script w rest parcel s.strikes b holds reads some_node place (arrive_all d names 1)
                arrive-here (world_after v 1 ended) exit-changes;
            holds = by-node (world_after v 1 ended) _
                (leader-carried-out script w rest parcel s.strikes b holds reads some_node place (arrive_all d names 1)
                arrive-here (world_after v 1 ended) exit-changes none);
            calls = λ p. is_still refl;
          }

    -- the parent is
    module _ (r : Row)
        (is : parent_body script w hand b holds parcel c sender.call (InHand c) its_parcel reads 1 parent-there
        ≡ LivingBody r) (waits : Call) (reply : Reply)
        (aw : awaits script w hand b holds parcel c sender.call (InHand c) its_parcel reads 1 parent-there ≡ Some waits)
        (woken : ends.wakes ≡ own_wake parcel.parent reply ∷ [])
        (after : WakesThen parcel waits (deeds_at w 1) ends
        (bereft script w hand b holds parcel c sender.call (InHand c) its_parcel reads 1 parent-there)
        (own_wake parcel.parent reply)) where
      m : ParentWaits script w hand b holds parcel c sender.call (InHand c) its_parcel reads 1 parent-there r is waits
      m = parent-waits script w hand b holds parcel c sender.call (InHand c) its_parcel reads 1 parent-there r is waits
          aw

      abbrev deeds_now : Deeds
      deeds_now = put_all s.node.deeds ends.changes

      abbrev entered : Step
      entered = exited_with deeds_now

      abbrev replied : Step
      replied =
          with_node entered
          (record entered.node { caller = answer_call script s.node.number s.node.caller waits reply })

      replies-so : enter_exit script s parcel ends ≡ replied
      replies-so =
          ap (answer_own script entered) woken
          ∙ ap (reply_here script entered reply)
          (ap (λ (z : Node). z.caller.under_way) (sym leader-here) ∙ m.under_way_is)

      abbrev woken_step : Step
      woken_step = arrived replied

      abbrev woken_there : Node
      woken_there =
          woken_leader script w rest parcel s.strikes b holds reads some_node place (arrive_all d names 1) arrive-here
          (world_after v 1 ended) exit-changes r is waits reply aw woken after

      shown : node_of (world_after v 1 ended) 1 ≡ ended.node
      shown = exit-changes.here ∙ node-there

      woken-is : woken_there ≡ woken_step.node
      woken-is =
          (λ i. record (shown i) {
            caller = answer_call script 1 (shown i).caller (sym m.waits_for i) reply;
            deeds = put_all (leader-here i).deeds ends.changes;
          })
          ∙ ap (λ number. record ended.node {
            caller = answer_call script number s.node.caller waits reply;
            deeds = deeds_now;
          }) (sym leader-number)

      further : Changes script 1 (world_after v 1 ended) (world_after v 1 woken_step) woken_there [] [] []
      further =
          subst (λ (z : Node). Changes script 1 (world_after v 1 ended) (world_after v 1 woken_step) z [] [] [])
          (sym woken-is)
          (changes-further script v 1 ended woken_step [] [] exit-changes.shape (omega arith) some_node tt
          (record { sends_are = sym (append-nil s.sends); entries_are = sym (append-nil ended.entries) }))

      end-waking : EndKeeps script v s parcel rest (AreReleased b.call names)
      end-waking =
          record {
            next = woken_step;
            items = held_for_all s.node.leader.directory names;
            is_end = exits-so ∙ ap (λ t. Some (release_names parcel 1 t)) replies-so;
            beside = woken_leader_beside script w rest parcel s.strikes b holds reads some_node place
                (arrive_all d names 1) arrive-here (world_after v 1 ended) exit-changes r is waits reply aw woken after;
            holds = by-node (world_after v 1 woken_step) _
                (leader-wakes-parent script w rest parcel s.strikes b holds reads some_node place (arrive_all d names 1)
                arrive-here (world_after v 1 ended) exit-changes r is waits reply aw woken after
                (world_after v 1 woken_step) further refl);
            calls = λ p. elim (cases_eq p 1) [
              | inl at ↦
                  waited
                  (ap (call_released names) (ap b.call at ∙ m.parked))
                  (ap (λ t. if t then Idle else call_released names (b.call p)) (eq-eqb 1 p (sym at)))
              | inr other ↦
                  is_still
                  (sym (ap (λ t. if t then Idle else call_released names (b.call p))
                  (ne_eqb 1 p (λ e. other (sym e)))))
            ];
          }

    -- The exit is carried out, and what was held for the parcel's names comes into the hand.
    pub end-carried-out : EndKeeps script v s parcel rest (AreReleased b.call names)
    end-carried-out =
        by (whom-it-wakes script w hand b holds parcel c sender.call (InHand c) its_parcel reads 1 parent-there)
      where
        by : WhomItWakes script w hand b holds parcel c sender.call (InHand c) its_parcel reads 1 parent-there
            → EndKeeps script v s parcel rest (AreReleased b.call names)
        by (nobody none same) = end-alone none same
        by (the_parent r waits reply is aw woken after) = end-waking r is waits reply aw woken after
