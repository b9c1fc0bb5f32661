-- The exit of the first parcel in the leader's hand, at the leader: all holds once it is carried out and, where it
-- wakes the parent, that has its reply.
use Rattle.std.proofs.Common.{Bool, List, [], ap, false, filter, if◌then◌else◌, is_none, not, refl, sym, true, ℕ, ◌&&◌, ◌∙◌, ◌∷◌, ◌≡◌, ◌≤◌, Some, ◌||◌}
use Rattle.std.proofs.lemmas.Bool.{false≢true}
use Rattle.pico_base.specs.declared.reply.Entry.{Entry}
use Rattle.pico_base.specs.declared.numbers.Name.{Name}
use Rattle.pico_base.specs.declared.script.Script.{Script}
use Rattle.pico_base.specs.declared.numbers.Name.TheVariants.{Proc}
use Rattle.pico_base.specs.declared.call.Call.{Call}
use Rattle.pico_base.specs.declared.reply.Reply.{Reply}
use Rattle.rpc_frame.specs.declared.deed.Parcel.{Parcel}
use Rattle.number_maps.specs.Maps.{get}
use Rattle.kernel_model.specs.Row.{Row}
use Rattle.waiting_model.specs.Calls.{may_park, waits_at}
use Rattle.waiting_model.specs.Kernel as whole_kernels
use Rattle.waiting_model.specs.Marks as whole_rows
use Rattle.route_laws.proofs.exits.Arrivals.{Arrives, held-kept, is_one_of}
use Rattle.route_laws.proofs.exits.Released.{call_released, deed_released}
use Rattle.route_laws.proofs.exits.Cancelled.{cancel_released, released_cancel, holds-released, marks-released}
use Rattle.route_laws.proofs.exits.Parcels.{hand-sender, no-object-in, parcel-in-hand, HasParcel, own-place}
use Rattle.route_laws.proofs.exits.Hands.{hand_then, names, place-still, kept-in-hand, parcel-apart}
use Rattle.route_laws.proofs.exits.ExitCancels.{AreSeen}
use Rattle.route_laws.proofs.Entered.{cancel-holds-of}
use Rattle.route_laws.proofs.exits.DeedMoves.{comes-released}
use Rattle.route_laws.proofs.exits.Exits.{ends_as, awaits, parent_body}
use Rattle.route_laws.proofs.exits.LeaderExits.{exit-at-leader, leader_beside, leader_entry, leader_parcel, parent-at-leader, where-moved, is-exit-move}
use Rattle.route_laws.proofs.exits.CarriedOut.{exit_whole, carried-out-waking, replied_beside, woken_then, carried-out}
use Rattle.route_laws.proofs.exits.ExitDeeds.{node_then}
use Rattle.route_laws.proofs.exits.Parents.{bereft, own_wake}
use Rattle.world_laws.specs.Places.{Beside, InHand, DeedPlace, Ends, InTable}
use Rattle.world_laws.specs.Cancels.{CancelSight, Owing, cancel_sight, is_cancel_of, is_held_cancel_of, is_held_of_call, is_of_call, owing_of}
use Rattle.world_laws.proofs.Changes.{Changes, filter-is-list-map, made-same, read-same}
use Rattle.world_laws.specs.Ways.{HasSender, under_way_of}
use Rattle.world_laws.specs.Invariant.{HoldsOwing}
use Rattle.world_laws.proofs.Cancels.{IsLater, SameCancel}
use Rattle.world_laws.proofs.Following.{SameOld}
use Rattle.world_laws.specs.Sights.{directory_of, frames_to, node_of, stage_of}
use Rattle.world_laws.specs.Deeds.{DeedsAreRead}
use Rattle.world_laws.specs.Wholes.{HasMarks, under_way_at}
use Rattle.node_model.specs.Caller.{Caller}
use Rattle.node_model.specs.Directory.{Directory, held_for, is_known, At, place_of}
use Rattle.node_model.specs.declared.held.Held.{Held}
use Rattle.node_model.specs.Kinds.{is_object}
use Rattle.world_model.specs.Node.{Node}
use Rattle.world_model.specs.World.{World, node_count}
use Rattle.world_model.specs.Ends.{is_struck_by_end}
use Rattle.world_model.specs.Step.{with_directory}
use Rattle.node_model.specs.declared.held.Held.TheVariants.{Ending}
use Rattle.node_model.specs.Bodies.{Living as LivingBody}
use Rattle.serve_laws.specs.Ends.{WakesThen}
use Rattle.rule_laws.proofs.ends.RecallAlls.{deeds_at}

-- what the directory and a node's caller show of a call's withdrawals, with what was held in the hand
module _ (script : Script) (w : World) (items : List Held) (parcel : Parcel) {owes : Owing} (b : Beside)
    (holds : HoldsOwing script w (Ending parcel ∷ items) owes b) (d2 : Directory)
    (arrives : Arrives (directory_of w) d2 (names script w items parcel b holds) 1) (w' : World) (n : Node)
    (entries : List Entry) (changes : Changes script 1 w w' n [] [] entries) (there : n.leader.directory ≡ d2)
    (number : n.number ≡ (node_of w 1).number) (pid : n.pid ≡ (node_of w 1).pid) where
  abbrev before : List Held
  before = Ending parcel ∷ items

  abbrev of : List Name
  of = names script w items parcel b holds

  abbrev dir : Directory
  dir = directory_of w

  abbrev hand_now : List Held
  hand_now = hand_then script w items parcel b holds

  abbrev pub seen_before : ℕ → CancelSight
  seen_before y = released_cancel of (cancel_sight w before b y)

  directory-now : directory_of w' ≡ d2
  directory-now = ap (λ (m : Node). m.leader.directory) changes.here ∙ there

  same : {A : Type 0} (f : Node → A) → f n ≡ f (node_of w 1) → (y : ℕ) → f (node_of w' y) ≡ f (node_of w y)
  same f e y = read-same script 1 w w' n [] [] entries changes f e y

  held-now : (test : Held → Bool) (name : Name)
      → filter test (held_for (directory_of w') name)
      ≡ (if is_one_of name of then [] else filter test (held_for dir name))
  held-now test name =
      ap (λ z. filter test (held_for z name)) directory-now ∙ held-kept dir d2 of 1 arrives test name

  unknown-still : (name : Name) → is_object name ≡ true → is_known dir name ≡ false
      → is_known (directory_of w') name ≡ false
  unknown-still name object unknown =
      let sender : HasSender script b.pids (stage_of w) (under_way_of w) parcel =
      hand-sender script w items parcel b holds
      in ap (λ z. is_known z name) directory-now
      ∙ ap (λ o. not (is_none o))
      (place-still script w items parcel b holds 1 d2 arrives name
      (no-object-in script w before b holds parcel sender.node sender.call (InHand sender.node)
      (parcel-in-hand script w items parcel b holds) name object))
      ∙ unknown

  second-of-both : (s t : Bool) → (s && t) ≡ true → t ≡ true
  second-of-both true t e = e
  second-of-both false t e = absurd (false≢true e)

  -- a call whose node has the same caller
  pub seen-same : (b' : Beside) (y : ℕ) → (node_of w' y).caller ≡ (node_of w y).caller
      → b'.call y ≡ call_released of (b.call y) → b'.cancel y ≡ cancel_released of (b.cancel y)
      → SameCancel (seen_before y) (cancel_sight w' hand_now b' y)
  seen-same b' y same_caller call_is cancel_is =
      record {
        number = sym (same (λ (m : Node). m.number) number y);
        pid = sym (same (λ (m : Node). m.pid) pid y);
        caller = sym same_caller;
        call = sym call_is;
        cancel = sym cancel_is;
        cancels = λ to s. sym (made-same script 1 w w' n [] [] entries changes
            (λ t r fs. filter (is_cancel_of y) fs) (λ t r. filter-is-list-map (is_cancel_of y)) tt tt to s);
        held_cancels = λ name. sym (held-now (is_held_cancel_of y) name);
        hand_cancels = sym (kept-in-hand script w items parcel b holds (is_held_cancel_of y) refl);
        of_call = λ to s. sym (ap (λ k. filter (is_of_call y k to s) (frames_to w' to s)) same-ticket
            ∙ made-same script 1 w w' n [] [] entries changes
            (λ t r fs. filter (is_of_call y ticket t r) fs) (λ t r. filter-is-list-map (is_of_call y ticket t r)) tt tt
            to s);
        held_of_call = λ name. sym (ap (λ k. filter (is_held_of_call y k) (held_for (directory_of w') name)) same-ticket
            ∙ held-now (is_held_of_call y ticket) name);
        hand_of_call = sym (ap (λ k. filter (is_held_of_call y k) hand_now) same-ticket
            ∙ kept-in-hand script w items parcel b holds (is_held_of_call y ticket) refl);
        nowhere = λ call is may l. record {
          node = l.node;
          is = call_is ∙ l.is;
          leaves = ap (λ (z : Directory). is_none (get z.partings l.node)) directory-now
              ∙ ap (λ partings. is_none (get partings l.node)) arrives.partings_are ∙ l.leaves;
          unknown = unknown-still (waits_at (node_of w y).pid call)
              (second-of-both (may_park call) (is_object (waits_at (node_of w y).pid call)) may) l.unknown;
        };
      }
    where
      ticket : ℕ
      ticket = (node_of w y).caller.ticket

      same-ticket : (node_of w' y).caller.ticket ≡ (node_of w y).caller.ticket
      same-ticket = ap (λ (z : Caller). z.ticket) same_caller

  -- and withdrawals of a call whose caller goes on
  pub seen-old : (b' : Beside) (y : ℕ) → IsLater (node_of w y).caller (node_of w' y).caller
      → SameOld (seen_before y) (cancel_sight w' hand_now b' y)
  seen-old b' y later =
      record {
        of = record { pid = sym (same (λ (m : Node). m.pid) pid y); later = later };
        cancels = λ to s. sym (made-same script 1 w w' n [] [] entries changes
            (λ t r fs. filter (is_cancel_of y) fs) (λ t r. filter-is-list-map (is_cancel_of y)) tt tt to s);
        held_cancels = λ name. sym (held-now (is_held_cancel_of y) name);
        hand_cancels = sym (kept-in-hand script w items parcel b holds (is_held_cancel_of y) refl);
      }

module _ (script : Script) (w : World) (items : List Held) (parcel : Parcel) (strikes : Bool) (b : Beside)
    (holds : HoldsOwing script w (Ending parcel ∷ items) (owing_of 1 strikes) b) (reads : DeedsAreRead b.kernel b.body)
    (some_node : 1 ≤ node_count script) (place : place_of (directory_of w) (Proc parcel.parent) ≡ Some (At 1)) where
  abbrev first : List Held
  first = Ending parcel ∷ items

  abbrev released : List Name
  released = names script w items parcel b holds

  abbrev pub leader_sender : HasSender script b.pids (stage_of w) (under_way_of w) parcel
  leader_sender = hand-sender script w items parcel b holds

  abbrev c : ℕ
  c = leader_sender.node

  abbrev pub ending_parcel : HasParcel script w b parcel leader_sender.node leader_sender.call
      (InHand leader_sender.node)
  ending_parcel = leader_parcel script w items parcel b holds reads some_node place

  abbrev pub parent-there : b.deed (Proc parcel.parent) ≡ InTable 1
  parent-there = parent-at-leader script w items parcel b holds reads some_node place

  -- the kernel in which callers wait then
  abbrev pub whole_then : whole_kernels.Kernel
  whole_then =
      exit_whole script w (Ending parcel ∷ items) 1 strikes b holds parcel leader_sender.node leader_sender.call
      (InHand leader_sender.node) ending_parcel reads parent-there

  pub marks-there : (y : ℕ) (a : whole_rows.Alive) → HasMarks (b.call y) (under_way_at w y) a
      → HasMarks (call_released released (b.call y)) (under_way_at w y) a
  marks-there y a h = marks-released released (b.call y) (under_way_at w y) a h

  pub ends-there : call_released released (b.call c) ≡ Ends
  ends-there =
      ap (call_released released) (own-place script w first b holds parcel c leader_sender.call (InHand c)
      ending_parcel)

  -- what is seen of withdrawals, with what comes into the hand
  abbrev pub seen_first : ℕ → CancelSight
  seen_first y = released_cancel (names script w items parcel b holds) (cancel_sight w (Ending parcel ∷ items) b y)

  pub seen-holds : AreSeen script b c leader_sender.call (owing_of 1 strikes) seen_first
  seen-holds =
      record {
        alive = λ y. refl;
        held = λ y low high. holds-released released y (owing_of 1 strikes) (cancel_sight w first b y)
            (parcel-apart script w items parcel b holds)
            (cancel-holds-of 1 strikes y (cancel_sight w first b y) (holds.cancels y low high));
        under_way = ending_parcel.under_way;
      }

  module _ (d2 : Directory) (arrives : Arrives (directory_of w) d2 (names script w items parcel b holds) 1) (w1 : World)
      (changes : Changes script 1 w w1 (with_directory (node_then script w (Ending parcel ∷ items) b holds parcel
      (hand-sender script w items parcel b holds).node (hand-sender script w items parcel b holds).call
      (InHand (hand-sender script w items parcel b holds).node)
      (leader_parcel script w items parcel b holds reads some_node place) reads 1
      (parent-at-leader script w items parcel b holds reads some_node place)) d2) [] []
      (leader_entry script w items parcel b holds reads some_node place ∷ [])) where
    abbrev n1 : Node
    n1 =
        with_directory
        (node_then script w first b holds parcel c leader_sender.call (InHand c) ending_parcel reads 1 parent-there) d2

    -- what stands beside the world once the process has ended
    abbrev pub leader_ended : Beside
    leader_ended = leader_beside script w items parcel b holds reads some_node place d2 arrives whole_then w1 changes

    abbrev moved : DeedPlace → DeedPlace
    moved = deed_released script b.pids released

    pub seen-as : (y : ℕ)
        → SameCancel (seen_first y) (cancel_sight w1 (hand_then script w items parcel b holds) leader_ended y)
    seen-as y =
        seen-same script w items parcel b holds d2 arrives w1 n1
        (leader_entry script w items parcel b holds reads some_node place ∷ []) changes refl refl refl leader_ended y
        (read-same script 1 w w1 n1 [] [] (leader_entry script w items parcel b holds reads some_node place ∷ [])
        changes
        (λ (m : Node). m.caller) refl y) refl refl

    -- Nobody is woken, and all holds.
    pub leader-carried-out : (ends_as script w (Ending parcel ∷ items) b holds parcel leader_sender.node
        leader_sender.call (InHand leader_sender.node) ending_parcel reads 1 parent-there).wakes ≡ []
        → HoldsOwing script w1 (hand_then script w items parcel b holds)
        (owing_of 1 (strikes || is_struck_by_end (node_of w 1) parcel.parent)) leader_ended
    leader-carried-out none =
        carried-out script w first 1 strikes b holds parcel c leader_sender.call (InHand c) ending_parcel reads
        parent-there moved refl (comes-released script b.pids released)
        (where-moved script w items parcel b holds reads some_node place d2 arrives whole_then w1 changes)
        (λ p. call_released released (b.call p)) (λ p. cancel_released released (b.cancel p)) w1
        (hand_then script w items parcel b holds) n1 [] changes
        (is-exit-move script w items parcel b holds reads some_node place d2 arrives whole_then w1 changes) refl
        (exit-at-leader script w items parcel b holds reads some_node place d2 arrives whole_then w1 changes)
        marks-there
        ends-there (λ e. ap (call_released released) e) (λ e. ap (cancel_released released) e) seen_first seen-holds
        seen-as none

    -- The parent is woken.
    module _ (r : Row)
        (is : parent_body script w (Ending parcel ∷ items) b holds parcel leader_sender.node leader_sender.call
        (InHand leader_sender.node) ending_parcel reads 1 parent-there ≡ LivingBody r) (waits : Call) (reply : Reply)
        (aw : awaits script w (Ending parcel ∷ items) b holds parcel leader_sender.node leader_sender.call
        (InHand leader_sender.node) ending_parcel reads 1 parent-there ≡ Some waits)
        (woken : (ends_as script w (Ending parcel ∷ items) b holds parcel leader_sender.node leader_sender.call
        (InHand leader_sender.node) ending_parcel reads 1 parent-there).wakes ≡ own_wake parcel.parent reply ∷ [])
        (after : WakesThen parcel waits (deeds_at w 1) (ends_as script w (Ending parcel ∷ items) b holds parcel
        leader_sender.node leader_sender.call (InHand leader_sender.node) ending_parcel reads 1 parent-there)
        (bereft script w (Ending parcel ∷ items) b holds parcel leader_sender.node leader_sender.call
        (InHand leader_sender.node) ending_parcel reads 1 parent-there) (own_wake parcel.parent reply)) where
      -- the node then
      abbrev pub woken_leader : Node
      woken_leader =
          woken_then script w first 1 strikes b holds parcel c leader_sender.call (InHand c) ending_parcel reads
          parent-there moved refl (comes-released script b.pids released)
          (where-moved script w items parcel b holds reads some_node place d2 arrives whole_then w1 changes)
          (λ p. call_released released (b.call p)) (λ p. cancel_released released (b.cancel p)) w1
          (hand_then script w items parcel b holds) n1 [] changes
          (is-exit-move script w items parcel b holds reads some_node place d2 arrives whole_then w1 changes) refl
          (exit-at-leader script w items parcel b holds reads some_node place d2 arrives whole_then w1 changes)
          marks-there ends-there (λ e. ap (call_released released) e) (λ e. ap (cancel_released released) e) seen_first
          seen-holds seen-as r is waits reply aw woken after

      -- and what stands beside the world
      abbrev pub woken_leader_beside : Beside
      woken_leader_beside =
          replied_beside script w first 1 strikes b holds parcel c leader_sender.call (InHand c) ending_parcel reads
          parent-there moved refl (comes-released script b.pids released)
          (where-moved script w items parcel b holds reads some_node place d2 arrives whole_then w1 changes)
          (λ p. call_released released (b.call p)) (λ p. cancel_released released (b.cancel p)) w1
          (hand_then script w items parcel b holds) n1 [] changes
          (is-exit-move script w items parcel b holds reads some_node place d2 arrives whole_then w1 changes) refl
          (exit-at-leader script w items parcel b holds reads some_node place d2 arrives whole_then w1 changes)
          marks-there ends-there (λ e. ap (call_released released) e) (λ e. ap (cancel_released released) e) seen_first
          seen-holds seen-as r is waits reply aw woken after

      -- It has its reply, and all holds.
      pub leader-wakes-parent : (w2 : World) → Changes script 1 w1 w2 woken_leader [] [] [] → w2.journal ≡ w1.journal
          → HoldsOwing script w2 (hand_then script w items parcel b holds)
          (owing_of 1 (strikes || is_struck_by_end (node_of w 1) parcel.parent)) woken_leader_beside
      leader-wakes-parent w2 further journal =
          carried-out-waking script w first 1 strikes b holds parcel c leader_sender.call (InHand c) ending_parcel reads
          parent-there moved refl (comes-released script b.pids released)
          (where-moved script w items parcel b holds reads some_node place d2 arrives whole_then w1 changes)
          (λ p. call_released released (b.call p)) (λ p. cancel_released released (b.cancel p)) w1
          (hand_then script w items parcel b holds) n1 [] changes
          (is-exit-move script w items parcel b holds reads some_node place d2 arrives whole_then w1 changes) refl
          (exit-at-leader script w items parcel b holds reads some_node place d2 arrives whole_then w1 changes)
          marks-there ends-there (λ e. ap (call_released released) e) (λ e. ap (cancel_released released) e) seen_first
          seen-holds seen-as r is waits reply aw woken after w2 further journal
