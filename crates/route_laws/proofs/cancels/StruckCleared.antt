-- A signal interrupts a call that waits here: that is noted, and there is no withdrawal of it. What holds in the middle
-- of the strike.
use Rattle.std.proofs.Common.{◌≡◌, ◌≢◌, ℕ, ◌≤◌, true, false, nat_eq, [], ◌++◌, filter, if◌then◌else◌, Option, Some, is_some, refl, ap, sym, subst, ◌∙◌, append-nil}
use Rattle.std.proofs.lemmas.Bool.{eq-eqb, ne_eqb}
use Rattle.pico_base.specs.declared.call.Call.{Call}
use Rattle.pico_base.specs.declared.call.Call.TheVariants as calls
use Rattle.pico_base.specs.declared.numbers.Name.{Name}
use Rattle.pico_base.specs.declared.script.Script.{Script}
use Rattle.rpc_frame.specs.declared.asked.Asked.{Asked}
use Rattle.waiting_model.specs.Calls.{waits_at}
use Rattle.node_model.specs.Directory.{Directory, held_for, is_known, place_of, stays}
use Rattle.world_model.specs.Node.{Node}
use Rattle.world_model.specs.World.{World, node_count}
use Rattle.world_laws.specs.Places.{Beside, NoCancel, cancel_in}
use Rattle.world_laws.specs.Sights.{directory_of, frames_to, is_born_in, node_of}
use Rattle.world_laws.specs.Callers.{CallHolds, HasCall, HasCallOrNone, call_sight}
use Rattle.world_laws.specs.Cancels.{AStrike, CancelHolds, CancelSight, Wakes, cancel_sight, is_held_cancel_of}
use Rattle.world_laws.specs.Invariant.{HoldsOwing}
use Rattle.world_laws.specs.Names.{NameHolds, name_sight}
use Rattle.world_laws.specs.Wholes.{under_way_at}
use Rattle.world_laws.proofs.CancelMoves.{CancelTravels}
use Rattle.world_laws.proofs.Cancels.{call-later, cancel-left-alone, is_item_of}
use Rattle.world_laws.proofs.Changes.{Changes, made-after, read-same, sent, stayed}
use Rattle.world_laws.proofs.Following.{SameOld, old-holds}
use Rattle.world_laws.proofs.LeftAlone.{DirectoryLeaves, same-directory}
use Rattle.world_laws.proofs.Stays.{IsMore, name-stays}
use Rattle.rule_laws.proofs.Withdrawals.{old-still}
use Rattle.route_laws.proofs.cancels.BrokenWhole.{IsCleared, cleared}
use Rattle.route_laws.proofs.cancels.Cleared.{whole-cleared}
use Rattle.route_laws.proofs.cancels.Interrupts.{itself-is-list-map, node-noted, noted_node, nothing-sent-by}
use Rattle.route_laws.proofs.cancels.NameMoves.{DirectoryLeavesBut, name-passed-by}
use Rattle.route_laws.proofs.cancels.Travels.{DirectoryStays, NodeStays, travel-born, travel-keeps}

module _ (script : Script) (w w' : World) (b : Beside) (p : ℕ) (low : 1 ≤ p) (high : p ≤ node_count script)
    (holds : HoldsOwing script w [] (AStrike p) b) (call : Call) (under_way : under_way_at w p ≡ Some call)
    (c : Changes script p w w' (noted_node (node_of w p)) [] [] []) where
  abbrev n : Node
  n = noted_node (node_of w p)

  -- whatever a withdrawal of it says
  abbrev cancel : Asked
  cancel = record { caller = p; ticket = 0; pid = 0; call = calls.Withdraw (waits_at 0 call) }

  has : HasCall script p (is_born_in w) (call_sight w [] b p) call
  has =
      let h : CallHolds script p (is_born_in w) (call_sight w [] b p) = holds.calls p low high
      in subst (λ (o : Option Call). HasCallOrNone script p (is_born_in w) (call_sight w [] b p) o) under_way h.call

  read : {T : Type 0} (f : Node → T) → f n ≡ f (node_of w p) → (y : ℕ) → f (node_of w' y) ≡ f (node_of w y)
  read f same y = read-same script p w w' n [] [] [] c f same y

  directory-is : directory_of w' ≡ directory_of w
  directory-is = read (λ (m : Node). m.leader.directory) refl 1

  travels : CancelTravels p NoCancel NoCancel cancel w w' [] []
  travels =
      record {
        streams = λ at sender. record {
          left = frames_to w at sender;
          taken = refl;
          put = made-after script p w w' n [] [] [] c (λ t s fs. fs) (λ t s. itself-is-list-map) at sender
              ∙ ap (λ fs. fs ++ sent p [] at sender)
              (stayed script p w w' n [] [] [] c (λ t s fs. fs) (λ t s. itself-is-list-map) tt at sender)
              ∙ ap (λ fs. frames_to w at sender ++ fs) (nothing-sent-by (nat_eq sender p));
        };
        lists = λ m. record {
          left = held_for (directory_of w) m;
          taken = refl;
          put = ap (λ d. held_for d m) directory-is ∙ sym (append-nil (held_for (directory_of w) m));
        };
        hands = record { left = []; taken = refl; put = refl };
      }

  node-stays : NodeStays script w b p p n
  node-stays =
      record {
        number = refl;
        pid = refl;
        stage = refl;
        leases = refl;
        noted = true;
        caller = refl;
        unnoted = λ other. absurd (other refl);
        queue_keys = refl;
        set_keys = refl;
        holds = node-noted script b.pids (is_born_in w) p (node_of w p) has.at_work (holds.nodes p low high);
      }

  directory-stays : DirectoryStays (directory_of w) (directory_of w')
  directory-stays =
      subst (λ d. DirectoryStays (directory_of w) d) (sym directory-is)
      (record {
        partings_are = λ y. refl;
        known_are = λ m. refl;
        ranges_are = λ kind. refl;
        leads = holds.leading;
      })

  others-stay : (y : ℕ) → y ≢ p → cancel_in b.cancel p NoCancel y ≡ b.cancel y
  others-stay y d = ap (λ u. if u then NoCancel else b.cancel y) (ne_eqb p y (λ e. d (sym e)))

  born-still : IsMore (is_born_in w) (is_born_in w')
  born-still =
      travel-born script w w' [] [] (AStrike p) Wakes b (cancel_in b.cancel p NoCancel) p n [] [] cancel p refl NoCancel
      NoCancel low high holds c travels refl node-stays directory-stays tt tt tt tt others-stay (λ y d same h. tt)
      (λ l h. tt)

  leaves-but : (m : Name) → DirectoryLeavesBut (directory_of w) (directory_of w') m
  leaves-but m =
      let l : DirectoryLeaves (directory_of w) (directory_of w') m =
      same-directory (directory_of w) (directory_of w') directory-is m
      in record { maker_is = l.maker_is; stays_is = l.stays_is; kept_is = l.kept_is }

  names : (m : Name) → NameHolds script b.pids (is_born_in w') m (name_sight script w' [] (cleared b p) m)
  names m =
      name-stays script b.pids (is_born_in w) (is_born_in w') m (name_sight script w [] b m)
      (name_sight script w' [] (cleared b p) m) born-still
      (name-passed-by script p w w' n [] [] [] c
      (record { taken = tt; from_others = tt; sent = tt; by_another = tt }) [] [] b (cleared b p) m
      (place_of (directory_of w) m) (ap (λ d. place_of d m) directory-is) (leaves-but m) refl refl refl refl refl refl
      refl refl) (holds.names m)

  abbrev before : CancelSight
  before = cancel_sight w [] b p

  said : CancelHolds p (AStrike p) before
  said = holds.cancels p low high

  same-old : SameOld before (cancel_sight w' [] (cleared b p) p)
  same-old =
      old-still script p w w' n [] [] [] c [] [] b (cleared b p) p (sym (read (λ (m : Node). m.pid) refl p))
      (call-later (let m : Node = node_of w p in m.caller) (let m : Node = node_of w' p in m.caller)
      (sym (read (λ (m : Node). m.caller.ticket) refl p)) (sym (read (λ (m : Node). m.caller.under_way) refl p)))
      (λ m. ap (λ (z : Directory). filter (is_held_cancel_of p) (held_for z m)) directory-is) refl tt tt

  -- It is noted, and the process is struck.
  pub struck-cleared : IsCleared script w [] true w' p [] false b p
  struck-cleared =
      record {
        holds = travel-keeps script w w' [] [] (AStrike p) Wakes b (cancel_in b.cancel p NoCancel) p n [] [] cancel p
            refl
            NoCancel NoCancel low high holds c travels refl node-stays directory-stays tt tt tt tt others-stay
            (λ y d same h. tt) (λ l h. tt) low high tt names;
        whole = whole-cleared w w' b p (c.journal ∙ append-nil w.journal)
            (read (λ (m : Node). m.caller.under_way) refl) holds.whole;
        said = λ y low_y high_y. holds.cancels y low_y high_y;
        same = λ y d. cancel-left-alone script p w w' n [] [] [] c [] [] b (cleared b p) y
            (record {
              own = λ e. absurd (d e);
              call_is = refl;
              cancel_is = others-stay y d;
              held_is = λ m. ap (λ (z : Directory). filter (is_item_of y) (held_for z m)) directory-is;
              hand_is = refl;
              nowhere = λ one known may l. record {
                node = l.node;
                is = l.is;
                leaves = ap (λ z. stays z l.node) directory-is ∙ l.leaves;
                unknown = ap (λ z. is_known z (waits_at (node_of w y).pid one)) directory-is ∙ l.unknown;
              };
            }) tt tt tt tt;
        old = old-holds p (AStrike p) before (cancel_sight w' [] (cleared b p) p) same-old said;
        owed_else = λ y d. sym (ne_eqb p y (λ e. d (sym e)));
        struck = said.owed (eq-eqb p p refl) (ap is_some under_way);
      }
