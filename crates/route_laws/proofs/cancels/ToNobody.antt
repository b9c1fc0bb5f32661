-- The withdrawal that is first in the leader's hand goes nowhere: it is an old one, or its call doesn't come to wait.
use Rattle.std.proofs.Common.{Bool, List, Some, [], ap, append-nil, arith, false, if◌then◌else◌, inl, inr, nat_eq, refl, subst, sym, true, ℕ, ◌++◌, ◌∙◌, ◌∷◌, ◌≡◌, ◌≢◌, ◌≤◌}
use Rattle.std.proofs.lemmas.Bool.{cases_eq, ne_eqb}
use Rattle.pico_base.specs.declared.call.Call.{Call}
use Rattle.pico_base.specs.declared.numbers.Name.{Name}
use Rattle.pico_base.specs.declared.script.Script.{Script}
use Rattle.rpc_frame.specs.declared.asked.Asked.{Asked}
use Rattle.waiting_model.specs.Calls.{is_withdrawal, waits_at}
use Rattle.node_model.specs.Directory.{held_for, is_known, stays}
use Rattle.node_model.specs.declared.held.Held.TheVariants.{Request}
use Rattle.node_model.specs.declared.held.Held.{Held}
use Rattle.world_model.specs.Node.{Node}
use Rattle.world_model.specs.World.{World, node_count}
use Rattle.rule_laws.proofs.CallMoves.{cancel-if-same}
use Rattle.world_laws.proofs.CancelMoves.{CancelTravels, old-travels}
use Rattle.world_laws.proofs.Cancels.{KnowsTickets, OldHold, cancel-of, may_be_withdrawn, same-later}
use Rattle.world_laws.proofs.Changes.{Changes, IsListMap, frames_if, made-after, sent, stayed}
use Rattle.world_laws.proofs.LeftAlone.{name-left-alone, same-directory}
use Rattle.world_laws.proofs.Stays.{IsMore, name-stays}
use Rattle.world_laws.proofs.Wholes.{whole-left-alone}
use Rattle.world_laws.specs.Cancels.{LeadsNowhere, Owing, Wakes, cancel_sight}
use Rattle.world_laws.specs.Families.{NodeHolds}
use Rattle.world_laws.specs.Invariant.{HoldsOwing}
use Rattle.world_laws.specs.Names.{NameHolds, name_sight}
use Rattle.world_laws.specs.Places.{Beside, CancelInHand, CancelPlace, NoCancel, cancel_in}
use Rattle.world_laws.specs.Sights.{directory_of, frames_to, is_born_in, node_of}
use Rattle.route_laws.proofs.cancels.Current.{IsCurrent, in_hand}
use Rattle.route_laws.proofs.cancels.Going.{HasGone, goes}
use Rattle.route_laws.proofs.cancels.InHand.{all-said, is-of-caller, is_waking, to-say-of}
use Rattle.route_laws.proofs.cancels.Travels.{DirectoryStays, HoldsStill, NodeStays, travel-born, travel-keeps}

itself-is-list-map : IsListMap (λ fs. fs)
itself-is-list-map = record { of_none = refl; of_both = λ xs ys. refl }

nothing-sent-by : (t : Bool) → frames_if t [] ≡ []
nothing-sent-by true = refl
nothing-sent-by false = refl

module _ (script : Script) (w w' : World) (cancel : Asked) (rest : List Held) (owes : Owing) (b : Beside)
    (holds : HoldsOwing script w (Request cancel ∷ rest) owes b) (calm : is_waking owes ≡ false)
    (low : 1 ≤ cancel.caller) (high : cancel.caller ≤ node_count script)
    (is_cancel : is_withdrawal cancel.call ≡ true)
    (c : Changes script 1 w w' (node_of w 1) [] [] []) where
  abbrev p : ℕ
  p = cancel.caller

  abbrev hand : List Held
  hand = Request cancel ∷ rest

  high-one : 1 ≤ node_count script
  high-one = omega (arith, low, high)

  same-nodes : (y : ℕ) → node_of w' y ≡ node_of w y
  same-nodes y =
      elim (cases_eq y 1) [
        | inl e ↦ subst (λ z. node_of w' z ≡ node_of w z) (sym e) c.here
        | inr d ↦ c.others y d
      ]

  directory-same : directory_of w' ≡ directory_of w
  directory-same = ap (λ (m : Node). m.leader.directory) (same-nodes 1)

  travels : CancelTravels p CancelInHand (NoCancel) cancel w w' hand rest
  travels =
      record {
        streams = λ at sender. record {
          left = frames_to w at sender;
          taken = refl;
          put = made-after script 1 w w' (node_of w 1) [] [] [] c (λ t s fs. fs) (λ t s. itself-is-list-map) at sender
              ∙ ap (λ fs. fs ++ sent 1 [] at sender)
              (stayed script 1 w w' (node_of w 1) [] [] [] c (λ t s fs. fs) (λ t s. itself-is-list-map) tt at sender)
              ∙ ap (λ fs. frames_to w at sender ++ fs) (nothing-sent-by (nat_eq sender 1));
        };
        lists = λ m. record {
          left = held_for (directory_of w) m;
          taken = refl;
          put = ap (λ d. held_for d m) directory-same ∙ sym (append-nil (held_for (directory_of w) m));
        };
        hands = record { left = rest; taken = refl; put = sym (append-nil rest) };
      }

  first : NodeHolds script b.pids (is_born_in w) 1 (node_of w 1)
  first = holds.nodes 1 (omega arith) high-one

  node-stays : NodeStays script w b 1 p (node_of w 1)
  node-stays =
      record {
        number = refl;
        pid = refl;
        stage = refl;
        leases = refl;
        noted = (node_of w 1).caller.noted;
        caller = refl;
        unnoted = λ other. refl;
        queue_keys = refl;
        set_keys = refl;
        holds = first;
      }

  directory-stays : DirectoryStays (directory_of w) (directory_of w')
  directory-stays =
      subst (λ d. DirectoryStays (directory_of w) d) (sym directory-same)
      (record {
        partings_are = λ y. refl;
        known_are = λ m. refl;
        ranges_are = λ kind. refl;
        leads = holds.leading;
      })

  -- beside the world the withdrawal is there now
  abbrev at_place : CancelPlace → Beside
  at_place place = record b { cancel = cancel_in b.cancel p place }

  others-stay : (place : CancelPlace) (y : ℕ) → y ≢ p → cancel_in b.cancel p place y ≡ b.cancel y
  others-stay place y d = ap (λ t. if t then place else b.cancel y) (ne_eqb p y (λ e. d (sym e)))

  born-still : (place : CancelPlace) → IsMore (is_born_in w) (is_born_in w')
  born-still place =
      travel-born script w w' hand rest owes owes b (cancel_in b.cancel p place) 1 (node_of w 1) [] [] cancel p refl
      CancelInHand (NoCancel) (omega arith) high-one holds c travels is_cancel node-stays directory-stays tt tt tt tt
      (others-stay place)
      (λ y d same. cancel-if-same y owes _ _ refl same) (λ l. whole-left-alone w w' b (at_place place) owes l)

  names : (place : CancelPlace) (m : Name)
      → NameHolds script b.pids (is_born_in w') m (name_sight script w' rest (at_place place) m)
  names place m =
      name-stays script b.pids (is_born_in w) (is_born_in w') m (name_sight script w hand b m)
      (name_sight script w' rest (at_place place) m) (born-still place)
      (name-left-alone script 1 w w' (node_of w 1) [] [] [] c hand rest b (at_place place) m
      (record {
        directory = same-directory (directory_of w) (directory_of w') directory-same m;
        used_is = refl;
        part_is = refl;
        body_is = refl;
        deed_is = refl;
        held_is = refl;
        begins_is = λ holds_it comes. refl;
        hand_is = refl;
        steps_are = λ used y. refl;
        ranges_are = λ used y. refl;
      }) tt tt) (holds.names m)

  knows : KnowsTickets (cancel_sight w hand b p) (cancel_sight w' rest (at_place NoCancel) p)
  knows =
      record {
        pid = ap (λ (m : Node). m.pid) (sym (same-nodes p));
        later = same-later (let m : Node = node_of w p in m.caller) (let m : Node = node_of w' p in m.caller)
            (ap (λ (m : Node). m.caller) (sym (same-nodes p)));
      }

  -- In the middle of the event all holds without it, but for what is said of withdrawals,
  pub hand-cleared : HoldsOwing script w' rest Wakes (record b { cancel = cancel_in b.cancel cancel.caller NoCancel })
  hand-cleared =
      travel-keeps script w w' hand rest owes Wakes b (cancel_in b.cancel p NoCancel) 1 (node_of w 1) [] [] cancel p
      refl
      CancelInHand NoCancel (omega arith) high-one holds c travels is_cancel node-stays directory-stays tt tt tt tt
      (others-stay NoCancel) (λ y d same h. tt) (λ l h. tt) low high tt (names NoCancel)

  -- and all others of its caller are as they were.
  pub hand-others : OldHold
      (cancel_sight w' rest (record b { cancel = cancel_in b.cancel cancel.caller NoCancel }) cancel.caller)
  hand-others =
      old-travels p CancelInHand NoCancel cancel w w' hand rest b (at_place NoCancel) travels refl is_cancel owes knows
      (cancel-of (cancel_sight w hand b p) (cancel_sight w' rest (at_place NoCancel) p) cancel knows
      (is-of-caller script w cancel rest owes b holds calm low high is_cancel))
      (all-said script w cancel rest owes b holds calm low high is_cancel)

  module _
      (leads : (call : Call) → (node_of w cancel.caller).caller.under_way ≡ Some call
      → may_be_withdrawn (node_of w cancel.caller).pid call ≡ true
      → IsCurrent cancel.caller (cancel_sight w (Request cancel ∷ rest) b cancel.caller) call cancel CancelInHand
      → LeadsNowhere (cancel_sight w (Request cancel ∷ rest) b cancel.caller)
      (waits_at (node_of w cancel.caller).pid call)) where
    nowhere-still : (m : Name) → LeadsNowhere (cancel_sight w hand b p) m → LeadsNowhere (cancel_sight w' rest b p) m
    nowhere-still m l =
        record {
          node = l.node;
          is = l.is;
          leaves = ap (λ d. stays d l.node) directory-same ∙ l.leaves;
          unknown = ap (λ d. is_known d m) directory-same ∙ l.unknown;
        }

    nowhere-now : (call : Call) → (node_of w p).caller.under_way ≡ Some call
        → may_be_withdrawn (node_of w p).pid call ≡ true → IsCurrent p (cancel_sight w hand b p) call cancel
        CancelInHand
        → LeadsNowhere (cancel_sight w' rest (record b { cancel = cancel_in b.cancel p NoCancel }) p)
        (waits_at (node_of w' p).pid call)
    nowhere-now call under_way waits cur =
        let l : LeadsNowhere (cancel_sight w hand b p) (waits_at (node_of w p).pid call) =
        leads call under_way waits cur
        in let m : LeadsNowhere (cancel_sight w' rest b p) (waits_at (node_of w p).pid call) =
        nowhere-still (waits_at (node_of w p).pid call) l
        in subst (λ pid. LeadsNowhere (cancel_sight w' rest (record b { cancel = cancel_in b.cancel p NoCancel }) p)
        (waits_at pid call)) (ap (λ (n : Node). n.pid) (sym (same-nodes p)))
        (record { node = m.node; is = m.is; leaves = m.leaves; unknown = m.unknown })

    gone : HasGone p owes w' rest b
    gone =
        goes p owes w w' hand rest b cancel CancelInHand (NoCancel) travels refl is_cancel (in_hand rest refl)
        (all-said script w cancel rest owes b holds calm low high is_cancel)
        (is-of-caller script w cancel rest owes b holds calm low high is_cancel)
        (ap (λ (m : Node). m.number) (same-nodes p)) (ap (λ (m : Node). m.pid) (same-nodes p))
        (ap (λ (m : Node). m.caller) (same-nodes p)) nowhere-still
        (λ call under_way waits unanswered cur. record {
          pair = refl;
          nowhere = λ none. nowhere-now call under_way waits cur;
        })

    abbrev after : Beside
    after = record b { cancel = cancel_in b.cancel p gone.cancel }

    -- All holds without it.
    pub gone-to-nobody : HoldsStill script w' rest owes b
    gone-to-nobody =
        record {
          cancels = cancel_in b.cancel p gone.cancel;
          holds = travel-keeps script w w' hand rest owes owes b (cancel_in b.cancel p gone.cancel) 1 (node_of w 1) []
              [] cancel p refl
              CancelInHand (NoCancel) (omega arith) high-one holds c travels is_cancel node-stays directory-stays tt tt
              tt tt
              (others-stay gone.cancel)
              (λ y d same. cancel-if-same y owes _ _ refl same) (λ l. whole-left-alone w w' b after owes l)
              low high (to-say-of p owes (cancel_sight w' rest after p) calm gone.holds) (names gone.cancel);
        }
