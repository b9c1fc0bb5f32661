-- The leader sends the withdrawal that is first in its hand to a node.
use Rattle.std.proofs.Common.{Bool, List, Some, [], ap, append-nil, arith, false, if◌then◌else◌, inl, inr, nat_eq, not, refl, subst, sym, true, ℕ, ◌&&◌, ◌++◌, ◌∙◌, ◌∷◌, ◌≡◌, ◌≢◌, ◌≤◌}
use Rattle.std.proofs.lemmas.Bool.{cases_eq, false≢true, ne_eqb}
use Rattle.std.specs.Option.{option_map_or}
use Rattle.pico_base.specs.declared.call.Call.{Call}
use Rattle.pico_base.specs.declared.numbers.Name.{Name}
use Rattle.pico_base.specs.declared.script.Script.{Script}
use Rattle.rpc_frame.specs.declared.asked.Asked.{Asked}
use Rattle.rpc_frame.specs.declared.frame.Frame.TheVariants as frames
use Rattle.rpc_frame.specs.declared.frame.Frame.{Frame}
use Rattle.waiting_model.specs.Calls.{is_withdrawal, waits_at, withdrawn_from}
use Rattle.node_model.specs.Directory.{held_for, is_known, maker, stays}
use Rattle.node_model.specs.Kinds.{is_object, is_same_name}
use Rattle.node_model.specs.declared.held.Held.TheVariants.{Request}
use Rattle.node_model.specs.declared.held.Held.{Held}
use Rattle.world_model.specs.Node.{Node}
use Rattle.world_model.specs.World.{World, node_count}
use Rattle.entry_laws.specs.Entering.{is_used_name}
use Rattle.rule_laws.proofs.CallMoves.{cancel-if-same}
use Rattle.world_laws.proofs.CancelMoves.{CancelTravels}
use Rattle.world_laws.proofs.Cancels.{may_be_withdrawn}
use Rattle.world_laws.proofs.Changes.{Changes, IsListMap, frames_if, made-after, sent, stayed}
use Rattle.world_laws.proofs.LeftAlone.{same-directory}
use Rattle.world_laws.proofs.Named.{same-name-is}
use Rattle.world_laws.proofs.Sends.{frame_if}
use Rattle.world_laws.proofs.Stays.{IsMore, name-stays}
use Rattle.world_laws.proofs.Wholes.{whole-left-alone}
use Rattle.world_laws.specs.Callers.{only_if}
use Rattle.world_laws.specs.Cancels.{LeadsNowhere, Owing, cancel_sight, may_follow}
use Rattle.world_laws.specs.Families.{NodeHolds}
use Rattle.world_laws.specs.Invariant.{HoldsOwing}
use Rattle.world_laws.specs.Names.{NameHolds, belief_of, name_sight}
use Rattle.world_laws.specs.Places.{Beside, CancelInHand, NoCancel, SentTo, cancel_in}
use Rattle.world_laws.specs.Plays.{is_cancel_on, is_there}
use Rattle.world_laws.specs.Sights.{directory_of, frames_to, is_born_in, node_of}
use Rattle.route_laws.proofs.cancels.Current.{in_hand}
use Rattle.route_laws.proofs.cancels.Going.{HasGone, goes}
use Rattle.route_laws.proofs.cancels.InHand.{all-said, current-is-out, current-name, is-of-caller, is_waking, to-say-of}
use Rattle.route_laws.proofs.cancels.NameSent.{name-cancel-sent, name-seen-sent, sent_sight}
use Rattle.route_laws.proofs.cancels.Travels.{DirectoryStays, HoldsStill, NodeStays, travel-born, travel-keeps}
use Rattle.route_laws.proofs.cancels.Whereabouts.{is_out}

sent-once : (k : Frame) (t s : Bool) → frames_if s (frame_if t k ++ []) ≡ only_if (t && s) k
sent-once k true true = refl
sent-once k true false = refl
sent-once k false true = refl
sent-once k false false = refl

itself-is-list-map : IsListMap (λ fs. fs)
itself-is-list-map = record { of_none = refl; of_both = λ xs ys. refl }

both-true : (a b : Bool) → (a && b) ≡ true → (a ≡ true) × (b ≡ true)
both-true true b h = (refl, h)
both-true false b h = absurd (false≢true h)

is_somewhere_sent : (h : ℕ) → SentTo h ≡ NoCancel → ⊥
is_somewhere_sent h e = cc

module _ (script : Script) (w w' : World) (cancel : Asked) (rest : List Held) (owes : Owing) (b : Beside)
    (holds : HoldsOwing script w (Request cancel ∷ rest) owes b) (calm : is_waking owes ≡ false)
    (low : 1 ≤ cancel.caller) (high : cancel.caller ≤ node_count script)
    (is_cancel : is_withdrawal cancel.call ≡ true) (name : Name) (withdraws : withdrawn_from cancel.call ≡ Some name)
    (h : ℕ) (low_to : 2 ≤ h) (born_to : is_born_in w h ≡ true)
    (c : Changes script 1 w w' (node_of w 1) [] ((h, frames.Cancel cancel) ∷ []) [])
    (deed : is_used_name b.kernel name ≡ true
    → is_there h (belief_of (name_sight script w (Request cancel ∷ rest) b name)) ≡ true)
    (makes : is_used_name b.kernel name ≡ false → maker (directory_of w) name ≡ Some h)
    (follows : (call : Call) → (node_of w cancel.caller).caller.under_way ≡ Some call
    → may_be_withdrawn (node_of w cancel.caller).pid call ≡ true
    → waits_at (node_of w cancel.caller).pid call ≡ name
    → is_out (b.call cancel.caller) ≡ true → may_follow (SentTo h) (b.call cancel.caller) ≡ true) where
  abbrev p : ℕ
  p = cancel.caller

  abbrev hand : List Held
  hand = Request cancel ∷ rest

  abbrev sends : List (ℕ × Frame)
  sends = (h, frames.Cancel cancel) ∷ []

  high-one : 1 ≤ node_count script
  high-one = omega (arith, low, high)

  other-node : h ≢ 1
  other-node e = omega (arith, e, low_to)

  same-nodes : (y : ℕ) → node_of w' y ≡ node_of w y
  same-nodes y =
      elim (cases_eq y 1) [
        | inl e ↦ subst (λ z. node_of w' z ≡ node_of w z) (sym e) c.here
        | inr d ↦ c.others y d
      ]

  directory-same : directory_of w' ≡ directory_of w
  directory-same = ap (λ (m : Node). m.leader.directory) (same-nodes 1)

  travels : CancelTravels p CancelInHand (SentTo h) cancel w w' hand rest
  travels =
      record {
        streams = λ at sender. record {
          left = frames_to w at sender;
          taken = refl;
          put = made-after script 1 w w' (node_of w 1) [] sends [] c (λ t s fs. fs) (λ t s. itself-is-list-map) at
              sender
              ∙ ap (λ fs. fs ++ sent 1 sends at sender)
              (stayed script 1 w w' (node_of w 1) [] sends [] c (λ t s fs. fs) (λ t s. itself-is-list-map) tt at sender)
              ∙ ap (λ fs. frames_to w at sender ++ fs)
              (sent-once (frames.Cancel cancel) (nat_eq at h) (nat_eq sender 1));
        };
        lists = λ m. record {
          left = held_for (directory_of w) m;
          taken = refl;
          put = ap (λ d. held_for d m) directory-same ∙ sym (append-nil (held_for (directory_of w) m));
        };
        hands = record { left = rest; taken = refl; put = sym (append-nil rest) };
      }

  first : NodeHolds script b.pids (is_born_in w) 1 (node_of w 1)
  first = holds.nodes 1 (omega arith) high-one

  node-stays : NodeStays script w b 1 p (node_of w 1)
  node-stays =
      record {
        number = refl;
        pid = refl;
        stage = refl;
        leases = refl;
        noted = (node_of w 1).caller.noted;
        caller = refl;
        unnoted = λ other. refl;
        queue_keys = refl;
        set_keys = refl;
        holds = first;
      }

  directory-stays : DirectoryStays (directory_of w) (directory_of w')
  directory-stays =
      subst (λ d. DirectoryStays (directory_of w) d) (sym directory-same)
      (record {
        partings_are = λ y. refl;
        known_are = λ m. refl;
        ranges_are = λ kind. refl;
        leads = holds.leading;
      })

  nowhere-still : (m : Name) → LeadsNowhere (cancel_sight w hand b p) m → LeadsNowhere (cancel_sight w' rest b p) m
  nowhere-still m l =
      record {
        node = l.node;
        is = l.is;
        leaves = ap (λ d. stays d l.node) directory-same ∙ l.leaves;
        unknown = ap (λ d. is_known d m) directory-same ∙ l.unknown;
      }

  gone : HasGone p owes w' rest b
  gone =
      goes p owes w w' hand rest b cancel CancelInHand (SentTo h) travels refl is_cancel (in_hand rest refl)
      (all-said script w cancel rest owes b holds calm low high is_cancel)
      (is-of-caller script w cancel rest owes b holds calm low high is_cancel)
      (ap (λ (m : Node). m.number) (same-nodes p)) (ap (λ (m : Node). m.pid) (same-nodes p))
      (ap (λ (m : Node). m.caller) (same-nodes p)) nowhere-still
      (λ call under_way waits unanswered cur. record {
        pair = follows call under_way waits (current-name p (cancel_sight w hand b p) call cancel CancelInHand name cur
            withdraws) (current-is-out p (cancel_sight w hand b p) call cancel cur);
        nowhere = λ none. absurd (is_somewhere_sent h none);
      })

  abbrev after : Beside
  after = record b { cancel = cancel_in b.cancel p gone.cancel }

  other-cancels : (y : ℕ) → y ≢ p → cancel_in b.cancel p gone.cancel y ≡ b.cancel y
  other-cancels y d = ap (λ t. if t then gone.cancel else b.cancel y) (ne_eqb p y (λ e. d (sym e)))

  born-still : IsMore (is_born_in w) (is_born_in w')
  born-still =
      travel-born script w w' hand rest owes owes b (cancel_in b.cancel p gone.cancel) 1 (node_of w 1) [] sends cancel p
      refl
      CancelInHand (SentTo h) (omega arith) high-one holds c travels is_cancel node-stays directory-stays tt (refl, tt)
      (inr (refl, born_to), tt) (other-node, tt) other-cancels
      (λ y d same. cancel-if-same y owes _ _ refl same) (λ l. whole-left-alone w w' b after owes l)

  on-name : (m : Name) → is_cancel_on m cancel ≡ true → m ≡ name
  on-name m e =
      let both = both-true (is_object m) (option_map_or (is_same_name m) (withdrawn_from cancel.call) false) e
      in same-name-is m name (ap (λ o. option_map_or (is_same_name m) o false) (sym withdraws) ∙ both.1)

  needs-deed : (m : Name) → (is_used_name b.kernel m && is_cancel_on m cancel) ≡ true
      → is_there h (belief_of (name_sight script w hand b m)) ≡ true
  needs-deed m e =
      let both = both-true (is_used_name b.kernel m) (is_cancel_on m cancel) e
      in let same = on-name m both.1
      in subst (λ n. is_there h (belief_of (name_sight script w hand b n)) ≡ true) (sym same)
      (deed (subst (λ n. is_used_name b.kernel n ≡ true) same both.0))

  not-used : (t : Bool) → not t ≡ true → t ≡ false
  not-used true e = absurd (false≢true e)
  not-used false e = refl

  is-makers : (m : Name) → (not (is_used_name b.kernel m) && is_cancel_on m cancel) ≡ true
      → maker (directory_of w) m ≡ Some h
  is-makers m e =
      let both = both-true (not (is_used_name b.kernel m)) (is_cancel_on m cancel) e
      in let same = on-name m both.1
      in subst (λ n. maker (directory_of w) n ≡ Some h) (sym same)
      (makes (subst (λ n. is_used_name b.kernel n ≡ false) same (not-used (is_used_name b.kernel m) both.0)))

  names : (m : Name) → NameHolds script b.pids (is_born_in w') m (name_sight script w' rest after m)
  names m =
      name-stays script b.pids (is_born_in w) (is_born_in w') m
      (sent_sight (name_sight script w hand b m) h (is_used_name b.kernel m && is_cancel_on m cancel)
      (not (is_used_name b.kernel m) && is_cancel_on m cancel)) (name_sight script w' rest after m) born-still
      (name-seen-sent script w w' (node_of w 1) h cancel [] c hand rest b after m
      (same-directory (directory_of w) (directory_of w') directory-same m) refl refl refl refl refl refl refl refl)
      (name-cancel-sent script b.pids (is_born_in w) m (name_sight script w hand b m) (holds.names m) h
      (is_used_name b.kernel m && is_cancel_on m cancel) (not (is_used_name b.kernel m) && is_cancel_on m cancel)
      (needs-deed m) (is-makers m))

  -- All holds with the withdrawal on its way to the node.
  pub sent-to-node : HoldsStill script w' rest owes b
  sent-to-node =
      record {
        cancels = cancel_in b.cancel p gone.cancel;
        holds = travel-keeps script w w' hand rest owes owes b (cancel_in b.cancel p gone.cancel) 1 (node_of w 1) []
            sends cancel p refl
            CancelInHand (SentTo h) (omega arith) high-one holds c travels is_cancel node-stays directory-stays tt
            (refl, tt)
            (inr (refl, born_to), tt) (other-node, tt) other-cancels
            (λ y d same. cancel-if-same y owes _ _ refl same) (λ l. whole-left-alone w w' b after owes l)
            low high (to-say-of p owes (cancel_sight w' rest after p) calm gone.holds) names;
      }
