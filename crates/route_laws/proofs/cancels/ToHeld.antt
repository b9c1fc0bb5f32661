-- The leader holds the withdrawal that is first in its hand for a name that is on its way.
use Rattle.std.proofs.Common.{Bool, List, None, Option, Some, [], ap, append-nil, arith, false, if◌then◌else◌, inl, inr, is_none, nat_eq, not, refl, subst, sym, true, ℕ, ◌++◌, ◌∙◌, ◌∷◌, ◌≡◌, ◌≢◌, ◌≤◌}
use Rattle.std.proofs.lemmas.Bool.{false≢true, ne_eqb}
use Rattle.pico_base.specs.Home.{home_of, home_of_withdrawal}
use Rattle.pico_base.specs.declared.call.Call.TheVariants as calls
use Rattle.pico_base.specs.declared.call.Call.{Call}
use Rattle.pico_base.specs.declared.call.Home.TheVariants as homes
use Rattle.pico_base.specs.declared.numbers.Name.TheVariants.{Msg, Proc, Sem}
use Rattle.pico_base.specs.declared.numbers.Name.{Name}
use Rattle.pico_base.specs.declared.script.Script.{Script}
use Rattle.number_maps.specs.Maps.{get}
use Rattle.rpc_frame.specs.declared.asked.Asked.{Asked}
use Rattle.waiting_model.specs.Calls.{is_withdrawal, waits_at, withdrawn_from}
use Rattle.node_model.specs.Directory.{Coming, Directory, Place, held_for, is_known, is_parcel_with, items_of, maker, maker_in, place_of, stays}
use Rattle.node_model.specs.Kinds.{for_kind, is_object, is_same_name, kind_of, number_of}
use Rattle.node_model.specs.declared.held.Held.TheVariants.{Request}
use Rattle.node_model.specs.declared.held.Held.{Held}
use Rattle.world_model.specs.Node.{Node}
use Rattle.world_model.specs.Step.{with_directory}
use Rattle.world_model.specs.World.{World, node_count}
use Rattle.kernel_laws.proofs.Plain.{not_some}
use Rattle.rule_laws.proofs.CallMoves.{cancel-if-same}
use Rattle.rule_laws.proofs.Nodes.{node-with-directory}
use Rattle.world_laws.proofs.CancelMoves.{CancelTravels, dropped-stays}
use Rattle.world_laws.proofs.Cancels.{may_be_withdrawn}
use Rattle.world_laws.proofs.Changes.{Changes, IsListMap, frames_if, made-after, read-same, sent, stayed}
use Rattle.world_laws.proofs.Named.{name-cases, other-name, same-name}
use Rattle.world_laws.proofs.Stays.{IsMore, SameName, name-stays}
use Rattle.world_laws.proofs.Wholes.{whole-left-alone}
use Rattle.world_laws.specs.Callers.{only_if}
use Rattle.world_laws.specs.Cancels.{LeadsNowhere, Owing, cancel_sight, may_follow}
use Rattle.world_laws.specs.Families.{NodeHolds}
use Rattle.world_laws.specs.Invariant.{HoldsOwing}
use Rattle.world_laws.specs.Names.{NameHolds, NameSight, name_sight}
use Rattle.world_laws.specs.Places.{Beside, CancelHeld, CancelInHand, NoCancel, cancel_in}
use Rattle.world_laws.specs.Plays.{is_call_on, is_home_on}
use Rattle.world_laws.specs.Sights.{directory_of, frames_to, is_born_in, node_of}
use Rattle.route_laws.proofs.cancels.Current.{in_hand}
use Rattle.route_laws.proofs.cancels.Going.{HasGone, goes}
use Rattle.route_laws.proofs.cancels.InHand.{all-said, current-is-out, current-name, is-of-caller, is_waking, to-say-of}
use Rattle.route_laws.proofs.cancels.NameMoves.{DirectoryLeavesBut, name-passed-by}
use Rattle.route_laws.proofs.cancels.Travels.{DirectoryStays, HoldsStill, NodeStays, travel-born, travel-keeps}
use Rattle.route_laws.proofs.cancels.Whereabouts.{is_out}
use Rattle.route_laws.proofs.hand.HandMoves.{routed_sight}
use Rattle.route_laws.proofs.hand.Holdings.{HoldsAlso, goes_from, name-held-for, no_ranges}

itself-is-list-map : IsListMap (λ fs. fs)
itself-is-list-map = record { of_none = refl; of_both = λ xs ys. refl }

nothing-sent-by : (t : Bool) → frames_if t [] ≡ []
nothing-sent-by true = refl
nothing-sent-by false = refl

is_somewhere_held : (name : Name) → CancelHeld name ≡ NoCancel → ⊥
is_somewhere_held name e = cc

some-same : (a c : Name) → Some a ≡ Some c → a ≡ c
some-same a c h = cc

-- a withdrawal belongs where its call waits
withdrawal-home : (pid : ℕ) (call : Call) (name : Name) → withdrawn_from call ≡ Some name → is_object name ≡ true
    → home_of pid call ≡ homes.At name
withdrawal-home pid (calls.Withdraw other) name withdraws object =
    ap (home_of_withdrawal pid) (some-same other name withdraws) ∙ by name object
  where
    by : (name : Name) → is_object name ≡ true → home_of_withdrawal pid name ≡ homes.At name
    by (Msg id) object = refl
    by (Sem id) object = refl
    by (Proc other) object = absurd (false≢true object)
withdrawal-home pid call name withdraws object = absurd (not_some name withdraws)

module _ (script : Script) (w w' : World) (cancel : Asked) (rest : List Held) (owes : Owing) (b : Beside)
    (holds : HoldsOwing script w (Request cancel ∷ rest) owes b) (calm : is_waking owes ≡ false)
    (low : 1 ≤ cancel.caller) (high : cancel.caller ≤ node_count script)
    (is_cancel : is_withdrawal cancel.call ≡ true) (name : Name) (withdraws : withdrawn_from cancel.call ≡ Some name)
    (object : is_object name ≡ true) (to : Option ℕ) (items : List Held)
    (place : place_of (directory_of w) name ≡ Some (Coming to items)) (d' : Directory)
    (a : HoldsAlso name cancel to items (directory_of w) d')
    (c : Changes script 1 w w' (with_directory (node_of w 1) d') [] [] [])
    (follows : (call : Call) → (node_of w cancel.caller).caller.under_way ≡ Some call
    → may_be_withdrawn (node_of w cancel.caller).pid call ≡ true
    → waits_at (node_of w cancel.caller).pid call ≡ name
    → is_out (b.call cancel.caller) ≡ true → may_follow (CancelHeld name) (b.call cancel.caller) ≡ true) where
  abbrev p : ℕ
  p = cancel.caller

  abbrev hand : List Held
  hand = Request cancel ∷ rest

  high-one : 1 ≤ node_count script
  high-one = omega (arith, low, high)

  abbrev d : Directory
  d = directory_of w

  abbrev n : Node
  n = with_directory (node_of w 1) d'

  directory-now : directory_of w' ≡ d'
  directory-now = ap (λ (m : Node). m.leader.directory) c.here

  read : {T : Type 0} (f : Node → T) → f n ≡ f (node_of w 1) → (y : ℕ) → f (node_of w' y) ≡ f (node_of w y)
  read f same y = read-same script 1 w w' n [] [] [] c f same y

  -- it is behind what is held for the name, and what is held for others stays
  held-now : (m : Name)
      → held_for (directory_of w') m ≡ held_for d m ++ only_if (is_same_name name m) (Request cancel)
  held-now m =
      ap (λ z. held_for z m) directory-now
      ∙ elim (name-cases m name) [
        | inl e ↦
            subst (λ k. held_for d' k ≡ held_for d k ++ only_if (is_same_name name k) (Request cancel)) (sym e)
            (ap items_of a.place_is
            ∙ ap (λ held. held ++ Request cancel ∷ []) (sym a.were)
            ∙ ap (λ t. held_for d name ++ only_if t (Request cancel)) (sym (same-name name name refl)))
        | inr other ↦
            ap items_of (a.others m other)
            ∙ sym (append-nil (held_for d m))
            ∙ ap (λ t. held_for d m ++ only_if t (Request cancel)) (sym (other-name name m (λ e. other (sym e))))
      ]

  travels : CancelTravels p CancelInHand (CancelHeld name) cancel w w' hand rest
  travels =
      record {
        streams = λ at sender. record {
          left = frames_to w at sender;
          taken = refl;
          put = made-after script 1 w w' n [] [] [] c (λ t s fs. fs) (λ t s. itself-is-list-map) at sender
              ∙ ap (λ fs. fs ++ sent 1 [] at sender)
              (stayed script 1 w w' n [] [] [] c (λ t s fs. fs) (λ t s. itself-is-list-map) tt at sender)
              ∙ ap (λ fs. frames_to w at sender ++ fs) (nothing-sent-by (nat_eq sender 1));
        };
        lists = λ m. record {
          left = held_for (directory_of w) m;
          taken = refl;
          put = held-now m;
        };
        hands = record { left = rest; taken = refl; put = sym (append-nil rest) };
      }

  first : NodeHolds script b.pids (is_born_in w) 1 n
  first =
      node-with-directory script b.pids (is_born_in w) 1 (node_of w 1) d' refl
      (holds.nodes 1 (omega arith) high-one)

  node-stays : NodeStays script w b 1 p n
  node-stays =
      record {
        number = refl;
        pid = refl;
        stage = refl;
        leases = refl;
        noted = (node_of w 1).caller.noted;
        caller = refl;
        unnoted = λ other. refl;
        queue_keys = refl;
        set_keys = refl;
        holds = first;
      }

  known-now : (m : Name) → is_known d' m ≡ is_known d m
  known-now m =
      elim (name-cases m name) [
        | inl e ↦
            subst (λ k. is_known d' k ≡ is_known d k) (sym e)
            (ap (λ o. not (is_none o)) a.place_is ∙ sym (ap (λ o. not (is_none o)) place))
        | inr other ↦ ap (λ o. not (is_none o)) (a.others m other)
      ]

  directory-stays : DirectoryStays (directory_of w) (directory_of w')
  directory-stays =
      subst (λ z. DirectoryStays d z) (sym directory-now)
      (record {
        partings_are = λ y. ap (λ ps. get ps y) a.partings_are;
        known_are = known-now;
        ranges_are = λ kind. ap (λ rs. for_kind rs kind) a.ranges_are;
        leads = a.leads;
      })

  stays-now : (y : ℕ) → stays d' y ≡ stays d y
  stays-now y = ap (λ ps. is_none (get ps y)) a.partings_are

  nowhere-still : (m : Name) → LeadsNowhere (cancel_sight w hand b p) m → LeadsNowhere (cancel_sight w' rest b p) m
  nowhere-still m l =
      record {
        node = l.node;
        is = l.is;
        leaves = ap (λ z. stays z l.node) directory-now ∙ stays-now l.node ∙ l.leaves;
        unknown = ap (λ z. is_known z m) directory-now ∙ known-now m ∙ l.unknown;
      }

  gone : HasGone p owes w' rest b
  gone =
      goes p owes w w' hand rest b cancel CancelInHand (CancelHeld name) travels refl is_cancel (in_hand rest refl)
      (all-said script w cancel rest owes b holds calm low high is_cancel)
      (is-of-caller script w cancel rest owes b holds calm low high is_cancel)
      (read (λ (m : Node). m.number) refl p) (read (λ (m : Node). m.pid) refl p)
      (read (λ (m : Node). m.caller) refl p) nowhere-still
      (λ call under_way waits unanswered cur. record {
        pair = follows call under_way waits (current-name p (cancel_sight w hand b p) call cancel CancelInHand name cur
            withdraws) (current-is-out p (cancel_sight w hand b p) call cancel cur);
        nowhere = λ none. absurd (is_somewhere_held name none);
      })

  abbrev after : Beside
  after = record b { cancel = cancel_in b.cancel p gone.cancel }

  other-cancels : (y : ℕ) → y ≢ p → cancel_in b.cancel p gone.cancel y ≡ b.cancel y
  other-cancels y d = ap (λ t. if t then gone.cancel else b.cancel y) (ne_eqb p y (λ e. d (sym e)))

  born-still : IsMore (is_born_in w) (is_born_in w')
  born-still =
      travel-born script w w' hand rest owes owes b (cancel_in b.cancel p gone.cancel) 1 n [] [] cancel p refl
      CancelInHand (CancelHeld name) (omega arith) high-one holds c travels is_cancel node-stays directory-stays tt tt
      tt tt
      other-cancels
      (λ y d same. cancel-if-same y owes _ _ refl same) (λ l. whole-left-alone w w' b after owes l)

  leaves-but : (m : Name) → DirectoryLeavesBut d (directory_of w') m
  leaves-but m =
      record {
        maker_is = ap (λ z. maker z m) directory-now
            ∙ ap (λ rs. maker_in (for_kind rs (kind_of m)) (number_of m)) a.ranges_are;
        stays_is = λ y. ap (λ z. stays z y) directory-now ∙ stays-now y;
        kept_is = λ pid. sym (dropped-stays _ _ (Request cancel) _ _ (is_parcel_with m) refl
            (travels.lists (Proc pid)));
      }

  seen : (m : Name) (now : Option Place) → place_of (directory_of w') m ≡ now
      → SameName (record (name_sight script w hand b m) { place = now }) (name_sight script w' rest after m)
  seen m now e =
      name-passed-by script 1 w w' n [] [] [] c (record { taken = tt; from_others = tt; sent = tt; by_another = tt })
      hand rest b after m now e (leaves-but m) refl refl refl refl refl refl refl refl

  nothing-behind : (x : NameSight) (now : Option Place)
      → routed_sight x now (goes_from None) no_ranges ≡ record x { place = now }
  nothing-behind x now = λ i. record x {
    place = now;
    steps = λ y. append-nil (x.steps y) i;
    ranges = λ y. append-nil (x.ranges y) i;
  }

  call-on : is_call_on name cancel ≡ true
  call-on =
      ap (is_home_on name) (withdrawal-home cancel.pid cancel.call name withdraws object)
      ∙ same-name name name refl

  names : (m : Name) → NameHolds script b.pids (is_born_in w') m (name_sight script w' rest after m)
  names m =
      elim (name-cases m name) [
        | inl e ↦
            subst (λ k. NameHolds script b.pids (is_born_in w') k (name_sight script w' rest after k)) (sym e)
            (name-stays script b.pids (is_born_in w) (is_born_in w') name _ (name_sight script w' rest after name)
            born-still (seen name (Some (Coming to (items ++ Request cancel ∷ [])))
            (ap (λ z. place_of z name) directory-now ∙ a.place_is))
            (subst (λ (z : NameSight). NameHolds script b.pids (is_born_in w) name z)
            (nothing-behind (name_sight script w hand b name) (Some (Coming to (items ++ Request cancel ∷ []))))
            (name-held-for script b.pids (is_born_in w) name (name_sight script w hand b name) (holds.names name) None
            to items cancel place call-on)))
        | inr other ↦
            name-stays script b.pids (is_born_in w) (is_born_in w') m (name_sight script w hand b m)
            (name_sight script w' rest after m) born-still
            (seen m (place_of d m) (ap (λ z. place_of z m) directory-now ∙ a.others m other)) (holds.names m)
      ]

  -- All holds with the withdrawal held.
  pub cancel-held : HoldsStill script w' rest owes b
  cancel-held =
      record {
        cancels = cancel_in b.cancel p gone.cancel;
        holds = travel-keeps script w w' hand rest owes owes b (cancel_in b.cancel p gone.cancel) 1 n [] [] cancel p
            refl
            CancelInHand (CancelHeld name) (omega arith) high-one holds c travels is_cancel node-stays directory-stays
            tt tt tt tt
            other-cancels
            (λ y d same. cancel-if-same y owes _ _ refl same) (λ l. whole-left-alone w w' b after owes l)
            low high (to-say-of p owes (cancel_sight w' rest after p) calm gone.holds) names;
      }
