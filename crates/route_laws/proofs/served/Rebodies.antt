-- In the middle of an event, while the withdrawals and the kernel in which callers wait are to come last: a call goes
-- from among those who wait at a name into the hand, or the other way round, and the node that holds the name has its
-- body with, or without, who waits.
use Rattle.std.proofs.Common.{◌≡◌, ◌≢◌, ℕ, Bool, false, if◌then◌else◌, List, [], filter, flat_map, Contains, Some, refl, ap, sym, subst, ◌∙◌, inl, inr}
use Rattle.std.proofs.lemmas.Bool.{cases_eq, eq-eqb, ne_eqb}
use Rattle.pico_base.specs.declared.numbers.Kind.{Kind}
use Rattle.pico_base.specs.declared.numbers.Name.{Name}
use Rattle.pico_base.specs.declared.script.Script.{Script}
use Rattle.rpc_frame.specs.declared.asked.Asked.{Asked}
use Rattle.rpc_frame.specs.declared.deed.Parcel.{Parcel}
use Rattle.node_model.specs.declared.held.Held.{Held}
use Rattle.node_model.specs.declared.held.Held.TheVariants.{Request, Ending}
use Rattle.node_model.specs.Kinds.{for_kind, get_named}
use Rattle.node_model.specs.Directory.{Directory, held_for, is_parcel_with}
use Rattle.node_model.specs.Bodies.{Body, Deeds, body_in, is_living_body, waiters_of}
use Rattle.node_model.specs.Serving.{waiting_as}
use Rattle.world_model.specs.Node.{Node}
use Rattle.world_model.specs.World.{World}
use Rattle.entry_laws.proofs.Names.{other-name, same-name}
use Rattle.world_laws.specs.Places.{CallPlace, InTable, Beside, body_put, call_in}
use Rattle.world_laws.specs.Sights.{node_of, frames_to, directory_of, is_born_in}
use Rattle.world_laws.specs.Plays.{plays}
use Rattle.world_laws.specs.Names.{NameHolds, held_as, name_sight, range_steps_of}
use Rattle.world_laws.specs.Callers.{CallHolds, call_sight, frame_at, is_about, is_held_at, is_in_hand, is_in_stream, is_item_about, is_waiter_of, is_waiting_at, only_if}
use Rattle.world_laws.specs.Cancels.{Wakes}
use Rattle.world_laws.specs.Ranges.{has_lease}
use Rattle.world_laws.specs.Families.{NodeHolds}
use Rattle.world_laws.specs.Invariant.{HoldsOwing}
use Rattle.world_laws.proofs.Cancels.{is_item_of}
use Rattle.world_laws.proofs.Changes.{Changes, filter-is-list-map, made-same, read-same, stayed}
use Rattle.world_laws.proofs.LeftAlone.{SameCaller, few-still, kind-left-alone, name-left-alone, same-directory}
use Rattle.world_laws.proofs.Named.{name-cases}
use Rattle.world_laws.proofs.NameFacts.{held-here}
use Rattle.world_laws.proofs.Stays.{IsMore, SameCall, call-stays, kind-stays, name-stays}
use Rattle.rule_laws.proofs.CallMoves.{IsCallMove, call-move-keeps, move-born, ranges-still, same-but-call, steps-still}
use Rattle.rule_laws.proofs.own.Rebodied.{IsBodyOf, name-rebodied, name-seen-rebodied}
use Rattle.route_laws.proofs.hand.HandMoves.{placed_at}
use Rattle.route_laws.proofs.served.Nodes.{PutsBody, node-puts, node_with}
use Rattle.route_laws.proofs.served.Replies.{IsAtWork}

-- What there is to show: the call of node x goes to this place, in which it is in no stream and held for no name.
pub record MovesThere (script : Script) (w : World) (hand hand' : List Held) (b : Beside) (name : Name) (body : Body)
    (x : ℕ) (place : CallPlace) (asked : Asked) : Type 0 where
  pub call : CallHolds script x (is_born_in w) (placed_at (call_sight w hand b x) x place asked)
  pub no_stream : (to sender : ℕ) → filter (is_about x to sender) (frames_to w to sender) ≡ []
  pub none_held : (m : Name) → filter (is_item_about x) (held_for (directory_of w) m) ≡ []
  pub out_of_streams : (to sender : ℕ) → is_in_stream place x to sender ≡ false
  pub not_held : (m : Name) → is_held_at place m ≡ false
  pub no_lease : (kind : Kind) → has_lease kind place ≡ has_lease kind (b.call x)
  -- the hand
  pub hand_is : filter (is_item_about x) hand' ≡ only_if (is_in_hand place) (Request asked)
  pub hand_of_others : (y : ℕ) → y ≢ x → filter (is_item_of y) hand' ≡ filter (is_item_of y) hand
  pub parcels_at_hand : (parcel : Parcel) → Contains hand' (Ending parcel) → Contains hand (Ending parcel)
  pub parcels_with : (m : Name) → filter (is_parcel_with m) hand' ≡ filter (is_parcel_with m) hand
  -- those who wait
  pub waiters_are : (m : Name)
      → filter (is_waiter_of x) (waiters_of (body_put b.body name body m))
      ≡ only_if (is_waiting_at place m) (waiting_as asked)
  pub waiters_of_others : (y : ℕ) → y ≢ x
      → filter (is_waiter_of y) (waiters_of body) ≡ filter (is_waiter_of y) (waiters_of (b.body name))

module _ (script : Script) (w w' : World) (p : ℕ) (at : IsAtWork script w p) (hand hand' : List Held) (b : Beside)
    (holds : HoldsOwing script w hand Wakes b) (name : Name) (here : b.deed name ≡ InTable p) (body : Body)
    (is : IsBodyOf script (body_in b.kernel name) body) (lives : is_living_body body ≡ is_living_body (b.body name))
    (deeds : Deeds) (puts : PutsBody (node_of w p).deeds deeds name body) (x : ℕ) (place : CallPlace) (asked : Asked)
    (m : MovesThere script w hand hand' b name body x place asked)
    (c : Changes script p w w' (node_with (node_of w p) (node_of w p).caller deeds (node_of w p).leader) [] [] []) where
  abbrev n : Node
  n = node_of w p

  abbrev after_node : Node
  after_node = node_with n n.caller deeds n.leader

  abbrev calls-now : ℕ → CallPlace
  calls-now = call_in b.call x place

  -- what stands beside the world then
  abbrev pub rebodied_beside : Beside
  rebodied_beside = record b { call = calls-now; body = body_put b.body name body }

  -- the body of the name
  pub body-here : rebodied_beside.body name ≡ body
  body-here = ap (λ t. if t then body else b.body name) (same-name name)

  -- and those of others
  pub body-elsewhere : (other : Name) → other ≢ name → rebodied_beside.body other ≡ b.body other
  body-elsewhere other d = ap (λ t. if t then body else b.body other) (other-name name other d)

  same-caller : SameCaller n after_node
  same-caller = record { number = refl; pid = refl; stage = refl; caller = refl; leases = refl }

  read : {A : Type 0} (f : Node → A) → f after_node ≡ f n → (y : ℕ) → f (node_of w y) ≡ f (node_of w' y)
  read f same y = sym (read-same script p w w' after_node [] [] [] c f same y)

  same-directory-now : directory_of w' ≡ directory_of w
  same-directory-now = sym (read (λ (z : Node). z.leader.directory) refl 1)

  held : get_named n.deeds name ≡ Some (b.body name)
  held =
      let old : NameHolds script b.pids (is_born_in w) name (name_sight script w hand b name) = holds.names name
      in old.tables p ∙ ap (λ d. held_as d (b.body name) p) here ∙ held-here p (b.body name)

  node-now : NodeHolds script b.pids (is_born_in w) p after_node
  node-now =
      node-puts script b.pids (is_born_in w) p n (holds.nodes p at.low at.high) name (b.body name) body held deeds puts
      lives n.caller n.leader

  others-still : (y : ℕ) → y ≢ x → calls-now y ≡ b.call y
  others-still y d = ap (λ t. if t then place else b.call y) (ne_eqb x y (λ e. d (sym e)))

  waiters-by : (y : ℕ) → y ≢ x → (other : Name)
      → filter (is_waiter_of y) (waiters_of (rebodied_beside.body other))
      ≡ filter (is_waiter_of y) (waiters_of (b.body other))
  waiters-by y d other =
      elim (name-cases other name) [
        | inr e ↦ ap (λ v. filter (is_waiter_of y) (waiters_of v)) (body-elsewhere other e)
        | inl e ↦
            subst (λ z. filter (is_waiter_of y) (waiters_of (rebodied_beside.body z))
            ≡ filter (is_waiter_of y) (waiters_of (b.body z))) (sym e)
            (ap (λ v. filter (is_waiter_of y) (waiters_of v)) body-here ∙ m.waiters_of_others y d)
      ]

  move : IsCallMove script w w' hand hand' Wakes Wakes b rebodied_beside p after_node [] [] x
  move =
      record {
        stage = refl;
        under_way = λ left. refl;
        own = λ d. same-caller;
        queue_keys = refl;
        set_keys = refl;
        directory = same-but-call x (directory_of w) (directory_of w') same-directory-now holds.leading;
        node = node-now;
        deeds = λ pid. refl;
        calls = others-still;
        hand_of_others = m.hand_of_others;
        parcels_at_hand = m.parcels_at_hand;
        whole = λ h. tt;
        waiters_of_others = waiters-by;
        cancel_of_others = λ y d. refl;
        owed_of_others = λ y d same h. tt;
        plain_taken = tt;
        plain_sent = tt;
        no_birth_taken = tt;
        no_birth_sent = tt;
        of_no_other = λ y d. tt;
        sent_of_no_other = λ y d. tt;
        no_cancel_taken = λ y d. tt;
        no_cancel_sent = λ y d. tt;
        may_be_sent = tt;
        to_others = tt;
      }

  -- the same nodes are born
  born-still : IsMore (is_born_in w) (is_born_in w')
  born-still =
      move-born script w w' hand hand' Wakes Wakes b rebodied_beside p after_node [] [] [] x at.low at.high holds c move

  none-left : (to sender : ℕ) → filter (is_about x to sender) (c.left to sender) ≡ []
  none-left to sender =
      stayed script p w w' after_node [] [] [] c (λ t s fs. filter (is_about x t s) fs)
      (λ t s. filter-is-list-map (is_about x t s)) tt to sender
      ∙ m.no_stream to sender

  frames-same : (to sender : ℕ)
      → filter (is_about x to sender) (frames_to w' to sender) ≡ filter (is_about x to sender) (frames_to w to sender)
  frames-same to sender =
      made-same script p w w' after_node [] [] [] c (λ t s fs. filter (is_about x t s) fs)
      (λ t s. filter-is-list-map (is_about x t s)) tt tt to sender

  sight-now : SameCall (placed_at (call_sight w hand b x) x place asked) (call_sight w' hand' rebodied_beside x)
  sight-now =
      record {
        number = read (λ (z : Node). z.number) refl x;
        pid = read (λ (z : Node). z.pid) refl x;
        stage = read (λ (z : Node). z.stage) refl x;
        caller = read (λ (z : Node). z.caller) refl x;
        leases = read (λ (z : Node). z.leases) refl x;
        place = refl;
        alive = refl;
        call = sym (ap (λ t. if t then place else b.call x) (eq-eqb x x refl));
        frames_about = λ to sender. ap (λ t. only_if t (frame_at place asked)) (m.out_of_streams to sender)
            ∙ sym (frames-same to sender ∙ m.no_stream to sender);
        held = λ other. ap (λ t. only_if t (Request asked)) (m.not_held other)
            ∙ sym (ap (λ d. filter (is_item_about x) (held_for d other)) same-directory-now ∙ m.none_held other);
        hand = sym m.hand_is;
        waiters = λ other. sym (m.waiters_are other);
      }

  call-now : CallHolds script x (is_born_in w') (call_sight w' hand' rebodied_beside x)
  call-now = call-stays script x (is_born_in w) (is_born_in w') _ _ born-still sight-now m.call

  steps-now : (used : Bool) (other : Name) (y : ℕ)
      → plays used calls-now other (c.left y 1) ≡ plays used b.call other (c.left y 1)
  steps-now used other y =
      steps-still script w w' hand hand' Wakes Wakes b rebodied_beside p after_node [] [] [] x at.low at.high holds c
      move used y (none-left y 1) other

  ranges-now : (used : Bool) (other : Name) (y : ℕ)
      → flat_map (range_steps_of used calls-now other) (c.left y 1)
      ≡ flat_map (range_steps_of used b.call other) (c.left y 1)
  ranges-now used other y =
      ranges-still script w w' hand hand' Wakes Wakes b rebodied_beside p after_node [] [] [] x at.low at.high holds c
      move used y (none-left y 1) other

  name-now : (other : Name) → NameHolds script b.pids (is_born_in w') other
      (name_sight script w' hand' rebodied_beside other)
  name-now other =
      elim (name-cases other name) [
        | inr d ↦
            name-stays script b.pids (is_born_in w) (is_born_in w') other _ _ born-still
            (name-left-alone script p w w' after_node [] [] [] c hand hand' b rebodied_beside other
            (record {
              directory = same-directory (directory_of w) (directory_of w') same-directory-now other;
              used_is = refl;
              part_is = refl;
              body_is = body-elsewhere other d;
              deed_is = refl;
              held_is = puts.others other d;
              begins_is = λ holds_it comes. refl;
              hand_is = m.parcels_with other;
              steps_are = λ used. steps-now used other;
              ranges_are = λ used. ranges-now used other;
            }) tt tt) (holds.names other)
        | inl e ↦
            let at_other : b.deed other ≡ InTable p = ap b.deed e ∙ here
            in let old : NameHolds script b.pids (is_born_in w) other (name_sight script w hand b other) =
            holds.names other
            in let now : rebodied_beside.body other ≡ body = ap rebodied_beside.body e ∙ body-here
            in let body_of : IsBodyOf script (body_in b.kernel other) (rebodied_beside.body other) =
            subst (λ v. IsBodyOf script (body_in b.kernel other) v) (sym now)
            (subst (λ z. IsBodyOf script (body_in b.kernel z) body) (sym e) is)
            in name-stays script b.pids (is_born_in w) (is_born_in w') other _ _ born-still
            (name-seen-rebodied script p w w' after_node [] [] [] c hand hand' b rebodied_beside other old.tables
            (record {
              directory = same-directory (directory_of w) (directory_of w') same-directory-now other;
              used_is = refl;
              deed_was = at_other;
              deed_is = refl;
              held_is = ap (get_named deeds) e ∙ puts.here ∙ ap Some (sym now);
              begins_is = λ holds_it comes. refl;
              hand_is = m.parcels_with other;
              steps_are = λ used. steps-now used other;
              ranges_are = λ used. ranges-now used other;
            }) tt tt)
            (name-rebodied script b.pids (is_born_in w) other (name_sight script w hand b other) p
            (body_in b.kernel other) (rebodied_beside.body other) body_of at_other old)
      ]

  lease-same : (kind : Kind) (y : ℕ) → has_lease kind (calls-now y) ≡ has_lease kind (b.call y)
  lease-same kind y =
      elim (cases_eq x y) [
        | inl e ↦
            ap (λ t. has_lease kind (if t then place else b.call y)) (eq-eqb x y e) ∙ m.no_lease kind
            ∙ ap (λ z. has_lease kind (b.call z)) e
        | inr d ↦ ap (λ t. has_lease kind (if t then place else b.call y)) (ne_eqb x y d)
      ]

  -- All holds then, with the same still to come.
  pub rebodies-keeps : HoldsOwing script w' hand' Wakes rebodied_beside
  rebodies-keeps =
      call-move-keeps script w w' hand hand' Wakes Wakes b rebodied_beside p after_node [] [] [] x at.low at.high holds
      c move call-now tt name-now
      (λ kind. kind-stays (is_born_in w) (is_born_in w') _ _ born-still
      (kind-left-alone script p w w' after_node [] [] [] c b.kernel b.kernel kind (λ number. refl) refl
      (ap (λ (d : Directory). for_kind d.ranges kind) same-directory-now) tt tt)
      (holds.kinds kind))
      (λ kind. few-still script p w w' after_node [] [] [] c b.call calls-now kind refl
      (ap (λ (d : Directory). for_kind d.ranges kind) same-directory-now) (lease-same kind) (holds.few kind))
