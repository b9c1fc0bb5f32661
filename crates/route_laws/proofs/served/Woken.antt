-- One who waits at a name that the node holds is taken up: its call is in the leader's hand then, and waits there no
-- more.
use Rattle.std.proofs.Common.{◌≡◌, ◌≢◌, ℕ, Bool, true, false, not, cond, if◌then◌else◌, List, [], ◌∷◌, ◌++◌, filter, nat_eq, Contains, refl, ap, sym, subst, ◌∙◌, inl, inr, ◌&&◌}
use Rattle.std.specs.List.{AllByRecursion}
use Rattle.std.proofs.lemmas.Bool.{and_parts, eq-eqb, eqb-true, ne_eqb, false≢true}
use Rattle.std.proofs.lemmas.List.Elements.{Contains-append_cases, Contains-append_left, Contains-append_right}
use Rattle.pico_base.specs.declared.call.Call.{Call}
use Rattle.pico_base.specs.declared.call.Call.TheVariants as calls
use Rattle.pico_base.specs.declared.call.Home.{Home}
use Rattle.pico_base.specs.declared.call.Home.TheVariants as homes
use Rattle.pico_base.specs.declared.numbers.Name.{Name}
use Rattle.pico_base.specs.declared.script.Script.{Script}
use Rattle.pico_base.specs.Home.{home_of}
use Rattle.rpc_frame.specs.declared.asked.Asked.{Asked}
use Rattle.rpc_frame.specs.declared.deed.Parcel.{Parcel}
use Rattle.kernel_laws.proofs.Members.{contains-cases, contains-first, contains-later, contains-none}
use Rattle.waiting_model.specs.declared.callers.Waiting.{Waiting}
use Rattle.waiting_model.specs.Calls.{is_withdrawal, may_park}
use Rattle.node_model.specs.declared.held.Held.{Held}
use Rattle.node_model.specs.declared.held.Held.TheVariants.{Request, Ending}
use Rattle.node_model.specs.Directory.{is_parcel_with}
use Rattle.node_model.specs.Bodies.{Body, Deeds, bare, body_in, is_living_body, waiters_of}
use Rattle.node_model.specs.Serving.{waiting_as}
use Rattle.world_model.specs.Node.{is_node}
use Rattle.world_model.specs.Calls.{is_for_others}
use Rattle.world_model.specs.World.{World}
use Rattle.entry_laws.proofs.Names.{other-name, same-name}
use Rattle.serve_laws.proofs.Rounds.{without}
use Rattle.world_laws.specs.Places.{InTable, IsInHand, Beside, body_put, call_in}
use Rattle.world_laws.specs.Sights.{node_of, is_born_in}
use Rattle.world_laws.specs.Names.{NameHolds, name_sight}
use Rattle.world_laws.specs.Callers.{CallHolds, CallSight, HasCall, HasCallOrNone, IsJustThere, IsSoFar, IsToBeMade, asked_of, call_sight, frame_at, is_end_place, is_held_at, is_in_hand, is_in_stream, is_item_about, is_on, is_waiter_of, is_waiting_at, may_be_in, only_if}
use Rattle.world_laws.specs.Cancels.{Wakes}
use Rattle.world_laws.specs.Invariant.{HoldsOwing}
use Rattle.world_laws.proofs.Cancels.{is_item_of}
use Rattle.world_laws.proofs.Changes.{Changes}
use Rattle.world_laws.proofs.Named.{name-cases}
use Rattle.rule_laws.proofs.own.Rebodied.{IsBodyOf}
use Rattle.route_laws.proofs.hand.HandMoves.{IsCallOf, placed_at}
use Rattle.route_laws.proofs.served.Nodes.{PutsBody, bare-lives, node_with}
use Rattle.route_laws.proofs.served.Rebodies.{MovesThere, rebodies-keeps}
use Rattle.route_laws.proofs.served.Replies.{IsAtWork}
use Rattle.route_laws.proofs.served.Waiters.{WaitsThere, pid-of-waiter, waits-there}
use Rattle.world_laws.specs.Ranges.{has_lease}

-- as it was asked for
abbrev pub asked_from : Waiting → Asked
asked_from v = record { caller = v.caller; ticket = v.ticket; pid = v.pid; call = v.call }

-- ---- an item more in the hand

-- of which nothing is kept
pub insert-other : (test : Held → Bool) (item : Held) → test item ≡ false → (front rest : List Held)
    → filter test (front ++ item ∷ rest) ≡ filter test (front ++ rest)
insert-other test item away [] rest = ap (λ t. cond t (item ∷ filter test rest) (filter test rest)) away
insert-other test item away (x ∷ front) rest =
    ap (λ xs. cond (test x) (x ∷ xs) xs) (insert-other test item away front rest)

none-kept : (t : Bool) (x : Held) (xs : List Held) → cond t (x ∷ xs) xs ≡ [] → (t ≡ false) × (xs ≡ [])
none-kept true x xs h = absurd (cc)
none-kept false x xs h = (refl, h)

-- and which is kept alone
pub insert-mine : (test : Held → Bool) (item : Held) → test item ≡ true → (front rest : List Held)
    → filter test (front ++ rest) ≡ [] → filter test (front ++ item ∷ rest) ≡ item ∷ []
insert-mine test item kept [] rest none =
    ap (λ t. cond t (item ∷ filter test rest) (filter test rest)) kept ∙ ap (λ xs. item ∷ xs) none
insert-mine test item kept (x ∷ front) rest none =
    let parts = none-kept (test x) x (filter test (front ++ rest)) none
    in ap (λ t. cond t (x ∷ filter test (front ++ item ∷ rest)) (filter test (front ++ item ∷ rest))) parts.0
    ∙ insert-mine test item kept front rest parts.1

no-ending : (asked : Asked) (rest : List Held) (parcel : Parcel) → Contains (Request asked ∷ rest) (Ending parcel)
    → Contains rest (Ending parcel)
no-ending asked rest parcel h =
    elim (Contains-append_cases (Request asked ∷ []) rest (Ending parcel) h) [
      | inl first ↦ absurd (not-request (contains-one first))
      | inr later ↦ later
    ]
  where
    not-request : Request asked ≡ Ending parcel → ⊥
    not-request e = cc

    contains-one : Contains (Request asked ∷ []) (Ending parcel) → Request asked ≡ Ending parcel
    contains-one h = elim (contains-cases (Request asked) [] (Ending parcel) h) [
      | inl same ↦ same
      | inr none ↦ absurd (contains-none (Ending parcel) none)
    ]

pub ending-was : (front rest : List Held) (asked : Asked) (parcel : Parcel)
    → Contains (front ++ Request asked ∷ rest) (Ending parcel) → Contains (front ++ rest) (Ending parcel)
ending-was front rest asked parcel h =
    elim (Contains-append_cases front (Request asked ∷ rest) (Ending parcel) h) [
      | inl left ↦ Contains-append_left front rest (Ending parcel) left
      | inr right ↦ Contains-append_right front rest (Ending parcel) (no-ending asked rest parcel right)
    ]

-- ---- those who wait, without one

-- those of another node stay
others-without : (y pid : ℕ) (ws : List Waiting)
    → ((u : Waiting) → Contains ws u → nat_eq pid u.pid ≡ true → is_waiter_of y u ≡ false)
    → filter (is_waiter_of y) (without pid ws) ≡ filter (is_waiter_of y) ws
others-without y pid [] h = refl
others-without y pid (u ∷ ws) h =
    by (nat_eq pid u.pid) refl (others-without y pid ws (λ t there. h t (contains-later u ws t there)))
  where
    by : (t : Bool) → nat_eq pid u.pid ≡ t → filter (is_waiter_of y) (without pid ws) ≡ filter (is_waiter_of y) ws
        → filter (is_waiter_of y) (without pid (u ∷ ws)) ≡ filter (is_waiter_of y) (u ∷ ws)
    by true same rest =
        ap (λ t. filter (is_waiter_of y) (cond (not t) (u ∷ without pid ws) (without pid ws))) same
        ∙ rest
        ∙ sym (ap (λ t. cond t (u ∷ filter (is_waiter_of y) ws) (filter (is_waiter_of y) ws))
        (h u (contains-first u ws) same))
    by false other rest =
        ap (λ t. filter (is_waiter_of y) (cond (not t) (u ∷ without pid ws) (without pid ws))) other
        ∙ ap (λ us. cond (is_waiter_of y u) (u ∷ us) us) rest

-- and none of its own is left
mine-without : (y pid : ℕ) (ws : List Waiting)
    → ((u : Waiting) → Contains ws u → is_waiter_of y u ≡ true → nat_eq pid u.pid ≡ true)
    → filter (is_waiter_of y) (without pid ws) ≡ []
mine-without y pid [] h = refl
mine-without y pid (u ∷ ws) h =
    by (nat_eq pid u.pid) refl (mine-without y pid ws (λ t there. h t (contains-later u ws t there)))
  where
    not-mine : (t : Bool) → is_waiter_of y u ≡ t → nat_eq pid u.pid ≡ false → is_waiter_of y u ≡ false
    not-mine true mine other = absurd (false≢true (sym other ∙ h u (contains-first u ws) mine))
    not-mine false away other = away

    by : (t : Bool) → nat_eq pid u.pid ≡ t → filter (is_waiter_of y) (without pid ws) ≡ []
        → filter (is_waiter_of y) (without pid (u ∷ ws)) ≡ []
    by true same rest =
        ap (λ t. filter (is_waiter_of y) (cond (not t) (u ∷ without pid ws) (without pid ws))) same ∙ rest
    by false other rest =
        ap (λ t. filter (is_waiter_of y) (cond (not t) (u ∷ without pid ws) (without pid ws))) other
        ∙ ap (λ t. cond t (u ∷ filter (is_waiter_of y) (without pid ws)) (filter (is_waiter_of y) (without pid ws)))
        (not-mine (is_waiter_of y u) refl other)
        ∙ rest

-- all that holds of each holds of each of them
pub all-without : (P : Waiting → Type 0) (pid : ℕ) (ws : List Waiting) → AllByRecursion P ws
    → AllByRecursion P (without pid ws)
all-without P pid [] h = tt
all-without P pid (u ∷ ws) h = by (nat_eq pid u.pid) (all-without P pid ws h.1)
  where
    by : (t : Bool) → AllByRecursion P (without pid ws)
        → AllByRecursion P (cond (not t) (u ∷ without pid ws) (without pid ws))
    by true rest = rest
    by false rest = (h.0, rest)

-- ---- the call

-- a call on a name is for others
on-for-others : (name : Name) (home : Home) → is_on name home ≡ true → is_for_others home ≡ true
on-for-others name (homes.At other) h = refl
on-for-others name (homes.Removal other) h = refl
on-for-others name homes.Own h = absurd (false≢true h)
on-for-others name homes.Keys h = absurd (false≢true h)
on-for-others name homes.Parent h = absurd (false≢true h)

-- a call that may have to wait is no withdrawal
pub parks-call : (call : Call) → may_park call ≡ true → is_withdrawal call ≡ false
parks-call (calls.Withdraw name) h = absurd (false≢true h)
parks-call call h = refl

-- ---- one is taken up

module _ (script : Script) (w : World) (p : ℕ) (at : IsAtWork script w p) (front rest : List Held) (b : Beside)
    (holds : HoldsOwing script w (front ++ rest) Wakes b) (name : Name) (here : b.deed name ≡ InTable p) (v : Waiting)
    (there : Contains (waiters_of (b.body name)) v) (body : Body) (same_bare : bare body ≡ bare (b.body name))
    (left : waiters_of body ≡ without v.pid (waiters_of (b.body name))) (deeds : Deeds)
    (puts : PutsBody (node_of w p).deeds deeds name body) (w' : World)
    (c : Changes script p w w' (node_with (node_of w p) (node_of w p).caller deeds (node_of w p).leader) [] [] []) where
  abbrev x : ℕ
  x = v.caller

  abbrev hand : List Held
  hand = front ++ rest

  abbrev asked : Asked
  asked = asked_from v

  -- the hand has it
  abbrev pub hand_with : List Held
  hand_with = front ++ Request asked ∷ rest

  abbrev ws : List Waiting
  ws = waiters_of (b.body name)

  it : WaitsThere script w hand b holds name v
  it = waits-there script w hand b holds name v there

  abbrev sight : CallSight
  sight = call_sight w hand b x

  has : HasCall script x (is_born_in w) sight it.call
  has = it.has

  just : IsJustThere x sight (asked_of sight it.call)
  just = has.just_there

  asked-is : asked ≡ asked_of sight it.call
  asked-is = ap asked_from it.is

  home-parts : (is_on name (home_of sight.pid it.call) ≡ true) × (may_park it.call ≡ true)
  home-parts =
      and_parts (is_on name (home_of sight.pid it.call)) (may_park it.call)
      (subst (λ place. may_be_in place (home_of sight.pid it.call) it.call ≡ true) it.waits has.home)

  -- It is a call of a node of the script.
  pub taken-asks : IsCallOf script asked
  taken-asks =
      record {
        low = it.node.low;
        high = it.node.high;
        is_call = ap (λ (a : Asked). is_withdrawal a.call) asked-is ∙ parks-call it.call home-parts.1;
      }

  call-holds : CallHolds script x (is_born_in w) sight
  call-holds = holds.calls x it.node.low it.node.high

  to-be-made : IsToBeMade script x sight it.call
  to-be-made = subst (λ z. IsSoFar script x sight it.call z) it.waits has.so_far

  abbrev placed : CallSight
  placed = placed_at sight x IsInHand (asked_of sight it.call)

  placed-holds : CallHolds script x (is_born_in w) placed
  placed-holds =
      record {
        call = subst (λ o. HasCallOrNone script x (is_born_in w) placed o) (sym it.under_way)
            (record {
              just_there = record {
                in_streams = λ to sender. refl;
                held_for_names = λ other. refl;
                in_hand = refl;
                waiting = λ other. refl;
              };
              home = on-for-others name (home_of sight.pid it.call) home-parts.0;
              used_up = tt;
              between = tt;
              so_far = record {
                there = to-be-made.there;
                due = to-be-made.due;
                alive = to-be-made.alive;
                lives = to-be-made.lives;
                may = to-be-made.may;
              };
              at_work = has.at_work;
              started = has.started;
              tickets = has.tickets;
              try_left = has.try_left;
            });
        ends = sym (ap is_end_place it.waits) ∙ call-holds.ends;
      }

  mine : Waiting → Type 0
  mine u = Contains ws u

  own-pid : (u : Waiting) → Contains ws u → u.pid ≡ b.pids u.caller
  own-pid u among = (pid-of-waiter script w hand b holds name u among).0

  -- who has its process has its node
  same-node : (u : Waiting) → Contains ws u → nat_eq v.pid u.pid ≡ true → u.caller ≡ x
  same-node u among same =
      let pids = holds.pids
      in sym (pids.apart x u.caller (pid-of-waiter script w hand b holds name v there).1
      (sym (own-pid v there) ∙ eqb-true v.pid u.pid same ∙ own-pid u among))

  waiting-others : (y : ℕ) → y ≢ x → filter (is_waiter_of y) (waiters_of body) ≡ filter (is_waiter_of y) ws
  waiting-others y d =
      ap (filter (is_waiter_of y)) left
      ∙ others-without y v.pid ws
      (λ u among same. ne_eqb u.caller y (λ e. d (sym e ∙ same-node u among same)))

  none-waiting : filter (is_waiter_of x) (waiters_of body) ≡ []
  none-waiting =
      ap (filter (is_waiter_of x)) left
      ∙ mine-without x v.pid ws
      (λ u among own. eq-eqb v.pid u.pid
      (own-pid v there ∙ ap b.pids (sym (eqb-true u.caller x own)) ∙ sym (own-pid u among)))

  waits-elsewhere : (other : Name) → other ≢ name → filter (is_waiter_of x) (waiters_of (b.body other)) ≡ []
  waits-elsewhere other d =
      just.waiting other
      ∙ ap (λ z. only_if (is_waiting_at z other) (waiting_as (asked_of sight it.call))) it.waits
      ∙ ap (λ t. only_if t (waiting_as (asked_of sight it.call))) (other-name name other d)

  moves : MovesThere script w hand hand_with b name body x IsInHand asked
  moves =
      record {
        call = subst (λ a. CallHolds script x (is_born_in w) (placed_at sight x IsInHand a)) (sym asked-is)
            placed-holds;
        no_stream = λ to sender. just.in_streams to sender
            ∙ ap (λ z. only_if (is_in_stream z x to sender) (frame_at z (asked_of sight it.call))) it.waits;
        none_held = λ other. just.held_for_names other
            ∙ ap (λ z. only_if (is_held_at z other) (Request (asked_of sight it.call))) it.waits;
        out_of_streams = λ to sender. refl;
        not_held = λ other. refl;
        no_lease = λ kind. sym (ap (has_lease kind) it.waits);
        hand_is = insert-mine (is_item_about x) (Request asked)
            (ap (λ t. t && not (is_withdrawal v.call)) (eq-eqb x x refl) ∙ ap not taken-asks.is_call) front rest
            (just.in_hand ∙ ap (λ z. only_if (is_in_hand z) (Request (asked_of sight it.call))) it.waits);
        hand_of_others = λ y d. insert-other (is_item_of y) (Request asked) (ne_eqb x y (λ e. d (sym e))) front rest;
        parcels_at_hand = ending-was front rest asked;
        parcels_with = λ other. insert-other (is_parcel_with other) (Request asked) refl front rest;
        waiters_are = λ other. elim (name-cases other name) [
          | inl e ↦
              ap (λ z. filter (is_waiter_of x) (waiters_of (body_put b.body name body z))) e
              ∙ ap (λ t. filter (is_waiter_of x) (waiters_of (if t then body else b.body name))) (same-name name)
              ∙ none-waiting
          | inr d ↦
              ap (λ t. filter (is_waiter_of x) (waiters_of (if t then body else b.body other)))
              (other-name name other d)
              ∙ waits-elsewhere other d
        ];
        waiters_of_others = waiting-others;
      }

  body-of : IsBodyOf script (body_in b.kernel name) body
  body-of =
      let old : NameHolds script b.pids (is_born_in w) name (name_sight script w hand b name) = holds.names name
      in record {
        parts = same_bare ∙ old.parts;
        callers = subst (λ us. AllByRecursion (λ u. is_node script u.caller ≡ true) us) (sym left)
            (all-without (λ u. is_node script u.caller ≡ true) v.pid ws old.callers);
      }

  lives : is_living_body body ≡ is_living_body (b.body name)
  lives = sym (bare-lives body) ∙ ap is_living_body same_bare ∙ bare-lives (b.body name)

  -- what stands beside the world then
  abbrev pub taken_beside : Beside
  taken_beside = record b { call = call_in b.call x IsInHand; body = body_put b.body name body }

  -- All holds with it in hand.
  pub takes-up : HoldsOwing script w' hand_with Wakes taken_beside
  takes-up =
      rebodies-keeps script w w' p at hand hand_with b holds name here body body-of lives deeds puts x IsInHand asked
      moves c
