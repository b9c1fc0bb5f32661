-- A call in hand at a node goes on in a frame, and isn't carried out: it comes back to the leader, its caller is told
-- that the node isn't the owner, or the leader is asked.
use Rattle.std.proofs.Common.{◌≡◌, ◌≢◌, ℕ, ◌≤◌, Bool, true, false, ◌&&◌, not, cond, if◌then◌else◌, List, [], ◌∷◌, ◌++◌, filter, flat_map, nat_eq, is_some, refl, ap, sym, subst, ◌∙◌, inl, inr}
use Rattle.std.proofs.lemmas.Bool.{cases_eq, eq-eqb, eqb-true, ne_eqb, false≢true}
use Rattle.std.proofs.lemmas.List.Elements.{Contains-append_right}
use Rattle.pico_base.specs.declared.call.Call.{Call}
use Rattle.pico_base.specs.declared.numbers.Kind.{Kind}
use Rattle.pico_base.specs.declared.numbers.Name.{Name}
use Rattle.pico_base.specs.declared.numbers.Name.TheVariants.{Proc}
use Rattle.pico_base.specs.declared.script.Script.{Script}
use Rattle.pico_base.specs.Home.{home_of}
use Rattle.rpc_frame.specs.declared.asked.Asked.{Asked}
use Rattle.rpc_frame.specs.declared.frame.Frame.{Frame}
use Rattle.node_model.specs.declared.held.Held.{Held}
use Rattle.node_model.specs.declared.held.Held.TheVariants.{Request, Ending}
use Rattle.node_model.specs.Kinds.{for_kind, get_named}
use Rattle.node_model.specs.Caller.{Caller}
use Rattle.node_model.specs.Directory.{Directory, held_for, is_parcel_with, maker, place_of, stays}
use Rattle.node_model.specs.Leases.{Leases}
use Rattle.world_model.specs.Census.{brings}
use Rattle.world_model.specs.Node.{Node, Leader}
use Rattle.world_model.specs.World.{World, is_checkpoint}
use Rattle.entry_laws.specs.Entering.{is_used_name}
use Rattle.world_laws.specs.Places.{CallPlace, InAsk, InBounce, InNotOwner, Beside, call_in}
use Rattle.world_laws.specs.Sights.{node_of, frames_to, directory_of, stage_of, is_born_in}
use Rattle.node_model.specs.Serving.{waiting_as}
use Rattle.world_laws.specs.Plays.{begin, finds_place, has_any, is_checkpoint_of, news, placed_in, plays}
use Rattle.world_laws.specs.Names.{NameHolds, NameSight, comes_to, forker, held_at, is_maker, name_sight, range_steps_of}
use Rattle.world_laws.specs.Callers.{CallHolds, CallSight, HasCall, HasCallOrNone, IsBetween, IsSoFar, IsToBeMade, asked_of, call_sight, frame_at, is_about, is_end_place, is_held_at, is_in_hand, is_in_stream, is_item_about, is_waiting_at, lease_is_over, may_be_in, only_if}
use Rattle.world_laws.specs.Families.{NodeHolds}
use Rattle.world_laws.specs.Cancels.{CancelIf, Nothing, cancel_sight, is_cancel_of, is_held_cancel_of}
use Rattle.world_laws.specs.Invariant.{Holds, MayBe}
use Rattle.world_laws.specs.Wholes.{WholeIf}
use Rattle.world_laws.specs.Ranges.{has_lease, lease_in}
use Rattle.world_laws.proofs.Changes.{Changes, filter-is-list-map, flat_map-is-list-map, frames_if, made-after, made-same, only-stayed, read-same, sent, stayed}
use Rattle.world_laws.proofs.Cancels.{may_be_withdrawn, same-later}
use Rattle.world_laws.proofs.Following.{SameOld}
use Rattle.world_laws.proofs.Wholes.{is_to_be_made}
use Rattle.world_laws.proofs.Frames.{concerns, is_plain}
use Rattle.world_laws.proofs.LeftAlone.{SameCaller, few-still, kind-left-alone, name-left-alone, same-directory}
use Rattle.world_laws.proofs.Sends.{frame_if}
use Rattle.world_laws.proofs.Stays.{IsMore, SameCall, SameName, call-stays, kind-stays, name-stays}
use Rattle.rule_laws.proofs.Withdrawals.{old-still}
use Rattle.rule_laws.proofs.CallMoves.{IsCallMove, call-move-keeps, cancel-if-same, move-born, ranges-still, same-but-call, steps-still}
use Rattle.route_laws.proofs.Onwards.{whole-goes-on}
use Rattle.route_laws.proofs.hand.HandMoves.{IsCallOf, IsFirst, held-for-none, in-no-stream, no-held-cancel, placed_at, waits-nowhere}
use Rattle.route_laws.proofs.sent.InHand.{HasInHand, caller-stays, in-hand, is-under-way, not-made}
use Rattle.route_laws.proofs.sent.Uncancelled.{is_parked_place, uncancelled-goes}

-- where a call goes that isn't carried out
abbrev pub is_on_way : CallPlace → Bool
is_on_way InAsk = true
is_on_way (InBounce node) = true
is_on_way (InNotOwner node) = true
is_on_way place = false

not-held : (place : CallPlace) (name : Name) → is_on_way place ≡ true → is_held_at place name ≡ false
not-held InAsk name h = refl
not-held (InBounce node) name h = refl
not-held (InNotOwner node) name h = refl
not-held place name h = absurd (false≢true h)

not-in-hand : (place : CallPlace) → is_on_way place ≡ true → is_in_hand place ≡ false
not-in-hand InAsk h = refl
not-in-hand (InBounce node) h = refl
not-in-hand (InNotOwner node) h = refl
not-in-hand place h = absurd (false≢true h)

no-end-place : (place : CallPlace) → is_on_way place ≡ true → is_end_place place ≡ false
no-end-place InAsk h = refl
no-end-place (InBounce node) h = refl
no-end-place (InNotOwner node) h = refl
no-end-place place h = absurd (false≢true h)

no-lease-place : (kind : Kind) (place : CallPlace) → is_on_way place ≡ true → has_lease kind place ≡ false
no-lease-place kind InAsk h = refl
no-lease-place kind (InBounce node) h = refl
no-lease-place kind (InNotOwner node) h = refl
no-lease-place kind place h = absurd (false≢true h)

no-lease-due : (place : CallPlace) (leases : Leases) → is_on_way place ≡ true → lease_is_over place leases
no-lease-due InAsk leases h = tt
no-lease-due (InBounce node) leases h = tt
no-lease-due (InNotOwner node) leases h = tt
no-lease-due place leases h = absurd (false≢true h)

not-made-there : (script : Script) (p : ℕ) (x : CallSight) (call : Call) (place : CallPlace) → is_on_way place ≡ true
    → IsToBeMade script p x call → IsSoFar script p x call place
not-made-there script p x call InAsk h m = m
not-made-there script p x call (InBounce node) h m = m
not-made-there script p x call (InNotOwner node) h m = m
not-made-there script p x call place h m = absurd (false≢true h)

not-waiting : (place : CallPlace) (name : Name) → is_on_way place ≡ true → is_waiting_at place name ≡ false
not-waiting InAsk name h = refl
not-waiting (InBounce node) name h = refl
not-waiting (InNotOwner node) name h = refl
not-waiting place name h = absurd (false≢true h)

made-yet : (place : CallPlace) → is_on_way place ≡ true → is_to_be_made place ≡ true
made-yet InAsk h = refl
made-yet (InBounce node) h = refl
made-yet (InNotOwner node) h = refl
made-yet place h = absurd (false≢true h)

not-parked : (place : CallPlace) → is_on_way place ≡ true → is_parked_place place ≡ false
not-parked InAsk h = refl
not-parked (InBounce node) h = refl
not-parked (InNotOwner node) h = refl
not-parked place h = absurd (false≢true h)

-- The call goes on from node p in this frame, to this node. Node p is n now, and as it was but for its cache.
pub record GoesOn (script : Script) (w : World) (b : Beside) (p : ℕ) (asked : Asked) (place : CallPlace) (to : ℕ)
    (frame : Frame) (n : Node) : Type 0 where
  -- where the call is
  pub on_way : is_on_way place ≡ true
  pub frame_is : frame_at place asked ≡ frame
  pub in_stream : (t q : ℕ) → is_in_stream place asked.caller t q ≡ (nat_eq t to && nat_eq q p)
  pub home : may_be_in place (home_of asked.pid asked.call) asked.call ≡ true
  pub between : IsBetween asked.caller (is_born_in w) place
  -- it never waits, so it has no withdrawal
  pub never : may_be_withdrawn asked.pid asked.call ≡ false
  -- the frame
  pub other : to ≢ p
  pub about : is_about asked.caller to p frame ≡ true
  pub about_none : (y : ℕ) → y ≢ asked.caller → is_about y to p frame ≡ false
  pub plain : is_plain frame ≡ true
  pub no_birth : is_checkpoint frame ≡ false
  pub no_cancel : (y : ℕ) → is_cancel_of y frame ≡ false
  pub no_lease : (kind : Kind) → lease_in kind frame ≡ []
  pub may_be : MayBe script (is_born_in w) to p frame
  -- the node
  pub caller : SameCaller (node_of w p) n
  pub deeds : n.deeds ≡ (node_of w p).deeds
  pub leader : n.leader ≡ (node_of w p).leader
  pub node : NodeHolds script b.pids (is_born_in w) p n

-- a frame that is nothing for the name but news
pub record IsOnlyNews (used : Bool) (call : ℕ → CallPlace) (name : Name) (frame : Frame) : Type 0 where
  pub no_deed : filter (brings name) (frame ∷ []) ≡ []
  pub no_checkpoint : filter (is_checkpoint_of name) (frame ∷ []) ≡ []
  pub no_place : placed_in name (frame ∷ []) ≡ []
  pub no_steps : plays used call name (frame ∷ []) ≡ []
  pub no_ranges : flat_map (range_steps_of used call name) (frame ∷ []) ≡ []

sent-one : (caller p to : ℕ) (frame : Frame) → is_about caller to p frame ≡ true → (t q : ℕ) (u v : Bool)
    → nat_eq t to ≡ u → nat_eq q p ≡ v
    → filter (is_about caller t q) (frames_if v (frame_if u frame ++ [])) ≡ only_if (u && v) frame
sent-one caller p to frame about t q true true e f =
    ap (λ z. cond z (frame ∷ []) [])
    (ap (λ y. is_about caller y q frame) (eqb-true t to e) ∙ ap (λ y. is_about caller to y frame) (eqb-true q p f)
    ∙ about)
sent-one caller p to frame about t q true false e f = refl
sent-one caller p to frame about t q false true e f = refl
sent-one caller p to frame about t q false false e f = refl

module _ (script : Script) (w : World) (b : Beside) (p : ℕ) (asked : Asked) (g : HasInHand script w b p asked)
    (place : CallPlace) (to : ℕ) (frame : Frame) (n : Node) (o : GoesOn script w b p asked place to frame n)
    (w' : World) (c : Changes script p w w' n [] ((to, frame) ∷ []) []) where
  abbrev caller : ℕ
  caller = asked.caller

  abbrev hand : List Held
  hand = Request asked ∷ []

  abbrev x : CallSight
  x = call_sight w hand b caller

  abbrev sends : List (ℕ × Frame)
  sends = (to, frame) ∷ []

  abbrev calls-now : ℕ → CallPlace
  calls-now = call_in b.call caller place

  abbrev moved : Beside
  moved = record b { call = calls-now }

  holds : Holds script w hand b
  holds = g.holds

  abbrev f : IsFirst script caller (is_born_in w) x asked []
  f = in-hand script w b p asked g

  abbrev it : Asked
  it = asked_of x f.call

  same-caller : SameCaller (node_of w p) n
  same-caller = o.caller

  same-directory-now : directory_of w' ≡ directory_of w
  same-directory-now =
      read-same script p w w' n [] sends [] c (λ (m : Node). m.leader.directory)
      (ap (λ (l : Leader). l.directory) o.leader) 1

  asks : IsCallOf script asked
  asks = g.asks

  whole-then : WholeIf Nothing w' moved
  whole-then =
      whole-goes-on script p w w' n [] sends c b caller (b.call caller) place refl same-caller
      (ap is_to_be_made f.place_is) (made-yet place o.on_way) Nothing holds.whole

  move : IsCallMove script w w' hand [] Nothing Nothing b moved p n [] sends caller
  move =
      record {
        stage = same-caller.stage;
        under_way = λ left. ap (λ (k : Caller). k.under_way) same-caller.caller;
        own = λ d. same-caller;
        queue_keys = ap (λ (l : Leader). l.queue_keys) o.leader;
        set_keys = ap (λ (l : Leader). l.set_keys) o.leader;
        directory = same-but-call caller (directory_of w) (directory_of w') same-directory-now holds.leading;
        node = o.node;
        deeds = λ pid. refl;
        calls = λ y d. ap (λ t. if t then place else b.call y) (ne_eqb caller y (λ e. d (sym e)));
        hand_of_others = λ y d. sym (ap (λ t. cond t (Request asked ∷ []) []) (ne_eqb caller y (λ e. d (sym e))));
        parcels_at_hand = λ parcel at. Contains-append_right (Request asked ∷ []) [] (Ending parcel) at;
        whole = λ h. whole-then;
        waiters_of_others = λ y d name. refl;
        cancel_of_others = λ y d. refl;
        owed_of_others = λ y d. cancel-if-same y Nothing _ _ refl;
        plain_taken = tt;
        plain_sent = (o.plain, tt);
        no_birth_taken = tt;
        no_birth_sent = (o.no_birth, tt);
        of_no_other = λ y d. tt;
        sent_of_no_other = λ y d. (o.about_none y d, tt);
        no_cancel_taken = λ y d. tt;
        no_cancel_sent = λ y d. (o.no_cancel y, tt);
        may_be_sent = (o.may_be, tt);
        to_others = (o.other, tt);
      }

  more : IsMore (is_born_in w) (is_born_in w')
  more = move-born script w w' hand [] Nothing Nothing b moved p n [] sends [] caller g.low_node g.high_node holds c
      move

  left-alone : (t q : ℕ) → filter (is_about caller t q) (c.left t q) ≡ []
  left-alone t q =
      stayed script p w w' n [] sends [] c (λ t q fs. filter (is_about caller t q) fs)
      (λ t q. filter-is-list-map (is_about caller t q)) tt t q
      ∙ in-no-stream script w asked [] b holds asks t q

  read : {A : Type 0} (r : Node → A) → r n ≡ r (node_of w p) → r (node_of w caller) ≡ r (node_of w' caller)
  read r same = sym (read-same script p w w' n [] sends [] c r same caller)

  -- ---- the call

  abbrev placed : CallSight
  placed = placed_at x caller place it

  has : HasCall script caller (is_born_in w) x f.call
  has = is-under-way script w b p asked g

  still-to-be-made : IsToBeMade script caller placed f.call
  still-to-be-made =
      let m : IsToBeMade script caller x f.call = not-made script w b p asked g
      in record { there = m.there; due = m.due; alive = m.alive; lives = m.lives; may = m.may }

  call-placed : CallHolds script caller (is_born_in w) placed
  call-placed =
      record {
        call = subst (λ u. HasCallOrNone script caller (is_born_in w) placed u) (sym f.is)
            (record {
              just_there = record {
                in_streams = λ to sender. refl;
                held_for_names = λ name. refl;
                in_hand = refl;
                waiting = λ name. refl;
              };
              home = subst (λ (a : Asked). may_be_in place (home_of a.pid a.call) a.call ≡ true) f.asked_is o.home;
              used_up = no-lease-due place x.leases o.on_way;
              between = o.between;
              so_far = not-made-there script caller placed f.call place o.on_way still-to-be-made;
              at_work = has.at_work;
              started = has.started;
              tickets = has.tickets;
              try_left = has.try_left;
            });
        ends = no-end-place place o.on_way ∙ sym (caller-stays script w b p asked g);
      }

  sight-now : SameCall placed (call_sight w' [] moved caller)
  sight-now =
      record {
        number = read (λ (m : Node). m.number) same-caller.number;
        pid = read (λ (m : Node). m.pid) same-caller.pid;
        stage = read (λ (m : Node). m.stage) same-caller.stage;
        caller = read (λ (m : Node). m.caller) same-caller.caller;
        leases = read (λ (m : Node). m.leases) same-caller.leases;
        place = refl;
        alive = refl;
        call = sym (ap (λ t. if t then place else b.call caller) (eq-eqb caller caller refl));
        frames_about = λ t q. ap (λ a. only_if (is_in_stream place caller t q) (frame_at place a)) (sym f.asked_is)
            ∙ ap (λ z. only_if (is_in_stream place caller t q) z) o.frame_is
            ∙ ap (λ z. only_if z frame) (o.in_stream t q)
            ∙ sym (made-after script p w w' n [] sends [] c (λ t q fs. filter (is_about caller t q) fs)
            (λ t q. filter-is-list-map (is_about caller t q)) t q
            ∙ ap (λ fs. fs ++ filter (is_about caller t q) (sent p sends t q)) (left-alone t q)
            ∙ sent-one caller p to frame o.about t q (nat_eq t to) (nat_eq q p) refl refl);
        held = λ name. ap (λ z. only_if z (Request it)) (not-held place name o.on_way)
            ∙ sym (ap (λ d. filter (is_item_about caller) (held_for d name)) same-directory-now
            ∙ held-for-none script w asked [] b holds asks name);
        hand = ap (λ z. only_if z (Request it)) (not-in-hand place o.on_way);
        waiters = λ name. ap (λ z. only_if z (waiting_as it)) (not-waiting place name o.on_way)
            ∙ sym (waits-nowhere script w asked [] b holds asks name);
      }

  call-now : CallHolds script caller (is_born_in w') (call_sight w' [] moved caller)
  call-now = call-stays script caller (is_born_in w) (is_born_in w') _ _ more sight-now call-placed

  -- its old withdrawals are where they were, and it has no new one
  old-there : SameOld (cancel_sight w hand b caller) (cancel_sight w' [] moved caller)
  old-there =
      old-still script p w w' n [] sends [] c hand [] b moved caller (read (λ (m : Node). m.pid) same-caller.pid)
      (same-later (let m : Node = node_of w caller in m.caller) (let m : Node = node_of w' caller in m.caller)
      (read (λ (m : Node). m.caller) same-caller.caller))
      (λ name. ap (λ d. filter (is_held_cancel_of caller) (held_for d name)) same-directory-now)
      (sym (ap (λ t. cond t (Request asked ∷ []) []) (no-held-cancel asked caller asks.is_call))) tt
      (o.no_cancel caller, tt)

  no-withdrawal : CancelIf caller Nothing (cancel_sight w' [] moved caller)
  no-withdrawal =
      uncancelled-goes caller (cancel_sight w hand b caller) (cancel_sight w' [] moved caller) f.call old-there
      (read (λ (m : Node). m.caller) same-caller.caller) refl f.is
      (subst (λ (a : Asked). may_be_withdrawn a.pid a.call ≡ false) f.asked_is o.never)
      (ap (λ t. is_parked_place (if t then place else b.call caller)) (eq-eqb caller caller refl)
      ∙ not-parked place o.on_way)
      (holds.cancels caller asks.low asks.high)

  lease-same : (kind : Kind) (y : ℕ) → has_lease kind (calls-now y) ≡ has_lease kind (b.call y)
  lease-same kind y =
      elim (cases_eq caller y) [
        | inl e ↦
            ap (λ t. has_lease kind (if t then place else b.call y)) (eq-eqb caller y e)
            ∙ no-lease-place kind place o.on_way
            ∙ sym (subst (λ z. has_lease kind (b.call z) ≡ false) e (ap (has_lease kind) f.place_is))
        | inr d ↦ ap (λ t. has_lease kind (if t then place else b.call y)) (ne_eqb caller y d)
      ]

  -- All holds with the call on its way, where it holds for the names.
  pub sent-keeps : ((m : Name) → NameHolds script b.pids (is_born_in w') m (name_sight script w' [] moved m))
      → Holds script w' [] moved
  sent-keeps names =
      call-move-keeps script w w' hand [] Nothing Nothing b moved p n [] sends [] caller g.low_node g.high_node holds c
      move call-now no-withdrawal names
      (λ kind. kind-stays (is_born_in w) (is_born_in w') _ _ more
      (kind-left-alone script p w w' n [] sends [] c b.kernel b.kernel kind (λ number. refl)
      (ap (λ z. for_kind z kind) same-caller.leases)
      (ap (λ (d : Directory). for_kind d.ranges kind) same-directory-now) tt (o.no_lease kind, tt))
      (holds.kinds kind))
      (λ kind. few-still script p w w' n [] sends [] c b.call calls-now kind refl
      (ap (λ (d : Directory). for_kind d.ranges kind) same-directory-now) (lease-same kind) (holds.few kind))

  -- ---- names

  steps-now : (used : Bool) (m : Name) (q : ℕ)
      → plays used calls-now m (c.left q 1) ≡ plays used b.call m (c.left q 1)
  steps-now used m q =
      steps-still script w w' hand [] Nothing Nothing b moved p n [] sends [] caller g.low_node g.high_node holds c move
      used q (left-alone q 1) m

  ranges-now : (used : Bool) (m : Name) (q : ℕ)
      → flat_map (range_steps_of used calls-now m) (c.left q 1)
      ≡ flat_map (range_steps_of used b.call m) (c.left q 1)
  ranges-now used m q =
      ranges-still script w w' hand [] Nothing Nothing b moved p n [] sends [] caller g.low_node g.high_node holds c
      move
      used q (left-alone q 1) m

  -- A name that the frame isn't about keeps all that holds of it.
  pub name-not-sent : (m : Name) → concerns m frame ≡ false
      → NameHolds script b.pids (is_born_in w') m (name_sight script w' [] moved m)
  name-not-sent m away =
      name-stays script b.pids (is_born_in w) (is_born_in w') m _ _ more
      (name-left-alone script p w w' n [] sends [] c hand [] b moved m
      (record {
        directory = same-directory (directory_of w) (directory_of w') same-directory-now m;
        used_is = refl;
        part_is = refl;
        body_is = refl;
        deed_is = refl;
        held_is = ap (λ deeds. get_named deeds m) o.deeds;
        begins_is = λ holds_it comes. ap (λ stage. begin stage holds_it comes) same-caller.stage;
        hand_is = refl;
        steps_are = λ used. steps-now used m;
        ranges_are = λ used. ranges-now used m;
      }) tt (away, tt)) (holds.names m)

  module _ (m : Name) (k : IsOnlyNews (is_used_name b.kernel m) calls-now m frame) where
    abbrev used : Bool
    used = is_used_name b.kernel m

    -- the name with the news that it has then
    abbrev pub news_sight : NameSight
    news_sight = record (name_sight script w hand b m) { news = (name_sight script w' [] moved m).news }

    comes-same : (y : ℕ) → comes_to script w' m y ≡ comes_to script w m y
    comes-same y =
        ap (λ fs. not (nat_eq (forker script y) 1) && has_any fs)
        (made-same script p w w' n [] sends [] c (λ t q fs. filter (is_checkpoint_of m) fs)
        (λ t q. filter-is-list-map (is_checkpoint_of m)) tt (k.no_checkpoint, tt) y (forker script y))

    begins-same : (y : ℕ) → begin (stage_of w y) (is_some (held_at w m y)) (comes_to script w m y)
        ≡ begin (stage_of w' y) (is_some (held_at w' m y)) (comes_to script w' m y)
    begins-same y =
        ap (begin (stage_of w y) (is_some (held_at w m y))) (sym (comes-same y))
        ∙ sym (read-same script p w w' n [] sends [] c
        (λ (z : Node). begin z.stage (is_some (get_named z.deeds m)) (comes_to script w' m y))
        (ap (λ stage. begin stage (is_some (get_named n.deeds m)) (comes_to script w' m y)) same-caller.stage
        ∙ ap (λ deeds. begin (stage_of w p) (is_some (get_named deeds m)) (comes_to script w' m y)) o.deeds) y)

    name-seen-with-news : SameName news_sight (name_sight script w' [] moved m)
    name-seen-with-news =
        record {
          place = sym (ap (λ d. place_of d m) same-directory-now);
          maker = sym (ap (λ d. maker d m) same-directory-now);
          stays = λ y. sym (ap (λ d. stays d y) same-directory-now);
          used = refl;
          part = refl;
          body = refl;
          deed = refl;
          held = λ y. sym (read-same script p w w' n [] sends [] c (λ (z : Node). get_named z.deeds m)
              (ap (λ deeds. get_named deeds m) o.deeds) y);
          brought = λ t q. sym (made-same script p w w' n [] sends [] c (λ t q fs. filter (brings m) fs)
              (λ t q. filter-is-list-map (brings m)) tt (k.no_deed, tt) t q);
          kept = λ pid. sym (ap (λ d. filter (is_parcel_with m) (held_for d (Proc pid))) same-directory-now);
          hand = refl;
          begins = begins-same;
          steps = λ y. sym (only-stayed script p w w' n [] sends [] c (λ t q fs. plays used calls-now m fs)
              (λ t q. flat_map-is-list-map _) (k.no_steps, tt) y 1
              ∙ steps-now used m y
              ∙ stayed script p w w' n [] sends [] c (λ t q fs. plays used b.call m fs) (λ t q. flat_map-is-list-map _)
              tt
              y 1);
          ranges = λ y. sym (only-stayed script p w w' n [] sends [] c
              (λ t q fs. flat_map (range_steps_of used calls-now m) fs) (λ t q. flat_map-is-list-map _)
              (k.no_ranges, tt)
              y 1
              ∙ ranges-now used m y
              ∙ stayed script p w w' n [] sends [] c (λ t q fs. flat_map (range_steps_of used b.call m) fs)
              (λ t q. flat_map-is-list-map _) tt y 1);
          placed = λ y. sym (made-same script p w w' n [] sends [] c (λ t q fs. placed_in m fs)
              (λ t q. flat_map-is-list-map _) tt (k.no_place, tt) 1 y);
          news = λ y. refl;
        }

    abbrev made : ℕ → Bool
    made y = is_used_name b.kernel m && is_maker (maker (directory_of w) m) y

    -- the news to the leader from each node: what was there, and behind it the frame's
    pub news-now : (y : ℕ) → (name_sight script w' [] moved m).news y
        ≡ (name_sight script w hand b m).news y ++ news m (made y) (sent p sends 1 y)
    news-now y =
        ap (λ d. news m (is_used_name b.kernel m && is_maker (maker d m) y) (frames_to w' 1 y)) same-directory-now
        ∙ made-after script p w w' n [] sends [] c
        (λ t q fs. news m (is_used_name b.kernel m && is_maker (maker (directory_of w) m) q) fs)
        (λ t q. flat_map-is-list-map _) 1 y
        ∙ ap (λ ns. ns ++ news m (made y) (sent p sends 1 y))
        (stayed script p w w' n [] sends [] c
        (λ t q fs. news m (is_used_name b.kernel m && is_maker (maker (directory_of w) m) q) fs)
        (λ t q. flat_map-is-list-map _) tt 1 y)

    -- All holds of it where what needs the place finds it.
    pub name-with-news : ((q : ℕ) → 2 ≤ q
        → finds_place (is_some (place_of (directory_of w) m)) ((name_sight script w' [] moved m).news q) ≡ true)
        → NameHolds script b.pids (is_born_in w') m (name_sight script w' [] moved m)
    name-with-news found =
        name-stays script b.pids (is_born_in w) (is_born_in w') m _ _ more name-seen-with-news
        (record {
          parts = old.parts;
          callers = old.callers;
          made = old.made;
          place_fits = old.place_fits;
          tables = old.tables;
          streams = old.streams;
          kept = old.kept;
          in_hand = old.in_hand;
          known = old.known;
          believed = old.believed;
          plays = old.plays;
          leader = old.leader;
          told = old.told;
          found = found;
          unplaced = old.unplaced;
          ranged = old.ranged;
          leased = old.leased;
          bound = old.bound;
          items = old.items;
        })
      where
        old : NameHolds script b.pids (is_born_in w) m (name_sight script w hand b m)
        old = holds.names m
