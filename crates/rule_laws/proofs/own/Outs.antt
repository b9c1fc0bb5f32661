-- A node starts a call of its process that others carry out, or that needs a number first: the call goes out in one
-- frame.
use Rattle.std.proofs.Common.{◌≡◌, ◌≢◌, ℕ, ◌+◌, ◌≤◌, Bool, true, false, ◌&&◌, cond, if◌then◌else◌, List, [], ◌∷◌, ◌++◌, filter, nat_eq, Contains, Some, refl, ap, sym, subst, ◌∙◌, inl, inr, append-nil, arith}
use Rattle.std.proofs.lemmas.Bool.{cases_eq, eq-eqb, eqb-true, ne_eqb}
use Rattle.pico_base.specs.declared.call.Call.{Call}
use Rattle.pico_base.specs.declared.numbers.Kind.{Kind}
use Rattle.pico_base.specs.declared.numbers.Name.{Name}
use Rattle.pico_base.specs.declared.script.Event.TheVariants as events
use Rattle.pico_base.specs.declared.script.Script.{Script}
use Rattle.pico_base.specs.Home.{home_of}
use Rattle.rpc_frame.specs.declared.asked.Asked.{Asked}
use Rattle.rpc_frame.specs.declared.frame.Frame.{Frame}
use Rattle.node_model.specs.declared.held.Held.TheVariants.{Request}
use Rattle.node_model.specs.Cache.{Cache}
use Rattle.node_model.specs.Caller.{Caller, start_call}
use Rattle.node_model.specs.Directory.{Directory, held_for}
use Rattle.node_model.specs.Kinds.{for_kind}
use Rattle.node_model.specs.Serving.{waiting_as}
use Rattle.waiting_model.specs.Kernel.{living_at}
use Rattle.waiting_model.specs.Marks.{Alive}
use Rattle.world_model.specs.Node.{Node, Stage, Living, Left}
use Rattle.world_model.specs.Starting.{run}
use Rattle.world_model.specs.Step.{Step}
use Rattle.world_model.specs.World.{World, node_count, world_after, is_checkpoint}
use Rattle.world_laws.specs.Places.{Beside, CallPlace, call_in}
use Rattle.world_laws.specs.Sights.{node_of, directory_of, is_born_in}
use Rattle.world_laws.specs.Names.{NameHolds, name_sight}
use Rattle.world_laws.specs.Callers.{CallHolds, CallSight, HasCall, IsBetween, IsSoFar, IsToBeMade, asked_of, call_sight, frame_at, is_about, is_at_work, is_end_place, is_held_at, is_in_hand, is_in_stream, is_waiting_at, is_item_about, lease_is_over, may_be_in, only_if}
use Rattle.world_laws.specs.Cancels.{CancelHolds, Nothing, cancel_sight, is_cancel_of, is_held_cancel_of}
use Rattle.world_laws.specs.Wholes.{HasMarks, under_way_at}
use Rattle.world_laws.specs.Families.{HoldsIn, NodeHolds}
use Rattle.world_laws.specs.Invariant.{Holds, MayBe}
use Rattle.world_laws.specs.Ranges.{FewRanges, KindHolds, has_lease, kind_sight, lease_in}
use Rattle.world_laws.proofs.Changes.{Changes, filter-is-list-map, frames_if, made-after, read-same, sent, stayed}
use Rattle.world_laws.proofs.Frames.{concerns, is_plain}
use Rattle.world_laws.proofs.LeftAlone.{LeavesName, few-still, kind-left-alone, name-left-alone, same-directory}
use Rattle.world_laws.proofs.Sends.{frame_if}
use Rattle.world_laws.proofs.Stays.{IsMore, SameCall, call-stays, kind-stays, name-stays}
use Rattle.world_laws.proofs.Steps.{KeepsAs, changes-by-run, run-steps}
use Rattle.world_laws.proofs.Wholes.{LeavesWhole, is_to_be_made, marks-of-others, whole-left-alone}
use Rattle.rule_laws.proofs.CallMoves.{IsCallMove, cancel-if-same, call-move-keeps, move-born, ranges-still, same-but-call, steps-still}
use Rattle.rule_laws.proofs.own.Runs.{Starts}
use Rattle.rule_laws.proofs.own.Starting.{cancel-started, marks-started}

-- the call as it is asked for
abbrev pub asked_now : Node → Call → Asked
asked_now n call = record { caller = n.number; ticket = n.caller.ticket + 1; pid = n.pid; call = call }

-- The frame, to this node, is where the call is now; it is about no name, no end and no birth, brings no numbers, and
-- is
-- no withdrawal.
pub record GoesOut (script : Script) (w : World) (p : ℕ) (call : Call) (place : CallPlace) (to : ℕ) (frame : Frame)
    (cache : Cache) : Type 0 where
  pub low : 1 ≤ to
  pub high : to ≤ node_count script
  pub other : to ≢ p
  pub frame_is : frame_at place (asked_now (node_of w p) call) ≡ frame
  pub in_stream : (t q : ℕ) → is_in_stream place p t q ≡ (nat_eq t to && nat_eq q p)
  pub not_held : (name : Name) → is_held_at place name ≡ false
  pub not_in_hand : is_in_hand place ≡ false
  pub not_waiting : (name : Name) → is_waiting_at place name ≡ false
  pub not_made : is_to_be_made place ≡ true
  pub no_end : is_end_place place ≡ false
  pub no_lease_place : (kind : Kind) → has_lease kind place ≡ false
  pub about : is_about p to p frame ≡ true
  pub about_none : (y : ℕ) → y ≢ p → is_about y to p frame ≡ false
  pub no_cancel : (y : ℕ) → is_cancel_of y frame ≡ false
  pub plain : is_plain frame ≡ true
  pub no_birth : is_checkpoint frame ≡ false
  pub no_lease : (kind : Kind) → lease_in kind frame ≡ []
  pub no_name : (name : Name) → concerns name frame ≡ false
  pub may_be : MayBe script (is_born_in w) to p frame
  pub home : may_be_in place (home_of (node_of w p).pid call) call ≡ true
  pub used_up : lease_is_over place (node_of w p).leases
  pub between : IsBetween p (is_born_in w) place
  pub to_be_made : (x : CallSight) → IsToBeMade script p x call → IsSoFar script p x call place
  pub owners : (name : Name) (owner : ℕ) → Contains cache (name, owner) → (is_born_in w owner ≡ true) × (owner ≢ p)

module _ (script : Script) (w : World) (b : Beside) (holds : Holds script w [] b) (p : ℕ) (low : 1 ≤ p)
    (high : p ≤ node_count script) (s : Starts script w b p) (place : CallPlace) (to : ℕ) (frame : Frame)
    (cache : Cache) (g : GoesOut script w p s.call place to frame cache) where
  abbrev n : Node
  n = node_of w p

  abbrev call : Call
  call = s.call

  abbrev x : CallSight
  x = call_sight w [] b p

  abbrev started : Caller
  started = start_call n.caller call

  abbrev after-node : Node
  after-node = record n { caller = started; cache = cache }

  abbrev sends : List (ℕ × Frame)
  sends = (to, frame) ∷ []

  abbrev after : Step
  after = record { node = after-node; entries = []; sends = sends; strikes = false }

  abbrev next : World
  next = world_after w p after

  abbrev calls-now : ℕ → CallPlace
  calls-now = call_in b.call p place

  abbrev moved : Beside
  moved = record b { call = calls-now }

  changes : Changes script p w next after-node [] sends []
  changes = changes-by-run script w holds.shape p after low high (record { low = g.low; high = g.high }, tt)

  same-there : directory_of next ≡ directory_of w
  same-there = read-same script p w next after-node [] sends [] changes (λ (m : Node). m.leader.directory) refl 1

  node-holds : NodeHolds script b.pids (is_born_in w) p n
  node-holds = holds.nodes p low high

  node-now : NodeHolds script b.pids (is_born_in w) p after-node
  node-now =
      record {
        number = node-holds.number;
        holds = subst (λ (stage : Stage). HoldsIn p after-node stage) (sym s.stage)
            (record { row = s.row; here = s.has_row });
        birth = node-holds.birth;
        first = node-holds.first;
        others = node-holds.others;
        rows = node-holds.rows;
        owners = g.owners;
      }

  -- the call was nowhere
  left-alone : (t q : ℕ) → filter (is_about p t q) (changes.left t q) ≡ []
  left-alone t q =
      stayed script p w next after-node [] sends [] changes (λ t q fs. filter (is_about p t q) fs)
      (λ t q. filter-is-list-map (is_about p t q)) tt t q
      ∙ s.nowhere.in_streams t q

  own-marks : (a : Alive) → living_at b.whole (b.pids p) ≡ Some a → HasMarks (calls-now p) (under_way_at next p) a
  own-marks a lives =
      subst (λ o. HasMarks (calls-now p) o a) (sym (ap (λ (m : Node). m.caller.under_way) changes.here))
      (subst (λ c. HasMarks c (Some call) a) (sym (ap (λ t. if t then place else b.call p) (eq-eqb p p refl)))
      (marks-started script w b holds p low high s place a g.not_made lives))

  leaves-whole : LeavesWhole w next b moved
  leaves-whole =
      record {
        journal_is = changes.journal ∙ append-nil w.journal;
        lines_are = refl;
        kernel_is = refl;
        whole_is = refl;
        pids_are = λ y. refl;
        bodies_are = λ name. refl;
        marks_still = λ y a lives. marks-of-others w next b.call calls-now p
            (λ y d. ap (λ t. if t then place else b.call y) (ne_eqb p y (λ e. d (sym e))))
            (λ y d. ap (λ (m : Node). m.caller.under_way) (changes.others y d)) y a
            (λ e marks. own-marks a (subst (λ z. living_at b.whole (b.pids z) ≡ Some a) e lives));
      }

  move : IsCallMove script w next [] [] Nothing Nothing b moved p after-node [] sends p
  move =
      record {
        stage = refl;
        under_way = λ left. absurd (left-not (sym s.stage ∙ left));
        own = λ d. absurd (d refl);
        queue_keys = refl;
        set_keys = refl;
        directory = same-but-call p (directory_of w) (directory_of next) same-there holds.leading;
        node = node-now;
        deeds = λ q. refl;
        calls = λ y d. ap (λ t. if t then place else b.call y) (ne_eqb p y (λ e. d (sym e)));
        hand_of_others = λ y d. refl;
        parcels_at_hand = λ parcel there. there;
        whole = whole-left-alone w next b moved Nothing leaves-whole;
        waiters_of_others = λ y d name. refl;
        cancel_of_others = λ y d. refl;
        owed_of_others = λ y d same h. cancel-if-same y Nothing _ _ refl same h;
        plain_taken = tt;
        plain_sent = (g.plain, tt);
        no_birth_taken = tt;
        no_birth_sent = (g.no_birth, tt);
        of_no_other = λ y d. tt;
        sent_of_no_other = λ y d. (g.about_none y d, tt);
        no_cancel_taken = λ y d. tt;
        no_cancel_sent = λ y d. (g.no_cancel y, tt);
        may_be_sent = (g.may_be, tt);
        to_others = (g.other, tt);
      }
    where
      left-not : Living ≡ Left → ⊥
      left-not h = cc

  more : IsMore (is_born_in w) (is_born_in next)
  more = move-born script w next [] [] Nothing Nothing b moved p after-node [] sends [] p low high holds changes move

  -- the call

  abbrev out : CallSight
  out =
      record x {
        caller = started;
        call = place;
        frames_about = λ t q. only_if (nat_eq t to && nat_eq q p) frame;
      }

  is-to-be-made : IsToBeMade script p out call
  is-to-be-made =
      record {
        there = s.free.there;
        due = s.due_now.due;
        alive = s.alive;
        lives = s.lives;
        may = s.due_now.may;
      }

  has-call : HasCall script p (is_born_in w) out call
  has-call =
      record {
        just_there = record {
          in_streams = λ t q. ap (λ f. only_if (nat_eq t to && nat_eq q p) f) (sym g.frame_is)
              ∙ ap (λ u. only_if u (frame_at place (asked_of out call))) (sym (g.in_stream t q));
          held_for_names = λ name. s.nowhere.held_for_names name
              ∙ ap (λ u. only_if u (Request (asked_of out call))) (sym (g.not_held name));
          in_hand = s.nowhere.in_hand ∙ ap (λ u. only_if u (Request (asked_of out call))) (sym g.not_in_hand);
          waiting = λ name. s.nowhere.waiting name
              ∙ ap (λ u. only_if u (waiting_as (asked_of out call))) (sym (g.not_waiting name));
        };
        home = g.home;
        used_up = g.used_up;
        between = g.between;
        so_far = g.to_be_made out is-to-be-made;
        at_work = ap is_at_work s.stage;
        started = omega arith;
        tickets = let few = s.free.tickets in omega (arith, few);
        try_left = s.free.try_left;
      }

  call-out : CallHolds script p (is_born_in w) out
  call-out =
      let old : CallHolds script p (is_born_in w) x = holds.calls p low high
      in record {
        call = has-call;
        ends = g.no_end ∙ sym (ap is_end_place s.idle) ∙ old.ends;
      }

  sent-one : (t q : ℕ) (u v : Bool) → nat_eq t to ≡ u → nat_eq q p ≡ v
      → filter (is_about p t q) (frames_if v (frame_if u frame ++ [])) ≡ only_if (u && v) frame
  sent-one t q true true e f =
      ap (λ z. cond z (frame ∷ []) [])
      (ap (λ y. is_about p y q frame) (eqb-true t to e) ∙ ap (λ y. is_about p to y frame) (eqb-true q p f) ∙ g.about)
  sent-one t q true false e f = refl
  sent-one t q false true e f = refl
  sent-one t q false false e f = refl

  sight-now : SameCall out (call_sight next [] moved p)
  sight-now =
      record {
        number = sym (ap (λ (m : Node). m.number) changes.here);
        pid = sym (ap (λ (m : Node). m.pid) changes.here);
        stage = sym (ap (λ (m : Node). m.stage) changes.here);
        caller = sym (ap (λ (m : Node). m.caller) changes.here);
        leases = sym (ap (λ (m : Node). m.leases) changes.here);
        place = refl;
        alive = refl;
        call = sym (ap (λ t. if t then place else b.call p) (eq-eqb p p refl));
        frames_about = λ t q. sym (made-after script p w next after-node [] sends [] changes
            (λ t q fs. filter (is_about p t q) fs) (λ t q. filter-is-list-map (is_about p t q)) t q
            ∙ ap (λ fs. fs ++ filter (is_about p t q) (sent p sends t q)) (left-alone t q)
            ∙ sent-one t q (nat_eq t to) (nat_eq q p) refl refl);
        held = λ m. sym (ap (λ (d : Directory). filter (is_item_about p) (held_for d m)) same-there);
        hand = refl;
        waiters = λ m. refl;
      }

  call-now : CallHolds script p (is_born_in next) (call_sight next [] moved p)
  call-now = call-stays script p (is_born_in w) (is_born_in next) _ _ more sight-now call-out

  cancel-now : CancelHolds p Nothing (cancel_sight next [] moved p)
  cancel-now =
      cancel-started script w b holds p low high s next [] after-node [] sends [] changes moved refl refl refl refl refl
      refl
      (λ m. ap (λ (d : Directory). filter (is_held_cancel_of p) (held_for d m)) same-there) refl tt (g.no_cancel p, tt)
      (is_born_in next) call-now

  -- names and numbers

  leaves-name : (m : Name) → LeavesName w next [] [] b moved p after-node changes.left m
  leaves-name m =
      record {
        directory = same-directory (directory_of w) (directory_of next) same-there m;
        used_is = refl;
        part_is = refl;
        body_is = refl;
        deed_is = refl;
        held_is = refl;
        begins_is = λ holds_it comes. refl;
        hand_is = refl;
        steps_are = λ used y. steps-still script w next [] [] Nothing Nothing b moved p after-node [] sends [] p low
            high holds
            changes move used y (left-alone y 1) m;
        ranges_are = λ used y. ranges-still script w next [] [] Nothing Nothing b moved p after-node [] sends [] p low
            high holds
            changes move used y (left-alone y 1) m;
      }

  names-now : (m : Name) → NameHolds script b.pids (is_born_in next) m (name_sight script next [] moved m)
  names-now m =
      name-stays script b.pids (is_born_in w) (is_born_in next) m _ _ more
      (name-left-alone script p w next after-node [] sends [] changes [] [] b moved m (leaves-name m) tt
      (g.no_name m, tt)) (holds.names m)

  numbers-now : (kind : Kind) → KindHolds (is_born_in next) (kind_sight next b.kernel kind)
  numbers-now kind =
      kind-stays (is_born_in w) (is_born_in next) _ _ more
      (kind-left-alone script p w next after-node [] sends [] changes b.kernel b.kernel kind (λ number. refl) refl
      (ap (λ (d : Directory). for_kind d.ranges kind) same-there) tt (g.no_lease kind, tt)) (holds.kinds kind)

  lease-same : (kind : Kind) (y : ℕ) → has_lease kind (calls-now y) ≡ has_lease kind (b.call y)
  lease-same kind y =
      elim (cases_eq p y) [
        | inl e ↦
            ap (λ t. has_lease kind (if t then place else b.call y)) (eq-eqb p y e) ∙ g.no_lease_place kind
            ∙ sym (subst (λ z. has_lease kind (b.call z) ≡ false) e (ap (has_lease kind) s.idle))
        | inr d ↦ ap (λ t. has_lease kind (if t then place else b.call y)) (ne_eqb p y d)
      ]

  few-now : (kind : Kind) → FewRanges script next calls-now kind
  few-now kind =
      few-still script p w next after-node [] sends [] changes b.call calls-now kind refl
      (ap (λ (d : Directory). for_kind d.ranges kind) same-there) (lease-same kind) (holds.few kind)

  -- The call is on its way in the frame, where this is what the node does.
  pub out-keeps : run script n ≡ Some after → KeepsAs script w (events.Run p) moved
  out-keeps rule =
      record {
        next = next;
        is_step = run-steps script w p after holds.shape low high rule;
        holds = call-move-keeps script w next [] [] Nothing Nothing b moved p after-node [] sends [] p low high holds
            changes
            move call-now cancel-now names-now numbers-now few-now;
      }
