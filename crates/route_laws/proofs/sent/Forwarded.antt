-- A node other than the leader takes a Forward: its call is in hand. Sent by the name's place it finds the deed
-- there; sent by the range of the name's number it is at who has that range.
use Rattle.std.proofs.Common.{◌≡◌, ◌≢◌, ℕ, ◌≤◌, Bool, true, false, ◌&&◌, cond, List, [], ◌∷◌, ◌++◌, filter, flat_map, nat_eq, Some, refl, ap, sym, subst, ◌∙◌, inl, inr, arith, append-nil}
use Rattle.std.proofs.lemmas.Bool.{eq-eqb, ne_eqb, false≢true}
use Rattle.pico_base.specs.declared.call.Call.{Call}
use Rattle.pico_base.specs.declared.call.Home.{Home}
use Rattle.pico_base.specs.declared.call.Home.TheVariants as homes
use Rattle.pico_base.specs.declared.numbers.Kind.{Kind}
use Rattle.pico_base.specs.declared.numbers.Name.{Name}
use Rattle.pico_base.specs.declared.script.Script.{Script}
use Rattle.pico_base.specs.Home.{home_of}
use Rattle.rpc_frame.specs.declared.asked.Asked.{Asked}
use Rattle.rpc_frame.specs.declared.frame.Frame.{Frame}
use Rattle.rpc_frame.specs.declared.frame.Frame.TheVariants as frames
use Rattle.waiting_model.specs.Calls.{is_withdrawal}
use Rattle.entry_laws.specs.Entering.{is_used_name}
use Rattle.node_model.specs.declared.held.Held.{Held}
use Rattle.node_model.specs.Kinds.{is_object}
use Rattle.node_model.specs.declared.held.Held.TheVariants.{Request}
use Rattle.node_model.specs.Directory.{maker}
use Rattle.world_model.specs.Calls.{is_for_others, is_on_name, is_on_name_or_removal}
use Rattle.world_model.specs.Step.{step_to}
use Rattle.world_model.specs.World.{World, node_count}
use Rattle.world_laws.specs.Places.{InTable, IsInHand, Beside, call_in}
use Rattle.world_laws.specs.Sights.{node_of, directory_of, frames_to, is_born_in}
use Rattle.world_laws.specs.Plays.{IsNeeded, PlayStep, is_call_on, is_lasting, needs_by, needs_deed, plays, steps_if}
use Rattle.world_laws.specs.Names.{IsSentThere, NameHolds, RangeStep, is_sent_by_range, leases_first, name_sight, range_steps_if, range_steps_of}
use Rattle.world_laws.specs.Callers.{CallHolds, CallSight, HasCall, IsJustThere, IsSoFar, IsToBeMade, asked_of, call_sight, frame_at, is_about, is_end_place, is_held_at, is_in_stream, is_waiting_at, may_be_in, only_if}
use Rattle.world_laws.specs.Invariant.{Holds, HoldsOwing}
use Rattle.world_laws.specs.Wholes.{HasWhole}
use Rattle.world_laws.proofs.Cancels.{may_be_withdrawn}
use Rattle.world_laws.proofs.Wholes.{is_to_be_made}
use Rattle.world_laws.specs.Ranges.{has_lease}
use Rattle.world_laws.proofs.Changes.{Changes, flat_map-is-list-map}
use Rattle.world_laws.proofs.Heads.{head-from-another, head-is, others-stay, rest-stays}
use Rattle.world_laws.proofs.Named.{same-name}
use Rattle.world_laws.proofs.Steps.{Heads, changes-by-take}
use Rattle.rule_laws.proofs.Answers.{Found, find}
use Rattle.rule_laws.proofs.CallFrames.{IsForwardOf, forward-of}
use Rattle.route_laws.proofs.hand.Asks.{NeverWithdraws}
use Rattle.route_laws.proofs.hand.Forwards.{sent_as}
use Rattle.route_laws.proofs.hand.HandMoves.{IsCallOf}
use Rattle.route_laws.proofs.hand.Routes.{IsOn}
use Rattle.route_laws.proofs.sent.Bounced.{call-on}
use Rattle.route_laws.proofs.sent.Brought.{IsBrought, brought_world, brought-changes, brought-keeps, brought-nodes, brought-whole, cancel-brought, name-brought, name-not-brought, waking_if}
use Rattle.route_laws.proofs.sent.InHand.{HasInHand}
use Rattle.route_laws.proofs.sent.Needed.{HasHead, has_no_lease, name-head-taken, needed-begins, none-leased-behind, sent-to-maker}
use Rattle.route_laws.proofs.sent.NoCheckpoint.{begins-in-table}

-- ---- where a Forward's call is

sent-no-end : (by : Bool) (h : ℕ) → is_end_place (sent_as by h) ≡ false
sent-no-end true h = refl
sent-no-end false h = refl

sent-no-lease : (by : Bool) (h : ℕ) (kind : Kind) → has_lease kind (sent_as by h) ≡ false
sent-no-lease true h kind = refl
sent-no-lease false h kind = refl

sent-not-held : (by : Bool) (h : ℕ) (name : Name) → is_held_at (sent_as by h) name ≡ false
sent-not-held true h name = refl
sent-not-held false h name = refl

sent-not-waiting : (by : Bool) (h : ℕ) (name : Name) → is_waiting_at (sent_as by h) name ≡ false
sent-not-waiting true h name = refl
sent-not-waiting false h name = refl

sent-made-yet : (by : Bool) (h : ℕ) → is_to_be_made (sent_as by h) ≡ true
sent-made-yet true h = refl
sent-made-yet false h = refl

sent-there : (by : Bool) (h : ℕ) (asked : Asked) (to sender : ℕ)
    → only_if (is_in_stream (sent_as by h) asked.caller to sender) (frame_at (sent_as by h) asked)
    ≡ only_if (nat_eq to h && nat_eq sender 1) (frames.Forward asked)
sent-there true h asked to sender = refl
sent-there false h asked to sender = refl

sent-not-made : (script : Script) (p : ℕ) (x : CallSight) (call : Call) (by : Bool) (h : ℕ)
    → IsSoFar script p x call (sent_as by h) → IsToBeMade script p x call
sent-not-made script p x call true h m = m
sent-not-made script p x call false h m = m

-- by place it is on a name, and by range on a name or a removal
abbrev pub is_right_home : Bool → Home → Bool
is_right_home true home = is_on_name home
is_right_home false home = is_on_name_or_removal home

right-home : (by : Bool) (h : ℕ) (home : Home) (call : Call) → may_be_in (sent_as by h) home call ≡ true
    → is_right_home by home ≡ true
right-home true h home call e = e
right-home false h home call e = e

for-others : (by : Bool) (home : Home) → is_right_home by home ≡ true → is_for_others home ≡ true
for-others by (homes.At name) e = refl
for-others by (homes.Removal name) e = refl
for-others true homes.Own e = absurd (false≢true e)
for-others true homes.Keys e = absurd (false≢true e)
for-others true homes.Parent e = absurd (false≢true e)
for-others false homes.Own e = absurd (false≢true e)
for-others false homes.Keys e = absurd (false≢true e)
for-others false homes.Parent e = absurd (false≢true e)

-- sent by place, it needs the deed; by range, where its name is used, and it is no removal on a queue or a set
needed-placed : (lasting : Bool) (h : ℕ) → needs_by lasting (sent_as true h) ≡ true
needed-placed lasting h = refl

needed-ranged : (used object removes : Bool) (h : ℕ) → used ≡ true → object ≡ true → removes ≡ true
    → needs_by (used && (object && removes)) (sent_as false h) ≡ true
needed-ranged used object removes h a c e = rw (a, c, e) refl

-- ---- the event

module _ (script : Script) (w : World) (b : Beside) (holds : Holds script w [] b) (p : ℕ) (asked : Asked)
    (rest : List Frame) (h : Heads script w p 1 (frames.Forward asked) rest) (low : 1 ≤ asked.caller)
    (high : asked.caller ≤ node_count script) where
  abbrev frame : Frame
  frame = frames.Forward asked

  abbrev caller : ℕ
  caller = asked.caller

  abbrev x : CallSight
  x = call_sight w [] b caller

  -- it isn't the leader that takes it
  pub not-leader : p ≢ 1
  not-leader e = head-from-another script w p 1 frame rest h (is_born_in w) holds.frames_fit (sym e)

  low-node : 2 ≤ p
  low-node = let low_p = h.low in let other = not-leader in omega (arith, low_p, other)

  pub call-holds : CallHolds script caller (is_born_in w) x
  call-holds = holds.calls caller low high

  about-first : x.frames_about p 1 ≡ frame ∷ filter (is_about caller p 1) rest
  about-first =
      ap (filter (is_about caller p 1)) (head-is script w p 1 frame rest h)
      ∙ ap (λ t. cond t (frame ∷ filter (is_about caller p 1) rest) (filter (is_about caller p 1) rest))
      (eq-eqb caller caller refl)

  pub found : Found script caller (is_born_in w) x
  found =
      find script caller (is_born_in w) x p 1 frame (filter (is_about caller p 1) rest) about-first x.caller.under_way
      refl call-holds.call

  has : HasCall script caller (is_born_in w) x found.call
  has = found.has

  just-there : IsJustThere caller x (asked_of x found.call)
  just-there = has.just_there

  is-forward : IsForwardOf x.call (asked_of x found.call) p asked (filter (is_about caller p 1) rest)
  is-forward =
      forward-of (asked_of x found.call) caller p 1 asked (filter (is_about caller p 1) rest) x.call
      (sym (just-there.in_streams p 1) ∙ about-first)

  pub asked-found : asked ≡ asked_of x found.call
  asked-found = is-forward.asked_is

  -- the call was sent by the name's place, or by the range of its number
  pub sent-by : (by : Bool) × (b.call caller ≡ sent_as by p)
  sent-by = elim is-forward.place_is [ inl e ↦ (true, e) | inr e ↦ (false, e) ]

  module _ (by : Bool) (at : b.call caller ≡ sent_as by p) where
    pub made-later : IsToBeMade script caller x found.call
    made-later =
        sent-not-made script caller x found.call by p
        (subst (λ y. IsSoFar script caller x found.call y) at has.so_far)

    -- it withdraws nothing
    pub withdraws-not : NeverWithdraws script → is_withdrawal asked.call ≡ false
    withdraws-not never =
        ap (λ (a : Asked). is_withdrawal a.call) is-forward.asked_is ∙ never caller x.caller found.call made-later.due

    -- it is on a name, and no removal where it was sent by place
    pub on-right-home : is_right_home by (home_of asked.pid asked.call) ≡ true
    on-right-home =
        subst (λ (a : Asked). is_right_home by (home_of a.pid a.call) ≡ true) (sym is-forward.asked_is)
        (right-home by p (home_of x.pid found.call) found.call
        (sym (ap (λ y. may_be_in y (home_of x.pid found.call) found.call) at) ∙ has.home))

    -- its withdrawal may be seen by who sees that of the call that is under way
    pub same-call : (may_be_withdrawn asked.pid asked.call) ≡ may_be_withdrawn x.pid found.call
    same-call = ap (λ (a : Asked). may_be_withdrawn a.pid a.call) is-forward.asked_is

    -- ---- what is left for names

    abbrev left : ℕ → ℕ → List Frame
    left = (changes-by-take script w holds.shape p 1 frame rest (step_to (node_of w p)) h tt).left

    abbrev steps-left : Name → ℕ → List PlayStep
    steps-left m y = plays (is_used_name b.kernel m) b.call m (left y 1)

    abbrev ranges-left : Name → ℕ → List RangeStep
    ranges-left m y = flat_map (range_steps_of (is_used_name b.kernel m) b.call m) (left y 1)

    abbrev needs : Name → Bool
    needs m = needs_deed (is_used_name b.kernel m) b.call m asked

    abbrev sent : Name → Bool
    sent m = is_call_on m asked && is_sent_by_range (b.call caller)

    head-of : (m : Name) → HasHead (name_sight script w [] b m) p (needs m) (sent m) (steps-left m) (ranges-left m)
    head-of m =
        record {
          steps_here = rest-stays script p 1 w _ _ frame [] [] c (λ t s fs. plays (is_used_name b.kernel m) b.call m fs)
              (λ t s. flat_map-is-list-map _)
              ∙ ap (λ ss. ss ++ steps-left m p) (append-nil (steps_if (needs m) IsNeeded));
          steps_there = λ y d. others-stay script p 1 w _ _ frame [] [] c
              (λ t s fs. plays (is_used_name b.kernel m) b.call m fs)
              (λ t s. flat_map-is-list-map _) y 1 (inl d);
          ranges_here = rest-stays script p 1 w _ _ frame [] [] c
              (λ t s fs. flat_map (range_steps_of (is_used_name b.kernel m) b.call m) fs)
              (λ t s. flat_map-is-list-map _)
              ∙ ap (λ ss. ss ++ ranges-left m p) (append-nil (range_steps_if (sent m) IsSentThere));
          ranges_there = λ y d. others-stay script p 1 w _ _ frame [] [] c
              (λ t s fs. flat_map (range_steps_of (is_used_name b.kernel m) b.call m) fs)
              (λ t s. flat_map-is-list-map _) y 1 (inl d);
        }
      where
        c : Changes script p w (brought_world w p 1 rest) (node_of w p) ((1, frame) ∷ []) [] []
        c = changes-by-take script w holds.shape p 1 frame rest (step_to (node_of w p)) h tt

    abbrev moved : Beside
    moved = record b { call = call_in b.call caller IsInHand }

    abbrev hand : List Held
    hand = Request asked ∷ []

    module _ (never : NeverWithdraws script) where
      abbrev brought : IsBrought script w b p 1 frame asked
      brought =
          record {
            low = low;
            high = high;
            call = found.call;
            is = found.is;
            has = has;
            asked_is = is-forward.asked_is;
            for_others = for-others by (home_of asked.pid asked.call) on-right-home;
            to_be_made = made-later;
            is_call = withdraws-not never;
            is_made_yet = ap is_to_be_made at ∙ sent-made-yet by p;
            no_waiter = λ name. ap (λ z. is_waiting_at z name) at ∙ sent-not-waiting by p name;
            not_end = ap is_end_place at ∙ sent-no-end by p;
            no_lease = λ kind. ap (has_lease kind) at ∙ sent-no-lease by p kind;
            no_item = λ name. ap (λ z. is_held_at z name) at ∙ sent-not-held by p name;
            there = λ to sender. ap (λ z. only_if (is_in_stream z caller to sender) (frame_at z asked)) at
                ∙ sent-there by p asked to sender;
            about = eq-eqb caller caller refl;
            of_no_other = λ y d. ne_eqb caller y (λ e. d (sym e));
            plain = refl;
            no_birth = refl;
            no_cancel = λ y. refl;
            brings_no_lease = λ kind. refl;
          }

      -- no node changes
      pub same-nodes : (y : ℕ) → node_of (brought_world w p 1 rest) y ≡ node_of w y
      same-nodes y = brought-nodes script w b holds p 1 frame rest h asked brought true y

      -- ---- names

      names : (waking : Bool) (m : Name) (t : Bool) → is_call_on m asked ≡ t
          → NameHolds script b.pids (is_born_in (brought_world w p 1 rest)) m
          (name_sight script (brought_world w p 1 rest) hand moved m)
      names waking m false e = name-not-brought script w b holds p 1 frame rest h asked brought waking m e
      names waking m true e =
          name-brought script w b holds p 1 frame rest h asked brought waking m
          (record { no_deed = refl; no_checkpoint = refl; no_place = refl; no_news = λ made. refl })
          (name-head-taken script b.pids (is_born_in w) m (name_sight script w [] b m) (holds.names m) p low-node
          (needs m) (sent m) (steps-left m) (ranges-left m) (head-of m))

      pub asks-it : IsCallOf script asked
      asks-it = record { low = low; high = high; is_call = withdraws-not never }

      -- The call is in hand, before withdrawals are looked at,
      pub forward-waking : HoldsOwing script (brought_world w p 1 rest) hand (waking_if true) moved
      forward-waking =
          brought-keeps script w b holds p 1 frame rest h asked brought true tt
          (λ m. names true m (is_call_on m asked) refl)

      pub forward-whole : HasWhole (brought_world w p 1 rest) moved
      forward-whole = brought-whole script w b holds p 1 frame rest h asked brought true

      pub forward-changes : Changes script p w (brought_world w p 1 rest) (node_of w p) ((1, frame) ∷ []) [] []
      forward-changes = brought-changes script w b holds p 1 frame rest h asked brought true

      -- and where it never waits it has none.
      pub forward-in-hand : may_be_withdrawn asked.pid asked.call ≡ false
          → HasInHand script (brought_world w p 1 rest) moved p asked
      forward-in-hand cannot =
          record {
            low_node = h.low;
            high_node = h.high;
            asks = asks-it;
            holds = brought-keeps script w b holds p 1 frame rest h asked brought false
                (cancel-brought script w b holds p 1 frame rest h asked brought false (sym same-call ∙ cannot) false)
                (λ m. names false m (is_call_on m asked) refl);
          }

    -- ---- its name

    module _ (name : Name) (on : IsOn name (home_of asked.pid asked.call)) where
      on-it : is_call_on name asked ≡ true
      on-it = call-on name (home_of asked.pid asked.call) on name ∙ same-name name name refl

      finds-needed : needs_by (is_used_name b.kernel name && (is_object name && is_lasting asked)) (sent_as by p) ≡ true
          → is_born_in w p ≡ true → b.deed name ≡ InTable p
      finds-needed needed born =
          begins-in-table script w [] b holds p born name
          (needed-begins script b.pids (is_born_in w) name (name_sight script w [] b name) (holds.names name) p low-node
          (needs name) (sent name) (steps-left name) (ranges-left name) (head-of name)
          (ap (λ t. t && needs_by (is_used_name b.kernel name && (is_object name && is_lasting asked)) (b.call caller))
          on-it
          ∙ ap (needs_by (is_used_name b.kernel name && (is_object name && is_lasting asked))) at ∙ needed))

      -- sent by place, it finds the deed in the table
      pub finds-deed : by ≡ true → is_born_in w p ≡ true → b.deed name ≡ InTable p
      finds-deed placed born =
          finds-needed
          (ap (λ t. needs_by (is_used_name b.kernel name && (is_object name && is_lasting asked)) (sent_as t p)) placed)
          born

      -- so it does where it was sent by range, and stays, on a queue or a set that is used
      pub finds-ranged : by ≡ false → is_used_name b.kernel name ≡ true → is_object name ≡ true
          → is_lasting asked ≡ true → is_born_in w p ≡ true → b.deed name ≡ InTable p
      finds-ranged ranged used object lasting born =
          finds-needed
          (ap (λ t. needs_by (is_used_name b.kernel name && (is_object name && is_lasting asked)) (sent_as t p)) ranged
          ∙ needed-ranged (is_used_name b.kernel name) (is_object name) (is_lasting asked) p used object lasting)
          born

      sent-it : by ≡ false → sent name ≡ true
      sent-it ranged =
          ap (λ t. t && is_sent_by_range (b.call caller)) on-it ∙ ap is_sent_by_range at
          ∙ ap (λ t. is_sent_by_range (sent_as t p)) ranged

      -- sent by range, it is at who has the range
      pub is-at-maker : by ≡ false → maker (directory_of w) name ≡ Some p
      is-at-maker ranged =
          sent-to-maker script b.pids (is_born_in w) name (name_sight script w [] b name) (holds.names name) p low-node
          (needs name) (sent name) (steps-left name) (ranges-left name) (head-of name) (sent-it ranged)

      -- and no lease with the number is on its way there
      pub no-lease-comes : by ≡ false
          → has_no_lease (flat_map (range_steps_of (is_used_name b.kernel name) b.call name) (frames_to w p 1)) ≡ true
      no-lease-comes ranged =
          let old : NameHolds script b.pids (is_born_in w) name (name_sight script w [] b name) = holds.names name
          in let first : flat_map (range_steps_of (is_used_name b.kernel name) b.call name) (frames_to w p 1)
          ≡ IsSentThere ∷ flat_map (range_steps_of (is_used_name b.kernel name) b.call name) rest =
          ap (flat_map (range_steps_of (is_used_name b.kernel name) b.call name)) (head-is script w p 1 frame rest h)
          ∙ ap (λ t. range_steps_if t IsSentThere ++ flat_map (range_steps_of (is_used_name b.kernel name) b.call name)
          rest) (sent-it ranged)
          in ap has_no_lease first
          ∙ none-leased-behind (flat_map (range_steps_of (is_used_name b.kernel name) b.call name) rest)
          (sym (ap leases_first first) ∙ old.leased p low-node)
