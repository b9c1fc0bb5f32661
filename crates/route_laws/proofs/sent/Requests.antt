-- A node takes a call that another node sent it as the owner of its name: it serves the call where it holds the name,
-- and else tells the caller that it doesn't own it.
use Rattle.std.proofs.Common.{◌≡◌, ◌≢◌, ℕ, Bool, true, false, ◌&&◌, not, cond, if◌then◌else◌, List, [], ◌∷◌, filter, nat_eq, Option, Some, None, is_some, refl, ap, sym, subst, ◌∙◌, inl, inr, arith, Contains, ◌⊎◌}
use Rattle.std.proofs.lemmas.Bool.{cases_eq, eqb-true, eq-eqb, ne_eqb, false≢true}
use Rattle.std.proofs.lemmas.List.Elements.{Contains-append_left, Contains-push}
use Rattle.pico_base.specs.declared.call.Call.{Call}
use Rattle.pico_base.specs.declared.call.Home.{Home}
use Rattle.pico_base.specs.declared.call.Home.TheVariants as homes
use Rattle.pico_base.specs.declared.numbers.Name.{Name}
use Rattle.pico_base.specs.declared.script.Script.{Script}
use Rattle.pico_base.specs.Home.{home_of}
use Rattle.rpc_frame.specs.declared.asked.Asked.{Asked}
use Rattle.rpc_frame.specs.declared.frame.Frame.{Frame}
use Rattle.rpc_frame.specs.declared.frame.Frame.TheVariants as frames
use Rattle.waiting_model.specs.Calls.{is_withdrawal, may_park}
use Rattle.node_model.specs.declared.held.Held.{Held}
use Rattle.node_model.specs.declared.held.Held.TheVariants.{Request}
use Rattle.node_model.specs.Directory.{Place, At, Coming, place_of}
use Rattle.world_model.specs.Calls.{is_for_others, is_on_name, requested_by, take_request}
use Rattle.world_model.specs.Node.{Node, Stage, Unborn, Living, Leaving, Left, Over, holds as holds_deed, is_born, is_unborn}
use Rattle.world_model.specs.Serving.{serve_asked}
use Rattle.world_model.specs.Step.{Step, send, step_to}
use Rattle.world_model.specs.World.{World, world_after}
use Rattle.world_laws.specs.Places.{CallPlace, InNotOwner, InTable, IsInHand, Beside, call_in}
use Rattle.world_laws.specs.Sights.{node_of, directory_of, is_born_in, is_born_stage}
use Rattle.world_laws.specs.Plays.{believed, is_there}
use Rattle.world_laws.specs.Names.{NameHolds, NameSight, held_as, maker_tells, name_sight}
use Rattle.world_laws.specs.Callers.{CallHolds, CallSight, HasCall, IsJustThere, IsSoFar, IsToBeMade, asked_of, call_sight, frame_at, is_about, is_end_place, is_held_at, is_in_stream, is_waiting_at, may_be_in, only_if}
use Rattle.world_laws.specs.Families.{NodeHolds}
use Rattle.world_laws.specs.Invariant.{Holds}
use Rattle.world_laws.specs.Ranges.{has_lease}
use Rattle.world_laws.proofs.Cancels.{may_be_withdrawn}
use Rattle.world_laws.proofs.Wholes.{is_to_be_made}
use Rattle.world_laws.proofs.Changes.{Changes}
use Rattle.world_laws.proofs.Heads.{head-from-another, head-is, head-may-be}
use Rattle.world_laws.proofs.Middles.{changes-further}
use Rattle.world_laws.proofs.NameFacts.{held-here}
use Rattle.world_laws.proofs.Steps.{Heads, world_without}
use Rattle.rule_laws.proofs.Answers.{Found, find}
use Rattle.rule_laws.proofs.CallFrames.{IsRequestOf, request-of}
use Rattle.rule_laws.proofs.own.Moved.{IsMoved, IsNotServed, is_still}
use Rattle.route_laws.specs.Ready.{HasFewNodes}
use Rattle.route_laws.specs.Watching.{WatchesAsOwner}
use Rattle.route_laws.proofs.Owed.{IsServedPlace, RuleKeeps}
use Rattle.route_laws.proofs.hand.Asks.{NeverWithdraws}
use Rattle.route_laws.proofs.hand.HandMoves.{IsCallOf}
use Rattle.route_laws.proofs.sent.Brought.{IsBrought, brought_world, brought-keeps, brought-nodes, cancel-brought, name-not-brought}
use Rattle.route_laws.proofs.sent.Forwards.{EndsIn, rule-keeps, served-ends}
use Rattle.route_laws.proofs.sent.InHand.{HasInHand}
use Rattle.route_laws.proofs.sent.NoCheckpoint.{in-table}
use Rattle.route_laws.proofs.sent.Sent.{GoesOn, name-not-sent, sent-keeps}
use Rattle.route_laws.proofs.sent.Uncancelled.{never-waits}
use Rattle.route_laws.proofs.served.Noting.{ServesAndNotes, serves-at-leader, serves-elsewhere}
use Rattle.route_laws.proofs.served.Replies.{IsAtWork}
use Rattle.route_laws.proofs.served.Turns.{node-at}

-- the first of both tests passes
pub first-true : (a c : Bool) → (a && c) ≡ true → a ≡ true
first-true true c h = refl
first-true false c h = absurd (false≢true h)

-- who is born isn't unborn
not-unborn : (stage : Stage) → is_born_stage stage ≡ true → not (is_unborn stage) ≡ true
not-unborn Unborn h = absurd (false≢true h)
not-unborn Living h = refl
not-unborn Leaving h = refl
not-unborn Left h = refl
not-unborn Over h = refl

all-true : (born own waits : Bool) → born ≡ true → own ≡ false → waits ≡ false
    → ((born && not own) && not waits) ≡ true
all-true born own waits a c d = rw (a, c, d) refl

-- it is for others to carry out
pub for-others : (home : Home) → is_on_name home ≡ true → is_for_others home ≡ true
for-others (homes.At name) h = refl
for-others homes.Own h = absurd (false≢true h)
for-others homes.Keys h = absurd (false≢true h)
for-others (homes.Removal name) h = absurd (false≢true h)
for-others homes.Parent h = absurd (false≢true h)

-- a call on a name
pub record IsAtName (home : Home) : Type 0 where
  pub name : Name
  pub is : home ≡ homes.At name

-- what a home on a name says
pub at-name : (home : Home) → is_on_name home ≡ true → IsAtName home
at-name (homes.At name) h = record { name = name; is = refl }
at-name homes.Own h = absurd (false≢true h)
at-name homes.Keys h = absurd (false≢true h)
at-name (homes.Removal name) h = absurd (false≢true h)
at-name homes.Parent h = absurd (false≢true h)

-- the call of a Request is served, or the node says that it isn't the owner, where the call isn't served
abbrev pub IsRequested : World → ℕ → Asked → CallPlace → Type 0
IsRequested w p asked place =
    IsServedPlace (node_of w p) asked place
    ⊎ ((place ≡ InNotOwner p) × IsNotServed (node_of w p) (home_of asked.pid asked.call))

module _ (script : Script) (w : World) (b : Beside) (holds : Holds script w [] b) (p q ticket pid : ℕ) (call : Call)
    (rest : List Frame) (h : Heads script w p q (frames.Request ticket pid call) rest) (never : NeverWithdraws script)
    (few : HasFewNodes script) where
  abbrev frame : Frame
  frame = frames.Request ticket pid call

  abbrev n : Node
  n = node_of w p

  abbrev asked : Asked
  asked = record { caller = q; ticket = ticket; pid = pid; call = call }

  abbrev x : CallSight
  x = call_sight w [] b q

  abbrev v : World
  v = world_without w p q rest

  abbrev middle : World
  middle = brought_world w p q rest

  abbrev moved : Beside
  moved = record b { call = call_in b.call q IsInHand }

  other : q ≢ p
  other = head-from-another script w p q frame rest h (is_born_in w) holds.frames_fit

  born : is_born_in w p ≡ true
  born = head-may-be script w p q frame rest h (is_born_in w) holds.frames_fit

  call-holds : CallHolds script q (is_born_in w) x
  call-holds = holds.calls q h.low_from h.high_from

  about-first : x.frames_about p q ≡ frame ∷ filter (is_about q p q) rest
  about-first =
      ap (filter (is_about q p q)) (head-is script w p q frame rest h)
      ∙ ap (λ t. cond t (frame ∷ filter (is_about q p q) rest) (filter (is_about q p q) rest)) (eq-eqb q q refl)

  found : Found script q (is_born_in w) x
  found =
      find script q (is_born_in w) x p q frame (filter (is_about q p q) rest) about-first x.caller.under_way refl
      call-holds.call

  has : HasCall script q (is_born_in w) x found.call
  has = found.has

  just-there : IsJustThere q x (asked_of x found.call)
  just-there = has.just_there

  is-request : IsRequestOf x.call (asked_of x found.call) p ticket pid call (filter (is_about q p q) rest)
  is-request =
      request-of (asked_of x found.call) q p q ticket pid call (filter (is_about q p q) rest) x.call
      (sym (just-there.in_streams p q) ∙ about-first)

  number-is : q ≡ x.number
  number-is =
      let m : NodeHolds script b.pids (is_born_in w) q (node_of w q) = holds.nodes q h.low_from h.high_from
      in sym m.number

  asked-is : asked ≡ asked_of x found.call
  asked-is = λ i. record {
    caller = number-is i;
    ticket = is-request.ticket_is i;
    pid = is-request.pid_is i;
    call = is-request.call_is i;
  }

  to-be-made : IsToBeMade script q x found.call
  to-be-made = subst (λ y. IsSoFar script q x found.call y) is-request.place_is has.so_far

  home-is : (is_on_name (home_of x.pid found.call) && not (may_park found.call)) ≡ true
  home-is = sym (ap (λ y. may_be_in y (home_of x.pid found.call) found.call) is-request.place_is) ∙ has.home

  on-a-name : is_on_name (home_of pid call) ≡ true
  on-a-name =
      subst (λ (a : Asked). is_on_name (home_of a.pid a.call) ≡ true) (sym asked-is)
      (first-true (is_on_name (home_of x.pid found.call)) (not (may_park found.call)) home-is)

  -- so it never waits
  cannot : may_be_withdrawn x.pid found.call ≡ false
  cannot = never-waits x.pid (home_of x.pid found.call) found.call home-is

  cannot-asked : may_be_withdrawn pid call ≡ false
  cannot-asked = ap (λ (a : Asked). may_be_withdrawn a.pid a.call) asked-is ∙ cannot

  is-call : is_withdrawal call ≡ false
  is-call = ap is_withdrawal is-request.call_is ∙ never q x.caller found.call to-be-made.due

  abbrev on : IsAtName (home_of pid call)
  on = at-name (home_of pid call) on-a-name

  abbrev name : Name
  name = on.name

  abbrev brought : IsBrought script w b p q frame asked
  brought =
      record {
        low = h.low_from;
        high = h.high_from;
        call = found.call;
        is = found.is;
        has = has;
        asked_is = asked-is;
        for_others = for-others (home_of pid call) on-a-name;
        to_be_made = to-be-made;
        is_call = is-call;
        is_made_yet = ap is_to_be_made is-request.place_is;
        no_waiter = λ m. ap (λ z. is_waiting_at z m) is-request.place_is;
        not_end = ap is_end_place is-request.place_is;
        no_lease = λ kind. ap (has_lease kind) is-request.place_is;
        no_item = λ m. ap (λ z. is_held_at z m) is-request.place_is;
        there = λ to sender. ap (λ z. only_if (is_in_stream z q to sender) (frame_at z asked)) is-request.place_is;
        about = eq-eqb q q refl;
        of_no_other = λ y d. ne_eqb q y (λ e. d (sym e));
        plain = refl;
        no_birth = refl;
        no_cancel = λ y. refl;
        brings_no_lease = λ kind. refl;
      }

  asks : IsCallOf script asked
  asks = record { low = h.low_from; high = h.high_from; is_call = is-call }

  g : HasInHand script middle moved p asked
  g =
      record {
        low_node = h.low;
        high_node = h.high;
        asks = asks;
        holds = brought-keeps script w b holds p q frame rest h asked brought false
            (cancel-brought script w b holds p q frame rest h asked brought false cannot false)
            (λ m. name-not-brought script w b holds p q frame rest h asked brought false m refl);
      }

  -- it ends in a step, with the call where it may be
  abbrev Ends : Option Step → Type 0
  Ends result = EndsIn script v p result (λ after. IsMoved moved.call after q (IsRequested w p asked))

  middle-holds : Holds script middle (Request asked ∷ []) moved
  middle-holds = g.holds

  nodes-same : (y : ℕ) → node_of middle y ≡ node_of w y
  nodes-same y = brought-nodes script w b holds p q frame rest h asked brought false y

  node-holds : NodeHolds script b.pids (is_born_in w) p n
  node-holds = holds.nodes p h.low h.high

  rule : take_request script n q ticket pid call ≡ requested_by script n asked (home_of pid call)
  rule =
      ap (λ t. if t then requested_by script n asked (home_of pid call) else None)
      (all-true (is_born n) (nat_eq q n.number) (is_withdrawal call) (not-unborn n.stage born)
      (ne_eqb q n.number (λ e. other (e ∙ node-holds.number))) is-call)

  -- ---- the deed is here

  at-work : IsAtWork script middle p
  at-work =
      record {
        low = h.low;
        high = h.high;
        born = ap (λ (m : Node). is_born_stage m.stage) (nodes-same p) ∙ born;
      }

  -- ---- it isn't

  abbrev told : Step
  told = send (step_to n) q (frames.NotOwner ticket)

  goes-back : GoesOn script middle moved p asked (InNotOwner p) q (frames.NotOwner ticket) (node_of middle p)
  goes-back =
      record {
        on_way = refl;
        frame_is = refl;
        in_stream = λ t s. refl;
        home = ap (λ (a : Asked). may_be_in (InNotOwner p) (home_of a.pid a.call) a.call) asked-is ∙ home-is;
        never = cannot-asked;
        between = λ e. other (sym e);
        other = other;
        about = eq-eqb q q refl;
        about_none = λ y d. ne_eqb q y (λ e. d (sym e));
        plain = refl;
        no_birth = refl;
        no_cancel = λ y. refl;
        no_lease = λ kind. refl;
        may_be = ap (λ (m : Node). is_born_stage m.stage) (nodes-same p) ∙ born;
        caller = record { number = refl; pid = refl; stage = refl; caller = refl; leases = refl };
        deeds = refl;
        leader = refl;
        node = middle-holds.nodes p h.low h.high;
      }

  told-changes : Changes script p middle (world_after v p told) (node_of middle p) []
      ((q, frames.NotOwner ticket) ∷ []) []
  told-changes =
      subst (λ (m : Node). Changes script p middle (world_after v p told) m [] ((q, frames.NotOwner ticket) ∷ []) [])
      (sym (node-at script v p (step_to n) middle-holds.shape h.low h.high))
      (changes-further script v p (step_to n) told ((q, frames.NotOwner ticket) ∷ []) [] middle-holds.shape h.low
      h.high (record { low = h.low_from; high = h.high_from }, tt) (record { sends_are = refl; entries_are = refl }))

  tells : IsNotServed n (home_of pid call) → Ends (Some told)
  tells lacks =
      record {
        next = told;
        is = refl;
        beside = record moved { call = call_in moved.call q (InNotOwner p) };
        holds = sent-keeps script middle moved p asked g (InNotOwner p) q (frames.NotOwner ticket) (node_of middle p)
            goes-back (world_after v p told) told-changes
            (λ m. name-not-sent script middle moved p asked g (InNotOwner p) q (frames.NotOwner ticket)
            (node_of middle p) goes-back (world_after v p told) told-changes m refl);
        after = record { place = InNotOwner p; calls = λ y. is_still refl; fits = inr (refl, lacks) };
      }

  by-deed : (t : Bool) → holds_deed n name ≡ t
      → (b.deed name ≡ InTable p → Ends (serve_asked script (step_to n) name asked))
      → Ends (if t then serve_asked script (step_to n) name asked else Some told)
  by-deed true e serve = serve (in-table script w [] b holds p born name e)
  by-deed false e serve = tells (subst (IsNotServed n) (sym on.is) e)

  taken-by : (b.deed name ≡ InTable p → ServesAndNotes script v p (step_to n) asked [] moved name)
      → RuleKeeps script w p q frame rest (λ after. IsMoved b.call after q (IsRequested w p asked))
  taken-by serve =
      rule-keeps script w b p q q frame rest (IsRequested w p asked) (requested_by script n asked (home_of pid call))
      rule
      (subst (λ y. Ends (requested_by script n asked y)) (sym on.is)
      (by-deed (holds_deed n name) refl
      (λ deed. served-ends script v p (step_to n) asked moved name (IsRequested w p asked)
      (λ place served. inl served) (serve deed))))

  -- Where a node other than the leader takes a Request, the rule has a step, and all holds after it, but for a strike.
  pub request-taken : p ≢ 1
      → RuleKeeps script w p q frame rest (λ after. IsMoved b.call after q (IsRequested w p asked))
  request-taken not_leader =
      taken-by
      (λ deed. serves-elsewhere script v p (step_to n) asked [] moved middle-holds at-work asks name on.is deed few
      not_leader)

-- ---- the leader

some-there : (place : Option Place) (nodes : List ℕ) → is_there 1 (believed place nodes) ≡ true
    → ((node : ℕ) → Contains nodes node → node ≢ 1) → place ≡ Some (At 1)
some-there (Some (At node)) nodes there others = ap (λ y. Some (At y)) (eqb-true node 1 there)
some-there (Some (Coming to items)) nodes there others = absurd (false≢true there)
some-there None [] there others = absurd (false≢true there)
some-there None (node ∷ nodes) there others =
    absurd
    (others node (Contains-append_left (node ∷ []) nodes node (Contains-push [] node)) (eqb-true node 1 there))

none-there : (node : ℕ) → Contains [] node → ⊥
none-there node there = omega (arith, there.1)

module _ (script : Script) (w : World) (hand : List Held) (b : Beside) (holds : Holds script w hand b) (name : Name)
  where
    abbrev s : NameSight
    s = name_sight script w hand b name

    name-holds : NameHolds script b.pids (is_born_in w) name s
    name-holds = holds.names name

    told-elsewhere : (made : Option ℕ) (node : ℕ) → Contains (maker_tells s made) node → node ≢ 1
    told-elsewhere None node there = absurd (none-there node there)
    told-elsewhere (Some q) node there = (name-holds.told q node there).other

    -- what the leader holds is at the leader
    pub place-at-leader : b.deed name ≡ InTable 1 → place_of (directory_of w) name ≡ Some (At 1)
    place-at-leader deed =
        some-there (place_of (directory_of w) name) (maker_tells s s.maker)
        (sym name-holds.leader
        ∙ ap is_some (name-holds.tables 1 ∙ ap (λ d. held_as d s.body 1) deed ∙ held-here 1 s.body))
        (told-elsewhere s.maker)

-- Where the leader takes a Request, the rule has a step, too.
pub request-taken-by-leader : (script : Script) (w : World) (b : Beside) → Holds script w [] b → (q ticket pid : ℕ)
    (call : Call) (rest : List Frame) → Heads script w 1 q (frames.Request ticket pid call) rest → NeverWithdraws script
    → HasFewNodes script → WatchesAsOwner (node_of w 1)
    → RuleKeeps script w 1 q (frames.Request ticket pid call) rest
    (λ after. IsMoved b.call after q
    (IsRequested w 1 (record { caller = q; ticket = ticket; pid = pid; call = call })))
request-taken-by-leader script w b holds q ticket pid call rest head never few watches =
    taken-by script w b holds 1 q ticket pid call rest head never few
    (λ deed. serves-at-leader script (world_without w 1 q rest) (step_to (node_of w 1))
    (record { caller = q; ticket = ticket; pid = pid; call = call }) [] (record b { call = call_in b.call q IsInHand })
    (middle-holds script w b holds 1 q ticket pid call rest head never few)
    (at-work script w b holds 1 q ticket pid call rest head never few)
    (asks script w b holds 1 q ticket pid call rest head never few)
    (on script w b holds 1 q ticket pid call rest head never few).name
    (on script w b holds 1 q ticket pid call rest head never few).is deed few watches
    (ap (λ (z : Node). place_of z.leader.directory (on script w b holds 1 q ticket pid call rest head never few).name)
    (nodes-same script w b holds 1 q ticket pid call rest head never few 1)
    ∙ place-at-leader script w [] b holds (on script w b holds 1 q ticket pid call rest head never few).name deed))

-- Where a node takes a Request, the rule has a step, and all holds after it, but for a strike that it owes.
pub request-taken-anywhere : (script : Script) (w : World) (b : Beside) → Holds script w [] b → (p q ticket pid : ℕ)
    (call : Call) (rest : List Frame) → Heads script w p q (frames.Request ticket pid call) rest → NeverWithdraws script
    → HasFewNodes script → WatchesAsOwner (node_of w 1)
    → RuleKeeps script w p q (frames.Request ticket pid call) rest
    (λ after. IsMoved b.call after q
    (IsRequested w p (record { caller = q; ticket = ticket; pid = pid; call = call })))
request-taken-anywhere script w b holds p q ticket pid call rest head never few watches =
    elim (cases_eq p 1) [
      | inr d ↦ request-taken script w b holds p q ticket pid call rest head never few d
      | inl e ↦
          subst (λ y. Heads script w y q (frames.Request ticket pid call) rest
          → RuleKeeps script w y q (frames.Request ticket pid call) rest
          (λ after. IsMoved b.call after q
          (IsRequested w y (record { caller = q; ticket = ticket; pid = pid; call = call })))) (sym e)
          (λ first. request-taken-by-leader script w b holds q ticket pid call rest first never few watches) head
    ]
