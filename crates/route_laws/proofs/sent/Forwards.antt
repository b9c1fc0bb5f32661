-- A node other than the leader takes a call that the leader sent it: it serves the call where it holds the name,
-- refuses it where nothing has the number, and else sends it back.
use Rattle.std.proofs.Common.{◌≡◌, ◌≢◌, ℕ, ◌≤◌, Bool, true, false, ◌&&◌, ◌||◌, not, if◌then◌else◌, List, [], ◌∷◌, length, nat_le, Option, Some, None, is_some, refl, ap, sym, subst, ◌∙◌, inl, inr, arith, ◌⊎◌}
use Rattle.std.proofs.lemmas.Bool.{le-leb, ne_eqb, false≢true}
use Rattle.pico_base.specs.declared.call.Call.{Call}
use Rattle.pico_base.specs.declared.call.Call.TheVariants as calls
use Rattle.pico_base.specs.declared.call.Home.{Home}
use Rattle.pico_base.specs.declared.call.Home.TheVariants as homes
use Rattle.pico_base.specs.declared.numbers.Name.{Name}
use Rattle.pico_base.specs.declared.script.Script.{Script}
use Rattle.pico_base.specs.Home.{home_of}
use Rattle.rpc_frame.specs.declared.asked.Asked.{Asked}
use Rattle.rpc_frame.specs.declared.frame.Frame.{Frame}
use Rattle.rpc_frame.specs.declared.frame.Frame.TheVariants as frames
use Rattle.waiting_model.specs.Calls.{is_withdrawal}
use Rattle.entry_laws.specs.Entering.{is_used_name}
use Rattle.node_model.specs.Carrying.{is_removal}
use Rattle.node_model.specs.Directory.{maker}
use Rattle.node_model.specs.declared.held.Held.TheVariants.{Request}
use Rattle.node_model.specs.Kinds.{is_object}
use Rattle.node_model.specs.Leases.{leases_hold}
use Rattle.world_model.specs.Calls.{bounce, bounce_or_nobody, forwarded_by, take_forward}
use Rattle.world_model.specs.Node.{Node, holds as holds_deed, is_born, is_leader, is_node}
use Rattle.world_model.specs.Serving.{serve_asked, serve_nobody}
use Rattle.world_model.specs.Step.{Step, step_to}
use Rattle.world_model.specs.Turn.{take_by_kind}
use Rattle.world_model.specs.World.{World, node_count, world_after}
use Rattle.world_laws.specs.Places.{CallPlace, InBounce, InTable, SentByRange, Unmade, IsInHand, Beside, call_in}
use Rattle.world_laws.specs.Sights.{node_of, directory_of, is_born_in, is_born_stage}
use Rattle.world_laws.specs.Names.{NameHolds, held_as, name_sight}
use Rattle.world_laws.specs.Callers.{is_on, is_on_process, is_removal_home, may_be_in}
use Rattle.world_laws.specs.Families.{NodeHolds}
use Rattle.world_laws.specs.Invariant.{Holds, MayBe}
use Rattle.world_laws.proofs.Cancels.{may_be_withdrawn}
use Rattle.world_laws.proofs.Changes.{Changes}
use Rattle.world_laws.proofs.Heads.{head-may-be}
use Rattle.world_laws.proofs.Middles.{changes-further}
use Rattle.world_laws.proofs.NameFacts.{held-here}
use Rattle.world_laws.proofs.Steps.{Heads, world_without}
use Rattle.rule_laws.proofs.Nodes.{and-true, born-stage}
use Rattle.rule_laws.proofs.own.Moved.{IsMoved, IsNotServed, is_still, moved-twice}
use Rattle.route_laws.specs.Ready.{HasFewNodes}
use Rattle.route_laws.proofs.Owed.{HoldsAt, IsServedPlace, RuleKeeps, has_reply}
use Rattle.route_laws.proofs.hand.Asks.{NeverWithdraws}
use Rattle.route_laws.proofs.hand.Forwards.{sent_as}
use Rattle.route_laws.proofs.hand.HandMoves.{IsCallOf}
use Rattle.route_laws.proofs.hand.NobodyRoutes.{on-it}
use Rattle.route_laws.proofs.hand.Routes.{IsOn}
use Rattle.route_laws.proofs.sent.Behind.{forward-at, forward-may-wait}
use Rattle.route_laws.proofs.sent.Bounced.{bounced-keeps}
use Rattle.route_laws.proofs.sent.Brought.{brought_world}
use Rattle.route_laws.proofs.sent.Forwarded.{asks-it, finds-deed, finds-ranged, forward-in-hand, is_right_home, is-at-maker, no-lease-comes, not-leader, on-right-home, same-nodes, sent-by, withdraws-not}
use Rattle.route_laws.proofs.sent.InHand.{HasInHand}
use Rattle.route_laws.proofs.sent.NoCheckpoint.{in-table}
use Rattle.route_laws.proofs.sent.Unleased.{given-used, leased-unused}
use Rattle.route_laws.proofs.served.Before.{IsInHandAt}
use Rattle.route_laws.proofs.served.Nobody.{nobody_beside, nobody-keeps, plain-call, refused, refusal, whole-step}
use Rattle.route_laws.proofs.served.Noting.{ServesAndNotes, serves-behind}
use Rattle.route_laws.proofs.served.Replies.{IsAtWork}
use Rattle.route_laws.proofs.served.Turns.{node-at}
use Rattle.route_laws.proofs.served.Unchanged.{is-carried, one_step, one-carried, one-moved}

-- A rule whose result is a step after which all holds, but for a strike that it owes.
pub record EndsIn (script : Script) (v : World) (p : ℕ) (result : Option Step) (After : (ℕ → CallPlace) → Type 0)
    : Type 0 where
  pub next : Step
  pub is : result ≡ Some next
  pub beside : Beside
  pub holds : HoldsAt script v p next [] beside
  pub after : After beside.call

-- a call that was in hand in the middle
pub rule-keeps : (script : Script) (w : World) (b : Beside) (p q c : ℕ) (frame : Frame) (rest : List Frame)
    (P : CallPlace → Type 0) (result : Option Step) → take_by_kind script (node_of w p) q frame ≡ result
    → EndsIn script (world_without w p q rest) p result (λ after. IsMoved (call_in b.call c IsInHand) after c P)
    → RuleKeeps script w p q frame rest (λ after. IsMoved b.call after c P)
rule-keeps script w b p q c frame rest P result rule ends =
    let kept : Beside = ends.beside
    in record {
      beside = ends.beside;
      keeps = record { step = ends.next; is_step = rule ∙ ends.is; holds = ends.holds };
      after = moved-twice b.call kept.call c IsInHand P ends.after;
    }

-- the call of a Forward is served, or goes back where it was sent by range and isn't served
abbrev pub IsForwarded : World → Beside → ℕ → Asked → CallPlace → Type 0
IsForwarded w b p asked place =
    IsServedPlace (node_of w p) asked place
    ⊎ ((place ≡ InBounce p) × ((b.call asked.caller ≡ SentByRange p)
    × IsNotServed (node_of w p) (home_of asked.pid asked.call)))

-- a call that the rule serves is where it may be
pub served-ends : (script : Script) (v : World) (p : ℕ) (s : Step) (asked : Asked) (b : Beside) (name : Name)
    (P : CallPlace → Type 0) → ((place : CallPlace) → IsServedPlace s.node asked place → P place)
    → ServesAndNotes script v p s asked [] b name
    → EndsIn script v p (serve_asked script s name asked) (λ after. IsMoved b.call after asked.caller P)
served-ends script v p s asked b name P fits e =
    let after : Beside = e.beside
    in let m : IsMoved b.call after.call asked.caller (IsServedPlace s.node asked) = e.moved
    in record {
      next = e.next;
      is = e.is;
      beside = e.beside;
      holds = e.holds;
      after = record { place = m.place; calls = m.calls; fits = fits m.place m.fits };
    }

all-true : (leads born is_node waits : Bool) → leads ≡ false → born ≡ true → is_node ≡ true → waits ≡ false
    → ((not leads && (born && true)) && (is_node && not waits)) ≡ true
all-true leads born is_node waits a c d e = rw (a, c, d, e) refl

-- a call sent by place is on a name, and one sent by range is that, or the removal of one
pub record IsOnName (by : Bool) (home : Home) : Type 0 where
  pub name : Name
  pub on : IsOn name home
  pub at : by ≡ true → home ≡ homes.At name

on-name : (by : Bool) (home : Home) → is_right_home by home ≡ true → IsOnName by home
on-name by (homes.At name) e = record { name = name; on = inl refl; at = λ placed. refl }
on-name false (homes.Removal name) e =
    record { name = name; on = inr refl; at = λ placed. absurd (false≢true placed) }
on-name true (homes.Removal name) e = absurd (false≢true e)
on-name true homes.Own e = absurd (false≢true e)
on-name true homes.Keys e = absurd (false≢true e)
on-name true homes.Parent e = absurd (false≢true e)
on-name false homes.Own e = absurd (false≢true e)
on-name false homes.Keys e = absurd (false≢true e)
on-name false homes.Parent e = absurd (false≢true e)

-- a call that goes back never waits
back-never-waits : (pid : ℕ) (call : Call)
    → (is_removal_home (home_of pid call) || is_on_process (home_of pid call)) ≡ true
    → may_be_withdrawn pid call ≡ false
back-never-waits pid (calls.MsgSnd id class text nowait) h = absurd (false≢true h)
back-never-waits pid (calls.MsgRcv id class size noerror nowait) h = absurd (false≢true h)
back-never-waits pid (calls.SemOp id steps) h = absurd (false≢true h)
back-never-waits pid (calls.WaitPid child options) h = absurd (false≢true h)
back-never-waits pid call h = refl

-- a call on a name is no removal
at-lasts : (pid : ℕ) (call : Call) (name : Name) → home_of pid call ≡ homes.At name → not (is_removal call) ≡ true
at-lasts pid (calls.MsgRmid id) name h = cc
at-lasts pid (calls.SemRmid id) name h = cc
at-lasts pid call name h = refl

module _ (script : Script) (w : World) (b : Beside) (holds : Holds script w [] b) (p : ℕ) (asked : Asked)
    (rest : List Frame) (h : Heads script w p 1 (frames.Forward asked) rest) (low : 1 ≤ asked.caller)
    (high : asked.caller ≤ node_count script) (born : is_born (node_of w p) ≡ true) (never : NeverWithdraws script)
    (few : HasFewNodes script) where
  abbrev n : Node
  n = node_of w p

  abbrev v : World
  v = world_without w p 1 rest

  abbrev s : Step
  s = step_to n

  abbrev middle : World
  middle = brought_world w p 1 rest

  abbrev moved : Beside
  moved = record b { call = call_in b.call asked.caller IsInHand }

  abbrev home : Home
  home = home_of asked.pid asked.call

  is-born : is_born_in w p ≡ true
  is-born = born-stage n.stage born

  other : p ≢ 1
  other = not-leader script w b holds p asked rest h low high

  node-holds : NodeHolds script b.pids (is_born_in w) p n
  node-holds = holds.nodes p h.low h.high

  module _ (by : Bool) (at : b.call asked.caller ≡ sent_as by p) where
    -- it ends in a step, with the call where it may be
    abbrev Ends : Option Step → Type 0
    Ends result = EndsIn script v p result (λ after. IsMoved moved.call after asked.caller (IsForwarded w b p asked))

    asks : IsCallOf script asked
    asks = asks-it script w b holds p asked rest h low high by at never

    nodes-same : (y : ℕ) → node_of middle y ≡ node_of w y
    nodes-same = same-nodes script w b holds p asked rest h low high by at never

    at-work : IsAtWork script middle p
    at-work =
        record {
          low = h.low;
          high = h.high;
          born = ap (λ (m : Node). is_born_stage m.stage) (nodes-same p) ∙ is-born;
        }

    abbrev on : IsOnName by home
    on = on-name by home (on-right-home script w b holds p asked rest h low high by at)

    abbrev name : Name
    name = on.name

    rule : take_forward script n 1 asked ≡ forwarded_by script n asked home
    rule =
        ap (λ t. if t then forwarded_by script n asked home else None)
        (all-true (is_leader n) (is_born n) (is_node script asked.caller) (is_withdrawal asked.call)
        (ne_eqb n.number 1 (λ e. other (sym node-holds.number ∙ e))) born
        (and-true (nat_le 1 asked.caller) (nat_le asked.caller (length script.blocks)) (le-leb 1 asked.caller low)
        (le-leb asked.caller (length script.blocks) high))
        (withdraws-not script w b holds p asked rest h low high by at never))

    name-holds : NameHolds script b.pids (is_born_in w) name (name_sight script w [] b name)
    name-holds = holds.names name

    -- ---- the deed is here

    -- a name whose deed is in a table is used
    used-there : b.deed name ≡ InTable p → is_used_name b.kernel name ≡ true
    used-there deed = by-test (is_used_name b.kernel name) refl
      where
        not-unmade : InTable p ≡ Unmade → ⊥
        not-unmade e = cc

        by-test : (t : Bool) → is_used_name b.kernel name ≡ t → is_used_name b.kernel name ≡ true
        by-test true e = e
        by-test false e = absurd (not-unmade (sym deed ∙ name-holds.made.1 e))

    -- and is held
    held-there : b.deed name ≡ InTable p → holds_deed n name ≡ true
    held-there deed =
        ap is_some (name-holds.tables p ∙ ap (λ d. held_as d (b.body name) p) deed ∙ held-here p (b.body name))

    serves-it : home ≡ homes.At name → b.deed name ≡ InTable p
        → Ends (serve_asked script s name asked)
    serves-it is deed =
        served-ends script v p s asked moved name (IsForwarded w b p asked) (λ place served. inl served)
        (serves-behind script v p s asked [] moved
        (forward-may-wait script w b holds p asked rest h low high by at never name is (used-there deed)) at-work asks
        name is deed few other)

    -- ---- the call was sent by range

    module _ (ranged : by ≡ false) where
      made : maker (directory_of w) name ≡ Some p
      made = is-at-maker script w b holds p asked rest h low high by at name on.on ranged

      bounces : may_be_in (InBounce p) home asked.call ≡ true → IsNotServed n home
          → is_used_name b.kernel name ≡ true → Ends (Some (bounce n asked))
      bounces back lacks used =
          record {
            next = bounce n asked;
            is = refl;
            beside = record moved { call = call_in moved.call asked.caller (InBounce p) };
            holds = bounced-keeps script middle moved p asked g other name on.on back cannot used
                (ap (λ (m : Node). maker m.leader.directory name) (nodes-same 1) ∙ made)
                (world_after v p (bounce n asked)) changes;
            after = record {
              place = InBounce p;
              calls = λ y. is_still refl;
              fits = inr (refl, (at ∙ ap (λ t. sent_as t p) ranged, lacks));
            };
          }
        where
          cannot : may_be_withdrawn asked.pid asked.call ≡ false
          cannot = back-never-waits asked.pid asked.call back

          g : HasInHand script middle moved p asked
          g = forward-in-hand script w b holds p asked rest h low high by at never cannot

          middle-holds : Holds script middle (Request asked ∷ []) moved
          middle-holds = g.holds

          high-one : 1 ≤ node_count script
          high-one = let low_p = h.low in let high_p = h.high in omega (arith, low_p, high_p)

          changes : Changes script p middle (world_after v p (bounce n asked)) (node_of middle p) []
              ((1, frames.Bounce asked) ∷ []) []
          changes =
              subst (λ (m : Node). Changes script p middle (world_after v p (bounce n asked)) m []
              ((1, frames.Bounce asked) ∷ []) []) (sym (node-at script v p s middle-holds.shape h.low h.high))
              (changes-further script v p s (bounce n asked) ((1, frames.Bounce asked) ∷ []) []
              middle-holds.shape h.low h.high (record { low = omega arith; high = high-one }, tt)
              (record { sends_are = refl; entries_are = refl }))

      -- nothing has the number
      module _ (unused : is_used_name b.kernel name ≡ false) where
        abbrev hand-at : IsInHandAt script v p s asked [] moved
        hand-at = forward-at script w b holds p asked rest h low high by at never

        on-it-now : is_on name home ≡ true
        on-it-now = on-it name home on.on

        refuses-it : Ends (Some (serve_nobody script s name asked))
        refuses-it =
            record {
              next = one_step script v p s asked [] moved hand-at at-work asks
                  (refusal script v p s asked [] moved hand-at at-work asks name on-it-now unused);
              is = ap Some (one-carried script v p s asked [] moved hand-at at-work asks
                  (refusal script v p s asked [] moved hand-at at-work asks name on-it-now unused));
              beside = nobody_beside script v p s asked [] moved hand-at at-work asks name on-it-now unused;
              holds = nobody-keeps script v p s asked [] moved hand-at at-work asks name on-it-now unused;
              after = one-moved script v p s asked [] moved hand-at at-work asks
                  (refusal script v p s asked [] moved hand-at at-work asks name on-it-now unused)
                  (refused script v p s asked [] moved hand-at at-work asks name on-it-now unused)
                  (plain-call script v p s asked [] moved hand-at at-work asks name on-it-now unused)
                  (whole-step script v p s asked [] moved hand-at at-work asks name on-it-now unused)
                  (IsForwarded w b p asked)
                  (inl (has_reply (is-carried p asked.caller
                  (refusal script v p s asked [] moved hand-at at-work asks name on-it-now unused))));
            }

      elsewhere : (is_used_name b.kernel name ≡ true → may_be_in (InBounce p) home asked.call ≡ true)
          → IsNotServed n home → (t : Bool) → leases_hold n.leases name ≡ t
          → Ends (Some (if t then serve_nobody script s name asked else bounce n asked))
      elsewhere back lacks true e = refuses-it (leased-unused script w [] b holds p name made e)
      elsewhere back lacks false e = bounces (back used) lacks used
        where
          used : is_used_name b.kernel name ≡ true
          used =
              given-used script w [] b holds p name made e
              (no-lease-comes script w b holds p asked rest h low high by at name on.on ranged)

      -- a call on a queue or a set that is used finds the deed
      not-an-object : home ≡ homes.At name → holds_deed n name ≡ false → is_used_name b.kernel name ≡ true
          → is_object name ≡ false
      not-an-object is lacks used = by-test (is_object name) refl
        where
          by-test : (t : Bool) → is_object name ≡ t → is_object name ≡ false
          by-test false e = e
          by-test true e =
              absurd
              (false≢true
              (sym lacks
              ∙ held-there (finds-ranged script w b holds p asked rest h low high by at name on.on ranged used e
              (at-lasts asked.pid asked.call name is) is-born)))

      by-deed-at : home ≡ homes.At name → (t : Bool) → holds_deed n name ≡ t
          → Ends (if t then serve_asked script s name asked else Some (bounce_or_nobody script n asked name))
      by-deed-at is true e = serves-it is (in-table script w [] b holds p is-born name e)
      by-deed-at is false e =
          elsewhere
          (λ used. ap (λ y. is_removal_home y || is_on_process y) is ∙ ap not (not-an-object is e used))
          (subst (IsNotServed n) (sym is) e) (leases_hold n.leases name) refl

      removal-back : home ≡ homes.Removal name → may_be_in (InBounce p) home asked.call ≡ true
      removal-back is = ap (λ y. is_removal_home y || is_on_process y) is

      by-deed-of-removal : home ≡ homes.Removal name → (t : Bool) → holds_deed n name ≡ t
          → Ends (if t then Some (bounce n asked) else Some (bounce_or_nobody script n asked name))
      by-deed-of-removal is true e =
          bounces (removal-back is) (subst (IsNotServed n) (sym is) tt)
          (used-there (in-table script w [] b holds p is-born name e))
      by-deed-of-removal is false e =
          elsewhere (λ used. removal-back is) (subst (IsNotServed n) (sym is) tt) (leases_hold n.leases name) refl

      ranged-ends : Ends (forwarded_by script n asked home)
      ranged-ends =
          elim on.on [
            | inl is ↦
                subst (λ y. Ends (forwarded_by script n asked y)) (sym is)
                (by-deed-at is (holds_deed n name) refl)
            | inr is ↦
                subst (λ y. Ends (forwarded_by script n asked y)) (sym is)
                (by-deed-of-removal is (holds_deed n name) refl)
          ]

    -- ---- the call was sent by place

    placed-ends : by ≡ true → Ends (forwarded_by script n asked home)
    placed-ends placed =
        let is : home ≡ homes.At name = on.at placed
        in let deed : b.deed name ≡ InTable p =
        finds-deed script w b holds p asked rest h low high by at name on.on placed is-born
        in subst (λ y. Ends (forwarded_by script n asked y)) (sym is)
        (subst (λ t. Ends (if t then serve_asked script s name asked
        else Some (bounce_or_nobody script n asked name))) (sym (held-there deed)) (serves-it is deed))

    by-way : (t : Bool) → by ≡ t → Ends (forwarded_by script n asked home)
    by-way true placed = placed-ends placed
    by-way false ranged = ranged-ends ranged

    sent-step : RuleKeeps script w p 1 (frames.Forward asked) rest
        (λ after. IsMoved b.call after asked.caller (IsForwarded w b p asked))
    sent-step =
        rule-keeps script w b p 1 asked.caller (frames.Forward asked) rest (IsForwarded w b p asked)
        (forwarded_by script n asked home) rule (by-way by refl)

  -- Where a node that is born takes a Forward, of a caller that is a node of the script, the rule has a step, and all
  -- holds after it, but for a strike that it owes.
  pub forward-taken : RuleKeeps script w p 1 (frames.Forward asked) rest
      (λ after. IsMoved b.call after asked.caller (IsForwarded w b p asked))
  forward-taken =
      let sent = sent-by script w b holds p asked rest h low high
      in sent-step sent.0 sent.1

-- So it is whoever it comes from, which is the leader.
pub forward-taken-from : (script : Script) (w : World) (b : Beside) → Holds script w [] b → (p q : ℕ) (asked : Asked)
    (rest : List Frame) → Heads script w p q (frames.Forward asked) rest → 1 ≤ asked.caller
    → asked.caller ≤ node_count script → is_born (node_of w p) ≡ true → NeverWithdraws script → HasFewNodes script
    → RuleKeeps script w p q (frames.Forward asked) rest
    (λ after. IsMoved b.call after asked.caller (IsForwarded w b p asked))
forward-taken-from script w b holds p q asked rest head low high born never few =
    subst (λ y. Heads script w p y (frames.Forward asked) rest
    → RuleKeeps script w p y (frames.Forward asked) rest
    (λ after. IsMoved b.call after asked.caller (IsForwarded w b p asked))) (sym from_leader)
    (λ first. forward-taken script w b holds p asked rest first low high born never few) head
  where
    from_leader : MayBe script (is_born_in w) p q (frames.Forward asked)
    from_leader = head-may-be script w p q (frames.Forward asked) rest head (is_born_in w) holds.frames_fit
