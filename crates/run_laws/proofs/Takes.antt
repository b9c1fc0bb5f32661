-- Each frame that a node may take has a step, and keeps all.
use Rattle.std.proofs.Common.{◌≡◌, ℕ, Bool, true, false, ◌||◌, List, [], ◌∷◌, refl, sym, subst, inl, inr, ◌≤◌, arith, Some, if◌then◌else◌, ◌≢◌, ◌∙◌, ap, Option, None, not}
use Rattle.std.proofs.lemmas.Bool.{cases_eq, ne_eqb, false≢true}
use Rattle.pico_base.specs.declared.call.Call.{Call}
use Rattle.pico_base.specs.declared.call.Call.TheVariants as calls
use Rattle.pico_base.specs.declared.call.Home.TheVariants as homes
use Rattle.pico_base.specs.declared.numbers.Kind.{Kind}
use Rattle.pico_base.specs.declared.numbers.Name.{Name}
use Rattle.pico_base.specs.declared.script.Event.TheVariants as events
use Rattle.pico_base.specs.declared.script.Script.{Script}
use Rattle.rpc_frame.specs.declared.asked.Asked.{Asked}
use Rattle.rpc_frame.specs.declared.deed.PackedDeed.{PackedDeed}
use Rattle.rpc_frame.specs.declared.deed.Parcel.{Parcel}
use Rattle.rpc_frame.specs.declared.frame.Frame.{Frame}
use Rattle.rpc_frame.specs.declared.frame.Frame.TheVariants as frames
use Rattle.kernel_model.specs.Script.{IsSoundScript}
use Rattle.node_model.specs.declared.held.Held.TheVariants.{Request, Ending}
use Rattle.node_model.specs.Directory.{bound_for, held_for, with_left}
use Rattle.world_model.specs.Moves.{goes_on_to, pass_on}
use Rattle.world_model.specs.Node.{Node, is_born, asked_here, is_leader, under_way_as, Stage, Unborn, Living, Leaving, Left, Over, is_unborn}
use Rattle.world_model.specs.Step.{step_to, with_directory, Step, send}
use Rattle.world_model.specs.World.{World, is_checkpoint, is_enabled, IsNode, node_count}
use Rattle.world_laws.specs.Invariant.{Holds, MayBe}
use Rattle.world_laws.specs.Places.{Beside, CallPlace, HasLease, Idle, InAsk, InNotOwner, Ends, InAnswer}
use Rattle.world_laws.specs.Sights.{directory_of, is_born_in, node_of, is_born_stage, stage_of}
use Rattle.world_laws.proofs.Heads.{head-may-be}
use Rattle.world_laws.proofs.Steps.{Heads, KeepsAs}
use Rattle.rule_laws.proofs.Answers.{answer-keeps}
use Rattle.rule_laws.proofs.Births.{checkpoint-keeps}
use Rattle.rule_laws.proofs.Enabled.{IsTaken, enabled-takes}
use Rattle.rule_laws.proofs.Grants.{grant-keeps, all-nodes}
use Rattle.rule_laws.proofs.LeaseAsks.{lease-ask-keeps}
use Rattle.rule_laws.proofs.Placings.{placed-keeps}
use Rattle.rule_laws.proofs.Recalls.{recall-keeps}
use Rattle.rule_laws.proofs.Suggestions.{suggest-keeps}
use Rattle.rule_laws.proofs.own.OwnCases.{Keeps}
use Rattle.route_laws.proofs.sent.NotOwners.{not-owner-taken}
use Rattle.rule_laws.proofs.makes.Makes.{lease-keeps}
use Rattle.rule_laws.proofs.ends.Leavings.{leaving-keeps}
use Rattle.rule_laws.proofs.ends.RecallAlls.{any-recall-all-keeps, ends-by-end}
use Rattle.route_laws.proofs.exits.ExitRules.{exit-to-keeps}
use Rattle.bound_laws.specs.Bounded.{IsBounded, NodeIsBounded}
use Rattle.bound_laws.proofs.Parts.{held-are-of-nodes}
use Rattle.bound_laws.proofs.Ranges.{some-blocks, few-blocks}
use Rattle.bound_laws.proofs.Ready.{Ready, bounce-is-of-node, bounded-is-ready, forward-is-of-node, taken-is-good, cancel-is-of-node}
use Rattle.bound_laws.proofs.Scripts.{never-withdraws}
use Rattle.bound_laws.proofs.StepParts.{step-to-bounded}
use Rattle.bound_laws.proofs.Turns.{left-noted-bounded, passed-on-bounded, names-nodes}
use Rattle.std.specs.List.{AllByRecursion}
use Rattle.pico_base.specs.declared.numbers.Name.TheVariants.{Proc}
use Rattle.pico_base.specs.Home.{home_of}
use Rattle.world_laws.specs.Names.{NameHolds, name_sight}
use Rattle.rule_laws.proofs.own.Moved.{IsMoved, AreStill, is_still}
use Rattle.bound_laws.proofs.Ranges.{some-blocks}
use Rattle.route_laws.proofs.first.NotOwners.{IsRoutedAgain, not-owner-has-step}
use Rattle.route_laws.proofs.sent.Forwards.{forward-taken-from}
use Rattle.route_laws.proofs.sent.Requests.{IsRequested, request-taken-anywhere}
use Rattle.weight_laws.proofs.Counts.{IsOfNode}
use Rattle.weight_laws.proofs.Frees.{name_removed, removes-its-own}
use Rattle.weight_laws.proofs.GiveBacks.{items-only}
use Rattle.weight_laws.proofs.Law.{AfterFrame, CallerIsNode, IsAskedAgain, IsInOrder, IsServedOr, each-take-falls, each-take-lowers}
use Rattle.weight_laws.proofs.LightEvents.{KeepsLightly, RuleKeepsLightly, ask-goes-lightly, bounce-goes-lightly, give-back-goes-lightly, left-goes-lightly}
use Rattle.weight_laws.proofs.Routes.{placed-light, served-light, served_limit}
use Rattle.run_laws.proofs.Calm.{IsCalm, calm-rule, strikes_nobody}
use Rattle.run_laws.proofs.Hands.{IsGoodFor, hand-goes-on, of-nodes}
use Rattle.run_laws.proofs.Middle.{leader-is-ready, leader-leads}
use Rattle.run_laws.proofs.Struck.{bounded-rises, struck}
use Rattle.world_laws.specs.Callers.{CallHolds, HasCall, HasCallOrNone, IsSoFar, call_sight, may_be_in}
use Rattle.pico_base.specs.declared.call.Home.{Home}
use Rattle.kernel_model.specs.Fitting.{IsDue}
use Rattle.weight_laws.proofs.Cancels.{LeadsRightly}
use Rattle.world_laws.specs.Families.{NodeHolds}
use Rattle.world_laws.specs.Cancels.{Nothing}
use Rattle.kernel_laws.proofs.Plain.{Of, of-next, of-some}
use Rattle.route_laws.proofs.Owed.{RuleKeeps, nobody_reads}
use Rattle.world_model.specs.Calls.{ask_after, take_not_owner, with_forgotten, take_forward, take_request}
use Rattle.node_model.specs.Caller.{caller_place}
use Rattle.world_model.specs.Lives.{is_end, take_exit}
use Rattle.waiting_model.specs.Calls.{is_withdrawal}
use Rattle.world_model.specs.Routes.{route_call}
use Rattle.world_model.specs.Turn.{take_by_kind}
use Rattle.world_laws.specs.Ways.{under_way_of}
use Rattle.node_model.specs.Bodies.{waiters_of}
use Rattle.route_laws.proofs.cancels.Taken.{cancel-taken, never-goes-back}
use Rattle.weight_laws.proofs.Events.{calm-is-light}
use Rattle.run_laws.proofs.Stages.{StageIs, cancel-stays, exit-stays, forward-stays, request-stays}
use Rattle.world_model.specs.Strikes.{take_cancel}
use Rattle.route_laws.specs.Ready.{IsReady}

born-stage : (stage : Stage) → not (is_unborn stage) ≡ true → is_born_stage stage ≡ true
born-stage Unborn h = absurd (false≢true h)
born-stage Living h = refl
born-stage Leaving h = refl
born-stage Left h = refl
born-stage Over h = refl

end-withdraws-not : (call : Call) → is_end call ≡ true → is_withdrawal call ≡ false
end-withdraws-not (calls.Withdraw name) h = absurd (false≢true h)
end-withdraws-not call h = refl

or-false : (b : Bool) → (b || false) ≡ true → b ≡ true
or-false true h = refl
or-false false h = h

module _ (script : Script) (sound : IsSoundScript script) (w : World) (b : Beside) (holds : Holds script w [] b)
    (bounded : IsBounded script w []) where
  ready : Ready script w [] b
  ready = bounded-is-ready script sound w [] b holds bounded

  -- an event has a step that keeps all, and lowers the weight
  abbrev Lightly : ℕ → ℕ → Type 0
  Lightly p q = KeepsLightly script w (events.Take p q) b

  held-of-nodes : (m : Name) → AllByRecursion (IsOfNode script) (held_for (directory_of w) m)
  held-of-nodes m =
      let own : NodeIsBounded script (node_of w 1) = bounded.nodes 1 (omega arith) (some-blocks script sound)
      in of-nodes script sound (held_for (directory_of w) m)
      (held-are-of-nodes script (directory_of w) m own.directory)

  -- a call under way is no withdrawal: it was due, or ends its process
  under-way-is-call : (p : ℕ) → 1 ≤ p → p ≤ node_count script → (call : Call) → under_way_of w p ≡ Some call
      → is_withdrawal call ≡ false
  under-way-is-call p low high call is = by-place (b.call p) refl has.so_far
    where
      has : HasCall script p (is_born_in w) (call_sight w [] b p) call
      has =
          let h : CallHolds script p (is_born_in w) (call_sight w [] b p) = holds.calls p low high
          in subst (λ o. HasCallOrNone script p (is_born_in w) (call_sight w [] b p) o) is h.call

      of-due : IsDue (caller_place script p (node_of w p).caller) call → is_withdrawal call ≡ false
      of-due is_due = never-withdraws script sound p (node_of w p).caller call is_due

      by-place : (place : CallPlace) → b.call p ≡ place → IsSoFar script p (call_sight w [] b p) call place
          → is_withdrawal call ≡ false
      by-place (InAnswer h reply) e made = of-due made.due
      by-place Ends e so_far =
          end-withdraws-not call
          (ends-by-end (node_of w p).pid call
          (sym (ap (λ place. may_be_in place (home_of (node_of w p).pid call) call) e) ∙ has.home))
      by-place place e made = of-due made.due

  -- what the law on weights asks
  pub in-order : IsInOrder script w
  in-order =
      record {
        rises = λ p low high. bounded-rises script (node_of w p) (bounded.nodes p low high);
        held = held-of-nodes;
        never = never-withdraws script sound;
        is_call = under-way-is-call;
      }

  -- ---- events, in one form

  module _ (p q : ℕ) (frame : Frame) (rest : List Frame) (h : Heads script w p q frame rest) where
    -- where the rule leaves the calls as it may, and the strike that it may owe comes behind it
    by-rule : (p ≢ 1
        → Of (λ s. let n : Node = s.node in is_born_stage n.stage ≡ true) (take_by_kind script (node_of w p) q frame))
        → CallerIsNode script frame
        → RuleKeeps script w p q frame rest (AfterFrame script w b holds p q rest frame) → Lightly p q
    by-rule born of_node k =
        let after : Beside = k.beside
        in struck script sound w b holds bounded p q frame rest h
        (record {
          beside = k.beside;
          keeps = k.keeps;
          lowers = each-take-lowers script w b holds in-order p q rest after.call frame h of_node k.after;
        })
        (λ other. of-some (λ s. let n : Node = s.node in is_born_stage n.stage ≡ true)
        (take_by_kind script (node_of w p) q frame) k.keeps.step (born other) k.keeps.is_step)

    -- a node that was born is so still
    still-born : (o : Option Step) → is_born (node_of w p) ≡ true → Of (StageIs (stage_of w p)) o
        → Of (λ s. let n : Node = s.node in is_born_stage n.stage ≡ true) o
    still-born None born stays = tt
    still-born (Some s) born stays =
        let n : Node = s.node
        in ap is_born_stage stays ∙ born-stage (stage_of w p) born

    -- where it strikes nobody it is the event
    alone : ((s : Step) → take_by_kind script (node_of w p) q frame ≡ Some s → IsCalm s) → CallerIsNode script frame
        → Keeps script w (events.Take p q) (AfterFrame script w b holds p q rest frame) → Lightly p q
    alone calm of_node k =
        let after : Beside = k.beside
        in record {
          beside = k.beside;
          keeps = k.keeps;
          falls = each-take-falls script w b holds in-order p q rest after.call frame after.call h of_node k.after
              (λ s is. calm-is-light script s after.call (calm s is));
        }

    calm : strikes_nobody frame ≡ true → (s : Step) → take_by_kind script (node_of w p) q frame ≡ Some s → IsCalm s
    calm nobody s is =
        of-some IsCalm (take_by_kind script (node_of w p) q frame) s (calm-rule script (node_of w p) q frame nobody) is

    kept : strikes_nobody frame ≡ true → CallerIsNode script frame → (beside : Beside)
        → AfterFrame script w b holds p q rest frame beside.call → KeepsAs script w (events.Take p q) beside
        → Lightly p q
    kept nobody of_node beside after keeps =
        alone (calm nobody) of_node (record { beside = beside; keeps = keeps; after = after })

    -- a frame that only the leader takes, or that only it sends
    at-leader : p ≡ 1 → (Heads script w 1 q frame rest → Lightly 1 q) → Lightly p q
    at-leader e goes =
        subst (λ y. Lightly y q) (sym e) (goes (subst (λ y. Heads script w y q frame rest) e h))

    from-leader : q ≡ 1 → (Heads script w p 1 frame rest → Lightly p 1) → Lightly p q
    from-leader e goes =
        subst (λ y. Lightly p y) (sym e) (goes (subst (λ y. Heads script w p y frame rest) e h))

    -- a rule that leaves one call in such a place
    moved-so : (c : ℕ) (P Q : CallPlace → Type 0) → ((place : CallPlace) → P place → Q place)
        → RuleKeeps script w p q frame rest (λ after. IsMoved b.call after c P)
        → RuleKeeps script w p q frame rest (λ after. IsMoved b.call after c Q)
    moved-so c P Q fits k =
        let after : Beside = k.beside
        in let m : IsMoved b.call after.call c P = k.after
        in record {
          beside = k.beside;
          keeps = k.keeps;
          after = record { place = m.place; calls = m.calls; fits = fits m.place m.fits };
        }

  -- ---- at the leader, with something for its hand

  leader-bounded : NodeIsBounded script (node_of w 1)
  leader-bounded = bounded.nodes 1 (omega arith) (some-blocks script sound)

  ask-taken : (q ticket pid : ℕ) (call : Call) (rest : List Frame)
      → Heads script w 1 q (frames.Ask ticket pid call) rest
      → RuleKeepsLightly script w 1 q (frames.Ask ticket pid call) rest b
  ask-taken q ticket pid call rest h =
      let asked : Asked = record { caller = q; ticket = ticket; pid = pid; call = call }
      in let name : Name = name_removed (home_of pid call)
      in ask-goes-lightly script name (IsGoodFor script sound name) (hand-goes-on script sound name) w b holds q rest
      ticket pid call h (never-withdraws script sound) (
        taken-is-good script w q (frames.Ask ticket pid call) rest (step_to (node_of w 1)) (Request asked ∷ [])
            holds.shape bounded h
            (step-to-bounded script (node_of w 1) leader-bounded)
            (record { low = h.low_from; high = h.high_from }, tt),
        (removes-its-own (home_of pid call), tt),
      )

  bounce-taken : (q : ℕ) (asked : Asked) (rest : List Frame) → Heads script w 1 q (frames.Bounce asked) rest
      → RuleKeepsLightly script w 1 q (frames.Bounce asked) rest b
  bounce-taken q asked rest h =
      let own = bounce-is-of-node script w [] b ready 1 q asked rest h
      in let name : Name = name_removed (home_of asked.pid asked.call)
      in bounce-goes-lightly script name (IsGoodFor script sound name) (hand-goes-on script sound name) w b holds q rest
      asked h own.low own.high (never-withdraws script sound) (
        taken-is-good script w q (frames.Bounce asked) rest (step_to (node_of w 1)) (Request asked ∷ []) holds.shape
            bounded h
            (step-to-bounded script (node_of w 1) leader-bounded) (own, tt),
        (removes-its-own (home_of asked.pid asked.call), tt),
      )

  give-back-taken : (q : ℕ) (packed : PackedDeed) (rest : List Frame) → Heads script w 1 q (frames.GiveBack packed) rest
      → RuleKeepsLightly script w 1 q (frames.GiveBack packed) rest b
  give-back-taken q packed rest h =
      let n : Node = node_of w 1
      in let own : NodeIsBounded script n = leader-bounded
      in let its : NameHolds script b.pids (is_born_in w) packed.name (name_sight script w [] b packed.name) =
      holds.names packed.name
      in give-back-goes-lightly script packed (IsGoodFor script sound packed.name)
      (hand-goes-on script sound packed.name) w b holds q rest h ready.at_nodes ready.reads
      (held-of-nodes packed.name) (
        taken-is-good script w q (frames.GiveBack packed) rest
            (pass_on n packed.name (b.body packed.name)
            (goes_on_to (directory_of w) (bound_for (directory_of w) packed.name)))
            (held_for (directory_of w) packed.name) holds.shape bounded h
            (passed-on-bounded script n packed.name (b.body packed.name) own
            (names-nodes script (b.body packed.name)
            (all-nodes script (waiters_of (b.body packed.name)) its.callers)))
            (held-are-of-nodes script (directory_of w) packed.name own.directory),
        items-only packed.name (held_for (directory_of w) packed.name) its.items,
      )

  left-taken : (q : ℕ) (parcel : Parcel) (rest : List Frame) → Heads script w 1 q (frames.Left parcel) rest
      → RuleKeepsLightly script w 1 q (frames.Left parcel) rest b
  left-taken q parcel rest h =
      left-goes-lightly script (Proc 0) (IsGoodFor script sound (Proc 0)) (hand-goes-on script sound (Proc 0)) w b holds
      q rest parcel h ready.at_nodes ready.reads (
        taken-is-good script w q (frames.Left parcel) rest
            (step_to (with_directory (node_of w 1) (with_left (directory_of w) q))) (Ending parcel ∷ [])
            holds.shape bounded h (left-noted-bounded script (node_of w 1) q leader-bounded)
            (tt, tt),
        (tt, tt),
      )

  -- ---- other frames

  requested-so : (p : ℕ) (asked : Asked) (place : CallPlace) → IsRequested w p asked place
      → IsServedOr w p asked (InNotOwner p) place 7
  requested-so p asked place (inl served) =
      let light = served-light (node_of w p) asked place served
      in let most = at-most-seven (nobody_reads (node_of w p) asked)
      in inl (omega (arith, light, most))
    where
      at-most-seven : (nobody : Bool) → served_limit nobody ≤ 7
      at-most-seven true = omega arith
      at-most-seven false = omega arith
  requested-so p asked place (inr back) = inr back

  -- a node that isn't the leader asks that again
  asks-calmly : (p ticket : ℕ) → is_leader (node_of w p) ≡ false
      → Of IsCalm (take_not_owner script (node_of w p) ticket)
  asks-calmly p ticket other =
      of-next IsCalm (under_way_as (node_of w p) ticket)
      (λ call. ask_after script (node_of w p) call (home_of (node_of w p).pid call))
      (λ call is. by-home call (home_of (node_of w p).pid call))
    where
      by-home : (call : Call) (home : Home) → Of IsCalm (ask_after script (node_of w p) call home)
      by-home call (homes.At name) =
          let after : Step = step_to (with_forgotten (node_of w p) name)
          in subst
          (λ t. Of IsCalm (if t then route_call script after (asked_here (with_forgotten (node_of w p) name) call)
          else Some (send after 1 (frames.Ask (node_of w p).caller.ticket (node_of w p).pid call))))
          (sym other) refl
      by-home call home = tt

  other-is-follower : (p q : ℕ) (frame : Frame) (rest : List Frame) → Heads script w p q frame rest → p ≢ 1
      → is_leader (node_of w p) ≡ false
  other-is-follower p q frame rest h other =
      let n : NodeHolds script b.pids (is_born_in w) p (node_of w p) = holds.nodes p h.low h.high
      in ne_eqb (node_of w p).number 1 (λ e. other (sym n.number ∙ e))

  not-owner-found : (p q ticket : ℕ) (rest : List Frame) → Heads script w p q (frames.NotOwner ticket) rest
      → Lightly p q
  not-owner-found p q ticket rest h =
      elim (cases_eq p 1) [
        | inl first ↦
            at-leader p q (frames.NotOwner ticket) rest h first
            (λ g. by-rule 1 q (frames.NotOwner ticket) rest g (λ other. absurd (other refl)) tt
            (moved-so 1 q (frames.NotOwner ticket) rest g 1 (IsRoutedAgain w) (IsAskedAgain w 1)
            (λ place fits. inr (
              refl,
              (λ call is. placed-light (node_of w 1) (asked_here (node_of w 1) call) place (fits call is)),
            ))
            (not-owner-has-step script w b holds q ticket rest g ready.never_withdraws (few-blocks script sound)
            (leader-is-ready script sound w [] b ready))))
        | inr other ↦
            let k : Keeps script w (events.Take p q) (λ after. IsMoved b.call after p (λ place. place ≡ InAsk)) =
            not-owner-taken script w b holds p q ticket rest h other ready.never_withdraws
            in let after : Beside = k.beside
            in let m : IsMoved b.call after.call p (λ place. place ≡ InAsk) = k.after
            in alone p q (frames.NotOwner ticket) rest h
            (λ s is. of-some IsCalm (take_not_owner script (node_of w p) ticket) s
            (asks-calmly p ticket (other-is-follower p q (frames.NotOwner ticket) rest h other)) is) tt
            (record {
              beside = k.beside;
              keeps = k.keeps;
              after = record { place = m.place; calls = m.calls; fits = inl (other, m.fits) };
            })
      ]

  module _ (p q : ℕ) (rest : List Frame) where
    forward-found : (asked : Asked) → Heads script w p q (frames.Forward asked) rest → is_born (node_of w p) ≡ true
        → Lightly p q
    forward-found asked h born =
        let own = forward-is-of-node script w [] b ready p q asked rest h
        in by-rule p q (frames.Forward asked) rest h
        (λ other. still-born p q (frames.Forward asked) rest h (take_forward script (node_of w p) q asked) born
        (forward-stays script (node_of w p) q asked)) (own.low, own.high)
        (forward-taken-from script w b holds p q asked rest h own.low own.high born ready.never_withdraws
        (few-blocks script sound))

    -- a withdrawal comes
    cancel-found : (asked : Asked) → Heads script w p q (frames.Cancel asked) rest → is_born (node_of w p) ≡ true
        → Lightly p q
    cancel-found asked h born =
        let own : IsNode script asked.caller = cancel-is-of-node script w [] b ready p q asked rest h
        in let k : RuleKeeps script w p q (frames.Cancel asked) rest (AreStill b.call) =
        cancel-taken script w b holds p q asked rest h own.low own.high ready.at_nodes
        in let leads : LeadsRightly (node_of w 1) = leader-leads script sound w [] Nothing b holds ready
        in by-rule p q (frames.Cancel asked) rest h
        (λ other. still-born p q (frames.Cancel asked) rest h (take_cancel script (node_of w p) asked) born
        (cancel-stays script (node_of w p) asked)) tt
        (record {
          beside = k.beside;
          keeps = k.keeps;
          after = (
            k.after,
            record { nodes = leads.nodes; stays = never-goes-back script w b holds p q asked rest h own.low own.high },
          );
        })

    lease-ask-found : (kind : Kind) → Heads script w p q (frames.LeaseAsk kind) rest → p ≡ 1
        → Lightly p q
    lease-ask-found kind h first =
        at-leader p q (frames.LeaseAsk kind) rest h first
        (λ g. kept 1 q (frames.LeaseAsk kind) rest g refl tt _
        (record { place = HasLease kind _; calls = λ y. is_still refl; fits = (_, refl) })
        (lease-ask-keeps script w b holds q kind (ready.enough kind) rest g))

    lease-found : (kind : Kind) (first : ℕ) → Heads script w p q (frames.Lease kind first) rest → q ≡ 1
        → Lightly p q
    lease-found kind first h sender =
        from-leader p q (frames.Lease kind first) rest h sender
        (λ g. alone p 1 (frames.Lease kind first) rest g (calm p 1 (frames.Lease kind first) rest g refl) tt
        (lease-keeps script sound w b holds p kind first rest g (let r = ready.rises p in r.processes)
        (ready.sized p g.low g.high) (ready.few kind)))

    suggest-found : (name : Name) (node : ℕ) → Heads script w p q (frames.Suggest name node) rest → p ≡ 1
        → Lightly p q
    suggest-found name node h first =
        at-leader p q (frames.Suggest name node) rest h first
        (λ g. kept 1 q (frames.Suggest name node) rest g refl tt _ (λ y. is_still refl)
        (suggest-keeps script w b holds q name node rest g))

    recall-found : (name : Name) → Heads script w p q (frames.Recall name) rest → q ≡ 1
        → Lightly p q
    recall-found name h sender =
        from-leader p q (frames.Recall name) rest h sender
        (λ g. kept p 1 (frames.Recall name) rest g refl tt _ (λ y. is_still refl)
        (recall-keeps script w b holds p name rest g))

    grant-found : (deed : PackedDeed) → Heads script w p q (frames.Grant deed) rest → q ≡ 1
        → Lightly p q
    grant-found deed h sender =
        from-leader p q (frames.Grant deed) rest h sender
        (λ g. kept p 1 (frames.Grant deed) rest g refl tt _ (λ y. is_still refl)
        (grant-keeps script w b holds ready.reads p deed rest g))

    exit-found : (parcel : Parcel) → Heads script w p q (frames.ExitTo parcel) rest → is_born (node_of w p) ≡ true
        → q ≡ 1 → Lightly p q
    exit-found parcel h born sender =
        from-leader p q (frames.ExitTo parcel) rest h sender
        (λ g. by-rule p 1 (frames.ExitTo parcel) rest g
        (λ other. still-born p 1 (frames.ExitTo parcel) rest g (take_exit script (node_of w p) 1 parcel) born
        (exit-stays script (node_of w p) 1 parcel)) tt
        (exit-to-keeps script w b holds ready.reads p parcel rest g))

    -- Each frame at the head of a stream that its receiver may take has a step.
    pub frame-taken : (frame : Frame) → Heads script w p q frame rest
        → (is_born (node_of w p) || is_checkpoint frame) ≡ true → MayBe script (is_born_in w) p q frame
        → Lightly p q
    frame-taken (frames.Ask ticket pid call) h may fits =
        at-leader p q (frames.Ask ticket pid call) rest h fits
        (λ g. struck script sound w b holds bounded 1 q (frames.Ask ticket pid call) rest g
        (ask-taken q ticket pid call rest g)
        (λ other. absurd (other refl)))
    frame-taken (frames.Request ticket pid call) h may fits =
        by-rule p q (frames.Request ticket pid call) rest h
        (λ other. still-born p q (frames.Request ticket pid call) rest h
        (take_request script (node_of w p) q ticket pid call) (or-false (is_born (node_of w p)) may)
        (request-stays script (node_of w p) q ticket pid call)) tt
        (moved-so p q (frames.Request ticket pid call) rest h q
        (IsRequested w p (record { caller = q; ticket = ticket; pid = pid; call = call })) _
        (requested-so p (record { caller = q; ticket = ticket; pid = pid; call = call }))
        (request-taken-anywhere script w b holds p q ticket pid call rest h ready.never_withdraws
        (few-blocks script sound)
        (let leads : IsReady (node_of w 1) = leader-is-ready script sound w [] b ready in leads.watches)))
    frame-taken (frames.Forward asked) h may fits = forward-found asked h (or-false (is_born (node_of w p)) may)
    frame-taken (frames.Bounce asked) h may fits =
        at-leader p q (frames.Bounce asked) rest h fits
        (λ g. struck script sound w b holds bounded 1 q (frames.Bounce asked) rest g (bounce-taken q asked rest g)
        (λ other. absurd (other refl)))
    frame-taken (frames.Answer ticket reply) h may fits =
        kept p q (frames.Answer ticket reply) rest h refl tt _
        (record { place = Idle; calls = λ y. is_still refl; fits = refl })
        (answer-keeps script w b holds p q ticket reply rest h)
    frame-taken (frames.NotOwner ticket) h may fits = not-owner-found p q ticket rest h
    frame-taken (frames.LeaseAsk kind) h may fits = lease-ask-found kind h fits
    frame-taken (frames.Lease kind first) h may fits = lease-found kind first h fits
    frame-taken (frames.Placed name node) h may fits =
        kept p q (frames.Placed name node) rest h refl tt _ (λ y. is_still refl)
        (placed-keeps script w b holds p q name node rest h)
    frame-taken (frames.Checkpoint pid parent deed vars) h may fits =
        kept p q (frames.Checkpoint pid parent deed vars) rest h refl tt _ (λ y. is_still refl)
        (checkpoint-keeps script w b holds ready.reads p q pid parent deed vars rest h)
    frame-taken (frames.Suggest name node) h may fits = suggest-found name node h fits.0
    frame-taken (frames.Recall name) h may fits = recall-found name h fits.0
    frame-taken (frames.GiveBack deed) h may fits =
        at-leader p q (frames.GiveBack deed) rest h fits
        (λ g. struck script sound w b holds bounded 1 q (frames.GiveBack deed) rest g (give-back-taken q deed rest g)
        (λ other. absurd (other refl)))
    frame-taken (frames.Grant deed) h may fits = grant-found deed h fits.0
    frame-taken (frames.Leaving pid parent parent_node) h may fits =
        kept p q (frames.Leaving pid parent parent_node) rest h refl tt _ (λ y. is_still refl)
        (leaving-keeps script w b holds p q pid parent parent_node rest h)
    frame-taken frames.RecallAll h may fits =
        kept p q frames.RecallAll rest h refl tt _ (λ y. is_still refl)
        (any-recall-all-keeps script w b holds p q rest h (ready.rises p))
    frame-taken (frames.Left parcel) h may fits =
        at-leader p q (frames.Left parcel) rest h fits
        (λ g. struck script sound w b holds bounded 1 q (frames.Left parcel) rest g (left-taken q parcel rest g)
        (λ other. absurd (other refl)))
    frame-taken (frames.ExitTo parcel) h may fits =
        exit-found parcel h (or-false (is_born (node_of w p)) may) fits
    frame-taken (frames.Cancel asked) h may fits = cancel-found asked h (or-false (is_born (node_of w p)) may)

  -- Each enabled event that takes a frame has a step, and keeps all.
  pub take-keeps : (p q : ℕ) → is_enabled w (events.Take p q) ≡ true → Lightly p q
  take-keeps p q enabled =
      let t : IsTaken script w p q = enabled-takes script w p q holds.shape enabled
      in frame-taken p q t.rest t.frame t.heads t.may
      (head-may-be script w p q t.frame t.rest t.heads (is_born_in w) holds.frames_fit)
