-- Events in which the leader routes calls or ends a process: where its hand goes on with each call in its place, there
-- is a step that keeps all and lowers the weight.
use Rattle.std.proofs.Common.{◌≡◌, true, ℕ, ◌≤◌, List, [], ◌∷◌, Option, Some, sym, subst, ◌∙◌, arith}
use Rattle.pico_base.specs.declared.call.Call.{Call}
use Rattle.pico_base.specs.declared.numbers.Name.{Name}
use Rattle.pico_base.specs.declared.script.Event.{Event}
use Rattle.pico_base.specs.declared.script.Event.TheVariants as events
use Rattle.pico_base.specs.declared.script.Script.{Script}
use Rattle.rpc_frame.specs.declared.asked.Asked.{Asked}
use Rattle.rpc_frame.specs.declared.deed.Parcel.{Parcel}
use Rattle.rpc_frame.specs.declared.frame.Frame.{Frame}
use Rattle.rpc_frame.specs.declared.frame.Frame.TheVariants as frames
use Rattle.kernel_laws.proofs.Plain.{from_some}
use Rattle.node_model.specs.declared.held.Held.{Held}
use Rattle.node_model.specs.declared.held.Held.TheVariants.{Request, Ending}
use Rattle.rpc_frame.specs.declared.deed.PackedDeed.{PackedDeed}
use Rattle.node_model.specs.Bodies.{Body}
use Rattle.node_model.specs.Directory.{bound_for, held_for, with_left}
use Rattle.world_model.specs.Moves.{goes_on_to, pass_on}
use Rattle.std.specs.List.{AllByRecursion}
use Rattle.world_model.specs.Releases.{release}
use Rattle.world_model.specs.Node.{Node, is_leader}
use Rattle.world_model.specs.Strikes.{strike}
use Rattle.world_model.specs.Step.{Step, step_to, with_directory}
use Rattle.world_model.specs.World.{World, node_count, world_after}
use Rattle.world_laws.specs.Deeds.{DeedsAreRead}
use Rattle.world_laws.specs.Invariant.{Holds, IsShaped}
use Rattle.world_laws.specs.Places.{Beside, CallPlace, IsInHand, call_in}
use Rattle.world_laws.specs.Sights.{directory_of, node_of}
use Rattle.world_laws.proofs.Steps.{Heads, KeepsAs, struck-steps, world_without}
use Rattle.route_laws.proofs.Owed.{KeepsByRule}
use Rattle.route_laws.proofs.cancels.Strikes.{StrikeKeeps}
use Rattle.route_laws.proofs.hand.Noted.{HoldsAfter}
use Rattle.route_laws.proofs.release.GiveBacks.{give-back-in-hand, give-back-releases, given-is-read}
use Rattle.route_laws.proofs.release.TakenUp.{taken_up}
use Rattle.weight_laws.proofs.Counts.{IsOfNode}
use Rattle.weight_laws.proofs.GiveBacks.{give-back-falls}
use Rattle.route_laws.proofs.hand.Asks.{NeverWithdraws, ask-in-hand, ask-keeps, is-call as ask-is-call}
use Rattle.route_laws.proofs.hand.Bounces.{bounce-in-hand, bounce-keeps, is-call as bounce-is-call}
use Rattle.rule_laws.proofs.ends.Directories.{KnowsNodes}
use Rattle.rule_laws.proofs.ends.Lefts.{at_leader, left-in-hand}
use Rattle.rule_laws.proofs.ends.Releases.{left-releases}
use Rattle.rule_laws.proofs.own.Moved.{AreStill, IsMoved, moved-twice}
use Rattle.weight_laws.specs.Weights.{Falls, middle_weight}
use Rattle.weight_laws.proofs.Cancels.{LeadsRightly, strike-costs}
use Rattle.weight_laws.proofs.Costs.{MayEndIf, RisesBesides}
use Rattle.weight_laws.proofs.Events.{StrikesLightly, TakesLower, take-falls, takes-woken}
use Rattle.weight_laws.proofs.HandSteps.{IsRoutedBy, LightRoute}
use Rattle.weight_laws.proofs.LeftFalls.{left-falls}
use Rattle.weight_laws.proofs.LightRounds.{EmptiesLightly, RoutesLightly, release-is-light}
use Rattle.weight_laws.proofs.RouteFalls.{ask-falls, bounce-falls}
use Rattle.weight_laws.proofs.Sums.{calls-woken}

-- the event has a step that keeps all, with something beside the world, and lowers the weight
pub record KeepsLightly (script : Script) (w : World) (e : Event) (b : Beside) : Type 0 where
  pub beside : Beside
  pub keeps : KeepsAs script w e beside
  pub falls : Falls script w e b.call beside.call

-- A frame's rule has a step that keeps all, but for the strike that is owed then, and lowers the weight.
pub record RuleKeepsLightly (script : Script) (w : World) (p q : ℕ) (frame : Frame) (rest : List Frame)
    (b : Beside) : Type 0 where
  pub beside : Beside
  pub keeps : KeepsByRule script w p q frame rest beside
  pub lowers : TakesLower script w p q frame b.call beside.call

module _ (script : Script) (w : World) (p q : ℕ) (frame : Frame) (rest : List Frame) (b : Beside)
    (shape : IsShaped script w) (h : Heads script w p q frame rest) (r : RuleKeepsLightly script w p q frame rest b)
  where
    abbrev mid : Beside
    mid = r.beside

    abbrev by-rule : KeepsByRule script w p q frame rest mid
    by-rule = r.keeps

    abbrev begins : World
    begins = world_without w p q rest

    strike-is-light : (last : ℕ → CallPlace) → AreStill mid.call last → MayEndIf script by-rule.step.node
        → RisesBesides by-rule.step.node
        → ((let n : Node = by-rule.step.node in is_leader n ≡ true) → LeadsRightly by-rule.step.node)
        → StrikesLightly script by-rule.step mid.call last
    strike-is-light last still may rises leads =
        let cost = strike-costs script by-rule.step may rises leads
        in let fewer = calls-woken script mid.call last still
        in record { light = omega (arith, cost, fewer) }

    -- With the strike behind it, it is the event.
    pub struck-lightly : MayEndIf script by-rule.step.node → RisesBesides by-rule.step.node
        → ((let n : Node = by-rule.step.node in is_leader n ≡ true) → LeadsRightly by-rule.step.node)
        → StrikeKeeps script begins p by-rule.step mid → KeepsLightly script w (events.Take p q) b
    struck-lightly may rises leads strikes =
        let last : Beside = strikes.beside
        in record {
          beside = strikes.beside;
          keeps = record {
            next = world_after begins p (strike script by-rule.step);
            is_step = struck-steps script w p q frame rest by-rule.step shape h by-rule.is_step;
            holds = strikes.holds;
          };
          falls = take-falls script w p q frame rest b.call mid.call last.call shape h r.lowers
              (λ s is. subst (λ (x : Step). StrikesLightly script x mid.call last.call)
              (from_some by-rule.step s (sym by-rule.is_step ∙ is))
              (strike-is-light last.call strikes.calls may rises leads));
        }

-- a step to which a release has come
last-is-light : (script : Script) (Good : World → Step → List Held → Type 0) (v : World) (from_weight : ℕ)
    (came_to : Option Step) (e : EmptiesLightly script Good v from_weight came_to) (t : Step) → came_to ≡ Some t
    → (let after : Beside = e.beside in middle_weight script t [] after.call ≤ from_weight)
last-is-light script Good v from_weight came_to e t is =
    let after : Beside = e.beside
    in subst (λ (s : Step). middle_weight script s [] after.call ≤ from_weight) (from_some _ _ (sym e.is_last ∙ is))
    e.lower

module _ (script : Script) (name : Name) (Good : World → Step → List Held → Type 0)
    (all : RoutesLightly script name Good) (w : World) (b : Beside) (holds : Holds script w [] b) (q : ℕ)
    (rest : List Frame) where
  abbrev v : World
  v = world_without w 1 q rest

  -- A node asks for a call.
  pub ask-goes-lightly : (ticket pid : ℕ) (call : Call) → Heads script w 1 q (frames.Ask ticket pid call) rest
      → NeverWithdraws script
      → Good v (step_to (node_of w 1))
      (Request (record { caller = q; ticket = ticket; pid = pid; call = call }) ∷ [])
      → RuleKeepsLightly script w 1 q (frames.Ask ticket pid call) rest b
  ask-goes-lightly ticket pid call h never good =
      let asked : Asked = record { caller = q; ticket = ticket; pid = pid; call = call }
      in let has : LightRoute script v (step_to (node_of w 1)) asked []
      (record b { call = call_in b.call q IsInHand }) =
      all.routes v (step_to (node_of w 1)) asked [] (record b { call = call_in b.call q IsInHand })
      (ask-in-hand script w b holds q ticket pid call rest h never) good
      (ask-is-call script w b holds q ticket pid call rest h never)
      in let after : Beside = has.beside
      in let moved : IsMoved b.call after.call q (IsRoutedBy (step_to (node_of w 1)) asked) =
      moved-twice b.call after.call q IsInHand (IsRoutedBy (step_to (node_of w 1)) asked) has.moved
      in record {
        beside = has.beside;
        keeps = ask-keeps script w b holds q ticket pid call rest h never has.beside has.keeps;
        lowers = takes-woken script w 1 q (frames.Ask ticket pid call) b.call (call_in b.call q moved.place) after.call
            moved.calls (ask-falls script w b holds q rest ticket pid call h moved.place moved.fits);
      }

  -- A call comes back that a node couldn't carry out.
  pub bounce-goes-lightly : (asked : Asked) → Heads script w 1 q (frames.Bounce asked) rest → 1 ≤ asked.caller
      → asked.caller ≤ node_count script → NeverWithdraws script
      → Good v (step_to (node_of w 1)) (Request asked ∷ [])
      → RuleKeepsLightly script w 1 q (frames.Bounce asked) rest b
  bounce-goes-lightly asked h low high never good =
      let has : LightRoute script v (step_to (node_of w 1)) asked []
      (record b { call = call_in b.call asked.caller IsInHand }) =
      all.routes v (step_to (node_of w 1)) asked [] (record b { call = call_in b.call asked.caller IsInHand })
      (bounce-in-hand script w b holds q asked rest h low high never) good
      (bounce-is-call script w b holds q asked rest h low high never)
      in let after : Beside = has.beside
      in let moved : IsMoved b.call after.call asked.caller (IsRoutedBy (step_to (node_of w 1)) asked) =
      moved-twice b.call after.call asked.caller IsInHand (IsRoutedBy (step_to (node_of w 1)) asked) has.moved
      in record {
        beside = has.beside;
        keeps = bounce-keeps script w b holds q asked rest h low high never has.beside has.keeps;
        lowers = takes-woken script w 1 q (frames.Bounce asked) b.call (call_in b.call asked.caller moved.place)
            after.call moved.calls (bounce-falls script w b holds q rest asked h low high never moved.place moved.fits);
      }

  -- A node has handed over all, and its process's end goes to where the parent is.
  pub left-goes-lightly : (parcel : Parcel) → Heads script w 1 q (frames.Left parcel) rest
      → KnowsNodes (directory_of w) → DeedsAreRead b.kernel b.body
      → Good v (step_to (with_directory (node_of w 1) (with_left (directory_of w) q))) (Ending parcel ∷ [])
      → RuleKeepsLightly script w 1 q (frames.Left parcel) rest b
  left-goes-lightly parcel h at_nodes reads good =
      let taken : Step = step_to (with_directory (node_of w 1) (with_left (directory_of w) q))
      in let e : EmptiesLightly script Good v (middle_weight script taken (Ending parcel ∷ []) b.call)
      (release script (Ending parcel ∷ []) taken) =
      release-is-light script name Good all v (Ending parcel ∷ []) taken
      (record b { deed = λ m. at_leader q (b.deed m) }) (left-in-hand script w b holds q parcel rest h) good
      in let after : Beside = e.beside
      in record {
        beside = e.beside;
        keeps = record {
          step = e.last;
          is_step = left-releases script w b holds at_nodes reads q parcel rest h ∙ e.is_last;
          holds = e.holds;
        };
        lowers = left-falls script w b holds q parcel rest h after.call
            (λ t is. last-is-light script Good v (middle_weight script taken (Ending parcel ∷ []) b.call)
            (release script (Ending parcel ∷ []) taken) e t is);
      }

-- ---- a deed comes back

module _ (script : Script) (packed : PackedDeed) (Good : World → Step → List Held → Type 0)
    (all : RoutesLightly script packed.name Good) (w : World) (b : Beside) (holds : Holds script w [] b) (q : ℕ)
    (rest : List Frame) (h : Heads script w 1 q (frames.GiveBack packed) rest) (at_nodes : KnowsNodes (directory_of w))
    (reads : DeedsAreRead b.kernel b.body)
    (of_nodes : AllByRecursion (IsOfNode script) (held_for (directory_of w) packed.name)) where
  abbrev home : World
  home = world_without w 1 q rest

  abbrev held : List Held
  held = held_for (directory_of w) packed.name

  abbrev up : ℕ → CallPlace
  up y = taken_up packed.name (b.call y)

  -- the leader's step, with this deed
  abbrev with-deed : Body → Step
  with-deed body =
      pass_on (node_of w 1) packed.name body
      (goes_on_to (directory_of w) (bound_for (directory_of w) packed.name))

  abbrev taken : Step
  taken = with-deed (b.body packed.name)

  middle : HoldsAfter script home taken held up
  middle = give-back-in-hand script w b holds at_nodes reads q packed rest h

  abbrev begun : Beside
  begun = middle.beside

  -- It goes on or stays, and what was held for it is released.
  pub give-back-goes-lightly : Good home taken held → RuleKeepsLightly script w 1 q (frames.GiveBack packed) rest b
  give-back-goes-lightly good =
      let e : EmptiesLightly script Good home (middle_weight script taken held begun.call)
      (release script held taken) =
      release-is-light script packed.name Good all home held taken middle.beside middle.holds good
      in let after : Beside = e.beside
      in record {
        beside = e.beside;
        keeps = record {
          step = e.last;
          is_step = give-back-releases script w b holds at_nodes reads q packed rest h ∙ e.is_last;
          holds = e.holds;
        };
        lowers = give-back-falls script w b holds q packed rest h of_nodes after.call
            (λ body t read. subst (λ (x : Body). release script held (with-deed x) ≡ Some t
            → middle_weight script t [] after.call ≤ middle_weight script (with-deed x) held up)
            (from_some (b.body packed.name) body
            (sym (given-is-read script w b holds at_nodes reads q packed rest h) ∙ read))
            (λ is. let less = last-is-light script Good home (middle_weight script taken held begun.call)
            (release script held taken) e t is
            in let fewer = calls-woken script up begun.call middle.calls
            in omega (arith, less, fewer)));
      }
