-- Each call under way is in one place until it is carried out, and then its reply is.
use Rattle.std.proofs.Common.{◌≡◌, ◌⊎◌, ℕ, ◌<◌, ◌≤◌, Bool, true, false, ◌&&◌, [], Option, Some, None, option_and_then, Contains, refl, ap, sym, subst, ◌∙◌, inl, inr, arith}
use Rattle.std.proofs.lemmas.Bool.{eqb-true, false≢true}
use Rattle.pico_base.specs.declared.call.Call.{Call}
use Rattle.pico_base.specs.declared.call.Home.{Home}
use Rattle.pico_base.specs.declared.numbers.Name.{Name}
use Rattle.pico_base.specs.declared.numbers.Name.TheVariants.{Proc}
use Rattle.pico_base.specs.declared.reply.Reply.{Reply}
use Rattle.pico_base.specs.declared.script.Script.{Script}
use Rattle.pico_base.specs.Home.{home_of}
use Rattle.rpc_frame.specs.declared.asked.Asked.{Asked}
use Rattle.rpc_frame.specs.declared.deed.Parcel.{Parcel}
use Rattle.rpc_frame.specs.declared.frame.Frame.{Frame}
use Rattle.rpc_frame.specs.declared.frame.Frame.TheVariants as frames
use Rattle.kernel_laws.proofs.People.{from-living}
use Rattle.kernel_laws.proofs.Plain.{from_some, not_some}
use Rattle.kernel_model.specs.Kernel.{Process, alive_in, living_at as plain_living_at}
use Rattle.kernel_model.specs.Kernel as kernel
use Rattle.kernel_model.specs.Row.{Alive}
use Rattle.entry_laws.specs.Entering.{HasRow}
use Rattle.entry_laws.proofs.Bodies.{body-living}
use Rattle.node_model.specs.declared.held.Held.{Held}
use Rattle.node_model.specs.declared.held.Held.TheVariants.{Request, Ending}
use Rattle.waiting_model.specs.Calls.{may_park}
use Rattle.waiting_model.specs.Kernel.{living_at}
use Rattle.node_model.specs.Bodies.{Body, Deeds, Living as LivingBody, bare}
use Rattle.node_model.specs.Carrying.{is_own_home}
use Rattle.node_model.specs.Directory.{held_for}
use Rattle.node_model.specs.Kinds.{get_named, none_named}
use Rattle.world_model.specs.Census.{one_if}
use Rattle.world_model.specs.Lives.{is_end}
use Rattle.world_model.specs.Node.{Leaving, Left, Living, Node, Over, Stage, Unborn, is_leaving_stage}
use Rattle.world_model.specs.World.{World, node_count}
use Rattle.world_laws.specs.Callers.{HasCall, HasEnded, IsJustThere, IsSoFar, IsToBeMade as IsToBeMadeAt, asked_of, call_sight, frame_at, is_about, is_end_place, is_end_stage, is_held_at, is_in_hand, is_item_about, is_on, is_waiting_at, may_be_in, only_if}
use Rattle.world_laws.specs.Deeds.{DeedsAreRead}
use Rattle.world_laws.specs.Families.{FamilyHolds, HoldsIn, HoldsRow, IsAwaited, IsItsOwn, IsWhereFor, NodeHolds, RestsBelow, checkpoints_to}
use Rattle.world_laws.specs.Invariant.{Holds, process_deed}
use Rattle.world_laws.specs.Names.{HasDeed, NameHolds, forker, held_as, held_at, is_kept_for, name_sight, node_in}
use Rattle.world_laws.specs.Places.{AsksLease, Beside, CallPlace, DeedPlace, Ends, HasLease, Idle, InAnswer, InAsk, InBounce, InCheckpoint, InExitTo, InGiveBack, InGrant, InHand, InKept, InLeft, InNotOwner, InRequest, InTable, IsHeld, IsInHand, Parked, SentByPlace, SentByRange, Unmade, Waits}
use Rattle.world_laws.specs.Sights.{directory_of, frames_to, is_born_in, node_of, stage_of}
use Rattle.world_laws.specs.Ways.{IsParcelIn, kept as kept_in, under_way_of}
use Rattle.world_laws.proofs.NameFacts.{IsHeldAt, held-here, held-there as held-as-there}
use Rattle.bound_laws.specs.Bounded.{IsBounded}
use Rattle.rest_laws.proofs.Census.{is_way}
use Rattle.rest_laws.proofs.Nodes.{is_waiting_place}
use Rattle.rest_laws.proofs.Senders.{carrier}
use Rattle.rest_laws.proofs.Shaped.{unborn-has-nothing}
use Rattle.projection_laws.specs.Projection as page
use Rattle.projection_laws.specs.Projection.{HasOneAnswer, IsInNoPlace, IsInOnePlace, IsToBeMade, IsUnderWay, WaitsSomewhere, frames_that, has_call, item_has_call, items_that, places_with, waiting_places}
use Rattle.projection_laws.proofs.CallCounts.{answer-is, answers-counted, call-frame, calls-hold, ends-by-place, forked, frame-of-call, frames-counted, has-call, held-is-about, item-of-call, items-counted-none, items-counted-one, leaves-by-end, node-holds, not-an-end, own-number, parcel-is, pid-is}
use Rattle.projection_laws.proofs.CallPlaces.{answer-has-none, call_from, call_to, frame-has-call, is_answer, is_sent}
use Rattle.projection_laws.proofs.Deeds.{IsInParcel}
use Rattle.projection_laws.proofs.Ends as ends
use Rattle.projection_laws.proofs.Families.{not-in-hand}
use Rattle.projection_laws.proofs.HowFar as far
use Rattle.projection_laws.proofs.Parcels.{parcel-of-frame, parcel-of-item}
use Rattle.projection_laws.proofs.Views.{held-is, on-way}
use Rattle.projection_laws.proofs.Waiters.{parked-here, second-of, waits-nowhere, waits-there}

-- ---- places

sent-not-held : (place : CallPlace) → is_sent place ≡ true → (name : Name) → is_held_at place name ≡ false
sent-not-held (IsHeld other) sent name = absurd (false≢true sent)
sent-not-held place sent name = refl

answers-aren't-held : (place : CallPlace) → is_answer place ≡ true → (name : Name) → is_held_at place name ≡ false
answers-aren't-held (InAnswer h reply) is name = refl
answers-aren't-held place is name = absurd (false≢true is)

both-true : (s t : Bool) → s ≡ true → t ≡ true → (s && t) ≡ true
both-true s t e f = rw (e, f) refl

and-none : (s t : Bool) → t ≡ false → (s && t) ≡ false
and-none true t e = e
and-none false t e = refl

not-waiting-at : (place : CallPlace) (name : Name) → is_waiting_place place ≡ false → is_waiting_at place name ≡ false
not-waiting-at (Waits other) name busy = absurd (false≢true (sym busy))
not-waiting-at place name busy = refl

waits-are-busy : (place : CallPlace) → is_waiting_place place ≡ true → is_end_place place ≡ false
waits-are-busy Parked waits = refl
waits-are-busy (Waits name) waits = refl
waits-are-busy place waits = absurd (false≢true waits)

waits-unsent : (place : CallPlace) → is_waiting_place place ≡ true → is_sent place ≡ false
waits-unsent Parked waits = refl
waits-unsent (Waits name) waits = refl
waits-unsent place waits = absurd (false≢true waits)

waits-unanswered : (place : CallPlace) → is_waiting_place place ≡ true → is_answer place ≡ false
waits-unanswered Parked waits = refl
waits-unanswered (Waits name) waits = refl
waits-unanswered place waits = absurd (false≢true waits)

waits-unheld : (place : CallPlace) (name : Name) → is_waiting_place place ≡ true → is_held_at place name ≡ false
waits-unheld Parked name waits = refl
waits-unheld (Waits other) name waits = refl
waits-unheld place name waits = absurd (false≢true waits)

-- what waits may park, and is to be made
waits-parks : (place : CallPlace) (home : Home) (call : Call) → is_waiting_place place ≡ true
    → may_be_in place home call ≡ true → may_park call ≡ true
waits-parks Parked home call waits may = second-of (is_own_home home) (may_park call) may
waits-parks (Waits name) home call waits may = second-of (is_on name home) (may_park call) may
waits-parks place home call waits may = absurd (false≢true waits)

not-leaving : (s : Stage) → is_end_stage s ≡ false → is_leaving_stage s ≡ false
not-leaving Leaving e = absurd (false≢true (sym e))
not-leaving s e = refl

not-left : (s : Stage) → is_end_stage s ≡ false → s ≡ Left → ⊥
not-left s e is = false≢true (sym e ∙ ap is_end_stage is)

no-deeds : (name : Name) → (let m : Deeds = none_named in get_named m name) ≡ None
no-deeds name = unborn-has-nothing 0 name

nothing-is-one : {A : Type 0} (t : Bool) (x : A) → t ≡ true → [] ≡ only_if t x → ⊥
nothing-is-one true x e h = cc
nothing-is-one false x e h = false≢true e

-- ---- a call under way

module _ (script : Script) (w : World) (b : Beside) (holds : Holds script w [] b) (bounded : IsBounded script w [])
    (reads : DeedsAreRead b.kernel b.body) (p : ℕ) (low : 1 ≤ p) (high : p ≤ node_count script) (call : Call)
    (under : under_way_of w p ≡ Some call) where
  abbrev n : Node
  n = node_of w p

  abbrev place : CallPlace
  place = b.call p

  abbrev asked : Asked
  asked = asked_of (call_sight w [] b p) call

  has : HasCall script p (is_born_in w) (call_sight w [] b p) call
  has = has-call script w b holds p low high call under

  its-pid : n.pid ≡ b.pids p
  its-pid = pid-is script w b holds p low high call under

  stage-is : is_end_place place ≡ is_end_stage n.stage
  stage-is = let c = calls-hold script w b holds p low high call under in c.ends

  -- ---- how far it is

  abbrev IsToBe : Type 0
  IsToBe = IsToBeMadeAt script p (call_sight w [] b p) call

  to-be-made : is_waiting_place place ≡ false → IsToBe → IsToBeMade w p n
  to-be-made busy m = far.to-be-made script w b holds p low high call under busy m

  -- at no name it isn't among those who wait
  nowhere-waiting : is_waiting_place place ≡ false → waiting_places w p ≡ 0
  nowhere-waiting busy =
      waits-nowhere script w b holds bounded reads p low high call under (λ name. not-waiting-at place name busy)

  -- it is in one place, where it is counted once and there is no reply
  in-one : places_with w p n ≡ 1 → is_answer place ≡ false → IsInOnePlace w p n call
  in-one one unanswered =
      record {
        one = one;
        unanswered = answers-counted script w b holds p low high call under ∙ ap one_if unanswered;
        leaves = leaves-by-end script w b holds p low high call under;
        frame = λ to sender f is e.
            frame-of-call script w b holds p low high call under to sender f (on-way script w b holds to sender f is) e;
        item = λ name item is e.
            item-of-call script w b holds p low high call under name item (held-is script w b holds name item is) e;
      }

  -- ---- one that doesn't end its process

  module _ (busy : is_end_place place ≡ false) where
    working : is_end_stage n.stage ≡ false
    working = sym stage-is ∙ busy

    no-parcel : {A : Type 0} (parcel : Parcel) → IsParcelIn w [] parcel → parcel.pid ≡ n.pid → A
    no-parcel parcel at is =
        absurd
        (not-left n.stage working (parcel-is script w b holds p low high call under parcel at is).0)

    frame-of-it : (to sender : ℕ) (f : Frame) → Contains (frames_to w to sender) f → has_call p n.pid to sender f ≡ true
        → is_about p to sender f ≡ true
    frame-of-it to sender f at e =
        elim (call-frame p n.pid to sender f e) [
          | inl about ↦ about
          | inr q ↦ no-parcel q.0 (parcel-of-frame script w b holds to sender f q.0 at q.1) q.2
        ]

    item-of-it : (name : Name) (item : Held) → Contains (held_for (directory_of w) name) item
        → item_has_call p n.pid item ≡ true → is_item_about p item ≡ true
    item-of-it name (Request other) at e = e
    item-of-it name (Ending parcel) at e =
        no-parcel parcel (kept_in parcel.parent (parcel-of-item script w b holds name parcel at))
        (eqb-true parcel.pid n.pid e)

    frames-are : frames_that w (has_call p n.pid)
        ≡ one_if (is_sent place && has_call p n.pid (call_to place p) (call_from place p) (frame_at place asked))
    frames-are = frames-counted script w b holds p low high call under (has_call p n.pid) frame-of-it

    passes : (name : Name) → is_held_at place name ≡ true → item_has_call p n.pid (Request asked) ≡ true
    passes name at = held-is-about script w b holds p low high call under name at

    no-stage : one_if (is_leaving_stage n.stage) ≡ 0
    no-stage = ap one_if (not-leaving n.stage working)

    no-items : ((name : Name) → is_held_at place name ≡ false) → items_that w (item_has_call p n.pid) ≡ 0
    no-items none =
        items-counted-none script w b holds p low high call under (item_has_call p n.pid) item-of-it passes none

    in-stream : is_sent place ≡ true → is_answer place ≡ false → IsInOnePlace w p n call
    in-stream sent unanswered =
        let first =
        frames-are
        ∙ ap one_if
        (both-true (is_sent place) (has_call p n.pid (call_to place p) (call_from place p) (frame_at place asked)) sent
        (frame-has-call place p n.pid asked (own-number script w b holds p low high call under) sent unanswered))
        in let second = no-items (sent-not-held place sent)
        in let third = no-stage
        in in-one (omega (arith, first, second, third)) unanswered

    in-list : (name : Name) → place ≡ IsHeld name → IsInOnePlace w p n call
    in-list name at =
        let first =
        frames-are
        ∙ ap (λ q. one_if (is_sent q && has_call p n.pid (call_to q p) (call_from q p) (frame_at q asked))) at
        in let second =
        items-counted-one script w b holds p low high call under (item_has_call p n.pid) item-of-it passes name at
        in let third = no-stage
        in in-one (omega (arith, first, second, third)) (ap is_answer at)

    in-answer : (h : ℕ) (reply : Reply) → place ≡ InAnswer h reply → HasOneAnswer w p n reply
    in-answer h reply at =
        let first =
        frames-are
        ∙ ap one_if
        (and-none (is_sent place) (has_call p n.pid (call_to place p) (call_from place p) (frame_at place asked))
        (answer-has-none place p n.pid (call_to place p) (call_from place p) asked (ap is_answer at)))
        in let second = no-items (answers-aren't-held place (ap is_answer at))
        in let third = no-stage
        in record {
          one = answers-counted script w b holds p low high call under ∙ ap (λ q. one_if (is_answer q)) at;
          is = λ sender ticket other is.
              answer-is script w b holds p low high call under sender ticket reply other h at
              (on-way script w b holds p sender (frames.Answer ticket other) is);
          nowhere = omega (arith, first, second, third);
        }

  -- ---- one that waits

  module _ (waits : is_waiting_place place ≡ true) where
    parks : may_park call ≡ true
    parks = waits-parks place (home_of n.pid call) call waits has.home

    -- it is in no frame, in no list, and has no reply
    in-no-place : IsInNoPlace w p n
    in-no-place =
        let busy = waits-are-busy place waits
        in let first =
        frames-are busy
        ∙ ap (λ t. one_if (t && has_call p n.pid (call_to place p) (call_from place p) (frame_at place asked)))
        (waits-unsent place waits)
        in let second = no-items busy (λ name. waits-unheld place name waits)
        in let third = no-stage busy
        in record {
          nowhere = omega (arith, first, second, third);
          unanswered = answers-counted script w b holds p low high call under
              ∙ ap one_if (waits-unanswered place waits);
        }

    is-waiting : IsToBe → WaitsSomewhere w p n call → IsUnderWay w b.whole p n call
    is-waiting m somewhere =
        page.parked (far.is-parked script w b holds p low high call under waits m) parks in-no-place somewhere

  -- ---- one that ends its process

  module _ (at_end : place ≡ Ends) where
    ending : is_end_stage n.stage ≡ true
    ending = sym stage-is ∙ ap is_end_place at_end

    abbrev own : Name
    own = Proc (b.pids p)

    its : NodeHolds script b.pids (is_born_in w) p n
    its = node-holds script w b holds p low high call under

    family : FamilyHolds script b.pids b.places b.kernel (process_deed b.deed) (checkpoints_to script w p)
        (stage_of w p) p
    family = holds.families p (forked script w b holds p low high call under)

    known : NameHolds script b.pids (is_born_in w) own (name_sight script w [] b own)
    known = holds.names own

    abbrev HasNone : Type 0
    HasNone =
        (parcel : Parcel) → IsParcelIn w [] parcel → parcel.pid ≡ n.pid → IsInParcel script w b holds own parcel → ⊥

    no-frames : HasNone → frames_that w (has_call p n.pid) ≡ 0
    no-frames none = ends.no-frames script w b holds p low high call under at_end none

    no-items-here : HasNone → items_that w (item_has_call p n.pid) ≡ 0
    no-items-here none = ends.no-items script w b holds p low high call under at_end none

    unanswered : is_answer place ≡ false
    unanswered = ap is_answer at_end

    -- while the node leaves, it is there
    at-node : n.stage ≡ Leaving → IsInOnePlace w p n call
    at-node stage =
        let first = no-frames (λ parcel at is in_it. not-gone parcel at is)
        in let second = no-items-here (λ parcel at is in_it. not-gone parcel at is)
        in let third = ap (λ s. one_if (is_leaving_stage s)) stage
        in in-one (omega (arith, first, second, third)) unanswered
      where
        leaving-is-not : (s : Stage) → s ≡ Leaving → s ≡ Left → ⊥
        leaving-is-not s e f = false≢true (ap is_leaving_stage (sym f ∙ e))

        not-gone : (parcel : Parcel) → IsParcelIn w [] parcel → parcel.pid ≡ n.pid → ⊥
        not-gone parcel at is =
            leaving-is-not n.stage stage (parcel-is script w b holds p low high call under parcel at is).0

    -- once it has left, it is in the parcel that has the process's deed
    module _ (stage : n.stage ≡ Left) where
      no-stage-left : one_if (is_leaving_stage n.stage) ≡ 0
      no-stage-left = ap (λ s. one_if (is_leaving_stage s)) stage

      on-its-way : (d : DeedPlace) → b.deed own ≡ d → carrier d ≡ Some p → is_way d ≡ true
          → ((q : ℕ) → is_kept_for (forker script) b.pids d q ≡ false) → IsInOnePlace w p n call
      on-its-way d at carried way none =
          let first = ends.frames-counted script w b holds p low high call under at_end d at carried ∙ ap one_if way
          in let second = ends.items-counted-none script w b holds p low high call under at_end d at carried none
          in let third = no-stage-left
          in in-one (omega (arith, first, second, third)) unanswered

      kept-for-it : (g : ℕ) → b.deed own ≡ InKept g → g ≡ p → IsInOnePlace w p n call
      kept-for-it g at node =
          let carried : carrier (InKept g) ≡ Some p = ap Some node
          in let first = ends.frames-counted script w b holds p low high call under at_end (InKept g) at carried
          in let second =
          ends.items-counted-one script w b holds p low high call under at_end (InKept g) at carried
          (b.pids (forker script g)) (λ q. refl)
          in let third = no-stage-left
          in in-one (omega (arith, first, second, third)) unanswered

      not-here : (y : ℕ) → b.deed own ≡ InTable y → y ≡ p → ⊥
      not-here y at node =
          let body : Body = b.body own
          in let here : held_at w own p ≡ Some body =
          known.tables p ∙ ap (λ d. held_as d body p) at
          ∙ ap (λ z. held_as (InTable z) body p) node ∙ held-here p body
          in let nothing : n.deeds ≡ none_named = subst (λ s. HoldsIn p n s) stage its.holds
          in not_some body (sym (ap (λ (m : Deeds). get_named m own) nothing ∙ no-deeds own) ∙ here)

      not-awaited : (c : ℕ) → b.deed own ≡ InCheckpoint c → ⊥
      not-awaited c at =
          let unborn : n.stage ≡ Unborn = subst (λ d. IsAwaited n.stage d) at family.awaited
          in false≢true (ap is_end_stage (sym unborn ∙ stage))

      in-parcel : (d : DeedPlace) → b.deed own ≡ d → IsItsOwn p d → IsInOnePlace w p n call
      in-parcel (InLeft g) at is = on-its-way (InLeft g) at (ap Some is) refl (λ q. refl)
      in-parcel (InExitTo g y) at is = on-its-way (InExitTo g y) at (ap Some is) refl (λ q. refl)
      in-parcel (InKept g) at is = kept-for-it g at is
      in-parcel (InHand g) at is = absurd (not-in-hand script w b holds own g at)
      in-parcel (InTable y) at is = absurd (not-here y at is)
      in-parcel (InCheckpoint c) at is = absurd (not-awaited c at)
      in-parcel (InGrant y) at is = absurd is
      in-parcel (InGiveBack y) at is = absurd is
      in-parcel Unmade at is = absurd is

    living-process : (a : Alive) → plain_living_at b.kernel (b.pids p) ≡ Some a → family.process ≡ kernel.Living a
    living-process a lives =
        from_some family.process (kernel.Living a) (sym family.is ∙ from-living b.kernel.processes (b.pids p) a lives)

    waits-to-end : (a : Alive) → plain_living_at b.kernel (b.pids p) ≡ Some a → IsInOnePlace w p n call
    waits-to-end a lives = by-stage n.stage refl ending
      where
        where-it-is : IsItsOwn p (b.deed own)
        where-it-is = subst (λ v. IsWhereFor p (b.deed own) v) (living-process a lives) family.where_it_is

        by-stage : (s : Stage) → n.stage ≡ s → is_end_stage s ≡ true → IsInOnePlace w p n call
        by-stage Leaving e h = at-node e
        by-stage Left e h = in-parcel e (b.deed own) refl where-it-is
        by-stage Unborn e h = absurd (false≢true h)
        by-stage Living e h = absurd (false≢true h)
        by-stage Over e h = absurd (false≢true h)

    -- and where it is carried out it is nowhere: the deed is in no parcel of the process
    module _ (dead : plain_living_at b.kernel (b.pids p) ≡ None) where
      below : (v : Process) → family.process ≡ v → IsWhereFor p (b.deed own) v → RestsBelow p (b.deed own)
      below (kernel.Living a) e is =
          not_some a
          (sym dead
          ∙ ap (λ (o : Option Process). option_and_then alive_in o) (family.is ∙ ap Some e))
      below (kernel.Ended _) e is = is
      below kernel.Gone e is = is

      carried-lower : (d : DeedPlace) → RestsBelow p d → carrier d ≡ Some (node_in d) → node_in d < p
      carried-lower (InLeft g) rests c = rests
      carried-lower (InKept g) rests c = rests
      carried-lower (InHand g) rests c = rests
      carried-lower (InExitTo g y) rests c = rests
      carried-lower d rests c = not_some (node_in d) c

      not-its-own : HasNone
      not-its-own parcel at is in_it =
          let has : HasDeed own (b.body own) (b.pids (node_in (b.deed own))) parcel = in_it.has
          in let pids = holds.pids
          in let same : p ≡ node_in (b.deed own) =
          pids.apart p (node_in (b.deed own)) (forked script w b holds p low high call under)
          (sym its-pid ∙ sym is ∙ has.of_process)
          in let lower = carried-lower (b.deed own) (below family.process refl family.where_it_is) in_it.carried
          in omega (arith, same, lower)

      not-leaving-now : (s : Stage) → n.stage ≡ s → is_leaving_stage s ≡ false
      not-leaving-now Leaving e =
          let row : HoldsRow n.deeds n.pid = subst (λ s. HoldsIn p n s) e its.holds
          in let held : IsHeldAt (b.deed own) (b.body own) p (LivingBody row.row) =
          held-as-there (b.deed own) (b.body own) p (LivingBody row.row)
          (sym (known.tables p) ∙ ap (λ q. get_named n.deeds (Proc q)) (sym its-pid) ∙ row.here)
          in let r : HasRow b.kernel (b.pids p) row.row =
          body-living b.kernel (b.pids p) row.row (sym known.parts ∙ ap bare (sym held.body_is))
          in not_some r.alive (sym dead ∙ r.lives)
      not-leaving-now s e = refl

      nowhere : places_with w p n ≡ 0
      nowhere =
          let first = no-frames not-its-own
          in let second = no-items-here not-its-own
          in let third = ap one_if (not-leaving-now n.stage refl)
          in omega (arith, first, second, third)

    ends-it : is_end call ≡ true
    ends-it = ends-by-place script w b holds p low high call under (ap is_end_place at_end)

    busy-end : is_waiting_place place ≡ false
    busy-end = ap is_waiting_place at_end

    at-its-end : IsToBe ⊎ HasEnded (call_sight w [] b p) → IsUnderWay w b.whole p n call
    at-its-end (inl m) = page.waits (to-be-made busy-end m) (waits-to-end m.alive m.lives) (nowhere-waiting busy-end)
    at-its-end (inr over) =
        page.ended over.last ends-it
        (far.over script w b holds p low high call under over.last over.there over.dead) over.over
        (ap (living_at b.whole) its-pid ∙ far.dead-whole script w b holds (b.pids p) over.dead) (nowhere over.dead)
        (answers-counted script w b holds p low high call under ∙ ap one_if unanswered)

  -- ---- any

  -- Each call under way is in one place until it is carried out, or parked, and then its reply is.
  pub is-under-way : IsUnderWay w b.whole p n call
  is-under-way = by-place place refl (has.so_far)
    where
      sent-one : (q : CallPlace) → place ≡ q → is_sent q ≡ true → is_answer q ≡ false → is_end_place q ≡ false
          → is_waiting_place q ≡ false → IsToBe → IsUnderWay w b.whole p n call
      sent-one q e sent unanswered busy idle m =
          let not_parked = ap is_waiting_place e ∙ idle
          in page.waits (to-be-made not_parked m)
          (in-stream (ap is_end_place e ∙ busy) (ap is_sent e ∙ sent) (ap is_answer e ∙ unanswered))
          (nowhere-waiting not_parked)

      by-place : (q : CallPlace) → place ≡ q → IsSoFar script p (call_sight w [] b p) call q
          → IsUnderWay w b.whole p n call
      by-place Idle e m =
          absurd (false≢true (ap (λ c. may_be_in c (home_of n.pid call) call) (sym e) ∙ has.home))
      by-place IsInHand e m =
          let there : IsJustThere p (call_sight w [] b p) asked = has.just_there
          in absurd (nothing-is-one (is_in_hand place) (Request asked) (ap is_in_hand e) there.in_hand)
      by-place (IsHeld name) e m =
          let not_parked = ap is_waiting_place e
          in page.waits (to-be-made not_parked m) (in-list (ap is_end_place e) name e) (nowhere-waiting not_parked)
      by-place (InAnswer h reply) e m =
          let not_parked = ap is_waiting_place e
          in page.answered reply
          (not-an-end script w b holds p low high call under (ap is_end_place e))
          (far.made script w b holds p low high call under reply not_parked m) (in-answer (ap is_end_place e) h reply e)
          (nowhere-waiting not_parked)
      by-place Ends e m = at-its-end e m
      by-place Parked e m =
          is-waiting (ap is_waiting_place e) m
          (parked-here script w b holds bounded reads p low high call under e)
      by-place (Waits name) e m =
          is-waiting (ap is_waiting_place e) m
          (waits-there script w b holds bounded reads p low high call under name e)
      by-place (AsksLease kind) e m = sent-one (AsksLease kind) e refl refl refl refl m
      by-place (HasLease kind first) e m = sent-one (HasLease kind first) e refl refl refl refl m
      by-place InAsk e m = sent-one InAsk e refl refl refl refl m
      by-place (InRequest h) e m = sent-one (InRequest h) e refl refl refl refl m
      by-place (InNotOwner h) e m = sent-one (InNotOwner h) e refl refl refl refl m
      by-place (SentByPlace h) e m = sent-one (SentByPlace h) e refl refl refl refl m
      by-place (SentByRange h) e m = sent-one (SentByRange h) e refl refl refl refl m
      by-place (InBounce h) e m = sent-one (InBounce h) e refl refl refl refl m
