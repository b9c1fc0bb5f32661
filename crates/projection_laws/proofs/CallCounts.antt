-- How many frames and held items have the call that is under way at a node.
use Rattle.std.proofs.Common.{◌≡◌, ◌≢◌, ◌⊎◌, ℕ, ◌≤◌, Bool, true, false, ◌&&◌, nat_eq, [], ◌∷◌, filter, Some, Contains, refl, ap, sym, subst, ◌∙◌, inl, inr, arith}
use Rattle.std.specs.Prelude.{count_by}
use Rattle.std.proofs.lemmas.Bool.{eq-eqb, eqb-true, false≢true}
use Rattle.pico_base.specs.declared.call.Call.{Call}
use Rattle.pico_base.specs.declared.numbers.Name.{Name}
use Rattle.pico_base.specs.declared.reply.Reply.{Reply}
use Rattle.pico_base.specs.declared.script.Script.{Script}
use Rattle.pico_base.specs.Home.{home_of}
use Rattle.rpc_frame.specs.declared.asked.Asked.{Asked}
use Rattle.rpc_frame.specs.declared.deed.Parcel.{Parcel}
use Rattle.rpc_frame.specs.declared.frame.Frame.{Frame}
use Rattle.rpc_frame.specs.declared.frame.Frame.TheVariants as frames
use Rattle.kernel_laws.proofs.Members.{contains-filter, contains-filtered, contains-first}
use Rattle.kernel_laws.proofs.Plain.{from_some, not_some}
use Rattle.entry_laws.proofs.Names.{same-name}
use Rattle.node_model.specs.declared.held.Held.{Held}
use Rattle.node_model.specs.declared.held.Held.TheVariants.{Request, Ending}
use Rattle.node_model.specs.Directory.{held_for, is_parcel}
use Rattle.world_model.specs.Census.{one_if}
use Rattle.world_model.specs.Lives.{is_end}
use Rattle.world_model.specs.Node.{Leaving, Left, Node, Stage, is_leaving_stage}
use Rattle.world_model.specs.World.{World, node_count, stream}
use Rattle.world_laws.specs.Callers.{CallHolds, CallSight, HasCall, HasCallOrNone, IsJustThere, asked_of, call_sight, frame_at, is_about, is_end_place, is_end_stage, is_held_at, is_in_stream, is_item_about, may_be_in, only_if}
use Rattle.world_laws.specs.Families.{IsBorn, NodeHolds}
use Rattle.world_laws.specs.Invariant.{Holds}
use Rattle.world_laws.specs.Places.{Beside, CallPlace, Ends, InAnswer, IsHeld}
use Rattle.world_laws.specs.Sights.{directory_of, frames_to, is_born_in, node_of, stage_of}
use Rattle.world_laws.specs.Ways.{IsParcelIn, kept as kept_in, under_way_of}
use Rattle.world_laws.proofs.Named.{other-name}
use Rattle.world_laws.proofs.Steps.{frames-low}
use Rattle.rule_laws.proofs.ends.RecallAlls.{ends-by-end}
use Rattle.route_laws.proofs.hand.Answering.{born-there}
use Rattle.rest_laws.proofs.Shaped.{HasStream, stream-there}
use Rattle.projection_laws.specs.Projection.{IsItemOf, IsOf, frames_that, has_call, is_answer_to, is_parcel_frame, item_has_call, items_that}
use Rattle.projection_laws.proofs.CallPlaces.{call_from, call_to, count-only, frame-answers, frame-is-of, frame-no-parcel, held-is-busy, is_answer, is_sent, no-end, only-is, sent-is-busy, stream-as}
use Rattle.projection_laws.proofs.Counts.{count-among, frames-at, items-none, items-one}
use Rattle.projection_laws.proofs.Deeds.{parcel_in}
use Rattle.projection_laws.proofs.Parcels.{IsOfNode, of-node, parcel-of-frame, parcel-of-item}
use Rattle.projection_laws.proofs.Views.{node-here, some-node, stream-in-range}

-- ---- which frames have it

-- a frame with the call of a node is about it, or is a parcel of its process
pub call-frame : (p pid to sender : ℕ) (f : Frame) → has_call p pid to sender f ≡ true
    → (is_about p to sender f ≡ true) ⊎ ((parcel : Parcel) × (parcel_in f ≡ Some parcel) × (parcel.pid ≡ pid))
call-frame p pid to sender (frames.LeaseAsk kind) e = inl e
call-frame p pid to sender (frames.Lease kind first) e = inl e
call-frame p pid to sender (frames.Ask ticket caller call) e = inl e
call-frame p pid to sender (frames.Request ticket caller call) e = inl e
call-frame p pid to sender (frames.NotOwner ticket) e = inl e
call-frame p pid to sender (frames.Forward asked) e = inl e
call-frame p pid to sender (frames.Bounce asked) e = inl e
call-frame p pid to sender (frames.Left parcel) e = inr (parcel, refl, eqb-true parcel.pid pid e)
call-frame p pid to sender (frames.ExitTo parcel) e = inr (parcel, refl, eqb-true parcel.pid pid e)
call-frame p pid to sender f e = absurd (false≢true e)

answer-frame : (p to sender : ℕ) (f : Frame) → is_answer_to p to sender f ≡ true → is_about p to sender f ≡ true
answer-frame p to sender (frames.Answer ticket reply) e = e
answer-frame p to sender f e = absurd (false≢true e)

request-is : (a c : Asked) → Request a ≡ Request c → c ≡ a
request-is a c e = cc

and-left : (s t : Bool) → (s && t) ≡ true → s ≡ true
and-left true t e = refl
and-left false t e = absurd (false≢true e)

-- what is tested at one place alone is tested there
same-cell : (f : ℕ → ℕ → Bool) (s : Bool) (a c to sender : ℕ)
    → one_if ((s && (nat_eq a to && nat_eq c sender)) && f a c)
    ≡ one_if ((s && f to sender) && (nat_eq a to && nat_eq c sender))
same-cell f false a c to sender = refl
same-cell f true a c to sender = by-row (nat_eq a to) refl
  where
    and-true : (t : Bool) → (t && true) ≡ t
    and-true true = refl
    and-true false = refl

    and-false : (t : Bool) → (t && false) ≡ false
    and-false true = refl
    and-false false = refl

    by-column : a ≡ to → (t : Bool) → nat_eq c sender ≡ t → one_if (t && f a c) ≡ one_if (f to sender && t)
    by-column row false e = ap one_if (sym (and-false (f to sender)))
    by-column row true e =
        ap one_if (ap (λ y. f y c) row ∙ ap (f to) (eqb-true c sender e) ∙ sym (and-true (f to sender)))

    by-row : (t : Bool) → nat_eq a to ≡ t
        → one_if ((t && nat_eq c sender) && f a c) ≡ one_if (f to sender && (t && nat_eq c sender))
    by-row false e = ap one_if (sym (and-false (f to sender)))
    by-row true e = by-column (eqb-true a to e) (nat_eq c sender) refl

-- ---- a node with a call under way

module _ (script : Script) (w : World) (b : Beside) (holds : Holds script w [] b) (p : ℕ) (low : 1 ≤ p)
    (high : p ≤ node_count script) (call : Call) (under : under_way_of w p ≡ Some call) where
  abbrev n : Node
  n = node_of w p

  abbrev x : CallSight
  x = call_sight w [] b p

  abbrev place : CallPlace
  place = b.call p

  abbrev asked : Asked
  asked = asked_of x call

  pub calls-hold : CallHolds script p (is_born_in w) x
  calls-hold = holds.calls p low high

  pub has-call : HasCall script p (is_born_in w) x call
  has-call = subst (λ o. HasCallOrNone script p (is_born_in w) x o) under (let c = calls-hold in c.call)

  there : IsJustThere p x asked
  there = let h = has-call in h.just_there

  pub node-holds : NodeHolds script b.pids (is_born_in w) p n
  node-holds = holds.nodes p low high

  pub own-number : n.number ≡ p
  own-number = let h = node-holds in h.number

  birth : IsBorn script b.pids p n.pid n.parent n.parent_node
  birth =
      let h = node-holds
      in let c = has-call
      in born-there script b.pids p n.pid n.parent n.parent_node n.stage c.at_work h.birth

  pub pid-is : n.pid ≡ b.pids p
  pid-is = let i = birth in i.pid_is

  pub forked : b.pids p ≢ 0
  forked = let i = birth in i.forked

  -- ---- parcels of its process

  pub parcel-is : (parcel : Parcel) → IsParcelIn w [] parcel → parcel.pid ≡ n.pid
      → (stage_of w p ≡ Left) × (parcel.call ≡ call)
  parcel-is parcel at is =
      let o : IsOfNode script w b holds p parcel = of-node script w b holds p parcel forked at (is ∙ pid-is)
      in (o.stage, o.call_is ∙ from_some o.call call (sym o.under_way ∙ under))

  -- ---- frames

  pub about-is : (to sender : ℕ) (f : Frame) → Contains (frames_to w to sender) f → is_about p to sender f ≡ true
      → (is_in_stream place p to sender ≡ true) × (frame_at place asked ≡ f)
  about-is to sender f at is =
      only-is (is_in_stream place p to sender) (frame_at place asked) f
      (subst (λ fs. Contains fs f) (let h = there in h.in_streams to sender)
      (contains-filter (is_about p to sender) (frames_to w to sender) f at is))

  -- what is about the call is counted at one frame, where there is one
  module _ (test : ℕ → ℕ → Frame → Bool)
      (of-it : (to sender : ℕ) (f : Frame) → Contains (frames_to w to sender) f → test to sender f ≡ true
      → is_about p to sender f ≡ true) where
    not-passed : (to sender : ℕ) (f : Frame) → Contains (frames_to w to sender) f → is_about p to sender f ≡ false
        → test to sender f ≡ false
    not-passed to sender f at not-about = by-test (test to sender f) refl
      where
        by-test : (t : Bool) → test to sender f ≡ t → test to sender f ≡ false
        by-test false e = e
        by-test true e = absurd (false≢true (sym not-about ∙ of-it to sender f at e))

    stream-count : (to sender : ℕ) → 1 ≤ to → 1 ≤ sender → count_by (test to sender) (stream w to sender)
        ≡ one_if (is_in_stream place p to sender && test to sender (frame_at place asked))
    stream-count to sender low_to low_from =
        ap (count_by (test to sender)) (sym (frames-low w to sender low_to low_from))
        ∙ count-among (test to sender) (is_about p to sender) (frames_to w to sender)
        (λ f at. not-passed to sender f at)
        ∙ ap (count_by (test to sender)) (let h = there in h.in_streams to sender)
        ∙ count-only (test to sender) (is_in_stream place p to sender) (frame_at place asked)

    abbrev to_place : ℕ
    to_place = call_to place p

    abbrev from_place : ℕ
    from_place = call_from place p

    abbrev counts : Bool
    counts = is_sent place && test to_place from_place (frame_at place asked)

    cell-count : (a c : ℕ) → 1 ≤ a → 1 ≤ c → count_by (test a c) (stream w a c)
        ≡ one_if (counts && (nat_eq a to_place && nat_eq c from_place))
    cell-count a c low_a low_c =
        stream-count a c low_a low_c
        ∙ ap (λ t. one_if (t && test a c (frame_at place asked))) (stream-as place p a c)
        ∙ same-cell (λ y z. test y z (frame_at place asked)) (is_sent place) a c to_place from_place

    here-is : counts ≡ true → is_in_stream place p to_place from_place ≡ true
    here-is sent =
        stream-as place p to_place from_place
        ∙ ap (λ t. t && (nat_eq to_place to_place && nat_eq from_place from_place))
        (and-left (is_sent place) (test to_place from_place (frame_at place asked)) sent)
        ∙ rw (eq-eqb to_place to_place refl, eq-eqb from_place from_place refl) refl

    stream-is : counts ≡ true → HasStream w to_place from_place
    stream-is sent =
        stream-there w to_place from_place
        (λ none. not-one (frame_at place asked)
        (sym (ap (filter (is_about p to_place from_place)) none)
        ∙ (let h = there in h.in_streams to_place from_place)
        ∙ ap (λ t. only_if t (frame_at place asked)) (here-is sent)))
      where
        not-one : (f : Frame) → [] ≡ f ∷ [] → ⊥
        not-one f e = cc

    -- so many pass
    pub frames-counted : frames_that w test ≡ one_if counts
    frames-counted =
        frames-at w test counts to_place from_place
        (λ sent. let s : HasStream w to_place from_place = stream-is sent
        in let range = stream-in-range script w b holds to_place from_place s
        in ((s.low, range.0), (s.low_from, range.1)))
        cell-count

  -- ---- held items

  -- where the call isn't held for a name, no request of the node is
  pub held-none : (name : Name) → is_held_at place name ≡ false → (other : Asked)
      → Contains (held_for (directory_of w) name) (Request other) → is_item_about p (Request other) ≡ true → ⊥
  held-none name none other at is =
      false≢true
      (sym none
      ∙ (only-is (is_held_at place name) (Request asked) (Request other)
      (subst (λ items. Contains items (Request other)) (let h = there in h.held_for_names name)
      (contains-filter (is_item_about p) (held_for (directory_of w) name) (Request other) at is))).0)

  -- what is held of the call is no withdrawal
  pub held-is-about : (name : Name) → is_held_at place name ≡ true → is_item_about p (Request asked) ≡ true
  held-is-about name at =
      let listed : filter (is_item_about p) (held_for (directory_of w) name) ≡ Request asked ∷ [] =
      (let h = there in h.held_for_names name) ∙ ap (λ t. only_if t (Request asked)) at
      in (contains-filtered (is_item_about p) (held_for (directory_of w) name) (Request asked)
      (subst (λ items. Contains items (Request asked)) (sym listed) (contains-first (Request asked) []))).1

  -- what is about the call is counted at one item, where it is held
  module _ (test : Held → Bool)
      (of-it : (name : Name) (item : Held) → Contains (held_for (directory_of w) name) item → test item ≡ true
      → is_item_about p item ≡ true)
      (passes : (name : Name) → is_held_at place name ≡ true → test (Request asked) ≡ true) where
    not-passed-item : (name : Name) (item : Held) → Contains (held_for (directory_of w) name) item
        → is_item_about p item ≡ false → test item ≡ false
    not-passed-item name item at not-about = by-test (test item) refl
      where
        by-test : (t : Bool) → test item ≡ t → test item ≡ false
        by-test false e = e
        by-test true e = absurd (false≢true (sym not-about ∙ of-it name item at e))

    list-count : (name : Name) → count_by test (held_for (directory_of w) name) ≡ one_if (is_held_at place name)
    list-count name =
        count-among test (is_item_about p) (held_for (directory_of w) name) (λ item at. not-passed-item name item at)
        ∙ ap (count_by test) (let h = there in h.held_for_names name)
        ∙ count-only test (is_held_at place name) (Request asked)
        ∙ by-test (is_held_at place name) refl
      where
        by-test : (t : Bool) → is_held_at place name ≡ t → one_if (t && test (Request asked)) ≡ one_if t
        by-test true e = ap (λ s. let m : ℕ = one_if s in m) (passes name e)
        by-test false e = refl

    pub items-counted-none : ((name : Name) → is_held_at place name ≡ false) → items_that w test ≡ 0
    items-counted-none none =
        items-none test w holds.leading (node-here script w b holds 1 (omega arith) (some-node script w b holds))
        (λ name. list-count name ∙ ap (λ t. let m : ℕ = one_if t in m) (none name))

    pub items-counted-one : (name : Name) → place ≡ IsHeld name → items_that w test ≡ 1
    items-counted-one name at =
        items-one test w holds.leading (node-here script w b holds 1 (omega arith) (some-node script w b holds)) name
        (λ other d. list-count other
        ∙ ap (λ q. let m : ℕ = one_if (is_held_at q other) in m) at
        ∙ ap (λ t. let m : ℕ = one_if t in m) (other-name name other (λ e. d (sym e))))
        ∙ list-count name ∙ ap (λ q. let m : ℕ = one_if (is_held_at q name) in m) at
        ∙ ap (λ t. let m : ℕ = one_if t in m) (same-name name)

  -- ---- replies

  -- a reply is on its way where the call's place says so
  pub answers-counted : frames_that w (is_answer_to p) ≡ one_if (is_answer place)
  answers-counted =
      frames-counted (is_answer_to p) (λ to sender f at e. answer-frame p to sender f e)
      ∙ ap (λ t. let m : ℕ = one_if (is_sent place && t) in m) (frame-answers place p asked) ∙ by-place place
    where
      by-place : (q : CallPlace) → one_if (is_sent q && is_answer q) ≡ one_if (is_answer q)
      by-place (InAnswer h reply) = refl
      by-place q = refl

  -- and it is the one to this call
  pub answer-is : (sender ticket : ℕ) (reply other : Reply) (h : ℕ) → place ≡ InAnswer h reply
      → Contains (frames_to w p sender) (frames.Answer ticket other) → (ticket ≡ n.caller.ticket) × (other ≡ reply)
  answer-is sender ticket reply other h at there_it =
      same-answer n.caller.ticket ticket reply other
      (sym (ap (λ q. frame_at q asked) at)
      ∙ (about-is p sender (frames.Answer ticket other) there_it (eq-eqb p p refl)).1)
    where
      same-answer : (a c : ℕ) (r s : Reply) → frames.Answer a r ≡ frames.Answer c s → (c ≡ a) × (s ≡ r)
      same-answer a c r s e = (cc, cc)

  -- ---- which call it is

  -- one at its end's place ends its process
  pub ends-by-place : is_end_place place ≡ true → is_end call ≡ true
  ends-by-place at = by-place place refl at
    where
      by-place : (q : CallPlace) → place ≡ q → is_end_place q ≡ true → is_end call ≡ true
      by-place Ends e h =
          ends-by-end n.pid call
          (sym (ap (λ c. may_be_in c (home_of n.pid call) call) e) ∙ (let i = has-call in i.home))
      by-place q e h = absurd (false≢true h)

  -- as where its process's parcel is there
  ends-where-left : stage_of w p ≡ Left → is_end call ≡ true
  ends-where-left stage = ends-by-place (let c = calls-hold in c.ends ∙ ap is_end_stage stage)

  -- and one that is in a stream or held doesn't
  pub not-an-end : is_end_place place ≡ false → is_end call ≡ false
  not-an-end busy = no-end place n.pid call (let h = has-call in h.home) busy

  -- the frame that has it
  pub frame-of-call : (to sender : ℕ) (f : Frame) → Contains (frames_to w to sender) f
      → has_call p n.pid to sender f ≡ true → IsOf asked f × (is_parcel_frame f ≡ is_end call)
  frame-of-call to sender f at has =
      elim (call-frame p n.pid to sender f has) [
        | inl about ↦
            let is = about-is to sender f at about
            in (
              subst (IsOf asked) is.1
                  (frame-is-of place p n.pid to sender asked (home_of n.pid call) (let h = has-call in h.home)
                  (ap (has_call p n.pid to sender) is.1 ∙ has)),
              ap is_parcel_frame (sym is.1) ∙ frame-no-parcel place asked
                  ∙ sym (not-an-end (sent-is-busy place p to sender is.0)),
            )
        | inr of_parcel ↦
            let is =
            parcel-is of_parcel.0 (parcel-of-frame script w b holds to sender f of_parcel.0 at of_parcel.1) of_parcel.2
            in parcel-of f of_parcel.0 of_parcel.1 is.1 (ends-where-left is.0)
      ]
    where
      some-parcel : (q r : Parcel) → Some q ≡ Some r → r ≡ q
      some-parcel q r e = cc

      parcel-of : (g : Frame) (parcel : Parcel) → parcel_in g ≡ Some parcel → parcel.call ≡ call → is_end call ≡ true
          → IsOf asked g × (is_parcel_frame g ≡ is_end call)
      parcel-of (frames.Left q) parcel is same ends =
          (ap (λ (r : Parcel). r.call) (sym (some-parcel q parcel is)) ∙ same, sym ends)
      parcel-of (frames.ExitTo q) parcel is same ends =
          (ap (λ (r : Parcel). r.call) (sym (some-parcel q parcel is)) ∙ same, sym ends)
      parcel-of g parcel is same ends = not_some parcel is

  -- and the item
  pub item-of-call : (name : Name) (item : Held) → Contains (held_for (directory_of w) name) item
      → item_has_call p n.pid item ≡ true → IsItemOf asked item × (is_parcel item ≡ is_end call)
  item-of-call name (Request other) at has =
      let is =
      only-is (is_held_at place name) (Request asked) (Request other)
      (subst (λ items. Contains items (Request other)) (let h = there in h.held_for_names name)
      (contains-filter (is_item_about p) (held_for (directory_of w) name) (Request other) at has))
      in (request-is asked other is.1, sym (not-an-end (held-is-busy place name is.0)))
  item-of-call name (Ending parcel) at has =
      let is =
      parcel-is parcel (kept_in parcel.parent (parcel-of-item script w b holds name parcel at))
      (eqb-true parcel.pid n.pid has)
      in (is.1, sym (ends-where-left is.0))

  -- a node leaves by the end of its process
  pub leaves-by-end : is_leaving_stage n.stage ≡ true → is_end call ≡ true
  leaves-by-end leaving = ends-by-place (let c = calls-hold in c.ends ∙ is-leaving n.stage leaving)
    where
      is-leaving : (s : Stage) → is_leaving_stage s ≡ true → is_end_stage s ≡ true
      is-leaving Leaving e = refl
      is-leaving s e = absurd (false≢true e)
