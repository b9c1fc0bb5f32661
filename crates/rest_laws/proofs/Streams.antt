-- At rest nothing is on its way: what comes to a node that is born could be taken, and to one that isn't born comes
-- first what it needs to be born, which could be taken, too.
use Rattle.std.proofs.Common.{◌≡◌, ◌≢◌, ◌⊎◌, ℕ, zero, suc, ◌-◌, ◌<◌, ◌≤◌, Bool, true, false, not, ◌&&◌, ◌||◌, nat_eq, if◌then◌else◌, cond, List, [], ◌∷◌, ◌++◌, filter, get_or, Contains, Some, is_some, refl, ap, sym, subst, ◌∙◌, inl, inr, arith}
use Rattle.std.specs.List.{AllByRecursion}
use Rattle.std.proofs.lemmas.Bool.{cases_eq, cases_lt, eq-eqb, eqb-false, false≢true, lt-ltb}
use Rattle.std.proofs.lemmas.List.Elements.{Contains-append_left, Contains-push}
use Rattle.pico_base.specs.declared.call.Home.{Home}
use Rattle.pico_base.specs.declared.call.Home.TheVariants as homes
use Rattle.pico_base.specs.declared.numbers.Name.{Name}
use Rattle.pico_base.specs.declared.numbers.Name.TheVariants.{Proc}
use Rattle.pico_base.specs.declared.script.Event.{Event}
use Rattle.pico_base.specs.declared.script.Event.TheVariants as events
use Rattle.pico_base.specs.declared.script.Script.{Script}
use Rattle.pico_base.specs.Home.{home_of}
use Rattle.rpc_frame.specs.declared.asked.Asked.{Asked}
use Rattle.rpc_frame.specs.declared.deed.Parcel.{Parcel}
use Rattle.rpc_frame.specs.declared.frame.Frame.{Frame}
use Rattle.rpc_frame.specs.declared.frame.Frame.TheVariants as frames
use Rattle.entry_laws.specs.Entering.{is_used_name}
use Rattle.node_model.specs.Bodies.{Body}
use Rattle.node_model.specs.Directory.{has_deed_of}
use Rattle.node_model.specs.Kinds.{get_named, is_object, is_same_name}
use Rattle.world_model.specs.Census.{brings}
use Rattle.world_model.specs.Node.{Node, Stage, Unborn, Living, Leaving, Left, Over, is_born, is_unborn, unborn_node}
use Rattle.world_model.specs.Run.{IsAtRest}
use Rattle.world_model.specs.World.{IsNode, World, is_checkpoint, is_enabled, is_number, is_take_enabled, node_at, node_count, stream}
use Rattle.world_laws.specs.Callers.{CallHolds, HasCallOrNone, HasNoCall, IsNowhere, call_sight, is_about}
use Rattle.world_laws.specs.Families.{HoldsIn, NodeHolds, is_first_stage}
use Rattle.world_laws.specs.Invariant.{FramesFit, Holds, MayBe}
use Rattle.world_laws.specs.Names.{IsBringer, NameHolds, NameSight, OneIf, comes_to, forker, held_at, is_stream_of, name_sight}
use Rattle.world_laws.specs.Places.{Beside, DeedPlace, Unmade, InTable, InCheckpoint, InGrant, InGiveBack, InLeft, InKept, InHand, InExitTo}
use Rattle.world_laws.specs.Plays.{Comes, Goes, Has, Hold, IsNeeded, Lacks, PlayStep, brings_checkpoint, begin, is_has, is_lasting, needs_by, play, plays, steps_if, steps_of}
use Rattle.world_laws.specs.Sights.{frames_to, is_born_in, is_born_stage, node_of, stage_of}
use Rattle.world_laws.specs.Ways.{Way, here, tells, collected, over, gone, is_recall_all, knows_parent, sent, way_sight}
use Rattle.world_laws.proofs.NameFacts.{begins-without, play-goes, play-needs}
use Rattle.world_laws.proofs.Named.{same-name}
use Rattle.world_laws.proofs.Steps.{Heads, frames-low, node-there}
use Rattle.rule_laws.proofs.Suggestions.{born-in-range}
use Rattle.route_laws.proofs.hand.Owners.{maker-is-born}
use Rattle.route_laws.proofs.hand.Forwards.{sent_as}
use Rattle.route_laws.proofs.hand.Routes.{IsOn}
use Rattle.route_laws.proofs.sent.Bounced.{call-on}
use Rattle.rule_laws.proofs.ends.Taken.{DropsFirst, drops-first}
use Rattle.route_laws.proofs.sent.Forwarded.{is-at-maker, is_right_home, on-right-home, sent-by}
use Rattle.bound_laws.specs.Bounded.{FrameIsBounded, IsBounded}
use Rattle.rest_laws.proofs.Senders.{Sender, carrier, carried-by-lower, sender-of}
use Rattle.rest_laws.proofs.Shaped.{HasStream, none-from, none-to, range-cases, stream-there, unborn-has-nothing}

-- ---- tests and lists

both-true : (a b : Bool) → a ≡ true → b ≡ true → (a && b) ≡ true
both-true a b g h = rw (g, h) refl

and-false : (t : Bool) → (t && false) ≡ false
and-false true = refl
and-false false = refl

or-left : (a b : Bool) → a ≡ true → (a || b) ≡ true
or-left a b h = rw h refl

or-right : (a b : Bool) → b ≡ true → (a || b) ≡ true
or-right true b h = refl
or-right false b h = h

born-is : (s : Stage) → is_born_stage s ≡ not (is_unborn s)
born-is Unborn = refl
born-is Living = refl
born-is Leaving = refl
born-is Left = refl
born-is Over = refl

unborn-is : (s : Stage) → is_born_stage s ≡ false → s ≡ Unborn
unborn-is Unborn h = refl
unborn-is Living h = absurd (false≢true (sym h))
unborn-is Leaving h = absurd (false≢true (sym h))
unborn-is Left h = absurd (false≢true (sym h))
unborn-is Over h = absurd (false≢true (sym h))

head-contained : (fs : List Frame) (f : Frame) (left : List Frame) → fs ≡ f ∷ left → Contains fs f
head-contained fs f left e =
    subst (λ gs. Contains gs f) (sym e) (Contains-append_left (f ∷ []) left f (Contains-push [] f))

not-nil : (f : Frame) (fs : List Frame) → f ∷ fs ≡ [] → ⊥
not-nil f fs e = cc

-- a call that goes to a name is on it, and no removal where it was sent by its place
record IsOnIts (by : Bool) (home : Home) : Type 0 where
  name : Name
  on : IsOn name home

on-its : (by : Bool) (home : Home) → is_right_home by home ≡ true → IsOnIts by home
on-its by (homes.At name) h = record { name = name; on = inl refl }
on-its by (homes.Removal name) h = record { name = name; on = inr refl }
on-its true homes.Own h = absurd (false≢true h)
on-its true homes.Keys h = absurd (false≢true h)
on-its true homes.Parent h = absurd (false≢true h)
on-its false homes.Own h = absurd (false≢true h)
on-its false homes.Keys h = absurd (false≢true h)
on-its false homes.Parent h = absurd (false≢true h)

lacks-is-not-has : Lacks ≡ Has → ⊥
lacks-is-not-has e = false≢true (ap is_has e)

-- ---- a frame with a parcel

-- the place of a deed that this frame, at the head of a stream, brings
first-of : {A : Type 0} (test : A → Bool) (f v : A) (left : List A) → test f ≡ true
    → filter test (f ∷ left) ≡ v ∷ [] → f ≡ v
first-of {A} test f v left passes only =
    head-same f v (filter test left) [] (sym (ap (λ t. cond t (f ∷ filter test left) (filter test left)) passes) ∙ only)
  where
    head-same : (x y : A) (xs ys : List A) → x ∷ xs ≡ y ∷ ys → x ≡ y
    head-same x y xs ys e = cc

-- it brings a deed in a parcel of this process
record IsInExit (pids : ℕ → ℕ) (deed : DeedPlace) (parcel : Parcel) : Type 0 where
  node : ℕ
  carried : carrier deed ≡ Some node
  pid_is : parcel.pid ≡ pids node

exit-pid : (a c : Parcel) (pid : ℕ) → frames.ExitTo a ≡ frames.ExitTo c → c.pid ≡ pid → a.pid ≡ pid
exit-pid a c pid e h = let same : a ≡ c = cc in ap (λ (x : Parcel). x.pid) same ∙ h

in-exit : (forks_it pids : ℕ → ℕ) (name : Name) (body : Body) (to sender : ℕ) (parcel : Parcel) (left : List Frame)
    (deed : DeedPlace) → has_deed_of name parcel ≡ true
    → OneIf (is_stream_of forks_it deed to sender) (IsBringer pids name body deed)
    (filter (brings name) (frames.ExitTo parcel ∷ left)) → IsInExit pids deed parcel
in-exit forks_it pids name body to sender parcel left deed has one =
    by-test (is_stream_of forks_it deed to sender) refl one
  where
    by-place : (d : DeedPlace) → deed ≡ d → (g : Frame) → frames.ExitTo parcel ≡ g → IsBringer pids name body d g
        → is_stream_of forks_it d to sender ≡ true → IsInExit pids d parcel
    by-place (InExitTo c x) at g e h there =
        record {
          node = c;
          carried = refl;
          pid_is = exit-pid parcel h.parcel (pids c) (e ∙ h.is)
              (let has = h.has in has.of_process);
        }
    by-place (InCheckpoint c) at g e h there = absurd (let differ : frames.ExitTo parcel ≡ _ = e ∙ h.is in cc)
    by-place (InGrant c) at g e h there = absurd (let differ : frames.ExitTo parcel ≡ _ = e ∙ h in cc)
    by-place (InGiveBack c) at g e h there = absurd (let differ : frames.ExitTo parcel ≡ _ = e ∙ h in cc)
    by-place (InLeft c) at g e h there = absurd (let differ : frames.ExitTo parcel ≡ _ = e ∙ h.is in cc)
    by-place (InTable c) at g e h there = absurd (false≢true there)
    by-place (InKept c) at g e h there = absurd (false≢true there)
    by-place (InHand c) at g e h there = absurd (false≢true there)
    by-place Unmade at g e h there = absurd (false≢true there)

    by-test : (t : Bool) → is_stream_of forks_it deed to sender ≡ t
        → OneIf t (IsBringer pids name body deed) (filter (brings name) (frames.ExitTo parcel ∷ left))
        → IsInExit pids deed parcel
    by-test true there h =
        by-place deed refl h.one (first-of (brings name) (frames.ExitTo parcel) h.one left has h.only) h.holds there
    by-test false there h =
        let drops : DropsFirst (brings name) (frames.ExitTo parcel) left =
        drops-first (brings name) (frames.ExitTo parcel) left h
        in absurd (false≢true (sym drops.first ∙ has))

-- ---- a frame that could be taken

module _ (script : Script) (w : World) (b : Beside) (holds : Holds script w [] b) (rest : IsAtRest w) where
  stuck : {B : Type 0} (e : Event) → is_enabled w e ≡ true → B
  stuck e h = absurd (false≢true (sym (rest e) ∙ h))

  take-enabled : (p q : ℕ) (f : Frame) (left : List Frame) → 1 ≤ p → p ≤ node_count script → 1 ≤ q
      → frames_to w p q ≡ f ∷ left → (is_born (node_of w p) || is_checkpoint f) ≡ true
      → is_enabled w (events.Take p q) ≡ true
  take-enabled p q f left low high low_from there may =
      both-true (is_number p && is_number q) (is_take_enabled (node_at w p) (stream w p q))
      (both-true (is_number p) (is_number q) (lt-ltb 0 p low) (lt-ltb 0 q low_from))
      (ap (λ o. is_take_enabled o (stream w p q)) (node-there script w holds.shape p low high)
      ∙ ap (is_take_enabled (Some (node_of w p))) (sym (frames-low w p q low low_from) ∙ there) ∙ may)

  -- where the first frame could be taken there is none
  empty-by : (p q : ℕ) → 1 ≤ p → p ≤ node_count script
      → ((f : Frame) (left : List Frame) → frames_to w p q ≡ f ∷ left
      → (is_born (node_of w p) || is_checkpoint f) ≡ true)
      → frames_to w p q ≡ []
  empty-by p q low high takes =
      elim (cases_lt q 1) [
        | inl none ↦ none-from w p q none
        | inr low_from ↦ by-list (frames_to w p q) refl (omega (arith, low_from))
      ]
    where
      by-list : (fs : List Frame) → frames_to w p q ≡ fs → 1 ≤ q → frames_to w p q ≡ []
      by-list [] e low_from = e
      by-list (f ∷ left) e low_from =
          stuck (events.Take p q) (take-enabled p q f left low high low_from e (takes f left e))

  -- nothing is on its way to a node that is born
  pub born-empty : (p : ℕ) → is_born_in w p ≡ true → (q : ℕ) → frames_to w p q ≡ []
  born-empty p born q =
      let range = born-in-range script w holds.shape p born
      in empty-by p q range.0 range.1
      (λ f left e. or-left (is_born (node_of w p)) (is_checkpoint f) (sym (born-is (stage_of w p)) ∙ born))

  -- ---- a node that isn't born

  module _ (bounded : IsBounded script w []) (p : ℕ) (low : 1 ≤ p) (high : p ≤ node_count script)
      (unborn : is_born_in w p ≡ false) where
    stage-is : stage_of w p ≡ Unborn
    stage-is = unborn-is (stage_of w p) unborn

    node-holds : NodeHolds script b.pids (is_born_in w) p (node_of w p)
    node-holds = holds.nodes p low high

    node-is : node_of w p ≡ unborn_node p
    node-is = subst (λ s. HoldsIn p (node_of w p) s) stage-is node-holds.holds

    not-first : p ≢ 1
    not-first e = false≢true (sym (ap is_first_stage stage-is) ∙ node-holds.first e)

    low-node : 2 ≤ p
    low-node = let other = not-first in omega (arith, low, other)

    not-born : is_born_in w p ≡ true → ⊥
    not-born h = false≢true (sym unborn ∙ h)

    -- it has no call
    no-call : IsNowhere (call_sight w [] b p)
    no-call =
        let c : CallHolds script p (is_born_in w) (call_sight w [] b p) = holds.calls p low high
        in let none : HasNoCall script p (call_sight w [] b p) =
        subst (λ o. HasCallOrNone script p (is_born_in w) (call_sight w [] b p) o)
        (ap (λ (n : Node). n.caller.under_way) node-is) c.call
        in none.nowhere

    -- so no frame is about one
    not-about : (q : ℕ) (f : Frame) (left : List Frame) → frames_to w p q ≡ f ∷ left → is_about p p q f ≡ false
    not-about q f left e =
        let drops : DropsFirst (is_about p p q) f left =
        drops-first (is_about p p q) f left
        (sym (ap (filter (is_about p p q)) e) ∙ (let n = no-call in n.in_streams p q))
        in drops.first

    may-be : (q : ℕ) (f : Frame) (left : List Frame) → frames_to w p q ≡ f ∷ left
        → MayBe script (is_born_in w) p q f
    may-be q f left e =
        let fit : FramesFit script (is_born_in w) (frames_to w) = holds.frames_fit
        in fit.may_be p q f (head-contained (frames_to w p q) f left e)

    answers-itself : {B : Type 0} → nat_eq p p ≡ false → B
    answers-itself h = absurd (false≢true (sym h ∙ eq-eqb p p refl))

    -- from another node than the leader only a Checkpoint comes
    from-other : (q : ℕ) → q ≢ 1 → (f : Frame) → MayBe script (is_born_in w) p q f → is_about p p q f ≡ false
        → is_checkpoint f ≡ true
    from-other q other (frames.Checkpoint pid parent deed vars) m a = refl
    from-other q other (frames.Ask ticket pid call) m a = absurd (not-first m)
    from-other q other (frames.Request ticket pid call) m a = absurd (not-born m)
    from-other q other (frames.Forward asked) m a = absurd (other m)
    from-other q other (frames.Bounce asked) m a = absurd (not-first m)
    from-other q other (frames.Answer ticket reply) m a = answers-itself a
    from-other q other (frames.NotOwner ticket) m a = answers-itself a
    from-other q other (frames.LeaseAsk kind) m a = absurd (not-first m)
    from-other q other (frames.Lease kind first) m a = answers-itself a
    from-other q other (frames.Placed name node) m a = absurd (not-first m)
    from-other q other (frames.Suggest name node) m a = absurd (not-first m.0)
    from-other q other (frames.Recall name) m a = absurd (other m.0)
    from-other q other (frames.GiveBack deed) m a = absurd (not-first m)
    from-other q other (frames.Grant deed) m a = absurd (not-born m.1)
    from-other q other (frames.Leaving pid parent parent_node) m a = absurd (not-first m)
    from-other q other frames.RecallAll m a = absurd (other m)
    from-other q other (frames.Left parcel) m a = absurd (not-first m)
    from-other q other (frames.ExitTo parcel) m a = absurd (other m)
    from-other q other (frames.Cancel asked) (inl m) a = absurd (not-first m.0)
    from-other q other (frames.Cancel asked) (inr m) a = absurd (other m.0)

    other-empty : (q : ℕ) → q ≢ 1 → frames_to w p q ≡ []
    other-empty q other =
        empty-by p q low high
        (λ f left e. or-right (is_born (node_of w p)) (is_checkpoint f)
        (from-other q other f (may-be q f left e) (not-about q f left e)))

    -- ---- from the leader

    abbrev sight : Name → NameSight
    sight name = name_sight script w [] b name

    abbrev used : Name → Bool
    used name = is_used_name b.kernel name

    abbrev lasting : Asked → Name → Bool
    lasting asked name = used name && (is_object name && is_lasting asked)

    -- it holds no name, and none comes from who forks it
    comes-not : (name : Name) → comes_to script w name p ≡ false
    comes-not name = by-test (nat_eq (forker script p) 1) refl
      where
        by-test : (t : Bool) → nat_eq (forker script p) 1 ≡ t → comes_to script w name p ≡ false
        by-test true e = ap (λ t. not t && brings_checkpoint name (frames_to w p (forker script p))) e
        by-test false e =
            ap (λ fs. not (nat_eq (forker script p) 1) && brings_checkpoint name fs)
            (other-empty (forker script p) (eqb-false (forker script p) 1 e))
            ∙ and-false (not (nat_eq (forker script p) 1))

    begins-lacking : (name : Name) → (sight name).begins p ≡ Lacks
    begins-lacking name =
        ap (λ s. begin s (is_some (held_at w name p)) (comes_to script w name p)) stage-is
        ∙ begins-without Unborn (is_some (held_at w name p)) (comes_to script w name p) refl
        (ap (λ o. is_some o || comes_to script w name p)
        (ap (λ (n : Node). get_named n.deeds name) node-is ∙ unborn-has-nothing p name)
        ∙ comes-not name)

    -- the leader's frames play without the deed at first
    plays-lacking : (name : Name) (f : Frame) (left : List Frame) (s : PlayStep) → frames_to w p 1 ≡ f ∷ left
        → steps_of (used name) b.call name f ≡ s ∷ []
        → (last : Hold) × (play Lacks (s ∷ plays (used name) b.call name left) ≡ Some last)
    plays-lacking name f left s e step =
        let known : NameHolds script b.pids (is_born_in w) name (sight name) = holds.names name
        in let old = known.plays p low-node
        in (
          old.last,
          sym (ap (λ h. play h (plays (used name) b.call name (frames_to w p 1))) (begins-lacking name)
              ∙ ap (λ fs. play Lacks (plays (used name) b.call name fs)) e
              ∙ ap (λ ss. play Lacks (ss ++ plays (used name) b.call name left)) step)
              ∙ old.plays,
        )

    -- so it has nothing that a frame needs
    needs-nothing : (name : Name) (f : Frame) (left : List Frame) → frames_to w p 1 ≡ f ∷ left
        → steps_of (used name) b.call name f ≡ IsNeeded ∷ [] → ⊥
    needs-nothing name f left e step =
        let old = plays-lacking name f left IsNeeded e step
        in lacks-is-not-has (play-needs Lacks old.0 (plays (used name) b.call name left) old.1).0

    no-recall : (name : Name) (left : List Frame) → frames_to w p 1 ≡ frames.Recall name ∷ left → ⊥
    no-recall name left e =
        let old =
        plays-lacking name (frames.Recall name) left Goes e (ap (λ t. steps_if t Goes) (same-name name name refl))
        in lacks-is-not-has (play-goes Lacks old.0 (plays (used name) b.call name left) old.1).0

    no-recall-all : (left : List Frame) → frames_to w p 1 ≡ frames.RecallAll ∷ left → ⊥
    no-recall-all left e = by-way (holds.ways p low-node high)
      where
        not-there : (s : Stage) → stage_of w p ≡ s → is_born_stage s ≡ true → ⊥
        not-there s at h = not-born (ap is_born_stage at ∙ h)

        by-way : Way script b.pids p (knows_parent script w b.pids p) (way_sight w p) → ⊥
        by-way (here h) =
            let shows = h.shows
            in let drops : DropsFirst is_recall_all frames.RecallAll left =
            drops-first is_recall_all frames.RecallAll left (sym (ap (filter is_recall_all) e) ∙ shows.has_recalls)
            in false≢true (sym drops.first)
        by-way (tells h) = not-there Leaving h.stage refl
        by-way (collected h) = not-there Leaving h.stage refl
        by-way (over h) = not-there Left h.stage refl
        by-way (gone h) = not-there Left h.stage refl

    -- a parcel doesn't have its parent's deed, which it needs
    no-exit : (parcel : Parcel) (left : List Frame) → frames_to w p 1 ≡ frames.ExitTo parcel ∷ left → ⊥
    no-exit parcel left e = by-test (has_deed_of (Proc parcel.parent) parcel) refl
      where
        its : Sender script b parcel
        its =
            sender-of script w b holds parcel
            (sent p (head-contained (frames_to w p 1) (frames.ExitTo parcel) left e))

        by-test : (t : Bool) → has_deed_of (Proc parcel.parent) parcel ≡ t → ⊥
        by-test false h =
            needs-nothing (Proc parcel.parent) (frames.ExitTo parcel) left e
            (ap
            (λ t. if t then Comes ∷ [] else steps_if (is_same_name (Proc parcel.parent) (Proc parcel.parent)) IsNeeded)
            h
            ∙ ap (λ t. steps_if t IsNeeded) (same-name (Proc parcel.parent) (Proc parcel.parent) refl))
        by-test true h =
            let known : NameHolds script b.pids (is_born_in w) (Proc parcel.parent) (sight (Proc parcel.parent)) =
            holds.names (Proc parcel.parent)
            in let at : IsInExit b.pids (b.deed (Proc parcel.parent)) parcel =
            in-exit (forker script) b.pids (Proc parcel.parent) (sight (Proc parcel.parent)).body p 1 parcel left
            (b.deed (Proc parcel.parent)) h
            (subst (λ fs. OneIf (is_stream_of (forker script) (b.deed (Proc parcel.parent)) p 1)
            (IsBringer b.pids (Proc parcel.parent) (sight (Proc parcel.parent)).body (b.deed (Proc parcel.parent)))
            (filter (brings (Proc parcel.parent)) fs)) e (known.streams p 1))
            in let pids = holds.pids
            in let same : its.node ≡ at.node =
            pids.apart its.node at.node its.forked (sym its.pid_is ∙ at.pid_is)
            in let lower : at.node ≤ forker script its.node =
            carried-by-lower script w b holds (forker script its.node) its.parent_forked at.node
            (ap (λ q. carrier (b.deed (Proc q))) (sym its.parent_is) ∙ at.carried)
            in let below = its.below
            in absurd (omega (arith, same, lower, below))

    -- no call is sent here by place, for want of the name, and none by range, for want of a range
    no-forward : (asked : Asked) (left : List Frame) → frames_to w p 1 ≡ frames.Forward asked ∷ left → ⊥
    no-forward asked left e = by-sent found.0 found.1
      where
        frame : FrameIsBounded script p 1 (frames.Forward asked)
        frame = (subst (AllByRecursion (FrameIsBounded script p 1)) e (bounded.streams p 1)).0

        caller : IsNode script asked.caller
        caller = frame.says

        h : Heads script w p 1 (frames.Forward asked) left
        h =
            let sender = frame.sender_is
            in record {
              low = low;
              high = high;
              low_from = sender.low;
              high_from = sender.high;
              head = sym (frames-low w p 1 low sender.low) ∙ e;
            }

        found : (by : Bool) × (b.call asked.caller ≡ sent_as by p)
        found = sent-by script w b holds p asked left h caller.low caller.high

        by-sent : (by : Bool) → b.call asked.caller ≡ sent_as by p → ⊥
        by-sent by at = by-name by at (on-its by (home_of asked.pid asked.call)
            (on-right-home script w b holds p asked left h caller.low caller.high by at))
          where
            by-name : (t : Bool) → b.call asked.caller ≡ sent_as t p → IsOnIts t (home_of asked.pid asked.call) → ⊥
            by-name false g it =
                not-born
                (maker-is-born script w [] b holds it.name p
                (is-at-maker script w b holds p asked left h caller.low caller.high false g it.name it.on refl))
            by-name true g it =
                needs-nothing it.name (frames.Forward asked) left e
                (ap (λ t. steps_if (t && needs_by (lasting asked it.name) (b.call asked.caller)) IsNeeded)
                (call-on it.name (home_of asked.pid asked.call) it.on it.name ∙ same-name it.name it.name refl)
                ∙ ap (λ c. steps_if (needs_by (lasting asked it.name) c) IsNeeded) g)

    from-first : (f : Frame) (left : List Frame) → frames_to w p 1 ≡ f ∷ left → MayBe script (is_born_in w) p 1 f
        → is_about p p 1 f ≡ false → is_checkpoint f ≡ true
    from-first (frames.Checkpoint pid parent deed vars) left e m a = refl
    from-first (frames.Ask ticket pid call) left e m a = absurd (not-first m)
    from-first (frames.Request ticket pid call) left e m a = absurd (not-born m)
    from-first (frames.Forward asked) left e m a = absurd (no-forward asked left e)
    from-first (frames.Bounce asked) left e m a = absurd (not-first m)
    from-first (frames.Answer ticket reply) left e m a = answers-itself a
    from-first (frames.NotOwner ticket) left e m a = answers-itself a
    from-first (frames.LeaseAsk kind) left e m a = absurd (not-first m)
    from-first (frames.Lease kind first) left e m a = answers-itself a
    from-first (frames.Placed name node) left e m a = absurd (not-first m)
    from-first (frames.Suggest name node) left e m a = absurd (not-first m.0)
    from-first (frames.Recall name) left e m a = absurd (no-recall name left e)
    from-first (frames.GiveBack deed) left e m a = absurd (not-first m)
    from-first (frames.Grant deed) left e m a = absurd (not-born m.1)
    from-first (frames.Leaving pid parent parent_node) left e m a = absurd (not-first m)
    from-first frames.RecallAll left e m a = absurd (no-recall-all left e)
    from-first (frames.Left parcel) left e m a = absurd (not-first m)
    from-first (frames.ExitTo parcel) left e m a = absurd (no-exit parcel left e)
    from-first (frames.Cancel asked) left e (inl m) a = absurd (not-first m.0)
    from-first (frames.Cancel asked) left e (inr m) a = absurd (not-born m.1)

    first-empty : frames_to w p 1 ≡ []
    first-empty =
        empty-by p 1 low high
        (λ f left e. or-right (is_born (node_of w p)) (is_checkpoint f)
        (from-first f left e (may-be 1 f left e) (not-about 1 f left e)))

    -- nothing is on its way to a node that isn't born
    unborn-empty : (q : ℕ) → frames_to w p q ≡ []
    unborn-empty q =
        elim (cases_eq q 1) [ inl same ↦ ap (frames_to w p) same ∙ first-empty | inr other ↦ other-empty q other ]

  -- ---- all streams

  module _ (bounded : IsBounded script w []) where
    nobody-empty : (p : ℕ) → (p < 1) ⊎ (node_count script < p) → (q : ℕ) → frames_to w p q ≡ []
    nobody-empty p (inl none) q = none-to w p q none
    nobody-empty p (inr past) q = by-list (frames_to w p q) refl
      where
        by-list : (fs : List Frame) → frames_to w p q ≡ fs → frames_to w p q ≡ []
        by-list [] e = e
        by-list (f ∷ left) e =
            let s : HasStream w p q = stream-there w p q (λ none. not-nil f left (sym e ∙ none))
            in let row = s.row
            in let rows = let shape = holds.shape in shape.rows
            in absurd (omega (arith, past, row, rows))

    -- At rest nothing is on its way.
    pub all-empty : (p q : ℕ) → frames_to w p q ≡ []
    all-empty p q =
        elim (range-cases script p) [
          | inr out ↦ nobody-empty p out q
          | inl within ↦ by-test within.0 within.1 (is_born_in w p) refl
        ]
      where
        by-test : 1 ≤ p → p ≤ node_count script → (t : Bool) → is_born_in w p ≡ t → frames_to w p q ≡ []
        by-test low high true e = born-empty p e q
        by-test low high false e = unborn-empty bounded p low high e q

    -- The same by streams, where number 0 shows that of node 1.
    pub streams-empty : (to sender : ℕ) → stream w to sender ≡ []
    streams-empty to sender =
        let t = at-least-one to
        in let s = at-least-one sender
        in ap (λ i. get_or (get_or w.streams i []) (sender - 1) []) t.2
        ∙ ap (λ j. get_or (get_or w.streams (t.0 - 1) []) j []) s.2
        ∙ sym (frames-low w t.0 s.0 t.1 s.1) ∙ all-empty t.0 s.0
      where
        at-least-one : (n : ℕ) → (m : ℕ) × (1 ≤ m) × (n - 1 ≡ m - 1)
        at-least-one zero = (1, omega arith, refl)
        at-least-one (suc n) = (suc n, omega arith, refl)
