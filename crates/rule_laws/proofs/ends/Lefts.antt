-- A node has handed over all: the leader knows that it has left, and has its process's parcel in hand.
use Rattle.std.proofs.Common.{◌≡◌, ◌≢◌, ℕ, ◌≤◌, Bool, true, false, ◌&&◌, cond, if◌then◌else◌, List, [], ◌∷◌, ◌++◌, filter, flat_map, not, nat_eq, None, is_none, is_some, Contains, refl, ap, sym, subst, ◌∙◌, inl, inr, arith}
use Rattle.std.proofs.lemmas.Bool.{cases_eq, eq-eqb, eqb-true, ne_eqb, false≢true}
use Rattle.std.proofs.lemmas.List.Elements.{Contains-push_cases}
use Rattle.pico_base.specs.declared.numbers.Kind.{Kind}
use Rattle.pico_base.specs.declared.numbers.Name.{Name}
use Rattle.pico_base.specs.declared.numbers.Name.TheVariants.{Proc}
use Rattle.pico_base.specs.declared.script.Script.{Script}
use Rattle.rpc_frame.specs.declared.deed.Parcel.{Parcel}
use Rattle.rpc_frame.specs.declared.frame.Frame.{Frame}
use Rattle.rpc_frame.specs.declared.frame.Frame.TheVariants as frames
use Rattle.number_maps.specs.Maps.{get}
use Rattle.number_maps.proofs.LookUps.{get-put-same, get-put-other}
use Rattle.kernel_model.specs.Fitting.{Places}
use Rattle.kernel_model.specs.Kernel.{Process}
use Rattle.kernel_model.specs.Kernel as kernel
use Rattle.node_model.specs.declared.held.Held.{Held}
use Rattle.node_model.specs.declared.held.Held.TheVariants.{Ending}
use Rattle.node_model.specs.Kinds.{is_object, get_named, for_kind}
use Rattle.node_model.specs.Directory.{Directory, HasLeft, with_left, stays, has_deed_of, held_for, is_known, maker}
use Rattle.node_model.specs.Bodies.{Body}
use Rattle.world_model.specs.Node.{Node, Stage}
use Rattle.world_model.specs.Step.{Step, step_to, with_directory}
use Rattle.world_model.specs.Census.{brings}
use Rattle.world_model.specs.World.{World, world_after, node_count, is_checkpoint}
use Rattle.world_laws.specs.Places.{DeedPlace, Unmade, InTable, InCheckpoint, InGrant, InGiveBack, InLeft, InKept, InHand, InExitTo, Beside}
use Rattle.world_laws.specs.Sights.{node_of, frames_to, directory_of, stage_of, is_born_in}
use Rattle.world_laws.specs.Plays.{plays, begin, is_checkpoint_of, has_any, placed_in, news}
use Rattle.world_laws.specs.Names.{NameSight, name_sight, NameHolds, HasDeed, OnlyOne, OneIf, IsBringer, IsItemWith, IsCheckpointOf, IsLeftOf, IsExitOf, held_as, is_stream_of, is_kept_for, node_in, may_be_at, held_at, comes_to, range_steps_of, forker, is_maker}
use Rattle.world_laws.specs.Callers.{call_sight, is_item_about}
use Rattle.world_laws.specs.Ways.{Way, way_sight, knows_parent, HandsOver, IsGone, here, tells, collected, over, gone, is_leaving_frame, is_recall_all, is_left_frame, IsParcelIn, left as left_in, sent as sent_in, kept as kept_in, at_hand, under_way_of, HasSender}
use Rattle.world_laws.specs.Ranges.{KeysHold}
use Rattle.world_laws.specs.Families.{NodeHolds, FamilyHolds, IsWhereFor, IsWithParent, CheckpointIn, IsNewAt, IsAwaited, checkpoints_to}
use Rattle.world_laws.specs.Invariant.{Holds, IsLeading, process_deed}
use Rattle.world_laws.specs.Cancels.{Nothing}
use Rattle.world_laws.proofs.Cancels.{is_item_of}
use Rattle.world_laws.proofs.Stays.{IsMore, SameName, name-stays, node-born, call-stays, SameWay, way-stays, kind-stays}
use Rattle.world_laws.proofs.Changes.{Changes, filter-is-list-map, flat_map-is-list-map, made-same, only-stayed, still-born, read-same}
use Rattle.world_laws.proofs.LeftAlone.{DirectoryLeaves, name-left-alone, LeavesCall, call-left-alone, was-there, sender-stays, kind-left-alone, other-node-stays, frames-still-fit, few-still}
use Rattle.world_laws.proofs.Steps.{Heads, world_without, changes-by-take}
use Rattle.world_laws.proofs.Heads.{head-there, head-from-another, rest-stays, others-stay}
use Rattle.rule_laws.proofs.Nodes.{node-with-directory}
use Rattle.rule_laws.proofs.ends.Unmoved.{LeavesItems, cancel-unmoved, whole-unmoved}

-- ---- where the deeds are

abbrev pub is_in_left : ℕ → DeedPlace → Bool
is_in_left c (InLeft g) = nat_eq g c
is_in_left c place = false

-- what was in the node's parcel on its way to the leader is in the leader's hand
abbrev pub at_leader : ℕ → DeedPlace → DeedPlace
at_leader c place = if is_in_left c place then InHand c else place

in-left-is : (c : ℕ) (place : DeedPlace) → is_in_left c place ≡ true → place ≡ InLeft c
in-left-is c (InLeft g) h = ap InLeft (eqb-true g c h)
in-left-is c place h = absurd (false≢true h)

where-in-hand : (k c : ℕ) (process : Process) → IsWhereFor k (InLeft c) process → IsWhereFor k (InHand c) process
where-in-hand k c (kernel.Living alive) h = h
where-in-hand k c (kernel.Ended ending) h = h
where-in-hand k c kernel.Gone h = h

-- a process's deed is where it may be, in the hand too
pub where-at-leader : (k c : ℕ) (process : Process) (place : DeedPlace) → IsWhereFor k place process
    → IsWhereFor k (at_leader c place) process
where-at-leader k c process place h = by-test (is_in_left c place) refl
  where
    by-test : (t : Bool) → is_in_left c place ≡ t → IsWhereFor k (if t then InHand c else place) process
    by-test true e = where-in-hand k c process (subst (λ d. IsWhereFor k d process) (in-left-is c place e) h)
    by-test false e = h

parent-at-leader : (c : ℕ) (deed : ℕ → DeedPlace) (parent pid : ℕ) (process : Process)
    → IsWithParent deed parent pid process → IsWithParent (λ q. at_leader c (deed q)) parent pid process
parent-at-leader c deed parent pid (kernel.Living alive) h = tt
parent-at-leader c deed parent pid (kernel.Ended ending) h = ap (at_leader c) h
parent-at-leader c deed parent pid kernel.Gone h = tt

checkpoint-at-leader : (script : Script) (pids : ℕ → ℕ) (places : Places) (k c : ℕ) (fs : List Frame)
    (place : DeedPlace)
    → CheckpointIn script pids places k fs place → CheckpointIn script pids places k fs (at_leader c place)
checkpoint-at-leader script pids places k c fs place h = by-test (is_in_left c place)
  where
    by-test : (t : Bool) → CheckpointIn script pids places k fs (if t then InHand c else place)
    by-test true = tt
    by-test false = h

fresh-at-leader : (c : ℕ) (process : Process) (place : DeedPlace) → IsNewAt process place
    → IsNewAt process (at_leader c place)
fresh-at-leader c process place h = by-test (is_in_left c place)
  where
    new-in-hand : (v : Process) → IsNewAt v (InHand c)
    new-in-hand (kernel.Living alive) = tt
    new-in-hand (kernel.Ended ending) = tt
    new-in-hand kernel.Gone = tt

    by-test : (t : Bool) → IsNewAt process (if t then InHand c else place)
    by-test true = new-in-hand process
    by-test false = h

awaited-at-leader : (c : ℕ) (stage : Stage) (place : DeedPlace) → IsAwaited stage place
    → IsAwaited stage (at_leader c place)
awaited-at-leader c stage place h = by-test (is_in_left c place)
  where
    by-test : (t : Bool) → IsAwaited stage (if t then InHand c else place)
    by-test true = tt
    by-test false = h

-- ---- what brings a name in the parcel

is-not-empty : {A : Type 0} (x : A) (xs : List A) → x ∷ xs ≡ [] → ⊥
is-not-empty x xs h = cc

record IsFirst {A : Type 0} (t : Bool) (P : A → Type 0) (x : A) (xs : List A) : Type 0 where
  counts : t ≡ true
  alone : xs ≡ []
  is : P x

one-first : {A : Type 0} (t : Bool) (P : A → Type 0) (x : A) (xs ys : List A) → ys ≡ x ∷ xs → OneIf t P ys
    → IsFirst t P x xs
one-first true P x xs ys e o =
    record {
      counts = refl;
      alone = rest-same (sym e ∙ o.only);
      is = subst P (sym (first-same (sym e
          ∙ o.only))) o.holds;
    }
  where
    first-same : x ∷ xs ≡ o.one ∷ [] → x ≡ o.one
    first-same g = cc

    rest-same : x ∷ xs ≡ o.one ∷ [] → xs ≡ []
    rest-same g = cc
one-first false P x xs ys e o = absurd (is-not-empty x xs (sym e ∙ o))

pub record IsBroughtHere (pids : ℕ → ℕ) (name : Name) (body : Body) (deed : DeedPlace) (c : ℕ) (parcel : Parcel)
    : Type 0 where
  pub deed_is : deed ≡ InLeft c
  pub has : HasDeed name body (pids c) parcel

no-checkpoint : (parcel : Parcel) (name : Name) (body : Body) → IsCheckpointOf name body (frames.Left parcel) → ⊥
no-checkpoint parcel name body k = false≢true (ap is_left_frame (sym k.is))

no-exit : (parcel : Parcel) (name : Name) (body : Body) (pid : ℕ) → IsExitOf name body pid (frames.Left parcel) → ⊥
no-exit parcel name body pid k = false≢true (ap is_left_frame (sym k.is))

left-of : (parcel : Parcel) (name : Name) (body : Body) (pid : ℕ) → IsLeftOf name body pid (frames.Left parcel)
    → HasDeed name body pid parcel
left-of parcel name body pid k = subst (λ q. HasDeed name body pid q) (sym (same k.parcel k.is)) k.has
  where
    same : (q : Parcel) → frames.Left parcel ≡ frames.Left q → parcel ≡ q
    same q e = cc

-- a Left that brings a name's deed is where that is
brought-here : (forks_it pids : ℕ → ℕ) (name : Name) (body : Body) (c : ℕ) (parcel : Parcel) (deed : DeedPlace)
    → is_stream_of forks_it deed 1 c ≡ true → IsBringer pids name body deed (frames.Left parcel)
    → IsBroughtHere pids name body deed c parcel
brought-here forks_it pids name body c parcel (InLeft g) counts is =
    let same : c ≡ g = eqb-true c g counts
    in record {
      deed_is = ap InLeft (sym same);
      has = subst (λ k. HasDeed name body (pids k) parcel) (sym same) (left-of parcel name body (pids g) is);
    }
brought-here forks_it pids name body c parcel (InCheckpoint g) counts is = absurd (no-checkpoint parcel name body is)
brought-here forks_it pids name body c parcel (InExitTo g x) counts is = absurd (no-exit parcel name body (pids g) is)
brought-here forks_it pids name body c parcel (InGrant g) counts is =
    absurd (false≢true (ap is_left_frame (sym is)))
brought-here forks_it pids name body c parcel (InGiveBack g) counts is =
    absurd (false≢true (ap is_left_frame (sym is)))
brought-here forks_it pids name body c parcel Unmade counts is = absurd (false≢true counts)
brought-here forks_it pids name body c parcel (InTable g) counts is = absurd (false≢true counts)
brought-here forks_it pids name body c parcel (InKept g) counts is = absurd (false≢true counts)
brought-here forks_it pids name body c parcel (InHand g) counts is = absurd (false≢true counts)

-- where there is no Left, no filter keeps one
no-left-kept : (test : Frame → Bool) (fs : List Frame) (q : Parcel) → filter is_left_frame fs ≡ []
    → filter test fs ≡ frames.Left q ∷ [] → ⊥
no-left-kept test [] q none e = is-not-empty (frames.Left q) [] (sym e)
no-left-kept test (f ∷ fs) q none e = by-left (no-left-kept test fs q) (is_left_frame f) refl
  where
    first-same : f ∷ filter test fs ≡ frames.Left q ∷ [] → f ≡ frames.Left q
    first-same g = cc

    by-test : (filter test fs ≡ frames.Left q ∷ [] → ⊥) → is_left_frame f ≡ false → (t : Bool) → test f ≡ t → ⊥
    by-test later not_left true g =
        false≢true
        (sym not_left
        ∙ ap is_left_frame (first-same (sym (ap (λ b. cond b (f ∷ filter test fs) (filter test fs)) g) ∙ e)))
    by-test later not_left false g =
        later (sym (ap (λ b. cond b (f ∷ filter test fs) (filter test fs)) g) ∙ e)

    by-left : (filter is_left_frame fs ≡ [] → filter test fs ≡ frames.Left q ∷ [] → ⊥) → (t : Bool)
        → is_left_frame f ≡ t → ⊥
    by-left later true g =
        is-not-empty f (filter is_left_frame fs)
        (sym (ap (λ b. cond b (f ∷ filter is_left_frame fs) (filter is_left_frame fs)) g) ∙ none)
    by-left later false g =
        by-test
        (later (sym (ap (λ b. cond b (f ∷ filter is_left_frame fs) (filter is_left_frame fs)) g)
        ∙ none)) g (test f) refl

-- ---- the name

abbrev pub in_leaders_hand : NameSight → ℕ → Parcel → NameSight
in_leaders_hand x c parcel =
    record x { deed = InHand c; held = λ h. None; brought = λ to sender. []; hand = Ending parcel ∷ [] }

-- all holds of a name whose deed is in the leader's hand now
pub name-in-hand : (script : Script) (pids : ℕ → ℕ) (born : ℕ → Bool) (name : Name) (x : NameSight) (c : ℕ)
    (parcel : Parcel) → IsBroughtHere pids name x.body x.deed c parcel → NameHolds script pids born name x
    → NameHolds script pids born name (in_leaders_hand x c parcel)
name-in-hand script pids born name x c parcel here_now h =
    record {
      parts = h.parts;
      callers = h.callers;
      made = (λ e. absurd (not-unmade e), λ u. absurd (was-used u));
      place_fits = ap (may_be_at (is_object name)) (sym here_now.deed_is) ∙ h.place_fits;
      tables = λ q. refl;
      streams = λ to sender. refl;
      kept = λ pid. subst (λ d. OneIf (is_kept_for (forker script) pids d pid)
          (IsItemWith name x.body (pids (node_in d))) (x.kept pid)) here_now.deed_is (h.kept pid);
      in_hand = record {
        one = Ending parcel;
        only = refl;
        holds = record { parcel = parcel; is = refl; has = here_now.has };
      };
      known = h.known;
      believed = h.believed;
      plays = h.plays;
      leader = ap is_some (sym (h.tables 1 ∙ ap (λ d. held_as d x.body 1) here_now.deed_is)) ∙ h.leader;
      told = h.told;
      found = h.found;
      unplaced = h.unplaced;
      ranged = h.ranged;
      leased = h.leased;
      bound = h.bound;
      items = h.items;
    }
  where
    not-unmade : InHand c ≡ Unmade → ⊥
    not-unmade e = cc

    was-used : x.used ≡ false → ⊥
    was-used unused = in-left (sym here_now.deed_is ∙ h.made.1 unused)
      where
        in-left : InLeft c ≡ Unmade → ⊥
        in-left e = cc

-- ---- the event, as far as the hand

module _ (script : Script) (w : World) (b : Beside) (holds : Holds script w [] b) (c : ℕ) (parcel : Parcel)
    (rest : List Frame) (h : Heads script w 1 c (frames.Left parcel) rest) where
  abbrev frame : Frame
  frame = frames.Left parcel

  abbrev n : Node
  n = node_of w 1

  abbrev d : Directory
  d = directory_of w

  other : c ≢ 1
  other = head-from-another script w 1 c frame rest h (is_born_in w) holds.frames_fit

  low-node : 2 ≤ c
  low-node = let low = h.low_from in omega (arith, low, other)

  abbrev after : Step
  after = step_to (with_directory n (with_left d c))

  abbrev middle : World
  middle = world_after (world_without w 1 c rest) 1 after

  abbrev hand : List Held
  hand = Ending parcel ∷ []

  abbrev deeds-now : Name → DeedPlace
  deeds-now name = at_leader c (b.deed name)

  abbrev moved : Beside
  moved = record b { deed = deeds-now }

  abbrev takes : List (ℕ × Frame)
  takes = (c, frame) ∷ []

  changes : Changes script 1 w middle after.node takes [] []
  changes = changes-by-take script w holds.shape 1 c frame rest after h tt

  directory-now : directory_of middle ≡ with_left d c
  directory-now = ap (λ (m : Node). m.leader.directory) changes.here

  more : IsMore (is_born_in w) (is_born_in middle)
  more = still-born script 1 w middle after.node takes [] [] changes (λ g. g)

  stage-same : (q : ℕ) → stage_of middle q ≡ stage_of w q
  stage-same q = read-same script 1 w middle after.node takes [] [] changes (λ (m : Node). m.stage) refl q

  lefts-first : filter is_left_frame (frames_to w 1 c) ≡ frame ∷ filter is_left_frame (changes.left 1 c)
  lefts-first =
      rest-stays script 1 c w middle after.node frame [] [] changes (λ t s fs. filter is_left_frame fs)
      (λ t s. filter-is-list-map is_left_frame)

  -- the node has handed over all
  pub way-was : HandsOver (knows_parent script w b.pids c) (way_sight w c)
  way-was = by-way (holds.ways c low-node h.high_from)
    where
      none-there : filter is_left_frame (frames_to w 1 c) ≡ [] → ⊥
      none-there e = is-not-empty frame (filter is_left_frame (changes.left 1 c)) (sym lefts-first ∙ e)

      by-way : Way script b.pids c (knows_parent script w b.pids c) (way_sight w c)
          → HandsOver (knows_parent script w b.pids c) (way_sight w c)
      by-way (here z) = absurd (none-there z.lefts)
      by-way (tells z) = absurd (none-there z.lefts)
      by-way (collected z) = absurd (none-there z.lefts)
      by-way (over z) = z
      by-way (gone z) = absurd (none-there z.lefts)

  no-more-lefts : filter is_left_frame (changes.left 1 c) ≡ []
  no-more-lefts = tails-same frame (frames.Left way-was.parcel) _ [] (sym lefts-first ∙ way-was.lefts)
    where
      tails-same : (f g : Frame) (xs ys : List Frame) → f ∷ xs ≡ g ∷ ys → xs ≡ ys
      tails-same f g xs ys e = cc

  stays-same : (q : ℕ) → stays (directory_of middle) q ≡ stays d q
  stays-same q =
      ap (λ z. stays z q) directory-now
      ∙ elim (cases_eq q c) [
        | inl e ↦
            subst (λ y. is_none (get (with_left d c).partings y) ≡ stays d y) (sym e)
            (ap is_none (get-put-same d.partings c HasLeft)
            ∙ sym (let shown = way-was.shows in ap is_none shown.has_parting))
        | inr u ↦ ap is_none (get-put-other d.partings c HasLeft q u)
      ]

  -- ---- the names

  module _ (name : Name) where
    abbrev x : NameSight
    x = name_sight script w [] b name

    known : NameHolds script b.pids (is_born_in w) name x
    known = holds.names name

    brought-first : x.brought 1 c
        ≡ cond (has_deed_of name parcel) (frame ∷ []) [] ++ filter (brings name) (changes.left 1 c)
    brought-first =
        rest-stays script 1 c w middle after.node frame [] [] changes (λ t s fs. filter (brings name) fs)
        (λ t s. filter-is-list-map (brings name))

    first-of : has_deed_of name parcel ≡ true
        → IsFirst (is_stream_of (forker script) x.deed 1 c) (IsBringer b.pids name x.body x.deed) frame
        (filter (brings name) (changes.left 1 c))
    first-of e =
        one-first (is_stream_of (forker script) x.deed 1 c) (IsBringer b.pids name x.body x.deed) frame
        (filter (brings name) (changes.left 1 c)) (x.brought 1 c)
        (brought-first ∙ ap (λ t. cond t (frame ∷ []) [] ++ filter (brings name) (changes.left 1 c)) e)
        (known.streams 1 c)

    -- a name with a deed in the parcel was on its way in it
    pub is-brought : has_deed_of name parcel ≡ true → IsBroughtHere b.pids name x.body x.deed c parcel
    is-brought e =
        let first = first-of e
        in brought-here (forker script) b.pids name x.body c parcel x.deed first.counts first.is

    -- what is said to be in the parcel is in it
    left-has : is_in_left c x.deed ≡ true → has_deed_of name parcel ≡ true
    left-has e = by-test (has_deed_of name parcel) refl
      where
        only-one : OnlyOne (IsLeftOf name x.body (b.pids c)) (x.brought 1 c)
        only-one =
            subst (λ t. OneIf t (IsLeftOf name x.body (b.pids c)) (x.brought 1 c)) (eq-eqb c c refl)
            (subst (λ z. OneIf (is_stream_of (forker script) z 1 c) (IsBringer b.pids name x.body z) (x.brought 1 c))
            (in-left-is c x.deed e) (known.streams 1 c))

        not-there : has_deed_of name parcel ≡ false → IsLeftOf name x.body (b.pids c) only-one.one → ⊥
        not-there g is =
            no-left-kept (brings name) (changes.left 1 c) is.parcel no-more-lefts
            (sym (brought-first ∙ ap (λ t. cond t (frame ∷ []) [] ++ filter (brings name) (changes.left 1 c)) g)
            ∙ only-one.only ∙ ap (λ f. f ∷ []) is.is)

        by-test : (t : Bool) → has_deed_of name parcel ≡ t → has_deed_of name parcel ≡ true
        by-test true g = g
        by-test false g = absurd (not-there g only-one.holds)

    leaves : DirectoryLeaves d (directory_of middle) name
    leaves =
        subst (λ (z : Directory). DirectoryLeaves d z name) (sym directory-now)
        (record {
          place_is = refl;
          maker_is = refl;
          stays_is = λ q. ap (λ z. stays z q) (sym directory-now) ∙ stays-same q;
          kept_is = λ pid. refl;
        })

    name-elsewhere : has_deed_of name parcel ≡ false
        → NameHolds script b.pids (is_born_in middle) name (name_sight script middle hand moved name)
    name-elsewhere e =
        name-stays script b.pids (is_born_in w) (is_born_in middle) name _ _ more
        (name-left-alone script 1 w middle after.node takes [] [] changes [] hand b moved name
        (record {
          directory = leaves;
          used_is = refl;
          part_is = refl;
          body_is = refl;
          deed_is = ap (λ t. if t then InHand c else b.deed name) (not-in-left (is_in_left c x.deed) refl);
          held_is = refl;
          begins_is = λ holds_it comes. refl;
          hand_is = ap (λ t. cond t hand []) e;
          steps_are = λ used q. refl;
          ranges_are = λ used q. refl;
        }) (e, tt) tt) known
      where
        not-in-left : (t : Bool) → is_in_left c x.deed ≡ t → is_in_left c x.deed ≡ false
        not-in-left true g = absurd (false≢true (sym e ∙ left-has g))
        not-in-left false g = g

    name-here : has_deed_of name parcel ≡ true
        → NameHolds script b.pids (is_born_in middle) name (name_sight script middle hand moved name)
    name-here e =
        name-stays script b.pids (is_born_in w) (is_born_in middle) name _ _ more sight-now
        (name-in-hand script b.pids (is_born_in w) name x c parcel at known)
      where
        at : IsBroughtHere b.pids name x.body x.deed c parcel
        at = is-brought e

        and-false : (t : Bool) → (t && false) ≡ false
        and-false true = refl
        and-false false = refl

        away : (to sender : ℕ) → (nat_eq to 1 && nat_eq sender c) ≡ false → x.brought to sender ≡ []
        away to sender none =
            subst (λ t. OneIf t (IsBringer b.pids name x.body (InLeft c)) (x.brought to sender)) none
            (subst (λ z. OneIf (is_stream_of (forker script) z to sender) (IsBringer b.pids name x.body z)
            (x.brought to sender)) at.deed_is (known.streams to sender))

        left-none : (to sender : ℕ) → filter (brings name) (changes.left to sender) ≡ []
        left-none to sender =
            elim (cases_eq to 1) [
              | inr u ↦
                  others-stay script 1 c w middle after.node frame [] [] changes (λ t s fs. filter (brings name) fs)
                  (λ t s. filter-is-list-map (brings name)) to sender (inl u)
                  ∙ away to sender (ap (λ t. t && nat_eq sender c) (ne_eqb to 1 u))
              | inl g ↦
                  elim (cases_eq sender c) [
                    | inr u ↦
                        others-stay script 1 c w middle after.node frame [] [] changes
                        (λ t s fs. filter (brings name) fs)
                        (λ t s. filter-is-list-map (brings name)) to sender (inr u)
                        ∙ away to sender
                        (ap (λ t. nat_eq to 1 && t) (ne_eqb sender c u) ∙ and-false (nat_eq to 1))
                    | inl k ↦
                        let first = first-of e
                        in subst (λ y. filter (brings name) (changes.left y sender) ≡ []) (sym g)
                        (subst (λ z. filter (brings name) (changes.left 1 z) ≡ []) (sym k) first.alone)
                  ]
            ]

        held-none : (q : ℕ) → None ≡ held_at middle name q
        held-none q =
            sym (read-same script 1 w middle after.node takes [] [] changes (λ (m : Node). get_named m.deeds name)
            refl q
            ∙ known.tables q ∙ ap (λ z. held_as z x.body q) at.deed_is)

        comes-now : (q : ℕ) → comes_to script middle name q ≡ comes_to script w name q
        comes-now q =
            ap (λ fs. not (nat_eq (forker script q) 1) && has_any fs)
            (made-same script 1 w middle after.node takes [] [] changes
            (λ t s fs. filter (is_checkpoint_of name) fs) (λ t s. filter-is-list-map (is_checkpoint_of name))
            (refl, tt) tt q (forker script q))

        begins-now : (q : ℕ)
            → x.begins q ≡ begin (stage_of middle q) (is_some (held_at middle name q)) (comes_to script middle name q)
        begins-now q =
            ap (begin (stage_of w q) (is_some (held_at w name q))) (sym (comes-now q))
            ∙ sym (read-same script 1 w middle after.node takes [] [] changes
            (λ (m : Node). begin m.stage (is_some (get_named m.deeds name)) (comes_to script middle name q)) refl q)

        sight-now : SameName (in_leaders_hand x c parcel) (name_sight script middle hand moved name)
        sight-now =
            let same = leaves
            in record {
              place = sym same.place_is;
              maker = sym same.maker_is;
              stays = λ q. sym (same.stays_is q);
              used = refl;
              part = refl;
              body = refl;
              deed = sym (ap (at_leader c) at.deed_is ∙ ap (λ t. if t then InHand c else InLeft c) (eq-eqb c c refl));
              held = held-none;
              brought = λ to sender. sym (only-stayed script 1 w middle after.node takes [] [] changes
                  (λ t s fs. filter (brings name) fs) (λ t s. filter-is-list-map (brings name)) tt to sender
                  ∙ left-none to sender);
              kept = λ pid. sym (same.kept_is pid);
              hand = sym (ap (λ t. cond t hand []) e);
              begins = begins-now;
              steps = λ q. sym (made-same script 1 w middle after.node takes [] [] changes
                  (λ t s fs. plays x.used b.call name fs) (λ t s. flat_map-is-list-map _) (refl, tt) tt q 1);
              ranges = λ q. sym (made-same script 1 w middle after.node takes [] [] changes
                  (λ t s fs. flat_map (range_steps_of x.used b.call name) fs) (λ t s. flat_map-is-list-map _) (refl, tt)
                  tt
                  q 1);
              placed = λ q. sym (made-same script 1 w middle after.node takes [] [] changes
                  (λ t s fs. placed_in name fs) (λ t s. flat_map-is-list-map _) (refl, tt) tt 1 q);
              news = λ q. ap (λ m. news name (x.used && is_maker m q) (frames_to w 1 q)) (sym same.maker_is)
                  ∙ sym (made-same script 1 w middle after.node takes [] [] changes
                  (λ t s fs. news name (x.used && is_maker (maker (directory_of middle) name) s) fs)
                  (λ t s. flat_map-is-list-map _) (refl, tt) tt 1 q);
            }

    names : NameHolds script b.pids (is_born_in middle) name (name_sight script middle hand moved name)
    names = by-test (has_deed_of name parcel) refl
      where
        by-test : (t : Bool) → has_deed_of name parcel ≡ t
            → NameHolds script b.pids (is_born_in middle) name (name_sight script middle hand moved name)
        by-test true e = name-here e
        by-test false e = name-elsewhere e

  -- ---- the nodes and calls

  node-holds : NodeHolds script b.pids (is_born_in w) 1 n
  node-holds = holds.nodes 1 h.low h.high

  nodes-now : (q : ℕ) → 1 ≤ q → q ≤ node_count script
      → NodeHolds script b.pids (is_born_in middle) q (node_of middle q)
  nodes-now q low high =
      elim (cases_eq q 1) [
        | inr u ↦
            other-node-stays script 1 w middle after.node takes [] [] changes b.pids (is_born_in w)
            (is_born_in middle) q u more (holds.nodes q low high)
        | inl e ↦
            subst (λ y. NodeHolds script b.pids (is_born_in middle) y (node_of middle y)) (sym e)
            (subst (λ (m : Node). NodeHolds script b.pids (is_born_in middle) 1 m) (sym changes.here)
            (node-born script b.pids (is_born_in w) (is_born_in middle) 1 after.node more
            (node-with-directory script b.pids (is_born_in w) 1 n (with_left d c) refl node-holds)))
      ]

  leaves-call : (y : ℕ) → LeavesCall w middle [] hand b moved 1 after.node y
  leaves-call y =
      record {
        own = λ e. record { number = refl; pid = refl; stage = refl; caller = refl; leases = refl };
        place_is = refl;
        alive_is = refl;
        call_is = refl;
        held_is = λ name. ap (λ z. filter (is_item_about y) (held_for z name)) directory-now;
        hand_is = refl;
        waiters_are = λ name. refl;
      }

  leaves-items : (y : ℕ) → LeavesItems w middle [] hand 1 after.node y
  leaves-items y =
      record {
        own = λ e. record { number = refl; pid = refl; stage = refl; caller = refl; leases = refl };
        held_is = λ name. ap (λ z. filter (is_item_of y) (held_for z name)) directory-now;
        hand_is = refl;
        leaves = λ q e. stays-same q ∙ e;
      }

  -- ---- the ways

  leavings-same : (q : ℕ) → filter is_leaving_frame (frames_to middle 1 q) ≡ filter is_leaving_frame (frames_to w 1 q)
  leavings-same q =
      made-same script 1 w middle after.node takes [] [] changes (λ t s fs. filter is_leaving_frame fs)
      (λ t s. filter-is-list-map is_leaving_frame) (refl, tt) tt 1 q

  recalls-same : (q : ℕ) → filter is_recall_all (frames_to middle q 1) ≡ filter is_recall_all (frames_to w q 1)
  recalls-same q =
      made-same script 1 w middle after.node takes [] [] changes (λ t s fs. filter is_recall_all fs)
      (λ t s. filter-is-list-map is_recall_all) (refl, tt) tt q 1

  lefts-left : (q : ℕ) → filter is_left_frame (frames_to middle 1 q) ≡ filter is_left_frame (changes.left 1 q)
  lefts-left q =
      only-stayed script 1 w middle after.node takes [] [] changes (λ t s fs. filter is_left_frame fs)
      (λ t s. filter-is-list-map is_left_frame) tt 1 q

  knows-still : (q : ℕ) → knows_parent script w b.pids q ≡ true → knows_parent script middle b.pids q ≡ true
  knows-still q e = ap (λ z. is_known z (Proc (b.pids (forker script q)))) directory-now ∙ e

  way-here : IsGone (knows_parent script middle b.pids c) (way_sight middle c)
  way-here =
      let shown = way-was.shows
      in record {
        stage = stage-same c ∙ way-was.stage;
        shows = record {
          has_leavings = leavings-same c ∙ shown.has_leavings;
          has_recalls = recalls-same c ∙ shown.has_recalls;
          has_parting = ap (λ (z : Directory). get z.partings c) directory-now ∙ get-put-same d.partings c HasLeft;
        };
        lefts = lefts-left c ∙ no-more-lefts;
        parent = knows-still c way-was.parent;
      }

  way-elsewhere : (q : ℕ) → q ≢ c → SameWay (way_sight w q) (way_sight middle q)
  way-elsewhere q u =
      record {
        stage = sym (stage-same q);
        parting = sym (ap (λ (z : Directory). get z.partings q) directory-now
            ∙ get-put-other d.partings c HasLeft q u);
        leavings = sym (leavings-same q);
        recalls = sym (recalls-same q);
        lefts = sym (lefts-left q
            ∙ others-stay script 1 c w middle after.node frame [] [] changes (λ t s fs. filter is_left_frame fs)
            (λ t s. filter-is-list-map is_left_frame) 1 q (inr u));
      }

  ways-now : (q : ℕ) → 2 ≤ q → q ≤ node_count script
      → Way script b.pids q (knows_parent script middle b.pids q) (way_sight middle q)
  ways-now q low high =
      elim (cases_eq q c) [
        | inl e ↦
            subst (λ z. Way script b.pids z (knows_parent script middle b.pids z) (way_sight middle z)) (sym e)
            (gone way-here)
        | inr u ↦
            way-stays script b.pids q (knows_parent script w b.pids q) (knows_parent script middle b.pids q)
            (way_sight w q) (way_sight middle q) (knows-still q) (way-elsewhere q u) (holds.ways q low high)
      ]

  -- ---- the parcels

  parcel-was : (q : Parcel) → IsParcelIn middle hand q → IsParcelIn w [] q
  parcel-was q (left_in y there) =
      elim (was-there script 1 w middle after.node takes [] [] changes (λ to g. ⊥) tt 1 y (frames.Left q) there) [
        | inl old ↦ left_in y old
        | inr new ↦ absurd new.1
      ]
  parcel-was q (sent_in y there) =
      elim (was-there script 1 w middle after.node takes [] [] changes (λ to g. ⊥) tt y 1 (frames.ExitTo q) there) [
        | inl old ↦ sent_in y old
        | inr new ↦ absurd new.1
      ]
  parcel-was q (kept_in pid there) =
      kept_in pid (subst (λ z. Contains (held_for z (Proc pid)) (Ending q)) directory-now there)
  parcel-was q (at_hand there) =
      elim (Contains-push_cases [] (Ending parcel) (Ending q) there) [
        | inl none ↦ absurd (omega (arith, none.1))
        | inr e ↦
            left_in c (subst (λ r. Contains (frames_to w 1 c) (frames.Left r)) (same e) (head-there script w 1 c frame
            rest h))
      ]
    where
      same : Ending parcel ≡ Ending q → parcel ≡ q
      same e = cc

  parcels-now : (q : Parcel) → IsParcelIn middle hand q
      → HasSender script b.pids (stage_of middle) (under_way_of middle) q
  parcels-now q there =
      sender-stays script 1 w middle after.node takes [] [] changes b.pids q (λ left. (left, refl))
      (holds.parcels q (parcel-was q there))

  -- ---- all else

  families-now : (k : ℕ) → b.pids k ≢ 0
      → FamilyHolds script b.pids b.places b.kernel (process_deed deeds-now) (checkpoints_to script middle k)
      (stage_of middle k) k
  families-now k forked =
      let old : FamilyHolds script b.pids b.places b.kernel (process_deed b.deed) (checkpoints_to script w k)
      (stage_of w k) k = holds.families k forked
      in record {
        process = old.process;
        is = old.is;
        child = old.child;
        where_it_is = where-at-leader k c old.process (b.deed (Proc (b.pids k))) old.where_it_is;
        with_parent = parent-at-leader c (process_deed b.deed) (b.pids (forker script k)) (b.pids k) old.process
            old.with_parent;
        checkpoint = checkpoint-at-leader script b.pids b.places k c (checkpoints_to script middle k)
            (b.deed (Proc (b.pids k)))
            (subst (λ fs. CheckpointIn script b.pids b.places k fs (b.deed (Proc (b.pids k)))) (sym frames-same)
            old.checkpoint);
        fresh = fresh-at-leader c old.process (b.deed (Proc (b.pids k))) old.fresh;
        awaited = awaited-at-leader c (stage_of middle k) (b.deed (Proc (b.pids k)))
            (subst (λ s. IsAwaited s (b.deed (Proc (b.pids k)))) (sym (stage-same k)) old.awaited);
        children = old.children;
      }
    where
      frames-same : checkpoints_to script middle k ≡ checkpoints_to script w k
      frames-same =
          made-same script 1 w middle after.node takes [] [] changes (λ t s fs. filter is_checkpoint fs)
          (λ t s. filter-is-list-map is_checkpoint) (refl, tt) tt k (forker script k)

  keys-now : KeysHold (node_of middle 1).leader b.kernel
  keys-now =
      let keys : KeysHold (node_of w 1).leader b.kernel = holds.keys
      in record {
        queues = λ key. ap (λ (m : Node). get m.leader.queue_keys key) changes.here ∙ keys.queues key;
        sets = λ key. ap (λ (m : Node). get m.leader.set_keys key) changes.here ∙ keys.sets key;
      }

  ranges-same : (kind : Kind) → for_kind (directory_of middle).ranges kind ≡ for_kind d.ranges kind
  ranges-same kind = ap (λ (z : Directory). for_kind z.ranges kind) directory-now

  leading-now : IsLeading (directory_of middle)
  leading-now =
      let leads = holds.leading
      in subst (λ (z : Directory). IsLeading z) (sym directory-now)
      (record {
        stays = ap is_none (get-put-other d.partings c HasLeft 1 (λ e. other (sym e))) ∙ leads.stays;
        processes = leads.processes;
        queues = leads.queues;
        sets = leads.sets;
      })

  -- The node has left, and its process's parcel is in hand.
  pub left-in-hand : Holds script middle hand moved
  left-in-hand =
      record {
        shape = changes.shape;
        history = holds.history;
        whole = whole-unmoved script w middle [] hand Nothing b deeds-now 1 after.node takes [] holds changes refl;
        leading = leading-now;
        pids = holds.pids;
        nodes = nodes-now;
        frames_fit = frames-still-fit script 1 w middle after.node takes [] [] changes more holds.frames_fit tt tt;
        names = names;
        calls = λ y low high. call-stays script y (is_born_in w) (is_born_in middle) (call_sight w [] b y)
            (call_sight middle hand moved y) more
            (call-left-alone script 1 w middle after.node takes [] [] changes [] hand b moved y (leaves-call y)
            (refl, tt) tt) (holds.calls y low high);
        cancels = λ y low high. cancel-unmoved script w middle [] hand Nothing b deeds-now 1 after.node takes [] holds
            changes names y low high (leaves-items y) (refl, tt) tt (refl, tt) tt;
        ways = ways-now;
        parcels = parcels-now;
        kinds = λ kind. kind-stays (is_born_in w) (is_born_in middle) _ _ more
            (kind-left-alone script 1 w middle after.node takes [] [] changes b.kernel b.kernel kind
            (λ number. refl) refl (ranges-same kind) (refl, tt) tt) (holds.kinds kind);
        few = λ kind. few-still script 1 w middle after.node takes [] [] changes b.call b.call kind refl
            (ranges-same kind) (λ y. refl) (holds.few kind);
        keys = keys-now;
        families = families-now;
      }
