-- A node tells the leader that its process ends: the process and its parent are known from then on, all that was at the
-- node is on its way, and the node is asked for all that it holds.
use Rattle.std.proofs.Common.{◌≡◌, ◌≢◌, ◌⊎◌, ℕ, ◌<◌, ◌≤◌, Bool, true, false, ◌&&◌, ◌||◌, not, if◌then◌else◌, List, [], ◌∷◌, ◌++◌, length, filter, flat_map, nat_eq, nat_lt, nat_le, Option, Some, None, is_none, is_some, option_map, Contains, refl, ap, sym, subst, ◌∙◌, inl, inr, arith, append-nil}
use Rattle.std.proofs.lemmas.Bool.{cases_eq, eq-eqb, ne_eqb, lt-ltb, le-leb, false≢true}
use Rattle.std.proofs.lemmas.List.Elements.{Contains-append_left, Contains-push}
use Rattle.pico_base.specs.declared.numbers.Kind.{Kind}
use Rattle.pico_base.specs.declared.numbers.Name.{Name}
use Rattle.pico_base.specs.declared.numbers.Name.TheVariants.{Proc, Msg, Sem}
use Rattle.pico_base.specs.declared.script.Script.{Script}
use Rattle.pico_base.specs.declared.script.Event.TheVariants as events
use Rattle.rpc_frame.specs.declared.deed.Parcel.{Parcel}
use Rattle.rpc_frame.specs.declared.frame.Frame.{Frame}
use Rattle.rpc_frame.specs.declared.frame.Frame.TheVariants as frames
use Rattle.number_maps.specs.Maps.{get}
use Rattle.number_maps.proofs.LookUps.{get-put-same, get-put-other}
use Rattle.kernel_model.specs.Kernel.{Process}
use Rattle.kernel_model.specs.Kernel as kernel
use Rattle.entry_laws.specs.Entering.{is_used_name}
use Rattle.node_model.specs.declared.held.Held.TheVariants.{Ending}
use Rattle.node_model.specs.Kinds.{kind_of, number_of, get_named, for_kind}
use Rattle.node_model.specs.Directory.{Directory, Place, At, Parting, IsLeaving, place_of, place_name, with_leaving, place_without, items_of, destination_of, maker, maker_in, stays, is_known, held_for, is_parcel_with}
use Rattle.node_model.specs.Leases.{leases_hold}
use Rattle.world_model.specs.Node.{Node, Leaving, is_leader, is_node}
use Rattle.world_model.specs.Step.{Step, with_directory}
use Rattle.world_model.specs.Lives.{place_family, take_leaving}
use Rattle.world_model.specs.Census.{brings}
use Rattle.world_model.specs.World.{World, world_after, node_count}
use Rattle.world_laws.specs.Places.{Unmade, Beside}
use Rattle.world_laws.specs.Sights.{node_of, frames_to, directory_of, stage_of, is_born_in}
use Rattle.world_laws.specs.Plays.{Somewhere, believed, told, is_there, plays, begin, is_checkpoint_of, has_any, placed_in, News, NeedsPlace, news_if, news, finds_place}
use Rattle.world_laws.specs.Names.{NameSight, name_sight, NameHolds, IsTold, SaysOf, held_at, comes_to, range_steps_of, forker, is_maker, belief_of, maker_tells, is_nowhere}
use Rattle.world_laws.specs.Callers.{call_sight, is_item_about}
use Rattle.world_laws.specs.Ways.{Way, way_sight, knows_parent, Shows, TellsEnd, IsCollected, here, tells, collected, over, gone, is_leaving_frame, is_recall_all, is_left_frame, IsParcelIn, left as left_in, sent as sent_in, kept as kept_in, at_hand, under_way_of, HasSender}
use Rattle.world_laws.specs.Ranges.{KeysHold, kind_sight}
use Rattle.world_laws.specs.Families.{NodeHolds, BornIn, IsBorn, FamilyHolds, IsWhereFor, checkpoints_to}
use Rattle.world_laws.specs.Invariant.{Holds, IsLeading, process_deed}
use Rattle.world_laws.specs.Cancels.{Nothing}
use Rattle.world_laws.proofs.Cancels.{is_item_of}
use Rattle.world_laws.proofs.Named.{name-cases}
use Rattle.world_laws.proofs.Numbers.{used-is-taken}
use Rattle.world_laws.proofs.Stays.{IsMore, SameName, name-stays, node-born, call-stays, SameWay, way-stays, kind-stays}
use Rattle.world_laws.proofs.Sends.{frame_if}
use Rattle.world_laws.proofs.Changes.{Changes, frames_if, sent, filter-is-list-map, flat_map-is-list-map, made-after, made-same, only-stayed, stayed, still-born, read-same}
use Rattle.world_laws.proofs.LeftAlone.{LeavesCall, call-left-alone, was-there, sender-stays, kind-left-alone, family-left-alone, other-node-stays, frames-still-fit, few-still}
use Rattle.world_laws.proofs.Steps.{KeepsAs, Heads, world_without, take-steps, changes-by-take}
use Rattle.world_laws.proofs.Heads.{head-is, head-may-be, head-from-another, rest-stays, others-stay}
use Rattle.rule_laws.proofs.Quiet.{SameButPlaces}
use Rattle.rule_laws.proofs.Nodes.{node-with-directory, and-true}
use Rattle.rule_laws.proofs.ends.Directories.{known_as, place-of-placed, place-of-other, place-name-keeps, keeps-both, place-of-leaving, leading-leaving, stays-leaving, items-without}
use Rattle.rule_laws.proofs.ends.Unmoved.{LeavesItems, cancel-unmoved, whole-unmoved}
use Rattle.rule_laws.proofs.ends.Asked.{last_if, asked_for, IsAskedFor, name-asked-for}

is-not-empty : {A : Type 0} (x : A) (xs : List A) → x ∷ xs ≡ [] → ⊥
is-not-empty x xs h = cc

-- ---- processes that are forked

no-process-unmade : (c : ℕ) (process : Process) → IsWhereFor c Unmade process → ⊥
no-process-unmade c (kernel.Living alive) h = h
no-process-unmade c (kernel.Ended ending) h = h
no-process-unmade c kernel.Gone h = h

module _ (script : Script) (w : World) (b : Beside) (holds : Holds script w [] b) where
  abbrev sight : Name → NameSight
  sight name = name_sight script w [] b name

  -- a process that is forked has its number
  pub forked-is-used : (k : ℕ) → b.pids k ≢ 0 → is_used_name b.kernel (Proc (b.pids k)) ≡ true
  forked-is-used k forked = by-test (is_used_name b.kernel (Proc (b.pids k))) refl
    where
      family : FamilyHolds script b.pids b.places b.kernel (process_deed b.deed)
          (checkpoints_to script w k) (stage_of w k) k
      family = holds.families k forked

      known : NameHolds script b.pids (is_born_in w) (Proc (b.pids k)) (sight (Proc (b.pids k)))
      known = holds.names (Proc (b.pids k))

      by-test : (t : Bool) → is_used_name b.kernel (Proc (b.pids k)) ≡ t
          → is_used_name b.kernel (Proc (b.pids k)) ≡ true
      by-test true e = e
      by-test false e =
          absurd
          (no-process-unmade k family.process
          (subst (λ d. IsWhereFor k d family.process) (known.made.1 e) family.where_it_is))

  -- what is told of a name that the leader believes somewhere
  pub record IsToldOf (name : Name) (node : ℕ) : Type 0 where
    pub sender : ℕ
    pub says : IsTold b.pids name (sight name).used (sight name).maker sender node

  -- who is told of first
  pub told-first : (name : Name) (node : ℕ) (more : List ℕ) (m : Option ℕ) → (sight name).maker ≡ m
      → maker_tells (sight name) m ≡ node ∷ more → IsToldOf name node
  told-first name node more None e ts = absurd (is-not-empty node more (sym ts))
  told-first name node more (Some q) e ts =
      let known : NameHolds script b.pids (is_born_in w) name (sight name) = holds.names name
      in record {
        sender = q;
        says = known.told q node
            (subst (λ ns. Contains ns node) (sym ts)
            (Contains-append_left (node ∷ []) more node (Contains-push [] node)));
      }

  -- a process that the leader doesn't know is believed at its own node, which isn't the first
  pub unknown-is-told : (k : ℕ) → b.pids k ≢ 0 → place_of (directory_of w) (Proc (b.pids k)) ≡ None
      → (Somewhere k ≡ belief_of (sight (Proc (b.pids k)))) × (k ≢ 1)
  unknown-is-told k forked none =
      by-tells (maker_tells (sight name) (sight name).maker) refl
      (sym (ap (λ o. is_nowhere (believed o (maker_tells (sight name) (sight name).maker))) none)
      ∙ known.believed (forked-is-used k forked))
    where
      name : Name
      name = Proc (b.pids k)

      known : NameHolds script b.pids (is_born_in w) (Proc (b.pids k)) (sight (Proc (b.pids k)))
      known = holds.names (Proc (b.pids k))

      same-node : (node : ℕ) → IsToldOf (Proc (b.pids k)) node → (node ≡ k) × (node ≢ 1)
      same-node node t =
          let says = t.says
          in let pids = holds.pids
          in (pids.apart node k (λ z. forked (sym says.says ∙ z)) says.says, says.other)

      by-tells : (ts : List ℕ) → maker_tells (sight (Proc (b.pids k))) (sight (Proc (b.pids k))).maker ≡ ts
          → is_nowhere (told ts) ≡ false → (Somewhere k ≡ belief_of (sight (Proc (b.pids k)))) × (k ≢ 1)
      by-tells [] e f = absurd (false≢true (sym f))
      by-tells (node ∷ more) e f =
          let same = same-node node (told-first (Proc (b.pids k)) node more _ refl e)
          in (
            ap Somewhere (sym same.0)
                ∙ sym (ap (λ o. believed o (maker_tells (sight (Proc (b.pids k))) (sight (Proc (b.pids k))).maker)) none
                ∙ ap told e),
            λ z. same.1 (same.0 ∙ z),
          )

-- ---- the event

module _ (script : Script) (w : World) (b : Beside) (holds : Holds script w [] b) (c : ℕ) (rest : List Frame)
    (h : Heads script w 1 c (frames.Leaving (b.pids c) (b.pids (forker script c)) (forker script c)) rest) where
  abbrev f : ℕ
  f = forker script c

  abbrev frame : Frame
  frame = frames.Leaving (b.pids c) (b.pids f) f

  abbrev n : Node
  n = node_of w 1

  abbrev d : Directory
  d = directory_of w

  other : c ≢ 1
  other = head-from-another script w 1 c frame rest h (is_born_in w) holds.frames_fit

  low-node : 2 ≤ c
  low-node = let low = h.low_from in omega (arith, low, other)

  leavings-there : filter is_leaving_frame (frames_to w 1 c) ≡ frame ∷ filter is_leaving_frame rest
  leavings-there = ap (filter is_leaving_frame) (head-is script w 1 c frame rest h)

  way-was : TellsEnd script b.pids c (way_sight w c)
  way-was = by-way (holds.ways c low-node h.high_from)
    where
      no-leaving : (recalls : List Frame) (parting : Option Parting) → Shows (way_sight w c) [] recalls parting → ⊥
      no-leaving recalls parting s =
          is-not-empty frame (filter is_leaving_frame rest) (sym leavings-there ∙ s.has_leavings)

      by-way : Way script b.pids c (knows_parent script w b.pids c) (way_sight w c)
          → TellsEnd script b.pids c (way_sight w c)
      by-way (here z) = absurd (no-leaving _ _ z.shows)
      by-way (tells z) = z
      by-way (collected z) = absurd (no-leaving _ _ z.shows)
      by-way (over z) = absurd (no-leaving _ _ z.shows)
      by-way (gone z) = absurd (no-leaving _ _ z.shows)

  stage : stage_of w c ≡ Leaving
  stage = way-was.stage

  node-of-c : NodeHolds script b.pids (is_born_in w) c (node_of w c)
  node-of-c = holds.nodes c h.low_from h.high_from

  birth : IsBorn script b.pids c (node_of w c).pid (node_of w c).parent (node_of w c).parent_node
  birth =
      subst
      (λ s. BornIn script b.pids c (node_of w c).pid (node_of w c).parent (node_of w c).parent_node s)
      stage node-of-c.birth

  forked : b.pids c ≢ 0
  forked = birth.forked

  parent-forked : (b.pids f ≢ 0) × (f < c)
  parent-forked = let pids = holds.pids in pids.forked c forked other

  parent-in-range : (1 ≤ f) × (f ≤ node_count script)
  parent-in-range = let pids = holds.pids in pids.nodes f parent-forked.0

  two-processes : b.pids c ≢ b.pids f
  two-processes e =
      let pids = holds.pids
      in let less = parent-forked.1
      in omega (arith, less, pids.apart c f forked e)

  node-holds : NodeHolds script b.pids (is_born_in w) 1 n
  node-holds = holds.nodes 1 h.low h.high

  -- ---- the rule

  not-leased : (k : ℕ) → b.pids k ≢ 0 → leases_hold n.leases (Proc (b.pids k)) ≡ false
  not-leased k is_forked =
      used-is-taken (is_born_in w) (kind_sight w b.kernel (kind_of (Proc (b.pids k))))
      (holds.kinds (kind_of (Proc (b.pids k)))) (b.pids k) 1 h.low (forked-is-used script w b holds k is_forked)

  parent-found : (is_known d (Proc (b.pids f)) || not (nat_eq f 1)) ≡ true
  parent-found = by-place (place_of d (Proc (b.pids f))) refl
    where
      by-place : (o : Option Place) → place_of d (Proc (b.pids f)) ≡ o
          → (is_known d (Proc (b.pids f)) || not (nat_eq f 1)) ≡ true
      by-place (Some place) e = ap (λ v. not (is_none v) || not (nat_eq f 1)) e
      by-place None e =
          let was = unknown-is-told script w b holds f parent-forked.0 e
          in ap (λ v. not (is_none v) || not (nat_eq f 1)) e ∙ ap not (ne_eqb f 1 was.1)

  positive : (k : ℕ) → k ≢ 0 → nat_lt 0 k ≡ true
  positive k d0 = lt-ltb 0 k (omega (arith, d0))

  is-node : is_node script f ≡ true
  is-node =
      and-true (nat_le 1 f) (nat_le f (length script.blocks)) (le-leb 1 f parent-in-range.0)
      (le-leb f (length script.blocks) parent-in-range.1)

  stays-yet : stays d c ≡ true
  stays-yet = let shown = way-was.shows in ap is_none shown.has_parting

  abbrev d1 : Directory
  d1 = place_family d c (b.pids c) (b.pids f) f

  abbrev d2 : Directory
  d2 = with_leaving d1 c

  abbrev after : Step
  after = record { node = with_directory n d2; entries = []; sends = (c, frames.RecallAll) ∷ []; strikes = false }

  all-true : (leads from stay low low_parent same is_a_node found leased leased_too : Bool) → leads ≡ true
      → from ≡ false → stay ≡ true → low ≡ true → low_parent ≡ true → same ≡ false → is_a_node ≡ true → found ≡ true
      → leased ≡ false → leased_too ≡ false
      → ((leads && not from)
      && (stay && (low && (low_parent && (not same && (is_a_node && (found && (not leased && not leased_too))))))))
      ≡ true
  all-true leads from stay low low_parent same is_a_node found leased leased_too e1 e2 e3 e4 e5 e6 e7 e8 e9 e10 =
      rw (e1, e2, e3, e4, e5, e6, e7, e8, e9, e10) refl

  rule : take_leaving script n c (b.pids c) (b.pids f) f ≡ Some after
  rule =
      ap (λ t. if t then Some after else None)
      (all-true (is_leader n) (nat_eq c 1) (stays d c) (nat_lt 0 (b.pids c)) (nat_lt 0 (b.pids f))
      (nat_eq (b.pids c) (b.pids f)) (is_node script f) (is_known d (Proc (b.pids f)) || not (nat_eq f 1))
      (leases_hold n.leases (Proc (b.pids f))) (leases_hold n.leases (Proc (b.pids c)))
      (eq-eqb n.number 1 node-holds.number) (ne_eqb c 1 other) stays-yet (positive (b.pids c) forked)
      (positive (b.pids f) parent-forked.0) (ne_eqb (b.pids c) (b.pids f) two-processes) is-node parent-found
      (not-leased f parent-forked.0) (not-leased c forked))

  -- ---- what it changes

  abbrev next : World
  next = world_after (world_without w 1 c rest) 1 after

  abbrev takes : List (ℕ × Frame)
  takes = (c, frame) ∷ []

  changes : Changes script 1 w next after.node takes after.sends []
  changes =
      changes-by-take script w holds.shape 1 c frame rest after h
      (record { low = h.low_from; high = h.high_from }, tt)

  directory-now : directory_of next ≡ d2
  directory-now = ap (λ (m : Node). m.leader.directory) changes.here

  more : IsMore (is_born_in w) (is_born_in next)
  more = still-born script 1 w next after.node takes after.sends [] changes (λ g. g)

  but-places : SameButPlaces d d1
  but-places =
      let first = place-name-keeps d (Proc (b.pids f)) f holds.leading
      in keeps-both d (place_name d (Proc (b.pids f)) f) d1 first
      (place-name-keeps (place_name d (Proc (b.pids f)) f) (Proc (b.pids c)) c first.leads)

  held-same : (name : Name) → held_for (directory_of next) name ≡ held_for d name
  held-same name =
      let same = but-places
      in ap (λ z. held_for z name) directory-now
      ∙ ap items_of (place-of-leaving d1 c name)
      ∙ items-without c (place_of d1 name)
      ∙ same.held_is name

  ranges-same : (kind : Kind) → for_kind (directory_of next).ranges kind ≡ for_kind d.ranges kind
  ranges-same kind =
      let same = but-places
      in ap (λ (z : Directory). for_kind z.ranges kind) directory-now ∙ same.ranges_are kind

  maker-same : (name : Name) → maker (directory_of next) name ≡ maker d name
  maker-same name = ap (λ ranges. maker_in ranges (number_of name)) (ranges-same (kind_of name))

  place-now : (name : Name) → place_of (directory_of next) name ≡ option_map (place_without c) (place_of d1 name)
  place-now name = ap (λ z. place_of z name) directory-now ∙ place-of-leaving d1 c name

  stays-now : (q : ℕ) → stays (directory_of next) q ≡ (if nat_eq q c then false else stays d q)
  stays-now q =
      let same = but-places
      in ap (λ z. stays z q) directory-now ∙ stays-leaving d1 c q
      ∙ ap (λ o. if nat_eq q c then false else is_none o) (same.partings_are q)

  -- ---- the places in between

  -- a process of the family that wasn't known is known now
  pub record IsNewlyKnown (name : Name) : Type 0 where
    pub node : ℕ
    pub is_forked : b.pids node ≢ 0
    pub name_is : name ≡ Proc (b.pids node)
    pub was_none : place_of d name ≡ None
    pub now : place_of d1 name ≡ Some (At node)

  from-known : (name : Name) (node : ℕ) → b.pids node ≢ 0 → name ≡ Proc (b.pids node) → (o : Option Place)
      → place_of d name ≡ o
      → place_of d1 name ≡ known_as o node → (place_of d1 name ≡ place_of d name) ⊎ IsNewlyKnown name
  from-known name node is_forked name_is None was now =
      inr (record { node = node; is_forked = is_forked; name_is = name_is; was_none = was; now = now })
  from-known name node is_forked name_is (Some place) was now = inl (now ∙ sym was)

  proc-same : (i j : ℕ) → Proc i ≡ Proc j → i ≡ j
  proc-same i j e = cc

  parent-differs : Proc (b.pids c) ≢ Proc (b.pids f)
  parent-differs e = two-processes (proc-same (b.pids c) (b.pids f) e)

  place-of-own : place_of d1 (Proc (b.pids c)) ≡ known_as (place_of d (Proc (b.pids c))) c
  place-of-own =
      place-of-placed (place_name d (Proc (b.pids f)) f) (Proc (b.pids c)) c
      ∙ ap (λ o. known_as o c) (place-of-other d (Proc (b.pids f)) f (Proc (b.pids c)) parent-differs)

  place-of-parent : place_of d1 (Proc (b.pids f)) ≡ known_as (place_of d (Proc (b.pids f))) f
  place-of-parent =
      place-of-other (place_name d (Proc (b.pids f)) f) (Proc (b.pids c)) c (Proc (b.pids f))
      (λ e. parent-differs (sym e))
      ∙ place-of-placed d (Proc (b.pids f)) f

  place-between : (name : Name) → (place_of d1 name ≡ place_of d name) ⊎ IsNewlyKnown name
  place-between name =
      elim (name-cases name (Proc (b.pids c))) [
        | inl e ↦
            from-known name c forked e (place_of d name) refl
            (subst (λ m. place_of d1 m ≡ known_as (place_of d m) c) (sym e) place-of-own)
        | inr u ↦
            elim (name-cases name (Proc (b.pids f))) [
              | inl e ↦
                  from-known name f parent-forked.0 e (place_of d name) refl
                  (subst (λ m. place_of d1 m ≡ known_as (place_of d m) f) (sym e) place-of-parent)
              | inr v ↦
                  inl
                  (place-of-other (place_name d (Proc (b.pids f)) f) (Proc (b.pids c)) c name u
                  ∙ place-of-other d (Proc (b.pids f)) f name v)
            ]
      ]

  is-now-known : (o : Option Place) (node : ℕ) → is_some (known_as o node) ≡ true
  is-now-known None node = refl
  is-now-known (Some place) node = refl

  own-is-known : place_of d1 (Proc (b.pids c)) ≡ None → ⊥
  own-is-known e =
      false≢true
      (sym (ap is_some e) ∙ ap is_some place-of-own ∙ is-now-known (place_of d (Proc (b.pids c))) c)

  -- ---- the names

  module _ (name : Name) where
    abbrev x : NameSight
    x = name_sight script w [] b name

    known : NameHolds script b.pids (is_born_in w) name x
    known = holds.names name

    abbrev made-by : ℕ → Bool
    made-by q = x.used && is_maker x.maker q

    abbrev needs : ℕ → List News
    needs q = news name (made-by q) (changes.left 1 q)

    news-first : x.news c ≡ (news_if (made-by c) NeedsPlace ++ []) ++ needs c
    news-first =
        rest-stays script 1 c w next after.node frame after.sends [] changes
        (λ t s fs. news name (made-by s) fs) (λ t s. flat_map-is-list-map _)

    news-others : (q : ℕ) → q ≢ c → needs q ≡ x.news q
    news-others q u =
        others-stay script 1 c w next after.node frame after.sends [] changes
        (λ t s fs. news name (made-by s) fs) (λ t s. flat_map-is-list-map _) 1 q (inr u)

    -- where the leader doesn't know it, this node didn't make it
    not-made-by : place_of d name ≡ None → made-by c ≡ true → ⊥
    not-made-by none made =
        false≢true
        (sym (ap (λ t. finds_place false ((news_if t NeedsPlace ++ []) ++ needs c)) made)
        ∙ ap (finds_place false) (sym news-first)
        ∙ ap (λ o. finds_place (is_some o) (x.news c)) (sym none)
        ∙ known.found c low-node)

    not-maker : place_of d name ≡ None → x.used ≡ true → x.maker ≢ Some c
    not-maker none used e =
        not-made-by none
        (ap (λ t. t && is_maker x.maker c) used ∙ ap (λ m. is_maker m c) e ∙ eq-eqb c c refl)

    found-now : place_of d name ≡ None → (q : ℕ) → 2 ≤ q → finds_place false (needs q) ≡ true
    found-now none q low =
        elim (cases_eq q c) [
          | inl e ↦ subst (λ y. finds_place false (needs y) ≡ true) (sym e) (by-test (made-by c) refl)
          | inr u ↦ ap (finds_place false) (news-others q u) ∙ was-found q low
        ]
      where
        was-found : (r : ℕ) → 2 ≤ r → finds_place false (x.news r) ≡ true
        was-found r low_r = ap (λ o. finds_place (is_some o) (x.news r)) (sym none) ∙ known.found r low_r

        by-test : (t : Bool) → made-by c ≡ t → finds_place false (needs c) ≡ true
        by-test true e = absurd (not-made-by none e)
        by-test false e =
            ap (finds_place false) (sym (news-first ∙ ap (λ t. (news_if t NeedsPlace ++ []) ++ needs c) e))
            ∙ was-found c low-node

    -- nor is it there
    told-elsewhere : place_of d name ≡ None → name ≢ Proc (b.pids c) → (node : ℕ) → IsToldOf script w b holds name node
        → node ≢ c
    told-elsewhere none u node t e = by-name name refl t.says.says
      where
        by-name : (m : Name) → m ≡ name → SaysOf b.pids m t.sender node → ⊥
        by-name (Proc k) same says = u (sym same ∙ ap Proc (sym says ∙ ap b.pids e))
        by-name (Msg k) same says =
            let told_of = t.says in not-maker none told_of.used (told_of.maker ∙ ap Some (sym says ∙ e))
        by-name (Sem k) same says =
            let told_of = t.says in not-maker none told_of.used (told_of.maker ∙ ap Some (sym says ∙ e))

    believed-elsewhere : place_of d name ≡ None → name ≢ Proc (b.pids c) → is_there c (belief_of x) ≡ false
    believed-elsewhere none u =
        ap (λ o. is_there c (believed o (maker_tells x x.maker))) none
        ∙ by-tells (maker_tells x x.maker) refl
      where
        by-tells : (ts : List ℕ) → maker_tells x x.maker ≡ ts → is_there c (told (maker_tells x x.maker)) ≡ false
        by-tells [] e = ap (λ ts. is_there c (told ts)) e
        by-tells (node ∷ rest_told) e =
            ap (λ ts. is_there c (told ts)) e
            ∙ ne_eqb node c (told-elsewhere none u node (told-first script w b holds name node rest_told _ refl e))

    is-not-own : place_of d1 name ≡ None → name ≢ Proc (b.pids c)
    is-not-own none e = own-is-known (ap (place_of d1) (sym e) ∙ none)

    is-asked-same : place_of d1 name ≡ place_of d name → IsAskedFor x c (place_of d1 name) needs
    is-asked-same same =
        record {
          belief_is = ap (λ o. believed o (maker_tells x x.maker)) same;
          items_are = ap items_of same;
          bound_is = ap destination_of same;
          is_used = λ e. known.known (ap is_some (sym same) ∙ e);
          unknown = λ e. sym same ∙ e;
          elsewhere = λ e. believed-elsewhere (sym same ∙ e) (is-not-own e);
          not_made = λ e. not-maker (sym same ∙ e);
          found = λ e. found-now (sym same ∙ e);
        }

    is-asked-new : IsNewlyKnown name → IsAskedFor x c (place_of d1 name) needs
    is-asked-new new =
        record {
          belief_is = ap (λ o. believed o (maker_tells x x.maker)) new.now
              ∙ subst (λ m. Somewhere new.node ≡ belief_of (name_sight script w [] b m)) (sym new.name_is)
              believed-there;
          items_are = ap items_of new.now ∙ sym (ap items_of new.was_none);
          bound_is = ap destination_of new.now ∙ sym (ap destination_of new.was_none);
          is_used = λ e. subst (λ m. is_used_name b.kernel m ≡ true) (sym new.name_is)
              (forked-is-used script w b holds new.node new.is_forked);
          unknown = λ e. new.was_none;
          elsewhere = λ e. absurd (not-none e);
          not_made = λ e. absurd (not-none e);
          found = λ e. absurd (not-none e);
        }
      where
        not-none : place_of d1 name ≡ None → ⊥
        not-none e = false≢true (sym (ap is_some e) ∙ ap is_some new.now)

        believed-there : Somewhere new.node ≡ belief_of (name_sight script w [] b (Proc (b.pids new.node)))
        believed-there =
            let both = unknown-is-told script w b holds new.node new.is_forked
            (subst (λ m. place_of d m ≡ None) new.name_is new.was_none)
            in both.0

    is-asked : IsAskedFor x c (place_of d1 name) needs
    is-asked = elim (place-between name) [ inl same ↦ is-asked-same same | inr new ↦ is-asked-new new ]

    comes-now : (q : ℕ) → comes_to script next name q ≡ comes_to script w name q
    comes-now q =
        ap (λ fs. not (nat_eq (forker script q) 1) && has_any fs)
        (made-same script 1 w next after.node takes after.sends [] changes
        (λ t s fs. filter (is_checkpoint_of name) fs) (λ t s. filter-is-list-map (is_checkpoint_of name)) (refl, tt)
        (refl, tt) q (forker script q))

    begins-now : (q : ℕ)
        → x.begins q ≡ begin (stage_of next q) (is_some (held_at next name q)) (comes_to script next name q)
    begins-now q =
        ap (begin (stage_of w q) (is_some (held_at w name q))) (sym (comes-now q))
        ∙ sym (read-same script 1 w next after.node takes after.sends [] changes
        (λ (m : Node). begin m.stage (is_some (get_named m.deeds name)) (comes_to script next name q)) refl q)

    last-played : (t : Bool) → plays x.used b.call name (frames_if true (frame_if t frames.RecallAll ++ [])) ≡ last_if t
    last-played true = refl
    last-played false = refl

    steps-now : (q : ℕ) → x.steps q ++ last_if (nat_eq q c) ≡ plays x.used b.call name (frames_to next q 1)
    steps-now q =
        sym (made-after script 1 w next after.node takes after.sends [] changes
        (λ t s fs. plays x.used b.call name fs) (λ t s. flat_map-is-list-map _) q 1
        ∙ ap (λ ss. ss ++ plays x.used b.call name (sent 1 after.sends q 1))
        (stayed script 1 w next after.node takes after.sends [] changes
        (λ t s fs. plays x.used b.call name fs) (λ t s. flat_map-is-list-map _) (refl, tt) q 1)
        ∙ ap (λ ss. x.steps q ++ ss) (last-played (nat_eq q c)))

    sight-now : SameName (asked_for x c (place_of d1 name) needs) (name_sight script next [] b name)
    sight-now =
        record {
          place = sym (place-now name);
          maker = sym (maker-same name);
          stays = λ q. sym (stays-now q);
          used = refl;
          part = refl;
          body = refl;
          deed = refl;
          held = λ q. sym (read-same script 1 w next after.node takes after.sends [] changes
              (λ (m : Node). get_named m.deeds name) refl q);
          brought = λ to sender. sym (made-same script 1 w next after.node takes after.sends [] changes
              (λ t s fs. filter (brings name) fs) (λ t s. filter-is-list-map (brings name)) (refl, tt) (refl, tt) to
              sender);
          kept = λ pid. ap (filter (is_parcel_with name)) (sym (held-same (Proc pid)));
          hand = refl;
          begins = begins-now;
          steps = steps-now;
          ranges = λ q. sym (made-same script 1 w next after.node takes after.sends [] changes
              (λ t s fs. flat_map (range_steps_of x.used b.call name) fs) (λ t s. flat_map-is-list-map _) (refl, tt)
              (refl, tt) q 1);
          placed = λ q. sym (made-same script 1 w next after.node takes after.sends [] changes
              (λ t s fs. placed_in name fs) (λ t s. flat_map-is-list-map _) (refl, tt) (refl, tt) 1 q);
          news = λ q. ap (λ m. news name (x.used && is_maker m q) (changes.left 1 q)) (sym (maker-same name))
              ∙ sym (only-stayed script 1 w next after.node takes after.sends [] changes
              (λ t s fs. news name (x.used && is_maker (maker (directory_of next) name) s) fs)
              (λ t s. flat_map-is-list-map _) (refl, tt) 1 q);
        }

    names : NameHolds script b.pids (is_born_in next) name (name_sight script next [] b name)
    names =
        name-stays script b.pids (is_born_in w) (is_born_in next) name _ _ more sight-now
        (name-asked-for script b.pids (is_born_in w) name x c (place_of d1 name) needs other is-asked known)

  -- ---- the nodes and calls

  nodes-now : (q : ℕ) → 1 ≤ q → q ≤ node_count script
      → NodeHolds script b.pids (is_born_in next) q (node_of next q)
  nodes-now q low high =
      elim (cases_eq q 1) [
        | inr u ↦
            other-node-stays script 1 w next after.node takes after.sends [] changes b.pids (is_born_in w)
            (is_born_in next) q u more (holds.nodes q low high)
        | inl e ↦
            subst (λ y. NodeHolds script b.pids (is_born_in next) y (node_of next y)) (sym e)
            (subst (λ (m : Node). NodeHolds script b.pids (is_born_in next) 1 m) (sym changes.here)
            (node-born script b.pids (is_born_in w) (is_born_in next) 1 after.node more
            (node-with-directory script b.pids (is_born_in w) 1 n d2 refl node-holds)))
      ]

  leaves-call : (y : ℕ) → LeavesCall w next [] [] b b 1 after.node y
  leaves-call y =
      record {
        own = λ e. record { number = refl; pid = refl; stage = refl; caller = refl; leases = refl };
        place_is = refl;
        alive_is = refl;
        call_is = refl;
        held_is = λ name. ap (filter (is_item_about y)) (held-same name);
        hand_is = refl;
        waiters_are = λ name. refl;
      }

  leaves-items : (y : ℕ) → LeavesItems w next [] [] 1 after.node y
  leaves-items y =
      record {
        own = λ e. record { number = refl; pid = refl; stage = refl; caller = refl; leases = refl };
        held_is = λ name. ap (filter (is_item_of y)) (held-same name);
        hand_is = refl;
        leaves = λ q e. stays-now q ∙ ap (λ t. if nat_eq q c then false else t) e ∙ false-if (nat_eq q c);
      }
    where
      false-if : (t : Bool) → (if t then false else false) ≡ false
      false-if true = refl
      false-if false = refl

  -- ---- the ways

  knows-still : (q : ℕ) → knows_parent script w b.pids q ≡ true → knows_parent script next b.pids q ≡ true
  knows-still q e =
      let same = but-places
      in by-some (place_of d1 (Proc (b.pids (forker script q))))
      (same.known_still (Proc (b.pids (forker script q))) e)
      (place-now (Proc (b.pids (forker script q))))
    where
      by-some : (o : Option Place) → not (is_none o) ≡ true
          → place_of (directory_of next) (Proc (b.pids (forker script q))) ≡ option_map (place_without c) o
          → knows_parent script next b.pids q ≡ true
      by-some None u g = absurd (false≢true u)
      by-some (Some place) u g = ap (λ v. not (is_none v)) g

  parent-known : knows_parent script next b.pids c ≡ true
  parent-known =
      ap (λ v. not (is_none v)) (place-now (Proc (b.pids f)) ∙ ap (option_map (place_without c)) place-of-parent)
      ∙ by-place (place_of d (Proc (b.pids f)))
    where
      by-place : (o : Option Place) → not (is_none (option_map (place_without c) (known_as o f))) ≡ true
      by-place None = refl
      by-place (Some place) = refl

  lefts-same : (q : ℕ) → filter is_left_frame (frames_to next 1 q) ≡ filter is_left_frame (frames_to w 1 q)
  lefts-same q =
      made-same script 1 w next after.node takes after.sends [] changes (λ t s fs. filter is_left_frame fs)
      (λ t s. filter-is-list-map is_left_frame) (refl, tt) (refl, tt) 1 q

  leavings-left : (q : ℕ) → filter is_leaving_frame (frames_to next 1 q) ≡ filter is_leaving_frame (changes.left 1 q)
  leavings-left q =
      only-stayed script 1 w next after.node takes after.sends [] changes (λ t s fs. filter is_leaving_frame fs)
      (λ t s. filter-is-list-map is_leaving_frame) (refl, tt) 1 q

  recalls-now : (q : ℕ)
      → filter is_recall_all (frames_to next q 1)
      ≡ filter is_recall_all (frames_to w q 1)
      ++ filter is_recall_all (frame_if (nat_eq q c) frames.RecallAll ++ [])
  recalls-now q =
      made-after script 1 w next after.node takes after.sends [] changes (λ t s fs. filter is_recall_all fs)
      (λ t s. filter-is-list-map is_recall_all) q 1
      ∙ ap (λ fs. fs ++ filter is_recall_all (sent 1 after.sends q 1))
      (stayed script 1 w next after.node takes after.sends [] changes (λ t s fs. filter is_recall_all fs)
      (λ t s. filter-is-list-map is_recall_all) (refl, tt) q 1)

  parting-now : get (directory_of next).partings c ≡ Some IsLeaving
  parting-now =
      ap (λ (z : Directory). get z.partings c) directory-now ∙ get-put-same d1.partings c IsLeaving

  parting-others : (q : ℕ) → q ≢ c → get (directory_of next).partings q ≡ get d.partings q
  parting-others q u =
      let same = but-places
      in ap (λ (z : Directory). get z.partings q) directory-now ∙ get-put-other d1.partings c IsLeaving q u
      ∙ same.partings_are q

  stage-same : (q : ℕ) → stage_of next q ≡ stage_of w q
  stage-same q =
      read-same script 1 w next after.node takes after.sends [] changes (λ (m : Node). m.stage) refl q

  way-here : IsCollected (knows_parent script next b.pids c) (way_sight next c)
  way-here =
      let shown = way-was.shows
      in record {
        stage = stage-same c ∙ stage;
        shows = record {
          has_leavings = leavings-left c
              ∙ tails-same frame (filter is_leaving_frame (changes.left 1 c)) []
              (sym (rest-stays script 1 c w next after.node frame after.sends [] changes
              (λ t s fs. filter is_leaving_frame fs) (λ t s. filter-is-list-map is_leaving_frame))
              ∙ shown.has_leavings);
          has_recalls = recalls-now c
              ∙ ap (λ fs. fs ++ filter is_recall_all (frame_if (nat_eq c c) frames.RecallAll ++ [])) shown.has_recalls
              ∙ ap (λ t. filter is_recall_all (frame_if t frames.RecallAll ++ [])) (eq-eqb c c refl);
          has_parting = parting-now;
        };
        lefts = lefts-same c ∙ way-was.lefts;
        parent = parent-known;
      }
    where
      tails-same : (g : Frame) (xs ys : List Frame) → g ∷ xs ≡ g ∷ ys → xs ≡ ys
      tails-same g xs ys e = cc

  way-elsewhere : (q : ℕ) → q ≢ c → SameWay (way_sight w q) (way_sight next q)
  way-elsewhere q u =
      record {
        stage = sym (stage-same q);
        parting = sym (parting-others q u);
        leavings = sym (leavings-left q
            ∙ others-stay script 1 c w next after.node frame after.sends [] changes
            (λ t s fs. filter is_leaving_frame fs) (λ t s. filter-is-list-map is_leaving_frame) 1 q (inr u));
        recalls = sym (recalls-now q
            ∙ ap (λ t. filter is_recall_all (frames_to w q 1)
            ++ filter is_recall_all (frame_if t frames.RecallAll ++ [])) (ne_eqb q c u)
            ∙ append-nil (filter is_recall_all (frames_to w q 1)));
        lefts = sym (lefts-same q);
      }

  ways-now : (q : ℕ) → 2 ≤ q → q ≤ node_count script
      → Way script b.pids q (knows_parent script next b.pids q) (way_sight next q)
  ways-now q low high =
      elim (cases_eq q c) [
        | inl e ↦
            subst (λ z. Way script b.pids z (knows_parent script next b.pids z) (way_sight next z)) (sym e)
            (collected way-here)
        | inr u ↦
            way-stays script b.pids q (knows_parent script w b.pids q) (knows_parent script next b.pids q)
            (way_sight w q) (way_sight next q) (knows-still q) (way-elsewhere q u) (holds.ways q low high)
      ]

  -- ---- the parcels

  old-sender : (q : Parcel) → IsParcelIn w [] q → HasSender script b.pids (stage_of next) (under_way_of next) q
  old-sender q there =
      sender-stays script 1 w next after.node takes after.sends [] changes b.pids q (λ left. (left, refl))
      (holds.parcels q there)

  parcels-now : (q : Parcel) → IsParcelIn next [] q
      → HasSender script b.pids (stage_of next) (under_way_of next) q
  parcels-now q (left_in y there) =
      elim (was-there script 1 w next after.node takes after.sends [] changes (λ to g. g ≡ frames.Left q → ⊥)
      (no-left, tt) 1 y (frames.Left q) there) [
        | inl old ↦ old-sender q (left_in y old)
        | inr new ↦ absurd (new.1 refl)
      ]
    where
      no-left : frames.RecallAll ≡ frames.Left q → ⊥
      no-left e = cc
  parcels-now q (sent_in y there) =
      elim (was-there script 1 w next after.node takes after.sends [] changes (λ to g. g ≡ frames.ExitTo q → ⊥)
      (no-exit, tt) y 1 (frames.ExitTo q) there) [
        | inl old ↦ old-sender q (sent_in y old)
        | inr new ↦ absurd (new.1 refl)
      ]
    where
      no-exit : frames.RecallAll ≡ frames.ExitTo q → ⊥
      no-exit e = cc
  parcels-now q (kept_in pid there) =
      old-sender q (kept_in pid (subst (λ items. Contains items (Ending q)) (held-same (Proc pid)) there))
  parcels-now q (at_hand there) = old-sender q (at_hand there)

  -- ---- all else

  keys-now : KeysHold (node_of next 1).leader b.kernel
  keys-now =
      let keys : KeysHold (node_of w 1).leader b.kernel = holds.keys
      in record {
        queues = λ key. ap (λ (m : Node). get m.leader.queue_keys key) changes.here ∙ keys.queues key;
        sets = λ key. ap (λ (m : Node). get m.leader.set_keys key) changes.here ∙ keys.sets key;
      }

  leading-now : IsLeading (directory_of next)
  leading-now =
      let same = but-places
      in subst (λ (z : Directory). IsLeading z) (sym directory-now) (leading-leaving d1 c same.leads other)

  -- Nothing beside the world changes.
  pub leaving-first-keeps : KeepsAs script w (events.Take 1 c) b
  leaving-first-keeps =
      record {
        next = next;
        is_step = take-steps script w 1 c frame rest after holds.shape h rule refl;
        holds = record {
          shape = changes.shape;
          history = holds.history;
          whole = whole-unmoved script w next [] [] Nothing b b.deed 1 after.node takes after.sends holds changes refl;
          leading = leading-now;
          pids = holds.pids;
          nodes = nodes-now;
          frames_fit = frames-still-fit script 1 w next after.node takes after.sends [] changes more holds.frames_fit
              (refl, tt) (other, tt);
          names = names;
          calls = λ y low high. call-stays script y (is_born_in w) (is_born_in next) (call_sight w [] b y)
              (call_sight next [] b y) more
              (call-left-alone script 1 w next after.node takes after.sends [] changes [] [] b b y (leaves-call y)
              (refl, tt) (refl, tt)) (holds.calls y low high);
          cancels = λ y low high. cancel-unmoved script w next [] [] Nothing b b.deed 1 after.node takes after.sends
              holds
              changes names y low high (leaves-items y) (refl, tt) (refl, tt) (refl, tt) (refl, tt);
          ways = ways-now;
          parcels = parcels-now;
          kinds = λ kind. kind-stays (is_born_in w) (is_born_in next) _ _ more
              (kind-left-alone script 1 w next after.node takes after.sends [] changes b.kernel b.kernel kind
              (λ number. refl) refl (ranges-same kind) (refl, tt) (refl, tt)) (holds.kinds kind);
          few = λ kind. few-still script 1 w next after.node takes after.sends [] changes b.call b.call kind refl
              (ranges-same kind) (λ y. refl) (holds.few kind);
          keys = keys-now;
          families = λ y is_forked. family-left-alone script 1 w next after.node takes after.sends [] changes b.pids
              b.places b.kernel (process_deed b.deed) (process_deed b.deed) y (λ pid. refl) (λ e. refl) (refl, tt)
              (refl, tt) (holds.families y is_forked);
        };
      }

-- ---- any Leaving

-- whoever tells the leader so
pub leaving-keeps : (script : Script) (w : World) (b : Beside) → Holds script w [] b → (p c pid parent parent_node : ℕ)
    (rest : List Frame) → Heads script w p c (frames.Leaving pid parent parent_node) rest
    → KeepsAs script w (events.Take p c) b
leaving-keeps script w b holds p c pid parent parent_node rest h =
    subst (λ q. KeepsAs script w (events.Take q c) b) (sym first)
    (leaving-first-keeps script w b holds c rest
    (subst (λ g. Heads script w 1 c g rest) frame-is
    (subst (λ q. Heads script w q c frame rest) first h)))
  where
    frame : Frame
    frame = frames.Leaving pid parent parent_node

    first : p ≡ 1
    first =
        head-may-be script w p c (frames.Leaving pid parent parent_node) rest h (is_born_in w) holds.frames_fit

    other : c ≢ p
    other =
        head-from-another script w p c (frames.Leaving pid parent parent_node) rest h (is_born_in w) holds.frames_fit

    low-node : 2 ≤ c
    low-node = let low = h.low_from in omega (arith, low, other, first)

    leavings-there : filter is_leaving_frame (frames_to w 1 c)
        ≡ frames.Leaving pid parent parent_node ∷ filter is_leaving_frame rest
    leavings-there =
        subst (λ q. filter is_leaving_frame (frames_to w q c)
        ≡ frames.Leaving pid parent parent_node ∷ filter is_leaving_frame rest) first
        (ap (filter is_leaving_frame) (head-is script w p c (frames.Leaving pid parent parent_node) rest h))

    none-shown : (recalls : List Frame) (parting : Option Parting) → Shows (way_sight w c) [] recalls parting → ⊥
    none-shown recalls parting s =
        is-not-empty (frames.Leaving pid parent parent_node) (filter is_leaving_frame rest)
        (sym leavings-there ∙ s.has_leavings)

    heads-same : (g k : Frame) (xs ys : List Frame) → g ∷ xs ≡ k ∷ ys → g ≡ k
    heads-same g k xs ys e = cc

    by-way : Way script b.pids c (knows_parent script w b.pids c) (way_sight w c)
        → frames.Leaving pid parent parent_node
        ≡ frames.Leaving (b.pids c) (b.pids (forker script c)) (forker script c)
    by-way (here z) = absurd (none-shown _ _ z.shows)
    by-way (tells z) =
        let shown = z.shows in heads-same _ _ _ _ (sym leavings-there ∙ shown.has_leavings)
    by-way (collected z) = absurd (none-shown _ _ z.shows)
    by-way (over z) = absurd (none-shown _ _ z.shows)
    by-way (gone z) = absurd (none-shown _ _ z.shows)

    frame-is : frame ≡ frames.Leaving (b.pids c) (b.pids (forker script c)) (forker script c)
    frame-is = by-way (holds.ways c low-node h.high_from)
