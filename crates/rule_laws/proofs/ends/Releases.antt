-- A parcel that has come to the leader is taken: the rule of a Left is to release it from the leader's hand, in a world
-- in which all holds with the parcel in hand.
use Rattle.std.proofs.Common.{◌≡◌, ◌≢◌, ◌⊎◌, ℕ, ◌≤◌, Bool, true, false, ◌&&◌, not, if◌then◌else◌, List, [], ◌∷◌, map, filter, nat_eq, Option, Some, None, is_none, is_some, option_and_then, Contains, refl, ap, sym, subst, ◌∙◌, inl, inr, arith}
use Rattle.std.specs.List.{list_any, list_all}
use Rattle.std.proofs.lemmas.Bool.{cases_eq, eq-eqb, ne_eqb, false≢true}
use Rattle.pico_base.specs.declared.numbers.Name.{Name}
use Rattle.pico_base.specs.declared.numbers.Name.TheVariants.{Proc}
use Rattle.pico_base.specs.declared.script.Script.{Script}
use Rattle.pico_base.specs.declared.script.Event.TheVariants as events
use Rattle.rpc_frame.specs.declared.deed.Parcel.{Parcel}
use Rattle.rpc_frame.specs.declared.frame.Frame.{Frame}
use Rattle.rpc_frame.specs.declared.frame.Frame.TheVariants as frames
use Rattle.number_maps.specs.Maps.{Numbered, get}
use Rattle.kernel_laws.proofs.People.{from-living}
use Rattle.kernel_model.specs.Row.{Alive, Row}
use Rattle.kernel_model.specs.Kernel.{Process, living_at, alive_in}
use Rattle.kernel_model.specs.Kernel as kernel
use Rattle.entry_laws.specs.Entering.{HasRow, is_used_name}
use Rattle.entry_laws.proofs.Bodies.{body-living}
use Rattle.node_model.specs.declared.held.Held.TheVariants.{Ending}
use Rattle.node_model.specs.Kinds.{is_same_name, kind_of}
use Rattle.node_model.specs.Directory.{Directory, Place, At, Coming, place_of, with_left, is_leaving, is_leaving_as, is_coming, is_coming_to, is_in_parcel, is_parcel_with, is_known, items_of}
use Rattle.node_model.specs.Bodies.{Body, Living as LivingBody, body_in, process_body}
use Rattle.node_model.specs.Spelling.{pack, read_deed}
use Rattle.node_model.specs.Parcels.{read_deeds, fits_bodies, fits_if, fitting_bodies, has_own_row, may_end_with, is_over_but_for, is_held_none, are_rising}
use Rattle.world_model.specs.Node.{Node, Left}
use Rattle.world_model.specs.Step.{Step, step_to, with_directory}
use Rattle.world_model.specs.Ends.{names_in}
use Rattle.world_model.specs.Releases.{release}
use Rattle.world_model.specs.Lives.{is_end, is_free_to_end, may_take, end_released, take_left}
use Rattle.world_model.specs.Census.{brings}
use Rattle.world_model.specs.World.{World, world_after}
use Rattle.world_laws.specs.ByRules.{step_by_rules}
use Rattle.world_laws.specs.Places.{Unmade, InLeft, Beside}
use Rattle.world_laws.specs.Sights.{node_of, frames_to, directory_of, stage_of, is_born_in}
use Rattle.world_laws.specs.Plays.{believed, told, is_there, begin, is_has, is_checkpoint_of, has_any}
use Rattle.world_laws.specs.Names.{NameSight, name_sight, NameHolds, OneIf, IsBringer, IsItemWith, held_at, held_as, comes_to, is_stream_of, is_kept_for, node_in, SaysOf, forker, belief_of, maker_tells, is_nowhere, PlaysTo}
use Rattle.world_laws.specs.Callers.{call_sight, HasCall, IsSoFar, IsToBeMade, HasEnded, is_end_stage, may_be_in}
use Rattle.world_laws.specs.Ways.{way_sight, knows_parent, HandsOver, IsParcelOf, left as left_in, under_way_of, HasSender}
use Rattle.world_laws.specs.Families.{NodeHolds, BornIn, IsBorn, FamilyHolds, IsWhereFor, checkpoints_to}
use Rattle.world_laws.specs.Invariant.{Holds, process_deed}
use Rattle.world_laws.specs.Deeds.{DeedsAreRead}
use Rattle.world_laws.specs.Ranges.{kind_sight}
use Rattle.world_laws.proofs.Numbers.{zero-is-unused}
use Rattle.pico_base.specs.Home.{home_of}
use Rattle.world_model.specs.Strikes.{strike}
use Rattle.world_laws.proofs.Steps.{Heads, world_without, struck-steps}
use Rattle.world_laws.proofs.Heads.{head-there}
use Rattle.rule_laws.proofs.ends.Directories.{KnowsNodes}
use Rattle.rule_laws.proofs.ends.Given.{all-of-map, packed-has}
use Rattle.rule_laws.proofs.ends.RecallAlls.{EndsBy, ends-by, ends-by-end, end-is-allowed, over-or-own, process-part}
use Rattle.rule_laws.proofs.ends.Leavings.{IsToldOf, told-first}
use Rattle.rule_laws.proofs.ends.Lefts.{IsBroughtHere, is-brought, way-was}
use Rattle.rule_laws.proofs.ends.Taken.{any-none, none-kept, fewer-none, packed-same, each_with, read-packed, each-gets, each-rises, each-passes, names-pass, play-without, plays-without, begin-without}

-- a Checkpoint of a name brings its deed
pub checkpoints-bring : (name : Name) (frame : Frame) → is_checkpoint_of name frame ≡ true → brings name frame ≡ true
checkpoints-bring name (frames.Checkpoint pid parent deed vars) h = h
checkpoints-bring name frame h = absurd (false≢true h)

-- ---- a name that is on its way in a Left

module _ (script : Script) (w : World) (b : Beside) (holds : Holds script w [] b)
    (at_nodes : KnowsNodes (directory_of w)) (name : Name) (c : ℕ)
    (deed : b.deed name ≡ InLeft c) where
  abbrev x : NameSight
  x = name_sight script w [] b name

  known : NameHolds script b.pids (is_born_in w) name x
  known = holds.names name

  -- no node has it
  pub none-held : (q : ℕ) → held_at w name q ≡ None
  none-held q = known.tables q ∙ ap (λ z. held_as z x.body q) deed

  -- no frame to a node but the leader brings it
  none-brought : (q sender : ℕ) → q ≢ 1 → filter (brings name) (frames_to w q sender) ≡ []
  none-brought q sender d =
      subst (λ t. OneIf (t && nat_eq sender c) (IsBringer b.pids name x.body (InLeft c)) (x.brought q sender))
      (ne_eqb q 1 d)
      (subst (λ z. OneIf (is_stream_of (forker script) z q sender) (IsBringer b.pids name x.body z)
      (x.brought q sender)) deed (known.streams q sender))

  comes-not : (q : ℕ) → q ≢ 1 → comes_to script w name q ≡ false
  comes-not q d =
      ap (λ fs. not (nat_eq (forker script q) 1) && has_any fs)
      (fewer-none (is_checkpoint_of name) (brings name) (checkpoints-bring name) (frames_to w q (forker script q))
      (none-brought q (forker script q) d))
      ∙ and-false (not (nat_eq (forker script q) 1))
    where
      and-false : (t : Bool) → (t && false) ≡ false
      and-false true = refl
      and-false false = refl

  -- so the leader believes it at none
  not-there : (q : ℕ) → 2 ≤ q → is_there q (belief_of x) ≡ true → ⊥
  not-there q low there =
      let played : PlaysTo (x.begins q) (x.steps q) (is_there q (belief_of x)) = known.plays q low
      in let d : q ≢ 1 = λ e. omega (arith, e, low)
      in false≢true
      (sym (play-without (x.begins q) played.last (x.steps q)
      (plays-without x.used b.call name (frames_to w q 1) (none-brought q 1 d))
      (ap (λ o. is_has (begin (stage_of w q) (is_some o) (comes_to script w name q))) (none-held q)
      ∙ ap (λ t. is_has (begin (stage_of w q) false t)) (comes-not q d)
      ∙ begin-without (stage_of w q))
      played.plays)
      ∙ played.agrees ∙ there)

  not-at-leader : is_there 1 (belief_of x) ≡ true → ⊥
  not-at-leader there = false≢true (ap is_some (sym (none-held 1)) ∙ known.leader ∙ there)

  nowhere-at : (q : ℕ) → 1 ≤ q → is_there q (belief_of x) ≡ true → ⊥
  nowhere-at q low there =
      elim (cases_eq q 1) [
        | inl e ↦ not-at-leader (ap (λ y. is_there y (belief_of x)) (sym e) ∙ there)
        | inr d ↦ not-there q (omega (arith, low, d)) there
      ]

  -- its number is in use
  pub on-its-way-is-used : x.used ≡ true
  on-its-way-is-used = by-test x.used refl
    where
      not-unmade : InLeft c ≡ Unmade → ⊥
      not-unmade e = cc

      by-test : (t : Bool) → x.used ≡ t → x.used ≡ true
      by-test true e = e
      by-test false e = absurd (not-unmade (sym deed ∙ known.made.1 e))

  -- who was told of isn't the leader, and is a node
  told-node : (pid : ℕ) → name ≡ Proc pid → pid ≢ 0 → (node : ℕ) → IsToldOf script w b holds name node → 1 ≤ node
  told-node pid e d node t =
      let told_of = t.says
      in let says = subst (λ m. SaysOf b.pids m t.sender node) e told_of.says
      in let pids = holds.pids
      in let range = pids.nodes node (λ z. d (sym says ∙ z))
      in range.0

  -- The leader awaits it.
  pub is-awaited : (pid : ℕ) → name ≡ Proc pid → pid ≢ 0 → is_coming (directory_of w) name ≡ true
  is-awaited pid e d = by-place (place_of (directory_of w) name) refl
    where
      from-told : place_of (directory_of w) name ≡ None → (ts : List ℕ) → maker_tells x x.maker ≡ ts → ⊥
      from-told none [] g =
          false≢true
          (sym (known.believed on-its-way-is-used)
          ∙ ap (λ o. is_nowhere (believed o (maker_tells x x.maker))) none ∙ ap (λ ts. is_nowhere (told ts)) g)
      from-told none (node ∷ more) g =
          nowhere-at node
          (told-node pid e d node (told-first script w b holds name node more x.maker refl g))
          (ap (λ o. is_there node (believed o (maker_tells x x.maker))) none ∙ ap (λ ts. is_there node (told ts)) g
          ∙ eq-eqb node node refl)

      by-place : (o : Option Place) → place_of (directory_of w) name ≡ o → is_coming (directory_of w) name ≡ true
      by-place None g = absurd (from-told g (maker_tells x x.maker) refl)
      by-place (Some (Coming to items)) g = ap is_coming_to g
      by-place (Some (At node)) g =
          absurd
          (nowhere-at node (at_nodes name node g)
          (ap (λ o. is_there node (believed o (maker_tells x x.maker))) g ∙ eq-eqb node node refl))

  -- And it is in no parcel that is held.
  pub in-no-parcel : is_in_parcel (directory_of w) name ≡ false
  in-no-parcel =
      let leads = holds.leading
      in any-none (λ e. list_any (is_parcel_with name) (items_of (Some e.1))) (directory_of w).places.processes
      (all-of-map (λ e. list_any (is_parcel_with name) (items_of (Some e.1)) ≡ false)
      (directory_of w).places.processes leads.processes
      (λ pid place there.
      none-kept (is_parcel_with name) (items_of (Some place))
      (ap (λ o. filter (is_parcel_with name) (items_of o)) (sym there)
      ∙ subst (λ z. OneIf (is_kept_for (forker script) b.pids z pid) (IsItemWith name x.body (b.pids (node_in z)))
      (x.kept pid)) deed (known.kept pid))))

-- ---- the rule of a Left

module _ (script : Script) (w : World) (b : Beside) (holds : Holds script w [] b)
    (at_nodes : KnowsNodes (directory_of w)) (reads : DeedsAreRead b.kernel b.body) (c : ℕ) (parcel : Parcel)
    (rest : List Frame) (h : Heads script w 1 c (frames.Left parcel) rest) where
  abbrev n : Node
  n = node_of w 1

  abbrev d : Directory
  d = directory_of w

  handed : HandsOver (knows_parent script w b.pids c) (way_sight w c)
  handed = way-was script w b holds c parcel rest h

  -- the node whose parcel it is
  pub sender : HasSender script b.pids (stage_of w) (under_way_of w) parcel
  sender = holds.parcels parcel (left_in c (head-there script w 1 c (frames.Left parcel) rest h))

  -- and what that says
  pub its : IsParcelOf script b.pids sender.node sender.call parcel
  its = sender.is_of

  abbrev bodies : Numbered Body
  bodies = its.bodies

  abbrev part : ℕ → Body
  part k = body_in b.kernel (Proc k)

  -- each deed of the parcel

  -- nobody waits at a process's body
  part-is : (k : ℕ) → b.body (Proc k) ≡ part k
  part-is k = process-part script w [] b holds k

  brought : (k : ℕ) (v : Body) → get bodies k ≡ Some v
      → IsBroughtHere b.pids (Proc k) (part k) (b.deed (Proc k)) c parcel
  brought k v there =
      subst (λ v. IsBroughtHere b.pids (Proc k) v (b.deed (Proc k)) c parcel) (part-is k)
      (is-brought script w b holds c parcel rest h (Proc k)
      (ap (λ ds. list_any (λ deed. is_same_name (Proc k) deed.name) ds) its.packed
      ∙ packed-has k bodies ∙ ap is_some there))

  read-there : (k : ℕ) (v : Body) → get bodies k ≡ Some v → read_deed (pack (Proc k) v) ≡ Some (part k)
  read-there k v there =
      let at = brought k v there
      in let has = at.has
      in ap read_deed
      (packed-same k v (part k) bodies its.ordered there
      (subst (λ ds. Contains ds (pack (Proc k) (part k))) its.packed has.there))
      ∙ subst (λ v. read_deed (pack (Proc k) v) ≡ Some v) (part-is k)
      (reads (Proc k) (on-its-way-is-used script w b holds at_nodes (Proc k) c at.deed_is))

  all-read : read_deeds parcel.deeds ≡ Some (each_with part bodies)
  all-read =
      ap read_deeds its.packed
      ∙ read-packed part bodies
      (all-of-map (λ e. read_deed (pack (Proc e.0) e.1) ≡ Some (part e.0)) bodies its.ordered read-there)

  -- the node that it is of

  stage-left : stage_of w c ≡ Left
  stage-left = handed.stage

  birth : IsBorn script b.pids c (node_of w c).pid (node_of w c).parent (node_of w c).parent_node
  birth =
      let node : NodeHolds script b.pids (is_born_in w) c (node_of w c) = holds.nodes c h.low_from h.high_from
      in subst
      (λ s. BornIn script b.pids c (node_of w c).pid (node_of w c).parent (node_of w c).parent_node s) stage-left
      node.birth

  own-brought : IsBroughtHere b.pids (Proc (b.pids sender.node)) (part (b.pids sender.node))
      (b.deed (Proc (b.pids sender.node))) c parcel
  own-brought = brought (b.pids sender.node) (LivingBody its.row) its.own

  pid-is : parcel.pid ≡ b.pids c
  pid-is = let has = own-brought.has in has.of_process

  node-is : sender.node ≡ c
  node-is =
      let pids = holds.pids
      in sym (pids.apart c sender.node birth.forked (sym pid-is ∙ its.pid))

  -- its process's own row

  record OwnLives : Type 0 where
    alive : Alive
    there : get b.kernel.processes (b.pids c) ≡ Some (kernel.Living alive)

  own-family : FamilyHolds script b.pids b.places b.kernel (process_deed b.deed) (checkpoints_to script w c)
      (stage_of w c) c
  own-family = holds.families c birth.forked

  own-deed : b.deed (Proc (b.pids c)) ≡ InLeft c
  own-deed = subst (λ q. b.deed (Proc (b.pids q)) ≡ InLeft c) node-is own-brought.deed_is

  own-lives : OwnLives
  own-lives =
      by-process own-family.process own-family.is
      (subst (λ z. IsWhereFor c z own-family.process) own-deed own-family.where_it_is)
    where
      by-process : (v : Process) → get b.kernel.processes (b.pids c) ≡ Some v → IsWhereFor c (InLeft c) v → OwnLives
      by-process (kernel.Living alive) is at = record { alive = alive; there = is }
      by-process (kernel.Ended ending) is at = absurd (omega (arith, at))
      by-process kernel.Gone is at = absurd (omega (arith, at))

  ends : EndsBy script c (is_born_in w) (call_sight w [] b c)
  ends =
      ends-by script c (is_born_in w) (call_sight w [] b c) (holds.calls c h.low_from h.high_from)
      (ap is_end_stage stage-left)

  some-same : {A : Type 0} {u v : A} → Some u ≡ Some v → u ≡ v
  some-same e = cc

  call-is : parcel.call ≡ ends.call
  call-is =
      its.call_is
      ∙ some-same (sym sender.ends_by ∙ ap (under_way_of w) node-is ∙ ends.is)

  allowed : may_end_with own-lives.alive.row parcel.call ≡ true
  allowed = subst (λ e. may_end_with own-lives.alive.row e ≡ true) (sym call-is) (by-cases so-far)
    where
      lives : living_at b.kernel (b.pids c) ≡ Some own-lives.alive
      lives = ap (option_and_then alive_in) own-lives.there

      has : HasCall script c (is_born_in w) (call_sight w [] b c) ends.call
      has = ends.has

      is-an-end : is_end ends.call ≡ true
      is-an-end =
          ends-by-end (node_of w c).pid ends.call
          (subst (λ z. may_be_in z (home_of (node_of w c).pid ends.call) ends.call ≡ true) ends.place has.home)

      so-far : IsToBeMade script c (call_sight w [] b c) ends.call ⊎ HasEnded (call_sight w [] b c)
      so-far = subst (λ z. IsSoFar script c (call_sight w [] b c) ends.call z) ends.place has.so_far

      by-cases : IsToBeMade script c (call_sight w [] b c) ends.call ⊎ HasEnded (call_sight w [] b c)
          → may_end_with own-lives.alive.row ends.call ≡ true
      by-cases (inl made) =
          subst (λ (a : Alive). may_end_with a.row ends.call ≡ true) (some-same (sym made.lives ∙ lives))
          (end-is-allowed made.alive ends.call is-an-end made.may)
      by-cases (inr ended) = absurd (false≢true (ap is_some (sym ended.dead ∙ lives)))

  -- what is read fits

  own-row : has_own_row parcel.call (get (each_with part bodies) parcel.pid) ≡ true
  own-row =
      ap (has_own_row parcel.call)
      (ap (get (each_with part bodies)) its.pid
      ∙ each-gets part bodies (b.pids sender.node) (LivingBody its.row) its.own
      ∙ ap (λ q. Some (part (b.pids q))) node-is
      ∙ ap (λ o. Some (process_body o)) own-lives.there)
      ∙ allowed

  -- a process of the parcel that lives is the node's own
  living-own : (k : ℕ) (v : Body) → get bodies k ≡ Some v → (row : Row) → part k ≡ LivingBody row → k ≡ parcel.pid
  living-own k v there row lives =
      let at = brought k v there
      in let alive : HasRow b.kernel k row = body-living b.kernel k row lives
      in let is = from-living b.kernel.processes k alive.alive alive.lives
      in let pids = holds.pids
      in let of = pids.there k (kernel.Living alive.alive) is
      in same-node of.0 of.1 (λ z. of.2 (sym of.1 ∙ z))
      (subst (λ q. b.deed (Proc q) ≡ InLeft c) (sym of.1) at.deed_is)
      (ap (get b.kernel.processes) of.1 ∙ is)
    where
      same-node : (g : ℕ) → b.pids g ≡ k → b.pids g ≢ 0 → b.deed (Proc (b.pids g)) ≡ InLeft c
          → {a : Alive} → get b.kernel.processes (b.pids g) ≡ Some (kernel.Living a) → k ≡ parcel.pid
      same-node g e forked left {a} is =
          let family : FamilyHolds script b.pids b.places b.kernel (process_deed b.deed) (checkpoints_to script w g)
          (stage_of w g) g = holds.families g forked
          in let own : c ≡ g =
          subst (λ z. IsWhereFor g z (kernel.Living a)) left
          (subst (λ v. IsWhereFor g (b.deed (Proc (b.pids g))) v) (some-same (sym family.is ∙ is))
          family.where_it_is)
          in sym e ∙ ap b.pids (sym own) ∙ sym pid-is

  all-over : list_all (is_over_but_for parcel.pid) (each_with part bodies) ≡ true
  all-over =
      each-passes part (is_over_but_for parcel.pid) bodies
      (all-of-map (λ e. is_over_but_for parcel.pid (e.0, part e.0) ≡ true) bodies its.ordered
      (λ k v there. over-or-own k (get b.kernel.processes k) parcel.pid (living-own k v there)))

  none-here : list_all (is_held_none n.deeds) (each_with part bodies) ≡ true
  none-here =
      each-passes part (is_held_none n.deeds) bodies
      (all-of-map (λ e. is_held_none n.deeds (e.0, part e.0) ≡ true) bodies its.ordered
      (λ k v there.
      let at = brought k v there
      in ap is_none (none-held script w b holds at_nodes (Proc k) c at.deed_is 1)))

  four-true : (p q r s : Bool) → p ≡ true → q ≡ true → r ≡ true → s ≡ true → (p && (q && (r && s))) ≡ true
  four-true p q r s e1 e2 e3 e4 = rw (e1, e2, e3, e4) refl

  fits : fits_bodies n.deeds parcel (each_with part bodies) ≡ true
  fits =
      four-true (are_rising (each_with part bodies))
      (has_own_row parcel.call (get (each_with part bodies) parcel.pid))
      (list_all (is_over_but_for parcel.pid) (each_with part bodies))
      (list_all (is_held_none n.deeds) (each_with part bodies))
      (each-rises part bodies its.ordered) own-row all-over none-here

  -- The bodies of the parcel are what the kernel has of its processes.
  pub parcel-fits : fitting_bodies n.deeds parcel ≡ Some (each_with part bodies)
  parcel-fits =
      ap (option_and_then (fits_if n.deeds parcel)) all-read
      ∙ ap (λ t. if t then Some (each_with part bodies) else None) fits

  -- it may be taken

  free : (k : ℕ) (v : Body) → get bodies k ≡ Some v → is_free_to_end d (Proc k) ≡ true
  free k v there =
      let at = brought k v there
      in ap (λ t. t && not (is_in_parcel d (Proc k)))
      (is-awaited script w b holds at_nodes (Proc k) c at.deed_is k refl not-zero)
      ∙ ap not (in-no-parcel script w b holds at_nodes (Proc k) c at.deed_is)
    where
      not-zero : k ≢ 0
      not-zero z =
          let at = brought k v there
          in false≢true
          (sym (ap (λ q. is_used_name b.kernel (Proc q)) z
          ∙ zero-is-unused (is_born_in w) (kind_sight w b.kernel (kind_of (Proc 0))) (holds.kinds (kind_of (Proc 0))))
          ∙ on-its-way-is-used script w b holds at_nodes (Proc k) c at.deed_is)

  all-free : list_all (is_free_to_end d) (names_in parcel) ≡ true
  all-free =
      ap (λ ds. list_all (is_free_to_end d) (map (λ deed. deed.name) ds)) its.packed
      ∙ names-pass (is_free_to_end d) bodies
      (all-of-map (λ e. is_free_to_end d (Proc e.0) ≡ true) bodies its.ordered free)

  parent-known : is_known d (Proc parcel.parent) ≡ true
  parent-known =
      ap (λ q. is_known d (Proc q)) (its.parent ∙ ap (λ q. b.pids (forker script q)) node-is) ∙ handed.parent

  three-true : (p q r : Bool) → p ≡ true → q ≡ true → r ≡ true → (p && (q && r)) ≡ true
  three-true p q r e1 e2 e3 = rw (e1, e2, e3) refl

  taken-true : may_take n c parcel ≡ true
  taken-true =
      three-true (is_leaving d c) (list_all (is_free_to_end d) (names_in parcel)) (is_known d (Proc parcel.parent))
      (let shown = handed.shows in ap is_leaving_as shown.has_parting) all-free parent-known

  -- The rule is to release the parcel from the hand.
  pub left-releases : take_left script n c parcel
      ≡ release script (Ending parcel ∷ []) (step_to (with_directory n (with_left d c)))
  left-releases =
      let node : NodeHolds script b.pids (is_born_in w) 1 n = holds.nodes 1 h.low h.high
      in ap (λ t. if t && may_take n c parcel
      then option_and_then (end_released script n c parcel) (fitting_bodies n.deeds parcel)
      else None) (eq-eqb n.number 1 node.number)
      ∙ ap (λ t. if t
      then option_and_then (end_released script n c parcel) (fitting_bodies n.deeds parcel)
      else None) taken-true
      ∙ ap (option_and_then (end_released script n c parcel)) parcel-fits

  -- What the release comes to is the world's step, with the strike last.
  pub left-steps : (s : Step)
      → release script (Ending parcel ∷ []) (step_to (with_directory n (with_left d c))) ≡ Some s
      → step_by_rules w (events.Take 1 c) ≡ Some (world_after (world_without w 1 c rest) 1 (strike script s))
  left-steps s e = struck-steps script w 1 c (frames.Left parcel) rest s holds.shape h (left-releases ∙ e)
