-- A parcel in the leader's hand, or on its way to a node: where the deeds of its names are, and what it is of. Where it
-- comes to a node it fits, and is read as what the kernel has of its processes.
use Rattle.std.proofs.Common.{◌≡◌, ◌≢◌, ◌⊎◌, ℕ, ◌<◌, ◌≤◌, Bool, true, false, ◌&&◌, if◌then◌else◌, List, [], ◌∷◌, filter, Some, None, is_none, is_some, option_and_then, Contains, refl, ap, sym, subst, ◌∙◌, inl, inr, arith}
use Rattle.std.specs.List.{list_any, list_all}
use Rattle.std.proofs.lemmas.Bool.{false≢true}
use Rattle.std.proofs.lemmas.List.Elements.{Contains-append_left, Contains-push}
use Rattle.pico_base.specs.declared.call.Call.{Call}
use Rattle.pico_base.specs.declared.numbers.Name.{Name}
use Rattle.pico_base.specs.declared.numbers.Name.TheVariants.{Proc}
use Rattle.pico_base.specs.declared.script.Script.{Script}
use Rattle.pico_base.specs.Home.{home_of}
use Rattle.rpc_frame.specs.declared.deed.Parcel.{Parcel}
use Rattle.number_maps.specs.Maps.{Numbered, get}
use Rattle.kernel_laws.proofs.People.{from-living}
use Rattle.kernel_model.specs.Row.{Alive, Row}
use Rattle.kernel_model.specs.Kernel.{Process, living_at, alive_in}
use Rattle.kernel_model.specs.Kernel as kernel
use Rattle.entry_laws.specs.Entering.{HasRow, is_used_name}
use Rattle.entry_laws.proofs.Bodies.{body-living}
use Rattle.node_model.specs.declared.held.Held.{Held}
use Rattle.node_model.specs.declared.held.Held.TheVariants.{Ending}
use Rattle.node_model.specs.Kinds.{is_same_name, is_object, kind_of}
use Rattle.node_model.specs.Directory.{has_deed_of, is_parcel_with}
use Rattle.node_model.specs.Bodies.{Body, Living as LivingBody, Deeds, body_in, process_body}
use Rattle.node_model.specs.Spelling.{pack, read_deed}
use Rattle.node_model.specs.Parcels.{read_deeds, fits_bodies, fits_if, fitting_bodies, has_own_row, may_end_with, is_over_but_for, is_held_none, are_rising}
use Rattle.world_model.specs.Node.{Left}
use Rattle.world_model.specs.Lives.{is_end}
use Rattle.world_model.specs.World.{World, node_count}
use Rattle.world_laws.specs.Places.{DeedPlace, Unmade, InCheckpoint, InHand, InExitTo, Ends, Beside}
use Rattle.world_laws.specs.Sights.{node_of, stage_of, is_born_in}
use Rattle.world_laws.specs.Names.{NameHolds, name_sight, HasDeed, held_as, may_be_at}
use Rattle.world_laws.specs.Callers.{call_sight, HasCall, IsSoFar, IsToBeMade, HasEnded, is_end_stage, may_be_in}
use Rattle.world_laws.specs.Ways.{IsParcelOf, at_hand, under_way_of, HasSender}
use Rattle.world_laws.specs.Ranges.{kind_sight}
use Rattle.world_laws.specs.Families.{NodeHolds, FamilyHolds, IsItsOwn, RestsBelow, IsWhereFor, checkpoints_to, is_first_stage}
use Rattle.world_laws.specs.Invariant.{process_deed, HoldsOwing}
use Rattle.world_laws.specs.Deeds.{DeedsAreRead}
use Rattle.world_laws.proofs.Numbers.{zero-is-unused}
use Rattle.world_laws.specs.Cancels.{Owing}
use Rattle.rule_laws.proofs.ends.Given.{all-of-map, packed-has}
use Rattle.rule_laws.proofs.ends.KeptItems.{first-has, first-has-all, has-its-own}
use Rattle.rule_laws.proofs.ends.RecallAlls.{EndsBy, ends-by, ends-by-end, end-is-allowed, over-or-own}
use Rattle.rule_laws.proofs.ends.Taken.{packed-same, each_with, read-packed, each-gets, each-rises, each-passes}
use Rattle.route_laws.proofs.exits.Parts.{process-part}

-- ---- where a parcel may be

-- a place of the deeds in a parcel of node c, in no table
pub record IsOnItsWay (c : ℕ) (place : DeedPlace) : Type 0 where
  pub own : (k : ℕ) → IsItsOwn k place → c ≡ k
  pub below : (k : ℕ) → RestsBelow k place → c < k
  pub made : place ≢ Unmade
  pub in_no_table : (body : Body) (h : ℕ) → held_as place body h ≡ None
  pub comes_not : (to : ℕ) → place ≢ InCheckpoint to
  pub no_object : may_be_at true place ≡ false

-- in the leader's hand
pub in-hand-on-way : (c : ℕ) → IsOnItsWay c (InHand c)
in-hand-on-way c =
    record {
      own = λ k h. h;
      below = λ k h. h;
      made = λ e. cc;
      in_no_table = λ body h. refl;
      comes_not = λ to e. cc;
      no_object = refl;
    }

-- or on its way to a node
pub sent-on-way : (c x : ℕ) → IsOnItsWay c (InExitTo c x)
sent-on-way c x =
    record {
      own = λ k h. h;
      below = λ k h. h;
      made = λ e. cc;
      in_no_table = λ body h. refl;
      comes_not = λ to e. cc;
      no_object = refl;
    }

-- The parcel of node c, whose process ends with this call: the deeds of its names are at this place, and no others.
pub record HasParcel (script : Script) (w : World) (b : Beside) (parcel : Parcel) (c : ℕ) (call : Call)
    (place : DeedPlace) : Type 0 where
  pub is_of : IsParcelOf script b.pids c call parcel
  pub stage : stage_of w c ≡ Left
  pub under_way : under_way_of w c ≡ Some call
  pub on_way : IsOnItsWay c place
  pub deeds : (name : Name) → has_deed_of name parcel ≡ true → b.deed name ≡ place
  pub has : (name : Name) → has_deed_of name parcel ≡ true → HasDeed name (b.body name) (b.pids c) parcel
  pub all : (name : Name) → b.deed name ≡ place → has_deed_of name parcel ≡ true

-- a name whose deed is somewhere is used
pub is-used-there : (script : Script) (w : World) (hand : List Held) {owes : Owing} (b : Beside) (name : Name)
    → HoldsOwing script w hand owes b → b.deed name ≢ Unmade → is_used_name b.kernel name ≡ true
is-used-there script w hand b name holds made = by-test (is_used_name b.kernel name) refl
  where
    by-test : (t : Bool) → is_used_name b.kernel name ≡ t → is_used_name b.kernel name ≡ true
    by-test true e = e
    by-test false e =
        let known : NameHolds script b.pids (is_born_in w) name (name_sight script w hand b name) = holds.names name
        in absurd (made (known.made.1 e))

-- and it has a number
pub has-number : (script : Script) (w : World) (hand : List Held) {owes : Owing} (b : Beside) (pid : ℕ) → HoldsOwing
    script w hand owes b
    → b.deed (Proc pid) ≢ Unmade → pid ≢ 0
has-number script w hand b pid holds made z =
    false≢true
    (sym (ap (λ q. is_used_name b.kernel (Proc q)) z
    ∙ zero-is-unused (is_born_in w) (kind_sight w b.kernel (kind_of (Proc 0))) (holds.kinds (kind_of (Proc 0))))
    ∙ is-used-there script w hand b (Proc pid) holds made)

-- ---- in the leader's hand

module _ (script : Script) (w : World) (items : List Held) (parcel : Parcel) {owes : Owing} (b : Beside)
    (holds : HoldsOwing script w (Ending parcel ∷ items) owes b) where
  -- the node that has left, and handed it over
  pub hand-sender : HasSender script b.pids (stage_of w) (under_way_of w) parcel
  hand-sender =
      holds.parcels parcel
      (at_hand (Contains-append_left (Ending parcel ∷ []) items (Ending parcel) (Contains-push [] (Ending parcel))))

  its : IsParcelOf script b.pids hand-sender.node hand-sender.call parcel
  its = hand-sender.is_of

  forked : b.pids hand-sender.node ≢ 0
  forked z =
      let first = first-has script w items parcel b holds (Proc parcel.pid)
      (has-its-own script b.pids (stage_of w) (under_way_of w) parcel hand-sender)
      in has-number script w (Ending parcel ∷ items) b parcel.pid holds
      (λ e. not-unmade first.0 (sym first.1 ∙ e)) (its.pid ∙ z)
    where
      not-unmade : (g : ℕ) → InHand g ≡ Unmade → ⊥
      not-unmade g e = cc

  same-node : (g : ℕ) → parcel.pid ≡ b.pids g → g ≡ hand-sender.node
  same-node g e = let pids = holds.pids in sym (pids.apart hand-sender.node g forked (sym its.pid ∙ e))

  -- The first parcel in hand.
  pub parcel-in-hand : HasParcel script w b parcel hand-sender.node hand-sender.call (InHand hand-sender.node)
  parcel-in-hand =
      record {
        is_of = its;
        stage = hand-sender.stage;
        under_way = hand-sender.ends_by;
        on_way = in-hand-on-way hand-sender.node;
        deeds = λ name e.
            let first = first-has script w items parcel b holds name e
            in let has = first.2
            in first.1 ∙ ap InHand (same-node first.0 has.of_process);
        has = λ name e.
            let first = first-has script w items parcel b holds name e
            in let has = first.2
            in subst (λ g. HasDeed name (b.body name) (b.pids g) parcel)
            (same-node first.0 has.of_process) first.2;
        all = λ name deed. first-has-all script w items parcel b holds name hand-sender.node deed its.pid;
      }

  -- and no other item in hand has a deed of its names
  pub others-lack : (name : Name) → has_deed_of name parcel ≡ true → filter (is_parcel_with name) items ≡ []
  others-lack name e = (first-has script w items parcel b holds name e).3

-- ---- what it has

some-same : {A : Type 0} {u v : A} → Some u ≡ Some v → u ≡ v
some-same e = cc

four-true : (p q r s : Bool) → p ≡ true → q ≡ true → r ≡ true → s ≡ true → (p && (q && (r && s))) ≡ true
four-true p q r s e1 e2 e3 e4 = rw (e1, e2, e3, e4) refl

module _ (script : Script) (w : World) (hand : List Held) {owes : Owing} (b : Beside)
    (holds : HoldsOwing script w hand owes b)
    (parcel : Parcel) (c : ℕ) (call : Call) (place : DeedPlace)
    (parcel_is : HasParcel script w b parcel c call place) where
  -- what it is of
  abbrev pub is_of : IsParcelOf script b.pids c call parcel
  is_of = parcel_is.is_of

  on_way : IsOnItsWay c place
  on_way = parcel_is.on_way

  -- what is in it
  abbrev pub bodies : Numbered Body
  bodies = parcel_is.is_of.bodies

  -- what the kernel has of a process
  abbrev pub part : ℕ → Body
  part k = body_in b.kernel (Proc k)

  -- it has a deed of each process that it has a body of
  pub has-body : (k : ℕ) → has_deed_of (Proc k) parcel ≡ is_some (get bodies k)
  has-body k =
      ap (λ ds. list_any (λ deed. is_same_name (Proc k) deed.name) ds) is_of.packed ∙ packed-has k bodies

  -- so of each
  pub in-parcel : (k : ℕ) (v : Body) → get bodies k ≡ Some v → has_deed_of (Proc k) parcel ≡ true
  in-parcel k v there = has-body k ∙ ap is_some there

  -- a name with a deed in it has a number
  pub in-parcel-made : (name : Name) → has_deed_of name parcel ≡ true → b.deed name ≢ Unmade
  in-parcel-made name e z = on_way.made (sym (parcel_is.deeds name e) ∙ z)

  -- it has none of a queue or a set
  pub no-object-in : (name : Name) → is_object name ≡ true → has_deed_of name parcel ≡ false
  no-object-in name object = by-test (has_deed_of name parcel) refl
    where
      by-test : (t : Bool) → has_deed_of name parcel ≡ t → has_deed_of name parcel ≡ false
      by-test false e = e
      by-test true e =
          let known : NameHolds script b.pids (is_born_in w) name (name_sight script w hand b name) = holds.names name
          in absurd (false≢true
          (sym on_way.no_object
          ∙ ap (may_be_at true) (sym (parcel_is.deeds name e))
          ∙ ap (λ o. may_be_at o (b.deed name)) (sym object) ∙ known.place_fits))

  -- it has its own process's
  pub own-in-parcel : has_deed_of (Proc (b.pids c)) parcel ≡ true
  own-in-parcel = in-parcel (b.pids c) (LivingBody is_of.row) is_of.own

  -- that process is forked
  pub parcel-forked : b.pids c ≢ 0
  parcel-forked = has-number script w hand b (b.pids c) holds (in-parcel-made (Proc (b.pids c)) own-in-parcel)

  -- its node is another one than the leader
  pub low-node : 1 ≤ c
  low-node = let pids = holds.pids in (pids.nodes c parcel-forked).0

  -- and is a node of the script
  pub high-node : c ≤ node_count script
  high-node = let pids = holds.pids in (pids.nodes c parcel-forked).1

  -- and isn't the leader
  pub not-first : c ≢ 1
  not-first e =
      let node : NodeHolds script b.pids (is_born_in w) 1 (node_of w 1) =
      holds.nodes 1 (omega arith) (subst (λ y. y ≤ node_count script) e high-node)
      in false≢true
      (sym (ap is_first_stage parcel_is.stage)
      ∙ ap (λ y. is_first_stage (stage_of w y)) e ∙ node.first refl)

  -- ---- the process

  -- the process lives
  pub record OwnLives : Type 0 where
    pub alive : Alive
    pub there : get b.kernel.processes (b.pids c) ≡ Some (kernel.Living alive)

  -- what holds of its family
  pub own-family : FamilyHolds script b.pids b.places b.kernel (process_deed b.deed) (checkpoints_to script w c)
      (stage_of w c) c
  own-family = holds.families c parcel-forked

  -- it lives
  pub own-lives : OwnLives
  own-lives =
      by-process own-family.process own-family.is
      (subst (λ z. IsWhereFor c z own-family.process) (parcel_is.deeds (Proc (b.pids c)) own-in-parcel)
      own-family.where_it_is)
    where
      by-process : (v : Process) → get b.kernel.processes (b.pids c) ≡ Some v → IsWhereFor c place v → OwnLives
      by-process (kernel.Living alive) is at = record { alive = alive; there = is }
      by-process (kernel.Ended ending) is at = let lower = on_way.below c at in absurd (omega (arith, lower))
      by-process kernel.Gone is at = let lower = on_way.below c at in absurd (omega (arith, lower))

  -- the kernel says so
  pub own-living : living_at b.kernel (b.pids c) ≡ Some own-lives.alive
  own-living = ap (option_and_then alive_in) own-lives.there

  -- its row is what the parcel has of it
  pub own-part : part (b.pids c) ≡ LivingBody own-lives.alive.row
  own-part = ap process_body own-lives.there

  ends : EndsBy script c (is_born_in w) (call_sight w hand b c)
  ends =
      ends-by script c (is_born_in w) (call_sight w hand b c) (holds.calls c low-node high-node)
      (ap is_end_stage parcel_is.stage)

  call-same : ends.call ≡ call
  call-same = some-same (sym ends.is ∙ parcel_is.under_way)

  -- the call that ends it is under way at the node
  pub own-call : HasCall script c (is_born_in w) (call_sight w hand b c) call
  own-call = subst (λ z. HasCall script c (is_born_in w) (call_sight w hand b c) z) call-same ends.has

  -- where it ends its process
  pub own-place : b.call c ≡ Ends
  own-place = ends.place

  -- the call that ends it is `exit` or `killed`
  pub is-an-end : is_end call ≡ true
  is-an-end =
      ends-by-end (node_of w c).pid call
      (subst (λ z. may_be_in z (home_of (node_of w c).pid call) call ≡ true) ends.place own-call.home)

  -- and is still to be made
  pub end-to-be-made : IsToBeMade script c (call_sight w hand b c) call
  end-to-be-made = by-cases (subst (λ z. IsSoFar script c (call_sight w hand b c) call z) ends.place own-call.so_far)
    where
      by-cases : IsToBeMade script c (call_sight w hand b c) call ⊎ HasEnded (call_sight w hand b c)
          → IsToBeMade script c (call_sight w hand b c) call
      by-cases (inl made) = made
      by-cases (inr ended) = absurd (false≢true (ap is_some (sym ended.dead ∙ own-living)))

  allowed : may_end_with own-lives.alive.row call ≡ true
  allowed =
      subst (λ (a : Alive). may_end_with a.row call ≡ true) (some-same (sym end-to-be-made.lives ∙ own-living))
      (end-is-allowed end-to-be-made.alive call is-an-end end-to-be-made.may)

  -- a process of the parcel that lives is the node's own
  pub living-own : (k : ℕ) (v : Body) → get bodies k ≡ Some v → (row : Row) → part k ≡ LivingBody row → k ≡ parcel.pid
  living-own k v there row lives =
      let alive : HasRow b.kernel k row = body-living b.kernel k row lives
      in let is = from-living b.kernel.processes k alive.alive alive.lives
      in let pids = holds.pids
      in let of = pids.there k (kernel.Living alive.alive) is
      in same-node of.0 of.1 (λ z. of.2 (sym of.1 ∙ z))
      (subst (λ q. b.deed (Proc q) ≡ place) (sym of.1) (parcel_is.deeds (Proc k) (in-parcel k v there)))
      (ap (get b.kernel.processes) of.1 ∙ is)
    where
      same-node : (g : ℕ) → b.pids g ≡ k → b.pids g ≢ 0 → b.deed (Proc (b.pids g)) ≡ place
          → {a : Alive} → get b.kernel.processes (b.pids g) ≡ Some (kernel.Living a) → k ≡ parcel.pid
      same-node g e forked at {a} is =
          let family : FamilyHolds script b.pids b.places b.kernel (process_deed b.deed) (checkpoints_to script w g)
          (stage_of w g) g = holds.families g forked
          in let own : c ≡ g =
          on_way.own g
          (subst (λ z. IsWhereFor g z (kernel.Living a)) at
          (subst (λ v. IsWhereFor g (b.deed (Proc (b.pids g))) v) (some-same (sym family.is ∙ is))
          family.where_it_is))
          in sym e ∙ ap b.pids (sym own) ∙ sym is_of.pid

  -- ---- it is read, and fits

  module _ (reads : DeedsAreRead b.kernel b.body) (deeds : Deeds)
      (none_here : (k : ℕ) → has_deed_of (Proc k) parcel ≡ true → get deeds.processes k ≡ None) where
    read-there : (k : ℕ) (v : Body) → get bodies k ≡ Some v → read_deed (pack (Proc k) v) ≡ Some (part k)
    read-there k v there =
        let e = in-parcel k v there
        in let has = parcel_is.has (Proc k) e
        in let body : b.body (Proc k) ≡ part k = process-part script w hand b k holds
        in ap read_deed
        (packed-same k v (b.body (Proc k)) bodies is_of.ordered there
        (subst (λ ds. Contains ds (pack (Proc k) (b.body (Proc k)))) is_of.packed has.there))
        ∙ reads (Proc k) (is-used-there script w hand b (Proc k) holds (in-parcel-made (Proc k) e))
        ∙ ap Some body

    all-read : read_deeds parcel.deeds ≡ Some (each_with part bodies)
    all-read =
        ap read_deeds is_of.packed
        ∙ read-packed part bodies
        (all-of-map (λ e. read_deed (pack (Proc e.0) e.1) ≡ Some (part e.0)) bodies is_of.ordered read-there)

    own-row : has_own_row parcel.call (get (each_with part bodies) parcel.pid) ≡ true
    own-row =
        ap (has_own_row parcel.call)
        (ap (get (each_with part bodies)) is_of.pid
        ∙ each-gets part bodies (b.pids c) (LivingBody is_of.row) is_of.own
        ∙ ap Some own-part)
        ∙ ap (may_end_with own-lives.alive.row) is_of.call_is ∙ allowed

    all-over : list_all (is_over_but_for parcel.pid) (each_with part bodies) ≡ true
    all-over =
        each-passes part (is_over_but_for parcel.pid) bodies
        (all-of-map (λ e. is_over_but_for parcel.pid (e.0, part e.0) ≡ true) bodies is_of.ordered
        (λ k v there. over-or-own k (get b.kernel.processes k) parcel.pid (living-own k v there)))

    none-held : list_all (is_held_none deeds) (each_with part bodies) ≡ true
    none-held =
        each-passes part (is_held_none deeds) bodies
        (all-of-map (λ e. is_held_none deeds (e.0, part e.0) ≡ true) bodies is_of.ordered
        (λ k v there. ap is_none (none_here k (in-parcel k v there))))

    -- It fits the deeds of a node that has none of its names.
    pub parcel-fits : fits_bodies deeds parcel (each_with part bodies) ≡ true
    parcel-fits =
        four-true (are_rising (each_with part bodies))
        (has_own_row parcel.call (get (each_with part bodies) parcel.pid))
        (list_all (is_over_but_for parcel.pid) (each_with part bodies))
        (list_all (is_held_none deeds) (each_with part bodies))
        (each-rises part bodies is_of.ordered) own-row all-over none-held

    -- So it is read as what the kernel has of its processes.
    pub parcel-reads : fitting_bodies deeds parcel ≡ Some (each_with part bodies)
    parcel-reads =
        ap (option_and_then (fits_if deeds parcel)) all-read
        ∙ ap (λ t. if t then Some (each_with part bodies) else None) parcel-fits
