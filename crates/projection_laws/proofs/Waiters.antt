-- Where a call waits: at its caller, or at one queue or set, wherever the deed of that is; and what is somewhere is its
-- name's body.
use Rattle.std.proofs.Common.{◌≡◌, ◌≢◌, ℕ, ◌+◌, ◌-◌, ◌≤◌, Bool, true, false, ◌&&◌, nat_eq, List, [], ◌∷◌, filter, slice_get, Some, Contains, refl, ap, sym, subst, ◌∙◌, inl, inr, arith}
use Rattle.std.specs.Prelude.{count_by, sum_by}
use Rattle.std.proofs.lemmas.Bool.{eq-eqb, false≢true}
use Rattle.std.proofs.lemmas.List.Sums.{sum_by-cons}
use Rattle.pico_base.specs.declared.call.Call.{Call}
use Rattle.pico_base.specs.declared.call.Call.TheVariants as calls
use Rattle.pico_base.specs.declared.numbers.Name.{Name}
use Rattle.pico_base.specs.declared.numbers.Name.TheVariants.{Proc, Msg, Sem}
use Rattle.pico_base.specs.declared.script.Script.{Script}
use Rattle.pico_base.specs.Home.{home_of}
use Rattle.rpc_frame.specs.declared.asked.Asked.{Asked}
use Rattle.rpc_frame.specs.declared.deed.PackedDeed.{PackedDeed}
use Rattle.rpc_frame.specs.declared.frame.Frame.{Frame}
use Rattle.rpc_frame.specs.declared.frame.Frame.TheVariants as frames
use Rattle.kernel_laws.proofs.Members.{contains-cases, contains-filtered, contains-first, contains-none}
use Rattle.kernel_laws.proofs.Plain.{from_some}
use Rattle.kernel_laws.proofs.ValidLaws.{reachable_kernels_are_valid_lemma}
use Rattle.kernel_model.specs.Valid.{IsValid}
use Rattle.waiting_model.specs.Calls.{may_park, waits_at}
use Rattle.entry_laws.specs.Entering.{is_used_name}
use Rattle.entry_laws.proofs.History.{history-reachable}
use Rattle.entry_laws.proofs.Names.{same-name, same-name-is}
use Rattle.node_model.specs.Bodies.{Body, waiters_of}
use Rattle.node_model.specs.Kinds.{get_named, is_object, is_same_name}
use Rattle.node_model.specs.Serving.{waiting_as}
use Rattle.node_model.specs.Spelling.{pack, read_deed}
use Rattle.world_model.specs.Census.{brings, one_if}
use Rattle.world_model.specs.Node.{Node}
use Rattle.world_model.specs.World.{World, node_count, size, stream}
use Rattle.world_laws.specs.Callers.{HasCall, IsJustThere, asked_of, call_sight, is_on, is_waiter_of, is_waiting_at, may_be_in, only_if}
use Rattle.world_laws.specs.Deeds.{DeedsAreRead}
use Rattle.world_laws.specs.Invariant.{Holds}
use Rattle.world_laws.specs.Names.{IsBringer, NameHolds, OneIf, OnlyOne, forker, held_as, held_at, is_stream_of, may_be_at, name_sight}
use Rattle.world_laws.specs.Places.{Beside, CallPlace, DeedPlace, InGiveBack, InGrant, InTable, Parked, Unmade, Waits}
use Rattle.world_laws.specs.Sights.{frames_to, is_born_in, node_of}
use Rattle.world_laws.specs.Ways.{under_way_of}
use Rattle.world_laws.proofs.NameFacts.{held-here}
use Rattle.world_laws.proofs.Named.{other-name}
use Rattle.world_laws.proofs.Steps.{frames-low}
use Rattle.rule_laws.proofs.own.Rebodied.{nobody-at-unused}
use Rattle.bound_laws.specs.Bounded.{AllRise, DeedsAreBounded, IsBounded, NodeIsBounded}
use Rattle.rest_laws.proofs.Census.{is_way, stream-is, way_from, way_to}
use Rattle.rest_laws.proofs.Shaped.{HasStream, holder-in-range, stream-there}
use Rattle.rest_laws.proofs.Sums.{rising-none, rising-one, sum-none, sum-one}
use Rattle.projection_laws.specs.Projection as page
use Rattle.projection_laws.specs.Projection.{HasNode, IsSomewhere, WaitsSomewhere, deeds_in, waiters_at, waiters_in, waiters_in_deed, waiters_on_way, waiting_places}
use Rattle.projection_laws.proofs.CallCounts.{has-call, own-number}
use Rattle.projection_laws.proofs.CallPlaces.{count-only}
use Rattle.projection_laws.proofs.Counts.{both-same, count-among, over_streams, streams-at, streams-none, sum-among, sum-zero}
use Rattle.projection_laws.proofs.Deeds.{SpellsBody, frame-spells, table-is}
use Rattle.projection_laws.proofs.Views.{any-there, node-here, node-in-range, node-is, on-way, stream-in-range, way-there}

-- ---- lists

-- what an only one counts for
sum-only : {A : Type 0} (P : A → Type 0) (f : A → ℕ) (t : Bool) (xs : List A) → OneIf t P xs
    → (t ≡ true → (x : A) → P x → f x ≡ 1) → sum_by f xs ≡ one_if t
sum-only P f false xs one counts = ap (sum_by f) one
sum-only P f true xs one counts =
    let first = counts refl one.one one.holds
    in let both = ap (sum_by f) one.only ∙ sum_by-cons f one.one []
    in let nothing : sum_by f [] ≡ 0 = refl
    in omega (arith, first, both, nothing)

alone-is : (one deed : PackedDeed) → Contains (one ∷ []) deed → one ≡ deed
alone-is one deed among =
    elim (contains-cases one [] deed among) [
      | inl same ↦ same
      | inr later ↦ absurd (contains-none deed later)
    ]

-- a frame with a name's deed brings it
deed-brings : (name : Name) (f : Frame) (deed : PackedDeed) → Contains (deeds_in f) deed
    → is_same_name name deed.name ≡ true → brings name f ≡ true
deed-brings name (frames.Checkpoint pid parent one vars) deed among same =
    ap (λ (d : PackedDeed). is_same_name name d.name) (alone-is one deed among) ∙ same
deed-brings name (frames.GiveBack one) deed among same =
    ap (λ (d : PackedDeed). is_same_name name d.name) (alone-is one deed among) ∙ same
deed-brings name (frames.Grant one) deed among same =
    ap (λ (d : PackedDeed). is_same_name name d.name) (alone-is one deed among) ∙ same
deed-brings name (frames.Left parcel) deed among same =
    any-there (λ (d : PackedDeed). is_same_name name d.name) parcel.deeds deed among same
deed-brings name (frames.ExitTo parcel) deed among same =
    any-there (λ (d : PackedDeed). is_same_name name d.name) parcel.deeds deed among same
deed-brings name f deed among same = absurd (contains-none deed among)

-- ---- which call waits where

first-of : (t u : Bool) → (t && u) ≡ true → t ≡ true
first-of true u h = refl
first-of false u h = absurd (false≢true h)

-- of two tests that both hold, the later one does
pub second-of : (t u : Bool) → (t && u) ≡ true → u ≡ true
second-of true u h = h
second-of false u h = absurd (false≢true h)

-- one that is parked at its caller waits there
waits-here : (pid : ℕ) (call : Call) → may_be_in Parked (home_of pid call) call ≡ true → waits_at pid call ≡ Proc pid
waits-here pid (calls.MsgSnd id class text nowait) may = absurd (false≢true may)
waits-here pid (calls.MsgRcv id class limit noerror nowait) may = absurd (false≢true may)
waits-here pid (calls.SemOp id steps) may = absurd (false≢true may)
waits-here pid call may = refl

-- and one that waits at a name does so at that, which is a queue's or a set's
waits-on : (pid : ℕ) (call : Call) (name : Name) → is_on name (home_of pid call) ≡ true → may_park call ≡ true
    → waits_at pid call ≡ name
waits-on pid (calls.MsgSnd id class text nowait) name on parks = sym (same-name-is name (Msg id) on)
waits-on pid (calls.MsgRcv id class limit noerror nowait) name on parks = sym (same-name-is name (Msg id) on)
waits-on pid (calls.SemOp id steps) name on parks = sym (same-name-is name (Sem id) on)
waits-on pid (calls.WaitPid child nohang) name on parks = absurd (false≢true on)
waits-on pid call name on parks = absurd (false≢true parks)

on-object : (pid : ℕ) (call : Call) (name : Name) → is_on name (home_of pid call) ≡ true → may_park call ≡ true
    → is_object (waits_at pid call) ≡ true
on-object pid (calls.MsgSnd id class text nowait) name on parks = refl
on-object pid (calls.MsgRcv id class limit noerror nowait) name on parks = refl
on-object pid (calls.SemOp id steps) name on parks = refl
on-object pid (calls.WaitPid child nohang) name on parks = absurd (false≢true on)
on-object pid call name on parks = absurd (false≢true parks)

-- ---- a world

module _ (script : Script) (w : World) (b : Beside) (holds : Holds script w [] b) (bounded : IsBounded script w [])
    (reads : DeedsAreRead b.kernel b.body) where
  -- what is somewhere is its name's body
  pub somewhere-is : (name : Name) (body : Body) → IsSomewhere w name body → body ≡ b.body name
  somewhere-is name body (page.table p n at held) = (table-is script w b holds p n name body at held).1
  somewhere-is name body (page.on_way to sender frame deed at among of read) =
      let s : SpellsBody script w b holds deed =
      frame-spells script w b holds reads to sender frame deed (on-way script w b holds to sender frame at) among
      in from_some body (b.body name) (sym read ∙ s.read ∙ ap (λ m. Some (b.body m)) of)

  -- tables stand by rising number
  rises : (q : ℕ) (m : Node) → HasNode w q m → AllRise m.deeds
  rises q m at =
      let bound : NodeIsBounded script (node_of w q) =
      bounded.nodes q at.number (node-in-range script w b holds q m at)
      in let deeds : DeedsAreBounded script (node_of w q).deeds = bound.deeds
      in subst (λ (x : Node). AllRise x.deeds) (node-is script w b holds q m at) deeds.rise

  -- the node at a place of the list
  node-at-place : (i : ℕ) (m : Node) → slice_get w.nodes i ≡ Some m → HasNode w (i + 1) m
  node-at-place i m there =
      let same : i + 1 - 1 ≡ i = omega arith
      in record { number = omega arith; there = ap (slice_get w.nodes) same ∙ there }

  module _ (p : ℕ) (low : 1 ≤ p) (high : p ≤ node_count script) (call : Call)
      (under : under_way_of w p ≡ Some call) where
    abbrev n : Node
    n = node_of w p

    abbrev place : CallPlace
    place = b.call p

    abbrev asked : Asked
    asked = asked_of (call_sight w [] b p) call

    has : HasCall script p (is_born_in w) (call_sight w [] b p) call
    has = has-call script w b holds p low high call under

    just : IsJustThere p (call_sight w [] b p) asked
    just = has.just_there

    -- it is among those who wait at the name of its place, and nowhere else
    name-count : (name : Name) → waiters_in p (b.body name) ≡ one_if (is_waiting_at place name)
    name-count name =
        count-among (is_waiter_of p) (is_waiter_of p) (waiters_of (b.body name)) (λ v at e. e)
        ∙ ap (count_by (is_waiter_of p)) (just.waiting name)
        ∙ count-only (is_waiter_of p) (is_waiting_at place name) (waiting_as asked)
        ∙ by-test (is_waiting_at place name)
      where
        by-test : (t : Bool) → one_if (t && is_waiter_of p (waiting_as asked)) ≡ one_if t
        by-test true =
            ap (λ s. let m : ℕ = one_if s in m)
            (eq-eqb n.number p (own-number script w b holds p low high call under))
        by-test false = refl

    count-of : (name : Name) (t : Bool) → is_waiting_at place name ≡ t → waiters_in p (b.body name) ≡ one_if t
    count-of name t e = name-count name ∙ ap (λ s. let m : ℕ = one_if s in m) e

    -- ---- nodes

    module _ (q : ℕ) (m : Node) (at : HasNode w q m) where
      entry-is : (name : Name) (body : Body) → get_named m.deeds name ≡ Some body
          → (b.deed name ≡ InTable q) × (body ≡ b.body name)
      entry-is name body held = table-is script w b holds q m name body at held

      entry-count : (name : Name) (body : Body) → get_named m.deeds name ≡ Some body → (t : Bool)
          → is_waiting_at place name ≡ t → waiters_in p body ≡ one_if t
      entry-count name body held t e =
          ap (λ (v : Body). waiters_in p v) (entry-is name body held).1 ∙ count-of name t e

      -- nothing that the node holds has it
      node-none : ((name : Name) → is_waiting_at place name ≡ true → b.deed name ≡ InTable q → ⊥)
          → waiters_at p m ≡ 0
      node-none none =
          let queues =
          rising-none (λ (e : ℕ × Body). waiters_in p e.1) m.deeds.queues (rises q m at).queues
          (λ id v held. entry (Msg id) v held)
          in let sets =
          rising-none (λ (e : ℕ × Body). waiters_in p e.1) m.deeds.sets (rises q m at).sets
          (λ id v held. entry (Sem id) v held)
          in omega (arith, queues, sets)
        where
          entry : (name : Name) (v : Body) → get_named m.deeds name ≡ Some v → waiters_in p v ≡ 0
          entry name v held = by-test (is_waiting_at place name) refl
            where
              by-test : (t : Bool) → is_waiting_at place name ≡ t → waiters_in p v ≡ 0
              by-test false e = entry-count name v held false e
              by-test true e = absurd (none name e (entry-is name v held).0)

      module _ (name : Name) (waits : place ≡ Waits name) (deed : b.deed name ≡ InTable q) where
        held-there : get_named m.deeds name ≡ Some (b.body name)
        held-there =
            let k : NameHolds script b.pids (is_born_in w) name (name_sight script w [] b name) = holds.names name
            in ap (λ (x : Node). get_named x.deeds name) (sym (node-is script w b holds q m at)) ∙ k.tables q
            ∙ ap (λ d. held_as d (b.body name) q) deed ∙ held-here q (b.body name)

        own-count : waiters_in p (b.body name) ≡ 1
        own-count = count-of name true (ap (λ c. is_waiting_at c name) waits ∙ same-name name)

        others-count : (other : Name) (v : Body) → get_named m.deeds other ≡ Some v → other ≢ name
            → waiters_in p v ≡ 0
        others-count other v held d =
            entry-count other v held false
            (ap (λ c. is_waiting_at c other) waits ∙ other-name name other (λ e. d (sym e)))

      -- the node has what it waits at
      node-one : (name : Name) → is_object name ≡ true → place ≡ Waits name → b.deed name ≡ InTable q
          → waiters_at p m ≡ 1
      node-one (Msg k) object waits deed =
          let queues =
          rising-one (λ (e : ℕ × Body). waiters_in p e.1) m.deeds.queues k (b.body (Msg k)) 1 (rises q m at).queues
          (held-there (Msg k) waits deed) (own-count (Msg k) waits deed)
          (λ id v held d. others-count (Msg k) waits deed (Msg id) v held (λ e. d (cc)))
          in let sets =
          rising-none (λ (e : ℕ × Body). waiters_in p e.1) m.deeds.sets (rises q m at).sets
          (λ id v held. others-count (Msg k) waits deed (Sem id) v held (λ e. cc))
          in omega (arith, queues, sets)
      node-one (Sem k) object waits deed =
          let sets =
          rising-one (λ (e : ℕ × Body). waiters_in p e.1) m.deeds.sets k (b.body (Sem k)) 1 (rises q m at).sets
          (held-there (Sem k) waits deed) (own-count (Sem k) waits deed)
          (λ id v held d. others-count (Sem k) waits deed (Sem id) v held (λ e. d (cc)))
          in let queues =
          rising-none (λ (e : ℕ × Body). waiters_in p e.1) m.deeds.queues (rises q m at).queues
          (λ id v held. others-count (Sem k) waits deed (Msg id) v held (λ e. cc))
          in omega (arith, queues, sets)
      node-one (Proc k) object waits deed = absurd (false≢true object)

    -- ---- streams

    deed-count : (to sender : ℕ) (f : Frame) → Contains (frames_to w to sender) f → (deed : PackedDeed)
        → Contains (deeds_in f) deed → is_waiting_at place deed.name ≡ false
        → waiters_in_deed p (read_deed deed) ≡ 0
    deed-count to sender f at deed among e =
        let s : SpellsBody script w b holds deed = frame-spells script w b holds reads to sender f deed at among
        in ap (λ o. waiters_in_deed p o) s.read ∙ count-of deed.name false e

    frame-none : (to sender : ℕ) (f : Frame) → Contains (frames_to w to sender) f
        → ((deed : PackedDeed) → Contains (deeds_in f) deed → is_waiting_at place deed.name ≡ false)
        → waiters_on_way p f ≡ 0
    frame-none to sender f at none =
        sum-zero (λ deed. waiters_in_deed p (read_deed deed)) (deeds_in f)
        (λ deed among. deed-count to sender f at deed among (none deed among))

    abbrev in_stream : ℕ → ℕ → ℕ
    in_stream to sender = sum_by (waiters_on_way p) (stream w to sender)

    abbrev at_nodes : ℕ
    at_nodes = sum_by (waiters_at p) w.nodes

    all-are : waiting_places w p ≡ at_nodes + over_streams w in_stream
    all-are = refl

    -- A call that is at no name is nowhere among those who wait.
    pub waits-nowhere : ((name : Name) → is_waiting_at place name ≡ false) → waiting_places w p ≡ 0
    waits-nowhere none =
        let nodes : at_nodes ≡ 0 =
        sum-none (waiters_at p) w.nodes
        (λ i m there. node-none (i + 1) m (node-at-place i m there)
        (λ name e d. false≢true (sym (none name) ∙ e)))
        in let ways : over_streams w in_stream ≡ 0 =
        streams-none w in_stream
        (λ to sender low_to low_from.
        ap (sum_by (waiters_on_way p)) (sym (frames-low w to sender low_to low_from))
        ∙ sum-zero (waiters_on_way p) (frames_to w to sender)
        (λ f at. frame-none to sender f at (λ deed among. none deed.name)))
        in let all = all-are
        in omega (arith, nodes, ways, all)

    -- ---- one that waits at a name

    module _ (name : Name) (waits : place ≡ Waits name) where
      abbrev deed_place : DeedPlace
      deed_place = b.deed name

      abbrev body : Body
      body = b.body name

      known : NameHolds script b.pids (is_born_in w) name (name_sight script w [] b name)
      known = holds.names name

      on : is_on name (home_of n.pid call) ≡ true
      on =
          first-of (is_on name (home_of n.pid call)) (may_park call)
          (ap (λ c. may_be_in c (home_of n.pid call) call) (sym waits) ∙ has.home)

      parks : may_park call ≡ true
      parks =
          second-of (is_on name (home_of n.pid call)) (may_park call)
          (ap (λ c. may_be_in c (home_of n.pid call) call) (sym waits) ∙ has.home)

      waits-at-it : waits_at n.pid call ≡ name
      waits-at-it = waits-on n.pid call name on parks

      object : is_object name ≡ true
      object = ap is_object (sym waits-at-it) ∙ on-object n.pid call name on parks

      waits-is : is_waiting_at place name ≡ true
      waits-is = ap (λ c. is_waiting_at c name) waits ∙ same-name name

      elsewhere : (other : Name) → is_same_name name other ≡ false → is_waiting_at place other ≡ false
      elsewhere other e = ap (λ c. is_waiting_at c other) waits ∙ e

      -- it is among those who wait there
      mine : filter (is_waiter_of p) (waiters_of body) ≡ waiting_as asked ∷ []
      mine = just.waiting name ∙ ap (λ t. only_if t (waiting_as asked)) waits-is

      among-them : Contains (waiters_of body) (waiting_as asked)
      among-them =
          (contains-filtered (is_waiter_of p) (waiters_of body) (waiting_as asked)
          (subst (λ vs. Contains vs (waiting_as asked)) (sym mine) (contains-first (waiting_as asked) []))).0

      -- so something has the name
      used : is_used_name b.kernel name ≡ true
      used = by-test (is_used_name b.kernel name) refl
        where
          by-test : (t : Bool) → is_used_name b.kernel name ≡ t → is_used_name b.kernel name ≡ true
          by-test true e = e
          by-test false e =
              let valid : IsValid b.kernel =
              reachable_kernels_are_valid_lemma b.kernel
              (history-reachable script b.lines b.kernel b.places holds.history)
              in let nobody : waiters_of body ≡ [] = nobody-at-unused b.kernel name body valid e known.parts
              in absurd
              (contains-none (waiting_as asked) (subst (λ vs. Contains vs (waiting_as asked)) nobody among-them))

      made : deed_place ≡ Unmade → ⊥
      made unmade = let m = known.made in false≢true (sym (m.0 unmade) ∙ used)

      fits : may_be_at true deed_place ≡ true
      fits = ap (λ t. may_be_at t deed_place) (sym object) ∙ known.place_fits

      -- ---- where its deed is

      packed-one : waiters_in_deed p (read_deed (pack name body)) ≡ 1
      packed-one = ap (λ o. waiters_in_deed p o) (reads name used) ∙ count-of name true waits-is

      bringer-one : (d : DeedPlace) (f : Frame) → may_be_at true d ≡ true → is_way d ≡ true
          → IsBringer b.pids name body d f → waiters_on_way p f ≡ 1
      bringer-one (InGrant h) f may way is =
          ap (λ g. waiters_on_way p g) is ∙ ap (λ (count : ℕ). let one : ℕ = 0 + count in one) packed-one
      bringer-one (InGiveBack h) f may way is =
          ap (λ g. waiters_on_way p g) is ∙ ap (λ (count : ℕ). let one : ℕ = 0 + count in one) packed-one
      bringer-one (InTable h) f may way is = absurd (false≢true way)
      bringer-one Unmade f may way is = absurd (false≢true way)
      bringer-one d f may way is = absurd (false≢true may)

      way-of : (to sender : ℕ) → is_stream_of (forker script) deed_place to sender ≡ true → is_way deed_place ≡ true
      way-of to sender e =
          first-of (is_way deed_place)
          (nat_eq to (way_to deed_place) && nat_eq sender (way_from (forker script) deed_place))
          (sym (stream-is (forker script) deed_place to sender) ∙ e)

      not-brought : (to sender : ℕ) (f : Frame) → Contains (frames_to w to sender) f → brings name f ≡ false
          → waiters_on_way p f ≡ 0
      not-brought to sender f at none =
          frame-none to sender f at (λ deed among. by-test deed among (is_same_name name deed.name) refl)
        where
          by-test : (deed : PackedDeed) → Contains (deeds_in f) deed → (t : Bool) → is_same_name name deed.name ≡ t
              → is_waiting_at place deed.name ≡ false
          by-test deed among false e = elsewhere deed.name e
          by-test deed among true e = absurd (false≢true (sym none ∙ deed-brings name f deed among e))

      stream-count : (to sender : ℕ) → 1 ≤ to → 1 ≤ sender → in_stream to sender
          ≡ one_if (is_way deed_place && (nat_eq to (way_to deed_place)
          && nat_eq sender (way_from (forker script) deed_place)))
      stream-count to sender low_to low_from =
          ap (sum_by (waiters_on_way p)) (sym (frames-low w to sender low_to low_from))
          ∙ sum-among (waiters_on_way p) (brings name) (frames_to w to sender)
          (λ f at none. not-brought to sender f at none)
          ∙ sum-only (IsBringer b.pids name body deed_place) (waiters_on_way p)
          (is_stream_of (forker script) deed_place to sender) (filter (brings name) (frames_to w to sender))
          (known.streams to sender)
          (λ e f is. bringer-one deed_place f fits (way-of to sender e) is)
          ∙ ap one_if (stream-is (forker script) deed_place to sender)

      abbrev way_here : Bool
      way_here = is_stream_of (forker script) deed_place (way_to deed_place) (way_from (forker script) deed_place)

      is-here : is_way deed_place ≡ true → way_here ≡ true
      is-here way =
          stream-is (forker script) deed_place (way_to deed_place) (way_from (forker script) deed_place)
          ∙ ap (λ t. t && (nat_eq (way_to deed_place) (way_to deed_place)
          && nat_eq (way_from (forker script) deed_place) (way_from (forker script) deed_place))) way
          ∙ both-same (way_to deed_place) (way_from (forker script) deed_place)

      -- the frame that brings it
      brought : is_way deed_place ≡ true → OnlyOne (IsBringer b.pids name body deed_place)
          (filter (brings name) (frames_to w (way_to deed_place) (way_from (forker script) deed_place)))
      brought way =
          subst (λ t. OneIf t (IsBringer b.pids name body deed_place)
          (filter (brings name) (frames_to w (way_to deed_place) (way_from (forker script) deed_place))))
          (is-here way) (known.streams (way_to deed_place) (way_from (forker script) deed_place))

      brought-there : (way : is_way deed_place ≡ true)
          → Contains (frames_to w (way_to deed_place) (way_from (forker script) deed_place)) (brought way).one
      brought-there way =
          (contains-filtered (brings name) (frames_to w (way_to deed_place) (way_from (forker script) deed_place))
          (brought way).one
          (subst (λ fs. Contains fs (brought way).one) (sym (brought way).only)
          (contains-first (brought way).one []))).0

      stream-range : is_way deed_place ≡ true → ((1 ≤ way_to deed_place) × (way_to deed_place ≤ size w))
          × ((1 ≤ way_from (forker script) deed_place) × (way_from (forker script) deed_place ≤ size w))
      stream-range way =
          let s : HasStream w (way_to deed_place) (way_from (forker script) deed_place) =
          stream-there w (way_to deed_place) (way_from (forker script) deed_place)
          (λ none. contains-none (brought way).one
          (subst (λ fs. Contains fs (brought way).one) none (brought-there way)))
          in let range = stream-in-range script w b holds (way_to deed_place) (way_from (forker script) deed_place) s
          in ((s.low, range.0), (s.low_from, range.1))

      ways-count : over_streams w in_stream ≡ one_if (is_way deed_place)
      ways-count =
          streams-at w in_stream (is_way deed_place) (way_to deed_place) (way_from (forker script) deed_place)
          stream-range stream-count

      -- ---- at a node

      module _ (q : ℕ) (deed : deed_place ≡ InTable q) where
        held-body : held_at w name q ≡ Some body
        held-body = known.tables q ∙ ap (λ d. held_as d body q) deed ∙ held-here q body

        range : (1 ≤ q) × (q ≤ node_count script)
        range = holder-in-range script w holds.shape q name body held-body

        pub at-node : IsSomewhere w name body
        at-node = page.table q (node_of w q) (node-here script w b holds q range.0 range.1) held-body

        other-node : (i : ℕ) (m : Node) → slice_get w.nodes i ≡ Some m → i ≢ q - 1 → waiters_at p m ≡ 0
        other-node i m there d =
            node-none (i + 1) m (node-at-place i m there)
            (λ other e at.
            let same : name ≡ other = same-name-is name other (sym (ap (λ c. is_waiting_at c other) waits) ∙ e)
            in let number : q ≡ i + 1 = table-number q (i + 1) (sym deed ∙ ap b.deed same ∙ at)
            in d (omega (arith, number)))
          where
            table-number : (a c : ℕ) → InTable a ≡ InTable c → a ≡ c
            table-number a c e = cc

        nodes-one : at_nodes ≡ 1
        nodes-one =
            let first = range.0
            in let last = range.1
            in let count = let s = holds.shape in s.nodes
            in sum-one (waiters_at p) w.nodes (q - 1) 1 (omega (arith, first, last, count)) other-node
            (λ m there. node-one q m (record { number = first; there = there }) name object waits deed)

        pub table-one : waiting_places w p ≡ 1
        table-one =
            let nodes = nodes-one
            in let ways = ways-count ∙ ap (λ d. one_if (is_way d)) deed
            in let all = all-are
            in omega (arith, nodes, ways, all)

      -- ---- on its way

      module _ (way : is_way deed_place ≡ true) where
        nodes-none : at_nodes ≡ 0
        nodes-none =
            sum-none (waiters_at p) w.nodes
            (λ i m there. node-none (i + 1) m (node-at-place i m there)
            (λ other e at.
            let same : name ≡ other = same-name-is name other (sym (ap (λ c. is_waiting_at c other) waits) ∙ e)
            in false≢true (sym (ap is_way (ap b.deed same ∙ at)) ∙ way)))

        pub way-one : waiting_places w p ≡ 1
        way-one =
            let nodes = nodes-none
            in let ways = ways-count ∙ ap one_if way
            in let all = all-are
            in omega (arith, nodes, ways, all)

        deeds-of : (d : DeedPlace) (f : Frame) → may_be_at true d ≡ true → is_way d ≡ true
            → IsBringer b.pids name body d f → deeds_in f ≡ pack name body ∷ []
        deeds-of (InGrant h) f may on_it is = ap deeds_in is
        deeds-of (InGiveBack h) f may on_it is = ap deeds_in is
        deeds-of (InTable h) f may on_it is = absurd (false≢true on_it)
        deeds-of Unmade f may on_it is = absurd (false≢true on_it)
        deeds-of d f may on_it is = absurd (false≢true may)

        pub on-its-way : IsSomewhere w name body
        on-its-way =
            let one : OnlyOne (IsBringer b.pids name body deed_place)
            (filter (brings name) (frames_to w (way_to deed_place) (way_from (forker script) deed_place))) = brought way
            in page.on_way (way_to deed_place) (way_from (forker script) deed_place) one.one (pack name body)
            (way-there script w b holds (way_to deed_place) (way_from (forker script) deed_place) one.one
            (brought-there way))
            (subst (λ ds. Contains ds (pack name body)) (sym (deeds-of deed_place one.one fits way one.holds))
            (contains-first (pack name body) []))
            refl (reads name used)

      -- It is at that name, wherever that is.
      pub waits-there : WaitsSomewhere w p n call
      waits-there = by-deed deed_place refl fits
        where
          on-way : is_way deed_place ≡ true → WaitsSomewhere w p n call
          on-way way = page.there name body waits-at-it (on-its-way way) among-them (way-one way)

          by-deed : (d : DeedPlace) → deed_place ≡ d → may_be_at true d ≡ true → WaitsSomewhere w p n call
          by-deed (InTable q) e may = page.there name body waits-at-it (at-node q e) among-them (table-one q e)
          by-deed (InGrant h) e may = on-way (ap is_way e)
          by-deed (InGiveBack h) e may = on-way (ap is_way e)
          by-deed Unmade e may = absurd (made e)
          by-deed d e may = absurd (false≢true may)

    -- ---- one that is parked at its caller

    -- It waits there, and is at no name.
    pub parked-here : place ≡ Parked → WaitsSomewhere w p n call
    parked-here at =
        page.here
        (waits-here n.pid call (ap (λ c. may_be_in c (home_of n.pid call) call) (sym at) ∙ has.home))
        (waits-nowhere (λ name. ap (λ c. is_waiting_at c name) at))
