-- A node takes a Lease, and its call goes on with the first of the numbers.
use Rattle.std.proofs.Common.{Contains, ◌≡◌, ◌≢◌, ℕ, zero, suc, ◌+◌, ◌<◌, ◌≤◌, Bool, true, false, ◌&&◌, ◌||◌, not, cond, if◌then◌else◌, List, [], ◌∷◌, ◌++◌, length, filter, flat_map, nat_eq, nat_lt, sum_by, Some, None, is_some, option_and_then, refl, ap, sym, subst, ◌∙◌, inl, inr, arith}
use Rattle.std.specs.List.{list_any, range_with_len}
use Rattle.std.proofs.lemmas.Bool.{cases_eq, eq-eqb, lt-ltb, ne_eqb, false≢true}
use Rattle.std.proofs.lemmas.List.Sums.{sum_by-cons}
use Rattle.pico_base.specs.declared.call.Call.{Call}
use Rattle.pico_base.specs.declared.numbers.Kind.{Kind}
use Rattle.pico_base.specs.declared.numbers.Kind.TheVariants as kinds
use Rattle.pico_base.specs.declared.numbers.Name.TheVariants.{Proc}
use Rattle.pico_base.specs.declared.script.Event.TheVariants as events
use Rattle.pico_base.specs.declared.script.Script.{Script}
use Rattle.pico_base.specs.declared.call.Home.{Home}
use Rattle.pico_base.specs.declared.call.Home.TheVariants as homes
use Rattle.pico_base.specs.Home.{home_of}
use Rattle.rpc_frame.specs.declared.asked.Asked.{Asked}
use Rattle.rpc_frame.specs.declared.frame.Frame.{Frame}
use Rattle.rpc_frame.specs.declared.frame.Frame.TheVariants as frames
use Rattle.number_maps.specs.Maps.{Numbered, get, is_used}
use Rattle.number_maps.specs.Rising.{IsRising}
use Rattle.number_maps.proofs.LookUps.{get-first, get-later}
use Rattle.number_maps.proofs.Rising.{above-first, get-above, rising-rest}
use Rattle.kernel_model.specs.Footprint.{used_of}
use Rattle.kernel_model.specs.Kernel.{living_at}
use Rattle.kernel_model.specs.Numbers.{is_u32}
use Rattle.kernel_model.specs.Row.{Alive, Row, lists}
use Rattle.kernel_model.specs.Valid.{IsValid}
use Rattle.kernel_model.specs.Kernel as kernel
use Rattle.kernel_laws.proofs.Members.{contains-first}
use Rattle.kernel_laws.proofs.People.{from-living}
use Rattle.kernel_laws.proofs.ValidLaws.{reachable_kernels_are_valid_lemma}
use Rattle.entry_laws.specs.Entering.{is_used_name}
use Rattle.entry_laws.proofs.Bodies.{body-living}
use Rattle.entry_laws.proofs.History.{history-reachable, may-make-from}
use Rattle.entry_laws.proofs.Numbers.{process-there}
use Rattle.node_model.specs.declared.held.Held.TheVariants.{Request}
use Rattle.node_model.specs.Bodies.{Body, Living as LivingBody}
use Rattle.node_model.specs.Directory.{max_ranges}
use Rattle.node_model.specs.Kinds.{for_kind, get_named, name_of, number_of}
use Rattle.node_model.specs.Leases.{is_used_up, lease_of, refill, takes_number}
use Rattle.world_model.specs.Node.{Living, Node, Stage, Unborn, Leaving, Left, Over, holds as node_holds}
use Rattle.world_model.specs.Numbers.{make, make_taken, make_with, take_from}
use Rattle.world_model.specs.Ranges.{go_on_with, is_listed_here, is_there, lists_child, may_lease, take_lease}
use Rattle.world_model.specs.Step.{Step, step_to}
use Rattle.world_model.specs.World.{World, node_count, numbers as numbers_from, world_after}
use Rattle.world_laws.specs.Places.{AsksLease, Beside, CallPlace, Ends, HasLease, Idle, InAnswer, InAsk, InBounce, InNotOwner, InRequest, IsHeld, IsInHand, Parked, SentByPlace, SentByRange, Waits, call_in}
use Rattle.world_laws.specs.Sights.{directory_of, frames_to, is_born_in, node_of}
use Rattle.node_model.specs.Serving.{waiting_as}
use Rattle.world_laws.specs.Cancels.{Nothing, cancel_sight}
use Rattle.world_laws.specs.Wholes.{HasMarks, HasWhole}
use Rattle.world_laws.proofs.Following.{never-cancelled}
use Rattle.world_laws.specs.Callers.{CallHolds, CallSight, HasCall, IsBetween, IsJustThere, IsSoFar, IsToBeMade, asked_of, call_sight, frame_at, is_about, is_at_work, is_call_of_kind, is_end_place, is_end_stage, is_held_at, is_in_stream, is_waiting_at, lease_is_over, may_be_in, only_if}
use Rattle.world_laws.specs.Families.{BornIn, HoldsIn, HoldsRow, IsBorn, NodeHolds}
use Rattle.world_laws.specs.Invariant.{Holds}
use Rattle.world_laws.specs.Names.{NameHolds, name_sight}
use Rattle.world_laws.specs.Ranges.{IsRangeOf, KindHolds, first_if, has_lease, is_given, is_in_lease, kind_sight, lease_in, leases_on_way, one_for}
use Rattle.world_laws.proofs.Changes.{frames_if, taken}
use Rattle.world_laws.proofs.Heads.{head-is}
use Rattle.world_laws.proofs.NameFacts.{IsHeldAt, held-there}
use Rattle.world_laws.proofs.NewRanges.{in-lease-again, no-lease-about}
use Rattle.world_laws.proofs.Numbers.{maker-in-range}
use Rattle.world_laws.proofs.Sends.{AreToNodes, frame_if}
use Rattle.world_laws.proofs.Steps.{Heads, changes-by-take, take-steps, world_without}
use Rattle.rule_laws.proofs.Answers.{Found, IsOnly, find, only-one}
use Rattle.rule_laws.proofs.own.Asks.{Takes}
use Rattle.rule_laws.proofs.own.Made.{number-is-low}
use Rattle.rule_laws.proofs.own.Objects.{for-with, kind-itself}
use Rattle.rule_laws.proofs.makes.FromNext.{kind-of-name, none-passes, number-of-name, with-with}
use Rattle.rule_laws.proofs.makes.Making.{HasSize, Making, making-of, making-takes}
use Rattle.rule_laws.proofs.own.Bodies.{process-body-is}
use Rattle.rule_laws.proofs.makes.Numbered.{numbered-not-withdrawn}
use Rattle.rule_laws.proofs.makes.NewOnes.{held-nowhere}
use Rattle.rule_laws.proofs.makes.Sources.{Comes, Gives, Source, kind-come, ready_node, takes_by}

-- ---- what a Lease says of the call

abbrev is_lease : Frame → Bool
is_lease (frames.Lease kind first) = true
is_lease frame = false

-- the call is where its numbers are on their way, in this frame alone
pub record IsLeaseOf (place : CallPlace) (kind : Kind) (first : ℕ) (fs : List Frame) : Type 0 where
  pub place_is : place ≡ HasLease kind first
  pub alone : fs ≡ []

no-lease : (t : Bool) (f : Frame) (kind : Kind) (first : ℕ) (fs : List Frame) → is_lease f ≡ false
    → only_if t f ≡ frames.Lease kind first ∷ fs → ⊥
no-lease t f kind first fs other h =
    let one : IsOnly t f (frames.Lease kind first) fs = only-one t f (frames.Lease kind first) fs h
    in false≢true (sym other ∙ ap is_lease one.same)

none-is-not : (f : Frame) (fs : List Frame) → [] ≡ f ∷ fs → ⊥
none-is-not f fs h = cc

kind-same : (a c : Kind) (f g : ℕ) → frames.Lease a f ≡ frames.Lease c g → a ≡ c
kind-same a c f g h = cc

first-same : (a c : Kind) (f g : ℕ) → frames.Lease a f ≡ frames.Lease c g → f ≡ g
first-same a c f g h = cc

-- a Lease says that the call's numbers are there
pub lease-of-call : (place : CallPlace) (asked : Asked) (p to sender : ℕ) (kind : Kind) (first : ℕ) (fs : List Frame)
    → only_if (is_in_stream place p to sender) (frame_at place asked) ≡ frames.Lease kind first ∷ fs
    → IsLeaseOf place kind first fs
lease-of-call (HasLease other number) asked p to sender kind first fs h =
    let one : IsOnly (nat_eq to p && nat_eq sender 1) (frames.Lease other number) (frames.Lease kind first) fs =
    only-one (nat_eq to p && nat_eq sender 1) (frames.Lease other number) (frames.Lease kind first) fs h
    in record {
      place_is = ap (λ k. HasLease k number) (kind-same other kind number first one.same)
          ∙ ap (HasLease kind) (first-same other kind number first one.same);
      alone = one.alone;
    }
lease-of-call Idle asked p to sender kind first fs h = absurd (none-is-not _ fs h)
lease-of-call (IsHeld name) asked p to sender kind first fs h = absurd (none-is-not _ fs h)
lease-of-call IsInHand asked p to sender kind first fs h = absurd (none-is-not _ fs h)
lease-of-call Parked asked p to sender kind first fs h = absurd (none-is-not _ fs h)
lease-of-call (Waits name) asked p to sender kind first fs h = absurd (none-is-not _ fs h)
lease-of-call Ends asked p to sender kind first fs h = absurd (none-is-not _ fs h)
lease-of-call (InAnswer node answer) asked p to sender kind first fs h = absurd (no-lease _ _ kind first fs refl h)
lease-of-call (AsksLease other) asked p to sender kind first fs h = absurd (no-lease _ _ kind first fs refl h)
lease-of-call InAsk asked p to sender kind first fs h = absurd (no-lease _ _ kind first fs refl h)
lease-of-call (InRequest node) asked p to sender kind first fs h = absurd (no-lease _ _ kind first fs refl h)
lease-of-call (InNotOwner node) asked p to sender kind first fs h = absurd (no-lease _ _ kind first fs refl h)
lease-of-call (SentByPlace node) asked p to sender kind first fs h = absurd (no-lease _ _ kind first fs refl h)
lease-of-call (SentByRange node) asked p to sender kind first fs h = absurd (no-lease _ _ kind first fs refl h)
lease-of-call (InBounce node) asked p to sender kind first fs h = absurd (no-lease _ _ kind first fs refl h)

-- ---- one lease less on its way

behind-less : (f g : ℕ → ℕ) (q first count : ℕ) → ((x : ℕ) → x ≢ q → f x ≤ g x) → q < first
    → sum_by f (numbers_from first count) ≤ sum_by g (numbers_from first count)
behind-less f g q first zero less low = omega arith
behind-less f g q first (suc count) less low =
    let here = less first (λ e. omega (arith, e, low))
    in let rest = behind-less f g q (first + 1) count less (omega (arith, low))
    in let one = sum_by-cons f first (numbers_from (first + 1) count)
    in let other = sum_by-cons g first (numbers_from (first + 1) count)
    in omega (arith, here, rest, one, other)

-- a sum that is one more at one number, and nowhere else, is one more at most
pub sum-less : (f g : ℕ → ℕ) (q first count : ℕ) → ((x : ℕ) → x ≢ q → f x ≤ g x) → f q ≤ g q + 1
    → sum_by f (numbers_from first count) ≤ sum_by g (numbers_from first count) + 1
sum-less f g q first zero less one = omega arith
sum-less f g q first (suc count) less one =
    let sum = sum_by-cons f first (numbers_from (first + 1) count)
    in let other = sum_by-cons g first (numbers_from (first + 1) count)
    in elim (cases_eq first q) [
      | inl e ↦
          let here : f first ≤ g first + 1 = subst (λ y. f y ≤ g y + 1) (sym e) one
          in let rest = behind-less f g q (first + 1) count less (omega (arith, e))
          in omega (arith, here, rest, sum, other)
      | inr d ↦
          let here = less first d
          in let rest = sum-less f g q (first + 1) count less one
          in omega (arith, here, rest, sum, other)
    ]

-- ---- what is at the node

none-listed : (test : ℕ × Body → Bool) (m : Numbered Body) → IsRising m
    → ((q : ℕ) (v : Body) → get m q ≡ Some v → test (q, v) ≡ false) → list_any test m ≡ false
none-listed test [] rising h = refl
none-listed test ((k, v) ∷ m) rising h =
    ap (λ t. t || list_any test m) (h k v (get-first (k, v) m k refl))
    ∙ none-listed test m (rising-rest (k, v) m rising)
    (λ q u there. h q u (get-later (k, v) m q (apart q u there) ∙ there))
  where
    none-is-some : (u : Body) → None ≡ Some u → ⊥
    none-is-some u e = cc

    apart : (q : ℕ) (u : Body) → get m q ≡ Some u → q ≢ k
    apart q u there same =
        none-is-some u (sym (get-above k m (above-first (k, v) m rising)) ∙ ap (get m) (sym same) ∙ there)

living-stage : (stage : Stage) → is_at_work stage ≡ true → is_end_stage stage ≡ false → stage ≡ Living
living-stage Living work no_end = refl
living-stage Unborn work no_end = absurd (false≢true work)
living-stage Over work no_end = absurd (false≢true work)
living-stage Leaving work no_end = absurd (false≢true (sym no_end))
living-stage Left work no_end = absurd (false≢true (sym no_end))

and-second : (a c : Bool) → (a && c) ≡ true → c ≡ true
and-second true c h = h
and-second false c h = absurd (false≢true h)

all-true : (a c d e : Bool) → a ≡ true → c ≡ true → d ≡ true → e ≡ false → (a && (c && (d && not e))) ≡ true
all-true a c d e h g i j = rw (h, g, i, j) refl

-- ---- the event

module _ (script : Script) (w : World) (b : Beside) (holds : Holds script w [] b) (p : ℕ) (kind : Kind) (first : ℕ)
    (rest : List Frame) (h : Heads script w p 1 (frames.Lease kind first) rest)
    (rising : IsRising (node_of w p).deeds.processes)
    (sized : (call : Call) → (node_of w p).caller.under_way ≡ Some call → HasSize call)
    (enough : length (for_kind (directory_of w).ranges kind) ≤ max_ranges) where
  abbrev frame : Frame
  frame = frames.Lease kind first

  abbrev n : Node
  n = node_of w p

  abbrev x : CallSight
  x = call_sight w [] b p

  call-holds : CallHolds script p (is_born_in w) x
  call-holds = holds.calls p h.low h.high

  node-there : NodeHolds script b.pids (is_born_in w) p n
  node-there = holds.nodes p h.low h.high

  about-first : x.frames_about p 1 ≡ frame ∷ filter (is_about p p 1) rest
  about-first =
      ap (filter (is_about p p 1)) (head-is script w p 1 frame rest h)
      ∙ ap (λ t. cond t (frame ∷ filter (is_about p p 1) rest) (filter (is_about p p 1) rest)) (eq-eqb p p refl)

  pub found : Found script p (is_born_in w) x
  found =
      find script p (is_born_in w) x p 1 frame (filter (is_about p p 1) rest) about-first n.caller.under_way refl
      call-holds.call

  -- the call that goes on
  abbrev pub call : Call
  call = found.call

  has : HasCall script p (is_born_in w) x call
  has = found.has

  there : IsJustThere p x (asked_of x call)
  there = has.just_there

  is-lease : IsLeaseOf x.call kind first (filter (is_about p p 1) rest)
  is-lease =
      lease-of-call x.call (asked_of x call) p p 1 kind first (filter (is_about p p 1) rest)
      (sym (there.in_streams p 1) ∙ about-first)

  pub other : p ≢ 1
  other = subst (λ y. IsBetween p (is_born_in w) y) is-lease.place_is has.between

  over : for_kind n.leases kind ≡ []
  over = subst (λ y. lease_is_over y n.leases) is-lease.place_is has.used_up

  is-living : n.stage ≡ Living
  is-living =
      living-stage n.stage has.at_work (sym call-holds.ends ∙ ap is_end_place is-lease.place_is)

  made : IsToBeMade script p x call
  made = subst (λ y. IsSoFar script p x call y) is-lease.place_is has.so_far

  takes-kind : takes_number kind call ≡ true
  takes-kind =
      by-home (home_of x.pid call) (sym (ap (λ y. may_be_in y (home_of x.pid call) call) is-lease.place_is) ∙ has.home)
    where
      by-home : (home : Home) → is_call_of_kind kind home call ≡ true → takes_number kind call ≡ true
      by-home homes.Own e = e
      by-home (homes.At name) e = absurd (false≢true e)
      by-home homes.Keys e = absurd (false≢true e)
      by-home (homes.Removal name) e = absurd (false≢true e)
      by-home homes.Parent e = absurd (false≢true e)

  -- it is one that a number of the kind is taken for
  pub making : Making kind call
  making = making-of kind call takes-kind (sized call found.is)

  takes : Takes kind call
  takes = making-takes kind call making

  holds-row : HoldsRow n.deeds n.pid
  holds-row = subst (λ (s : Stage). HoldsIn p n s) is-living node-there.holds

  is-born : IsBorn script b.pids p n.pid n.parent n.parent_node
  is-born = subst (λ (s : Stage). BornIn script b.pids p n.pid n.parent n.parent_node s) is-living node-there.birth

  own-name : NameHolds script b.pids (is_born_in w) (Proc (b.pids p)) (name_sight script w [] b (Proc (b.pids p)))
  own-name = holds.names (Proc (b.pids p))

  own-deed : IsHeldAt (b.deed (Proc (b.pids p))) (b.body (Proc (b.pids p))) p (LivingBody holds-row.row)
  own-deed =
      held-there (b.deed (Proc (b.pids p))) (b.body (Proc (b.pids p))) p (LivingBody holds-row.row)
      (sym (own-name.tables p) ∙ ap (λ (q : ℕ). get_named n.deeds (Proc q)) (sym is-born.pid_is) ∙ holds-row.here)

  -- ---- the range

  numbers-hold : KindHolds (is_born_in w) (kind_sight w b.kernel kind)
  numbers-hold = holds.kinds kind

  comes : flat_map (lease_in kind) (frames_to w p 1) ≡ first ∷ []
  comes =
      ap (flat_map (lease_in kind)) (head-is script w p 1 frame rest h)
      ∙ ap (λ t. first_if t first ++ flat_map (lease_in kind) rest) (kind-itself kind)
      ∙ ap (λ ns. first ∷ ns) (no-lease-about kind p rest is-lease.alone)

  range : IsRangeOf (for_kind (directory_of w).ranges kind) first p
  range = numbers-hold.coming p first (subst (λ ns. Contains ns first) (sym comes) (contains-first first []))

  -- its numbers are used by nothing
  unused-here : (number : ℕ) → list_any (nat_eq number) (lease_of first) ≡ true
      → is_used (used_of b.kernel kind) number ≡ false
  unused-here number inside =
      numbers-hold.used number
      ∙ ap (is_given (kind_sight w b.kernel kind) number)
      (maker-in-range (for_kind (directory_of w).ranges kind) first p number range inside)
      ∙ ap (λ cs. not (list_any (nat_eq number) (for_kind n.leases kind) || list_any (is_in_lease number) cs)) comes
      ∙ ap (λ t. not (list_any (nat_eq number) (for_kind n.leases kind) || (t || false))) inside
      ∙ ap not (or-true (list_any (nat_eq number) (for_kind n.leases kind)))
    where
      or-true : (t : Bool) → (t || true) ≡ true
      or-true true = refl
      or-true false = refl

  valid : IsValid b.kernel
  valid = reachable_kernels_are_valid_lemma b.kernel (history-reachable script b.lines b.kernel b.places holds.history)

  none-held : (number : ℕ) → is_used (used_of b.kernel kind) number ≡ false → node_holds n (name_of kind number) ≡ false
  none-held number unused =
      ap is_some
      (held-nowhere script b.pids (is_born_in w) (name_of kind number) (name_sight script w [] b (name_of kind number))
      (holds.names (name_of kind number))
      (ap (λ y. is_used (used_of b.kernel y) (number_of (name_of kind number))) (kind-of-name kind number)
      ∙ ap (is_used (used_of b.kernel kind)) (number-of-name kind number) ∙ unused) p)

  -- a node's process is there
  node-used : (c number : ℕ) → b.pids c ≡ number → number ≢ 0 → is_used_name b.kernel (Proc number) ≡ true
  node-used c number is some =
      let its = holds.families c (λ none. some (sym is ∙ none))
      in sym (process-there b.kernel number valid)
      ∙ ap (λ (q : ℕ). is_some (get b.kernel.processes q)) (sym is) ∙ ap is_some its.is

  -- so is a child that a living process lists
  listed-used : (c number : ℕ) (a : Alive) → b.pids c ≢ 0 → living_at b.kernel (b.pids c) ≡ Some a
      → lists a.row.family number ≡ true → is_used_name b.kernel (Proc number) ≡ true
  listed-used c number a forked lives listed =
      let family = holds.families c forked
      in let child = family.children a number lives (inl listed)
      in node-used child.0 number child.2 child.3

  child-of : (pid number : ℕ) (a : Alive) → living_at b.kernel pid ≡ Some a → lists a.row.family number ≡ true
      → is_used_name b.kernel (Proc number) ≡ true
  child-of pid number a lives listed =
      let owner = holds.pids.there pid (kernel.Living a) (from-living b.kernel.processes pid a lives)
      in listed-used owner.0 number a (λ none. owner.2 (sym owner.1 ∙ none))
      (ap (living_at b.kernel) owner.1 ∙ lives) listed

  -- who lists a child of a row here lists one that there is
  child-used : (pid number : ℕ) (row : Row) → get_named n.deeds (Proc pid) ≡ Some (LivingBody row)
      → lists row.family number ≡ true → is_used_name b.kernel (Proc number) ≡ true
  child-used pid number row held listed =
      let name : NameHolds script b.pids (is_born_in w) (Proc pid) (name_sight script w [] b (Proc pid)) =
      holds.names (Proc pid)
      in let at : IsHeldAt (b.deed (Proc pid)) (b.body (Proc pid)) p (LivingBody row) =
      held-there (b.deed (Proc pid)) (b.body (Proc pid)) p (LivingBody row) (sym (name.tables p) ∙ held)
      in let lives = body-living b.kernel pid row
      (sym (process-body-is b.kernel (b.body (Proc pid)) pid name.parts) ∙ sym at.body_is)
      in child-of pid number lives.alive lives.lives (ap (λ (r : Row). lists r.family number) lives.row_is ∙ listed)

  not-listed : (number : ℕ) → is_used (used_of b.kernel kind) number ≡ false → is_listed_here n kind number ≡ false
  not-listed number unused = by-kind kind refl
    where
      no-child : is_used_name b.kernel (Proc number) ≡ false → (q : ℕ) (v : Body) → get n.deeds.processes q ≡ Some v
          → lists_child number (q, v) ≡ false
      no-child none q (LivingBody row) held = by-test (lists row.family number) refl
        where
          by-test : (t : Bool) → lists row.family number ≡ t → lists row.family number ≡ false
          by-test false e = e
          by-test true e = absurd (false≢true (sym none ∙ child-used q number row held e))
      no-child none q v held = refl

      by-kind : (y : Kind) → kind ≡ y → is_listed_here n y number ≡ false
      by-kind kinds.Proc e =
          none-listed (lists_child number) n.deeds.processes rising
          (no-child (ap (λ y. is_used (used_of b.kernel y) number) (sym e) ∙ unused))
      by-kind kinds.Msg e = refl
      by-kind kinds.Sem e = refl

  not-there : (number : ℕ) → list_any (nat_eq number) (lease_of first) ≡ true → is_there n kind number ≡ false
  not-there number inside =
      let unused = unused-here number inside
      in ap (λ t. t || is_listed_here n kind number) (none-held number unused) ∙ not-listed number unused

  low-first : is_u32 (first + 7) ≡ true
  low-first =
      and-second (nat_lt 0 (first + 7)) (is_u32 (first + 7))
      (number-is-low (for_kind (directory_of w).ranges kind) (first + 7) p enough
      (maker-in-range (for_kind (directory_of w).ranges kind) first p (first + 7) range
      (in-lease-again (first + 7) first 8 (omega arith) (omega arith))))

  may : may_lease n kind first ≡ true
  may =
      let start = range.first_is
      in all-true (is_used_up (for_kind n.leases kind)) (nat_lt 0 first) (is_u32 (first + 7))
      (list_any (is_there n kind) (lease_of first)) (ap is_used_up over) (lt-ltb 0 first (omega (arith, start)))
      low-first (none-passes (is_there n kind) (lease_of first) not-there)

  -- ---- the step

  abbrev numbers : List ℕ
  numbers = range_with_len (first + 1) 7

  abbrev refilled : Step
  refilled = step_to (record n { leases = refill n.leases kind first })

  rule-is : take_lease script n 1 kind first
      ≡ make_with script (step_to (ready_node n n.caller kind numbers (Comes first))) call first
  rule-is =
      ap (λ t. if t then option_and_then (go_on_with script n kind first) n.caller.under_way else None) may
      ∙ ap (option_and_then (go_on_with script n kind first)) found.is
      ∙ ap (λ t. if t then make script refilled call kind else None) takes.takes
      ∙ ap (λ ns. option_and_then (make_taken script refilled call) (take_from refilled.node kind ns))
      (for-with n.leases kind (lease_of first))
      ∙ ap (λ leases. make_with script
      (step_to (record (ready_node n n.caller kind numbers (Comes first)) { leases = leases })) call first)
      (with-with n.leases kind (lease_of first) numbers)

  given-by : (after : Step) → AreToNodes (node_count script) after.sends → after.strikes ≡ false
      → make_with script (step_to (ready_node n n.caller kind numbers (Comes first))) call first ≡ Some after
      → Gives script w p (events.Take p 1) (takes_by kind (Comes first)) after
  given-by after to_nodes unstruck makes =
      record {
        next = world_after (world_without w p 1 rest) p after;
        is_step = take-steps script w p 1 frame rest after holds.shape h (rule-is ∙ makes) unstruck;
        changes = changes-by-take script w holds.shape p 1 frame rest after h to_nodes;
      }

  about-taken : (to sender : ℕ) → filter (is_about p to sender) (frames_to w to sender)
      ≡ filter (is_about p to sender) (taken p (takes_by kind (Comes first)) to sender)
  about-taken to sender =
      there.in_streams to sender
      ∙ ap (λ y. only_if (is_in_stream y p to sender) (frame_at y (asked_of x call))) is-lease.place_is
      ∙ by-test (nat_eq to p) (nat_eq sender 1) refl
    where
      by-test : (t u : Bool) → nat_eq to p ≡ t
          → only_if (t && u) frame ≡ filter (is_about p to sender) (frames_if t (frame_if u frame ++ []))
      by-test true true e = sym (ap (λ v. cond v (frame ∷ []) []) e)
      by-test true false e = refl
      by-test false u e = refl

  one-less : leases_on_way script b.call kind ≤ leases_on_way script (call_in b.call p Idle) kind + 1
  one-less =
      sum-less (λ z. one_for (has_lease kind (b.call z))) (λ z. one_for (has_lease kind (call_in b.call p Idle z))) p 1
      (node_count script)
      (λ z apart. let same : one_for (has_lease kind (call_in b.call p Idle z)) ≡ one_for (has_lease kind (b.call z)) =
      ap (λ t. one_for (has_lease kind (if t then Idle else b.call z))) (ne_eqb p z (λ e. apart (sym e)))
      in omega (arith, same))
      (let here : one_for (has_lease kind (b.call p)) ≡ 1 =
      ap (λ y. one_for (has_lease kind y)) is-lease.place_is ∙ ap one_for (kind-itself kind)
      in omega (arith, here))

  whole-is : HasWhole w b
  whole-is = holds.whole

  -- The call goes on with the first number of the lease that has come.
  pub from-frame : Source script w b p call kind first numbers (Comes first) (events.Take p 1)
  from-frame =
      record {
        low = h.low;
        high = h.high;
        takes = takes;
        stage = is-living;
        birth = is-born;
        row = holds-row.row;
        has_row = holds-row.here;
        deed = own-deed.deed_is;
        caller = n.caller;
        under_way = found.is;
        there = made.there;
        is_due = made.due;
        may = may-make-from script b.lines b.kernel b.places (b.pids p) call made.alive holds.history made.lives
            made.may;
        may_whole = λ a lives. subst (λ y. HasMarks y (Some call) a) is-lease.place_is
            (subst (λ o. HasMarks (b.call p) o a) found.is (whole-is.marks p a lives));
        uncancelled = never-cancelled p Nothing (cancel_sight w [] b p) call found.is
            (numbered-not-withdrawn n.pid kind call takes.takes) (holds.cancels p h.low h.high);
        older = omega arith;
        tickets = has.tickets;
        try_left = has.try_left;
        about = about-taken;
        not_held = λ name. there.held_for_names name
            ∙ ap (λ y. only_if (is_held_at y name) (Request (asked_of x call))) is-lease.place_is;
        not_waiting = λ name. there.waiting name
            ∙ ap (λ y. only_if (is_waiting_at y name) (waiting_as (asked_of x call))) is-lease.place_is;
        other_kinds = λ y apart. ap (has_lease y) is-lease.place_is ∙ apart;
        at_leader = λ apart. refl;
        ready = kind-come (is_born_in w) (kind_sight w b.kernel kind) p first numbers-hold over comes;
        few = let old = holds.few kind in let less = one-less in omega (arith, old, less);
        enough = enough;
        gives = given-by;
      }
