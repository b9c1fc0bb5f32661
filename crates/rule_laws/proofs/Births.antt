-- A node is born: it takes the Checkpoint of the process that its block is forked as.
use Rattle.std.proofs.Common.{◌≡◌, ◌≢◌, ◌⊎◌, ℕ, ◌≤◌, Bool, true, false, ◌&&◌, ◌||◌, not, cond, if◌then◌else◌, List, [], ◌∷◌, ◌++◌, drop, filter, flat_map, nat_eq, Contains, Option, Some, None, is_some, option_and_then, refl, ap, sym, subst, ◌∙◌, inl, inr, arith, append-nil}
use Rattle.std.specs.List.{AllByRecursion}
use Rattle.std.proofs.lemmas.Bool.{cases_eq, eqb-true, eq-eqb, ne_eqb, false≢true}
use Rattle.pico_base.specs.declared.call.Call.{Call}
use Rattle.pico_base.specs.declared.numbers.Kind.{Kind}
use Rattle.pico_base.specs.declared.numbers.Name.{Name}
use Rattle.pico_base.specs.declared.numbers.Name.TheVariants.{Proc, Msg, Sem}
use Rattle.pico_base.specs.declared.script.Block.{Block}
use Rattle.pico_base.specs.declared.script.Line.{Line}
use Rattle.pico_base.specs.declared.script.Script.{Script}
use Rattle.pico_base.specs.declared.script.Event.TheVariants as events
use Rattle.rpc_frame.specs.declared.asked.Asked.{Asked}
use Rattle.rpc_frame.specs.declared.deed.PackedDeed.{PackedDeed}
use Rattle.rpc_frame.specs.declared.frame.Frame.{Frame}
use Rattle.rpc_frame.specs.declared.frame.Frame.TheVariants as frames
use Rattle.number_maps.specs.Maps.{get}
use Rattle.kernel_model.specs.Row.{Row, Alive}
use Rattle.kernel_model.specs.Kernel.{Process, alive_in}
use Rattle.kernel_model.specs.Kernel as kernel
use Rattle.kernel_model.specs.Script.{Vars}
use Rattle.kernel_model.specs.Fitting.{block_place, block_at, with_exit}
use Rattle.kernel_model.specs.Valid.{IsValid}
use Rattle.kernel_laws.proofs.ValidLaws.{reachable_kernels_are_valid_lemma}
use Rattle.entry_laws.specs.Entering.{IsChildIn, is_used_name}
use Rattle.entry_laws.proofs.History.{history-reachable}
use Rattle.waiting_model.specs.Calls.{waits_at}
use Rattle.node_model.specs.declared.held.Held.{Held}
use Rattle.node_model.specs.declared.held.Held.TheVariants.{Request, Ending}
use Rattle.node_model.specs.Kinds.{is_object, number_of, for_kind, get_named, put_named, none_named}
use Rattle.node_model.specs.Directory.{Directory, is_known, place_of, maker, stays, held_for, is_parcel_with}
use Rattle.node_model.specs.Bodies.{Body, Living as LivingBody, process_body}
use Rattle.node_model.specs.Caller.{Caller, new_caller, caller_place, lines_of, lines_in}
use Rattle.node_model.specs.Spelling.{pack, read_deed}
use Rattle.world_model.specs.Node.{Node, Stage, Unborn, Living, Leaving, Left, Over, is_unborn, unborn_node}
use Rattle.world_model.specs.Step.{Step, step_to}
use Rattle.world_model.specs.Lives.{take_checkpoint, be_born, born_with, is_forked_by, is_of_process, is_new_row}
use Rattle.world_model.specs.Census.{brings}
use Rattle.world_model.specs.World.{World, node_count, numbers, world_after, is_checkpoint}
use Rattle.world_laws.specs.Places.{DeedPlace, Unmade, InTable, InCheckpoint, InGrant, InGiveBack, InLeft, InKept, InHand, InExitTo, Beside, deed_in}
use Rattle.world_laws.specs.Sights.{node_of, frames_to, directory_of, stage_of, is_born_in}
use Rattle.world_laws.specs.Deeds.{DeedsAreRead}
use Rattle.world_laws.specs.Plays.{steps_if, Has, PlayStep, Comes, plays, play, begin, is_there, is_checkpoint_of, has_any, placed_in, news}
use Rattle.world_laws.specs.Names.{NameSight, name_sight, NameHolds, held_at, held_as, comes_to, may_be_at, is_stream_of, is_kept_for, is_hand_place, node_in, IsBringer, IsItemWith, IsCheckpointOf, IsLeftOf, IsExitOf, OneIf, PlaysTo, belief_of, range_steps_of, forker, first_that, is_maker}
use Rattle.world_laws.specs.Callers.{CallSight, call_sight, CallHolds, HasNoCall, HasCallOrNone, IsNowhere, is_about, is_item_about, is_end_place}
use Rattle.world_laws.specs.Cancels.{CancelHolds, CancelSight, IsCancelFrame, IsCancelItem, IsCancelOf, Nothing, OfCall, cancel_sight, is_cancel_of, is_held_cancel_of}
use Rattle.world_laws.specs.Wholes.{HasMarks, HasWhole, under_way_at}
use Rattle.world_laws.specs.Ways.{is_leaving_frame, is_recall_all, is_left_frame, WaySight, way_sight, Way, IsHere, knows_parent, here, tells, collected, over, gone}
use Rattle.world_laws.specs.Ranges.{KeysHold}
use Rattle.world_laws.specs.Families.{NodeHolds, HoldsIn, FamilyHolds, IsWhereFor, RestsBelow, IsWithParent, IsNewAt, IsAwaited, IsCheckpointFor, CheckpointIn, checkpoints_to, is_first_stage}
use Rattle.world_laws.specs.Invariant.{Holds, IsLeading, process_deed}
use Rattle.world_laws.proofs.Named.{name-cases, same-name, other-name, get-put-same-name, get-put-other-name}
use Rattle.world_laws.proofs.Stays.{IsMore, SameName, SameCall, SameWay, name-stays, call-stays, way-stays, kind-stays}
use Rattle.world_laws.proofs.Changes.{Changes, filter-is-list-map, flat_map-is-list-map, made-same, only-stayed, still-born, directory-same, read-same}
use Rattle.world_laws.proofs.LeftAlone.{LeavesName, LeavesCall, same-directory, name-left-alone, call-left-alone, parcel-was-there, sender-stays, kind-left-alone, other-node-stays, frames-still-fit, few-still}
use Rattle.world_laws.proofs.Cancels.{LeavesCancel, cancel-left-alone, is_item_of}
use Rattle.world_laws.proofs.Frames.{all-weaker}
use Rattle.world_laws.proofs.Wholes.{whole-left-alone}
use Rattle.world_laws.proofs.Steps.{KeepsAs, Heads, world_without, take-steps, changes-by-take}
use Rattle.world_laws.proofs.NameFacts.{play-comes, begins-with, has_left, plays-by}
use Rattle.kernel_laws.proofs.Lists.{all-at}
use Rattle.world_laws.proofs.Heads.{head-is, head-may-be, head-from-another, rest-stays, others-stay}
use Rattle.rule_laws.proofs.CallMoves.{cancel-if-same}
use Rattle.rule_laws.proofs.Grants.{IsAlone, is-alone}
use Rattle.rule_laws.proofs.Withdrawals.{idle-uncancelled}
use Rattle.rule_laws.proofs.own.Bodies.{process-body-is}

-- ---- the frame

-- what a Checkpoint says of where the deed was
pub record IsCheckpointed (deed : DeedPlace) (to : ℕ) (packed : PackedDeed) (name : Name) (body : Body)
    (rest : List Frame) : Type 0 where
  pub deed_is : deed ≡ InCheckpoint to
  pub packed_is : packed ≡ pack name body
  pub alone : rest ≡ []

no-checkpoint-is : (f g : Frame) → is_checkpoint f ≡ true → is_checkpoint g ≡ false → f ≡ g → ⊥
no-checkpoint-is f g a c e = false≢true (sym c ∙ ap is_checkpoint (sym e) ∙ a)

not-none : (f : Frame) (fs : List Frame) → f ∷ fs ≡ [] → ⊥
not-none f fs h = cc

packed-same : (a c d e : ℕ) (p q : PackedDeed) (v u : Vars) → frames.Checkpoint a c p v ≡ frames.Checkpoint d e q u
    → p ≡ q
packed-same a c d e p q v u h = cc

pid-same : (a c d e : ℕ) (p q : PackedDeed) (v u : Vars) → frames.Checkpoint a c p v ≡ frames.Checkpoint d e q u
    → a ≡ d
pid-same a c d e p q v u h = cc

parent-same : (a c d e : ℕ) (p q : PackedDeed) (v u : Vars) → frames.Checkpoint a c p v ≡ frames.Checkpoint d e q u
    → c ≡ e
parent-same a c d e p q v u h = cc

vars-same : (a c d e : ℕ) (p q : PackedDeed) (v u : Vars) → frames.Checkpoint a c p v ≡ frames.Checkpoint d e q u
    → v ≡ u
vars-same a c d e p q v u h = cc

and-first : (a b : Bool) → (a && b) ≡ true → a ≡ true
and-first true b h = refl
and-first false b h = absurd (false≢true h)

module _ (forks_it : ℕ → ℕ) (pids : ℕ → ℕ) (name : Name) (body : Body) (to sender pid parent : ℕ) (packed : PackedDeed)
    (vars : Vars) (rest fs : List Frame) (e : fs ≡ frames.Checkpoint pid parent packed vars ∷ rest) where
  abbrev it : Frame
  it = frames.Checkpoint pid parent packed vars

  pub checkpointed : (deed : DeedPlace)
      → OneIf (is_stream_of forks_it deed to sender) (IsBringer pids name body deed) fs
      → IsCheckpointed deed to packed name body rest
  checkpointed Unmade h = absurd (not-none it rest (sym e ∙ h))
  checkpointed (InTable node) h = absurd (not-none it rest (sym e ∙ h))
  checkpointed (InKept of) h = absurd (not-none it rest (sym e ∙ h))
  checkpointed (InHand of) h = absurd (not-none it rest (sym e ∙ h))
  checkpointed (InCheckpoint c) h =
      let one : IsAlone (nat_eq to c && nat_eq sender (forks_it c)) (IsCheckpointOf name body) it rest =
      is-alone (nat_eq to c && nat_eq sender (forks_it c)) (IsCheckpointOf name body) it rest fs e h
      in let is : IsCheckpointOf name body it = one.holds
      in record {
        deed_is = ap InCheckpoint (sym (eqb-true to c (and-first (nat_eq to c) (nat_eq sender
            (forks_it c)) one.is_there)));
        packed_is = packed-same pid parent is.pid is.parent packed (pack name body) vars is.vars is.is;
        alone = one.alone;
      }
  checkpointed (InGrant node) h =
      let one : IsAlone (nat_eq to node && nat_eq sender 1) (λ f. f ≡ frames.Grant (pack name body)) it rest =
      is-alone (nat_eq to node && nat_eq sender 1) (λ f. f ≡ frames.Grant (pack name body)) it rest fs e h
      in absurd (no-checkpoint-is it (frames.Grant (pack name body)) refl refl one.holds)
  checkpointed (InGiveBack node) h =
      let one : IsAlone (nat_eq to 1 && nat_eq sender node) (λ f. f ≡ frames.GiveBack (pack name body)) it rest =
      is-alone (nat_eq to 1 && nat_eq sender node) (λ f. f ≡ frames.GiveBack (pack name body)) it rest fs e h
      in absurd (no-checkpoint-is it (frames.GiveBack (pack name body)) refl refl one.holds)
  checkpointed (InLeft c) h =
      let one : IsAlone (nat_eq to 1 && nat_eq sender c) (IsLeftOf name body (pids c)) it rest =
      is-alone (nat_eq to 1 && nat_eq sender c) (IsLeftOf name body (pids c)) it rest fs e h
      in let is : IsLeftOf name body (pids c) it = one.holds
      in absurd (no-checkpoint-is it (frames.Left is.parcel) refl refl is.is)
  checkpointed (InExitTo c node) h =
      let one : IsAlone (nat_eq to node && nat_eq sender 1) (IsExitOf name body (pids c)) it rest =
      is-alone (nat_eq to node && nat_eq sender 1) (IsExitOf name body (pids c)) it rest fs e h
      in let is : IsExitOf name body (pids c) it = one.holds
      in absurd (no-checkpoint-is it (frames.ExitTo is.parcel) refl refl is.is)

-- ---- the name

-- it is in the table of the node now, which is born
abbrev pub housed : NameSight → ℕ → List PlayStep → NameSight
housed x p rest =
    record x {
      deed = InTable p;
      held = λ h. if nat_eq p h then Some x.body else None;
      brought = λ to sender. [];
      begins = λ h. if nat_eq h p then Has else x.begins h;
      steps = λ h. if nat_eq h p then rest else x.steps h;
    }

module _ (script : Script) (pids : ℕ → ℕ) (born : ℕ → Bool) (name : Name) (x : NameSight)
    (h : NameHolds script pids born name x) (p : ℕ) (other : p ≢ 1) (deed : x.deed ≡ InCheckpoint p)
    (rest : List PlayStep) (plays-on : 2 ≤ p → PlaysTo Has rest (is_there p (belief_of x))) where
  not-in-tables : (q : ℕ) → x.held q ≡ None
  not-in-tables q = h.tables q ∙ ap (λ d. held_as d x.body q) deed

  -- a deed on its way is of a used name
  pub checkpointed-is-used : x.used ≡ true
  checkpointed-is-used = by-test x.used refl
    where
      not-unmade : InCheckpoint p ≡ Unmade → ⊥
      not-unmade e = cc

      by-test : (t : Bool) → x.used ≡ t → x.used ≡ true
      by-test true e = e
      by-test false e = absurd (not-unmade (sym deed ∙ h.made.1 e))

  plays-at : (q : ℕ) → 2 ≤ q
      → PlaysTo (if nat_eq q p then Has else x.begins q) (if nat_eq q p then rest else x.steps q)
      (is_there q (belief_of x))
  plays-at q low =
      plays-by (nat_eq q p) Has (x.begins q) rest (x.steps q) (is_there q (belief_of x))
      (λ e. subst (λ y. PlaysTo Has rest (is_there y (belief_of x))) (sym (eqb-true q p e))
      (plays-on (subst (λ y. 2 ≤ y) (eqb-true q p e) low))) (λ e. h.plays q low)

  -- all holds of the name with its deed in the table of the node that is born
  pub name-housed : NameHolds script pids born name (housed x p rest)
  name-housed =
      record {
        parts = h.parts;
        callers = h.callers;
        made = (λ e. absurd (not-unmade e), λ u. absurd (false≢true (sym u ∙ checkpointed-is-used)));
        place_fits = refl;
        tables = λ q. refl;
        streams = λ to sender. refl;
        kept = λ pid. subst (λ d. OneIf (is_kept_for (forker script) pids d pid)
            (IsItemWith name x.body (pids (node_in d))) (x.kept pid)) deed (h.kept pid);
        in_hand = subst (λ d. OneIf (is_hand_place d) (IsItemWith name x.body (pids (node_in d))) x.hand) deed
            h.in_hand;
        known = h.known;
        believed = h.believed;
        plays = plays-at;
        leader = ap (λ t. is_some (if t then Some x.body else None)) (ne_eqb p 1 other)
            ∙ sym (ap is_some (not-in-tables 1)) ∙ h.leader;
        told = h.told;
        found = h.found;
        unplaced = h.unplaced;
        ranged = h.ranged;
        leased = h.leased;
        bound = h.bound;
        items = h.items;
      }
    where
      not-unmade : InTable p ≡ Unmade → ⊥
      not-unmade e = cc

-- ---- the call: the process is at the beginning of its block

-- no call is under way yet
abbrev pub started : CallSight → ℕ → Caller → CallSight
started x pid caller = record x { pid = pid; stage = Living; caller = caller; frames_about = λ to sender. [] }

-- where a block begins
pub first-lines : (script : Script) (p : ℕ) (vars : Vars)
    → block_place (block_at script p) vars ≡ caller_place script p (new_caller vars)
first-lines script p vars = by-block (block_at script p)
  where
    none-dropped : (lines : List Line) → lines ≡ drop 0 lines
    none-dropped [] = refl
    none-dropped (line ∷ lines) = refl

    by-block : (o : Option Block)
        → block_place o vars ≡ record { left = drop 0 (lines_in o); tried = 0; vars = vars }
    by-block None = ap (λ lines. record { left = lines; tried = 0; vars = vars }) (none-dropped [])
    by-block (Some block) =
        ap (λ lines. record { left = lines; tried = 0; vars = vars })
        (none-dropped (with_exit block.lines))

-- ---- who has started no call has withdrawn none

module _ (x : CancelSight) (none : x.caller.ticket ≡ 0) where
  no-withdrawal : (asked : Asked) → IsCancelOf x asked → ⊥
  no-withdrawal asked h =
      let low = h.low
      in let high = h.high
      in omega (arith, low, high, none)

  no-cancel-frame : (f : Frame) → IsCancelFrame x f → ⊥
  no-cancel-frame (frames.Cancel asked) h = no-withdrawal asked h
  no-cancel-frame f h = h

  no-cancel-item : (item : Held) → IsCancelItem x item → ⊥
  no-cancel-item (Request asked) h = no-withdrawal asked h
  no-cancel-item (Ending parcel) h = h

-- ---- which node forks

first-that-tests : (test : ℕ → Bool) (ns : List ℕ) → first_that test ns ≢ 0 → test (first_that test ns) ≡ true
first-that-tests test [] d = absurd (d refl)
first-that-tests test (n ∷ ns) d =
    by-test (first-that-tests test ns) (test n) refl d
  where
    by-test : (first_that test ns ≢ 0 → test (first_that test ns) ≡ true) → (t : Bool) → test n ≡ t
        → (if test n then n else first_that test ns) ≢ 0
        → test (if test n then n else first_that test ns) ≡ true
    by-test later true e d =
        subst (λ u. test (if u then n else first_that test ns) ≡ true) (sym e) e
    by-test later false e d =
        subst (λ u. test (if u then n else first_that test ns) ≡ true) (sym e)
        (later (subst (λ u. (if u then n else first_that test ns) ≢ 0) e d))

-- ---- the event

is-process : (name : Name) → is_object name ≡ false → name ≡ Proc (number_of name)
is-process (Proc pid) h = refl
is-process (Msg id) h = absurd (false≢true (sym h))
is-process (Sem id) h = absurd (false≢true (sym h))

not-true : (t : Bool) → not t ≡ true → t ≡ false
not-true false h = refl
not-true true h = absurd (false≢true h)

module _ (script : Script) (w : World) (b : Beside) (holds : Holds script w [] b) (reads : DeedsAreRead b.kernel b.body)
    (p q pid parent : ℕ) (packed : PackedDeed) (vars : Vars)
    (rest : List Frame) (h : Heads script w p q (frames.Checkpoint pid parent packed vars) rest) where
  abbrev frame : Frame
  frame = frames.Checkpoint pid parent packed vars

  abbrev name : Name
  name = packed.name

  abbrev x : NameSight
  x = name_sight script w [] b name

  abbrev n : Node
  n = node_of w p

  known : NameHolds script b.pids (is_born_in w) name x
  known = holds.names name

  node-holds : NodeHolds script b.pids (is_born_in w) p n
  node-holds = holds.nodes p h.low h.high

  from-another : q ≢ p
  from-another = head-from-another script w p q frame rest h (is_born_in w) holds.frames_fit

  from-forker : q ≡ forker script p
  from-forker = head-may-be script w p q frame rest h (is_born_in w) holds.frames_fit

  brought-first : x.brought p q ≡ frame ∷ filter (brings name) rest
  brought-first =
      ap (filter (brings name)) (head-is script w p q frame rest h)
      ∙ ap (λ t. cond t (frame ∷ filter (brings name) rest) (filter (brings name) rest)) (same-name name name refl)

  is-checkpointed : IsCheckpointed x.deed p packed name x.body (filter (brings name) rest)
  is-checkpointed =
      checkpointed (forker script) b.pids name x.body p q pid parent packed vars (filter (brings name) rest)
      (x.brought p q) brought-first x.deed (known.streams p q)

  process-name : name ≡ Proc (number_of name)
  process-name =
      is-process name
      (not-true (is_object name) (sym (ap (may_be_at (is_object name)) is-checkpointed.deed_is) ∙ known.place_fits))

  -- its process's number is in use
  pub checkpoint-is-used : x.used ≡ true
  checkpoint-is-used = by-test x.used refl
    where
      not-unmade : InCheckpoint p ≡ Unmade → ⊥
      not-unmade e = cc

      by-test : (t : Bool) → x.used ≡ t → x.used ≡ true
      by-test true e = e
      by-test false e = absurd (not-unmade (sym is-checkpointed.deed_is ∙ known.made.1 e))

  valid : IsValid b.kernel
  valid = reachable_kernels_are_valid_lemma b.kernel (history-reachable script b.lines b.kernel b.places holds.history)

  -- the process is this node's

  is-there : is_some (get b.kernel.processes (number_of name)) ≡ true
  is-there =
      sym (valid.used_processes (number_of name))
      ∙ subst (λ m. is_used_name b.kernel m ≡ true) process-name checkpoint-is-used

  some-process : (o : Option Process) → is_some o ≡ true → (v : Process) × (o ≡ Some v)
  some-process (Some v) e = (v, refl)
  some-process None e = absurd (false≢true e)

  it-is : (v : Process) × (get b.kernel.processes (number_of name) ≡ Some v)
  it-is = some-process (get b.kernel.processes (number_of name)) is-there

  owner : (c : ℕ) × (b.pids c ≡ number_of name) × (number_of name ≢ 0)
  owner = let pids = holds.pids in pids.there (number_of name) it-is.0 it-is.1

  its-deed : (c : ℕ) → b.pids c ≡ number_of name → b.deed (Proc (b.pids c)) ≡ InCheckpoint p
  its-deed c e = ap (λ y. b.deed (Proc y)) e ∙ ap b.deed (sym process-name) ∙ is-checkpointed.deed_is

  own-node : (c : ℕ) (v : Process) → IsWhereFor c (InCheckpoint p) v → p ≡ c
  own-node c (kernel.Living alive) e = e
  own-node c (kernel.Ended ending) e = absurd e
  own-node c kernel.Gone e = absurd e

  it-is-here : b.pids p ≡ number_of name
  it-is-here =
      let family = holds.families owner.0 (λ z. owner.2 (sym owner.1 ∙ z))
      in let e : p ≡ owner.0 =
      own-node owner.0 family.process
      (subst (λ d. IsWhereFor owner.0 d family.process) (its-deed owner.0 owner.1) family.where_it_is)
      in ap b.pids e ∙ owner.1

  forked : b.pids p ≢ 0
  forked z = owner.2 (sym it-is-here ∙ z)

  name-is : name ≡ Proc (b.pids p)
  name-is = process-name ∙ ap Proc (sym it-is-here)

  deed-is : b.deed (Proc (b.pids p)) ≡ InCheckpoint p
  deed-is = its-deed p it-is-here

  family : FamilyHolds script b.pids b.places b.kernel (process_deed b.deed) (checkpoints_to script w p)
      (stage_of w p) p
  family = holds.families p forked

  unborn : stage_of w p ≡ Unborn
  unborn = subst (λ d. IsAwaited (stage_of w p) d) deed-is family.awaited

  node-is : n ≡ unborn_node p
  node-is = subst (λ s. HoldsIn p n s) unborn node-holds.holds

  other : p ≢ 1
  other e = false≢true (ap is_first_stage (sym unborn) ∙ node-holds.first e)

  living-process : (v : Process) → IsWhereFor p (InCheckpoint p) v → (alive : Alive) × (v ≡ kernel.Living alive)
  living-process (kernel.Living alive) e = (alive, refl)
  living-process (kernel.Ended ending) e = absurd e
  living-process kernel.Gone e = absurd e

  living : (alive : Alive) × (family.process ≡ kernel.Living alive)
  living =
      living-process family.process (subst (λ d. IsWhereFor p d family.process) deed-is family.where_it_is)

  abbrev alive : Alive
  alive = living.0

  abbrev row : Row
  row = alive.row

  process-is : get b.kernel.processes (b.pids p) ≡ Some (kernel.Living alive)
  process-is = family.is ∙ ap Some living.1

  fresh : is_new_row row ≡ true
  fresh =
      subst (λ d. IsNewAt (kernel.Living alive) d) deed-is
      (subst (λ v. IsNewAt v (b.deed (Proc (b.pids p)))) living.1 family.fresh)

  body-is : x.body ≡ LivingBody row
  body-is =
      ap b.body name-is
      ∙ process-body-is b.kernel (b.body (Proc (b.pids p))) (b.pids p)
      (let its : NameHolds script b.pids (is_born_in w) (Proc (b.pids p)) (name_sight script w [] b (Proc (b.pids p))) =
      holds.names (Proc (b.pids p))
      in its.parts)
      ∙ ap process_body process-is

  checkpoint : CheckpointIn script b.pids b.places p (checkpoints_to script w p) (InCheckpoint p)
  checkpoint = subst (λ d. CheckpointIn script b.pids b.places p
      (checkpoints_to script w p) d) deed-is family.checkpoint

  checkpoints-first : checkpoints_to script w p ≡ frame ∷ filter is_checkpoint rest
  checkpoints-first =
      subst (λ y. filter is_checkpoint (frames_to w p y) ≡ frame ∷ filter is_checkpoint rest) from-forker
      (ap (filter is_checkpoint) (head-is script w p q frame rest h))

  heads-same : (f g : Frame) (fs gs : List Frame) → f ∷ fs ≡ g ∷ gs → f ≡ g
  heads-same f g fs gs e = cc

  tails-same : (f g : Frame) (fs gs : List Frame) → f ∷ fs ≡ g ∷ gs → fs ≡ gs
  tails-same f g fs gs e = cc

  same-frame : frame ≡ checkpoint.0
  same-frame = heads-same frame checkpoint.0 (filter is_checkpoint rest) [] (sym checkpoints-first ∙ checkpoint.1)

  for-it : IsCheckpointFor script b.pids b.places p checkpoint.0
  for-it = checkpoint.2

  frame-is : frame ≡ frames.Checkpoint (b.pids p) (b.pids (forker script p)) for-it.packed for-it.vars
  frame-is = same-frame ∙ for-it.is

  pid-is : pid ≡ b.pids p
  pid-is =
      pid-same pid parent (b.pids p) (b.pids (forker script p)) packed for-it.packed vars for-it.vars frame-is

  parent-is : parent ≡ b.pids (forker script p)
  parent-is =
      parent-same pid parent (b.pids p) (b.pids (forker script p)) packed for-it.packed vars for-it.vars frame-is

  vars-are : vars ≡ for-it.vars
  vars-are =
      vars-same pid parent (b.pids p) (b.pids (forker script p)) packed for-it.packed vars for-it.vars frame-is

  -- the rule

  abbrev after : Step
  after = step_to (be_born n q pid parent vars (LivingBody row))

  forks : is_forked_by script q n.number ≡ true
  forks =
      ap (is_forked_by script q) node-holds.number
      ∙ subst (λ y. is_forked_by script y p ≡ true) (sym from-forker)
      (first-that-tests (λ y. is_forked_by script y p) (numbers 1 (node_count script))
      (λ z. let low = h.low_from in not-zero q low (from-forker ∙ z)))
    where
      not-zero : (y : ℕ) → 1 ≤ y → y ≡ 0 → ⊥
      not-zero y low z = omega (arith, low, z)

  of-process : is_of_process pid name ≡ true
  of-process = same-name (Proc pid) name (ap Proc pid-is ∙ sym name-is)

  all-true : (a c d : Bool) → a ≡ true → c ≡ true → d ≡ true → (a && (c && d)) ≡ true
  all-true a c d e f g = rw (e, f, g) refl

  read-is : read_deed packed ≡ Some (LivingBody row)
  read-is = ap read_deed is-checkpointed.packed_is ∙ reads name checkpoint-is-used ∙ ap Some body-is

  rule : take_checkpoint script n q pid parent packed vars ≡ Some after
  rule =
      ap (λ t. if t then option_and_then (born_with n q pid parent vars) (read_deed packed) else None)
      (all-true (is_unborn n.stage) (is_forked_by script q n.number) (is_of_process pid name) (ap is_unborn unborn)
      forks of-process)
      ∙ ap (option_and_then (born_with n q pid parent vars)) read-is
      ∙ ap (λ t. if t then Some after else None) fresh

  -- what it changes

  abbrev next : World
  next = world_after (world_without w p q rest) p after

  abbrev deeds-now : Name → DeedPlace
  deeds-now = deed_in b.deed name (InTable p)

  abbrev moved : Beside
  moved = record b { deed = deeds-now }

  abbrev takes : List (ℕ × Frame)
  takes = (q, frame) ∷ []

  changes : Changes script p w next after.node takes [] []
  changes = changes-by-take script w holds.shape p q frame rest after h tt

  same-there : directory_of next ≡ directory_of w
  same-there = directory-same script p w next after.node takes [] [] changes other

  more : IsMore (is_born_in w) (is_born_in next)
  more = still-born script p w next after.node takes [] [] changes (λ e. refl)

  -- the node

  empty-at : (m : Name) → held_at w m p ≡ None
  empty-at m = ap (λ (z : Node). get_named z.deeds m) node-is ∙ nothing m
    where
      nothing : (m : Name) → get_named (unborn_node p).deeds m ≡ None
      nothing (Proc y) = refl
      nothing (Msg y) = refl
      nothing (Sem y) = refl

  deed-now : get_named after.node.deeds name ≡ Some (LivingBody row)
  deed-now =
      subst (λ m. get_named (put_named none_named m (LivingBody row)) name ≡ Some (LivingBody row))
      (name-is ∙ ap Proc (sym pid-is)) (get-put-same-name none_named name (LivingBody row))

  nothing-else : (m : Name) → m ≢ name → get_named after.node.deeds m ≡ None
  nothing-else m d =
      get-put-other-name none_named (Proc pid) (LivingBody row) m (λ e. d (e ∙ ap Proc pid-is ∙ sym name-is))
      ∙ nothing m
    where
      nothing : (m : Name) → get_named {V = Body} none_named m ≡ None
      nothing (Proc y) = refl
      nothing (Msg y) = refl
      nothing (Sem y) = refl

  none-is-not : (v : Body) → None ≡ Some v → ⊥
  none-is-not v e = cc

  proc-same : (a c : ℕ) → Proc a ≡ Proc c → a ≡ c
  proc-same a c e = cc

  node-now : NodeHolds script b.pids (is_born_in next) p after.node
  node-now =
      record {
        number = node-holds.number;
        holds = record {
          row = row;
          here = get-put-same-name none_named (Proc pid) (LivingBody row);
        };
        birth = record {
          pid_is = pid-is;
          parent_is = λ d. parent-is;
          parent_node_is = λ d. from-forker;
          forked = forked;
        };
        first = λ e. absurd (other e);
        others = λ d e. living-is-not e;
        rows = λ y z e. elim (name-cases (Proc y) name) [
          | inl same ↦ proc-same y pid (same ∙ name-is ∙ ap Proc (sym pid-is))
          | inr d ↦ absurd (none-is-not (LivingBody z) (sym (nothing-else (Proc y) d) ∙ e))
        ];
        owners = λ m y e.
            let old = node-holds.owners m y e
            in (more y old.0, old.1);
      }
    where
      living-is-not : Living ≡ Over → ⊥
      living-is-not e = cc

  nodes-now : (y : ℕ) → 1 ≤ y → y ≤ node_count script → NodeHolds script b.pids (is_born_in next) y (node_of next y)
  nodes-now y low high =
      elim (cases_eq y p) [
        | inr d ↦
            other-node-stays script p w next after.node takes [] [] changes b.pids (is_born_in w) (is_born_in next) y
            d more (holds.nodes y low high)
        | inl e ↦
            subst (λ z. NodeHolds script b.pids (is_born_in next) z (node_of next z)) (sym e)
            (subst (λ (m : Node). NodeHolds script b.pids (is_born_in next) p m) (sym changes.here) node-now)
      ]

  -- the names

  plays-on : 2 ≤ p → PlaysTo Has (plays x.used b.call name (changes.left p 1)) (is_there p (belief_of x))
  plays-on low =
      elim (cases_eq q 1) [
        | inl e ↦
            let old : PlaysTo (x.begins p) (x.steps p) (is_there p (belief_of x)) = known.plays p low
            in let come = play-comes (x.begins p) old.last (plays x.used b.call name (changes.left p 1))
            (ap (λ ss. play (x.begins p) ss)
            (sym (subst (λ z. plays x.used b.call name (frames_to w p z)
            ≡ Comes ∷ plays x.used b.call name (changes.left p z)) e
            steps-were)) ∙ old.plays)
            in record { last = old.last; plays = come.1; agrees = old.agrees }
        | inr d ↦
            subst (λ ss. PlaysTo Has ss (is_there p (belief_of x)))
            (sym (others-stay script p q w next after.node frame [] [] changes (λ t s fs. plays x.used b.call name fs)
            (λ t s. flat_map-is-list-map _) p 1 (inr (λ e. d (sym e)))))
            (subst (λ v. PlaysTo v (x.steps p) (is_there p (belief_of x))) (begins-has d) (known.plays p low))
      ]
    where
      steps-were : plays x.used b.call name (frames_to w p q) ≡ Comes ∷ plays x.used b.call name (changes.left p q)
      steps-were =
          rest-stays script p q w next after.node frame [] [] changes (λ t s fs. plays x.used b.call name fs)
          (λ t s. flat_map-is-list-map _)
          ∙ ap (λ t. (steps_if t Comes ++ []) ++ plays x.used b.call name (changes.left p q)) (same-name name name refl)

      comes-here : q ≢ 1 → comes_to script w name p ≡ true
      comes-here d =
          subst (λ y. (not (nat_eq y 1) && has_any (filter (is_checkpoint_of name) (frames_to w p y))) ≡ true)
          from-forker
          (ap (λ t. not t && has_any (filter (is_checkpoint_of name) (frames_to w p q))) (ne_eqb q 1 d)
          ∙ ap (λ fs. has_any (filter (is_checkpoint_of name) fs)) (head-is script w p q frame rest h)
          ∙ ap (λ t. has_any (cond t (frame ∷ filter (is_checkpoint_of name) rest)
          (filter (is_checkpoint_of name) rest))) (same-name name name refl))

      or-true : (t : Bool) → (t || true) ≡ true
      or-true true = refl
      or-true false = refl

      begins-has : q ≢ 1 → x.begins p ≡ Has
      begins-has d =
          begins-with (stage_of w p) (is_some (held_at w name p)) (comes_to script w name p) (ap has_left unborn)
          (ap (λ t. is_some (held_at w name p) || t) (comes-here d) ∙ or-true (is_some (held_at w name p)))

  held-now : (y : ℕ) → (if nat_eq p y then Some x.body else None) ≡ held_at next name y
  held-now y =
      elim (cases_eq y p) [
        | inl e ↦
            ap (λ t. if t then Some x.body else None) (eq-eqb p y (sym e))
            ∙ subst (λ z. Some x.body ≡ held_at next name z) (sym e)
            (ap Some body-is
            ∙ sym (ap (λ (m : Node). get_named m.deeds name) changes.here ∙ deed-now))
        | inr d ↦
            ap (λ t. if t then Some x.body else None) (ne_eqb p y (λ e. d (sym e)))
            ∙ sym (ap (λ (m : Node). get_named m.deeds name) (changes.others y d)
            ∙ known.tables y ∙ ap (λ z. held_as z x.body y) is-checkpointed.deed_is)
      ]

  comes-elsewhere : (y : ℕ) → y ≢ p → comes_to script next name y ≡ comes_to script w name y
  comes-elsewhere y d =
      ap (λ fs. not (nat_eq (forker script y) 1) && has_any fs)
      (only-stayed script p w next after.node takes [] [] changes (λ t s fs. filter (is_checkpoint_of name) fs)
      (λ t s. filter-is-list-map (is_checkpoint_of name)) tt y (forker script y)
      ∙ others-stay script p q w next after.node frame [] [] changes
      (λ t s fs. filter (is_checkpoint_of name) fs) (λ t s. filter-is-list-map (is_checkpoint_of name)) y
      (forker script y) (inl d))

  here-now : is_some (held_at next name p) ≡ true
  here-now = ap is_some (sym (held-now p) ∙ ap (λ t. if t then Some x.body else None) (eq-eqb p p refl))

  begins-now : (y : ℕ)
      → (if nat_eq y p then Has else x.begins y)
      ≡ begin (stage_of next y) (is_some (held_at next name y)) (comes_to script next name y)
  begins-now y =
      elim (cases_eq y p) [
        | inl e ↦
            ap (λ t. if t then Has else x.begins y) (eq-eqb y p e)
            ∙ sym (subst (λ z. begin (stage_of next z) (is_some (held_at next name z)) (comes_to script next name z)
            ≡ Has) (sym e)
            (begins-with (stage_of next p) (is_some (held_at next name p)) (comes_to script next name p)
            (ap (λ (m : Node). has_left m.stage) changes.here)
            (ap (λ t. t || comes_to script next name p) here-now)))
        | inr d ↦
            ap (λ t. if t then Has else x.begins y) (ne_eqb y p d)
            ∙ ap (begin (stage_of w y) (is_some (held_at w name y))) (sym (comes-elsewhere y d))
            ∙ sym (ap
            (λ (m : Node). begin m.stage (is_some (get_named m.deeds name)) (comes_to script next name y))
            (changes.others y d))
      ]

  abbrev rest-steps : List PlayStep
  rest-steps = plays x.used b.call name (changes.left p 1)

  steps-now : (y : ℕ) → (if nat_eq y p then rest-steps else x.steps y) ≡ plays x.used b.call name (frames_to next y 1)
  steps-now y =
      elim (cases_eq y p) [
        | inl e ↦
            ap (λ t. if t then rest-steps else x.steps y) (eq-eqb y p e)
            ∙ subst (λ z. rest-steps ≡ plays x.used b.call name (frames_to next z 1)) (sym e)
            (sym (only-stayed script p w next after.node takes [] [] changes (λ t s fs. plays x.used b.call name fs)
            (λ t s. flat_map-is-list-map _) tt p 1))
        | inr d ↦
            ap (λ t. if t then rest-steps else x.steps y) (ne_eqb y p d)
            ∙ sym (only-stayed script p w next after.node takes [] [] changes (λ t s fs. plays x.used b.call name fs)
            (λ t s. flat_map-is-list-map _) tt y 1
            ∙ others-stay script p q w next after.node frame [] [] changes (λ t s fs. plays x.used b.call name fs)
            (λ t s. flat_map-is-list-map _) y 1 (inl d))
      ]

  -- the deed was in this frame alone
  left-alone : (to sender : ℕ) → filter (brings name) (changes.left to sender) ≡ []
  left-alone to sender =
      elim (cases_eq to p) [
        | inr d ↦ away (inl d) (ap (λ t. t && nat_eq sender (forker script p)) (ne_eqb to p d))
        | inl e ↦
            elim (cases_eq sender q) [
              | inr d ↦
                  away (inr d)
                  (ap (λ t. nat_eq to p && t) (ne_eqb sender (forker script p) (λ g. d (g ∙ sym from-forker)))
                  ∙ and-false (nat_eq to p))
              | inl g ↦
                  subst (λ y. filter (brings name) (changes.left y sender) ≡ []) (sym e)
                  (subst (λ z. filter (brings name) (changes.left p z) ≡ []) (sym g) at-head)
            ]
      ]
    where
      and-false : (t : Bool) → (t && false) ≡ false
      and-false true = refl
      and-false false = refl

      away : (to ≢ p) ⊎ (sender ≢ q) → (nat_eq to p && nat_eq sender (forker script p)) ≡ false
          → filter (brings name) (changes.left to sender) ≡ []
      away d none =
          others-stay script p q w next after.node frame [] [] changes (λ t s fs. filter (brings name) fs)
          (λ t s. filter-is-list-map (brings name)) to sender d
          ∙ subst (λ t. OneIf t (IsBringer b.pids name x.body (InCheckpoint p)) (x.brought to sender)) none
          (subst (λ y. OneIf (is_stream_of (forker script) y to sender) (IsBringer b.pids name x.body y)
          (x.brought to sender)) is-checkpointed.deed_is (known.streams to sender))

      at-head : filter (brings name) (changes.left p q) ≡ []
      at-head =
          tails-same frame frame (filter (brings name) (changes.left p q)) (filter (brings name) rest)
          (sym (ap (λ t. cond t (frame ∷ []) [] ++ filter (brings name) (changes.left p q)) (same-name name name refl))
          ∙ sym (rest-stays script p q w next after.node frame [] [] changes
          (λ t s fs. filter (brings name) fs) (λ t s. filter-is-list-map (brings name)))
          ∙ brought-first)
          ∙ is-checkpointed.alone

  sight-now : SameName (housed x p rest-steps) (name_sight script next [] moved name)
  sight-now =
      record {
        place = ap (λ y. place_of y name) (sym same-there);
        maker = ap (λ y. maker y name) (sym same-there);
        stays = λ y. ap (λ z. stays z y) (sym same-there);
        used = refl;
        part = refl;
        body = refl;
        deed = sym (ap (λ t. if t then InTable p else b.deed name) (same-name name name refl));
        held = held-now;
        brought = λ to sender. sym (only-stayed script p w next after.node takes [] [] changes
            (λ t s fs. filter (brings name) fs) (λ t s. filter-is-list-map (brings name)) tt to sender
            ∙ left-alone to sender);
        kept = λ y. ap (λ z. filter (is_parcel_with name) (held_for z (Proc y))) (sym same-there);
        hand = refl;
        begins = begins-now;
        steps = steps-now;
        ranges = λ y. sym (made-same script p w next after.node takes [] [] changes
            (λ t s fs. flat_map (range_steps_of x.used b.call name) fs) (λ t s. flat_map-is-list-map _) (refl, tt) tt y
            1);
        placed = λ y. sym (made-same script p w next after.node takes [] [] changes
            (λ t s fs. placed_in name fs) (λ t s. flat_map-is-list-map _) (refl, tt) tt 1 y);
        news = λ y. ap (λ z. news name (x.used && is_maker (maker z name) y) (frames_to w 1 y)) (sym same-there)
            ∙ sym (made-same script p w next after.node takes [] [] changes
            (λ t s fs. news name (x.used && is_maker (maker (directory_of next) name) s) fs)
            (λ t s. flat_map-is-list-map _) (refl, tt) tt 1 y);
      }

  leaves : (m : Name) → m ≢ name → LeavesName w next [] [] b moved p after.node changes.left m
  leaves m d =
      record {
        directory = same-directory (directory_of w) (directory_of next) same-there m;
        used_is = refl;
        part_is = refl;
        body_is = refl;
        deed_is = ap (λ t. if t then InTable p else b.deed m) (other-name name m (λ e. d (sym e)));
        held_is = nothing-else m d ∙ sym (empty-at m);
        begins_is = λ holds_it comes. ap (λ s. begin s holds_it comes) (sym unborn);
        hand_is = refl;
        steps_are = λ used y. refl;
        ranges_are = λ used y. refl;
      }

  names : (m : Name) → NameHolds script b.pids (is_born_in next) m (name_sight script next [] moved m)
  names m =
      elim (name-cases m name) [
        | inl e ↦
            subst (λ y. NameHolds script b.pids (is_born_in next) y (name_sight script next [] moved y)) (sym e)
            (name-stays script b.pids (is_born_in w) (is_born_in next) name _ _ more sight-now
            (name-housed script b.pids (is_born_in w) name x known p other is-checkpointed.deed_is rest-steps
            plays-on))
        | inr d ↦
            name-stays script b.pids (is_born_in w) (is_born_in next) m _ _ more
            (name-left-alone script p w next after.node takes [] [] changes [] [] b moved m (leaves m d)
            (other-name m name d, tt) tt) (holds.names m)
      ]

  -- the calls

  abbrev y-of : ℕ → CallSight
  y-of y = call_sight w [] b y

  no-call-here : HasNoCall script p (y-of p)
  no-call-here =
      let call = holds.calls p h.low h.high
      in subst (λ o. HasCallOrNone script p (is_born_in w) (y-of p) o)
      (ap (λ (m : Node). m.caller.under_way) node-is) call.call

  call-first : CallHolds script p (is_born_in next) (started (y-of p) pid (new_caller vars))
  call-first =
      record {
        call = record {
          nowhere = record {
            in_streams = λ to sender. refl;
            held_for_names = nowhere.held_for_names;
            in_hand = nowhere.in_hand;
            waiting = nowhere.waiting;
          };
          idle = no-call-here.idle;
          free = record {
            there = for-it.place
                ∙ ap (λ v. Some (block_place (block_at script p) v)) (sym vars-are)
                ∙ ap Some (first-lines script p vars);
            alive = alive;
            lives = ap (option_and_then alive_in) process-is;
            tickets = omega arith;
            try_left = λ line at.
                let shape = holds.shape
                in let some = all-at (λ (l : Line). 1 ≤ l.tries) (lines_of script p) 0 line (shape.tries p) at
                in omega (arith, some);
          };
        };
        ends = ap is_end_place no-call-here.idle;
      }
    where
      nowhere : IsNowhere (y-of p)
      nowhere = no-call-here.nowhere

  call-sight-now : SameCall (started (y-of p) pid (new_caller vars)) (call_sight next [] moved p)
  call-sight-now =
      let nowhere : IsNowhere (y-of p) = no-call-here.nowhere
      in record {
        number = sym (ap (λ (m : Node). m.number) changes.here);
        pid = sym (ap (λ (m : Node). m.pid) changes.here);
        stage = sym (ap (λ (m : Node). m.stage) changes.here);
        caller = sym (ap (λ (m : Node). m.caller) changes.here);
        leases = sym (ap (λ (m : Node). m.leases) changes.here);
        place = refl;
        alive = refl;
        call = refl;
        frames_about = λ to sender. sym (made-same script p w next after.node takes [] [] changes
            (λ t s fs. filter (is_about p t s) fs) (λ t s. filter-is-list-map (is_about p t s)) (refl, tt) tt to
            sender
            ∙ nowhere.in_streams to sender);
        held = λ m. ap (λ z. filter (is_item_about p) (held_for z m)) (sym same-there);
        hand = refl;
        waiters = λ m. refl;
      }

  leaves-call : (y : ℕ) → y ≢ p → LeavesCall w next [] [] b moved p after.node y
  leaves-call y d =
      record {
        own = λ e. absurd (d e);
        place_is = refl;
        alive_is = refl;
        call_is = refl;
        held_is = λ m. ap (λ z. filter (is_item_about y) (held_for z m)) same-there;
        hand_is = refl;
        waiters_are = λ m. refl;
      }

  calls-now : (y : ℕ) → 1 ≤ y → y ≤ node_count script
      → CallHolds script y (is_born_in next) (call_sight next [] moved y)
  calls-now y low high =
      elim (cases_eq y p) [
        | inl e ↦
            subst (λ z. CallHolds script z (is_born_in next) (call_sight next [] moved z)) (sym e)
            (call-stays script p (is_born_in next) (is_born_in next) _ _ (λ z g. g) call-sight-now call-first)
        | inr d ↦
            call-stays script y (is_born_in w) (is_born_in next) _ _ more
            (call-left-alone script p w next after.node takes [] [] changes [] [] b moved y (leaves-call y d)
            (refl, tt) tt) (holds.calls y low high)
      ]

  -- the withdrawals

  idle-here : n.caller.under_way ≡ None
  idle-here = ap (λ (m : Node). m.caller.under_way) node-is

  cancels-here : CancelHolds p Nothing (cancel_sight w [] b p)
  cancels-here = holds.cancels p h.low h.high

  cancel-first : CancelHolds p Nothing (cancel_sight next [] moved p)
  cancel-first =
      record {
        of_call = subst (λ (o : Option Call). OfCall p false (cancel_sight next [] moved p) (b.call p) o)
            (sym (ap (λ (m : Node). m.caller.under_way) changes.here))
            (idle-uncancelled p Nothing (cancel_sight w [] b p) cancels-here idle-here);
        frames = λ to sender. subst (λ fs. AllByRecursion (IsCancelFrame (cancel_sight next [] moved p)) fs)
            (sym (made-same script p w next after.node takes [] [] changes
            (λ t s fs. filter (is_cancel_of p) fs) (λ t s. filter-is-list-map (is_cancel_of p)) (refl, tt) tt to
            sender))
            (all-weaker (λ f e. absurd (no-cancel-frame (cancel_sight w [] b p) none-started f e))
            (filter (is_cancel_of p) (frames_to w to sender)) (cancels-here.frames to sender));
        held = λ m. subst
            (λ (z : Directory). AllByRecursion (IsCancelItem (cancel_sight next [] moved p))
            (filter (is_held_cancel_of p) (held_for z m))) (sym same-there)
            (all-weaker (λ item e. absurd (no-cancel-item (cancel_sight w [] b p) none-started item e))
            (filter (is_held_cancel_of p) (held_for (directory_of w) m)) (cancels-here.held m));
        hand = tt;
        owed = λ e. absurd (false≢true e);
      }
    where
      none-started : n.caller.ticket ≡ 0
      none-started = ap (λ (m : Node). m.caller.ticket) node-is

  leaves-cancel : (y : ℕ) → y ≢ p → LeavesCancel w next [] [] b moved p after.node y
  leaves-cancel y d =
      record {
        own = λ e. absurd (d e);
        call_is = refl;
        cancel_is = refl;
        held_is = λ m. ap (λ z. filter (is_item_of y) (held_for z m)) same-there;
        hand_is = refl;
        nowhere = λ call is may l. record {
          node = l.node;
          is = l.is;
          leaves = ap (λ z. stays z l.node) same-there ∙ l.leaves;
          unknown = ap (λ z. is_known z (waits_at (node_of w y).pid call)) same-there ∙ l.unknown;
        };
      }

  cancels-now : (y : ℕ) → 1 ≤ y → y ≤ node_count script → CancelHolds y Nothing (cancel_sight next [] moved y)
  cancels-now y low high =
      elim (cases_eq y p) [
        | inl e ↦ subst (λ z. CancelHolds z Nothing (cancel_sight next [] moved z)) (sym e) cancel-first
        | inr d ↦
            cancel-if-same y Nothing (cancel_sight w [] b y) (cancel_sight next [] moved y) refl
            (cancel-left-alone script p w next after.node takes [] [] changes [] [] b moved y (leaves-cancel y d)
            (refl, tt) tt (refl, tt) tt) (holds.cancels y low high)
      ]

  -- the kernel in which callers wait

  same-under-way : (y : ℕ) → under_way_at next y ≡ under_way_at w y
  same-under-way y =
      read-same script p w next after.node takes [] [] changes (λ (m : Node). m.caller.under_way) (sym idle-here) y

  whole-now : HasWhole next moved
  whole-now =
      whole-left-alone w next b moved Nothing
      (record {
        journal_is = changes.journal ∙ append-nil w.journal;
        lines_are = refl;
        kernel_is = refl;
        whole_is = refl;
        pids_are = λ y. refl;
        bodies_are = λ m. refl;
        marks_still = λ y a lives. subst (λ o. HasMarks (b.call y) o a) (sym (same-under-way y));
      }) holds.whole

  -- the ways

  here-as : (s : Stage) → s ≡ Unborn → (s ≡ Leaving) ⊎ (s ≡ Left) → ⊥
  here-as s e (inl g) = differs (sym e ∙ g)
    where
      differs : Unborn ≡ Leaving → ⊥
      differs z = cc
  here-as s e (inr g) = differs (sym e ∙ g)
    where
      differs : Unborn ≡ Left → ⊥
      differs z = cc

  was-here : Way script b.pids p (knows_parent script w b.pids p) (way_sight w p) → IsHere (way_sight w p)
  was-here (here z) = z
  was-here (tells z) = absurd (here-as (stage_of w p) unborn (inl z.stage))
  was-here (collected z) = absurd (here-as (stage_of w p) unborn (inl z.stage))
  was-here (over z) = absurd (here-as (stage_of w p) unborn (inr z.stage))
  was-here (gone z) = absurd (here-as (stage_of w p) unborn (inr z.stage))

  low-node : 2 ≤ p
  low-node = let low = h.low in omega (arith, low, other)

  abbrev lives-here : WaySight
  lives-here = record (way_sight w p) { stage = Living }

  way-here : IsHere lives-here
  way-here =
      let old : IsHere (way_sight w p) = was-here (holds.ways p low-node h.high)
      in let shown = old.shows
      in record {
        stage = inr refl;
        shows = record {
          has_leavings = shown.has_leavings;
          has_recalls = shown.has_recalls;
          has_parting = shown.has_parting;
        };
        lefts = old.lefts;
      }

  way-same : (y : ℕ) → SameWay (record (way_sight w y) { stage = stage_of next y }) (way_sight next y)
  way-same y =
      record {
        stage = refl;
        parting = ap (λ (z : Directory). get z.partings y) (sym same-there);
        leavings = sym (made-same script p w next after.node takes [] [] changes
            (λ t s fs. filter is_leaving_frame fs)
            (λ t s. filter-is-list-map is_leaving_frame) (refl, tt) tt 1 y);
        recalls = sym (made-same script p w next after.node takes [] [] changes
            (λ t s fs. filter is_recall_all fs)
            (λ t s. filter-is-list-map is_recall_all) (refl, tt) tt y 1);
        lefts = sym (made-same script p w next after.node takes [] [] changes
            (λ t s fs. filter is_left_frame fs)
            (λ t s. filter-is-list-map is_left_frame) (refl, tt) tt 1 y);
      }

  knows-still : (y : ℕ) → knows_parent script w b.pids y ≡ true → knows_parent script next b.pids y ≡ true
  knows-still y e =
      ap (λ z. is_known z (Proc (b.pids (forker script y)))) same-there ∙ e

  ways-now : (y : ℕ) → 2 ≤ y → y ≤ node_count script
      → Way script b.pids y (knows_parent script next b.pids y) (way_sight next y)
  ways-now y low high =
      elim (cases_eq y p) [
        | inl e ↦
            subst (λ z. Way script b.pids z (knows_parent script next b.pids z) (way_sight next z)) (sym e)
            (way-stays script b.pids p (knows_parent script w b.pids p) (knows_parent script next b.pids p)
            (record (way_sight w p) { stage = stage_of next p }) (way_sight next p) (knows-still p) (way-same p)
            (subst (λ s. Way script b.pids p (knows_parent script w b.pids p) (record (way_sight w p) { stage = s }))
            (sym (ap (λ (m : Node). m.stage) changes.here)) (here way-here)))
        | inr d ↦
            way-stays script b.pids y (knows_parent script w b.pids y) (knows_parent script next b.pids y)
            (record (way_sight w y) { stage = stage_of next y }) (way_sight next y) (knows-still y) (way-same y)
            (subst (λ s. Way script b.pids y (knows_parent script w b.pids y) (record (way_sight w y) { stage = s }))
            (sym (ap (λ (m : Node). m.stage) (changes.others y d))) (holds.ways y low high))
      ]

  -- the families

  abbrev places-now : ℕ → DeedPlace
  places-now = process_deed deeds-now

  place-here : places-now (b.pids p) ≡ InTable p
  place-here =
      ap (λ t. if t then InTable p else b.deed (Proc (b.pids p))) (same-name name (Proc (b.pids p)) name-is)

  place-elsewhere : (y : ℕ) → y ≢ b.pids p → places-now y ≡ process_deed b.deed y
  place-elsewhere y d =
      ap (λ t. if t then InTable p else b.deed (Proc y))
      (other-name name (Proc y) (λ e. d (proc-same y (b.pids p) (sym e ∙ name-is))))

  family-here : FamilyHolds script b.pids b.places b.kernel places-now (checkpoints_to script next p)
      (stage_of next p) p
  family-here =
      record {
        process = kernel.Living alive;
        is = process-is;
        child = λ d. subst (λ v. IsChildIn b.kernel (b.pids (forker script p)) (b.pids p) v)
            living.1 (family.child d);
        where_it_is = subst (λ d. IsWhereFor p d (kernel.Living alive)) (sym place-here) refl;
        with_parent = tt;
        checkpoint = subst (λ d. CheckpointIn script b.pids b.places p (checkpoints_to script next p) d)
            (sym place-here) tt;
        fresh = subst (λ d. IsNewAt (kernel.Living alive) d) (sym place-here) tt;
        awaited = subst (λ d. IsAwaited (stage_of next p) d) (sym place-here) tt;
        children = family.children;
      }

  with-parent-still : (y : ℕ) (v : Process) → y ≢ p → b.pids y ≢ 0
      → IsWhereFor y (b.deed (Proc (b.pids y))) v
      → IsWithParent (process_deed b.deed) (b.pids (forker script y)) (b.pids y) v
      → IsWithParent places-now (b.pids (forker script y)) (b.pids y) v
  with-parent-still y (kernel.Living a) d f where_it_is e = tt
  with-parent-still y kernel.Gone d f where_it_is e = tt
  with-parent-still y (kernel.Ended ending) d f where_it_is e =
      let pids = holds.pids
      in place-elsewhere (b.pids y) (λ g. d (pids.apart y p f g))
      ∙ e ∙ sym (place-elsewhere (b.pids (forker script y)) not-here)
    where
      not-here : b.pids (forker script y) ≢ b.pids p
      not-here g = subst (λ z. RestsBelow y z) (e ∙ ap (process_deed b.deed) g ∙ deed-is) where_it_is

  families-now : (y : ℕ) → b.pids y ≢ 0
      → FamilyHolds script b.pids b.places b.kernel places-now (checkpoints_to script next y) (stage_of next y) y
  families-now y f =
      elim (cases_eq y p) [
        | inl e ↦
            subst (λ z. FamilyHolds script b.pids b.places b.kernel places-now (checkpoints_to script next z)
            (stage_of next z) z) (sym e) family-here
        | inr d ↦ elsewhere d
      ]
    where
      elsewhere : y ≢ p
          → FamilyHolds script b.pids b.places b.kernel places-now (checkpoints_to script next y) (stage_of next y) y
      elsewhere d =
          let old : FamilyHolds script b.pids b.places b.kernel (process_deed b.deed) (checkpoints_to script w y)
          (stage_of w y) y = holds.families y f
          in let pids = holds.pids
          in let same : process_deed b.deed (b.pids y) ≡ places-now (b.pids y) =
          sym (place-elsewhere (b.pids y) (λ g. d (pids.apart y p f g)))
          in let frames_same : checkpoints_to script w y ≡ checkpoints_to script next y =
          sym (only-stayed script p w next after.node takes [] [] changes (λ t s fs. filter is_checkpoint fs)
          (λ t s. filter-is-list-map is_checkpoint) tt y (forker script y)
          ∙ others-stay script p q w next after.node frame [] [] changes
          (λ t s fs. filter is_checkpoint fs) (λ t s. filter-is-list-map is_checkpoint) y
          (forker script y) (inl d))
          in record {
            process = old.process;
            is = old.is;
            child = old.child;
            where_it_is = subst (λ z. IsWhereFor y z old.process) same old.where_it_is;
            with_parent = with-parent-still y old.process d f old.where_it_is old.with_parent;
            checkpoint = subst (λ z. CheckpointIn script b.pids b.places y (checkpoints_to script next y) z) same
                (subst (λ fs. CheckpointIn script b.pids b.places y fs (b.deed (Proc (b.pids y)))) frames_same
                old.checkpoint);
            fresh = subst (λ z. IsNewAt old.process z) same old.fresh;
            awaited = subst (λ z. IsAwaited (stage_of next y) z) same
                (subst (λ s. IsAwaited s (b.deed (Proc (b.pids y))))
                (sym (ap (λ (m : Node). m.stage) (changes.others y d))) old.awaited);
            children = old.children;
          }

  -- all else

  keys-now : KeysHold (node_of next 1).leader b.kernel
  keys-now =
      let keys : KeysHold (node_of w 1).leader b.kernel = holds.keys
      in record {
        queues = λ key. ap (λ (m : Node). get m.leader.queue_keys key) (changes.others 1 (λ e. other (sym e)))
            ∙ keys.queues key;
        sets = λ key. ap (λ (m : Node). get m.leader.set_keys key) (changes.others 1 (λ e. other (sym e)))
            ∙ keys.sets key;
      }

  ranges-same : (kind : Kind) → for_kind (directory_of next).ranges kind ≡ for_kind (directory_of w).ranges kind
  ranges-same kind = ap (λ (z : Directory). for_kind z.ranges kind) same-there

  unborn-is-not-left : stage_of w p ≡ Left → ⊥
  unborn-is-not-left e = here-as (stage_of w p) unborn (inr e)

  -- The process's deed is in the node's table now.
  pub checkpoint-keeps : KeepsAs script w (events.Take p q) moved
  checkpoint-keeps =
      record {
        next = next;
        is_step = take-steps script w p q frame rest after holds.shape h rule refl;
        holds = record {
          shape = changes.shape;
          history = holds.history;
          whole = whole-now;
          leading = subst (λ (z : Directory). IsLeading z) (sym same-there) holds.leading;
          pids = holds.pids;
          nodes = nodes-now;
          frames_fit = frames-still-fit script p w next after.node takes [] [] changes more holds.frames_fit tt tt;
          names = names;
          calls = calls-now;
          cancels = cancels-now;
          ways = ways-now;
          parcels = λ parcel there. sender-stays script p w next after.node takes [] [] changes b.pids parcel
              (λ left. absurd (unborn-is-not-left left))
              (holds.parcels parcel
              (parcel-was-there script p w next after.node takes [] [] changes [] parcel tt
              (λ y. subst (λ z. Contains (held_for z (Proc y)) (Ending parcel)) same-there) there));
          kinds = λ kind. kind-stays (is_born_in w) (is_born_in next) _ _ more
              (kind-left-alone script p w next after.node takes [] [] changes b.kernel b.kernel kind (λ number. refl)
              refl (ranges-same kind) (refl, tt) tt) (holds.kinds kind);
          few = λ kind. few-still script p w next after.node takes [] [] changes b.call b.call kind refl
              (ranges-same kind) (λ y. refl) (holds.few kind);
          keys = keys-now;
          families = families-now;
        };
      }
