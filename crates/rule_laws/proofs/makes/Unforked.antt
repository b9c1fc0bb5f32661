-- A fork that is due: its block is forked by this node alone, and not yet, so nothing is on its way to that block's
-- node.
use Rattle.std.proofs.Common.{Contains, ◌≡◌, ◌≢◌, ℕ, ◌≤◌, Bool, true, false, cond, List, [], ◌∷◌, filter, Option, Some, None, is_some, refl, ap, sym, subst, ◌∙◌, inl, inr}
use Rattle.std.specs.List.{list_any}
use Rattle.std.proofs.lemmas.Bool.{eq-eqb, or_left, false≢true}
use Rattle.pico_base.specs.declared.call.Call.TheVariants as calls
use Rattle.pico_base.specs.declared.numbers.Kind.{Kind}
use Rattle.pico_base.specs.declared.numbers.Name.{Name}
use Rattle.pico_base.specs.declared.numbers.Name.TheVariants.{Msg, Proc, Sem}
use Rattle.pico_base.specs.declared.script.Event.{Event}
use Rattle.pico_base.specs.declared.script.Script.{Script}
use Rattle.rpc_frame.specs.declared.frame.Frame.{Frame}
use Rattle.rpc_frame.specs.declared.frame.Frame.TheVariants as frames
use Rattle.number_maps.specs.Maps.{get}
use Rattle.kernel_model.specs.Fitting.{Place, due}
use Rattle.kernel_model.specs.Kernel.{Process}
use Rattle.kernel_model.specs.Kernel as kernel
use Rattle.kernel_model.specs.Script.{IsSoundScript}
use Rattle.kernel_model.specs.Valid.{IsValid}
use Rattle.kernel_laws.proofs.Members.{contains-cases, contains-filter, contains-first, contains-later, contains-none}
use Rattle.kernel_laws.proofs.ValidLaws.{reachable_kernels_are_valid_lemma}
use Rattle.entry_laws.specs.Entering.{is_used_name}
use Rattle.entry_laws.proofs.Numbers.{process-there}
use Rattle.entry_laws.proofs.History.{history-reachable}
use Rattle.entry_laws.proofs.Places.{ForkPasses, fork-passes}
use Rattle.node_model.specs.Caller.{caller_place, lines_of}
use Rattle.world_model.specs.Census.{brings}
use Rattle.world_model.specs.Lives.{names_block}
use Rattle.world_model.specs.Node.{Leaving, Left, Living, Node, Over, Stage, Unborn, unborn_node}
use Rattle.world_model.specs.World.{World, node_count, is_checkpoint}
use Rattle.world_laws.specs.Places.{Beside, InCheckpoint, Unmade}
use Rattle.world_laws.specs.Sights.{frames_to, is_born_in, node_of, stage_of}
use Rattle.world_laws.specs.Names.{IsBringer, NameHolds, OneIf, OnlyOne, forker, is_stream_of, may_be_at, name_sight}
use Rattle.world_laws.specs.Callers.{CallHolds, HasCallOrNone, HasNoCall, call_sight}
use Rattle.world_laws.specs.Families.{BornIn, FamilyHolds, HoldsIn, IsWhereFor, NodeHolds, checkpoints_to}
use Rattle.world_laws.specs.Invariant.{Holds, process_deed}
use Rattle.world_laws.specs.Ways.{IsHere, Way, WaySight, collected, gone, here, knows_parent, over, tells, way_sight}
use Rattle.world_laws.proofs.Named.{same-name}
use Rattle.rule_laws.proofs.Births.{IsCheckpointed, checkpointed}
use Rattle.rule_laws.proofs.makes.Forkers.{IsForkedFrom, forked-from, names_in_line}
use Rattle.rule_laws.proofs.makes.Sources.{Origin, Source}
use Rattle.rule_laws.proofs.makes.WithinLines.{any-drop, within-lines}

unborn-way : (script : Script) (pids : ℕ → ℕ) (c : ℕ) (knows : Bool) (x : WaySight) → x.stage ≡ Unborn
    → Way script pids c knows x → IsHere x
unborn-way script pids c knows x e (here h) = h
unborn-way script pids c knows x e (tells h) = absurd (differ (sym e ∙ h.stage))
  where
    differ : Unborn ≡ Leaving → ⊥
    differ h = cc
unborn-way script pids c knows x e (collected h) = absurd (differ (sym e ∙ h.stage))
  where
    differ : Unborn ≡ Leaving → ⊥
    differ h = cc
unborn-way script pids c knows x e (over h) = absurd (differ (sym e ∙ h.stage))
  where
    differ : Unborn ≡ Left → ⊥
    differ h = cc
unborn-way script pids c knows x e (gone h) = absurd (differ (sym e ∙ h.stage))
  where
    differ : Unborn ≡ Left → ⊥
    differ h = cc

-- ---- a node whose process isn't forked

module _ (script : Script) (w : World) (b : Beside) (holds : Holds script w [] b) (c : ℕ) (low : 1 ≤ c)
    (high : c ≤ node_count script) (unforked : b.pids c ≡ 0) where
  node-there : NodeHolds script b.pids (is_born_in w) c (node_of w c)
  node-there = holds.nodes c low high

  by-stage : (s : Stage) → HoldsIn c (node_of w c) s
      → BornIn script b.pids c (node_of w c).pid (node_of w c).parent (node_of w c).parent_node s
      → node_of w c ≡ unborn_node c
  by-stage Unborn h birth = h
  by-stage Living h birth = absurd (birth.forked unforked)
  by-stage Leaving h birth = absurd (birth.forked unforked)
  by-stage Left h birth = absurd (birth.forked unforked)
  by-stage Over h birth = absurd (birth.forked unforked)

  -- the node isn't born
  pub is-unborn : node_of w c ≡ unborn_node c
  is-unborn = by-stage (stage_of w c) node-there.holds node-there.birth

  -- that is its stage
  pub unborn-stage : stage_of w c ≡ Unborn
  unborn-stage = ap (λ (n : Node). n.stage) is-unborn

  -- it has no call
  pub unborn-call : HasNoCall script c (call_sight w [] b c)
  unborn-call =
      let call : CallHolds script c (is_born_in w) (call_sight w [] b c) = holds.calls c low high
      in subst (λ o. HasCallOrNone script c (is_born_in w) (call_sight w [] b c) o)
      (ap (λ (n : Node). n.caller.under_way) is-unborn) call.call

  -- and doesn't leave
  pub unborn-here : 2 ≤ c → IsHere (way_sight w c)
  unborn-here later =
      unborn-way script b.pids c (knows_parent script w b.pids c) (way_sight w c) unborn-stage (holds.ways c later high)

  -- ---- no Checkpoint is on its way there

  valid : IsValid b.kernel
  valid = reachable_kernels_are_valid_lemma b.kernel (history-reachable script b.lines b.kernel b.places holds.history)

  some-process : (o : Option Process) → is_some o ≡ true → (v : Process) × (o ≡ Some v)
  some-process (Some v) e = (v, refl)
  some-process None e = absurd (false≢true e)

  own-node : (d : ℕ) (v : Process) → IsWhereFor d (InCheckpoint c) v → c ≡ d
  own-node d (kernel.Living alive) e = e
  own-node d (kernel.Ended ending) e = absurd e
  own-node d kernel.Gone e = absurd e

  -- no process's deed is in one
  none-in-checkpoint : (pid : ℕ) → b.deed (Proc pid) ≡ InCheckpoint c → ⊥
  none-in-checkpoint pid is =
      let name : NameHolds script b.pids (is_born_in w) (Proc pid) (name_sight script w [] b (Proc pid)) =
      holds.names (Proc pid)
      in let it = some-process (get b.kernel.processes pid)
      (process-there b.kernel pid valid ∙ used (is_used_name b.kernel (Proc pid)) refl name.made.1)
      in let owner = holds.pids.there pid it.0 it.1
      in let family : FamilyHolds script b.pids b.places b.kernel (process_deed b.deed)
      (checkpoints_to script w owner.0) (stage_of w owner.0) owner.0 =
      holds.families owner.0 (λ none. owner.2 (sym owner.1 ∙ none))
      in let same : c ≡ owner.0 =
      own-node owner.0 family.process
      (subst (λ d. IsWhereFor owner.0 d family.process) (ap (λ q. b.deed (Proc q)) owner.1 ∙ is) family.where_it_is)
      in owner.2 (sym owner.1 ∙ ap b.pids (sym same) ∙ unforked)
    where
      not-unmade : InCheckpoint c ≡ Unmade → ⊥
      not-unmade h = cc

      used : (t : Bool) → is_used_name b.kernel (Proc pid) ≡ t
          → (is_used_name b.kernel (Proc pid) ≡ false → b.deed (Proc pid) ≡ Unmade)
          → is_used_name b.kernel (Proc pid) ≡ true
      used true e unmade = e
      used false e unmade = absurd (not-unmade (sym is ∙ unmade e))

  no-object : (m : Name) → b.deed m ≡ InCheckpoint c → ⊥
  no-object (Proc pid) is = none-in-checkpoint pid is
  no-object (Msg id) is =
      false≢true
      (ap (may_be_at true) (sym is)
      ∙ (let name : NameHolds script b.pids (is_born_in w) (Msg id) (name_sight script w [] b (Msg id)) =
      holds.names (Msg id)
      in name.place_fits))
  no-object (Sem id) is =
      false≢true
      (ap (may_be_at true) (sym is)
      ∙ (let name : NameHolds script b.pids (is_born_in w) (Sem id) (name_sight script w [] b (Sem id)) =
      holds.names (Sem id)
      in name.place_fits))

  one-of : {A : Type 0} (t : Bool) (P : A → Type 0) (xs : List A) (a : A) → Contains xs a → OneIf t P xs
      → OnlyOne P xs
  one-of true P xs a there h = h
  one-of false P xs a there h = absurd (contains-none a (subst (λ ys. Contains ys a) h there))

  no-birth : (sender : ℕ) (f : Frame) → Contains (frames_to w c sender) f → is_checkpoint f ≡ true → ⊥
  no-birth sender (frames.Checkpoint pid parent deed vars) there e =
      let m : Name = deed.name
      in let name : NameHolds script b.pids (is_born_in w) m (name_sight script w [] b m) = holds.names m
      in let it : Frame = frames.Checkpoint pid parent deed vars
      in let in_it : Contains (filter (brings m) (frames_to w c sender)) it =
      contains-filter (brings m) (frames_to w c sender) it there (same-name m m refl)
      in let one : OnlyOne (IsBringer b.pids m (b.body m) (b.deed m))
      (filter (brings m) (frames_to w c sender)) =
      one-of (is_stream_of (forker script) (b.deed m) c sender) (IsBringer b.pids m (b.body m) (b.deed m))
      (filter (brings m) (frames_to w c sender)) it in_it (name.streams c sender)
      in let same : one.one ≡ it = just-one one.one it (subst (λ fs. Contains fs it) one.only in_it)
      in let is : IsCheckpointed (b.deed m) c deed m (b.body m) [] =
      checkpointed (forker script) b.pids m (b.body m) c sender pid parent deed vars []
      (filter (brings m) (frames_to w c sender)) (one.only ∙ ap (λ f. f ∷ []) same) (b.deed m) (name.streams c sender)
      in no-object m is.deed_is
    where
      just-one : (f g : Frame) → Contains (f ∷ []) g → f ≡ g
      just-one f g there = elim (contains-cases f [] g there) [ inl e ↦ e | inr none ↦ absurd (contains-none g none) ]
  no-birth sender f there e = absurd (false≢true e)

  none-of : (test : Frame → Bool) (fs : List Frame) → ((f : Frame) → Contains fs f → test f ≡ true → ⊥)
      → filter test fs ≡ []
  none-of test [] h = refl
  none-of test (f ∷ fs) h =
      by-test (test f) refl (none-of test fs (λ g there. h g (contains-later f fs g there)))
    where
      by-test : (t : Bool) → test f ≡ t → filter test fs ≡ [] → cond t (f ∷ filter test fs) (filter test fs) ≡ []
      by-test true e rest = absurd (h f (contains-first f fs) e)
      by-test false e rest = rest

  -- no Checkpoint is on its way there
  pub no-births : (sender : ℕ) → filter is_checkpoint (frames_to w c sender) ≡ []
  no-births sender = none-of is_checkpoint (frames_to w c sender) (no-birth sender)

-- ---- the fork

module _ (script : Script) (sound : IsSoundScript script) (w : World) (b : Beside) (holds : Holds script w [] b) (p : ℕ)
    (block : ℕ) (kind : Kind) (number : ℕ) (numbers : List ℕ) (o : Origin) (e : Event)
    (s : Source script w b p (calls.Fork block) kind number numbers o e) where
  abbrev place : Place
  place = caller_place script p s.caller

  -- the fork's line is due
  pub fork-due : due place ≡ Some (calls.Fork block)
  fork-due = elim s.is_due [ inl is ↦ is | inr killed ↦ absurd (false≢true killed.0) ]

  -- it is the first that is left
  pub fork-line : ForkPasses place block number
  fork-line = fork-passes place block number fork-due

  -- and names the block
  pub names-line : names_in_line block fork-line.line ≡ true
  names-line = ap (names_block block) fork-line.call_is ∙ eq-eqb block block refl

  -- so one of those left does
  pub names-left : list_any (names_in_line block) place.left ≡ true
  names-left =
      ap (list_any (names_in_line block)) fork-line.left
      ∙ or_left (names_in_line block fork-line.line) (list_any (names_in_line block) fork-line.rest) names-line

  -- this node's block forks it
  pub from-here : IsForkedFrom script p block
  from-here =
      forked-from script sound p block s.low
      (any-drop (names_in_line block) s.caller.line (lines_of script p) names-left)

  -- and hasn't yet
  pub not-forked : b.pids block ≡ 0
  not-forked = holds.pids.ahead p block place s.there s.birth.forked names-left

  -- no other process has a line left that forks it
  pub of-no-other : (q : ℕ) (at : Place) → b.pids q ≢ 0 → get b.places (b.pids q) ≡ Some at
      → list_any (names_in_line block) at.left ≡ true → q ≡ p
  of-no-other q at forked there names =
      let range = holds.pids.nodes q forked
      in let from : IsForkedFrom script q block =
      forked-from script sound q block range.0
      (within-lines script w b holds q forked at there (names_in_line block) names)
      in sym from.forker_is ∙ from-here.forker_is
