-- No Checkpoint of a name is on its way to a node that is born: a play at it begins with the deed exactly where the
-- node holds that.
use Rattle.std.proofs.Common.{◌≡◌, ◌≢◌, ℕ, Bool, true, false, ◌&&◌, ◌||◌, not, cond, List, [], ◌∷◌, filter, nat_eq, Option, Some, None, is_some, refl, ap, sym, subst, ◌∙◌}
use Rattle.std.specs.List.{AllByRecursion}
use Rattle.std.proofs.lemmas.Bool.{eqb-true, false≢true}
use Rattle.pico_base.specs.declared.numbers.Name.{Name}
use Rattle.pico_base.specs.declared.numbers.Name.TheVariants.{Proc, Msg, Sem}
use Rattle.pico_base.specs.declared.script.Script.{Script}
use Rattle.rpc_frame.specs.declared.frame.Frame.{Frame}
use Rattle.rpc_frame.specs.declared.frame.Frame.TheVariants as frames
use Rattle.number_maps.specs.Maps.{get}
use Rattle.kernel_model.specs.Kernel.{Process}
use Rattle.kernel_model.specs.Kernel as kernel
use Rattle.kernel_model.specs.Valid.{IsValid}
use Rattle.kernel_laws.proofs.ValidLaws.{reachable_kernels_are_valid_lemma}
use Rattle.entry_laws.specs.Entering.{is_used_name}
use Rattle.entry_laws.proofs.History.{history-reachable}
use Rattle.entry_laws.proofs.Numbers.{process-there}
use Rattle.node_model.specs.declared.held.Held.{Held}
use Rattle.node_model.specs.Kinds.{is_object}
use Rattle.node_model.specs.Bodies.{Body}
use Rattle.world_model.specs.Census.{brings}
use Rattle.world_model.specs.Node.{Stage, Unborn}
use Rattle.world_model.specs.World.{World}
use Rattle.world_laws.specs.Places.{DeedPlace, Unmade, InTable, InCheckpoint, InGrant, InGiveBack, InLeft, InKept, InHand, InExitTo, Beside}
use Rattle.world_laws.specs.Sights.{frames_to, is_born_in, is_born_stage, stage_of}
use Rattle.world_laws.specs.Plays.{Has, has_any, is_checkpoint_of}
use Rattle.world_laws.specs.Names.{IsBringer, NameHolds, NameSight, OneIf, comes_to, forker, held_at, is_stream_of, may_be_at, name_sight}
use Rattle.world_laws.specs.Families.{FamilyHolds, IsAwaited, IsWhereFor, checkpoints_to}
use Rattle.world_laws.specs.Cancels.{Owing}
use Rattle.world_laws.specs.Invariant.{HoldsOwing, process_deed}
use Rattle.world_laws.proofs.NameFacts.{IsHeldAt, begin-has, held-there}

-- ---- a Checkpoint on its way

checkpoints-bring : (name : Name) (frame : Frame) → is_checkpoint_of name frame ≡ true → brings name frame ≡ true
checkpoints-bring name (frames.Checkpoint pid parent deed vars) h = h
checkpoints-bring name frame h = absurd (false≢true h)

-- where a filter keeps nothing that another one does, and keeps only what that one does, it keeps nothing
none-of-fewer : {A : Type 0} (few many : A → Bool) → ((x : A) → few x ≡ true → many x ≡ true) → (xs : List A)
    → AllByRecursion (λ x. few x ≡ false) (filter many xs) → filter few xs ≡ []
none-of-fewer few many less [] all = refl
none-of-fewer few many less (x ∷ xs) all = by-test (none-of-fewer few many less xs) (many x) refl all
  where
    not-few : (t : Bool) → few x ≡ t → many x ≡ false → few x ≡ false
    not-few true e m = absurd (false≢true (sym m ∙ less x e))
    not-few false e m = e

    by-test : (AllByRecursion (λ y. few y ≡ false) (filter many xs) → filter few xs ≡ []) → (m : Bool) → many x ≡ m
        → AllByRecursion (λ x. few x ≡ false) (cond m (x ∷ filter many xs) (filter many xs))
        → cond (few x) (x ∷ filter few xs) (filter few xs) ≡ []
    by-test rest true e all = ap (λ b. cond b (x ∷ filter few xs) (filter few xs)) all.0 ∙ rest all.1
    by-test rest false e all =
        ap (λ b. cond b (x ∷ filter few xs) (filter few xs)) (not-few (few x) refl e) ∙ rest all

one-if-all : {A : Type 0} (t : Bool) (P Q : A → Type 0) (xs : List A) → OneIf t P xs → ((x : A) → P x → Q x)
    → AllByRecursion Q xs
one-if-all true P Q xs h g = subst (λ ys. AllByRecursion Q ys) (sym h.only) (g h.one h.holds, tt)
one-if-all false P Q xs h g = subst (λ ys. AllByRecursion Q ys) (sym h) tt

abbrev NotBringing : Name → List Frame → Type 0
NotBringing name fs = AllByRecursion (λ f. is_checkpoint_of name f ≡ false) fs

none-brought : (name : Name) (fs : List Frame) → fs ≡ [] → NotBringing name fs
none-brought name fs e = subst (λ ys. NotBringing name ys) (sym e) tt

-- what brings a deed that isn't in a Checkpoint to this node is no Checkpoint
not-bringing : (forks_it pids : ℕ → ℕ) (name : Name) (body : Body) (to sender : ℕ) (fs : List Frame)
    (deed : DeedPlace) → (deed ≡ InCheckpoint to → ⊥)
    → OneIf (is_stream_of forks_it deed to sender) (IsBringer pids name body deed) fs → NotBringing name fs
not-bringing forks_it pids name body to sender fs Unmade d h = none-brought name fs h
not-bringing forks_it pids name body to sender fs (InTable node) d h = none-brought name fs h
not-bringing forks_it pids name body to sender fs (InKept node) d h = none-brought name fs h
not-bringing forks_it pids name body to sender fs (InHand node) d h = none-brought name fs h
not-bringing forks_it pids name body to sender fs (InGrant node) d h =
    one-if-all (nat_eq to node && nat_eq sender 1) _ (λ f. is_checkpoint_of name f ≡ false) fs h
    (λ f e. ap (is_checkpoint_of name) e)
not-bringing forks_it pids name body to sender fs (InGiveBack node) d h =
    one-if-all (nat_eq to 1 && nat_eq sender node) _ (λ f. is_checkpoint_of name f ≡ false) fs h
    (λ f e. ap (is_checkpoint_of name) e)
not-bringing forks_it pids name body to sender fs (InLeft node) d h =
    one-if-all (nat_eq to 1 && nat_eq sender node) _ (λ f. is_checkpoint_of name f ≡ false) fs h
    (λ f e. ap (is_checkpoint_of name) e.is)
not-bringing forks_it pids name body to sender fs (InExitTo node at) d h =
    one-if-all (nat_eq to at && nat_eq sender 1) _ (λ f. is_checkpoint_of name f ≡ false) fs h
    (λ f e. ap (is_checkpoint_of name) e.is)
not-bringing forks_it pids name body to sender fs (InCheckpoint node) d h =
    by-test (nat_eq to node) refl h
  where
    by-test : (t : Bool) → nat_eq to node ≡ t
        → OneIf (t && nat_eq sender (forks_it node)) (IsBringer pids name body (InCheckpoint node)) fs
        → NotBringing name fs
    by-test true e h = absurd (d (ap InCheckpoint (sym (eqb-true to node e))))
    by-test false e h = none-brought name fs h

process-of : (name : Name) → not (is_object name) ≡ true → (pid : ℕ) × (name ≡ Proc pid)
process-of (Proc pid) h = (pid, refl)
process-of (Msg id) h = absurd (false≢true h)
process-of (Sem id) h = absurd (false≢true h)

some-process : (o : Option Process) → is_some o ≡ true → (process : Process) × (o ≡ Some process)
some-process (Some process) h = (process, refl)
some-process None h = absurd (false≢true h)

-- the deed of a process that is awaited at a node is of that node
its-own : (c p : ℕ) (process : Process) → IsWhereFor c (InCheckpoint p) process → p ≡ c
its-own c p (kernel.Living alive) h = h
its-own c p (kernel.Ended ending) h = absurd h
its-own c p kernel.Gone h = absurd h

unborn-not-born : (stage : Stage) → stage ≡ Unborn → is_born_stage stage ≡ true → ⊥
unborn-not-born stage e h = false≢true (sym (ap is_born_stage e) ∙ h)

module _ (script : Script) (w : World) (hand : List Held) {owes : Owing} (b : Beside)
    (holds : HoldsOwing script w hand owes b) (p : ℕ) (born : is_born_in w p ≡ true) (name : Name) where
  abbrev x : NameSight
  x = name_sight script w hand b name

  known : NameHolds script b.pids (is_born_in w) name x
  known = holds.names name

  -- the deed of no name is in a Checkpoint to such a node
  pub in-no-checkpoint : b.deed name ≡ InCheckpoint p → ⊥
  in-no-checkpoint at =
      let proc = process-of name (ap (λ d. may_be_at (is_object name) d) (sym at) ∙ known.place_fits)
      in by-process proc.0 proc.1
    where
      valid : IsValid b.kernel
      valid =
          reachable_kernels_are_valid_lemma b.kernel
          (history-reachable script b.lines b.kernel b.places holds.history)

      not-unmade : (to : ℕ) → InCheckpoint to ≡ Unmade → ⊥
      not-unmade to h = cc

      used : (t : Bool) → is_used_name b.kernel name ≡ t → is_used_name b.kernel name ≡ true
      used true e = e
      used false e = absurd (not-unmade p (sym at ∙ known.made.1 e))

      by-process : (pid : ℕ) → name ≡ Proc pid → ⊥
      by-process pid is =
          let process = some-process (get b.kernel.processes pid)
          (process-there b.kernel pid valid ∙ ap (is_used_name b.kernel) (sym is)
          ∙ used (is_used_name b.kernel name) refl)
          in let node = holds.pids.there pid process.0 process.1
          in by-node node.0 (is ∙ ap Proc (sym node.1)) (λ e. node.2 (sym node.1 ∙ e))
        where
          by-node : (c : ℕ) → name ≡ Proc (b.pids c) → b.pids c ≢ 0 → ⊥
          by-node c same forked =
              let family : FamilyHolds script b.pids b.places b.kernel (process_deed b.deed)
              (checkpoints_to script w c) (stage_of w c) c = holds.families c forked
              in let there : b.deed (Proc (b.pids c)) ≡ InCheckpoint p = ap b.deed (sym same) ∙ at
              in let its : p ≡ c =
              its-own c p family.process (subst (λ d. IsWhereFor c d family.process) there family.where_it_is)
              in unborn-not-born (stage_of w p)
              (ap (stage_of w) its ∙ subst (λ d. IsAwaited (stage_of w c) d) there family.awaited) born

  and-none : (t : Bool) (fs : List Frame) → fs ≡ [] → (t && has_any fs) ≡ false
  and-none true fs e = ap has_any e
  and-none false fs e = refl

  -- so none comes
  pub comes-not : comes_to script w name p ≡ false
  comes-not =
      and-none (not (nat_eq (forker script p) 1)) (filter (is_checkpoint_of name) (frames_to w p (forker script p)))
      (none-of-fewer (is_checkpoint_of name) (brings name) (checkpoints-bring name) (frames_to w p (forker script p))
      (not-bringing (forker script) b.pids name (b.body name) p (forker script p) _ (b.deed name)
      in-no-checkpoint (known.streams p (forker script p))))

  or-false : (t u : Bool) → u ≡ false → (t || u) ≡ true → t ≡ true
  or-false true u e h = refl
  or-false false u e h = absurd (false≢true (sym e ∙ h))

  -- a name that the node holds is in its table
  pub in-table : is_some (held_at w name p) ≡ true → b.deed name ≡ InTable p
  in-table there = by-held (held_at w name p) refl there
    where
      by-held : (o : Option Body) → held_at w name p ≡ o → is_some o ≡ true → b.deed name ≡ InTable p
      by-held None e h = absurd (false≢true h)
      by-held (Some body) e h =
          let at : IsHeldAt (b.deed name) (b.body name) p body =
          held-there (b.deed name) (b.body name) p body (sym (known.tables p) ∙ e)
          in at.deed_is

  -- and so is one that its play begins with
  pub begins-in-table : x.begins p ≡ Has → b.deed name ≡ InTable p
  begins-in-table has =
      let both = begin-has (stage_of w p) (is_some (held_at w name p)) (comes_to script w name p) has
      in in-table (or-false (is_some (held_at w name p)) (comes_to script w name p) comes-not both.1)
