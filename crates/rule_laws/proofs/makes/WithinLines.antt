-- Where a process is in the history, its lines left are among its node's.
use Rattle.std.proofs.Common.{◌≡◌, ◌≢◌, ◌≤◌, ℕ, zero, suc, Bool, true, List, [], ◌∷◌, drop, Option, Some, None, refl, ap, sym, subst, ◌∙◌, inl, inr}
use Rattle.std.specs.List.{list_any}
use Rattle.std.proofs.lemmas.Bool.{or_right, false≢true}
use Rattle.pico_base.specs.declared.call.Call.{Call}
use Rattle.pico_base.specs.declared.numbers.Name.TheVariants.{Proc}
use Rattle.pico_base.specs.declared.reply.Reply.{Reply}
use Rattle.pico_base.specs.declared.script.Block.{Block}
use Rattle.pico_base.specs.declared.script.Line.{Line}
use Rattle.pico_base.specs.declared.script.Script.{Script}
use Rattle.number_maps.specs.Maps.{get}
use Rattle.kernel_model.specs.Fitting.{Place, after_reply, block_at, block_place, place_after}
use Rattle.kernel_model.specs.Kernel.{Process, living_at}
use Rattle.kernel_model.specs.Kernel as kernel
use Rattle.kernel_model.specs.Row.{Alive}
use Rattle.kernel_model.specs.Script.{Vars}
use Rattle.kernel_laws.proofs.People.{from-living}
use Rattle.entry_laws.proofs.Places.{after-cases}
use Rattle.node_model.specs.Caller.{Caller, caller_place, lines_in, lines_of}
use Rattle.node_model.specs.Kinds.{get_named}
use Rattle.world_model.specs.Node.{Leaving, Left, Living, Node, Over, Stage, Unborn, unborn_node}
use Rattle.world_model.specs.World.{World, node_count}
use Rattle.world_laws.specs.Places.{AsksLease, Beside, CallPlace, DeedPlace, Ends, HasLease, Idle, InAnswer, InAsk, InBounce, InCheckpoint, InExitTo, InGiveBack, InGrant, InHand, InKept, InLeft, InNotOwner, InRequest, InTable, IsHeld, IsInHand, Parked, SentByPlace, SentByRange, Unmade, Waits}
use Rattle.world_laws.specs.Sights.{is_born_in, node_of, stage_of}
use Rattle.world_laws.specs.Names.{NameHolds, held_as, name_sight}
use Rattle.world_laws.specs.Callers.{CallHolds, CallSight, FreeIn, HasCallOrNone, HasEnded, IsSoFar, IsToBeMade, call_sight}
use Rattle.world_laws.specs.Families.{CheckpointIn, FamilyHolds, HoldsIn, IsCheckpointFor, IsItsOwn, IsWhereFor, NodeHolds, checkpoints_to}
use Rattle.world_laws.specs.Invariant.{Holds, process_deed}
use Rattle.world_laws.proofs.NameFacts.{held-here}
use Rattle.rule_laws.proofs.makes.Handed.{handed-has-left}
use Rattle.rule_laws.proofs.makes.NewOnes.{parcel_of}

-- what some of the lines have, all have
pub any-drop : (test : Line → Bool) (i : ℕ) (lines : List Line) → list_any test (drop i lines) ≡ true
    → list_any test lines ≡ true
any-drop test zero [] h = h
any-drop test zero (line ∷ lines) h = h
any-drop test (suc i) [] h = h
any-drop test (suc i) (line ∷ lines) h = or_right (test line) (list_any test lines) (any-drop test i lines h)

-- what the lines have after a reply, they had before
pub after-shrinks : (place : Place) (call : Call) (reply : Reply) (test : Line → Bool)
    → list_any test (place_after place call (Some reply)).left ≡ true → list_any test place.left ≡ true
after-shrinks place call reply test h = by-lines place.left refl
  where
    by-lines : (lines : List Line) → place.left ≡ lines → list_any test place.left ≡ true
    by-lines [] is =
        ap (list_any test) is
        ∙ sym (ap (λ ls. list_any test (after_reply place call reply ls).left) is ∙ ap (list_any test) is)
        ∙ h
    by-lines (line ∷ rest) is =
        elim (after-cases place call reply line rest is) [
          | inl stays ↦ ap (list_any test) is ∙ sym (ap (list_any test) stays) ∙ h
          | inr passed ↦
              ap (list_any test) is ∙ or_right (test line) (list_any test rest) (sym (ap (list_any test) passed) ∙ h)
        ]

-- a block begins with all its lines
pub block-lines : (o : Option Block) (vars : Vars) → (block_place o vars).left ≡ lines_in o
block-lines None vars = refl
block-lines (Some block) vars = refl

same-in-some : {A : Type 0} (a c : A) → Some a ≡ Some c → a ≡ c
same-in-some a c h = cc

none-is-some : {A : Type 0} (a : A) → None ≡ Some a → ⊥
none-is-some a h = cc

unborn-holds : (q pid : ℕ) → get_named (unborn_node q).deeds (Proc pid) ≡ None
unborn-holds q pid = refl

left-not-unborn : (s : Stage) → s ≡ Left → s ≡ Unborn → ⊥
left-not-unborn s e g = differ (sym e ∙ g)
  where
    differ : Left ≡ Unborn → ⊥
    differ h = cc

module _ (script : Script) (w : World) (b : Beside) (holds : Holds script w [] b) (q : ℕ) (forked : b.pids q ≢ 0)
    (place : Place) (there : get b.places (b.pids q) ≡ Some place) (test : Line → Bool)
    (some : list_any test place.left ≡ true) where
  abbrev n : Node
  n = node_of w q

  abbrev x : CallSight
  x = call_sight w [] b q

  abbrev pid : ℕ
  pid = b.pids q

  not-empty : (p : Place) → p.left ≡ [] → place ≡ p → ⊥
  not-empty p none same =
      false≢true (sym (ap (list_any test) none) ∙ ap (λ (z : Place). list_any test z.left) (sym same) ∙ some)

  from-place : (p : Place) → x.place ≡ Some p → list_any test p.left ≡ true
  from-place p is =
      ap (λ (z : Place). list_any test z.left) (sym (same-in-some place p (sym there ∙ is))) ∙ some

  from-caller : (c : Caller) → x.place ≡ Some (caller_place script q c) → list_any test (lines_of script q) ≡ true
  from-caller c is = any-drop test c.line (lines_of script q) (from-place (caller_place script q c) is)

  ended : HasEnded x → ⊥
  ended h = not-empty h.last h.over (same-in-some place h.last (sym there ∙ h.there))

  handed : n ≡ unborn_node q → (g : ℕ) → parcel_of (b.deed (Proc pid)) ≡ Some g → g ≡ q → ⊥
  handed unborn g is own =
      left-not-unborn (stage_of w q)
      (subst (λ c. stage_of w c ≡ Left) own (handed-has-left script w b holds (Proc pid) g is))
      (ap (λ (m : Node). m.stage) unborn)

  family : FamilyHolds script b.pids b.places b.kernel (process_deed b.deed) (checkpoints_to script w q) (stage_of w q)
      q
  family = holds.families q forked

  -- its process lives, and its node isn't born: its Checkpoint is on its way
  by-deed : n ≡ unborn_node q → (d : DeedPlace) → b.deed (Proc pid) ≡ d → IsItsOwn q d
      → CheckpointIn script b.pids b.places q (checkpoints_to script w q) d → list_any test (lines_of script q) ≡ true
  by-deed unborn (InTable node) is own c =
      let name : NameHolds script b.pids (is_born_in w) (Proc pid) (name_sight script w [] b (Proc pid)) =
      holds.names (Proc pid)
      in absurd
      (none-is-some (b.body (Proc pid))
      (sym (unborn-holds q pid) ∙ ap (λ (m : Node). get_named m.deeds (Proc pid)) (sym unborn) ∙ name.tables q
      ∙ ap (λ (d : DeedPlace). held_as d (b.body (Proc pid)) q) (is ∙ ap InTable own)
      ∙ held-here q (b.body (Proc pid))))
  by-deed unborn (InCheckpoint to) is own c =
      let for : IsCheckpointFor script b.pids b.places q c.0 = c.2
      in sym (ap (list_any test) (block-lines (block_at script q) for.vars))
      ∙ from-place (block_place (block_at script q) for.vars) for.place
  by-deed unborn (InLeft g) is own c = absurd (handed unborn g (ap parcel_of is) own)
  by-deed unborn (InKept g) is own c = absurd (handed unborn g (ap parcel_of is) own)
  by-deed unborn (InHand g) is own c = absurd (handed unborn g (ap parcel_of is) own)
  by-deed unborn (InExitTo g to) is own c = absurd (handed unborn g (ap parcel_of is) own)
  by-deed unborn Unmade is own c = absurd own
  by-deed unborn (InGrant to) is own c = absurd own
  by-deed unborn (InGiveBack sender) is own c = absurd own

  from-unborn : n.stage ≡ Unborn → list_any test (lines_of script q) ≡ true
  from-unborn stage = by-life (living_at b.kernel pid) refl
    where
      range : (1 ≤ q) × (q ≤ node_count script)
      range = holds.pids.nodes q forked

      unborn : n ≡ unborn_node q
      unborn =
          let node : NodeHolds script b.pids (is_born_in w) q n = holds.nodes q range.0 range.1
          in subst (λ (s : Stage). HoldsIn q n s) stage node.holds

      by-life : (o : Option Alive) → living_at b.kernel pid ≡ o → list_any test (lines_of script q) ≡ true
      by-life None dead = absurd (not-empty place (holds.pids.dead q place forked dead there) refl)
      by-life (Some a) lives =
          let same : family.process ≡ kernel.Living a =
          same-in-some family.process (kernel.Living a) (sym family.is ∙ from-living b.kernel.processes pid a lives)
          in by-deed unborn (b.deed (Proc pid)) refl
          (subst (λ (v : Process). IsWhereFor q (b.deed (Proc pid)) v) same family.where_it_is) family.checkpoint

  by-free : (s : Stage) → n.stage ≡ s → FreeIn script q x s → list_any test (lines_of script q) ≡ true
  by-free Unborn is h = from-unborn is
  by-free Living is h = from-caller x.caller h.there
  by-free Leaving is h = absurd h
  by-free Left is h = absurd h
  by-free Over is h = absurd (ended h)

  to-be-made : (call : Call) → IsToBeMade script q x call → list_any test (lines_of script q) ≡ true
  to-be-made call h = from-caller x.caller h.there

  so-far : (call : Call) (at : CallPlace) → IsSoFar script q x call at → list_any test (lines_of script q) ≡ true
  so-far call (InAnswer sender reply) h =
      any-drop test x.caller.line (lines_of script q)
      (after-shrinks (caller_place script q x.caller) call reply test
      (from-place (place_after (caller_place script q x.caller) call (Some reply)) h.there))
  so-far call Ends (inl h) = to-be-made call h
  so-far call Ends (inr h) = absurd (ended h)
  so-far call Idle h = to-be-made call h
  so-far call (AsksLease kind) h = to-be-made call h
  so-far call (HasLease kind first) h = to-be-made call h
  so-far call InAsk h = to-be-made call h
  so-far call (InRequest to) h = to-be-made call h
  so-far call (InNotOwner sender) h = to-be-made call h
  so-far call (SentByPlace to) h = to-be-made call h
  so-far call (SentByRange to) h = to-be-made call h
  so-far call (InBounce sender) h = to-be-made call h
  so-far call (IsHeld name) h = to-be-made call h
  so-far call IsInHand h = to-be-made call h
  so-far call Parked h = to-be-made call h
  so-far call (Waits name) h = to-be-made call h

  by-call : (o : Option Call) → HasCallOrNone script q (is_born_in w) x o → list_any test (lines_of script q) ≡ true
  by-call None h = by-free n.stage refl h.free
  by-call (Some call) h = so-far call x.call h.so_far

  -- what its lines left have, its node's lines have
  pub within-lines : list_any test (lines_of script q) ≡ true
  within-lines =
      let range = holds.pids.nodes q forked
      in let c : CallHolds script q (is_born_in w) x = holds.calls q range.0 range.1
      in by-call n.caller.under_way c.call
