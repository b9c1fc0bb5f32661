-- At rest each process that lives is at its own node, and its call waits there; nothing is left to do.
use Rattle.std.proofs.Common.{◌≡◌, ◌≢◌, ℕ, ◌≤◌, true, false, if◌then◌else◌, [], Option, Some, None, option_and_then, refl, ap, sym, subst, ◌∙◌}
use Rattle.std.proofs.lemmas.Bool.{eq-eqb, false≢true}
use Rattle.pico_base.specs.declared.call.Call.{Call}
use Rattle.pico_base.specs.declared.numbers.Name.{Name}
use Rattle.pico_base.specs.declared.numbers.Name.TheVariants.{Proc}
use Rattle.pico_base.specs.declared.script.Script.{Script}
use Rattle.kernel_laws.proofs.Plain.{not_some}
use Rattle.kernel_model.specs.Row.{Alive}
use Rattle.kernel_model.specs.Kernel.{Process, alive_in, living_at}
use Rattle.kernel_model.specs.Kernel as kernel
use Rattle.number_maps.specs.Maps.{get}
use Rattle.node_model.specs.Bodies.{Body, Deeds}
use Rattle.node_model.specs.Kinds.{get_named}
use Rattle.world_model.specs.Node.{Leaving, Left, Living, Node, Over, Stage, Unborn, is_living}
use Rattle.world_model.specs.Run.{IsAtRest}
use Rattle.world_model.specs.World.{World, node_count}
use Rattle.world_laws.specs.Callers.{FreeIn, HasEnded, HasNoCall, call_sight, is_end_stage}
use Rattle.world_laws.specs.Families.{FamilyHolds, HoldsIn, IsItsOwn, IsWhereFor, NodeHolds, checkpoints_to}
use Rattle.world_laws.specs.Invariant.{Holds, process_deed}
use Rattle.world_laws.specs.Names.{NameHolds, held_as, held_at, name_sight}
use Rattle.world_laws.specs.Places.{Beside, DeedPlace, InCheckpoint, InExitTo, InGiveBack, InGrant, InHand, InKept, InLeft, InTable, Unmade}
use Rattle.world_laws.specs.Sights.{is_born_in, node_of, stage_of}
use Rattle.bound_laws.specs.Bounded.{IsBounded}
use Rattle.rest_laws.specs.Laws.{IsQuiet}
use Rattle.rest_laws.proofs.Census.{is_way}
use Rattle.rest_laws.proofs.Held.{none-kept, not-in-hand, not-on-way, nothing-held}
use Rattle.rest_laws.proofs.Nodes.{WaitsHere, living-waits, node-at-rest, none-free, not-leaving}
use Rattle.rest_laws.proofs.Shaped.{holder-in-range, unborn-has-nothing}
use Rattle.rest_laws.proofs.Streams.{streams-empty}

-- a process is a node's, whose call waits
pub record Waits (script : Script) (w : World) (b : Beside) (pid : ℕ) : Type 0 where
  pub node : ℕ
  pub low : 1 ≤ node
  pub high : node ≤ node_count script
  pub pid_is : b.pids node ≡ pid
  pub call : Call
  pub waits : WaitsHere script w b node call

module _ (script : Script) (w : World) (b : Beside) (holds : Holds script w [] b) (rest : IsAtRest w)
    (bounded : IsBounded script w []) where
  -- ---- processes

  -- a node holds something only where its process lives, or is over
  held-at-work : (c : ℕ) (name : Name) (v : Body) → held_at w name c ≡ Some v → (a : Alive)
      → living_at b.kernel (b.pids c) ≡ Some a → stage_of w c ≡ Living
  held-at-work c name v there a lives = by-stage (stage_of w c) refl
    where
      range : (1 ≤ c) × (c ≤ node_count script)
      range = holder-in-range script w holds.shape c name v there

      node : NodeHolds script b.pids (is_born_in w) c (node_of w c)
      node = holds.nodes c range.0 range.1

      by-stage : (s : Stage) → stage_of w c ≡ s → stage_of w c ≡ Living
      by-stage Living e = e
      by-stage Unborn e =
          not_some v
          (sym (ap (λ (n : Node). get_named n.deeds name)
          (subst (λ s. HoldsIn c (node_of w c) s) e node.holds) ∙ unborn-has-nothing c name) ∙ there)
      by-stage Left e =
          not_some v
          (sym (ap (λ (m : Deeds). get_named m name)
          (subst (λ s. HoldsIn c (node_of w c) s) e node.holds) ∙ unborn-has-nothing c name) ∙ there)
      by-stage Leaving e = absurd (not-leaving script w b holds rest bounded c range.0 range.1 e)
      by-stage Over e =
          let free : HasNoCall script c (call_sight w [] b c) =
          none-free script w b holds rest bounded c range.0 range.1 (ap is_end_stage e) (ap is_living e)
          in let ended : HasEnded (call_sight w [] b c) =
          subst (λ s. FreeIn script c (call_sight w [] b c) s) e free.free
          in not_some a (sym ended.dead ∙ lives)

  -- the deed of one that lives would be at its node, or on its way
  lives-at-node : (c : ℕ) → b.pids c ≢ 0 → (a : Alive) → living_at b.kernel (b.pids c) ≡ Some a
      → stage_of w c ≡ Living
  lives-at-node c forked a lives = by-process family.process family.is family.where_it_is
    where
      family : FamilyHolds script b.pids b.places b.kernel (process_deed b.deed) (checkpoints_to script w c)
          (stage_of w c) c
      family = holds.families c forked

      no-way : (d : DeedPlace) → b.deed (Proc (b.pids c)) ≡ d → is_way d ≡ true → ⊥
      no-way d e way =
          false≢true (sym (not-on-way script w b holds rest bounded (Proc (b.pids c))) ∙ ap is_way e ∙ way)

      by-place : (d : DeedPlace) → b.deed (Proc (b.pids c)) ≡ d → IsItsOwn c d → stage_of w c ≡ Living
      by-place (InTable h) e own =
          let known : NameHolds script b.pids (is_born_in w) (Proc (b.pids c))
          (name_sight script w [] b (Proc (b.pids c))) = holds.names (Proc (b.pids c))
          in let body : Body = (name_sight script w [] b (Proc (b.pids c))).body
          in held-at-work c (Proc (b.pids c)) body
          (known.tables c ∙ ap (λ d. held_as d body c) e
          ∙ ap (λ t. if t then Some body else None) (eq-eqb h c own))
          a lives
      by-place (InKept g) e own = absurd (none-kept script w b holds rest bounded (Proc (b.pids c)) g e)
      by-place (InHand g) e own = absurd (not-in-hand script w b holds rest bounded (Proc (b.pids c)) g e)
      by-place (InCheckpoint to) e own = absurd (no-way (InCheckpoint to) e refl)
      by-place (InLeft g) e own = absurd (no-way (InLeft g) e refl)
      by-place (InExitTo g to) e own = absurd (no-way (InExitTo g to) e refl)
      by-place (InGrant to) e own = absurd own
      by-place (InGiveBack h) e own = absurd own
      by-place Unmade e own = absurd own

      dead : (v : Process) → get b.kernel.processes (b.pids c) ≡ Some v → alive_in v ≡ None → stage_of w c ≡ Living
      dead v is none = not_some a (sym (ap (option_and_then alive_in) is ∙ none) ∙ lives)

      by-process : (v : Process) → get b.kernel.processes (b.pids c) ≡ Some v
          → IsWhereFor c (b.deed (Proc (b.pids c))) v → stage_of w c ≡ Living
      by-process (kernel.Living alive) is at = by-place (b.deed (Proc (b.pids c))) refl at
      by-process (kernel.Ended ending) is at = dead (kernel.Ended ending) is refl
      by-process kernel.Gone is at = dead kernel.Gone is refl

  -- Who lives waits.
  pub who-lives-waits : (pid : ℕ) (a : Alive) → living_at b.kernel pid ≡ Some a → Waits script w b pid
  who-lives-waits pid a lives = by-process (get b.kernel.processes pid) refl
    where
      by-process : (o : Option Process) → get b.kernel.processes pid ≡ o → Waits script w b pid
      by-process None is = not_some a (sym (ap (option_and_then alive_in) is) ∙ lives)
      by-process (Some process) is =
          let pids = holds.pids
          in let of = pids.there pid process is
          in let forked : b.pids of.0 ≢ 0 = λ e. of.2 (sym of.1 ∙ e)
          in let range = pids.nodes of.0 forked
          in let living = living-waits script w b holds rest bounded of.0 range.0 range.1
          (lives-at-node of.0 forked a (ap (living_at b.kernel) of.1 ∙ lives))
          in record {
            node = of.0;
            low = range.0;
            high = range.1;
            pid_is = of.1;
            call = living.0;
            waits = living.1;
          }

  -- And nothing is left to do.
  pub rest-is-quiet : IsQuiet script w
  rest-is-quiet =
      record {
        streams = streams-empty script w b holds rest bounded;
        held = nothing-held script w b holds rest bounded;
        nodes = node-at-rest script w b holds rest bounded;
      }
