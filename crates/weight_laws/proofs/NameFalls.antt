-- Events of names that move, and of how a node's life begins and ends, lower the weight with each call where it was.
use Rattle.std.proofs.Common.{◌≡◌, ◌≢◌, ℕ, List, [], sym, ◌∙◌}
use Rattle.std.proofs.lemmas.Bool.{ne_eqb}
use Rattle.pico_base.specs.declared.numbers.Name.{Name}
use Rattle.pico_base.specs.declared.script.Script.{Script}
use Rattle.rpc_frame.specs.declared.deed.PackedDeed.{PackedDeed}
use Rattle.rpc_frame.specs.declared.frame.Frame.{Frame}
use Rattle.rpc_frame.specs.declared.frame.Frame.TheVariants as frames
use Rattle.kernel_model.specs.Script.{Vars}
use Rattle.world_model.specs.Node.{Node}
use Rattle.world_model.specs.World.{World}
use Rattle.world_laws.specs.Places.{Beside}
use Rattle.world_laws.specs.Sights.{node_of, is_born_in}
use Rattle.world_laws.specs.Families.{NodeHolds}
use Rattle.world_laws.specs.Invariant.{Holds}
use Rattle.world_laws.proofs.Steps.{Heads}
use Rattle.world_laws.proofs.Heads.{head-from-another, head-may-be}
use Rattle.weight_laws.proofs.Events.{TakesLower}
use Rattle.weight_laws.proofs.Names.{placed-lowers, suggest-lowers, recall-lowers, grant-lowers, checkpoint-lowers, leaving-lowers, recall-all-lowers}

module _ (script : Script) (w : World) (b : Beside) (holds : Holds script w [] b) (p q : ℕ) (rest : List Frame) where
  abbrev n : Node
  n = node_of w p

  -- The leader is told a name's place.
  pub placed-falls : (name : Name) (node : ℕ) → Heads script w p q (frames.Placed name node) rest
      → TakesLower script w p q (frames.Placed name node) b.call b.call
  placed-falls name node h =
      placed-lowers script n b.call q name node

  -- It is told that a name would be better elsewhere.
  pub suggest-falls : (name : Name) (to : ℕ) → Heads script w p q (frames.Suggest name to) rest
      → TakesLower script w p q (frames.Suggest name to) b.call b.call
  suggest-falls name to h =
      suggest-lowers script n b.call q name to

  -- A deed goes back.
  pub recall-falls : (name : Name) → Heads script w p q (frames.Recall name) rest
      → TakesLower script w p q (frames.Recall name) b.call b.call
  recall-falls name h =
      recall-lowers script n b.call q name

  -- A deed comes.
  pub grant-falls : (packed : PackedDeed) → Heads script w p q (frames.Grant packed) rest
      → TakesLower script w p q (frames.Grant packed) b.call b.call
  grant-falls packed h =
      grant-lowers script n b.call q packed

  -- A node is born.
  pub checkpoint-falls : (pid parent : ℕ) (deed : PackedDeed) (vars : Vars)
      → Heads script w p q (frames.Checkpoint pid parent deed vars) rest
      → TakesLower script w p q (frames.Checkpoint pid parent deed vars) b.call b.call
  checkpoint-falls pid parent deed vars h =
      checkpoint-lowers script n b.call q pid parent deed vars

  -- A node tells that it leaves.
  pub leaving-falls : (pid parent parent_node : ℕ) → Heads script w p q (frames.Leaving pid parent parent_node) rest
      → TakesLower script w p q (frames.Leaving pid parent parent_node) b.call b.call
  leaving-falls pid parent parent_node h =
      leaving-lowers script n b.call q pid parent parent_node

  asked-by-leader : Heads script w p q frames.RecallAll rest → q ≡ 1
  asked-by-leader h = head-may-be script w p q frames.RecallAll rest h (is_born_in w) holds.frames_fit

  another : Heads script w p q frames.RecallAll rest → p ≢ 1
  another h e =
      head-from-another script w p q frames.RecallAll rest h (is_born_in w) holds.frames_fit (asked-by-leader h ∙ sym e)

  -- It hands over what it holds.
  pub recall-all-falls : Heads script w p q frames.RecallAll rest
      → TakesLower script w p q frames.RecallAll b.call b.call
  recall-all-falls h =
      let m : NodeHolds script b.pids (is_born_in w) p n = holds.nodes p h.low h.high
      in λ s rule.
      recall-all-lowers script n b.call q s (ne_eqb n.number 1 (λ e. another h (sym m.number ∙ e))) rule
