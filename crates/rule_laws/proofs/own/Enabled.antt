-- An enabled run of a node is one of a node of the script that can run.
use Rattle.std.proofs.Common.{◌≡◌, ℕ, ◌-◌, ◌≤◌, Bool, true, false, ◌&&◌, [], Option, Some, None, refl, ap, sym, ◌∙◌, arith}
use Rattle.std.proofs.lemmas.Bool.{false≢true, ltb-true}
use Rattle.std.proofs.lemmas.Option.{slice_get_within}
use Rattle.pico_base.specs.declared.script.Event.TheVariants as events
use Rattle.pico_base.specs.declared.script.Script.{Script}
use Rattle.kernel_model.specs.Script.{IsSoundScript}
use Rattle.world_model.specs.Node.{Node, can_run}
use Rattle.world_model.specs.World.{World, is_enabled, is_number, is_run_enabled, node_at, node_count}
use Rattle.world_laws.specs.Places.{Beside}
use Rattle.world_laws.specs.Sights.{node_of}
use Rattle.world_laws.specs.Invariant.{Holds, IsShaped}
use Rattle.world_laws.proofs.Steps.{node-there}
use Rattle.rule_laws.proofs.own.Runs.{Starts, starts}

pub record IsRun (script : Script) (w : World) (p : ℕ) : Type 0 where
  pub low : 1 ≤ p
  pub high : p ≤ node_count script
  pub can : can_run (node_of w p) ≡ true

both : (a c : Bool) → (a && c) ≡ true → (a ≡ true) × (c ≡ true)
both true c h = (refl, h)
both false c h = absurd (false≢true h)

same-node : (n m : Node) → Some n ≡ Some m → n ≡ m
same-node n m h = cc

run-by : (script : Script) (w : World) (p : ℕ) → IsShaped script w → 1 ≤ p → (o : Option Node) → node_at w p ≡ o
    → is_run_enabled o ≡ true → IsRun script w p
run-by script w p shape low None e h = absurd (false≢true h)
run-by script w p shape low (Some n) e h =
    let there = slice_get_within w.nodes (p - 1) n e
    in let count = shape.nodes
    in let high : p ≤ node_count script = omega (arith, there, count)
    in let same : node_of w p ≡ n = same-node (node_of w p) n (sym (node-there script w shape p low high) ∙ e)
    in record { low = low; high = high; can = ap can_run same ∙ h }

-- an enabled event that starts a call is a node's that can run
pub enabled-runs : (script : Script) (w : World) (p : ℕ) → IsShaped script w → is_enabled w (events.Run p) ≡ true
    → IsRun script w p
enabled-runs script w p shape h =
    let parts = both (is_number p) (is_run_enabled (node_at w p)) h
    in run-by script w p shape (ltb-true 0 p parts.0) (node_at w p) refl parts.1

-- and what that start uses is known
pub enabled-starts : (script : Script) (w : World) (b : Beside) (p : ℕ) → IsSoundScript script → Holds script w [] b
    → is_enabled w (events.Run p) ≡ true → Starts script w b p
enabled-starts script w b p sound holds h =
    let r : IsRun script w p = enabled-runs script w p holds.shape h
    in starts script sound w b holds p r.low r.high r.can
