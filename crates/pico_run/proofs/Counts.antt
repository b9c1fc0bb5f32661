-- How many nodes a script has.
use Rattle.std.proofs.Common.{◌≤◌}
use Rattle.std.specs.Prelude.{nat_le}
use Rattle.std.proofs.lemmas.Bool.{and_parts, leb-true}
use Rattle.pico_base.specs.declared.script.Script.{Script}
use Rattle.kernel_model.specs.Script.{IsSoundScript}
use Rattle.world_model.specs.World.{node_count}

-- a sound script has a node
pub some-nodes : (script : Script) → IsSoundScript script → 1 ≤ node_count script
some-nodes script sound =
    leb-true 1 (node_count script)
    (and_parts (nat_le 1 (node_count script)) (nat_le (node_count script) 32) sound.size).0

-- and at most 32
pub few-nodes : (script : Script) → IsSoundScript script → node_count script ≤ 32
few-nodes script sound =
    leb-true (node_count script) 32
    (and_parts (nat_le 1 (node_count script)) (nat_le (node_count script) 32) sound.size).1
