use Rattle.pico_cmd.proofs.Thaws.{sound_read}
use Rattle.pico_cmd.proofs.thawed.node_behind.Goals as goal

pub nodes_of-requires : goal.nodes_of-requires
nodes_of-requires c =
    sound_read c.args.world.now c.script.result.now c.requires.whole c.script.ensures c.requires.sound
