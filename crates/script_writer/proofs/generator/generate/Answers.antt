use Rattle.script_writer.specs.Generated.{generated}
use Rattle.script_writer.proofs.Soundness.{given_sound, given_waits_never}
use Rattle.script_writer.proofs.generator.generate.Goals as goal

pub returns-clause-sound : goal.returns-clause-sound
unfolding generated
returns-clause-sound c = given_sound c.args.number c.script_with.result c.script_with.ensures

pub returns-clause-waits : goal.returns-clause-waits
unfolding generated
returns-clause-waits c = given_waits_never c.args.number c.script_with.result c.script_with.ensures
