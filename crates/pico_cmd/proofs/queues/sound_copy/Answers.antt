use Rattle.std.proofs.Common.{subst, sym}
use Rattle.kernel_model.specs.Script.{IsSoundScript}
use Rattle.pico_cmd.proofs.queues.sound_copy.Goals as goal

-- the copy is the script
pub returns-clause-sound : goal.returns-clause-sound
returns-clause-sound c = subst IsSoundScript (sym c.in_ok-copy.ensures) c.requires
