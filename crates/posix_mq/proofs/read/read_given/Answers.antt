use Rattle.kernel_model.specs.Script.{IsSoundScript}
use Rattle.script_reader.proofs.Given.{given_ok, given_only, given_only_fault}
use Rattle.script_reader.proofs.Sound.{given_has}
use Rattle.mq_model.specs.Reading.{outcome}
use Rattle.mq_model.specs.Given.{IsGiven}
use Rattle.mq_model.specs.SystemV.{system_v}
use Rattle.posix_mq.proofs.GivenScripts.{reads_sound, reads_given, given_fault}
use Rattle.posix_mq.proofs.SystemSound.{system_sound}
use Rattle.posix_mq.proofs.read.read_given.Goals as goal

pub returns-clause-ok : goal.returns-clause-ok
returns-clause-ok c = given_ok c.outcome_of.result (outcome c.args.bytes.now) c.outcome_of.ensures

pub returns-clause-sound : goal.returns-clause-sound
returns-clause-sound c =
    given_has IsSoundScript c.outcome_of.result (outcome c.args.bytes.now) (reads_sound c.args.bytes.now)
    c.outcome_of.ensures

pub returns-clause-sound_script : goal.returns-clause-sound_script
returns-clause-sound_script c =
    given_has (λ given. IsSoundScript (system_v given)) c.outcome_of.result (outcome c.args.bytes.now)
    (λ given e. system_sound given (reads_sound c.args.bytes.now given e)) c.outcome_of.ensures

pub returns-clause-is_given : goal.returns-clause-is_given
returns-clause-is_given c =
    given_has IsGiven c.outcome_of.result (outcome c.args.bytes.now) (reads_given c.args.bytes.now)
    c.outcome_of.ensures

pub returns-clause-fault : goal.returns-clause-fault
returns-clause-fault c = given_fault c.outcome_of.result (outcome c.args.bytes.now) c.outcome_of.ensures

pub returns-clause-only : goal.returns-clause-only
returns-clause-only c = given_only c.outcome_of.result (outcome c.args.bytes.now) c.outcome_of.ensures

pub returns-clause-only_fault : goal.returns-clause-only_fault
returns-clause-only_fault c = given_only_fault c.outcome_of.result (outcome c.args.bytes.now) c.outcome_of.ensures
