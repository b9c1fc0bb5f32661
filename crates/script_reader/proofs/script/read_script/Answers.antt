use Rattle.script_reader.specs.Fault.{outcome}
use Rattle.script_reader.proofs.Given.{given_ok, given_fault, given_only, given_only_fault}
use Rattle.script_reader.proofs.Sound.{given_sound}
use Rattle.script_reader.proofs.script.read_script.Goals as goal

pub returns-clause-ok : goal.returns-clause-ok
returns-clause-ok c = given_ok c.read.result (outcome c.args.bytes.now) c.read.ensures

pub returns-clause-fault : goal.returns-clause-fault
returns-clause-fault c = given_fault c.read.result (outcome c.args.bytes.now) c.read.ensures

pub returns-clause-only : goal.returns-clause-only
returns-clause-only c = given_only c.read.result (outcome c.args.bytes.now) c.read.ensures

pub returns-clause-only_fault : goal.returns-clause-only_fault
returns-clause-only_fault c = given_only_fault c.read.result (outcome c.args.bytes.now) c.read.ensures

pub returns-clause-sound : goal.returns-clause-sound
returns-clause-sound c = given_sound c.args.bytes.now c.read.result c.read.ensures
