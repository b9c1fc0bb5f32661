use Rattle.sandbox_set.specs.Boxes.{outcome}
use Rattle.sandbox_set.proofs.Given.{given_ok, given_fault, given_only, given_only_fault}
use Rattle.sandbox_set.proofs.read.read_boxes.Goals as goal

pub returns-clause-ok : goal.returns-clause-ok
returns-clause-ok c = given_ok c.read.result (outcome c.args.bytes.now) c.read.ensures.gives

pub returns-clause-fault : goal.returns-clause-fault
returns-clause-fault c = given_fault c.read.result (outcome c.args.bytes.now) c.read.ensures.gives

pub returns-clause-only : goal.returns-clause-only
returns-clause-only c = given_only c.read.result (outcome c.args.bytes.now) c.read.ensures.gives

pub returns-clause-only_fault : goal.returns-clause-only_fault
returns-clause-only_fault c = given_only_fault c.read.result (outcome c.args.bytes.now) c.read.ensures.gives
