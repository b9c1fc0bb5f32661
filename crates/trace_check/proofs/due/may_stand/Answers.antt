use Rattle.std.proofs.Common.{◌∙◌, sym}
use Rattle.kernel_model.specs.Fitting.{due}
use Rattle.trace_check.specs.Cursors.{place_of}
use Rattle.trace_check.proofs.DueLaws.{end-may}
use Rattle.trace_check.proofs.due.may_stand.Goals as goal

pub returns-in-None : goal.returns-in-None
returns-in-None c =
    end-may c.args.script.now c.args.found.now c.args.doom (due (place_of c.args.script.now c.args.cursor.now))
    c.in-None.is (sym c.has_call.ensures ∙ c.if-not-has_call.false) (sym c.is_killed.ensures ∙ c.if-is_killed.true)
