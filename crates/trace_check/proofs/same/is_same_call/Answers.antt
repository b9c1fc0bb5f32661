use Rattle.std.proofs.Common.{◌∙◌, sym}
use Rattle.trace_check.proofs.SameTexts.{equal-call}
use Rattle.trace_check.proofs.same.is_same_call.Goals as goal

pub returns-then-is_equal_call : goal.returns-then-is_equal_call
returns-then-is_equal_call c =
    equal-call c.args.script.now c.args.call.now c.args.other.now (sym c.is_call.ensures ∙ c.if-not-is_call.false)
    (c.is_equal_call.ensures c.if-is_equal_call.true)
