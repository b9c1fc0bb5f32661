use Rattle.std.proofs.Common.{◌∙◌, sym}
use Rattle.trace_check.proofs.SameTexts.{equal-reply}
use Rattle.trace_check.proofs.same.is_same_reply.Goals as goal

pub returns-then-is_equal_reply : goal.returns-then-is_equal_reply
returns-then-is_equal_reply c =
    equal-reply c.args.reply.now c.args.other.now (sym c.is_reply.ensures ∙ c.if-not-is_reply.false)
    (c.is_equal_reply.ensures c.if-is_equal_reply.true)
