use Rattle.std.proofs.Common.{◌≡◌, ◌≤◌, take, count_by, Some}
use Rattle.kernel_model.specs.Trace as trace
use Rattle.trace_text.proofs.totals.refusals_of.Given as goal

-- the callers so far
abbrev pub invariant-loop-reply : goal.invariant-loop-reply
invariant-loop-reply l = record {
  not_ready : l.not_ready ≡ count_by (λ w. trace.is_not_ready_reply (Some w.1)) (take l.reply-index l.reply-items);
  refused : l.refused ≡ count_by (λ w. trace.is_refused_reply (Some w.1)) (take l.reply-index l.reply-items);
  not_ready_few : l.not_ready ≤ l.reply-index;
  refused_few : l.refused ≤ l.reply-index;
}
