use Rattle.std.proofs.Common.{◌≡◌, ◌∙◌, true, false, sym, ap}
use Rattle.waiter_fields.specs.Waiters.{are_different}
use Rattle.waiter_fields.proofs.Passing.{are-passed, no-count, too-few}
use Rattle.waiter_fields.proofs.skipping.skip_waiters.Goals as goal

pub returns-in_err-count : goal.returns-in_err-count
returns-in_err-count g c =
    rw c.from_residual.ensures
    (no-count g.C.WaitingCalls.call_at c.args.bytes.now c.in_err-count.ensures.read)

pub returns-in_err-rest : goal.returns-in_err-rest
returns-in_err-rest g c =
    rw c.from_residual-in_err-rest.ensures
    (too-few g.C.WaitingCalls.call_at c.args.bytes.now c.in_ok-count.count c.in_ok-count.rest.now
    c.in_ok-count.ensures.read c.in_err-rest.ensures)

pub returns-then-not-are_different : goal.returns-then-not-are_different
returns-then-not-are_different g c =
    let pids = c.read_processes.new.into.items in
    let own : are_different pids ≡ false =
    ap are_different (sym c.as_slice.ensures.value) ∙ sym c.are_different.ensures ∙ c.if-not-are_different.true in
    are-passed g.C.WaitingCalls.call_at c.args.bytes.now c.in_ok-count.count c.in_ok-count.rest.now pids
    c.in_ok-rest.rest.now false c.in_ok-count.ensures.read c.in_ok-rest.ensures own

pub returns : goal.returns
returns g c =
    let pids = c.read_processes.new.into.items in
    let own : are_different pids ≡ true =
    ap are_different (sym c.as_slice.ensures.value) ∙ sym c.are_different.ensures ∙ c.if-not-are_different.false in
    are-passed g.C.WaitingCalls.call_at c.args.bytes.now c.in_ok-count.count c.in_ok-count.rest.now pids
    c.in_ok-rest.rest.now true c.in_ok-count.ensures.read c.in_ok-rest.ensures own
