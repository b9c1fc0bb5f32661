use Rattle.std.proofs.lemmas.List.{nil_from_length}
use Rattle.waiter_fields.proofs.Passing.{are-read, none-of-nothing}
use Rattle.waiter_fields.proofs.reading.read_waiters.Goals as goal

pub returns-in-Some-split_first : goal.returns-in-Some-split_first
returns-in-Some-split_first g c =
    rw (are-read g.C.WaitingCalls.call_at c.args.bytes.now _ c.in-Some-split_first.rest.now c.in-Some.count
    c.in-Some.field-0-1.now c.in-Some-split_first.ensures.cases.0 c.in-Some.ensures)
    c.read_many.ensures

pub returns-in-None : goal.returns-in-None
returns-in-None g c =
    none-of-nothing g.C.WaitingCalls.call_at c.args.bytes.now (nil_from_length c.args.bytes.now c.in-None.ensures.cases)
