use Rattle.std.proofs.Common.{◌≡◌, ◌∙◌, None, find, refl, sym, arith}
use Rattle.sysv_sem.specs.Waiters.{is_asked}
use Rattle.sysv_sem.proofs.Removed.{not_found_further, asked_there}
use Rattle.sysv_sem.proofs.Walk.{begins, there, further, ends, has_all}
use Rattle.sysv_sem.proofs.waiters.slot_of.Goals as goal

pub loop-init : goal.loop-init
loop-init c =
    begins c.args.waiters.now.nodes (λ ws. find (is_asked c.args.pid c.args.ticket) ws ≡ None) c.first-at.result
    c.first-at.ensures.slot refl

pub value-requires : goal.value-requires
value-requires c =
    there c.args.waiters.now.nodes (λ ws. find (is_asked c.args.pid c.args.ticket) ws ≡ None) c.loop.at c.loop.counter
    c.in-Some.slot c.have_own_slots.ensures c.in-Some.is c.loop.invariant

pub next-at-requires : goal.next-at-requires
next-at-requires c =
    there c.args.waiters.now.nodes (λ ws. find (is_asked c.args.pid c.args.ticket) ws ≡ None) c.loop.at c.loop.counter
    c.in-Some.slot c.have_own_slots.ensures c.in-Some.is c.loop.invariant

pub loop-preserved : goal.loop-preserved
loop-preserved c =
    further c.args.waiters.now.nodes (λ ws. find (is_asked c.args.pid c.args.ticket) ws ≡ None)
    (λ ws. find (is_asked c.args.pid c.args.ticket) ws ≡ None) c.loop.at c.next-at.result c.loop.counter c.in-Some.slot
    c.value.result.now c.have_own_slots.ensures c.in-Some.is c.value.ensures c.next-at.ensures.slot
    (not_found_further (is_asked c.args.pid c.args.ticket) c.value.result.now
    (sym c.is_asked.ensures ∙ c.if-is_asked.false)) c.loop.invariant

pub returns-in_default : goal.returns-in_default
returns-in_default c =
    ends c.args.waiters.now.nodes (λ ws. find (is_asked c.args.pid c.args.ticket) ws ≡ None) c.loop.at c.loop.counter
    c.in_default.is c.loop.invariant

pub returns-then-is_asked : goal.returns-then-is_asked
returns-then-is_asked c =
    asked_there c.args.pid c.args.ticket c.args.waiters.now.nodes c.loop.at c.loop.counter c.in-Some.slot
    c.value.result.now c.have_own_slots.ensures c.in-Some.is c.value.ensures
    (sym c.is_asked.ensures ∙ c.if-is_asked.true) c.loop.invariant

pub returns : goal.returns
returns c =
    let all = c.loop-test.false in
    let len = c.len-end.ensures in
    has_all c.args.waiters.now.nodes (λ ws. find (is_asked c.args.pid c.args.ticket) ws ≡ None) c.loop.at
    c.loop.counter (omega arith) c.loop.invariant
