use Rattle.std.proofs.Common.{◌≡◌, ◌∙◌, false, nat_eq, refl, sym, arith}
use Rattle.std.specs.List.{list_any}
use Rattle.sysv_sem.proofs.Removed.{none_further, any_there}
use Rattle.sysv_sem.proofs.Walk.{begins, there, further, ends, has_all}
use Rattle.sysv_sem.proofs.waiters.waits.Goals as goal

pub loop-init : goal.loop-init
loop-init c =
    begins c.args.waiters.now.nodes (λ ws. list_any (λ w. nat_eq c.args.pid w.pid) ws ≡ false) c.first-at.result
    c.first-at.ensures.slot refl

pub value-requires : goal.value-requires
value-requires c =
    there c.args.waiters.now.nodes (λ ws. list_any (λ w. nat_eq c.args.pid w.pid) ws ≡ false) c.loop.at c.loop.counter
    c.in-Some.slot c.have_own_slots.ensures c.in-Some.is c.loop.invariant

pub next-at-requires : goal.next-at-requires
next-at-requires c =
    there c.args.waiters.now.nodes (λ ws. list_any (λ w. nat_eq c.args.pid w.pid) ws ≡ false) c.loop.at c.loop.counter
    c.in-Some.slot c.have_own_slots.ensures c.in-Some.is c.loop.invariant

pub loop-preserved : goal.loop-preserved
loop-preserved c =
    further c.args.waiters.now.nodes (λ ws. list_any (λ w. nat_eq c.args.pid w.pid) ws ≡ false)
    (λ ws. list_any (λ w. nat_eq c.args.pid w.pid) ws ≡ false) c.loop.at c.next-at.result c.loop.counter c.in-Some.slot
    c.value.result.now c.have_own_slots.ensures c.in-Some.is c.value.ensures c.next-at.ensures.slot
    (none_further (λ w. nat_eq c.args.pid w.pid) c.value.result.now (sym c.is_of.ensures ∙ c.if-is_of.false))
    c.loop.invariant

pub returns-in_default : goal.returns-in_default
returns-in_default c =
    sym
    (ends c.args.waiters.now.nodes (λ ws. list_any (λ w. nat_eq c.args.pid w.pid) ws ≡ false) c.loop.at c.loop.counter
    c.in_default.is c.loop.invariant)

pub returns-then-is_of : goal.returns-then-is_of
returns-then-is_of c =
    sym
    (any_there (λ w. nat_eq c.args.pid w.pid) c.args.waiters.now.nodes
    (λ ws. list_any (λ w. nat_eq c.args.pid w.pid) ws ≡ false) c.loop.at c.loop.counter c.in-Some.slot
    c.value.result.now c.have_own_slots.ensures c.in-Some.is c.value.ensures (sym c.is_of.ensures ∙ c.if-is_of.true)
    c.loop.invariant)

pub returns : goal.returns
returns c =
    let all = c.loop-test.false in
    let len = c.len-end.ensures in
    sym
    (has_all c.args.waiters.now.nodes (λ ws. list_any (λ w. nat_eq c.args.pid w.pid) ws ≡ false) c.loop.at
    c.loop.counter (omega arith) c.loop.invariant)
