use Rattle.std.proofs.Common.{arith}
use Rattle.std.proofs.lemmas.List.{nil_from_length}
use Rattle.node_serve.specs.Callers.{waiting_with}
use Rattle.serve_rules.proofs.Here.{served-here, unwoken-here}
use Rattle.serve_rules.proofs.carrying.serve_held.Goals as goal

pub returns-in_ok-readers-in-Did : goal.returns-in_ok-readers-in-Did
returns-in_ok-readers-in-Did c =
    served-here c.args.deeds.now.bodies c.serve.new.deeds.bodies c.args.name.now
    (waiting_with c.args.who.now c.args.call.now) c.in-Did.own c.in-Did.wakes c.as_slice.result.now c.in-Did.reads
    c.in-Did.readers c.in_ok-readers-in-Did.readers.items c.in_ok-own.field-0 c.in_ok-own.ensures.defined
    (c.may_make.ensures c.if-not-may_make.false) c.in-Did.is (c.is_on.ensures c.if-not-is_on.false) c.as_slice.ensures
    c.in_ok-readers-in-Did.ensures

pub returns-then-len-eq0 : goal.returns-then-len-eq0
returns-then-len-eq0 c =
    let who = waiting_with c.args.who.now c.args.call.now
    in c.unwoken.ensures c.args.deeds.now.bodies c.args.name.now who c.serve.new.deeds.bodies
    (unwoken-here c.args.deeds.now.bodies c.serve.new.deeds.bodies c.args.name.now who c.in-Did.own c.in-Did.wakes
    c.in-Did.reads c.in-Did.readers c.in_ok-own.field-0 c.in_ok-own.ensures.defined
    (c.may_make.ensures c.if-not-may_make.false) c.in-Did.is (c.is_on.ensures c.if-not-is_on.false)
    (nil_from_length c.in-Did.wakes (omega (arith, c.len.ensures, c.if-len-eq0.true))))
