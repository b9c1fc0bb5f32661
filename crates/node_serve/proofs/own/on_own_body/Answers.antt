use Rattle.std.proofs.Common.{ap, not, refl}
use Rattle.node_serve.specs.Callers.{waiting_with}
use Rattle.node_serve.proofs.OwnRows.{is-due, none-to-own-child, none-to-the-dead, own-or}
use Rattle.node_serve.proofs.own.on_own_body.Goals as goal

pub returns-else-is_child-clause-due : goal.returns-else-is_child-clause-due
returns-else-is_child-clause-due c =
    is-due c.args.body.now c.in-Living.row c.on_row.new.row (waiting_with c.args.who.now c.args.call.now)
    c.is_child.result c.on_row.result c.in-Living.is c.is_child.ensures (ap not c.if-is_child.false) c.on_row.ensures

pub returns-else-is_child-clause-left : goal.returns-else-is_child-clause-left
returns-else-is_child-clause-left c =
    own-or c.args.body.now c.in-Living.row c.on_row.new.row (waiting_with c.args.who.now c.args.call.now)
    c.is_child.result c.on_row.result c.in-Living.is c.is_child.ensures (ap not c.if-is_child.false) c.on_row.ensures

pub returns-then-is_child-clause-due : goal.returns-then-is_child-clause-due
returns-then-is_child-clause-due c =
    none-to-own-child c.args.body.now c.in-Living.row (waiting_with c.args.who.now c.args.call.now)
    c.is_child.result c.in-Living.is c.is_child.ensures c.if-is_child.true

pub returns-in_default : goal.returns-in_default
returns-in_default c = record {
  due = none-to-the-dead c.args.body.now (waiting_with c.args.who.now c.args.call.now) c.in_default.not-Living;
  left = refl;
}
