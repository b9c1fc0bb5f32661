use Rattle.std.proofs.Common.{◌∙◌, sym}
use Rattle.node_serve.specs.Callers.{waiting_with}
use Rattle.node_serve.proofs.OwnRows.{answers-own-or, child-is-due, due-on-own-row, none-elsewhere}
use Rattle.node_serve.proofs.own.reply_on_own.Goals as goal

pub returns-clause-left : goal.returns-clause-left
returns-clause-left c =
    answers-own-or c.args.deeds.now.bodies c.on_own_deed-own.new.deeds.bodies c.bury_found.new.deeds.bodies
    (waiting_with c.args.who.now c.args.call.now) c.on_own_deed-own.result
    (sym c.is_on_own_row.ensures ∙ c.if-not-is_on_own_row.false) c.on_own_deed-own.ensures.left
    c.in_ok-bury_found.ensures.buried

pub returns-then-not-is_on_own_row-clause-due : goal.returns-then-not-is_on_own_row-clause-due
returns-then-not-is_on_own_row-clause-due c =
    none-elsewhere c.args.deeds.now.bodies (waiting_with c.args.who.now c.args.call.now)
    (sym c.is_on_own_row.ensures ∙ c.if-not-is_on_own_row.true)

pub returns-clause-due : goal.returns-clause-due
returns-clause-due c =
    due-on-own-row c.args.deeds.now.bodies (waiting_with c.args.who.now c.args.call.now) c.on_own_deed-own.result
    (sym c.is_on_own_row.ensures ∙ c.if-not-is_on_own_row.false) c.on_own_deed-own.ensures.due

pub returns-in_err-bury_found-clause-memory : goal.returns-in_err-bury_found-clause-memory
returns-in_err-bury_found-clause-memory c =
    let old = c.args.deeds.now.bodies
    in let who = waiting_with c.args.who.now c.args.call.now
    in child-is-due c.from_residual.result old who c.on_own_deed-own.result
    (due-on-own-row old who c.on_own_deed-own.result
    (sym c.is_on_own_row.ensures ∙ c.if-not-is_on_own_row.false) c.on_own_deed-own.ensures.due)
    c.in_err-bury_found.ensures.memory
