use Rattle.std.proofs.Common.{◌∙◌, Ok, Err, Some, sym, ap}
use Rattle.pico_base.specs.declared.call.Call.{Call}
use Rattle.number_maps.specs.Maps.{Numbered}
use Rattle.trace_text.specs.declared.fault.CheckFault.TheVariants.{NotTheScript}
use Rattle.trace_check.specs.declared.cursor.Cursor.{Cursor}
use Rattle.trace_check.specs.Judging.{so_far_of}
use Rattle.trace_check.proofs.JudgeLaws.{refused, illegal, made}
use Rattle.trace_check.proofs.PlaceLaws.{may-make-at}
use Rattle.trace_check.proofs.judge.Judge.call.Goals as goal

pub returns-then-not-branch-clause-judged : goal.returns-then-not-branch-clause-judged
returns-then-not-branch-clause-judged c =
    refused c.args.script.now c.args.line c.args.self.now.kernel c.args.self.now.cursors.entries c.args.pid
    c.args.call.now c.args.outcome.now c.last_doom-doom.result c.last_doom-doom.ensures
    c.in_ok-due.due c.in_ok-due.ensures
    (sym c.in_ok-may_come.ensures ∙ c.if-not-branch.true)
    ∙ ap (λ (found : Call). Err (NotTheScript c.args.line c.in_ok-due.due (Some found))) (sym c.in_ok-found.ensures)

pub move_on-requires-clause-may : goal.move_on-requires-clause-may
move_on-requires-clause-may c =
    may-make-at c.args.script.now c.args.self.now.cursors.entries c.args.pid c.last_doom-doom.result c.args.call.now
    (sym c.in_ok-may_come.ensures ∙ c.if-not-branch.false)

pub returns-in-Err-clause-judged : goal.returns-in-Err-clause-judged
returns-in-Err-clause-judged c =
    illegal c.args.script.now c.args.line c.args.self.now.kernel c.args.self.now.cursors.entries c.args.pid
    c.args.call.now c.args.outcome.now c.last_doom-doom.result c.last_doom-doom.ensures
    (sym c.in_ok-may_come.ensures ∙ c.if-not-branch.false) c.in-Err.fault c.in-Err.ensures

pub returns-clause-judged : goal.returns-clause-judged
returns-clause-judged c =
    made c.args.script.now c.args.line c.args.self.now.kernel c.args.self.now.cursors.entries c.args.pid
    c.args.call.now c.args.outcome.now c.last_doom-doom.result c.last_doom-doom.ensures
    (sym c.in_ok-may_come.ensures ∙ c.if-not-branch.false) c.requires.steady c.carry_out.new.kernel
    c.in-Ok.ensures
    ∙ ap (λ (es : Numbered Cursor). Ok (so_far_of c.args.script.now c.carry_out.new.kernel es))
    (sym c.in_ok-move_on.ensures.moved)
