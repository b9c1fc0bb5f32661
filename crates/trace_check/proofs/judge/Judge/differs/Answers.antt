use Rattle.std.proofs.Common.{◌∙◌, Some, Err, refl, sym, ap}
use Rattle.pico_base.specs.declared.reply.Outcome.{Outcome}
use Rattle.trace_text.specs.declared.fault.CheckFault.TheVariants.{Illegal}
use Rattle.trace_check.proofs.ToldLaws.{begun-may, carried-other, carried-same}
use Rattle.trace_check.proofs.judge.Judge.differs.Goals as goal

pub returns-then-not-branch-clause-judged : goal.returns-then-not-branch-clause-judged
returns-then-not-branch-clause-judged c = λ before h.
    carried-other c.args.script.now c.args.text.now c.requires.sound c.in-Some.entry
    (sym c.in_ok-entry.ensures ∙ c.in-Some.is) before c.args.self.now h c.in-Some-take.outcome
    (sym c.take.ensures.value ∙ c.in-Some-take.is) c.args.line
    (sym c.in_ok-is_same_outcome.ensures ∙ c.if-not-branch.true)
    ∙ ap (λ (o : Outcome). Err (Illegal c.args.line (Some c.in-Some-take.outcome) o)) (sym c.in_ok-trace.ensures)

pub move_on-requires-clause-may : goal.move_on-requires-clause-may
move_on-requires-clause-may c =
    begun-may c.args.script.now c.args.text.now c.requires.sound c.in-Some.entry
    (sym c.in_ok-entry.ensures ∙ c.in-Some.is) c.args.self.now.kernel c.args.self.now.cursors.entries c.requires.begun

pub returns-clause-judged : goal.returns-clause-judged
returns-clause-judged c = λ before h.
    record {
      entry = c.in-Some.entry;
      reads = sym c.in_ok-entry.ensures ∙ c.in-Some.is;
      judged = carried-same c.args.script.now c.args.text.now c.requires.sound c.in-Some.entry
          (sym c.in_ok-entry.ensures ∙ c.in-Some.is) before c.args.self.now h c.in-Some-take.outcome
          (sym c.take.ensures.value ∙ c.in-Some-take.is) c.move_on.new.cursors.entries c.requires.steady
          (sym c.in_ok-is_same_outcome.ensures ∙ c.if-not-branch.false) c.in_ok-move_on.ensures.moved;
      tally = λ done counted. c.in_ok-add_call.ensures done c.in-Some.entry refl refl (h.tally ∙ counted);
    }
