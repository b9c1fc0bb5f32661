use Rattle.std.proofs.Common.{◌∙◌, Ok, refl, sym, ap}
use Rattle.number_maps.specs.Maps.{Numbered}
use Rattle.trace_text.specs.Expected.{EndsWith}
use Rattle.trace_check.specs.declared.cursor.Cursor.{Cursor}
use Rattle.trace_check.specs.Judging.{so_far_of}
use Rattle.trace_check.proofs.SameTexts.{outcome-itself}
use Rattle.trace_check.proofs.ToldLaws.{numberless, reads-expected, same-made}
use Rattle.trace_check.proofs.judge.Judge.begun.Goals as goal

pub returns-then-not-branch-clause-told : goal.returns-then-not-branch-clause-told
returns-then-not-branch-clause-told c = record {
  begun = record {
    pid = c.args.pid;
    call = c.args.call.now;
    rest = c.args.rest.now;
    small = c.requires.small;
    numberless = c.requires.numberless;
    grammar = c.requires.grammar;
    due = c.requires.due;
    is = refl;
  };
  outcome = c.in-Ok.outcome;
  other = refl;
  step = λ n. numberless c.args.self.now.kernel c.args.pid c.args.call.now n 0 c.requires.numberless
      ∙ c.in-Ok.ensures.ok;
  cursors = refl;
  tally = refl;
}

pub returns-in_ok-move_on-in-Ok-clause-told : goal.returns-in_ok-move_on-in-Ok-clause-told
returns-in_ok-move_on-in-Ok-clause-told c =
    let ends : EndsWith c.in-Ok.outcome c.args.rest.now = c.in_ok-is_end-in-Ok.ensures c.if-not-branch.false in
    record {
      entry = record { pid = c.args.pid; call = c.args.call.now; outcome = c.in-Ok.outcome; by = ends.node };
      reads = reads-expected c.args.script.now c.args.pid c.args.call.now c.args.rest.now c.in-Ok.outcome
          c.requires.sound c.requires.small c.requires.grammar ends;
      judged = λ line.
          same-made c.args.script.now c.requires.sound c.args.self.now.kernel c.args.self.now.cursors.entries c.args.pid
          c.args.call.now c.requires.due c.requires.numberless c.requires.grammar c.call.new.self c.in-Ok.outcome
          (λ n. numberless c.args.self.now.kernel c.args.pid c.args.call.now n 0 c.requires.numberless
          ∙ c.in-Ok.ensures.ok)
          c.in-Ok.outcome c.requires.steady (outcome-itself c.in-Ok.outcome ends.fits) line
          ∙ ap (λ (es : Numbered Cursor). Ok (so_far_of c.args.script.now c.call.new.self es))
          (sym c.in_ok-move_on-in-Ok.ensures.moved);
      tally = λ done counted. c.in_ok-add_call-in-Ok.ensures done
          (record { pid = c.args.pid; call = c.args.call.now; outcome = c.in-Ok.outcome; by = ends.node }) refl refl
          counted;
    }
