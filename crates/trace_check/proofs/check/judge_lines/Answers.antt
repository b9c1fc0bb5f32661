use Rattle.std.proofs.Common.{◌≡◌, ◌∙◌, ℕ, Bool, ◌+◌, ◌-◌, ◌<◌, [], ◌∷◌, ◌++◌, length, refl, sym, ap, subst, arith, length-append}
use Rattle.trace_text.proofs.ReadLaws.{fits-room}
use Rattle.trace_check.specs.FirstFault.{Gives, GivesFault, judge_totals, first_going, verdict_of}
use Rattle.trace_text.specs.declared.fault.CheckFault.{CheckFault}
use Rattle.trace_check.specs.Told.{Goes, Keeps, kept_fault}
use Rattle.trace_check.specs.Judging.{so_far_of}
use Rattle.trace_check.specs.Cursors.{AreSteady, places_of}
use Rattle.trace_check.proofs.Cases.{judge-starts, judge-full, judge-end, judge-unfit, judge-whole, judge-text, judge-next}
use Rattle.trace_check.proofs.check.judge_lines.Goals as goal

pub loop-init : goal.loop-init
loop-init c = record {
  done = [];
  tally = c.requires.tally;
  steady = subst (AreSteady c.args.script.now) (sym c.requires.cursors)
      (record { waits = tt; rising = refl }, tt);
  so_far = judge-starts c.args.script.now _ c.args.bytes.now c.args.first_line _ _ (omega arith)
      c.requires.kernel c.requires.cursors;
  few = omega arith;
  count = omega arith;
}

pub returns-in_default : goal.returns-in_default
returns-in_default c =
    sym c.loop.invariant.so_far
    ∙ judge-end c.args.script.now c.loop.line c.loop.left c.loop.invariant.done
    (so_far_of c.args.script.now c.loop.judge.kernel c.loop.judge.cursors.entries) c.loop.rest.now
    (length c.args.bytes.now - c.loop.counter) c.in_default.ensures

pub returns-then-not-fits : goal.returns-then-not-fits
returns-then-not-fits c =
    sym c.loop.invariant.so_far
    ∙ judge-unfit c.args.script.now c.loop.line c.loop.left c.loop.invariant.done
    (so_far_of c.args.script.now c.loop.judge.kernel c.loop.judge.cursors.entries) c.loop.rest.now
    c.in-Some.text.now c.in-Some.after.now c.in-Some.ensures
    (length c.args.bytes.now - c.loop.counter) (sym c.fits.ensures ∙ c.if-not-fits.true)

pub returns-then-branch : goal.returns-then-branch
returns-then-branch c =
    let whole = sym c.loop.invariant.so_far
    ∙ judge-whole c.args.script.now c.loop.line c.loop.left c.loop.invariant.done
    (so_far_of c.args.script.now c.loop.judge.kernel c.loop.judge.cursors.entries) c.loop.rest.now
    c.in-Some.text.now c.in-Some.after.now c.in-Some.ensures
    (length c.args.bytes.now - c.loop.counter) (omega arith) (sym c.fits.ensures ∙ c.if-not-fits.false)
    (sym (c.in_ok-is_totals.ensures c.loop.invariant.done c.loop.invariant.tally) ∙ c.if-branch.true) in
    let entries : c.loop.line - c.args.first_line ≡ length c.loop.invariant.done =
    omega (arith, c.loop.invariant.count) in
    subst (Gives c.totals.result)
    (ap (λ (n : ℕ). judge_totals c.loop.line n
    (so_far_of c.args.script.now c.loop.judge.kernel c.loop.judge.cursors.entries) c.in-Some.after.now
    (first_going (places_of c.args.script.now c.loop.judge.cursors.entries))) entries ∙ sym whole)
    c.totals.ensures

pub returns-then-not-branch : goal.returns-then-not-branch
returns-then-not-branch c =
    subst (λ (fault : CheckFault). GivesFault fault (verdict_of c.args.script.now c.args.bytes.now c.args.first_line))
    (sym c.fault.ensures)
    (subst (GivesFault (kept_fault c.line.new.self.fault)) c.loop.invariant.so_far
    (judge-text c.args.script.now c.loop.line c.loop.left c.loop.invariant.done
    (so_far_of c.args.script.now c.loop.judge.kernel c.loop.judge.cursors.entries) c.loop.rest.now
    c.in-Some.text.now c.in-Some.after.now c.in-Some.ensures
    (length c.args.bytes.now - c.loop.counter) (omega arith)
    (sym c.fits.ensures ∙ c.if-not-fits.false)
    (sym (c.in_ok-is_totals.ensures c.loop.invariant.done c.loop.invariant.tally) ∙ c.if-branch.false)
    (kept_fault c.line.new.self.fault)
    (subst (λ (goes : Bool). Keeps goes c.args.script.now c.loop.line c.in-Some.text.now c.loop.judge c.line.new.self)
    c.if-not-branch.true c.in_ok-line.ensures.judged)))

pub loop-preserved : goal.loop-preserved
loop-preserved c =
    let n : ℕ = length c.args.bytes.now - c.loop.counter in
    let fewer : n - 1 ≡ length c.args.bytes.now - (c.loop.counter + 1) = omega arith in
    let room : length c.in-Some.text.now < c.loop.left =
    fits-room c.loop.left c.in-Some.text.now (sym c.fits.ensures ∙ c.if-not-fits.false) in
    let goes : Goes c.args.script.now c.in-Some.text.now c.loop.judge c.line.new.self =
    subst (λ (goes : Bool). Keeps goes c.args.script.now c.loop.line c.in-Some.text.now c.loop.judge c.line.new.self)
    c.if-not-branch.false c.in_ok-line.ensures.judged in
    let next = judge-next c.args.script.now c.loop.line c.loop.left c.loop.invariant.done
    (so_far_of c.args.script.now c.loop.judge.kernel c.loop.judge.cursors.entries) c.loop.rest.now
    c.in-Some.text.now c.in-Some.after.now c.in-Some.ensures n goes.entry (omega arith)
    (sym c.fits.ensures ∙ c.if-not-fits.false)
    (sym (c.in_ok-is_totals.ensures c.loop.invariant.done c.loop.invariant.tally) ∙ c.if-branch.false)
    goes.reads (so_far_of c.args.script.now c.line.new.self.kernel c.line.new.self.cursors.entries)
    (goes.judged c.loop.line) in
    let more : length (c.loop.invariant.done ++ goes.entry ∷ []) ≡ length c.loop.invariant.done + 1 =
    length-append c.loop.invariant.done (goes.entry ∷ []) in
    record {
      done = c.loop.invariant.done ++ goes.entry ∷ [];
      tally = goes.tally c.loop.invariant.done c.loop.invariant.tally;
      steady = c.in_ok-line.ensures.steady c.if-not-branch.false;
      so_far = rw (← fewer) (sym next ∙ c.loop.invariant.so_far);
      few = omega arith;
      count = omega (arith, more);
    }

pub returns : goal.returns
returns c =
    sym c.loop.invariant.so_far
    ∙ judge-full c.args.script.now c.loop.line c.loop.left c.loop.invariant.done
    (so_far_of c.args.script.now c.loop.judge.kernel c.loop.judge.cursors.entries) c.loop.rest.now
    (length c.args.bytes.now - c.loop.counter) (omega arith)
