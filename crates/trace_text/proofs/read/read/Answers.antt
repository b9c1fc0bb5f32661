use Rattle.std.proofs.Common.{◌≡◌, ◌∙◌, ℕ, ◌+◌, ◌-◌, ◌<◌, List, length, sym, ap, arith}
use Rattle.pico_base.specs.declared.reply.Entry.{Entry}
use Rattle.kernel_model.specs.Trace.{totals_line}
use Rattle.trace_text.specs.Reading.{is_line}
use Rattle.trace_text.proofs.ReadLaws.{read-full, read-end, read-unfit, read-whole, read-more, read-none, read-goes, ended-is, fits-room}
use Rattle.trace_text.proofs.read.read.Goals as goal

pub returns-in_default : goal.returns-in_default
returns-in_default c =
    sym c.loop.invariant.so_far
    ∙ read-end c.args.script.now c.loop.line c.loop.left c.loop.done c.loop.rest.now
    (length c.args.bytes.now - c.loop.counter) c.in_default.ensures

pub returns-then-not-fits : goal.returns-then-not-fits
returns-then-not-fits c =
    sym c.loop.invariant.so_far
    ∙ read-unfit c.args.script.now c.loop.line c.loop.left c.loop.done c.loop.rest.now c.in-Some.text.now
    c.in-Some.after.now c.in-Some.ensures
    (length c.args.bytes.now - c.loop.counter) (sym c.fits.ensures ∙ c.if-not-fits.true)

pub returns-then-is_empty : goal.returns-then-is_empty
returns-then-is_empty c =
    sym c.loop.invariant.so_far
    ∙ read-whole c.args.script.now c.loop.line c.loop.left c.loop.done c.loop.rest.now c.in-Some.text.now
    c.in-Some.after.now c.in-Some.ensures
    (length c.args.bytes.now - c.loop.counter) (omega arith) (sym c.fits.ensures ∙ c.if-not-fits.false)
    (sym (c.in_ok-is_totals.ensures
    ∙ ap (λ (d : List Entry). is_line (totals_line d) c.in-Some.text.now) c.as_slice.ensures) ∙ c.if-branch.true)
    (ended-is c.in-Some.after.now ∙ sym c.is_empty.ensures ∙ c.if-is_empty.true)

pub returns-else-is_empty : goal.returns-else-is_empty
returns-else-is_empty c =
    sym c.loop.invariant.so_far
    ∙ read-more c.args.script.now c.loop.line c.loop.left c.loop.done c.loop.rest.now c.in-Some.text.now
    c.in-Some.after.now c.in-Some.ensures
    (length c.args.bytes.now - c.loop.counter) (omega arith) (sym c.fits.ensures ∙ c.if-not-fits.false)
    (sym (c.in_ok-is_totals.ensures
    ∙ ap (λ (d : List Entry). is_line (totals_line d) c.in-Some.text.now) c.as_slice.ensures) ∙ c.if-branch.true)
    (ended-is c.in-Some.after.now ∙ sym c.is_empty.ensures ∙ c.if-is_empty.false)

pub returns-in_default-2 : goal.returns-in_default-2
returns-in_default-2 c =
    sym c.loop.invariant.so_far
    ∙ read-none c.args.script.now c.loop.line c.loop.left c.loop.done c.loop.rest.now c.in-Some.text.now
    c.in-Some.after.now c.in-Some.ensures
    (length c.args.bytes.now - c.loop.counter) (sym c.fits.ensures ∙ c.if-not-fits.false)
    (sym (c.in_ok-is_totals.ensures
    ∙ ap (λ (d : List Entry). is_line (totals_line d) c.in-Some.text.now) c.as_slice.ensures) ∙ c.if-branch.false)
    (sym c.in_ok-entry.ensures ∙ c.in_default-2.is)

pub loop-preserved : goal.loop-preserved
loop-preserved c =
    let n : ℕ = length c.args.bytes.now - c.loop.counter in
    let fewer : n - 1 ≡ length c.args.bytes.now - (c.loop.counter + 1) = omega arith in
    let room : length c.in-Some.text.now < c.loop.left =
    fits-room c.loop.left c.in-Some.text.now (sym c.fits.ensures ∙ c.if-not-fits.false) in
    let goes = read-goes c.args.script.now c.loop.line c.loop.left c.loop.done c.loop.rest.now c.in-Some.text.now
    c.in-Some.after.now c.in-Some.ensures n
    c.in-Some-2.entry (omega arith) (sym c.fits.ensures ∙ c.if-not-fits.false)
    (sym (c.in_ok-is_totals.ensures
    ∙ ap (λ (d : List Entry). is_line (totals_line d) c.in-Some.text.now) c.as_slice.ensures) ∙ c.if-branch.false)
    (sym c.in_ok-entry.ensures ∙ c.in-Some-2.is) in
    record {
      so_far = rw (c.in_ok-push.ensures.ok, ← fewer) (sym goes ∙ c.loop.invariant.so_far);
      few = omega arith;
    }

pub returns : goal.returns
returns c =
    sym c.loop.invariant.so_far
    ∙ read-full c.args.script.now c.loop.line c.loop.left c.loop.done c.loop.rest.now
    (length c.args.bytes.now - c.loop.counter) (omega arith)
