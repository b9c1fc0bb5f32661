use Rattle.std.proofs.Common.{◌+◌, length, sym, ap, ◌∙◌, arith}
use Rattle.script_reader.specs.Words.{lines_of}
use Rattle.script_reader.specs.Fault.{start, ending}
use Rattle.script_reader.proofs.Steps.{behind_blocks, calls_within, start_place, gives_same}
use Rattle.mq_model.specs.Reading.{mq_blocks_from}
use Rattle.posix_mq.proofs.QueueSteps.{mq_blocks_from-stops, mq_blocks_from-goes, mq_blocks_from-ends}
use Rattle.posix_mq.proofs.read.blocks_with.Goals as goal

pub loop-bytes-init : goal.loop-bytes-init
loop-bytes-init c =
    let first = start_place c.len.result c.in_ok-place.place c.in_ok-place.ensures in
    record {
      reads = ap (λ p. mq_blocks_from c.args.names.now p 1 (lines_of c.args.text.now))
          (c.in_ok-place.ensures ∙ ap start c.len.ensures);
      counted = omega arith;
      blocks = omega (arith, first.0);
      calls = omega (arith, first.1);
    }

pub returns-in-Some-fault_of : goal.returns-in-Some-fault_of
returns-in-Some-fault_of c =
    let l = c.loop-bytes in
    let from = mq_blocks_from c.args.names.now l.place l.number in
    sym l.invariant.reads ∙ ap from c.in-Some.ensures.lines
    ∙ mq_blocks_from-stops c.args.names.now l.place l.number c.in-Some.bytes.now
    (lines_of c.in-Some.after.now) c.read_mq_line.new.said c.in-Some-fault_of.fault c.in_ok-read_mq_line.ensures
    (sym c.fault_of.ensures ∙ c.in-Some-fault_of.is)

pub loop-bytes-preserved : goal.loop-bytes-preserved
loop-bytes-preserved c =
    let l = c.loop-bytes in
    let from = mq_blocks_from c.args.names.now in
    let none = sym c.fault_of.ensures ∙ c.in_default-fault_of.is in
    let goes = mq_blocks_from-goes c.args.names.now l.place l.number c.in-Some.bytes.now
    (lines_of c.in-Some.after.now) c.read_mq_line.new.said c.in_ok-read_mq_line.ensures none in
    record {
      reads = ap (λ p. from p (l.number + 1) (lines_of c.in-Some.after.now)) c.in_ok-go_behind.ensures ∙ sym goes
          ∙ sym (ap (from l.place l.number) c.in-Some.ensures.lines) ∙ l.invariant.reads;
      counted = omega (arith, c.in-Some.ensures.shorter, l.invariant.counted);
      blocks = omega (
        arith,
        l.invariant.blocks,
        behind_blocks l.place c.read_mq_line.new.said,
        ap (λ p. length p.blocks) c.in_ok-go_behind.ensures,
      );
      calls = omega (
        arith,
        calls_within l.place (length c.in-Some.bytes.now) c.read_mq_line.new.said none,
        ap (λ p. p.calls) c.in_ok-go_behind.ensures,
      );
    }

pub returns : goal.returns
returns c =
    let l = c.loop-bytes in
    let from = mq_blocks_from c.args.names.now l.place l.number in
    gives_same c.ending.result (ending l.place l.number) _
    (sym (mq_blocks_from-ends c.args.names.now l.place l.number
    (lines_of l.rest.now) c.in_default.ensures.lines) ∙ l.invariant.reads) c.ending.ensures
