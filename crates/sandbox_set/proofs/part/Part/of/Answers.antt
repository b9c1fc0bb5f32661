use Rattle.std.proofs.Common.{sym, ◌∙◌}
use Rattle.script_reader.specs.Words.{lines_of}
use Rattle.sandbox_set.proofs.Cuts.{cut_next, part_at, part_end}
use Rattle.sandbox_set.proofs.part.Part.of.Goals as goal

pub returns-then-ends_script : goal.returns-then-ends_script
returns-then-ends_script c =
    let l = c.loop-line in
    part_at c.args.bytes.now l.behind.now c.in-Some.line.now (lines_of c.in-Some.after.now) l.lines l.invariant
    c.in-Some.ensures.lines (sym c.ends_script.ensures ∙ c.if-ends_script.true)

pub loop-line-preserved : goal.loop-line-preserved
loop-line-preserved c =
    let l = c.loop-line in
    cut_next c.args.bytes.now l.behind.now l.lines l.invariant c.in-Some.line.now c.in-Some.after.now
    c.in-Some.ensures.lines c.in-Some.ensures.behind c.in-Some.ensures.shorter
    (sym c.ends_script.ensures ∙ c.if-ends_script.false)

pub returns : goal.returns
returns c =
    let l = c.loop-line in
    part_end c.args.bytes.now l.behind.now l.lines l.invariant c.in_default.ensures.lines
