use Rattle.std.proofs.Common.{◌≡◌, ℕ, take, ap, sym, ◌∙◌, true}
use Rattle.image_text.specs.Parts.{ends_script}
use Rattle.image_text.proofs.Places.{at_start, at_next, marked_script, marked_lines, marked_number, unmarked_script, unmarked_lines, unmarked_number}
use Rattle.image_text.proofs.parts.Parts.of.Goals as goal

pub loop-line-init : goal.loop-line-init
loop-line-init c = at_start c.args.bytes.now

pub loop-line-preserved : goal.loop-line-preserved
loop-line-preserved c =
    at_next c.args.bytes.now c.loop-line.before c.loop-line.size c.loop-line.rest.now c.in-Some.line.now
    c.in-Some.after.now c.loop-line.invariant c.in-Some.ensures.lines c.in-Some.ensures.behind c.in-Some.ensures.shorter
    (sym c.ends_script.ensures ∙ c.if-ends_script.false)

pub returns-then-ends_script-clause-script : goal.returns-then-ends_script-clause-script
returns-then-ends_script-clause-script c =
    ap (λ (n : ℕ). take n c.args.bytes.now) c.saturating_sub.ensures
    ∙ marked_script c.args.bytes.now c.loop-line.before c.loop-line.size c.loop-line.rest.now c.in-Some.line.now
    c.in-Some.after.now c.loop-line.invariant c.in-Some.ensures.lines c.in-Some.ensures.behind
    (sym c.ends_script.ensures ∙ c.if-ends_script.true)

pub returns-then-ends_script-clause-lines : goal.returns-then-ends_script-clause-lines
returns-then-ends_script-clause-lines c =
    marked_lines c.args.bytes.now c.loop-line.before c.loop-line.size c.loop-line.rest.now c.in-Some.line.now
    c.in-Some.after.now c.loop-line.invariant c.in-Some.ensures.lines c.in-Some.ensures.behind
    (sym c.ends_script.ensures ∙ c.if-ends_script.true)

pub returns-then-ends_script-clause-number : goal.returns-then-ends_script-clause-number
returns-then-ends_script-clause-number c =
    marked_number c.args.bytes.now c.loop-line.before c.loop-line.size c.loop-line.rest.now c.in-Some.line.now
    c.in-Some.after.now c.loop-line.invariant c.in-Some.ensures.lines c.in-Some.ensures.behind
    (sym c.ends_script.ensures ∙ c.if-ends_script.true)

pub returns-clause-script : goal.returns-clause-script
returns-clause-script c =
    unmarked_script c.args.bytes.now c.loop-line.before c.loop-line.size c.loop-line.rest.now c.loop-line.invariant
    c.in_default.ensures.lines

pub returns-clause-number : goal.returns-clause-number
returns-clause-number c =
    unmarked_number c.args.bytes.now c.loop-line.before c.loop-line.size c.loop-line.rest.now c.loop-line.invariant
    c.in_default.ensures.lines
