use Rattle.std.proofs.Common.{◌≡◌, sym, ◌∙◌, true}
use Rattle.check_input.specs.Parts.{is_marker}
use Rattle.check_input.proofs.Places.{at_start, at_next, marked_script, marked_trace, marked_length, marked_first, unmarked_script, unmarked_trace, unmarked_length, unmarked_first}
use Rattle.check_input.proofs.parts.Parts.of.Goals as goal

pub loop-line-init : goal.loop-line-init
loop-line-init c = at_start c.args.bytes.now

pub loop-line-preserved : goal.loop-line-preserved
loop-line-preserved c =
    at_next c.args.bytes.now c.loop-line.before c.loop-line.size c.loop-line.rest.now c.in-Some.line.now
    c.in-Some.after.now c.loop-line.invariant c.in-Some.ensures.lines c.in-Some.ensures.behind c.in-Some.ensures.shorter
    (sym c.is_marker.ensures ∙ c.if-is_marker.false)

pub returns-then-is_marker-clause-script : goal.returns-then-is_marker-clause-script
returns-then-is_marker-clause-script c =
    marked_script c.args.bytes.now c.loop-line.before c.loop-line.size c.loop-line.rest.now c.in-Some.line.now
    c.in-Some.after.now c.loop-line.invariant c.in-Some.ensures.lines c.in-Some.ensures.behind
    (sym c.is_marker.ensures ∙ c.if-is_marker.true)

pub returns-then-is_marker-clause-marker : goal.returns-then-is_marker-clause-marker
returns-then-is_marker-clause-marker c =
    marked_length c.args.bytes.now c.loop-line.before c.loop-line.size c.loop-line.rest.now c.in-Some.line.now
    c.in-Some.after.now c.loop-line.invariant c.in-Some.ensures.lines c.in-Some.ensures.behind
    (sym c.is_marker.ensures ∙ c.if-is_marker.true)

pub returns-then-is_marker-clause-trace : goal.returns-then-is_marker-clause-trace
returns-then-is_marker-clause-trace c =
    marked_trace c.args.bytes.now c.loop-line.before c.loop-line.size c.loop-line.rest.now c.in-Some.line.now
    c.in-Some.after.now c.loop-line.invariant c.in-Some.ensures.lines c.in-Some.ensures.behind
    (sym c.is_marker.ensures ∙ c.if-is_marker.true)

pub returns-then-is_marker-clause-first_line : goal.returns-then-is_marker-clause-first_line
returns-then-is_marker-clause-first_line c =
    marked_first c.args.bytes.now c.loop-line.before c.loop-line.size c.loop-line.rest.now c.in-Some.line.now
    c.in-Some.after.now c.loop-line.invariant c.in-Some.ensures.lines c.in-Some.ensures.behind
    (sym c.is_marker.ensures ∙ c.if-is_marker.true)

pub returns-clause-script : goal.returns-clause-script
returns-clause-script c =
    unmarked_script c.args.bytes.now c.loop-line.before c.loop-line.size c.loop-line.rest.now c.loop-line.invariant
    c.in_default.ensures.lines

pub returns-clause-marker : goal.returns-clause-marker
returns-clause-marker c =
    unmarked_length c.args.bytes.now c.loop-line.before c.loop-line.size c.loop-line.rest.now c.loop-line.invariant
    c.in_default.ensures.lines

pub returns-clause-first_line : goal.returns-clause-first_line
returns-clause-first_line c =
    unmarked_first c.args.bytes.now c.loop-line.before c.loop-line.size c.loop-line.rest.now c.loop-line.invariant
    c.in_default.ensures.lines
