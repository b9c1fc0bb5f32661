use Rattle.std.proofs.Common.{◌≡◌, ◌∙◌, [], sym, arith}
use Rattle.std.proofs.lemmas.Bool.{eq-eqb, ne_eqb}
use Rattle.script_reader.specs.Words.{lines_of}
use Rattle.image_text.specs.Reading.{events_from}
use Rattle.image_text.proofs.Loops.{stops-outside, from-over, from-none-by, from-goes-by, from-whole, from-short}
use Rattle.image_text.proofs.reading.read_events.Goals as goal

pub returns-then-left-eq0 : goal.returns-then-left-eq0
returns-then-left-eq0 c =
    stops-outside c.outside.result c.loop-line.number
    (events_from c.args.nodes c.args.count 1 c.args.first [] (lines_of c.args.bytes.now)) c.outside.ensures
    (sym c.loop-line.invariant.so_far
    ∙ from-over c.args.nodes c.loop-line.left c.loop-line.low c.loop-line.number c.loop-line.events
    (lines_of c.loop-line.rest.now) c.in-Some.line.now (lines_of c.in-Some.after.now) c.in-Some.ensures.lines
    (eq-eqb c.loop-line.left 0 c.if-left-eq0.true))

pub returns-in_default-2 : goal.returns-in_default-2
returns-in_default-2 c =
    stops-outside c.outside-in_default-2.result c.loop-line.number
    (events_from c.args.nodes c.args.count 1 c.args.first [] (lines_of c.args.bytes.now))
    c.outside-in_default-2.ensures
    (sym c.loop-line.invariant.so_far
    ∙ from-none-by c.args.nodes c.loop-line.left c.loop-line.low c.loop-line.number c.loop-line.events
    (lines_of c.loop-line.rest.now) c.in-Some.line.now (lines_of c.in-Some.after.now) c.in-Some.ensures.lines
    (ne_eqb c.loop-line.left 0 c.if-left-eq0.false) (sym c.in_default-2.is ∙ c.in_ok-node.ensures.node))

pub loop-line-preserved : goal.loop-line-preserved
loop-line-preserved c = record {
  so_far =
      sym (from-goes-by c.args.nodes c.loop-line.left c.loop-line.low c.loop-line.number c.loop-line.events
      (lines_of c.loop-line.rest.now) c.in-Some.line.now (lines_of c.in-Some.after.now) c.in-Some.ensures.lines
      c.in-Some-2.node c.push_event.new.events
      (ne_eqb c.loop-line.left 0 c.if-left-eq0.false) (sym c.in-Some-2.is ∙ c.in_ok-node.ensures.node)
      c.in_ok-node.ensures.events)
      ∙ c.loop-line.invariant.so_far;
  few = omega (arith, c.loop-line.invariant.few, c.in-Some.ensures.shorter);
}

pub returns-then-left-eq0-2 : goal.returns-then-left-eq0-2
returns-then-left-eq0-2 c =
    sym c.loop-line.invariant.so_far
    ∙ from-whole c.args.nodes c.loop-line.left c.loop-line.low c.loop-line.number c.loop-line.events
    (lines_of c.loop-line.rest.now) c.in_default.ensures.lines (eq-eqb c.loop-line.left 0 c.if-left-eq0-2.true)

pub returns-else-left-eq0-2 : goal.returns-else-left-eq0-2
returns-else-left-eq0-2 c =
    stops-outside c.outside-else-left-eq0-2.result c.loop-line.number
    (events_from c.args.nodes c.args.count 1 c.args.first [] (lines_of c.args.bytes.now))
    c.outside-else-left-eq0-2.ensures
    (sym c.loop-line.invariant.so_far
    ∙ from-short c.args.nodes c.loop-line.left c.loop-line.low c.loop-line.number c.loop-line.events
    (lines_of c.loop-line.rest.now) c.in_default.ensures.lines (ne_eqb c.loop-line.left 0 c.if-left-eq0-2.false))
