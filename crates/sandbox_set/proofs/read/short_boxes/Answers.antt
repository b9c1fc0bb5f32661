use Rattle.std.proofs.Common.{arith}
use Rattle.sandbox_set.proofs.Sandboxes.{stands_behind, read_nothing, read_all}
use Rattle.sandbox_set.proofs.Sounds.{sound_at_most}
use Rattle.sandbox_set.proofs.read.short_boxes.Goals as goal

pub read_line-requires-clause-stands : goal.read_line-requires-clause-stands
read_line-requires-clause-stands c =
    let l = c.loop-line in
    stands_behind l.reading.nodes l.reading.number l.rest.now c.in-Some.line.now c.in-Some.after.now
    l.invariant.stands c.in-Some.ensures.lines c.in-Some.ensures.behind c.in-Some.ensures.shorter

pub returns-then-len-eq0-clause-gives : goal.returns-then-len-eq0-clause-gives
returns-then-len-eq0-clause-gives c =
    let l = c.loop-line in
    read_nothing c.args.bytes.now l.reading.boxes l.reading.nodes l.reading.number l.rest.now l.invariant
    c.in_default.ensures.lines (omega (arith, c.len.ensures, c.if-len-eq0.true))

pub returns-clause-gives : goal.returns-clause-gives
returns-clause-gives c =
    let l = c.loop-line in
    read_all c.args.bytes.now l.reading.boxes l.reading.nodes l.reading.number l.rest.now l.invariant
    c.in_default.ensures.lines (λ e. omega (arith, e, c.len.ensures, c.if-len-eq0.false))

pub returns-clause-sound : goal.returns-clause-sound
returns-clause-sound c =
    let l = c.loop-line in
    sound_at_most l.reading.nodes l.reading.boxes l.invariant.sound l.invariant.stands.few
