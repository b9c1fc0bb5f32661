use Rattle.std.proofs.Common.{◌<◌, arith}
use Rattle.script_reader.proofs.Marked.{solid_marked, solid_missed}
use Rattle.script_reader.proofs.Edges.{clear_to_edge, edge_low, solid_at_edge, edges_behind}
use Rattle.script_reader.proofs.words.marked_start.Goals as goal

pub returns-then-start-lt-LANES-clause-some : goal.returns-then-start-lt-LANES-clause-some
returns-then-start-lt-LANES-clause-some c =
    let next = c.next_set-start in
    let solids = c.args.stops.solids in
    let near : next.result < 64 = c.if-start-lt-LANES.true in
    (solid_marked c.args.line.now c.args.stops.ends solids c.args.at next.result c.requires.stops
    (edge_low solids c.args.edges c.args.at next.result c.requires.edges (next.ensures.set near))
    (λ k low before. clear_to_edge solids c.args.edges c.args.at next.result c.requires.edges next.ensures.clear k low
    before (omega (arith, before, near)))
    near
    (solid_at_edge solids c.args.edges c.args.at next.result c.requires.edges next.ensures.clear near
    (next.ensures.set near))).1

pub returns-then-start-lt-LANES-clause-within : goal.returns-then-start-lt-LANES-clause-within
returns-then-start-lt-LANES-clause-within c =
    let next = c.next_set-start in
    let solids = c.args.stops.solids in
    let near : next.result < 64 = c.if-start-lt-LANES.true in
    (solid_marked c.args.line.now c.args.stops.ends solids c.args.at next.result c.requires.stops
    (edge_low solids c.args.edges c.args.at next.result c.requires.edges (next.ensures.set near))
    (λ k low before. clear_to_edge solids c.args.edges c.args.at next.result c.requires.edges next.ensures.clear k low
    before (omega (arith, before, near)))
    near
    (solid_at_edge solids c.args.edges c.args.at next.result c.requires.edges next.ensures.clear near
    (next.ensures.set near))).0

pub returns-then-start-lt-LANES-clause-set : goal.returns-then-start-lt-LANES-clause-set
returns-then-start-lt-LANES-clause-set c =
    let next = c.next_set-start in
    let near : next.result < 64 = c.if-start-lt-LANES.true in
    solid_at_edge c.args.stops.solids c.args.edges c.args.at next.result c.requires.edges next.ensures.clear near
    (next.ensures.set near)

pub returns-then-start-lt-LANES-clause-edges : goal.returns-then-start-lt-LANES-clause-edges
returns-then-start-lt-LANES-clause-edges c =
    let next = c.next_set-start in
    let near : next.result < 64 = c.if-start-lt-LANES.true in
    edges_behind c.args.stops.solids c.args.edges c.without_bit.result c.args.at next.result c.requires.edges
    next.ensures.clear near (next.ensures.set near) c.without_bit.ensures.clear c.without_bit.ensures.kept

pub returns-else-start-lt-LANES-clause-none : goal.returns-else-start-lt-LANES-clause-none
returns-else-start-lt-LANES-clause-none c none =
    let next = c.next_set-start in
    let solids = c.args.stops.solids in
    solid_missed c.args.line.now c.args.stops.ends solids c.args.at 64 c.requires.stops c.requires.inside
    (λ k low before. clear_to_edge solids c.args.edges c.args.at next.result c.requires.edges next.ensures.clear k low
    (omega (arith, before, c.if-start-lt-LANES.false)) before)
    (omega arith)
