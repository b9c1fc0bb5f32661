use Rattle.std.proofs.Common.{◌<◌, length, arith}
use Rattle.script_reader.proofs.Edges.{end_within, end_place, edges_after}
use Rattle.script_reader.proofs.words.plain_end.Goals as goal

pub without_bit-requires : goal.without_bit-requires
without_bit-requires c =
    let next = c.next_set-end in
    omega (
      arith,
      c.requires.stops.short,
      end_within c.args.line.now c.args.stops.ends c.args.stops.solids c.args.edges c.args.start next.result
          c.requires.stops c.requires.inside c.requires.edges c.requires.set next.ensures.clear,
    )

pub returns-clause-value : goal.returns-clause-value
returns-clause-value c =
    let next = c.next_set-end in
    end_place c.args.line.now c.args.stops.ends c.args.stops.solids c.args.edges c.args.start next.result
    c.requires.stops c.requires.inside c.requires.edges c.requires.set next.ensures.clear next.ensures.set

pub returns-clause-within : goal.returns-clause-within
returns-clause-within c =
    let next = c.next_set-end in
    end_within c.args.line.now c.args.stops.ends c.args.stops.solids c.args.edges c.args.start next.result
    c.requires.stops c.requires.inside c.requires.edges c.requires.set next.ensures.clear

pub returns-clause-edges : goal.returns-clause-edges
returns-clause-edges c =
    let next = c.next_set-end in
    let near : next.result < 64 = omega (
      arith,
      c.requires.stops.short,
      end_within c.args.line.now c.args.stops.ends c.args.stops.solids c.args.edges c.args.start next.result
          c.requires.stops c.requires.inside c.requires.edges c.requires.set next.ensures.clear,
    ) in
    edges_after c.args.stops.solids c.args.edges c.without_bit.result c.args.start next.result c.requires.edges
    c.requires.set next.ensures.clear near (next.ensures.set near) c.without_bit.ensures.clear
    c.without_bit.ensures.kept
