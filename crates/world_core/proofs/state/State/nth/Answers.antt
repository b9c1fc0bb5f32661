use Rattle.std.proofs.Common.{◌+◌, ◌-◌, ℕ, List, sym, ap, subst, slice_get, ◌∙◌, arith}
use Rattle.pico_base.specs.declared.script.Event.{Event}
use Rattle.world_model.specs.Schedule.{enabled_at}
use Rattle.world_model.specs.World.{node_count}
use Rattle.world_core.specs.State.{world_of}
use Rattle.world_core.proofs.Choosing.{keeps-alive, counts-wide, next-there, chosen-none}
use Rattle.world_core.proofs.Walks.{IsWalk, IsWalk-here, IsWalk-next, span-all}
use Rattle.world_core.proofs.state.State.nth.Goals as goal

pub count_at-count-requires-clause-there : goal.count_at-count-requires-clause-there
count_at-count-requires-clause-there c =
    let wide = counts-wide c.args.self.now c.requires in omega (arith, c.in-Some.ensures.next.1)

pub nth_at-requires-clause-there : goal.nth_at-requires-clause-there
nth_at-requires-clause-there c =
    let wide = counts-wide c.args.self.now c.requires in omega (arith, c.in-Some.ensures.next.1)

pub returns-then-left-count : goal.returns-then-left-count
returns-then-left-count c =
    let s = c.args.self.now in
    let f = enabled_at (world_of s) in
    let n = node_count s.script in
    let there = next-there s c.args.index c.loop-at.from c.in-Some.at c.loop-at.left c.requires c.in-Some.ensures.next
    c.loop-at.invariant in
    c.nth_at.ensures
    ∙ IsWalk-here f 0 n c.args.index c.in-Some.at c.loop-at.left there.1 there.0
    (omega (arith, c.count_at-count.ensures.count))
    ∙ ap (λ (l : List Event). slice_get l c.args.index) (span-all f n)

pub loop-at-preserved : goal.loop-at-preserved
loop-at-preserved c =
    let s = c.args.self.now in
    let f = enabled_at (world_of s) in
    let n = node_count s.script in
    let there = next-there s c.args.index c.loop-at.from c.in-Some.at c.loop-at.left c.requires c.in-Some.ensures.next
    c.loop-at.invariant in
    subst (λ (k : ℕ). IsWalk f 0 n c.args.index (c.in-Some.at + 1) (c.loop-at.left - k))
    (sym c.count_at-count.ensures.count)
    (IsWalk-next f 0 n c.args.index c.in-Some.at c.loop-at.left there.1 there.0
    (omega (arith, c.count_at-count.ensures.count)))

pub returns : goal.returns
returns c =
    let s = c.args.self.now in
    let f = enabled_at (world_of s) in
    let n = node_count s.script in
    chosen-none f s.counts 0 n c.args.index c.loop-at.from c.loop-at.left (keeps-alive s n c.requires (omega arith))
    (λ i ge lt. c.in_default.ensures.next i ge) c.loop-at.invariant
    ∙ ap (λ (l : List Event). slice_get l c.args.index) (span-all f n)
