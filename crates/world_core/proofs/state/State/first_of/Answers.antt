use Rattle.std.proofs.Common.{◌<◌, ℕ, sym, subst, ◌∙◌, arith}
use Rattle.world_model.specs.Schedule.{enabled_at}
use Rattle.world_core.specs.State.{world_of}
use Rattle.world_core.proofs.Choosing.{keeps-alive, chosen-there, chosen-none}
use Rattle.world_core.proofs.Walks.{IsWalk, IsWalk-first, IsWalk-here}
use Rattle.world_core.proofs.state.State.first_of.Goals as goal

pub returns-in_err-at : goal.returns-in_err-at
returns-in_err-at c =
    let s = c.args.self.now in
    let f = enabled_at (world_of s) in
    c.from_residual.ensures
    ∙ chosen-none f s.counts c.args.after c.args.last 0 c.from.result 0
    (keeps-alive s c.args.last c.requires.alive c.requires.there) (λ i ge lt. c.in_err-at.ensures.next i ge)
    (subst (λ (k : ℕ). IsWalk f c.args.after c.args.last 0 k 0) (sym c.from.ensures)
    (IsWalk-first f c.args.after c.args.last 0))

pub returns-then-at-from : goal.returns-then-at-from
returns-then-at-from c =
    let s = c.args.self.now in
    let f = enabled_at (world_of s) in
    chosen-none f s.counts c.args.after c.args.last 0 c.from.result 0
    (keeps-alive s c.args.last c.requires.alive c.requires.there)
    (λ i ge lt. c.in_ok-at.ensures.next.3 i ge (omega (arith, c.if-at-from.true, c.from-2.ensures)))
    (subst (λ (k : ℕ). IsWalk f c.args.after c.args.last 0 k 0) (sym c.from.ensures)
    (IsWalk-first f c.args.after c.args.last 0))

pub returns : goal.returns
returns c =
    let s = c.args.self.now in
    let f = enabled_at (world_of s) in
    let at = c.in_ok-at.at in
    let lt : at < c.args.last = omega (arith, c.if-at-from.false, c.from-2.ensures) in
    let keeps = keeps-alive s c.args.last c.requires.alive c.requires.there in
    let walk = chosen-there f s.counts c.args.after c.args.last 0 c.from.result at 0 keeps c.in_ok-at.ensures.next lt
    (subst (λ (k : ℕ). IsWalk f c.args.after c.args.last 0 k 0) (sym c.from.ensures)
    (IsWalk-first f c.args.after c.args.last 0)) in
    c.nth_at.ensures
    ∙ IsWalk-here f c.args.after c.args.last 0 at 0 walk lt
    (let here = keeps at lt in omega (arith, c.in_ok-at.ensures.next.2))
