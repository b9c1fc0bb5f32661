use Rattle.std.proofs.Common.{sym, ◌∙◌}
use Rattle.world_core.specs.State.{world_of}
use Rattle.world_core.proofs.Seats.{seat-taken, seat-run, seat-past, seat-rests}
use Rattle.world_core.proofs.state.State.nth_at.Goals as goal
use Rattle.world_core.proofs.state.State.nth_at.Goals.{else-can_run-via-then-can_run+else-index-count_at, else-can_run-via-else-can_run}

pub returns-then-index-count_at : goal.returns-then-index-count_at
returns-then-index-count_at c =
    seat-run (world_of c.args.self.now) c.args.node c.args.index c.count_at.result c.seat.result.0.now
    c.seat.result.1.now
    c.can_run.result c.seat.ensures c.can_run.ensures c.count_at.ensures.count c.if-can_run.true
    c.if-index-count_at.true

pub returns-in_err-from : goal.returns-in_err-from
returns-in_err-from c =
    let w = world_of c.args.self.now in
    let found = c.seat.result.0.now in
    let row = c.seat.result.1.now in
    let none = sym c.in_err-from.was ∙ c.nth.ensures in
    c.from_residual.ensures
    ∙ elim c.else-can_run.branch [
      | else-can_run-via-then-can_run+else-index-count_at r ↦
          seat-past w c.args.node c.args.index r.count_at.result found row c.born.result c.can_run.result c.seat.ensures
          c.born.ensures c.can_run.ensures r.count_at.ensures.count r.if-can_run.true r.if-index-count_at.false none
      | else-can_run-via-else-can_run r ↦
          seat-rests w c.args.node c.args.index found row c.born.result c.can_run.result c.seat.ensures
          c.born.ensures c.can_run.ensures r.if-can_run.false none
    ]

pub returns : goal.returns
returns c =
    seat-taken (world_of c.args.self.now) c.args.node c.args.index c.in_ok-from.from c.seat.result.0.now
    c.seat.result.1.now
    c.born.result c.seat.ensures c.born.ensures c.in_ok-from.ensures
