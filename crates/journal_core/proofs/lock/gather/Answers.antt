use Rattle.std.proofs.Common.{List, arith, ap, ◌∙◌, subst}
use Rattle.journal_core.specs.Seated.{Seated}
use Rattle.journal_core.proofs.Seats.{joins}
use Rattle.journal_core.proofs.Gathering.{Gathers}
use Rattle.journal_core.proofs.lock.gather.Goals as goal

pub join_seat-requires : goal.join_seat-requires
join_seat-requires c =
    let table = c.args.board.now.table_id in
    let words = c.requires.2.0 in
    let i = c.loop-next.invariant in
    let first = c.loop-next.first in
    let next = c.next-in-loop-next-2 in
    let g = subst (λ (l : List Seated). Gathers table first.me.0 l c.args.seats) c.in-Some.ensures.steps.0 i.1 in (
      i.0,
      ap (λ (s : Seated). s.lock) next.view_is ∙ g.numbered.0,
      next.invariant.slots,
      omega arith,
      joins c.args.board.now.key first.id first.me.0 next.inside.seat.id next.inside.seat.me.0 g.number
          (ap (λ (s : Seated). s.number) next.view_is ∙ g.numbered.1) next.invariant.taken next.invariant.ticket,
    )
