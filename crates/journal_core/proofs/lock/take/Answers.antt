use Rattle.std.proofs.Common.{arith, refl, sym, subst}
use Rattle.atomic_table.specs.Table.{Allows}
use Rattle.journal_core.specs.Rule.{Kept}
use Rattle.journal_core.specs.Steps.{Mine, waiting, Looks}
use Rattle.journal_core.proofs.Turns.{draws, looks}
use Rattle.journal_core.proofs.lock.take.Goals as goal

pub fetch_add-ticket-requires : goal.fetch_add-ticket-requires
fetch_add-ticket-requires g c =
    let words = c.requires.board.0.0 in (
      c.requires.board.1,
      omega arith,
      draws c.args.board.now.key c.args.board.now.table_id.slots c.args.seat.now.id
          c.args.seat.now.me c.requires.free.0 c.requires.free.1,
    )

pub load-served-requires : goal.load-served-requires
load-served-requires g c =
    let words = c.requires.board.0.0 in
    let key = c.args.board.now.key in
    let slots = c.args.board.now.table_id.slots in
    let id = c.loop.seat.id in
    let i = c.loop.invariant in
    let v = c.args.seat.now.me.0 in
    let t = i.2.0 in (
      search (c.requires, i),
      omega arith,
      subst (λ (m : Mine). Allows (Kept key) slots id m 1 (λ n. n) (λ n m'. Looks m n m')) (sym i.2.2)
          (looks key slots id (waiting v t) t refl c.requires.free.1 c.requires.free.3),
    )
