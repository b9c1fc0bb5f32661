use Rattle.std.proofs.Common.{◌+◌, ◌%◌, ◌^◌, [], ◌∷◌, arith, sym, ap, ◌∙◌, subst}
use Rattle.atomic_table.specs.Table.{Allows, rest}
use Rattle.journal_core.specs.Rule.{Kept}
use Rattle.journal_core.specs.Steps.{Mine, PutsBack, done}
use Rattle.journal_core.proofs.Turns.{puts}
use Rattle.journal_core.proofs.lock.put_back.Goals as goal

pub fetch_add-requires : goal.fetch_add-requires
fetch_add-requires c =
    let words = c.requires.board.0.0 in
    let key = c.args.board.now.key in
    let slots = c.args.board.now.table_id.slots in
    let id = c.exchange.new.seat.id in
    let old = c.args.seat.now.me in
    let grown = c.requires.grown in
    let me = c.exchange.ensures.3 ∙ ap (λ l. (old.0, (0, c.args.journal) ∷ rest l)) grown.slot in (
      c.exchange.ensures.0 ∙ c.requires.board.1,
      omega arith,
      subst (λ (m : Mine). Allows (Kept key) slots id m 1 (λ n. (n + 1) % 2 ^ 64) (λ n m'. PutsBack m m')) (sym me)
          (puts key slots id old.0 c.args.journal grown.added grown.taken grown.is grown.own grown.order),
    )

pub returns-clause-done : goal.returns-clause-done
returns-clause-done c =
    let old = c.args.seat.now.me in
    let me = c.exchange.ensures.3 ∙ ap (λ l. (old.0, (0, c.args.journal) ∷ rest l)) c.requires.grown.slot in
    c.fetch_add.ensures.2 c.args.journal (ap (λ m. m.1) me) ∙ ap (λ (m : Mine). (done m.0 c.args.journal, [])) me
