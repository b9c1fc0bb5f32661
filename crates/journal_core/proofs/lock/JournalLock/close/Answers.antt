use Rattle.std.proofs.Common.{sym, ap, ◌∙◌, subst}
use Rattle.std.specs.Mem.Slots.{slots_items}
use Rattle.journal_core.specs.Seated.{Lock, AreNumbered, Closes}
use Rattle.journal_core.proofs.Closing.{closes}
use Rattle.journal_core.proofs.lock.JournalLock.close.Goals as goal

pub returns : goal.returns
returns c =
    let closed = c.close_with-closed in
    let first = c.gather-first.result in
    let lock = c.self.view_is in
    subst (λ (l : Lock). Closes l c.args.seats c.take-journal.result) lock
    (closes c.self.inside.table.shared.key first.id first.me.0 c.self.inside.table.shared.table_id c.args.seats
    (slots_items closed.result.words) (slots_items closed.result.slots)
    c.take-journal.result closed.ensures.values.2 c.gather-first.ensures.shares
    (subst (λ (l : Lock). AreNumbered l.id 1 c.args.seats) (sym lock) c.requires.0)
    (c.requires.1 ∙ sym (ap (λ (l : Lock). l.seats) lock)) c.take-journal.ensures.value)
