use Rattle.std.proofs.Common.{◌≡◌, ◌^◌, ◌<◌, List, [], ◌∷◌, ◌++◌, arith, rules, sym, ap, ◌∙◌, subst}
use Rattle.atomic_table.specs.Table.{opening}
use Rattle.journal_core.specs.declared.stamped.Stamped.{Stamped}
use Rattle.journal_core.specs.Rule.{Kept, first_view}
use Rattle.journal_core.proofs.Seats.{begins}
use Rattle.journal_core.proofs.lock.JournalLock.new.Goals as goal

pub new-requires-2 : goal.new-requires-2
new-requires-2 c =
    let seats = c.args.seats in
    let small : seats < 2 ^ 32 = search rules in
    let pushed : c.push.new.self.items ≡ [] ∷ [] = c.in_ok-push.ensures.items
    ∙ (ap (λ l. l ++ c.new.result ∷ []) c.new-slots.ensures.items
    ∙ ap (λ (x : List Stamped). x ∷ []) c.new.ensures) in
    subst (λ l. Kept seats (opening (0 ∷ 0 ∷ []) l first_view)) (sym pushed) (begins seats c.requires (omega arith))
