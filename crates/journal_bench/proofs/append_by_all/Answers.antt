use Rattle.std.proofs.Common.{sym, ap, ◌∙◌, subst}
use Rattle.journal_core.specs.Seated.{Seated, AreNumbered}
use Rattle.journal_core.proofs.Numbering.{lock_of_each}
use Rattle.journal_bench.proofs.append_by_all.Goals as goal

pub for_each_mut-requires-clause-accepts : goal.for_each_mut-requires-clause-accepts
for_each_mut-requires-clause-accepts g c κs within = λ i p below is.
    let lock = c.args.lock.now.id in
    let seats = c.as_mut_slice.result.now in
    let numbered = subst (AreNumbered lock 1) (sym c.as_mut_slice.ensures.value) c.requires.seats in
    ap (λ (s : Seated). s.lock) is ∙ lock_of_each lock 1 seats numbered i p.now below
