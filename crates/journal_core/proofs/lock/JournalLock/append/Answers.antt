use Rattle.std.proofs.Common.{ℕ, List, [], ◌++◌, length, drop, sym, ap, ◌∙◌, subst}
use Rattle.journal_core.specs.declared.stamped.Stamped.{Stamped}
use Rattle.journal_core.specs.Journal.{BeginsWith}
use Rattle.journal_core.specs.Seated.{Seated}
use Rattle.journal_core.specs.Steps.{Mine}
use Rattle.journal_core.proofs.Appending.{can_put, tells}
use Rattle.journal_core.specs.Turns.{Adds}
use Rattle.journal_core.proofs.lock.JournalLock.append.Goals as goal

pub put_back-requires-clause-grown : goal.put_back-requires-clause-grown
put_back-requires-clause-grown g c =
    let found = c.take.result in
    let now = c.from_vec.result in
    let number = c.seat.inside.number in
    let answer = c.add-answer.result in
    let taken = c.take.ensures.taken in
    let me = taken.0.1 in
    let adds = subst (λ (p : List Stamped × List Stamped). Adds c.args.floor number c.args.entries p.0 p.1 answer)
    (λ k. (c.into_vec-journal.ensures k, sym c.from_vec.ensures k)) c.add-answer.ensures in
    can_put c.take.new.seat.me [] c.args.floor number c.args.entries found now answer
    (ap (λ (m : Mine). m.1) me) (ap (λ (m : Mine). m.0.taken) me) (ap (λ (m : Mine). m.0.number) me
    ∙ sym c.seat.invariant.number) (ap (λ (m : Mine). m.0.seen) me) taken.2 adds

pub returns-clause-answer : goal.returns-clause-answer
returns-clause-answer g c =
    let found = c.take.result in
    let now = c.from_vec.result in
    let number = c.seat.inside.number in
    let answer = c.add-answer.result in
    let taken = c.take.ensures.taken in
    let old = c.args.seat.now in
    let is = c.seat.view_is in
    let mine = c.seat.invariant.number ∙ ap (λ (s : Seated). s.number) is in
    let adds = subst (λ (p : ℕ × List Stamped × List Stamped). Adds c.args.floor p.0 c.args.entries p.1 p.2 answer)
    (λ k. (mine k, c.into_vec-journal.ensures k, sym c.from_vec.ensures k)) c.add-answer.ensures in
    let put = c.put_back.ensures.done in
    tells c.args.floor c.args.entries found now old _ answer
    (subst (BeginsWith found) (ap (λ (s : Seated). s.seen) is) taken.1) taken.2
    (ap (λ (m : Mine). m.0.own) put
    ∙ (ap (λ (m : Mine). m.0.own ++ drop (length m.0.seen) now) taken.0.1
    ∙ ap (λ (s : Seated). s.own ++ drop (length found) now) is))
    (ap (λ (m : Mine). m.0.seen) put) adds
