use Rattle.std.proofs.Common.{Option, IfSome, IsSome, sym, subst}
use Rattle.waiting_model.specs.Fitting.{Fits}
use Rattle.world_model.specs.World.{World}
use Rattle.world_core.proofs.Reached.{journal_is_legal, journal_fits}
use Rattle.world_core.proofs.world.World.journal.Goals as goal

pub returns-clause-legal : goal.returns-clause-legal
returns-clause-legal c =
    journal_is_legal c.self.inside.streaming c.recent.result.now c.journals_are_legal.ensures
    (subst (λ (o : Option World). IsSome o) (sym c.self.view_is) c.requires.whole) c.self.invariant c.recent.ensures

pub returns-clause-fits : goal.returns-clause-fits
returns-clause-fits c =
    let P : Option World → Type 0 = λ o. IfSome o (λ w. Fits w.script c.recent.result.now)
    in subst P c.self.view_is
    (journal_fits c.self.inside.streaming c.recent.result.now c.journals_are_legal.ensures c.self.invariant
    c.recent.ensures)
