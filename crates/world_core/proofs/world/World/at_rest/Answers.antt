use Rattle.std.proofs.Common.{Option, IfSome, IsTrue, subst}
use Rattle.waiting_model.specs.Fitting.{FitsWhole}
use Rattle.world_model.specs.World.{World}
use Rattle.rest_laws.specs.Laws.{IsQuiet}
use Rattle.world_core.proofs.Reached.{rest_has_all, rest_has_nothing_on_its_way}
use Rattle.world_core.proofs.world.World.at_rest.Goals as goal

pub returns-clause-ended : goal.returns-clause-ended
returns-clause-ended c =
    let P : Option World → Type 0 = λ o. IfSome o (λ w. IsTrue c.at_rest.result → FitsWhole w.script w.journal)
    in subst P c.self.view_is
    (rest_has_all c.self.inside.streaming c.at_rest.result c.rest_is_whole.ensures c.self.invariant c.at_rest.ensures)

pub returns-clause-quiet : goal.returns-clause-quiet
returns-clause-quiet c =
    let P : Option World → Type 0 = λ o. IfSome o (λ w. IsTrue c.at_rest.result → IsQuiet w.script w)
    in subst P c.self.view_is
    (rest_has_nothing_on_its_way c.self.inside.streaming c.at_rest.result c.rest_is_quiet.ensures c.self.invariant
    c.at_rest.ensures)
