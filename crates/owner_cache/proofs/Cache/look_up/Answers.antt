use Rattle.std.proofs.Common.{ap, ◌∙◌}
use Rattle.node_model.specs.Cache.{look}
use Rattle.owner_cache.proofs.Owners.{look_within, promote_is}
use Rattle.owner_cache.proofs.NameTests.{tests_same}
use Rattle.owner_cache.proofs.Cache.look_up.Goals as goal

pub invariant_of-self : goal.invariant_of-self
invariant_of-self c =
    let name = c.args.name.now in
    rw (
      c.get.follows.holds-at-none,
      promote_is name _ (tests_same name) c.self.inside.owners.entries c.self.invariant.once,
    )
    (look_within c.self.inside.owners.entries c.self.inside.owners.cap name c.self.invariant)

pub returns-clause-used : goal.returns-clause-used
returns-clause-used c =
    ap (λ l. l.entries) c.get.follows.holds-at-none
    ∙ promote_is c.args.name.now _ (tests_same c.args.name.now) c.self.inside.owners.entries c.self.invariant.once
    ∙ ap (λ es. look es c.args.name.now) c.self.view_is
