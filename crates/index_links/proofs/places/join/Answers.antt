use Rattle.index_links.specs.Chains.{on, back_to, stays}
use Rattle.index_links.proofs.Placed.{relinked_twice}
use Rattle.index_links.proofs.places.join.Goals as goal

pub returns-clause-places : goal.returns-clause-places
returns-clause-places g c =
    relinked_twice (on c.args.before c.args.after) stays (back_to c.args.after c.args.before) stays
    c.args.places.now _ _ c.lead_on.ensures.places c.lead_back.ensures.places
