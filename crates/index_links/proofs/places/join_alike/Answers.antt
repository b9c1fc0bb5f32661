use Rattle.index_links.specs.Chains.{on, back_to, stays}
use Rattle.index_links.proofs.Placed.{relinked_twice}
use Rattle.index_links.proofs.places.join_alike.Goals as goal

pub returns-clause-places : goal.returns-clause-places
returns-clause-places g c =
    relinked_twice stays (on c.args.before c.args.after) stays (back_to c.args.after c.args.before)
    c.args.places.now _ _ c.lead_on_alike.ensures.places c.lead_back_alike.ensures.places
