use Rattle.std.proofs.Common.{ℕ}
use Rattle.index_links.specs.Chains.{nowhere, joined, stays}
use Rattle.index_links.proofs.Placed.{relinked_twice}
use Rattle.index_links.proofs.places.add_alike.Goals as goal

pub returns-clause-places : goal.returns-clause-places
returns-clause-places g c =
    let last : ℕ = c.args.row.now.back in
    relinked_twice stays (joined last c.args.at) stays (joined c.args.at nowhere)
    c.args.places.now _ _ c.join_alike.ensures.places c.join_alike-2.ensures.places
