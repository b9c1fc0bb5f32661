use Rattle.std.proofs.Common.{ℕ}
use Rattle.index_links.specs.Chains.{nowhere, joined, stays}
use Rattle.index_links.proofs.Placed.{relinked_twice}
use Rattle.index_links.proofs.places.add.Goals as goal

pub returns-clause-places : goal.returns-clause-places
returns-clause-places g c =
    let last : ℕ = c.args.ends.now.back in
    relinked_twice (joined last c.args.at) stays (joined c.args.at nowhere) stays
    c.args.places.now _ _ c.join.ensures.places c.join-2.ensures.places
