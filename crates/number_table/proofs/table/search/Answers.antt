use Rattle.std.proofs.Common.{rules}
use Rattle.std.proofs.lemmas.Fn.{always_returns_same}
use Rattle.std.specs.Ordering.{nat_cmp}
use Rattle.number_table.proofs.Places.{place_from}
use Rattle.number_table.proofs.table.search.Goals as goal

pub returns : goal.returns
returns g c =
    place_from c.args.entries.now c.args.number c.binary_search_by.result c.requires c.binary_search_by.ensures.bound
    (c.binary_search_by.ensures.position (λ e. nat_cmp e.0 c.args.number)
    (always_returns_same _ _ _ (λ a r f e. search rules)))
