use Rattle.std.proofs.lemmas.List.Folds.{list_all-map}
use Rattle.end_rules.proofs.Read.{and-off, and-on}
use Rattle.end_rules.proofs.fitting.are_over.Goals as goal

pub returns-then-are_over_but_for : goal.returns-then-are_over_but_for
returns-then-are_over_but_for c =
    rw (list_all-map, list_all-map)
    (and-on _ _ _ _ c.if-are_over_but_for.true c.are_over_but_for.ensures c.are_held_none.ensures)

pub returns-else-are_over_but_for : goal.returns-else-are_over_but_for
returns-else-are_over_but_for c =
    rw (list_all-map, list_all-map) (and-off _ _ _ c.if-are_over_but_for.false c.are_over_but_for.ensures)
