use Rattle.std.proofs.Common.{◌≡◌, true}
use Rattle.std.proofs.lemmas.List.Folds.{list_all-map}
use Rattle.end_rules.proofs.Read.{and-off, and-on}
use Rattle.end_rules.proofs.taking.may_take.Goals as goal

pub returns-then-are_free_to_end : goal.returns-then-are_free_to_end
returns-then-are_free_to_end c =
    let leaves : c.is_leaving.result ≡ true = cc
    in rw list_all-map
    (and-on _ _ _ _ leaves c.is_leaving.ensures
    (and-on _ _ _ _ c.if-are_free_to_end.true c.are_free_to_end.ensures c.knows.ensures))

pub returns-else-are_free_to_end : goal.returns-else-are_free_to_end
returns-else-are_free_to_end c =
    let leaves : c.is_leaving.result ≡ true = cc
    in rw list_all-map
    (and-on _ _ _ _ leaves c.is_leaving.ensures
    (and-off _ _ _ c.if-are_free_to_end.false c.are_free_to_end.ensures))
