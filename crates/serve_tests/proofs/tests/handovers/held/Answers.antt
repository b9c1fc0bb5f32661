use Rattle.std.proofs.Common.{◌≡◌, List, [], ◌∷◌, refl, sym, subst}
use Rattle.std.specs.List.{IsDistinct}
use Rattle.pico_base.specs.declared.numbers.Name.{Name}
use Rattle.pico_base.specs.declared.numbers.Name.TheVariants.{Proc, Msg, Sem}
use Rattle.node_model.specs.Kinds.{is_same_name}
use Rattle.serve_tests.proofs.tests.handovers.held.Goals as goal

distinct : IsDistinct is_same_name (Sem 1 ∷ Msg 9 ∷ Proc 2 ∷ Msg 3 ∷ [])
unfolding IsDistinct
distinct = ((refl, (refl, (refl, tt))), ((refl, (refl, tt)), ((refl, tt), (tt, tt))))

pub put_packed-requires-clause-distinct : goal.put_packed-requires-clause-distinct
put_packed-requires-clause-distinct c =
    subst (λ (names : List Name). IsDistinct is_same_name names) (sym c.in_ok-deeds_of_all_kinds.ensures) distinct
