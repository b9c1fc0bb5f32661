use Rattle.std.proofs.Common.{◌-◌, Bool, not, ◌&&◌, List, ◌∷◌, length, take, drop, map, refl, sym, ap, ◌∙◌}
use Rattle.kernel_model.specs.Row.{EndedChild, ended_child}
use Rattle.fork_wait.specs.Children.{are_different}
use Rattle.fork_wait.proofs.Families.{differ-ended, first-rest}
use Rattle.fork_wait.proofs.checking.+ended_differ.Goals as goal

pub returns-then-not-has_ended : goal.returns-then-not-has_ended
returns-then-not-has_ended t c =
    let first = ended_child c.first.inside.pid c.first.inside.ending in
    let others : List EndedChild = take (length c.args.ended.now - 1) (drop 1 c.args.ended.now) in
    let parts = first-rest c.args.ended.now c.first-item.result c.in-len1-up.len_at_least
    ∙ ap (λ (e : EndedChild). e ∷ others) (sym c.first-item.is ∙ sym c.first.view_is) in
    ap (λ (there : Bool). not there && c.ended_differ.result) (sym c.if-not-has_ended.true)
    ∙ differ-ended first c.args.ended.now others c.has_ended.result c.ended_differ.result parts c.has_ended.ensures
    c.ended_differ.ensures

pub returns-else-not-has_ended : goal.returns-else-not-has_ended
returns-else-not-has_ended t c =
    let first = ended_child c.first.inside.pid c.first.inside.ending in
    let others : List EndedChild = take (length c.args.ended.now - 1) (drop 1 c.args.ended.now) in
    let parts = first-rest c.args.ended.now c.first-item.result c.in-len1-up.len_at_least
    ∙ ap (λ (e : EndedChild). e ∷ others) (sym c.first-item.is ∙ sym c.first.view_is) in
    let rest : Bool = are_different (map (λ e. e.pid) others) in
    ap not c.if-not-has_ended.false ∙ ap (λ (there : Bool). not there && rest) (sym c.if-not-has_ended.false)
    ∙ differ-ended first c.args.ended.now others c.has_ended.result rest parts c.has_ended.ensures refl
