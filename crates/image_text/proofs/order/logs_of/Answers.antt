use Rattle.std.proofs.Common.{◌≡◌, ◌+◌, List, [], ◌∷◌, ◌++◌, ap, sym, ◌∙◌}
use Rattle.stamp_merge.specs.declared.Stamped.{Stamped}
use Rattle.stamp_merge.specs.Merge.{items_of}
use Rattle.image_text.specs.declared.placed.Placed.{Placed}
use Rattle.image_text.proofs.Nodes.{lists-next}
use Rattle.image_text.proofs.order.logs_of.Goals as goal

pub loop-before-preserved : goal.loop-before-preserved
loop-before-preserved c =
    c.in_ok-push.ensures.ok
    ∙ ap (λ (log : List (Stamped Placed)). c.loop-before.logs ++ log ∷ []) c.in_ok-log_of.ensures
    ∙ ap (λ (logs : List (List (Stamped Placed))). logs ++ items_of (c.loop-before.before + 1) c.args.events.now ∷ [])
    c.loop-before.invariant
    ∙ sym (lists-next (λ p. items_of p c.args.events.now) c.loop-before.before)
