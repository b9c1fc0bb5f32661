use Rattle.std.proofs.Common.{[], length, sym, ◌∙◌, ap, arith}
use Rattle.std.proofs.lemmas.List.{length-replicate}
use Rattle.world_core.specs.Inbox.{filled_mask}
use Rattle.world_core.proofs.Masks.{mask-empty}
use Rattle.world_core.proofs.inbox.Inbox.new.Goals as goal

pub invariant_of-result : goal.invariant_of-result
invariant_of-result c =
    let all = c.loop-node.invariant in (
      (let width = ap length all ∙ length-replicate c.loop-node._node [] in omega (arith, width)),
      sym (ap filled_mask all ∙ mask-empty c.loop-node._node),
    )
