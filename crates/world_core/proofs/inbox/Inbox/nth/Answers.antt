use Rattle.std.proofs.Common.{ℕ, ◌+◌, length, ap, subst, sym, ◌∙◌, arith}
use Rattle.world_core.specs.Inbox.{filled_mask}
use Rattle.world_core.proofs.Masks.{none-before}
use Rattle.world_core.proofs.Senders.{AreLeft, AreLeft-after, AreLeft-pass, AreLeft-skip}
use Rattle.world_core.proofs.inbox.Inbox.nth.Goals as goal
use Rattle.world_core.proofs.inbox.Inbox.nth.Goals.{then-may_take_at+else-left-eq0, else-may_take_at}

pub loop-at-init : goal.loop-at-init
loop-at-init c =
    let row = c.args.self.now in
    AreLeft-after c.args.is_born row c.args.index _
    (none-before c.self.inside.filled row c.args.is_born (c.self.invariant.1 ∙ ap filled_mask c.self.view_is)
    (omega (arith, c.self.invariant.0, ap length c.self.view_is)))

pub loop-at-preserved : goal.loop-at-preserved
loop-at-preserved c =
    let b = c.args.is_born in
    let row = c.args.self.now in
    elim c.if-may_take_at.branch [
      | then-may_take_at+else-left-eq0 w ↦
          subst (λ (k : ℕ). AreLeft b row c.args.index (c.loop-at.at + 1) k) (sym w.left-is)
          (AreLeft-pass b row c.args.index c.loop-at.at c.loop-at.left c.loop-at.invariant
          (omega (arith, ap length c.self.view_is))
          (sym c.may_take_at.ensures ∙ w.if-may_take_at.true) (omega arith))
      | else-may_take_at w ↦
          subst (λ (k : ℕ). AreLeft b row c.args.index (c.loop-at.at + 1) k) (sym w.left-is)
          (AreLeft-skip b row c.args.index c.loop-at.at c.loop-at.left c.loop-at.invariant
          (omega (arith, ap length c.self.view_is))
          (sym c.may_take_at.ensures ∙ w.if-may_take_at.false))
    ]
