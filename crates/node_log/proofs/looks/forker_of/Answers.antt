use Rattle.std.proofs.Common.{◌≡◌, ◌-◌, length, sym, ap, ◌∙◌, arith}
use Rattle.world_model.specs.Lives.{is_forked_by}
use Rattle.node_log.proofs.Forkers.{first_behind, first_behind-here, first_behind-next, first_behind-end}
use Rattle.node_log.proofs.looks.forker_of.Goals as goal

pub loop-place-init : goal.loop-place-init
loop-place-init c =
    let n = length c.args.script.now.blocks in
    let e : n ≡ n - 0 = omega arith in
    ap (first_behind (λ q. is_forked_by c.args.script.now q c.args.block) 0) e

pub loop-place-preserved : goal.loop-place-preserved
loop-place-preserved c =
    c.loop-place.invariant
    ∙ first_behind-next _ c.loop-place.place (length c.args.script.now.blocks) (omega arith)
    (sym c.is_forked_by.ensures ∙ c.if-is_forked_by.false)

pub returns-then-is_forked_by : goal.returns-then-is_forked_by
returns-then-is_forked_by c =
    sym
    (c.loop-place.invariant
    ∙ first_behind-here _ c.loop-place.place (length c.args.script.now.blocks) (omega arith)
    (sym c.is_forked_by.ensures ∙ c.if-is_forked_by.true))

pub returns : goal.returns
returns c =
    c.loop-place.invariant ∙ first_behind-end _ c.loop-place.place (length c.args.script.now.blocks) (omega arith)
