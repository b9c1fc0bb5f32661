use Rattle.std.proofs.Common.{◌<◌, ◌∙◌, ap, arith, get_or, length, subst}
use Rattle.log_model.specs.declared.found.Found.{Found}
use Rattle.log_model.specs.Looks.{IsLook}
use Rattle.node_lines.proofs.Same.{AreSameLines-set}
use Rattle.node_lines.proofs.Fronts.{may_look-is, part_if, LookedSoFar-none, LookedSoFar-nothing, LookedSoFar-part, LookedSoFar-passed, LookedSoFar-all, LookedSoFar-end}
use Rattle.node_lines.proofs.looks.look_until_found.Goals as goal
use Rattle.node_lines.proofs.looks.look_until_found.Goals.{then-may_look+in_ok-found+in-Nothing, then-may_look+in_ok-found+in-Part, else-may_look}

pub loop-line-init : goal.loop-line-init
loop-line-init g c = LookedSoFar-none _ _

pub returns-in_err-found-clause-same : goal.returns-in_err-found-clause-same
returns-in_err-found-clause-same g c =
    AreSameLines-set _ _ _ _ c.line-item.result c.loop-line.invariant.same c.look.ensures.same

pub returns-in_default-clause-same : goal.returns-in_default-clause-same
returns-in_default-clause-same g c =
    AreSameLines-set _ _ _ _ c.line-item.result c.loop-line.invariant.same c.look.ensures.same

pub returns-in_default-clause-looks : goal.returns-in_default-clause-looks
returns-in_default-clause-looks g c =
    let d = c.line-item.result in
    let line = get_or c.loop-line.lines c.loop-line.line-index d in
    let tested = may_look-is c.args.only.now line.other _ _ c.other.ensures c.may_look.ensures in
    LookedSoFar-end _ _ _ _ _ _ d _ c.loop-line.invariant (omega arith) (tested ∙ c.if-may_look.true)
    c.in_default.not-Nothing
    c.in_default.not-Part c.in_ok-found.ensures.found

pub loop-line-preserved : goal.loop-line-preserved
loop-line-preserved g c =
    let d = c.line-item.result in
    let below : c.loop-line.line-index < length c.loop-line.lines = omega arith in
    let line = get_or c.loop-line.lines c.loop-line.line-index d in
    let tested = may_look-is c.args.only.now line.other _ _ c.other.ensures c.may_look.ensures in
    elim c.if-may_look.branch [
      | then-may_look+in_ok-found+in-Nothing w ↦
          let Finds : Found → Type 0 = λ found. IsLook line found w.look.new.self in
          LookedSoFar-nothing _ _ _ _ _ _ d _ _ c.loop-line.invariant below (tested ∙ w.if-may_look.true)
          (subst Finds w.in-Nothing.is w.in_ok-found.ensures.found) w.part-is w.lines-is
      | then-may_look+in_ok-found+in-Part w ↦
          let Finds : Found → Type 0 = λ found. IsLook line found w.look.new.self in
          LookedSoFar-part _ _ _ _ _ _ d _ _ c.loop-line.invariant below (tested ∙ w.if-may_look.true)
          (subst Finds w.in-Part.is w.in_ok-found.ensures.found) w.look.ensures.same w.part-is w.lines-is
      | else-may_look w ↦
          LookedSoFar-passed _ _ _ _ _ d _ _ c.loop-line.invariant below (tested ∙ w.if-may_look.false) w.part-is
          w.lines-is
    ]

pub returns-then-part-clause-looks : goal.returns-then-part-clause-looks
returns-then-part-clause-looks g c =
    LookedSoFar-all _ _ _ _ _ _ c.loop-line.invariant (omega arith) (ap part_if c.if-part.true)

pub returns-else-part-clause-looks : goal.returns-else-part-clause-looks
returns-else-part-clause-looks g c =
    LookedSoFar-all _ _ _ _ _ _ c.loop-line.invariant (omega arith) (ap part_if c.if-part.false)
