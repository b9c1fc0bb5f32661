use Rattle.std.proofs.Common.{◌<◌, ◌∙◌, arith, get_or, length, refl}
use Rattle.node_lines.proofs.Fronts.{may_look-is, LookedSoFar-none, LookedSoFar-nothing, LookedSoFar-passed, LookedSoFar-all}
use Rattle.node_lines.proofs.looks.note_silence.Goals as goal
use Rattle.node_lines.proofs.looks.note_silence.Goals.{then-may_look, else-may_look}

pub loop-line-init : goal.loop-line-init
loop-line-init c = LookedSoFar-none _ _

pub loop-line-preserved : goal.loop-line-preserved
loop-line-preserved c =
    let d = c.line-item.result in
    let below : c.loop-line.line-index < length c.loop-line.lines = omega arith in
    let line = get_or c.loop-line.lines c.loop-line.line-index d in
    let tested = may_look-is c.args.only.now line.other _ _ c.other.ensures c.may_look.ensures in
    elim c.if-may_look.branch [
      | then-may_look w ↦
          LookedSoFar-nothing _ _ _ _ _ _ d _ _ c.loop-line.invariant below (tested ∙ w.if-may_look.true)
          w.were_empty.ensures refl w.lines-is
      | else-may_look w ↦
          LookedSoFar-passed _ _ _ _ _ d _ _ c.loop-line.invariant below (tested ∙ w.if-may_look.false) refl w.lines-is
    ]

pub returns : goal.returns
returns c =
    record {
      looks = LookedSoFar-all _ _ _ _ _ _ c.loop-line.invariant (omega arith) refl;
      same = c.loop-line.invariant.same;
    }
