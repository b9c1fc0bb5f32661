use Rattle.std.proofs.Common.{◌≡◌, suc, ◌+◌, ◌<◌, ◌≢◌, List, [], ◌∷◌, length, get_or, refl, sym, ap, subst, ◌∙◌, add-one, eqb, arith}
use Rattle.std.proofs.lemmas.Bool.{eqb-true, eqb-false}
use Rattle.log_model.specs.Views.{Line}
use Rattle.log_model.specs.Turns.{with_sent}
use Rattle.node_lines.specs.Lines.{AreSameLines, with_bytes}
use Rattle.node_lines.proofs.Same.{IsSameLine-refl, AreSameLines-refl, AreSameLines-set}
use Rattle.node_lines.proofs.Fronts.{map_front, map_front-next, map_front-all}
use Rattle.node_lines.proofs.Sent.{with_sent-one, with_sent-other}
use Rattle.node_lines.proofs.sends.send_one.Goals as goal
use Rattle.node_lines.proofs.sends.send_one.Goals.{then-eq+in_ok-send, else-eq}

pub loop-line-init : goal.loop-line-init
loop-line-init g c = (refl, AreSameLines-refl _)

pub returns-in_err-bytes-clause-same : goal.returns-in_err-bytes-clause-same
returns-in_err-bytes-clause-same g c = AreSameLines-refl _

pub returns-in_err-send-clause-same : goal.returns-in_err-send-clause-same
returns-in_err-send-clause-same g c =
    AreSameLines-set _ _ _ _ c.line-item.result c.loop-line.invariant.1 c.send.ensures.same

pub loop-line-preserved : goal.loop-line-preserved
loop-line-preserved g c =
    let change = with_sent c.args.stamp ((c.args.to, c.args.frame.now) ∷ []) in
    let olds = c.args.lines.now in
    let lines = c.loop-line.lines in
    let i = c.loop-line.line-index in
    let d = c.line-item.result in
    let line = get_or lines i d in
    let below : i < length olds = omega arith in
    let tested : eqb line.other c.args.to ≡ c.eq.result =
    ap (λ other. eqb other c.args.to) (sym c.other.ensures) ∙ sym c.eq.ensures
    in
    let counted : map_front change (suc i) olds ≡ map_front change (i + 1) olds =
    ap (λ k. map_front change k olds) (sym (add-one i))
    in
    let Same : List Line → Type 0 = λ news. AreSameLines olds news in
    elim c.if-eq.branch [
      | then-eq+in_ok-send w ↦
          let is_other : line.other ≡ c.args.to = eqb-true line.other c.args.to (tested ∙ w.if-eq.true) in
          let changed = w.in_ok-send.ensures.sent
          ∙ ap (λ bytes. with_bytes c.args.stamp bytes line) (w.as_slice.ensures ∙ c.in_ok-bytes.ensures.spelled)
          ∙ with_sent-one c.args.stamp c.args.to c.args.frame.now line is_other in (
            w.lines-is ∙ map_front-next change olds lines i w.send.new.self d c.loop-line.invariant.0 below changed
                ∙ counted,
            subst Same (sym w.lines-is)
                (AreSameLines-set olds lines i w.send.new.self d c.loop-line.invariant.1 w.send.ensures.same),
          )
      | else-eq w ↦
          let is_none : line.other ≢ c.args.to = eqb-false line.other c.args.to (tested ∙ w.if-eq.false) in
          let stays = with_sent-other c.args.stamp c.args.to c.args.frame.now line is_none in (
            w.lines-is ∙ map_front-next change olds lines i line d c.loop-line.invariant.0 below stays ∙ counted,
            subst Same (sym w.lines-is)
                (AreSameLines-set olds lines i line d c.loop-line.invariant.1 (IsSameLine-refl line)),
          )
    ]

pub returns-clause-sent : goal.returns-clause-sent
returns-clause-sent g c =
    let change = with_sent c.args.stamp ((c.args.to, c.args.frame.now) ∷ []) in
    let all : c.loop-line.line-index ≡ length c.args.lines.now = omega arith in
    c.loop-line.invariant.0 ∙ ap (λ k. map_front change k c.args.lines.now) all ∙ map_front-all change c.args.lines.now
