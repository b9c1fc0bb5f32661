use Rattle.std.proofs.Common.{◌≡◌, ℕ, ◌+◌, ◌<◌, [], ◌∷◌, length, get_or, drop, map, refl, sym, ap, subst, ◌∙◌, add-one, arith}
use Rattle.std.proofs.lemmas.List.{drop_more, drop_all}
use Rattle.rpc_frame.specs.declared.frame.Frame.{Frame}
use Rattle.frame_bytes.specs.Limits.{IsWithinLimits}
use Rattle.frame_bytes.specs.Ranges.{IsFrame}
use Rattle.log_model.specs.Turns.{with_sent}
use Rattle.node_lines.proofs.Fronts.{AllFront, all_front-next, all_front-all}
use Rattle.node_lines.proofs.Same.{AreSameLines-refl, AreSameLines-trans}
use Rattle.node_lines.proofs.Sent.{all_sent-further, all_sent-none, may_send-within}
use Rattle.node_lines.proofs.sends.send_each.Goals as goal

pub loop-to-init : goal.loop-to-init
loop-to-init g c = (refl, AreSameLines-refl _, tt)

pub send_one-requires : goal.send_one-requires
send_one-requires g c =
    let IsWithin : ℕ × Frame → Type 0 = λ s. IsWithinLimits s.1 in
    subst IsWithin (sym c.loop-to-item.is)
    (may_send-within c.args.lines.now c.args.sends.now c.loop-to.to-index c.loop-to-item.result c.requires
    (omega arith))

pub returns-in_err-send_one-clause-same : goal.returns-in_err-send_one-clause-same
returns-in_err-send_one-clause-same g c =
    AreSameLines-trans _ _ _ c.loop-to.invariant.1 c.send_one.ensures.same

pub loop-to-preserved : goal.loop-to-preserved
loop-to-preserved g c =
    let stamp = c.args.stamp in
    let i = c.loop-to.to-index in
    let s = c.loop-to-item.result in
    let left = drop (i + 1) c.args.sends.now in
    let lines = c.loop-to.lines in
    let HasSpelling : ℕ × Frame → Type 0 = λ t. IsFrame t.1 in
    let Front : ℕ → Type 0 = λ k. AllFront HasSpelling k c.args.sends.now in
    let spelled : HasSpelling (get_or c.args.sends.now i s) =
    subst HasSpelling c.loop-to-item.is c.in_ok-send_one.ensures.frame
    in
    let below : i < length c.args.sends.now = omega arith in
    let cut : s ∷ left ≡ drop i c.args.sends.now =
    ap (λ x. x ∷ left) c.loop-to-item.is ∙ sym (drop_more c.args.sends.now i s below)
    in (
      ap (map (with_sent stamp left)) c.in_ok-send_one.ensures.sent
          ∙ all_sent-further stamp s left lines
          ∙ ap (λ ss. map (with_sent stamp ss) lines) cut
          ∙ c.loop-to.invariant.0,
      AreSameLines-trans _ _ _ c.loop-to.invariant.1 c.send_one.ensures.same,
      subst Front (sym (add-one i))
          (all_front-next HasSpelling c.args.sends.now i s c.loop-to.invariant.2 below spelled),
    )

pub returns-clause-frames : goal.returns-clause-frames
returns-clause-frames g c =
    let HasSpelling : ℕ × Frame → Type 0 = λ t. IsFrame t.1 in
    let Front : ℕ → Type 0 = λ k. AllFront HasSpelling k c.args.sends.now in
    let all : c.loop-to.to-index ≡ length c.args.sends.now = omega arith in
    all_front-all HasSpelling c.args.sends.now (subst Front all c.loop-to.invariant.2)

pub returns-clause-sent : goal.returns-clause-sent
returns-clause-sent g c =
    let none : drop c.loop-to.to-index c.args.sends.now ≡ [] =
    drop_all c.loop-to.to-index c.args.sends.now (omega arith)
    in
    sym (all_sent-none c.args.stamp c.loop-to.lines)
    ∙ ap (λ left. map (with_sent c.args.stamp left) c.loop-to.lines) (sym none)
    ∙ c.loop-to.invariant.0
