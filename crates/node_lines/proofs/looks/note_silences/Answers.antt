use Rattle.std.proofs.Common.{◌≡◌, suc, ◌+◌, ◌<◌, length, get_or, refl, sym, ap, ◌∙◌, add-one, arith}
use Rattle.node_lines.proofs.Silences.{silences-each}
use Rattle.node_lines.specs.Lines.{after_silence}
use Rattle.node_lines.proofs.Fronts.{map_front, map_front-next, map_front-all}
use Rattle.node_lines.proofs.looks.note_silences.Goals as goal

pub loop-line-init : goal.loop-line-init
loop-line-init c = refl

pub loop-line-preserved : goal.loop-line-preserved
loop-line-preserved c =
    let change = after_silence c.args.looks in
    let olds = c.args.lines.now in
    let lines = c.loop-line.lines in
    let i = c.loop-line.line-index in
    let d = c.line-item.result in
    let below : i < length olds = omega arith in
    map_front-next change olds lines i _ d c.loop-line.invariant below c.were_empty.ensures
    ∙ ap (λ k. map_front change k olds) (sym (add-one i))

pub returns : goal.returns
returns c =
    let change = after_silence c.args.looks in
    let all : c.loop-line.line-index ≡ length c.args.lines.now = omega arith in
    c.loop-line.invariant ∙ ap (λ k. map_front change k c.args.lines.now) all ∙ map_front-all change c.args.lines.now
    ∙ silences-each c.args.looks c.args.lines.now
