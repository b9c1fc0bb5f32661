use Rattle.std.proofs.Common.{ap, ◌∙◌}
use Rattle.log_model.specs.Views.{Line}
use Rattle.node_lines.specs.Lines.{after_silence}
use Rattle.node_lines.proofs.Silences.{after_silence-is, looked-so}
use Rattle.node_lines.proofs.line.Line.were_empty.Goals as goal

pub returns : goal.returns
returns c =
    let looks = c.args.looks in
    let inside = c.self.inside in
    let into = inside.into in
    let e = c.were_empty.ensures in
    let line : Line = record { other = inside.other; out = inside.out; into = into; left = inside.joiner } in
    ap (λ end. record line { into = end }) (looked-so looks into c.were_empty.new.self e.stream e.taken e.told e.looks)
    ∙ after_silence-is looks line ∙ ap (after_silence looks) c.self.view_is
