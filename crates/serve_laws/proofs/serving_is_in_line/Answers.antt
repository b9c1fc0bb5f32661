use Rattle.serve_laws.proofs.InLine.{serving-is-in-line}
use Rattle.serve_laws.proofs.serving_is_in_line.Goals as goal

pub returns : goal.returns
returns c = serving-is-in-line
