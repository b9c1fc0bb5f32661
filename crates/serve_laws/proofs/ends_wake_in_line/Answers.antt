use Rattle.serve_laws.proofs.Waking.{ends-wake-in-line}
use Rattle.serve_laws.proofs.ends_wake_in_line.Goals as goal

pub returns : goal.returns
returns c = ends-wake-in-line
