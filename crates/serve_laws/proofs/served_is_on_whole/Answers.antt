use Rattle.serve_laws.proofs.OnWhole.{served-is-on_whole}
use Rattle.serve_laws.proofs.served_is_on_whole.Goals as goal

pub returns : goal.returns
returns c = served-is-on_whole
