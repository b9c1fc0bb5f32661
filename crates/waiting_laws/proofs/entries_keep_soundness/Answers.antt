use Rattle.waiting_laws.proofs.Soundness.{entries-keep-soundness}
use Rattle.waiting_laws.proofs.entries_keep_soundness.Goals as goal

pub returns : goal.returns
returns c = entries-keep-soundness
