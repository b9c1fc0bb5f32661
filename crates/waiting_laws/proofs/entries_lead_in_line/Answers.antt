use Rattle.waiting_laws.proofs.LinesLead.{entries-lead-in-line}
use Rattle.waiting_laws.proofs.entries_lead_in_line.Goals as goal

pub returns : goal.returns
returns c = entries-lead-in-line
