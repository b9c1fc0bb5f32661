use Rattle.std.proofs.Common.{refl}
use Rattle.pico_cmd.proofs.program.answer_asked.Goals as goal

-- Where the words are out of order nothing is read: the source is the one that was handed in.

pub returns-in_ok-usage-in-None-clause-untouched : goal.returns-in_ok-usage-in-None-clause-untouched
returns-in_ok-usage-in-None-clause-untouched g c unread = refl

pub returns-in_err-usage-in-None-clause-untouched : goal.returns-in_err-usage-in-None-clause-untouched
returns-in_err-usage-in-None-clause-untouched g c unread = refl
