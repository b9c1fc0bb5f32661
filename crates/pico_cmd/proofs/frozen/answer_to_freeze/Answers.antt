use Rattle.pico_cmd.proofs.Freezes.{freezes_so}
use Rattle.pico_cmd.proofs.frozen.answer_to_freeze.Goals as goal

pub returns-in-Ok-clause-answer : goal.returns-in-Ok-clause-answer
returns-in-Ok-clause-answer c =
    freezes_so _ _ c.frozen.result c.frozen.ensures.status c.frozen.ensures.text
