use Rattle.pico_cmd.proofs.Promises.{left_at_end, left_past_limit}
use Rattle.pico_cmd.proofs.program.bytes_up_to.Goals as goal

pub returns-in-Ok-clause-rest : goal.returns-in-Ok-clause-rest
returns-in-Ok-clause-rest g c =
    left_at_end _ _ _ _ c.in-Ok.ensures.whole c.in-Ok.ensures.end c.in-Ok.ensures.within c.in-Ok.ensures.told

pub returns-in-Err-TooLong-clause-rest : goal.returns-in-Err-TooLong-clause-rest
returns-in-Err-TooLong-clause-rest g c =
    left_past_limit _ _ _ _ (rw c.in-Err-TooLong.field-0-is at c.in-Err-TooLong.ensures.rest)
    (rw c.in-Err-TooLong.field-0-is at c.in-Err-TooLong.ensures.one_more)
