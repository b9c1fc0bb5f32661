use Rattle.std.proofs.Common.{inl, refl}
use Rattle.pico_cmd.proofs.program.write_text.Goals as goal

-- all of the text is written
pub returns-in-Ok-clause-written : goal.returns-in-Ok-clause-written
returns-in-Ok-clause-written g c = inl (record { status = refl; taken = c.in-Ok.ensures.all })
