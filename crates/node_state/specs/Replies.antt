-- Where a reply goes, if there is one, by the caller's node and its ticket.
use Rattle.std.specs.Prelude.{ℕ, Option, Some, None}
use Rattle.pico_base.specs.declared.reply.Reply.{Reply}
use Rattle.pico_base.specs.declared.script.Script.{Script}
use Rattle.world_model.specs.Step.{Step, reply_at}

abbrev pub reply_where : Script → Step → ℕ → ℕ → Option Reply → Step
reply_where script step caller ticket None = step
reply_where script step caller ticket (Some reply) = reply_at script step caller ticket reply
