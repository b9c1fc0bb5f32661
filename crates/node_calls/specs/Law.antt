-- A caller's place is the one that a history which fits the script has.
use Rattle.std.specs.Prelude.{◌≡◌, ℕ, Some}
use Rattle.pico_base.specs.declared.call.Call.{Call}
use Rattle.pico_base.specs.declared.reply.Reply.{Reply}
use Rattle.pico_base.specs.declared.script.Script.{Script}
use Rattle.kernel_model.specs.Script.{Vars}
use Rattle.kernel_model.specs.Fitting.{place_after, block_at, block_place}
use Rattle.node_calls.specs.Caller.{BlockCaller, HasLine, answered, beginning, place_of}

-- from the line that is reached, a reply moves the place as in a history
abbrev pub RepliesMovePlaces : Type 0
RepliesMovePlaces = (script : Script) (c : BlockCaller) (call : Call) (reply : Reply) → HasLine script c
    → place_of script (answered script c call reply) ≡ place_after (place_of script c) call (Some reply)

-- at first the place is that of a forked process
abbrev pub CallersBeginAtTheirBlocks : Type 0
CallersBeginAtTheirBlocks = (script : Script) (block : ℕ) (vars : Vars)
    → place_of script (beginning block vars) ≡ block_place (block_at script block) vars
