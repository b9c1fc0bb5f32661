-- Worked examples of thawing, computed by the checker.
use Rattle.std.specs.Prelude.{◌≡◌, ℕ, pos, refl, true, false, List, [], ◌∷◌, Option, Some, None, Result, Ok, Err}
use Rattle.pico_base.specs.declared.call.Call.TheVariants as calls
use Rattle.pico_base.specs.declared.reply.Entry.{Entry}
use Rattle.pico_base.specs.declared.reply.Errno.TheVariants.{Enomsg}
use Rattle.pico_base.specs.declared.reply.Reply.TheVariants.{Num, Fail}
use Rattle.pico_base.specs.declared.script.Event.TheVariants.{Run, Take}
use Rattle.node_model.specs.Entries.{entry_by}
use Rattle.world_model.specs.World.{World, opening_world}
use Rattle.world_model.specs.Examples.{both_find_nothing}
use Rattle.image_text.specs.declared.fault.ImageFault.TheVariants.{NotEnabled}
use Rattle.image_text.specs.declared.fault.ImageStop.{ImageStop}
use Rattle.image_text.specs.declared.fault.ImageStop.TheVariants.{At}
use Rattle.image_text.specs.Examples.{in_line}
use Rattle.world_image.specs.Thawing.{Outcome, behind}

-- what was carried out, and the node of the last event
abbrev pub carried_out : Outcome → Result (List Entry × Option ℕ) ImageStop
carried_out (Ok (w, last)) = Ok (w.journal, last)
carried_out (Err stop) = Err stop

-- after two steps of node 1
pub two_steps : carried_out
    (behind (opening_world both_find_nothing) None (in_line 10 1 1 (Run 1) ∷ in_line 11 2 1 (Run 1) ∷ []))
    ≡ Ok (
      entry_by 1 1 (calls.MsgGet None false false) (Num 1)
          ∷ entry_by 1 1 (calls.MsgRcv 1 (pos 0) 8 false true) (Fail Enomsg) ∷ [],
      Some 1,
    )
unfolding behind
two_steps = refl

-- node 1 sent node 2 nothing
pub nothing_was_sent : behind (opening_world both_find_nothing) None (in_line 10 1 2 (Take 2 1) ∷ [])
    ≡ Err (At 10 NotEnabled)
unfolding behind
nothing_was_sent = refl
