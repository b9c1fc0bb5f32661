-- Worked examples, computed by the checker: frames that may come, and frames that may not, whatever the node's state
-- is.
use Rattle.std.specs.Prelude.{◌≡◌, ℕ, true, false, List, [], ◌∷◌, None, refl}
use Rattle.pico_base.specs.declared.call.Call.TheVariants as calls
use Rattle.pico_base.specs.declared.numbers.Name.TheVariants.{Proc, Msg}
use Rattle.pico_base.specs.declared.reply.Reply.TheVariants as replies
use Rattle.rpc_frame.specs.declared.deed.PackedDeed.{PackedDeed}
use Rattle.rpc_frame.specs.declared.frame.Frame.{Frame}
use Rattle.rpc_frame.specs.declared.frame.Frame.TheVariants as frames
use Rattle.world_model.specs.Example.{script}
use Rattle.world_model.specs.Node.{first_node, unborn_node}
use Rattle.world_model.specs.Turn.{may_come, take_frame}

-- an Ask has a ticket, which isn't 0
pub an_ask_may_come : may_come first_node 2 (frames.Ask 1 2 (calls.MsgStat 1)) ≡ true
unfolding may_come
an_ask_may_come = refl

pub an_ask_without_a_ticket : may_come first_node 2 (frames.Ask 0 2 (calls.MsgStat 1)) ≡ false
unfolding may_come
an_ask_without_a_ticket = refl

-- nobody asks for a call that a process makes by itself
pub an_ask_for_a_fork : may_come first_node 2 (frames.Ask 1 2 (calls.Fork 3)) ≡ false
unfolding may_come
an_ask_for_a_fork = refl

-- a name has a number, which isn't 0
pub a_recall_of_no_name : may_come (unborn_node 2) 1 (frames.Recall (Msg 0)) ≡ false
unfolding may_come
a_recall_of_no_name = refl

-- the end of a process is no answer to a call
pub an_end_is_no_answer : may_come first_node 2 (frames.Answer 1 replies.Ended) ≡ false
unfolding may_come
an_end_is_no_answer = refl

-- variables stand by rising number
abbrev a_deed : ℕ → PackedDeed
a_deed pid = record { name = Proc pid; body = 0 ∷ [] }

pub variables_that_rise :
    may_come (unborn_node 2) 1 (frames.Checkpoint 9 1 (a_deed 9) ((1, 5) ∷ (2, 5) ∷ [])) ≡ true
unfolding may_come
variables_that_rise = refl

pub variables_that_do_not :
    may_come (unborn_node 2) 1 (frames.Checkpoint 9 1 (a_deed 9) ((2, 5) ∷ (1, 5) ∷ [])) ≡ false
unfolding may_come
variables_that_do_not = refl

-- the leader has 2 to 8 to give at first: no process with such a number comes home
abbrev home : List PackedDeed → Frame
home deeds = frames.Left (record { pid = 9; parent = 1; call = calls.Exit 0; deeds = deeds })

pub a_process_comes_home : may_come first_node 2 (home (a_deed 9 ∷ [])) ≡ true
unfolding may_come
a_process_comes_home = refl

pub a_process_not_yet_made : may_come first_node 2 (home (a_deed 8 ∷ a_deed 9 ∷ [])) ≡ false
unfolding may_come
a_process_not_yet_made = refl

-- deeds stand by rising number
pub deeds_out_of_order : may_come first_node 2 (home (a_deed 10 ∷ a_deed 9 ∷ [])) ≡ false
unfolding may_come
deeds_out_of_order = refl

-- a frame that may not come has no step
pub no_step_without_a_ticket : take_frame (script []) first_node 2 (frames.Ask 0 2 (calls.MsgStat 1)) ≡ None
unfolding may_come
no_step_without_a_ticket = refl
