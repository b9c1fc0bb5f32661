-- Rules of frames that strike nobody, and what else leaves a step's strike as it is.
use Rattle.std.proofs.Common.{◌≡◌, ℕ, Bool, true, false, not, ◌&&◌, if◌then◌else◌, List, [], ◌∷◌, nat_eq, Option, Some, None, option_and_then, option_map, Result, Ok, Err, refl, ◌∙◌}
use Rattle.std.specs.Prelude.{fold}
use Rattle.std.proofs.lemmas.Bool.{false≢true}
use Rattle.pico_base.specs.declared.call.Call.{Call}
use Rattle.pico_base.specs.declared.call.Call.TheVariants as calls
use Rattle.pico_base.specs.declared.numbers.Kind.{Kind}
use Rattle.pico_base.specs.declared.numbers.Name.{Name}
use Rattle.pico_base.specs.declared.numbers.Name.TheVariants.{Proc, Msg, Sem}
use Rattle.pico_base.specs.declared.reply.Errno.{Errno}
use Rattle.pico_base.specs.declared.reply.Reply.{Reply}
use Rattle.pico_base.specs.declared.reply.Reply.TheVariants as replies
use Rattle.pico_base.specs.declared.script.Script.{Script}
use Rattle.pico_base.specs.Home.{home_of}
use Rattle.rpc_frame.specs.declared.asked.Asked.{Asked}
use Rattle.rpc_frame.specs.declared.frame.Frame.{Frame}
use Rattle.rpc_frame.specs.declared.frame.Frame.TheVariants as frames
use Rattle.kernel_laws.proofs.Plain.{Of, by_test, of-map, of-next, of-test}
use Rattle.kernel_model.specs.Fitting.{child_vars}
use Rattle.kernel_model.specs.Queue.{empty_queue}
use Rattle.kernel_model.specs.Row.{Row}
use Rattle.kernel_model.specs.Script.{Vars}
use Rattle.kernel_model.specs.SemaphoreSet.{SemaphoreSet, new_set}
use Rattle.waiting_model.specs.Waiters.{unawaited}
use Rattle.node_model.specs.Bodies.{AQueue, ASet, Body, Living}
use Rattle.node_model.specs.Caller.{caller_place}
use Rattle.node_model.specs.Directory.{has_more, place_name, place_of, stays}
use Rattle.node_model.specs.Kinds.{get_named, is_object, none_named, put_named}
use Rattle.node_model.specs.Leases.{leases_hold, refill, takes_number}
use Rattle.node_model.specs.Parcels.{give_all}
use Rattle.node_model.specs.Serving.{child_body, parent_body}
use Rattle.node_model.specs.Spelling.{pack, read_deed}
use Rattle.world_model.specs.Calls.{answered_by, end_with_reply, is_for_others, is_from_leader, is_to_leader}
use Rattle.world_model.specs.Lives.{be_born, born_with, hand_over, is_end, is_forked_by, is_new_row, is_of_process, may_leave, send_to_leader}
use Rattle.world_model.specs.Moves.{give_back, has_nodes, is_at, is_new_here, keep, receive_deed, suggest}
use Rattle.world_model.specs.Node.{Left, Node, asked_here, is_leader, is_leaving_stage, is_node, is_unborn, own_row, under_way_as}
use Rattle.world_model.specs.Numbers.{fork_with, make, make_object, make_set, make_taken, make_with, take_number, tell_place}
use Rattle.world_model.specs.Ranges.{go_on_with, may_lease}
use Rattle.world_model.specs.Routes.{recall_from}
use Rattle.world_model.specs.Step.{Step, carry_out, enter, reply_here, send, step_to, with_deeds, with_directory, with_node}
use Rattle.world_model.specs.Turn.{take_by_kind}

-- ---- steps that strike as another does

abbrev StrikesStay : Step → Step → Type 0
StrikesStay s t = t.strikes ≡ s.strikes

replied-stays : (script : Script) (s : Step) (asked : Asked) (reply : Reply)
    → StrikesStay s (carry_out script s asked reply)
replied-stays script s asked reply = let n : Node = s.node in by-test (nat_eq asked.caller n.number)
  where
    entered : Step
    entered = enter s asked.pid asked.call reply

    by-call : (o : Option Call) → StrikesStay s (reply_here script entered reply o)
    by-call None = refl
    by-call (Some call) = refl

    by-test : (t : Bool) → StrikesStay s (if t
        then reply_here script entered reply (under_way_as entered.node asked.ticket)
        else send entered asked.caller (frames.Answer asked.ticket reply))
    by-test true = by-call (under_way_as entered.node asked.ticket)
    by-test false = refl

-- ---- steps that strike nobody

-- at its end no strike is owed
abbrev pub IsCalm : Step → Type 0
IsCalm s = s.strikes ≡ false

carried-calm : (script : Script) (s : Step) (asked : Asked) (reply : Reply) → IsCalm s
    → IsCalm (carry_out script s asked reply)
carried-calm script s asked reply calm = replied-stays script s asked reply ∙ calm

told-calm : (s : Step) (name : Name) (at : ℕ) → IsCalm s → IsCalm (tell_place s name at)
told-calm s name at calm =
    by_test IsCalm (is_leader s.node)
    (with_node s (with_directory s.node (place_name s.node.leader.directory name at)))
    (send s 1 (frames.Placed name at)) (λ e. calm) (λ e. calm)

-- ---- a call that takes a number

fork-calm : (script : Script) (s : Step) (call : Call) (block child : ℕ) (row : Row) → IsCalm s
    → IsCalm (fork_with script s call block child row)
fork-calm script s call block child row calm =
    let n : Node = s.node
    in let held : Step = with_deeds s (put_named n.deeds (Proc n.pid) (parent_body row child))
    in let done : Step = carry_out script held (asked_here n call) (replies.Num child)
    in told-calm
    (send done block
    (frames.Checkpoint child n.pid (pack (Proc child) (child_body row))
    (child_vars (caller_place script n.number n.caller))))
    (Proc child) block (carried-calm script held (asked_here n call) (replies.Num child) calm)

object-calm : (script : Script) (s : Step) (call : Call) (name : Name) (body : Body) (number : ℕ) → IsCalm s
    → IsCalm (make_object script s call name body number)
object-calm script s call name body number calm =
    let n : Node = s.node
    in let held : Step = with_deeds s (put_named n.deeds name body)
    in told-calm (carry_out script held (asked_here n call) (replies.Num number)) name n.number
    (carried-calm script held (asked_here n call) (replies.Num number) calm)

set-calm : (script : Script) (s : Step) (call : Call) (number : ℕ) (r : Result SemaphoreSet Errno) → IsCalm s
    → Of IsCalm (make_set script s call number r)
set-calm script s call number (Err e) calm = tt
set-calm script s call number (Ok set) calm =
    object-calm script s call (Sem number) (ASet (unawaited set)) number calm

made-calm : (script : Script) (s : Step) (call : Call) (number : ℕ) → IsCalm s
    → Of IsCalm (make_with script s call number)
made-calm script s (calls.Fork block) number calm =
    of-map IsCalm (own_row s.node) (fork_with script s (calls.Fork block) block number)
    (λ row is. fork-calm script s (calls.Fork block) block number row calm)
made-calm script s (calls.MsgGet key create excl) number calm =
    object-calm script s (calls.MsgGet key create excl) (Msg number) (AQueue (unawaited empty_queue)) number calm
made-calm script s (calls.SemGet key count create excl) number calm =
    set-calm script s (calls.SemGet key count create excl) number (new_set count) calm
made-calm script s call number calm = tt

make-calm : (script : Script) (s : Step) (call : Call) (kind : Kind) → IsCalm s → Of IsCalm (make script s call kind)
make-calm script s call kind calm =
    of-next IsCalm (take_number s.node kind) (make_taken script s call)
    (λ t is. made-calm script (with_node s t.node) call t.number calm)

-- ---- frames

-- the rule of such a frame serves no call, and ends no process
abbrev pub strikes_nobody : Frame → Bool
strikes_nobody (frames.Answer ticket reply) = true
strikes_nobody (frames.LeaseAsk kind) = true
strikes_nobody (frames.Lease kind first) = true
strikes_nobody (frames.Placed name node) = true
strikes_nobody (frames.Checkpoint pid parent deed vars) = true
strikes_nobody (frames.Suggest name node) = true
strikes_nobody (frames.Recall name) = true
strikes_nobody (frames.Grant deed) = true
strikes_nobody (frames.Leaving pid parent parent_node) = true
strikes_nobody frames.RecallAll = true
strikes_nobody frame = false

born-calm : (n : Node) (sender pid parent : ℕ) (vars : Vars) (body : Body)
    → Of IsCalm (born_with n sender pid parent vars body)
born-calm n sender pid parent vars (Living row) =
    of-test IsCalm (is_new_row row) (Some (step_to (be_born n sender pid parent vars (Living row)))) (λ e. refl)
born-calm n sender pid parent vars body = tt

all-sent-calm : (sends : List Frame) (s : Step) → IsCalm s → IsCalm (fold send_to_leader s sends)
all-sent-calm [] s calm = calm
all-sent-calm (frame ∷ sends) s calm = all-sent-calm sends (send_to_leader s frame) calm

handed-calm : (n : Node) (call : Call) → Of IsCalm (hand_over n call)
handed-calm n call =
    let empty : Node = record n { stage = Left; deeds = none_named; watches = none_named }
    in of-test IsCalm (is_end call)
    (Some (fold send_to_leader (step_to empty) (give_all n.deeds n.pid n.parent call)))
    (λ e. all-sent-calm (give_all n.deeds n.pid n.parent call) (step_to empty) refl)

suggested-calm : (n : Node) (sender : ℕ) (name : Name) (to : ℕ) → IsCalm (suggest n sender name to)
suggested-calm n sender name to =
    by_test IsCalm (is_at sender (place_of n.leader.directory name) && stays n.leader.directory to)
    (recall_from (step_to n) name (Some to) sender) (step_to n) (λ e. refl) (λ e. refl)

-- a frame that strikes nobody leads to such a step, by the rule of its kind, if to any
pub calm-rule : (script : Script) (n : Node) (sender : ℕ) (frame : Frame) → strikes_nobody frame ≡ true
    → Of IsCalm (take_by_kind script n sender frame)
calm-rule script n sender (frames.Answer ticket reply) h =
    of-next IsCalm (under_way_as n ticket) (answered_by script n sender reply)
    (λ call is. of-test IsCalm (is_for_others (home_of n.pid call))
    (Some (step_to (end_with_reply script n sender call reply))) (λ e. refl))
calm-rule script n sender (frames.LeaseAsk kind) h =
    of-test IsCalm (is_to_leader n sender && has_more n.leader.directory kind) _ (λ e. refl)
calm-rule script n sender (frames.Lease kind first) h =
    of-test IsCalm (nat_eq sender 1 && may_lease n kind first)
    (option_and_then (go_on_with script n kind first) n.caller.under_way)
    (λ e. of-next IsCalm n.caller.under_way (go_on_with script n kind first)
    (λ call is. of-test IsCalm (takes_number kind call)
    (make script (step_to (record n { leases = refill n.leases kind first })) call kind)
    (λ t. make-calm script (step_to (record n { leases = refill n.leases kind first })) call kind refl)))
calm-rule script n sender (frames.Placed name node) h =
    of-test IsCalm
    (is_to_leader n sender && (is_node script node && (not (nat_eq node 1) && not (leases_hold n.leases name)))) _
    (λ e. refl)
calm-rule script n sender (frames.Checkpoint pid parent deed vars) h =
    of-test IsCalm
    (is_unborn n.stage && (is_forked_by script sender n.number && is_of_process pid deed.name))
    (option_and_then (born_with n sender pid parent vars) (read_deed deed))
    (λ e. of-next IsCalm (read_deed deed) (born_with n sender pid parent vars)
    (λ body is. born-calm n sender pid parent vars body))
calm-rule script n sender (frames.Suggest name node) h =
    of-test IsCalm (is_to_leader n sender && (is_node script node && is_object name))
    (Some (suggest n sender name node)) (λ e. suggested-calm n sender name node)
calm-rule script n sender (frames.Recall name) h =
    of-test IsCalm (is_from_leader n sender && is_object name)
    (option_map (give_back n name) (get_named n.deeds name))
    (λ e. of-map IsCalm (get_named n.deeds name) (give_back n name) (λ body is. refl))
calm-rule script n sender (frames.Grant deed) h =
    of-test IsCalm (is_from_leader n sender && is_new_here n deed.name)
    (option_and_then (receive_deed script n deed.name) (read_deed deed))
    (λ e. of-next IsCalm (read_deed deed) (receive_deed script n deed.name)
    (λ body is. of-test IsCalm (has_nodes script body) (Some (step_to (keep n deed.name body))) (λ t. refl)))
calm-rule script n sender (frames.Leaving pid parent parent_node) h =
    of-test IsCalm (is_to_leader n sender && may_leave script n sender pid parent parent_node) _ (λ e. refl)
calm-rule script n sender frames.RecallAll h =
    of-test IsCalm (nat_eq sender 1 && is_leaving_stage n.stage)
    (option_and_then (hand_over n) n.caller.under_way)
    (λ e. of-next IsCalm n.caller.under_way (hand_over n) (λ call is. handed-calm n call))
calm-rule script n sender frame h = absurd (false≢true h)
