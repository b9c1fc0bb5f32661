-- A node serves a call on a name whose deed it holds.
use Rattle.std.specs.Prelude.{ℕ, Bool, true, false, ◌&&◌, List, if◌then◌else◌, Option, Some, None}
use Rattle.std.specs.Option.{option_map, option_map_or}
use Rattle.pico_base.specs.declared.call.Call.{Call}
use Rattle.pico_base.specs.declared.numbers.Name.{Name}
use Rattle.pico_base.specs.declared.numbers.Name.TheVariants.{Proc}
use Rattle.pico_base.specs.declared.reply.Errno.TheVariants.{Eintr}
use Rattle.pico_base.specs.declared.reply.Reply.TheVariants as replies
use Rattle.pico_base.specs.declared.script.Script.{Script}
use Rattle.rpc_frame.specs.declared.asked.Asked.{Asked}
use Rattle.rpc_frame.specs.declared.frame.Frame.TheVariants as frames
use Rattle.node_model.specs.Kinds.{is_same_name, get_named, put_named, without_named, put_all}
use Rattle.node_model.specs.Directory.{arrive, stays}
use Rattle.node_model.specs.Watches.{with_reads, last_move, unwatch}
use Rattle.node_model.specs.Bodies.{Body}
use Rattle.node_model.specs.Spelling.{pack}
use Rattle.node_model.specs.Serving.{Served, serve, waiting_as, admits, no_such_name, signal_strikes, Withdrawn, Leaves, NotThere, NotHeld, withdraw}
use Rattle.world_model.specs.Node.{Node, is_leader, own_row}
use Rattle.world_model.specs.Step.{Step, with_node, with_deeds, with_directory, with_strike, send, carry_out, carry_out_waking}

-- the deed isn't here any more, nor is its watch
abbrev pub without_deed : Node → Name → Node
without_deed n name = record n { deeds = without_named n.deeds name; watches = unwatch n.watches name }

-- the leader sends a deed that it holds to a node, which is the name's place from now on
abbrev pub grant_held : Step → Name → ℕ → Option Body → Step
grant_held step name to None = step
grant_held step name to (Some body) =
    send (with_node step (with_directory (without_deed step.node name) (arrive step.node.leader.directory name to))) to
    (frames.Grant (pack name body))

abbrev pub grant : Step → Name → ℕ → Step
grant step name to = grant_held step name to (get_named step.node.deeds name)

-- the name would be better at another node: an owner tells the leader, and the leader moves it at once if that node
-- stays
abbrev pub move_to : Step → Name → Option ℕ → Step
move_to step name None = step
move_to step name (Some to) =
    if is_leader step.node
    then if stays step.node.leader.directory to then grant step name to else step
    else send step 1 (frames.Suggest name to)

-- the watch notes the nodes that read, one after another
abbrev pub note_reads : Step → Name → List ℕ → Step
note_reads step name readers =
    let n : Node = step.node
    in move_to (with_node step (record n { watches = with_reads n.watches n.number name readers })) name
    (last_move n.watches n.number name readers)

-- the call is a signal to this node's own process, which it strikes
abbrev pub is_struck : Node → Name → Call → Bool
is_struck n name call =
    is_same_name name (Proc n.pid) && option_map_or (λ row. signal_strikes row call) (own_row n) false

abbrev pub serve_asked_with : Script → Step → Name → Asked → Served → Step
serve_asked_with script step name asked s =
    let struck : Step = with_strike step (is_struck step.node name asked.call)
    in note_reads
    (carry_out_waking script (with_deeds struck (put_all step.node.deeds s.changes)) asked s.own s.wakes)
    name s.readers

-- The serve rule. A call is dropped, with no entry and no reply, whose process waits there already, or for which there
-- is no room; no run has this.
abbrev pub has_room : Step → Name → Asked → Bool
has_room step name asked =
    option_map_or (λ body. admits body (waiting_as asked)) (get_named step.node.deeds name) true

abbrev pub serve_asked : Script → Step → Name → Asked → Option Step
serve_asked script step name asked =
    if has_room step name asked
    then option_map (serve_asked_with script step name asked) (serve step.node.deeds (waiting_as asked))
    else Some step

-- a call on a number that names nothing is carried out as in the kernel
abbrev pub serve_nobody : Script → Step → Name → Asked → Step
serve_nobody script step name asked = carry_out script step asked (replies.Fail (no_such_name name))

-- The withdrawal: who waits under this ticket doesn't wait any more, and the reply to that call is EINTR. Where there
-- is no such waiter the call has its reply, and nothing is done.
abbrev pub interrupted : Script → Step → Name → Asked → Body → Step
interrupted script step name asked body =
    carry_out script (with_deeds step (put_named step.node.deeds name body)) asked (replies.Fail Eintr)

abbrev pub withdraw_by : Script → Step → Name → Asked → Withdrawn → Step
withdraw_by script step name asked (Leaves body) = interrupted script step name asked body
withdraw_by script step name asked NotThere = step
withdraw_by script step name asked NotHeld = step

abbrev pub withdraw_here : Script → Step → Name → Asked → Step
withdraw_here script step name asked =
    withdraw_by script step name asked (withdraw step.node.deeds name asked.pid asked.ticket)
