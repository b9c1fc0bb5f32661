-- Keys of queues and sets: what they lead to, and msgget and semget by a key.
use Rattle.std.specs.Prelude.{ℕ, ◌||◌, nat_eq, nat_le, length, if◌then◌else◌, Option, Some, None, Result, Ok, Err}
use Rattle.std.specs.Option.{option_map}
use Rattle.pico_base.specs.declared.call.Call.{Call}
use Rattle.pico_base.specs.declared.call.Call.TheVariants as calls
use Rattle.pico_base.specs.declared.numbers.Kind.TheVariants as kinds
use Rattle.pico_base.specs.declared.numbers.Name.{Name}
use Rattle.pico_base.specs.declared.numbers.Name.TheVariants.{Proc, Msg, Sem}
use Rattle.pico_base.specs.declared.reply.Errno.{Errno}
use Rattle.pico_base.specs.declared.reply.Errno.TheVariants.{Einval}
use Rattle.pico_base.specs.declared.reply.Reply.{Reply}
use Rattle.pico_base.specs.declared.reply.Reply.TheVariants as replies
use Rattle.pico_base.specs.declared.script.Script.{Script}
use Rattle.key_table.specs.KeyMap.{key_answer}
use Rattle.key_table.specs.declared.Bound.{Bound}
use Rattle.key_table.specs.declared.KeyAnswer.{KeyAnswer}
use Rattle.key_table.specs.declared.KeyAnswer.TheVariants as answers
use Rattle.rpc_frame.specs.declared.asked.Asked.{Asked}
use Rattle.number_maps.specs.Maps.{Numbered, get, put, without_value}
use Rattle.kernel_model.specs.Queue.{empty_queue}
use Rattle.kernel_model.specs.SemaphoreSet.{SemaphoreSet, new_set}
use Rattle.waiting_model.specs.Waiters.{unawaited}
use Rattle.node_model.specs.Kinds.{put_named}
use Rattle.node_model.specs.Directory.{place_name}
use Rattle.node_model.specs.Bodies.{Body, AQueue, ASet}
use Rattle.world_model.specs.Node.{Node, Leader}
use Rattle.world_model.specs.Step.{Step, with_node, with_directory, carry_out}
use Rattle.world_model.specs.Numbers.{Taken, take_number}

abbrev pub bind : Numbered Bound → ℕ → ℕ → ℕ → Numbered Bound
bind keys key id count = put keys key (record { id = id; count = count })

-- no key leads to the identifier any more
abbrev pub unbind : Numbered Bound → ℕ → Numbered Bound
unbind keys id = without_value (λ bound. bound.id) keys id

abbrev pub without_key : Leader → Name → Leader
without_key l (Proc pid) = l
without_key l (Msg id) = record l { queue_keys = unbind l.queue_keys id }
without_key l (Sem id) = record l { set_keys = unbind l.set_keys id }

-- a new queue or set is at node 1, and its key leads to it
abbrev pub make_bound : Script → Step → Asked → Name → Body → ℕ → Leader → Step
make_bound script step asked name body id leader =
    let n : Node = step.node
    in let made : Node = record n { deeds = put_named n.deeds name body; leader = leader }
    in carry_out script (with_node step (with_directory made (place_name leader.directory name n.number))) asked
    (replies.Num id)

abbrev pub make_queue : Script → Step → Asked → ℕ → Taken → Step
make_queue script step asked key t =
    let l : Leader = t.node.leader
    in make_bound script (with_node step t.node) asked (Msg t.number) (AQueue (unawaited empty_queue)) t.number
    (record l { queue_keys = bind l.queue_keys key t.number 0 })

abbrev pub make_set : Script → Step → Asked → ℕ → SemaphoreSet → Taken → Step
make_set script step asked key set t =
    let l : Leader = t.node.leader
    in make_bound script (with_node step t.node) asked (Sem t.number) (ASet (unawaited set)) t.number
    (record l { set_keys = bind l.set_keys key t.number (length set.semaphores) })

-- msgget and semget by a key (POSIX.1-2017)
abbrev pub get_queue : Script → Step → Asked → ℕ → KeyAnswer → Option Step
get_queue script step asked key (answers.Found id count) = Some (carry_out script step asked (replies.Num id))
get_queue script step asked key answers.Create =
    option_map (make_queue script step asked key) (take_number step.node kinds.Msg)
get_queue script step asked key (answers.Fail e) = Some (carry_out script step asked (replies.Fail e))

abbrev pub find_set : ℕ → ℕ → ℕ → Reply
find_set id size count = if nat_eq count 0 || nat_le count size then replies.Num id else replies.Fail Einval

abbrev pub create_set : Script → Step → Asked → ℕ → Result SemaphoreSet Errno → Option Step
create_set script step asked key (Err e) = Some (carry_out script step asked (replies.Fail e))
create_set script step asked key (Ok set) =
    option_map (make_set script step asked key set) (take_number step.node kinds.Sem)

abbrev pub get_set : Script → Step → Asked → ℕ → ℕ → KeyAnswer → Option Step
get_set script step asked key count (answers.Found id size) =
    Some (carry_out script step asked (find_set id size count))
get_set script step asked key count answers.Create = create_set script step asked key (new_set count)
get_set script step asked key count (answers.Fail e) = Some (carry_out script step asked (replies.Fail e))

abbrev pub get_by_key : Script → Step → Asked → Call → Option Step
get_by_key script step asked (calls.MsgGet (Some key) create excl) =
    get_queue script step asked key (key_answer (get step.node.leader.queue_keys key) create excl)
get_by_key script step asked (calls.SemGet (Some key) count create excl) =
    get_set script step asked key count (key_answer (get step.node.leader.set_keys key) create excl)
get_by_key script step asked call = None
