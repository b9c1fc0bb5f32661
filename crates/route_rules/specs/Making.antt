-- A new queue or set for a key, step by step.
use Rattle.std.specs.Prelude.{ℕ, Option}
use Rattle.pico_base.specs.declared.numbers.Name.{Name}
use Rattle.pico_base.specs.declared.reply.Reply.TheVariants as replies
use Rattle.pico_base.specs.declared.script.Script.{Script}
use Rattle.rpc_frame.specs.declared.asked.Asked.{Asked}
use Rattle.kernel_model.specs.SemaphoreSet.{new_set}
use Rattle.node_model.specs.Directory.{place_name}
use Rattle.world_model.specs.Step.{Step, with_node, with_directory, carry_out}
use Rattle.world_model.specs.Keys.{create_set}

-- what is held here under a new name is placed here, and its number is the reply
abbrev pub put_in_place : Script → Step → Asked → Name → ℕ → Step
put_in_place script step asked name number =
    carry_out script
    (with_node step (with_directory step.node (place_name step.node.leader.directory name step.node.number))) asked
    (replies.Num number)

-- a new set of so many semaphores is made for the key
abbrev pub create_sized : Script → Step → Asked → ℕ → ℕ → Option Step
create_sized script step asked key count = create_set script step asked key (new_set count)
