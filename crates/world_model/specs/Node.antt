-- One picoprocess, as plain data.
use Rattle.std.specs.Prelude.{ℕ, Bool, true, false, not, ◌&&◌, nat_eq, nat_le, [], length, Option, None, is_some}
use Rattle.pico_base.specs.declared.call.Call.{Call}
use Rattle.pico_base.specs.declared.numbers.Name.{Name}
use Rattle.pico_base.specs.declared.numbers.Name.TheVariants.{Proc}
use Rattle.pico_base.specs.declared.script.Script.{Script}
use Rattle.key_table.specs.declared.Bound.{Bound}
use Rattle.rpc_frame.specs.declared.asked.Asked.{Asked}
use Rattle.number_maps.specs.Maps.{Numbered}
use Rattle.kernel_model.specs.Row.{Row, new_row}
use Rattle.node_model.specs.Kinds.{none_named, get_named, put_named}
use Rattle.node_model.specs.Directory.{Directory, opening_directory}
use Rattle.node_model.specs.Cache.{Cache}
use Rattle.node_model.specs.Leases.{Leases, leader_leases, no_leases}
use Rattle.node_model.specs.Watches.{Watches}
use Rattle.node_model.specs.Caller.{Caller, new_caller}
use Rattle.node_model.specs.Bodies.{Living as LivingBody, Deeds, row_of}

-- Its life: until its process is forked and its Checkpoint has come; while its process makes calls; from its process's
-- last call until the leader asks for what it holds; and when it has handed that over. Node 1 stays: its process is
-- over, and it goes on as the leader.
pub data Stage : Type 0 where
  Unborn : Stage
  Living : Stage
  Leaving : Stage
  Left : Stage
  Over : Stage

-- What the leader has besides: the directory, and the keys of queues and of sets, each with the identifier that it
-- leads to and, for a set, how many semaphores that has.
pub record Leader : Type 0 where
  pub directory : Directory
  pub queue_keys : Numbered Bound
  pub set_keys : Numbered Bound

-- Node k is block k of the script. Its process has a number, a parent, and a node where the parent is or was. It holds
-- deeds, and watches who reads them; it has numbers to give, and a cache of owners.
pub record Node : Type 0 where
  pub number : ℕ
  pub stage : Stage
  pub pid : ℕ
  pub parent : ℕ
  pub parent_node : ℕ
  pub caller : Caller
  pub deeds : Deeds
  pub watches : Watches
  pub leases : Leases
  pub cache : Cache
  pub leader : Leader

-- At first node 1 is born with process 1, and the others aren't born.

abbrev pub opening_leader : Leader
opening_leader = record { directory = opening_directory; queue_keys = []; set_keys = [] }

abbrev pub unborn_node : ℕ → Node
unborn_node number =
    record {
      number = number;
      stage = Unborn;
      pid = 0;
      parent = 0;
      parent_node = 1;
      caller = new_caller [];
      deeds = none_named;
      watches = none_named;
      leases = no_leases;
      cache = [];
      leader = opening_leader;
    }

abbrev pub first_node : Node
first_node =
    record (unborn_node 1) {
      stage = Living;
      pid = 1;
      deeds = put_named none_named (Proc 1) (LivingBody new_row);
      leases = leader_leases;
    }

abbrev pub opening_node : ℕ → Node
opening_node number = elim (nat_eq number 1) [ true ↦ first_node | false ↦ unborn_node number ]

-- ---- questions about a node

abbrev pub is_leader : Node → Bool
is_leader n = nat_eq n.number 1

abbrev pub is_living : Stage → Bool
is_living Living = true
is_living _ = false

abbrev pub is_leaving_stage : Stage → Bool
is_leaving_stage Leaving = true
is_leaving_stage _ = false

abbrev pub is_unborn : Stage → Bool
is_unborn Unborn = true
is_unborn _ = false

abbrev pub is_born : Node → Bool
is_born n = not (is_unborn n.stage)

-- its process can start a call: it makes calls, and none is under way
abbrev pub can_run : Node → Bool
can_run n = is_living n.stage && not (is_some n.caller.under_way)

-- the deed is held here
abbrev pub holds : Node → Name → Bool
holds n name = is_some (get_named n.deeds name)

-- its own process's row
abbrev pub own_row : Node → Option Row
own_row n = row_of (get_named n.deeds (Proc n.pid))

-- the call under way, as others are asked for it
abbrev pub asked_here : Node → Call → Asked
asked_here n call = record { caller = n.number; ticket = n.caller.ticket; pid = n.pid; call = call }

-- the call under way, where it has this ticket
abbrev pub under_way_as : Node → ℕ → Option Call
under_way_as n ticket = elim (nat_eq ticket n.caller.ticket) [ true ↦ n.caller.under_way | false ↦ None ]

-- a node of the script
abbrev pub is_node : Script → ℕ → Bool
is_node script number = nat_le 1 number && nat_le number (length script.blocks)
