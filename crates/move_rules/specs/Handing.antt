-- A node that hands over all that it holds.
use Rattle.std.specs.Prelude.{ℕ, Bool, ◌&&◌, nat_eq, if◌then◌else◌, Option, Some, None}
use Rattle.std.specs.List.{list_all}
use Rattle.pico_base.specs.declared.call.Call.{Call}
use Rattle.pico_base.specs.declared.numbers.Name.{Name}
use Rattle.pico_base.specs.declared.numbers.Name.TheVariants.{Proc, Msg, Sem}
use Rattle.number_maps.specs.Maps.{Numbered}
use Rattle.node_model.specs.Kinds.{Named, none_named}
use Rattle.node_serve.specs.declared.body.Body.{Body}
use Rattle.node_serve.specs.Spelled.{suits}
use Rattle.world_model.specs.Node.{Node, Left, is_leaving_stage}
use Rattle.world_model.specs.Lives.{is_end}

-- all bodies go with their names
abbrev pub all_suit : (ℕ → Name) → Numbered Body → Bool
all_suit name entries = list_all (λ e. suits e.1 (name e.0)) entries

abbrev pub all_kinds_suit : Named Body → Bool
all_kinds_suit held = all_suit Msg held.queues && (all_suit Sem held.sets && all_suit Proc held.processes)

-- it has left, and holds nothing
abbrev pub without_all : Node → Node
without_all n = record n { stage = Left; deeds = none_named; watches = none_named }

-- the call, where it ends its process
abbrev pub end_in : Option Call → Option Call
end_in None = None
end_in (Some call) = if is_end call then Some call else None

-- the call that ends the process of a node that leaves, where the leader asks for what the node holds
abbrev pub asked_end : Node → ℕ → Option Call
asked_end n from = if nat_eq from 1 && is_leaving_stage n.stage then end_in n.caller.under_way else None
