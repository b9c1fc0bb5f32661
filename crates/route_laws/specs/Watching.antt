-- A node counts who reads what it holds, and its own reads count for nothing.
use Rattle.std.specs.Prelude.{◌≡◌, ℕ, Some, refl}
use Rattle.pico_base.specs.declared.numbers.Name.{Name}
use Rattle.pico_base.specs.declared.numbers.Name.TheVariants.{Msg}
use Rattle.node_model.specs.Kinds.{none_named, put_named}
use Rattle.node_model.specs.Watches.{Watches, moves_to, watch_over}
use Rattle.world_model.specs.Node.{Node}

-- each of these watches has this owner
abbrev pub AreWatchesOf : ℕ → Watches → Type 0
AreWatchesOf owner watches = (name : Name) → (watch_over watches owner name).owner ≡ owner

-- each of its watches has the node itself as the owner
abbrev pub WatchesAsOwner : Node → Type 0
WatchesAsOwner n = AreWatchesOf n.number n.watches

-- A watch with another owner would count a node's own read, and move the name from the node to itself.
own_read_would_move :
    moves_to (put_named none_named (Msg 1) (record { owner = 2; reader = Some 1; run = 3 })) 1 (Msg 1) 1 ≡ Some 1
own_read_would_move = refl
