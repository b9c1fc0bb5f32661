-- How many events of each node may come next.
use Rattle.std.specs.Prelude.{◌≡◌, ℕ, ◌+◌, ◌<◌, ◌≤◌, Bool, List, [], ◌∷◌, length, map, get_or, cond, nat_lt, Option, Some, None}
use Rattle.std.specs.List.{sum}
use Rattle.std.specs.Simd.Lanes.{mask_l}
use Rattle.rpc_frame.specs.declared.frame.Frame.{Frame}
use Rattle.world_model.specs.Node.{Node, is_born, can_run}
use Rattle.world_model.specs.World.{Streams}
use Rattle.world_core.specs.Inbox.{senders}

-- of a node with these streams to it: it takes a frame of each sender that it may take one from, and it runs
abbrev pub events_at : Option Node → List (List Frame) → ℕ
events_at None row = 0
events_at (Some n) row = length (senders (is_born n) row) + cond (can_run n) 1 0

-- of all nodes, each with its streams
abbrev pub counts_of : List (Option Node) → Streams → List ℕ
counts_of [] rows = []
counts_of (n ∷ ns) [] = []
counts_of (n ∷ ns) (row ∷ rows) = events_at n row ∷ counts_of ns rows

-- a node with so many events has one
abbrev pub is_busy : ℕ → Bool
is_busy count = nat_lt 0 count

-- the nodes that have an event, as a number: the bit of each stands at its place
abbrev pub busy_mask : List ℕ → ℕ
busy_mask counts = mask_l (map is_busy counts)

-- What is kept beside the counts of at most 32 nodes, each at most 33: how many there are in all, and a number with a
-- bit for each node, which is set where it has an event.
pub record AreSummed (all busy : ℕ) (counts : List ℕ) : Type 0 where
  pub few : length counts ≤ 32
  pub each : (i : ℕ) → get_or counts i 0 ≤ 33
  pub summed : all ≡ sum counts
  pub marked : busy ≡ busy_mask counts

-- the first place from this one on whose node has an event, if there is one
abbrev pub IsNext : List ℕ → ℕ → Option ℕ → Type 0
IsNext counts from None = (i : ℕ) → from ≤ i → get_or counts i 0 ≡ 0
IsNext counts from (Some at) = (from ≤ at) × (at < length counts) × (0 < get_or counts at 0)
    × ((i : ℕ) → from ≤ i → i < at → get_or counts i 0 ≡ 0)
