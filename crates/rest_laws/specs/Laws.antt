-- What holds of the worlds that a run of a script leads to: who owns which name, and what is left where no event is
-- enabled any more.
use Rattle.std.specs.Prelude.{◌≡◌, ◌≢◌, ◌⊎◌, ◌≤◌, ℕ, Bool, not, [], Some, None, IsSome, true, false}
use Rattle.std.specs.List.{list_all}
use Rattle.pico_base.specs.declared.call.Call.{Call}
use Rattle.pico_base.specs.declared.numbers.Name.{Name}
use Rattle.pico_base.specs.declared.script.Line.{Line}
use Rattle.pico_base.specs.declared.script.Script.{Script}
use Rattle.kernel_model.specs.Script.{IsSoundScript}
use Rattle.kernel_model.specs.Waiting.{is_waiting}
use Rattle.waiting_model.specs.Calls.{may_park}
use Rattle.waiting_model.specs.Fitting.{FitsWhole}
use Rattle.waiting_model.specs.History.{Replays}
use Rattle.waiting_model.specs.Kernel.{Kernel, living_at, opening}
use Rattle.waiting_model.specs.Marks.{Alive}
use Rattle.waiting_model.specs.Plain.{plain_kernel}
use Rattle.entry_laws.specs.Entering.{is_used_name}
use Rattle.node_model.specs.Directory.{held_for}
use Rattle.world_model.specs.Census.{one_if, owners}
use Rattle.world_model.specs.Lives.{is_end}
use Rattle.world_model.specs.Node.{Node, Leader, Unborn, Living, Left, Over, opening_leader}
use Rattle.world_model.specs.Run.{IsReachableWorld, IsAtRest, is_stalled}
use Rattle.world_model.specs.World.{World, node_count, stream}
use Rattle.world_laws.specs.Sights.{node_of, directory_of, stage_of}
use Rattle.world_laws.specs.Ways.{under_way_of}

-- ---- owners

-- A process, a queue or a set has one owner, from the entry on that makes it; a number that names nothing has none. The
-- kernel is the one that the journal replays to.
abbrev pub NamesHaveOneOwner : Type 0
NamesHaveOneOwner =
    (script : Script) (w : World) (k : Kernel) (name : Name) → IsSoundScript script → IsReachableWorld script w
    → Replays opening w.journal k → owners name w ≡ one_if (is_used_name (plain_kernel k) name)

-- Only the leader knows of names, of who leaves, of ranges and of keys: every other node has of these what it has
-- before its birth.
abbrev pub leader_at : World → ℕ → Leader
leader_at w p =
    let n : Node = node_of w p
    in n.leader

abbrev pub OthersLeadNothing : World → Type 0
OthersLeadNothing w = (p : ℕ) → p ≢ 1 → leader_at w p ≡ opening_leader

-- ---- at rest

-- A node's process isn't there yet, or the node has left, or node 1 goes on, or a call waits. No call is under way but
-- one that waits, and the one that ended the process of a node that has left.
pub record IsNodeAtRest (w : World) (p : ℕ) : Type 0 where
  pub stage : (stage_of w p ≡ Unborn) ⊎ (stage_of w p ≡ Left) ⊎ ((p ≡ 1) × (stage_of w p ≡ Over))
      ⊎ ((stage_of w p ≡ Living) × IsSome (under_way_of w p))
  pub calls : (call : Call) → under_way_of w p ≡ Some call
      → ((stage_of w p ≡ Left) × (is_end call ≡ true)) ⊎ ((stage_of w p ≡ Living) × (may_park call ≡ true))

-- Nothing is on its way, the leader holds nothing, and no node does anything any more.
pub record IsQuiet (script : Script) (w : World) : Type 0 where
  pub streams : (to sender : ℕ) → stream w to sender ≡ []
  pub held : (name : Name) → held_for (directory_of w) name ≡ []
  pub nodes : (p : ℕ) → 1 ≤ p → p ≤ node_count script → IsNodeAtRest w p

abbrev pub RestIsQuiet : Type 0
RestIsQuiet =
    (script : Script) (w : World) → IsSoundScript script → IsReachableWorld script w → IsAtRest w
    → IsQuiet script w

-- Then the journal has the calls of each process to its end, or to the call in which it waits,
abbrev pub RestIsWhole : Type 0
RestIsWhole =
    (script : Script) (w : World) → IsSoundScript script → IsReachableWorld script w → IsAtRest w
    → FitsWhole script w.journal

-- a process that lives in the kernel that it replays to waits, and no signal has doomed it,
abbrev pub WhoLivesAtRestWaits : Type 0
WhoLivesAtRestWaits =
    (script : Script) (w : World) (k : Kernel) (pid : ℕ) (a : Alive) → IsSoundScript script → IsReachableWorld script w
    → IsAtRest w → Replays opening w.journal k → living_at k pid ≡ Some a
    → IsSome a.marks.parked × (a.row.signals.doom ≡ None)

-- and none lives where the world isn't stalled; where it is, some process does.
abbrev pub NoneLivesUnlessStalled : Type 0
NoneLivesUnlessStalled =
    (script : Script) (w : World) (k : Kernel) (pid : ℕ) → IsSoundScript script → IsReachableWorld script w → IsAtRest w
    → Replays opening w.journal k → is_stalled w ≡ false → living_at k pid ≡ None

pub record SomebodyLives (k : Kernel) : Type 0 where
  pub pid : ℕ
  pub alive : Alive
  pub lives : living_at k pid ≡ Some alive

abbrev pub SomebodyWaitsWhereStalled : Type 0
SomebodyWaitsWhereStalled =
    (script : Script) (w : World) (k : Kernel) → IsSoundScript script → IsReachableWorld script w → IsAtRest w
    → Replays opening w.journal k → is_stalled w ≡ true → SomebodyLives k

-- A script in which no line's call is in a form that may have to wait is never stalled at rest.
abbrev pub waits_never : Line → Bool
waits_never line = not (is_waiting line.call)

abbrev pub never_waits : Script → Bool
never_waits script = list_all (λ block. list_all waits_never block.lines) script.blocks

abbrev pub NeverWaitsNeverStalls : Type 0
NeverWaitsNeverStalls =
    (script : Script) (w : World) → IsSoundScript script → never_waits script ≡ true → IsReachableWorld script w
    → IsAtRest w → is_stalled w ≡ false
