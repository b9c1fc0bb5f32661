-- Which node's event is chosen, by what is kept for each node.
use Rattle.std.proofs.Common.{◌≡◌, ℕ, ◌+◌, ◌-◌, ◌<◌, ◌≤◌, List, length, get_or, slice_get, Some, None, ap, subst, ◌∙◌, ⊎_elim, arith}
use Rattle.std.specs.List.{flat_map, sum}
use Rattle.std.proofs.lemmas.Bool.{cases_lt}
use Rattle.world_model.specs.Schedule.{enabled_at, enabled_events}
use Rattle.world_model.specs.World.{numbers, node_count}
use Rattle.world_core.specs.Counts.{IsNext}
use Rattle.world_core.specs.State.{IsAlive, world_of}
use Rattle.world_core.specs.declared.state.State.{State}
use Rattle.world_core.proofs.Counting.{length-counts}
use Rattle.world_core.proofs.Seats.{alive-seats, count-there}
use Rattle.world_core.proofs.Walks.{IsWalk, IsWalk-along, IsWalk-none, span, sum-joined}
use Rattle.world_core.proofs.Wholes.{length-whole}
use Rattle.world_core.proofs.Worlds.{IsShaped, alive-shaped}

-- what is kept for each of the first nodes is how many events it has
abbrev pub Keeps : {X : Type 0} → (ℕ → List X) → List ℕ → ℕ → Type 0
Keeps f counts last = (k : ℕ) → k < last → get_or counts k 0 ≡ length (f (k + 1))

-- a state that runs lead to keeps the counts of its first nodes
pub keeps-alive : (s : State) (last : ℕ) → IsAlive s → last ≤ node_count s.script
    → Keeps (enabled_at (world_of s)) s.counts last
keeps-alive s last alive le k lt =
    let e : k + 1 ≡ k + 1 = omega arith in (count-there s (k + 1) k alive (omega arith) e).1

-- there is a count for each node
pub counts-wide : (s : State) → IsAlive s → length s.counts ≡ node_count s.script
counts-wide s alive =
    let ns = s.nodes.items in
    let seats = alive-seats s alive in
    let shaped : IsShaped (world_of s) = alive-shaped s alive in
    let width = ap length alive.counted ∙ length-counts ns s.inboxes.items seats.width in
    omega (arith, shaped.nodes, length-whole ns alive.nodes)

-- all counts together are how many events may come next
pub counts-all : (s : State) → IsAlive s → sum s.counts ≡ length (enabled_events (world_of s))
counts-all s alive =
    let f = enabled_at (world_of s) in
    let wide = counts-wide s alive in
    sum-joined f s.counts 1
    (λ k lt. let e : k + 1 ≡ 1 + k = omega arith in
    keeps-alive s (node_count s.script) alive (omega arith) k (omega arith) ∙ ap (λ (n : ℕ). length (f n)) e)
    ∙ ap (λ (n : ℕ). length (flat_map f (numbers 1 n))) wide

-- the nodes before the next one with an event are passed
pub chosen-there : {X : Type 0} (f : ℕ → List X) (counts : List ℕ) (from last index at next left : ℕ)
    → Keeps f counts last
    → IsNext counts at (Some next) → next < last → IsWalk f from last index at left
    → IsWalk f from last index next left
chosen-there f counts from last index at next left keeps is_next lt walk =
    let e : at + (next - at) ≡ next = omega (arith, is_next.0) in
    subst (λ (k : ℕ). IsWalk f from last index k left) e
    (IsWalk-along f from last index at left (next - at) walk (omega (arith, is_next.0))
    (λ i ge lt'. let none = is_next.3 i ge (omega (arith, is_next.0)) in
    let same = keeps i (omega (arith, is_next.0)) in omega arith))

-- the next node with an event is one of the world's, and those before it are passed
pub next-there : (s : State) (index at next left : ℕ) → IsAlive s → IsNext s.counts at (Some next)
    → IsWalk (enabled_at (world_of s)) 0 (node_count s.script) index at left
    → (next < node_count s.script) × IsWalk (enabled_at (world_of s)) 0 (node_count s.script) index next left
next-there s index at next left alive is_next walk =
    let n = node_count s.script in
    let wide = counts-wide s alive in
    let lt : next < n = omega (arith, is_next.1) in (
      lt,
      chosen-there (enabled_at (world_of s)) s.counts 0 n index at next left (keeps-alive s n alive (omega arith))
          is_next lt walk,
    )

-- where no node from one on has an event, none is chosen
pub chosen-none : {X : Type 0} (f : ℕ → List X) (counts : List ℕ) (from last index at left : ℕ) → Keeps f counts last
    → ((i : ℕ) → at ≤ i → i < last → get_or counts i 0 ≡ 0) → IsWalk f from last index at left
    → None ≡ slice_get (span f from last) index
chosen-none f counts from last index at left keeps none walk =
    ⊎_elim (λ (lt : at < last).
    let e : at + (last - at) ≡ last = omega arith in
    let end = IsWalk-along f from last index at left (last - at) walk (omega arith)
    (λ i ge lt'. let zero = none i ge (omega arith) in let same = keeps i (omega arith) in omega arith) in
    IsWalk-none f from last index (at + (last - at)) left end (omega arith))
    (λ ge. IsWalk-none f from last index at left walk (omega arith)) (cases_lt at last)
