-- What the page says of nodes, streams and held lists, in the words of the invariant.
use Rattle.std.proofs.Common.{◌≡◌, ℕ, zero, suc, ◌-◌, ◌<◌, ◌≤◌, Bool, true, ◌||◌, if◌then◌else◌, List, [], ◌∷◌, length, slice_get, Some, None, unwrap_or, Contains, ap, sym, subst, ◌∙◌, inl, inr, arith}
use Rattle.std.specs.List.{AllByRecursion, list_any}
use Rattle.std.proofs.lemmas.Bool.{lt-ltb, or_right}
use Rattle.pico_base.specs.declared.numbers.Name.{Name}
use Rattle.pico_base.specs.declared.script.Script.{Script}
use Rattle.rpc_frame.specs.declared.frame.Frame.{Frame}
use Rattle.kernel_laws.proofs.Members.{contains-cases, contains-none}
use Rattle.kernel_laws.proofs.Plain.{not_some}
use Rattle.node_model.specs.Directory.{held_for}
use Rattle.node_model.specs.declared.held.Held.{Held}
use Rattle.world_model.specs.Node.{Node, unborn_node}
use Rattle.world_model.specs.World.{World, node_at, node_count, size}
use Rattle.world_laws.specs.Invariant.{Holds}
use Rattle.world_laws.specs.Places.{Beside}
use Rattle.world_laws.specs.Sights.{directory_of, frames_to, node_of}
use Rattle.world_laws.proofs.Steps.{frames-low, node-there}
use Rattle.rest_laws.proofs.Shaped.{HasStream, stream-there}
use Rattle.projection_laws.specs.Projection.{HasNode, IsHeldFor, IsOnWay}

-- ---- lists

-- what holds of each of a list holds of one of it
pub each-in : {A : Type 0} (P : A → Type 0) (xs : List A) (x : A) → AllByRecursion P xs → Contains xs x → P x
each-in P [] x all there = absurd (contains-none x there)
each-in P (y ∷ xs) x all there =
    elim (contains-cases y xs x there) [
      | inl same ↦ subst P same all.0
      | inr later ↦ each-in P xs x all.1 later
    ]

-- one that passes a test is in the list
pub any-there : {A : Type 0} (test : A → Bool) (xs : List A) (x : A) → Contains xs x → test x ≡ true
    → list_any test xs ≡ true
any-there test [] x there e = absurd (contains-none x there)
any-there test (y ∷ xs) x there e =
    elim (contains-cases y xs x there) [
      | inl same ↦ ap (λ t. t || list_any test xs) (ap test same ∙ e)
      | inr later ↦ or_right (test y) (list_any test xs) (any-there test xs x later e)
    ]

got-within : {A : Type 0} (xs : List A) (i : ℕ) (x : A) → slice_get xs i ≡ Some x → i < length xs
got-within [] i x e = not_some x e
got-within (y ∷ xs) zero x e = omega arith
got-within (y ∷ xs) (suc i) x e = let rest = got-within xs i x e in omega (arith, rest)

-- ---- a world

module _ (script : Script) (w : World) (b : Beside) (holds : Holds script w [] b) where
  pub node-is : (p : ℕ) (n : Node) → HasNode w p n → node_of w p ≡ n
  node-is p n is =
      let low = is.number
      in ap (λ t. unwrap_or (if t then node_at w p else None) (unborn_node p)) (lt-ltb 0 p (omega (arith, low)))
      ∙ ap (λ o. unwrap_or o (unborn_node p)) is.there

  pub node-in-range : (p : ℕ) (n : Node) → HasNode w p n → p ≤ node_count script
  node-in-range p n is =
      let low = is.number
      in let within = got-within w.nodes (p - 1) n is.there
      in let count = let s = holds.shape in s.nodes
      in omega (arith, low, within, count)

  pub node-here : (p : ℕ) → 1 ≤ p → p ≤ node_count script → HasNode w p (node_of w p)
  node-here p low high = record { number = low; there = node-there script w holds.shape p low high }

  pub some-node : 1 ≤ node_count script
  some-node =
      let pids = holds.pids
      in let first = pids.nodes 1 (λ none. let one = pids.first in omega (arith, one, none))
      in first.1

  -- the script's nodes are as many as the world says
  pub size-is : size w ≡ node_count script
  size-is = ap node_count (let s = holds.shape in s.of_script)

  pub on-way : (to sender : ℕ) (frame : Frame) → IsOnWay w to sender frame → Contains (frames_to w to sender) frame
  on-way to sender frame is =
      subst (λ fs. Contains fs frame) (sym (frames-low w to sender is.receiver is.sender_is)) is.there

  pub way-there : (to sender : ℕ) (frame : Frame) → Contains (frames_to w to sender) frame → IsOnWay w to sender frame
  way-there to sender frame there =
      let s : HasStream w to sender =
      stream-there w to sender (λ none. contains-none frame (subst (λ fs. Contains fs frame) none there))
      in record {
        receiver = s.low;
        sender_is = s.low_from;
        there = subst (λ fs. Contains fs frame) (frames-low w to sender s.low s.low_from) there;
      }

  pub held-is : (name : Name) (item : Held) → IsHeldFor w name item → Contains (held_for (directory_of w) name) item
  held-is name item is =
      subst (λ (n : Node). Contains (held_for n.leader.directory name) item) (sym (node-is 1 is.leader is.is_leader))
      is.there

  pub held-there : (name : Name) (item : Held) → Contains (held_for (directory_of w) name) item → IsHeldFor w name item
  held-there name item there =
      record { leader = node_of w 1; is_leader = node-here 1 (omega arith) some-node; there = there }

  -- a stream with something in it is between nodes of the script
  pub stream-in-range : (to sender : ℕ) → HasStream w to sender → (to ≤ size w) × (sender ≤ size w)
  stream-in-range to sender s =
      let row = s.row
      in let column = s.column
      in let low = s.low
      in let low_from = s.low_from
      in let shape = holds.shape
      in let rows = shape.rows
      in let count = size-is
      in let within : to - 1 < node_count script = omega (arith, row, rows)
      in let columns = shape.row (to - 1) within
      in (omega (arith, within, low, count), omega (arith, column, columns, low_from, count))
