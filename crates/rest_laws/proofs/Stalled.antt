-- A world at rest is stalled exactly where a process lives in its kernel.
use Rattle.std.proofs.Common.{◌≡◌, ℕ, zero, suc, ◌+◌, ◌-◌, ◌<◌, ◌≤◌, Bool, true, false, ◌&&◌, ◌||◌, List, [], ◌∷◌, length, slice_get, Option, Some, None, is_some, refl, ap, sym, ◌∙◌, arith}
use Rattle.std.specs.List.{list_any}
use Rattle.std.proofs.lemmas.Bool.{false≢true}
use Rattle.pico_base.specs.declared.call.Call.{Call}
use Rattle.pico_base.specs.declared.script.Script.{Script}
use Rattle.kernel_laws.proofs.Plain.{not_some}
use Rattle.kernel_model.specs.Fitting.{IsDue}
use Rattle.number_maps.specs.Maps.{get}
use Rattle.waiting_model.specs.Calls.{may_park}
use Rattle.waiting_model.specs.Kernel.{living_at}
use Rattle.waiting_model.specs.Marks.{Alive}
use Rattle.node_model.specs.Caller.{Caller, caller_place}
use Rattle.world_model.specs.Node.{Living, Node, Stage, is_living}
use Rattle.world_model.specs.Run.{IsAtRest, has_call_under_way, is_stalled}
use Rattle.world_model.specs.World.{World, node_count}
use Rattle.world_laws.specs.Invariant.{Holds, IsShaped}
use Rattle.world_laws.specs.Places.{Beside}
use Rattle.world_laws.specs.Sights.{node_of, stage_of}
use Rattle.world_laws.proofs.Steps.{node-there}
use Rattle.bound_laws.specs.Bounded.{IsBounded}
use Rattle.rest_laws.specs.Laws.{SomebodyLives}
use Rattle.rest_laws.proofs.Living.{alike-at, lives-whole, waits-there}
use Rattle.rest_laws.proofs.Nodes.{WaitsHere, living-waits}
use Rattle.rest_laws.proofs.Shaped.{node-at-place}
use Rattle.rest_laws.proofs.Whole.{Waits}

-- ---- one of a list

or-first : (t u : Bool) → t ≡ true → (t || u) ≡ true
or-first t u h = rw h refl

or-second : (t u : Bool) → u ≡ true → (t || u) ≡ true
or-second true u h = refl
or-second false u h = h

any-there : (test : Node → Bool) (ns : List Node) (i : ℕ) (n : Node) → slice_get ns i ≡ Some n → test n ≡ true
    → list_any test ns ≡ true
any-there test [] i n there h = not_some n there
any-there test (m ∷ ns) zero n there h =
    or-first (test m) (list_any test ns) (ap test (same m n there) ∙ h)
  where
    same : (x y : Node) → Some x ≡ Some y → x ≡ y
    same x y e = cc
any-there test (m ∷ ns) (suc i) n there h =
    or-second (test m) (list_any test ns) (any-there test ns i n there h)

record IsOneOf (test : Node → Bool) (ns : List Node) : Type 0 where
  place : ℕ
  node : Node
  there : slice_get ns place ≡ Some node
  passes : test node ≡ true
  within : place < length ns

one-of : (test : Node → Bool) (ns : List Node) → list_any test ns ≡ true → IsOneOf test ns
one-of test [] h = absurd (false≢true h)
one-of test (m ∷ ns) h = by-test (test m) refl (one-of test ns)
  where
    by-test : (t : Bool) → test m ≡ t → (list_any test ns ≡ true → IsOneOf test ns) → IsOneOf test (m ∷ ns)
    by-test true e later = record { place = 0; node = m; there = refl; passes = e; within = omega arith }
    by-test false e later =
        let one : IsOneOf test ns = later (sym (ap (λ t. t || list_any test ns) e) ∙ h)
        in let low = one.within
        in record {
          place = suc one.place;
          node = one.node;
          there = one.there;
          passes = one.passes;
          within = omega (arith, low);
        }

living-stage : (s : Stage) → is_living s ≡ true → s ≡ Living
living-stage Living h = refl
living-stage s h = absurd (false≢true h)

first-of : (t u : Bool) → (t && u) ≡ true → t ≡ true
first-of true u h = refl
first-of false u h = absurd (false≢true h)

module _ (script : Script) (w : World) (b : Beside) (holds : Holds script w [] b) (rest : IsAtRest w)
    (bounded : IsBounded script w []) where
  -- a node whose call waits makes the world stalled
  waiting-stalls : (p : ℕ) → 1 ≤ p → p ≤ node_count script → (call : Call) → WaitsHere script w b p call
      → is_stalled w ≡ true
  waiting-stalls p low high call waits =
      any-there has_call_under_way w.nodes (p - 1) (node_of w p) (node-there script w holds.shape p low high)
      (ap (λ s. is_living s && is_some (node_of w p).caller.under_way) waits.stage ∙ ap is_some waits.is)

  -- So none lives where it isn't.
  pub none-lives : is_stalled w ≡ false → (pid : ℕ) → living_at b.whole pid ≡ None
  none-lives goes pid = by-life (living_at b.whole pid) refl
    where
      by-life : (o : Option Alive) → living_at b.whole pid ≡ o → living_at b.whole pid ≡ None
      by-life None e = e
      by-life (Some a) e =
          let its : Waits script w b pid = waits-there script w b holds rest bounded pid a e
          in absurd (false≢true (sym goes ∙ waiting-stalls its.node its.low its.high its.call its.waits))

  -- A stalled world has a node whose call waits.
  pub record StallsAt : Type 0 where
    pub node : ℕ
    pub low : 1 ≤ node
    pub high : node ≤ node_count script
    pub call : Call
    pub waits : WaitsHere script w b node call

  pub stalls-at : is_stalled w ≡ true → StallsAt
  stalls-at stalls =
      let one : IsOneOf has_call_under_way w.nodes = one-of has_call_under_way w.nodes stalls
      in let shape : IsShaped script w = holds.shape
      in let within = one.within
      in let count = shape.nodes
      in let low : 1 ≤ one.place + 1 = omega arith
      in let high : one.place + 1 ≤ node_count script = omega (arith, within, count)
      in let is : node_of w (one.place + 1) ≡ one.node = node-at-place w one.place one.node one.there
      in let stage : stage_of w (one.place + 1) ≡ Living =
      living-stage (stage_of w (one.place + 1))
      (ap (λ (n : Node). is_living n.stage) is
      ∙ first-of (is_living one.node.stage) (is_some one.node.caller.under_way) one.passes)
      in let waits = living-waits script w b holds rest bounded (one.place + 1) low high stage
      in record { node = one.place + 1; low = low; high = high; call = waits.0; waits = waits.1 }

  -- A script in which no call that is due may wait is never stalled.
  pub stalls-not : ((p : ℕ) (c : Caller) (call : Call) → IsDue (caller_place script p c) call → may_park call ≡ false)
      → is_stalled w ≡ false
  stalls-not never = by-test (is_stalled w) refl
    where
      by-test : (t : Bool) → is_stalled w ≡ t → is_stalled w ≡ false
      by-test false e = e
      by-test true e =
          let at : StallsAt = stalls-at e
          in let waits : WaitsHere script w b at.node at.call = at.waits
          in absurd
          (false≢true (sym (never at.node (node_of w at.node).caller at.call waits.due) ∙ waits.parks))

  -- The process of a stalled one's node lives.
  pub somebody-lives : is_stalled w ≡ true → SomebodyLives b.whole
  somebody-lives stalls =
      let at : StallsAt = stalls-at stalls
      in let waits : WaitsHere script w b at.node at.call = at.waits
      in let pid : ℕ = b.pids at.node
      in let other = lives-whole (get b.whole.processes pid) (get b.kernel.processes pid)
      (alike-at script w b holds rest bounded pid) waits.alive waits.lives
      in record { pid = pid; alive = other.0; lives = other.1 }
