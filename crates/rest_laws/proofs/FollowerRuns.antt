-- In every world that a run leads to only the leader knows of names, of who leaves, of ranges and of keys.
use Rattle.std.proofs.Common.{◌≡◌, ◌≢◌, ℕ, zero, suc, ◌+◌, ◌-◌, ◌<◌, ◌≤◌, Bool, true, false, nat_eq, List, [], ◌∷◌, length, map, set, slice_get, Option, Some, None, unwrap_or, refl, ap, sym, subst, ◌∙◌, inl, inr, arith}
use Rattle.std.specs.Prelude.{if◌then◌else◌}
use Rattle.std.proofs.lemmas.Bool.{cases_eq, false≢true, lt-ltb, ne_eqb}
use Rattle.pico_base.specs.declared.script.Event.{Event}
use Rattle.pico_base.specs.declared.script.Event.TheVariants as events
use Rattle.pico_base.specs.declared.script.Script.{Script}
use Rattle.kernel_laws.proofs.Plain.{Of, from_some, not_some}
use Rattle.kernel_model.specs.Script.{IsSoundScript}
use Rattle.world_model.specs.Node.{Node, first_node, is_leader, opening_leader, opening_node, unborn_node}
use Rattle.world_model.specs.Run.{IsReachableWorld, Runs}
use Rattle.world_model.specs.Step.{Step}
use Rattle.world_model.specs.Starting.{run}
use Rattle.world_model.specs.Turn.{may_come, take_by_rules, take_frame}
use Rattle.world_model.specs.World.{World, after_turn, is_enabled, node_at, node_count, numbers, opening_world, runs_at, step, world_after}
use Rattle.world_laws.specs.Invariant.{IsShaped}
use Rattle.world_laws.specs.Sights.{node_of}
use Rattle.world_laws.proofs.Steps.{Heads, node-there, turn-with, world_without}
use Rattle.rule_laws.proofs.own.Enabled.{IsRun, enabled-runs}
use Rattle.rule_laws.proofs.Enabled.{IsTaken, enabled-takes}
use Rattle.bound_laws.proofs.Runs.{opening-is-shaped-and-bounded}
use Rattle.bound_laws.specs.Bounded.{IsShapedAndBounded}
use Rattle.bound_laws.proofs.Worlds.{event-stays-bounded}
use Rattle.rest_laws.specs.Laws.{OthersLeadNothing}
use Rattle.rest_laws.proofs.Followers.{IsFollower}
use Rattle.rest_laws.proofs.FollowerTurns.{run-turn-follows, take-turn-follows}
use Rattle.rest_laws.proofs.Shaped.{nobody-there, range-cases}

-- ---- a node in a list

get-set-same : {A : Type 0} (xs : List A) (i : ℕ) (x : A) → i < length xs → slice_get (set xs i x) i ≡ Some x
get-set-same [] i x h = absurd (omega (arith, h))
get-set-same (y ∷ xs) zero x h = refl
get-set-same (y ∷ xs) (suc i) x h = get-set-same xs i x (omega (arith, h))

get-set-other : {A : Type 0} (xs : List A) (i j : ℕ) (x : A) → j ≢ i → slice_get (set xs i x) j ≡ slice_get xs j
get-set-other [] i j x h = refl
get-set-other (y ∷ xs) zero zero x h = absurd (h refl)
get-set-other (y ∷ xs) zero (suc j) x h = refl
get-set-other (y ∷ xs) (suc i) zero x h = refl
get-set-other (y ∷ xs) (suc i) (suc j) x h = get-set-other xs i j x (λ e. h (ap suc e))

node-after : (v : World) (p : ℕ) (s : Step) → 1 ≤ p → p ≤ length v.nodes → node_of (world_after v p s) p ≡ s.node
node-after v p s low high =
    ap (λ t. unwrap_or (if t then node_at (world_after v p s) p else None) (unborn_node p)) (lt-ltb 0 p low)
    ∙ ap (λ o. unwrap_or o (unborn_node p)) (get-set-same v.nodes (p - 1) s.node (omega (arith, low, high)))

node-elsewhere : (v : World) (p : ℕ) (s : Step) → 1 ≤ p → (x : ℕ) → 1 ≤ x → x ≢ p
    → node_of (world_after v p s) x ≡ node_of v x
node-elsewhere v p s low x low_x d =
    ap (λ t. unwrap_or (if t then node_at (world_after v p s) x else None) (unborn_node x)) (lt-ltb 0 x low_x)
    ∙ ap (λ o. unwrap_or o (unborn_node x))
    (get-set-other v.nodes (p - 1) (x - 1) s.node (λ e. d (omega (arith, e, low, low_x))))
    ∙ sym (ap (λ t. unwrap_or (if t then node_at v x else None) (unborn_node x)) (lt-ltb 0 x low_x))

-- ---- a world

-- the node has its number, and knows of the leader's what it does before its birth
record KnowsNothing (m : Node) (p : ℕ) : Type 0 where
  leader : m.leader ≡ opening_leader
  number : m.number ≡ p

abbrev AreFollowers : World → Type 0
AreFollowers w = (p : ℕ) → 1 ≤ p → p ≢ 1 → KnowsNothing (node_of w p) p

module _ (script : Script) (v : World) (k : AreFollowers v) (p : ℕ) (low : 1 ≤ p) (high : p ≤ length v.nodes) where
  -- a step of a node leaves it so
  step-leaves : (s : Step) → ((other : is_leader (node_of v p) ≡ false) → IsFollower script (node_of v p) other s)
      → AreFollowers (world_after v p s)
  step-leaves s follows x low_x d =
      elim (cases_eq x p) [
        | inl same ↦ subst (λ y. KnowsNothing (node_of (world_after v p s) y) y) (sym same) (here (λ e. d (same ∙ e)))
        | inr apart ↦
            subst (λ (m : Node). KnowsNothing m x) (sym (node-elsewhere v p s low x low_x apart)) (k x low_x d)
      ]
    where
      here : p ≢ 1 → KnowsNothing (node_of (world_after v p s) p) p
      here not_first =
          let own : KnowsNothing (node_of v p) p = k p low not_first
          in let other : is_leader (node_of v p) ≡ false =
          ne_eqb (node_of v p).number 1 (λ e. not_first (sym own.number ∙ e))
          in let f : IsFollower script (node_of v p) other s = follows other
          in let same : node_of (world_after v p s) p ≡ s.node = node-after v p s low high
          in record {
            leader = ap (λ (m : Node). m.leader) same ∙ f.leader ∙ own.leader;
            number = ap (λ (m : Node). m.number) same ∙ f.number ∙ own.number;
          }

  turn-leaves : (next : World) (o : Option Step) → after_turn v p o ≡ Some next
      → ((other : is_leader (node_of v p) ≡ false) → Of (IsFollower script (node_of v p) other) o) → AreFollowers next
  turn-leaves next None e follows = not_some next e
  turn-leaves next (Some s) e follows =
      subst AreFollowers (from_some (world_after v p s) next e) (step-leaves s follows)

-- ---- runs

-- what holds of a step holds of it where a test lets it be
of-those : (P : Step → Type 0) (test : Bool) (o : Option Step) → Of P o → Of P (if test then o else None)
of-those P true o holds = holds
of-those P false o holds = tt

module _ (script : Script) (sound : IsSoundScript script) where
  -- an event leaves it so
  event-leaves : (w next : World) (e : Event) → IsShapedAndBounded script w → AreFollowers w → is_enabled w e ≡ true
      → step w e ≡ Some next → AreFollowers next
  event-leaves w next (events.Run p) b k enabled steps =
      let r : IsRun script w p = enabled-runs script w p b.shape enabled
      in let shape : IsShaped script w = b.shape
      in turn-leaves script w k p r.low (subst (λ n. p ≤ n) (sym shape.nodes) r.high) next
      (run script (node_of w p))
      (sym (ap (runs_at w p) (node-there script w shape p r.low r.high)
      ∙ ap (λ (x : Script). after_turn w p (run x (node_of w p))) shape.of_script)
      ∙ steps)
      (λ other. run-turn-follows script (node_of w p) other)
  event-leaves w next (events.Take p q) b k enabled steps =
      let t : IsTaken script w p q = enabled-takes script w p q b.shape enabled
      in let h : Heads script w p q t.frame t.rest = t.heads
      in let shape : IsShaped script w = b.shape
      in turn-leaves script (world_without w p q t.rest) k p h.low (subst (λ n. p ≤ n) (sym shape.nodes) h.high) next
      (take_frame script (node_of w p) q t.frame)
      (sym (turn-with take_frame script w p q t.frame t.rest shape h) ∙ steps)
      (λ other.
      of-those (IsFollower script (node_of w p) other) (may_come (node_of w p) q t.frame)
      (take_by_rules script (node_of w p) q t.frame)
      (take-turn-follows script (node_of w p) other q t.frame))

  opened : (count k i : ℕ) (m : Node) → slice_get (map opening_node (numbers k count)) i ≡ Some m
      → m ≡ opening_node (k + i)
  opened zero k i m e = not_some m e
  opened (suc count) k zero m e =
      let same : k ≡ k + 0 = omega arith
      in sym (from_some (opening_node k) m e) ∙ ap opening_node same
  opened (suc count) k (suc i) m e =
      let same : k + 1 + i ≡ k + suc i = omega arith
      in opened count (k + 1) i m e ∙ ap opening_node same

  opening-other : (p : ℕ) → p ≢ 1 → opening_node p ≡ unborn_node p
  opening-other p d = by-test (nat_eq p 1) (ne_eqb p 1 d)
    where
      by-test : (t : Bool) → t ≡ false → elim t [ true ↦ first_node | false ↦ unborn_node p ] ≡ unborn_node p
      by-test false e = refl
      by-test true e = absurd (false≢true (sym e))

  -- at first it is so
  opening-follows : AreFollowers (opening_world script)
  opening-follows p low d = subst (λ (m : Node). KnowsNothing m p) (sym is) (record { leader = refl; number = refl })
    where
      opening : IsShapedAndBounded script (opening_world script)
      opening = opening-is-shaped-and-bounded script sound

      is : node_of (opening_world script) p ≡ unborn_node p
      is =
          elim (range-cases script p) [
            | inr out ↦ nobody-there script (opening_world script) opening.shape p out
            | inl within ↦
                let place : 1 + (p - 1) ≡ p = omega (arith, low)
                in opened (node_count script) 1 (p - 1) (node_of (opening_world script) p)
                (node-there script (opening_world script) opening.shape p within.0 within.1)
                ∙ ap opening_node place ∙ opening-other p d
          ]

  along : (es : List Event) (w last : World) → Runs w es last → IsShapedAndBounded script w → AreFollowers w
      → IsShapedAndBounded script last × AreFollowers last
  along [] w last run b k = subst (λ (x : World). IsShapedAndBounded script x × AreFollowers x) run (b, k)
  along (e ∷ es) w last run b k =
      along es run.next last run.rest (event-stays-bounded script sound w run.next b e run.enabled run.steps)
      (event-leaves w run.next e b k run.enabled run.steps)

  -- Every other node has of the leader's what it has before its birth.
  pub others-lead-nothing : (w : World) → IsReachableWorld script w → OthersLeadNothing w
  others-lead-nothing w run p d =
      elim (range-cases script p) [
        | inl within ↦ let k : KnowsNothing (node_of w p) p = all.1 p within.0 d in k.leader
        | inr out ↦ ap (λ (m : Node). m.leader) (nobody-there script w (all.0).shape p out)
      ]
    where
      all : IsShapedAndBounded script w × AreFollowers w
      all =
          along run.0 (opening_world script) w run.1 (opening-is-shaped-and-bounded script sound) opening-follows
