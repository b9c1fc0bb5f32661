-- The opening world has its bounds, and so has every world that a run leads to.
use Rattle.std.proofs.Common.{◌≡◌, ℕ, zero, suc, ◌+◌, ◌-◌, ◌≤◌, Bool, true, false, ◌&&◌, nat_eq, List, [], ◌∷◌, map, replicate, get_or, Option, Some, None, unwrap_or, refl, ap, sym, subst, ◌∙◌, inl, inr, arith}
use Rattle.std.specs.Prelude.{if◌then◌else◌}
use Rattle.std.specs.List.{AllByRecursion}
use Rattle.std.proofs.lemmas.Bool.{cases_eq, lt-ltb}
use Rattle.pico_base.specs.declared.call.Call.TheVariants as calls
use Rattle.pico_base.specs.declared.numbers.Kind.TheVariants as kinds
use Rattle.pico_base.specs.declared.numbers.Name.{Name}
use Rattle.pico_base.specs.declared.numbers.Name.TheVariants.{Proc, Msg, Sem}
use Rattle.pico_base.specs.declared.script.Event.{Event}
use Rattle.pico_base.specs.declared.script.Script.{Script}
use Rattle.rpc_frame.specs.declared.frame.Frame.{Frame}
use Rattle.key_table.specs.declared.Bound.{Bound}
use Rattle.number_maps.proofs.LookUps.{get-first, get-later}
use Rattle.number_maps.proofs.Rising.{rising-nothing}
use Rattle.kernel_model.specs.Row.{new_row}
use Rattle.kernel_model.specs.Script.{IsSoundScript}
use Rattle.node_model.specs.Bodies.{Living as LivingBody}
use Rattle.node_model.specs.Directory.{At, opening_directory, place_of}
use Rattle.node_model.specs.Caller.{new_caller}
use Rattle.node_model.specs.Kinds.{for_kind, none_named}
use Rattle.world_model.specs.Node.{Node, first_node, opening_node, unborn_node}
use Rattle.world_model.specs.Run.{IsReachableWorld, Runs}
use Rattle.world_model.specs.World.{IsNode, World, is_number, node_at, node_count, numbers, opening_world}
use Rattle.world_laws.specs.Invariant.{Holds}
use Rattle.world_laws.specs.Sights.{frames_to}
use Rattle.rule_laws.proofs.Opening.{opening-holds}
use Rattle.bound_laws.specs.Bounded.{FrameIsBounded, IsBounded, IsShapedAndBounded, NamesNodes, NodeIsBounded, PlaceNamesNodes}
use Rattle.bound_laws.proofs.Scripts.{sound-is-runnable}
use Rattle.bound_laws.proofs.StepParts.{first-is-node, none-is}
use Rattle.bound_laws.proofs.Watched.{none-watched}
use Rattle.bound_laws.proofs.Worlds.{event-stays-bounded}
use Rattle.bound_laws.proofs.Waiters.{no-deeds-bounded, put-deed-bounded}
use Rattle.kernel_laws.proofs.Lists.{all-at}

-- ---- nothing is on its way

abbrev none_there : List Frame
none_there = []

nothing-in : (n i : ℕ) → get_or (replicate n none_there) i [] ≡ []
nothing-in zero i = refl
nothing-in (suc n) zero = refl
nothing-in (suc n) (suc i) = nothing-in n i

nothing-at : (m n i j : ℕ) → get_or (get_or (replicate m (replicate n none_there)) i []) j [] ≡ []
nothing-at zero n i j = refl
nothing-at (suc m) n zero j = nothing-in n j
nothing-at (suc m) n (suc i) j = nothing-at m n i j

none-if : (t : Bool) → (if t then none_there else []) ≡ []
none-if true = refl
none-if false = refl

module _ (script : Script) where
  -- At first nothing is on its way.
  pub nothing-on-its-way : (to sender : ℕ) → frames_to (opening_world script) to sender ≡ []
  nothing-on-its-way to sender =
      ap (λ fs. if is_number to && is_number sender then fs else [])
      (nothing-at (node_count script) (node_count script) (to - 1) (sender - 1))
      ∙ none-if (is_number to && is_number sender)

  -- ---- the nodes

  opening-names : IsNode script 1 → NamesNodes script opening_directory
  opening-names first = record { places = places-of; ranges = λ kind. ranges-of kind }
    where
      places-of : (name : Name) → PlaceNamesNodes script (place_of opening_directory name)
      places-of (Proc n) =
          elim (cases_eq n 1) [
            | inl same ↦ subst (PlaceNamesNodes script) (sym (get-first (1, At 1) [] n same)) first
            | inr other ↦ subst (PlaceNamesNodes script) (sym (get-later (1, At 1) [] n other)) tt
          ]
      places-of (Msg n) = tt
      places-of (Sem n) = tt

      ranges-of : (kind : _) → AllByRecursion (IsNode script) (for_kind opening_directory.ranges kind)
      ranges-of kinds.Proc = (first, tt)
      ranges-of kinds.Msg = tt
      ranges-of kinds.Sem = tt

  unborn-is-bounded : (p : ℕ) → IsNode script p → NodeIsBounded script (unborn_node p)
  unborn-is-bounded p own =
      record {
        number = own;
        parent_node = first-is-node script p own;
        fork = λ block. none-is (new_caller []).under_way (calls.Fork block) refl;
        size = λ count create excl.
            none-is (new_caller []).under_way (calls.SemGet None count create excl) refl;
        deeds = no-deeds-bounded script;
        watches = none-watched p;
        cache = tt;
        directory = opening-names (first-is-node script p own);
        queue_keys = rising-nothing Bound;
        set_keys = rising-nothing Bound;
      }

  first-is-bounded : IsNode script 1 → NodeIsBounded script first_node
  first-is-bounded own =
      record {
        number = own;
        parent_node = own;
        fork = λ block. none-is (new_caller []).under_way (calls.Fork block) refl;
        size = λ count create excl.
            none-is (new_caller []).under_way (calls.SemGet None count create excl) refl;
        deeds = put-deed-bounded script none_named (Proc 1) (LivingBody new_row) (no-deeds-bounded script) tt;
        watches = none-watched 1;
        cache = tt;
        directory = opening-names own;
        queue_keys = rising-nothing Bound;
        set_keys = rising-nothing Bound;
      }

  opening-node-is-bounded : (p : ℕ) → IsNode script p → NodeIsBounded script (opening_node p)
  opening-node-is-bounded p own = by (nat_eq p 1)
    where
      by : (t : Bool) → NodeIsBounded script (elim t [ true ↦ first_node | false ↦ unborn_node p ])
      by true = first-is-bounded (first-is-node script p own)
      by false = unborn-is-bounded p own

  opening-nodes-are-bounded : (n k : ℕ) → 1 ≤ k → k + n ≤ node_count script + 1
      → AllByRecursion (NodeIsBounded script) (map opening_node (numbers k n))
  opening-nodes-are-bounded zero k low high = tt
  opening-nodes-are-bounded (suc n) k low high = (
    opening-node-is-bounded k (record { low = low; high = omega (arith, high) }),
    opening-nodes-are-bounded n (k + 1) (omega (arith, low)) (omega (arith, high)),
  )

  opening-node-of : (p : ℕ) → IsNode script p → (o : Option Node) → node_at (opening_world script) p ≡ o
      → NodeIsBounded script (unwrap_or o (unborn_node p))
  opening-node-of p own None is = unborn-is-bounded p own
  opening-node-of p own (Some n) is =
      all-at (NodeIsBounded script) (map opening_node (numbers 1 (node_count script))) (p - 1) n
      (opening-nodes-are-bounded (node_count script) 1 (omega arith) (omega arith)) is

  -- ---- the opening world

  -- At first all is within its bounds.
  pub opening-is-bounded : IsBounded script (opening_world script) []
  opening-is-bounded =
      record {
        nodes = λ p low high.
            subst (NodeIsBounded script)
            (sym (ap (λ t. unwrap_or (if t then node_at (opening_world script) p else None) (unborn_node p))
            (lt-ltb 0 p (omega (arith, low)))))
            (opening-node-of p (record { low = low; high = high }) (node_at (opening_world script) p) refl);
        streams = λ to sender.
            subst (AllByRecursion (FrameIsBounded script to sender)) (sym (nothing-on-its-way to sender)) tt;
        in_hand = tt;
      }

  -- ---- runs

  module _ (sound : IsSoundScript script) where
    pub opening-is-shaped-and-bounded : IsShapedAndBounded script (opening_world script)
    opening-is-shaped-and-bounded =
        let h : Holds script (opening_world script) [] _ = opening-holds script (sound-is-runnable script sound)
        in record { shape = h.shape; bounded = opening-is-bounded }

    along : (es : List Event) (w last : World) → Runs w es last → IsShapedAndBounded script w
        → IsShapedAndBounded script last
    along [] w last run k = subst (IsShapedAndBounded script) run k
    along (e ∷ es) w last run k =
        along es run.next last run.rest (event-stays-bounded script sound w run.next k e run.enabled run.steps)

    -- Each world that a run of a sound script leads to is within its bounds.
    pub reachable-is-bounded : (w : World) → IsReachableWorld script w → IsShapedAndBounded script w
    reachable-is-bounded w run = along run.0 (opening_world script) w run.1 opening-is-shaped-and-bounded
