-- In every world of a sound script each deed on its way is read back.
use Rattle.std.proofs.Common.{◌≡◌, ◌≢◌, ℕ, ◌-◌, ◌≤◌, true, nat_eq, List, [], ◌∷◌, length, map, ap, sym, subst, ◌∙◌, inl, inr, arith}
use Rattle.std.specs.Prelude.{Contains}
use Rattle.std.specs.List.{list_any}
use Rattle.std.proofs.lemmas.Bool.{eqb-true, false≢true, or_cases}
use Rattle.std.proofs.lemmas.List.Folds.{list_any-append}
use Rattle.pico_base.specs.declared.numbers.Name.TheVariants.{Proc}
use Rattle.pico_base.specs.declared.script.Script.{Script}
use Rattle.kernel_model.specs.Kernel as kernel
use Rattle.kernel_model.specs.Row.{EndedChild, Row, lists, ended_child}
use Rattle.kernel_model.specs.Script.{IsSoundScript}
use Rattle.kernel_laws.specs.Reachable.{IsReachableKernel}
use Rattle.kernel_laws.proofs.Members.{contains-first, contains-later}
use Rattle.kernel_laws.proofs.People.{from-living}
use Rattle.fork_wait.specs.Children.{children}
use Rattle.fork_wait.specs.Spelling.{HasBytes as HasFamilyBytes}
use Rattle.node_model.specs.declared.held.Held.{Held}
use Rattle.node_model.specs.Bodies.{Living as LivingBody, body_in}
use Rattle.entry_laws.specs.Entering.{HasRow}
use Rattle.entry_laws.proofs.Bodies.{body-living}
use Rattle.entry_laws.proofs.History.{history-reachable}
use Rattle.deed_laws.proofs.Families.{family-has-bytes}
use Rattle.deed_laws.proofs.Within.{deeds-are-read}
use Rattle.world_model.specs.World.{World, node_count, numbers}
use Rattle.world_laws.specs.Deeds.{DeedsAreRead}
use Rattle.world_laws.specs.Families.{FamilyHolds, ListsChild, checkpoints_to}
use Rattle.world_laws.specs.Invariant.{process_deed, HoldsOwing}
use Rattle.world_laws.specs.Names.{forker}
use Rattle.world_laws.specs.Places.{Beside}
use Rattle.world_laws.specs.Sights.{stage_of}
use Rattle.world_laws.specs.Wholes.{HasWhole}
use Rattle.world_laws.specs.Cancels.{Owing}
use Rattle.bound_laws.proofs.Ranges.{few-blocks}
use Rattle.bound_laws.proofs.Scripts.{first-has-no-forker}
use Rattle.bound_laws.proofs.Numbers.{in-numbers, is-among, length-of-numbers}
use Rattle.bound_laws.proofs.Smalls.{history-leaves-small}
use Rattle.bound_laws.proofs.WaiterBytes.{waiters-have-bytes}

-- ---- children

ended-among : (es : List EndedChild) (q : ℕ) → list_any (nat_eq q) (map (λ e. e.pid) es) ≡ true
    → (ending : _) × Contains es (ended_child q ending)
ended-among [] q h = absurd (false≢true h)
ended-among (x ∷ xs) q h =
    elim (or_cases (nat_eq q x.pid) (list_any (nat_eq q) (map (λ e. e.pid) xs)) h) [
      | inl first ↦ (
        x.ending,
        subst (λ (n : ℕ). Contains (x ∷ xs) (ended_child n x.ending)) (sym (eqb-true q x.pid first))
            (contains-first x xs),
      )
      | inr later ↦ let w = ended-among xs q later in (w.0, contains-later x xs (ended_child q w.0) w.1)
    ]

-- ---- families

module _ (script : Script) (sound : IsSoundScript script) (w : World) (hand : List Held) (owes : Owing) (b : Beside)
    (holds : HoldsOwing script w hand owes b) where
  reachable : IsReachableKernel b.kernel
  reachable = history-reachable script b.lines b.kernel b.places holds.history

  -- the numbers of all processes but the first
  abbrev others : List ℕ
  others = map b.pids (numbers 2 (node_count script - 1))

  others-are-few : length others ≤ 31
  others-are-few =
      let is = length-of-numbers b.pids (node_count script - 1) 2
      in let few = few-blocks script sound
      in omega (arith, is, few)

  child-is-other : (c d q : ℕ) → b.pids c ≢ 0 → forker script d ≡ c → b.pids d ≡ q → q ≢ 0
      → list_any (nat_eq q) others ≡ true
  child-is-other c d q forked parent is some =
      let pids = holds.pids
      in let parent_in = pids.nodes c forked
      in let low_parent = parent_in.0
      in let child_in = pids.nodes d (λ z. some (sym is ∙ z))
      in let low = child_in.0
      in let high = child_in.1
      in subst (λ n. list_any (nat_eq n) others ≡ true) is
      (is-among b.pids d (numbers 2 (node_count script - 1))
      (in-numbers (node_count script - 1) 2 d
      (let later : d ≢ 1 =
      λ first.
      let none : c ≡ 0 =
      sym parent ∙ ap (forker script) first ∙ first-has-no-forker script sound
      in omega (arith, none, low_parent)
      in omega (arith, low, later))
      (omega (arith, low, high))))

  row-of-node : (c : ℕ) (row : Row) → b.pids c ≢ 0 → HasRow b.kernel (b.pids c) row → HasFamilyBytes row.family
  row-of-node c row forked r =
      let family : FamilyHolds script b.pids b.places b.kernel (process_deed b.deed) (checkpoints_to script w c)
      (stage_of w c) c = holds.families c forked
      in subst (λ (x : Row). HasFamilyBytes x.family) r.row_is
      (family-has-bytes b.kernel reachable (b.pids c) r.alive r.lives others others-are-few
      (λ q among.
      let child = family.children r.alive q r.lives (listed q among)
      in child-is-other c child.0 q forked child.1 child.2 child.3))
    where
      listed : (q : ℕ) → list_any (nat_eq q) (children r.alive.row.family) ≡ true → ListsChild r.alive q
      listed q among =
          elim (or_cases (lists r.alive.row.family q) (list_any (nat_eq q) (map (λ e. e.pid) r.alive.row.family.ended))
          (sym (list_any-append (nat_eq q) r.alive.row.family.living (map (λ e. e.pid) r.alive.row.family.ended))
          ∙ among)) [
            | inl living ↦ inl living
            | inr ended ↦ inr (ended-among r.alive.row.family.ended q ended)
          ]

  -- Each living process's family has bytes.
  pub rows-have-bytes : (pid : ℕ) (row : Row) → body_in b.kernel (Proc pid) ≡ LivingBody row → HasFamilyBytes row.family
  rows-have-bytes pid row is =
      let r : HasRow b.kernel pid row = body-living b.kernel pid row is
      in let there = from-living b.kernel.processes pid r.alive r.lives
      in let pids = holds.pids
      in let node = pids.there pid (kernel.Living r.alive) there
      in row-of-node node.0 row (λ z. node.2 (sym node.1 ∙ z))
      (subst (λ q. HasRow b.kernel q row) (sym node.1) r)

  -- Deeds on their way are read back.
  pub deeds-are-read-in : HasWhole w b → DeedsAreRead b.kernel b.body
  deeds-are-read-in whole name used =
      deeds-are-read b.kernel name (b.body name) reachable (holds.names name).parts
      (history-leaves-small script sound b.lines b.kernel b.places holds.history.legal holds.history.fits name)
      rows-have-bytes (waiters-have-bytes script sound w hand owes b holds whole name used)
