-- What the end of a parcel brings into the hand was held for processes, and no removal is among it.
use Rattle.std.proofs.Common.{◌≡◌, ℕ, Bool, true, false, if◌then◌else◌, List, [], ◌∷◌, ◌++◌, nat_eq, Option, Some, None, option_map, refl, ap, sym, subst, ◌∙◌}
use Rattle.std.specs.List.{AllByRecursion}
use Rattle.std.proofs.lemmas.Bool.{false≢true}
use Rattle.pico_base.specs.declared.call.Home.{Home}
use Rattle.pico_base.specs.declared.call.Home.TheVariants as homes
use Rattle.pico_base.specs.declared.numbers.Name.{Name}
use Rattle.pico_base.specs.declared.numbers.Name.TheVariants.{Proc}
use Rattle.pico_base.specs.declared.script.Script.{Script}
use Rattle.pico_base.specs.Home.{home_of}
use Rattle.rpc_frame.specs.declared.deed.Parcel.{Parcel}
use Rattle.rpc_frame.specs.declared.frame.Frame.TheVariants as frames
use Rattle.kernel_laws.proofs.Plain.{from_some, not_some}
use Rattle.node_model.specs.declared.held.Held.{Held}
use Rattle.node_model.specs.declared.held.Held.TheVariants.{Ending, Request}
use Rattle.node_model.specs.Directory.{At, Coming, Directory, Place, held_for, place_of}
use Rattle.node_model.specs.Kinds.{is_object}
use Rattle.world_model.specs.Ends.{AfterEnd, IsHeld, Releases, end_by, end_process, exit_here, held_for_all, names_in, release_names}
use Rattle.world_model.specs.Node.{Node}
use Rattle.world_model.specs.Routes.{hold_item}
use Rattle.world_model.specs.Step.{Step, send}
use Rattle.world_laws.specs.Names.{IsItemFor}
use Rattle.world_laws.specs.Plays.{is_home_on}
use Rattle.world_laws.proofs.Named.{same-name-is}
use Rattle.route_laws.proofs.hand.Routes.{removal-of-object}
use Rattle.route_laws.proofs.release.EndedParcels.{IsPacked}
use Rattle.route_laws.proofs.release.RoutedParcels.{directory_in}
use Rattle.weight_laws.proofs.Arrivals.{AreProcesses, ItemsFit}
use Rattle.weight_laws.proofs.Ends.{EndsFree, exit-free}
use Rattle.weight_laws.proofs.Hand.{IsRemovalOnly, RemovalsAreOf, RemovesOnly}
use Rattle.weight_laws.proofs.HandEnds.{names-are-processes}
use Rattle.weight_laws.proofs.Costs.{MayEndIf}

-- removals of two hands in one
pub removals-both : (name : Name) (xs ys : List Held) → RemovalsAreOf name xs → RemovalsAreOf name ys
    → RemovalsAreOf name (xs ++ ys)
removals-both name [] ys all others = others
removals-both name (x ∷ xs) ys all others = (all.0, removals-both name xs ys all.1 others)

module _ (name : Name) where
  by-home : (m : Name) (home : Home) → is_object m ≡ false
      → ((other : Name) → home ≡ homes.Removal other → is_object other ≡ true) → is_home_on m home ≡ true
      → RemovesOnly name home
  by-home m (homes.Removal other) process object on =
      absurd (false≢true (sym process ∙ ap is_object (same-name-is m other on) ∙ object other refl))
  by-home m (homes.At other) process object on = tt
  by-home m homes.Own process object on = tt
  by-home m homes.Keys process object on = tt
  by-home m homes.Parent process object on = tt

  for-process : (m : Name) (item : Held) → is_object m ≡ false → IsItemFor m item → IsRemovalOnly name item
  for-process m (Request asked) process on =
      by-home m (home_of asked.pid asked.call) process (removal-of-object asked.pid asked.call) on
  for-process m (Ending parcel) process on = tt

  held-only : (m : Name) (items : List Held) → is_object m ≡ false → AllByRecursion (IsItemFor m) items
      → RemovalsAreOf name items
  held-only m [] process all = tt
  held-only m (item ∷ items) process all = (for-process m item process all.0, held-only m items process all.1)

  held-all-only : (d : Directory) → ItemsFit d → (names : List Name) → AreProcesses names
      → RemovalsAreOf name (held_for_all d names)
  held-all-only d fit [] all = tt
  held-all-only d fit (m ∷ names) all =
      removals-both name (held_for d m) (held_for_all d names) (held-only m (held_for d m) all.0 (fit m))
      (held-all-only d fit names all.1)

module _ (script : Script) (name : Name) (parcel : Parcel) (packed : IsPacked parcel) (s : Step)
    (fit : ItemsFit (directory_in s)) (may : MayEndIf script s.node) where
  abbrev FreesOnly : AfterEnd → Type 0
  FreesOnly (IsHeld t) = Unit {0}
  FreesOnly (Releases t items) = RemovalsAreOf name items

  released : (u : Step) (node : ℕ) → directory_in u ≡ directory_in s → FreesOnly (release_names parcel node u)
  released u node same =
      held-all-only name (directory_in u) (subst ItemsFit (sym same) fit) (names_in parcel)
      (names-are-processes parcel packed)

  carried-out : (node : ℕ) (after : AfterEnd) (o : Option Step) → exit_here script s parcel ≡ o
      → option_map (release_names parcel node) o ≡ Some after → FreesOnly after
  carried-out node after None e h = not_some after h
  carried-out node after (Some u) e h =
      let free : EndsFree script s u = exit-free script s parcel may u e
      in subst FreesOnly (from_some (release_names parcel node u) after h) (released u node free.directory)

  end-at : (node : ℕ) (after : AfterEnd) (t : Bool)
      → (if t then option_map (release_names parcel node) (exit_here script s parcel)
      else Some (release_names parcel node (send s node (frames.ExitTo parcel)))) ≡ Some after
      → FreesOnly after
  end-at node after true h = carried-out node after (exit_here script s parcel) refl h
  end-at node after false h =
      let u : Step = send s node (frames.ExitTo parcel)
      in subst FreesOnly (from_some (release_names parcel node u) after h) (released u node refl)

  end-place : (after : AfterEnd) (o : Option Place) → end_by script s parcel o ≡ Some after → FreesOnly after
  end-place after None h = not_some after h
  end-place after (Some (At node)) h = let n : Node = s.node in end-at node after (nat_eq node n.number) h
  end-place after (Some (Coming to items)) h =
      subst FreesOnly (from_some (IsHeld (hold_item s (Proc parcel.parent) (Ending parcel))) after h) tt

  -- So no removal is among it.
  pub frees-no-removal : (next : Step) (items : List Held) → end_process script s parcel ≡ Some (Releases next items)
      → RemovalsAreOf name items
  frees-no-removal next items h =
      end-place (Releases next items) (place_of (directory_in s) (Proc parcel.parent)) h

-- ---- one call

-- the name that a call removes, if it removes one
abbrev pub name_removed : Home → Name
name_removed (homes.Removal name) = name
name_removed home = Proc 0

-- it removes no other
pub removes-its-own : (home : Home) → RemovesOnly (name_removed home) home
removes-its-own (homes.Removal name) = refl
removes-its-own (homes.At name) = tt
removes-its-own homes.Own = tt
removes-its-own homes.Keys = tt
removes-its-own homes.Parent = tt
