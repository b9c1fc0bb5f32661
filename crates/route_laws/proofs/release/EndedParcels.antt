-- A parcel in hand comes to its end: it is held, which is one more, or its names' items are released, which aren't held
-- any more.
use Rattle.std.proofs.Common.{◌≡◌, ℕ, ◌+◌, ◌≤◌, Bool, true, false, if◌then◌else◌, List, [], ◌∷◌, ◌++◌, map, nat_eq, Option, Some, None, option_map, refl, ap, sym, subst, ◌∙◌, arith}
use Rattle.pico_base.specs.declared.call.Call.{Call}
use Rattle.pico_base.specs.declared.numbers.Name.{Name}
use Rattle.pico_base.specs.declared.numbers.Name.TheVariants.{Proc}
use Rattle.pico_base.specs.declared.reply.Reply.TheVariants as replies
use Rattle.pico_base.specs.declared.script.Script.{Script}
use Rattle.rpc_frame.specs.declared.deed.PackedDeed.{PackedDeed}
use Rattle.rpc_frame.specs.declared.deed.Parcel.{Parcel}
use Rattle.rpc_frame.specs.declared.frame.Frame.TheVariants as frames
use Rattle.number_maps.specs.Maps.{Numbered}
use Rattle.number_maps.specs.Rising.{IsRising}
use Rattle.waiting_model.specs.declared.callers.Wake.{Wake}
use Rattle.node_model.specs.declared.held.Held.TheVariants.{Ending}
use Rattle.node_model.specs.Kinds.{get_named, put_all}
use Rattle.node_model.specs.Bodies.{Body}
use Rattle.node_model.specs.Directory.{Directory, Place, At, Coming, place_of, hold_at, items_of, parcels_held}
use Rattle.node_model.specs.Entries.{outcome_with}
use Rattle.node_model.specs.Parcels.{Committed, pack_all, commit_exit, fitting_bodies}
use Rattle.world_model.specs.Step.{Step, enter_with, reply_here, send, with_deeds, with_strike}
use Rattle.world_model.specs.Ends.{AfterEnd, IsHeld, Releases, answer_own, names_in, arrive_all, held_for_all, is_struck_by_end, parked_parent, release_names, enter_exit, exit_with, exit_here, end_by, end_process}
use Rattle.route_laws.proofs.release.Parcels.{PlacesRise, parcels_among, among-both, among-behind-parcel, one-more-held, names_of, all-arrive}
use Rattle.route_laws.proofs.release.RoutedParcels.{directory_in}

-- what a parcel's end leaves of the parcels held, with those that it releases
abbrev pub EndLeaves : Step → Option AfterEnd → Type 0
EndLeaves s None = Unit {0}
EndLeaves s (Some (IsHeld next)) = parcels_held (directory_in next) ≤ parcels_held (directory_in s) + 1
EndLeaves s (Some (Releases next items)) =
    parcels_held (directory_in next) + parcels_among items ≤ parcels_held (directory_in s)

-- the parcel's deeds are of processes, by rising number
pub record IsPacked (parcel : Parcel) : Type 0 where
  pub bodies : Numbered Body
  pub packed : parcel.deeds ≡ pack_all Proc bodies
  pub ordered : IsRising bodies

-- ---- it is held

one-more : (d : Directory) (name : Name) (parcel : Parcel) (o : Option Place) → place_of d name ≡ o → PlacesRise d
    → parcels_held (hold_at d name (Ending parcel) o) ≤ parcels_held d + 1
one-more d name parcel None e r = omega arith
one-more d name parcel (Some (At node)) e r = omega arith
one-more d name parcel (Some (Coming to items)) e r =
    one-more-held d name (Coming to (items ++ Ending parcel ∷ [])) r
    (omega (
      arith,
      among-both items (Ending parcel ∷ []),
      among-behind-parcel parcel [],
      ap (λ o. parcels_among (items_of o)) e,
    ))

-- ---- its names are released

names-are : (parcel : Parcel) (k : IsPacked parcel) → names_in parcel ≡ names_of k.bodies
names-are parcel k = ap (λ ds. map (λ (deed : PackedDeed). deed.name) ds) k.packed

names-released : (s t : Step) (parcel : Parcel) (node : ℕ) → IsPacked parcel → PlacesRise (directory_in s)
    → directory_in t ≡ directory_in s → EndLeaves s (Some (release_names parcel node t))
names-released s t parcel node k r e =
    let d : Directory = directory_in t
    in let rises : PlacesRise d = subst (λ (y : Directory). PlacesRise y) (sym e) r
    in omega (
      arith,
      all-arrive k.bodies d node k.ordered rises,
      ap (λ names. parcels_held (arrive_all d names node)) (names-are parcel k),
      ap (λ names. parcels_among (held_for_all d names)) (names-are parcel k),
      ap parcels_held e,
    )

-- where there is a second step it has the same directory
abbrev SameIn : Step → Option Step → Type 0
SameIn s None = Unit {0}
SameIn s (Some t) = directory_in t ≡ directory_in s

answered-same : (script : Script) (s : Step) (wakes : List Wake)
    → directory_in (answer_own script s wakes) ≡ directory_in s
answered-same script s [] = refl
answered-same script s (z ∷ wakes) =
    answered-same script (reply_here script s z.reply s.node.caller.under_way) wakes ∙ by s.node.caller.under_way
  where
    by : (o : Option Call) → directory_in (reply_here script s z.reply o) ≡ directory_in s
    by None = refl
    by (Some call) = refl

exit-same : (script : Script) (s : Step) (parcel : Parcel) (bodies : Option (Numbered Body)) (parent : Option Body)
    → SameIn s (exit_with script s parcel bodies parent)
exit-same script s parcel None parent = tt
exit-same script s parcel (Some bodies) None = tt
exit-same script s parcel (Some bodies) (Some parent) =
    by-changes (commit_exit parcel bodies (parked_parent s.node parcel.parent) parent)
  where
    entered : Committed → Step
    entered c =
        enter_with
        (with_deeds (with_strike s (is_struck_by_end s.node parcel.parent)) (put_all s.node.deeds c.changes)) parcel.pid
        parcel.call (outcome_with (Some replies.Ended) c.wakes)

    by-changes : (o : Option Committed) → SameIn s (option_map (enter_exit script s parcel) o)
    by-changes None = tt
    by-changes (Some c) = answered-same script (entered c) c.wakes

by-exit : (s : Step) (parcel : Parcel) (node : ℕ) → IsPacked parcel → PlacesRise (directory_in s) → (o : Option Step)
    → SameIn s o → EndLeaves s (option_map (release_names parcel node) o)
by-exit s parcel node k r None e = tt
by-exit s parcel node k r (Some t) e = names-released s t parcel node k r e

-- ---- by the parent's place

by-place : (script : Script) (s : Step) (parcel : Parcel) → IsPacked parcel → PlacesRise (directory_in s)
    → (o : Option Place) → place_of (directory_in s) (Proc parcel.parent) ≡ o
    → EndLeaves s (end_by script s parcel o)
by-place script s parcel k r None e = tt
by-place script s parcel k r (Some (Coming to items)) e =
    one-more (directory_in s) (Proc parcel.parent) parcel (place_of (directory_in s) (Proc parcel.parent)) refl r
by-place script s parcel k r (Some (At node)) e = by-test (nat_eq node s.node.number)
  where
    by-test : (t : Bool)
        → EndLeaves s
        (if t then option_map (release_names parcel node) (exit_here script s parcel)
        else Some (release_names parcel node (send s node (frames.ExitTo parcel))))
    by-test true =
        by-exit s parcel node k r (exit_here script s parcel)
        (exit-same script s parcel (fitting_bodies s.node.deeds parcel) (get_named s.node.deeds (Proc parcel.parent)))
    by-test false = names-released s (send s node (frames.ExitTo parcel)) parcel node k r refl

-- What a parcel's end leaves of the parcels held.
pub end-leaves : (script : Script) (s : Step) (parcel : Parcel) → IsPacked parcel → PlacesRise (directory_in s)
    → EndLeaves s (end_process script s parcel)
end-leaves script s parcel k r = by-place script s parcel k r (place_of (directory_in s) (Proc parcel.parent)) refl
