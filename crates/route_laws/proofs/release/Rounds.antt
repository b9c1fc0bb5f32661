-- The leader's hand is emptied in the middle of an event: where each call first in it has a route, and each parcel
-- comes to its end, at every step on the way, the release of what is in hand comes to a step, and all holds after it.
use Rattle.std.proofs.Common.{◌≡◌, ℕ, ◌+◌, ◌≤◌, List, [], ◌∷◌, sym, subst, arith, append-nil}
use Rattle.std.proofs.lemmas.List.Elements.{Contains-append_left, Contains-push}
use Rattle.pico_base.specs.declared.script.Script.{Script}
use Rattle.rpc_frame.specs.declared.deed.Parcel.{Parcel}
use Rattle.node_model.specs.declared.held.Held.{Held}
use Rattle.node_model.specs.declared.held.Held.TheVariants.{Ending}
use Rattle.node_model.specs.Directory.{parcels_held}
use Rattle.world_model.specs.Node.{Node}
use Rattle.world_model.specs.Step.{Step}
use Rattle.world_model.specs.World.{World, node_count, world_after}
use Rattle.world_laws.specs.Places.{Beside}
use Rattle.world_laws.specs.Sights.{node_of, directory_of, stage_of}
use Rattle.world_laws.specs.Ways.{HasSender, IsParcelOf, at_hand, under_way_of}
use Rattle.world_laws.specs.Families.{PidsHold}
use Rattle.world_laws.specs.Cancels.{Owing}
use Rattle.world_laws.specs.Invariant.{HoldsOwing, IsLeading}
use Rattle.world_laws.proofs.Changes.{Changes}
use Rattle.world_laws.proofs.Middles.{changes-further}
use Rattle.route_laws.proofs.release.Parcels.{PlacesRise, parcels_among}
use Rattle.route_laws.proofs.release.RoutedParcels.{directory_in}
use Rattle.route_laws.proofs.release.EndedParcels.{IsPacked}

-- ---- the leader in the middle of its event

module _ (script : Script) (v : World) (s : Step) (hand : List Held) {owes : Owing} (b : Beside)
    (holds : HoldsOwing script (world_after v 1 s) hand owes b) where
  high-one : 1 ≤ node_count script
  high-one =
      let pids : PidsHold script b.pids b.places b.kernel = holds.pids
      in let both = pids.nodes 1 (λ e. omega (arith, e, pids.first))
      in both.1

  still : Changes script 1 (world_after v 1 s) (world_after v 1 s) s.node [] [] []
  still =
      changes-further script v 1 s s [] [] holds.shape (omega arith) high-one tt
      (record { sends_are = sym (append-nil s.sends); entries_are = sym (append-nil s.entries) })

  -- node 1 of the world is as in the step
  pub leader-in-step : node_of (world_after v 1 s) 1 ≡ s.node
  leader-in-step = still.here

  -- its places are by rising number
  pub places-rise : PlacesRise (directory_in s)
  places-rise =
      let leads : IsLeading (directory_of (world_after v 1 s)) = holds.leading
      in subst (λ (n : Node). PlacesRise n.leader.directory) leader-in-step leads.processes

-- the deeds of a parcel in hand are of processes, by rising number
pub first-is-packed : (script : Script) (w : World) (parcel : Parcel) (rest : List Held) {owes : Owing} (b : Beside)
    → HoldsOwing script w (Ending parcel ∷ rest) owes b → IsPacked parcel
first-is-packed script w parcel rest b holds =
    let sender : HasSender script b.pids (stage_of w) (under_way_of w) parcel =
    holds.parcels parcel
    (at_hand (Contains-append_left (Ending parcel ∷ []) rest (Ending parcel) (Contains-push [] (Ending parcel))))
    in let its : IsParcelOf script b.pids sender.node sender.call parcel = sender.is_of
    in record { bodies = its.bodies; packed = its.packed; ordered = its.ordered }

-- ---- a round

-- the parcels in hand and in the directory
abbrev pub parcels_left : List Held → Step → ℕ
parcels_left items s = parcels_among items + parcels_held (directory_in s)
