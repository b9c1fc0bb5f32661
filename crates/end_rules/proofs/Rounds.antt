-- What was held for names is released: the rounds that the definition has are enough.
use Rattle.std.proofs.Common.{◌≡◌, ℕ, ◌≤◌, List, Some, ap, arith}
use Rattle.std.specs.Option.{option_and_then}
use Rattle.pico_base.specs.declared.script.Script.{Script}
use Rattle.rpc_frame.specs.declared.asked.Asked.{Asked}
use Rattle.node_model.specs.declared.held.Held.{Held}
use Rattle.node_model.specs.declared.held.Held.TheVariants.{Request}
use Rattle.world_model.specs.Step.{Step}
use Rattle.world_model.specs.Routes.{route_held}
use Rattle.world_model.specs.Releases.{release, release_round, release_rounds}
use Rattle.route_laws.proofs.release.Parcels.{PlacesRise}
use Rattle.route_laws.proofs.release.RoutedParcels.{HoldsNoMore, route-holds-no-more}
use Rattle.end_rules.specs.Ending.{GoesOn, parcels_left}

-- ---- one item

-- a call or a withdrawal that is routed
pub call-goes-on : (script : Script) (s t : Step) (asked : Asked) → PlacesRise s.node.leader.directory
    → route_held script s asked ≡ Some t → GoesOn script s (Request asked) t
call-goes-on script s t asked rises is =
    let few : HoldsNoMore s t = route-holds-no-more script s t asked rises is
    in record {
      round = λ next rest. ap (option_and_then (release_round script next rest)) is;
      counts = omega (arith, few);
    }

-- The release goes on with the items that are left, in so many rounds, which are enough for the parcels.
pub record HasRounds (script : Script) (old : Step) (items : List Held) (new : Step) (left : List Held) : Type 0 where
  pub rounds : ℕ
  pub enough : parcels_left left new ≤ rounds
  pub same : release script items old ≡ release_rounds rounds script left new
