use Rattle.std.proofs.Common.{ap, arith}
use Rattle.node_model.specs.Directory.{parcels_held}
use Rattle.node_state.specs.State.{step_of}
use Rattle.end_rules.specs.Ending.{parcels_among, with_places}
use Rattle.end_rules.proofs.Endings.{arrival-counts}
use Rattle.end_rules.proofs.ends.arrive.Goals as goal

pub returns : goal.returns
returns c =
    let d = c.args.step.now.node.leader.directory
    in record {
      came = cc;
      held = c.arrive.ensures.held;
      after = ap (with_places (step_of c.args.step.now)) c.arrive.ensures.place;
      counts = omega (
        arith,
        arrival-counts d c.args.name.now c.args.node (cc) c.places_rise.ensures,
        ap parcels_held c.arrive.ensures.place,
        ap parcels_among c.arrive.ensures.held,
      );
    }
