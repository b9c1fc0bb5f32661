use Rattle.std.proofs.Common.{◌+◌, ◌≤◌, sym, subst}
use Rattle.pico_base.specs.declared.numbers.Name.TheVariants.{Proc}
use Rattle.world_model.specs.Step.{Step}
use Rattle.node_serve.proofs.Taken.{on-ok}
use Rattle.node_state.specs.State.{step_of}
use Rattle.end_rules.specs.Ending.{parcels_in}
use Rattle.end_rules.proofs.Endings.{held-counts}
use Rattle.end_rules.proofs.ends.hold_end.Goals as goal

pub returns-clause-counts : goal.returns-clause-counts
returns-clause-counts c =
    on-ok c.hold_item.result
    (λ e.
    subst (λ (t : Step). parcels_in t ≤ parcels_in (step_of c.args.step.now) + 1) (sym e)
    (held-counts (step_of c.args.step.now) c.args.parcel (Proc c.args.parcel.parent) c.places_rise.ensures))
    c.hold_item.ensures
