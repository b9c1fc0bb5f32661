use Rattle.std.proofs.Common.{◌∙◌, List, map, ap, sym, subst}
use Rattle.pico_base.specs.declared.script.Event.{Event}
use Rattle.stamp_merge.specs.declared.Stamped.{Stamped}
use Rattle.stamp_merge.specs.Merge.{IsMerge}
use Rattle.log_laws.specs.Merge.{MayMerge}
use Rattle.log_model.specs.Views.{Parting}
use Rattle.pico_run.specs.Resting.{IsGoing, logs_in}
use Rattle.pico_run.proofs.Merges.{going-start, logs-may-merge, plain-run}
use Rattle.pico_run.proofs.merging.merge_threads.Goals as goal

pub merge_logs-requires : goal.merge_logs-requires
merge_logs-requires c =
    subst (λ (ps : List Parting). MayMerge (logs_in ps)) (sym c.deref.ensures.value)
    (logs-may-merge c.args.script c.args.threaded.journal c.args.threaded.partings.items c.nodes_may_merge.ensures
    c.requires.threaded)

pub of_logs-requires-clause-run : goal.of_logs-requires-clause-run
of_logs-requires-clause-run c =
    plain-run c.args.script c.args.threaded.journal c.args.threaded.partings.items c.in_ok-events.events
    c.deref-2.result.now c.threads_make_a_run.ensures c.requires.sound c.requires.threaded
    (subst (λ (ps : List Parting). IsMerge (logs_in ps) c.in_ok-events.events) c.deref.ensures.value
    c.in_ok-events.ensures)
    (c.deref-2.ensures.value ∙ c.in_ok-plain.ensures ∙ ap (map (λ (e : Stamped Event). e.item)) c.as_slice.ensures)

pub returns : goal.returns
returns c =
    subst (λ (ps : List Parting). IsGoing c.args.script (record {
      journal = c.args.threaded.journal;
      events = c.in_ok-events.events;
      world = c.in_ok-world.world;
      partings = ps;
    })) (sym c.from_vec.ensures)
    (going-start c.args.script c.args.threaded.journal c.args.threaded.partings.items c.in_ok-events.events
    c.deref-2.result.now c.in_ok-world.world c.threads_make_a_run.ensures c.requires.sound c.requires.threaded
    (subst (λ (ps : List Parting). IsMerge (logs_in ps) c.in_ok-events.events) c.deref.ensures.value
    c.in_ok-events.ensures)
    (c.deref-2.ensures.value ∙ c.in_ok-plain.ensures ∙ ap (map (λ (e : Stamped Event). e.item)) c.as_slice.ensures)
    c.in_ok-world.ensures.run c.in_ok-world.ensures.whole)
