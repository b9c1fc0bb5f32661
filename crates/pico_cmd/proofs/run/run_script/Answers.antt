use Rattle.std.proofs.Common.{◌≡◌, ◌∙◌, ap, subst}
use Rattle.std.specs.Prelude.{IfSome}
use Rattle.std.specs.Option.{option_map}
use Rattle.world_model.specs.Schedule.{schedule_of, schedule_after}
use Rattle.pico_cmd.specs.Schedule.{schedule_in}
use Rattle.pico_cmd.proofs.Goings.{IsRunning-start, IsRunning-more, IsRunning-end, going_is_there, going_is_within, going_is_enabled}
use Rattle.pico_cmd.proofs.RunLaws.{Laws}
use Rattle.pico_cmd.proofs.run.run_script.Goals as goal

pub loop-event-init : goal.loop-event-init
loop-event-init c =
    IsRunning-start _ _ _ _ _ _ _ c.new-events.ensures.items c.in_ok-world.ensures
    (c.numbered-schedule.ensures ∙ ap (schedule_of c.args.seed) c.nodes_of.ensures) c.requires.fresh

pub choice-requires-clause-whole : goal.choice-requires-clause-whole
choice-requires-clause-whole c = going_is_there _ _ _ _ _ _ _ c.loop-event.invariant.going

pub choice-requires-clause-within : goal.choice-requires-clause-within
choice-requires-clause-within c = going_is_within _ _ _ _ _ _ _ c.loop-event.invariant.going

pub step-requires : goal.step-requires
step-requires c = record {
  enabled =
      going_is_enabled _ _ _ _ _ _ _ _ _ c.loop-event.invariant.going c.choice.ensures.event
      (ap (option_map (λ x. x.0)) c.in-Some.is);
}

pub loop-event-preserved : goal.loop-event-preserved
loop-event-preserved c =
    IsRunning-more _ _ _ _ _ _ _ _ _ _ _ _ _ _ _ c.loop-event.invariant c.choice.ensures.event
    (ap (option_map (λ x. x.0)) c.in-Some.is) c.in_ok-step.ensures.ok
    (subst (λ o. IfSome o (λ x. schedule_in x.1 ≡ schedule_after (schedule_in c.loop-event.schedule) x.0)) c.in-Some.is
    c.choice.ensures.after)
    c.in_ok-keep.ensures c.in_ok-tell_if_much.ensures.told c.in_ok-tell_if_much.ensures.lines

pub returns-clause-told : goal.returns-clause-told
returns-clause-told c =
    let laws : Laws = record {
      legal = c.laws.ensures.legal;
      quiet = c.laws.ensures.quiet;
      waits = c.laws.ensures.waits;
      ended = c.laws.ensures.ended;
      left = c.laws.ensures.left;
      never = c.laws.ensures.never;
      whole = c.laws.ensures.whole;
      owners = c.laws.ensures.owners;
      short = c.laws.ensures.short;
      rest = c.laws.ensures.rest;
    } in
    IsRunning-end _ _ _ _ _ _ _ _ _ _ _ _ laws c.requires.sound c.loop-event.invariant c.choice.ensures.event
    (ap (option_map (λ x. x.0)) c.in_default.is) c.is_stalled-stalled.ensures c.in_ok-tell_all.ensures.told
    c.in_ok-tell_all.ensures.let_go
