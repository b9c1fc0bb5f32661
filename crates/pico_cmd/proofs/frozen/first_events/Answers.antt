use Rattle.std.proofs.Common.{◌≡◌, ◌∙◌, ap, subst, arith}
use Rattle.std.specs.Prelude.{IfSome}
use Rattle.std.specs.Option.{option_map}
use Rattle.world_model.specs.Schedule.{schedule_of, schedule_after}
use Rattle.pico_cmd.specs.Schedule.{schedule_in}
use Rattle.pico_cmd.proofs.Freezing.{IsFreezing-start, IsFreezing-more, freezing_is_there, freezing_is_within, freezing_is_enabled, first_all, first_rest}
use Rattle.pico_cmd.proofs.RunLaws.{Laws}
use Rattle.pico_cmd.proofs.frozen.first_events.Goals as goal

pub loop-before-init : goal.loop-before-init
loop-before-init c =
    IsFreezing-start _ _ _ _ _ c.new-events.ensures.items c.in_ok-world.ensures
    (c.numbered-schedule.ensures ∙ ap (schedule_of 0) c.nodes_of.ensures)
    (c.of_totals-telling.ensures.tells c.args.script)

pub choice-requires-clause-whole : goal.choice-requires-clause-whole
choice-requires-clause-whole c = freezing_is_there _ _ _ _ _ _ c.loop-before.invariant

pub choice-requires-clause-within : goal.choice-requires-clause-within
choice-requires-clause-within c = freezing_is_within _ _ _ _ _ _ c.loop-before.invariant

pub step-requires : goal.step-requires
step-requires c = record {
  enabled =
      freezing_is_enabled _ _ _ _ _ _ c.loop-before.invariant _ _ c.choice.ensures.event
      (ap (option_map (λ x. x.0)) c.in-Some.is);
}

pub loop-before-preserved : goal.loop-before-preserved
loop-before-preserved c =
    IsFreezing-more _ _ _ _ _ _ c.loop-before.invariant _ _ _ _ _ _ _ c.choice.ensures.event
    (ap (option_map (λ x. x.0)) c.in-Some.is) c.in_ok-step.ensures.ok
    (subst (λ o. IfSome o (λ x. schedule_in x.1 ≡ schedule_after (schedule_in c.loop-before.schedule) x.0)) c.in-Some.is
    c.choice.ensures.after)
    c.in_ok-keep.ensures c.in_ok-tell_if_much.ensures.told c.in_ok-tell_if_much.ensures.lines

-- the run has come to rest
pub returns-in_default : goal.returns-in_default
returns-in_default c =
    let laws : Laws = record {
      legal = c.laws.ensures.legal;
      quiet = c.laws.ensures.quiet;
      waits = c.laws.ensures.waits;
      ended = c.laws.ensures.ended;
      left = c.laws.ensures.left;
      never = c.laws.ensures.never;
      whole = c.laws.ensures.whole;
      owners = c.laws.ensures.owners;
      short = c.laws.ensures.short;
      rest = c.laws.ensures.rest;
    } in
    first_rest _ _ _ _ _ _ c.loop-before.invariant c.args.count _ laws (omega arith) c.choice.ensures.event
    (ap (option_map (λ x. x.0)) c.in_default.is)

pub returns : goal.returns
returns c = first_all _ _ _ _ _ _ c.loop-before.invariant c.args.count (omega arith)
