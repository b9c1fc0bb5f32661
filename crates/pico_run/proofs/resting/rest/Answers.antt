use Rattle.std.proofs.Common.{◌≡◌, ◌+◌, ◌≤◌, length, subst, arith}
use Rattle.pico_base.specs.declared.script.Script.{Script}
use Rattle.world_model.specs.World.{node_count}
use Rattle.pico_run.proofs.OnTheWay.{on-the-way-start, on-the-way-more, on-the-way-end, world-is-there, world-has-node, chosen-is-enabled, few-events, few-stamps, made-more, one-script}
use Rattle.pico_run.proofs.resting.rest.Goals as goal

pub loop-event-init : goal.loop-event-init
loop-event-init c = λ script sound going.
    on-the-way-start script c.args.so_far _ _ c.args.last going c.as_slice.ensures c.last_stamp-stamp.ensures.above
    c.last_stamp-stamp.ensures.least
    (subst (λ (s : Script). c.args.last ≤ node_count s)
    (one-script c.requires.script script c.args.so_far c.requires.going going) c.requires.there)

pub in_turn-requires-clause-whole : goal.in_turn-requires-clause-whole
in_turn-requires-clause-whole c =
    world-is-there _ _ _ _ (c.loop-event.invariant c.requires.script c.requires.sound c.requires.going)

pub in_turn-requires-clause-there : goal.in_turn-requires-clause-there
in_turn-requires-clause-there c =
    world-has-node _ _ _ _ (c.loop-event.invariant c.requires.script c.requires.sound c.requires.going)

pub overflow_add-stamp : goal.overflow_add-stamp
overflow_add-stamp c =
    let on = c.loop-event.invariant c.requires.script c.requires.sound c.requires.going
    in let low : c.loop-event.stamp ≤ 640000 = few-stamps _ _ _ _ on c.runs_are_few.ensures c.requires.sound
    in omega (arith, low)

pub make-requires : goal.make-requires
make-requires c =
    let on = c.loop-event.invariant c.requires.script c.requires.sound c.requires.going
    in record {
      whole = world-is-there _ _ _ _ on;
      enabled = chosen-is-enabled _ _ _ _ on _ _ c.in_turn.ensures c.in-Some.is;
    }

pub loop-event-preserved : goal.loop-event-preserved
loop-event-preserved c = λ script sound going.
    on-the-way-more script _ c.loop-event.stamp c.loop-event.after _ _ c.in-Some.event _ _ _ c.steps_follow.ensures
    sound (c.loop-event.invariant script sound going) c.in_turn.ensures c.in-Some.is c.node_of-after.ensures
    c.in_ok-make.ensures

pub loop-event-smaller : goal.loop-event-smaller
loop-event-smaller c =
    let on = c.loop-event.invariant c.requires.script c.requires.sound c.requires.going
    in let few : length c.loop-event.events ≤ 640000 = few-events _ _ _ _ on c.runs_are_few.ensures c.requires.sound
    in let more : length c.make.new.events ≡ length c.loop-event.events + 1 =
    made-more _ _ _ _ _ _ _ _ c.in_ok-make.ensures
    in omega (arith, few, more)

pub returns : goal.returns
returns c = λ script sound going.
    on-the-way-end script _ _ _ _ c.rest_is_where_nothing_is_chosen.ensures
    (c.loop-event.invariant script sound going) c.in_turn.ensures c.in_default.is
