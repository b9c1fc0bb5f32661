use Rattle.pico_cmd.proofs.Onward.{IsOnward-start, IsOnward-more, IsOnward-end, onward_is_there, onward_is_within, onward_is_enabled}
use Rattle.pico_cmd.proofs.thawed.go_on.Goals as goal

pub loop-event-init : goal.loop-event-init
loop-event-init c = IsOnward-start _ _ c.requires.whole c.requires.there

pub in_turn-requires-clause-whole : goal.in_turn-requires-clause-whole
in_turn-requires-clause-whole c = onward_is_there _ _ _ _ c.loop-event.invariant

pub in_turn-requires-clause-there : goal.in_turn-requires-clause-there
in_turn-requires-clause-there c = onward_is_within _ _ _ _ c.loop-event.invariant

pub step-requires : goal.step-requires
step-requires c =
    record { enabled = onward_is_enabled _ _ _ _ c.loop-event.invariant _ _ c.in_turn.ensures c.in-Some.is }

pub loop-event-preserved : goal.loop-event-preserved
loop-event-preserved c =
    IsOnward-more _ _ _ _ c.loop-event.invariant _ _ _ _ c.in_turn.ensures c.in-Some.is c.in_ok-step.ensures.ok
    c.node_of-last.ensures

pub returns : goal.returns
returns c = IsOnward-end _ _ _ _ c.loop-event.invariant _ c.in_turn.ensures c.in_default.is
