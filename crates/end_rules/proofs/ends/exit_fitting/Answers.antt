use Rattle.std.proofs.Common.{[], Option, None, refl, subst}
use Rattle.std.proofs.lemmas.Result.{on_ok_weaker}
use Rattle.pico_base.specs.declared.reply.Reply.{Reply}
use Rattle.node_serve.specs.Ending.{Commits}
use Rattle.node_state.specs.State.{step_of}
use Rattle.end_rules.proofs.Exits.{exit-as, exit-wakes}
use Rattle.end_rules.proofs.Fits.{fit-for}
use Rattle.end_rules.proofs.ends.exit_fitting.Goals as goal

pub commit_exit-requires-clause-absent : goal.commit_exit-requires-clause-absent
commit_exit-requires-clause-absent c =
    let fit = fit-for c.args.step.now.node.deeds.bodies c.args.parcel c.requires.fits in fit.absent

pub commit_exit-requires-clause-fits : goal.commit_exit-requires-clause-fits
commit_exit-requires-clause-fits c =
    let fit = fit-for c.args.step.now.node.deeds.bodies c.args.parcel c.requires.fits in fit.as_read

pub returns-in-Some : goal.returns-in-Some
returns-in-Some c =
    on_ok_weaker c.enter_waking.result
    (λ done.
    exit-wakes c.args.script.now (step_of c.args.step.now) c.args.parcel c.args.step.now.node.deeds.bodies
    c.commit_exit.new.deeds.bodies c.parked_parent-awaits.result c.in-Some.reply (step_of c.strike_if.new.self)
    (step_of c.enter_waking.new.step) c.is_struck_by_end-struck.result c.in_ok-call.call c.wake_of-woken.result
    c.number.result refl (subst (λ (own : Option Reply).
    Commits c.args.step.now.node.deeds.bodies c.args.parcel c.parked_parent-awaits.result
    c.commit_exit.new.deeds.bodies own) c.in-Some.is c.in-Ok.ensures.ok) c.parked_parent-awaits.ensures
    c.is_struck_by_end-struck.ensures
    c.strike_if.ensures c.in_ok-call.ensures c.wake_of-woken.ensures done)
    c.enter_waking.ensures

pub returns-in-None : goal.returns-in-None
returns-in-None c =
    on_ok_weaker c.enter.result
    (λ done.
    exit-as c.args.script.now (step_of c.args.step.now) c.args.parcel c.args.step.now.node.deeds.bodies
    c.commit_exit.new.deeds.bodies c.parked_parent-awaits.result None (step_of c.strike_if.new.self)
    (step_of c.enter.new.self) c.is_struck_by_end-struck.result c.in_ok-call.call [] refl
    (subst (λ (own : Option Reply).
    Commits c.args.step.now.node.deeds.bodies c.args.parcel c.parked_parent-awaits.result
    c.commit_exit.new.deeds.bodies own) c.in-None.is c.in-Ok.ensures.ok) c.parked_parent-awaits.ensures
    c.is_struck_by_end-struck.ensures c.strike_if.ensures
    c.in_ok-call.ensures refl done)
    c.enter.ensures
