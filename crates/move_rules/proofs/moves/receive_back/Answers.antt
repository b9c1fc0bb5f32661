use Rattle.std.proofs.Common.{◌∙◌, sym}
use Rattle.std.proofs.lemmas.Bool.{OnTrue_at}
use Rattle.node_state.specs.State.{node_of, step_of}
use Rattle.move_rules.specs.Coming.{IsUnawaited}
use Rattle.move_rules.proofs.Alone.{comes-unread}
use Rattle.move_rules.proofs.moves.receive_back.Goals as goal

pub returns-in_ok-come_unread-in-Some : goal.returns-in_ok-come_unread-in-Some
returns-in_ok-come_unread-in-Some c =
    comes-unread c.args.script.now (node_of c.args.step.now.node) c.args.deed c.in-Some.to
    (step_of c.come_unread.new.step)
    (OnTrue_at {P = IsUnawaited c.args.deed} c.if-comes_alone.true c.comes_alone.ensures)
    (sym c.goes_on_to.ensures ∙ c.in-Some.is) c.in_ok-come_unread-in-Some.ensures
