use Rattle.std.proofs.Common.{sym, ◌∙◌}
use Rattle.signal_state.specs.Held.{is_kept}
use Rattle.signal_state.proofs.Bodies.{all_signals-pass, each-signal}
use Rattle.signal_state.proofs.signals.is_held.Goals as goal

pub returns : goal.returns
returns c =
    let test = is_kept c.args.actions.now c.args.pending in (
      λ passes. record {
        kill_default = c.in-Dfl.is;
        unmasked = sym c.has.ensures ∙ c.if-has.false;
        no_kill = sym c.has-else-has.ensures ∙ c.if-has-2.false;
        kept = each-signal test (sym c.all_kept.ensures ∙ passes);
      },
      λ held. c.all_kept.ensures ∙ all_signals-pass test held.kept,
    )
