use Rattle.std.proofs.Common.{◌∙◌}
use Rattle.pico_cmd.proofs.Ends.{text_told}
use Rattle.pico_cmd.proofs.answer.simulated.Goals as goal

pub returns : goal.returns
returns c =
    record {
      stalled = c.in_ok-run.run'.stalled;
      status_is = c.status_left-status.ensures;
      run =
          text_told _ _ _ _ _ _ c.in_ok-run.ensures.told
          (c.in_ok-run.ensures.lines ∙ c.of_lines.ensures.wanted)
          c.in_ok-text.ensures;
      alone = c.new.ensures;
    }

pub run_script-requires-clause-fresh : goal.run_script-requires-clause-fresh
run_script-requires-clause-fresh c = c.of_lines.ensures.tells c.args.script
