use Rattle.std.proofs.lemmas.Result.{on_ok_weaker}
use Rattle.trace_text.proofs.Tallies.{tally-made}
use Rattle.trace_text.proofs.totals.Tally.add_call.Goals as goal

pub returns : goal.returns
returns c = λ before e call outcome counted.
    on_ok_weaker c.add_made.result
    (λ added. tally-made before e c.args.call.now c.args.outcome.now c.args.self.now c.add_made.new.self call outcome
    counted added)
    c.add_made.ensures
