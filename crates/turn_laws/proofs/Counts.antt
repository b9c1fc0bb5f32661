-- A run of a sound script has at most 640,000 events.
use Rattle.std.proofs.Common.{arith}
use Rattle.std.proofs.lemmas.Bool.{leb-true}
use Rattle.kernel_model.specs.Script.{max_calls}
use Rattle.weight_laws.specs.Weights.{calls_of}
use Rattle.run_laws.proofs.Runs.{runs_are_short_lemma}
use Rattle.turn_laws.specs.Laws.{RunsAreFew}

-- a run has at most 640,000 events
pub runs_are_few_lemma : RunsAreFew
runs_are_few_lemma script events w sound run =
    let short = runs_are_short_lemma script sound events w run
    in let calls = leb-true (calls_of script) max_calls sound.calls
    in omega (arith, short, calls)
