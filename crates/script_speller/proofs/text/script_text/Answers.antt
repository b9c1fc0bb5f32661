use Rattle.std.proofs.Common.{rules, ◌≡◌}
use Rattle.script_speller.specs.Spelling as spec
use Rattle.script_speller.proofs.Whole.{reads_of, shortest_of}
use Rattle.script_speller.proofs.text.script_text.Goals as goal

pub returns-clause-again : goal.returns-clause-again
returns-clause-again c =
    let same : c.from_vec.result ≡ spec.spelling c.args.script.now = search rules in
    reads_of c.requires.0 c.from_vec.result c.args.script.now c.requires.1 same

pub returns-clause-shortest : goal.returns-clause-shortest
returns-clause-shortest c =
    let same : c.from_vec.result ≡ spec.spelling c.args.script.now = search rules in
    shortest_of c.from_vec.result c.args.script.now same
