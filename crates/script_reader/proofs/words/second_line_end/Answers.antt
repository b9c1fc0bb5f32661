use Rattle.std.proofs.Common.{eqb, ap, sym, ◌∙◌}
use Rattle.std.proofs.lemmas.List.{take_rest}
use Rattle.std.specs.Prelude.{position}
use Rattle.script_reader.proofs.Marked.{position_behind}
use Rattle.script_reader.proofs.words.second_line_end.Goals as goal

pub returns : goal.returns
returns c =
    let xs = c.args.text.now in
    record {
      value = position_behind (λ b. eqb b 10) xs c.in_ok-at.at c.requires.far
          (ap (position (λ b. eqb b 10)) (sym (take_rest xs 64)) ∙ c.in_ok-at.ensures.value);
    }
