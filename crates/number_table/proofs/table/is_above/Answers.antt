use Rattle.std.proofs.Common.{◌<◌, arith, rules}
use Rattle.number_table.proofs.Guesses.{belongs_behind, lower_behind, none_behind}
use Rattle.number_table.proofs.table.is_above.Goals as goal

pub returns-in-Some-clause-behind : goal.returns-in-Some-clause-behind
returns-in-Some-clause-behind g c low =
    belongs_behind c.args.entries.now c.args.number c.in-Some.last.now c.requires c.in-Some.ensures.value (search rules)

pub returns-in-Some-clause-exact : goal.returns-in-Some-clause-exact
returns-in-Some-clause-exact g c = (
  λ low.
      none_behind c.args.entries.now c.args.number c.in-Some.last.now c.requires c.in-Some.ensures.value (search rules),
  λ none. let below : c.in-Some.last.now.0 < c.args.number =
      lower_behind c.args.entries.now c.args.number c.in-Some.last.now c.requires c.in-Some.ensures.value none
      in grind (arith, below),
)
