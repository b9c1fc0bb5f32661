use Rattle.std.proofs.Common.{ℕ, Option, ◌∙◌, sym, ap}
use Rattle.std.specs.FinMap as map
use Rattle.key_table.proofs.Views.{get-seen}
use Rattle.key_table.specs.declared.Bound.{Bound}
use Rattle.key_table.specs.KeyMap.{key_answer}
use Rattle.key_table.proofs.Keys.get.Goals as goal

pub returns : goal.returns
returns c =
    c.answer.ensures
    ∙ ap (λ (bound : Option Bound). key_answer bound c.args.create c.args.excl)
    (c.copied.ensures ∙ c.get.ensures.value
    ∙ sym (get-seen c.self.inside.by_key.entries c.args.self.now c.self.view_is c.key.inside.0)
    ∙ ap (λ (k : ℕ). map.get c.args.self.now k) c.key.view_is)
