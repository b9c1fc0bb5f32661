use Rattle.std.proofs.Common.{◌∙◌}
use Rattle.std.specs.Prelude.{bytes_eq}
use Rattle.script_reader.proofs.Mentions.{position-map}
use Rattle.script_reader.proofs.tables.Names.place.Goals as goal

pub returns-clause-value : goal.returns-clause-value
returns-clause-value c =
    c.get_index_of.ensures.index
    ∙ position-map (λ name. name.items)
    (bytes_eq c.args.name.now) c.self.inside.names.keys c.args.self.now c.self.view_is
