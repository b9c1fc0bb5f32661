use Rattle.script_reader.proofs.Mentions.{named}
use Rattle.script_reader.proofs.tables.Names.mention.Goals as goal

pub returns : goal.returns
returns c = named (λ name. name.items) c.self.inside.names.keys c.insert.new.self.keys c.in_ok-from_slice.field-0
    c.args.self.now c.args.name.now c.in_ok-insert.ensures.keys c.self.view_is c.in_ok-from_slice.ensures.items
