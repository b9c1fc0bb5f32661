use Rattle.script_reader.proofs.Edges.{edges_made}
use Rattle.script_reader.proofs.words.edges_from.Goals as goal

pub returns : goal.returns
returns c =
    edges_made c.args.solids c.bits_from.result c.changes_in.result c.args.start c.requires c.bits_from.ensures.under
    c.bits_from.ensures.kept c.changes_in.ensures.first c.changes_in.ensures.others
