use Rattle.std.proofs.Common.{◌∙◌, sym}
use Rattle.number_maps.proofs.Changes.{without-remove}
use Rattle.node_state.proofs.watches.forget.Goals as goal

pub returns : goal.returns
returns c =
    c.remove.ensures.entries ∙ sym (without-remove c.args.watches.now.entries c.args.number c.len.ensures.ordered)
