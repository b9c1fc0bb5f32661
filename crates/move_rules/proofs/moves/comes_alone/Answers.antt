use Rattle.move_rules.proofs.Alone.{comes-alone}
use Rattle.move_rules.proofs.moves.comes_alone.Goals as goal

pub returns : goal.returns
returns c =
    comes-alone c.is_unawaited.result c.args.deed.now c.as_slice.result.now c.as_slice.ensures c.is_unawaited.ensures
