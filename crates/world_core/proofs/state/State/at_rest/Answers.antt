use Rattle.std.proofs.Common.{sym, ◌∙◌}
use Rattle.world_model.specs.World.{numbers, size}
use Rattle.world_core.specs.State.{world_of}
use Rattle.world_core.proofs.Rest.{rests, all_numbers, nothing_at_rest, zero_is}
use Rattle.world_core.proofs.Worlds.{alive-shaped}
use Rattle.world_core.proofs.state.State.at_rest.Goals as goal

pub returns : goal.returns
returns c =
    let w = world_of c.args.self.now in
    let shaped = alive-shaped c.args.self.now c.requires in (
      λ none. rests w (numbers 1 (size w)) shaped (all_numbers w)
          (sym c.count.ensures ∙ (zero_is c.count.result).0 none),
      λ rest. (zero_is c.count.result).1 (c.count.ensures ∙ nothing_at_rest w rest),
    )
