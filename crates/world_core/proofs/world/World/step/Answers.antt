use Rattle.std.proofs.Common.{◌≡◌, true, Option, IfSome, sym, subst}
use Rattle.world_model.specs.World.{World, is_enabled}
use Rattle.world_core.proofs.Reached.{sound_after}
use Rattle.world_core.proofs.world.World.step.Goals as goal

pub invariant_of-self : goal.invariant_of-self
invariant_of-self c =
    let P : Option World → Type 0 = λ o. IfSome o (λ w. is_enabled w c.args.event ≡ true)
    in sound_after c.self.inside.streaming c.step.new.self c.args.event c.step.result c.self.invariant
    (subst P (sym c.self.view_is) c.requires.enabled) c.step.ensures.ok c.step.ensures.err
