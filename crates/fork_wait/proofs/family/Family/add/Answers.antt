use Rattle.std.proofs.Common.{◌<◌, false, length, subst, arith, sym, ◌≡◌, ◌++◌, ◌∷◌, []}
use Rattle.kernel_model.specs.Row.{Family}
use Rattle.fork_wait.specs.Children.{children, is_child}
use Rattle.fork_wait.proofs.Families.{children-added}
use Rattle.fork_wait.proofs.family.Family.add.Goals as goal

pub invariant_of-self : goal.invariant_of-self
invariant_of-self c =
    let f = c.self.inside in
    let pushed : c.push.new.self.items ≡ f.living.items ++ c.args.child ∷ [] =
    rw c.unwrap.ensures at c.push.ensures.items in
    rw pushed record {
      sound = children-added f.living.items f.ended.items c.args.child c.self.invariant.sound c.requires.positive
          (subst (λ (m : Family). length (children m) < 31) (sym c.self.view_is) c.requires.room)
          (subst (λ (m : Family). is_child m c.args.child ≡ false) (sym c.self.view_is) c.requires.absent);
      living = omega (arith, c.self.invariant.living, c.push.ensures.capacity);
      ended = c.self.invariant.ended;
    }
