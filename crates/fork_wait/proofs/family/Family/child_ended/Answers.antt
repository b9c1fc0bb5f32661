use Rattle.std.proofs.Common.{true, subst, arith, sym, ◌≡◌, ◌++◌, ◌∷◌, []}
use Rattle.kernel_model.specs.Row.{Family, lists, ended_child}
use Rattle.fork_wait.proofs.Families.{children-kept, children-left}
use Rattle.fork_wait.proofs.family.Family.child_ended.Goals as goal

pub invariant_of-self : goal.invariant_of-self
invariant_of-self c =
    let f = c.self.inside in
    let pushed : c.push.new.self.items ≡ f.ended.items ++ ended_child c.args.child c.args.ending ∷ [] =
    rw c.unwrap.ensures at c.push.ensures.items in
    rw (pushed, c.take_out.ensures.out, c.take_out.ensures.room) record {
      sound = children-kept f.living.items f.ended.items c.args.child c.self.invariant.sound c.args.ending
          (subst (λ (m : Family). lists m c.args.child ≡ true) (sym c.self.view_is) c.requires);
      living = c.self.invariant.living;
      ended = omega (arith, c.self.invariant.ended, c.push.ensures.capacity);
    }

pub invariant_of-self-else-not-ignored : goal.invariant_of-self-else-not-ignored
invariant_of-self-else-not-ignored c =
    let f = c.self.inside in
    rw (c.take_out.ensures.out, c.take_out.ensures.room) record {
      sound = children-left f.living.items f.ended.items c.args.child c.self.invariant.sound;
      living = c.self.invariant.living;
      ended = c.self.invariant.ended;
    }
