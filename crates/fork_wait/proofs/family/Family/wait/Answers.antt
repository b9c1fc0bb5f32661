use Rattle.fork_wait.proofs.Families.{children-waited}
use Rattle.fork_wait.proofs.family.Family.wait.Goals as goal

pub invariant_of-self : goal.invariant_of-self
invariant_of-self c =
    let f = c.self.inside in
    rw (c.forget.ensures.out, c.forget.ensures.room) record {
      sound = children-waited f.living.items f.ended.items _ c.self.invariant.sound;
      living = c.self.invariant.living;
      ended = c.self.invariant.ended;
    }
