use Rattle.std.proofs.Common.{arith}
use Rattle.std.proofs.lemmas.Bool.Decides.{nat_tests}
use Rattle.pid_space.proofs.Ranges.{range-contains, range-contained}
use Rattle.pid_space.proofs.Lease.holds.Goals as goal

pub returns-then-self-number : goal.returns-then-self-number
returns-then-self-number c =
    rw (← c.self.view_is) (
      λ below. range-contains c.self.inside.next c.self.inside.end c.args.number (omega arith)
          (grind (arith, nat_tests)),
      λ there. let between =
          range-contained c.self.inside.next c.self.inside.end c.args.number there in grind (arith, nat_tests),
    )

pub returns-else-self-number : goal.returns-else-self-number
returns-else-self-number c =
    rw (← c.self.view_is) (
      λ below. absurd (grind (arith, nat_tests)),
      λ there. let between =
          range-contained c.self.inside.next c.self.inside.end c.args.number there in absurd (omega arith),
    )
