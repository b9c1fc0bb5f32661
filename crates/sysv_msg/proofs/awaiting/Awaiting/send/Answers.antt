use Rattle.std.proofs.Common.{refl, sym}
use Rattle.std.proofs.lemmas.Int.{to_z-of_z}
use Rattle.sysv_msg.proofs.awaiting.Awaiting.send.Goals as goal

pub returns-in-Some-clause-refused : goal.returns-in-Some-clause-refused
returns-in-Some-clause-refused c =
    let range = c.ranges.class in
    let told = simp to_z-of_z at c.in-Some.ensures in
    rw (← c.self.view_is) (told c.args.pid c.args.text (sym c.len.ensures))

pub returns-then-is_err-clause-refused : goal.returns-then-is_err-clause-refused
returns-then-is_err-clause-refused c =
    let range = c.ranges.class in
    let told = simp to_z-of_z at c.in_default.ensures in
    rw (← c.self.view_is) (refl, told c.args.pid c.args.text (sym c.len.ensures))
