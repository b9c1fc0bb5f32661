use Rattle.std.proofs.Common.{◌≡◌, true, nat_lt, ap, ◌∙◌, arith}
use Rattle.world_core.specs.Stream.{frames_of, has_second}
use Rattle.world_core.proofs.Streams.{length-frames, second-few, second-long}
use Rattle.world_core.proofs.stream.Stream.has_second.Goals as goal

pub returns-then-len-gt1 : goal.returns-then-len-gt1
returns-then-len-gt1 c =
    let front = c.self.inside.front.items in
    let back = c.self.inside.back.items in
    let yes : nat_lt 1 c.len.result ≡ true = grind (arith, c.if-len-gt1.true) in
    yes
    ∙ second-long (frames_of front back)
    (omega (arith, c.len.ensures, c.if-len-gt1.true, length-frames front back))
    ∙ ap has_second c.self.view_is

pub returns-else-len-gt1 : goal.returns-else-len-gt1
returns-else-len-gt1 c =
    second-few c.self.inside.front.items c.self.inside.back.items c.len-else-len-gt1-2.result
    c.len-else-len-gt1.result (omega (arith, c.len-else-len-gt1-2.ensures)) (omega (arith, c.len-else-len-gt1.ensures))
    (omega (arith, c.len.ensures, c.len-else-len-gt1-2.ensures, c.if-len-gt1.false))
    ∙ ap has_second c.self.view_is
