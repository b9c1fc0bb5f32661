use Rattle.std.proofs.Common.{◌≡◌, true, nat_lt, ap, ◌∙◌, arith}
use Rattle.world_core.specs.Inbox.{is_filled}
use Rattle.world_core.specs.Stream.{frames_of}
use Rattle.world_core.proofs.Streams.{length-frames, filled-long}
use Rattle.world_core.proofs.stream.Stream.is_filled.Goals as goal

pub returns-then-len-gt0 : goal.returns-then-len-gt0
returns-then-len-gt0 c =
    let front = c.self.inside.front.items in
    let back = c.self.inside.back.items in
    let yes : nat_lt 0 c.len.result ≡ true = grind (arith, c.if-len-gt0.true) in
    yes
    ∙ filled-long (frames_of front back)
    (omega (arith, c.len.ensures, c.if-len-gt0.true, length-frames front back))
    ∙ ap is_filled c.self.view_is
