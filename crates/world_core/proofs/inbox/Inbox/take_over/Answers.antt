use Rattle.std.proofs.Common.{length, sym, ap, ◌∙◌, arith}
use Rattle.std.proofs.lemmas.List.{length-map}
use Rattle.world_core.specs.Stream.{frame_of}
use Rattle.world_core.proofs.Masks.{marked-filled}
use Rattle.world_core.proofs.Streams.{filled-long}
use Rattle.world_core.proofs.inbox.Inbox.take_over.Goals as goal

pub invariant_of-self : goal.invariant_of-self
invariant_of-self c =
    marked-filled c.self.inside.filled c.self.inside.streams.items c.place-at.result c.take_over.new.self
    c.self.invariant (omega (arith, ap length c.self.view_is))
    (sym (filled-long c.take_over.new.self
    (let e = ap length c.take_over.ensures.taken ∙ length-map c.args.sends.now.items frame_of in
    omega (arith, c.requires.one))))
