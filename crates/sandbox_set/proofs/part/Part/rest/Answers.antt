use Rattle.std.proofs.Common.{sym, ◌∙◌}
use Rattle.sandbox_set.proofs.Cuts.{closes_at}
use Rattle.sandbox_set.proofs.part.Part.rest.Goals as goal

pub returns-in-Some : goal.returns-in-Some
returns-in-Some c =
    closes_at c.args.self.now.behind.now c.in-Some.line.now c.in-Some.after.now c.in-Some.ensures.lines
    c.in-Some.ensures.behind c.in-Some.ensures.shorter (sym c.ends_sandbox.ensures ∙ c.if-ends_sandbox.true)
