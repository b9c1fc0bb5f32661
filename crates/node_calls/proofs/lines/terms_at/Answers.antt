use Rattle.std.proofs.Common.{ℕ, ◌+◌, ◌∙◌, length, refl, ap}
use Rattle.node_calls.proofs.LineLemmas.{reached-written, reached-implied, implied-last, written-there}
use Rattle.node_calls.proofs.lines.terms_at.Goals as goal

pub returns-in-Some-clause-terms : goal.returns-in-Some-clause-terms
returns-in-Some-clause-terms c =
    rw (reached-written c.args.script.now c.args.node c.args.line c.in-Some.written.now
    (written-there _ _ _ _ c.in-Some.ensures c.written_lines-lines.ensures) c.requires) (refl, refl)

pub returns-in-None-clause-terms : goal.returns-in-None-clause-terms
returns-in-None-clause-terms c =
    rw (reached-implied c.args.script.now c.args.node c.args.line
    (written-there _ _ _ _ c.in-None.ensures c.written_lines-lines.ensures) c.requires)
    (refl, refl)

pub returns-in-None-clause-next : goal.returns-in-None-clause-next
returns-in-None-clause-next c =
    ap (λ (n : ℕ). n + 1) (ap length c.written_lines-lines.ensures
    ∙ implied-last c.args.script.now c.args.node c.args.line
    (written-there _ _ _ _ c.in-None.ensures c.written_lines-lines.ensures) c.requires)
