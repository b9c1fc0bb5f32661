use Rattle.std.proofs.Common.{ℕ, List, [], ◌∷◌, ◌++◌, ap, ◌∙◌}
use Rattle.node_model.specs.Kinds.{PerKind, for_kind, with_kind}
use Rattle.lease_leader.proofs.RangeLemmas.{next-range}
use Rattle.lease_leader.proofs.directory.Directory.next_range.Goals as goal

pub returns-clause-apart : goal.returns-clause-apart
returns-clause-apart c =
    let kind = c.args.kind in
    next-range c.args.self.now.ranges c.give.new.self kind c.args.node
    (c.in_ok-give.ensures.ok
    ∙ ap (λ (r : PerKind (List ℕ)). with_kind r kind (for_kind r kind ++ c.args.node ∷ []))
    (ap (λ d. d.ranges) c.self.view_is))
