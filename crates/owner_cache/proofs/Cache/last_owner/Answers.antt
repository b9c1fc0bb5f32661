use Rattle.std.proofs.Common.{◌≡◌, ℕ, true, sym, ◌∙◌}
use Rattle.pico_base.specs.declared.numbers.Name.{Name}
use Rattle.node_model.specs.Kinds.{is_same_name}
use Rattle.owner_cache.proofs.NameTests.{tests_same}
use Rattle.owner_cache.proofs.Owners.{learn_last, look_last, owner_last}
use Rattle.owner_cache.proofs.Cache.last_owner.Goals as goal

pub returns-then-eq-clause-owner : goal.returns-then-eq-clause-owner
returns-then-eq-clause-owner c =
    let first : Name × ℕ = (c.in_ok-last.last.now, c.in_ok-last.node.now) in
    let same : is_same_name c.in_ok-last.last.now c.args.name.now ≡ true =
    sym (tests_same c.in_ok-last.last.now c.args.name.now) ∙ sym c.if-eq.ensures in
    rw (← c.self.view_is)
    (owner_last c.self.inside.owners.entries c.args.name.now first c.in_ok-last.ensures same)

pub returns-then-eq-clause-used : goal.returns-then-eq-clause-used
returns-then-eq-clause-used c _ =
    let first : Name × ℕ = (c.in_ok-last.last.now, c.in_ok-last.node.now) in
    let same : is_same_name c.in_ok-last.last.now c.args.name.now ≡ true =
    sym (tests_same c.in_ok-last.last.now c.args.name.now) ∙ sym c.if-eq.ensures in
    rw (← c.self.view_is)
    (look_last c.self.inside.owners.entries c.args.name.now first c.in_ok-last.ensures same c.self.invariant.once)

pub returns-then-eq-clause-known : goal.returns-then-eq-clause-known
returns-then-eq-clause-known c =
    let first : Name × ℕ = (c.in_ok-last.last.now, c.in_ok-last.node.now) in
    let same : is_same_name c.in_ok-last.last.now c.args.name.now ≡ true =
    sym (tests_same c.in_ok-last.last.now c.args.name.now) ∙ sym c.if-eq.ensures in
    rw (← c.self.view_is)
    (learn_last c.self.inside.owners.entries c.args.name.now first c.in_ok-last.ensures same c.self.invariant.size
    c.self.invariant.once)
