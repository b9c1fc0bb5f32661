use Rattle.std.proofs.Common.{◌≡◌, ap, sym, subst, ◌∙◌}
use Rattle.node_model.specs.Cache.{learn}
use Rattle.owner_cache.specs.Distinct.{IsWithin}
use Rattle.owner_cache.proofs.Owners.{learn_within, put_cap}
use Rattle.owner_cache.proofs.NameTests.{tests_same}
use Rattle.owner_cache.proofs.Cache.put.Goals as goal

learned : (c : goal.In_ok-put) → c.put.new.self.entries ≡ learn c.self.inside.owners.entries c.args.name.now c.args.node
learned c =
    let entries = c.in_ok-put.ensures.entries in
    ap (λ l. l.entries) entries
    ∙ put_cap c.args.name.now _
    (tests_same c.args.name.now) c.self.inside.owners.entries c.self.inside.owners.cap c.args.node c.self.invariant

pub invariant_of-self-2 : goal.invariant_of-self-2
invariant_of-self-2 c =
    let es = c.self.inside.owners.entries in
    let places : c.put.new.self.cap ≡ c.self.inside.owners.cap = ap (λ l. l.cap) c.in_ok-put.ensures.entries in
    subst (λ xs. IsWithin xs c.put.new.self.cap) (sym (learned c))
    (subst (λ k. IsWithin (learn es c.args.name.now c.args.node) k) (sym places)
    (learn_within es c.self.inside.owners.cap c.args.name.now c.args.node c.self.invariant))

pub returns-clause-ok : goal.returns-clause-ok
returns-clause-ok c = learned c ∙ ap (λ es. learn es c.args.name.now c.args.node) c.self.view_is
