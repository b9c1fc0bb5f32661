use Rattle.std.proofs.Common.{◌≡◌, ℕ, nat_eq, cond, Some, ◌∙◌, sym, ap}
use Rattle.std.specs.FinMap as map
use Rattle.std.specs.Map.{lookup}
use Rattle.indexmap.specs.IndexMap.{get, Updates}
use Rattle.key_table.proofs.Views.{get-seen, view-bound}
use Rattle.key_table.specs.KeyMap.{is_bound_to}
use Rattle.key_table.proofs.Agreeing.{agree-bound}
use Rattle.key_table.proofs.Keys.bind.Goals as goal

held : (c : goal.After-unwrap) (q : ℕ) → map.get c.args.self.now q ≡ lookup (nat_eq q) c.self.inside.by_key.entries
held c = get-seen c.self.inside.by_key.entries c.args.self.now c.self.view_is

by_key : (c : goal.After-unwrap) (q : ℕ)
    → lookup (nat_eq q) c.insert-2.new.self.entries
    ≡ cond (nat_eq c.args.key q) (Some (record { id = c.args.id; count = c.args.count }))
    (lookup (nat_eq q) c.self.inside.by_key.entries)
by_key c q =
    let updates : Updates nat_eq c.reserve.new.self c.insert-2.new.self c.key.inside.0
    (Some (record { id = c.args.id; count = c.args.count })) = rw c.unwrap.ensures at c.insert-2.ensures.updates in
    rw (← c.key.view_is, ← c.reserve.ensures.entries) (updates.0 q)

key_of : (c : goal.After-unwrap) (i : ℕ)
    → lookup (nat_eq i) c.insert.new.self.entries
    ≡ cond (nat_eq c.args.id i) (Some c.args.key) (lookup (nat_eq i) c.self.inside.key_of.entries)
key_of c i = rw (← c.key.view_is, ← c.id.view_is) (c.in_ok-insert.ensures.updates.0 i)

pub invariant_of-self-2 : goal.invariant_of-self-2
invariant_of-self-2 c =
    agree-bound (get nat_eq c.self.inside.by_key) (get nat_eq c.insert-2.new.self) (get nat_eq c.self.inside.key_of)
    (get nat_eq c.insert.new.self) c.self.invariant
    c.args.key (record { id = c.args.id; count = c.args.count }) (sym (held c c.args.key) ∙ c.requires.unbound)
    (λ q there. c.requires.not_there (q, ap (is_bound_to c.args.id) (held c q) ∙ there)) (by_key c) (key_of c)

pub returns-clause-ok : goal.returns-clause-ok
returns-clause-ok c =
    view-bound c.self.inside.by_key.entries c.insert-2.new.self.entries c.args.key
    (record { id = c.args.id; count = c.args.count }) (by_key c)
    ∙ ap (λ m. map.insert m c.args.key (record { id = c.args.id; count = c.args.count })) c.self.view_is
