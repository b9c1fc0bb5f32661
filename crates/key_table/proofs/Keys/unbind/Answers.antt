use Rattle.std.proofs.Common.{◌≡◌, ℕ, Bool, nat_eq, cond, false, Some, None, refl, ◌∙◌, sym, ap}
use Rattle.std.proofs.lemmas.Bool.{false≢true}
use Rattle.std.specs.Map.{lookup}
use Rattle.indexmap.specs.IndexMap.{get}
use Rattle.key_table.specs.KeyMap.{KeyMap, is_bound_to, without_id}
use Rattle.key_table.proofs.Views.{Binds-without_id, get-seen, view-without}
use Rattle.key_table.proofs.Agreeing.{agree-unbound, alone, nobody}
use Rattle.key_table.proofs.Keys.unbind.Goals as goal

-- the identifier has no key
none : (c : goal.In-None) → lookup (nat_eq c.args.id) c.self.inside.key_of.entries ≡ None
none c = rw (← c.id.view_is) (sym c.in-None.ensures.value)

-- so no key is bound to it
unheld : (c : goal.In-None) (q : ℕ) → false ≡ is_bound_to c.args.id (get nat_eq c.self.inside.by_key q)
unheld c = nobody (get nat_eq c.self.inside.by_key) (get nat_eq c.self.inside.key_of) c.self.invariant c.args.id
    (none c)

pub returns-in-None-clause-bound : goal.returns-in-None-clause-bound
returns-in-None-clause-bound c = (
  λ never. absurd (false≢true never),
  λ held. unheld c held.0
      ∙ ap (is_bound_to c.args.id) (sym (get-seen c.self.inside.by_key.entries c.args.self.now c.self.view_is held.0))
      ∙ held.1,
)

pub returns-in-None-clause-unbound : goal.returns-in-None-clause-unbound
returns-in-None-clause-unbound c =
    view-without c.self.inside.by_key.entries c.self.inside.by_key.entries c.args.id
    (λ q. ap (λ (t : Bool). cond t None (get nat_eq c.self.inside.by_key q)) (unheld c q))
    ∙ ap (λ (m : KeyMap). without_id m c.args.id) c.self.view_is

-- the identifier's key
was : (c : goal.After-swap_remove-in-Some) → lookup (nat_eq c.args.id) c.self.inside.key_of.entries ≡ Some c.in-Some.key
was c = rw (← c.id.view_is) (sym c.in-Some.ensures.value)

pub invariant_of-self-in-Some : goal.invariant_of-self-in-Some
invariant_of-self-in-Some c =
    agree-unbound (get nat_eq c.self.inside.by_key) (get nat_eq c.swap_remove-in-Some.new.self)
    (get nat_eq c.self.inside.key_of) (get nat_eq c.swap_remove.new.self) c.self.invariant
    c.in-Some.key c.args.id (was c) c.swap_remove-in-Some.ensures.updates.0
    (rw (← c.id.view_is) c.in-Some.ensures.updates.0)

pub returns-in-Some-clause-bound : goal.returns-in-Some-clause-bound
returns-in-Some-clause-bound c = (
  λ _. (
    c.in-Some.key,
    ap (is_bound_to c.args.id)
        (get-seen c.self.inside.by_key.entries c.args.self.now c.self.view_is c.in-Some.key)
        ∙ (c.self.invariant c.args.id c.in-Some.key).1 (was c),
  ),
  λ _. refl,
)

pub returns-in-Some-clause-unbound : goal.returns-in-Some-clause-unbound
returns-in-Some-clause-unbound c =
    view-without c.self.inside.by_key.entries c.swap_remove-in-Some.new.self.entries c.args.id
    (λ q. c.swap_remove-in-Some.ensures.updates.0 q
    ∙ ap (λ (t : Bool). cond t None (get nat_eq c.self.inside.by_key q))
    (alone (get nat_eq c.self.inside.by_key)
    (get nat_eq c.self.inside.key_of) c.self.invariant c.in-Some.key c.args.id (was c) q))
    ∙ ap (λ (m : KeyMap). without_id m c.args.id) c.self.view_is

pub returns-in-None-clause-gone : goal.returns-in-None-clause-gone
returns-in-None-clause-gone c = rw (returns-in-None-clause-unbound c) (Binds-without_id c.args.self.now c.args.id)

pub returns-in-Some-clause-gone : goal.returns-in-Some-clause-gone
returns-in-Some-clause-gone c = rw (returns-in-Some-clause-unbound c) (Binds-without_id c.args.self.now c.args.id)
