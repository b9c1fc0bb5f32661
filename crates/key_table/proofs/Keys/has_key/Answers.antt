use Rattle.std.proofs.Common.{◌≡◌, ◌↔◌, ℕ, nat_eq, is_some, IsTrue, refl, ◌∙◌, sym, ap}
use Rattle.std.specs.FinMap as map
use Rattle.indexmap.specs.IndexMap.{get}
use Rattle.key_table.specs.KeyMap.{is_bound_to}
use Rattle.key_table.proofs.Views.{get-seen}
use Rattle.key_table.proofs.Agreeing.{has_one}
use Rattle.key_table.proofs.Keys.has_key.Goals as goal

-- what a key is bound to, in the map and in the table
seen : (c : goal.After-contains_key) (q : ℕ)
    → is_bound_to c.args.id (map.get c.args.self.now q)
    ≡ is_bound_to c.args.id (get nat_eq c.self.inside.by_key q)
seen c q = ap (is_bound_to c.args.id) (get-seen c.self.inside.by_key.entries c.args.self.now c.self.view_is q)

pub returns : goal.returns
returns c =
    let id = c.args.id in
    let one = has_one (get nat_eq c.self.inside.by_key) (get nat_eq c.self.inside.key_of) c.self.invariant id
    (get nat_eq c.self.inside.key_of id) refl in
    let is : c.contains_key.result ≡ is_some (get nat_eq c.self.inside.key_of id) =
    c.contains_key.ensures ∙ ap (λ (k : ℕ). is_some (get nat_eq c.self.inside.key_of k)) c.id.view_is in (
      λ t. let k = one.0 (sym is ∙ t) in (k.0, seen c k.0 ∙ k.1),
      λ held. is ∙ one.1 (held.0, sym (seen c held.0) ∙ held.1),
    )
