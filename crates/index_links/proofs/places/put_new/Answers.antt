use Rattle.std.proofs.Common.{◌≡◌, ◌<◌, ℕ, List, [], ◌∷◌, ◌++◌, length, sym, ap, subst, ◌∙◌}
use Rattle.index_links.specs.declared.places.Place.{Place}
use Rattle.index_links.specs.Chains.{IsFree, IsPlaced, fresh}
use Rattle.index_links.proofs.Placed.{placed_at, placed_behind, free_behind}
use Rattle.index_links.proofs.places.put_new.Goals as goal

pub returns-in-Some-clause-free : goal.returns-in-Some-clause-free
returns-in-Some-clause-free g c =
    subst (λ (places : List (Place g.row.T.Denot)). IsFree places c.args.free.now) c.deref.ensures.value
    c.in-Some.ensures.1

pub returns-in-Some-clause-placed : goal.returns-in-Some-clause-placed
returns-in-Some-clause-placed g c =
    let within : c.args.free.now < length c.args.places.now.items =
    subst (λ (places : List (Place g.row.T.Denot)). c.args.free.now < length places) c.deref.ensures.value
    c.in-Some.ensures.0 in
    placed_at c.args.places.now.items c.args.free.now (fresh c.args.key c.args.value) within

pub returns-in-None-clause-free : goal.returns-in-None-clause-free
returns-in-None-clause-free g c =
    let end : c.len-at.result ≡ length c.args.places.now.items =
    c.len-at.ensures ∙ (sym c.deref.ensures.len ∙ ap
    (λ (places : List (Place g.row.T.Denot)). length places) c.deref.ensures.value) in
    subst (λ (at : ℕ). IsFree c.args.places.now.items at) (sym end) (free_behind c.args.places.now.items)

pub returns-in-None-clause-placed : goal.returns-in-None-clause-placed
returns-in-None-clause-placed g c =
    let end : c.len-at.result ≡ length c.args.places.now.items =
    c.len-at.ensures ∙ (sym c.deref.ensures.len ∙ ap
    (λ (places : List (Place g.row.T.Denot)). length places) c.deref.ensures.value) in
    subst (λ (places : List (Place g.row.T.Denot)). IsPlaced c.len-at.result
    (fresh c.args.key c.args.value) c.args.places.now.items places)
    (sym c.push_reserved.ensures.items)
    (subst
    (λ (at : ℕ). IsPlaced at (fresh c.args.key c.args.value) c.args.places.now.items
    (c.args.places.now.items ++ fresh c.args.key c.args.value ∷ []))
    (sym end) (placed_behind c.args.places.now.items (fresh c.args.key c.args.value)))
