use Rattle.std.proofs.Common.{◌≡◌, ℕ, ℤ, List, [], ◌∷◌, ◌++◌, sym, ap, ◌∙◌}
use Rattle.std.proofs.lemmas.Int.{to_z-of_z}
use Rattle.index_links.specs.Chains.{walk}
use Rattle.index_links.specs.Keys.{class_of, key_of}
use Rattle.index_links.specs.Nodes.{Node}
use Rattle.index_links.proofs.Classes.{class_of-key_of}
use Rattle.index_links.proofs.links.Links.push_reserved.Goals as goal

-- a push's node, of a class
abbrev node_of : {V : Type 0} → ℕ → V → ℤ → Node V
node_of slot value class = record { slot = slot; class = class; value = value }

pub add-requires-clause-fits : goal.add-requires-clause-fits
add-requires-clause-fits g c =
    let fits = c.ranges.class in
    let key : c.key_of.result ≡ key_of c.args.class = simp to_z-of_z at c.key_of.ensures in
    rw key (ap key_of (sym (class_of-key_of c.args.class fits)))

pub returns : goal.returns
returns g c =
    let fits = c.ranges.class in
    let key : c.key_of.result ≡ key_of c.args.class = simp to_z-of_z at c.key_of.ensures in
    let class : class_of c.key_of.result ≡ c.args.class = ap class_of key ∙ class_of-key_of c.args.class fits in
    let old : List (Node g.row.T.Denot) =
    walk c.self.inside.kept.len c.self.inside.kept.places.items c.self.inside.kept.ends.next in
    let n : ℤ → Node g.row.T.Denot = node_of c.add.result c.args.value in
    rw (← c.self.view_is)
    (record {
      new = c.add.ensures.new;
      nodes = c.add.ensures.nodes ∙ ap (λ (z : ℤ). old ++ n z ∷ []) class;
      spare = c.add.ensures.room;
    })
