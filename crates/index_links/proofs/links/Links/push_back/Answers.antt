use Rattle.std.proofs.Common.{◌≡◌, ◌≤◌, ◌+◌, ℕ, ℤ, List, [], ◌∷◌, ◌++◌, None, is_ok, true, false, refl, sym, ap, subst, ◌∙◌, arith}
use Rattle.std.proofs.lemmas.Int.{to_z-of_z}
use Rattle.index_links.specs.Chains.{walk}
use Rattle.index_links.specs.Keys.{class_of, key_of}
use Rattle.index_links.specs.Nodes.{Node, node_at}
use Rattle.index_links.proofs.Classes.{class_of-key_of}
use Rattle.index_links.proofs.links.Links.push_back.Goals as goal

-- a push's node, of a class
abbrev node_of : {V : Type 0} → ℕ → V → ℤ → Node V
node_of slot value class = record { slot = slot; class = class; value = value }

through : (a b c : ℕ) → a ≤ b → b ≤ c + 1 → a ≤ c + 1
through a b c h i = omega arith

more : (a b : ℕ) → a ≤ b → a ≤ b + 1
more a b h = omega arith

pub add-requires-clause-fits : goal.add-requires-clause-fits
add-requires-clause-fits g c =
    let fits = c.ranges.class in
    let key : c.key_of.result ≡ key_of c.args.class = simp to_z-of_z at c.key_of.ensures in
    rw key (ap key_of (sym (class_of-key_of c.args.class fits)))

pub returns-in-Ok : goal.returns-in-Ok
returns-in-Ok g c =
    let fits = c.ranges.class in
    let key : c.key_of.result ≡ key_of c.args.class = simp to_z-of_z at c.key_of.ensures in
    let class : class_of c.key_of.result ≡ c.args.class = ap class_of key ∙ class_of-key_of c.args.class fits in
    let old : List (Node g.row.T.Denot) =
    walk c.self.inside.kept.len c.self.inside.kept.places.items c.self.inside.kept.ends.next in
    let n : ℤ → Node g.row.T.Denot = node_of c.add.result c.args.value in
    rw (← c.self.view_is)
    (record {
      pushed = (
        subst (λ (ns : List (Node g.row.T.Denot)). node_at c.add.result ns ≡ None) c.reserve.ensures.nodes
            c.add.ensures.new,
        c.add.ensures.nodes
            ∙ (ap (λ (ns : List (Node g.row.T.Denot)). ns ++ n (class_of c.key_of.result) ∷ []) c.reserve.ensures.nodes
            ∙ ap (λ (z : ℤ). old ++ n z ∷ []) class),
      );
      given_back = tt;
      err = tt;
      there = λ some. refl;
      spare = through _ _ _ c.reserve.ensures.room c.add.ensures.room;
    })

pub returns-in-Err : goal.returns-in-Err
returns-in-Err g c =
    let refused : is_ok c.reserve.result ≡ false = ap is_ok c.in-Err.is in
    rw (← c.self.view_is)
    (record {
      pushed = tt;
      given_back = refl;
      err = c.reserve.ensures.nodes;
      there = λ some. let clash : false ≡ true = sym refused ∙ c.reserve.ensures.there some in absurd (cc);
      spare = more _ _ c.reserve.ensures.room;
    })
