-- What contracts see of links, from what is kept of them.
use Rattle.std.proofs.Common.{◌≡◌, ℕ, List, sym, ap, ◌∙◌}
use Rattle.number_maps.specs.Maps.{Numbered}
use Rattle.index_links.specs.declared.places.Link.{Link}
use Rattle.index_links.specs.declared.places.Place.{Place}
use Rattle.index_links.specs.Chains.{IsKept, walk}
use Rattle.index_links.specs.Nodes.{Node, Listed}
use Rattle.index_links.proofs.Views.{view_is}

module _ {V : Type 0} where
  abbrev pub listed : List (Node V) → ℕ → Listed V
  listed nodes spare = record { nodes = nodes; spare = spare }

  -- the nodes that are kept are those that are seen
  pub seen : (places : List (Place V)) (rows : Numbered Link) (ends : Link) (len spare : ℕ) (now : Listed V)
      → (k : IsKept places rows ends len) → listed (walk len places ends.next) spare ≡ now
      → k.nodes ≡ now.nodes
  seen places rows ends len spare now k is =
      sym (view_is places rows ends len k) ∙ ap (λ (l : Listed V). l.nodes) is
