use Rattle.std.proofs.Common.{◌≡◌, ℕ, is_some, refl, ap, sym, ◌∙◌}
use Rattle.pico_base.specs.declared.numbers.Kind.{Kind}
use Rattle.pico_base.specs.declared.numbers.Kind.TheVariants.{Proc, Msg, Sem}
use Rattle.number_maps.specs.Maps.{get}
use Rattle.node_model.specs.Directory.{is_known}
use Rattle.node_model.specs.Kinds.{Named, for_kind, get_named, name_of}
use Rattle.lease_leader.proofs.Changes.{known, none-some}
use Rattle.lease_leader.proofs.directory.Directory.is_past.Goals as goal

at-kind : {V : Type 0} (m : Named V) (kind : Kind) (q : ℕ) → get_named m (name_of kind q) ≡ get (for_kind m kind) q
at-kind m Proc q = refl
at-kind m Msg q = refl
at-kind m Sem q = refl

-- a name is known where a spot is kept of it
kept : (c : goal.After-are_below) (q : ℕ)
    → is_known c.args.self.now (name_of c.args.kind q) ≡ is_some (get (for_kind c.self.inside.spots c.args.kind) q)
kept c q =
    let d = c.self.inside in let name = name_of c.args.kind q in
    ap (λ e. is_known e name) (sym c.self.view_is) ∙ known d.partings d.spots d.ranges name
    ∙ ap is_some (at-kind d.spots c.args.kind q)

pub returns : goal.returns
returns c = (
  λ below q le. kept c q ∙ ap is_some (c.are_below.ensures.0 below q le),
  λ unknown. c.are_below.ensures.1 (λ q le. none-some _ (sym (kept c q) ∙ unknown q le)),
)
