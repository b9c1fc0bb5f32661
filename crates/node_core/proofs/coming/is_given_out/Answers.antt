-- A parcel's deeds by their names.
use Rattle.std.proofs.Common.{◌≡◌, ◌∙◌, not, ap, subst, sym}
use Rattle.rpc_frame.specs.declared.frame.Frame.{Frame}
use Rattle.node_model.specs.Leases.{leases_hold}
use Rattle.world_model.specs.Node.{Node}
use Rattle.world_model.specs.Turn.{is_given_out}
use Rattle.node_state.specs.State.{node_of}
use Rattle.end_rules.proofs.Takes.{any-name}
use Rattle.node_core.proofs.coming.is_given_out.Goals as goal

pub returns-in-Left : goal.returns-in-Left
returns-in-Left c =
    let n : Node = node_of c.args.node.now
    in subst (λ (f : Frame). not c.hold_any.result ≡ is_given_out n f) (sym c.in-Left.is)
    (ap not (c.hold_any.ensures ∙ sym (any-name (leases_hold n.leases) c.in-Left.parcel.deeds)))
