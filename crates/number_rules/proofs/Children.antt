-- What a fork leaves of a node, and the child's deed as bytes.
use Rattle.std.proofs.Common.{◌≡◌, ◌∙◌, ℕ, List, Option, Some, sym, ap}
use Rattle.pico_base.specs.declared.numbers.Name.{Name}
use Rattle.pico_base.specs.declared.numbers.Name.TheVariants.{Proc}
use Rattle.rpc_frame.specs.declared.deed.PackedDeed.{PackedDeed}
use Rattle.deed_box.specs.Packing.{IsPackedDeed}
use Rattle.kernel_model.specs.Row as kernel
use Rattle.node_model.specs.Kinds.{Named, get_named, put_named}
use Rattle.node_model.specs.Bodies as model
use Rattle.node_model.specs.Serving.{parent_body}
use Rattle.node_model.specs.Spelling.{pack}
use Rattle.node_serve.specs.declared.body.Body.{Body}
use Rattle.node_serve.specs.Bodies.{bodies_of, body_of}
use Rattle.node_serve.specs.Read.{SpelledBodiesAreRead}
use Rattle.node_serve.specs.Spelled.{IsSpelled, suits}
use Rattle.node_serve.proofs.KernelLemmas.{bodies-get, bodies-put}
use Rattle.std.specs.Option.{option_map}
use Rattle.world_model.specs.Node.{Node}
use Rattle.number_rules.specs.Taking.{IsForked, IsForkedBody}

with_deeds : Node → model.Deeds → Node
with_deeds n deeds = record n { deeds = deeds }

-- the node's own process has forked, where its body has
pub forked-here : (n : Node) (bodies : Named Body) (was is : Body) (child : ℕ) (made : kernel.Row)
    → n.deeds ≡ bodies_of bodies → get_named bodies (Proc n.pid) ≡ Some was
    → IsForkedBody (body_of was) child (body_of is) made
    → IsForked n child (record n { deeds = bodies_of (put_named bodies (Proc n.pid) is) }) made
unfolding with_deeds
forked-here n bodies was is child made held there forked =
    record {
      row = forked.row;
      own =
          ap (λ (deeds : model.Deeds). model.row_of (get_named deeds (Proc n.pid))) held
          ∙ ap model.row_of (bodies-get bodies (Proc n.pid))
          ∙ ap (λ (b : Option Body). model.row_of (option_map body_of b)) there
          ∙ ap (λ (b : model.Body). model.row_of (Some b)) forked.lived;
      is = forked.is;
      after =
          ap (with_deeds n)
          (bodies-put bodies (Proc n.pid) is
          ∙ ap (put_named (bodies_of bodies) (Proc n.pid)) forked.after
          ∙ ap (λ (deeds : model.Deeds). put_named deeds (Proc n.pid) (parent_body forked.row child)) (sym held));
    }

deed_with : Name → List ℕ → PackedDeed
deed_with name body = record { name = name; body = body }

-- a deed that is spelled is the definition's
pub packed-as-defined : SpelledBodiesAreRead → (name : Name) (body : Body) (deed : PackedDeed)
    → IsPackedDeed suits IsSpelled (name, body) deed → deed ≡ pack name (body_of body)
unfolding deed_with
packed-as-defined reads name body deed is =
    ap (λ (n : Name). deed_with n deed.body) is.name
    ∙ ap (deed_with name) (reads name body deed.body is.suits is.body).written
