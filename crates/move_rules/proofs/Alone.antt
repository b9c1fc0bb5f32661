-- A deed at which nobody waits, and that goes on unread, comes back as the machine's rule says.
use Rattle.std.proofs.Common.{◌≡◌, ◌∙◌, ℕ, Bool, true, false, List, Some, ap, subst, sym}
use Rattle.std.specs.Bool.{OnTrue}
use Rattle.std.specs.List.{list_all}
use Rattle.std.specs.Option.{option_and_then}
use Rattle.pico_base.specs.declared.script.Script.{Script}
use Rattle.node_model.specs.Directory.{arrive, bound_for, held_for}
use Rattle.node_model.specs.Spelling.{read_deed}
use Rattle.node_serve.specs.Bodies.{body_of}
use Rattle.node_serve.specs.Spelled as spelled
use Rattle.node_serve.specs.Spelled.{IsSpelled}
use Rattle.rpc_frame.specs.declared.deed.PackedDeed.{PackedDeed}
use Rattle.rpc_frame.specs.declared.frame.Frame.TheVariants as frames
use Rattle.world_model.specs.Moves.{come_back, goes_on_to, has_nodes}
use Rattle.world_model.specs.Node.{Node, is_node}
use Rattle.world_model.specs.Releases.{release}
use Rattle.world_model.specs.Step.{Step, send, step_to, with_directory}
use Rattle.move_rules.specs.Coming.{IsUnawaited, come_unread}
use Rattle.move_rules.proofs.Spelt.{spelled-comes}

-- whoever waits there has a node where nobody waits
alone-nodes : (script : Script) (deed : PackedDeed) (u : IsUnawaited deed) → has_nodes script (body_of u.body) ≡ true
alone-nodes script deed u = ap (list_all (λ w. is_node script w.caller)) u.nobody

-- bytes of a body at which nobody waits are read as it
pub comes-alone : (yes : Bool) (deed : PackedDeed) (bytes : List ℕ) → bytes ≡ deed.body
    → OnTrue yes (spelled.IsUnawaited deed.name bytes) → OnTrue yes (IsUnawaited deed)
comes-alone false deed bytes same u = tt
comes-alone true deed bytes same u =
    record {
      body = u.body;
      is =
          spelled-comes deed.name deed.body u.body u.suits_name
          (subst (λ (written : List ℕ). IsSpelled u.body written) same u.spelled);
      nobody = u.nobody;
    }

-- what is done unread is what is done with what is read
pub comes-unread : (script : Script) (n : Node) (deed : PackedDeed) (to : ℕ) (s : Step) → IsUnawaited deed
    → goes_on_to n.leader.directory (bound_for n.leader.directory deed.name) ≡ Some to
    → come_unread script n deed to ≡ Some s
    → option_and_then (come_back script n deed.name) (read_deed deed) ≡ Some s
comes-unread script n deed to s u goes released =
    ap (option_and_then (come_back script n deed.name)) u.is.read
    ∙ rw (alone-nodes script deed u, goes)
    (ap (λ (d : PackedDeed). release script (held_for n.leader.directory deed.name)
    (send (step_to (with_directory n (arrive n.leader.directory deed.name to))) to (frames.Grant d)))
    (sym u.is.packed) ∙ released)
