-- A deed that comes, and its bytes.
use Rattle.std.specs.Prelude.{◌≡◌, ℕ, List, [], Option, Some, None}
use Rattle.pico_base.specs.declared.numbers.Name.{Name}
use Rattle.pico_base.specs.declared.script.Script.{Script}
use Rattle.rpc_frame.specs.declared.deed.PackedDeed.{PackedDeed}
use Rattle.rpc_frame.specs.declared.frame.Frame.TheVariants as frames
use Rattle.node_model.specs.Bodies.{Body, waiters_of}
use Rattle.node_model.specs.Directory.{arrive, held_for}
use Rattle.node_model.specs.Spelling.{pack, read_deed}
use Rattle.node_serve.specs.declared.body.Body as held
use Rattle.node_serve.specs.Bodies.{body_of}
use Rattle.world_model.specs.Node.{Node}
use Rattle.world_model.specs.Step.{Step, send, step_to, with_directory, with_node}
use Rattle.world_model.specs.Moves.{keep}
use Rattle.world_model.specs.Releases.{release}

-- its bytes are those that are written of this body, which goes with its name
pub record IsDeed (deed : PackedDeed) (body : held.Body) : Type 0 where
  pub read : read_deed deed ≡ Some (body_of body)
  pub packed : deed ≡ pack deed.name (body_of body)

-- they are, or they are read as no body
abbrev pub TellsDeed : PackedDeed → Option held.Body → Type 0
TellsDeed deed (Some body) = IsDeed deed body
TellsDeed deed None = read_deed deed ≡ None

-- it is read as a body at which nobody waits
pub record IsUnawaited (deed : PackedDeed) : Type 0 where
  pub body : held.Body
  pub is : IsDeed deed body
  pub nobody : waiters_of (body_of body) ≡ []

-- a deed with these bytes
abbrev pub deed_of : Name → List ℕ → PackedDeed
deed_of name bytes = record { name = name; body = bytes }

-- it is sent on to this node, or held here
abbrev pub sent_on : Step → Name → Option ℕ → Body → Step
sent_on step name None body = with_node step (keep step.node name body)
sent_on step name (Some to) body = send step to (frames.Grant (pack name body))

-- it goes on to this node with the bytes that it has
abbrev pub passed_unread : Node → PackedDeed → ℕ → Step
passed_unread n deed to =
    send (step_to (with_directory n (arrive n.leader.directory deed.name to))) to (frames.Grant deed)

-- and what was held for its name is released
abbrev pub come_unread : Script → Node → PackedDeed → ℕ → Option Step
come_unread script n deed to = release script (held_for n.leader.directory deed.name) (passed_unread n deed to)
