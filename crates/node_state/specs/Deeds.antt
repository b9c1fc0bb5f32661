-- What becomes of a node that gets a deed, or gives one away.
use Rattle.std.specs.Prelude.{◌≡◌, Bool, true, false, Some, None}
use Rattle.pico_base.specs.declared.numbers.Name.{Name}
use Rattle.rpc_frame.specs.declared.deed.PackedDeed.{PackedDeed}
use Rattle.deed_box.specs.Packing.{IsPackedDeed}
use Rattle.node_model.specs.Kinds.{Named, get_named, without_named}
use Rattle.node_model.specs.Bodies.{Body}
use Rattle.node_model.specs.Spelling.{pack, read_deed}
use Rattle.node_serve.specs.declared.body.Body as held
use Rattle.node_serve.specs.Spelled.{IsSpelled, suits}
use Rattle.world_model.specs.Moves.{keep}
use Rattle.world_model.specs.Node.{Node}
use Rattle.world_model.specs.Serving.{without_deed}

-- the deed that has come is kept
pub record IsKept (old : Node) (deed : PackedDeed) (new : Node) : Type 0 where
  pub body : Body
  pub read : read_deed deed ≡ Some body
  pub after : new ≡ keep old deed.name body

-- it is kept, or its bytes spell no body that goes with its name
abbrev pub Keeps : Node → PackedDeed → Node → Bool → Type 0
Keeps old deed new true = IsKept old deed new
Keeps old deed new false = (read_deed deed ≡ None) × (new ≡ old)

-- the deed of the name was here, and this is it
pub record IsTaken (old : Node) (name : Name) (new : Node) (deed : PackedDeed) : Type 0 where
  pub body : Body
  pub held : get_named old.deeds name ≡ Some body
  pub packed : deed ≡ pack name body
  pub after : new ≡ without_deed old name

-- the deed of the name was among these bodies, and this is it
pub record IsTakenOut (old : Named held.Body) (name : Name) (new : Named held.Body) (deed : PackedDeed) : Type 0 where
  pub body : held.Body
  pub held : get_named old name ≡ Some body
  pub packed : IsPackedDeed suits IsSpelled (name, body) deed
  pub after : new ≡ without_named old name
