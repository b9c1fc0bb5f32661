-- A body's bytes, by the definitions of writing and of reading a deed.
use Rattle.std.specs.Prelude.{◌≡◌, ℕ, ◌<◌, List, Some, IsTrue, slice_index}
use Rattle.pico_base.specs.declared.numbers.Name.{Name}
use Rattle.node_model.specs.Bodies as model
use Rattle.node_model.specs.Spelling.{body_bytes, read_body}
use Rattle.node_serve.specs.declared.body.Body.{Body}
use Rattle.node_serve.specs.Bodies.{body_of}
use Rattle.node_serve.specs.Spelled.{IsSpelled, suits}

-- a body that goes with the name and is spelled by the bytes
pub record IsReadAs (name : Name) (bytes : List ℕ) (body : model.Body) : Type 0 where
  pub held : Body
  pub is : body_of held ≡ body
  pub goes : IsTrue (suits held name)
  pub spelled : IsSpelled held bytes

-- Bytes that are read as a body spell it.
abbrev pub ReadBodiesAreSpelled : Type 0
ReadBodiesAreSpelled =
    (name : Name) (bytes : List ℕ) (body : model.Body) → ((place : ℕ) → slice_index bytes place < 256)
    → read_body name bytes ≡ Some body → IsReadAs name bytes body

-- the bytes that are written of a body, and read as it under the name
pub record IsWritten (name : Name) (body : Body) (bytes : List ℕ) : Type 0 where
  pub written : bytes ≡ body_bytes (body_of body)
  pub read : read_body name bytes ≡ Some (body_of body)

-- Bytes that spell a body are those that are written of it, and are read as it.
abbrev pub SpelledBodiesAreRead : Type 0
SpelledBodiesAreRead =
    (name : Name) (body : Body) (bytes : List ℕ) → IsTrue (suits body name) → IsSpelled body bytes
    → IsWritten name body bytes
