-- Bytes that come as a deed: those of a body, or of none.
use Rattle.std.proofs.Common.{◌≡◌, ℕ, ◌<◌, List, Option, Some, None, IsTrue, refl, ap, slice_index}
use Rattle.pico_base.specs.declared.numbers.Name.{Name}
use Rattle.node_model.specs.Bodies as model
use Rattle.node_model.specs.Spelling.{read_body, read_deed}
use Rattle.node_serve.specs.declared.body.Body.{Body}
use Rattle.node_serve.specs.Bodies.{body_of}
use Rattle.node_serve.specs.Spelled.{IsSpelled, suits}
use Rattle.node_serve.proofs.ReadTaken.{read-spelled, spelled-read}
use Rattle.move_rules.specs.Coming.{IsDeed, deed_of}

-- bytes that spell a body are those that are written of it
pub spelled-comes : (name : Name) (bytes : List ℕ) (body : Body) → IsTrue (suits body name) → IsSpelled body bytes
    → IsDeed (deed_of name bytes) body
unfolding read_deed
spelled-comes name bytes body goes spelled =
    let w = spelled-read name body bytes goes spelled
    in record { read = w.read; packed = ap (deed_of name) w.written }

-- and are read as it
pub spelled-is-read : (name : Name) (bytes : List ℕ) (body : Body) → IsTrue (suits body name) → IsSpelled body bytes
    → read_deed (deed_of name bytes) ≡ Some (body_of body)
unfolding read_deed
spelled-is-read name bytes body goes spelled = (spelled-read name body bytes goes spelled).read

-- bytes that spell none are read as none
pub unspelled-is-none : (name : Name) (bytes : List ℕ) → ((place : ℕ) → slice_index bytes place < 256)
    → ((body : Body) → IsTrue (suits body name) → IsSpelled body bytes → ⊥)
    → read_deed (deed_of name bytes) ≡ None
unfolding read_deed
unspelled-is-none name bytes fits never = by_read (read_body name bytes) refl
  where
    by_read : (body : Option model.Body) → read_body name bytes ≡ body → body ≡ None
    by_read None is = refl
    by_read (Some body) is =
        let r = read-spelled name bytes body fits is
        in absurd (never r.held r.goes r.spelled)
