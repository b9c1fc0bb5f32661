-- What is held, as the machine's node holds it.
use Rattle.std.proofs.Common.{◌≡◌, ◌∙◌, ℕ, ◌<◌, Bool, true, false, not, nat_eq, cond, List, [], ◌∷◌, get_or, Option, Some, None, is_some, IsTrue, refl, ap, sym}
use Rattle.std.specs.Option.{option_map}
use Rattle.pico_base.specs.declared.numbers.Name.{Name}
use Rattle.pico_base.specs.declared.numbers.Name.TheVariants.{Proc, Msg, Sem}
use Rattle.number_maps.specs.Maps.{Numbered, without}
use Rattle.number_maps.proofs.LookUps.{get-without-same}
use Rattle.rpc_frame.specs.declared.deed.PackedDeed.{PackedDeed}
use Rattle.deed_box.specs.Packing.{IsPackedDeed}
use Rattle.node_model.specs.Kinds.{Named, get_named, without_named}
use Rattle.node_model.specs.Spelling.{pack, read_body, read_deed}
use Rattle.node_model.specs.Bodies as model
use Rattle.world_model.specs.Routes.{was_removed}
use Rattle.node_serve.specs.declared.body.Body.{Body}
use Rattle.node_serve.specs.Bodies.{bodies_of, body_of, numbered_of}
use Rattle.node_serve.specs.Spelled.{IsSpelled, suits}
use Rattle.node_serve.proofs.Reading.{body-written}
use Rattle.node_serve.proofs.ReadTaken.{read-spelled}
use Rattle.node_serve.proofs.KernelLemmas.{bodies-get}

there-by : (body : Option Body) → is_some (option_map body_of body) ≡ is_some body
there-by None = refl
there-by (Some body) = refl

-- a name that has a body has one in the machine's node
pub there-as-held : (bodies : Named Body) (name : Name)
    → is_some (get_named (bodies_of bodies) name) ≡ is_some (get_named bodies name)
there-as-held bodies name = ap is_some (bodies-get bodies name) ∙ there-by (get_named bodies name)

-- the row in a body, where that is of a process that lives
pub row-there : (bodies : Named Body) (name : Name) (body : Option Body) → body ≡ get_named bodies name
    → model.row_of (get_named (bodies_of bodies) name) ≡ model.row_of (option_map body_of body)
row-there bodies name body is =
    ap model.row_of (bodies-get bodies name) ∙ ap (λ (b : Option Body). model.row_of (option_map body_of b)) (sym is)

-- whether a name's body was removed
pub removed-there : (bodies : Named Body) (name : Name) (body : Option Body) → body ≡ get_named bodies name
    → was_removed (get_named (bodies_of bodies) name) ≡ was_removed (option_map body_of body)
removed-there bodies name body is =
    ap was_removed (bodies-get bodies name) ∙ ap (λ (b : Option Body). was_removed (option_map body_of b)) (sym is)

-- ---- a deed goes away

kept-by : (k : ℕ) (e : ℕ × Body) (es : Numbered Body) (b : Bool)
    → numbered_of (without es k) ≡ without (numbered_of es) k
    → numbered_of (cond b (e ∷ without es k) (without es k))
    ≡ cond b ((e.0, body_of e.1) ∷ without (numbered_of es) k) (without (numbered_of es) k)
kept-by k e es true later = ap (λ (xs : Numbered model.Body). (e.0, body_of e.1) ∷ xs) later
kept-by k e es false later = later

numbered-without : (m : Numbered Body) (k : ℕ) → numbered_of (without m k) ≡ without (numbered_of m) k
numbered-without [] k = refl
numbered-without (e ∷ es) k = kept-by k e es (not (nat_eq k e.0)) (numbered-without es k)

-- a body that is taken out is taken out there, too
pub bodies-without : (m : Named Body) (name : Name)
    → bodies_of (without_named m name) ≡ without_named (bodies_of m) name
bodies-without m (Proc p) =
    ap (λ (x : Numbered model.Body). record (bodies_of m) { processes = x }) (numbered-without m.processes p)
bodies-without m (Msg p) =
    ap (λ (x : Numbered model.Body). record (bodies_of m) { queues = x }) (numbered-without m.queues p)
bodies-without m (Sem p) =
    ap (λ (x : Numbered model.Body). record (bodies_of m) { sets = x }) (numbered-without m.sets p)

-- nothing is left at its name
pub taken-absent : {V : Type 0} (m : Named V) (name : Name) → get_named (without_named m name) name ≡ None
taken-absent m (Proc p) = get-without-same m.processes p
taken-absent m (Msg p) = get-without-same m.queues p
taken-absent m (Sem p) = get-without-same m.sets p

-- ---- a deed comes

-- bytes that spell no body are read as none
pub unspelled-unread : (name : Name) (bytes : List ℕ) → ((i : ℕ) → get_or bytes i 0 < 256)
    → ((body : Body) → IsTrue (suits body name) → IsSpelled body bytes → ⊥)
    → None ≡ read_body name bytes
unspelled-unread name bytes small nothing = at (read_body name bytes) refl
  where
    at : (read : Option model.Body) → read_body name bytes ≡ read → None ≡ read_body name bytes
    at None is = sym is
    at (Some body) is =
        let r = read-spelled name bytes body small is in absurd (nothing r.held r.goes r.spelled)

-- what the bytes of a deed were read as
pub deed-as-read : (deed : PackedDeed) (bytes : List ℕ) (read body : Option Body) → bytes ≡ deed.body
    → option_map body_of read ≡ read_body deed.name bytes → read ≡ body
    → read_deed deed ≡ option_map body_of body
unfolding read_deed
deed-as-read deed bytes read body whole as_read is =
    ap (read_body deed.name) (sym whole) ∙ sym as_read ∙ ap (option_map body_of) is

packed_with : Name → List ℕ → PackedDeed
packed_with name bytes = record { name = name; body = bytes }

-- a packed deed is as it is written
pub packed-as-written : (name : Name) (body : Body) (deed : PackedDeed) → IsPackedDeed suits IsSpelled (name, body) deed
    → deed ≡ pack name (body_of body)
unfolding packed_with
packed-as-written name body deed is =
    ap (λ (n : Name). packed_with n deed.body) is.name
    ∙ ap (packed_with name) (body-written body deed.body is.body)

-- a deed that was taken out has the name that was asked for
pub taken-by-name : (name : Name) (body : Option Body) (deed : Name × Body)
    → Some deed ≡ option_map (λ (b : Body). (name, b)) body → deed.0 ≡ name
taken-by-name name None deed is = absurd (cc)
taken-by-name name (Some body) deed is = let same : deed ≡ (name, body) = cc in ap (λ (d : Name × Body). d.0) same
