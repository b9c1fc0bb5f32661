-- The deeds of a parcel as they are read, one after another.
use Rattle.std.proofs.Common.{◌≡◌, ◌∙◌, ℕ, ◌+◌, ◌<◌, Bool, true, false, not, ◌&&◌, List, [], ◌∷◌, ◌++◌, length, drop, get_or, Option, Some, None, is_none, is_some, refl, ap, sym, append_assoc}
use Rattle.std.specs.Prelude.{IsTrue}
use Rattle.std.proofs.lemmas.List.{drop_more}
use Rattle.std.specs.Option.{option_and_then, option_map}
use Rattle.pico_base.specs.declared.numbers.Name.{Name}
use Rattle.pico_base.specs.declared.numbers.Name.TheVariants.{Proc}
use Rattle.rpc_frame.specs.declared.deed.PackedDeed.{PackedDeed}
use Rattle.number_maps.specs.Maps.{Numbered}
use Rattle.node_model.specs.Bodies as model
use Rattle.node_model.specs.Kinds.{Named, get_named}
use Rattle.node_model.specs.Parcels.{are_rising, numbered_body, read_deeds, with_body}
use Rattle.node_model.specs.Spelling.{read_body, read_deed}
use Rattle.node_serve.specs.declared.body.Body.{Body}
use Rattle.node_serve.specs.Bodies.{bodies_of, body_of, numbered_of}
use Rattle.node_serve.proofs.KernelLemmas.{bodies-get}
use Rattle.node_serve.specs.Read.{IsReadAs}
use Rattle.node_serve.specs.Spelled.{IsSpelled, suits}
use Rattle.end_rules.specs.Fitting.{numbered}

-- bytes that spell no body that goes with the name are read as none
pub none-read : (name : Name) (bytes : List ℕ) (o : Option model.Body) → read_body name bytes ≡ o
    → ((body : model.Body) → read_body name bytes ≡ Some body → IsReadAs name bytes body)
    → ((body : Body) → IsTrue (suits body name) → IsSpelled body bytes → ⊥)
    → read_body name bytes ≡ None
none-read name bytes None is reads none = is
none-read name bytes (Some body) is reads none =
    let r = reads body is in absurd (none r.held r.goes r.spelled)

abbrev with_number : ℕ → model.Body → ℕ × model.Body
with_number pid body = (pid, body)

-- a number with the body
abbrev numbered_as : ℕ → Body → ℕ × model.Body
numbered_as pid body = (pid, body_of body)

-- a process's deed has the body that its bytes are read as
pub numbered-read : (deed : PackedDeed) (pid : ℕ) (bytes : List ℕ) (read o : Option Body) → deed.name ≡ Proc pid
    → bytes ≡ deed.body → read ≡ o → option_map body_of read ≡ read_body deed.name bytes
    → option_map (numbered_as pid) o ≡ numbered_body deed deed.name
unfolding read_deed
numbered-read deed pid bytes read o name bytes_are is reads =
    twice o
    ∙ ap (option_map (with_number pid))
    (ap (option_map body_of) (sym is) ∙ reads ∙ ap (read_body deed.name) bytes_are)
    ∙ ap (numbered_body deed) (sym name)
  where
    twice : (o : Option Body)
        → option_map (numbered_as pid) o ≡ option_map (with_number pid) (option_map body_of o)
    twice None = refl
    twice (Some body) = refl

-- ---- the bodies that were read, before those that are left

-- all of them, where those that are left are read
abbrev pub read_behind : Numbered model.Body → List PackedDeed → Option (Numbered model.Body)
read_behind done deeds = option_map (λ later. done ++ later) (read_deeds deeds)

-- one more is read
one-more-read : (done : List (ℕ × Body)) (deed : PackedDeed) (deeds : List PackedDeed) (e : ℕ × Body)
    → Some (numbered e) ≡ numbered_body deed deed.name
    → read_behind (numbered_of done) (deed ∷ deeds) ≡ read_behind (numbered_of (done ++ e ∷ [])) deeds
one-more-read done deed deeds e is =
    ap (λ o. option_map (λ later. numbered_of done ++ later) (option_and_then (with_body (read_deeds deeds)) o))
    (sym is)
    ∙ by (read_deeds deeds)
    ∙ ap (λ bodies. option_map (λ later. bodies ++ later) (read_deeds deeds)) (sym (split done))
  where
    split : (xs : List (ℕ × Body)) → numbered_of (xs ++ e ∷ []) ≡ numbered_of xs ++ numbered e ∷ []
    split [] = refl
    split (x ∷ xs) = ap (λ ys. numbered x ∷ ys) (split xs)

    by : (o : Option (Numbered model.Body))
        → option_map (λ later. numbered_of done ++ later) (with_body o (numbered e))
        ≡ option_map (λ later. (numbered_of done ++ numbered e ∷ []) ++ later) o
    by None = refl
    by (Some later) = ap Some (sym (append_assoc (numbered_of done) (numbered e ∷ []) later))

-- a step on along the deeds
pub step-read : (done : List (ℕ × Body)) (deeds : List PackedDeed) (i : ℕ) (deed : PackedDeed) (e : ℕ × Body)
    → i < length deeds → deed ≡ get_or deeds i deed → Some (numbered e) ≡ numbered_body deed deed.name
    → read_behind (numbered_of done) (drop i deeds) ≡ read_behind (numbered_of (done ++ e ∷ [])) (drop (i + 1) deeds)
step-read done deeds i deed e within is reads =
    ap (read_behind (numbered_of done))
    (drop_more deeds i deed within ∙ ap (λ x. x ∷ drop (i + 1) deeds) (sym is))
    ∙ one-more-read done deed (drop (i + 1) deeds) e reads

-- ---- rising numbers

-- those that are left, behind the last one
abbrev pub rise_behind : Option ℕ → Numbered model.Body → Bool
rise_behind None bodies = are_rising bodies
rise_behind (Some last) bodies = are_rising ((last, model.Gone) ∷ bodies)

-- ---- who is held

-- a process that isn't held isn't in the deeds
pub not-held : (bodies : Named Body) (pid : ℕ) (held : Bool) → held ≡ is_some (get_named bodies (Proc pid))
    → not held ≡ is_none (get_named (bodies_of bodies) (Proc pid))
not-held bodies pid held is =
    ap not is ∙ by (get_named bodies (Proc pid)) ∙ ap is_none (sym (bodies-get bodies (Proc pid)))
  where
    by : (o : Option Body) → not (is_some o) ≡ is_none (option_map body_of o)
    by None = refl
    by (Some body) = refl

-- ---- one test behind another

-- where the first test is passed, the second one's answer is that of both
pub and-on : (a b x y : Bool) → a ≡ true → a ≡ x → b ≡ y → b ≡ (x && y)
and-on a b x y is first second = second ∙ ap (λ t. t && y) (sym is ∙ first)

-- where the first test isn't passed, its answer is that of both
pub and-off : (a x y : Bool) → a ≡ false → a ≡ x → a ≡ (x && y)
and-off a x y is first = is ∙ ap (λ t. t && y) (sym is ∙ first)
