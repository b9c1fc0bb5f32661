-- Processes that are gone, one by one.
use Rattle.std.proofs.Common.{◌≡◌, ◌∙◌, ℕ, ◌+◌, ◌<◌, List, ◌∷◌, drop, get_or, length, sym, ap, add-one}
use Rattle.std.proofs.Math.Seq.{drop-cons}
use Rattle.pico_base.specs.declared.numbers.Name.TheVariants.{Proc}
use Rattle.node_model.specs.Bodies as model
use Rattle.node_model.specs.Kinds.{Named, put_all, put_named}
use Rattle.node_model.specs.Parcels.{all_gone}
use Rattle.node_serve.specs.declared.body.Body.{Body}
use Rattle.node_serve.specs.declared.body.Body.TheVariants.{Gone}
use Rattle.node_serve.specs.Bodies.{bodies_of}
use Rattle.node_serve.proofs.KernelLemmas.{bodies-put}

-- once the next one is gone, what is left to bury leads to the same deeds
pub next-buried : (held with_room new : Named Body) (all : model.Deeds) (pids : List ℕ) (i pid : ℕ)
    → put_all (bodies_of held) (all_gone (drop i pids)) ≡ all → i < length pids → pid ≡ get_or pids i pid
    → with_room ≡ held → new ≡ put_named with_room (Proc pid) Gone
    → put_all (bodies_of new) (all_gone (drop (i + 1) pids)) ≡ all
next-buried held with_room new all pids i pid so_far within there room is =
    let rest : List ℕ = drop (i + 1) pids
    in let first : drop i pids ≡ get_or pids i pid ∷ rest = rw add-one (drop-cons pids i pid within)
    in let front : drop i pids ≡ pid ∷ rest = first ∙ ap (λ (p : ℕ). p ∷ rest) (sym there)
    in let buried : bodies_of new ≡ put_named (bodies_of held) (Proc pid) model.Gone =
    ap bodies_of is ∙ bodies-put with_room (Proc pid) Gone
    ∙ ap (λ (m : Named Body). put_named (bodies_of m) (Proc pid) model.Gone) room
    in ap (λ (m : model.Deeds). put_all m (all_gone rest)) buried
    ∙ sym (ap (λ (ps : List ℕ). put_all (bodies_of held) (all_gone ps)) front) ∙ so_far
