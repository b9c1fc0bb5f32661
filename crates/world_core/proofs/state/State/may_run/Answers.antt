use Rattle.std.proofs.Common.{◌≡◌, ◌-◌, ◌<◌, ◌≤◌, List, length, get_or, Option, None, IsSome, sym, ap, subst, ◌∙◌}
use Rattle.std.proofs.lemmas.List.{get_or_past}
use Rattle.world_model.specs.Node.{Node}
use Rattle.world_model.specs.World.{is_run_enabled}
use Rattle.world_core.proofs.Wholes.{slice_get-whole, whole_at, may_run-at}
use Rattle.world_core.proofs.state.State.may_run.Goals as goal
use Rattle.world_core.proofs.state.State.may_run.Goals.{In-Some}

-- the node that was read is the one at its place
slot : (c : In-Some) → c.in-Some.node.now ≡ get_or c.args.self.now.nodes.items c.place.result None
slot c =
    let a = c.in-Some.ensures.lookup
    in a.3.1 None ∙ ap (λ (l : List (Option Node)). get_or l c.place.result None) c.deref.ensures.value

some : (c : In-Some) → IsSome c.in-Some.node.now
some c =
    let a = c.in-Some.ensures.lookup
    in let lt : c.place.result < length c.deref.result.now = a.3.0
    in subst (λ (o : Option Node). IsSome o) (sym (slot c))
    (whole_at c.args.self.now.nodes.items c.place.result c.requires
    (subst (λ (l : List (Option Node)). c.place.result < length l) c.deref.ensures.value lt))

pub can_run-requires : goal.can_run-requires
can_run-requires c = record { whole = some (goal.at.can_run-requires c).In-Some }

pub returns-in-Some : goal.returns-in-Some
returns-in-Some c =
    let i = (goal.at.returns-in-Some c).In-Some
    in may_run-at c.in-Some.node.now _ c.can_run.result
    (slice_get-whole c.args.self.now.nodes.items _ c.requires
    ∙ ap (λ k. get_or c.args.self.now.nodes.items k None) (sym c.place.ensures.place) ∙ sym (slot i))
    (some i) c.can_run.ensures

pub returns-in-None : goal.returns-in-None
returns-in-None c =
    let nodes = c.args.self.now.nodes.items
    in let a = c.in-None.ensures.lookup
    in let ge : length nodes ≤ c.place.result =
    subst (λ (l : List (Option Node)). length l ≤ c.place.result) c.deref.ensures.value a.3
    in let e = slice_get-whole nodes (c.args.node - 1) c.requires
    ∙ ap (λ k. get_or nodes k None) (sym c.place.ensures.place) ∙ get_or_past nodes c.place.result None ge
    in sym (ap is_run_enabled e)
