use Rattle.std.proofs.Common.{◌≡◌, ◌-◌, ◌<◌, List, [], length, get_or, Option, None, IsSome, sym, ap, subst, ◌∙◌}
use Rattle.world_model.specs.Node.{Node}
use Rattle.rpc_frame.specs.declared.frame.Frame.{Frame}
use Rattle.world_core.specs.Inbox.{from_node, may_take}
use Rattle.world_core.proofs.Wholes.{slice_get-whole, whole_at, may_take-at}
use Rattle.world_core.proofs.state.State.may_take.Goals as goal
use Rattle.world_core.proofs.state.State.may_take.Goals.{In-Some}

-- the node that was read is the one at its place
slot : (c : In-Some) → c.in-Some.pico.now ≡ get_or c.args.self.now.nodes.items c.place-at.result None
slot c =
    let a = c.in-Some.ensures.lookup
    in a.3.1 None ∙ ap (λ (l : List (Option Node)). get_or l c.place-at.result None) c.deref.ensures.value

some : (c : In-Some) → IsSome c.in-Some.pico.now
some c =
    let a = c.in-Some.ensures.lookup
    in let lt : c.place-at.result < length c.deref.result.now = a.3.0
    in subst (λ (o : Option Node). IsSome o) (sym (slot c))
    (whole_at c.args.self.now.nodes.items c.place-at.result c.requires
    (subst (λ (l : List (Option Node)). c.place-at.result < length l) c.deref.ensures.value lt))

pub born-requires : goal.born-requires
born-requires c = record { whole = some (goal.at.born-requires c).In-Some }

pub returns : goal.returns
returns c =
    let i = (goal.at.returns c).In-Some
    in let a = c.in-Some-get.ensures.lookup
    in let row : c.in-Some-get.inbox.now ≡ get_or c.args.self.now.inboxes.items (c.args.node - 1) [] =
    a.3.1 [] ∙ ap (λ (l : List (List (List Frame))). get_or l c.place-at.result []) c.deref-2.ensures.value
    ∙ ap (λ k. get_or c.args.self.now.inboxes.items k []) c.place-at.ensures.place
    in may_take-at c.in-Some.pico.now _ c.may_take.result c.born.result _
    (slice_get-whole c.args.self.now.nodes.items (c.args.node - 1) c.requires
    ∙ ap (λ k. get_or c.args.self.now.nodes.items k None) (sym c.place-at.ensures.place) ∙ sym (slot i))
    (some i) c.born.ensures
    (c.may_take.ensures ∙ ap (λ (r : List (List Frame)). may_take c.born.result (from_node r c.args.from)) row)
