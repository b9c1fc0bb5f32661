use Rattle.std.proofs.Common.{sym, ◌∙◌, arith}
use Rattle.std.proofs.lemmas.Bool.{false≢true}
use Rattle.fork_wait.specs.Children.{members_of}
use Rattle.fork_wait.proofs.Bodies.{are-found, unread, unsound}
use Rattle.fork_wait.proofs.family.family_lists.Goals as goal

pub returns-in_err-living : goal.returns-in_err-living
returns-in_err-living c = rw c.from_residual.ensures (unread c.args.bytes.now c.in_err-living.ensures)

pub returns-then-not-are_children : goal.returns-then-not-are_children
returns-then-not-are_children c =
    unsound c.args.bytes.now (members_of c.in_ok-living.living.items c.in_ok-living.ended.items) c.in_ok-living.ensures
    (λ sound. false≢true (sym c.if-not-are_children.true
    ∙ c.are_children.ensures.1 (rw (c.as_slice.ensures.value, c.as_slice-2.ensures.value) sound)))

pub returns : goal.returns
returns c =
    are-found c.args.bytes.now (members_of c.in_ok-living.living.items c.in_ok-living.ended.items)
    (λ i. omega (arith, c.type_inv.bytes i)) c.in_ok-living.ensures
    (rw (
      c.as_slice.ensures.value,
      c.as_slice-2.ensures.value,
    ) at (c.are_children.ensures.0 c.if-not-are_children.false))
