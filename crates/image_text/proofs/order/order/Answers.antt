use Rattle.std.proofs.Common.{◌≡◌, List, subst, sym}
use Rattle.std.specs.List.{AllByRecursion}
use Rattle.stamp_merge.specs.declared.Stamped.{Stamped}
use Rattle.stamp_merge.specs.Merge.{StampsRise, HaveOwnNodes, IsMerge}
use Rattle.image_text.specs.declared.placed.Placed.{Placed}
use Rattle.image_text.specs.Order.{ordered}
use Rattle.image_text.proofs.Rising.{rise-from, logs-rise, own-nodes}
use Rattle.image_text.proofs.Orders.{merged-is, if-weaker}
use Rattle.image_text.proofs.order.order.Goals as goal

pub merge-requires-clause-rise : goal.merge-requires-clause-rise
merge-requires-clause-rise c =
    subst (AllByRecursion StampsRise) (sym c.in_ok-logs_of.ensures)
    (logs-rise c.args.events.now (rise-from 1 c.args.events.now c.requires.nodes c.requires.stamps))

pub merge-requires-clause-own_nodes : goal.merge-requires-clause-own_nodes
merge-requires-clause-own_nodes c = subst HaveOwnNodes (sym c.in_ok-logs_of.ensures) (own-nodes c.args.events.now)

pub returns : goal.returns
returns c =
    if-weaker c.merge.result (IsMerge c.in_ok-logs_of.field-0) (λ sorted. sorted ≡ ordered c.args.events.now)
    (λ sorted h. merged-is c.args.events.now sorted c.requires.nodes
    (rise-from 1 c.args.events.now c.requires.nodes c.requires.stamps)
    (subst (λ (logs : List (List (Stamped Placed))). IsMerge logs sorted) c.in_ok-logs_of.ensures h)) c.merge.ensures
