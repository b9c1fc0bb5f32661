use Rattle.std.proofs.Common.{◌∙◌, sym, ap}
use Rattle.mono_kernel.specs.Table.{woken_by_end}
use Rattle.mono_kernel.proofs.EndLemmas.{there-same}
use Rattle.mono_kernel.proofs.EndedLemmas.{parent-after, listed-after, end-is}
use Rattle.mono_kernel.proofs.TableLemmas.{there-alive}
use Rattle.mono_kernel.proofs.processes.Processes.end.Goals as goal

pub bury-requires : goal.bury-requires
bury-requires c = rw c.as_slice.ensures.value (λ k d inside. (c.in_ok-children.ensures.ended k d inside).0)

pub leave-pair-requires-clause-there : goal.leave-pair-requires-clause-there
leave-pair-requires-clause-there c =
    there-same c.args.self.now c.bury.new.self c.args.pid c.bury.ensures.same_numbers
    (there-alive c.args.self.now c.args.pid c.requires)

pub leave-pair-requires-clause-listed : goal.leave-pair-requires-clause-listed
leave-pair-requires-clause-listed c =
    rw (c.bury.ensures.buried, c.as_slice.ensures.value)
    (listed-after c.args.self.now c.in_ok-children.children.items c.args.pid c.parent_of-parent.result
    (λ k d inside. (c.in_ok-children.ensures.ended k d inside).1) c.parent_of-parent.ensures.lists)

pub returns-clause-ended : goal.returns-clause-ended
returns-clause-ended c =
    let left = rw (c.bury.ensures.buried, c.as_slice.ensures.value) at c.leave-pair.ensures.left
    in end-is c.args.self.now c.leave-pair.new.self c.args.pid c.args.ending c.in_ok-children.children.items
    c.parent_of-parent.result
    c.in_ok-children.ensures.children c.parent_of-parent.ensures.parent
    (parent-after c.args.self.now c.in_ok-children.children.items c.args.pid c.parent_of-parent.result
    (λ k d inside. (c.in_ok-children.ensures.ended k d inside).1) c.parent_of-parent.ensures.lists)
    left

pub returns-clause-woken : goal.returns-clause-woken
returns-clause-woken c =
    let left = rw (c.bury.ensures.buried, c.as_slice.ensures.value) at c.leave-pair.ensures.woken
    in c.noted.ensures ∙ left
    ∙ ap (woken_by_end c.args.pid c.args.ending)
    (parent-after c.args.self.now c.in_ok-children.children.items c.args.pid c.parent_of-parent.result
    (λ k d inside. (c.in_ok-children.ensures.ended k d inside).1) c.parent_of-parent.ensures.lists
    ∙ sym c.parent_of-parent.ensures.parent)
