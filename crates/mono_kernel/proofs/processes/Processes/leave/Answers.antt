use Rattle.std.proofs.Common.{◌≡◌, ◌∙◌, Bool, IsSome, ap}
use Rattle.number_maps.specs.Maps.{put}
use Rattle.waiting_model.specs.ProcessCalls.{process_after_end, parent_after_end}
use Rattle.waiting_model.specs.Kernel.{living_in}
use Rattle.mono_kernel.specs.Table.{ignores_there}
use Rattle.mono_kernel.proofs.EndLemmas.{kept-dead, parent-lives, parent-lists, left-under, there-changed, woken-under}
use Rattle.mono_kernel.proofs.TableLemmas.{living-put_same}
use Rattle.mono_kernel.proofs.processes.Processes.leave.Goals as goal

pub end_child-found-requires-clause-lives : goal.end_child-found-requires-clause-lives
end_child-found-requires-clause-lives c =
    let listed = rw c.in-Some.is at c.requires.listed
    in rw c.settle-2.ensures.settled (parent-lives c.args.self.now c.args.pid c.in-Some.parent _ listed.1 listed.0)

pub end_child-found-requires-clause-listed : goal.end_child-found-requires-clause-listed
end_child-found-requires-clause-listed c =
    let listed = rw c.in-Some.is at c.requires.listed
    in rw c.settle-2.ensures.settled (parent-lists c.args.self.now c.args.pid c.in-Some.parent _ listed.1 listed.0)

pub end_child-found-requires-clause-ended : goal.end_child-found-requires-clause-ended
end_child-found-requires-clause-ended c =
    rw (c.settle-2.ensures.settled, c.cell_after_end.ensures)
    (living-put_same c.args.self.now c.args.pid _ ∙ kept-dead c.ignores_children-ignored.result c.args.ending)

pub bury_found-requires : goal.bury_found-requires
bury_found-requires c =
    let listed = rw c.in-Some.is at c.requires.listed
    in let lives : IsSome (living_in c.settle-2.new.self c.in-Some.parent) = rw c.settle-2.ensures.settled
    (parent-lives c.args.self.now c.args.pid c.in-Some.parent _ listed.1 listed.0)
    in there-changed c.settle-2.new.self c.end_child-found.new.self c.in-Some.parent
    (λ a. parent_after_end a c.args.pid c.args.ending) _ lives
    c.end_child-found.ensures.changed c.end_child-found.ensures.there

pub returns-clause-left : goal.returns-clause-left
returns-clause-left c =
    let listed = rw c.in-Some.is at c.requires.listed
    in let settled : c.settle-2.new.self
    ≡ put c.args.self.now c.args.pid
    (process_after_end (ignores_there c.args.self.now c.in-Some.parent) c.args.ending) =
    c.settle-2.ensures.settled
    ∙ ap (put c.args.self.now c.args.pid)
    (c.cell_after_end.ensures ∙ ap (λ (b : Bool). process_after_end b c.args.ending) c.ignores_children-ignored.ensures)
    in let changed = rw settled at c.end_child-found.ensures.changed
    in let finds = rw settled at c.end_child-found.ensures.found
    in let there = rw settled at c.end_child-found.ensures.there
    in rw c.in-Some.is
    (left-under c.args.self.now c.end_child-found.new.self c.bury_found.new.self c.args.pid c.in-Some.parent
    c.args.ending
    _ listed.1 listed.0 changed finds there c.bury_found.ensures.buried)

pub returns-clause-woken : goal.returns-clause-woken
returns-clause-woken c =
    let listed = rw c.in-Some.is at c.requires.listed
    in let finds = rw c.settle-2.ensures.settled at c.end_child-found.ensures.found
    in rw c.in-Some.is
    (woken-under c.args.self.now c.args.pid c.in-Some.parent c.args.ending _ _ _ listed.1 listed.0 finds
    c.woken_parent.ensures)
