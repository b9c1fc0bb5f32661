use Rattle.std.proofs.Common.{◌∙◌, ap}
use Rattle.std.specs.Map.{keys_of}
use Rattle.number_maps.proofs.Changes.{keys-put}
use Rattle.mono_kernel.proofs.EndedLemmas.{living-beside}
use Rattle.mono_kernel.proofs.LandLemmas.{put-and-taken}
use Rattle.mono_kernel.proofs.processes.fork_at.Goals as goal

pub returns-in-Err-clause-err : goal.returns-in-Err-clause-err
returns-in-Err-clause-err c =
    let inserted = rw c.child.view_is at c.in_ok-insert.ensures.ok in
    let taken = rw c.child-2.view_is at c.take.ensures.entries in
    rw (taken, c.in-Err.ensures.err, inserted)
    (put-and-taken c.args.cells.now.entries c.args.child c.args.cell c.rise.ensures c.requires.fresh)

pub returns-in-Err-clause-rising : goal.returns-in-Err-clause-rising
returns-in-Err-clause-rising c =
    let inserted = rw c.child.view_is at c.in_ok-insert.ensures.ok in
    let taken = rw c.child-2.view_is at c.take.ensures.entries in
    rw (
      taken,
      c.in-Err.ensures.err,
      inserted,
      put-and-taken c.args.cells.now.entries c.args.child c.args.cell c.rise.ensures c.requires.fresh,
    ) c.rise.ensures

pub returns-clause-numbers : goal.returns-clause-numbers
returns-clause-numbers c =
    c.add_child_at.ensures.same_numbers ∙ ap keys_of (rw c.child.view_is at c.in_ok-insert.ensures.ok)
    ∙ keys-put c.args.cells.now.entries c.args.child c.args.cell

pub add_child_at-requires : goal.add_child_at-requires
add_child_at-requires c =
    rw (
      (rw c.child.view_is at c.in_ok-insert.ensures.ok),
      living-beside c.args.cells.now.entries c.args.pid c.args.child c.args.cell c.requires.fresh c.requires.lives,
    )
    c.requires.lives

pub returns-clause-ok : goal.returns-clause-ok
returns-clause-ok c =
    rw (
      (rw c.child.view_is at c.in_ok-insert.ensures.ok),
      living-beside c.args.cells.now.entries c.args.pid c.args.child c.args.cell c.requires.fresh c.requires.lives,
    )
    at c.in_default.ensures.ok
