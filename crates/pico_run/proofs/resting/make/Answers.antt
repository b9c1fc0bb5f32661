use Rattle.pico_run.proofs.Adding.{journal-grows}
use Rattle.pico_run.proofs.resting.make.Goals as goal

pub slice_bounds-copy_entries-count : goal.slice_bounds-copy_entries-count
slice_bounds-copy_entries-count c =
    journal-grows _ _ _ _ _ _ _ c.in_ok-step.ensures.ok c.journal.ensures.journal c.journal-2.ensures.journal
    c.as_slice-before.ensures c.as_slice.ensures

pub slice_bounds-copy_entries-start : goal.slice_bounds-copy_entries-start
slice_bounds-copy_entries-start c =
    journal-grows _ _ _ _ _ _ _ c.in_ok-step.ensures.ok c.journal.ensures.journal c.journal-2.ensures.journal
    c.as_slice-before.ensures c.as_slice.ensures
