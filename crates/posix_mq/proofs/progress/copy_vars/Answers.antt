use Rattle.std.proofs.Common.{rules, ℕ, ◌∙◌, ap, get_or}
use Rattle.number_maps.specs.Maps.{Numbered, put}
use Rattle.posix_mq.proofs.Places.{copied}
use Rattle.posix_mq.proofs.progress.copy_vars.Goals as goal

pub loop-entry-preserved : goal.loop-entry-preserved
loop-entry-preserved c =
    copied c.args.vars.now.entries c.loop-entry.copy.entries c.insert.new.self.entries c.loop-entry.entry-index (0, 0)
    c.rise.ensures (search rules) c.loop-entry.invariant (c.in_ok-insert.ensures.ok
    ∙ ap (λ (es : Numbered ℕ). put c.loop-entry.copy.entries (get_or es c.loop-entry.entry-index (0, 0)).0
    (get_or es c.loop-entry.entry-index (0, 0)).1) c.as_slice-entry-items.ensures)
