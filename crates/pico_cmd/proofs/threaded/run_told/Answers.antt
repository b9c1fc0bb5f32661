use Rattle.std.proofs.Common.{◌≡◌, ◌++◌, ℕ, List, [], ◌∷◌, refl, ap, ◌∙◌}
use Rattle.kernel_model.specs.Trace.{totals_line}
use Rattle.world_model.specs.World.{World}
use Rattle.pico_run.specs.declared.rested.Rested.{Rested}
use Rattle.pico_run.specs.Rested.{IsRested}
use Rattle.pico_cmd.specs.Stalled.{status_left}
use Rattle.pico_cmd.specs.Telling.{lines_if}
use Rattle.pico_cmd.proofs.Histories.{answers_with, never_left_stalled, world_is_there}
use Rattle.pico_cmd.proofs.RunLaws.{Laws}
use Rattle.pico_cmd.proofs.threaded.run_told.Goals as goal

pub returns-clause-answer : goal.returns-clause-answer
returns-clause-answer g c =
    let script = c.args.script in
    let lines = c.args.telling.lines in
    let r : Rested = c.in_ok-rested.rested in
    let k : IsRested script r = c.in_ok-rested.ensures in
    let told : List ℕ = c.in_ok-told.told in
    let laws : Laws = record {
      legal = c.laws.ensures.legal;
      quiet = c.laws.ensures.quiet;
      waits = c.laws.ensures.waits;
      ended = c.laws.ensures.ended;
      left = c.laws.ensures.left;
      never = c.laws.ensures.never;
      whole = c.laws.ensures.whole;
      owners = c.laws.ensures.owners;
      short = c.laws.ensures.short;
      rest = c.laws.ensures.rest;
    } in
    answers_with laws script lines c.args.steps r told c.in_ok-text.text _ c.requires.sound k
    (world_is_there script r k (λ (w : World). told ≡ lines_if lines w.script w.journal ++ totals_line w.journal)
    c.in_ok-told.ensures)
    c.in_ok-text.ensures (c.status_left-status.ensures ∙ ap status_left c.is_left_stalled.ensures) refl
    (c.in_ok-push.ensures.ok ∙ ap (λ (rs : List Rested). rs ++ r ∷ []) c.new-handed.ensures)

pub returns-clause-never_waits : goal.returns-clause-never_waits
returns-clause-never_waits g c never =
    let r : Rested = c.in_ok-rested.rested in
    let laws : Laws = record {
      legal = c.laws.ensures.legal;
      quiet = c.laws.ensures.quiet;
      waits = c.laws.ensures.waits;
      ended = c.laws.ensures.ended;
      left = c.laws.ensures.left;
      never = c.laws.ensures.never;
      whole = c.laws.ensures.whole;
      owners = c.laws.ensures.owners;
      short = c.laws.ensures.short;
      rest = c.laws.ensures.rest;
    } in
    never_left_stalled laws c.args.script r _ c.requires.sound c.in_ok-rested.ensures
    (c.in_ok-push.ensures.ok ∙ ap (λ (rs : List Rested). rs ++ r ∷ []) c.new-handed.ensures) never
