use Rattle.std.proofs.Common.{◌≡◌, ◌++◌, ℕ, List, [], ◌∷◌, refl, ap, subst, ◌∙◌}
use Rattle.pico_base.specs.declared.script.Script.{Script}
use Rattle.mq_model.specs.Shown.{history_of}
use Rattle.mq_model.specs.Text.{mq_trace_text}
use Rattle.world_model.specs.World.{World}
use Rattle.pico_run.specs.declared.rested.Rested.{Rested}
use Rattle.pico_run.specs.Rested.{IsRested}
use Rattle.pico_cmd.specs.Queued.{given_in}
use Rattle.pico_cmd.specs.Stalled.{status_left}
use Rattle.pico_cmd.proofs.Histories.{world_is_there}
use Rattle.pico_cmd.proofs.QueueAnswers.{QueueLaws, answers_queues}
use Rattle.pico_cmd.proofs.RunLaws.{Laws}
use Rattle.pico_cmd.proofs.queues.run_given.Goals as goal

pub returns : goal.returns
returns g c =
    let script : Script = c.args.read.now.script in
    let r : Rested = c.in_ok-rested.rested in
    let k : IsRested script r =
    subst (λ (s : Script). IsRested s r) c.in_ok-script.ensures.same c.in_ok-rested.ensures in
    let told : List ℕ = c.in_ok-told.told in
    let given : Script = given_in c.args.read.now in
    let laws : Laws = record {
      legal = c.laws.ensures.legal;
      quiet = c.laws.ensures.quiet;
      waits = c.laws.ensures.waits;
      ended = c.laws.ensures.ended;
      left = c.laws.ensures.left;
      never = c.laws.ensures.never;
      whole = c.laws.ensures.whole;
      owners = c.laws.ensures.owners;
      short = c.laws.ensures.short;
      rest = c.laws.ensures.rest;
    } in
    let more : QueueLaws = record { legal = c.queue_laws.ensures.legal; whole = c.queue_laws.ensures.whole } in
    answers_queues laws more given script c.args.steps r told c.in_ok-text.text _ c.requires.is_given c.requires.sound
    c.requires.runs k
    (world_is_there script r k (λ (w : World). told ≡ mq_trace_text script (history_of given w.journal))
    c.in_ok-told.ensures)
    c.in_ok-text.ensures (c.status_left-status.ensures ∙ ap status_left c.is_left_stalled.ensures) refl
    (c.in_ok-push.ensures.ok ∙ ap (λ (rs : List Rested). rs ++ r ∷ []) c.new-handed.ensures)
