use Rattle.std.proofs.Common.{◌≡◌, ℕ, ◌∙◌, ap, subst}
use Rattle.kernel_model.specs.Trace.{trace_text}
use Rattle.world_model.specs.Run.{is_stalled}
use Rattle.world_model.specs.Schedule.{Follows, InTurn}
use Rattle.pico_cmd.specs.Stalled.{status_left}
use Rattle.pico_cmd.specs.Thawed.{node_behind}
use Rattle.pico_cmd.proofs.Onward.{of_some}
use Rattle.pico_cmd.proofs.thawed.answer_of.Goals as goal

pub returns : goal.returns
returns c =
    let on = c.in_ok-go_on.ensures in
    record {
      from = on.from;
      world_is = on.old_is;
      further = on.further;
      last = on.last;
      follows =
          subst (λ (n : ℕ). Follows on.from (InTurn n) on.further on.last)
          (of_some (λ w. c.node_behind-behind.result ≡ node_behind w c.args.thawed.last) c.args.thawed.world on.from
          on.old_is c.node_behind-behind.ensures) on.follows;
      status_is =
          c.status_left-status.ensures
          ∙ ap status_left
          (of_some (λ w. c.is_stalled.result ≡ is_stalled w) c.go_on.new.world on.last on.new_is c.is_stalled.ensures);
      is_text =
          of_some (λ w. c.in_ok-trace_of.field-0 ≡ trace_text w.script w.journal) c.go_on.new.world on.last on.new_is
          c.in_ok-trace_of.ensures;
      alone = c.new.ensures;
    }
