use Rattle.std.proofs.Common.{◌∙◌, Some, ap, refl, sym}
use Rattle.pico_base.specs.declared.reply.Reply.TheVariants.{Fail}
use Rattle.kernel_model.specs.SemaphoreSet.{SemaphoreSet}
use Rattle.waiting_model.specs.Waiters.{Awaited, attempt}
use Rattle.node_serve.proofs.AtOnce.{refuses-to-operate}
use Rattle.node_serve.proofs.prompt.operate.Goals as goal

pub returns-in-Err : goal.returns-in-Err
returns-in-Err c =
    record {
      gives = refuses-to-operate c.args.set.now.state c.args.pid c.args.steps.now c.in-Err.errno c.requires.at_once
          c.in-Err.ensures.refused
          ∙ ap (λ (s : Awaited SemaphoreSet). Some (attempt s.state (Fail c.in-Err.errno))) (sym c.in-Err.ensures.err);
      read = refl;
      childless = refl;
      still = c.op.ensures.still_nobody;
    }
