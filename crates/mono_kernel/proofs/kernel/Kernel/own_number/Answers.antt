use Rattle.std.proofs.Common.{◌∙◌, [], ap, subst}
use Rattle.pico_base.specs.declared.reply.Reply.{Reply}
use Rattle.mono_kernel.specs.Answers.{FinishesWith}
use Rattle.mono_kernel.specs.declared.done.Done.{Done}
use Rattle.mono_kernel.specs.declared.done.Done.TheVariants.{Replies}
use Rattle.mono_kernel.proofs.CallLemmas.{own-number}
use Rattle.mono_kernel.proofs.kernel.Kernel.own_number.Goals as goal

pub returns : goal.returns
returns c = λ chosen.
    own-number c.args.self.now c.finish-2.new.self c.args.pid chosen c.finish-2.result c.requires
    (subst (λ (done : Done). FinishesWith c.args.self.now c.args.pid done c.finish-2.new.self c.finish-2.result)
    (c.alone.ensures ∙ ap (λ (reply : Reply). Replies reply []) c.number_of.ensures) c.finish-2.ensures)
