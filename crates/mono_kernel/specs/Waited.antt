-- What waitpid finds, as the program has it.
use Rattle.std.specs.Prelude.{Bool, true, false}
use Rattle.pico_base.specs.declared.reply.Errno.TheVariants.{Echild}
use Rattle.pico_base.specs.declared.reply.Reply.{Reply}
use Rattle.pico_base.specs.declared.reply.Reply.TheVariants as replies
use Rattle.kernel_model.specs.Row as rows
use Rattle.mono_kernel.specs.declared.family.Waited.{Waited}
use Rattle.mono_kernel.specs.declared.family.Waited.TheVariants.{Found, NotYet, NoChild}

abbrev pub waited_of : Waited → rows.Waited
waited_of (Found child) = rows.Found child.pid child.ending
waited_of NotYet = rows.NotYet
waited_of NoChild = rows.NoChild

-- children that match only live
abbrev pub is_not_yet : rows.Waited → Bool
is_not_yet (rows.Found child ending) = false
is_not_yet rows.NotYet = true
is_not_yet rows.NoChild = false

-- the reply of a waitpid that needn't wait
abbrev pub reply_of_wait : rows.Waited → Reply
reply_of_wait (rows.Found child ending) = replies.Child child ending
reply_of_wait rows.NotYet = replies.Num 0
reply_of_wait rows.NoChild = replies.Fail Echild
