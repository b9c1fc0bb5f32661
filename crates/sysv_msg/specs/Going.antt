-- When a send and a receive needn't wait, and the reply to a receive.
use Rattle.std.specs.Prelude.{ℕ, ◌+◌, ℤ, pos, Bool, false, ◌||◌, ◌&&◌, nat_lt, nat_le, length, int_lt, Option, Some, None, Result, Ok, Err}
use Rattle.pico_base.specs.declared.reply.Errno.{Errno}
use Rattle.pico_base.specs.declared.reply.Reply.{Reply}
use Rattle.pico_base.specs.declared.reply.Reply.TheVariants as replies
use Rattle.kernel_model.specs.Queue.{Queue, Message, max_text, max_messages, bytes_in, select}

abbrev pub can_send : Queue → ℤ → ℕ → Bool
can_send q class len =
    (int_lt class (pos 1) || nat_lt max_text len)
    || (nat_le (bytes_in q + len) q.qbytes && nat_lt (length q.messages) max_messages)

abbrev pub is_inside : Queue → Option ℕ → Bool
is_inside q None = false
is_inside q (Some place) = nat_lt place (length q.messages)

abbrev pub can_receive : Queue → ℤ → Bool
can_receive q class = is_inside q (select q.messages class)

abbrev pub reply_of_message : Result Message Errno → Reply
reply_of_message (Ok m) = replies.Message m.class m.text
reply_of_message (Err e) = replies.Fail e
