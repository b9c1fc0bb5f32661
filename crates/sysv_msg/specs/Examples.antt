-- Which message a receive asks for, when it needn't wait, and a queue as it is packed; computed by the checker.
use Rattle.std.specs.Prelude.{◌≡◌, pos, negsuc, true, false, [], ◌∷◌, Some, None, Ok, Err, codes, refl}
use Rattle.pico_base.specs.declared.reply.Errno.TheVariants.{Enomsg}
use Rattle.pico_base.specs.declared.reply.Reply.TheVariants.{Fail, Message as Received}
use Rattle.frame_bytes.specs.Fields.{signed_at, text_at}
use Rattle.frame_bytes.specs.Readers.{many}
use Rattle.kernel_model.specs.Queue.{Message, Queue, empty_queue}
use Rattle.waiting_model.specs.Waiters.{unawaited}
use Rattle.sysv_msg.specs.declared.held.Form.TheVariants.{Linked, Packed}
use Rattle.sysv_msg.specs.Body.{message_field}
use Rattle.sysv_msg.specs.Going.{can_receive, can_send, reply_of_message}
use Rattle.sysv_msg.specs.Held.{held_of}
use Rattle.sysv_msg.specs.Linked.{asks_for}
use Rattle.sysv_msg.specs.Packed.{front_of, messages_in}
use Rattle.sysv_msg.specs.Reading.{class_at, message_at, short_at}

-- of type 5 and of type 2
abbrev pub later : Message
later = record { class = pos 5; text = codes "ab" }

abbrev pub lower : Message
lower = record { class = pos 2; text = [] }

abbrev pub both : Queue
both = record { messages = later ∷ lower ∷ []; qbytes = 16384; last_sender = 3; last_receiver = 0 }

-- type 0 asks for any, a positive type for its own, a negative one for those up to its absolute value
any_type : (asks_for (pos 0) (pos 5) ≡ true) × (asks_for (pos 0) (pos 1) ≡ true)
any_type = (refl, refl)

own_type : (asks_for (pos 5) (pos 5) ≡ true) × (asks_for (pos 5) (pos 2) ≡ false)
own_type = (refl, refl)

-- `negsuc 3` is -4
types_upto : (asks_for (negsuc 3) (pos 4) ≡ true) × (asks_for (negsuc 3) (pos 5) ≡ false)
types_upto = (refl, refl)

-- a receive waits where there is no such message, a send where there is no room, and none that is refused for good
receives : (can_receive both (pos 0) ≡ true) × (can_receive both (negsuc 1) ≡ true) × (can_receive both (pos 3) ≡ false)
    × (can_receive empty_queue (pos 0) ≡ false)
receives = (refl, refl, refl, refl)

sends : (can_send both (pos 1) 16382 ≡ true) × (can_send both (pos 0) 1 ≡ true)
sends = (refl, refl)

no_room : can_send (record both { qbytes = 4 }) (pos 1) 3 ≡ false
no_room = refl

replies : (reply_of_message (Ok lower) ≡ Received (pos 2) []) × (reply_of_message (Err Enomsg) ≡ Fail Enomsg)
replies = (refl, refl)

-- a queue is the same in both forms, and nobody waits at one that is packed
forms : (held_of (Packed both) ≡ unawaited both) × (held_of (Linked (unawaited both)) ≡ unawaited both)
forms = (refl, refl)

-- the type in four bytes, and the text behind its length in four
spelled : (message_field later ≡ 0 ∷ 0 ∷ 0 ∷ 5 ∷ 0 ∷ 0 ∷ 0 ∷ 2 ∷ 97 ∷ 98 ∷ [])
    × (message_field lower ≡ 0 ∷ 0 ∷ 0 ∷ 2 ∷ 0 ∷ 0 ∷ 0 ∷ 0 ∷ [])
spelled = (refl, refl)

-- one message, of type 2 and without a text, is read from the front
read_again : messages_in 1 (0 ∷ 0 ∷ 0 ∷ 2 ∷ 0 ∷ 0 ∷ 0 ∷ 0 ∷ []) ≡ lower ∷ []
unfolding messages_in many message_at class_at signed_at short_at text_at
read_again = refl

in_front : (front_of (later ∷ lower ∷ []) ≡ Some 0) × (front_of [] ≡ None)
in_front = (refl, refl)
