-- What the answer of a call on a queue or a set says of the map that they stand in, before and after it.
use Rattle.std.specs.Prelude.{◌≡◌, ℕ, Option, Some, None, Result, Ok, Err}
use Rattle.std.specs.Option.{option_map}
use Rattle.pico_base.specs.declared.reply.Reply.{Reply}
use Rattle.pico_base.specs.declared.reply.Reply.TheVariants.{Num, Fail, Message}
use Rattle.pico_base.specs.declared.reply.Errno.{Errno}
use Rattle.pico_base.specs.declared.reply.Errno.TheVariants.{Einval}
use Rattle.number_maps.specs.Maps.{Numbered, get, put}
use Rattle.kernel_model.specs.Queue.{Queue, Received}

-- A change of what a map has at a number, and the reply. Where it has nothing there, or the change is refused, it
-- stays.
abbrev pub ChangedBy : {V : Type 0} → Option (Result V Errno) → Numbered V → ℕ → Numbered V → Reply → Type 0
ChangedBy None old id new reply = (new ≡ old) × (reply ≡ Fail Einval)
ChangedBy (Some (Ok v)) old id new reply = (new ≡ put old id v) × (reply ≡ Num 0)
ChangedBy (Some (Err e)) old id new reply = (new ≡ old) × (reply ≡ Fail e)

abbrev pub Changes : {V : Type 0} → (V → Result V Errno) → Numbered V → ℕ → Numbered V → Reply → Type 0
Changes step old id new reply = ChangedBy (option_map step (get old id)) old id new reply

-- the same for a message that is received
abbrev pub ReceivedBy : Option (Result Received Errno) → Numbered Queue → ℕ → Numbered Queue → Reply → Type 0
ReceivedBy None old id new reply = (new ≡ old) × (reply ≡ Fail Einval)
ReceivedBy (Some (Ok r)) old id new reply =
    (new ≡ put old id r.queue) × (reply ≡ Message r.message.class r.message.text)
ReceivedBy (Some (Err e)) old id new reply = (new ≡ old) × (reply ≡ Fail e)

abbrev pub Receives : (Queue → Result Received Errno) → Numbered Queue → ℕ → Numbered Queue → Reply → Type 0
Receives step old id new reply = ReceivedBy (option_map step (get old id)) old id new reply

-- the reply to a change
abbrev pub done_reply : {U : Type 0} → Result U Errno → Reply
done_reply (Ok u) = Num 0
done_reply (Err e) = Fail e

-- the reply of a look
abbrev pub reply_to : Result ℕ Errno → Reply
reply_to (Ok n) = Num n
reply_to (Err e) = Fail e
