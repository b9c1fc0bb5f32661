-- What a call comes to that wakes nobody, and the reply to a wait that found a child, or living ones alone.
use Rattle.std.specs.Prelude.{Bool, [], if◌then◌else◌, Option, Some, None}
use Rattle.pico_base.specs.declared.reply.Reply.{Reply}
use Rattle.pico_base.specs.declared.reply.Reply.TheVariants as replies
use Rattle.waiting_model.specs.declared.callers.Applied as waiting
use Rattle.fork_wait.specs.declared.family.Waited.{Waited}
use Rattle.fork_wait.specs.declared.family.Waited.TheVariants.{Child, NotYet}
use Rattle.node_model.specs.Awaiting.{Applied}

-- the caller has this reply, or has to wait where there is none
abbrev pub alone : {V : Type 0} → V → Option Reply → Applied V
alone left own = record { left = left; own = own; wakes = [] }

-- what is left, and what the call comes to for its caller and for those whom it wakes
abbrev pub coming : {V : Type 0} → V → waiting.Applied → Applied V
coming left applied = record { left = left; own = applied.own; wakes = applied.wakes }

-- where only living children match, the caller has to wait, or has the reply 0 with WNOHANG
abbrev pub reply_if : Bool → Option Reply
reply_if nohang = if nohang then Some (replies.Num 0) else None

abbrev pub reply_to : Bool → Waited → Option Reply
reply_to nohang (Child pid ending) = Some (replies.Child pid ending)
reply_to nohang NotYet = reply_if nohang
