-- A call of a process on its own row.
use Rattle.std.specs.Prelude.{◌≡◌, ℕ, Bool, true, false, if◌then◌else◌, Option, Some, None}
use Rattle.std.specs.Option.{option_and_then}
use Rattle.pico_base.specs.declared.call.Call.{Call}
use Rattle.pico_base.specs.declared.call.Call.TheVariants as calls
use Rattle.pico_base.specs.declared.numbers.Name.TheVariants.{Proc}
use Rattle.pico_base.specs.declared.reply.Reply.{Reply}
use Rattle.fork_wait.specs.Children.{is_child}
use Rattle.waiting_model.specs.declared.callers.Waiting.{Waiting}
use Rattle.node_model.specs.Awaiting.{on_own, on_whole}
use Rattle.node_model.specs.Carrying.{is_own}
use Rattle.node_model.specs.Kinds.{Named, get_named, put_named}
use Rattle.serve_laws.specs.Served.{MakesOwn}
use Rattle.node_serve.specs.declared.body.Body.{Body}
use Rattle.node_serve.specs.declared.body.Body.TheVariants.{Living}
use Rattle.node_serve.specs.declared.prompt.Replied.{Replied}
use Rattle.node_serve.specs.Bodies.{body_of, row_of}
use Rattle.node_serve.specs.Prompt.{IsAnswered}
use Rattle.node_serve.specs.Waits.{alone}

-- The call is carried out on its caller's row. A call that makes something or ends its process is another matter, and
-- so is a withdrawal.
abbrev pub is_on_own_row : ℕ → Call → Bool
is_on_own_row caller calls.GetPid = true
is_on_own_row caller (calls.Kill target sig) = is_own caller (calls.Kill target sig)
is_on_own_row caller (calls.SigAction sig act) = true
is_on_own_row caller (calls.SigProcMask how set) = true
is_on_own_row caller calls.SigPending = true
is_on_own_row caller (calls.Handled sig) = true
is_on_own_row caller (calls.WaitPid child nohang) = true
is_on_own_row caller call = false

-- ---- the reply

-- The reply that the call is due on this body: the one that the kernel gives on the row of a living process. None: the
-- process doesn't live, or is its own child, or the call has to wait, as `waitpid` without WNOHANG does where only
-- living children match.
unfoldable pub reply_on_body : Body → Waiting → Option Reply
reply_on_body (Living row) who =
    if is_child row.family who.pid then None else (on_own (row_of row) who.pid who.call).own
reply_on_body body who = None

-- and on the body of its process, where that is held
abbrev pub reply_on_held : Named Body → Waiting → Option Reply
reply_on_held old who = option_and_then (λ body. reply_on_body body who) (get_named old (Proc who.pid))

-- The reply that a call is due on its caller's own row. None, too, for a call that isn't carried out there, and where
-- the process isn't held.
unfoldable pub own_reply : Named Body → Waiting → Option Reply
own_reply old who = if is_on_own_row who.pid who.call then reply_on_held old who else None

-- ---- what it leaves

-- The process lives and isn't its own child, and the call leaves this body and has this reply.
pub record IsOwn (old : Body) (who : Waiting) (new : Body) (reply : Reply) : Type 0 where
  pub makes : MakesOwn who.pid (body_of old)
  pub does : on_whole (Proc who.pid) (body_of old) who ≡ alone (body_of new) (Some reply)

-- or all stays
abbrev pub OwnOr : Body → Waiting → Body → Option Reply → Type 0
OwnOr old who new None = new ≡ old
OwnOr old who new (Some reply) = IsOwn old who new reply

-- The row is held, and the call is carried out on it.
pub record HasOwn (old : Named Body) (who : Waiting) (new : Named Body) (reply : Reply) : Type 0 where
  pub body : Body
  pub left : Body
  pub held : get_named old (Proc who.pid) ≡ Some body
  pub does : IsOwn body who left reply
  pub after : new ≡ put_named old (Proc who.pid) left

-- or all stays
abbrev pub HasOwnOr : Named Body → Waiting → Named Body → Option Reply → Type 0
HasOwnOr old who new None = new ≡ old
HasOwnOr old who new (Some reply) = HasOwn old who new reply

-- a call on a row reads nothing
abbrev pub unread : Reply → Replied
unread reply = record { reply = reply; reads = false }

-- Where the row is held and its process lives and isn't its own child, a call that needn't wait has its reply. Else all
-- stays.
abbrev pub AnswersOwnOr : Named Body → Waiting → Named Body → Option Reply → Type 0
AnswersOwnOr old who new None = new ≡ old
AnswersOwnOr old who new (Some reply) = IsAnswered old (Proc who.pid) who new (unread reply)
