-- A call that has its reply at once, on a name at which nobody waits.
use Rattle.std.specs.Prelude.{◌≡◌, ℕ, Bool, true, false, List, [], ◌++◌, Option, Some, None, IsTrue}
use Rattle.pico_base.specs.declared.call.Call.{Call}
use Rattle.pico_base.specs.declared.numbers.Name.{Name}
use Rattle.pico_base.specs.declared.reply.Reply.{Reply}
use Rattle.kernel_model.specs.Queue.{Queue}
use Rattle.kernel_model.specs.SemaphoreSet.{SemaphoreSet}
use Rattle.waiting_model.specs.declared.callers.Waiting.{Waiting}
use Rattle.waiting_model.specs.Queue.{try_queue}
use Rattle.waiting_model.specs.SemaphoreSet.{try_set}
use Rattle.waiting_model.specs.Waiters.{Attempt, Awaited, attempt}
use Rattle.node_model.specs.Awaiting.{on_whole}
use Rattle.node_model.specs.Bodies.{fits_name}
use Rattle.node_model.specs.Carrying.{is_own}
use Rattle.node_model.specs.Kinds.{Named, get_named, put_all, put_named}
use Rattle.node_model.specs.Serving as definition
use Rattle.node_model.specs.Serving.{admits, caller_if, has_read, name_for}
use Rattle.node_serve.specs.declared.body.Body.{Body}
use Rattle.node_serve.specs.declared.prompt.Replied.{Replied}
use Rattle.node_serve.specs.Bodies.{bodies_of, body_of}
use Rattle.node_serve.specs.Serving.{admits_at, child_in, may_be_served}

-- ---- a call on a queue or a set

-- The try gives this reply, to a call that reads by it or doesn't, and leaves this.
pub record Goes {V : Type 0} (tried : Option (Attempt V)) (reads : Reply → Bool) (new : Awaited V) (at : Replied)
    : Type 0 where
  pub gives : tried ≡ Some (attempt new.state at.reply)
  pub read : at.reads ≡ reads at.reply
  pub childless : child_in (Some at.reply) ≡ None
  pub still : new.waiters ≡ []

-- or all stays
abbrev pub GoesOr : {V : Type 0} → Awaited V → Option (Attempt V) → (Reply → Bool) → Awaited V → Option Replied
    → Type 0
GoesOr old tried reads new None = new ≡ old
GoesOr old tried reads new (Some at) = Goes tried reads new at

-- ---- a call on a body

-- The call goes on on the body, and leaves this one.
pub record IsPrompt (name : Name) (old : Body) (who : Waiting) (new : Body) (at : Replied) : Type 0 where
  pub names : name_for who.pid who.call ≡ Some name
  pub served : may_be_served who.call ≡ true
  pub admitted : admits (body_of old) who ≡ true
  pub fits : fits_name name (body_of old) ≡ true
  pub others : is_own who.pid who.call ≡ false
  pub does : on_whole name (body_of old) who ≡ record { left = body_of new; own = Some at.reply; wakes = [] }
  pub read : at.reads ≡ has_read who.call at.reply
  pub childless : child_in (Some at.reply) ≡ None

-- or it is left to others, and all stays
abbrev pub PromptOr : Name → Body → Waiting → Body → Option Replied → Type 0
PromptOr name old who new None = new ≡ old
PromptOr name old who new (Some at) = IsPrompt name old who new at

-- ---- a call on a name

-- The deeds, the reply, that nobody is woken, and which node reads are those of a call that is served, which the name
-- admits.
pub record IsAnswered (old : Named Body) (name : Name) (who : Waiting) (new : Named Body) (at : Replied) : Type 0 where
  pub served : definition.Served
  pub admitted : admits_at (bodies_of old) who (Some name) ≡ true
  pub is : definition.serve (bodies_of old) who ≡ Some served
  pub after : bodies_of new ≡ put_all (bodies_of old) served.changes
  pub replies : Some at.reply ≡ served.own
  pub woken : [] ≡ served.wakes
  pub read : caller_if at.reads who.caller ++ [] ≡ served.readers

-- Where nobody waits at the name and the call needn't wait, it may have its reply at once. Else all stays.
abbrev pub AnswersOr : Named Body → Name → Waiting → Named Body → Option Replied → Type 0
AnswersOr old name who new None = new ≡ old
AnswersOr old name who new (Some at) = IsAnswered old name who new at
