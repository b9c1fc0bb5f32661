-- Reading a line from left to right, as the code does. What a line means is said by `Grammar`.
use Rattle.std.specs.Prelude.{ℕ, ◌+◌, ℤ, pos, Bool, true, false, nat_le, ◌&&◌, List, [], ◌∷◌, codes, bytes_eq, position, if◌then◌else◌, Option, Some, None, option_map}
use Rattle.std.specs.Option.{option_map_or}
use Rattle.pico_base.specs.declared.call.Call.{Call}
use Rattle.pico_base.specs.declared.call.Call.TheVariants as calls
use Rattle.pico_base.specs.declared.call.SemStep.{SemStep}
use Rattle.pico_base.specs.declared.numbers.Name.{Name}
use Rattle.pico_base.specs.declared.numbers.Name.TheVariants.{Proc, Msg, Sem}
use Rattle.pico_base.specs.declared.reply.Reply.{Reply}
use Rattle.pico_base.specs.declared.reply.Reply.TheVariants as replies
use Rattle.pico_base.specs.declared.reply.Ending.TheVariants as endings
use Rattle.pico_base.specs.declared.reply.Entry.{Entry}
use Rattle.pico_base.specs.declared.reply.Errno.{Errno}
use Rattle.pico_base.specs.declared.signal.PerSignal.{PerSignal}
use Rattle.pico_base.specs.declared.script.Script.{Script}
use Rattle.pico_base.specs.Options.{◌>>=◌}
use Rattle.kernel_model.specs.Trace.{entry_line}
use Rattle.call_words.specs.Verbs.{verb_of}
use Rattle.call_words.specs.declared.verb.Verb.{Verb}
use Rattle.call_words.specs.declared.verb.Verb.TheVariants as verbs
use Rattle.quoted_bytes.specs.Front.{strip}
use Rattle.trace_text.specs.Grammar.{is_entry}
use Rattle.text_fields.specs.Fields.{number_at, signed_at, word_at, flag_at, signal_at, argument_at, action_at, how_at, error_at, all_at, steps_at, values_at, set_at, text_at}

-- a part of a line, with what follows it
abbrev pub Part : Type 0 → Type 0
Part A = Option (A × List ℕ)

-- Arguments behind the call's name and a blank.

-- the block of a name
abbrev pub block_named : Script → List ℕ → Option ℕ
block_named script name = option_map (λ k. k + 1) (position (λ block. bytes_eq block.name name) script.blocks)

unfoldable pub fork_at : Script → List ℕ → Part Call
fork_at script bytes =
    let word = word_at bytes in option_map (λ block. (calls.Fork block, word.1)) (block_named script word.0)

unfoldable pub exit_at : List ℕ → Part Call
exit_at bytes = do
  status ← number_at 65535 bytes
  Some (calls.Exit status.0, status.1)

unfoldable pub killed_at : List ℕ → Part Call
killed_at bytes = do
  sig ← signal_at bytes
  Some (calls.Killed sig.0, sig.1)

unfoldable pub handled_at : List ℕ → Part Call
handled_at bytes = do
  sig ← signal_at bytes
  Some (calls.Handled sig.0, sig.1)

unfoldable pub kill_at : List ℕ → Part Call
kill_at bytes = do
  pid ← number_at 4294967295 bytes
  rest ← strip (codes " ") pid.1
  sig ← argument_at rest
  Some (calls.Kill pid.0 sig.0, sig.1)

unfoldable pub sigaction_at : List ℕ → Part Call
sigaction_at bytes = do
  sig ← argument_at bytes
  rest ← strip (codes " ") sig.1
  act ← action_at rest
  Some (calls.SigAction sig.0 act.0, act.1)

unfoldable pub sigprocmask_at : List ℕ → Part Call
sigprocmask_at bytes = do
  how ← how_at bytes
  rest ← strip (codes " ") how.1
  set ← set_at rest
  Some (calls.SigProcMask how.0 set.0, set.1)

-- `any`, or a process
unfoldable pub child_at : List ℕ → Part (Option ℕ)
child_at bytes =
    option_map_or (λ rest. Some (None, rest)) (strip (codes "any") bytes)
    (option_map (λ (pid : ℕ × List ℕ). (Some pid.0, pid.1)) (number_at 4294967295 bytes))

abbrev pub waitpid_of : Option ℕ → Bool × List ℕ → Call × List ℕ
waitpid_of child nohang = (calls.WaitPid child nohang.0, nohang.1)

unfoldable pub waitpid_at : List ℕ → Part Call
waitpid_at bytes = do
  child ← child_at bytes
  Some (waitpid_of child.0 (flag_at (codes " nohang") child.1))

-- `create` and `excl`
abbrev pub options_of : Bool → Bool × List ℕ → (Bool × Bool) × List ℕ
options_of create excl = ((create, excl.0), excl.1)

unfoldable pub options_at : List ℕ → (Bool × Bool) × List ℕ
options_at bytes =
    let create = flag_at (codes " create") bytes in options_of create.0 (flag_at (codes " excl") create.1)

abbrev pub msgget_of : ℕ → (Bool × Bool) × List ℕ → Call × List ℕ
msgget_of key options = (calls.MsgGet (Some key) options.0.0 options.0.1, options.1)

unfoldable pub msgget_key_at : List ℕ → Part Call
msgget_key_at bytes = do
  key ← number_at 4294967295 bytes
  Some (msgget_of key.0 (options_at key.1))

unfoldable pub msgget_at : List ℕ → Part Call
msgget_at bytes =
    option_map_or (λ rest. Some (calls.MsgGet None false false, rest)) (strip (codes "private") bytes)
    (msgget_key_at bytes)

-- a number and a message's type, and the blank behind them
unfoldable pub object_at : List ℕ → Part (ℕ × ℤ)
object_at bytes = do
  id ← number_at 4294967295 bytes
  front ← strip (codes " ") id.1
  class ← signed_at 2147483647 front
  rest ← strip (codes " ") class.1
  Some ((id.0, class.0), rest)

abbrev pub msgsnd_of : ℕ × ℤ → List ℕ → Bool × List ℕ → Call × List ℕ
msgsnd_of object text nowait = (calls.MsgSnd object.0 object.1 text nowait.0, nowait.1)

unfoldable pub msgsnd_at : List ℕ → Part Call
msgsnd_at bytes = do
  object ← object_at bytes
  text ← text_at object.1
  Some (msgsnd_of object.0 text.0 (flag_at (codes " nowait") text.1))

abbrev pub msgrcv_call : ℕ × ℤ → ℕ → Bool → Bool × List ℕ → Call × List ℕ
msgrcv_call object size noerror nowait = (calls.MsgRcv object.0 object.1 size noerror nowait.0, nowait.1)

abbrev pub msgrcv_of : ℕ × ℤ → ℕ → Bool × List ℕ → Call × List ℕ
msgrcv_of object size noerror = msgrcv_call object size noerror.0 (flag_at (codes " nowait") noerror.1)

unfoldable pub msgrcv_at : List ℕ → Part Call
msgrcv_at bytes = do
  object ← object_at bytes
  size ← number_at 65535 object.1
  Some (msgrcv_of object.0 size.0 (flag_at (codes " noerror") size.1))

unfoldable pub msgset_at : ℕ → List ℕ → Part Call
msgset_at id bytes = do
  front ← strip (codes " set ") bytes
  qbytes ← number_at 65535 front
  Some (calls.MsgSet id qbytes.0, qbytes.1)

unfoldable pub queue_command_at : ℕ → List ℕ → Part Call
queue_command_at id bytes =
    option_map_or (λ rest. Some (calls.MsgStat id, rest)) (strip (codes " stat") bytes)
    (option_map_or (λ rest. Some (calls.MsgRmid id, rest)) (strip (codes " rmid") bytes) (msgset_at id bytes))

unfoldable pub msgctl_at : List ℕ → Part Call
msgctl_at bytes = do
  id ← number_at 4294967295 bytes
  queue_command_at id.0 id.1

abbrev pub semget_of : ℕ → ℕ → (Bool × Bool) × List ℕ → Call × List ℕ
semget_of key count options = (calls.SemGet (Some key) count options.0.0 options.0.1, options.1)

unfoldable pub semget_key_at : List ℕ → Part Call
semget_key_at bytes = do
  key ← number_at 4294967295 bytes
  front ← strip (codes " ") key.1
  count ← number_at 65535 front
  Some (semget_of key.0 count.0 (options_at count.1))

unfoldable pub semget_private_at : List ℕ → Part Call
semget_private_at bytes = do
  count ← number_at 65535 bytes
  Some (calls.SemGet None count.0 false false, count.1)

unfoldable pub semget_at : List ℕ → Part Call
semget_at bytes = option_map_or semget_private_at (strip (codes "private ") bytes) (semget_key_at bytes)

abbrev pub semop_of : ℕ → List SemStep × List ℕ → Call × List ℕ
semop_of id steps = (calls.SemOp id steps.0, steps.1)

unfoldable pub semop_at : List ℕ → Part Call
semop_at bytes = do
  id ← number_at 4294967295 bytes
  Some (semop_of id.0 (steps_at id.1))

-- a command on one semaphore
unfoldable pub semaphore_at : (ℕ → Call) → List ℕ → Part Call
semaphore_at call bytes = do
  num ← number_at 65535 bytes
  Some (call num.0, num.1)

unfoldable pub setval_at : ℕ → List ℕ → Part Call
setval_at id bytes = do
  num ← number_at 65535 bytes
  front ← strip (codes " ") num.1
  value ← number_at 65535 front
  Some (calls.SemSetVal id num.0 value.0, value.1)

unfoldable pub setall_at : ℕ → List ℕ → Part Call
setall_at id bytes = do
  values ← values_at 65535 bytes
  Some (calls.SemSetAll id values.0, values.1)

unfoldable pub set_command_at : ℕ → List ℕ → Part Call
set_command_at id bytes =
    option_map_or (λ rest. Some (calls.SemGetAll id, rest)) (strip (codes " getall") bytes)
    (option_map_or (λ rest. Some (calls.SemRmid id, rest)) (strip (codes " rmid") bytes)
    (option_map_or (semaphore_at (calls.SemGetVal id)) (strip (codes " getval ") bytes)
    (option_map_or (semaphore_at (calls.SemGetPid id)) (strip (codes " getpid ") bytes)
    (option_map_or (semaphore_at (calls.SemGetNcnt id)) (strip (codes " getncnt ") bytes)
    (option_map_or (semaphore_at (calls.SemGetZcnt id)) (strip (codes " getzcnt ") bytes)
    (option_map_or (setval_at id) (strip (codes " setval ") bytes)
    (option_map_or (setall_at id) (strip (codes " setall ") bytes) None)))))))

unfoldable pub semctl_at : List ℕ → Part Call
semctl_at bytes = do
  id ← number_at 4294967295 bytes
  set_command_at id.0 id.1

-- Calls. What follows the call's name begins with a blank.

abbrev pub arguments_at : Script → Verb → List ℕ → Part Call
arguments_at script verbs.Fork bytes = fork_at script bytes
arguments_at script verbs.Exit bytes = exit_at bytes
arguments_at script verbs.Kill bytes = kill_at bytes
arguments_at script verbs.SigAction bytes = sigaction_at bytes
arguments_at script verbs.SigProcMask bytes = sigprocmask_at bytes
arguments_at script verbs.Handled bytes = handled_at bytes
arguments_at script verbs.WaitPid bytes = waitpid_at bytes
arguments_at script verbs.MsgGet bytes = msgget_at bytes
arguments_at script verbs.MsgSnd bytes = msgsnd_at bytes
arguments_at script verbs.MsgRcv bytes = msgrcv_at bytes
arguments_at script verbs.MsgCtl bytes = msgctl_at bytes
arguments_at script verbs.SemGet bytes = semget_at bytes
arguments_at script verbs.SemOp bytes = semop_at bytes
arguments_at script verbs.SemCtl bytes = semctl_at bytes
arguments_at script verbs.GetPid bytes = None
arguments_at script verbs.SigPending bytes = None

abbrev pub call_by : Script → Verb → List ℕ → Part Call
call_by script verbs.GetPid rest = Some (calls.GetPid, rest)
call_by script verbs.SigPending rest = Some (calls.SigPending, rest)
call_by script verbs.Fork rest = strip (codes " ") rest >>= arguments_at script verbs.Fork
call_by script verbs.Exit rest = strip (codes " ") rest >>= arguments_at script verbs.Exit
call_by script verbs.Kill rest = strip (codes " ") rest >>= arguments_at script verbs.Kill
call_by script verbs.SigAction rest = strip (codes " ") rest >>= arguments_at script verbs.SigAction
call_by script verbs.SigProcMask rest = strip (codes " ") rest >>= arguments_at script verbs.SigProcMask
call_by script verbs.Handled rest = strip (codes " ") rest >>= arguments_at script verbs.Handled
call_by script verbs.WaitPid rest = strip (codes " ") rest >>= arguments_at script verbs.WaitPid
call_by script verbs.MsgGet rest = strip (codes " ") rest >>= arguments_at script verbs.MsgGet
call_by script verbs.MsgSnd rest = strip (codes " ") rest >>= arguments_at script verbs.MsgSnd
call_by script verbs.MsgRcv rest = strip (codes " ") rest >>= arguments_at script verbs.MsgRcv
call_by script verbs.MsgCtl rest = strip (codes " ") rest >>= arguments_at script verbs.MsgCtl
call_by script verbs.SemGet rest = strip (codes " ") rest >>= arguments_at script verbs.SemGet
call_by script verbs.SemOp rest = strip (codes " ") rest >>= arguments_at script verbs.SemOp
call_by script verbs.SemCtl rest = strip (codes " ") rest >>= arguments_at script verbs.SemCtl

-- a withdrawal from what has this number
unfoldable pub withdrawal_from_at : (ℕ → Name) → List ℕ → Part Call
withdrawal_from_at name bytes = do
  number ← number_at 4294967295 bytes
  Some (calls.Withdraw (name number.0), number.1)

unfoldable pub withdrawal_at : List ℕ → Part Call
withdrawal_at bytes =
    option_map_or (withdrawal_from_at Msg) (strip (codes "msg ") bytes)
    (option_map_or (withdrawal_from_at Sem) (strip (codes "sem ") bytes)
    (option_map_or (withdrawal_from_at Proc) (strip (codes "proc ") bytes) None))

-- what no script calls, where this is its word: the end by a signal and the end of a wait stand in a call's place
unfoldable pub no_call_at : List ℕ → List ℕ → Part Call
no_call_at word rest =
    if bytes_eq word (codes "killed") then strip (codes " ") rest >>= killed_at else
    if bytes_eq word (codes "withdraw") then strip (codes " ") rest >>= withdrawal_at else None

unfoldable pub call_at : Script → List ℕ → Part Call
call_at script bytes =
    let word = word_at bytes in
    option_map_or (λ verb. call_by script verb word.1) (verb_of word.0) (no_call_at word.0 word.1)

-- Replies.

-- behind a number: how a child ended, a message's text, or nothing
unfoldable pub exited_at : ℕ → List ℕ → Part Reply
exited_at n bytes = do
  status ← number_at 255 bytes
  Some (replies.Child n (endings.Exited status.0), status.1)

unfoldable pub ended_by_at : ℕ → List ℕ → Part Reply
ended_by_at n bytes = do
  sig ← signal_at bytes
  Some (replies.Child n (endings.Killed sig.0), sig.1)

unfoldable pub message_at : ℤ → List ℕ → Part Reply
message_at class bytes = do
  front ← strip (codes " ") bytes
  text ← text_at front
  Some (replies.Message class text.0, text.1)

abbrev pub or_number : ℕ → List ℕ → Part Reply → Part Reply
or_number n rest None = Some (replies.Num n, rest)
or_number n rest (Some message) = Some message

unfoldable pub numbered_at : ℕ → List ℕ → Part Reply
numbered_at n bytes =
    option_map_or (exited_at n) (strip (codes " exited ") bytes)
    (option_map_or (ended_by_at n) (strip (codes " killed ") bytes)
    (if nat_le n 2147483647 then or_number n bytes (message_at (pos n) bytes) else Some (replies.Num n, bytes)))

unfoldable pub negative_at : List ℕ → Part Reply
negative_at bytes = do
  class ← signed_at 2147483647 bytes
  message_at class.0 class.1

unfoldable pub stat_at : List ℕ → Part Reply
stat_at bytes = do
  qnum ← number_at 4294967295 bytes
  rest ← strip (codes " qbytes ") qnum.1
  qbytes ← number_at 4294967295 rest
  rest ← strip (codes " lspid ") qbytes.1
  lspid ← number_at 4294967295 rest
  rest ← strip (codes " lrpid ") lspid.1
  lrpid ← number_at 4294967295 rest
  Some (replies.Stat qnum.0 qbytes.0 lspid.0 lrpid.0, lrpid.1)

unfoldable pub all_values_at : List ℕ → Part Reply
all_values_at bytes = do
  values ← values_at 4294967295 bytes
  Some (replies.All values.0, values.1)

abbrev pub or_set : List ℕ → Part Errno → Part Reply
or_set bytes None = option_map (λ (set : PerSignal Bool × List ℕ). (replies.Bits set.0, set.1)) (set_at bytes)
or_set bytes (Some e) = Some (replies.Fail e.0, e.1)

-- a reply that begins with no number
unfoldable pub word_reply_at : List ℕ → Part Reply
word_reply_at bytes =
    option_map_or (λ rest. Some (replies.Ended, rest)) (strip (codes "ended") bytes)
    (option_map_or all_values_at (strip (codes "all ") bytes)
    (option_map_or stat_at (strip (codes "qnum ") bytes)
    (option_map_or (λ _. negative_at bytes) (strip (codes "-") bytes) (or_set bytes (error_at bytes)))))

abbrev pub reply_of : List ℕ → Part ℕ → Part Reply
reply_of bytes None = word_reply_at bytes
reply_of bytes (Some n) = numbered_at n.0 n.1

unfoldable pub reply_at : List ℕ → Part Reply
reply_at bytes = reply_of bytes (number_at 4294967295 bytes)

-- Lines, without the line feed.

abbrev pub has_ended : List ℕ → Bool
has_ended [] = true
has_ended (b ∷ bytes) = false

-- who made the call, and the call
unfoldable pub made_at : Script → List ℕ → Part (ℕ × Call)
made_at script bytes = do
  pid ← number_at 4294967295 bytes
  front ← strip (codes " ") pid.1
  call ← call_at script front
  Some ((pid.0, call.0), call.1)

abbrev pub or_parked : List ℕ → Part Reply → Part (Option Reply)
or_parked bytes None = option_map (λ rest. (None, rest)) (strip (codes "parked") bytes)
or_parked bytes (Some reply) = Some (Some reply.0, reply.1)

-- the caller's own reply, or `parked` where it has none yet
unfoldable pub own_at : List ℕ → Part (Option Reply)
own_at bytes = or_parked bytes (reply_at bytes)

-- who carried it out
unfoldable pub by_at : List ℕ → Part ℕ
by_at bytes = do
  front ← strip (codes " by ") bytes
  node ← number_at 32 front
  if nat_le 1 node.0 then Some node else None

-- a caller that is woken, and its reply
unfoldable pub wake_at : List ℕ → Part (ℕ × Reply)
wake_at bytes = do
  front ← strip (codes " wakes ") bytes
  pid ← number_at 4294967295 front
  rest ← strip (codes " ") pid.1
  reply ← reply_at rest
  Some ((pid.0, reply.0), reply.1)

-- all callers that are woken, in their order
abbrev pub wakes_at : List ℕ → List (ℕ × Reply) × List ℕ
wakes_at bytes = all_at wake_at bytes

abbrev pub entry_of : ℕ × Call → Option Reply → ℕ → List (ℕ × Reply) → Entry
entry_of made own node woken =
    record { pid = made.0; call = made.1; outcome = record { own = own; woken = woken }; by = node }

-- an entry, where nothing follows the callers that are woken
abbrev pub ended_entry : ℕ × Call → Option Reply → ℕ → List (ℕ × Reply) × List ℕ → Option Entry
ended_entry made own node wakes = if has_ended wakes.1 then Some (entry_of made own node wakes.0) else None

abbrev pub replied_at : ℕ × Call → List ℕ → Option Entry
replied_at made bytes = do
  front ← strip (codes " = ") bytes
  own ← own_at front
  node ← by_at own.1
  ended_entry made own.0 node.0 (wakes_at node.1)

unfoldable pub entry_at : Script → List ℕ → Option Entry
entry_at script bytes = do
  made ← made_at script bytes
  replied_at made.0 made.1

-- the printed line is this one and a line feed
abbrev pub is_line : List ℕ → List ℕ → Bool
is_line printed line = option_map_or (λ rest. bytes_eq rest (10 ∷ [])) (strip line printed) false

-- the entry whose text the line is
abbrev pub entry_if : Script → List ℕ → Entry → Option Entry
entry_if script line e = if is_entry script e && is_line (entry_line script e) line then Some e else None

unfoldable pub entry_in : Script → List ℕ → Option Entry
entry_in script line = entry_at script line >>= entry_if script line
