-- The calls of a script by their words. `VAR =` and `try N` in front of them are said by `Says`.
use Rattle.std.specs.Prelude.{ℕ, Bool, true, false, ◌&&◌, List, [], ◌∷◌, codes, bytes_eq, if◌then◌else◌, Option, Some, None, option_map}
use Rattle.pico_base.specs.declared.call.Call.{Call}
use Rattle.pico_base.specs.declared.call.Call.TheVariants as calls
use Rattle.pico_base.specs.Options.{◌>>=◌}
use Rattle.quoted_bytes.specs.Front.{strip}
use Rattle.call_words.specs.declared.verb.Verb.{Verb}
use Rattle.call_words.specs.declared.verb.Verb.TheVariants as verbs
use Rattle.script_reader.specs.Parts.{number, positive, signed, variable, signal, signal_argument, action, how, signal_set, text, step, each, values}

-- ---- arguments

-- a call, and the variable whose value stands in place of its process number or identifier
abbrev pub FromCall : Type 0
FromCall = Option ℕ × Call

abbrev pub plainly : Call → FromCall
plainly call = (None, call)

-- a variable, or the number in its place
abbrev pub Object : Type 0
Object = Option ℕ × ℕ

abbrev pub variable_object : ℕ → Object
variable_object v = (Some v, 0)

abbrev pub number_object : ℕ → Object
number_object n = (None, n)

abbrev pub identifier_from : Option (List ℕ) → List ℕ → Option Object
identifier_from (Some name) word = option_map variable_object (variable name)
identifier_from None word = option_map number_object (number 4294967295 word)

-- `$VAR`, or an identifier
unfoldable pub identifier : List ℕ → Option Object
identifier word = identifier_from (strip (codes "$") word) word

abbrev pub process_from : Option (List ℕ) → List ℕ → Option Object
process_from (Some name) word = option_map variable_object (variable name)
process_from None word = option_map number_object (positive 4294967295 word)

-- `$VAR`, or a process number, which isn't 0
unfoldable pub process : List ℕ → Option Object
process word = process_from (strip (codes "$") word) word

-- no word, or this one
unfoldable pub optional : List ℕ → List (List ℕ) → Option Bool
optional word [] = Some false
optional word (w ∷ []) = if bytes_eq w word then Some true else None
optional word _ = None

-- at most these two words, in this order
unfoldable pub two_optional : List ℕ → List ℕ → List (List ℕ) → Option (Bool × Bool)
two_optional first second [] = Some (false, false)
two_optional first second (w ∷ []) =
    if bytes_eq w first
    then Some (true, false)
    else if bytes_eq w second then Some (false, true) else None
two_optional first second (v ∷ w ∷ []) =
    if bytes_eq v first && bytes_eq w second then Some (true, true) else None
two_optional first second _ = None

-- ---- processes and signals

-- `exit N`
unfoldable pub exit_of : List (List ℕ) → Option FromCall
exit_of (n ∷ []) = option_map (λ status. plainly (calls.Exit status)) (number 65535 n)
exit_of _ = None

-- `getpid`
unfoldable pub getpid_of : List (List ℕ) → Option FromCall
getpid_of [] = Some (plainly calls.GetPid)
getpid_of _ = None

-- `sigpending`
unfoldable pub sigpending_of : List (List ℕ) → Option FromCall
sigpending_of [] = Some (plainly calls.SigPending)
sigpending_of _ = None

-- `kill P G`
unfoldable pub kill_of : List (List ℕ) → Option FromCall
kill_of (p ∷ g ∷ []) = do
  object ← process p
  sig ← signal_argument g
  Some (object.0, calls.Kill object.1 sig)
kill_of _ = None

-- `sigaction G A`
unfoldable pub sigaction_of : List (List ℕ) → Option FromCall
sigaction_of (g ∷ a ∷ []) = do
  sig ← signal_argument g
  act ← action a
  Some (plainly (calls.SigAction sig act))
sigaction_of _ = None

-- `sigprocmask H M`
unfoldable pub sigprocmask_of : List (List ℕ) → Option FromCall
sigprocmask_of (h ∷ m ∷ []) = do
  way ← how h
  set ← signal_set m
  Some (plainly (calls.SigProcMask way set))
sigprocmask_of _ = None

-- `handled G`
unfoldable pub handled_of : List (List ℕ) → Option FromCall
handled_of (g ∷ []) = option_map (λ sig. plainly (calls.Handled sig)) (signal g)
handled_of _ = None

-- `any`, or a process
abbrev pub Child : Type 0
Child = Option ℕ × Option ℕ

abbrev pub one_child : Object → Child
one_child object = (object.0, Some object.1)

unfoldable pub child : List ℕ → Option Child
child word = if bytes_eq word (codes "any") then Some (None, None) else option_map one_child (process word)

-- `waitpid W [nohang]`
unfoldable pub waitpid_of : List (List ℕ) → Option FromCall
waitpid_of (w ∷ more) = do
  whom ← child w
  nohang ← optional (codes "nohang") more
  Some (whom.0, calls.WaitPid whom.1 nohang)
waitpid_of _ = None

-- ---- message queues

unfoldable pub keyed_queue : List ℕ → List (List ℕ) → Option FromCall
keyed_queue k more = do
  key ← positive 4294967295 k
  flags ← two_optional (codes "create") (codes "excl") more
  Some (plainly (calls.MsgGet (Some key) flags.0 flags.1))

unfoldable pub private_queue : List (List ℕ) → Option FromCall
private_queue [] = Some (plainly (calls.MsgGet None false false))
private_queue _ = None

-- `msgget private`, `msgget K [create] [excl]`
unfoldable pub msgget_of : List (List ℕ) → Option FromCall
msgget_of (k ∷ more) = if bytes_eq k (codes "private") then private_queue more else keyed_queue k more
msgget_of _ = None

-- `msgsnd Q T X [nowait]`
unfoldable pub msgsnd_of : List (List ℕ) → Option FromCall
msgsnd_of (q ∷ t ∷ x ∷ more) = do
  object ← identifier q
  class ← signed 2147483647 t
  nowait ← optional (codes "nowait") more
  bytes ← text x
  Some (object.0, calls.MsgSnd object.1 class bytes nowait)
msgsnd_of _ = None

-- `msgrcv Q T Z [noerror] [nowait]`
unfoldable pub msgrcv_of : List (List ℕ) → Option FromCall
msgrcv_of (q ∷ t ∷ z ∷ more) = do
  object ← identifier q
  class ← signed 2147483647 t
  size ← number 65535 z
  flags ← two_optional (codes "noerror") (codes "nowait") more
  Some (object.0, calls.MsgRcv object.1 class size flags.0 flags.1)
msgrcv_of _ = None

-- `stat`, `set B` and `rmid`, behind the queue
unfoldable pub queue_command : ℕ → List (List ℕ) → Option Call
queue_command id (c ∷ []) =
    if bytes_eq c (codes "stat")
    then Some (calls.MsgStat id)
    else if bytes_eq c (codes "rmid") then Some (calls.MsgRmid id) else None
queue_command id (c ∷ b ∷ []) =
    if bytes_eq c (codes "set") then option_map (λ qbytes. calls.MsgSet id qbytes) (number 65535 b) else None
queue_command id _ = None

-- `msgctl Q stat`, `msgctl Q set B`, `msgctl Q rmid`
unfoldable pub msgctl_of : List (List ℕ) → Option FromCall
msgctl_of (q ∷ more) = do
  object ← identifier q
  call ← queue_command object.1 more
  Some (object.0, call)
msgctl_of _ = None

-- ---- semaphore sets

unfoldable pub keyed_set : List ℕ → List ℕ → List (List ℕ) → Option FromCall
keyed_set k n more = do
  key ← positive 4294967295 k
  count ← number 65535 n
  flags ← two_optional (codes "create") (codes "excl") more
  Some (plainly (calls.SemGet (Some key) count flags.0 flags.1))

unfoldable pub private_set : List ℕ → List (List ℕ) → Option FromCall
private_set n [] = option_map (λ count. plainly (calls.SemGet None count false false)) (number 65535 n)
private_set n _ = None

-- `semget private N`, `semget K N [create] [excl]`
unfoldable pub semget_of : List (List ℕ) → Option FromCall
semget_of (k ∷ n ∷ more) = if bytes_eq k (codes "private") then private_set n more else keyed_set k n more
semget_of _ = None

-- `semop S OPS`
unfoldable pub semop_of : List (List ℕ) → Option FromCall
semop_of (s ∷ o ∷ more) = do
  object ← identifier s
  steps ← each step (o ∷ more)
  Some (object.0, calls.SemOp object.1 steps)
semop_of _ = None

-- `getall` and `rmid`, behind the set
unfoldable pub whole_set : ℕ → List ℕ → Option Call
whole_set id c =
    if bytes_eq c (codes "getall")
    then Some (calls.SemGetAll id)
    else if bytes_eq c (codes "rmid") then Some (calls.SemRmid id) else None

-- `getval I`, `getpid I`, `getncnt I` and `getzcnt I`
unfoldable pub semaphore_of : ℕ → List ℕ → ℕ → Option Call
semaphore_of id c num =
    if bytes_eq c (codes "getval")
    then Some (calls.SemGetVal id num)
    else
    if bytes_eq c (codes "getpid")
    then Some (calls.SemGetPid id num)
    else
    if bytes_eq c (codes "getncnt")
    then Some (calls.SemGetNcnt id num)
    else if bytes_eq c (codes "getzcnt") then Some (calls.SemGetZcnt id num) else None

-- those, and `setall VALUES`
unfoldable pub one_argument : ℕ → List ℕ → List ℕ → Option Call
one_argument id c i =
    if bytes_eq c (codes "setall")
    then option_map (λ all. calls.SemSetAll id all) (values i)
    else number 65535 i >>= semaphore_of id c

-- `setval I V`
unfoldable pub set_value : ℕ → List ℕ → List ℕ → List ℕ → Option Call
set_value id c i v = do
  num ← number 65535 i
  value ← number 65535 v
  if bytes_eq c (codes "setval") then Some (calls.SemSetVal id num value) else None

unfoldable pub set_command : ℕ → List (List ℕ) → Option Call
set_command id (c ∷ []) = whole_set id c
set_command id (c ∷ i ∷ []) = one_argument id c i
set_command id (c ∷ i ∷ v ∷ []) = set_value id c i v
set_command id _ = None

-- `semctl S ..`
unfoldable pub semctl_of : List (List ℕ) → Option FromCall
semctl_of (s ∷ more) = do
  object ← identifier s
  call ← set_command object.1 more
  Some (object.0, call)
semctl_of _ = None

-- ---- the table

-- the call of this name with these words behind it, but for `fork`, whose word names a block
abbrev pub call_of : Verb → List (List ℕ) → Option FromCall
call_of verbs.Fork words = None
call_of verbs.Exit words = exit_of words
call_of verbs.GetPid words = getpid_of words
call_of verbs.Kill words = kill_of words
call_of verbs.SigAction words = sigaction_of words
call_of verbs.SigProcMask words = sigprocmask_of words
call_of verbs.SigPending words = sigpending_of words
call_of verbs.Handled words = handled_of words
call_of verbs.WaitPid words = waitpid_of words
call_of verbs.MsgGet words = msgget_of words
call_of verbs.MsgSnd words = msgsnd_of words
call_of verbs.MsgRcv words = msgrcv_of words
call_of verbs.MsgCtl words = msgctl_of words
call_of verbs.SemGet words = semget_of words
call_of verbs.SemOp words = semop_of words
call_of verbs.SemCtl words = semctl_of words
