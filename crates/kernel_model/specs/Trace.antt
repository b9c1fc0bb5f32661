-- The text of a history: a line for each entry, and the totals.
use Rattle.std.specs.Prelude.{ℕ, ℤ, ◌+◌, Bool, true, false, not, List, [], ◌∷◌, ◌++◌, length, if◌then◌else◌, Option, Some, None, codes, count_by, sum_by}
use Rattle.std.specs.List.{flat_map, filter}
use Rattle.std.specs.Fmt.{decimal, signed_decimal}
use Rattle.pico_base.specs.declared.call.Call.{Call}
use Rattle.pico_base.specs.declared.call.Call.TheVariants as calls
use Rattle.pico_base.specs.declared.call.SemStep.{SemStep}
use Rattle.pico_base.specs.declared.numbers.Name.{Name}
use Rattle.pico_base.specs.declared.numbers.Name.TheVariants.{Proc, Msg, Sem}
use Rattle.pico_base.specs.declared.reply.Reply.{Reply}
use Rattle.pico_base.specs.declared.reply.Reply.TheVariants as replies
use Rattle.pico_base.specs.declared.reply.Errno.{Errno}
use Rattle.pico_base.specs.declared.reply.Errno.TheVariants.{Esrch, Einval, Echild, Enoent, Eexist, Enomsg, Eagain, E2big, Efbig, Erange, Eidrm, Eintr}
use Rattle.pico_base.specs.declared.reply.Ending.{Ending}
use Rattle.pico_base.specs.declared.reply.Ending.TheVariants.{Exited, Killed}
use Rattle.pico_base.specs.declared.reply.Entry.{Entry}
use Rattle.pico_base.specs.declared.reply.Outcome.{Outcome}
use Rattle.pico_base.specs.declared.signal.Sig.{Sig}
use Rattle.pico_base.specs.declared.signal.Sig.TheVariants.{Hup, Int, Quit, Kill, Usr1, Usr2, Pipe, Alrm, Term, Chld}
use Rattle.pico_base.specs.declared.signal.SigArg.{SigArg}
use Rattle.pico_base.specs.declared.signal.SigArg.TheVariants.{Zero, Is, Bad}
use Rattle.pico_base.specs.declared.signal.Act.{Act}
use Rattle.pico_base.specs.declared.signal.Act.TheVariants.{Dfl, Ign, Catch}
use Rattle.pico_base.specs.declared.signal.How.{How}
use Rattle.pico_base.specs.declared.signal.How.TheVariants.{Block, Unblock, SetMask}
use Rattle.pico_base.specs.declared.signal.PerSignal.{PerSignal}
use Rattle.pico_base.specs.declared.script.Script.{Script}
use Rattle.pico_base.specs.declared.script.Block.{Block as ScriptBlock}
use Rattle.pico_base.specs.Signal.{at, all_signals}
use Rattle.kernel_model.specs.Fitting.{block_at}
use Rattle.kernel_model.specs.Texts.{message_text}
pub use Rattle.kernel_model.specs.Script.{is_fork}
pub use Rattle.kernel_model.specs.Texts.{is_letter_or_digit, is_plain, hex_digit, escape, quoted_text, is_repeated, repeated_text}

-- Names.

abbrev pub signal_name : Sig → List ℕ
signal_name Hup = codes "HUP"
signal_name Int = codes "INT"
signal_name Quit = codes "QUIT"
signal_name Kill = codes "KILL"
signal_name Usr1 = codes "USR1"
signal_name Usr2 = codes "USR2"
signal_name Pipe = codes "PIPE"
signal_name Alrm = codes "ALRM"
signal_name Term = codes "TERM"
signal_name Chld = codes "CHLD"

abbrev pub signal_argument : SigArg → List ℕ
signal_argument Zero = codes "0"
signal_argument (Is sig) = signal_name sig
signal_argument Bad = codes "badsig"

-- what is joined by commas
abbrev pub commas : {A : Type 0} → (A → List ℕ) → List A → List ℕ
commas text [] = []
commas text (x ∷ xs) = text x ++ flat_map (λ y. 44 ∷ text y) xs

abbrev pub signals_text : List Sig → List ℕ
signals_text [] = codes "none"
signals_text (g ∷ gs) = commas signal_name (g ∷ gs)

-- a set's signals in table order, joined by commas
unfoldable pub set_text : PerSignal Bool → List ℕ
set_text set = signals_text (filter (at set) all_signals)

abbrev pub action_name : Act → List ℕ
action_name Dfl = codes "dfl"
action_name Ign = codes "ign"
action_name Catch = codes "catch"

abbrev pub how_name : How → List ℕ
how_name Block = codes "block"
how_name Unblock = codes "unblock"
how_name SetMask = codes "setmask"

abbrev pub error_name : Errno → List ℕ
error_name Esrch = codes "ESRCH"
error_name Einval = codes "EINVAL"
error_name Echild = codes "ECHILD"
error_name Enoent = codes "ENOENT"
error_name Eexist = codes "EEXIST"
error_name Enomsg = codes "ENOMSG"
error_name Eagain = codes "EAGAIN"
error_name E2big = codes "E2BIG"
error_name Efbig = codes "EFBIG"
error_name Erange = codes "ERANGE"
error_name Eidrm = codes "EIDRM"
error_name Eintr = codes "EINTR"

-- Calls and replies.

abbrev pub labelled : List ℕ → ℕ → List ℕ
labelled label n = label ++ decimal n

abbrev pub word : Bool → List ℕ → List ℕ
word b text = if b then 32 ∷ text else []

abbrev pub create_words : Bool → Bool → List ℕ
create_words create excl = word create (codes "create") ++ word excl (codes "excl")

abbrev pub step_text : SemStep → List ℕ
step_text s = 32 ∷ (decimal s.num ++ 58 ∷ (signed_decimal s.add ++ (if s.nowait then codes ":nowait" else [])))

abbrev pub values_text : List ℕ → List ℕ
values_text vs = commas decimal vs

abbrev pub name_of_block : Option ScriptBlock → List ℕ
name_of_block None = []
name_of_block (Some block) = block.name

abbrev pub semctl_at : ℕ → List ℕ → ℕ → List ℕ
semctl_at id command num = codes "semctl " ++ decimal id ++ command ++ decimal num

abbrev pub child_text : Option ℕ → List ℕ
child_text None = codes "any"
child_text (Some pid) = decimal pid

abbrev pub msgget_text : Option ℕ → Bool → Bool → List ℕ
msgget_text None create excl = codes "msgget private"
msgget_text (Some key) create excl = labelled (codes "msgget ") key ++ create_words create excl

abbrev pub semget_text : Option ℕ → ℕ → Bool → Bool → List ℕ
semget_text None count create excl = labelled (codes "semget private ") count
semget_text (Some key) count create excl =
    labelled (codes "semget ") key ++ labelled (codes " ") count ++ create_words create excl

-- a call's name, the queue and the type of message
abbrev pub queue_words : List ℕ → ℕ → ℤ → List ℕ
queue_words name id class = name ++ decimal id ++ 32 ∷ (signed_decimal class ++ 32 ∷ [])

abbrev pub msgsnd_text : ℕ → ℤ → List ℕ → Bool → List ℕ
msgsnd_text id class text nowait =
    queue_words (codes "msgsnd ") id class ++ message_text text ++ word nowait (codes "nowait")

abbrev pub msgrcv_text : ℕ → ℤ → ℕ → Bool → Bool → List ℕ
msgrcv_text id class size noerror nowait =
    queue_words (codes "msgrcv ") id class ++ decimal size ++ word noerror (codes "noerror")
    ++ word nowait (codes "nowait")

abbrev pub how_words : How → List ℕ
how_words how = codes "sigprocmask " ++ how_name how ++ 32 ∷ []

abbrev pub sigprocmask_text : How → PerSignal Bool → List ℕ
sigprocmask_text how set = how_words how ++ set_text set

-- where a process stops to wait
abbrev pub withdrawal_text : Name → List ℕ
withdrawal_text (Proc pid) = labelled (codes "withdraw proc ") pid
withdrawal_text (Msg id) = labelled (codes "withdraw msg ") id
withdrawal_text (Sem id) = labelled (codes "withdraw sem ") id

-- the call as a script would have it, with actual numbers; no script has the last
abbrev pub call_text : Script → Call → List ℕ
call_text script (calls.Fork block) = codes "fork " ++ name_of_block (block_at script block)
call_text script (calls.Exit status) = codes "exit " ++ decimal status
call_text script (calls.Killed sig) = codes "killed " ++ signal_name sig
call_text script calls.GetPid = codes "getpid"
call_text script (calls.Kill pid sig) = codes "kill " ++ decimal pid ++ 32 ∷ signal_argument sig
call_text script (calls.SigAction sig act) = codes "sigaction " ++ signal_argument sig ++ 32 ∷ action_name act
call_text script (calls.SigProcMask how set) = sigprocmask_text how set
call_text script calls.SigPending = codes "sigpending"
call_text script (calls.Handled sig) = codes "handled " ++ signal_name sig
call_text script (calls.WaitPid child nohang) = codes "waitpid " ++ child_text child ++ word nohang (codes "nohang")
call_text script (calls.MsgGet key create excl) = msgget_text key create excl
call_text script (calls.MsgSnd id class text nowait) = msgsnd_text id class text nowait
call_text script (calls.MsgRcv id class size noerror nowait) = msgrcv_text id class size noerror nowait
call_text script (calls.MsgStat id) = codes "msgctl " ++ decimal id ++ codes " stat"
call_text script (calls.MsgSet id qbytes) = codes "msgctl " ++ decimal id ++ codes " set " ++ decimal qbytes
call_text script (calls.MsgRmid id) = codes "msgctl " ++ decimal id ++ codes " rmid"
call_text script (calls.SemGet key count create excl) = semget_text key count create excl
call_text script (calls.SemOp id steps) = codes "semop " ++ decimal id ++ flat_map step_text steps
call_text script (calls.SemGetVal id num) = semctl_at id (codes " getval ") num
call_text script (calls.SemGetPid id num) = semctl_at id (codes " getpid ") num
call_text script (calls.SemGetNcnt id num) = semctl_at id (codes " getncnt ") num
call_text script (calls.SemGetZcnt id num) = semctl_at id (codes " getzcnt ") num
call_text script (calls.SemSetVal id num value) = semctl_at id (codes " setval ") num ++ 32 ∷ decimal value
call_text script (calls.SemGetAll id) = codes "semctl " ++ decimal id ++ codes " getall"
call_text script (calls.SemSetAll id values) = codes "semctl " ++ decimal id ++ codes " setall " ++ values_text values
call_text script (calls.SemRmid id) = codes "semctl " ++ decimal id ++ codes " rmid"
call_text script (calls.Withdraw name) = withdrawal_text name

abbrev pub ending_text : Ending → List ℕ
ending_text (Exited status) = codes " exited " ++ decimal status
ending_text (Killed sig) = codes " killed " ++ signal_name sig

abbrev pub reply_text : Reply → List ℕ
reply_text (replies.Num n) = decimal n
reply_text (replies.Child pid ending) = decimal pid ++ ending_text ending
reply_text (replies.Message class text) = signed_decimal class ++ 32 ∷ message_text text
reply_text (replies.Bits set) = set_text set
reply_text (replies.Stat qnum qbytes lspid lrpid) =
    labelled (codes "qnum ") qnum ++ labelled (codes " qbytes ") qbytes
    ++ labelled (codes " lspid ") lspid ++ labelled (codes " lrpid ") lrpid
reply_text (replies.All values) = codes "all " ++ values_text values
reply_text replies.Ended = codes "ended"
reply_text (replies.Fail e) = error_name e

-- the caller's reply; a call that parks has none yet
abbrev pub own_text : Option Reply → List ℕ
own_text None = codes "parked"
own_text (Some reply) = reply_text reply

-- Lines, each ended by a line feed.

-- who made the call
abbrev pub made_text : Script → ℕ → Call → List ℕ
made_text script pid call = decimal pid ++ 32 ∷ call_text script call

-- each caller that is woken, with its reply
abbrev pub wake_text : ℕ × Reply → List ℕ
wake_text wake = codes " wakes " ++ decimal wake.0 ++ 32 ∷ reply_text wake.1

-- who carried the call out, and whom that woke
abbrev pub by_text : ℕ → List (ℕ × Reply) → List ℕ
by_text node woken = codes " by " ++ decimal node ++ (flat_map wake_text woken ++ 10 ∷ [])

abbrev pub entry_line : Script → Entry → List ℕ
entry_line script e =
    made_text script e.pid e.call ++ codes " = " ++ own_text e.outcome.own ++ by_text e.by e.outcome.woken

-- nothing was ready: ENOMSG and EAGAIN
abbrev pub is_not_ready : Errno → Bool
is_not_ready Enomsg = true
is_not_ready Eagain = true
is_not_ready _ = false

abbrev pub is_not_ready_reply : Option Reply → Bool
is_not_ready_reply (Some (replies.Fail e)) = is_not_ready e
is_not_ready_reply _ = false

-- every other error
abbrev pub is_refused_reply : Option Reply → Bool
is_refused_reply (Some (replies.Fail e)) = not (is_not_ready e)
is_refused_reply _ = false

-- how many replies of an outcome are so: the caller's own, and those of the callers that it wakes
abbrev pub replies_where : (Option Reply → Bool) → Outcome → ℕ
replies_where test outcome = count_by (λ w. test (Some w.1)) outcome.woken + (if test outcome.own then 1 else 0)

unfoldable pub entries_total : ℕ → List ℕ
entries_total n = codes "totals entries " ++ decimal n

unfoldable pub processes_total : ℕ → List ℕ
processes_total n = codes " processes " ++ decimal n

unfoldable pub not_ready_total : ℕ → List ℕ
not_ready_total n = codes " notready " ++ decimal n

unfoldable pub refused_total : ℕ → List ℕ
refused_total n = codes " refused " ++ decimal n

-- the entries, the processes (one more than the forks), the replies that nothing was ready, the other refusals
abbrev pub totals_line : List Entry → List ℕ
totals_line h =
    entries_total (length h)
    ++ processes_total (1 + count_by (λ e. is_fork e.call) h)
    ++ not_ready_total (sum_by (λ e. replies_where is_not_ready_reply e.outcome) h)
    ++ refused_total (sum_by (λ e. replies_where is_refused_reply e.outcome) h)
    ++ 10 ∷ []

abbrev pub trace_text : Script → List Entry → List ℕ
trace_text script h = flat_map (entry_line script) h ++ totals_line h
