-- The spelling of a script, in one of the shortest ways: one blank between words, one line feed between lines and none
-- behind the last, and of the two forms of a message's text the shorter one.
use Rattle.std.specs.Prelude.{ℕ, ◌+◌, ◌-◌, ◌/◌, ◌%◌, ◌==◌, Bool, ◌&&◌, nat_le, nat_lt, List, [], ◌∷◌, ◌++◌, length, map, codes, if◌then◌else◌, Option, Some, None}
use Rattle.std.specs.List.{flat_map}
use Rattle.std.specs.Fmt.{decimal, signed_decimal}
use Rattle.pico_base.specs.declared.call.Call.{Call}
use Rattle.pico_base.specs.declared.call.Call.TheVariants as calls
use Rattle.pico_base.specs.declared.call.SemStep.{SemStep}
use Rattle.pico_base.specs.declared.numbers.Name.{Name}
use Rattle.pico_base.specs.declared.numbers.Name.TheVariants.{Proc, Msg, Sem}
use Rattle.pico_base.specs.declared.script.Line.{Line}
use Rattle.pico_base.specs.declared.script.Block.{Block}
use Rattle.pico_base.specs.declared.script.Script.{Script}
use Rattle.kernel_model.specs.Fitting.{block_at}
use Rattle.kernel_model.specs.Texts.{is_one_letter, repeated_text, quoted_text}
use Rattle.kernel_model.specs.Trace.{signal_name, signal_argument, action_name, how_name, set_text, values_text, name_of_block}

-- ---- words

-- what stands behind a variable's letter: no digit, one or two
abbrev pub variable_digits : ℕ → List ℕ
variable_digits k =
    if k == 0
    then []
    else if nat_lt k 11 then (48 + (k - 1)) ∷ [] else (48 + (k - 11) / 10) ∷ (48 + (k - 11) % 10) ∷ []

-- a variable's name by its index
unfoldable pub variable_text : ℕ → List ℕ
variable_text v = (97 + v / 111) ∷ variable_digits (v % 111)

-- the variable, or the number in its place
abbrev pub object_text : Option ℕ → ℕ → List ℕ
object_text None n = decimal n
object_text (Some v) n = 36 ∷ variable_text v

abbrev pub child_word : Option ℕ → Option ℕ → List ℕ
child_word from None = codes "any"
child_word from (Some pid) = object_text from pid

-- a message's text, by the letter or digit that it repeats where that is shorter
unfoldable pub message_word : List ℕ → List ℕ
message_word text = if is_one_letter text && nat_le 6 (length text) then repeated_text text else quoted_text text

-- an operation of `semop`
abbrev pub step_word : SemStep → List ℕ
step_word s = decimal s.num ++ 58 ∷ (signed_decimal s.add ++ (if s.nowait then codes ":nowait" else []))

-- an option, where it is wanted
abbrev pub flag_words : Bool → List ℕ → List (List ℕ)
flag_words wanted word = if wanted then word ∷ [] else []

-- ---- calls

abbrev pub call_name : Call → List ℕ
call_name (calls.Fork block) = codes "fork"
call_name (calls.Exit status) = codes "exit"
call_name (calls.Killed sig) = codes "killed"
call_name calls.GetPid = codes "getpid"
call_name (calls.Kill pid sig) = codes "kill"
call_name (calls.SigAction sig act) = codes "sigaction"
call_name (calls.SigProcMask how set) = codes "sigprocmask"
call_name calls.SigPending = codes "sigpending"
call_name (calls.Handled sig) = codes "handled"
call_name (calls.WaitPid child nohang) = codes "waitpid"
call_name (calls.MsgGet key create excl) = codes "msgget"
call_name (calls.MsgSnd id class text nowait) = codes "msgsnd"
call_name (calls.MsgRcv id class size noerror nowait) = codes "msgrcv"
call_name (calls.MsgStat id) = codes "msgctl"
call_name (calls.MsgSet id qbytes) = codes "msgctl"
call_name (calls.MsgRmid id) = codes "msgctl"
call_name (calls.SemGet key count create excl) = codes "semget"
call_name (calls.SemOp id steps) = codes "semop"
call_name (calls.SemGetVal id num) = codes "semctl"
call_name (calls.SemGetPid id num) = codes "semctl"
call_name (calls.SemGetNcnt id num) = codes "semctl"
call_name (calls.SemGetZcnt id num) = codes "semctl"
call_name (calls.SemSetVal id num value) = codes "semctl"
call_name (calls.SemGetAll id) = codes "semctl"
call_name (calls.SemSetAll id values) = codes "semctl"
call_name (calls.SemRmid id) = codes "semctl"
call_name (calls.Withdraw name) = codes "withdraw"

-- the words of a get behind its key
abbrev pub created : Bool → Bool → List (List ℕ)
created create excl = flag_words create (codes "create") ++ flag_words excl (codes "excl")

abbrev pub queue_key : Option ℕ → Bool → Bool → List (List ℕ)
queue_key None create excl = codes "private" ∷ []
queue_key (Some key) create excl = decimal key ∷ created create excl

abbrev pub set_key : Option ℕ → ℕ → Bool → Bool → List (List ℕ)
set_key None count create excl = codes "private" ∷ decimal count ∷ []
set_key (Some key) count create excl = decimal key ∷ decimal count ∷ created create excl

-- a command on a semaphore of a set
abbrev pub semaphore_words : Option ℕ → ℕ → List ℕ → ℕ → List (List ℕ)
semaphore_words from id command num = object_text from id ∷ command ∷ decimal num ∷ []

-- where a process stops to wait
abbrev pub withdrawal_words : Name → List (List ℕ)
withdrawal_words (Proc pid) = codes "proc" ∷ decimal pid ∷ []
withdrawal_words (Msg id) = codes "msg" ∷ decimal id ∷ []
withdrawal_words (Sem id) = codes "sem" ∷ decimal id ∷ []

-- the words behind a call's name. A variable stands in place of the process or the object that the call names
abbrev pub arguments : Script → Option ℕ → Call → List (List ℕ)
arguments script from (calls.Fork block) = name_of_block (block_at script block) ∷ []
arguments script from (calls.Exit status) = decimal status ∷ []
arguments script from (calls.Killed sig) = signal_name sig ∷ []
arguments script from calls.GetPid = []
arguments script from (calls.Kill pid sig) = object_text from pid ∷ signal_argument sig ∷ []
arguments script from (calls.SigAction sig act) = signal_argument sig ∷ action_name act ∷ []
arguments script from (calls.SigProcMask how set) = how_name how ∷ set_text set ∷ []
arguments script from calls.SigPending = []
arguments script from (calls.Handled sig) = signal_name sig ∷ []
arguments script from (calls.WaitPid child nohang) = child_word from child ∷ flag_words nohang (codes "nohang")
arguments script from (calls.MsgGet key create excl) = queue_key key create excl
arguments script from (calls.MsgSnd id class text nowait) =
    object_text from id ∷ signed_decimal class ∷ message_word text ∷ flag_words nowait (codes "nowait")
arguments script from (calls.MsgRcv id class size noerror nowait) =
    object_text from id ∷ signed_decimal class ∷ decimal size
    ∷ (flag_words noerror (codes "noerror") ++ flag_words nowait (codes "nowait"))
arguments script from (calls.MsgStat id) = object_text from id ∷ codes "stat" ∷ []
arguments script from (calls.MsgSet id qbytes) = object_text from id ∷ codes "set" ∷ decimal qbytes ∷ []
arguments script from (calls.MsgRmid id) = object_text from id ∷ codes "rmid" ∷ []
arguments script from (calls.SemGet key count create excl) = set_key key count create excl
arguments script from (calls.SemOp id steps) = object_text from id ∷ map step_word steps
arguments script from (calls.SemGetVal id num) = semaphore_words from id (codes "getval") num
arguments script from (calls.SemGetPid id num) = semaphore_words from id (codes "getpid") num
arguments script from (calls.SemGetNcnt id num) = semaphore_words from id (codes "getncnt") num
arguments script from (calls.SemGetZcnt id num) = semaphore_words from id (codes "getzcnt") num
arguments script from (calls.SemSetVal id num value) =
    object_text from id ∷ codes "setval" ∷ decimal num ∷ decimal value ∷ []
arguments script from (calls.SemGetAll id) = object_text from id ∷ codes "getall" ∷ []
arguments script from (calls.SemSetAll id values) = object_text from id ∷ codes "setall" ∷ values_text values ∷ []
arguments script from (calls.SemRmid id) = object_text from id ∷ codes "rmid" ∷ []
arguments script from (calls.Withdraw name) = withdrawal_words name

-- ---- lines

abbrev pub behind : ℕ → List ℕ → List ℕ
behind byte word = byte ∷ word

-- words behind blanks
abbrev pub behind_blanks : List (List ℕ) → List ℕ
behind_blanks words = flat_map (behind 32) words

-- these, with a byte between each two
abbrev pub separated : ℕ → List (List ℕ) → List ℕ
separated byte [] = []
separated byte (w ∷ ws) = w ++ flat_map (behind byte) ws

-- `VAR =` and the blank behind it
abbrev pub set_front : Option ℕ → List ℕ
set_front None = []
set_front (Some v) = variable_text v ++ codes " = "

-- `try N` and the blank behind it
abbrev pub tries_front : ℕ → List ℕ
tries_front tries = if tries == 1 then [] else codes "try " ++ (decimal tries ++ 32 ∷ [])

unfoldable pub line_text : Script → Line → List ℕ
line_text script line =
    set_front line.set ++ (tries_front line.tries
    ++ (call_name line.call ++ behind_blanks (arguments script line.from line.call)))

abbrev pub proc_line : Block → List ℕ
proc_line block = codes "proc " ++ block.name

abbrev pub behind_feed : Script → Line → List ℕ
behind_feed script line = 10 ∷ line_text script line

-- a block, without a line feed at its end
unfoldable pub block_text : Script → Block → List ℕ
block_text script block = proc_line block ++ (flat_map (behind_feed script) block.lines ++ codes "\nend")

abbrev pub block_behind : Script → Block → List ℕ
block_behind script block = 10 ∷ block_text script block

abbrev pub blocks_text : Script → List Block → List ℕ
blocks_text script [] = []
blocks_text script (block ∷ blocks) = block_text script block ++ flat_map (block_behind script) blocks

-- the text of a script
abbrev pub spelling : Script → List ℕ
spelling script = blocks_text script script.blocks
