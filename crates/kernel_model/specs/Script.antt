-- The lines and calls of a script, and which scripts are sound.
use Rattle.std.specs.Prelude.{ℕ, ◌+◌, ℤ, negsuc, pos, Bool, true, false, not, ◌&&◌, ◌||◌, nat_eq, nat_lt, nat_le, int_le, List, [], ◌∷◌, ◌++◌, length, map, if◌then◌else◌, Option, Some, None, is_some, IsTrue, sum_by, count_by}
use Rattle.std.specs.List.{flat_map, list_all, list_any, enumerate_from}
use Rattle.std.specs.Map.{lookup}
use Rattle.std.specs.Option.{unwrap_or}
use Rattle.pico_base.specs.declared.call.Call.{Call}
use Rattle.pico_base.specs.declared.call.Call.TheVariants as calls
use Rattle.pico_base.specs.declared.call.SemStep.{SemStep}
use Rattle.pico_base.specs.declared.script.Line.{Line}
use Rattle.pico_base.specs.declared.script.Block.{Block as ScriptBlock}
use Rattle.pico_base.specs.declared.script.Script.{Script}
use Rattle.number_maps.specs.Maps.{Numbered, get}
use Rattle.kernel_model.specs.Numbers.{is_between, is_positive_u32, is_u16, is_u32}
use Rattle.kernel_model.specs.Texts.{has_spelling}

-- the values of variables, by rising variable
abbrev pub Vars : Type 0
Vars = Numbered ℕ

-- a variable's value, which is 0 where nothing has set it
abbrev pub value_of : Vars → ℕ → ℕ
value_of vars v = unwrap_or (get vars v) 0

-- the call with this number for the process or the object that it names
abbrev pub with_target : Call → ℕ → Call
with_target (calls.Kill pid sig) n = calls.Kill n sig
with_target (calls.WaitPid child nohang) n = calls.WaitPid (Some n) nohang
with_target (calls.MsgSnd id class text nowait) n = calls.MsgSnd n class text nowait
with_target (calls.MsgRcv id class size noerror nowait) n = calls.MsgRcv n class size noerror nowait
with_target (calls.MsgStat id) n = calls.MsgStat n
with_target (calls.MsgSet id qbytes) n = calls.MsgSet n qbytes
with_target (calls.MsgRmid id) n = calls.MsgRmid n
with_target (calls.SemOp id steps) n = calls.SemOp n steps
with_target (calls.SemGetVal id num) n = calls.SemGetVal n num
with_target (calls.SemGetPid id num) n = calls.SemGetPid n num
with_target (calls.SemGetNcnt id num) n = calls.SemGetNcnt n num
with_target (calls.SemGetZcnt id num) n = calls.SemGetZcnt n num
with_target (calls.SemSetVal id num value) n = calls.SemSetVal n num value
with_target (calls.SemGetAll id) n = calls.SemGetAll n
with_target (calls.SemSetAll id values) n = calls.SemSetAll n values
with_target (calls.SemRmid id) n = calls.SemRmid n
with_target (calls.Fork block) n = calls.Fork block
with_target (calls.Exit status) n = calls.Exit status
with_target (calls.Killed sig) n = calls.Killed sig
with_target calls.GetPid n = calls.GetPid
with_target (calls.SigAction sig act) n = calls.SigAction sig act
with_target (calls.SigProcMask how set) n = calls.SigProcMask how set
with_target calls.SigPending n = calls.SigPending
with_target (calls.Handled sig) n = calls.Handled sig
with_target (calls.MsgGet key create excl) n = calls.MsgGet key create excl
with_target (calls.SemGet key count create excl) n = calls.SemGet key count create excl
with_target (calls.Withdraw name) n = calls.Withdraw name

abbrev pub call_from : Call → Vars → Option ℕ → Call
call_from call vars None = call
call_from call vars (Some v) = with_target call (value_of vars v)

-- the call of a line: the variable's value stands in place of the number
abbrev pub call_of : Line → Vars → Call
call_of line vars = call_from line.call vars line.from

-- the line that a block's end stands for where its last call isn't exit
abbrev pub implied_exit : Line
implied_exit = record { set = None; tries = 1; from = None; call = calls.Exit 0 }

abbrev pub is_exit : Call → Bool
is_exit (calls.Exit status) = true
is_exit _ = false

-- the lines from here on, with the implied exit
abbrev pub with_exit : List Line → List Line
with_exit [] = implied_exit ∷ []
with_exit (line ∷ lines) = if is_exit line.call then line ∷ [] else line ∷ with_exit lines

-- Names of blocks: a lower-case letter, and then at most 31 lower-case letters, digits and underlines.

abbrev pub is_lower : ℕ → Bool
is_lower b = nat_le 97 b && nat_le b 122

abbrev pub is_name_byte : ℕ → Bool
is_name_byte b = is_lower b || ((nat_le 48 b && nat_le b 57) || nat_eq b 95)

abbrev pub is_name : List ℕ → Bool
is_name [] = false
is_name (b ∷ bs) = is_lower b && (list_all is_name_byte bs && nat_le (length bs) 31)

abbrev pub is_same : List ℕ → List ℕ → Bool
is_same [] [] = true
is_same (x ∷ xs) (y ∷ ys) = nat_eq x y && is_same xs ys
is_same _ _ = false

-- no later block has an earlier one's name
abbrev pub names_differ : List ScriptBlock → Bool
names_differ [] = true
names_differ (b ∷ bs) = not (list_any (λ other. is_same b.name other.name) bs) && names_differ bs

-- Forks: the block where the line stands, and the block that it names, counted from 1.

pub record Fork : Type 0 where
  pub from : ℕ
  pub to : ℕ

abbrev pub fork_from : ℕ → ℕ → Fork
fork_from from to = record { from = from; to = to }

abbrev pub fork_targets : Call → List ℕ
fork_targets (calls.Fork block) = block ∷ []
fork_targets _ = []

abbrev pub forks_of : Script → List Fork
forks_of s =
    flat_map (λ b. map (fork_from b.0) (flat_map (λ line. fork_targets line.call) b.1.lines))
    (enumerate_from 1 s.blocks)

-- of a later block of the script
abbrev pub goes_forward : Script → Fork → Bool
goes_forward s fork = nat_lt fork.from fork.to && nat_le fork.to (length s.blocks)

abbrev pub is_forked_once : Script → ℕ → Bool
is_forked_once s block = nat_eq (count_by (λ fork. nat_eq fork.to block) (forks_of s)) 1

-- Ranges of arguments: those of their types, and those of a script's words.

abbrev pub is_step_in_range : SemStep → Bool
is_step_in_range step = is_u16 step.num && (int_le (negsuc 65534) step.add && int_le step.add (pos 65535))

-- a private get has no options, and a key isn't 0
abbrev pub is_key : Option ℕ → Bool → Bool → Bool
is_key None create excl = not create && not excl
is_key (Some key) create excl = is_positive_u32 key

-- a message's type, as the script may write it
abbrev pub is_type : ℤ → Bool
is_type class = int_le (negsuc 2147483646) class && int_le class (pos 2147483647)

abbrev pub is_child : Option ℕ → Bool
is_child None = true
is_child (Some child) = is_u32 child

-- a semaphore of a set
abbrev pub is_place : ℕ → ℕ → Bool
is_place id num = is_u32 id && is_u16 num

abbrev pub is_in_range : Call → Bool
is_in_range (calls.Fork block) = true
is_in_range (calls.Exit status) = is_u16 status
is_in_range (calls.Killed sig) = false
is_in_range calls.GetPid = true
is_in_range (calls.Kill pid sig) = is_u32 pid
is_in_range (calls.SigAction sig act) = true
is_in_range (calls.SigProcMask how set) = true
is_in_range calls.SigPending = true
is_in_range (calls.Handled sig) = true
is_in_range (calls.WaitPid child nohang) = is_child child
is_in_range (calls.MsgGet key create excl) = is_key key create excl
is_in_range (calls.MsgSnd id class text nowait) = is_u32 id && (is_type class && has_spelling text)
is_in_range (calls.MsgRcv id class size noerror nowait) = is_u32 id && (is_type class && is_u16 size)
is_in_range (calls.MsgStat id) = is_u32 id
is_in_range (calls.MsgSet id qbytes) = is_u32 id && is_u16 qbytes
is_in_range (calls.MsgRmid id) = is_u32 id
is_in_range (calls.SemGet key count create excl) = is_key key create excl && is_u16 count
is_in_range (calls.SemOp id steps) = is_u32 id && (is_between 1 1024 (length steps) && list_all is_step_in_range steps)
is_in_range (calls.SemGetVal id num) = is_place id num
is_in_range (calls.SemGetPid id num) = is_place id num
is_in_range (calls.SemGetNcnt id num) = is_place id num
is_in_range (calls.SemGetZcnt id num) = is_place id num
is_in_range (calls.SemSetVal id num value) = is_place id num && is_u16 value
is_in_range (calls.SemGetAll id) = is_u32 id
is_in_range (calls.SemSetAll id values) = is_u32 id && (is_between 1 2048 (length values) && list_all is_u16 values)
is_in_range (calls.SemRmid id) = is_u32 id
is_in_range (calls.Withdraw name) = false

-- a call whose process or object a variable can name
abbrev pub can_name : Call → Bool
can_name (calls.Kill pid sig) = true
can_name (calls.WaitPid (Some child) nohang) = true
can_name (calls.MsgSnd id class text nowait) = true
can_name (calls.MsgRcv id class size noerror nowait) = true
can_name (calls.MsgStat id) = true
can_name (calls.MsgSet id qbytes) = true
can_name (calls.MsgRmid id) = true
can_name (calls.SemOp id steps) = true
can_name (calls.SemGetVal id num) = true
can_name (calls.SemGetPid id num) = true
can_name (calls.SemGetNcnt id num) = true
can_name (calls.SemGetZcnt id num) = true
can_name (calls.SemSetVal id num value) = true
can_name (calls.SemGetAll id) = true
can_name (calls.SemSetAll id values) = true
can_name (calls.SemRmid id) = true
can_name (calls.Fork block) = false
can_name (calls.Exit status) = false
can_name (calls.Killed sig) = false
can_name calls.GetPid = false
can_name (calls.SigAction sig act) = false
can_name (calls.SigProcMask how set) = false
can_name calls.SigPending = false
can_name (calls.Handled sig) = false
can_name (calls.MsgGet key create excl) = false
can_name (calls.SemGet key count create excl) = false
can_name (calls.WaitPid None nohang) = false
can_name (calls.Withdraw name) = false

-- a process number that the script writes isn't 0
abbrev pub is_process_in_range : Call → Bool
is_process_in_range (calls.Kill pid sig) = nat_lt 0 pid
is_process_in_range (calls.WaitPid (Some child) nohang) = nat_lt 0 child
is_process_in_range (calls.WaitPid None nohang) = true
is_process_in_range (calls.Fork block) = true
is_process_in_range (calls.Exit status) = true
is_process_in_range (calls.Killed sig) = true
is_process_in_range calls.GetPid = true
is_process_in_range (calls.SigAction sig act) = true
is_process_in_range (calls.SigProcMask how set) = true
is_process_in_range calls.SigPending = true
is_process_in_range (calls.Handled sig) = true
is_process_in_range (calls.MsgGet key create excl) = true
is_process_in_range (calls.MsgSnd id class text nowait) = true
is_process_in_range (calls.MsgRcv id class size noerror nowait) = true
is_process_in_range (calls.MsgStat id) = true
is_process_in_range (calls.MsgSet id qbytes) = true
is_process_in_range (calls.MsgRmid id) = true
is_process_in_range (calls.SemGet key count create excl) = true
is_process_in_range (calls.SemOp id steps) = true
is_process_in_range (calls.SemGetVal id num) = true
is_process_in_range (calls.SemGetPid id num) = true
is_process_in_range (calls.SemGetNcnt id num) = true
is_process_in_range (calls.SemGetZcnt id num) = true
is_process_in_range (calls.SemSetVal id num value) = true
is_process_in_range (calls.SemGetAll id) = true
is_process_in_range (calls.SemSetAll id values) = true
is_process_in_range (calls.SemRmid id) = true
is_process_in_range (calls.Withdraw name) = true

-- Lines.

abbrev pub max_calls : ℕ
max_calls = 20000

abbrev pub is_fork : Call → Bool
is_fork (calls.Fork block) = true
is_fork _ = false

-- fork and exit aren't tried again, and exit sets no variable
abbrev pub is_tried_once : Line → Bool
is_tried_once line = nat_eq line.tries 1 || not (is_fork line.call || is_exit line.call)

abbrev pub sets_rightly : Line → Bool
sets_rightly line = not (is_some line.set && is_exit line.call)

-- variables are a letter with no digit, one or two, which have the numbers 0 to 2885
abbrev pub is_variable : Option ℕ → Bool
is_variable None = true
is_variable (Some v) = nat_le v 2885

abbrev pub is_line : Line → Bool
is_line line =
    is_between 1 max_calls line.tries && (is_tried_once line && (sets_rightly line && (is_in_range line.call
    && ((if is_some line.from then can_name line.call else is_process_in_range line.call)
    && (is_variable line.set && is_variable line.from)))))

abbrev pub each_line : (Line → Bool) → Script → Bool
each_line test s = list_all (λ b. list_all test b.lines) s.blocks

-- exit stands last only
abbrev pub ends_rightly : List Line → Bool
ends_rightly [] = true
ends_rightly (line ∷ lines) = (not (is_exit line.call) || nat_eq (length lines) 0) && ends_rightly lines

-- a block's calls, each line counted as often as it may be tried, and the implied exit
abbrev pub calls_in : ScriptBlock → ℕ
calls_in block = sum_by (λ line. line.tries) (with_exit block.lines)

-- Variables. A line may use what earlier lines set, and what its block began with: what was known at the fork,
-- and the variable that the fork sets.

abbrev pub known_with : List ℕ → Option ℕ → List ℕ
known_with known None = known
known_with known (Some v) = v ∷ known

abbrev pub is_known : List ℕ → Option ℕ → Bool
is_known known None = true
is_known known (Some v) = list_any (nat_eq v) known

abbrev pub uses_known : List ℕ → List Line → Bool
uses_known known [] = true
uses_known known (line ∷ lines) = is_known known line.from && uses_known (known_with known line.set) lines

-- the blocks forked in these lines, each with the variables that it begins with
abbrev pub begun_in : List ℕ → List Line → List (ℕ × List ℕ)
begun_in known [] = []
begun_in known (line ∷ lines) =
    let next : List ℕ = known_with known line.set
    in map (λ block. (block, next)) (fork_targets line.call) ++ begun_in next lines

abbrev pub known_at : List (ℕ × List ℕ) → ℕ → List ℕ
known_at begun block = unwrap_or (lookup (nat_eq block) begun) []

-- from block k on, where the blocks before it begin these ones
abbrev pub uses_known_from : List (ℕ × List ℕ) → ℕ → List ScriptBlock → Bool
uses_known_from begun k [] = true
uses_known_from begun k (block ∷ blocks) =
    let known : List ℕ = known_at begun k
    in uses_known known block.lines && uses_known_from (begun ++ begun_in known block.lines) (k + 1) blocks

-- What holds of each script that is read or generated.
pub record IsSoundScript (s : Script) : Type 0 where
  -- 1 to 32 blocks, each with a name of its own
  pub size : IsTrue (is_between 1 32 (length s.blocks))
  pub names : IsTrue (list_all (λ b. is_name b.name) s.blocks)
  pub names_apart : IsTrue (names_differ s.blocks)
  -- each block but the first is forked by one line, which stands in an earlier block
  pub forward : IsTrue (list_all (goes_forward s) (forks_of s))
  pub forked_once : IsTrue (list_all (λ b. nat_eq b.0 1 || is_forked_once s b.0) (enumerate_from 1 s.blocks))
  -- each line is within its ranges; no line is a withdrawal or the end by a signal
  pub lines : IsTrue (each_line is_line s)
  -- no call stands after exit
  pub exits : IsTrue (list_all (λ b. ends_rightly b.lines) s.blocks)
  pub variables : IsTrue (uses_known_from [] 1 s.blocks)
  pub calls : IsTrue (nat_le (sum_by calls_in s.blocks) max_calls)
