-- What a text is the script of, where its calls on queues are those of POSIX message queues, and what its first fault
-- is. A script that was read has the calls on queues in System V's words: `mqopen` as a `msgget` with the number of the
-- name as its key, `mqsend` as a `msgsnd` with the priority as its type, `mqreceive` as a `msgrcv` of type 0, and
-- `mqgetattr` as a `msgctl` with `stat`. It has no other calls on queues.
use Rattle.std.specs.Prelude.{◌≡◌, ℕ, pos, ◌+◌, nat_lt, Bool, true, false, ◌||◌, List, [], ◌∷◌, length, codes, bytes_eq, if◌then◌else◌, Option, Some, None, option_map, Result, Ok, Err}
use Rattle.std.specs.Str.Lossy.{utf8_valid_len}
use Rattle.pico_base.specs.declared.call.Call.TheVariants as calls
use Rattle.pico_base.specs.declared.script.Script.{Script}
use Rattle.pico_base.specs.Options.{◌>>=◌}
use Rattle.quoted_bytes.specs.Front.{strip}
use Rattle.call_words.specs.Verbs.{verb_of}
use Rattle.script_reader.specs.declared.fault.ScriptFault.{ScriptFault}
use Rattle.script_reader.specs.declared.fault.ScriptFault.TheVariants.{ScriptTooLong, NotUtf8}
use Rattle.script_reader.specs.declared.fault.ScriptStop.{ScriptStop}
use Rattle.script_reader.specs.declared.fault.ScriptStop.TheVariants.{Memory, At}
use Rattle.script_reader.specs.declared.place.Place.{Place}
use Rattle.script_reader.specs.declared.says.Front.{Front}
use Rattle.script_reader.specs.declared.says.Said.{Said}
use Rattle.script_reader.specs.declared.says.Said.TheVariants.{Skipped, Unknown, Bad}
use Rattle.script_reader.specs.Words.{lines_of, words_of}
use Rattle.script_reader.specs.Parts.{number, positive, text}
use Rattle.script_reader.specs.Forms.{FromCall, identifier, plainly, two_optional}
use Rattle.script_reader.specs.Says.{end_said, is_comment, named_said, names_of, other_said, proc_said, set_at, tries_at}
use Rattle.script_reader.specs.Fault.{Blocks, behind, ending, fault_of, line_behind, max_bytes, script_from, start, unless}

-- ---- the calls on queues, by the words behind their names

-- `/N`, with N from 1 to 1,000,000
unfoldable pub name_number : List ℕ → Option ℕ
name_number word = strip (codes "/") word >>= positive 1000000

-- `mqopen /N [create] [excl]`
unfoldable pub mqopen_of : List (List ℕ) → Option FromCall
mqopen_of (n ∷ more) = do
  name ← name_number n
  flags ← two_optional (codes "create") (codes "excl") more
  Some (plainly (calls.MsgGet (Some name) flags.0 flags.1))
mqopen_of _ = None

-- `mqsend Q P X`
unfoldable pub mqsend_of : List (List ℕ) → Option FromCall
mqsend_of (q ∷ p ∷ x ∷ []) = do
  object ← identifier q
  priority ← number 65535 p
  bytes ← text x
  Some (object.0, calls.MsgSnd object.1 (pos priority) bytes false)
mqsend_of _ = None

-- `mqreceive Q Z`
unfoldable pub mqreceive_of : List (List ℕ) → Option FromCall
mqreceive_of (q ∷ z ∷ []) = do
  object ← identifier q
  size ← number 65535 z
  Some (object.0, calls.MsgRcv object.1 (pos 0) size false false)
mqreceive_of _ = None

-- `mqgetattr Q`
unfoldable pub mqgetattr_of : List (List ℕ) → Option FromCall
mqgetattr_of (q ∷ []) = do
  object ← identifier q
  Some (object.0, calls.MsgStat object.1)
mqgetattr_of _ = None

-- the calls on System V's queues, which these scripts don't have
abbrev pub is_system_v : List ℕ → Bool
is_system_v word =
    bytes_eq word (codes "msgget") || (bytes_eq word (codes "msgsnd")
    || (bytes_eq word (codes "msgrcv") || bytes_eq word (codes "msgctl")))

-- ---- lines

-- a call of this name behind `VAR =` and `try N`, with these words behind the name
unfoldable pub mq_named_said : List (List ℕ) → Front ℕ → Front ℕ → List ℕ → List (List ℕ) → Said
mq_named_said names set tries name words =
    if bytes_eq name (codes "mqopen")
    then other_said set tries (mqopen_of words)
    else
    if bytes_eq name (codes "mqsend")
    then other_said set tries (mqsend_of words)
    else
    if bytes_eq name (codes "mqreceive")
    then other_said set tries (mqreceive_of words)
    else
    if bytes_eq name (codes "mqgetattr")
    then other_said set tries (mqgetattr_of words)
    else if is_system_v name then Unknown else named_said names set tries (verb_of name) words

unfoldable pub mq_call_said : List (List ℕ) → Front ℕ → Front ℕ → List (List ℕ) → Said
mq_call_said names set tries [] = Bad
mq_call_said names set tries (name ∷ words) = mq_named_said names set tries name words

unfoldable pub mq_line_said : List (List ℕ) → List (List ℕ) → Said
mq_line_said names words =
    let front : Front ℕ × List (List ℕ) = set_at words in
    let behind : Front ℕ × List (List ℕ) = tries_at front.1 in
    mq_call_said names front.0 behind.0 behind.1

-- a line by its words, in a text whose blocks have these names
unfoldable pub mq_words_said : List (List ℕ) → List (List ℕ) → Said
mq_words_said names [] = Skipped
mq_words_said names (w ∷ words) =
    if is_comment w
    then Skipped
    else
    if bytes_eq w (codes "proc")
    then proc_said names words
    else if bytes_eq w (codes "end") then end_said words else mq_line_said names (w ∷ words)

abbrev pub mq_said_of : List (List ℕ) → List ℕ → Said
mq_said_of names line = mq_words_said names (words_of line)

-- ---- the first fault of a text

-- the blocks of these lines, the first of which has this number, or the first fault with its line
unfoldable pub mq_blocks_from : List (List ℕ) → Place → ℕ → List (List ℕ) → Blocks
mq_blocks_from names place number [] = ending place number
mq_blocks_from names place number (line ∷ lines) =
    let said : Said = mq_said_of names line in
    unless (fault_of place (length line) said) number
    (mq_blocks_from names (behind place said) (number + 1) lines)

unfoldable pub mq_blocks_of : List (List ℕ) → Blocks
mq_blocks_of lines = mq_blocks_from (names_of lines) (start (length (names_of lines))) 1 lines

-- The given script that the bytes are the text of, or the first fault with its line. As with other scripts, too many
-- bytes and bytes that aren't UTF-8 come before all other faults.
unfoldable pub outcome : List ℕ → Result Script ScriptStop
outcome bytes =
    if nat_lt max_bytes (length bytes)
    then Err (At (line_behind max_bytes bytes) ScriptTooLong)
    else
    if nat_lt (utf8_valid_len bytes) (length bytes)
    then Err (At (line_behind (utf8_valid_len bytes) bytes) NotUtf8)
    else script_from (mq_blocks_of (lines_of bytes))

-- ---- what the answers say

-- the bytes are the text of this given script
abbrev pub Reads : List ℕ → Script → Type 0
Reads bytes given = outcome bytes ≡ Ok given

-- the first fault of the bytes, and its line
abbrev pub IsFirstFault : List ℕ → ℕ → ScriptFault → Type 0
IsFirstFault bytes line fault = outcome bytes ≡ Err (At line fault)

-- what stopped the reading, unless memory ran out, is the first fault
abbrev pub Stops : ScriptStop → Result Script ScriptStop → Type 0
Stops Memory read = Unit {0}
Stops (At line fault) read = read ≡ Err (At line fault)

abbrev pub HasFault : List ℕ → ScriptStop → Type 0
HasFault bytes stop = Stops stop (outcome bytes)
