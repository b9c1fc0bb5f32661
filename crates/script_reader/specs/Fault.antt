-- What a text is the script of, and what its first fault is.
use Rattle.std.specs.Prelude.{◌≡◌, ℕ, ◌+◌, ◌==◌, nat_lt, nat_le, Bool, true, false, not, ◌&&◌, ◌||◌, List, [], ◌∷◌, ◌++◌, length, take, slice_index_or, slice_set, replicate, count_by, codes, if◌then◌else◌, Option, Some, None, Result, Ok, Err}
use Rattle.std.specs.List.{find}
use Rattle.std.specs.Str.Lossy.{utf8_valid_len}
use Rattle.pico_base.specs.declared.call.Call.TheVariants as calls
use Rattle.pico_base.specs.declared.script.Line.{Line}
use Rattle.pico_base.specs.declared.script.Block.{Block}
use Rattle.pico_base.specs.declared.script.Script.{Script}
use Rattle.kernel_model.specs.Script.{is_exit}
use Rattle.script_reader.specs.declared.fault.ScriptFault.{ScriptFault}
use Rattle.script_reader.specs.declared.fault.ScriptFault.TheVariants.{ScriptTooLong, NotUtf8, LineTooLong, NoProc, NoEnd, UnknownCall, BadArgument, UnsetVariable, UnknownProc, ForkedTwice, NeverForked, ForkBackwards, TooManyProcs, TooManyCalls}
use Rattle.script_reader.specs.declared.fault.ScriptStop.{ScriptStop}
use Rattle.script_reader.specs.declared.fault.ScriptStop.TheVariants.{Memory, At}
use Rattle.script_reader.specs.declared.place.Begun.{Begun}
use Rattle.script_reader.specs.declared.place.Place.{Place}
use Rattle.script_reader.specs.declared.says.Said.{Said}
use Rattle.script_reader.specs.declared.says.Said.TheVariants.{Skipped, Opens, BadProc, Ends, Unknown, Bad, Forks, Calls}
use Rattle.script_reader.specs.Words.{lines_of}
use Rattle.script_reader.specs.Says.{names_of, said_of}

-- ---- a place in a text: what the lines before it say, where they have no fault

-- how many variables there are
abbrev pub variables : ℕ
variables = 2886

unfoldable pub no_flags : ℕ → List Bool
no_flags count = replicate count false

abbrev pub is_at : List Bool → ℕ → Bool
is_at flags index = slice_index_or flags index false

-- the variables that are known behind a line
abbrev pub known_with : List Bool → Option ℕ → List Bool
known_with known None = known
known_with known (Some v) = slice_set known v true

-- the block that is open, or the next one, counted from 1
abbrev pub number_at : Place → ℕ
number_at place = length place.blocks + 1

-- before the first line, in a text of so many names
unfoldable pub start : ℕ → Place
start names =
    record {
      blocks = [];
      inside = false;
      name = [];
      lines = [];
      over = false;
      known = no_flags variables;
      forked = no_flags (names + 1);
      begun = [];
      calls = 0;
    }

-- what the block of this number begins with
unfoldable pub begun_with : List Begun → ℕ → List Bool
begun_with [] number = no_flags variables
begun_with (b ∷ begun) number = if b.number == number then b.known else begun_with begun number

-- the node of a block. In a script none has a number above 32; where a fork names one, 32 stands for it
abbrev pub node_of : ℕ → ℕ
node_of number = if nat_lt 0 number && nat_le number 32 then number else 32

abbrev pub fork_line : Option ℕ → ℕ → Line
fork_line set number = record { set = set; tries = 1; from = None; call = calls.Fork (node_of number) }

-- a forked block begins with what is known behind the line that forks it
abbrev pub with_begun : List Begun → ℕ → List Bool → List Begun
with_begun begun number known =
    if nat_le number 32 then begun ++ record { number = number; known = known } ∷ [] else begun

abbrev pub noting : Place → ℕ → Place
noting place number = record place { begun = with_begun place.begun number place.known }

abbrev pub opened : Place → List ℕ → ℕ → Place
opened place name number =
    record place {
      inside = true;
      name = name;
      lines = [];
      over = false;
      known = begun_with place.begun number;
    }

abbrev pub ended : Place → ℕ → Place
ended place implied =
    record place {
      blocks = place.blocks ++ record { name = place.name; lines = place.lines } ∷ [];
      inside = false;
      name = [];
      lines = [];
      over = false;
      calls = place.calls + implied;
    }

abbrev pub forking : Place → Option ℕ → ℕ → Place
forking place set number =
    noting
    (record place {
      lines = place.lines ++ fork_line set number ∷ [];
      known = known_with place.known set;
      forked = slice_set place.forked number true;
      calls = place.calls + 1;
    })
    number

abbrev pub calling : Place → Line → Place
calling place line =
    record place {
      lines = place.lines ++ line ∷ [];
      over = is_exit line.call;
      known = known_with place.known line.set;
      calls = place.calls + line.tries;
    }

-- the calls that a line adds. `end` adds the `exit 0` that it stands for where the last call isn't `exit`
abbrev pub calls_of : Place → Said → ℕ
calls_of place Ends = if place.over then 0 else 1
calls_of place (Forks set number) = 1
calls_of place (Calls line) = line.tries
calls_of place said = 0

-- the place behind a line without a fault
abbrev pub behind : Place → Said → Place
behind place (Opens name number) = opened place name number
behind place Ends = ended place (calls_of place Ends)
behind place (Forks set (Some number)) = forking place set number
behind place (Calls line) = calling place line
behind place said = place

-- ---- the faults of a line

abbrev pub is_proc : Said → Bool
is_proc (Opens name number) = true
is_proc BadProc = true
is_proc said = false

abbrev pub is_skipped : Said → Bool
is_skipped Skipped = true
is_skipped said = false

abbrev pub is_unknown : Said → Bool
is_unknown Unknown = true
is_unknown said = false

-- the words aren't those of a line of any form
abbrev pub is_bad : Said → Bool
is_bad Bad = true
is_bad BadProc = true
is_bad said = false

-- `proc NAME` with the name of an earlier block. Blocks are numbered in the order of the names' first lines, so each
-- other name has the number of the next block
abbrev pub repeats : Place → Said → Bool
repeats place (Opens name number) = not (number == number_at place)
repeats place said = false

abbrev pub is_call : Said → Bool
is_call (Forks set number) = true
is_call (Calls line) = true
is_call said = false

-- `$VAR` that no earlier line of the block sets and that the block didn't begin with
abbrev pub is_unset : Place → Option ℕ → Bool
is_unset place None = false
is_unset place (Some v) = not (is_at place.known v)

abbrev pub uses_unset : Place → Said → Bool
uses_unset place (Calls line) = is_unset place line.from
uses_unset place said = false

-- `fork` of a name that no block has
abbrev pub forks_nothing : Said → Bool
forks_nothing (Forks set None) = true
forks_nothing said = false

-- `fork` of a block that an earlier line forks
abbrev pub forks_again : Place → Said → Bool
forks_again place (Forks set (Some number)) = is_at place.forked number
forks_again place said = false

-- `fork` of the block that it stands in, or of an earlier one
abbrev pub forks_back : Place → Said → Bool
forks_back place (Forks set (Some number)) = nat_le number (number_at place)
forks_back place said = false

-- `proc` of a block other than the first that no earlier line forks
abbrev pub is_never_forked : Place → Said → Bool
is_never_forked place (Opens name number) = nat_lt 1 (number_at place) && not (is_at place.forked number)
is_never_forked place said = false

abbrev pub is_proc_too_many : Place → Said → Bool
is_proc_too_many place (Opens name number) = nat_lt 32 (number_at place)
is_proc_too_many place said = false

-- whether a line of this length, which says this in its place, has the fault
unfoldable pub has_fault : Place → ℕ → Said → ScriptFault → Bool
has_fault place size said ScriptTooLong = false
has_fault place size said NotUtf8 = false
has_fault place size said LineTooLong = nat_lt 4096 size
has_fault place size said NoProc = not place.inside && not (is_proc said || is_skipped said)
has_fault place size said NoEnd = place.inside && is_proc said
has_fault place size said UnknownCall = place.inside && is_unknown said
has_fault place size said BadArgument = is_bad said || (repeats place said || (place.over && is_call said))
has_fault place size said UnsetVariable = uses_unset place said
has_fault place size said UnknownProc = forks_nothing said
has_fault place size said ForkedTwice = forks_again place said
has_fault place size said NeverForked = is_never_forked place said
has_fault place size said ForkBackwards = forks_back place said
has_fault place size said TooManyProcs = is_proc_too_many place said
has_fault place size said TooManyCalls = nat_lt 20000 (place.calls + calls_of place said)

-- the faults that a line may have, in the order in which they are told
abbrev pub line_faults : List ScriptFault
line_faults =
    LineTooLong ∷ NoProc ∷ NoEnd ∷ UnknownCall ∷ BadArgument ∷ UnsetVariable ∷ UnknownProc ∷ ForkedTwice
    ∷ NeverForked ∷ ForkBackwards ∷ TooManyProcs ∷ TooManyCalls ∷ []

-- the fault of a line in its place
unfoldable pub fault_of : Place → ℕ → Said → Option ScriptFault
fault_of place size said =
    find (λ fault. has_fault place size said fault) line_faults

-- ---- the first fault of a text

-- where all lines are read, behind the last one. A text of no line with words has its fault at line 1
abbrev pub ending : Place → ℕ → Result (List Block) (ℕ × ScriptFault)
ending place number =
    if place.inside
    then Err (number, NoEnd)
    else if length place.blocks == 0 then Err (1, NoProc) else Ok place.blocks

abbrev pub Blocks : Type 0
Blocks = Result (List Block) (ℕ × ScriptFault)

-- a line of the fault, or else what the lines behind it give
abbrev pub unless : Option ScriptFault → ℕ → Blocks → Blocks
unless (Some fault) number others = Err (number, fault)
unless None number others = others

-- the blocks of these lines, the first of which has this number, or the first fault with its line
unfoldable pub blocks_from : List (List ℕ) → Place → ℕ → List (List ℕ) → Blocks
blocks_from names place number [] = ending place number
blocks_from names place number (line ∷ lines) =
    let said : Said = said_of names line in
    unless (fault_of place (length line) said) number
    (blocks_from names (behind place said) (number + 1) lines)

unfoldable pub blocks_of : List (List ℕ) → Blocks
blocks_of lines = blocks_from (names_of lines) (start (length (names_of lines))) 1 lines

-- the line of the byte behind so many
abbrev pub line_behind : ℕ → List ℕ → ℕ
line_behind count bytes = 1 + count_by (λ b. b == 10) (take count bytes)

abbrev pub max_bytes : ℕ
max_bytes = 1048576

abbrev pub script_from : Blocks → Result Script ScriptStop
script_from (Ok blocks) = Ok (record { blocks = blocks })
script_from (Err fault) = Err (At fault.0 fault.1)

-- The script that the bytes are the text of, or the first fault with its line. Two faults come before all others: more
-- than 1,048,576 bytes, at the line of the first byte too many, and bytes that aren't UTF-8, at the line of the first
-- one that isn't part of a character.
unfoldable pub outcome : List ℕ → Result Script ScriptStop
outcome bytes =
    if nat_lt max_bytes (length bytes)
    then Err (At (line_behind max_bytes bytes) ScriptTooLong)
    else
    if nat_lt (utf8_valid_len bytes) (length bytes)
    then Err (At (line_behind (utf8_valid_len bytes) bytes) NotUtf8)
    else script_from (blocks_of (lines_of bytes))

-- ---- what the answers say

-- the bytes are the text of this script
abbrev pub Reads : List ℕ → Script → Type 0
Reads bytes script = outcome bytes ≡ Ok script

-- the first fault of the bytes, and its line
abbrev pub IsFirstFault : List ℕ → ℕ → ScriptFault → Type 0
IsFirstFault bytes line fault = outcome bytes ≡ Err (At line fault)

-- what a function returned, of blocks
abbrev pub Fails : ScriptStop → Blocks → Type 0
Fails Memory read = Unit {0}
Fails (At line fault) read = read ≡ Err (line, fault)

abbrev pub GivesBlocks : Result (List Block) ScriptStop → Blocks → Type 0
GivesBlocks (Ok blocks) read = read ≡ Ok blocks
GivesBlocks (Err stop) read = Fails stop read

-- What a function returned is what reading gives, unless memory ran out.
abbrev pub Stops : ScriptStop → Result Script ScriptStop → Type 0
Stops Memory read = Unit {0}
Stops (At line fault) read = read ≡ Err (At line fault)

abbrev pub Gives : Result Script ScriptStop → Result Script ScriptStop → Type 0
Gives (Ok script) read = read ≡ Ok script
Gives (Err stop) read = Stops stop read

-- what stopped the reading, unless memory ran out, is that fault
abbrev pub HasFault : List ℕ → ScriptStop → Type 0
HasFault bytes stop = Stops stop (outcome bytes)

-- a fault's name, as it is printed
abbrev pub name_of : ScriptFault → List ℕ
name_of ScriptTooLong = codes "ScriptTooLong"
name_of NotUtf8 = codes "NotUtf8"
name_of LineTooLong = codes "LineTooLong"
name_of NoProc = codes "NoProc"
name_of NoEnd = codes "NoEnd"
name_of UnknownCall = codes "UnknownCall"
name_of BadArgument = codes "BadArgument"
name_of UnsetVariable = codes "UnsetVariable"
name_of UnknownProc = codes "UnknownProc"
name_of ForkedTwice = codes "ForkedTwice"
name_of NeverForked = codes "NeverForked"
name_of ForkBackwards = codes "ForkBackwards"
name_of TooManyProcs = codes "TooManyProcs"
name_of TooManyCalls = codes "TooManyCalls"
