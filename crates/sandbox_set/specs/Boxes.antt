-- What an input of several sandboxes says, and what its first fault is.
use Rattle.std.specs.Prelude.{◌≡◌, ℕ, ◌+◌, ◌==◌, nat_lt, nat_le, Bool, true, false, not, ◌&&◌, ◌||◌, List, [], ◌∷◌, ◌++◌, length, codes, bytes_eq, if◌then◌else◌, Option, Some, None, is_some, Result, Ok, Err}
use Rattle.std.specs.List.{find, list_any, list_all}
use Rattle.std.specs.Option.{option_or}
use Rattle.std.specs.Str.Lossy.{utf8_valid_len}
use Rattle.pico_base.specs.declared.script.Block.{Block}
use Rattle.kernel_model.specs.Script.{is_name}
use Rattle.script_reader.specs.declared.fault.ScriptFault.{ScriptFault}
use Rattle.script_reader.specs.declared.fault.ScriptFault.TheVariants.{ScriptTooLong, NotUtf8, NoProc}
use Rattle.script_reader.specs.Words.{lines_of, words_of}
use Rattle.script_reader.specs.Says.{is_comment}
use Rattle.script_reader.specs.Fault as script
use Rattle.script_reader.specs.Fault.{Blocks, blocks_of, line_behind, max_bytes}
use Rattle.sandbox_set.specs.declared.heading.Heading.{Heading}
use Rattle.sandbox_set.specs.declared.heading.Heading.TheVariants.{Skipped, Sandbox, EndSandbox, Proc, Other}
use Rattle.sandbox_set.specs.declared.read.Sandbox.{Sandbox as Box}
use Rattle.sandbox_set.specs.declared.fault.BoxFault.{BoxFault}
use Rattle.sandbox_set.specs.declared.fault.BoxFault.TheVariants.{Script as OfScript, NoSandbox, NoEndSandbox, SandboxTwice, TooManySandboxes, TooManyNodes}
use Rattle.sandbox_set.specs.declared.fault.BoxStop.{BoxStop}
use Rattle.sandbox_set.specs.declared.fault.BoxStop.TheVariants.{Memory, At}

-- ---- what a line is, wherever it stands

abbrev pub is_last : List (List ℕ) → Bool
is_last [] = true
is_last words = false

-- a line by its words. `endsandbox` with a word behind it is a line of a script
abbrev pub heading_by : List (List ℕ) → Heading
heading_by [] = Skipped
heading_by (w ∷ words) =
    if is_comment w
    then Skipped
    else
    if bytes_eq w (codes "sandbox")
    then Sandbox
    else
    if bytes_eq w (codes "endsandbox") && is_last words
    then EndSandbox
    else if bytes_eq w (codes "proc") then Proc else Other

unfoldable pub heading_of : List ℕ → Heading
heading_of line = heading_by (words_of line)

abbrev pub is_skipped_by : Heading → Bool
is_skipped_by Skipped = true
is_skipped_by heading = false

abbrev pub heads_sandbox_by : Heading → Bool
heads_sandbox_by Sandbox = true
heads_sandbox_by heading = false

abbrev pub ends_sandbox_by : Heading → Bool
ends_sandbox_by EndSandbox = true
ends_sandbox_by heading = false

abbrev pub heads_node_by : Heading → Bool
heads_node_by Proc = true
heads_node_by heading = false

abbrev pub ends_script_by : Heading → Bool
ends_script_by Sandbox = true
ends_script_by EndSandbox = true
ends_script_by heading = false

-- no words, or a comment
abbrev pub is_skipped : List ℕ → Bool
is_skipped line = is_skipped_by (heading_of line)

-- its first word is `sandbox`
abbrev pub heads_sandbox : List ℕ → Bool
heads_sandbox line = heads_sandbox_by (heading_of line)

-- its only word is `endsandbox`
abbrev pub ends_sandbox : List ℕ → Bool
ends_sandbox line = ends_sandbox_by (heading_of line)

-- its first word is `proc`
abbrev pub heads_node : List ℕ → Bool
heads_node line = heads_node_by (heading_of line)

-- a sandbox's script has no further line in front of it: it ends the sandbox, or breaks it off
abbrev pub ends_script : List ℕ → Bool
ends_script line = ends_script_by (heading_of line)

-- the name in a line `sandbox NAME`, by the line's words
abbrev pub name_by : List (List ℕ) → Option (List ℕ)
name_by (s ∷ name ∷ []) = if bytes_eq s (codes "sandbox") && is_name name then Some name else None
name_by _ = None

unfoldable pub name_in : List ℕ → Option (List ℕ)
name_in line = name_by (words_of line)

-- ---- the script of a sandbox

-- of the lines behind a line `sandbox NAME`, those of the sandbox's script: all up to the line that ends the sandbox or
-- breaks it off
abbrev pub script_lines : List (List ℕ) → List (List ℕ)
script_lines [] = []
script_lines (line ∷ lines) = if ends_script line then [] else line ∷ script_lines lines

abbrev pub is_wordless : List (List ℕ) → Bool
is_wordless lines = list_all is_skipped lines

abbrev pub is_no_proc : ScriptFault → Bool
is_no_proc NoProc = true
is_no_proc fault = false

-- the line in the whole input of a script's fault, where the script stands behind the line of this number. Where no
-- line has words, a block is missed at the line behind the script
abbrev pub fault_line : ℕ → List (List ℕ) → ℕ → ScriptFault → ℕ
fault_line number lines line fault =
    if is_no_proc fault && is_wordless lines then number + length lines + 1 else number + line

abbrev pub placed : ℕ → List (List ℕ) → Blocks → Blocks
placed number lines (Ok blocks) = Ok blocks
placed number lines (Err fault) = Err (fault_line number lines fault.0 fault.1, fault.1)

-- what the script of these lines reads as: its blocks, or its first fault with its line in the whole input
unfoldable pub read_behind : ℕ → List (List ℕ) → Blocks
read_behind number lines = placed number lines (blocks_of lines)

-- ---- a place in the input: what the lines before it say, where they have no fault

-- a sandbox that isn't ended yet: its name, and what its script reads as
pub record Begun : Type 0 where
  pub name : List ℕ
  pub read : Blocks

pub record Place : Type 0 where
  -- the whole sandboxes
  pub boxes : List Box
  -- the one that the place is inside of
  pub begun : Option Begun
  -- how many lines are headed by `proc`
  pub nodes : ℕ

abbrev pub outside : List Box → ℕ → Place
outside boxes nodes = record { boxes = boxes; begun = None; nodes = nodes }

-- inside the sandbox of this name, whose line `sandbox NAME` has this number, and behind which these lines stand
abbrev pub inside : Place → List ℕ → ℕ → List (List ℕ) → Place
inside place name number lines =
    record {
      boxes = place.boxes;
      begun = Some (record { name = name; read = read_behind number (script_lines lines) });
      nodes = place.nodes;
    }

abbrev pub box_of : List ℕ → List Block → Box
box_of name blocks = record { name = name; script = record { blocks = blocks } }

abbrev pub with_box : Place → List ℕ → Blocks → Place
with_box place name (Ok blocks) = outside (place.boxes ++ box_of name blocks ∷ []) place.nodes
with_box place name (Err fault) = place

abbrev pub closed : Place → Option Begun → Place
closed place None = place
closed place (Some begun) = with_box place begun.name begun.read

abbrev pub opened : Place → Option (List ℕ) → ℕ → List (List ℕ) → Place
opened place None number lines = place
opened place (Some name) number lines = inside place name number lines

-- the place behind a line without a fault
abbrev pub behind_by : Heading → Place → ℕ → List ℕ → List (List ℕ) → Place
behind_by Sandbox place number line lines = opened place (name_in line) number lines
behind_by EndSandbox place number line lines = closed place place.begun
behind_by Proc place number line lines = record place { nodes = place.nodes + 1 }
behind_by heading place number line lines = place

abbrev pub behind : Place → ℕ → List ℕ → List (List ℕ) → Place
behind place number line lines = behind_by (heading_of line) place number line lines

-- ---- the faults of a line

abbrev pub is_inside : Place → Bool
is_inside place = is_some place.begun

abbrev pub has_name : List ℕ → List Box → Bool
has_name name boxes = list_any (λ (b : Box). bytes_eq b.name name) boxes

abbrev pub repeats : List Box → Option (List ℕ) → Bool
repeats boxes None = false
repeats boxes (Some name) = has_name name boxes

-- whether a line in this place has the fault
unfoldable pub has_fault : Place → List ℕ → BoxFault → Bool
has_fault place line (OfScript fault) = false
has_fault place line NoSandbox = not (is_inside place) && not (is_skipped line || is_some (name_in line))
has_fault place line NoEndSandbox = is_inside place && heads_sandbox line
has_fault place line SandboxTwice = repeats place.boxes (name_in line)
has_fault place line TooManySandboxes = is_some (name_in line) && nat_le 8 (length place.boxes)
has_fault place line TooManyNodes = heads_node line && nat_le 32 place.nodes

-- the faults that aren't a script's, in the order in which they are told
abbrev pub own_faults : List BoxFault
own_faults = NoSandbox ∷ NoEndSandbox ∷ SandboxTwice ∷ TooManySandboxes ∷ TooManyNodes ∷ []

unfoldable pub own_fault : Place → List ℕ → Option BoxFault
own_fault place line = find (λ fault. has_fault place line fault) own_faults

-- the fault of the script that is at the line of this number
abbrev pub fault_at : ℕ → Blocks → Option BoxFault
fault_at number (Ok blocks) = None
fault_at number (Err fault) = if fault.0 == number then Some (OfScript fault.1) else None

abbrev pub script_fault : ℕ → Option Begun → Option BoxFault
script_fault number None = None
script_fault number (Some begun) = fault_at number begun.read

-- the fault of the line of this number in its place. A script's comes last
abbrev pub fault_of : Place → ℕ → List ℕ → Option BoxFault
fault_of place number line = option_or (own_fault place line) (script_fault number place.begun)

-- ---- the first fault of an input

abbrev pub Read : Type 0
Read = Result (List Box) BoxStop

-- where all lines are read, behind the last one. An input of no line with words has its fault at line 1
abbrev pub ending : Place → ℕ → Read
ending place number =
    if is_inside place
    then Err (At number NoEndSandbox)
    else if length place.boxes == 0 then Err (At 1 NoSandbox) else Ok place.boxes

-- a line of the fault, or else what the lines behind it give
abbrev pub unless : Option BoxFault → ℕ → Read → Read
unless (Some fault) number others = Err (At number fault)
unless None number others = others

-- the sandboxes of these lines, the first of which has this number, or the first fault with its line
unfoldable pub boxes_from : Place → ℕ → List (List ℕ) → Read
boxes_from place number [] = ending place number
boxes_from place number (line ∷ lines) =
    unless (fault_of place number line) number (boxes_from (behind place number line lines) (number + 1) lines)

unfoldable pub boxes_of : List (List ℕ) → Read
boxes_of lines = boxes_from (outside [] 0) 1 lines

-- The sandboxes that the bytes are the text of, or the first fault with its line. Two faults come before all others:
-- more than 1,048,576 bytes, at the line of the first byte too many, and bytes that aren't UTF-8, at the line of the
-- first one that isn't part of a character.
unfoldable pub outcome : List ℕ → Read
outcome bytes =
    if nat_lt max_bytes (length bytes)
    then Err (At (line_behind max_bytes bytes) (OfScript ScriptTooLong))
    else
    if nat_lt (utf8_valid_len bytes) (length bytes)
    then Err (At (line_behind (utf8_valid_len bytes) bytes) (OfScript NotUtf8))
    else boxes_of (lines_of bytes)

-- ---- what the answers say

-- the bytes are the text of these sandboxes
abbrev pub Reads : List ℕ → List Box → Type 0
Reads bytes boxes = outcome bytes ≡ Ok boxes

-- the first fault of the bytes, and its line
abbrev pub IsFirstFault : List ℕ → ℕ → BoxFault → Type 0
IsFirstFault bytes line fault = outcome bytes ≡ Err (At line fault)

-- what stopped the reading is what reading gives, unless memory ran out
abbrev pub Stops : {A : Type 0} → BoxStop → Result A BoxStop → Type 0
Stops Memory read = Unit {0}
Stops (At line fault) read = read ≡ Err (At line fault)

abbrev pub Gives : {A : Type 0} → Result A BoxStop → Result A BoxStop → Type 0
Gives (Ok value) read = read ≡ Ok value
Gives (Err stop) read = Stops stop read

-- what stopped the reading, unless memory ran out, is that fault
abbrev pub HasFault : List ℕ → BoxStop → Type 0
HasFault bytes stop = Stops stop (outcome bytes)

-- a fault's name, as it is printed
abbrev pub name_of : BoxFault → List ℕ
name_of (OfScript fault) = script.name_of fault
name_of NoSandbox = codes "NoSandbox"
name_of NoEndSandbox = codes "NoEndSandbox"
name_of SandboxTwice = codes "SandboxTwice"
name_of TooManySandboxes = codes "TooManySandboxes"
name_of TooManyNodes = codes "TooManyNodes"
