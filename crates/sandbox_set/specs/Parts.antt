-- What the steps of reading give, each by itself.
use Rattle.std.specs.Prelude.{◌≡◌, ℕ, ◌+◌, ◌≤◌, ◌<◌, nat_lt, Bool, true, false, not, List, [], ◌∷◌, ◌++◌, length, drop, if◌then◌else◌, Option, Some, None, Result, Ok, Err}
use Rattle.std.specs.Str.Lossy.{utf8_valid_len}
use Rattle.pico_base.specs.declared.script.Script.{Script}
use Rattle.script_reader.specs.Words.{lines_of}
use Rattle.script_reader.specs.Fault.{Blocks}
use Rattle.sandbox_set.specs.declared.fault.BoxFault.{BoxFault}
use Rattle.sandbox_set.specs.declared.fault.BoxFault.TheVariants.{Script as OfScript, NoEndSandbox, TooManyNodes}
use Rattle.sandbox_set.specs.declared.fault.BoxStop.{BoxStop}
use Rattle.sandbox_set.specs.declared.fault.BoxStop.TheVariants.{At}
use Rattle.sandbox_set.specs.declared.read.Sandbox.{Sandbox as Box}
use Rattle.sandbox_set.specs.Boxes.{heads_node, ends_sandbox, script_lines, outside, inside, boxes_from, Read}

-- the bytes are UTF-8
abbrev pub IsText : List ℕ → Type 0
IsText bytes = utf8_valid_len bytes ≡ length bytes

-- bytes cut where the script at their front ends
pub record IsPart (bytes script : List ℕ) (lines : ℕ) (behind : List ℕ) : Type 0 where
  pub script_is : lines_of script ≡ script_lines (lines_of bytes)
  pub count : length (lines_of script) ≡ lines
  pub parts : lines_of bytes ≡ lines_of script ++ lines_of behind
  pub ends : script_lines (lines_of behind) ≡ []
  pub short : length script ≤ length bytes
  pub room : lines + length behind ≤ length bytes
  pub text : IsText bytes → IsText script
  pub text_behind : IsText bytes → IsText behind

-- a line `endsandbox` comes first
abbrev pub is_closed : List (List ℕ) → Bool
is_closed [] = false
is_closed (line ∷ lines) = ends_sandbox line

-- bytes behind a line `endsandbox`
pub record Closes (bytes rest : List ℕ) : Type 0 where
  pub closed : is_closed (lines_of bytes) ≡ true
  pub rest_is : drop 1 (lines_of bytes) ≡ lines_of rest
  pub shorter : length rest < length bytes
  pub text : IsText bytes → IsText rest

-- how many nodes there are behind a line, of so many before it
abbrev pub nodes_behind : ℕ → List ℕ → Option ℕ
nodes_behind nodes line =
    if not (heads_node line) then Some nodes else if nat_lt nodes 32 then Some (nodes + 1) else None

abbrev pub one_more : Result ℕ ℕ → Result ℕ ℕ
one_more (Ok nodes) = Ok nodes
one_more (Err lines) = Err (lines + 1)

abbrev pub nodes_then : Option ℕ → (ℕ → Result ℕ ℕ) → Result ℕ ℕ
nodes_then None others = Err 0
nodes_then (Some nodes) others = one_more (others nodes)

-- how many there are behind these lines, or how many lines stand before the one that is one too many
abbrev pub nodes_with : ℕ → List (List ℕ) → Result ℕ ℕ
nodes_with nodes [] = Ok nodes
nodes_with nodes (line ∷ lines) = nodes_then (nodes_behind nodes line) (λ more. nodes_with more lines)

-- what a script's reading gives of its sandbox
abbrev pub script_from : Blocks → Result Script BoxStop
script_from (Ok blocks) = Ok (record { blocks = blocks })
script_from (Err fault) = Err (At fault.0 (OfScript fault.1))

-- the first of a fault that isn't the script's, and what the script's reading gives
abbrev pub first_of : ℕ → BoxFault → Result Script BoxStop → Result Script BoxStop
first_of line fault (Err (At l f)) = if nat_lt l line then Err (At l f) else Err (At line fault)
first_of line fault _ = Err (At line fault)

-- a script of a sandbox whose line `sandbox NAME` has this number
pub record IsWithin (number lines : ℕ) (script : List ℕ) : Type 0 where
  pub count : length (lines_of script) ≡ lines
  pub short : length script ≤ 1048576
  pub low : number + lines ≤ 1048576
  pub text : IsText script

-- The fault of a sandbox that isn't its script's, with its line: a node too many, or no line `endsandbox`. The script's
-- first line has this number
abbrev pub own_end : ℕ → Result ℕ ℕ → ℕ → Bool → Option (ℕ × BoxFault)
own_end first (Err before) lines closed = Some (first + before, TooManyNodes)
own_end first (Ok nodes) lines true = None
own_end first (Ok nodes) lines false = Some (first + lines, NoEndSandbox)

-- between two lines, of which the next has this number: what the rest of the input comes to is still told in full
pub record Stands (nodes number : ℕ) (rest : List ℕ) : Type 0 where
  pub few : nodes ≤ 32
  pub room : number + length rest ≤ 1048577
  pub text : IsText rest

-- what reading gives of the rest, outside a sandbox
abbrev pub from_here : List Box → ℕ → ℕ → List ℕ → Read
from_here boxes nodes number rest = boxes_from (outside boxes nodes) number (lines_of rest)

-- what it gives of a line and the rest
abbrev pub from_line : List Box → ℕ → ℕ → List ℕ → List ℕ → Read
from_line boxes nodes number line after = boxes_from (outside boxes nodes) number (line ∷ lines_of after)

-- what it gives behind the line `sandbox NAME` of this number
abbrev pub from_inside : List Box → ℕ → List ℕ → ℕ → List ℕ → Read
from_inside boxes nodes name number after =
    boxes_from (inside (outside boxes nodes) name number (lines_of after)) (number + 1) (lines_of after)
