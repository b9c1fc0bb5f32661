-- What a line behind the script says.
use Rattle.std.specs.Prelude.{ℕ, ◌==◌, nat_le, nat_lt, Bool, true, false, ◌&&◌, not, List, [], ◌∷◌, codes, bytes_eq, if◌then◌else◌, Option, Some, None}
use Rattle.std.specs.List.{list_all}
use Rattle.pico_base.specs.Options.{◌>>=◌}
use Rattle.pico_base.specs.declared.script.Event.{Event}
use Rattle.pico_base.specs.declared.script.Event.TheVariants.{Run, Take}
use Rattle.quoted_bytes.specs.Front.{strip}
use Rattle.text_fields.specs.Fields.{is_digit, number_at}
use Rattle.stamp_merge.specs.declared.Stamped.{Stamped}
use Rattle.image_text.specs.declared.placed.Placed.{Placed}
use Rattle.image_text.specs.Image.{max_stamp, max_node}

-- ---- what may stand in the image of a script with so many nodes

abbrev pub is_node : ℕ → ℕ → Bool
is_node nodes p = nat_lt 0 p && nat_le p nodes

abbrev pub is_stamp : ℕ → Bool
is_stamp stamp = nat_lt 0 stamp && nat_le stamp max_stamp

-- a stamp and a node, where all lines before it are of nodes up to `low`
abbrev pub may_stand : ℕ → ℕ → ℕ → Bool
may_stand low stamp node = is_stamp stamp && nat_le low node

-- ---- read from left to right

-- the number is the whole of what was left
abbrev pub whole_number : Option (ℕ × List ℕ) → Option ℕ
whole_number (Some (number, [])) = Some number
whole_number _ = None

-- many digits, and no zero in front: a greater number than an image has lines
abbrev pub is_long_number : List ℕ → Bool
is_long_number [] = false
is_long_number (b ∷ bytes) = not (b == 48) && list_all is_digit (b ∷ bytes)

-- a count is read as it is up to the greatest u32, and each that is greater as that one
abbrev pub max_count : ℕ
max_count = 4294967295

abbrev pub or_long : Option ℕ → List ℕ → Option ℕ
or_long (Some count) bytes = Some count
or_long None bytes = if is_long_number bytes then Some max_count else None

abbrev pub count_of : List ℕ → Option ℕ
count_of bytes = or_long (whole_number (number_at max_count bytes)) bytes

-- the number of events in a line `image E`
unfoldable pub count_in : List ℕ → Option ℕ
count_in line = do
  digits ← strip (codes "image ") line
  count_of digits

-- the number of a node
abbrev pub if_node : ℕ → ℕ × List ℕ → Option (ℕ × List ℕ)
if_node nodes number = if is_node nodes number.0 then Some number else None

unfoldable pub node_at : ℕ → List ℕ → Option (ℕ × List ℕ)
node_at nodes bytes = number_at max_node bytes >>= if_node nodes

-- what the node did
unfoldable pub take_in : ℕ → ℕ → List ℕ → Option Event
take_in nodes node bytes = do
  digits ← strip (codes "take ") bytes
  from ← whole_number (node_at nodes digits)
  Some (Take node from)

unfoldable pub act_in : ℕ → ℕ → List ℕ → Option Event
act_in nodes node bytes = if bytes_eq bytes (codes "run") then Some (Run node) else take_in nodes node bytes

-- the event of the line of this number
abbrev pub standing : ℕ → ℕ → ℕ → ℕ → Event → Option (Stamped Placed)
standing low number stamp node event =
    if may_stand low stamp node
    then Some (record { stamp = stamp; node = node; item = record { line = number; event = event } })
    else None

unfoldable pub event_in : ℕ → ℕ → ℕ → List ℕ → Option (Stamped Placed)
event_in nodes low number line = do
  stamp ← number_at max_stamp line
  behind_stamp ← strip (codes " ") stamp.1
  node ← node_at nodes behind_stamp
  behind_node ← strip (codes " ") node.1
  event ← act_in nodes node.0 behind_node
  standing low number stamp.0 node.0 event
