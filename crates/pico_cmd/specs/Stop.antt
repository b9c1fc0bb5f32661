-- Why there is no answer to write, and which bytes are read.
use Rattle.std.specs.Prelude.{◌≡◌, ◌⊎◌, ◌≤◌, ◌<◌, ◌+◌, ℕ, List, length, take, drop, Option, Some, None}
use Rattle.host_iface.specs.Faults.{HasRisen}
use Rattle.pico_words.specs.declared.words.Request.{Request}
use Rattle.pico_words.specs.declared.words.Request.TheVariants.{Run, Simulate, Check, Generate, Boxes, Queues, Freeze, Thaw}
use Rattle.pico_cmd.specs.declared.program.Stop.{Stop}
use Rattle.pico_cmd.specs.declared.program.Stop.TheVariants.{Memory, ReadFault}

-- An allocation was refused, and the count of faults stands as before; or a read failed, and it rose. A failed read is
-- never called want of memory.
abbrev pub IsStop : ℕ → ℕ → Stop → Type 0
IsStop before now Memory = now ≡ before
IsStop before now ReadFault = HasRisen before now

-- a read failed, for the cause that is told, or an allocation was refused
abbrev pub IsReadFault : Type 0 → Stop → Type 0
IsReadFault cause Memory = Unit {0}
IsReadFault cause ReadFault = cause

-- all that was left, or one byte more than the limit
abbrev pub AreBytesUpTo : ℕ → List ℕ → List ℕ → Type 0
AreBytesUpTo limit bytes left =
    ((bytes ≡ left) × (length left ≤ limit)) ⊎ ((limit < length left) × (bytes ≡ take (limit + 1) left))

-- What is left behind the first so many bytes, where the source tells it.
abbrev pub left_behind : ℕ → Option (List ℕ) → Option (List ℕ)
left_behind most None = None
left_behind most (Some left) = Some (drop most left)

-- How many bytes of the source are read at most: one more than the greatest script, which is the greatest input of
-- sandboxes, too, for `check` one more than the greatest script, the longest line `trace` and the greatest trace, and
-- for `thaw` one more than the greatest image. For a generated script nothing is read.
abbrev pub most_read : Request → ℕ
most_read (Run steps) = 1048577
most_read (Simulate options) = 1048577
most_read Check = 68161538
most_read (Generate options) = 0
most_read Boxes = 1048577
most_read (Queues steps) = 1048577
most_read (Freeze count) = 1048577
most_read Thaw = 16777217

-- whether the source is read
abbrev pub Reads : Option Request → Type 0
Reads (Some (Run steps)) = Unit {0}
Reads (Some (Simulate options)) = Unit {0}
Reads (Some Check) = Unit {0}
Reads (Some (Generate options)) = ⊥
Reads (Some Boxes) = Unit {0}
Reads (Some (Queues steps)) = Unit {0}
Reads (Some (Freeze count)) = Unit {0}
Reads (Some Thaw) = Unit {0}
Reads None = ⊥
