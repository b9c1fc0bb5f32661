-- Reading a family from left to right.
use Rattle.std.specs.Prelude.{ℕ, List, Option, Some, None, ◌==◌, if◌then◌else◌}
use Rattle.std.specs.Int.{w32}
use Rattle.std.specs.Option.{option_map}
use Rattle.pico_base.specs.declared.reply.Ending.{Ending}
use Rattle.pico_base.specs.declared.reply.Ending.TheVariants.{Exited, Killed}
use Rattle.body_fields.specs.Fields.{byte_at, byte_upto, many_at, number_at, whole}
use Rattle.kernel_model.specs.Row.{Family, EndedChild, ended_child}
use Rattle.pico_base.specs.Options.{◌>>=◌}
use Rattle.pico_base.specs.Signal.{signal_from}

abbrev pub ending_from : ℕ → ℕ → Option Ending
ending_from kind value =
    if kind == 0 then Some (Exited value) else if kind == 1 then option_map Killed (signal_from value) else None

unfoldable pub ended_at : List ℕ → Option (EndedChild × List ℕ)
ended_at bytes = do
  pid ← number_at w32 bytes
  kind ← byte_at pid.1
  value ← byte_at kind.1
  ending ← ending_from kind.0 value.0
  Some (ended_child pid.0 ending, value.1)

unfoldable pub numbers_at : ℕ → List ℕ → Option (List ℕ × List ℕ)
numbers_at count bytes = many_at (number_at w32) count bytes

unfoldable pub all_ended_at : ℕ → List ℕ → Option (List EndedChild × List ℕ)
all_ended_at count bytes = many_at ended_at count bytes

-- how many children a list has at most
abbrev pub max_children : ℕ
max_children = 31

-- two lists of at most 31 children, from all of the bytes
unfoldable pub family_at : List ℕ → Option Family
family_at bytes = do
  living ← byte_upto max_children bytes
  numbers ← numbers_at living.0 living.1
  ended ← byte_upto max_children numbers.1
  endings ← whole (all_ended_at ended.0 ended.1)
  Some (record { living = numbers.0; ended = endings })
