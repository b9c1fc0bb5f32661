-- Exit statuses.
use Rattle.std.specs.Prelude.{ℕ}
use Rattle.pico_cmd.specs.declared.status.Status.{Status}
use Rattle.pico_cmd.specs.declared.status.Status.TheVariants.{Done, BadScript, Usage, Memory, ReadFault, WriteFault, Stalled, NotLegal, BadImage}

abbrev pub code_of : Status → ℕ
code_of Done = 0
code_of BadScript = 1
code_of Usage = 2
code_of Memory = 3
code_of ReadFault = 4
code_of WriteFault = 5
code_of Stalled = 6
code_of NotLegal = 7
code_of BadImage = 8
