-- Scripts in which no call is in a form that may have to wait.
use Rattle.std.specs.Prelude.{Bool, not}
use Rattle.std.specs.List.{list_all}
use Rattle.pico_base.specs.declared.script.Line.{Line}
use Rattle.pico_base.specs.declared.script.Block.{Block}
use Rattle.pico_base.specs.declared.script.Script.{Script}
use Rattle.kernel_model.specs.Waiting.{is_waiting}

abbrev pub waits_never : Line → Bool
waits_never line = not (is_waiting line.call)

abbrev pub never_waits : Script → Bool
never_waits script = list_all (λ (block : Block). list_all waits_never block.lines) script.blocks
