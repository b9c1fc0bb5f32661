use Rattle.pico_cmd.proofs.Left.{IsLeftToAsk}
use Rattle.pico_cmd.proofs.stalled.are_left_stalled.Given as goal

-- none was found so far
abbrev pub invariant-loop-one : goal.invariant-loop-one
invariant-loop-one l = IsLeftToAsk l.rested l.one-index
