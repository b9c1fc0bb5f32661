use Rattle.std.proofs.Common.{◌≡◌, ◌++◌, map, take}
use Rattle.pico_base.specs.Signal.{at}
use Rattle.signal_state.specs.Spelling.{act_byte}
use Rattle.signal_state.proofs.writing.write_actions.Given as goal

abbrev pub invariant-loop-sig : goal.invariant-loop-sig
invariant-loop-sig l = l.into.items ≡ l.fn.into.items ++ map (λ g. act_byte (at l.actions g)) (take l.sig-index l.sigs)
