use Rattle.std.proofs.Common.{◌≡◌, take}
use Rattle.std.specs.Map.{keys_of}
use Rattle.mono_kernel.specs.Table.{with_answers}
use Rattle.mono_kernel.proofs.processes.Processes.answer.Given as goal

abbrev pub invariant-loop-pair : goal.invariant-loop-pair
invariant-loop-pair l =
    record {
      same_numbers : keys_of l.self ≡ keys_of l.initial.self;
      answered : l.self ≡ with_answers l.initial.self (take l.pair-index l.woken);
    }
