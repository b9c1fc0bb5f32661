use Rattle.std.proofs.Common.{◌≡◌, take}
use Rattle.std.specs.List.{fold}
use Rattle.std.specs.Map.{keys_of}
use Rattle.waiting_model.specs.ProcessCalls.{bury}
use Rattle.mono_kernel.proofs.processes.Processes.bury.Given as goal

abbrev pub invariant-loop-child : goal.invariant-loop-child
invariant-loop-child l =
    record {
      same_numbers : keys_of l.self ≡ keys_of l.initial.self;
      buried : l.self ≡ fold bury l.initial.self (take l.child-index l.children);
    }
