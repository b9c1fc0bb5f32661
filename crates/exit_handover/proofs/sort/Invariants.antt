use Rattle.std.proofs.Common.{◌≡◌, ◌++◌, map}
use Rattle.rpc_frame.specs.declared.frame.Frame.TheVariants as frames
use Rattle.exit_handover.specs.Giving.{objects_in, processes_in}
use Rattle.exit_handover.proofs.sort.Given as goal

abbrev pub invariant-loop-deed : goal.invariant-loop-deed
invariant-loop-deed l =
    (l.frames.items ++ map (λ deed. frames.GiveBack deed) (objects_in l.deed-iterator.rest.items)
    ≡ map (λ deed. frames.GiveBack deed) (objects_in l.fn.packed.items))
    × (l.processes.items ++ processes_in l.deed-iterator.rest.items ≡ processes_in l.fn.packed.items)
