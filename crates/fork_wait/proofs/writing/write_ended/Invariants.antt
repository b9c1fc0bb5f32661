use Rattle.std.proofs.Common.{◌≡◌, ◌<◌, ◌^◌, ◌++◌, All, take}
use Rattle.std.specs.List.{flat_map}
use Rattle.fork_wait.specs.Spelling.{ended_bytes}
use Rattle.fork_wait.proofs.writing.write_ended.Given as goal

abbrev pub invariant-loop-child : goal.invariant-loop-child
invariant-loop-child l =
    record {
      written : l.bytes.items ≡ l.fn.bytes.items ++ flat_map ended_bytes (take l.child-index l.ended);
      numbers : All (λ e. e.pid < 2 ^ 32) (take l.child-index l.ended);
    }
