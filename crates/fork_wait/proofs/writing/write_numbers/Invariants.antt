use Rattle.std.proofs.Common.{◌≡◌, ◌<◌, ◌^◌, ◌++◌, All, take}
use Rattle.std.specs.Int.{w32, to_be_bytes}
use Rattle.std.specs.List.{flat_map}
use Rattle.fork_wait.proofs.writing.write_numbers.Given as goal

abbrev pub invariant-loop-pid : goal.invariant-loop-pid
invariant-loop-pid l =
    record {
      written : l.bytes.items ≡ l.fn.bytes.items ++ flat_map (to_be_bytes w32) (take l.pid-index l.numbers);
      numbers : All (λ n. n < 2 ^ 32) (take l.pid-index l.numbers);
    }
