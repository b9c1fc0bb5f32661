use Rattle.std.proofs.Common.{◌≡◌, ℕ, ◌<◌, ◌^◌, ◌++◌, [], ◌∷◌, List, get_or, take, ap, sym, ◌∙◌}
use Rattle.std.proofs.lemmas.List.{flat_map_more, take_more}
use Rattle.std.proofs.lemmas.List.Elements.{All-more}
use Rattle.std.specs.Int.{w32, to_be_bytes}
use Rattle.std.specs.List.{flat_map}
use Rattle.fork_wait.proofs.writing.write_numbers.Goals as goal

pub loop-pid-preserved : goal.loop-pid-preserved
loop-pid-preserved c =
    let pid : ℕ = c.pid-item.result in
    let so_far : List ℕ = take c.loop-pid.pid-index c.args.numbers.now in
    let read : get_or c.args.numbers.now c.loop-pid.pid-index pid ≡ pid = sym c.pid-item.is in
    record {
      written =
          c.in_ok-write_number.ensures.written
          ∙ ap (λ (bytes : List ℕ). bytes ++ to_be_bytes w32 pid) c.loop-pid.invariant.written
          ∙ flat_map_more (to_be_bytes w32) c.args.bytes.now.items so_far pid
          ∙ ap (λ (n : ℕ). c.args.bytes.now.items ++ flat_map (to_be_bytes w32) (so_far ++ n ∷ [])) c.pid-item.is
          ∙ ap (λ (ns : List ℕ). c.args.bytes.now.items ++ flat_map (to_be_bytes w32) ns)
          (sym (take_more c.args.numbers.now c.loop-pid.pid-index c.pid-item.result c.loop-pid-test.true));
      numbers = All-more (λ n. n < 2 ^ 32) c.args.numbers.now c.loop-pid.pid-index c.pid-item.result
          c.loop-pid-test.true c.loop-pid.invariant.numbers (rw read c.write_number.ensures.number);
    }
