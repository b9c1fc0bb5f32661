use Rattle.std.proofs.Common.{◌≡◌, ℕ, ◌<◌, ◌^◌, ◌++◌, [], ◌∷◌, List, get_or, take, append_assoc, ap, sym, ◌∙◌}
use Rattle.std.proofs.lemmas.List.{flat_map_more, take_more}
use Rattle.std.proofs.lemmas.List.Elements.{All-more}
use Rattle.std.specs.Int.{w32, to_be_bytes}
use Rattle.std.specs.List.{flat_map}
use Rattle.kernel_model.specs.Row.{EndedChild, ended_child}
use Rattle.fork_wait.specs.Spelling.{ended_bytes, ending_bytes}
use Rattle.fork_wait.proofs.writing.write_ended.Goals as goal

pub loop-child-preserved : goal.loop-child-preserved
loop-child-preserved c =
    let child : EndedChild = ended_child c.child.inside.pid c.child.inside.ending in
    let so_far : List (EndedChild) = take c.loop-child.child-index c.args.ended.now in
    let read : get_or c.args.ended.now c.loop-child.child-index c.child-item.result ≡ child =
    sym c.child-item.is ∙ sym c.child.view_is in
    record {
      written =
          c.in_ok-write_ending.ensures
          ∙ ap (λ (bytes : List ℕ). bytes ++ ending_bytes child.ending)
          (c.in_ok-write_number.ensures.written
          ∙ ap (λ (bytes : List ℕ). bytes ++ to_be_bytes w32 child.pid) c.loop-child.invariant.written)
          ∙ append_assoc _ (to_be_bytes w32 child.pid) (ending_bytes child.ending)
          ∙ flat_map_more ended_bytes c.args.bytes.now.items so_far child
          ∙ ap (λ (e : EndedChild). c.args.bytes.now.items ++ flat_map ended_bytes (so_far ++ e ∷ [])) (sym read)
          ∙ ap (λ (es : List (EndedChild)). c.args.bytes.now.items ++ flat_map ended_bytes es)
          (sym (take_more c.args.ended.now c.loop-child.child-index c.child-item.result c.loop-child-test.true));
      numbers = All-more (λ (e : EndedChild). e.pid < 2 ^ 32) c.args.ended.now c.loop-child.child-index
          c.child-item.result c.loop-child-test.true c.loop-child.invariant.numbers
          (rw read c.write_number.ensures.number);
    }
