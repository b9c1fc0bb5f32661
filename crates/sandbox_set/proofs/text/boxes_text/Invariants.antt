use Rattle.std.proofs.Common.{◌≡◌, ◌++◌}
use Rattle.std.specs.Iterator.Adapters.{zip_first, zip_second}
use Rattle.std.specs.Slice.Iter.{iter_rest}
use Rattle.sandbox_set.specs.Text.{boxes_text}
use Rattle.sandbox_set.proofs.text.boxes_text.Given as goal

-- the text so far, and that of the sandboxes left, are the text of all
abbrev pub invariant-loop-sandbox : goal.invariant-loop-sandbox
invariant-loop-sandbox l =
    l.out.items ++ boxes_text (iter_rest (zip_first l.sandbox-iterator)) (iter_rest (zip_second l.sandbox-iterator))
    ≡ boxes_text l.fn.boxes l.fn.journals
