use Rattle.std.proofs.Common.{◌∙◌}
use Rattle.std.specs.Iterator.Adapters.{zip_first, zip_second}
use Rattle.std.specs.Slice.Iter.{iter_rest}
use Rattle.std.proofs.lemmas.Slice.Zip.{Zip-more, either_empty_from_Zip}
use Rattle.sandbox_set.specs.Text.{boxes_text}
use Rattle.sandbox_set.proofs.Texts.{text_turn, text_end}
use Rattle.sandbox_set.proofs.text.boxes_text.Goals as goal

pub loop-sandbox-preserved : goal.loop-sandbox-preserved
loop-sandbox-preserved c =
    let s = c.loop-sandbox.sandbox-iterator in
    let t = c.next.new.self in
    let parts = Zip-more s t c.next.result (c.in-Some.sandbox, c.in-Some.journal) c.in-Some.is c.next.ensures.steps in
    text_turn c.loop-sandbox.out.items c.push_sandbox.new.out.items c.in-Some.sandbox.now (iter_rest (zip_first s))
    (iter_rest (zip_first t)) c.in-Some.journal.now (iter_rest (zip_second s)) (iter_rest (zip_second t))
    (boxes_text c.args.boxes.now c.args.journals.now) c.loop-sandbox.invariant parts.0 parts.1
    c.in_ok-push_sandbox.ensures

pub returns : goal.returns
returns c =
    let s = c.loop-sandbox.sandbox-iterator in
    c.from_vec.ensures
    ∙ text_end c.loop-sandbox.out.items (iter_rest (zip_first s)) (iter_rest (zip_second s))
    (boxes_text c.args.boxes.now c.args.journals.now) c.loop-sandbox.invariant
    (either_empty_from_Zip s c.next.new.self c.next.result c.in-None.is c.next.ensures.steps)
