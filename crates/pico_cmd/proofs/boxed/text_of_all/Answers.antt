use Rattle.std.proofs.Common.{◌∙◌}
use Rattle.std.specs.Iterator.Adapters.{zip_first, zip_second}
use Rattle.std.specs.Slice.Iter.{iter_rest}
use Rattle.std.proofs.lemmas.Slice.Zip.{Zip-more, either_empty_from_Zip}
use Rattle.pico_cmd.specs.Boxed.{worlds_text}
use Rattle.pico_cmd.proofs.WorldTexts.{told_end, told_more, told_there}
use Rattle.pico_cmd.proofs.boxed.text_of_all.Goals as goal

pub push_rested-requires : goal.push_rested-requires
push_rested-requires c =
    let s = c.loop-name.name-iterator in
    let t = c.next.new.self in
    let parts = Zip-more s t c.next.result (c.in-Some.name, c.in-Some.one) c.in-Some.is c.next.ensures.steps in
    told_there c.loop-name.out.items (iter_rest (zip_first s)) (iter_rest (zip_second s)) (iter_rest (zip_second t))
    (worlds_text c.args.names.now c.args.rested.now) c.in-Some.one.now c.loop-name.invariant parts.1

pub loop-name-preserved : goal.loop-name-preserved
loop-name-preserved c =
    let s = c.loop-name.name-iterator in
    let t = c.next.new.self in
    let parts = Zip-more s t c.next.result (c.in-Some.name, c.in-Some.one) c.in-Some.is c.next.ensures.steps in
    told_more c.loop-name.out.items c.push_rested.new.out.items (iter_rest (zip_first s)) (iter_rest (zip_first t))
    (iter_rest (zip_second s)) (iter_rest (zip_second t)) (worlds_text c.args.names.now c.args.rested.now)
    c.in-Some.name.now c.in-Some.one.now c.loop-name.invariant parts.0 parts.1 c.in_ok-push_rested.ensures

pub returns : goal.returns
returns c =
    let s = c.loop-name.name-iterator in
    c.from_vec.ensures
    ∙ told_end c.loop-name.out.items (iter_rest (zip_first s)) (iter_rest (zip_second s))
    (worlds_text c.args.names.now c.args.rested.now) c.loop-name.invariant
    (either_empty_from_Zip s c.next.new.self c.next.result c.in-None.is c.next.ensures.steps)
