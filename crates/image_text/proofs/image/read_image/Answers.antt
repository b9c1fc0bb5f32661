use Rattle.std.specs.Prelude.{Err}
use Rattle.image_text.proofs.Again.{reads-again}
use Rattle.image_text.proofs.Images.{given-is}
use Rattle.image_text.proofs.Wholes.{script-stops, script-goes, with-sound}
use Rattle.image_text.proofs.image.read_image.Goals as goal

pub returns-in-Err-clause-gives : goal.returns-in-Err-clause-gives
returns-in-Err-clause-gives c =
    script-stops c.args.image.now c.seen-bytes.result.now c.of-parts.result.script.now c.in-Err.stop c.stop_of.result
    c.seen-bytes.ensures.value c.of-parts.ensures.script c.stop_of.ensures c.in-Err.ensures.fault

pub returns-in-Ok-clause-gives : goal.returns-in-Ok-clause-gives
returns-in-Ok-clause-gives c =
    script-goes c.args.image.now c.seen-bytes.result.now c.of-parts.result.script.now c.in-Ok.script
    c.len-nodes.result c.read_events.result c.with_script.result c.seen-bytes.ensures.value c.of-parts.ensures.script
    c.in-Ok.ensures.ok c.len-nodes.ensures c.read_events.ensures c.with_script.ensures

pub returns-in-Ok-clause-sound : goal.returns-in-Ok-clause-sound
returns-in-Ok-clause-sound c =
    with-sound c.in-Ok.script c.read_events.result c.with_script.result c.with_script.ensures c.in-Ok.ensures.sound

pub returns-in-Ok-clause-ok : goal.returns-in-Ok-clause-ok
returns-in-Ok-clause-ok c =
    given-is c.args.image.now c.with_script.result
    (script-goes c.args.image.now c.seen-bytes.result.now c.of-parts.result.script.now c.in-Ok.script
    c.len-nodes.result c.read_events.result c.with_script.result c.seen-bytes.ensures.value c.of-parts.ensures.script
    c.in-Ok.ensures.ok c.len-nodes.ensures c.read_events.ensures c.with_script.ensures)

pub returns-in-Ok-clause-only : goal.returns-in-Ok-clause-only
returns-in-Ok-clause-only c =
    reads-again c.args.image.now c.with_script.result
    (script-goes c.args.image.now c.seen-bytes.result.now c.of-parts.result.script.now c.in-Ok.script
    c.len-nodes.result c.read_events.result c.with_script.result c.seen-bytes.ensures.value c.of-parts.ensures.script
    c.in-Ok.ensures.ok c.len-nodes.ensures c.read_events.ensures c.with_script.ensures)

pub returns-in-Err-clause-only : goal.returns-in-Err-clause-only
returns-in-Err-clause-only c =
    reads-again c.args.image.now (Err c.stop_of.result)
    (script-stops c.args.image.now c.seen-bytes.result.now c.of-parts.result.script.now c.in-Err.stop c.stop_of.result
    c.seen-bytes.ensures.value c.of-parts.ensures.script c.stop_of.ensures c.in-Err.ensures.fault)
