use Rattle.std.proofs.Common.{◌∷◌, ◌++◌, [], sym, ◌∙◌}
use Rattle.std.proofs.lemmas.List.{take_rest}
use Rattle.quoted_bytes.specs.Bytes.{text_byte_at}
use Rattle.text_fields.proofs.Many.{many-ends}
use Rattle.text_fields.proofs.PlainRuns.{reads-first, reads-run, reads-byte, rest-shorter, text_byte_shrinks}
use Rattle.text_fields.proofs.texts.text_bytes.Goals as goal

pub loop-byte-init : goal.loop-byte-init
loop-byte-init c =
    rw (c.in_ok-text.ensures.items, take_rest c.args.bytes.now c.plain_front-count.result)
    (reads-first c.args.bytes.now c.plain_front-count.result c.plain_front-count.ensures.within
    c.plain_front-count.ensures.plain)

pub loop-byte-smaller : goal.loop-byte-smaller
loop-byte-smaller c =
    rest-shorter c.loop-byte.rest.now c.in-Some.after.now c.plain_front-count-in-Some.result
    (text_byte_shrinks c.loop-byte.rest.now c.in-Some.byte c.in-Some.after.now c.in-Some.ensures)

pub loop-byte-preserved : goal.loop-byte-preserved
loop-byte-preserved c =
    rw (
      c.in_ok-extend_from_slice.ensures.items,
      c.in_ok-push.ensures.items,
      take_rest c.in-Some.after.now c.plain_front-count-in-Some.result,
    ) (reads-run c.args.bytes.now (c.loop-byte.text.items ++ c.in-Some.byte ∷ []) c.in-Some.after.now
    c.plain_front-count-in-Some.result
    (reads-byte c.args.bytes.now c.loop-byte.text.items c.loop-byte.rest.now c.in-Some.after.now c.in-Some.byte
    c.loop-byte.invariant c.in-Some.ensures)
    c.plain_front-count-in-Some.ensures.within c.plain_front-count-in-Some.ensures.plain)

pub returns : goal.returns
returns c =
    rw c.from_vec.ensures
    (sym (many-ends text_byte_at c.loop-byte.text.items c.loop-byte.rest.now c.loop-byte.invariant.most
    (sym c.in_default.ensures)) ∙ c.loop-byte.invariant.whole)
