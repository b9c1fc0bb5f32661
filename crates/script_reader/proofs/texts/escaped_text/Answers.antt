use Rattle.std.proofs.Common.{◌≡◌, ℕ, ◌+◌, ◌-◌, length, sym, ◌∙◌, arith}
use Rattle.script_reader.proofs.Quotes.{quoted-goes, quoted-ends, quoted-full}
use Rattle.script_reader.proofs.texts.escaped_text.Goals as goal

pub returns-in-None : goal.returns-in-None
returns-in-None c =
    c.close_text.ensures ∙ sym
    (quoted-ends c.loop.text c.loop.rest.now (length c.args.bytes.now - c.loop.counter) (sym c.in-None.ensures))
    ∙ c.loop.invariant

pub loop-preserved : goal.loop-preserved
loop-preserved c =
    let n : ℕ = length c.args.bytes.now - c.loop.counter in
    let fewer : n - 1 ≡ length c.args.bytes.now - (c.loop.counter + 1) = omega arith in
    let goes = quoted-goes c.loop.text c.loop.rest.now c.in-Some.after.now n c.in-Some.byte
    (omega arith) c.in-Some.ensures in
    rw (c.in_ok-push-in-Some.ensures.ok, ← fewer) (sym goes ∙ c.loop.invariant)

pub returns : goal.returns
returns c =
    c.close_text-2.ensures ∙ sym
    (quoted-full c.loop.text c.loop.rest.now (length c.args.bytes.now - c.loop.counter) (omega arith))
    ∙ c.loop.invariant
