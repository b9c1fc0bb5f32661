use Rattle.std.proofs.Common.{◌≡◌, take, Some, None, sym, ap, ◌∙◌, arith}
use Rattle.frame_bytes.specs.Frames.{whole_at}
use Rattle.frame_bytes.proofs.FirstLaws.{is-long, is-cut, is-none, is-whole}
use Rattle.frame_bytes.proofs.splitting.first.Goals as goal

pub returns-then-len-gt-MAX_FRAME : goal.returns-then-len-gt-MAX_FRAME
returns-then-len-gt-MAX_FRAME c =
    is-long c.args.bytes.now c.in-Some.len c.in-Some.rest.now
    (λ i. omega (arith, c.type_inv.bytes i)) c.in-Some.ensures c.if-len-gt-MAX_FRAME.true

pub returns-then-rest-len : goal.returns-then-rest-len
returns-then-rest-len c =
    is-cut c.args.bytes.now c.in-Some.len c.in-Some.rest.now
    (λ i. omega (arith, c.type_inv.bytes i)) c.in-Some.ensures c.if-len-gt-MAX_FRAME.false c.if-rest-len.true

pub returns-in-Ok : goal.returns-in-Ok
returns-in-Ok c =
    let got : whole_at (take c.in-Some.len c.in-Some.rest.now) ≡ Some c.in-Ok.frame =
    ap whole_at (sym c.split_at.ensures.front) ∙ c.in-Ok.ensures in
    is-whole c.args.bytes.now c.in-Some.len c.in-Some.rest.now
    (λ i. omega (arith, c.type_inv.bytes i)) c.in-Some.ensures c.in-Ok.frame c.if-len-gt-MAX_FRAME.false
    c.if-rest-len.false got

pub returns-in-Err-NotABody : goal.returns-in-Err-NotABody
returns-in-Err-NotABody c =
    let got : whole_at (take c.in-Some.len c.in-Some.rest.now) ≡ None =
    ap whole_at (sym c.split_at.ensures.front) ∙ (rw c.in-Err-NotABody.field-0-is at c.in-Err-NotABody.ensures) in
    is-none c.args.bytes.now c.in-Some.len c.in-Some.rest.now
    (λ i. omega (arith, c.type_inv.bytes i)) c.in-Some.ensures c.if-len-gt-MAX_FRAME.false c.if-rest-len.false got
