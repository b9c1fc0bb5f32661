use Rattle.std.proofs.Common.{length, sym, ◌∙◌, le-leb, arith}
use Rattle.std.proofs.lemmas.Bool.{lt-leb}
use Rattle.sandbox_set.proofs.Headings.{own_stray, own_twice, own_too_many, own_opening}
use Rattle.sandbox_set.proofs.Sounds.{name_is}
use Rattle.sandbox_set.proofs.read.begun.Goals as goal

pub returns-in_default-clause-fault : goal.returns-in_default-clause-fault
returns-in_default-clause-fault c =
    λ nodes. own_stray c.args.boxes.now nodes c.args.line.now c.requires (sym c.in_default.ensures)

pub returns-then-has_name-clause-fault : goal.returns-then-has_name-clause-fault
returns-then-has_name-clause-fault c =
    λ nodes. own_twice c.args.boxes.now nodes c.args.line.now c.in-Some.name.now (sym c.in-Some.ensures) c.requires
    (sym c.has_name.ensures ∙ c.if-has_name.true)

pub returns-then-boxes-ge-MAX_SANDBOXES-clause-fault : goal.returns-then-boxes-ge-MAX_SANDBOXES-clause-fault
returns-then-boxes-ge-MAX_SANDBOXES-clause-fault c =
    λ nodes. own_too_many c.args.boxes.now nodes c.args.line.now c.in-Some.name.now (sym c.in-Some.ensures) c.requires
    (sym c.has_name.ensures ∙ c.if-has_name.false)
    (le-leb 8 (length c.args.boxes.now) (omega (arith, c.if-boxes-ge-MAX_SANDBOXES.true)))

pub returns-clause-none : goal.returns-clause-none
returns-clause-none c =
    λ nodes. own_opening c.args.boxes.now nodes c.args.line.now c.in-Some.name.now (sym c.in-Some.ensures) c.requires
    (sym c.has_name.ensures ∙ c.if-has_name.false)
    (lt-leb 8 (length c.args.boxes.now) (omega (arith, c.if-boxes-ge-MAX_SANDBOXES.false)))

pub returns-clause-fresh : goal.returns-clause-fresh
returns-clause-fresh c =
    record {
      named = name_is c.args.line.now c.in-Some.name.now (sym c.in-Some.ensures);
      new = sym c.has_name.ensures ∙ c.if-has_name.false;
      room = omega (arith, c.if-boxes-ge-MAX_SANDBOXES.false);
    }
