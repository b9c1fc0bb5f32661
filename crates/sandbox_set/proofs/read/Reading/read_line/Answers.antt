use Rattle.std.proofs.Common.{◌≡◌, Some, None, IfOk, IfErr, sym, subst, ◌∙◌}
use Rattle.sandbox_set.specs.Boxes.{Stops, own_fault, outside}
use Rattle.sandbox_set.specs.Parts.{from_here}
use Rattle.sandbox_set.proofs.Sandboxes.{skipped_line, begun_line, stray_line}
use Rattle.sandbox_set.proofs.read.Reading.read_line.Goals as goal

pub returns-then-is_skipped-clause-ok : goal.returns-then-is_skipped-clause-ok
returns-then-is_skipped-clause-ok c =
    let self = c.args.self.now in
    skipped_line self.boxes self.nodes self.number c.args.line.now c.args.after.now
    (sym c.is_skipped.ensures ∙ c.if-is_skipped.true)

pub returns-in-Ok-clause-ok : goal.returns-in-Ok-clause-ok
returns-in-Ok-clause-ok c =
    let self = c.args.self.now in
    let new = c.read_sandbox.new.self in
    subst (λ whole. IfOk c.read_sandbox.result (λ rest. from_here new.boxes new.nodes new.number rest.now ≡ whole))
    (begun_line self.boxes self.nodes self.number c.args.line.now c.args.after.now c.in-Ok.name.now c.in-Ok.ensures.name
    (subst (λ boxes. own_fault (outside boxes self.nodes) c.args.line.now ≡ None) c.as_slice.ensures
    (c.in-Ok.ensures.none self.nodes)))
    c.read_sandbox.ensures.ok

pub returns-in-Ok-clause-fault : goal.returns-in-Ok-clause-fault
returns-in-Ok-clause-fault c =
    let self = c.args.self.now in
    subst (λ whole. IfErr c.read_sandbox.result (λ stop. Stops stop whole))
    (begun_line self.boxes self.nodes self.number c.args.line.now c.args.after.now c.in-Ok.name.now c.in-Ok.ensures.name
    (subst (λ boxes. own_fault (outside boxes self.nodes) c.args.line.now ≡ None) c.as_slice.ensures
    (c.in-Ok.ensures.none self.nodes)))
    c.read_sandbox.ensures.fault

pub returns-in-Err-clause-fault : goal.returns-in-Err-clause-fault
returns-in-Err-clause-fault c =
    let self = c.args.self.now in
    stray_line self.boxes self.nodes self.number c.args.line.now c.args.after.now c.in-Err.fault
    (subst (λ boxes. own_fault (outside boxes self.nodes) c.args.line.now ≡ Some c.in-Err.fault) c.as_slice.ensures
    (c.in-Err.ensures.fault self.nodes))
