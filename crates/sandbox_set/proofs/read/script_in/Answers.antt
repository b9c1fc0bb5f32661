use Rattle.std.proofs.Common.{Err, sym, ap, ◌∙◌, arith}
use Rattle.sandbox_set.specs.declared.fault.BoxFault.TheVariants.{Script as OfScript}
use Rattle.sandbox_set.specs.declared.fault.BoxStop.TheVariants.{At}
use Rattle.sandbox_set.proofs.Scripts.{read_ok, read_err, fault_within, stopped_at}
use Rattle.sandbox_set.proofs.read.script_in.Goals as goal

pub fault_line-requires-clause-line : goal.fault_line-requires-clause-line
fault_line-requires-clause-line c =
    let bytes = c.args.within.now.part.script.now in
    omega (
      arith,
      fault_within bytes c.requires.short c.requires.text c.in-Err-At.line c.in-Err-At.fault
          (stopped_at c.in-Err-At.field-0 c.in-Err-At.line c.in-Err-At.fault bytes c.in-Err-At.field-0-is
          c.in-Err-At.ensures.fault),
      c.requires.count,
    )

pub returns-in-Ok-clause-gives : goal.returns-in-Ok-clause-gives
returns-in-Ok-clause-gives c =
    read_ok c.args.within.now.part.script.now c.requires.short c.requires.text c.args.within.now.number c.in-Ok.script
    c.in-Ok.ensures.ok

pub returns-in-Err-At-clause-gives : goal.returns-in-Err-At-clause-gives
returns-in-Err-At-clause-gives c =
    read_err c.args.within.now.part.script.now c.requires.short c.requires.text c.args.within.now.number
    c.in-Err-At.line c.in-Err-At.fault
    (stopped_at c.in-Err-At.field-0 c.in-Err-At.line c.in-Err-At.fault c.args.within.now.part.script.now
    c.in-Err-At.field-0-is c.in-Err-At.ensures.fault)
    ∙ ap (λ n. Err (At n (OfScript c.in-Err-At.fault))) (sym c.fault_line.ensures)
