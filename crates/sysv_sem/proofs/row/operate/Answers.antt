use Rattle.std.proofs.Common.{◌∙◌, sym, arith}
use Rattle.kernel_model.specs.SemaphoreSet.{set_of, op}
use Rattle.sysv_sem.specs.OneByOne.{carried}
use Rattle.sysv_sem.proofs.OneByOne.{op_carried, told_as}
use Rattle.sysv_sem.proofs.row.operate.Goals as goal

pub returns : goal.returns
returns c =
    told_as c.carry_out.result (op (set_of c.args.set.now) c.args.pid c.args.steps.now)
    (carried c.args.pid c.args.set.now c.args.steps.now) c.args.set.now c.carry_out.new.set
    (op_carried c.args.pid c.args.set.now c.args.steps.now (omega (arith, c.if-steps-gt-MAX_OPERATIONS.false))
    (sym c.names_outside.ensures.value ∙ c.if-names_outside.false)) c.carry_out.ensures.done
    c.carry_out.ensures.refused c.carry_out.ensures.err
