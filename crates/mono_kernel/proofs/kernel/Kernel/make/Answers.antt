use Rattle.std.proofs.Common.{◌∙◌, refl, sym}
use Rattle.mono_kernel.proofs.CallLemmas.{made-whole, may-not-be-made, fault-is, own-number-of, may-own}
use Rattle.mono_kernel.proofs.kernel.Kernel.make.Goals as goal

pub returns-then-not-may_make-clause-not_allowed : goal.returns-then-not-may_make-clause-not_allowed
returns-then-not-may_make-clause-not_allowed c =
    let none = may-not-be-made c.args.self.now c.args.pid c.args.call.now c.args.chosen c.requires
    (sym c.may_make.ensures ∙ c.if-not-may_make.true)
    in ((λ _. none), (λ _. refl))

pub returns-in-Ok-clause-ok : goal.returns-in-Ok-clause-ok
returns-in-Ok-clause-ok c =
    made-whole c.args.self.now c.args.pid c.args.call.now c.args.chosen c.requires c.carry_out.new.self
    c.finish.new.self c.in-Ok.done c.finish.result
    (sym c.may_make.ensures ∙ c.if-not-may_make.false) c.in-Ok.ensures c.finish.ensures

pub returns-in-Ok-clause-not_allowed : goal.returns-in-Ok-clause-not_allowed
returns-in-Ok-clause-not_allowed c =
    let some = returns-in-Ok-clause-ok c in ((λ no. absurd (cc)), (λ none. absurd (cc)))

pub returns-in-Err-clause-not_allowed : goal.returns-in-Err-clause-not_allowed
returns-in-Err-clause-not_allowed c =
    (fault-is c.args.self.now c.args.pid c.args.call.now c.args.chosen c.requires c.carry_out.new.self c.in-Err.fault
    (sym c.may_make.ensures ∙ c.if-not-may_make.false) c.in-Err.ensures).0

pub returns-in-Err-clause-err : goal.returns-in-Err-clause-err
returns-in-Err-clause-err c =
    (fault-is c.args.self.now c.args.pid c.args.call.now c.args.chosen c.requires c.carry_out.new.self c.in-Err.fault
    (sym c.may_make.ensures ∙ c.if-not-may_make.false) c.in-Err.ensures).1

pub returns-in-GetPid-clause-ok : goal.returns-in-GetPid-clause-ok
returns-in-GetPid-clause-ok c =
    own-number-of c.args.self.now c.own_number.new.self c.args.pid c.args.chosen c.own_number.result c.args.call.now
    c.in-GetPid.is c.own_number.ensures

pub returns-in-GetPid-clause-not_allowed : goal.returns-in-GetPid-clause-not_allowed
returns-in-GetPid-clause-not_allowed c =
    let some = returns-in-GetPid-clause-ok c in ((λ no. absurd (cc)), (λ none. absurd (cc)))

pub own_number-requires : goal.own_number-requires
own_number-requires c =
    may-own c.args.self.now c.args.pid c.args.call.now c.in-GetPid.is (sym c.may_make.ensures ∙ c.if-not-may_make.false)
