use Rattle.std.proofs.Common.{◌≡◌, List, [], Result, Ok, Err, length, ap, subst, sym, arith, rules}
use Rattle.std.specs.Prelude.{IfErr, OnOk}
use Rattle.std.proofs.lemmas.List.{length-set, nil_from_length}
use Rattle.std.proofs.lemmas.Result.{err_from_is_err_and}
use Rattle.pico_base.specs.declared.reply.Errno.{Errno}
use Rattle.kernel_model.specs.SemaphoreSet.{Semaphore}
use Rattle.sysv_sem.proofs.OneByOne.{carried_stops, carried_on, carried_last, first_inside, rest_inside, put_back}
use Rattle.sysv_sem.proofs.one_by_one.+carry_out.Goals as goal

pub returns-in_err-value-clause-refused : goal.returns-in_err-value-clause-refused
returns-in_err-value-clause-refused t c =
    let p = err_from_is_err_and c.from_residual.result c.from_residual.ensures.1 in
    let step = c.in-Some.step.now in
    let s = c.index-set-place.result in
    let split = c.in-Some.ensures.cases.0 in
    let value : c.before-2.inside.value ≡ s.value =
    ap (λ (s : Semaphore). s.value) c.before-2.view_is in
    let moved = rw value at c.in_err-value.ensures in
    rw (p.1, p.2)
    (carried_stops c.args.pid c.args.set.now c.args.steps.now step c.in-Some.rest.now s
    c.in_err-value.field-0.0 split (first_inside (length c.args.set.now) c.args.steps.now step c.in-Some.rest.now split
    c.requires) c.index-set-place.is moved)

pub returns-then-is_empty-clause-done : goal.returns-then-is_empty-clause-done
returns-then-is_empty-clause-done t c =
    let step = c.in-Some.step.now in
    let s = c.index-set-place.result in
    let split = c.in-Some.ensures.cases.0 in
    let value : c.before-2.inside.value ≡ s.value =
    ap (λ (s : Semaphore). s.value) c.before-2.view_is in
    let moved = rw value at c.in_ok-value.ensures in
    let none : c.in-Some.rest.now ≡ [] = nil_from_length c.in-Some.rest.now (search rules) in
    carried_last c.args.pid c.args.set.now c.args.steps.now step c.in-Some.rest.now s c.in_ok-value.value split none
    (first_inside (length c.args.set.now) c.args.steps.now step c.in-Some.rest.now split c.requires)
    c.index-set-place.is moved

pub carry_out-done-requires : goal.carry_out-done-requires
carry_out-done-requires t c =
    let split = c.in-Some.ensures.cases.0 in (
      omega (arith, c.in-Some.ensures.cases.1),
      rest_inside (length c.args.set.now) _ c.args.steps.now c.in-Some.step.now
          c.in-Some.rest.now split (length-set c.args.set.now c.in-Some.step.now.num _) c.requires,
    )

pub returns-then-is_err-clause-refused : goal.returns-then-is_err-clause-refused
returns-then-is_err-clause-refused t c =
    let step = c.in-Some.step.now in
    let s = c.index-set-place.result in
    let split = c.in-Some.ensures.cases.0 in
    let value : c.before-2.inside.value ≡ s.value =
    ap (λ (s : Semaphore). s.value) c.before-2.view_is in
    let moved = rw value at c.in_ok-value.ensures in
    let on = carried_on c.args.pid c.args.set.now c.args.steps.now step c.in-Some.rest.now s c.in_ok-value.value split
    (first_inside (length c.args.set.now) c.args.steps.now step c.in-Some.rest.now split c.requires)
    c.index-set-place.is moved in
    subst (λ (x : Result (List Semaphore) Errno). IfErr c.carry_out-done.result (λ e. x ≡ Err e)) (sym on)
    c.carry_out-done.ensures.refused

pub returns-then-is_err-clause-err : goal.returns-then-is_err-clause-err
returns-then-is_err-clause-err t c =
    let step = c.in-Some.step.now in
    let split = c.in-Some.ensures.cases.0 in
    rw c.before-2.view_is
    (put_back c.carry_out-done.result c.args.set.now c.carry_out-done.new.set step.num c.index-set-place.result _
    (first_inside (length c.args.set.now) c.args.steps.now step c.in-Some.rest.now split c.requires)
    c.index-set-place.is c.carry_out-done.ensures.err)

pub returns-else-is_err-clause-done : goal.returns-else-is_err-clause-done
returns-else-is_err-clause-done t c =
    let step = c.in-Some.step.now in
    let s = c.index-set-place.result in
    let split = c.in-Some.ensures.cases.0 in
    let value : c.before-2.inside.value ≡ s.value =
    ap (λ (s : Semaphore). s.value) c.before-2.view_is in
    let moved = rw value at c.in_ok-value.ensures in
    let on = carried_on c.args.pid c.args.set.now c.args.steps.now step c.in-Some.rest.now s c.in_ok-value.value split
    (first_inside (length c.args.set.now) c.args.steps.now step c.in-Some.rest.now split c.requires)
    c.index-set-place.is moved in
    subst (λ (x : Result (List Semaphore) Errno). OnOk c.carry_out-done.result (x ≡ Ok c.carry_out-done.new.set))
    (sym on) c.carry_out-done.ensures.done
