use Rattle.std.proofs.Common.{◌≡◌, ◌∙◌, ℕ, false, nat_le, length, sym, subst, rules}
use Rattle.std.specs.List.{list_any}
use Rattle.std.proofs.lemmas.Option.{slice_get-get_or}
use Rattle.sysv_sem.proofs.Ops.{op-waits, op-refused}
use Rattle.sysv_sem.proofs.row.Row.try_all.Goals as goal

pub returns-in-StopsAt : goal.returns-in-StopsAt
returns-in-StopsAt c =
    let sized : c.len.result ≡ length c.self.inside.semaphores.items = search rules
    in let inside = subst (λ (n : ℕ). list_any (λ step. nat_le n step.num) c.args.steps.now ≡ false) sized
    (sym c.names_outside.ensures.value ∙ c.if-names_outside.false)
    in let stops = rw (c.copy_values.ensures.copied, c.as_slice.ensures.value) at c.in-StopsAt.ensures.tried
    in (
      rw (← c.self.view_is)
          (op-waits _ c.args.pid c.args.steps.now c.if-steps-gt-MAX_OPERATIONS.false inside c.in-StopsAt.place _
          (slice_get-get_or c.args.steps.now c.in-StopsAt.place _ c.in-StopsAt.ensures.inside) stops
          (sym c.may_wait.ensures ∙ c.if-may_wait.true)),
      c.self.view_is,
    )

pub returns-in-StopsAt-2 : goal.returns-in-StopsAt-2
returns-in-StopsAt-2 c =
    let sized : c.len.result ≡ length c.self.inside.semaphores.items = search rules
    in let inside = subst (λ (n : ℕ). list_any (λ step. nat_le n step.num) c.args.steps.now ≡ false) sized
    (sym c.names_outside.ensures.value ∙ c.if-names_outside.false)
    in let stops = rw (c.copy_values.ensures.copied, c.as_slice.ensures.value) at c.in-StopsAt.ensures.tried
    in rw (← c.self.view_is)
    (op-refused _ c.args.pid c.args.steps.now c.if-steps-gt-MAX_OPERATIONS.false inside c.in-StopsAt.place _
    (slice_get-get_or c.args.steps.now c.in-StopsAt.place _ c.in-StopsAt.ensures.inside) stops
    (sym c.may_wait.ensures ∙ c.if-may_wait.false))
