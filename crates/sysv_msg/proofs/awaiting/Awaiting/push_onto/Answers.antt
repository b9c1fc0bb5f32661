use Rattle.std.proofs.Common.{◌≡◌, ◌∙◌, ◌∷◌, ◌++◌, ℕ, List, ap, subst, sym}
use Rattle.std.specs.List.{AllByRecursion}
use Rattle.kernel_model.specs.Queue.{Queue}
use Rattle.waiting_model.specs.declared.callers.Waiting.{Waiting}
use Rattle.waiting_model.specs.Waiters.{awaited}
use Rattle.waiter_fields.specs.Ranges.{HasWaiterRanges}
use Rattle.waiter_fields.specs.Waiters.{waiters_field}
use Rattle.sysv_msg.specs.Body.{messages_field, numbers_field, queue_code}
use Rattle.sysv_msg.specs.Limits.{AreParked}
use Rattle.sysv_msg.proofs.Spelling.{is-body}
use Rattle.sysv_msg.proofs.awaiting.Awaiting.push_onto.Goals as goal

pub returns : goal.returns
returns c =
    let q : Queue = c.self.inside.store.queue in
    let ws : List Waiting = c.self.inside.waiters.items in
    let own : c.push_messages.new.out.items ≡ queue_code ∷ (numbers_field q ++ messages_field q.messages) =
    c.in_ok-push_messages.ensures.bytes
    ∙ ap (λ (xs : List ℕ). xs ++ messages_field q.messages)
    (c.in_ok-push_numbers.ensures.bytes
    ∙ ap (λ (xs : List ℕ). xs ++ queue_code ∷ numbers_field q) (c.reserve.ensures.items ∙ c.requires.nothing)) in
    let there : c.as_slice.result.now ≡ ws = c.as_slice.ensures.value in
    let behind : c.put_waiters.new.out.items ≡ c.push_messages.new.out.items ++ waiters_field ws =
    rw there at c.in_ok-put_waiters.ensures.bytes in
    let ranges : AllByRecursion HasWaiterRanges ws = rw there at c.in_ok-put_waiters.ensures.fits in
    rw (← c.self.view_is)
    (is-body (awaited q ws) c.push_messages.new.out.items c.put_waiters.new.out.items
    (subst AreParked (sym c.self.view_is) c.requires.parked) c.in_ok-push_messages.ensures.limits
    c.in_ok-push_numbers.ensures.sender c.in_ok-push_numbers.ensures.receiver ranges own behind)
