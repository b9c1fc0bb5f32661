-- What a call on a set comes to, put together from its try, from settling and from parking.
use Rattle.std.proofs.Common.{◌≡◌, ◌∙◌, ◌<◌, ◌≤◌, ℕ, zero, suc, Bool, true, false, ◌&&◌, cond, List, [], ◌∷◌, ◌++◌, length, Option, Some, None, Result, Ok, Err, refl, sym, ap, subst}
use Rattle.std.specs.Prelude.{IfOk, OnErr}
use Rattle.std.specs.List.{AllByRecursion}
use Rattle.std.proofs.lemmas.Bool.{leb-true}
use Rattle.answer_laws.specs.Answers.{reply_to}
use Rattle.pico_base.specs.declared.call.Call.{Call}
use Rattle.pico_base.specs.declared.call.Call.TheVariants as calls
use Rattle.pico_base.specs.declared.reply.Errno.{Errno}
use Rattle.pico_base.specs.declared.reply.Reply.{Reply}
use Rattle.pico_base.specs.declared.reply.Reply.TheVariants.{All}
use Rattle.index_links.specs.Nodes.{Node}
use Rattle.kernel_model.specs.SemaphoreSet.{SemaphoreSet, values_of, value_at, last_at, op, max_operations}
use Rattle.waiting_model.specs.declared.callers.Applied.{Applied}
use Rattle.waiting_model.specs.declared.callers.Waiting.{Waiting}
use Rattle.waiting_model.specs.declared.callers.Wake.{Wake}
use Rattle.waiting_model.specs.Waiters.{Attempt, Awaited, Carried, Ready, Settled, awaited, attempt, changed, looked_up, wake, ready_or, first_ready, replied, woken_first, settle, settle_by, settle_on, carry_out, carry_out_by, waits_here, IsSettled}
use Rattle.waiting_model.specs.SemaphoreSet.{are_tried, stop_of, waits_for, try_set, carry_out_on_set, carry_out_on_set_by}
use Rattle.sysv_sem.specs.declared.apply.Came.{Came}
use Rattle.sysv_sem.specs.Calls.{carried_to, counted_reply, is_look, look_reply}
use Rattle.sysv_sem.specs.declared.waiters.Look.TheVariants.{Negative, Zero}
use Rattle.sysv_sem.specs.Limits.{IsWithinLimits}
use Rattle.sysv_sem.specs.Settling.{settled}
use Rattle.sysv_sem.specs.Waiters.{held, max_waiters, waiters_in, try_steps, IsShortOp, IsSetWaiter, IsAtRest}
use Rattle.sysv_sem.proofs.Kept.{OthersHave, all_others, all_behind, may_behind, settling_keeps, settled_whole}
use Rattle.sysv_sem.proofs.Rounds.{settle_rests}
use Rattle.sysv_sem.proofs.Within.{try_within}

-- ---- the tries of those who wait are by their operations

same_try : (set : SemaphoreSet) (pid : ℕ) (call : Call) → IsShortOp call
    → try_steps set pid call ≡ try_set set pid call
same_try set pid (calls.SemOp id steps) h = refl
same_try set pid call h = absurd h

same_first : (set : SemaphoreSet) (ws : List Waiting) → AllByRecursion IsSetWaiter ws
    → first_ready try_steps set ws ≡ first_ready try_set set ws
same_first set [] h = refl
same_first set (w ∷ ws) h =
    let first = h.0 in
    ap (λ (o : Option (Attempt SemaphoreSet)). ready_or w ws o (first_ready try_steps set ws))
    (same_try set w.pid w.call first.call)
    ∙ ap (ready_or w ws (try_set set w.pid w.call)) (same_first set ws h.1)

same_on : (n : ℕ) (object : Awaited SemaphoreSet) (o : Option (Ready SemaphoreSet))
    → OthersHave (AllByRecursion IsSetWaiter) o
    → ((rest : Awaited SemaphoreSet) → AllByRecursion IsSetWaiter rest.waiters
    → settle_by n try_steps rest ≡ settle_by n try_set rest)
    → settle_on object o (settle_by n try_steps) ≡ settle_on object o (settle_by n try_set)
same_on n object None others rec = refl
same_on n object (Some r) others rec =
    ap (woken_first (wake r.waiter r.attempt.reply)) (rec (awaited r.attempt.state r.others) others)

same_rounds : (n : ℕ) (object : Awaited SemaphoreSet) → AllByRecursion IsSetWaiter object.waiters
    → settle_by n try_steps object ≡ settle_by n try_set object
same_rounds zero object h = refl
same_rounds (suc n) object h =
    ap (λ (o : Option (Ready SemaphoreSet)). settle_on object o (settle_by n try_steps))
    (same_first object.state object.waiters h)
    ∙ same_on n object (first_ready try_set object.state object.waiters)
    (all_others IsSetWaiter try_set object.state object.waiters h) (λ rest each. same_rounds n rest each)

same_settle : (object : Awaited SemaphoreSet) → AllByRecursion IsSetWaiter object.waiters
    → settle try_steps object ≡ settle try_set object
same_settle object h = same_rounds (length object.waiters) object h

-- ---- a call that has its reply, and one that parks

-- a call that has its reply, and whom it wakes
pub replies : (old mid new : SemaphoreSet) (nodes left : List (Node Waiting)) (who : Waiting) (reply : Reply)
    (wakes : List Wake) → try_set old who.pid who.call ≡ Some (attempt mid reply)
    → AllByRecursion IsSetWaiter (waiters_in nodes) → settle try_steps (held mid nodes) ≡ settled (held new left) wakes
    → carry_out try_set (held old nodes) who ≡ carried_to (held new left) (record { own = Some reply; wakes = wakes })
replies old mid new nodes left who reply wakes goes each is =
    ap (carry_out_by try_set (held old nodes) who) goes
    ∙ ap (λ (s : Settled SemaphoreSet). replied reply s) (sym (same_settle (held mid nodes) each) ∙ is)

pub parks : (old new : SemaphoreSet) (nodes left : List (Node Waiting)) (who : Waiting) (applied : Applied)
    → try_set old who.pid who.call ≡ None → new ≡ old → applied ≡ record { own = None; wakes = [] }
    → waiters_in left ≡ waiters_in nodes ++ who ∷ []
    → carry_out try_set (held old nodes) who ≡ carried_to (held new left) applied
parks old new nodes left who applied waits same is behind =
    ap (carry_out_by try_set (held old nodes) who) waits
    ∙ rw (same, is, behind) refl

-- ---- a look

seen : (state : SemaphoreSet) (r : Result ℕ Errno) → looked_up state r ≡ attempt state (reply_to r)
seen state (Ok n) = refl
seen state (Err e) = refl

look_carried : (set : Awaited SemaphoreSet) (who : Waiting) (reply : Reply) → IsSettled try_set set
    → try_set set.state who.pid who.call ≡ Some (attempt set.state reply)
    → carry_out try_set set who ≡ carried_to set (record { own = Some reply; wakes = [] })
look_carried set who reply settled goes =
    ap (carry_out_by try_set set who) goes
    ∙ ap (λ (s : Settled SemaphoreSet). replied reply s) (settle_rests try_set set settled)

some_reply : (a b : Reply) → Some a ≡ Some b → a ≡ b
some_reply a b e = cc

looks_by : (set : Awaited SemaphoreSet) (who : Waiting) (reply : Reply) (call : Call) → who.call ≡ call
    → IsSettled try_set set → look_reply set call ≡ Some reply
    → carry_out_on_set_by set who call ≡ carried_to set (record { own = Some reply; wakes = [] })
looks_by set who reply (calls.SemGetNcnt id num) is settled e =
    ap (λ (r : Reply). carried_to set (record { own = Some r; wakes = [] }))
    (some_reply (counted_reply Negative num set) reply e)
looks_by set who reply (calls.SemGetZcnt id num) is settled e =
    ap (λ (r : Reply). carried_to set (record { own = Some r; wakes = [] }))
    (some_reply (counted_reply Zero num set) reply e)
looks_by set who reply (calls.SemGetVal id num) is settled e =
    look_carried set who reply settled
    (ap (try_set set.state who.pid) is
    ∙ (ap (λ (a : Attempt SemaphoreSet). Some a) (seen set.state (value_at set.state num))
    ∙ ap (λ (r : Reply). Some (attempt set.state r)) (some_reply (reply_to (value_at set.state num)) reply e)))
looks_by set who reply (calls.SemGetPid id num) is settled e =
    look_carried set who reply settled
    (ap (try_set set.state who.pid) is
    ∙ (ap (λ (a : Attempt SemaphoreSet). Some a) (seen set.state (last_at set.state num))
    ∙ ap (λ (r : Reply). Some (attempt set.state r)) (some_reply (reply_to (last_at set.state num)) reply e)))
looks_by set who reply (calls.SemGetAll id) is settled e =
    look_carried set who reply settled
    (ap (try_set set.state who.pid) is
    ∙ ap (λ (r : Reply). Some (attempt set.state r)) (some_reply (All (values_of set.state.semaphores)) reply e))
looks_by set who reply call is settled e = absurd (cc)

-- a look leaves all as it is
pub looks : (set : Awaited SemaphoreSet) (who : Waiting) (o : Option Reply) (reply : Reply) → IsSettled try_set set
    → o ≡ look_reply set who.call → o ≡ Some reply
    → carry_out_on_set set who ≡ carried_to set (record { own = Some reply; wakes = [] })
looks set who o reply settled is some = looks_by set who reply who.call refl settled (sym is ∙ some)

-- ---- a call that is no look

other_by : (set : Awaited SemaphoreSet) (who : Waiting) (call : Call) → look_reply set call ≡ None
    → carry_out_on_set_by set who call ≡ carry_out try_set set who
other_by set who (calls.SemGetNcnt id num) e = absurd (cc)
other_by set who (calls.SemGetZcnt id num) e = absurd (cc)
other_by set who call e = refl

other : (set : Awaited SemaphoreSet) (who : Waiting) (o : Option Reply) → o ≡ look_reply set who.call → o ≡ None
    → carry_out_on_set set who ≡ carry_out try_set set who
other set who o is none = other_by set who who.call (sym is ∙ none)

no_look_by : (set : Awaited SemaphoreSet) (call : Call) → look_reply set call ≡ None → is_look call ≡ false
no_look_by set (calls.SemGetVal id num) e = absurd (cc)
no_look_by set (calls.SemGetPid id num) e = absurd (cc)
no_look_by set (calls.SemGetNcnt id num) e = absurd (cc)
no_look_by set (calls.SemGetZcnt id num) e = absurd (cc)
no_look_by set (calls.SemGetAll id) e = absurd (cc)
no_look_by set call e = refl

pub no_look : (set : Awaited SemaphoreSet) (call : Call) (o : Option Reply) → o ≡ look_reply set call → o ≡ None
    → is_look call ≡ false
no_look set call o is none = no_look_by set call (sym is ∙ none)

-- as whatever comes of the call tells it
pub other_carried : {E : Type 0} (r : Result Came E) (old mid new : SemaphoreSet) (nodes left : List (Node Waiting))
    (who : Waiting) (o : Option Reply) → o ≡ look_reply (held old nodes) who.call → o ≡ None → mid ≡ old
    → IfOk r (λ came. carry_out try_set (held mid nodes) who ≡ carried_to (held new left) came.applied)
    → IfOk r (λ came. carry_out_on_set (held old nodes) who ≡ carried_to (held new left) came.applied)
other_carried (Ok came) old mid new nodes left who o is none same told =
    other (held old nodes) who o is none
    ∙ (ap (λ (x : SemaphoreSet). carry_out try_set (held x nodes) who) (sym same) ∙ told)
other_carried (Err e) old mid new nodes left who o is none same told = tt

-- ---- a set is at rest after a call

first_true : (a b : Bool) → (a && b) ≡ true → a ≡ true
first_true true b e = refl
first_true false b e = absurd (cc)

stopped_true : (b : Bool) (a : Attempt SemaphoreSet) → cond b None (Some a) ≡ None → b ≡ true
stopped_true true a e = refl
stopped_true false a e = absurd (cc)

-- what has to wait is a semop of few operations
short_of : (set : SemaphoreSet) (pid : ℕ) (call : Call) → try_set set pid call ≡ None → IsShortOp call
short_of set pid (calls.SemOp id steps) e =
    let waits = stopped_true (are_tried set steps && waits_for (stop_of set steps))
    (changed set (op set pid steps)) e in
    leb-true (length steps) max_operations
    (first_true _ _ (first_true (are_tried set steps) (waits_for (stop_of set steps)) waits))
short_of set pid call e = absurd (cc)

rests_by : (old : Awaited SemaphoreSet) (who : Waiting) (o : Option (Attempt SemaphoreSet))
    → try_set old.state who.pid who.call ≡ o → IsAtRest old → 1 ≤ who.ticket → waits_here who.pid old ≡ false
    → length old.waiters < max_waiters → IsAtRest (carry_out_by try_set old who o).object
rests_by old who None is h ticket apart few =
    record {
      limits = h.limits;
      waiters = may_behind old.waiters who h.waiters few
          (record { ticket = ticket; call = short_of old.state who.pid who.call is }) apart;
      settled = all_behind (λ w. try_set old.state w.pid w.call ≡ None) old.waiters who h.settled is;
    }
rests_by old who (Some a) is h ticket apart few =
    let start : Awaited SemaphoreSet = awaited a.state old.waiters in
    let so = settling_keeps IsWithinLimits (length old.waiters) try_set start try_within
    (record { state = try_within old.state who.pid who.call a h.limits is; waiters = h.waiters }) in
    record { limits = so.state; waiters = so.waiters; settled = settled_whole try_set start }

rests_on : (old : Awaited SemaphoreSet) (who : Waiting) (call : Call) → IsAtRest old → 1 ≤ who.ticket
    → waits_here who.pid old ≡ false → length old.waiters < max_waiters
    → IsAtRest (carry_out_on_set_by old who call).object
rests_on old who (calls.SemGetNcnt id num) h ticket apart few = h
rests_on old who (calls.SemGetZcnt id num) h ticket apart few = h
rests_on old who call h ticket apart few =
    rests_by old who (try_set old.state who.pid who.call) refl h ticket apart few

pub rests_after : (old new : Awaited SemaphoreSet) (who : Waiting) (applied : Applied)
    → carry_out_on_set old who ≡ carried_to new applied → IsAtRest old → 1 ≤ who.ticket
    → waits_here who.pid old ≡ false → length old.waiters < max_waiters → IsAtRest new
rests_after old new who applied is h ticket apart few =
    let same : (carry_out_on_set old who).object ≡ new = ap (λ (c : Carried SemaphoreSet). c.object) is in
    subst IsAtRest same (rests_on old who who.call h ticket apart few)

-- whether it is carried out or refused for want of memory
pub rests_then : {E : Type 0} (r : Result Came E) (old new : SemaphoreSet) (nodes left : List (Node Waiting))
    (who : Waiting) → IfOk r (λ came. carry_out_on_set (held old nodes) who ≡ carried_to (held new left) came.applied)
    → OnErr r (new ≡ old) → OnErr r (left ≡ nodes) → IsAtRest (held old nodes) → 1 ≤ who.ticket
    → waits_here who.pid (held old nodes) ≡ false → length (held old nodes).waiters < max_waiters
    → IsAtRest (held new left)
rests_then (Ok came) old new nodes left who is same alike h ticket apart few =
    rests_after (held old nodes) (held new left) who came.applied is h ticket apart few
rests_then (Err e) old new nodes left who is same alike h ticket apart few = rw (same, alike) h
