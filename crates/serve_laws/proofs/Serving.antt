-- What a call on a body comes to for those who wait there, in line.
use Rattle.std.proofs.Common.{◌≡◌, ◌∙◌, ℕ, Bool, true, false, List, [], ◌∷◌, ◌++◌, length, map, Option, Some, None, refl, sym, ap, subst}
use Rattle.std.specs.Prelude.{if◌then◌else◌, slice_get}
use Rattle.pico_base.specs.declared.call.Call.{Call}
use Rattle.pico_base.specs.declared.call.Call.TheVariants as calls
use Rattle.pico_base.specs.declared.call.SemStep.{SemStep}
use Rattle.pico_base.specs.declared.numbers.Name.{Name}
use Rattle.pico_base.specs.declared.numbers.Name.TheVariants.{Proc, Msg, Sem}
use Rattle.pico_base.specs.declared.reply.Errno.TheVariants.{Eidrm, Einval, Esrch}
use Rattle.pico_base.specs.declared.reply.Reply.{Reply}
use Rattle.pico_base.specs.declared.reply.Reply.TheVariants as replies
use Rattle.kernel_model.specs.Queue.{Queue}
use Rattle.kernel_model.specs.Row.{Row, Waited, Found, NotYet, NoChild, wait}
use Rattle.kernel_model.specs.SemaphoreSet.{Semaphore, SemaphoreSet, read_semaphore}
use Rattle.waiting_model.specs.declared.callers.Waiting.{Waiting}
use Rattle.waiting_model.specs.Calls.{may_park}
use Rattle.waiting_model.specs.Linear.{at_once, counts_waiters}
use Rattle.waiting_model.specs.Queue.{try_queue}
use Rattle.waiting_model.specs.SemaphoreSet.{are_tried, carry_out_on_set, carry_out_on_set_by, count_reply, counted, stop_of, try_op, try_set, waits_for}
use Rattle.waiting_model.specs.SemaphoreSet as sets
use Rattle.waiting_model.specs.Waiters.{Attempt, Awaited, Try, carry_out, carry_out_by, wake, wakes_at_removal, settle_by, Settled}
use Rattle.node_model.specs.Awaiting.{Applied, applied, in_whole, on_object, on_own, reap, removed, on_whole}
use Rattle.node_model.specs.Bodies.{Body, Living, Ended, Gone, AQueue, ASet, Removed, bare, waiters_of, fits_name}
use Rattle.node_model.specs.Carrying.{Done, change, done, in_body, is_own, is_removal, look, on_body, on_queue, on_row, on_set, take_message}
use Rattle.node_model.specs.Carrying as carrying
use Rattle.node_model.specs.Serving.{name_for}
use Rattle.serve_laws.specs.Served.{DoesLine, Does, Counts, WaitAt, line}
use Rattle.serve_laws.proofs.Lines.{a_queue, a_set, does, parked-counts-not, parked-removes-not, queue-does, queue-line, removal-at-once, set-does, set-line}
use Rattle.serve_laws.proofs.Rounds.{Rounds, all-broken-off, settles-in-rounds}

-- who parks waits behind the others, at a queue or a set
abbrev pub waits_behind : Name → List Waiting → Waiting → List Waiting
waits_behind (Proc pid) waiters who = waiters
waits_behind (Msg id) waiters who = waiters ++ who ∷ []
waits_behind (Sem id) waiters who = waiters ++ who ∷ []

-- The caller has to wait, which leaves the name's part as it is. Or it has its reply, which is what its line does, and
-- then others are woken one after another.
pub data ServesSo (name : Name) (body : Body) (who : Waiting) (d : Applied Body) : Type 0 where
  Parks : d.own ≡ None → d.wakes ≡ [] → bare d.left ≡ bare body
      → waiters_of d.left ≡ waits_behind name (waiters_of body) who → ServesSo name body who d
  Replies : (reply : Reply) → d.own ≡ Some reply → (after : Body)
      → DoesLine name (bare body) (line who.pid who.call reply) after
      → Rounds name after (waiters_of body) d.wakes (bare d.left) (waiters_of d.left) → ServesSo name body who d

-- ---- a call on a queue, or on a set

module _ {T : Type 0} (try : Try T) (name : Name) (part : T → Body) (put : Awaited T → Body)
    (is_part : (o : Awaited T) → bare (put o) ≡ part o.state) (waits : (o : Awaited T) → waiters_of (put o) ≡ o.waiters)
    (behind : (ws : List Waiting) (v : Waiting) → waits_behind name ws v ≡ ws ++ v ∷ [])
    (goes : (state : T) (pid : ℕ) (call : Call) (a : Attempt T) → may_park call ≡ true
    → name_for pid call ≡ Some name → try state pid call ≡ Some a
    → DoesLine name (part state) (line pid call a.reply) (part a.state))
    (o : Awaited T) (who : Waiting)
    (own : (a : Attempt T) → try o.state who.pid who.call ≡ Some a
    → DoesLine name (part o.state) (line who.pid who.call a.reply) (part a.state)) where
  -- it parks, or has its reply and wakes others
  carries-so : WaitAt name o.waiters → (found : Option (Attempt T)) → try o.state who.pid who.call ≡ found
      → ServesSo name (put o) who (on_object put (carry_out_by try o who found))
  carries-so wait None is =
      Parks refl refl (is_part _ ∙ sym (is_part o))
      (waits _ ∙ sym (behind o.waiters who) ∙ ap (λ (ws : List Waiting). waits_behind name ws who) (sym (waits o)))
  carries-so wait (Some a) is =
      let after : Awaited T = record o { state = a.state }
      in let s : Settled T = settle_by (length o.waiters) try after
      in let last : Awaited T = s.object
      in Replies a.reply refl (part a.state)
      (subst (λ (b : Body). DoesLine name b (line who.pid who.call a.reply) (part a.state)) (sym (is_part o))
      (own a is))
      (subst (λ (ws : List Waiting). Rounds name (part a.state) ws s.wakes (bare (put last)) (waiters_of (put last)))
      (sym (waits o))
      (subst (λ (b : Body). Rounds name (part a.state) o.waiters s.wakes b (waiters_of (put last))) (sym (is_part last))
      (subst (λ (ws : List Waiting). Rounds name (part a.state) o.waiters s.wakes (part last.state) ws)
      (sym (waits last)) (settles-in-rounds try name part goes (length o.waiters) after wait))))

queue-carries : (id : ℕ) (q : Awaited Queue) (who : Waiting) → is_removal who.call ≡ false
    → WaitAt (Msg id) q.waiters
    → ServesSo (Msg id) (AQueue q) who (on_object AQueue (carry_out try_queue q who))
queue-carries id q who stays wait =
    carries-so try_queue (Msg id) a_queue AQueue (λ o. refl) (λ o. refl) (λ ws v. refl)
    (λ state pid call a parks named is.
    queue-line id state a.state pid call a.reply (parked-removes-not call parks) (queue-does state pid call a is))
    q who
    (λ a is. queue-line id q.state a.state who.pid who.call a.reply stays (queue-does q.state who.pid who.call a is))
    wait (try_queue q.state who.pid who.call) refl

set-carries : (id : ℕ) (s : Awaited SemaphoreSet) (who : Waiting) → is_removal who.call ≡ false
    → counts_waiters who.call ≡ false → WaitAt (Sem id) s.waiters
    → ServesSo (Sem id) (ASet s) who (on_object ASet (carry_out try_set s who))
set-carries id s who stays counts wait =
    carries-so try_set (Sem id) a_set ASet (λ o. refl) (λ o. refl) (λ ws v. refl)
    (λ state pid call a parks named is.
    set-line id state a.state pid call a.reply (parked-removes-not call parks)
    (set-does state pid call a (parked-counts-not call parks) is))
    s who
    (λ a is. set-line id s.state a.state who.pid who.call a.reply stays
    (set-does s.state who.pid who.call a counts is))
    wait (try_set s.state who.pid who.call) refl

-- ---- a count of those who wait

counts-so : (id : ℕ) (s : Awaited SemaphoreSet) (caller ticket pid : ℕ) (call : Call)
    (test : Option SemStep → Bool) (num : ℕ) → counts_waiters call ≡ true
    → on_body (Sem id) (a_set s.state) pid call
    ≡ in_body a_set (look s.state (read_semaphore (slice_get s.state.semaphores num) (λ _. 0)))
    → at_once call ≡ call
    → (found : Option Semaphore) → slice_get s.state.semaphores num ≡ found
    → ServesSo (Sem id) (ASet s) (record { caller = caller; ticket = ticket; pid = pid; call = call })
    (on_object ASet (counted test s num))
counts-so id s caller ticket pid call test num counts on same None is =
    let read : count_reply (read_semaphore (slice_get s.state.semaphores num) (λ _. sets.count_waiters test s))
    ≡ replies.Fail Einval =
    ap (λ (o : Option Semaphore). count_reply (read_semaphore o (λ _. sets.count_waiters test s))) is
    in let does_so : on_body (Sem id) (a_set s.state) pid (at_once call) ≡ done (a_set s.state) (replies.Fail Einval) =
    ap (on_body (Sem id) (a_set s.state) pid) same ∙ on
    ∙ ap (λ (o : Option Semaphore). in_body a_set (look s.state (read_semaphore o (λ _. 0)))) is
    in Replies _ refl (a_set s.state) (Does _ does_so refl (sym read)) (refl, refl)
counts-so id s caller ticket pid call test num counts on same (Some x) is =
    let read : count_reply (read_semaphore (slice_get s.state.semaphores num) (λ _. sets.count_waiters test s))
    ≡ replies.Num (sets.count_waiters test s) =
    ap (λ (o : Option Semaphore). count_reply (read_semaphore o (λ _. sets.count_waiters test s))) is
    in let does_so : on_body (Sem id) (a_set s.state) pid call ≡ done (a_set s.state) (replies.Num 0) =
    on ∙ ap (λ (o : Option Semaphore). in_body a_set (look s.state (read_semaphore o (λ _. 0)))) is
    in Replies _ refl (a_set s.state) (Counts (sets.count_waiters test s) counts read does_so) (refl, refl)

set-calls : (id : ℕ) (s : Awaited SemaphoreSet) (caller ticket pid : ℕ) (call : Call) → is_removal call ≡ false
    → WaitAt (Sem id) s.waiters
    → (let who : Waiting = record { caller = caller; ticket = ticket; pid = pid; call = call }
    in ServesSo (Sem id) (ASet s) who (on_object ASet (carry_out_on_set s who)))
set-calls id s caller ticket pid (calls.SemGetNcnt sem num) stays wait =
    counts-so id s caller ticket pid (calls.SemGetNcnt sem num) (sets.is_negative_on num) num refl refl refl
    (slice_get s.state.semaphores num) refl
set-calls id s caller ticket pid (calls.SemGetZcnt sem num) stays wait =
    counts-so id s caller ticket pid (calls.SemGetZcnt sem num) (sets.is_zero_on num) num refl refl refl
    (slice_get s.state.semaphores num) refl
set-calls id s caller ticket pid call stays wait =
    set-carries id s (record { caller = caller; ticket = ticket; pid = pid; call = call }) stays refl wait

-- ---- a removal

removes-so : (name : Name) (body : Body) (who : Waiting) → WaitAt name (waiters_of body)
    → on_body name (bare body) who.pid (at_once who.call) ≡ done Removed (replies.Num 0)
    → ServesSo name body who (removed (map (λ w. wake w (replies.Fail Eidrm)) (waiters_of body)))
removes-so name body who wait is =
    Replies (replies.Num 0) refl Removed (does name (bare body) Removed who.pid who.call (replies.Num 0) is)
    (all-broken-off name (waiters_of body) wait)

-- ---- a process's own call, or one on a process

reaps : (p : ℕ) (row : Row) (pid : ℕ) (child : Option ℕ) (w : Waited) → wait row.family child ≡ w
    → on_body (Proc p) (Living row) pid (calls.WaitPid child true) ≡ in_body Living (carrying.reap row w)
reaps p row pid child w is = ap (λ (x : Waited). in_body Living (carrying.reap row x)) is

-- the one line of a call that wakes nobody
replies-alone : (name : Name) (body : Body) (who : Waiting) (left : Body) (reply : Reply) → bare left ≡ left
    → waiters_of body ≡ waiters_of left
    → on_body name (bare body) who.pid (at_once who.call) ≡ done left reply
    → ServesSo name body who (applied left reply)
replies-alone name body who left reply plain same is =
    Replies reply refl left (does name (bare body) left who.pid who.call reply is) (sym plain, same)

waits-so : (p : ℕ) (row : Row) (caller ticket pid : ℕ) (child : Option ℕ) (nohang : Bool) (w : Waited)
    → wait row.family child ≡ w
    → ServesSo (Proc p) (Living row)
    (record { caller = caller; ticket = ticket; pid = pid; call = calls.WaitPid child nohang })
    (in_whole Living (reap row nohang w))
waits-so p row caller ticket pid child nohang (Found number ending) is =
    replies-alone (Proc p) (Living row) _ _ _ refl refl (reaps p row pid child _ is)
waits-so p row caller ticket pid child true NotYet is =
    replies-alone (Proc p) (Living row) _ _ _ refl refl (reaps p row pid child _ is)
waits-so p row caller ticket pid child false NotYet is = Parks refl refl refl refl
waits-so p row caller ticket pid child nohang NoChild is =
    replies-alone (Proc p) (Living row) _ _ _ refl refl (reaps p row pid child _ is)

own-so : (p : ℕ) (row : Row) (caller ticket pid : ℕ) (call : Call)
    → ServesSo (Proc p) (Living row) (record { caller = caller; ticket = ticket; pid = pid; call = call })
    (in_whole Living (on_own row pid call))
own-so p row caller ticket pid (calls.WaitPid child nohang) =
    waits-so p row caller ticket pid child nohang (wait row.family child) refl
own-so p row caller ticket pid call =
    replies-alone (Proc p) (Living row) _ (Living (on_row row pid call).left) (on_row row pid call).reply refl refl refl

own-at-once : (pid : ℕ) (call : Call) → is_own pid (at_once call) ≡ is_own pid call
own-at-once pid (calls.WaitPid child nohang) = refl
own-at-once pid (calls.MsgSnd id class text nowait) = refl
own-at-once pid (calls.MsgRcv id class size noerror nowait) = refl
own-at-once pid (calls.SemOp id steps) = refl
own-at-once pid call = refl

-- ---- all calls

queue-so : (id : ℕ) (q : Awaited Queue) (who : Waiting) → WaitAt (Msg id) q.waiters → (b : Bool)
    → is_removal who.call ≡ b
    → ServesSo (Msg id) (AQueue q) who
    (if b then removed (wakes_at_removal q) else on_object AQueue (carry_out try_queue q who))
queue-so id q who wait true removes =
    removes-so (Msg id) (AQueue q) who wait
    (ap (λ (b : Bool).
    if b then done Removed (replies.Num 0) else in_body a_queue (on_queue q.state who.pid (at_once who.call)))
    (removal-at-once who.call ∙ removes))
queue-so id q who wait false stays = queue-carries id q who stays wait

set-so : (id : ℕ) (s : Awaited SemaphoreSet) (who : Waiting) → WaitAt (Sem id) s.waiters → (b : Bool)
    → is_removal who.call ≡ b
    → ServesSo (Sem id) (ASet s) who
    (if b then removed (wakes_at_removal s) else on_object ASet (carry_out_on_set s who))
set-so id s who wait true removes =
    removes-so (Sem id) (ASet s) who wait
    (ap (λ (b : Bool).
    if b then done Removed (replies.Num 0) else in_body a_set (on_set s.state who.pid (at_once who.call)))
    (removal-at-once who.call ∙ removes))
set-so id s who wait false stays = set-calls id s who.caller who.ticket who.pid who.call stays wait

differ : {B : Type 0} → false ≡ true → B
differ h = absurd (cc)

-- a call on a body either parks or has its reply and wakes others in turn
pub serves-so : (name : Name) (body : Body) (who : Waiting) → fits_name name body ≡ true
    → WaitAt name (waiters_of body) → ServesSo name body who (on_whole name body who)
serves-so (Proc p) (Living row) who fits wait = own-so p row who.caller who.ticket who.pid who.call
serves-so (Proc p) (Ended ending) who fits wait =
    replies-alone (Proc p) (Ended ending) who _ _ refl refl
    (ap (λ (b : Bool). done (Ended ending) (if b then replies.Fail Esrch else replies.Num 0))
    (own-at-once who.pid who.call))
serves-so (Proc p) Gone who fits wait = replies-alone (Proc p) Gone who Gone (replies.Fail Esrch) refl refl refl
serves-so (Proc p) (AQueue q) who fits wait = differ fits
serves-so (Proc p) (ASet s) who fits wait = differ fits
serves-so (Proc p) Removed who fits wait = differ fits
serves-so (Msg id) (AQueue q) who fits wait = queue-so id q who wait (is_removal who.call) refl
serves-so (Msg id) Removed who fits wait =
    replies-alone (Msg id) Removed who Removed (replies.Fail Einval) refl refl refl
serves-so (Msg id) (Living row) who fits wait = differ fits
serves-so (Msg id) (Ended ending) who fits wait = differ fits
serves-so (Msg id) Gone who fits wait = differ fits
serves-so (Msg id) (ASet s) who fits wait = differ fits
serves-so (Sem id) (ASet s) who fits wait = set-so id s who wait (is_removal who.call) refl
serves-so (Sem id) Removed who fits wait =
    replies-alone (Sem id) Removed who Removed (replies.Fail Einval) refl refl refl
serves-so (Sem id) (Living row) who fits wait = differ fits
serves-so (Sem id) (Ended ending) who fits wait = differ fits
serves-so (Sem id) Gone who fits wait = differ fits
serves-so (Sem id) (AQueue q) who fits wait = differ fits
