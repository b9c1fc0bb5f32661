-- Of those who are woken at a queue the ones have read who are given a message.
use Rattle.std.proofs.Common.{◌≡◌, ◌∙◌, ℕ, zero, suc, Bool, true, false, ◌&&◌, ◌||◌, nat_eq, List, [], ◌∷◌, length, Option, Some, None, Result, Ok, Err, refl, sym, ap, subst, arith}
use Rattle.std.specs.Option.{option_map}
use Rattle.std.specs.List.{AllByRecursion, list_any}
use Rattle.pico_base.specs.declared.call.Call.{Call}
use Rattle.pico_base.specs.declared.call.Call.TheVariants as calls
use Rattle.pico_base.specs.declared.reply.Errno.{Errno}
use Rattle.pico_base.specs.declared.reply.Errno.TheVariants.{Eagain}
use Rattle.pico_base.specs.declared.reply.Reply.{Reply}
use Rattle.pico_base.specs.declared.reply.Reply.TheVariants as replies
use Rattle.kernel_model.specs.Queue.{Queue, send}
use Rattle.waiting_model.specs.Queue.{carry_out_on_queue, try_queue, try_send}
use Rattle.waiting_model.specs.Waiters.{Attempt, Awaited, Carried, Ready, Settled, Try, awaited, carry_out_by, first_ready, ready_behind, ready_or, settle_by, settle_on, wake}
use Rattle.waiting_model.specs.declared.callers.Applied.{Applied}
use Rattle.waiting_model.specs.declared.callers.Waiting.{Waiting}
use Rattle.waiting_model.specs.declared.callers.Wake.{Wake}
use Rattle.sysv_msg.specs.Limits.{AreParked, IsParked, may_wait}
use Rattle.sysv_sem.specs.Calls.{carried_to}
use Rattle.node_model.specs.Serving.{has_read, woken_reads}
use Rattle.node_serve.specs.Serving.{gives_message}

-- ---- who is given a message

abbrev is_receive : Call → Bool
is_receive (calls.MsgRcv id class size noerror nowait) = true
is_receive call = false

receive-reads : (call : Call) (reply : Reply) → may_wait call ≡ true
    → has_read call reply ≡ (is_receive call && gives_message reply)
receive-reads (calls.MsgSnd id class text nowait) reply h = refl
receive-reads (calls.MsgRcv id class size noerror nowait) (replies.Message message_class text) h = refl
receive-reads (calls.MsgRcv id class size noerror nowait) reply h = refl
receive-reads call reply h = absurd (cc)

gives_at : Option (Attempt Queue) → Bool
gives_at None = false
gives_at (Some a) = gives_message a.reply

-- a send is given none
send-gives : (q : Queue) (nowait : Bool) (r : Result Queue Errno) → gives_at (try_send q nowait r) ≡ false
unfolding gives_at
send-gives q nowait (Ok next) = refl
send-gives q true (Err Eagain) = refl
send-gives q false (Err Eagain) = refl
send-gives q nowait (Err e) = refl

given-receives : (q : Queue) (pid : ℕ) (call : Call) (a : Attempt Queue) → may_wait call ≡ true
    → try_queue q pid call ≡ Some a → gives_message a.reply ≡ true → is_receive call ≡ true
unfolding gives_at
given-receives q pid (calls.MsgRcv id class size noerror nowait) a h goes gives = refl
given-receives q pid (calls.MsgSnd id class text nowait) a h goes gives =
    let none : gives_message a.reply ≡ false =
    ap gives_at (sym goes) ∙ send-gives q nowait (send q pid class text)
    in absurd (cc)
given-receives q pid call a h goes gives = absurd (cc)

-- ---- one of those who waited

-- whatever test it passes, one of them passes
abbrev IsAmong : List Waiting → Waiting → Type 0
IsAmong ws v = (test : Waiting → Bool) → test v ≡ true → list_any test ws ≡ true

or-true : (b : Bool) → (b || true) ≡ true
or-true true = refl
or-true false = refl

and-false : (b : Bool) → (b && false) ≡ false
and-false true = refl
and-false false = refl

same-pid : (n : ℕ) → nat_eq n n ≡ true
same-pid n = grind arith

all-map : (P Q : Waiting → Type 0) → ((v : Waiting) → P v → Q v) → (ws : List Waiting) → AllByRecursion P ws
    → AllByRecursion Q ws
all-map P Q turn [] all = tt
all-map P Q turn (w ∷ ws) all = (turn w all.0, all-map P Q turn ws all.1)

-- who may wait at a queue, and is among those
abbrev WaitsIn : List Waiting → Waiting → Type 0
WaitsIn ws v = (may_wait v.call ≡ true) × IsAmong ws v

all-wait : (ws : List Waiting) → AllByRecursion IsParked ws → AllByRecursion (WaitsIn ws) ws
all-wait [] all = tt
all-wait (w ∷ ws) all = (
  (all.0.call, λ test passes. rw passes refl),
  all-map (WaitsIn ws) (WaitsIn (w ∷ ws))
      (λ v h. (h.0, λ test passes. ap (λ (b : Bool). test w || b) (h.1 test passes) ∙ or-true (test w)))
      ws (all-wait ws all.1),
)

-- where no message is given nobody has read
none-read : (ws : List Waiting) (pid : ℕ) (reply : Reply) → AllByRecursion IsParked ws → gives_message reply ≡ false
    → list_any (λ v. nat_eq v.pid pid && has_read v.call reply) ws ≡ false
none-read [] pid reply all none = refl
none-read (w ∷ ws) pid reply all none =
    let here : has_read w.call reply ≡ false =
    receive-reads w.call reply all.0.call
    ∙ (ap (λ (b : Bool). is_receive w.call && b) none ∙ and-false (is_receive w.call))
    in ap (λ (b : Bool). (nat_eq w.pid pid && b) || list_any (λ v. nat_eq v.pid pid && has_read v.call reply) ws) here
    ∙ (ap (λ (b : Bool). b || list_any (λ v. nat_eq v.pid pid && has_read v.call reply) ws)
    (and-false (nat_eq w.pid pid))
    ∙ none-read ws pid reply all.1 none)

module _ (ws : List Waiting) (parked : AllByRecursion IsParked ws) where
  abbrev Says : Wake → Type 0
  Says w = gives_message w.reply ≡ woken_reads ws w

  says-by : (b : Bool) (v : Waiting) (q : Queue) (a : Attempt Queue) → gives_message a.reply ≡ b → WaitsIn ws v
      → try_queue q v.pid v.call ≡ Some a → gives_message a.reply ≡ woken_reads ws (wake v a.reply)
  says-by true v q a gives waits goes =
      let reads : has_read v.call a.reply ≡ true =
      receive-reads v.call a.reply waits.0
      ∙ (ap (λ (b : Bool). b && gives_message a.reply) (given-receives q v.pid v.call a waits.0 goes gives) ∙ gives)
      in gives
      ∙ sym (waits.1 (λ u. nat_eq u.pid v.pid && has_read u.call a.reply)
      (ap (λ (b : Bool). b && has_read v.call a.reply) (same-pid v.pid) ∙ reads))
  says-by false v q a gives waits goes = gives ∙ sym (none-read ws v.pid a.reply parked gives)

  -- who is ready waited, and so do the others
  abbrev AreReady : Queue → Option (Ready Queue) → Type 0
  AreReady q None = Unit {0}
  AreReady q (Some r) =
      WaitsIn ws r.waiter × (try_queue q r.waiter.pid r.waiter.call ≡ Some r.attempt)
      × AllByRecursion (WaitsIn ws) r.others

  ready-behind : (q : Queue) (v : Waiting) (o : Option (Ready Queue)) → WaitsIn ws v → AreReady q o
      → AreReady q (option_map (ready_behind v) o)
  ready-behind q v None waits h = tt
  ready-behind q v (Some r) waits h = (h.0, h.1, (waits, h.2))

  ready-or : (q : Queue) (v : Waiting) (vs : List Waiting) (o : Option (Attempt Queue)) (later : Option (Ready Queue))
      → try_queue q v.pid v.call ≡ o → WaitsIn ws v → AllByRecursion (WaitsIn ws) vs → AreReady q later
      → AreReady q (ready_or v vs o later)
  ready-or q v vs (Some a) later is waits all h = (waits, is, all)
  ready-or q v vs None later is waits all h = ready-behind q v later waits h

  are-ready : (q : Queue) (vs : List Waiting) → AllByRecursion (WaitsIn ws) vs
      → AreReady q (first_ready try_queue q vs)
  are-ready q [] all = tt
  are-ready q (v ∷ vs) all =
      ready-or q v vs (try_queue q v.pid v.call) (first_ready try_queue q vs) refl all.0 all.1 (are-ready q vs all.1)

  says-on : (n : ℕ) (object : Awaited Queue) (o : Option (Ready Queue)) → AreReady object.state o
      → ((rest : Awaited Queue) → AllByRecursion (WaitsIn ws) rest.waiters
      → AllByRecursion Says (settle_by n try_queue rest).wakes)
      → AllByRecursion Says (settle_on object o (settle_by n try_queue)).wakes
  says-on n object None h rec = tt
  says-on n object (Some r) h rec = (
    says-by (gives_message r.attempt.reply) r.waiter object.state r.attempt refl h.0 h.1,
    rec (awaited r.attempt.state r.others) h.2,
  )

  says-rounds : (n : ℕ) (object : Awaited Queue) → AllByRecursion (WaitsIn ws) object.waiters
      → AllByRecursion Says (settle_by n try_queue object).wakes
  says-rounds zero object all = tt
  says-rounds (suc n) object all =
      says-on n object (first_ready try_queue object.state object.waiters)
      (are-ready object.state object.waiters all) (λ rest h. says-rounds n rest h)

-- whom a call wakes
says-by-try : (q : Awaited Queue) (who : Waiting) (o : Option (Attempt Queue)) → AllByRecursion IsParked q.waiters
    → AllByRecursion (λ w. gives_message w.reply ≡ woken_reads q.waiters w) (carry_out_by try_queue q who o).wakes
says-by-try q who None parked = tt
says-by-try q who (Some a) parked =
    says-rounds q.waiters parked (length q.waiters) (awaited a.state q.waiters) (all-wait q.waiters parked)

-- of whom a call on a queue wakes, those have a message as reply who waited in a receive
pub messages-say : (q new : Awaited Queue) (who : Waiting) (applied : Applied) → AreParked q
    → carry_out_on_queue q who ≡ carried_to new applied
    → AllByRecursion (λ w. gives_message w.reply ≡ woken_reads q.waiters w) applied.wakes
messages-say q new who applied parked is =
    subst (λ (ws : List Wake). AllByRecursion (λ w. gives_message w.reply ≡ woken_reads q.waiters w) ws)
    (ap (λ (c : Carried Queue). c.wakes) is)
    (says-by-try q who (try_queue q.state who.pid who.call) parked.each)
