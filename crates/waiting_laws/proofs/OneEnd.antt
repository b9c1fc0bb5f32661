-- Lines lead to one kernel and no other.
use Rattle.std.proofs.Common.{◌≡◌, ◌∙◌, ℕ, ℤ, Bool, true, false, List, [], ◌∷◌, ◌++◌, map, Option, Some, None, Result, Ok, Err, refl, ap, sym, subst}
use Rattle.std.specs.Prelude.{if◌then◌else◌, nat_le, nat_lt, length, slice_get, ◌||◌}
use Rattle.std.specs.List.{list_any}
use Rattle.std.proofs.lemmas.Bool.{true≢false}
use Rattle.pico_base.specs.declared.call.Call.{Call}
use Rattle.pico_base.specs.declared.call.Call.TheVariants as calls
use Rattle.pico_base.specs.declared.call.SemStep.{SemStep}
use Rattle.pico_base.specs.declared.reply.Entry.{Entry}
use Rattle.pico_base.specs.declared.reply.Errno.{Errno}
use Rattle.pico_base.specs.declared.reply.Errno.TheVariants.{Eagain, E2big, Efbig, Einval}
use Rattle.pico_base.specs.declared.reply.Outcome.{Outcome}
use Rattle.pico_base.specs.declared.reply.Reply.{Reply}
use Rattle.pico_base.specs.declared.reply.Reply.TheVariants as replies
use Rattle.number_maps.specs.Maps.{get}
use Rattle.kernel_model.specs.Effect.{Effect, on_named, reply_alone}
use Rattle.kernel_model.specs.Kernel.{Kernel, living_at}
use Rattle.kernel_model.specs.ProcessCalls.{reap_child}
use Rattle.kernel_model.specs.Queue.{Message, Queue, Received, has_room, is_sendable, receive, receive_at, receive_from, select, send, take_message}
use Rattle.kernel_model.specs.QueueCalls.{change_queue, receive_effect}
use Rattle.kernel_model.specs.Row.{Alive, Waited, Found, NotYet, NoChild, wait}
use Rattle.kernel_model.specs.SemaphoreSet.{SemaphoreSet, Tried, Done, StopsAt, OutOfRange, max_operations, op, op_after_trial, try_ops, values_of}
use Rattle.kernel_model.specs.SetCalls.{change_set}
use Rattle.kernel_model.specs.Transition.{Successor, effect, may_make, outcome_of, successor, transition, transition_by}
use Rattle.kernel_laws.proofs.Plain.{from_some, not_true}
use Rattle.kernel_laws.proofs.Steps.{Step, step}
use Rattle.waiting_model.specs.Calls.{may_park}
use Rattle.waiting_model.specs.Linear.{LeadInLine, LeadsTo, Does, Counts, BreaksOff, at_once, counts_waiters, is_broken_off, step_at_once}
use Rattle.waiting_laws.specs.Lines.{LinesHaveOneEnd}
use Rattle.waiting_laws.proofs.AtOnce.{none-waits}
use Rattle.waiting_laws.proofs.SetLines.{count-at-once}

-- ---- no call that may have to wait is refused at once with what a wait is broken off with

abbrev IsNoBreak : Reply → Type 0
IsNoBreak (replies.Fail e) = is_broken_off e ≡ false
IsNoBreak reply = Unit {0}

abbrev BreaksNot : {A : Type 0} → Result A Errno → Type 0
BreaksNot (Ok x) = Unit {0}
BreaksNot (Err e) = is_broken_off e ≡ false

sends : (q : Queue) (pid : ℕ) (class : ℤ) (text : List ℕ) → BreaksNot (send q pid class text)
sends q pid class text = by_tests (is_sendable class text) (has_room q text)
  where
    by_tests : (a b : Bool)
        → (let r : Result Queue Errno =
        (if a
        then if b
        then Ok (record q {
          messages = q.messages ++ (let m : Message = record { class = class; text = text } in m) ∷ [];
          last_sender = pid;
        })
        else Err Eagain
        else Err Einval)
        in BreaksNot r)
    by_tests true true = tt
    by_tests true false = refl
    by_tests false b = refl

received-at : (q : Queue) (pid size : ℕ) (noerror : Bool) (place : ℕ) (o : Option Message)
    → BreaksNot (receive_at q pid size noerror place o)
received-at q pid size noerror place None = refl
received-at q pid size noerror place (Some m) = by_test (nat_le (length m.text) size || noerror)
  where
    by_test : (b : Bool)
        → (let r : Result Received Errno = (if b then Ok (take_message q pid size place m) else Err E2big)
        in BreaksNot r)
    by_test true = tt
    by_test false = refl

received-from : (q : Queue) (pid size : ℕ) (noerror : Bool) (o : Option ℕ)
    → BreaksNot (receive_from q pid size noerror o)
received-from q pid size noerror None = refl
received-from q pid size noerror (Some place) = received-at q pid size noerror place (slice_get q.messages place)

tried : (set : SemaphoreSet) (pid : ℕ) (steps : List SemStep) (t : Tried) → BreaksNot (op_after_trial set pid steps t)
tried set pid steps (Done values) = tt
tried set pid steps (StopsAt index) = refl
tried set pid steps OutOfRange = refl

operated : (set : SemaphoreSet) (pid : ℕ) (steps : List SemStep) → BreaksNot (op set pid steps)
operated set pid steps =
    by_tests (nat_lt max_operations (length steps))
    (list_any (λ step. nat_le (length set.semaphores) step.num) steps)
  where
    by_tests : (a b : Bool)
        → (let r : Result SemaphoreSet Errno =
        (if a then Err E2big
        else if b then Err Efbig
        else op_after_trial set pid steps (try_ops (values_of set.semaphores) steps))
        in BreaksNot r)
    by_tests true b = refl
    by_tests false true = refl
    by_tests false false = tried set pid steps (try_ops (values_of set.semaphores) steps)

changed-queue : (k : Kernel) (id : ℕ) (r : Result Queue Errno) → BreaksNot r → IsNoBreak (change_queue k id r).reply
changed-queue k id (Ok q) h = tt
changed-queue k id (Err e) h = h

received : (k : Kernel) (id : ℕ) (r : Result Received Errno) → BreaksNot r → IsNoBreak (receive_effect k id r).reply
received k id (Ok r) h = tt
received k id (Err e) h = h

changed-set : (k : Kernel) (id : ℕ) (r : Result SemaphoreSet Errno) → BreaksNot r → IsNoBreak (change_set k id r).reply
changed-set k id (Ok s) h = tt
changed-set k id (Err e) h = h

reaped : (k : Kernel) (pid : ℕ) (a : Alive) (w : Waited) → IsNoBreak (reap_child k pid a w).reply
reaped k pid a (Found child ending) = tt
reaped k pid a NotYet = tt
reaped k pid a NoChild = refl

named : {V : Type 0} (k : Kernel) (o : Option V) (f : V → Effect) → ((v : V) → IsNoBreak (f v).reply)
    → IsNoBreak (on_named k o f).reply
named k None f h = refl
named k (Some v) f h = h v

-- by its effect
no-break : (k : Kernel) (pid : ℕ) (a : Alive) (call : Call) (n : ℕ) (e : Effect) → may_park call ≡ true
    → effect k pid a (at_once call) n ≡ Some e → IsNoBreak e.reply
no-break k pid a (calls.WaitPid child nohang) n e may is =
    subst (λ (x : Effect). IsNoBreak x.reply) (from_some _ e is) (reaped k pid a (wait a.row.family child))
no-break k pid a (calls.MsgSnd id class text nowait) n e may is =
    subst (λ (x : Effect). IsNoBreak x.reply) (from_some _ e is)
    (named k (get k.queues id) (λ q. change_queue k id (send q pid class text))
    (λ q. changed-queue k id (send q pid class text) (sends q pid class text)))
no-break k pid a (calls.MsgRcv id class size noerror nowait) n e may is =
    subst (λ (x : Effect). IsNoBreak x.reply) (from_some _ e is)
    (named k (get k.queues id) (λ q. receive_effect k id (receive q pid class size noerror))
    (λ q.
    received k id (receive q pid class size noerror)
    (received-from q pid size noerror (select q.messages class))))
no-break k pid a (calls.SemOp id steps) n e may is =
    let now : List SemStep = map step_at_once steps
    in subst (λ (x : Effect). IsNoBreak x.reply)
    (from_some _ e
    (sym
    (ap
    (λ (b : Bool).
    (if b then None else Some (on_named k (get k.sets id) (λ set. change_set k id (op set pid now)))))
    (none-waits steps))
    ∙ is))
    (named k (get k.sets id) (λ set. change_set k id (op set pid now))
    (λ set. changed-set k id (op set pid now) (operated set pid now)))
no-break k pid a call n e may is = not_true may

fail-breaks : {B : Type 0} (reply : Reply) (error : Errno) → reply ≡ replies.Fail error → IsNoBreak reply
    → is_broken_off error ≡ true → B
fail-breaks reply error is none breaks =
    absurd
    (let now : is_broken_off error ≡ false = subst IsNoBreak is none in true≢false (sym breaks ∙ now))

-- ---- one line

same-kernel : (a b : Kernel) (o p : Outcome) → Some (successor a o) ≡ Some (successor b p) → a ≡ b
same-kernel a b o p h = ap (λ (s : Successor). s.kernel) (from_some (successor a o) (successor b p) h)

-- a count makes nothing, whatever number it is given
count-any : (k : Kernel) (pid : ℕ) (call : Call) (n m : ℕ) → counts_waiters call ≡ true
    → transition k pid call n ≡ transition k pid call m
count-any k pid call n m counts = by_caller (living_at k pid)
  where
    by_effect : (a : Alive) (call : Call) → counts_waiters call ≡ true
        → (if may_make a call then outcome_of pid (effect k pid a call n) else None)
        ≡ (if may_make a call then outcome_of pid (effect k pid a call m) else None)
    by_effect a (calls.SemGetNcnt id num) h = refl
    by_effect a (calls.SemGetZcnt id num) h = refl
    by_effect a call h = not_true h

    by_caller : (o : Option Alive) → transition_by k pid call n o ≡ transition_by k pid call m o
    by_caller None = refl
    by_caller (Some a) = by_effect a call counts

module _ (k : Kernel) (e : Entry) where
  does-or-counts : (a b : Kernel) (o : Outcome) (n : ℕ) → counts_waiters e.call ≡ true
      → transition k e.pid (at_once e.call) n ≡ Some (successor a e.outcome)
      → transition k e.pid e.call 0 ≡ Some (successor b o) → a ≡ b
  does-or-counts a b o n counts does counting =
      same-kernel a b e.outcome o
      (sym does
      ∙ (ap (λ (c : Call). transition k e.pid c n) (count-at-once e.call counts)
      ∙ (count-any k e.pid e.call n 0 counts ∙ counting)))

  does-or-breaks : {B : Type 0} (a : Kernel) (error : Errno) (n : ℕ) → may_park e.call ≡ true
      → is_broken_off error ≡ true → e.outcome ≡ reply_alone (replies.Fail error)
      → transition k e.pid (at_once e.call) n ≡ Some (successor a e.outcome) → B
  does-or-breaks a error n may breaks outcome does =
      let s : Step k e.pid (at_once e.call) n a e.outcome = step k e.pid (at_once e.call) n a e.outcome does
      in fail-breaks s.result.reply error
      (from_some s.result.reply (replies.Fail error) (s.says ∙ ap (λ (o : Outcome). o.own) outcome))
      (no-break k e.pid s.alive e.call n s.result may s.gives) breaks

  counts-or-breaks : {B : Type 0} (n : ℕ) (error : Errno) → e.outcome ≡ reply_alone (replies.Num n)
      → e.outcome ≡ reply_alone (replies.Fail error) → B
  counts-or-breaks n error counted failed =
      absurd
      (let same : Some (replies.Num n) ≡ Some (replies.Fail error) =
      sym (ap (λ (o : Outcome). o.own) counted) ∙ ap (λ (o : Outcome). o.own) failed
      in cc)

  one-next : (a b : Kernel) → LeadsTo k e a → LeadsTo k e b → a ≡ b
  one-next a b (Does x) (Does y) = same-kernel a b e.outcome e.outcome (sym x ∙ y)
  one-next a b (Does x) (Counts n counts o y) = does-or-counts a b _ _ counts x y
  one-next a b (Does x) (BreaksOff error may breaks o y) = does-or-breaks a error _ may breaks o x
  one-next a b (Counts n counts o x) (Does y) = sym (does-or-counts b a _ _ counts y x)
  one-next a b (Counts n counts o x) (Counts m also p y) = same-kernel a b _ _ (sym x ∙ y)
  one-next a b (Counts n counts o x) (BreaksOff error may breaks p y) = counts-or-breaks n error o p
  one-next a b (BreaksOff error may breaks o x) (Does y) = does-or-breaks b error _ may breaks o y
  one-next a b (BreaksOff error may breaks o x) (Counts n counts p y) = counts-or-breaks n error p o
  one-next a b (BreaksOff error may breaks o x) (BreaksOff other also breaking p y) = x ∙ sym y

-- one after another
pub lines-have-one-end : LinesHaveOneEnd
lines-have-one-end k a b [] h g = sym h ∙ g
lines-have-one-end k a b (l ∷ lines) h g =
    lines-have-one-end g.next a b lines
    (subst (λ (m : Kernel). LeadInLine m lines a) (one-next k l h.next g.next h.leads g.leads) h.rest) g.rest
