-- Which calls find a child, and what a call leaves of the size of a set and of a family.
use Rattle.std.proofs.Common.{◌≡◌, ℕ, suc, Bool, true, false, List, [], ◌∷◌, length, Option, Some, None, Result, Ok, Err, refl, ap, sym, ◌∙◌}
use Rattle.std.specs.Prelude.{if◌then◌else◌, fold, slice_get, nat_lt, nat_le, nat_eq, Contains}
use Rattle.std.specs.List.{list_any}
use Rattle.std.proofs.lemmas.Bool.{false≢true}
use Rattle.std.proofs.lemmas.List.{length-set}
use Rattle.pico_base.specs.declared.call.Call.{Call}
use Rattle.pico_base.specs.declared.call.Call.TheVariants as calls
use Rattle.pico_base.specs.declared.call.SemStep.{SemStep}
use Rattle.pico_base.specs.declared.numbers.Name.{Name}
use Rattle.pico_base.specs.declared.numbers.Name.TheVariants.{Proc, Msg, Sem}
use Rattle.pico_base.specs.declared.reply.Ending.{Ending}
use Rattle.pico_base.specs.declared.reply.Errno.{Errno}
use Rattle.pico_base.specs.declared.reply.Reply.{Reply}
use Rattle.pico_base.specs.declared.reply.Reply.TheVariants as replies
use Rattle.pico_base.specs.declared.signal.SigArg.{SigArg}
use Rattle.pico_base.specs.declared.signal.SigArg.TheVariants.{Zero, Is, Bad}
use Rattle.kernel_model.specs.Signals.{Signals, act_on}
use Rattle.kernel_model.specs.Queue.{Queue, Received, send, receive, set_qbytes}
use Rattle.kernel_model.specs.SemaphoreSet.{Semaphore, SemaphoreSet, Tried, Done as Tries, StopsAt, OutOfRange, op, op_after_trial, mark, mark_at, with_values, with_last, set_value, set_value_at, set_all, value_at, last_at, waiting_at, try_ops, values_of, max_operations, max_value}
use Rattle.kernel_model.specs.Row.{Row, Waited, Found, NotYet, NoChild, ended_child, wait}
use Rattle.kernel_model.specs.Fitting.{is_waitpid}
use Rattle.kernel_laws.proofs.Members.{found-contained}
use Rattle.kernel_laws.proofs.Plain.{by_test}
use Rattle.node_model.specs.Bodies.{Body, Living, Ended, Gone, AQueue, ASet, Removed}
use Rattle.node_model.specs.Carrying.{Done, act, change, is_own, is_removal, look, on_body, on_queue, on_row, on_set, reap, signal, take_message}
use Rattle.serve_laws.specs.Laws.{is_found}
use Rattle.entry_laws.specs.Entering.{family_after}

-- ---- children that are found

-- a reply that found a child
abbrev pub finds : Reply → Bool
finds (replies.Child child ending) = true
finds reply = false

-- a reply that finds none
pub none-found : (r : Reply) → finds r ≡ false → (m : Name) → is_found r m ≡ false
none-found (replies.Child child ending) h m = absurd (false≢true (sym h))
none-found r h m = refl

-- no set is found as a child
pub set-not-found : (r : Reply) (id : ℕ) → is_found r (Sem id) ≡ false
set-not-found (replies.Child child ending) id = refl
set-not-found r id = refl

looks-none : {V : Type 0} (v : V) (r : Result ℕ Errno) → finds (look v r).reply ≡ false
looks-none v (Ok n) = refl
looks-none v (Err e) = refl

changes-none : {V : Type 0} (v : V) (r : Result V Errno) → finds (change v r).reply ≡ false
changes-none v (Ok w) = refl
changes-none v (Err e) = refl

takes-none : (q : Queue) (r : Result Received Errno) → finds (take_message q r).reply ≡ false
takes-none q (Ok r) = refl
takes-none q (Err e) = refl

acts-none : (row : Row) (r : Result Signals Errno) → finds (act row r).reply ≡ false
acts-none row (Ok s) = refl
acts-none row (Err e) = refl

signals-none : (row : Row) (sig : SigArg) → finds (signal row sig).reply ≡ false
signals-none row Zero = refl
signals-none row Bad = refl
signals-none row (Is g) = refl

queue-none : (q : Queue) (pid : ℕ) (call : Call) → finds (on_queue q pid call).reply ≡ false
queue-none q pid (calls.MsgSnd id class text nowait) = changes-none q (send q pid class text)
queue-none q pid (calls.MsgRcv id class size noerror nowait) = takes-none q (receive q pid class size noerror)
queue-none q pid (calls.MsgSet id qbytes) = changes-none q (set_qbytes q qbytes)
queue-none q pid call = refl

set-none : (s : SemaphoreSet) (pid : ℕ) (call : Call) → finds (on_set s pid call).reply ≡ false
set-none s pid (calls.SemOp id steps) = changes-none s (op s pid steps)
set-none s pid (calls.SemGetVal id num) = looks-none s (value_at s num)
set-none s pid (calls.SemGetPid id num) = looks-none s (last_at s num)
set-none s pid (calls.SemGetNcnt id num) = looks-none s (waiting_at s num)
set-none s pid (calls.SemGetZcnt id num) = looks-none s (waiting_at s num)
set-none s pid (calls.SemSetVal id num value) = changes-none s (set_value s num value)
set-none s pid (calls.SemSetAll id values) = changes-none s (set_all s values)
set-none s pid call = refl

row-none : (row : Row) (pid : ℕ) (call : Call) → is_waitpid call ≡ false → finds (on_row row pid call).reply ≡ false
row-none row pid (calls.WaitPid child nohang) h = absurd (false≢true (sym h))
row-none row pid (calls.Kill target sig) h = signals-none row sig
row-none row pid (calls.SigAction sig action) h = acts-none row (act_on row.signals sig action)
row-none row pid call h = refl

choice-none : (b : Bool) (x y : Done Body) → finds x.reply ≡ false → finds y.reply ≡ false
    → finds (if b then x else y).reply ≡ false
choice-none true x y h g = h
choice-none false x y h g = g

own-none : (b : Bool) (x y : Reply) → finds x ≡ false → finds y ≡ false → finds (if b then x else y) ≡ false
own-none true x y h g = h
own-none false x y h g = g

-- only `waitpid` finds a child
pub body-none : (name : Name) (body : Body) (pid : ℕ) (call : Call) → is_waitpid call ≡ false
    → finds (on_body name body pid call).reply ≡ false
body-none (Proc p) (Living row) pid call h = row-none row pid call h
body-none (Proc p) (Ended e) pid call h = own-none (is_own pid call) _ _ refl refl
body-none (Proc p) Gone pid call h = refl
body-none (Proc p) (AQueue q) pid call h = refl
body-none (Proc p) (ASet s) pid call h = refl
body-none (Proc p) Removed pid call h = refl
body-none (Msg id) (AQueue q) pid call h = choice-none (is_removal call) _ _ refl (queue-none q.state pid call)
body-none (Msg id) (Living row) pid call h = refl
body-none (Msg id) (Ended e) pid call h = refl
body-none (Msg id) Gone pid call h = refl
body-none (Msg id) (ASet s) pid call h = refl
body-none (Msg id) Removed pid call h = refl
body-none (Sem id) (ASet s) pid call h = choice-none (is_removal call) _ _ refl (set-none s.state pid call)
body-none (Sem id) (Living row) pid call h = refl
body-none (Sem id) (Ended e) pid call h = refl
body-none (Sem id) Gone pid call h = refl
body-none (Sem id) (AQueue q) pid call h = refl
body-none (Sem id) Removed pid call h = refl

reaped-kept : (row : Row) (which : Option ℕ) (w : Waited) (child : ℕ) (ending : Ending) → wait row.family which ≡ w
    → (reap row w).reply ≡ replies.Child child ending → Contains row.family.ended (ended_child child ending)
reaped-kept row which (Found c e) child ending is h =
    let child_is : c ≡ child = cc
    in let ending_is : e ≡ ending = cc
    in found-contained row.family which child ending
    (is ∙ ap (λ x. Found x e) child_is ∙ ap (Found child) ending_is)
reaped-kept row which NotYet child ending is h = absurd (cc)
reaped-kept row which NoChild child ending is h = absurd (cc)

-- and it is one of the ended children that its caller keeps
pub row-found : (row : Row) (pid : ℕ) (call : Call) (child : ℕ) (ending : Ending)
    → (on_row row pid call).reply ≡ replies.Child child ending → Contains row.family.ended (ended_child child ending)
row-found row pid (calls.WaitPid which nohang) child ending h =
    reaped-kept row which (wait row.family which) child ending refl h
row-found row pid (calls.Kill target sig) child ending h =
    absurd (false≢true (sym (signals-none row sig) ∙ ap finds h))
row-found row pid (calls.SigAction sig action) child ending h =
    absurd (false≢true (sym (acts-none row (act_on row.signals sig action)) ∙ ap finds h))
row-found row pid call child ending h = absurd (cc)

-- ---- families

signal-family : (row : Row) (sig : SigArg)
    → (signal row sig).left.family ≡ family_after (signal row sig).reply row.family
signal-family row Zero = refl
signal-family row Bad = refl
signal-family row (Is g) = refl

act-family : (row : Row) (r : Result Signals Errno)
    → (act row r).left.family ≡ family_after (act row r).reply row.family
act-family row (Ok s) = refl
act-family row (Err e) = refl

reap-family : (row : Row) (w : Waited) → (reap row w).left.family ≡ family_after (reap row w).reply row.family
reap-family row (Found child ending) = refl
reap-family row NotYet = refl
reap-family row NoChild = refl

-- a call on a process's row leaves its family, but for a child that is found
pub row-family : (row : Row) (pid : ℕ) (call : Call)
    → (on_row row pid call).left.family ≡ family_after (on_row row pid call).reply row.family
row-family row pid (calls.Kill target sig) = signal-family row sig
row-family row pid (calls.SigAction sig action) = act-family row (act_on row.signals sig action)
row-family row pid (calls.WaitPid which nohang) = reap-family row (wait row.family which)
row-family row pid call = refl

-- ---- sizes of sets

-- a change of a set has its size
abbrev KeepsSize : SemaphoreSet → Result SemaphoreSet Errno → Type 0
KeepsSize s (Ok w) = length w.semaphores ≡ length s.semaphores
KeepsSize s (Err e) = Unit {0}

marked-size : (pid num : ℕ) (xs : List Semaphore) (o : Option Semaphore) → length (mark_at xs pid num o) ≡ length xs
marked-size pid num xs None = refl
marked-size pid num xs (Some s) = length-set xs num (with_last s pid)

marks-size : (pid : ℕ) (steps : List SemStep) (xs : List Semaphore) → length (fold (mark pid) xs steps) ≡ length xs
marks-size pid [] xs = refl
marks-size pid (step ∷ steps) xs =
    marks-size pid steps (mark pid xs step) ∙ marked-size pid step.num xs (slice_get xs step.num)

values-size : (xs : List Semaphore) (values : List ℕ) → length (with_values xs values) ≡ length xs
values-size [] values = refl
values-size (s ∷ xs) [] = refl
values-size (s ∷ xs) (v ∷ values) = ap suc (values-size xs values)

tried-size : (s : SemaphoreSet) (pid : ℕ) (steps : List SemStep) (t : Tried)
    → KeepsSize s (op_after_trial s pid steps t)
tried-size s pid steps (Tries values) =
    marks-size pid steps (with_values s.semaphores values) ∙ values-size s.semaphores values
tried-size s pid steps (StopsAt index) = tt
tried-size s pid steps OutOfRange = tt

op-size : (s : SemaphoreSet) (pid : ℕ) (steps : List SemStep) → KeepsSize s (op s pid steps)
op-size s pid steps =
    let trial = op_after_trial s pid steps (try_ops (values_of s.semaphores) steps)
    in by_test (KeepsSize s) (nat_lt max_operations (length steps)) _ _ (λ t. tt)
    (λ t. by_test (KeepsSize s)
    (list_any (λ step. nat_le (length s.semaphores) step.num) steps) _ trial (λ u. tt)
    (λ u. tried-size s pid steps (try_ops (values_of s.semaphores) steps)))

set-value-size : (s : SemaphoreSet) (num value : ℕ) (o : Option Semaphore) → KeepsSize s (set_value_at s num value o)
set-value-size s num value None = tt
set-value-size s num value (Some x) =
    by_test (KeepsSize s) (nat_lt max_value value) _ _ (λ t. tt)
    (λ t. length-set s.semaphores num (record x { value = value }))

set-all-size : (s : SemaphoreSet) (values : List ℕ) → KeepsSize s (set_all s values)
set-all-size s values =
    by_test (KeepsSize s) (nat_eq (length values) (length s.semaphores)) _ _
    (λ t. by_test (KeepsSize s) (list_any (nat_lt max_value) values) _ _ (λ u. tt)
    (λ u. values-size s.semaphores values)) (λ t. tt)

changed-size : (s : SemaphoreSet) (r : Result SemaphoreSet Errno) → KeepsSize s r
    → length (change s r).left.semaphores ≡ length s.semaphores
changed-size s (Ok w) h = h
changed-size s (Err e) h = refl

looked-size : (s : SemaphoreSet) (r : Result ℕ Errno) → length (look s r).left.semaphores ≡ length s.semaphores
looked-size s (Ok n) = refl
looked-size s (Err e) = refl

-- a call on a set leaves its size
pub on_set-size : (s : SemaphoreSet) (pid : ℕ) (call : Call)
    → length (on_set s pid call).left.semaphores ≡ length s.semaphores
on_set-size s pid (calls.SemOp id steps) = changed-size s (op s pid steps) (op-size s pid steps)
on_set-size s pid (calls.SemGetVal id num) = looked-size s (value_at s num)
on_set-size s pid (calls.SemGetPid id num) = looked-size s (last_at s num)
on_set-size s pid (calls.SemGetNcnt id num) = looked-size s (waiting_at s num)
on_set-size s pid (calls.SemGetZcnt id num) = looked-size s (waiting_at s num)
on_set-size s pid (calls.SemSetVal id num value) =
    changed-size s (set_value s num value) (set-value-size s num value (slice_get s.semaphores num))
on_set-size s pid (calls.SemSetAll id values) = changed-size s (set_all s values) (set-all-size s values)
on_set-size s pid call = refl
