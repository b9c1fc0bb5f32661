-- What calls leave of bodies stays small enough to have bytes.
use Rattle.std.proofs.Common.{◌≡◌, ◌∙◌, ℕ, ◌<◌, ◌^◌, Bool, true, false, not, ◌&&◌, ◌||◌, nat_eq, nat_le, nat_lt, List, [], ◌∷◌, ◌++◌, length, take, drop, suc, Option, Some, None, Result, Ok, Err, refl, subst, arith}
use Rattle.std.specs.Prelude.{if◌then◌else◌, is_some, fold, slice_get, remove, All}
use Rattle.std.specs.List.{list_any}
use Rattle.std.proofs.lemmas.List.Elements.{All-append, All-cons, All-drop, All-get_or, All-head, All-nil, All-push, All-replicate, All-set, All-tail, All-take}
use Rattle.std.proofs.lemmas.Option.{slice_get_within, get_or_from_slice_get}
use Rattle.pico_base.specs.declared.call.Call.{Call}
use Rattle.pico_base.specs.declared.call.Call.TheVariants as calls
use Rattle.pico_base.specs.declared.call.SemStep.{SemStep}
use Rattle.pico_base.specs.declared.numbers.Name.{Name}
use Rattle.pico_base.specs.declared.numbers.Name.TheVariants.{Proc, Msg, Sem}
use Rattle.pico_base.specs.declared.reply.Ending.{Ending}
use Rattle.pico_base.specs.declared.reply.Errno.{Errno}
use Rattle.pico_base.specs.declared.reply.Errno.TheVariants.{Eagain, Einval}
use Rattle.pico_base.specs.declared.signal.Act.{Act}
use Rattle.pico_base.specs.declared.signal.Act.TheVariants.{Dfl, Ign, Catch}
use Rattle.pico_base.specs.declared.signal.How.{How}
use Rattle.pico_base.specs.declared.signal.PerSignal.{PerSignal}
use Rattle.pico_base.specs.declared.signal.Sig.{Sig}
use Rattle.pico_base.specs.declared.signal.Sig.TheVariants.{Hup, Int, Quit, Kill, Usr1, Usr2, Pipe, Alrm, Term, Chld}
use Rattle.pico_base.specs.declared.signal.SigArg.{SigArg}
use Rattle.pico_base.specs.declared.signal.SigArg.TheVariants.{Zero, Is, Bad}
use Rattle.pico_base.specs.Signal.{all_signals, at, everywhere, put_at}
use Rattle.kernel_model.specs.Signals.{Signals, act_on, arrive, arrive_by, count_up, deliver, discards, doom_by, inherit, is_kill, new_mask, new_signals, raise, with_action, with_mask}
use Rattle.kernel_model.specs.Queue.{Message, Queue, Received, empty_queue, has_room, is_sendable, max_queue_bytes, receive, receive_at, receive_from, select, send, set_qbytes, take_message}
use Rattle.kernel_model.specs.Row.{Alive, Row, Waited, Found, NotYet, NoChild, family_after_end, ignores_children, raise_by_other, wait, with_ended_child}
use Rattle.kernel_model.specs.SemaphoreSet.{Semaphore, SemaphoreSet, Tried, Done as Tries, StopsAt, OutOfRange, mark, mark_at, max_operations, max_value, new_semaphore, new_set, is_bad_count, op, op_after_trial, set_all, set_value, set_value_at, try_ops, value_at, last_at, waiting_at, values_of, with_last, with_values}
use Rattle.kernel_laws.proofs.Plain.{by_test}
use Rattle.signal_state.proofs.Bodies.{at-small}
use Rattle.node_model.specs.Bodies.{Body, Living, Ended, Gone, AQueue, ASet, Removed}
use Rattle.node_model.specs.Carrying.{Done, act, change, is_removal, look, on_body, on_queue, on_row, on_set, reap, signal, take_message as takes_message}
use Rattle.deed_laws.specs.Small.{AreSmallSignals, HasSmallLast, HasSmallType, IsSmall, IsSmallCall, IsSmallQueue, IsSmallSet}

-- ---- signals

kill-apart : (m : PerSignal Bool) (g : Sig) (v : Bool) → is_kill g ≡ false → (put_at m g v).kill ≡ m.kill
kill-apart m Hup v h = refl
kill-apart m Int v h = refl
kill-apart m Quit v h = refl
kill-apart m Kill v h = absurd (cc)
kill-apart m Usr1 v h = refl
kill-apart m Usr2 v h = refl
kill-apart m Pipe v h = refl
kill-apart m Alrm v h = refl
kill-apart m Term v h = refl
kill-apart m Chld v h = refl

kill-cleared : (m : PerSignal Bool) (g : Sig) → m.kill ≡ false → (put_at m g false).kill ≡ false
kill-cleared m Hup h = h
kill-cleared m Int h = h
kill-cleared m Quit h = h
kill-cleared m Kill h = refl
kill-cleared m Usr1 h = h
kill-cleared m Usr2 h = h
kill-cleared m Pipe h = h
kill-cleared m Alrm h = h
kill-cleared m Term h = h
kill-cleared m Chld h = h

small-put : (m : PerSignal ℕ) (g : Sig) (v : ℕ) → v < 2 ^ 32 → ((h : Sig) → at m h < 2 ^ 32) → (h : Sig)
    → at (put_at m g v) h < 2 ^ 32
small-put m Hup v small all =
    at-small (put_at m Hup v) (2 ^ 32) small (all Int) (all Quit) (all Kill) (all Usr1) (all Usr2)
    (all Pipe) (all Alrm) (all Term) (all Chld)
small-put m Int v small all =
    at-small (put_at m Int v) (2 ^ 32) (all Hup) small (all Quit) (all Kill) (all Usr1) (all Usr2)
    (all Pipe) (all Alrm) (all Term) (all Chld)
small-put m Quit v small all =
    at-small (put_at m Quit v) (2 ^ 32) (all Hup) (all Int) small (all Kill) (all Usr1) (all Usr2)
    (all Pipe) (all Alrm) (all Term) (all Chld)
small-put m Kill v small all =
    at-small (put_at m Kill v) (2 ^ 32) (all Hup) (all Int) (all Quit) small (all Usr1) (all Usr2)
    (all Pipe) (all Alrm) (all Term) (all Chld)
small-put m Usr1 v small all =
    at-small (put_at m Usr1 v) (2 ^ 32) (all Hup) (all Int) (all Quit) (all Kill) small (all Usr2)
    (all Pipe) (all Alrm) (all Term) (all Chld)
small-put m Usr2 v small all =
    at-small (put_at m Usr2 v) (2 ^ 32) (all Hup) (all Int) (all Quit) (all Kill) (all Usr1) small
    (all Pipe) (all Alrm) (all Term) (all Chld)
small-put m Pipe v small all =
    at-small (put_at m Pipe v) (2 ^ 32) (all Hup) (all Int) (all Quit) (all Kill) (all Usr1) (all Usr2)
    small (all Alrm) (all Term) (all Chld)
small-put m Alrm v small all =
    at-small (put_at m Alrm v) (2 ^ 32) (all Hup) (all Int) (all Quit) (all Kill) (all Usr1) (all Usr2)
    (all Pipe) small (all Term) (all Chld)
small-put m Term v small all =
    at-small (put_at m Term v) (2 ^ 32) (all Hup) (all Int) (all Quit) (all Kill) (all Usr1) (all Usr2)
    (all Pipe) (all Alrm) small (all Chld)
small-put m Chld v small all =
    at-small (put_at m Chld v) (2 ^ 32) (all Hup) (all Int) (all Quit) (all Kill) (all Usr1) (all Usr2)
    (all Pipe) (all Alrm) (all Term) small

counted : (n : ℕ) → count_up n < 2 ^ 32
counted n = omega arith

none-counted : (g : Sig) → at (everywhere 0) g < 2 ^ 32
none-counted g =
    at-small (everywhere 0) (2 ^ 32) (omega arith) (omega arith) (omega arith) (omega arith) (omega arith) (omega arith)
    (omega arith) (omega arith) (omega arith) (omega arith) g

-- new signals are small
pub small-new : AreSmallSignals new_signals
small-new = record { no_kill = refl; counts = none-counted }

-- a forked process's
pub small-inherited : (s : Signals) → AreSmallSignals (inherit s)
small-inherited s = record { no_kill = refl; counts = none-counted }

small-doomed : (s : Signals) (g : Sig) → AreSmallSignals s → AreSmallSignals (doom_by s g)
small-doomed s g h = record { no_kill = h.no_kill; counts = h.counts }

small-arrived : (action : Act) (s : Signals) (g : Sig) → AreSmallSignals s → AreSmallSignals (arrive_by action s g)
small-arrived Catch s g h = record {
  no_kill = h.no_kill;
  counts = small-put s.handled g (count_up (at s.handled g)) (counted (at s.handled g)) h.counts;
}
small-arrived Dfl s g h = small-doomed s g h
small-arrived Ign s g h = small-doomed s g h

small-arrive : (s : Signals) (g : Sig) → AreSmallSignals s → AreSmallSignals (arrive s g)
small-arrive s g h = small-arrived (at s.actions g) s g h

small-pended : (s : Signals) (g : Sig) (v : Bool) → is_kill g ≡ false → AreSmallSignals s
    → AreSmallSignals (record s { pending = put_at s.pending g v })
small-pended s g v apart h = record { no_kill = kill-apart s.pending g v apart ∙ h.no_kill; counts = h.counts }

pub small-raise : (s : Signals) (g : Sig) → AreSmallSignals s → AreSmallSignals (raise s g)
small-raise s g h =
    by_test AreSmallSignals (is_some s.doom) s
    (if is_kill g then doom_by s g
    else if discards (at s.actions g) g then s
    else if at s.mask g then record s { pending = put_at s.pending g true }
    else arrive s g) (λ _. h)
    (λ _. by_test AreSmallSignals (is_kill g) (doom_by s g)
    (if discards (at s.actions g) g then s
    else if at s.mask g then record s { pending = put_at s.pending g true }
    else arrive s g) (λ _. small-doomed s g h)
    (λ apart. by_test AreSmallSignals (discards (at s.actions g) g) s
    (if at s.mask g then record s { pending = put_at s.pending g true } else arrive s g) (λ _. h)
    (λ _. by_test AreSmallSignals (at s.mask g) (record s { pending = put_at s.pending g true }) (arrive s g)
    (λ _. small-pended s g true apart h) (λ _. small-arrive s g h))))

small-delivered : (s : Signals) (g : Sig) → AreSmallSignals s → AreSmallSignals (deliver s g)
small-delivered s g h =
    by_test AreSmallSignals (not (is_some s.doom) && (at s.pending g && not (at s.mask g)))
    (arrive (record s { pending = put_at s.pending g false }) g) s
    (λ _. small-arrive (record s { pending = put_at s.pending g false }) g
    (record { no_kill = kill-cleared s.pending g h.no_kill; counts = h.counts })) (λ _. h)

small-fold : (gs : List Sig) (s : Signals) → AreSmallSignals s → AreSmallSignals (fold deliver s gs)
small-fold [] s h = h
small-fold (g ∷ gs) s h = small-fold gs (deliver s g) (small-delivered s g h)

small-mask : (s : Signals) (how : How) (set : PerSignal Bool) → AreSmallSignals s
    → AreSmallSignals (with_mask s how set)
small-mask s how set h =
    small-fold all_signals (record s { mask = new_mask how s.mask set })
    (record { no_kill = h.no_kill; counts = h.counts })

small-action : (s : Signals) (g : Sig) (action : Act) → is_kill g ≡ false → AreSmallSignals s
    → AreSmallSignals (with_action s g action)
small-action s g action apart h =
    record { no_kill = kill-apart s.pending g _ apart ∙ h.no_kill; counts = h.counts }

-- ---- rows

small-signal : (row : Row) (sig : SigArg) → AreSmallSignals row.signals → AreSmallSignals (signal row sig).left.signals
small-signal row Zero h = h
small-signal row Bad h = h
small-signal row (Is g) h = small-raise row.signals g h

small-acted : (row : Row) (g : Sig) (action : Act) (t : Bool) → is_kill g ≡ t → AreSmallSignals row.signals
    → AreSmallSignals (act row (if t then Err Einval else Ok (with_action row.signals g action))).left.signals
small-acted row g action true is h = h
small-acted row g action false is h = small-action row.signals g action is h

small-act : (row : Row) (sig : SigArg) (action : Act) → AreSmallSignals row.signals
    → AreSmallSignals (act row (act_on row.signals sig action)).left.signals
small-act row Zero action h = h
small-act row Bad action h = h
small-act row (Is g) action h = small-acted row g action (is_kill g) refl h

small-reap : (row : Row) (w : Waited) → AreSmallSignals row.signals → AreSmallSignals (reap row w).left.signals
small-reap row (Found child ending) h = h
small-reap row NotYet h = h
small-reap row NoChild h = h

small-row : (row : Row) (pid : ℕ) (call : Call) → AreSmallSignals row.signals
    → AreSmallSignals (on_row row pid call).left.signals
small-row row pid (calls.Kill target sig) h = small-signal row sig h
small-row row pid (calls.SigAction sig action) h = small-act row sig action h
small-row row pid (calls.SigProcMask how set) h = small-mask row.signals how set h
small-row row pid (calls.WaitPid which nohang) h = small-reap row (wait row.family which) h
small-row row pid call h = h

-- a parent that notes an end
pub small-noted : (a : Alive) (child : ℕ) (ending : Ending) → AreSmallSignals a.row.signals
    → AreSmallSignals (with_ended_child a child ending).row.signals
small-noted a child ending h =
    let next : Alive = record a {
      row = record {
        signals = a.row.signals;
        family = family_after_end a.row.family child ending (ignores_children a.row);
      };
    }
    in by_test (λ (x : Alive). AreSmallSignals x.row.signals) (ignores_children a.row) next (raise_by_other next Chld)
    (λ _. h) (λ _. small-raise a.row.signals Chld h)

-- ---- queues

abbrev KeepsQueue : Result Queue Errno → Type 0
KeepsQueue (Ok q) = IsSmallQueue q
KeepsQueue (Err e) = Unit {0}

abbrev KeepsReceived : Result Received Errno → Type 0
KeepsReceived (Ok r) = IsSmallQueue r.queue
KeepsReceived (Err e) = Unit {0}

-- so is an empty queue
pub small-empty : IsSmallQueue empty_queue
small-empty = record { types = All-nil HasSmallType; sender = omega arith; receiver = omega arith }

small-sent : (q : Queue) (pid : ℕ) (m : Message) → IsSmallQueue q → pid < 2 ^ 32 → HasSmallType m
    → KeepsQueue (if is_sendable m.class m.text
    then if has_room q m.text
    then Ok (record q { messages = q.messages ++ m ∷ []; last_sender = pid })
    else Err Eagain
    else Err Einval)
small-sent q pid m h low small =
    by_test KeepsQueue (is_sendable m.class m.text) _ (Err Einval)
    (λ _. by_test KeepsQueue (has_room q m.text)
    (Ok (record q { messages = q.messages ++ m ∷ []; last_sender = pid }))
    (Err Eagain)
    (λ _. record { types = All-push HasSmallType q.messages m h.types small; sender = low; receiver = h.receiver })
    (λ _. tt)) (λ _. tt)

small-removed : (q : Queue) (pid place : ℕ) → IsSmallQueue q → pid < 2 ^ 32
    → IsSmallQueue (record q { messages = remove q.messages place; last_receiver = pid })
small-removed q pid place h low = record {
  types = All-append HasSmallType (take place q.messages) (drop (suc place) q.messages)
      (All-take HasSmallType place q.messages h.types) (All-drop HasSmallType (suc place) q.messages h.types);
  sender = h.sender;
  receiver = low;
}

small-received-at : (q : Queue) (pid size : ℕ) (noerror : Bool) (place : ℕ) (o : Option Message) → IsSmallQueue q
    → pid < 2 ^ 32 → KeepsReceived (receive_at q pid size noerror place o)
small-received-at q pid size noerror place None h low = tt
small-received-at q pid size noerror place (Some m) h low =
    by_test KeepsReceived (nat_le (length m.text) size || noerror) (Ok (take_message q pid size place m)) _
    (λ _. small-removed q pid place h low) (λ _. tt)

small-received-from : (q : Queue) (pid size : ℕ) (noerror : Bool) (o : Option ℕ) → IsSmallQueue q
    → pid < 2 ^ 32 → KeepsReceived (receive_from q pid size noerror o)
small-received-from q pid size noerror None h low = tt
small-received-from q pid size noerror (Some place) h low =
    small-received-at q pid size noerror place (slice_get q.messages place) h low

small-limited : (q : Queue) (qbytes : ℕ) → IsSmallQueue q → KeepsQueue (set_qbytes q qbytes)
small-limited q qbytes h =
    by_test KeepsQueue (nat_le qbytes max_queue_bytes) (Ok (record q { qbytes = qbytes })) (Err Einval)
    (λ _. record { types = h.types; sender = h.sender; receiver = h.receiver }) (λ _. tt)

changed-queue : (q : Queue) (r : Result Queue Errno) → IsSmallQueue q → KeepsQueue r → IsSmallQueue (change q r).left
changed-queue q (Ok w) h kept = kept
changed-queue q (Err e) h kept = h

taken-queue : (q : Queue) (r : Result Received Errno) → IsSmallQueue q → KeepsReceived r
    → IsSmallQueue (takes_message q r).left
taken-queue q (Ok r) h kept = kept
taken-queue q (Err e) h kept = h

small-queue : (q : Queue) (pid : ℕ) (call : Call) → IsSmallQueue q → pid < 2 ^ 32 → IsSmallCall call
    → IsSmallQueue (on_queue q pid call).left
small-queue q pid (calls.MsgSnd id class text nowait) h low small =
    changed-queue q (send q pid class text) h
    (small-sent q pid (record { class = class; text = text }) h low small)
small-queue q pid (calls.MsgRcv id class size noerror nowait) h low small =
    taken-queue q (receive q pid class size noerror) h
    (small-received-from q pid size noerror (select q.messages class) h low)
small-queue q pid (calls.MsgSet id qbytes) h low small =
    changed-queue q (set_qbytes q qbytes) h (small-limited q qbytes h)
small-queue q pid call h low small = h

-- ---- sets

abbrev KeepsSet : Result SemaphoreSet Errno → Type 0
KeepsSet (Ok s) = IsSmallSet s
KeepsSet (Err e) = Unit {0}

-- and a new set
pub small-made : (count : ℕ) → KeepsSet (new_set count)
small-made count =
    by_test KeepsSet (is_bad_count count) (Err Einval) _ (λ _. tt)
    (λ _. All-replicate HasSmallLast count new_semaphore (omega arith))

last-at : (xs : List Semaphore) (i : ℕ) (x : Semaphore) → All HasSmallLast xs → slice_get xs i ≡ Some x
    → HasSmallLast x
last-at xs i x h g =
    subst HasSmallLast (get_or_from_slice_get xs i x x g)
    (All-get_or HasSmallLast xs i x (slice_get_within xs i x g) h)

small-values : (xs : List Semaphore) (values : List ℕ) → All HasSmallLast xs → All HasSmallLast (with_values xs values)
small-values [] values h = h
small-values (s ∷ xs) [] h = h
small-values (s ∷ xs) (v ∷ values) h =
    All-cons HasSmallLast (record s { value = v }) (with_values xs values) (All-head HasSmallLast s xs h)
    (small-values xs values (All-tail HasSmallLast s xs h))

small-marked : (xs : List Semaphore) (pid num : ℕ) (o : Option Semaphore) → All HasSmallLast xs → pid < 2 ^ 32
    → All HasSmallLast (mark_at xs pid num o)
small-marked xs pid num None h low = h
small-marked xs pid num (Some s) h low = All-set HasSmallLast xs num (with_last s pid) low h

small-marks : (pid : ℕ) (steps : List SemStep) (xs : List Semaphore) → All HasSmallLast xs → pid < 2 ^ 32
    → All HasSmallLast (fold (mark pid) xs steps)
small-marks pid [] xs h low = h
small-marks pid (step ∷ steps) xs h low =
    small-marks pid steps (mark pid xs step) (small-marked xs pid step.num (slice_get xs step.num) h low) low

small-tried : (s : SemaphoreSet) (pid : ℕ) (steps : List SemStep) (t : Tried) → IsSmallSet s → pid < 2 ^ 32
    → KeepsSet (op_after_trial s pid steps t)
small-tried s pid steps (Tries values) h low =
    small-marks pid steps (with_values s.semaphores values) (small-values s.semaphores values h) low
small-tried s pid steps (StopsAt index) h low = tt
small-tried s pid steps OutOfRange h low = tt

small-op : (s : SemaphoreSet) (pid : ℕ) (steps : List SemStep) → IsSmallSet s → pid < 2 ^ 32
    → KeepsSet (op s pid steps)
small-op s pid steps h low =
    by_test KeepsSet (nat_lt max_operations (length steps)) _ _ (λ _. tt)
    (λ _. by_test KeepsSet (list_any (λ step. nat_le (length s.semaphores) step.num) steps) _
    (op_after_trial s pid steps (try_ops (values_of s.semaphores) steps)) (λ _. tt)
    (λ _. small-tried s pid steps (try_ops (values_of s.semaphores) steps) h low))

small-valued : (s : SemaphoreSet) (num value : ℕ) (o : Option Semaphore) → slice_get s.semaphores num ≡ o
    → IsSmallSet s → KeepsSet (set_value_at s num value o)
small-valued s num value None is h = tt
small-valued s num value (Some x) is h =
    by_test KeepsSet (nat_lt max_value value) _ _ (λ _. tt)
    (λ _. All-set HasSmallLast s.semaphores num (record x { value = value }) (last-at s.semaphores num x h is) h)

small-filled : (s : SemaphoreSet) (values : List ℕ) → IsSmallSet s → KeepsSet (set_all s values)
small-filled s values h =
    by_test KeepsSet (nat_eq (length values) (length s.semaphores)) _ _
    (λ _. by_test KeepsSet (list_any (nat_lt max_value) values) _ _ (λ _. tt)
    (λ _. small-values s.semaphores values h)) (λ _. tt)

changed-set : (s : SemaphoreSet) (r : Result SemaphoreSet Errno) → IsSmallSet s → KeepsSet r
    → IsSmallSet (change s r).left
changed-set s (Ok w) h kept = kept
changed-set s (Err e) h kept = h

looked-set : (s : SemaphoreSet) (r : Result ℕ Errno) → IsSmallSet s → IsSmallSet (look s r).left
looked-set s (Ok n) h = h
looked-set s (Err e) h = h

small-set : (s : SemaphoreSet) (pid : ℕ) (call : Call) → IsSmallSet s → pid < 2 ^ 32
    → IsSmallSet (on_set s pid call).left
small-set s pid (calls.SemOp id steps) h low = changed-set s (op s pid steps) h (small-op s pid steps h low)
small-set s pid (calls.SemGetVal id num) h low = looked-set s (value_at s num) h
small-set s pid (calls.SemGetPid id num) h low = looked-set s (last_at s num) h
small-set s pid (calls.SemGetNcnt id num) h low = looked-set s (waiting_at s num) h
small-set s pid (calls.SemGetZcnt id num) h low = looked-set s (waiting_at s num) h
small-set s pid (calls.SemSetVal id num value) h low =
    changed-set s (set_value s num value) h (small-valued s num value (slice_get s.semaphores num) refl h)
small-set s pid (calls.SemSetAll id values) h low = changed-set s (set_all s values) h (small-filled s values h)
small-set s pid call h low = h

-- ---- bodies

removed-or : (b : Bool) (x y : Done Body) → IsSmall x.left → IsSmall y.left → IsSmall (if b then x else y).left
removed-or true x y h g = h
removed-or false x y h g = g

-- what a call leaves of a body is small where the body was
pub small-left : (name : Name) (body : Body) (pid : ℕ) (call : Call) → IsSmall body → pid < 2 ^ 32 → IsSmallCall call
    → IsSmall (on_body name body pid call).left
small-left (Proc p) (Living row) pid call h low small = small-row row pid call h
small-left (Proc p) (Ended e) pid call h low small = tt
small-left (Proc p) Gone pid call h low small = tt
small-left (Proc p) (AQueue q) pid call h low small = h
small-left (Proc p) (ASet s) pid call h low small = h
small-left (Proc p) Removed pid call h low small = tt
small-left (Msg id) (AQueue q) pid call h low small =
    removed-or (is_removal call) _ _ tt (small-queue q.state pid call h low small)
small-left (Msg id) (Living row) pid call h low small = h
small-left (Msg id) (Ended e) pid call h low small = tt
small-left (Msg id) Gone pid call h low small = tt
small-left (Msg id) (ASet s) pid call h low small = h
small-left (Msg id) Removed pid call h low small = tt
small-left (Sem id) (ASet s) pid call h low small =
    removed-or (is_removal call) _ _ tt (small-set s.state pid call h low)
small-left (Sem id) (Living row) pid call h low small = h
small-left (Sem id) (Ended e) pid call h low small = tt
small-left (Sem id) Gone pid call h low small = tt
small-left (Sem id) (AQueue q) pid call h low small = h
small-left (Sem id) Removed pid call h low small = tt
