-- How many bytes the bodies have that a node holds, and that frames have room for them.
use Rattle.std.proofs.Common.{◌≡◌, ℕ, true, refl, ◌≤◌, List, length, ◌+◌, [], ◌∷◌, map, nat_lt, ◌*◌, ◌⊎◌, ◌^◌, arith, sym, inl, inr, subst}
use Rattle.std.proofs.lemmas.Bool.{false≢true, and_from, lt-ltb, le-leb, ltb-true}
use Rattle.std.proofs.lemmas.List.{length-append, length-map}
use Rattle.std.proofs.lemmas.List.Sums.{sum_by-cons}
use Rattle.std.specs.Int.{w32, to_be_bytes}
use Rattle.std.specs.List.{AllByRecursion, flat_map, list_all}
use Rattle.std.specs.Prelude.{sum_by, nat_le}
use Rattle.sysv_msg.specs.Body.{message_field, messages_field}
use Rattle.sysv_sem.specs.Body.{semaphore_field}
use Rattle.fork_wait.specs.Spelling.{family_bytes, ending_bytes, ended_bytes}
use Rattle.frame_bytes.specs.Calls.{call_bytes}
use Rattle.frame_bytes.specs.Fields.{name_number, rise_from}
use Rattle.frame_bytes.specs.Frames.{are_processes, deed_field, value_field, vars_field, deeds_field, process_of}
use Rattle.frame_bytes.specs.Limits.{is_frame, are_vars, is_last_call, is_deed, is_nonzero}
use Rattle.kernel_model.specs.Queue.{Queue, Message}
use Rattle.kernel_model.specs.Row.{Family, Row, child_row}
use Rattle.kernel_model.specs.Script.{Vars}
use Rattle.kernel_model.specs.SemaphoreSet.{SemaphoreSet}
use Rattle.kernel_model.specs.Signals.{Signals}
use Rattle.limit_laws.proofs.Plain.{fields-length, some-nonzero, fields-are-frame}
use Rattle.limit_laws.proofs.Rises.{AreFrom, above-from}
use Rattle.limit_laws.proofs.Served.{no-family-within}
use Rattle.limit_laws.proofs.Vars.{vars-are-few, vars-are-within}
use Rattle.limit_laws.specs.Bodies.{AreWaitersWithin, IsFamilyWithin, IsQueueWithin, IsSetWithin, IsWaiterWithin}
use Rattle.limit_laws.specs.Within.{AreVariables, IsDeedWithin, AreDeedsWithin, IsBodyWithin}
use Rattle.node_model.specs.Bodies.{Body, Deeds, Living, Ended, Gone, AQueue, ASet, Removed}
use Rattle.node_model.specs.Kinds.{number_of}
use Rattle.node_model.specs.Parcels.{pack_all, parcel_of}
use Rattle.node_model.specs.Serving.{child_body}
use Rattle.node_model.specs.Spelling.{pack, body_bytes, row_bytes}
use Rattle.number_maps.proofs.Rising.{Above, above-first, rising-rest}
use Rattle.number_maps.specs.Maps.{Numbered}
use Rattle.number_maps.specs.Rising.{IsRising}
use Rattle.pico_base.specs.declared.call.Call.TheVariants as calls
use Rattle.pico_base.specs.declared.call.Call.{Call}
use Rattle.pico_base.specs.declared.numbers.Name.TheVariants.{Proc, Msg, Sem}
use Rattle.pico_base.specs.declared.numbers.Name.{Name}
use Rattle.pico_base.specs.declared.reply.EndedChild.{EndedChild}
use Rattle.pico_base.specs.declared.reply.Ending.TheVariants.{Exited, Killed}
use Rattle.pico_base.specs.declared.reply.Ending.{Ending}
use Rattle.rpc_frame.specs.declared.frame.Frame.TheVariants as frames
use Rattle.signal_state.specs.Spelling.{signal_bytes}
use Rattle.waiter_fields.specs.Waiters.{waiter_field, waiters_field}
use Rattle.waiting_model.specs.Waiters.{Awaited}
use Rattle.waiting_model.specs.declared.callers.Waiting.{Waiting}
use Rattle.world_model.specs.Lives.{is_end}

-- ---- a process

ending-length : (e : Ending) → length (ending_bytes e) ≡ 2
ending-length (Exited status) = refl
ending-length (Killed g) = refl

ended-length : (e : EndedChild) → length (ended_bytes e) ≡ 6
ended-length e = let two = ending-length e.ending in omega (arith, two)

signals-length : (s : Signals) → length (signal_bytes s) ≡ 55
unfolding signal_bytes
signals-length s = refl

family-is-short : (most : ℕ) (f : Family) → IsFamilyWithin most f → length (family_bytes f) ≤ 6 * most + 2
unfolding family_bytes
family-is-short most f h =
    let few = h.few
    in let living_bytes = fields-length (to_be_bytes w32) 4 f.living (λ _. refl)
    in let last_bytes = fields-length ended_bytes 6 f.ended ended-length
    in let whole =
    length-append (flat_map (to_be_bytes w32) f.living) (length f.ended ∷ flat_map ended_bytes f.ended)
    in omega (arith, few, living_bytes, last_bytes, whole)

row-is-short : (most : ℕ) (row : Row) → IsFamilyWithin most row.family → length (row_bytes row) ≤ 6 * most + 57
unfolding row_bytes
row-is-short most row h =
    let whole = length-append (signal_bytes row.signals) (family_bytes row.family)
    in let signals = signals-length row.signals
    in let family = family-is-short most row.family h
    in omega (arith, whole, signals, family)

-- The body of a process that isn't the node's own has at most 3 bytes.
pub other-is-short : (own most pid : ℕ) (body : Body) → IsBodyWithin own most (Proc pid) body
    → (pid ≡ own) ⊎ (length (body_bytes body) ≤ 3)
unfolding body_bytes
other-is-short own most pid (Living row) h = inl h.0
other-is-short own most pid (Ended e) h = let two = ending-length e in inr (omega (arith, two))
other-is-short own most pid Gone h = inr (omega arith)
other-is-short own most pid (AQueue q) h = absurd h
other-is-short own most pid (ASet s) h = absurd h
other-is-short own most pid Removed h = absurd h

-- ---- queues and sets

messages-length : (ms : List Message) → length (flat_map message_field ms)
    ≡ 8 * length ms + sum_by (λ m. length m.text) ms
messages-length [] = omega arith
messages-length (m ∷ ms) =
    let rest = messages-length ms
    in let whole = length-append m.text (flat_map message_field ms)
    in let texts = sum_by-cons (λ (x : Message). length x.text) m ms
    in omega (arith, rest, whole, texts)

waiters-are-short : (ws : List Waiting) → AllByRecursion IsWaiterWithin ws
    → length (flat_map waiter_field ws) ≤ 4119 * length ws
waiters-are-short [] all = omega arith
waiters-are-short (w ∷ ws) all =
    let rest = waiters-are-short ws all.1
    in let first : IsWaiterWithin w = all.0
    in let short = first.short
    in let whole = length-append (waiter_field w) (flat_map waiter_field ws)
    in omega (arith, rest, short, whole)

-- those who wait at one queue or set have at most 131,809 bytes with their count
waiters-field-is-short : (ws : List Waiting) → AreWaitersWithin ws → length (waiters_field ws) ≤ 131809
waiters-field-is-short ws k =
    let few = k.few
    in let short = waiters-are-short ws k.each
    in omega (arith, few, short)

queue-is-short : (q : Awaited Queue) → IsQueueWithin q → length (body_bytes (AQueue q)) ≤ 156400
unfolding body_bytes
queue-is-short q h =
    let bytes = h.state.bytes
    in let count = h.state.count
    in let texts = messages-length q.state.messages
    in let waiting = waiters-field-is-short q.waiters h.waiters
    in let whole = length-append (messages_field q.state.messages) (waiters_field q.waiters)
    in omega (arith, bytes, count, texts, waiting, whole)

set-is-short : (s : Awaited SemaphoreSet) → IsSetWithin s → length (body_bytes (ASet s)) ≤ 156400
unfolding body_bytes
set-is-short s h =
    let most = h.state.most
    in let each = fields-length semaphore_field 6 s.state.semaphores (λ _. refl)
    in let waiting = waiters-field-is-short s.waiters h.waiters
    in let whole = length-append (flat_map semaphore_field s.state.semaphores) (waiters_field s.waiters)
    in omega (arith, most, each, waiting, whole)

removed-is-short : length (body_bytes Removed) ≤ 156400
unfolding body_bytes
removed-is-short = omega arith

-- ---- any body

-- The body of a process has at most 120,058 bytes,
pub process-is-short : (own most pid : ℕ) (body : Body) → most ≤ 20000 → IsBodyWithin own most (Proc pid) body
    → length (body_bytes body) ≤ 120058
unfolding body_bytes
process-is-short own most pid (Living row) few h =
    let short = row-is-short most row h.1 in omega (arith, few, short)
process-is-short own most pid (Ended e) few h = let two = ending-length e in omega (arith, two)
process-is-short own most pid Gone few h = omega arith
process-is-short own most pid (AQueue q) few h = absurd h
process-is-short own most pid (ASet s) few h = absurd h
process-is-short own most pid Removed few h = absurd h

-- and any body that a node holds at most 156,400.
pub body-is-short : (own most : ℕ) (name : Name) (body : Body) → most ≤ 20000 → IsBodyWithin own most name body
    → length (body_bytes body) ≤ 156400
body-is-short own most (Proc pid) body few h =
    let short = process-is-short own most pid body few h in omega (arith, short)
body-is-short own most (Msg id) (AQueue q) few h = queue-is-short q h
body-is-short own most (Msg id) Removed few h = removed-is-short
body-is-short own most (Msg id) (Living row) few h = absurd h
body-is-short own most (Msg id) (Ended e) few h = absurd h
body-is-short own most (Msg id) Gone few h = absurd h
body-is-short own most (Msg id) (ASet s) few h = absurd h
body-is-short own most (Sem id) (ASet s) few h = set-is-short s h
body-is-short own most (Sem id) Removed few h = removed-is-short
body-is-short own most (Sem id) (Living row) few h = absurd h
body-is-short own most (Sem id) (Ended e) few h = absurd h
body-is-short own most (Sem id) Gone few h = absurd h
body-is-short own most (Sem id) (AQueue q) few h = absurd h

-- ---- frames of one deed

numbers-same : (name : Name) → name_number name ≡ number_of name
numbers-same (Proc n) = refl
numbers-same (Msg n) = refl
numbers-same (Sem n) = refl

-- a name with a number that is at least 1
pub name-is-nonzero : (name : Name) → 1 ≤ number_of name → is_nonzero (name_number name) ≡ true
name-is-nonzero name low = some-nonzero (name_number name) (subst (λ (n : ℕ). 1 ≤ n) (sym (numbers-same name)) low)

-- and the other way round
pub nonzero-is-some : (name : Name) → is_nonzero (name_number name) ≡ true → 1 ≤ number_of name
nonzero-is-some name h =
    let less = ltb-true 0 (name_number name) h
    in let same = numbers-same name
    in omega (arith, less, same)

-- A deed that is held has a spelling,
pub deed-is-within : (own most : ℕ) (name : Name) (body : Body) → most ≤ 20000 → IsDeedWithin own most name body
    → is_deed (pack name body) ≡ true
deed-is-within own most name body few h =
    let short = body-is-short own most name body few h.1
    in and_from (is_nonzero (name_number name)) _ (name-is-nonzero name h.0)
    (lt-ltb (length (body_bytes body)) (2 ^ 32) (omega (arith, short)))

-- goes back within the limits,
pub give-back-is-frame : (own most : ℕ) (name : Name) (body : Body) → most ≤ 20000 → IsDeedWithin own most name body
    → is_frame (frames.GiveBack (pack name body)) ≡ true
give-back-is-frame own most name body few h =
    let short = body-is-short own most name body few h.1
    in fields-are-frame (frames.GiveBack (pack name body)) (deed-is-within own most name body few h)
    (omega (arith, short))

-- and is granted within them.
pub grant-is-frame : (own most : ℕ) (name : Name) (body : Body) → most ≤ 20000 → IsDeedWithin own most name body
    → is_frame (frames.Grant (pack name body)) ≡ true
grant-is-frame own most name body few h =
    let short = body-is-short own most name body few h.1
    in fields-are-frame (frames.Grant (pack name body)) (deed-is-within own most name body few h)
    (omega (arith, short))

-- ---- a Checkpoint

child-is-short : (row : Row) → length (body_bytes (child_body row)) ≤ 58
unfolding body_bytes
child-is-short row = let short = row-is-short 0 (child_row row) (no-family-within 0) in omega (arith, short)

-- A Checkpoint of a new process is within the limits.
pub checkpoint-is-frame : (child pid : ℕ) (row : Row) (vars : Vars) → 1 ≤ child → AreVariables vars
    → is_frame (frames.Checkpoint child pid (pack (Proc child) (child_body row)) vars) ≡ true
checkpoint-is-frame child pid row vars low fine =
    let short = child-is-short row
    in let few = vars-are-few vars fine
    in let each = fields-length value_field 6 vars (λ _. refl)
    in let whole = length-append (body_bytes (child_body row)) (vars_field vars)
    in fields-are-frame (frames.Checkpoint child pid (pack (Proc child) (child_body row)) vars)
    (and_from (is_deed (pack (Proc child) (child_body row))) (are_vars vars)
    (and_from (is_nonzero child) _ (some-nonzero child low)
    (lt-ltb (length (body_bytes (child_body row))) (2 ^ 32) (omega (arith, short)))) (vars-are-within vars fine))
    (omega (arith, short, few, each, whole))

-- ---- what a process hands over

abbrev AreDeeds : ℕ → ℕ → Numbered Body → Type 0
AreDeeds own most bodies = AllByRecursion (λ (e : ℕ × Body). IsDeedWithin own most (Proc e.0) e.1) bodies

each-is-deed : (own most : ℕ) (bodies : Numbered Body) → most ≤ 20000 → AreDeeds own most bodies
    → list_all is_deed (pack_all Proc bodies) ≡ true
each-is-deed own most [] few all = refl
each-is-deed own most (e ∷ bodies) few all =
    and_from (is_deed (pack (Proc e.0) e.1)) (list_all is_deed (pack_all Proc bodies))
    (deed-is-within own most (Proc e.0) e.1 few all.0) (each-is-deed own most bodies few all.1)

packed-rise : (low : ℕ) (bodies : Numbered Body) → IsRising bodies → AreFrom low bodies
    → rise_from low (map (λ deed. process_of deed.name) (pack_all Proc bodies)) ≡ true
packed-rise low [] r all = refl
packed-rise low (e ∷ bodies) r all =
    and_from (nat_le low e.0) _ (le-leb low e.0 all.0)
    (packed-rise (e.0 + 1) bodies (rising-rest e bodies r) (above-from e.0 bodies (above-first e bodies r)))

from-one : (own most : ℕ) (bodies : Numbered Body) → AreDeeds own most bodies → AreFrom 1 bodies
from-one own most [] all = tt
from-one own most (e ∷ bodies) all = ((all.0).0, from-one own most bodies all.1)

others-are-short : (own most : ℕ) (bodies : Numbered Body) → AreDeeds own most bodies → Above own bodies
    → length (flat_map deed_field (pack_all Proc bodies)) ≤ 12 * length bodies
others-are-short own most [] all above = omega arith
others-are-short own most (e ∷ bodies) all above =
    let whole = length-append (body_bytes e.1) (flat_map deed_field (pack_all Proc bodies))
    in let rest = others-are-short own most bodies all.1 above.1
    in let first = above.0
    in elim (other-is-short own most e.0 e.1 (all.0).1) [
      | inl same ↦ absurd (omega (arith, first, same))
      | inr short ↦ omega (arith, whole, rest, short)
    ]

packed-are-short : (own most : ℕ) (bodies : Numbered Body) → most ≤ 20000 → IsRising bodies
    → AreDeeds own most bodies
    → length (flat_map deed_field (pack_all Proc bodies)) ≤ 12 * length bodies + 120058
packed-are-short own most [] few r all = omega arith
packed-are-short own most (e ∷ bodies) few r all =
    let whole = length-append (body_bytes e.1) (flat_map deed_field (pack_all Proc bodies))
    in elim (other-is-short own most e.0 e.1 (all.0).1) [
      | inl same ↦
          let rest =
          others-are-short own most bodies all.1
          (subst (λ (n : ℕ). Above n bodies) same (above-first e bodies r))
          in let short = process-is-short own most e.0 e.1 few (all.0).1
          in omega (arith, whole, rest, short)
      | inr short ↦
          let rest = packed-are-short own most bodies few (rising-rest e bodies r) all.1
          in omega (arith, whole, rest, short)
    ]

last-is-within : (call : Call) → is_end call ≡ true → (is_last_call call ≡ true) × (length (call_bytes call) ≤ 3)
last-is-within (calls.Exit status) h = (refl, omega arith)
last-is-within (calls.Killed sig) h = (refl, omega arith)
last-is-within call h = absurd (false≢true h)

-- A Left of at most 255 deeds is within the limits.
pub left-is-frame : (own most pid parent : ℕ) (deeds : Deeds) (call : Call) → most ≤ 20000
    → AreDeedsWithin own most deeds → is_end call ≡ true → nat_lt (length deeds.processes) 256 ≡ true
    → is_frame (frames.Left (parcel_of deeds pid parent call)) ≡ true
left-is-frame own most pid parent deeds call few h ends count =
    let bodies : Numbered Body = deeds.processes
    in let last = last-is-within call ends
    in let last_short = last.1
    in let less = ltb-true (length bodies) 256 count
    in let packed = length-map bodies (λ (e : ℕ × Body). pack (Proc e.0) e.1)
    in let short = packed-are-short own most bodies few h.rising h.each.processes
    in let whole = length-append (call_bytes call) (deeds_field (pack_all Proc bodies))
    in fields-are-frame (frames.Left (parcel_of deeds pid parent call))
    (and_from (is_last_call call) _ last.0
    (and_from _ _ (lt-ltb (length (pack_all Proc bodies)) 256 (omega (arith, packed, less)))
    (and_from _ (are_processes (pack_all Proc bodies)) (each-is-deed own most bodies few h.each.processes)
    (packed-rise 1 bodies h.rising (from-one own most bodies h.each.processes)))))
    (omega (arith, last_short, less, packed, short, whole))
