-- Bodies that are read are those that were written, and what was written is read again.
use Rattle.std.proofs.Common.{◌≡◌, ℕ, zero, suc, ◌<◌, ◌≤◌, ◌^◌, Bool, true, false, not, eqb, nat_eq, nat_le, List, [], ◌∷◌, ◌++◌, length, Option, Some, None, is_some, refl, sym, ap, subst, ◌∙◌, append_assoc, arith}
use Rattle.std.specs.List.{list_all, list_any, AllByRecursion}
use Rattle.std.specs.Int.{w16, to_be_bytes}
use Rattle.std.proofs.lemmas.Bool.{eqb-true, leb-true, and_parts, and_from, false≢true, or_parts}
use Rattle.std.proofs.lemmas.Bool.Decides.{nat_tests}
use Rattle.std.proofs.lemmas.List.{append-nil}
use Rattle.pico_base.specs.declared.call.Call.{Call}
use Rattle.pico_base.specs.declared.call.Call.TheVariants as calls
use Rattle.body_fields.specs.Fields.{byte_upto, number_upto, whole}
use Rattle.body_fields.proofs.Fields.{IsBytes, IsBytes-rest, guard_then, some_is, refused, Takes-all, wide16, whole_is, number_upto_takes, number_upto_again, byte_upto_takes, byte_upto_again}
use Rattle.frame_bytes.specs.Frames.{asked_at, asked_field}
use Rattle.frame_bytes.specs.Limits.{is_call, is_nonzero}
use Rattle.pico_base.specs.declared.fault.UnpackFault.{UnpackFault}
use Rattle.pico_base.specs.declared.fault.UnpackFault.TheVariants.{Memory, NotABody}
use Rattle.frame_bytes.specs.Readers.{Fails, byte_at, passing, counted, one, two}
use Rattle.frame_bytes.proofs.Inverse.{Inverse, Field, Counted, Passes, byte-inverse, passing-inverse, counted-inverse, one-takes, two-takes, one-again, two-again}
use Rattle.frame_bytes.proofs.FieldLaws.{word-field, whole-inverse}
use Rattle.frame_bytes.proofs.FrameLaws.{IsAsked, asked-inverse}
use Rattle.rpc_frame.specs.declared.asked.Asked.{Asked}
use Rattle.kernel_model.specs.SemaphoreSet.{Semaphore, SemaphoreSet, set_of, max_operations, max_semaphores, max_value}
use Rattle.waiting_model.specs.declared.callers.Waiting.{Waiting}
use Rattle.waiting_model.specs.Waiters.{Awaited, awaited}
use Rattle.waiting_model.specs.SemaphoreSet.{try_set}
use Rattle.index_links.specs.Nodes.{Node}
use Rattle.sysv_sem.specs.Waiters.{held, max_waiters, waiters_in, try_steps, IsShortOp, IsSetWaiter, LackProcess, HaveOwnProcesses}
use Rattle.sysv_sem.specs.Body.{set_code, semaphore_field, row_field, asked_of, waiter_field, waiters_field, body, HasProcess, HasWaiterRanges, IsBodyOf}
use Rattle.sysv_sem.specs.Reading.{semaphore_at, is_good_count, row_at, waiting_of, is_short_op, waiter_at, have_own, waiters_at, waits, is_settled, fields_at, set_at}
use Rattle.sysv_sem.proofs.Calls.{asked_of_settled}

-- ---- semaphores

abbrev IsField : Semaphore → Type 0
IsField s = (s.value ≤ max_value) × HasProcess s

abbrev value-field : Field ℕ
value-field =
    record {
      Fits = λ n. n ≤ max_value;
      spell = λ n. to_be_bytes w16 n;
      read = number_upto w16 max_value;
      inverse = record {
        takes = λ bytes x fits e. number_upto_takes w16 (2 ^ 16) wide16 max_value bytes x fits e;
        again = λ n rest le. number_upto_again w16 (2 ^ 16) wide16 max_value n rest (omega (arith, le)) le;
      };
    }

abbrev semaphore-of : ℕ → ℕ → Semaphore
semaphore-of value last = record { value = value; last = last }

semaphore-inverse : Inverse Semaphore IsField semaphore_field semaphore_at
unfolding semaphore_at
semaphore-inverse =
    whole-inverse Semaphore IsField semaphore_field semaphore_at
    (two-takes Semaphore IsField semaphore_field ℕ ℕ value-field word-field semaphore-of [] (λ a b. refl)
    (λ a b p q. (p, q)))
    (λ s rest f. two-again ℕ ℕ Semaphore value-field word-field semaphore-of s.value s.last rest f.0 f.1)

abbrev IsCount : ℕ → Type 0
IsCount n = Passes ℕ (λ n. n < 256) is_good_count n

abbrev IsRow : List Semaphore → Type 0
IsRow row = Counted Semaphore IsCount IsField row

row-inverse : Inverse (List Semaphore) IsRow row_field row_at
unfolding row_at
row-inverse =
    counted-inverse Semaphore IsCount (λ n. n ∷ []) (passing is_good_count byte_at) IsField semaphore_field semaphore_at
    (passing-inverse ℕ (λ n. n < 256) (λ n. n ∷ []) byte_at is_good_count byte-inverse) semaphore-inverse

-- ---- those who wait

abbrev asked-field : Field Asked
asked-field = record { Fits = IsAsked; spell = asked_field; read = asked_at; inverse = asked-inverse }

abbrev IsAsking : Waiting → Type 0
IsAsking w = IsAsked (asked_of w)

abbrev has_short_op : Waiting → Bool
has_short_op w = is_short_op w.call

abbrev IsWaiter : Waiting → Type 0
IsWaiter w = Passes Waiting IsAsking has_short_op w

waiting-inverse : Inverse Waiting IsAsking waiter_field (one asked_at waiting_of)
waiting-inverse =
    whole-inverse Waiting IsAsking waiter_field (one asked_at waiting_of)
    (one-takes Waiting IsAsking waiter_field Asked asked-field waiting_of [] (λ a. refl) (λ a p. p))
    (λ w rest f. one-again Asked Waiting asked-field waiting_of (asked_of w) rest f)

waiter-inverse : Inverse Waiting IsWaiter waiter_field waiter_at
unfolding waiter_at
waiter-inverse =
    passing-inverse Waiting IsAsking waiter_field (one asked_at waiting_of) has_short_op waiting-inverse

few-inverse : Inverse ℕ (λ n. n ≤ max_waiters) (λ n. n ∷ []) (byte_upto max_waiters)
few-inverse =
    record {
      takes = λ bytes x fits e. byte_upto_takes max_waiters bytes x fits e;
      again = λ n rest le. byte_upto_again max_waiters n rest le;
    }

abbrev AreMany : List Waiting → Type 0
AreMany ws = Counted Waiting (λ n. n ≤ max_waiters) IsWaiter ws

abbrev AreWaiters : List Waiting → Type 0
AreWaiters ws = Passes (List Waiting) AreMany have_own ws

waiters-inverse : Inverse (List Waiting) AreWaiters waiters_field waiters_at
unfolding waiters_at
waiters-inverse =
    passing-inverse (List Waiting) AreMany waiters_field (counted (byte_upto max_waiters) waiter_at) have_own
    (counted-inverse Waiting (λ n. n ≤ max_waiters) (λ n. n ∷ []) (byte_upto max_waiters) IsWaiter waiter_field
    waiter_at few-inverse waiter-inverse)

-- ---- a set

abbrev row-field : Field (List Semaphore)
row-field = record { Fits = IsRow; spell = row_field; read = row_at; inverse = row-inverse }

abbrev waiters-field : Field (List Waiting)
waiters-field = record { Fits = AreWaiters; spell = waiters_field; read = waiters_at; inverse = waiters-inverse }

abbrev set-from : List Semaphore → List Waiting → Awaited SemaphoreSet
set-from row ws = awaited (set_of row) ws

abbrev fields_of : Awaited SemaphoreSet → List ℕ
fields_of set = row_field set.state.semaphores ++ waiters_field set.waiters

abbrev HasParts : Awaited SemaphoreSet → Type 0
HasParts set = IsRow set.state.semaphores × AreWaiters set.waiters

parts-inverse : Inverse (Awaited SemaphoreSet) HasParts fields_of (two row_at waiters_at set-from)
parts-inverse =
    whole-inverse (Awaited SemaphoreSet) HasParts fields_of (two row_at waiters_at set-from)
    (two-takes (Awaited SemaphoreSet) HasParts fields_of (List Semaphore) (List Waiting) row-field waiters-field
    set-from [] (λ a b. refl) (λ a b p q. (p, q)))
    (λ set rest f. ap (two row_at waiters_at set-from)
    (append_assoc (row_field set.state.semaphores) (waiters_field set.waiters) rest)
    ∙ two-again (List Semaphore) (List Waiting) (Awaited SemaphoreSet) row-field waiters-field set-from
    set.state.semaphores set.waiters rest f.0 f.1)

abbrev IsRead : Awaited SemaphoreSet → Type 0
IsRead set = Passes (Awaited SemaphoreSet) HasParts is_settled set

fields-inverse : Inverse (Awaited SemaphoreSet) IsRead fields_of fields_at
unfolding fields_at
fields-inverse =
    passing-inverse (Awaited SemaphoreSet) HasParts fields_of (two row_at waiters_at set-from) is_settled parts-inverse

-- ---- what is read is at rest, and what is at rest can be read

good_count : (n : ℕ) → is_good_count n ≡ true → (1 ≤ n) × (n ≤ max_semaphores)
good_count zero e = absurd (cc)
good_count (suc n) e = (omega arith, by_test (nat_le (suc n) max_semaphores) refl)
  where
    by_test : (b : Bool) → nat_le (suc n) max_semaphores ≡ b → suc n ≤ max_semaphores
    by_test true is = leb-true (suc n) max_semaphores is
    by_test false is = absurd (grind (arith, nat_tests))

is_count : (n : ℕ) → 1 ≤ n → n ≤ max_semaphores → is_good_count n ≡ true
is_count n some few = grind (arith, nat_tests)

each_value : (row : List Semaphore) → AllByRecursion IsField row → AllByRecursion (λ s. s.value ≤ max_value) row
each_value [] h = tt
each_value (s ∷ row) h = (h.0.0, each_value row h.1)

each_process : (row : List Semaphore) → AllByRecursion IsField row → AllByRecursion HasProcess row
each_process [] h = tt
each_process (s ∷ row) h = (h.0.1, each_process row h.1)

each_field : (row : List Semaphore) → AllByRecursion (λ s. s.value ≤ max_value) row → AllByRecursion HasProcess row
    → AllByRecursion IsField row
each_field [] h g = tt
each_field (s ∷ row) h g = ((h.0, g.0), each_field row h.1 g.1)

short_is : (call : Call) → is_short_op call ≡ true → IsShortOp call
short_is (calls.SemOp id steps) e = leb-true (length steps) max_operations e
short_is call e = absurd (false≢true e)

is_short : (call : Call) → IsShortOp call → is_short_op call ≡ true
is_short (calls.SemOp id steps) h = grind (arith, nat_tests)
is_short call h = absurd h

positive_is : (n : ℕ) → is_nonzero n ≡ true → 1 ≤ n
positive_is n e = grind (arith, nat_tests)

is_positive : (n : ℕ) → 1 ≤ n → is_nonzero n ≡ true
is_positive n h = grind (arith, nat_tests)

each_waiter : (ws : List Waiting) → AllByRecursion IsWaiter ws → AllByRecursion IsSetWaiter ws
each_waiter [] h = tt
each_waiter (w ∷ ws) h =
    let first = h.0 in
    let both = and_parts (is_nonzero w.ticket) (is_call w.call) first.fits.1 in
    (record { ticket = positive_is w.ticket both.0; call = short_is w.call first.passes }, each_waiter ws h.1)

each_range : (ws : List Waiting) → AllByRecursion IsWaiter ws → AllByRecursion HasWaiterRanges ws
each_range [] h = tt
each_range (w ∷ ws) h = let first = h.0 in (first.fits.0, each_range ws h.1)

not_true : (b : Bool) → not b ≡ true → b ≡ false
not_true false e = refl
not_true true e = absurd (false≢true e)

lack_is : (pid : ℕ) (ws : List Waiting) → list_any (λ v. nat_eq pid v.pid) ws ≡ false → LackProcess pid ws
lack_is pid [] e = tt
lack_is pid (w ∷ ws) e =
    let both = or_parts (nat_eq pid w.pid) (list_any (λ v. nat_eq pid v.pid) ws) e in
    (both.0, lack_is pid ws both.1)

is_lacking : (pid : ℕ) (ws : List Waiting) → LackProcess pid ws → list_any (λ v. nat_eq pid v.pid) ws ≡ false
is_lacking pid [] h = refl
is_lacking pid (w ∷ ws) h = rw h.0 (is_lacking pid ws h.1)

own_is : (ws : List Waiting) → have_own ws ≡ true → HaveOwnProcesses ws
own_is [] e = tt
own_is (w ∷ ws) e =
    let both = and_parts (not (list_any (λ v. nat_eq w.pid v.pid) ws)) (have_own ws) e in
    (lack_is w.pid ws (not_true (list_any (λ v. nat_eq w.pid v.pid) ws) both.0), own_is ws both.1)

is_own : (ws : List Waiting) → HaveOwnProcesses ws → have_own ws ≡ true
is_own [] h = refl
is_own (w ∷ ws) h = rw (is_lacking w.pid ws h.0) (is_own ws h.1)

none_is : {X : Type 0} (o : Option X) → not (is_some o) ≡ true → o ≡ None
none_is None e = refl
none_is (Some x) e = absurd (false≢true e)

by_steps : (set : SemaphoreSet) (pid : ℕ) (call : Call) → IsShortOp call → try_steps set pid call ≡ try_set set pid call
by_steps set pid (calls.SemOp id steps) h = refl
by_steps set pid call h = absurd h

settled_is : (set : SemaphoreSet) (ws : List Waiting) → AllByRecursion IsSetWaiter ws
    → list_all (waits set) ws ≡ true → AllByRecursion (λ w. try_set set w.pid w.call ≡ None) ws
settled_is set [] h e = tt
settled_is set (w ∷ ws) h e =
    let first = h.0 in
    let both = and_parts (waits set w) (list_all (waits set) ws) e in (
      sym (by_steps set w.pid w.call first.call) ∙ none_is (try_steps set w.pid w.call) both.0,
      settled_is set ws h.1 both.1,
    )

is_settled_all : (set : SemaphoreSet) (ws : List Waiting) → AllByRecursion IsSetWaiter ws
    → AllByRecursion (λ w. try_set set w.pid w.call ≡ None) ws → list_all (waits set) ws ≡ true
is_settled_all set [] h g = refl
is_settled_all set (w ∷ ws) h g =
    let first = h.0 in
    let none : try_steps set w.pid w.call ≡ None = by_steps set w.pid w.call first.call ∙ g.0 in
    rw none (is_settled_all set ws h.1 g.1)

each_asked : (set : SemaphoreSet) (ws : List Waiting) → AllByRecursion IsSetWaiter ws
    → AllByRecursion (λ w. try_set set w.pid w.call ≡ None) ws → AllByRecursion HasWaiterRanges ws
    → AllByRecursion IsWaiter ws
each_asked set [] h g r = tt
each_asked set (w ∷ ws) h g r =
    let first = h.0 in (
      record {
        fits = (
          r.0,
          and_from (is_nonzero w.ticket) (is_call w.call) (is_positive w.ticket first.ticket)
              (asked_of_settled set w.pid w.call first.call g.0),
        );
        passes = is_short w.call first.call;
      },
      each_asked set ws h.1 g.1 r.1,
    )

is_read_of : (set : Awaited SemaphoreSet) (bytes : List ℕ) → IsBodyOf set bytes → IsRead set
is_read_of set bytes h =
    let rest = h.rest in
    let limits = rest.limits in
    let count = limits.count in
    record {
      fits = (
        record {
          count = record {
            fits = omega (arith, count);
            passes = is_count (length set.state.semaphores) limits.some limits.count;
          };
          each = each_field set.state.semaphores limits.each h.processes;
        },
        record {
          fits = record {
            count = rest.waiters.few;
            each = each_asked set.state set.waiters rest.waiters.each rest.settled h.ranges;
          };
          passes = is_own set.waiters rest.waiters.apart;
        },
      );
      passes = is_settled_all set.state set.waiters rest.waiters.each rest.settled;
    }

body_of : (set : Awaited SemaphoreSet) (bytes : List ℕ) → IsRead set → bytes ≡ body set → IsBodyOf set bytes
body_of set bytes r spelled =
    let row = r.fits.0 in
    let ws = r.fits.1 in
    let counts = good_count (length set.state.semaphores) row.count.passes in
    let each = each_waiter set.waiters ws.fits.each in
    record {
      rest = record {
        limits = record {
          some = counts.0;
          count = counts.1;
          each = each_value set.state.semaphores row.each;
        };
        waiters = record { few = ws.fits.count; each = each; apart = own_is set.waiters ws.passes };
        settled = settled_is set.state set.waiters each r.passes;
      };
      processes = each_process set.state.semaphores row.each;
      ranges = each_range set.waiters ws.fits.each;
      spelled = spelled;
    }

-- ---- all of the bytes

-- bytes that are read as a set are its body
pub set_takes : (bytes : List ℕ) (set : Awaited SemaphoreSet) → IsBytes bytes → set_at bytes ≡ Some set
    → IsBodyOf set bytes
unfolding set_at
set_takes [] set fits e = absurd (cc)
set_takes (code ∷ bytes) set fits e =
    let g = guard_then (eqb code set_code) (whole (fields_at bytes)) set e in
    let is : code ≡ set_code = eqb-true code set_code g.0 in
    let read = whole_is (fields_at bytes) set g.1 in
    let t = fields-inverse.takes bytes (set, []) (IsBytes-rest code bytes fits) read in
    let all : bytes ≡ fields_of set = Takes-all bytes (fields_of set) t.0 in
    body_of set (code ∷ bytes) t.1
    (ap (λ (c : ℕ). c ∷ bytes) is ∙ ap (λ (r : List ℕ). set_code ∷ r) all)

-- and a set's body is read as that set
pub set_again : (bytes : List ℕ) (set : Awaited SemaphoreSet) → IsBodyOf set bytes → set_at bytes ≡ Some set
unfolding set_at
set_again bytes set h =
    let r = is_read_of set bytes h in
    let again : fields_at (fields_of set ++ []) ≡ Some (set, []) = fields-inverse.again set [] r in
    let same : fields_of set ++ [] ≡ fields_of set = append-nil (fields_of set) in
    ap set_at h.spelled ∙ ap whole (ap fields_at (sym same) ∙ again)

-- bytes that are read as none are none's
pub no_set : (bytes : List ℕ) → set_at bytes ≡ None → (set : Awaited SemaphoreSet) → IsBodyOf set bytes → ⊥
no_set bytes none set h = refused (set_at bytes) set none (set_again bytes set h)

-- bytes are the body of one set
pub one_set : (bytes : List ℕ) (a b : Awaited SemaphoreSet) → IsBodyOf a bytes → IsBodyOf b bytes → a ≡ b
one_set bytes a b h g = some_is a b (sym (set_again bytes a h) ∙ set_again bytes b g)

-- ---- what unpacking tells

-- a value that is read as its equal is
pub value_same : (bytes after : List ℕ) (value other last : ℕ) → other ≡ value
    → semaphore_at bytes ≡ Some (record { value = value; last = last }, after)
    → semaphore_at bytes ≡ Some (record { value = other; last = last }, after)
value_same bytes after value other last same read = rw same read

-- the set of what was read, those who wait linked in their order
pub body_found : (bytes : List ℕ) (row : SemaphoreSet) (ws : List Waiting) (nodes : List (Node Waiting))
    → IsBytes bytes → set_at bytes ≡ Some (awaited row ws) → waiters_in nodes ≡ ws → IsBodyOf (held row nodes) bytes
body_found bytes row ws nodes fits read linked =
    subst (λ (vs : List Waiting). IsBodyOf (awaited row vs) bytes) (sym linked)
    (set_takes bytes (awaited row ws) fits read)

-- what is refused as no body is none's
pub body_lacks : (fault : UnpackFault) (bytes : List ℕ) → Fails fault (set_at bytes) → fault ≡ NotABody
    → (set : Awaited SemaphoreSet) → IsBodyOf set bytes → ⊥
body_lacks Memory bytes none is = absurd (cc)
body_lacks NotABody bytes none is = no_set bytes none
