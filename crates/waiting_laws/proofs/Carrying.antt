-- What a call on a queue or a set does to those who wait there.
use Rattle.std.proofs.Common.{◌≡◌, ◌∙◌, ℕ, zero, suc, ◌+◌, Bool, cond, List, [], ◌∷◌, ◌++◌, map, length, Option, Some, None, refl, ap, sym, subst}
use Rattle.std.specs.Prelude.{fold, slice_get}
use Rattle.std.specs.List.{AllByRecursion}
use Rattle.std.specs.Option.{option_map}
use Rattle.pico_base.specs.declared.call.Call.{Call}
use Rattle.pico_base.specs.declared.call.Call.TheVariants as calls
use Rattle.pico_base.specs.declared.call.SemStep.{SemStep}
use Rattle.kernel_model.specs.SemaphoreSet.{SemaphoreSet, read_semaphore}
use Rattle.waiting_model.specs.declared.callers.Waiting.{Waiting}
use Rattle.waiting_model.specs.Waiters.{Attempt, Awaited, Carried, IsSettled, Ready, Settled, Try, at_rest, awaited, carry_out, carry_out_by, first_ready, parked_behind, ready_behind, ready_or, replied, settle, settle_by, settle_on, wake, woken_first, erased, erased_waiter, erased_wake}
use Rattle.waiting_model.specs.Queue.{carry_out_on_queue, try_queue}
use Rattle.waiting_model.specs.SemaphoreSet.{carry_out_on_set, carry_out_on_set_by, count_reply, counted, is_negative_on, is_zero_on, steps_of, stop_of, try_set}
use Rattle.waiting_laws.specs.Carried.{SameErased, NodesDontMatter, ParkingAddsOne, LooksWakeNobody}
use Rattle.waiting_laws.proofs.Options.{not-none}

-- Nodes and tickets.

length-erased : (ws : List Waiting) → length (map erased_waiter ws) ≡ length ws
length-erased [] = refl
length-erased (w ∷ ws) = ap suc (length-erased ws)

erased-behind : (ws : List Waiting) (who : Waiting)
    → map erased_waiter (ws ++ who ∷ []) ≡ map erased_waiter ws ++ erased_waiter who ∷ []
erased-behind [] who = refl
erased-behind (w ∷ ws) who = ap (λ (vs : List Waiting). erased_waiter w ∷ vs) (erased-behind ws who)

module _ {T : Type 0} where
  abbrev erased_ready : Ready T → Ready T
  erased_ready r =
      record { waiter = erased_waiter r.waiter; attempt = r.attempt; others = map erased_waiter r.others }

  abbrev erased_settled : Settled T → Settled T
  erased_settled s = record { object = erased s.object; wakes = map erased_wake s.wakes }

  abbrev erased_carried : Carried T → Carried T
  erased_carried c = record { object = erased c.object; own = c.own; wakes = map erased_wake c.wakes }

  behind-erased : (w : Waiting) (o : Option (Ready T))
      → option_map (ready_behind (erased_waiter w)) (option_map erased_ready o)
      ≡ option_map erased_ready (option_map (ready_behind w) o)
  behind-erased w None = refl
  behind-erased w (Some r) = refl

  or-erased : (w : Waiting) (ws : List Waiting) (o : Option (Attempt T)) (later after : Option (Ready T))
      → after ≡ option_map erased_ready later
      → ready_or (erased_waiter w) (map erased_waiter ws) o after ≡ option_map erased_ready (ready_or w ws o later)
  or-erased w ws (Some a) later after h = refl
  or-erased w ws None later after h = ap (option_map (ready_behind (erased_waiter w))) h ∙ behind-erased w later

  first-erased : (try : Try T) (state : T) (ws : List Waiting)
      → first_ready try state (map erased_waiter ws) ≡ option_map erased_ready (first_ready try state ws)
  first-erased try state [] = refl
  first-erased try state (w ∷ ws) =
      or-erased w ws (try state w.pid w.call) (first_ready try state ws)
      (first_ready try state (map erased_waiter ws)) (first-erased try state ws)

  on-erased : (n : ℕ) (try : Try T) (o : Awaited T) (r : Option (Ready T))
      → ((rest : Awaited T) → settle_by n try (erased rest) ≡ erased_settled (settle_by n try rest))
      → settle_on (erased o) (option_map erased_ready r) (settle_by n try)
      ≡ erased_settled (settle_on o r (settle_by n try))
  on-erased n try o None rec = refl
  on-erased n try o (Some r) rec =
      ap (λ (s : Settled T). woken_first (wake (erased_waiter r.waiter) r.attempt.reply) s)
      (rec (awaited r.attempt.state r.others))

  by-erased : (n : ℕ) (try : Try T) (o : Awaited T)
      → settle_by n try (erased o) ≡ erased_settled (settle_by n try o)
  by-erased zero try o = refl
  by-erased (suc n) try o =
      ap (λ (r : Option (Ready T)). settle_on (erased o) r (settle_by n try)) (first-erased try o.state o.waiters)
      ∙ on-erased n try o (first_ready try o.state o.waiters) (λ rest. by-erased n try rest)

  settle-erased : (try : Try T) (o : Awaited T) → settle try (erased o) ≡ erased_settled (settle try o)
  settle-erased try o =
      ap (λ (n : ℕ). settle_by n try (erased o)) (length-erased o.waiters) ∙ by-erased (length o.waiters) try o

  carried-erased : (try : Try T) (o : Awaited T) (who : Waiting) (x : Option (Attempt T))
      → carry_out_by try (erased o) (erased_waiter who) x ≡ erased_carried (carry_out_by try o who x)
  carried-erased try o who None =
      ap
      (λ (ws : List Waiting).
      (let c : Carried T = record { object = awaited o.state ws; own = None; wakes = [] } in c))
      (sym (erased-behind o.waiters who))
  carried-erased try o who (Some a) =
      ap (λ (s : Settled T). replied a.reply s) (settle-erased try (awaited a.state o.waiters))

  same-erased : (c d : Carried T) → d ≡ erased_carried c → SameErased c d
  same-erased c d h =
      subst (λ (e : Carried T). SameErased c e) (sym h) (record { object = refl; own = refl; wakes = refl })

-- who waits is counted by calls alone
counts-erased : (f : Waiting → ℕ) → ((w : Waiting) → f (erased_waiter w) ≡ f w) → (ws : List Waiting) (n : ℕ)
    → fold (λ a w. a + f w) n (map erased_waiter ws) ≡ fold (λ a w. a + f w) n ws
counts-erased f same [] n = refl
counts-erased f same (w ∷ ws) n =
    counts-erased f same ws (n + f (erased_waiter w))
    ∙ ap (λ (m : ℕ). fold (λ a v. a + f v) (n + m) ws) (same w)

counted-erased : (test : Option SemStep → Bool) (s : Awaited SemaphoreSet) (num : ℕ)
    → counted test (erased s) num ≡ erased_carried (counted test s num)
counted-erased test s num =
    ap
    (λ (n : ℕ).
    (let c : Carried SemaphoreSet =
    record {
      object = erased s;
      own = Some (count_reply (read_semaphore (slice_get s.state.semaphores num) (λ _. n)));
      wakes = [];
    }
    in c))
    (counts-erased (λ w. cond (test (stop_of s.state (steps_of w.call))) 1 0) (λ w. refl) s.waiters 0)

set-erased : (s : Awaited SemaphoreSet) (who : Waiting) (call : Call) → who.call ≡ call
    → carry_out_on_set_by (erased s) (erased_waiter who) call ≡ erased_carried (carry_out_on_set_by s who call)
set-erased s who (calls.SemGetNcnt id num) h = counted-erased (is_negative_on num) s num
set-erased s who (calls.SemGetZcnt id num) h = counted-erased (is_zero_on num) s num
set-erased s who call h = carried-erased try_set s who (try_set s.state who.pid who.call)

-- a queue's calls, and a set's
pub nodes-dont-matter : NodesDontMatter
nodes-dont-matter = (
  λ q who.
      same-erased (carry_out_on_queue q who) (carry_out_on_queue (erased q) (erased_waiter who))
      (carried-erased try_queue q who (try_queue q.state who.pid who.call)),
  λ s who.
      same-erased (carry_out_on_set s who) (carry_out_on_set (erased s) (erased_waiter who))
      (set-erased s who who.call refl),
)

-- Parking.

-- a call without a reply
pub parks-by : {T : Type 0} (try : Try T) (o : Awaited T) (who : Waiting) (x : Option (Attempt T))
    → (let c : Carried T = carry_out_by try o who x in c.own ≡ None) → carry_out_by try o who x ≡ parked_behind o who
parks-by try o who None h = refl
parks-by try o who (Some a) h = not-none a.reply h

set-parks : (s : Awaited SemaphoreSet) (who : Waiting) (call : Call)
    → (let c : Carried SemaphoreSet = carry_out_on_set_by s who call in c.own ≡ None)
    → carry_out_on_set_by s who call ≡ parked_behind s who
set-parks s who (calls.SemGetNcnt id num) h = not-none _ h
set-parks s who (calls.SemGetZcnt id num) h = not-none _ h
set-parks s who call h = parks-by try_set s who (try_set s.state who.pid who.call) h

-- at a queue, and at a set
pub parking-adds-one : ParkingAddsOne
parking-adds-one = (
  λ q who h. parks-by try_queue q who (try_queue q.state who.pid who.call) h,
  λ s who h. set-parks s who who.call h,
)

-- Looks.

nobody-ready : {T : Type 0} (try : Try T) (state : T) (ws : List Waiting)
    → AllByRecursion (λ w. try state w.pid w.call ≡ None) ws → first_ready try state ws ≡ None
nobody-ready try state [] h = refl
nobody-ready try state (w ∷ ws) h =
    ap (λ o. ready_or w ws o (first_ready try state ws)) h.0
    ∙ ap (option_map (ready_behind w)) (nobody-ready try state ws h.1)

rests-by : {T : Type 0} (n : ℕ) (try : Try T) (o : Awaited T) → IsSettled try o → settle_by n try o ≡ at_rest o
rests-by zero try o h = refl
rests-by (suc n) try o h =
    ap (λ r. settle_on o r (settle_by n try)) (nobody-ready try o.state o.waiters h)

looks-by : {T : Type 0} (try : Try T) (o : Awaited T) (who : Waiting) (a : Attempt T) → IsSettled try o
    → try o.state who.pid who.call ≡ Some a → a.state ≡ o.state → carry_out try o who ≡ replied a.reply (at_rest o)
looks-by {T} try o who a settled is same =
    ap (carry_out_by try o who) is
    ∙ (ap (λ (state : T). replied a.reply (settle try (awaited state o.waiters))) same
    ∙ ap (λ (s : Settled T). replied a.reply s) (rests-by (length o.waiters) try o settled))

set-looks : (s : Awaited SemaphoreSet) (who : Waiting) (call : Call) (a : Attempt SemaphoreSet) → IsSettled try_set s
    → try_set s.state who.pid who.call ≡ Some a → a.state ≡ s.state
    → (let c : Carried SemaphoreSet = carry_out_on_set_by s who call in c.wakes ≡ [])
set-looks s who (calls.SemGetNcnt id num) a settled is same = refl
set-looks s who (calls.SemGetZcnt id num) a settled is same = refl
set-looks s who call a settled is same =
    ap (λ (c : Carried SemaphoreSet). c.wakes) (looks-by try_set s who a settled is same)

-- at a queue, and at a set
pub looks-wake-nobody : LooksWakeNobody
looks-wake-nobody = (
  λ q who a settled is same. looks-by try_queue q who a settled is same,
  λ s who a settled is same. set-looks s who who.call a settled is same,
)
