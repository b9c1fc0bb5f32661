-- Marks of processes and those who wait at queues and sets say the same, entry by entry.
use Rattle.std.proofs.Common.{◌≡◌, ◌≢◌, ◌∙◌, ℕ, Bool, true, false, ◌||◌, nat_eq, List, [], ◌∷◌, Option, Some, None, is_some, refl, ap, sym, subst, inl, inr, arith}
use Rattle.std.specs.Prelude.{if◌then◌else◌, fold}
use Rattle.std.proofs.lemmas.Bool.{false≢true, cases_eq, eq-eqb, ne_eqb}
use Rattle.pico_base.specs.declared.call.Call.{Call}
use Rattle.pico_base.specs.declared.numbers.Name.{Name}
use Rattle.pico_base.specs.declared.numbers.Name.TheVariants.{Proc, Msg, Sem}
use Rattle.number_maps.specs.Maps.{Numbered, get}
use Rattle.number_maps.proofs.Order.{same-from-nat_eq}
use Rattle.waiting_model.specs.declared.callers.Waiting.{Waiting}
use Rattle.waiting_model.specs.declared.callers.Wake.{Wake}
use Rattle.waiting_model.specs.Calls.{waits_at, is_same_name}
use Rattle.waiting_model.specs.Marks.{after_reply}
use Rattle.waiting_model.specs.Kernel.{Kernel, Process, change_living, wake_one}
use Rattle.waiting_model.specs.Plain.{AllValues}
use Rattle.waiting_laws.specs.Parked.{wait_of, wait_in, WaitOnce, mark_at, mark_in, MarksAreWaits}
use Rattle.waiting_laws.proofs.Waits.{is_woken, Settles}
use Rattle.waiting_laws.proofs.People.{WaitsAlike, mark-replied}

-- Waits at one name aren't at another.

-- no place is both of these names
abbrev pub AreApart : Name → Name → Type 0
AreApart name other = (place : Name) → is_same_name name place ≡ true → is_same_name other place ≡ false

msg-apart-sem : (id other : ℕ) → AreApart (Msg id) (Sem other)
msg-apart-sem id other (Msg i) h = refl
msg-apart-sem id other (Sem i) h = absurd (false≢true h)
msg-apart-sem id other (Proc i) h = absurd (false≢true h)

sem-apart-msg : (id other : ℕ) → AreApart (Sem id) (Msg other)
sem-apart-msg id other (Sem i) h = refl
sem-apart-msg id other (Msg i) h = absurd (false≢true h)
sem-apart-msg id other (Proc i) h = absurd (false≢true h)

other-fails : (id other i : ℕ) → other ≢ id → nat_eq id i ≡ true → nat_eq other i ≡ false
other-fails id other i ne h = ne_eqb other i (λ same. ne (same ∙ sym (same-from-nat_eq id i h)))

msg-apart : (id other : ℕ) → other ≢ id → AreApart (Msg id) (Msg other)
msg-apart id other ne (Msg i) h = other-fails id other i ne h
msg-apart id other ne (Sem i) h = absurd (false≢true h)
msg-apart id other ne (Proc i) h = absurd (false≢true h)

sem-apart : (id other : ℕ) → other ≢ id → AreApart (Sem id) (Sem other)
sem-apart id other ne (Sem i) h = other-fails id other i ne h
sem-apart id other ne (Msg i) h = absurd (false≢true h)
sem-apart id other ne (Proc i) h = absurd (false≢true h)

-- who is marked at one name isn't at another
mark-apart : (pid : ℕ) (name other : Name) → AreApart name other → (m : Option Call)
    → is_some (mark_at pid name m) ≡ true → mark_at pid other m ≡ None
mark-apart pid name other away None h = refl
mark-apart pid name other away (Some call) h =
    ap (λ (b : Bool). (if b then Some call else None))
    (away (waits_at pid call) (of_mark (is_same_name name (waits_at pid call)) h))
  where
    of_mark : (b : Bool) → is_some (if b then Some call else None) ≡ true → b ≡ true
    of_mark true g = refl
    of_mark false g = absurd (false≢true g)

-- Marks after wakes: who is woken has none any more, and all others have theirs.

-- two numbers, either way round
pub same-either-way : (a b : ℕ) → nat_eq a b ≡ nat_eq b a
same-either-way a b = grind arith

-- two tests, or one
pub two-tests : (x y : Bool) (m : Option Call)
    → (if y then None else (if x then None else m)) ≡ (if x || y then None else m)
two-tests true true m = refl
two-tests true false m = refl
two-tests false true m = refl
two-tests false false m = refl

-- however many are woken
pub marks-woken : (ps : Numbered Process) (wakes : List Wake) (q : ℕ)
    → mark_in (fold wake_one ps wakes) q ≡ (if is_woken q wakes then None else mark_in ps q)
marks-woken ps [] q = refl
marks-woken ps (w ∷ wakes) q =
    marks-woken (change_living ps w.pid after_reply) wakes q
    ∙ (ap (λ (m : Option Call). (if is_woken q wakes then None else m)) (mark-replied ps w.pid q)
    ∙ (ap (λ (b : Bool). (if is_woken q wakes then None else (if b then None else mark_in ps q)))
    (same-either-way w.pid q)
    ∙ two-tests (nat_eq q w.pid) (is_woken q wakes) (mark_in ps q)))

-- One object changes. `after` is who waits there now, and a mark is gone where its process was woken.

-- marks beside wakes
abbrev pub MarksAfter : Numbered Process → List Wake → Numbered Process → Type 0
MarksAfter ps wakes qs = (q : ℕ) → mark_in qs q ≡ (if is_woken q wakes then None else mark_in ps q)

-- at the object itself
here-after : (pid : ℕ) (name : Name) (ws after : List Waiting) (wakes : List Wake) (m n : Option Call)
    → wait_of pid after ≡ (if is_woken pid wakes then None else wait_of pid ws)
    → n ≡ (if is_woken pid wakes then None else m) → wait_of pid ws ≡ mark_at pid name m
    → wait_of pid after ≡ mark_at pid name n
here-after pid name ws after wakes m n rest marks before =
    rest
    ∙ (ap (λ (x : Option Call). (if is_woken pid wakes then None else x)) before
    ∙ (by_test (is_woken pid wakes) ∙ sym (ap (mark_at pid name) marks)))
  where
    by_test : (b : Bool) → (if b then None else mark_at pid name m) ≡ mark_at pid name (if b then None else m)
    by_test true = refl
    by_test false = refl

-- at any other name: who is woken didn't wait there
elsewhere-after : (pid : ℕ) (name other : Name) → AreApart name other → (ws : List Waiting) (wakes : List Wake)
    → (m n : Option Call) → (is_woken pid wakes ≡ true → is_some (wait_of pid ws) ≡ true)
    → n ≡ (if is_woken pid wakes then None else m) → wait_of pid ws ≡ mark_at pid name m
    → mark_at pid other m ≡ mark_at pid other n
elsewhere-after pid name other away ws wakes m n was marks before =
    by_test (is_woken pid wakes) refl ∙ sym (ap (mark_at pid other) marks)
  where
    by_test : (b : Bool) → is_woken pid wakes ≡ b → mark_at pid other m ≡ mark_at pid other (if b then None else m)
    by_test true is = mark-apart pid name other away m (ap is_some (sym before) ∙ was is)
    by_test false is = refl

-- a queue's waiters are other ones
pub queue-changes : (k : Kernel) → MarksAreWaits k → (id : ℕ) (ws after : List Waiting) (wakes : List Wake)
    → ((pid : ℕ) → wait_in pid (get k.queues id) ≡ wait_of pid ws) → Settles ws after wakes
    → (j : Kernel) → ((pid : ℕ) → wait_in pid (get j.queues id) ≡ wait_of pid after)
    → ((other : ℕ) → other ≢ id → get j.queues other ≡ get k.queues other) → ((i : ℕ) → get j.sets i ≡ get k.sets i)
    → MarksAfter k.processes wakes j.processes → AllValues (λ q. WaitOnce q.waiters) j.queues
    → AllValues (λ s. WaitOnce s.waiters) j.sets → MarksAreWaits j
queue-changes k h id ws after wakes were settles j now others sets marks queues_once sets_once =
    record {
      queues =
          λ i pid.
          elim (cases_eq i id) [
            | inl same ↦
                subst (λ (x : ℕ). wait_in pid (get j.queues x) ≡ mark_at pid (Msg x) (mark_in j.processes pid))
                (sym same)
                (now pid
                ∙ here-after pid (Msg id) ws after wakes (mark_in k.processes pid) (mark_in j.processes pid)
                (settles.rest pid) (marks pid) (sym (were pid) ∙ h.queues id pid))
            | inr ne ↦
                ap (wait_in pid) (others i ne)
                ∙ (h.queues i pid
                ∙ elsewhere-after pid (Msg id) (Msg i) (msg-apart id i ne) ws wakes (mark_in k.processes pid)
                (mark_in j.processes pid) (settles.was pid) (marks pid) (sym (were pid) ∙ h.queues id pid))
          ];
      sets =
          λ i pid.
          ap (wait_in pid) (sets i)
          ∙ (h.sets i pid
          ∙ elsewhere-after pid (Msg id) (Sem i) (msg-apart-sem id i) ws wakes (mark_in k.processes pid)
          (mark_in j.processes pid) (settles.was pid) (marks pid) (sym (were pid) ∙ h.queues id pid));
      queues_once = queues_once;
      sets_once = sets_once;
    }

-- a set's waiters are other ones
pub set-changes : (k : Kernel) → MarksAreWaits k → (id : ℕ) (ws after : List Waiting) (wakes : List Wake)
    → ((pid : ℕ) → wait_in pid (get k.sets id) ≡ wait_of pid ws) → Settles ws after wakes
    → (j : Kernel) → ((pid : ℕ) → wait_in pid (get j.sets id) ≡ wait_of pid after)
    → ((other : ℕ) → other ≢ id → get j.sets other ≡ get k.sets other)
    → ((i : ℕ) → get j.queues i ≡ get k.queues i)
    → MarksAfter k.processes wakes j.processes → AllValues (λ q. WaitOnce q.waiters) j.queues
    → AllValues (λ s. WaitOnce s.waiters) j.sets → MarksAreWaits j
set-changes k h id ws after wakes were settles j now others queues marks queues_once sets_once =
    record {
      queues =
          λ i pid.
          ap (wait_in pid) (queues i)
          ∙ (h.queues i pid
          ∙ elsewhere-after pid (Sem id) (Msg i) (sem-apart-msg id i) ws wakes (mark_in k.processes pid)
          (mark_in j.processes pid) (settles.was pid) (marks pid) (sym (were pid) ∙ h.sets id pid));
      sets =
          λ i pid.
          elim (cases_eq i id) [
            | inl same ↦
                subst (λ (x : ℕ). wait_in pid (get j.sets x) ≡ mark_at pid (Sem x) (mark_in j.processes pid)) (sym same)
                (now pid
                ∙ here-after pid (Sem id) ws after wakes (mark_in k.processes pid) (mark_in j.processes pid)
                (settles.rest pid) (marks pid) (sym (were pid) ∙ h.sets id pid))
            | inr ne ↦
                ap (wait_in pid) (others i ne)
                ∙ (h.sets i pid
                ∙ elsewhere-after pid (Sem id) (Sem i) (sem-apart id i ne) ws wakes (mark_in k.processes pid)
                (mark_in j.processes pid) (settles.was pid) (marks pid) (sym (were pid) ∙ h.sets id pid))
          ];
      queues_once = queues_once;
      sets_once = sets_once;
    }

-- Other processes, the same waits at queues and sets.
pub processes-change : (k : Kernel) → MarksAreWaits k → (j : Kernel)
    → ((i pid : ℕ) → wait_in pid (get j.queues i) ≡ wait_in pid (get k.queues i))
    → ((i pid : ℕ) → wait_in pid (get j.sets i) ≡ wait_in pid (get k.sets i))
    → ((pid : ℕ) → WaitsAlike pid (mark_in j.processes pid) (mark_in k.processes pid))
    → AllValues (λ q. WaitOnce q.waiters) j.queues → AllValues (λ s. WaitOnce s.waiters) j.sets → MarksAreWaits j
processes-change k h j queues sets alike queues_once sets_once =
    record {
      queues = λ i pid. queues i pid ∙ (h.queues i pid ∙ sym ((alike pid).queues i));
      sets = λ i pid. sets i pid ∙ (h.sets i pid ∙ sym ((alike pid).sets i));
      queues_once = queues_once;
      sets_once = sets_once;
    }

-- A call parks: its caller goes behind those who wait, and has the mark.

-- marks beside a call that parks
abbrev pub MarkedBy : Numbered Process → Waiting → Numbered Process → Type 0
MarkedBy ps who qs = (q : ℕ) → mark_in qs q ≡ (if nat_eq q who.pid then Some who.call else mark_in ps q)

-- what the marks say at a name, where the caller had none
mark-parked : (pid : ℕ) (name : Name) (who : Waiting) (m n : Option Call) (b : Bool) → nat_eq pid who.pid ≡ b
    → n ≡ (if b then Some who.call else m)
    → mark_at pid name n
    ≡ (if b then (if is_same_name name (waits_at who.pid who.call) then Some who.call else None)
    else mark_at pid name m)
mark-parked pid name who m n true is h =
    ap (mark_at pid name) h
    ∙ ap (λ (p : ℕ). (if is_same_name name (waits_at p who.call) then Some who.call else None))
    (same-from-nat_eq pid who.pid is)
mark-parked pid name who m n false is h = ap (mark_at pid name) h

here-parked : (pid : ℕ) (name : Name) (who : Waiting) (ws after : List Waiting) (m n : Option Call)
    → is_same_name name (waits_at who.pid who.call) ≡ true
    → wait_of pid after ≡ (if nat_eq pid who.pid then Some who.call else wait_of pid ws)
    → n ≡ (if nat_eq pid who.pid then Some who.call else m) → wait_of pid ws ≡ mark_at pid name m
    → wait_of pid after ≡ mark_at pid name n
here-parked pid name who ws after m n at_name rest marks before =
    let goal : (b : Bool) → nat_eq pid who.pid ≡ b → wait_of pid after ≡ (if b then Some who.call else wait_of pid ws)
    → n ≡ (if b then Some who.call else m) → wait_of pid after ≡ mark_at pid name n =
    λ b is r g.
    r
    ∙ (ap (λ (x : Option Call). (if b then Some who.call else x)) before
    ∙ (ap (λ (c : Bool). (if b then (if c then Some who.call else None) else mark_at pid name m)) (sym at_name)
    ∙ sym (mark-parked pid name who m n b is g)))
    in goal (nat_eq pid who.pid) refl rest marks

elsewhere-parked : (pid : ℕ) (other : Name) (who : Waiting) (m n : Option Call)
    → is_same_name other (waits_at who.pid who.call) ≡ false → (nat_eq pid who.pid ≡ true → m ≡ None)
    → n ≡ (if nat_eq pid who.pid then Some who.call else m) → mark_at pid other m ≡ mark_at pid other n
elsewhere-parked pid other who m n away none marks = by_test (nat_eq pid who.pid) refl marks
  where
    by_test : (b : Bool) → nat_eq pid who.pid ≡ b → n ≡ (if b then Some who.call else m)
        → mark_at pid other m ≡ mark_at pid other n
    by_test true is g =
        ap (mark_at pid other) (none is)
        ∙ (ap (λ (c : Bool). (if c then Some who.call else None)) (sym away)
        ∙ sym (mark-parked pid other who m n true is g))
    by_test false is g = sym (mark-parked pid other who m n false is g)

-- the caller had no mark
unmarked : (ps : Numbered Process) (who : Waiting) → mark_in ps who.pid ≡ None → (pid : ℕ)
    → nat_eq pid who.pid ≡ true → mark_in ps pid ≡ None
unmarked ps who none pid is = subst (λ (p : ℕ). mark_in ps p ≡ None) (sym (same-from-nat_eq pid who.pid is)) none

-- at a queue
pub queue-parks : (k : Kernel) → MarksAreWaits k → (id : ℕ) (who : Waiting) → waits_at who.pid who.call ≡ Msg id
    → mark_in k.processes who.pid ≡ None → (ws after : List Waiting)
    → ((pid : ℕ) → wait_in pid (get k.queues id) ≡ wait_of pid ws)
    → ((pid : ℕ) → wait_of pid after ≡ (if nat_eq pid who.pid then Some who.call else wait_of pid ws))
    → (j : Kernel) → ((pid : ℕ) → wait_in pid (get j.queues id) ≡ wait_of pid after)
    → ((other : ℕ) → other ≢ id → get j.queues other ≡ get k.queues other) → ((i : ℕ) → get j.sets i ≡ get k.sets i)
    → MarkedBy k.processes who j.processes → AllValues (λ q. WaitOnce q.waiters) j.queues
    → AllValues (λ s. WaitOnce s.waiters) j.sets → MarksAreWaits j
queue-parks k h id who place none ws after were rest j now others sets marks queues_once sets_once =
    let here : is_same_name (Msg id) (waits_at who.pid who.call) ≡ true =
    ap (is_same_name (Msg id)) place ∙ eq-eqb id id refl
    in let away : (other : Name) → AreApart (Msg id) other → is_same_name other (waits_at who.pid who.call) ≡ false =
    λ other apart_from. apart_from (waits_at who.pid who.call) here
    in record {
      queues =
          λ i pid.
          elim (cases_eq i id) [
            | inl same ↦
                subst (λ (x : ℕ). wait_in pid (get j.queues x) ≡ mark_at pid (Msg x) (mark_in j.processes pid))
                (sym same)
                (now pid
                ∙ here-parked pid (Msg id) who ws after (mark_in k.processes pid) (mark_in j.processes pid) here
                (rest pid)
                (marks pid) (sym (were pid) ∙ h.queues id pid))
            | inr ne ↦
                ap (wait_in pid) (others i ne)
                ∙ (h.queues i pid
                ∙ elsewhere-parked pid (Msg i) who (mark_in k.processes pid) (mark_in j.processes pid)
                (away (Msg i) (msg-apart id i ne)) (unmarked k.processes who none pid) (marks pid))
          ];
      sets =
          λ i pid.
          ap (wait_in pid) (sets i)
          ∙ (h.sets i pid
          ∙ elsewhere-parked pid (Sem i) who (mark_in k.processes pid) (mark_in j.processes pid)
          (away (Sem i) (msg-apart-sem id i)) (unmarked k.processes who none pid) (marks pid));
      queues_once = queues_once;
      sets_once = sets_once;
    }

-- at a set
pub set-parks : (k : Kernel) → MarksAreWaits k → (id : ℕ) (who : Waiting) → waits_at who.pid who.call ≡ Sem id
    → mark_in k.processes who.pid ≡ None → (ws after : List Waiting)
    → ((pid : ℕ) → wait_in pid (get k.sets id) ≡ wait_of pid ws)
    → ((pid : ℕ) → wait_of pid after ≡ (if nat_eq pid who.pid then Some who.call else wait_of pid ws))
    → (j : Kernel) → ((pid : ℕ) → wait_in pid (get j.sets id) ≡ wait_of pid after)
    → ((other : ℕ) → other ≢ id → get j.sets other ≡ get k.sets other)
    → ((i : ℕ) → get j.queues i ≡ get k.queues i)
    → MarkedBy k.processes who j.processes → AllValues (λ q. WaitOnce q.waiters) j.queues
    → AllValues (λ s. WaitOnce s.waiters) j.sets → MarksAreWaits j
set-parks k h id who place none ws after were rest j now others queues marks queues_once sets_once =
    let here : is_same_name (Sem id) (waits_at who.pid who.call) ≡ true =
    ap (is_same_name (Sem id)) place ∙ eq-eqb id id refl
    in let away : (other : Name) → AreApart (Sem id) other → is_same_name other (waits_at who.pid who.call) ≡ false =
    λ other apart_from. apart_from (waits_at who.pid who.call) here
    in record {
      queues =
          λ i pid.
          ap (wait_in pid) (queues i)
          ∙ (h.queues i pid
          ∙ elsewhere-parked pid (Msg i) who (mark_in k.processes pid) (mark_in j.processes pid)
          (away (Msg i) (sem-apart-msg id i)) (unmarked k.processes who none pid) (marks pid));
      sets =
          λ i pid.
          elim (cases_eq i id) [
            | inl same ↦
                subst (λ (x : ℕ). wait_in pid (get j.sets x) ≡ mark_at pid (Sem x) (mark_in j.processes pid)) (sym same)
                (now pid
                ∙ here-parked pid (Sem id) who ws after (mark_in k.processes pid) (mark_in j.processes pid) here
                (rest pid)
                (marks pid) (sym (were pid) ∙ h.sets id pid))
            | inr ne ↦
                ap (wait_in pid) (others i ne)
                ∙ (h.sets i pid
                ∙ elsewhere-parked pid (Sem i) who (mark_in k.processes pid) (mark_in j.processes pid)
                (away (Sem i) (sem-apart id i ne)) (unmarked k.processes who none pid) (marks pid))
          ];
      queues_once = queues_once;
      sets_once = sets_once;
    }
