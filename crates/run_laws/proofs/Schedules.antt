-- What a schedule takes is a run: it chooses among the enabled events.
use Rattle.std.proofs.Common.{◌≡◌, ℕ, zero, suc, ◌%◌, Bool, true, false, List, [], ◌∷◌, ◌++◌, length, slice_get, cond, Some, refl, sym, ap, ◌∙◌}
use Rattle.std.specs.List.{filter, flat_map}
use Rattle.pico_base.specs.declared.script.Event.{Event}
use Rattle.kernel_laws.proofs.Plain.{from_some, not_some}
use Rattle.world_model.specs.World.{World, numbers, size, is_enabled}
use Rattle.world_model.specs.Schedule.{Schedule, InTurn, Drawn, choice, drawn, enabled_at, enabled_events, events_of, nodes_after, schedule_after}
use Rattle.run_laws.specs.Laws.{SchedulesAreRuns}

-- what is kept where a test gives this
kept-by : {A : Type 0} (test : A → Bool) (y : A) (kept : List A) (x : A)
    → ((i : ℕ) → slice_get kept i ≡ Some x → test x ≡ true) → (t : Bool) → test y ≡ t
    → (i : ℕ) → slice_get (cond t (y ∷ kept) kept) i ≡ Some x → test x ≡ true
kept-by test y kept x later true e zero found = sym (ap test (from_some y x found)) ∙ e
kept-by test y kept x later true e (suc i) found = later i found
kept-by test y kept x later false e i found = later i found

-- what is found among what was kept passed the test
kept-passes : {A : Type 0} (test : A → Bool) (xs : List A) (x : A) (i : ℕ) → slice_get (filter test xs) i ≡ Some x
    → test x ≡ true
kept-passes test [] x i found = not_some x found
kept-passes test (y ∷ xs) x i found =
    kept-by test y (filter test xs) x (λ k there. kept-passes test xs x k there) (test y) refl i found

-- what is found in one list behind another is found in one of them
found-in : {A : Type 0} (P : A → Type 0) (xs ys : List A) (x : A)
    → ((i : ℕ) → slice_get xs i ≡ Some x → P x) → ((i : ℕ) → slice_get ys i ≡ Some x → P x)
    → (i : ℕ) → slice_get (xs ++ ys) i ≡ Some x → P x
found-in P [] ys x first second i found = second i found
found-in P (y ∷ xs) ys x first second zero found = first zero found
found-in P (y ∷ xs) ys x first second (suc i) found =
    found-in P xs ys x (λ k there. first (suc k) there) second i found

found-enabled : (w : World) (ns : List ℕ) (i : ℕ) (e : Event) → slice_get (flat_map (enabled_at w) ns) i ≡ Some e
    → is_enabled w e ≡ true
found-enabled w [] i e found = not_some e found
found-enabled w (n ∷ ns) i e found =
    found-in (λ x. is_enabled w x ≡ true) (enabled_at w n) (flat_map (enabled_at w) ns) e
    (λ k there. kept-passes (is_enabled w) (events_of (size w) n) e k there)
    (λ k there. found-enabled w ns k e there) i found

choice-is-enabled : (w : World) (schedule : Schedule) (e : Event) → choice w schedule ≡ Some e → is_enabled w e ≡ true
choice-is-enabled w (InTurn last) e found = found-enabled w (nodes_after (size w) last) 0 e found
choice-is-enabled w (Drawn x) e found =
    found-enabled w (numbers 1 (size w)) (drawn x % length (enabled_events w)) e found

-- Each event that the schedule takes is enabled when it comes.
pub schedules_are_runs_lemma : SchedulesAreRuns
schedules_are_runs_lemma w last schedule [] follows = follows.1
schedules_are_runs_lemma w last schedule (e ∷ es) follows =
    record {
      enabled = choice-is-enabled w schedule e follows.chosen;
      next = follows.next;
      steps = follows.steps;
      rest = schedules_are_runs_lemma follows.next last (schedule_after schedule e) es follows.rest;
    }
