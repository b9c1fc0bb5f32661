-- Where a fitting history has a process's call wait, the kernel has it parked.
use Rattle.std.proofs.Common.{◌≡◌, ◌≢◌, ◌∙◌, ℕ, Bool, true, false, ◌||◌, nat_eq, List, [], ◌∷◌, Option, Some, None, is_some, refl, ap, sym, subst, inl, inr}
use Rattle.std.specs.Prelude.{if◌then◌else◌, fold}
use Rattle.std.specs.Option.{option_and_then}
use Rattle.std.proofs.lemmas.Bool.{cases_eq}
use Rattle.pico_base.specs.declared.call.Call.{Call}
use Rattle.pico_base.specs.declared.call.Call.TheVariants as calls
use Rattle.pico_base.specs.declared.reply.Entry.{Entry}
use Rattle.pico_base.specs.declared.reply.Reply.{Reply}
use Rattle.pico_base.specs.declared.reply.Reply.TheVariants as replies
use Rattle.pico_base.specs.declared.script.Script.{Script}
use Rattle.number_maps.specs.Maps.{get, put}
use Rattle.number_maps.proofs.LookUps.{get-later, get-put-same, get-put-other}
use Rattle.number_maps.proofs.Order.{eq-same, eq-other, same-from-nat_eq}
use Rattle.kernel_model.specs.Effect.{is_fresh}
use Rattle.kernel_model.specs.Fitting.{Place, block_at, block_place, child_vars, due}
use Rattle.kernel_model.specs.History.{number_in}
use Rattle.waiting_model.specs.Kernel.{Kernel, Process, alive_in, opening}
use Rattle.waiting_model.specs.Effect.{Effect}
use Rattle.waiting_model.specs.Transition.{Successor, successor, transition}
use Rattle.waiting_model.specs.Marks.{Alive}
use Rattle.waiting_model.specs.History.{Replays}
use Rattle.waiting_model.specs.Fitting.{FitsFrom, Places, Progress, after_entry, answered, after_fork, after_wake, after_woken, at_place, opening_places, places_after, woken_at}
use Rattle.waiting_laws.specs.Parked.{mark_of, mark_in}
use Rattle.waiting_laws.specs.Woken.{WakesRightly, woken_in}
use Rattle.waiting_laws.specs.MarkMoves.{MovesMarks, own_mark}
use Rattle.waiting_laws.specs.Places.{PlacesAreMarks}
use Rattle.waiting_laws.proofs.Options.{not-some, same-some, some-isnt-none}
use Rattle.waiting_laws.proofs.Parked.{two-tests}
use Rattle.waiting_laws.proofs.Marked.{Fine}
use Rattle.waiting_laws.proofs.Entries.{entry-fine, opening-fine, opening-unmarked, unused}
use Rattle.waiting_laws.proofs.Woken.{entry-wakes}
use Rattle.waiting_laws.proofs.MarkMoves.{entry-moves}
use Rattle.waiting_laws.proofs.Steps.{Makes, makes, Leaves, leaves}

-- each process that is somewhere waits exactly where it has a mark
abbrev pub Agree : Places → (ℕ → Option Call) → Type 0
Agree places marks = (q : ℕ) (p : Progress) → get places q ≡ Some p → p.parked ≡ is_some (marks q)

-- what a put leaves, and what it puts
agree-put : (places : Places) (n : ℕ) (p : Progress) (marks after : ℕ → Option Call) → Agree places marks
    → p.parked ≡ is_some (after n) → ((q : ℕ) → q ≢ n → after q ≡ marks q) → Agree (put places n p) after
agree-put places n p marks after agree now others q r there =
    elim (cases_eq q n) [
      | inl same ↦
          let is : p ≡ r =
          same-some p r
          (sym (get-put-same places n p) ∙ subst (λ (i : ℕ). get (put places n p) i ≡ Some r) same there)
          in subst (λ (x : Progress). x.parked ≡ is_some (after q)) is
          (subst (λ (i : ℕ). p.parked ≡ is_some (after i)) (sym same) now)
      | inr ne ↦
          agree q r (sym (get-put-other places n p q ne) ∙ there) ∙ sym (ap is_some (others q ne))
    ]

agree-marks : (places : Places) (marks after : ℕ → Option Call) → Agree places marks
    → ((q : ℕ) → after q ≡ marks q) → Agree places after
agree-marks places marks after agree same q p there = agree q p there ∙ sym (ap is_some (same q))

-- Those who are woken.

waits-no-more : (reply : Reply) (p : Progress) (b : Bool) → p.parked ≡ b → (after_wake reply p).parked ≡ false
waits-no-more reply p b is = by_test p.parked refl
  where
    by_test : (c : Bool) → p.parked ≡ c
        → (let r : Progress = (if c then at_place (answered p.place (due p.place) reply) else p) in r.parked) ≡ false
    by_test true h = refl
    by_test false h = h

agree-one : (places : Places) (w : ℕ × Reply) (marks : ℕ → Option Call) → Agree places marks → (o : Option Progress)
    → get places w.0 ≡ o → Agree (woken_at places w o) (λ q. if nat_eq q w.0 then None else marks q)
agree-one places w marks agree None none =
    λ q p there.
    elim (cases_eq q w.0) [
      | inl same ↦
          some-isnt-none p (get places w.0) (subst (λ (i : ℕ). get places i ≡ Some p) same there) none
      | inr ne ↦ agree q p there ∙ ap (λ (b : Bool). is_some (if b then None else marks q)) (sym (eq-other q w.0 ne))
    ]
agree-one places w marks agree (Some p) is =
    agree-put places w.0 (after_wake w.1 p) marks (λ q. if nat_eq q w.0 then None else marks q) agree
    (waits-no-more w.1 p p.parked refl
    ∙ sym (ap (λ (b : Bool). is_some (if b then None else marks w.0)) (eq-same w.0)))
    (λ q ne. ap (λ (b : Bool). (if b then None else marks q)) (eq-other q w.0 ne))

agree-woken : (ws : List (ℕ × Reply)) (places : Places) (marks : ℕ → Option Call) → Agree places marks
    → Agree (fold after_woken places ws) (λ q. if woken_in q ws then None else marks q)
agree-woken [] places marks agree = agree
agree-woken (w ∷ ws) places marks agree =
    agree-marks (fold after_woken (after_woken places w) ws)
    (λ q. if woken_in q ws then None else (if nat_eq q w.0 then None else marks q))
    (λ q. if nat_eq q w.0 || woken_in q ws then None else marks q)
    (agree-woken ws (after_woken places w) (λ q. if nat_eq q w.0 then None else marks q)
    (agree-one places w marks agree (get places w.0) refl))
    (λ q. sym (two-tests (nat_eq q w.0) (woken_in q ws) (marks q)))

-- The caller.

-- a withdrawal has its reply
abbrev HasReplyOrCall : Call → Option Reply → Type 0
HasReplyOrCall (calls.Withdraw name) None = ⊥
HasReplyOrCall (calls.Withdraw name) (Some reply) = Unit {0}
HasReplyOrCall call own = Unit {0}

has-reply : (k : Kernel) (pid : ℕ) (call : Call) (n : ℕ) (s : Successor) → transition k pid call n ≡ Some s
    → HasReplyOrCall call s.outcome.own
has-reply k pid (calls.Withdraw name) n s is =
    let l : Leaves k pid name s = leaves k pid name n s is
    in subst (λ (o : Option Reply). HasReplyOrCall (calls.Withdraw name) o)
    (ap (λ (t : Successor). t.outcome.own) l.is) tt
has-reply k pid call n s is = tt

own-parked : (call : Call) (own : Option Reply) (p : Progress) → HasReplyOrCall call own
    → (after_entry call own p).parked ≡ is_some (own_mark call own)
own-parked (calls.Withdraw name) (Some reply) p h = waits-no-more reply p p.parked refl
own-parked (calls.Withdraw name) None p h = absurd h
own-parked call None p h = refl
own-parked call (Some reply) p h = refl

-- A fork: its number was unused, so nobody had it.

forked : (k : Kernel) → Fine k → (pid : ℕ) (a : Alive) (n : ℕ) (b : Bool) (e f : Effect)
    → is_fresh k.used_processes n ≡ b → (if b then Some f else None) ≡ Some e → get k.processes n ≡ None
forked k fine pid a n true e f fresh is = fine.unused_processes n (unused k.used_processes n fresh)
forked k fine pid a n false e f fresh is = not-some e is

-- the number that a fork's reply gives, is the one that it was given
pub fork-number : (k : Kernel) (pid : ℕ) (block n : ℕ) (s : Successor) (child : ℕ) → Fine k
    → transition k pid (calls.Fork block) n ≡ Some s → n ≡ child → mark_in k.processes child ≡ None
fork-number k pid block n s child fine is same =
    let m : Makes k pid (calls.Fork block) n s = makes k pid (calls.Fork block) n s refl is
    in let none : get k.processes n ≡ None =
    forked k fine pid m.alive n (is_fresh k.used_processes n) m.step _ refl m.does
    in subst (λ (i : ℕ). mark_in k.processes i ≡ None) same
    (ap (λ (o : Option Process). mark_of (option_and_then alive_in o)) none)

fork-agree : (script : Script) (places : Places) (parent : Place) (call : Call) (own : Option Reply)
    → (marks : ℕ → Option Call) → Agree places marks
    → ((block child : ℕ) → call ≡ calls.Fork block → own ≡ Some (replies.Num child) → marks child ≡ None)
    → Agree (after_fork script places parent call own) marks
fork-agree script places parent (calls.Fork block) (Some (replies.Num child)) marks agree none =
    agree-put places child (at_place (block_place (block_at script block) (child_vars parent))) marks marks agree
    (sym (ap is_some (none block child refl refl))) (λ q ne. refl)
fork-agree script places parent call own marks agree none = agree

-- One entry.

abbrev pub marks_behind : Kernel → Entry → ℕ → Option Call
marks_behind k e q = if nat_eq e.pid q then own_mark e.call e.outcome.own else mark_in k.processes q

no-mark-of-child : (k : Kernel) → Fine k → (e : Entry) (next : Kernel) (block child : ℕ)
    → transition k e.pid e.call (number_in e.outcome.own) ≡ Some (successor next e.outcome)
    → e.call ≡ calls.Fork block → e.outcome.own ≡ Some (replies.Num child) → marks_behind k e child ≡ None
no-mark-of-child k fine e next block child step is has = by_test (nat_eq e.pid child)
  where
    fresh : mark_in k.processes child ≡ None
    fresh =
        fork-number k e.pid block (number_in e.outcome.own) (successor next e.outcome) child fine
        (subst (λ (c : Call). transition k e.pid c (number_in e.outcome.own) ≡ Some (successor next e.outcome)) is
        step)
        (ap number_in has)

    by_test : (b : Bool) → (if b then own_mark e.call e.outcome.own else mark_in k.processes child) ≡ None
    by_test false = fresh
    by_test true =
        ap (λ (c : Call). own_mark c e.outcome.own) is
        ∙ ap (λ (o : Option Reply). own_mark (calls.Fork block) o) has

moved-marks : (k : Kernel) (e : Entry) (next : Kernel) → MovesMarks k e.pid e.call (successor next e.outcome)
    → WakesRightly k e.pid (successor next e.outcome) → (q : ℕ)
    → mark_in next.processes q ≡ (if woken_in q e.outcome.woken then None else marks_behind k e q)
moved-marks k e next moves wakes q = moves q ∙ by_test (nat_eq e.pid q) refl
  where
    by_test : (b : Bool) → nat_eq e.pid q ≡ b
        → (if b then own_mark e.call e.outcome.own
        else if woken_in q e.outcome.woken then None else mark_in k.processes q)
        ≡ (if woken_in q e.outcome.woken then None
        else if b then own_mark e.call e.outcome.own else mark_in k.processes q)
    by_test false is = refl
    by_test true is =
        sym
        (ap (λ (c : Bool). (if c then None else own_mark e.call e.outcome.own))
        (subst (λ (i : ℕ). woken_in i e.outcome.woken ≡ false) (same-from-nat_eq e.pid q is) wakes.others))

-- behind the entry's own call, while those whom it wakes still wait
abbrev pub own_places : Script → Places → Entry → Progress → Places
own_places script places e p =
    after_fork script (put places e.pid (after_entry e.call e.outcome.own p)) p.place e.call e.outcome.own

-- the caller's own reply, or its wait, moves its place as it moves its mark
pub agree-own : (script : Script) (k : Kernel) → Fine k → (e : Entry) (places : Places) (p : Progress) (next : Kernel)
    → transition k e.pid e.call (number_in e.outcome.own) ≡ Some (successor next e.outcome)
    → Agree places (λ q. mark_in k.processes q) → Agree (own_places script places e p) (marks_behind k e)
agree-own script k fine e places p next step agree =
    let marks : ℕ → Option Call = marks_behind k e
    in let mid : Places = put places e.pid (after_entry e.call e.outcome.own p)
    in let own : Agree mid marks =
    agree-put places e.pid (after_entry e.call e.outcome.own p) (λ q. mark_in k.processes q) marks agree
    (own-parked e.call e.outcome.own p
    (has-reply k e.pid e.call (number_in e.outcome.own) (successor next e.outcome) step)
    ∙ sym
    (ap (λ (b : Bool). is_some (if b then own_mark e.call e.outcome.own else mark_in k.processes e.pid))
    (eq-same e.pid)))
    (λ q ne.
    ap (λ (b : Bool). (if b then own_mark e.call e.outcome.own else mark_in k.processes q))
    (eq-other e.pid q (λ h. ne (sym h))))
    in fork-agree script mid p.place e.call e.outcome.own marks own
    (λ block child is has. no-mark-of-child k fine e next block child step is has)

-- so does the whole entry, with those whom it wakes
pub agree-step : (script : Script) (k : Kernel) → Fine k → (e : Entry) (places : Places) (p : Progress) (next : Kernel)
    → transition k e.pid e.call (number_in e.outcome.own) ≡ Some (successor next e.outcome)
    → Agree places (λ q. mark_in k.processes q)
    → Agree (places_after script places e p) (λ q. mark_in next.processes q)
agree-step script k fine e places p next step agree =
    let s : Successor = successor next e.outcome
    in let n : ℕ = number_in e.outcome.own
    in agree-marks (places_after script places e p)
    (λ q. if woken_in q e.outcome.woken then None else marks_behind k e q) (λ q. mark_in next.processes q)
    (agree-woken e.outcome.woken (own_places script places e p) (marks_behind k e)
    (agree-own script k fine e places p next step agree))
    (moved-marks k e next (entry-moves k fine e.pid e.call n s step) (entry-wakes k fine e.pid e.call n s step))

-- Histories.

agree-along : (script : Script) (h : List Entry) (k last : Kernel) (places to : Places) → Fine k
    → Agree places (λ q. mark_in k.processes q) → Replays k h last → FitsFrom script places h to
    → Agree to (λ q. mark_in last.processes q)
agree-along script [] k last places to fine agree r f =
    subst (λ (x : Places). Agree x (λ q. mark_in last.processes q)) f
    (subst (λ (x : Kernel). Agree places (λ q. mark_in x.processes q)) r agree)
agree-along script (e ∷ es) k last places to fine agree r f =
    agree-along script es r.next last (places_after script places e f.progress) to
    (entry-fine k fine e.pid e.call (number_in e.outcome.own) (successor r.next e.outcome) r.step)
    (agree-step script k fine e places f.progress r.next r.step agree) r.rest f.rest

-- at the opening nobody is at a wait, and nobody is marked
pub opening-agree : (script : Script) → Agree (opening_places script) (λ q. mark_in opening.processes q)
opening-agree script q p there =
    elim (cases_eq q 1) [
      | inl same ↦
          let is : at_place (block_place (block_at script 1) []) ≡ p =
          same-some (at_place (block_place (block_at script 1) [])) p
          (subst (λ (i : ℕ). get (opening_places script) i ≡ Some p) same there)
          in subst (λ (x : Progress). x.parked ≡ is_some (mark_in opening.processes q)) is
          (sym (ap is_some (opening-unmarked q)))
      | inr ne ↦
          some-isnt-none p (get (opening_places script) q) there
          (get-later (1, at_place (block_place (block_at script 1) [])) [] q ne)
    ]

-- from the opening on
pub places-are-marks : PlacesAreMarks
places-are-marks script h k places r f pid p there =
    agree-along script h opening k (opening_places script) places opening-fine (opening-agree script) r f pid p there
