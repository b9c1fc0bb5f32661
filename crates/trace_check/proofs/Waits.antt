-- Where a fitting history has a process's call wait, the kernel has it parked with that call.
use Rattle.std.proofs.Common.{◌≡◌, ◌≢◌, ◌∙◌, ℕ, Bool, true, false, ◌||◌, nat_eq, List, [], ◌∷◌, Option, Some, None, refl, ap, sym, subst, inl, inr}
use Rattle.std.specs.Prelude.{if◌then◌else◌, fold}
use Rattle.std.proofs.lemmas.Bool.{false≢true, cases_eq}
use Rattle.std.proofs.lemmas.Option.{same_Some}
use Rattle.pico_base.specs.declared.call.Call.{Call}
use Rattle.pico_base.specs.declared.call.Call.TheVariants as calls
use Rattle.pico_base.specs.declared.reply.Ending.TheVariants as endings
use Rattle.pico_base.specs.declared.reply.Entry.{Entry}
use Rattle.pico_base.specs.declared.reply.Reply.{Reply}
use Rattle.pico_base.specs.declared.reply.Reply.TheVariants as replies
use Rattle.pico_base.specs.declared.script.Script.{Script}
use Rattle.number_maps.specs.Maps.{get, put}
use Rattle.number_maps.proofs.LookUps.{get-later, get-put-same, get-put-other}
use Rattle.number_maps.proofs.Order.{eq-same, eq-other, same-from-nat_eq}
use Rattle.kernel_model.specs.Fitting.{IsDue, Place, block_at, block_place, child_vars, due, is_killed}
use Rattle.kernel_model.specs.History.{number_in}
use Rattle.waiting_model.specs.Kernel.{Kernel, opening}
use Rattle.waiting_model.specs.Effect.{Effect}
use Rattle.waiting_model.specs.ProcessCalls.{end_process}
use Rattle.waiting_model.specs.Transition.{Successor, successor, transition}
use Rattle.waiting_model.specs.History.{Replays}
use Rattle.waiting_model.specs.Fitting.{IsNext, Places, Progress, after_entry, answered, after_fork, after_wake, after_woken, at_place, opening_places, places_after, woken_at}
use Rattle.waiting_laws.specs.Parked.{mark_in}
use Rattle.waiting_laws.specs.Woken.{ReachableEntriesWakeRightly, WakesRightly, woken_in}
use Rattle.waiting_laws.specs.MarkMoves.{MovesMarks, ReachableEntriesMoveMarks, own_mark}
use Rattle.trace_check.proofs.Carried.{Makes, makes, Leaves, leaves}

some-isnt-none : {A B : Type 0} (a : A) (o : Option A) → o ≡ Some a → o ≡ None → B
some-isnt-none a o some none = absurd (cc)

two-tests : (x y : Bool) (m : Option Call)
    → (if y then None else (if x then None else m)) ≡ (if x || y then None else m)
two-tests true true m = refl
two-tests true false m = refl
two-tests false true m = refl
two-tests false false m = refl

-- each process whose call waits is marked with that call
abbrev pub WaitAsMarked : Places → (ℕ → Option Call) → Type 0
WaitAsMarked places marks =
    (q : ℕ) (p : Progress) → get places q ≡ Some p → p.parked ≡ true → marks q ≡ due p.place

-- what a put leaves, and what it puts
wait-put : (places : Places) (n : ℕ) (p : Progress) (marks after : ℕ → Option Call) → WaitAsMarked places marks
    → (p.parked ≡ true → after n ≡ due p.place) → ((q : ℕ) → q ≢ n → after q ≡ marks q)
    → WaitAsMarked (put places n p) after
wait-put places n p marks after were now others q r there waits =
    elim (cases_eq q n) [
      | inl same ↦
          let is : p ≡ r =
          same_Some p r
          (sym (get-put-same places n p) ∙ subst (λ (i : ℕ). get (put places n p) i ≡ Some r) same there)
          in subst (λ (x : Progress). after q ≡ due x.place) is
          (subst (λ (i : ℕ). after i ≡ due p.place) (sym same)
          (now (ap (λ (x : Progress). x.parked) is ∙ waits)))
      | inr ne ↦ others q ne ∙ were q r (sym (get-put-other places n p q ne) ∙ there) waits
    ]

wait-marks : (places : Places) (marks after : ℕ → Option Call) → WaitAsMarked places marks
    → ((q : ℕ) → after q ≡ marks q) → WaitAsMarked places after
wait-marks places marks after were same q p there waits = same q ∙ were q p there waits

-- Those who are woken.

waits-no-more : (reply : Reply) (p : Progress) → (after_wake reply p).parked ≡ false
waits-no-more reply p = by_test p.parked refl
  where
    by_test : (c : Bool) → p.parked ≡ c
        → (let r : Progress = (if c then at_place (answered p.place (due p.place) reply) else p) in r.parked) ≡ false
    by_test true h = refl
    by_test false h = h

woken-waits-not : {B : Type 0} (reply : Reply) (p : Progress) → (after_wake reply p).parked ≡ true → B
woken-waits-not reply p waits = absurd (false≢true (sym (waits-no-more reply p) ∙ waits))

wait-one : (places : Places) (w : ℕ × Reply) (marks : ℕ → Option Call) → WaitAsMarked places marks
    → (o : Option Progress) → get places w.0 ≡ o
    → WaitAsMarked (woken_at places w o) (λ q. if nat_eq q w.0 then None else marks q)
wait-one places w marks were None none =
    λ q p there waits.
    elim (cases_eq q w.0) [
      | inl same ↦
          some-isnt-none p (get places w.0) (subst (λ (i : ℕ). get places i ≡ Some p) same there) none
      | inr ne ↦ ap (λ (b : Bool). (if b then None else marks q)) (eq-other q w.0 ne) ∙ were q p there waits
    ]
wait-one places w marks were (Some p) is =
    wait-put places w.0 (after_wake w.1 p) marks (λ q. if nat_eq q w.0 then None else marks q) were
    (λ waits. woken-waits-not w.1 p waits)
    (λ q ne. ap (λ (b : Bool). (if b then None else marks q)) (eq-other q w.0 ne))

wait-woken : (ws : List (ℕ × Reply)) (places : Places) (marks : ℕ → Option Call) → WaitAsMarked places marks
    → WaitAsMarked (fold after_woken places ws) (λ q. if woken_in q ws then None else marks q)
wait-woken [] places marks were = were
wait-woken (w ∷ ws) places marks were =
    wait-marks (fold after_woken (after_woken places w) ws)
    (λ q. if woken_in q ws then None else (if nat_eq q w.0 then None else marks q))
    (λ q. if woken_in q (w ∷ ws) then None else marks q)
    (wait-woken ws (after_woken places w) (λ q. if nat_eq q w.0 then None else marks q)
    (wait-one places w marks were (get places w.0) refl))
    (λ q. sym (two-tests (nat_eq q w.0) (woken_in q ws) (marks q)))

-- The caller.

-- a withdrawal and an end have their replies
abbrev IsReplied : Call → Option Reply → Type 0
IsReplied (calls.Withdraw name) None = ⊥
IsReplied (calls.Withdraw name) (Some reply) = Unit {0}
IsReplied (calls.Killed sig) None = ⊥
IsReplied (calls.Killed sig) (Some reply) = Unit {0}
IsReplied call own = Unit {0}

replied : (k : Kernel) (pid : ℕ) (call : Call) (n : ℕ) (s : Successor) → transition k pid call n ≡ Some s
    → IsReplied call s.outcome.own
replied k pid (calls.Withdraw name) n s is =
    let l : Leaves k pid name s = leaves k pid name n s is
    in subst (λ (o : Option Reply). IsReplied (calls.Withdraw name) o)
    (ap (λ (t : Successor). t.outcome.own) l.is) tt
replied k pid (calls.Killed sig) n s is =
    let m : Makes k pid (calls.Killed sig) n s = makes k pid (calls.Killed sig) n s refl is
    in let same : end_process k pid m.alive (endings.Killed sig) ≡ m.step =
    same_Some (end_process k pid m.alive (endings.Killed sig)) m.step m.does
    in subst (λ (o : Option Reply). IsReplied (calls.Killed sig) o)
    (ap (λ (x : Effect). x.own) same ∙ ap (λ (t : Successor). t.outcome.own) m.is) tt
replied k pid call n s is = tt

due-is : (place : Place) (call : Call) → is_killed call ≡ false → IsDue place call → Some call ≡ due place
due-is place call alive (inl is) = sym is
due-is place call alive (inr (killed, other, is)) = absurd (false≢true (sym alive ∙ killed))

own-waits : (call : Call) (own : Option Reply) (p : Progress) → IsReplied call own → IsNext p call
    → (after_entry call own p).parked ≡ true → own_mark call own ≡ due (after_entry call own p).place
own-waits (calls.Withdraw name) (Some reply) p has next waits = woken-waits-not reply p waits
own-waits (calls.Withdraw name) None p has next waits = absurd has
own-waits (calls.Killed sig) None p has next waits = absurd has
own-waits call None p has next waits = due-is p.place call refl next.1
own-waits call (Some reply) p has next waits = absurd (false≢true waits)

-- a forked process doesn't wait
wait-fork : (script : Script) (places : Places) (parent : Place) (call : Call) (own : Option Reply)
    → (marks : ℕ → Option Call) → WaitAsMarked places marks
    → WaitAsMarked (after_fork script places parent call own) marks
wait-fork script places parent (calls.Fork block) (Some (replies.Num child)) marks were =
    wait-put places child (at_place (block_place (block_at script block) (child_vars parent))) marks marks were
    (λ waits. absurd (false≢true waits)) (λ q ne. refl)
wait-fork script places parent call own marks were = were

-- One entry.

abbrev marks_behind : Kernel → Entry → ℕ → Option Call
marks_behind k e q = if nat_eq e.pid q then own_mark e.call e.outcome.own else mark_in k.processes q

moved-marks : (k : Kernel) (e : Entry) (next : Kernel) → MovesMarks k e.pid e.call (successor next e.outcome)
    → WakesRightly k e.pid (successor next e.outcome) → (q : ℕ)
    → mark_in next.processes q ≡ (if woken_in q e.outcome.woken then None else marks_behind k e q)
moved-marks k e next moves wakes q = moves q ∙ by_test (nat_eq e.pid q) refl
  where
    by_test : (b : Bool) → nat_eq e.pid q ≡ b
        → (if b then own_mark e.call e.outcome.own
        else if woken_in q e.outcome.woken then None else mark_in k.processes q)
        ≡ (if woken_in q e.outcome.woken then None
        else if b then own_mark e.call e.outcome.own else mark_in k.processes q)
    by_test false is = refl
    by_test true is =
        sym
        (ap (λ (c : Bool). (if c then None else own_mark e.call e.outcome.own))
        (subst (λ (i : ℕ). woken_in i e.outcome.woken ≡ false) (same-from-nat_eq e.pid q is) wakes.others))

-- The laws of the marks behind each legal history.
pub record MarkLaws : Type 0 where
  pub move : ReachableEntriesMoveMarks
  pub wake : ReachableEntriesWakeRightly

-- behind a legal history an entry that is next leaves it so
pub wait-step : MarkLaws → (script : Script) (h : List Entry) (k : Kernel) → Replays opening h k → (e : Entry)
    → (places : Places) (p : Progress) (next : Kernel)
    → transition k e.pid e.call (number_in e.outcome.own) ≡ Some (successor next e.outcome)
    → WaitAsMarked places (λ q. mark_in k.processes q) → get places e.pid ≡ Some p → IsNext p e.call
    → WaitAsMarked (places_after script places e p) (λ q. mark_in next.processes q)
wait-step laws script h k replays e places p next step were there is =
    let s : Successor = successor next e.outcome
    in let n : ℕ = number_in e.outcome.own
    in let marks : ℕ → Option Call = marks_behind k e
    in let mid : Places = put places e.pid (after_entry e.call e.outcome.own p)
    in let own : WaitAsMarked mid marks =
    wait-put places e.pid (after_entry e.call e.outcome.own p) (λ q. mark_in k.processes q) marks were
    (λ waits.
    ap (λ (b : Bool). (if b then own_mark e.call e.outcome.own else mark_in k.processes e.pid)) (eq-same e.pid)
    ∙ own-waits e.call e.outcome.own p (replied k e.pid e.call n s step) is waits)
    (λ q ne.
    ap (λ (b : Bool). (if b then own_mark e.call e.outcome.own else mark_in k.processes q))
    (eq-other e.pid q (λ h. ne (sym h))))
    in let forked_too : WaitAsMarked (after_fork script mid p.place e.call e.outcome.own) marks =
    wait-fork script mid p.place e.call e.outcome.own marks own
    in wait-marks (places_after script places e p)
    (λ q. if woken_in q e.outcome.woken then None else marks q) (λ q. mark_in next.processes q)
    (wait-woken e.outcome.woken (after_fork script mid p.place e.call e.outcome.own) marks forked_too)
    (moved-marks k e next (laws.move h k replays e.pid e.call n s step)
    (laws.wake h k replays e.pid e.call n s step))

-- at the opening nobody waits
pub wait-opening : (script : Script) → WaitAsMarked (opening_places script) (λ q. mark_in opening.processes q)
wait-opening script q p there waits =
    elim (cases_eq q 1) [
      | inl same ↦
          let is : at_place (block_place (block_at script 1) []) ≡ p =
          same_Some (at_place (block_place (block_at script 1) [])) p
          (subst (λ (i : ℕ). get (opening_places script) i ≡ Some p) same there)
          in absurd (false≢true (ap (λ (x : Progress). x.parked) is ∙ waits))
      | inr ne ↦
          some-isnt-none p (get (opening_places script) q) there
          (get-later (1, at_place (block_place (block_at script 1) [])) [] q ne)
    ]
