-- The lines of a history with one more entry, and the calls with which processes are parked.
use Rattle.std.proofs.Common.{◌≡◌, ◌≢◌, ◌∙◌, ℕ, Bool, true, false, ◌||◌, nat_eq, List, [], ◌∷◌, ◌++◌, Option, Some, None, refl, ap, sym, subst, inl, inr}
use Rattle.std.specs.Prelude.{◌⊎◌, if◌then◌else◌}
use Rattle.std.proofs.lemmas.Bool.{cases_eq, true≢false}
use Rattle.pico_base.specs.declared.call.Call.{Call}
use Rattle.pico_base.specs.declared.call.Call.TheVariants as calls
use Rattle.pico_base.specs.declared.numbers.Name.{Name}
use Rattle.pico_base.specs.declared.reply.Entry.{Entry}
use Rattle.pico_base.specs.declared.reply.Errno.TheVariants.{Eintr}
use Rattle.pico_base.specs.declared.reply.Outcome.{Outcome}
use Rattle.pico_base.specs.declared.reply.Reply.{Reply}
use Rattle.pico_base.specs.declared.reply.Reply.TheVariants.{Fail}
use Rattle.number_maps.specs.Maps.{get}
use Rattle.number_maps.proofs.LookUps.{get-put-same, get-put-other, get-without-same, get-without-other}
use Rattle.number_maps.proofs.Order.{eq-same, eq-other}
use Rattle.kernel_model.specs.Effect.{reply_alone}
use Rattle.kernel_model.specs.History.{number_in}
use Rattle.kernel_laws.proofs.Plain.{not_none}
use Rattle.waiting_model.specs.Calls.{withdrawn_from}
use Rattle.waiting_model.specs.Kernel.{Kernel, opening}
use Rattle.waiting_model.specs.Transition.{Successor, successor, transition}
use Rattle.waiting_model.specs.History.{Replays}
use Rattle.waiting_model.specs.Linear as linear
use Rattle.waiting_model.specs.Linear.{Lined, all_end_wait, ends_wait, line_all, line_by, line_entry, line_up, no_lines}
use Rattle.waiting_laws.specs.Lines.{LinesGoOn, lines_by, lines_of, marked_line, own_line, wait_line, wait_lines, withdrawn_line}
use Rattle.waiting_laws.specs.MarkMoves.{MovesMarks, own_mark}
use Rattle.waiting_laws.specs.Parked.{mark_in}
use Rattle.waiting_laws.specs.Woken.{WakesRightly, WokenOnce, woken_in}
use Rattle.waiting_laws.proofs.Entries.{entry-fine, opening-fine, opening-unmarked}
use Rattle.waiting_laws.proofs.Marked.{Fine, no-mark}
use Rattle.waiting_laws.proofs.MarkMoves.{entry-moves}
use Rattle.waiting_laws.proofs.Steps.{makes, leaves}
use Rattle.waiting_laws.proofs.Woken.{acts-by, entry-wakes}

-- ---- lists

-- an empty end adds nothing
pub append-nothing : {A : Type 0} (xs : List A) → xs ≡ xs ++ []
append-nothing [] = refl
append-nothing (x ∷ xs) = ap (λ (ys : List _). x ∷ ys) (append-nothing xs)

-- of two ends either may be added first
pub append-both : {A : Type 0} (xs ys zs : List A) → (xs ++ ys) ++ zs ≡ xs ++ (ys ++ zs)
append-both [] ys zs = refl
append-both (x ∷ xs) ys zs = ap (λ (ws : List _). x ∷ ws) (append-both xs ys zs)

-- ---- who is woken, or withdraws

-- the calls that wait by the lines are those with which processes are marked
abbrev pub AreMarked : Kernel → Lined → Type 0
AreMarked k l = (q : ℕ) → get l.parked q ≡ mark_in k.processes q

-- a wait that ends has its line, and isn't there any more
record EndsOne (node : ℕ) (l after : Lined) (pid : ℕ) (reply : Reply) (m : Option Call) : Type 0 where
  lines : after.lines ≡ l.lines ++ marked_line node pid m reply
  gone : get after.parked pid ≡ None
  others : (q : ℕ) → q ≢ pid → get after.parked q ≡ get l.parked q

lined-up : (node pid : ℕ) (reply : Reply) (l : Lined) (m : Option Call) → get l.parked pid ≡ m
    → EndsOne node l (line_up node pid reply l m) pid reply m
lined-up node pid reply l None there =
    record { lines = append-nothing l.lines; gone = there; others = λ q ne. refl }
lined-up node pid reply l (Some call) there =
    record {
      lines = refl;
      gone = get-without-same l.parked pid;
      others = λ q ne. get-without-other l.parked pid q ne;
    }

ends-one : (k : Kernel) (node : ℕ) (l : Lined) (w : ℕ × Reply) → get l.parked w.0 ≡ mark_in k.processes w.0
    → EndsOne node l (ends_wait node l w) w.0 w.1 (mark_in k.processes w.0)
ends-one k node l w is =
    subst
    (λ (o : Option Call). EndsOne node l (line_up node w.0 w.1 l o) w.0 w.1 (mark_in k.processes w.0))
    (sym is) (lined-up node w.0 w.1 l (mark_in k.processes w.0) is)

-- all who are woken have their lines, and aren't there any more
record EndsAll (k : Kernel) (node : ℕ) (l after : Lined) (woken : List (ℕ × Reply)) : Type 0 where
  lines : after.lines ≡ l.lines ++ wait_lines k node woken
  parked : (q : ℕ) → get after.parked q ≡ (if woken_in q woken then None else get l.parked q)

-- one of two tests
pub or-true : (a b : Bool) → b ≡ true → (a || b) ≡ true
or-true true b h = refl
or-true false b h = h

or-nothing : (b : Bool) → (if b then None else (let o : Option Call = None in o)) ≡ None
or-nothing true = refl
or-nothing false = refl

ends-all : (k : Kernel) (node : ℕ) (woken : List (ℕ × Reply)) (l : Lined) → WokenOnce woken
    → ((q : ℕ) → woken_in q woken ≡ true → get l.parked q ≡ mark_in k.processes q)
    → EndsAll k node l (all_end_wait node l woken) woken
ends-all k node [] l once agree = record { lines = append-nothing l.lines; parked = λ q. refl }
ends-all k node (w ∷ woken) l once agree =
    let next : Lined = ends_wait node l w
    in let first : EndsOne node l next w.0 w.1 (mark_in k.processes w.0) =
    ends-one k node l w (agree w.0 (ap (λ (b : Bool). b || woken_in w.0 woken) (eq-same w.0)))
    in let rest : EndsAll k node next (all_end_wait node next woken) woken =
    ends-all k node woken next once.1
    (λ q h.
    first.others q
    (λ same. true≢false (subst (λ (i : ℕ). true ≡ woken_in i woken) same (sym h) ∙ once.0))
    ∙ agree q (or-true (nat_eq q w.0) (woken_in q woken) h))
    in record {
      lines =
          rest.lines
          ∙ (ap (λ (xs : List Entry). xs ++ wait_lines k node woken) first.lines
          ∙ append-both l.lines (wait_line k node w) (wait_lines k node woken));
      parked = λ q. rest.parked q ∙ by_number first q (cases_eq q w.0);
    }
  where
    by_number : EndsOne node l (ends_wait node l w) w.0 w.1 (mark_in k.processes w.0) → (q : ℕ)
        → (q ≡ w.0) ⊎ (q ≢ w.0)
        → (if woken_in q woken then None else get (ends_wait node l w).parked q)
        ≡ (if nat_eq q w.0 || woken_in q woken then None else get l.parked q)
    by_number first q (inl same) =
        subst
        (λ (i : ℕ).
        (if woken_in i woken then None else get (ends_wait node l w).parked i)
        ≡ (if nat_eq i w.0 || woken_in i woken then None else get l.parked i))
        (sym same)
        (ap (λ (o : Option Call). (if woken_in w.0 woken then None else o)) first.gone
        ∙ (or-nothing (woken_in w.0 woken)
        ∙ sym (ap (λ (b : Bool). (if b || woken_in w.0 woken then None else get l.parked w.0)) (eq-same w.0))))
    by_number first q (inr ne) =
        ap (λ (o : Option Call). (if woken_in q woken then None else o)) (first.others q ne)
        ∙ sym
        (ap (λ (b : Bool). (if b || woken_in q woken then None else get l.parked q)) (eq-other q w.0 ne))

-- ---- an entry

-- what an entry leaves of the lines so far
pub record StepsOn (k : Kernel) (l : Lined) (e : Entry) (next : Kernel) : Type 0 where
  pub lines : (line_entry l e).lines ≡ l.lines ++ lines_of k e
  pub marked : AreMarked next (line_entry l e)

own-lined : (e : Entry) (l : Lined) (own : Option Reply)
    → (linear.own_line e l own).lines ≡ l.lines ++ own_line e.by e.pid e.call own
own-lined e l None = append-nothing l.lines
own-lined e l (Some reply) = refl

-- those of others stay
own-others : (e : Entry) (l : Lined) (own : Option Reply) (q : ℕ) → q ≢ e.pid
    → get (linear.own_line e l own).parked q ≡ get l.parked q
own-others e l None q ne = get-put-other l.parked e.pid e.call q ne
own-others e l (Some reply) q ne = refl

own-parked : (e : Entry) (l : Lined) (own : Option Reply) → get l.parked e.pid ≡ None
    → get (linear.own_line e l own).parked e.pid ≡ own_mark e.call own
own-parked e l None none = get-put-same l.parked e.pid e.call
own-parked e l (Some reply) none = none

-- a call that ends no wait
line-is : (e : Entry) (l : Lined) (call : Call) → withdrawn_from call ≡ None
    → line_by e l call ≡ all_end_wait e.by (linear.own_line e l e.outcome.own) e.outcome.woken
line-is e l (calls.Withdraw name) h = not_none name h
line-is e l call h = refl

-- an entry that is no withdrawal has its caller's line, and then those of the waits that it ends
pub lines-are : (k : Kernel) (e : Entry) (call : Call) → withdrawn_from call ≡ None
    → lines_by k e call ≡ own_line e.by e.pid call e.outcome.own ++ wait_lines k e.by e.outcome.woken
lines-are k e (calls.Withdraw name) h = not_none name h
lines-are k e call h = refl

-- it wakes others than its caller, each once, and the marks move
record EntryDid (k : Kernel) (e : Entry) (next : Kernel) : Type 0 where
  moves : MovesMarks k e.pid e.call (successor next e.outcome)
  others : woken_in e.pid e.outcome.woken ≡ false
  once : WokenOnce e.outcome.woken

entry-did : (k : Kernel) → Fine k → (e : Entry) (next : Kernel)
    → transition k e.pid e.call (number_in e.outcome.own) ≡ Some (successor next e.outcome) → EntryDid k e next
entry-did k fine e next step =
    let wakes : WakesRightly k e.pid (successor next e.outcome) =
    entry-wakes k fine e.pid e.call (number_in e.outcome.own) (successor next e.outcome) step
    in record {
      moves = entry-moves k fine e.pid e.call (number_in e.outcome.own) (successor next e.outcome) step;
      others = wakes.others;
      once = wakes.once;
    }

-- marks move for the caller, and for those who are woken
by-caller : (k : Kernel) (e : Entry) (next : Kernel) → MovesMarks k e.pid e.call (successor next e.outcome)
    → (got : ℕ → Option Call) → got e.pid ≡ own_mark e.call e.outcome.own
    → ((q : ℕ) → q ≢ e.pid → got q ≡ (if woken_in q e.outcome.woken then None else mark_in k.processes q)) → (q : ℕ)
    → got q ≡ mark_in next.processes q
by-caller k e next moves got own others q =
    elim (cases_eq q e.pid) [
      | inl same ↦
          subst (λ (i : ℕ). got i ≡ mark_in next.processes i) (sym same)
          (own
          ∙ sym
          (moves e.pid
          ∙ ap
          (λ (b : Bool).
          (if b then own_mark e.call e.outcome.own
          else if woken_in e.pid e.outcome.woken then None else mark_in k.processes e.pid))
          (eq-same e.pid)))
      | inr ne ↦
          others q ne
          ∙ sym
          (moves q
          ∙ ap
          (λ (b : Bool).
          (if b then own_mark e.call e.outcome.own
          else if woken_in q e.outcome.woken then None else mark_in k.processes q))
          (eq-other e.pid q (λ same. ne (sym same))))
    ]

call-steps : (k : Kernel) (l : Lined) → AreMarked k l → (e : Entry) (next : Kernel) → EntryDid k e next
    → mark_in k.processes e.pid ≡ None → withdrawn_from e.call ≡ None → StepsOn k l e next
call-steps k l marked e next did unparked plain_call =
    let first : Lined = linear.own_line e l e.outcome.own
    in let after : Lined = all_end_wait e.by first e.outcome.woken
    in let is : line_entry l e ≡ after = line-is e l e.call plain_call
    in let all : EndsAll k e.by first after e.outcome.woken =
    ends-all k e.by e.outcome.woken first did.once
    (λ q h.
    own-others e l e.outcome.own q
    (λ same. true≢false (sym h ∙ (ap (λ (i : ℕ). woken_in i e.outcome.woken) same ∙ did.others)))
    ∙ marked q)
    in record {
      lines =
          ap (λ (x : Lined). x.lines) is
          ∙ (all.lines
          ∙ (ap (λ (xs : List Entry). xs ++ wait_lines k e.by e.outcome.woken) (own-lined e l e.outcome.own)
          ∙ (append-both l.lines (own_line e.by e.pid e.call e.outcome.own) (wait_lines k e.by e.outcome.woken)
          ∙ ap (λ (xs : List Entry). l.lines ++ xs) (sym (lines-are k e e.call plain_call)))));
      marked = λ q.
          ap (λ (x : Lined). get x.parked q) is
          ∙ by-caller k e next did.moves (get after.parked)
          (all.parked e.pid
          ∙ (ap (λ (b : Bool). (if b then None else get first.parked e.pid)) did.others
          ∙ own-parked e l e.outcome.own (marked e.pid ∙ unparked)))
          (λ p ne.
          all.parked p
          ∙ ap (λ (o : Option Call). (if woken_in p e.outcome.woken then None else o))
          (own-others e l e.outcome.own p ne ∙ marked p))
          q;
    }

-- a withdrawal
withdrawal-steps : (k : Kernel) (l : Lined) → AreMarked k l → (e : Entry) (next : Kernel)
    → MovesMarks k e.pid e.call (successor next e.outcome) → (name : Name) → e.call ≡ calls.Withdraw name
    → (reply : Reply) → e.outcome ≡ reply_alone reply → StepsOn k l e next
withdrawal-steps k l marked e next moves name is reply outcome =
    let own : e.outcome.own ≡ Some reply = ap (λ (o : Outcome). o.own) outcome
    in let after : Lined = ends_wait e.by l (e.pid, reply)
    in let lined : line_entry l e ≡ after = ap (line_by e l) is ∙ ap (linear.withdrawn_line e l) own
    in let first : EndsOne e.by l after e.pid reply (mark_in k.processes e.pid) =
    ends-one k e.by l (e.pid, reply) (marked e.pid)
    in record {
      lines =
          ap (λ (x : Lined). x.lines) lined
          ∙ (first.lines
          ∙ ap (λ (xs : List Entry). l.lines ++ xs)
          (sym (ap (lines_by k e) is ∙ ap (withdrawn_line k e.by e.pid) own)));
      marked = λ q.
          ap (λ (x : Lined). get x.parked q) lined
          ∙ by-caller k e next moves (get after.parked) (first.gone ∙ sym (ap (own_mark e.call) own))
          (λ p ne.
          first.others p ne
          ∙ (marked p
          ∙ sym (ap (λ (o : Outcome). (if woken_in p o.woken then None else mark_in k.processes p)) outcome)))
          q;
    }

-- each entry adds its lines to those so far, and who waits by the lines is still who is marked
pub steps-on : (k : Kernel) → Fine k → (l : Lined) → AreMarked k l → (e : Entry) (next : Kernel)
    → transition k e.pid e.call (number_in e.outcome.own) ≡ Some (successor next e.outcome) → StepsOn k l e next
steps-on k fine l marked e next step = by_call e.call refl
  where
    by_call : (call : Call) → e.call ≡ call → StepsOn k l e next
    by_call (calls.Withdraw name) is =
        let left = leaves k e.pid name (number_in e.outcome.own) (successor next e.outcome)
        (subst
        (λ (c : Call). transition k e.pid c (number_in e.outcome.own) ≡ Some (successor next e.outcome)) is step)
        in withdrawal-steps k l marked e next (entry-did k fine e next step).moves name is (Fail Eintr)
        (sym (ap (λ (s : Successor). s.outcome) left.is))
    by_call call is =
        let none : withdrawn_from e.call ≡ None = ap withdrawn_from is
        in let made = makes k e.pid e.call (number_in e.outcome.own) (successor next e.outcome) none step
        in call-steps k l marked e next (entry-did k fine e next step)
        (no-mark k e.pid made.alive (acts-by k e.pid made.alive e.call made.lives made.may)) none

-- ---- histories

-- the calls that wait by the lines are those that are marked, behind each history
record LinesAreMarked (last : Kernel) (l : Lined) : Type 0 where
  fine : Fine last
  marked : AreMarked last l

lined-along : (h : List Entry) (k last : Kernel) (l : Lined) → Fine k → AreMarked k l → Replays k h last
    → LinesAreMarked last (line_all l h)
lined-along [] k last l fine marked r =
    subst (λ (x : Kernel). LinesAreMarked x l) r (record { fine = fine; marked = marked })
lined-along (e ∷ es) k last l fine marked r =
    let on : StepsOn k l e r.next = steps-on k fine l marked e r.next r.step
    in lined-along es r.next last (line_entry l e)
    (entry-fine k fine e.pid e.call (number_in e.outcome.own) (successor r.next e.outcome) r.step) on.marked r.rest

-- one more entry comes last
lined-last : (l : Lined) (h : List Entry) (e : Entry) → line_all l (h ++ e ∷ []) ≡ line_entry (line_all l h) e
lined-last l [] e = refl
lined-last l (f ∷ h) e = lined-last (line_entry l f) h e

-- with its lines
pub lines-go-on : LinesGoOn
lines-go-on h k e next r step =
    let so_far : LinesAreMarked k (line_all no_lines h) =
    lined-along h opening k no_lines opening-fine (λ q. sym (opening-unmarked q)) r
    in let on : StepsOn k (line_all no_lines h) e next =
    steps-on k so_far.fine (line_all no_lines h) so_far.marked e next step
    in ap (λ (l : Lined). l.lines) (lined-last no_lines h e) ∙ on.lines
