-- Ends, and whom signals strike.
use Rattle.std.proofs.Common.{◌≡◌, ◌≢◌, ◌∙◌, ℕ, Bool, true, false, ◌||◌, map, Option, Some, None, refl, ap, sym, subst}
use Rattle.std.specs.Prelude.{if◌then◌else◌, ◌%◌}
use Rattle.std.specs.Option.{option_and_then}
use Rattle.std.proofs.lemmas.Bool.{true≢false}
use Rattle.pico_base.specs.declared.call.Call.{Call}
use Rattle.pico_base.specs.declared.call.Call.TheVariants as calls
use Rattle.pico_base.specs.declared.reply.Ending.{Ending}
use Rattle.pico_base.specs.declared.reply.Ending.TheVariants as endings
use Rattle.pico_base.specs.declared.reply.Outcome.{Outcome}
use Rattle.pico_base.specs.declared.reply.Reply.{Reply}
use Rattle.pico_base.specs.declared.reply.Reply.TheVariants as replies
use Rattle.pico_base.specs.declared.signal.Sig.{Sig}
use Rattle.pico_base.specs.declared.signal.Sig.TheVariants.{Chld}
use Rattle.pico_base.specs.declared.signal.SigArg.TheVariants.{Is}
use Rattle.number_maps.specs.Maps.{Numbered, get, put}
use Rattle.number_maps.proofs.Order.{eq-other}
use Rattle.kernel_model.specs.Row.{Family, Waited, Found, NotYet, NoChild, family_after_end, ignores_children, lists}
use Rattle.kernel_model.specs.Signals.{raise}
use Rattle.kernel_laws.proofs.Plain.{from_some, not_some}
use Rattle.waiting_model.specs.Calls.{withdrawn_from}
use Rattle.waiting_model.specs.Waiters.{waiter}
use Rattle.waiting_model.specs.Marks.{Alive, awaited_children, raise_by_other, strikes, with_family, with_signals_of}
use Rattle.waiting_model.specs.Kernel.{Kernel, Process, Living, Parent, alive_in, living_at, living_in, parent_in, with_alive}
use Rattle.waiting_model.specs.Effect.{Effect, reply_with, woken_pair}
use Rattle.waiting_model.specs.ProcessCalls.{after_waiting, bury_all, bury_found, end_process, end_under, found_after_end, found_for, kill, kill_at, parent_after_end, process_after_end, raise_chld, wakes_of_parent, wakes_under}
use Rattle.waiting_model.specs.Transition.{Successor, effect, finish_call, may_make, successor, transition}
use Rattle.waiting_laws.specs.Sound.{IsSound}
use Rattle.waiting_laws.proofs.AtObjects.{finished-queues, finished-sets}
use Rattle.waiting_laws.proofs.Parents.{whole-orphan}
use Rattle.waiting_laws.proofs.Marked.{waiters_of}
use Rattle.waiting_laws.proofs.OthersMarks.{LivesOnIn, goes-finished}
use Rattle.waiting_laws.proofs.OwnLines.{KeepsWaiters}
use Rattle.waiting_laws.proofs.People.{ParentView, living-put-same, parent-view}
use Rattle.waiting_laws.proofs.Rows.{from-living}
use Rattle.waiting_laws.proofs.SoundFine.{sound-fine, sound-one}
use Rattle.waiting_laws.proofs.Steps.{Makes, makes, step-is}

-- ---- ends

-- how the call ends its process
abbrev pub ending_in : Call → Option Ending
ending_in (calls.Exit status) = Some (endings.Exited (status % 256))
ending_in (calls.Killed sig) = Some (endings.Killed sig)
ending_in call = None

-- the parent, if there is one, is woken where it waits for such a child
abbrev pub outcome_of_end : ℕ → Ending → Option Parent → Outcome
outcome_of_end pid ending parent =
    record { own = Some replies.Ended; woken = map woken_pair (wakes_under pid ending parent) }

pub record EndsWhole (k : Kernel) (pid : ℕ) (call : Call) (ending : Ending) : Type 0 where
  pub next : Kernel
  pub step : (n : ℕ)
      → transition k pid call n ≡ Some (successor next (outcome_of_end pid ending (parent_in pid k.processes)))
  pub keeps : KeepsWaiters k next

ending-effect : (k : Kernel) (pid : ℕ) (a : Alive) (call : Call) (ending : Ending) (n : ℕ)
    → ending_in call ≡ Some ending → effect k (waiter pid call) a n ≡ Some (end_process k pid a ending)
ending-effect k pid a (calls.Exit status) ending n is =
    ap (λ (e : Ending). (let o : Option Effect = Some (end_process k pid a e) in o)) (from_some _ ending is)
ending-effect k pid a (calls.Killed sig) ending n is =
    ap (λ (e : Ending). (let o : Option Effect = Some (end_process k pid a e) in o)) (from_some _ ending is)
ending-effect k pid a call ending n is = not_some ending is

ending-stays : (call : Call) (ending : Ending) → ending_in call ≡ Some ending → withdrawn_from call ≡ None
ending-stays (calls.Withdraw name) ending is = not_some ending is
ending-stays call ending is = refl

-- there is such a step
pub end-leads : (k : Kernel) (pid : ℕ) (a : Alive) (call : Call) (ending : Ending) → living_at k pid ≡ Some a
    → may_make a call ≡ true → ending_in call ≡ Some ending → EndsWhole k pid call ending
end-leads k pid a call ending lives may is =
    let e : Effect = end_process k pid a ending
    in record {
      next = finish_call e.kernel pid call e.own;
      step = λ n. step-is k pid call n a e (ending-stays call ending is) lives may
          (ending-effect k pid a call ending n is);
      keeps = record {
        queues = λ id. ap (λ m. waiters_of (get m id)) (finished-queues e.kernel pid call e.own);
        sets = λ id. ap (λ m. waiters_of (get m id)) (finished-sets e.kernel pid call e.own);
      };
    }

-- ---- the parent

same-parent : (p : Parent) (parent : ℕ) (b : Alive) → p.pid ≡ parent → p.alive ≡ b
    → (let q : Parent = record { pid = parent; alive = b } in p ≡ q)
same-parent p parent b pid alive = λ i. record { pid = pid i; alive = alive i }

-- the one that lists the process
pub parent-of : (k : Kernel) (pid parent : ℕ) (b : Alive) → IsSound k → living_at k parent ≡ Some b
    → lists b.row.family pid ≡ true
    → (let p : Parent = record { pid = parent; alive = b } in parent_in pid k.processes ≡ Some p)
parent-of k pid parent b sound lives listed =
    by_parent (parent_in pid k.processes) refl (parent-view pid k.processes sound.processes)
  where
    by_parent : (o : Option Parent) → parent_in pid k.processes ≡ o → ParentView k.processes pid o
        → (let p : Parent = record { pid = parent; alive = b } in o ≡ Some p)
    by_parent None is view =
        absurd
        (true≢false (sym listed ∙ whole-orphan k pid is parent b (from-living k.processes parent b lives)))
    by_parent (Some p) is view =
        let there : living_at k p.pid ≡ Some p.alive = ap (option_and_then alive_in) view.0
        in let same : p.pid ≡ parent = sound-one k sound p.pid parent p.alive b pid there lives view.1 listed
        in ap Some
        (same-parent p parent b same
        (from_some p.alive b (sym there ∙ (ap (λ (i : ℕ). living_at k i) same ∙ lives))))

-- or nobody
pub no-parent-of : (k : Kernel) (pid : ℕ) → IsSound k
    → ((parent : ℕ) (b : Alive) → living_at k parent ≡ Some b → lists b.row.family pid ≡ true → ⊥)
    → parent_in pid k.processes ≡ None
no-parent-of k pid sound nobody =
    by_parent (parent_in pid k.processes) (parent-view pid k.processes sound.processes)
  where
    by_parent : (o : Option Parent) → ParentView k.processes pid o → o ≡ None
    by_parent None view = refl
    by_parent (Some p) view = absurd (nobody p.pid p.alive (ap (option_and_then alive_in) view.0) view.1)

-- whether it is woken, and with what, is said by its row and by the children that it waits for
pub wakes-by-row : (pid : ℕ) (ending : Ending) (p q : Parent) → p.pid ≡ q.pid → p.alive.row ≡ q.alive.row
    → awaited_children p.alive.marks.parked ≡ awaited_children q.alive.marks.parked
    → wakes_under pid ending (Some p) ≡ wakes_under pid ending (Some q)
wakes-by-row pid ending p q same row waits =
    ap (λ (n : ℕ). wakes_of_parent n (found_after_end p.alive pid ending)) same
    ∙ ap (wakes_of_parent q.pid)
    (ap
    (λ r.
    found_for (family_after_end r.family pid ending (ignores_children r)) (awaited_children p.alive.marks.parked))
    row
    ∙ ap (found_for (family_after_end q.alive.row.family pid ending (ignores_children q.alive.row))) waits)

-- ---- who is struck

-- it lives, and a signal has struck it
pub record IsStruck (k : Kernel) (p : ℕ) : Type 0 where
  pub alive : Alive
  pub lives : living_at k p ≡ Some alive
  pub struck : alive.marks.struck ≡ true

-- also once the caller's own marks are changed
struck-finished : (k : Kernel) (pid : ℕ) (call : Call) (own : Option Reply) (p : ℕ) → p ≢ pid → IsStruck k p
    → IsStruck (finish_call k pid call own) p
struck-finished k pid call own p ne s =
    let on : LivesOnIn _ p s.alive = goes-finished k pid call own p ne s.alive s.lives
    in record { alive = on.alive; lives = on.lives; struck = on.keeps.struck s.struck }

or-now : (before now : Bool) → now ≡ true → (before || now) ≡ true
or-now true now h = refl
or-now false now h = h

kill-effect : (k : Kernel) (pid target : ℕ) (t : Alive) (sig : Sig) → target ≢ pid
    → get k.processes target ≡ Some (Living t)
    → kill k pid target (Is sig) ≡ reply_with (with_alive k target (raise_by_other t sig)) 0
kill-effect k pid target t sig ne there =
    ap (kill_at k pid target (Is sig)) there
    ∙ ap
    (λ (b : Bool).
    reply_with
    (if b then with_alive k target (with_signals_of t (raise t.row.signals sig))
    else with_alive k target (raise_by_other t sig)) 0)
    (eq-other pid target (λ same. ne (sym same)))

-- the target of a signal that strikes, if it is another process
pub kill-strikes : (k : Kernel) (pid target : ℕ) (t : Alive) (sig : Sig) (n : ℕ) (s : Successor)
    → transition k pid (calls.Kill target (Is sig)) n ≡ Some s → target ≢ pid → living_at k target ≡ Some t
    → strikes t.row.signals sig ≡ true → IsStruck s.kernel target
kill-strikes k pid target t sig n s step ne lives struck =
    let call : Call = calls.Kill target (Is sig)
    in let m : Makes k pid call n s = makes k pid call n s refl step
    in let u : Alive = raise_by_other t sig
    in let is : reply_with (with_alive k target u) 0 ≡ m.step =
    sym (kill-effect k pid target t sig ne (from-living k.processes target t lives)) ∙ from_some _ m.step m.does
    in subst (λ (x : Successor). IsStruck x.kernel target) m.is
    (struck-finished m.step.kernel pid call m.step.own target ne
    (subst (λ (e : Effect). IsStruck e.kernel target) is
    (record {
      alive = u;
      lives = living-put-same k.processes target (Living u);
      struck = or-now t.marks.struck (strikes t.row.signals sig) struck;
    })))

waiting-signals : (x : Alive) (w : Waited) → (after_waiting x w).row.signals ≡ x.row.signals
waiting-signals x (Found child ending) = refl
waiting-signals x NotYet = refl
waiting-signals x NoChild = refl

-- the parent, where it doesn't ignore its children
parent-struck : (b : Alive) (pid : ℕ) (ending : Ending) → ignores_children b.row ≡ false
    → strikes b.row.signals Chld ≡ true → (parent_after_end b pid ending).marks.struck ≡ true
parent-struck b pid ending minds struck =
    let f : Family = family_after_end b.row.family pid ending (ignores_children b.row)
    in let x : Alive = after_waiting (with_family b f) (found_after_end b pid ending)
    in ap (λ (t : Bool). (raise_chld t x).marks.struck) minds
    ∙ or-now x.marks.struck (strikes x.row.signals Chld)
    (ap (λ r. strikes r Chld) (waiting-signals (with_family b f) (found_after_end b pid ending)) ∙ struck)

-- an end strikes the parent, where this minds its children and the signal arrives
pub end-strikes : (k : Kernel) (pid parent : ℕ) (b : Alive) (call : Call) (ending : Ending) (n : ℕ) (s : Successor)
    → IsSound k → transition k pid call n ≡ Some s → ending_in call ≡ Some ending → living_at k parent ≡ Some b
    → lists b.row.family pid ≡ true → ignores_children b.row ≡ false → strikes b.row.signals Chld ≡ true
    → IsStruck s.kernel parent
end-strikes k pid parent b call ending n s sound step is lives listed minds struck =
    let fine = sound-fine k sound
    in let m : Makes k pid call n s = makes k pid call n s (ending-stays call ending is) step
    in let e : Effect = end_process k pid m.alive ending
    in let did : e ≡ m.step =
    from_some e m.step (sym (ending-effect k pid m.alive call ending n is) ∙ m.does)
    in let apart : parent ≢ pid =
    λ same.
    true≢false
    (sym listed ∙ subst (λ (i : ℕ). lists b.row.family i ≡ false) same (fine.people.apart parent b lives))
    in let p : Parent = record { pid = parent; alive = b }
    in let bs : Numbered Process = bury_all k.processes m.alive.row.family
    in let now : living_in (end_under bs pid ending (Some p)) parent ≡ Some (parent_after_end b pid ending) =
    living-put-same (bury_found (put bs pid (process_after_end (ignores_children b.row) ending))
    (found_after_end b pid ending)) parent (Living (parent_after_end b pid ending))
    in subst (λ (x : Successor). IsStruck x.kernel parent) m.is
    (struck-finished m.step.kernel pid call m.step.own parent apart
    (subst (λ (x : Effect). IsStruck x.kernel parent) did
    (record {
      alive = parent_after_end b pid ending;
      lives =
          ap (λ (o : Option Parent). living_in (end_under bs pid ending o) parent)
          (parent-of k pid parent b sound lives listed)
          ∙ now;
      struck = parent-struck b pid ending minds struck;
    })))
