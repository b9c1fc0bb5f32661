-- An entry is judged to have no fault exactly where it goes on a legal history that fits the script.
use Rattle.std.proofs.Common.{◌≡◌, inl, inr, ◌∙◌, ℕ, Bool, true, false, not, cond, ◌&&◌, ◌||◌, Option, Some, None, is_some, refl, sym, ap}
use Rattle.std.specs.Prelude.{Ok, Err}
use Rattle.std.specs.Option.{option_map_or}
use Rattle.std.proofs.lemmas.Bool.{and_parts, and_from}
use Rattle.std.proofs.lemmas.Option.{same_Some}
use Rattle.pico_base.specs.declared.call.Call.{Call}
use Rattle.pico_base.specs.declared.call.Call.TheVariants as calls
use Rattle.pico_base.specs.declared.numbers.Name.{Name}
use Rattle.pico_base.specs.declared.reply.Outcome.{Outcome}
use Rattle.pico_base.specs.declared.reply.Entry.{Entry}
use Rattle.pico_base.specs.declared.script.Script.{Script}
use Rattle.pico_base.specs.declared.signal.Sig.{Sig}
use Rattle.number_maps.specs.Maps.{get}
use Rattle.kernel_model.specs.History.{number_in}
use Rattle.kernel_model.specs.Script.{IsSoundScript}
use Rattle.kernel_model.specs.Fitting.{Place, IsDue, due, is_killed}
use Rattle.waiting_model.specs.Calls.{withdrawn_from}
use Rattle.waiting_model.specs.Marks.{is_parked_at}
use Rattle.waiting_model.specs.Kernel.{Kernel, living_at}
use Rattle.waiting_model.specs.Transition.{Successor, successor, transition}
use Rattle.waiting_model.specs.Fitting.{IsNext, Progress, places_after}
use Rattle.waiting_laws.specs.Parked.{mark_of, mark_in}
use Rattle.trace_text.specs.Grammar.{is_call, is_entry, is_outcome}
use Rattle.trace_text.specs.declared.fault.CheckFault.TheVariants.{Illegal, NotTheScript}
use Rattle.trace_text.proofs.EntryLaws.{in-grammar}
use Rattle.trace_check.specs.FirstFault.{SoFar, last_doom, doom_at, due_by, due_at, is_same_call, may_stand, may_follow, may_come, is_same_outcome, judge_outcome, or_fault, places_with, with_call, judge_entry}
use Rattle.trace_check.proofs.SameTexts.{same-call, call-itself, same-outcome, outcome-itself}
use Rattle.trace_check.proofs.Carried.{makes, leaves}
use Rattle.trace_check.proofs.Kernels.{spent-ends, doom-ends, last-is}

-- an entry goes on: the kernel has its outcome, and its call was next
pub record GoesOn (script : Script) (so_far : SoFar) (e : Entry) (after : SoFar) : Type 0 where
  pub step : transition so_far.kernel e.pid e.call (number_in e.outcome.own) ≡ Some (successor after.kernel e.outcome)
  pub progress : Progress
  pub there : get so_far.places e.pid ≡ Some progress
  pub next : IsNext progress e.call
  pub moved : after.places ≡ places_after script so_far.places e progress

is-not : (b : Bool) → not b ≡ true → b ≡ false
is-not true h = sym h
is-not false h = refl

module _ (script : Script) (sound : IsSoundScript script) where
  -- what may stand is due

  same-is-due : (place : Place) (d call : Call) → is_call script call ≡ true → due place ≡ Some d
      → is_same_call script d call ≡ true → IsDue place call
  same-is-due place d call there is same =
      inl (is ∙ ap (λ (c : Call). Some c) (same-call script d call sound there same))

  script-due : (place : Place) (d call : Call) → is_call script call ≡ true → due place ≡ Some d
      → (same : Bool) → is_same_call script d call ≡ same → (killed : Bool) → is_killed call ≡ killed
      → (same || (killed && true)) ≡ true → IsDue place call
  script-due place d call there is true same killed k h = same-is-due place d call there is same
  script-due place d call there is false same true k h = inr (k, d, is)
  script-due place d call there is false same false k h = absurd (cc)

  end-due : (place : Place) (d call : Call) (sig : Sig) → is_call script call ≡ true → due place ≡ Some d
      → (same : Bool) → is_same_call script (calls.Killed sig) call ≡ same → (killed : Bool)
      → is_killed call ≡ killed → (same || (killed && false)) ≡ true → IsDue place call
  end-due place d call sig there is true same killed k h =
      let end : calls.Killed sig ≡ call = same-call script (calls.Killed sig) call sound there same in
      inr (ap is_killed (sym end), d, is)
  end-due place d call sig there is false same true k h = absurd (cc)
  end-due place d call sig there is false same false k h = absurd (cc)

  place-due : (place : Place) (call : Call) → is_call script call ≡ true → (doom : Option Sig) → (d : Option Call)
      → due place ≡ d → may_stand script doom (due_by doom d) call ≡ true → IsDue place call
  place-due place call there doom None is h = absurd (cc)
  place-due place call there None (Some d) is h =
      script-due place d call there is (is_same_call script d call) refl (is_killed call) refl h
  place-due place call there (Some sig) (Some d) is h =
      end-due place d call sig there is (is_same_call script (calls.Killed sig) call) refl (is_killed call) refl h

  -- what may follow is next
  follows-next : (pid : ℕ) (doom : Option Sig) (p : Progress) (call : Call) → is_call script call ≡ true
      → may_follow script pid doom p call ≡ true → IsNext p call
  follows-next pid doom p (calls.Withdraw name) there h =
      (and_parts p.parked (is_parked_at pid name (due p.place)) h).0
  follows-next pid doom p call there h =
      let q = and_parts (not p.parked) (may_stand script doom (due_by doom (due p.place)) call) h in
      (is-not p.parked q.0, place-due p.place call there doom (due p.place) refl q.1)

  -- what is judged to have no fault goes on

  goes-with : (so_far after : SoFar) (e : Entry) → is_call script e.call ≡ true → is_outcome e.outcome ≡ true
      → (o : Option Progress) → get so_far.places e.pid ≡ o
      → option_map_or (λ p. may_follow script e.pid (doom_at so_far e.pid) p e.call) o false ≡ true
      → (s : Successor) → transition so_far.kernel e.pid e.call (number_in e.outcome.own) ≡ Some s
      → is_same_outcome s.outcome e.outcome ≡ true
      → record { kernel = s.kernel; places = places_with script so_far.places e.pid e.call e.outcome o } ≡ after
      → GoesOn script so_far e after
  goes-with so_far after e c g None there may s step same is = absurd (cc)
  goes-with so_far after e c g (Some p) there may s step same is =
      let kernel : s.kernel ≡ after.kernel = ap (λ (x : SoFar). x.kernel) is in
      record {
        step = step ∙ ap (λ (x : Outcome). Some (successor s.kernel x)) (same-outcome s.outcome e.outcome g same)
            ∙ ap (λ (x : Kernel). Some (successor x e.outcome)) kernel;
        progress = p;
        there = there;
        next = follows-next e.pid (doom_at so_far e.pid) p e.call c may;
        moved = ap (λ (x : SoFar). x.places) (sym is);
      }

  replied-with : (so_far after : SoFar) (e : Entry) → is_call script e.call ≡ true → is_outcome e.outcome ≡ true
      → (line : ℕ) → may_come script so_far e.pid e.call ≡ true
      → (s : Successor) → transition so_far.kernel e.pid e.call (number_in e.outcome.own) ≡ Some s
      → (same : Bool) → is_same_outcome s.outcome e.outcome ≡ same
      → or_fault (cond same (Ok s.kernel) (Err (Illegal line (Some s.outcome) e.outcome)))
      (λ kernel. Ok (with_call script so_far e.pid e.call e.outcome kernel)) ≡ Ok after
      → GoesOn script so_far e after
  replied-with so_far after e c g line may s step false same h = absurd (cc)
  replied-with so_far after e c g line may s step true same h =
      let is : with_call script so_far e.pid e.call e.outcome s.kernel ≡ after = cc in
      goes-with so_far after e c g (get so_far.places e.pid) refl may s step same is

  carried-out : (so_far after : SoFar) (e : Entry) → is_call script e.call ≡ true → is_outcome e.outcome ≡ true
      → (line : ℕ) → may_come script so_far e.pid e.call ≡ true
      → (t : Option Successor) → transition so_far.kernel e.pid e.call (number_in e.outcome.own) ≡ t
      → or_fault (judge_outcome line e.outcome t)
      (λ kernel. Ok (with_call script so_far e.pid e.call e.outcome kernel)) ≡ Ok after
      → GoesOn script so_far e after
  carried-out so_far after e c g line may None step h = absurd (cc)
  carried-out so_far after e c g line may (Some s) step h =
      replied-with so_far after e c g line may s step (is_same_outcome s.outcome e.outcome) refl h

  stands : (so_far after : SoFar) (e : Entry) → is_call script e.call ≡ true → is_outcome e.outcome ≡ true
      → (line : ℕ) → (may : Bool) → may_come script so_far e.pid e.call ≡ may
      → cond may (or_fault (judge_outcome line e.outcome
      (transition so_far.kernel e.pid e.call (number_in e.outcome.own)))
      (λ kernel. Ok (with_call script so_far e.pid e.call e.outcome kernel)))
      (Err (NotTheScript line (due_at so_far e.pid) (Some e.call))) ≡ Ok after
      → GoesOn script so_far e after
  stands so_far after e c g line false may h = absurd (cc)
  stands so_far after e c g line true may h =
      carried-out so_far after e c g line may (transition so_far.kernel e.pid e.call (number_in e.outcome.own)) refl h

  -- an entry in the grammar that is judged to have no fault goes on
  pub judged-goes-on : (line : ℕ) (so_far after : SoFar) (e : Entry) → is_entry script e ≡ true
      → judge_entry script line so_far e ≡ Ok after → GoesOn script so_far e after
  judged-goes-on line so_far after e there h =
      let g = in-grammar script e there in
      stands so_far after e g.call g.outcome line (may_come script so_far e.pid e.call) refl h

  -- what is due may stand

  or-right : (b : Bool) → (b || true) ≡ true
  or-right true = refl
  or-right false = refl

  free-stands : (place : Place) (call : Call) → is_call script call ≡ true → IsDue place call → (d : Option Call)
      → due place ≡ d → may_stand script None (due_by None d) call ≡ true
  free-stands place call there (inl is) None at = let no : Some call ≡ None = sym is ∙ at in absurd (cc)
  free-stands place call there (inl is) (Some d) at =
      let same : call ≡ d = same_Some call d (sym is ∙ at) in
      let itself : is_same_call script d call ≡ true =
      ap (λ (c : Call). is_same_call script c call) (sym same) ∙ call-itself script call there in
      rw itself refl
  free-stands place call there (inr (killed, other, is)) None at =
      let no : Some other ≡ None = sym is ∙ at in absurd (cc)
  free-stands place call there (inr (killed, other, is)) (Some d) at =
      rw killed (or-right (is_same_call script d call))

  has-call : (place : Place) (call : Call) → IsDue place call → (d : Option Call) → due place ≡ d → is_some d ≡ true
  has-call place call (inl is) None at = let no : Some call ≡ None = sym is ∙ at in absurd (cc)
  has-call place call (inr (killed, other, is)) None at = let no : Some other ≡ None = sym is ∙ at in absurd (cc)
  has-call place call x (Some d) at = refl

  end-stands : (call : Call) (sig : Sig) → is_call script call ≡ true → calls.Killed sig ≡ call → (d : Option Call)
      → is_some d ≡ true → may_stand script (Some sig) (due_by (Some sig) d) call ≡ true
  end-stands call sig there is None some = absurd (cc)
  end-stands call sig there is (Some d) some =
      let itself : is_same_call script (calls.Killed sig) call ≡ true =
      ap (λ (c : Call). is_same_call script c call) is ∙ call-itself script call there in
      rw itself refl

  doom-stands : (place : Place) (call : Call) → is_call script call ≡ true → IsDue place call → (k : Kernel) (pid n : ℕ)
      → (s : Successor) → withdrawn_from call ≡ None → transition k pid call n ≡ Some s → (doom : Option Sig)
      → last_doom (living_at k pid) ≡ doom → may_stand script doom (due_by doom (due place)) call ≡ true
  doom-stands place call there is k pid n s plain step None doom = free-stands place call there is (due place) refl
  doom-stands place call there is k pid n s plain step (Some sig) doom =
      let m = makes k pid call n s plain step in
      let last = last-is m.alive sig (ap last_doom (sym m.lives) ∙ doom) in
      let end = spent-ends m.alive call last.spent m.may in
      let same : sig ≡ end.sig = doom-ends m.alive.row.signals.doom sig end.sig last.doom end.dooms in
      let killed : calls.Killed sig ≡ call = ap (λ (g : Sig). calls.Killed g) same ∙ sym end.is in
      end-stands call sig there killed (due place) (has-call place call is (due place) refl)

  -- a withdrawal that the kernel carries out is from where the process waits
  leaves-there : (k : Kernel) (pid : ℕ) (name : Name) (n : ℕ) (s : Successor) (p : Progress)
      → transition k pid (calls.Withdraw name) n ≡ Some s → mark_in k.processes pid ≡ due p.place
      → is_parked_at pid name (due p.place) ≡ true
  leaves-there k pid name n s p step waits =
      let l = leaves k pid name n s step in
      let mark : due p.place ≡ l.alive.marks.parked = sym waits ∙ ap mark_of l.lives in
      ap (is_parked_at pid name) mark
      ∙ (and_parts l.alive.marks.struck (is_parked_at pid name l.alive.marks.parked) l.may).1

  -- what is next may follow, where the kernel has the process parked with the call that waits
  pub next-follows : (k : Kernel) (pid n : ℕ) (s : Successor) (p : Progress) (call : Call) → is_call script call ≡ true
      → transition k pid call n ≡ Some s → IsNext p call
      → (p.parked ≡ true → mark_in k.processes pid ≡ due p.place)
      → may_follow script pid (last_doom (living_at k pid)) p call ≡ true
  next-follows k pid n s p (calls.Withdraw name) there step next waits =
      and_from p.parked (is_parked_at pid name (due p.place)) next
      (leaves-there k pid name n s p step (waits next))
  next-follows k pid n s p call there step next waits =
      let doom : Option Sig = last_doom (living_at k pid) in
      and_from (not p.parked) (may_stand script doom (due_by doom (due p.place)) call) (ap not next.0)
      (doom-stands p.place call there next.1 k pid n s refl step doom refl)

  -- an entry in the grammar that goes on is judged to have no fault
  pub goes-on-judged : (line : ℕ) (so_far : SoFar) (e : Entry) (kernel : Kernel) (p : Progress)
      → is_entry script e ≡ true
      → transition so_far.kernel e.pid e.call (number_in e.outcome.own) ≡ Some (successor kernel e.outcome)
      → get so_far.places e.pid ≡ Some p → IsNext p e.call
      → (p.parked ≡ true → mark_in so_far.kernel.processes e.pid ≡ due p.place)
      → judge_entry script line so_far e
      ≡ Ok (record { kernel = kernel; places = places_after script so_far.places e p })
  goes-on-judged line so_far e kernel p there step at next waits =
      let g = in-grammar script e there in
      let may : may_come script so_far e.pid e.call ≡ true =
      ap (λ (o : Option Progress).
      option_map_or (λ x. may_follow script e.pid (doom_at so_far e.pid) x e.call) o false) at
      ∙ next-follows so_far.kernel e.pid (number_in e.outcome.own) (successor kernel e.outcome) p e.call g.call step
      next waits in
      let same : is_same_outcome e.outcome e.outcome ≡ true = outcome-itself e.outcome g.outcome in
      rw (may, step, same, at) refl
