-- Histories in which nobody waits.
use Rattle.std.proofs.Common.{◌≡◌, ◌∙◌, ℕ, Bool, true, false, List, [], ◌∷◌, Option, Some, None, refl, ap, sym, subst, inl, inr}
use Rattle.std.specs.Prelude.{if◌then◌else◌}
use Rattle.std.proofs.lemmas.Bool.{false≢true, cases_Bool}
use Rattle.pico_base.specs.declared.call.Call.{Call}
use Rattle.pico_base.specs.declared.call.Call.TheVariants as calls
use Rattle.pico_base.specs.declared.reply.Entry.{Entry}
use Rattle.pico_base.specs.declared.reply.Outcome.{Outcome}
use Rattle.number_maps.proofs.Rising.{rising-nothing}
use Rattle.number_maps.specs.Maps.{get}
use Rattle.kernel_model.specs.Effect as plain_effects
use Rattle.kernel_model.specs.Queue.{Queue}
use Rattle.kernel_model.specs.SemaphoreSet.{SemaphoreSet, op}
use Rattle.kernel_model.specs.SetCalls.{change_set}
use Rattle.kernel_model.specs.History.{number_in}
use Rattle.kernel_model.specs.History as plain_history
use Rattle.kernel_model.specs.Kernel as plain_kernels
use Rattle.kernel_model.specs.Row as plain_rows
use Rattle.kernel_model.specs.Waiting.{is_waiting}
use Rattle.kernel_model.specs.Transition as plain
use Rattle.waiting_model.specs.Calls.{may_park}
use Rattle.waiting_model.specs.Waiters.{Awaited}
use Rattle.waiting_model.specs.Kernel.{Kernel, opening}
use Rattle.waiting_model.specs.Transition.{Successor, successor, transition}
use Rattle.waiting_model.specs.History.{Replays}
use Rattle.waiting_model.specs.Plain.{plain_kernel, NobodyWaits}
use Rattle.waiting_laws.specs.Before.{LeadsAlike, LeadAlike, NeverMayPark, HistoriesAreAsBefore}
use Rattle.waiting_laws.proofs.Transitions.{calls-as-before}

-- A call that may have to wait had no effect, nor had a withdrawal.

pub no-effect : (k : plain_kernels.Kernel) (pid : ℕ) (a : plain_rows.Alive) (call : Call) (n : ℕ)
    → is_waiting call ≡ true → plain.effect k pid a call n ≡ None
no-effect k pid a (calls.MsgSnd id class text false) n h = refl
no-effect k pid a (calls.MsgRcv id class size noerror false) n h = refl
no-effect k pid a (calls.WaitPid child false) n h = refl
no-effect k pid a (calls.Withdraw name) n h = refl
no-effect k pid a (calls.SemOp id steps) n h =
    ap
    (λ (b : Bool).
    (if b then None
    else Some (plain_effects.on_named k (get k.sets id) (λ set. change_set k id (op set pid steps)))))
    h
no-effect k pid a (calls.MsgSnd id class text true) n h = absurd (false≢true h)
no-effect k pid a (calls.MsgRcv id class size noerror true) n h = absurd (false≢true h)
no-effect k pid a (calls.WaitPid child true) n h = absurd (false≢true h)
no-effect k pid a call n h = absurd (false≢true h)

nothing-if : (b : Bool) (x : Option plain.Successor) → x ≡ None → (if b then x else None) ≡ None
nothing-if true x h = h
nothing-if false x h = refl

no-result : (k : plain_kernels.Kernel) (pid : ℕ) (call : Call) (n : ℕ) → is_waiting call ≡ true
    → (o : Option plain_rows.Alive) → plain.transition_by k pid call n o ≡ None
no-result k pid call n h None = refl
no-result k pid call n h (Some a) =
    nothing-if (plain.may_make a call) (plain.outcome_of pid (plain.effect k pid a call n))
    (ap (plain.outcome_of pid) (no-effect k pid a call n h))

nothing-is-something : {A B : Type 0} (a : A) (o : Option A) → o ≡ None → o ≡ Some a → B
nothing-is-something a o h g = cc

-- a call that had a result is in no form that may wait, and ends no wait
pub never-waits : (k : plain_kernels.Kernel) (pid : ℕ) (call : Call) (n : ℕ) (s : plain.Successor)
    → plain.transition k pid call n ≡ Some s → is_waiting call ≡ false
never-waits k pid call n s h =
    elim (cases_Bool (is_waiting call)) [
      | inl may ↦
          nothing-is-something s (plain.transition k pid call n)
          (no-result k pid call n may (plain_kernels.living_at k pid)) h
      | inr not_ ↦ not_
    ]

-- so it can't park
parks-not : (call : Call) → is_waiting call ≡ false → may_park call ≡ false
parks-not (calls.Withdraw name) h = refl
parks-not call h = h

-- Where one has a result, the other has one too.

record LedTo (x : Option Successor) (p : plain.Successor) : Type 0 where
  next : Successor
  is : x ≡ Some next
  alike : LeadsAlike next p

led-to : (x : Option Successor) (y : Option plain.Successor) (p : plain.Successor) → LeadAlike x y → y ≡ Some p
    → LedTo x p
led-to None None p h g = absurd (let no : None ≡ Some p = g in nothing-is-something p None refl no)
led-to None (Some q) p h g = absurd h
led-to (Some s) None p h g = absurd h
led-to (Some s) (Some q) p h g =
    let same : q ≡ p = cc
    in record { next = s; is = refl; alike = subst (λ (r : plain.Successor). LeadsAlike s r) same h }

record LedFrom (y : Option plain.Successor) (s : Successor) : Type 0 where
  next : plain.Successor
  is : y ≡ Some next
  alike : LeadsAlike s next

led-from : (x : Option Successor) (y : Option plain.Successor) (s : Successor) → LeadAlike x y → x ≡ Some s
    → LedFrom y s
led-from None None s h g = absurd (let no : None ≡ Some s = g in nothing-is-something s None refl no)
led-from None (Some q) s h g = absurd h
led-from (Some r) None s h g = absurd h
led-from (Some r) (Some q) s h g =
    let same : r ≡ s = cc
    in record { next = q; is = refl; alike = subst (λ (t : Successor). LeadsAlike t q) same h }

record Leads (k : Kernel) (h : List Entry) : Type 0 where
  last : Kernel
  replays : Replays k h last

legal-still : (h : List Entry) (last : plain_kernels.Kernel) (k : Kernel) → NobodyWaits k
    → plain_history.Replays (plain_kernel k) h last → Leads k h
legal-still [] last k quiet r = record { last = k; replays = refl }
legal-still (e ∷ es) last k quiet r =
    let n = number_in e.outcome.own
    in let p = plain.successor r.next e.outcome
    in let never : may_park e.call ≡ false =
    parks-not e.call (never-waits (plain_kernel k) e.pid e.call n p r.step)
    in let led : LedTo (transition k e.pid e.call n) p =
    led-to (transition k e.pid e.call n) (plain.transition (plain_kernel k) e.pid e.call n) p
    (calls-as-before k e.pid e.call n quiet never) r.step
    in let on : plain_history.Replays (plain_kernel led.next.kernel) es last =
    subst (λ (q : plain_kernels.Kernel). plain_history.Replays q es last) (sym led.alike.kernel) r.rest
    in let rest : Leads led.next.kernel es = legal-still es last led.next.kernel led.alike.quiet on
    in record {
      last = rest.last;
      replays = record {
        next = led.next.kernel;
        step =
            led.is
            ∙ ap (λ (o : Outcome). (let s : Option Successor = Some (successor led.next.kernel o) in s))
            led.alike.outcome;
        rest = rest.replays;
      };
    }

record Led (k : plain_kernels.Kernel) (h : List Entry) : Type 0 where
  last : plain_kernels.Kernel
  replays : plain_history.Replays k h last

legal-before : (h : List Entry) (last : Kernel) (k : Kernel) → NobodyWaits k → NeverMayPark h
    → Replays k h last → Led (plain_kernel k) h
legal-before [] last k quiet never r = record { last = plain_kernel k; replays = refl }
legal-before (e ∷ es) last k quiet never r =
    let n = number_in e.outcome.own
    in let s = successor r.next e.outcome
    in let led : LedFrom (plain.transition (plain_kernel k) e.pid e.call n) s =
    led-from (transition k e.pid e.call n) (plain.transition (plain_kernel k) e.pid e.call n) s
    (calls-as-before k e.pid e.call n quiet never.0) r.step
    in let rest : Led (plain_kernel r.next) es = legal-before es last r.next led.alike.quiet never.1 r.rest
    in let on : plain_history.Replays led.next.kernel es rest.last =
    subst (λ (q : plain_kernels.Kernel). plain_history.Replays q es rest.last) led.alike.kernel rest.replays
    in record {
      last = rest.last;
      replays = record {
        next = led.next.kernel;
        step =
            led.is
            ∙ ap
            (λ (o : Outcome). (let t : Option plain.Successor = Some (plain.successor led.next.kernel o) in t))
            (sym led.alike.outcome);
        rest = on;
      };
    }

opening-quiet : NobodyWaits opening
opening-quiet =
    record {
      processes = (refl, tt);
      queues = tt;
      sets = tt;
      queues_rise = rising-nothing (Awaited Queue);
      sets_rise = rising-nothing (Awaited SemaphoreSet);
    }

-- the opening kernel has nobody who waits, so histories go on alike from it
pub histories-as-before : HistoriesAreAsBefore
histories-as-before = (
  λ h legal.
      (let still : Leads opening h = legal-still h legal.last opening opening-quiet legal.replays
      in record { last = still.last; replays = still.replays }),
  λ h never legal.
      (let before : Led (plain_kernel opening) h =
      legal-before h legal.last opening opening-quiet never legal.replays
      in record { last = before.last; replays = before.replays }),
)
