-- What a transition is made of: a living caller, the effect of its call, and what follows from it.
use Rattle.std.proofs.Common.{◌≡◌, ℕ, Bool, true, false, Option, Some, None, refl, ap}
use Rattle.std.specs.Prelude.{if◌then◌else◌}
use Rattle.pico_base.specs.declared.call.Call.{Call}
use Rattle.pico_base.specs.declared.reply.Outcome.{Outcome}
use Rattle.kernel_laws.proofs.Plain.{from_some, not_some}
use Rattle.kernel_model.specs.Row.{Alive}
use Rattle.kernel_model.specs.Kernel.{Kernel, living_at}
use Rattle.kernel_model.specs.Effect.{Effect, reply_alone}
use Rattle.kernel_model.specs.Transition.{Successor, successor, effect, may_make, finish_call, outcome_of, transition_by, transition}

pub record Step (k : Kernel) (pid : ℕ) (call : Call) (n : ℕ) (next : Kernel) (outcome : Outcome) : Type 0 where
  pub alive : Alive
  pub result : Effect
  pub lives : living_at k pid ≡ Some alive
  pub gives : effect k pid alive call n ≡ Some result
  pub leads : finish_call result.kernel pid (living_at result.kernel pid) ≡ next
  pub says : Some result.reply ≡ outcome.own

from_effect : (k : Kernel) (pid : ℕ) (call : Call) (n : ℕ) (next : Kernel) (outcome : Outcome) (a : Alive)
    → living_at k pid ≡ Some a
    → (e : Option Effect) → effect k pid a call n ≡ e → outcome_of pid e ≡ Some (successor next outcome)
    → Step k pid call n next outcome
from_effect k pid call n next outcome a l None g h = not_some (successor next outcome) h
from_effect k pid call n next outcome a l (Some e) g h =
    let same = from_some (successor (finish_call e.kernel pid (living_at e.kernel pid)) (reply_alone e.reply))
    (successor next outcome) h
    in record {
      alive = a;
      result = e;
      lives = l;
      gives = g;
      leads = ap (λ (r : Successor). r.kernel) same;
      says = ap (λ (r : Successor). r.outcome.own) same;
    }

from_may : (k : Kernel) (pid : ℕ) (call : Call) (n : ℕ) (next : Kernel) (outcome : Outcome) (a : Alive)
    → living_at k pid ≡ Some a
    → (may : Bool) → (if may then outcome_of pid (effect k pid a call n) else None) ≡ Some (successor next outcome)
    → Step k pid call n next outcome
from_may k pid call n next outcome a l false h = not_some (successor next outcome) h
from_may k pid call n next outcome a l true h = from_effect k pid call n next outcome a l (effect k pid a call n) refl h

from_living : (k : Kernel) (pid : ℕ) (call : Call) (n : ℕ) (next : Kernel) (outcome : Outcome) (found : Option Alive)
    → living_at k pid ≡ found
    → transition_by k pid call n found ≡ Some (successor next outcome) → Step k pid call n next outcome
from_living k pid call n next outcome None l h = not_some (successor next outcome) h
from_living k pid call n next outcome (Some a) l h = from_may k pid call n next outcome a l (may_make a call) h

-- a transition, part by part
pub step : (k : Kernel) (pid : ℕ) (call : Call) (n : ℕ) (next : Kernel) (outcome : Outcome)
    → transition k pid call n ≡ Some (successor next outcome)
    → Step k pid call n next outcome
step k pid call n next outcome h = from_living k pid call n next outcome (living_at k pid) refl h
