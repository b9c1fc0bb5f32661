-- From a call's effect to the kernel's transition: what a process may still do is no part of a body.
use Rattle.std.proofs.Common.{◌≡◌, ◌≢◌, ◌∙◌, ℕ, Bool, true, false, nat_eq, arith, Option, Some, None, refl, sym, ap, subst}
use Rattle.std.specs.Prelude.{if◌then◌else◌, is_some}
use Rattle.pico_base.specs.declared.call.Call.{Call}
use Rattle.pico_base.specs.declared.numbers.Name.{Name}
use Rattle.pico_base.specs.declared.numbers.Name.TheVariants.{Proc, Msg, Sem}
use Rattle.pico_base.specs.declared.reply.Outcome.{Outcome}
use Rattle.number_maps.specs.Maps.{get, put}
use Rattle.kernel_model.specs.Row.{Alive, Spent}
use Rattle.kernel_model.specs.Kernel.{Kernel, living_at, with_alive}
use Rattle.kernel_model.specs.Kernel as kernel
use Rattle.kernel_model.specs.Effect.{Effect, reply_alone}
use Rattle.kernel_model.specs.Transition.{Successor, successor, effect, finish_call, may_make, outcome_of, transition_by}
use Rattle.kernel_model.specs.Valid.{IsValid}
use Rattle.number_maps.proofs.LookUps.{get-put-same, get-put-other}
use Rattle.node_model.specs.Bodies.{Body, body_in, process_body}
use Rattle.node_model.specs.Serving.{name_for}
use Rattle.node_model.specs.Carrying.{Done, is_served, on_body}
use Rattle.serve_laws.specs.Laws.{Follows, IsServed, ServedCallsAreTheKernels}
use Rattle.serve_laws.proofs.Follow.{same_living}
use Rattle.serve_laws.proofs.Effects.{Serves, effect-serves, valid-apart}

same_number : (p q : ℕ) → nat_eq p q ≡ true → p ≡ q
same_number p q h = grind arith

apart_numbers : (p q : ℕ) → nat_eq p q ≡ false → p ≢ q
apart_numbers p q h = grind arith

-- another allowance leaves each body
allowed : (k : Kernel) (pid : ℕ) (a : Alive) → living_at k pid ≡ Some a → (name : Name)
    → body_in (with_alive k pid (record a { allowance = Spent })) name ≡ body_in k name
allowed k pid a lives (Msg id) = refl
allowed k pid a lives (Sem id) = refl
allowed k pid a lives (Proc p) = by (nat_eq p pid) refl
  where
    by : (b : Bool) → nat_eq p pid ≡ b
        → process_body (get (put k.processes pid (kernel.Living (record a { allowance = Spent }))) p)
        ≡ process_body (get k.processes p)
    by true is =
        let same : p ≡ pid = same_number p pid is
        in subst (λ (q : ℕ). process_body (get (put k.processes pid (kernel.Living (record a { allowance = Spent }))) q)
        ≡ process_body (get k.processes q)) (sym same)
        (ap process_body (get-put-same k.processes pid (kernel.Living (record a { allowance = Spent })))
        ∙ sym (ap process_body (same_living (get k.processes pid) a lives)))
    by false is = ap process_body
        (get-put-other k.processes pid (kernel.Living (record a { allowance = Spent })) p (apart_numbers p pid is))

finished : (k : Kernel) (pid : ℕ) (o : Option Alive) → living_at k pid ≡ o → (name : Name)
    → body_in (finish_call k pid o) name ≡ body_in k name
finished k pid None lives name = refl
finished k pid (Some a) lives name = by (is_some a.row.signals.doom)
  where
    by : (b : Bool) → body_in (if b then with_alive k pid (record a { allowance = Spent }) else k) name ≡ body_in k name
    by true = allowed k pid a lives name
    by false = refl

follows_on : (k : Kernel) (name : Name) (d : Done Body) (e : Effect) (next : Kernel)
    → ((other : Name) → body_in next other ≡ body_in e.kernel other)
    → Follows k name d e.kernel e.reply → Follows k name d next e.reply
follows_on k name d e next same f = record {
  reply = f.reply;
  there = same name ∙ f.there;
  found = λ other yes. same other ∙ f.found other yes;
  others = λ other apart not_found. same other ∙ f.others other apart not_found;
}

module _ (k : Kernel) (pid n : ℕ) (call : Call) (name : Name) (next : Kernel) (outcome : Outcome) (valid : IsValid k)
    (served : is_served call ≡ true) (named : name_for pid call ≡ Some name) where
  of_outcome : (a : Alive) (o : Option Effect) → living_at k pid ≡ Some a → effect k pid a call n ≡ o
      → outcome_of pid o ≡ Some (successor next outcome) → IsServed k pid call name next outcome
  unfolding Serves
  of_outcome a None lives eff gives = absurd (cc)
  of_outcome a (Some e) lives eff gives =
      let to : successor (finish_call e.kernel pid (living_at e.kernel pid)) (reply_alone e.reply)
      ≡ successor next outcome = cc
      in let kernels : finish_call e.kernel pid (living_at e.kernel pid) ≡ next = ap (λ (s : Successor). s.kernel) to
      in let outcomes : reply_alone e.reply ≡ outcome = ap (λ (s : Successor). s.outcome) to
      in record {
        answer = e.reply;
        alone = sym outcomes;
        follows = follows_on k name (on_body name (body_in k name) pid call) e next
            (λ other. ap (λ (j : Kernel). body_in j other) (sym kernels)
            ∙ finished e.kernel pid (living_at e.kernel pid) refl other)
            (effect-serves k pid n a call name e served
            (λ _. record { lives = lives; apart = valid-apart k pid a valid lives }) named eff);
      }

  of_may : (a : Alive) (b : Bool) → living_at k pid ≡ Some a
      → (if b then outcome_of pid (effect k pid a call n) else None) ≡ Some (successor next outcome)
      → IsServed k pid call name next outcome
  of_may a true lives gives = of_outcome a (effect k pid a call n) lives refl gives
  of_may a false lives gives = absurd (cc)

  of_living : (o : Option Alive) → living_at k pid ≡ o → transition_by k pid call n o ≡ Some (successor next outcome)
      → IsServed k pid call name next outcome
  of_living None lives gives = absurd (cc)
  of_living (Some a) lives gives = of_may a (may_make a call) lives gives

-- a served call is the kernel's transition
pub served-calls : ServedCallsAreTheKernels
served-calls k pid n call name next outcome valid served named gives =
    of_living k pid n call name next outcome valid served named (living_at k pid) refl gives
