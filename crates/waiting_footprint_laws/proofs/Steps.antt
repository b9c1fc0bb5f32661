-- From the same effect to the same transition.
use Rattle.std.proofs.Common.{◌≡◌, ◌∙◌, ℕ, Bool, true, false, not, ◌&&◌, cond, map, List, Option, Some, None, is_some, refl, ap, sym, subst}
use Rattle.std.specs.Option.{option_map, option_and_then}
use Rattle.pico_base.specs.declared.call.Call.{Call}
use Rattle.pico_base.specs.declared.numbers.Name.{Name}
use Rattle.pico_base.specs.declared.reply.Outcome.{Outcome}
use Rattle.pico_base.specs.declared.reply.Reply.{Reply}
use Rattle.number_maps.specs.Maps.{get, is_used}
use Rattle.kernel_model.specs.Transition.{is_spent}
use Rattle.waiting_model.specs.declared.callers.Wake.{Wake}
use Rattle.waiting_model.specs.Calls.{withdrawn_from}
use Rattle.waiting_model.specs.Waiters.{waiter}
use Rattle.waiting_model.specs.Marks.{Alive, Marks}
use Rattle.waiting_model.specs.Kernel.{Kernel, alive_in, living_at}
use Rattle.waiting_model.specs.Effect.{Effect, outcome_of_effect, woken_pair}
use Rattle.waiting_model.specs.Transition.{successor, effect, finish_call, may_make, outcome_of, step_by, transition, transition_by}
use Rattle.waiting_footprint_laws.specs.Footprint.{Part, footprint, used_for}
use Rattle.waiting_footprint_laws.specs.Law.{AgreeOn}
use Rattle.waiting_footprint_laws.specs.Valid.{IsValid}
use Rattle.waiting_footprint_laws.proofs.Effects.{AlikeStep, AlikeSteps, SameEffect, SameEffects, has_marks, marks-same, step-from}
use Rattle.waiting_footprint_laws.proofs.Finish.{finished-step}

-- the footprint's law at one call: kernels that agree on its footprint make the same step there
abbrev pub LawAt : Kernel → Kernel → ℕ → Call → ℕ → Type 0
LawAt j k pid call n =
    IsValid j → IsValid k → AgreeOn (footprint j pid call n) j k
    → is_used (used_for j call) n ≡ false → is_used (used_for k call) n ≡ false
    → AlikeSteps (footprint j pid call n) j k (transition j pid call n) (transition k pid call n)

-- whether the call may be made is told by the caller's marks
abbrev pub IsByMarks : Call → Type 0
IsByMarks call = (a : Alive) → may_make a call ≡ not (is_some a.marks.parked) && not (is_spent a.marks.allowance)

abbrev outcome_from : Option Reply → List Wake → Outcome
outcome_from own wakes = record { own = own; woken = map woken_pair wakes }

-- the same reply and the same wakes are the same outcome
outcomes-same : (e f : Effect) → e.own ≡ f.own → e.wakes ≡ f.wakes → outcome_of_effect e ≡ outcome_of_effect f
outcomes-same e f x y = ap (λ own. outcome_from own e.wakes) x ∙ ap (λ wakes. outcome_from f.own wakes) y

module _ (parts : List Part) (n : ℕ) (j k : Kernel) (pid : ℕ) (call : Call) (h : AgreeOn parts j k)
    (marked : has_marks parts pid ≡ true) (vj : IsValid j) (vk : IsValid k) where
  outcome-by : (e f : Effect) → SameEffect parts j k e f
      → AlikeStep parts j k (successor (finish_call e.kernel pid call e.own) (outcome_of_effect e))
      (successor (finish_call f.kernel pid call f.own) (outcome_of_effect f))
  outcome-by e f s =
      subst (λ (own : Option Reply).
      AlikeStep parts j k (successor (finish_call e.kernel pid call e.own) (outcome_of_effect e))
      (successor (finish_call f.kernel pid call own) (outcome_of_effect f))) s.own
      (step-from parts (outcome_of_effect e) (outcome_of_effect f) j k (finish_call e.kernel pid call e.own)
      (finish_call f.kernel pid call e.own) (outcomes-same e f s.own s.wakes) h
      (finished-step parts j k h pid marked e.kernel f.kernel call e.own vj vk s.step))

  outcomes-by : (x y : Option Effect) → SameEffects parts j k x y
      → AlikeSteps parts j k (outcome_of pid call x) (outcome_of pid call y)
  outcomes-by None None s = tt
  outcomes-by None (Some f) s = absurd s
  outcomes-by (Some e) None s = absurd s
  outcomes-by (Some e) (Some f) s = outcome-by e f s

  made-by : (b c : Bool) (x y : Option Effect) → b ≡ c → SameEffects parts j k x y
      → AlikeSteps parts j k (cond b (outcome_of pid call x) None) (cond c (outcome_of pid call y) None)
  made-by true true x y e s = outcomes-by x y s
  made-by false false x y e s = tt
  made-by true false x y e s = cc
  made-by false true x y e s = cc

  -- two callers with the same marks make the same step
  abbrev AlikeCallers : Type 0
  AlikeCallers =
      (a b : Alive) → living_at j pid ≡ Some a → living_at k pid ≡ Some b → a.marks ≡ b.marks
      → (may_make a call ≡ may_make b call)
      × SameEffects parts j k (effect j (waiter pid call) a n) (effect k (waiter pid call) b n)

  step-by : (o : Option Name) → o ≡ None → (a b : Alive)
      → (may_make a call ≡ may_make b call)
      × SameEffects parts j k (effect j (waiter pid call) a n) (effect k (waiter pid call) b n)
      → AlikeSteps parts j k (step_by j pid call n a o) (step_by k pid call n b o)
  step-by None plain a b s = made-by _ _ _ _ s.0 s.1
  step-by (Some name) plain a b s = cc

  living-by : (o p : Option Alive) → living_at j pid ≡ o → living_at k pid ≡ p
      → option_map (λ (a : Alive). a.marks) o ≡ option_map (λ (a : Alive). a.marks) p
      → withdrawn_from call ≡ None → AlikeCallers
      → AlikeSteps parts j k (transition_by j pid call n o) (transition_by k pid call n p)
  living-by None None x y e plain s = tt
  living-by None (Some b) x y e plain s = cc
  living-by (Some a) None x y e plain s = cc
  living-by (Some a) (Some b) x y e plain s =
      let same : a.marks ≡ b.marks = cc
      in step-by (withdrawn_from call) plain a b (s a b x y same)

  -- the steps of a call that is no withdrawal
  pub steps-by : withdrawn_from call ≡ None → AlikeCallers
      → AlikeSteps parts j k (transition j pid call n) (transition k pid call n)
  steps-by plain s =
      living-by (living_at j pid) (living_at k pid) refl refl (marks-same parts pid j k marked h) plain s

  -- those of a call at another's home, which looks at nothing of the caller but its marks
  pub away-steps : withdrawn_from call ≡ None → IsByMarks call
      → ((a b : Alive) → SameEffects parts j k (effect j (waiter pid call) a n) (effect k (waiter pid call) b n))
      → AlikeSteps parts j k (transition j pid call n) (transition k pid call n)
  away-steps plain by_marks s =
      steps-by plain (λ a b x y same. (
        by_marks a ∙ ap (λ (m : Marks). not (is_some m.parked) && not (is_spent m.allowance)) same ∙ sym (by_marks b),
        s a b,
      ))

  -- those of a call at the caller's own home, which is the same in both
  pub whole-steps : withdrawn_from call ≡ None → get j.processes pid ≡ get k.processes pid
      → ((a : Alive) → living_at j pid ≡ Some a
      → SameEffects parts j k (effect j (waiter pid call) a n) (effect k (waiter pid call) a n))
      → AlikeSteps parts j k (transition j pid call n) (transition k pid call n)
  whole-steps plain same s =
      steps-by plain (λ a b x y marks.
      (let alike : Some a ≡ Some b = sym x ∙ ap (option_and_then alive_in) same ∙ y
      in let is : a ≡ b = cc
      in (
        ap (λ (c : Alive). may_make c call) is,
        subst
            (λ (c : Alive). SameEffects parts j k (effect j (waiter pid call) a n) (effect k (waiter pid call) c n)) is
            (s a x),
      )))
