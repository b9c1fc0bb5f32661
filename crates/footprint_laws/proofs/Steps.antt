-- From the same effect to the same transition.
use Rattle.std.proofs.Common.{◌≡◌, ℕ, Bool, true, false, cond, List, Option, Some, None, refl, ap, sym, subst}
use Rattle.std.specs.Option.{option_map, option_and_then}
use Rattle.pico_base.specs.declared.call.Call.{Call}
use Rattle.number_maps.specs.Maps.{get}
use Rattle.kernel_model.specs.Row.{Alive}
use Rattle.kernel_model.specs.Kernel.{Kernel, alive_in, living_at}
use Rattle.kernel_model.specs.Effect.{Effect, reply_alone}
use Rattle.kernel_model.specs.Transition.{successor, effect, may_make, outcome_of, transition, transition_by}
use Rattle.kernel_model.specs.Valid.{IsValid}
use Rattle.kernel_model.specs.Footprint.{Part}
use Rattle.kernel_model.specs.FootprintLaw.{AgreeOn, allowance_at}
use Rattle.footprint_laws.proofs.Change.{has_whole, has_parent, SameEffect, SameEffects}
use Rattle.footprint_laws.proofs.Stepped.{Stepped, AlikeStep, AlikeSteps, step-from, has_allowance}
use Rattle.footprint_laws.proofs.Finish.{whole-stepped, away-stepped}

-- the replies are the same
step-by : (parts : List Part) (j k : Kernel) (e f : Effect) (to_j to_k : Kernel) → AgreeOn parts j k
    → SameEffect parts j k e f
    → Stepped parts j k to_j to_k
    → AlikeStep parts j k (successor to_j (reply_alone e.reply)) (successor to_k (reply_alone f.reply))
step-by parts j k e f to_j to_k h s t =
    subst (λ r. AlikeStep parts j k (successor to_j (reply_alone e.reply)) (successor to_k (reply_alone r))) s.reply
    (step-from parts e.reply j k to_j to_k h t)

-- the whole caller is a part

module _ (parts : List Part) (n : ℕ) (j k : Kernel) (pid : ℕ) (call : Call) (h : AgreeOn parts j k)
    (whole : has_whole parts pid ≡ true)
    (same : get j.processes pid ≡ get k.processes pid) where
  whole-outcomes : (x y : Option Effect) → SameEffects parts j k x y
      → AlikeSteps parts j k (outcome_of pid x) (outcome_of pid y)
  whole-outcomes None None s = tt
  whole-outcomes None (Some f) s = absurd s
  whole-outcomes (Some e) None s = absurd s
  whole-outcomes (Some e) (Some f) s = step-by parts j k e f _ _ h s (whole-stepped parts j k e f pid s whole same)

  whole-if : (b : Bool) (x y : Option Effect) → SameEffects parts j k x y
      → AlikeSteps parts j k (cond b (outcome_of pid x) None) (cond b (outcome_of pid y) None)
  whole-if true x y s = whole-outcomes x y s
  whole-if false x y s = tt

  whole-by : (o : Option Alive) → living_at j pid ≡ o → living_at k pid ≡ o
      → ((a : Alive) → living_at j pid ≡ Some a → living_at k pid ≡ Some a
      → SameEffects parts j k (effect j pid a call n) (effect k pid a call n))
      → AlikeSteps parts j k (transition_by j pid call n o) (transition_by k pid call n o)
  whole-by None x y s = tt
  whole-by (Some a) x y s = whole-if (may_make a call) (effect j pid a call n) (effect k pid a call n) (s a x y)

  pub whole-steps : ((a : Alive) → living_at j pid ≡ Some a → living_at k pid ≡ Some a
      → SameEffects parts j k (effect j pid a call n) (effect k pid a call n))
      → AlikeSteps parts j k (transition j pid call n) (transition k pid call n)
  whole-steps s =
      let alike : living_at j pid ≡ living_at k pid = ap (option_and_then alive_in) same
      in subst (λ o. AlikeSteps parts j k (transition j pid call n) (transition_by k pid call n o)) alike
      (whole-by (living_at j pid) refl (sym alike) s)

-- the caller's allowance alone is a part

module _ (parts : List Part) (n : ℕ) (j k : Kernel) (pid : ℕ) (call : Call) (h : AgreeOn parts j k)
    (away : has_whole parts pid ≡ false)
    (allowed : has_allowance parts pid ≡ true) (childless : (p : ℕ) → has_parent parts p ≡ false) (vj : IsValid j)
    (vk : IsValid k) where
  module _ (a b : Alive) (lives : living_at j pid ≡ Some a) (lives_too : living_at k pid ≡ Some b)
      (same : a.allowance ≡ b.allowance) where
    away-outcomes : (x y : Option Effect) → SameEffects parts j k x y
        → AlikeSteps parts j k (outcome_of pid x) (outcome_of pid y)
    away-outcomes None None s = tt
    away-outcomes None (Some f) s = absurd s
    away-outcomes (Some e) None s = absurd s
    away-outcomes (Some e) (Some f) s =
        step-by parts j k e f _ _ h s
        (away-stepped parts j k e f pid s away allowed childless a b lives lives_too (vj.alive pid a lives)
        (vk.alive pid b lives_too) same)

    away-if : (b c : Bool) (x y : Option Effect) → b ≡ c → SameEffects parts j k x y
        → AlikeSteps parts j k (cond b (outcome_of pid x) None) (cond c (outcome_of pid y) None)
    away-if true true x y e s = away-outcomes x y s
    away-if false false x y e s = tt
    away-if true false x y e s = cc
    away-if false true x y e s = cc

  away-by : (o p : Option Alive) → living_at j pid ≡ o → living_at k pid ≡ p
      → option_map (λ a. a.allowance) o ≡ option_map (λ a. a.allowance) p
      → ((a b : Alive) → a.allowance ≡ b.allowance → may_make a call ≡ may_make b call)
      → ((a b : Alive) → SameEffects parts j k (effect j pid a call n) (effect k pid b call n))
      → AlikeSteps parts j k (transition_by j pid call n o) (transition_by k pid call n p)
  away-by None None x y e m s = tt
  away-by None (Some b) x y e m s = cc
  away-by (Some a) None x y e m s = cc
  away-by (Some a) (Some b) x y e m s =
      let same : a.allowance ≡ b.allowance = cc
      in away-if a b x y same (may_make a call) (may_make b call) (effect j pid a call n) (effect k pid b call n)
      (m a b same) (s a b)

  pub away-steps : allowance_at j pid ≡ allowance_at k pid
      → ((a b : Alive) → a.allowance ≡ b.allowance → may_make a call ≡ may_make b call)
      → ((a b : Alive) → SameEffects parts j k (effect j pid a call n) (effect k pid b call n))
      → AlikeSteps parts j k (transition j pid call n) (transition k pid call n)
  away-steps e m s = away-by (living_at j pid) (living_at k pid) refl refl e m s
