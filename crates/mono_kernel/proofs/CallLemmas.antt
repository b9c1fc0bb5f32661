-- A whole call: its effect, the caller's own marks, and the outcome.
use Rattle.std.proofs.Common.{◌≡◌, ◌↔◌, ◌∙◌, ℕ, Bool, true, false, if◌then◌else◌, List, [], Option, Some, None, is_some, IsSome, IfSome, Result, Ok, Err, refl, sym, ap, subst}
use Rattle.std.specs.Option.{option_map_or}
use Rattle.pico_base.specs.declared.call.Call.{Call}
use Rattle.pico_base.specs.declared.call.Call.TheVariants.{GetPid}
use Rattle.pico_base.specs.declared.reply.Outcome.{Outcome}
use Rattle.pico_base.specs.declared.reply.Reply.{Reply}
use Rattle.pico_base.specs.declared.reply.Reply.TheVariants.{Num}
use Rattle.waiting_model.specs.Calls.{withdrawn_from}
use Rattle.waiting_model.specs.Waiters.{waiter}
use Rattle.waiting_model.specs.Marks.{Alive}
use Rattle.waiting_model.specs.Kernel.{Kernel, living_at}
use Rattle.waiting_model.specs.Effect.{Effect, outcome_of_effect}
use Rattle.waiting_model.specs.Transition.{Successor, successor, effect, may_make, finish_call, outcome_of, step_by, transition, transition_by}
use Rattle.mono_kernel.specs.declared.done.Done.{Done}
use Rattle.mono_kernel.specs.declared.done.Done.TheVariants.{Replies}
use Rattle.mono_kernel.specs.declared.fault.CallFault.{CallFault}
use Rattle.mono_kernel.specs.declared.fault.CallFault.TheVariants.{Memory, NotAllowed}
use Rattle.mono_kernel.specs.Answers.{Answers, FinishesWith, IsDone}

outcome_with : Option Reply → List (ℕ × Reply) → Outcome
outcome_with own woken = record { own = own; woken = woken }

finished : (e : Effect) (call : Call) (mid new : Kernel) (pid : ℕ) (done : Done) (outcome : Outcome)
    → IsDone e call mid done
    → FinishesWith mid pid done new outcome
    → outcome_of pid call (Some e) ≡ Some (successor new outcome)
unfolding outcome_with
finished e call mid new pid done outcome h f =
    let kernel : finish_call e.kernel pid call e.own ≡ new =
    ap (λ (k : Kernel). finish_call k pid call e.own) h.kernel
    ∙ ap (finish_call mid pid call) h.own
    ∙ sym (f.kernel call h.parks)
    in let says : outcome_of_effect e ≡ outcome =
    ap (λ (own : Option Reply). outcome_with own (outcome_of_effect e).woken) (h.own ∙ sym f.own)
    ∙ ap (outcome_with outcome.own) (h.woken ∙ sym f.woken)
    in ap (λ (k : Kernel). Some (successor k (outcome_of_effect e))) kernel
    ∙ ap (λ (o : Outcome). Some (successor new o)) says

module _ (k : Kernel) (pid : ℕ) (call : Call) (n : ℕ) (plain : withdrawn_from call ≡ None) where
  -- what the living process that may make the call does
  of-living : (a : Alive) (x : Option Successor) → living_at k pid ≡ Some a → may_make a call ≡ true
      → outcome_of pid call (effect k (waiter pid call) a n) ≡ x
      → transition k pid call n ≡ x
  of-living a x lives may is =
      ap (transition_by k pid call n) lives ∙ ap (step_by k pid call n a) plain
      ∙ ap (λ (b : Bool). if b then outcome_of pid call (effect k (waiter pid call) a n) else None) may ∙ is

  -- the call is carried out
  pub made : (mid new : Kernel) (a : Alive) (done : Done) (outcome : Outcome) → living_at k pid ≡ Some a
      → may_make a call ≡ true
      → Answers (effect k (waiter pid call) a n) call (Ok done) k mid
      → FinishesWith mid pid done new outcome
      → transition k pid call n ≡ Some (successor new outcome)
  made mid new a done outcome lives may answer f =
      of-living a (Some (successor new outcome)) lives may (at (effect k (waiter pid call) a n) refl answer)
    where
      at : (o : Option Effect) → effect k (waiter pid call) a n ≡ o → Answers o call (Ok done) k mid
          → outcome_of pid call o ≡ Some (successor new outcome)
      at None is h = absurd h
      at (Some e) is h = finished e call mid new pid done outcome h f

  -- there is no such transition
  pub not-made : (a : Alive) (mid : Kernel) → living_at k pid ≡ Some a → may_make a call ≡ true
      → Answers (effect k (waiter pid call) a n) call (Err NotAllowed) k mid
      → transition k pid call n ≡ None
  not-made a mid lives may answer = of-living a None lives may (ap (outcome_of pid call) answer.0)

  -- or only memory was wanting
  pub not-there : (a : Alive) (mid : Kernel) → living_at k pid ≡ Some a → may_make a call ≡ true
      → Answers (effect k (waiter pid call) a n) call (Err Memory) k mid
      → is_some (transition k pid call n) ≡ true
  not-there a mid lives may answer = at (effect k (waiter pid call) a n) refl answer.0
    where
      at : (o : Option Effect) → effect k (waiter pid call) a n ≡ o → IsSome o
          → is_some (transition k pid call n) ≡ true
      at None is h = absurd (cc)
      at (Some e) is h =
          ap is_some (of-living a (outcome_of pid call (Some e)) lives may (ap (outcome_of pid call) is))

abbrev pub err : CallFault → Result Outcome CallFault
err fault = Err fault

module _ (k : Kernel) (pid : ℕ) (call : Call) (n : ℕ) (plain : withdrawn_from call ≡ None) where
  -- a call that may be made is made
  pub made-whole : (mid new : Kernel) (done : Done) (outcome : Outcome)
      → option_map_or (λ a. may_make a call) (living_at k pid) false ≡ true
      → IfSome (living_at k pid) (λ a. Answers (effect k (waiter pid call) a n) call (Ok done) k mid)
      → FinishesWith mid pid done new outcome
      → transition k pid call n ≡ Some (successor new outcome)
  made-whole mid new done outcome allowed answer f = at (living_at k pid) refl allowed answer
    where
      at : (o : Option Alive) → living_at k pid ≡ o → option_map_or (λ a. may_make a call) o false ≡ true
          → IfSome o (λ a. Answers (effect k (waiter pid call) a n) call (Ok done) k mid)
          → transition k pid call n ≡ Some (successor new outcome)
      at None is y h = absurd (cc)
      at (Some a) is y h = made k pid call n plain mid new a done outcome is y h f

  -- one that has no effect isn't
  pub not-made-whole : (mid : Kernel) → option_map_or (λ a. may_make a call) (living_at k pid) false ≡ true
      → IfSome (living_at k pid) (λ a. Answers (effect k (waiter pid call) a n) call (Err NotAllowed) k mid)
      → (transition k pid call n ≡ None) × (mid ≡ k)
  not-made-whole mid allowed answer = at (living_at k pid) refl allowed answer
    where
      at : (o : Option Alive) → living_at k pid ≡ o → option_map_or (λ a. may_make a call) o false ≡ true
          → IfSome o (λ a. Answers (effect k (waiter pid call) a n) call (Err NotAllowed) k mid)
          → (transition k pid call n ≡ None) × (mid ≡ k)
      at None is y h = absurd (cc)
      at (Some a) is y h = (not-made k pid call n plain a mid is y h, h.1)

  -- and one for which memory was wanting could have been
  pub could-be-made : (mid : Kernel) → option_map_or (λ a. may_make a call) (living_at k pid) false ≡ true
      → IfSome (living_at k pid) (λ a. Answers (effect k (waiter pid call) a n) call (Err Memory) k mid)
      → (transition k pid call n ≡ None → ⊥) × (mid ≡ k)
  could-be-made mid allowed answer = at (living_at k pid) refl allowed answer
    where
      at : (o : Option Alive) → living_at k pid ≡ o → option_map_or (λ a. may_make a call) o false ≡ true
          → IfSome o (λ a. Answers (effect k (waiter pid call) a n) call (Err Memory) k mid)
          → (transition k pid call n ≡ None → ⊥) × (mid ≡ k)
      at None is y h = absurd (cc)
      at (Some a) is y h = (
        (λ none. let some : is_some (transition k pid call n) ≡ true = not-there k pid call n plain a mid is y h
            in let no : false ≡ true = rw none at some in absurd (cc)),
        h.1,
      )

  -- a call that may not be made has no transition
  pub may-not-be-made : option_map_or (λ a. may_make a call) (living_at k pid) false ≡ false
      → transition k pid call n ≡ None
  may-not-be-made refused = at (living_at k pid) refl refused
    where
      at : (o : Option Alive) → living_at k pid ≡ o → option_map_or (λ a. may_make a call) o false ≡ false
          → transition k pid call n ≡ None
      at None is m = ap (transition_by k pid call n) is
      at (Some a) is m =
          ap (transition_by k pid call n) is ∙ ap (step_by k pid call n a) plain
          ∙ ap (λ (b : Bool). if b then outcome_of pid call (effect k (waiter pid call) a n) else None) m

  -- what a fault says
  pub fault-is : (mid : Kernel) (fault : CallFault)
      → option_map_or (λ a. may_make a call) (living_at k pid) false ≡ true
      → IfSome (living_at k pid) (λ a. Answers (effect k (waiter pid call) a n) call (Err fault) k mid)
      → ((err fault ≡ err NotAllowed) ↔ (transition k pid call n ≡ None)) × (mid ≡ k)
  fault-is mid NotAllowed allowed answer =
      let none = not-made-whole mid allowed answer in (((λ _. none.0), (λ _. refl)), none.1)
  fault-is mid Memory allowed answer =
      let could = could-be-made mid allowed answer
      in (((λ same. absurd (cc)), (λ none. absurd (could.0 none))), could.1)

-- getpid by a process that may make it
pub own-number : (k new : Kernel) (pid n : ℕ) (outcome : Outcome)
    → option_map_or (λ a. may_make a GetPid) (living_at k pid) false ≡ true
    → FinishesWith k pid (Replies (Num pid) []) new outcome
    → transition k pid GetPid n ≡ Some (successor new outcome)
own-number k new pid n outcome may f =
    made-whole k pid GetPid n refl k new (Replies (Num pid) []) outcome may (at (living_at k pid)) f
  where
    at : (o : Option Alive)
        → IfSome o (λ a. Answers (effect k (waiter pid GetPid) a n) GetPid (Ok (Replies (Num pid) [])) k k)
    at None = tt
    at (Some a) = record { kernel = refl; own = refl; woken = refl; parks = tt }

-- and by its form, whoever may make that call
pub own-number-of : (k new : Kernel) (pid n : ℕ) (outcome : Outcome) (call : Call) → call ≡ GetPid
    → ((chosen : ℕ) → transition k pid GetPid chosen ≡ Some (successor new outcome))
    → transition k pid call n ≡ Some (successor new outcome)
own-number-of k new pid n outcome call is h = subst (λ (c : Call). transition k pid c n ≡ Some (successor new outcome))
    (sym is) (h n)

pub may-own : (k : Kernel) (pid : ℕ) (call : Call) → call ≡ GetPid
    → option_map_or (λ a. may_make a call) (living_at k pid) false ≡ true
    → option_map_or (λ a. may_make a GetPid) (living_at k pid) false ≡ true
may-own k pid call is h = subst (λ (c : Call). option_map_or (λ a. may_make a c) (living_at k pid) false ≡ true) is h
