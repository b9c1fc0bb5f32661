-- Whom an entry wakes.
use Rattle.std.specs.Prelude.{◌≡◌, ℕ, Bool, true, false, nat_eq, List, [], ◌∷◌, Some, None, is_some}
use Rattle.std.specs.List.{list_any}
use Rattle.pico_base.specs.declared.call.Call.{Call}
use Rattle.pico_base.specs.declared.reply.Entry.{Entry}
use Rattle.pico_base.specs.declared.reply.Reply.{Reply}
use Rattle.waiting_model.specs.Kernel.{Kernel, opening}
use Rattle.waiting_model.specs.Transition.{Successor, transition}
use Rattle.waiting_model.specs.History.{Replays}
use Rattle.waiting_laws.specs.Parked.{mark_in}

-- the process is one of those who are woken
abbrev pub woken_in : ℕ → List (ℕ × Reply) → Bool
woken_in pid woken = list_any (λ w. nat_eq pid w.0) woken

-- no process is woken twice
abbrev pub WokenOnce : List (ℕ × Reply) → Type 0
WokenOnce [] = Unit {0}
WokenOnce (w ∷ woken) = (woken_in w.0 woken ≡ false) × WokenOnce woken

-- Who is woken was parked and isn't any more, is another process than the caller, and is woken once.
pub record WakesRightly (k : Kernel) (pid : ℕ) (s : Successor) : Type 0 where
  pub parked : (q : ℕ) → woken_in q s.outcome.woken ≡ true → is_some (mark_in k.processes q) ≡ true
  pub unparked : (q : ℕ) → woken_in q s.outcome.woken ≡ true → mark_in s.kernel.processes q ≡ None
  pub others : woken_in pid s.outcome.woken ≡ false
  pub once : WokenOnce s.outcome.woken

-- each entry behind a legal history wakes rightly
abbrev pub ReachableEntriesWakeRightly : Type 0
ReachableEntriesWakeRightly = (h : List Entry) (k : Kernel) → Replays opening h k → (pid : ℕ) (call : Call) (n : ℕ)
    → (s : Successor) → transition k pid call n ≡ Some s → WakesRightly k pid s
