-- What each entry keeps holds along a history.
use Rattle.std.proofs.Common.{ℕ, List, [], ◌∷◌, subst}
use Rattle.pico_base.specs.declared.call.Call.{Call}
use Rattle.pico_base.specs.declared.reply.Entry.{Entry}
use Rattle.pico_base.specs.declared.reply.Outcome.{Outcome}
use Rattle.kernel_model.specs.Kernel.{Kernel, living_at}
use Rattle.kernel_model.specs.Transition.{finish_call}
use Rattle.kernel_model.specs.History.{Replays, number_in}
use Rattle.kernel_laws.proofs.Steps.{Step, step}
use Rattle.kernel_laws.proofs.Moves.{Moves, Finishes, after-call, after-step}

pub record Kept (P : Kernel → Type 0) : Type 0 where
  pub moves : (k : Kernel) (pid : ℕ) (call : Call) (n : ℕ) (next : Kernel) (outcome : Outcome)
      (s : Step k pid call n next outcome) → P k → Moves P k pid s.alive n
  pub finishes : (pid : ℕ) → Finishes P pid

-- what each entry keeps a history keeps
pub kept-along : (P : Kernel → Type 0) → Kept P → (entries : List Entry) (k last : Kernel) → Replays k entries last
    → P k → P last
kept-along P h [] k last r p = subst P r p
kept-along P h (e ∷ es) k last r p =
    let n = number_in e.outcome.own
    in let s = step k e.pid e.call n r.next e.outcome r.step
    in kept-along P h es r.next last r.rest
    (after-step P k e.pid e.call n r.next e.outcome s (h.moves k e.pid e.call n r.next e.outcome s p)
    (h.finishes e.pid))

-- the same where a fact is less in the course of an entry
pub record KeptBy (P : Kernel → Type 0) (Q : ℕ → Kernel → Type 0) : Type 0 where
  pub moves : (k : Kernel) (pid : ℕ) (call : Call) (n : ℕ) (next : Kernel) (outcome : Outcome)
      (s : Step k pid call n next outcome) → P k
      → Moves (Q pid) k pid s.alive n
  pub finishes : (pid : ℕ) (k : Kernel) → Q pid k → P (finish_call k pid (living_at k pid))

-- the same with what holds in the middle of an entry
pub kept-by-along : (P : Kernel → Type 0) (Q : ℕ → Kernel → Type 0) → KeptBy P Q
    → (entries : List Entry) (k last : Kernel) → Replays k entries last → P k → P last
kept-by-along P Q h [] k last r p = subst P r p
kept-by-along P Q h (e ∷ es) k last r p =
    let n = number_in e.outcome.own
    in let s = step k e.pid e.call n r.next e.outcome r.step
    in let m : Q e.pid s.result.kernel =
    after-call (Q e.pid) k e.pid e.call n r.next e.outcome s (h.moves k e.pid e.call n r.next e.outcome s p)
    in kept-by-along P Q h es r.next last r.rest (subst P s.leads (h.finishes e.pid s.result.kernel m))
