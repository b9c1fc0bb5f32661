-- A call that parks leaves its caller's row, and whether a signal has struck that.
use Rattle.std.proofs.Common.{◌≡◌, ◌∙◌, ℕ, Bool, true, false, nat_eq, Option, Some, None, is_some, refl, ap, sym, subst}
use Rattle.std.specs.Prelude.{if◌then◌else◌}
use Rattle.std.specs.Option.{option_and_then, option_map}
use Rattle.std.proofs.lemmas.Bool.{eq-eqb}
use Rattle.pico_base.specs.declared.call.Call.{Call}
use Rattle.pico_base.specs.declared.reply.Reply.{Reply}
use Rattle.number_maps.specs.Maps.{Numbered}
use Rattle.number_maps.proofs.LookUps.{get-put-same}
use Rattle.waiting_model.specs.Calls.{withdrawn_from}
use Rattle.waiting_model.specs.Waiters.{waiter}
use Rattle.waiting_model.specs.Marks.{Alive, spent}
use Rattle.waiting_model.specs.Kernel.{Kernel, Process, Living, alive_in, living_at, living_in, with_alive}
use Rattle.waiting_model.specs.Effect.{Effect}
use Rattle.waiting_model.specs.Transition.{Successor, after_call, allowance_after, effect, finish_call, transition}
use Rattle.waiting_laws.specs.Sound.{IsSound}
use Rattle.waiting_laws.proofs.Marked.{Acts, Fine}
use Rattle.waiting_laws.proofs.MarkMoves.{ExactEffect, ExactIf, exact-call}
use Rattle.waiting_laws.proofs.People.{living-changed}
use Rattle.waiting_laws.proofs.SoundFine.{sound-fine}
use Rattle.waiting_laws.proofs.Steps.{Makes, makes}
use Rattle.waiting_laws.proofs.Woken.{acts-by}

-- it lives on, with its row, and struck as it was
pub record LivesParked (k : Kernel) (pid : ℕ) (a : Alive) : Type 0 where
  pub alive : Alive
  pub lives : living_at k pid ≡ Some alive
  pub row : alive.row ≡ a.row
  pub struck : alive.marks.struck ≡ a.marks.struck

-- the caller once its allowance is counted
record LivesSo (ps : Numbered Process) (pid : ℕ) (a : Alive) : Type 0 where
  alive : Alive
  lives : living_in ps pid ≡ Some alive
  row : alive.row ≡ a.row
  struck : alive.marks.struck ≡ a.marks.struck

counted : (k : Kernel) (pid : ℕ) (a : Alive) → living_at k pid ≡ Some a
    → (let j : Kernel = allowance_after k pid (Some a) in LivesSo j.processes pid a)
counted k pid a lives = by (is_some a.row.signals.doom)
  where
    by : (b : Bool)
        → (let j : Kernel = (if b then with_alive k pid (spent a) else k) in LivesSo j.processes pid a)
    by true =
        record {
          alive = spent a;
          lives = ap (option_and_then alive_in) (get-put-same k.processes pid (Living (spent a)));
          row = refl;
          struck = refl;
        }
    by false = record { alive = a; lives = lives; row = refl; struck = refl }

finished : (k : Kernel) (pid : ℕ) (call : Call) (a : Alive) → living_at k pid ≡ Some a
    → LivesParked (finish_call k pid call None) pid a
finished k pid call a lives =
    let o : LivesSo (let j : Kernel = allowance_after k pid (living_at k pid) in j.processes) pid a =
    subst (λ z. (let j : Kernel = allowance_after k pid z in LivesSo j.processes pid a)) (sym lives)
    (counted k pid a lives)
    in record {
      alive = after_call call None o.alive;
      lives = living-changed _ pid (after_call call None) pid
          ∙ ap (option_map (λ z. if nat_eq pid pid then after_call call None z else z)) o.lives
          ∙ ap (λ t. Some (if t then after_call call None o.alive else o.alive)) (eq-eqb pid pid refl);
      row = o.row;
      struck = o.struck;
    }

exact-of : (k : Kernel) (o : Option Effect) (e : Effect) → ExactIf k o → o ≡ Some e → ExactEffect k e
exact-of k o e h is = subst (λ z. ExactIf k z) is h

-- a call that parks
pub parks-keep-struck : (k : Kernel) (pid : ℕ) (call : Call) (n : ℕ) (s : Successor) → IsSound k
    → withdrawn_from call ≡ None → transition k pid call n ≡ Some s → s.outcome.own ≡ None → (a : Alive)
    → living_at k pid ≡ Some a → LivesParked s.kernel pid a
parks-keep-struck k pid call n s sound plain step parks a lives =
    let m : Makes k pid call n s = makes k pid call n s plain step
    in let e : Effect = m.step
    in let same : a ≡ m.alive = some-same a m.alive (sym lives ∙ m.lives)
    in let acts : Acts k pid m.alive = acts-by k pid m.alive call m.lives m.may
    in let exact : ExactEffect k e =
    exact-of k (effect k (waiter pid call) m.alive n) e
    (exact-call k (sound-fine k sound) pid m.alive acts call n) m.does
    in let own : e.own ≡ None = ap (λ (z : Successor). z.outcome.own) m.is ∙ parks
    in let there : living_at e.kernel pid ≡ Some a =
    ap (λ ps. living_in ps pid) (exact.parks own) ∙ lives
    in let done : LivesParked (finish_call e.kernel pid call e.own) pid a =
    subst (λ o. LivesParked (finish_call e.kernel pid call o) pid a) (sym own) (finished e.kernel pid call a there)
    in subst (λ z. LivesParked z pid a) (ap (λ (z : Successor). z.kernel) m.is) done
  where
    some-same : (c d : Alive) → Some c ≡ Some d → c ≡ d
    some-same c d h = cc
