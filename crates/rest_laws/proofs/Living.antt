-- What at rest holds of the kernel that the journal replays to: who lives there waits, undoomed, and the journal has
-- the calls of each process to its end, or to the call in which it waits.
use Rattle.std.proofs.Common.{◌≡◌, ◌≢◌, ◌⊎◌, ℕ, true, false, [], ◌∷◌, Option, Some, None, IsSome, is_some, option_and_then, refl, ap, sym, subst, ◌∙◌, inl, inr}
use Rattle.std.specs.List.{AllByRecursion}
use Rattle.std.proofs.lemmas.Bool.{cases_eq, false≢true}
use Rattle.pico_base.specs.declared.call.Call.{Call}
use Rattle.pico_base.specs.declared.script.Script.{Script}
use Rattle.kernel_laws.proofs.Plain.{not_some}
use Rattle.kernel_model.specs.Kernel.{alive_in as plain_alive_in, living_at as plain_living_at}
use Rattle.kernel_model.specs.Kernel as plain
use Rattle.kernel_model.specs.Row as plain_rows
use Rattle.number_maps.specs.Maps.{get}
use Rattle.number_maps.specs.Rising.{IsRising}
use Rattle.number_maps.proofs.LookUps.{get-first, get-later}
use Rattle.number_maps.proofs.Rising.{above-first, get-above, rising-rest}
use Rattle.waiting_model.specs.Fitting.{FitsWhole, IsOver, Places, Progress}
use Rattle.waiting_model.specs.Kernel.{Ended, Gone, Living, Process, alive_in, living_at}
use Rattle.waiting_model.specs.Marks.{Alive}
use Rattle.waiting_laws.specs.InLine.{AlikeAt, IsAlike}
use Rattle.waiting_laws.specs.Parked.{mark_of}
use Rattle.waiting_laws.proofs.Rows.{LivesAlike, alike-living}
use Rattle.world_model.specs.Run.{IsAtRest}
use Rattle.world_model.specs.World.{World}
use Rattle.world_laws.specs.Invariant.{Holds}
use Rattle.world_laws.specs.Places.{Beside, CallPlace, Parked, Waits as WaitsFor}
use Rattle.world_laws.specs.Wholes.{HasMarks, HasMarksOf, HasWhole}
use Rattle.bound_laws.specs.Bounded.{IsBounded}
use Rattle.run_laws.proofs.JournalFits.{JournalFits, journal-fits}
use Rattle.rest_laws.proofs.Nodes.{WaitsHere, is_waiting_place}
use Rattle.rest_laws.proofs.Undoomed.{undoomed}
use Rattle.rest_laws.proofs.Whole.{Waits, who-lives-waits}

-- ---- places that are over

over-each : (m : Places) → IsRising m
    → ((pid : ℕ) (p : Progress) → get m pid ≡ Some p → (p.place.left ≡ []) ⊎ (p.parked ≡ true))
    → AllByRecursion IsOver m
over-each [] rises all = tt
over-each (e ∷ m) rises all = (
  all e.0 e.1 (get-first e m e.0 refl),
  over-each m (rising-rest e m rises) (λ pid p there. elim (cases_eq pid e.0) [
    | inl same ↦ not_some p (sym (get-above e.0 m (above-first e m rises)) ∙ ap (get m) (sym same) ∙ there)
    | inr other ↦ all pid p (get-later e m pid other ∙ there)
  ]),
)

-- ---- two kernels that are alike

-- who lives in the one lives in the other
pub lives-whole : (o : Option Process) (p : Option plain.Process) → AlikeAt o p → (x : plain_rows.Alive)
    → option_and_then plain_alive_in p ≡ Some x → (a : Alive) × (option_and_then alive_in o ≡ Some a)
lives-whole (Some (Living a)) (Some (plain.Living y)) alike x e = (a, refl)
lives-whole (Some (Ended ending)) (Some (plain.Ended other)) alike x e = not_some x e
lives-whole (Some Gone) (Some plain.Gone) alike x e = not_some x e
lives-whole None None alike x e = not_some x e
lives-whole o p alike x e = absurd alike

marked-there : (place : CallPlace) (call : Call) (a : Alive) → is_waiting_place place ≡ true
    → HasMarksOf place call a → a.marks.parked ≡ Some call
marked-there Parked call a waits h = h
marked-there (WaitsFor name) call a waits h = h
marked-there place call a waits h = absurd (false≢true waits)

module _ (script : Script) (w : World) (b : Beside) (holds : Holds script w [] b) (rest : IsAtRest w)
    (bounded : IsBounded script w []) where
  whole : HasWhole w b
  whole = holds.whole

  -- the kernel has a process parked with the call that waits
  parked-there : (p : ℕ) (call : Call) → WaitsHere script w b p call → (a : Alive)
      → living_at b.whole (b.pids p) ≡ Some a → a.marks.parked ≡ Some call
  parked-there p call waits a lives =
      marked-there (b.call p) call a waits.place
      (subst (λ o. HasMarks (b.call p) o a) waits.is (whole.marks p a lives))

  pub alike-at : (pid : ℕ) → AlikeAt (get b.whole.processes pid) (get b.kernel.processes pid)
  alike-at = let alike : IsAlike b.whole b.kernel = whole.alike in alike.processes

  pub waits-there : (pid : ℕ) (a : Alive) → living_at b.whole pid ≡ Some a → Waits script w b pid
  waits-there pid a lives =
      let other : LivesAlike (get b.kernel.processes pid) a =
      alike-living b.whole.processes b.kernel.processes alike-at pid a lives
      in who-lives-waits script w b holds rest bounded pid other.alive (ap (option_and_then plain_alive_in) other.is)

  -- Who lives waits, and no signal has doomed it.
  pub who-lives-parks : (pid : ℕ) (a : Alive) → living_at b.whole pid ≡ Some a
      → IsSome a.marks.parked × (a.row.signals.doom ≡ None)
  who-lives-parks pid a lives =
      let its : Waits script w b pid = waits-there pid a lives
      in let there : living_at b.whole (b.pids its.node) ≡ Some a = ap (living_at b.whole) its.pid_is ∙ lives
      in (
        ap is_some (parked-there its.node its.call its.waits a there),
        undoomed script w b holds rest bounded its.node its.low its.high its.call its.waits a there,
      )

  -- Each process has made its last call, or waits.
  place-over : (f : JournalFits script w b) (pid : ℕ) (p : Progress) → get f.last pid ≡ Some p
      → (p.place.left ≡ []) ⊎ (p.parked ≡ true)
  place-over f pid p there = by-life (plain_living_at b.kernel pid) refl
    where
      by-life : (o : Option plain_rows.Alive) → plain_living_at b.kernel pid ≡ o
          → (p.place.left ≡ []) ⊎ (p.parked ≡ true)
      by-life None dead =
          let pids = holds.pids
          in let of = pids.placed pid p.place (f.place pid p there)
          in let forked : b.pids of.0 ≢ 0 = λ e. of.2 (sym of.1 ∙ e)
          in inl
          (pids.dead of.0 p.place forked (ap (plain_living_at b.kernel) of.1 ∙ dead)
          (ap (get b.places) of.1 ∙ f.place pid p there))
      by-life (Some x) lives =
          let other = lives-whole (get b.whole.processes pid) (get b.kernel.processes pid) (alike-at pid) x lives
          in let parks = who-lives-parks pid other.0 other.1
          in inr (f.parked pid p there ∙ ap (λ o. is_some (mark_of o)) other.1 ∙ parks.0)

  -- The journal fits the script to its end.
  pub rest-is-whole : FitsWhole script w.journal
  rest-is-whole =
      let f : JournalFits script w b = journal-fits script w b holds
      in record { last = f.last; fits = f.fits; over = over-each f.last f.ordered (place-over f) }
