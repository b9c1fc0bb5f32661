-- The journal of a world fits its script: in line it does, and each call that waits at its end is the one that is due.
use Rattle.std.proofs.Common.{◌≡◌, ◌∙◌, ℕ, ◌≤◌, true, [], Option, Some, None, is_some, refl, ap, sym, subst}
use Rattle.std.specs.Option.{option_map}
use Rattle.pico_base.specs.declared.call.Call.{Call}
use Rattle.pico_base.specs.declared.script.Script.{Script}
use Rattle.number_maps.specs.Maps.{get}
use Rattle.number_maps.specs.Rising.{IsRising}
use Rattle.kernel_laws.proofs.Plain.{from_some, not_some}
use Rattle.kernel_model.specs.Fitting.{Place}
use Rattle.kernel_model.specs.Fitting as plain_fitting
use Rattle.kernel_model.specs.Kernel as plain
use Rattle.node_model.specs.Caller.{caller_place}
use Rattle.waiting_model.specs.Calls.{may_park}
use Rattle.waiting_model.specs.Fitting.{FitsFrom, Places, Progress, opening_places}
use Rattle.waiting_model.specs.Kernel.{living_at}
use Rattle.waiting_model.specs.Marks.{Alive}
use Rattle.waiting_laws.specs.Fits.{AreDue, FitsAlike, IsDueAt, place_of}
use Rattle.waiting_laws.specs.InLine.{IsAlike}
use Rattle.waiting_laws.specs.Parked.{mark_in, mark_of}
use Rattle.waiting_laws.proofs.FitsByLines.{due-itself, histories-fit-by-lines, waits-kills-nothing}
use Rattle.waiting_laws.proofs.ParkWaits.{reachable-park-waits}
use Rattle.waiting_laws.proofs.Rows.{LivesAlike, alike-living}
use Rattle.waiting_laws.proofs.Woken.{acts-by}
use Rattle.world_model.specs.World.{World, node_count}
use Rattle.world_laws.specs.Callers.{HasCallOrNone, IsSoFar, IsToBeMade, call_sight}
use Rattle.world_laws.specs.Invariant.{Holds}
use Rattle.world_laws.specs.Places.{Beside, CallPlace, InAnswer, Parked, Waits}
use Rattle.world_laws.specs.Sights.{is_born_in, node_of}
use Rattle.world_laws.specs.Wholes.{HasMarks, HasMarksOf, HasWhole, under_way_at}

-- The journal fits, each process is where it is in line, and its call waits where the kernel has the process parked.
pub record JournalFits (script : Script) (w : World) (b : Beside) : Type 0 where
  pub last : Places
  pub fits : FitsFrom script (opening_places script) w.journal last
  pub ordered : IsRising last
  pub there : (pid : ℕ) (at : Place) → get b.places pid ≡ Some at → (p : Progress) × (get last pid ≡ Some p)
  pub place : (pid : ℕ) (p : Progress) → get last pid ≡ Some p → get b.places pid ≡ Some p.place
  pub parked : (pid : ℕ) (p : Progress) → get last pid ≡ Some p → p.parked ≡ is_some (mark_in b.whole.processes pid)

-- what is the place of a progress
has-progress : (o : Option Progress) (at : Place) → option_map place_of o ≡ Some at → (p : Progress) × (o ≡ Some p)
has-progress None at h = not_some at h
has-progress (Some p) at h = (p, refl)

module _ (script : Script) (w : World) (b : Beside) (holds : Holds script w [] b) where
  whole : HasWhole w b
  whole = holds.whole

  -- who is parked with a call has it under way, so that it is still to be made
  marked-call : (p : ℕ) (a : Alive) (call under_way : Call) (place : CallPlace)
      → living_at b.whole (b.pids p) ≡ Some a → a.marks.parked ≡ Some call → HasMarksOf place under_way a
      → IsSoFar script p (call_sight w [] b p) under_way place
      → (under_way ≡ call) × IsToBeMade script p (call_sight w [] b p) under_way
  marked-call p a call other Parked lives marked has so_far = (from_some other call (sym has ∙ marked), so_far)
  marked-call p a call other (Waits name) lives marked has so_far =
      (from_some other call (sym has ∙ marked), so_far)
  marked-call p a call other (InAnswer h reply) lives marked has so_far = not_some call (sym has ∙ marked)
  marked-call p a call other place lives marked has so_far =
      not_some call (sym (acts-by b.whole (b.pids p) a other lives has).unparked ∙ marked)

  -- a node's call that waits is due
  call-due : (p : ℕ) → 1 ≤ p → p ≤ node_count script → (a : Alive) (call : Call)
      → living_at b.whole (b.pids p) ≡ Some a → a.marks.parked ≡ Some call → may_park call ≡ true
      → IsDueAt b.places (b.pids p) call
  call-due p low high a call lives marked parks =
      by-call (under_way_at w p) (whole.marks p a lives) (holds.calls p low high).call
    where
      by-call : (o : Option Call) → HasMarks (b.call p) o a
          → HasCallOrNone script p (is_born_in w) (call_sight w [] b p) o → IsDueAt b.places (b.pids p) call
      by-call None has calls = not_some call (sym has ∙ marked)
      by-call (Some under_way) has calls =
          let made = marked-call p a call under_way (b.call p) lives marked has calls.so_far
          in record {
            place = caller_place script p (node_of w p).caller;
            there = made.1.there;
            due =
                due-itself (caller_place script p (node_of w p).caller) under_way
                (waits-kills-nothing under_way (subst (λ c. may_park c ≡ true) (sym made.0) parks)) made.1.due
                ∙ ap (λ c. Some c) made.0;
          }

  -- each call that waits is due where its process is
  waits-are-due : AreDue b.whole b.places
  waits-are-due pid call marked = by-life (living_at b.whole pid) refl
    where
      by-life : (o : Option Alive) → living_at b.whole pid ≡ o → IsDueAt b.places pid call
      by-life None dead = not_some call (sym (ap mark_of dead) ∙ marked)
      by-life (Some a) lives =
          let alike : IsAlike b.whole b.kernel = whole.alike
          in let other : LivesAlike (get b.kernel.processes pid) a =
          alike-living b.whole.processes b.kernel.processes alike.processes pid a lives
          in let pids = holds.pids
          in let of = pids.there pid (plain.Living other.alive) other.is
          in let range = pids.nodes of.0 (λ e. of.2 (sym of.1 ∙ e))
          in subst (λ i. IsDueAt b.places i call) of.1
          (call-due of.0 range.0 range.1 a call (ap (living_at b.whole) of.1 ∙ lives)
          (sym (ap mark_of lives) ∙ marked) (reachable-park-waits w.journal b.whole whole.legal pid call marked))

  pub journal-fits : JournalFits script w b
  journal-fits =
      let history = holds.history
      in let f : FitsAlike script w.journal b.whole b.places =
      histories-fit-by-lines script w.journal b.whole b.places whole.legal
      (subst (λ lines. plain_fitting.FitsFrom script (plain_fitting.opening_places script) lines b.places) whole.lines
      history.fits)
      waits-are-due
      in record {
        last = f.last;
        fits = f.fits;
        ordered = f.ordered;
        there = λ pid at is. has-progress (get f.last pid) at (f.alike pid ∙ is);
        place = λ pid p is. sym (f.alike pid) ∙ ap (option_map place_of) is;
        parked = f.parked;
      }
