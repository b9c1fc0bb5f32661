-- How far the journal has a node's process: where the node is, with its call parked there or not, or behind that.
use Rattle.std.proofs.Common.{◌≡◌, ℕ, ◌≤◌, Bool, true, false, not, ◌&&◌, List, [], ◌∷◌, Option, Some, None, is_some, option_and_then, refl, ap, sym, subst, ◌∙◌}
use Rattle.std.proofs.lemmas.Bool.{false≢true}
use Rattle.pico_base.specs.declared.call.Call.{Call}
use Rattle.pico_base.specs.declared.reply.Entry.{Entry}
use Rattle.pico_base.specs.declared.reply.Reply.{Reply}
use Rattle.pico_base.specs.declared.script.Script.{Script}
use Rattle.number_maps.specs.Maps.{get}
use Rattle.kernel_laws.proofs.Plain.{from_some, not_some}
use Rattle.kernel_model.specs.Fitting.{Place, place_after}
use Rattle.kernel_model.specs.Kernel.{alive_in as plain_alive_in, living_at as plain_living_at}
use Rattle.kernel_model.specs.Transition as plain
use Rattle.waiting_model.specs.Fitting.{FitsFrom, Places, Progress, opening_places, places_after}
use Rattle.waiting_model.specs.Kernel.{living_at}
use Rattle.waiting_model.specs.Marks.{Alive, plain_alive}
use Rattle.waiting_laws.specs.InLine.{IsAlike}
use Rattle.waiting_laws.specs.Parked.{mark_in, mark_of}
use Rattle.waiting_laws.proofs.Rows.{LivesAlike, alike-living}
use Rattle.node_model.specs.Caller.{caller_place}
use Rattle.world_model.specs.Node.{Node}
use Rattle.world_model.specs.World.{World, node_count}
use Rattle.world_laws.specs.Callers.{IsMade as IsMadeAt, IsToBeMade as IsToBeMadeAt, call_sight}
use Rattle.world_laws.specs.Invariant.{Holds}
use Rattle.world_laws.specs.Places.{Beside, CallPlace, InAnswer, Parked, Waits}
use Rattle.world_laws.specs.Sights.{node_of}
use Rattle.world_laws.specs.Ways.{under_way_of}
use Rattle.world_laws.specs.Wholes.{HasMarks, HasMarksOf, HasWhole}
use Rattle.run_laws.proofs.JournalFits.{JournalFits, journal-fits}
use Rattle.rest_laws.proofs.Living.{lives-whole}
use Rattle.rest_laws.proofs.Nodes.{is_waiting_place}
use Rattle.projection_laws.specs.Projection.{HasComeSo, HasComeTo, IsMade, IsParked, IsToBeMade}
use Rattle.projection_laws.proofs.CallCounts.{pid-is}

-- a journal leads to one list of places alone
one-fits : (script : Script) (places last other : Places) (entries : List Entry) → FitsFrom script places entries last
    → FitsFrom script places entries other → last ≡ other
one-fits script places last other [] h g = sym h ∙ g
one-fits script places last other (e ∷ entries) h g =
    let same : g.progress ≡ h.progress = from_some g.progress h.progress (sym g.there ∙ h.there)
    in one-fits script (places_after script places e h.progress) last other entries h.rest
    (subst (λ q. FitsFrom script (places_after script places e q) entries other) same g.rest)

progress-is : (p : Progress) (at : Place) (parked : Bool) → p.place ≡ at → p.parked ≡ parked
    → p ≡ record { place = at; parked = parked }
progress-is p at parked e h = λ i. record { place = e i; parked = h i }

-- ---- by the mark of a process

-- no mark of a process that lives is none
unmarked-of : (o : Option Alive) → ((a : Alive) → o ≡ Some a → is_some a.marks.parked ≡ false)
    → is_some (mark_of o) ≡ false
unmarked-of None none = refl
unmarked-of (Some a) none = none a refl

not-first : (t u : Bool) → (not t && u) ≡ true → t ≡ false
not-first false u h = refl
not-first true u h = absurd (false≢true h)

unparked-mark : (place : CallPlace) (call : Call) (a : Alive) → is_waiting_place place ≡ false
    → HasMarksOf place call a → is_some a.marks.parked ≡ false
unparked-mark Parked call a busy h = absurd (false≢true (sym busy))
unparked-mark (Waits name) call a busy h = absurd (false≢true (sym busy))
unparked-mark (InAnswer g reply) call a busy h = ap is_some h
unparked-mark place call a busy h = not-first (is_some a.marks.parked) (plain.may_make (plain_alive a) call) h

parked-mark : (place : CallPlace) (call : Call) (a : Alive) → is_waiting_place place ≡ true
    → HasMarksOf place call a → is_some a.marks.parked ≡ true
parked-mark Parked call a waits h = ap is_some h
parked-mark (Waits name) call a waits h = ap is_some h
parked-mark place call a waits h = absurd (false≢true waits)

-- ---- a world

module _ (script : Script) (w : World) (b : Beside) (holds : Holds script w [] b) where
  -- what the journal says of a process, by the line's places and the kernel's mark
  pub has-come : (pid : ℕ) (at : Place) (parked : Bool) → get b.places pid ≡ Some at
      → is_some (mark_in b.whole.processes pid) ≡ parked → HasComeSo w pid at parked
  has-come pid at parked is mark =
      let f : JournalFits script w b = journal-fits script w b holds
      in let shape = holds.shape
      in let found = f.there pid at is
      in let progress : Progress = found.0
      in let place : progress.place ≡ at = from_some progress.place at (sym (f.place pid progress found.1) ∙ is)
      in let waits : progress.parked ≡ parked = f.parked pid progress found.1 ∙ mark
      in record {
        places = f.last;
        fits = subst (λ s. FitsFrom s (opening_places s) w.journal f.last) (sym shape.of_script) f.fits;
        there = found.1 ∙ ap Some (progress-is progress at parked place waits);
      }

  -- and the other way round
  pub come-is : (pid : ℕ) (at : Place) (parked : Bool) → HasComeSo w pid at parked
      → (get b.places pid ≡ Some at) × (is_some (mark_in b.whole.processes pid) ≡ parked)
  come-is pid at parked come =
      let f : JournalFits script w b = journal-fits script w b holds
      in let shape = holds.shape
      in let progress : Progress = record { place = at; parked = parked }
      in let same : come.places ≡ f.last =
      one-fits script (opening_places script) come.places f.last w.journal
      (subst (λ s. FitsFrom s (opening_places s) w.journal come.places) shape.of_script come.fits) f.fits
      in let there : get f.last pid ≡ Some progress =
      ap (λ (m : Places). get m pid) (sym same) ∙ come.there
      in (f.place pid progress there, sym (f.parked pid progress there))

  whole : HasWhole w b
  whole = holds.whole

  -- who is dead in line is so in the whole kernel,
  pub dead-whole : (pid : ℕ) → plain_living_at b.kernel pid ≡ None → living_at b.whole pid ≡ None
  dead-whole pid dead = by-life (living_at b.whole pid) refl
    where
      alike : (a : Alive) → living_at b.whole pid ≡ Some a → LivesAlike (get b.kernel.processes pid) a
      alike a lives =
          let same : IsAlike b.whole b.kernel = whole.alike
          in alike-living b.whole.processes b.kernel.processes same.processes pid a lives

      by-life : (o : Option Alive) → living_at b.whole pid ≡ o → living_at b.whole pid ≡ None
      by-life None e = e
      by-life (Some a) e =
          not_some (alike a e).alive (sym dead ∙ ap (option_and_then plain_alive_in) (alike a e).is)

  -- and has no mark
  dead-unmarked : (pid : ℕ) → plain_living_at b.kernel pid ≡ None → is_some (mark_in b.whole.processes pid) ≡ false
  dead-unmarked pid dead = ap (λ o. is_some (mark_of o)) (dead-whole pid dead)

  module _ (p : ℕ) (low : 1 ≤ p) (high : p ≤ node_count script) (call : Call)
      (under : under_way_of w p ≡ Some call) where
    abbrev n : Node
    n = node_of w p

    marks-are : (a : Alive) → living_at b.whole (b.pids p) ≡ Some a → HasMarksOf (b.call p) call a
    marks-are a lives = subst (λ o. HasMarks (b.call p) o a) under (whole.marks p a lives)

    unmarked : is_waiting_place (b.call p) ≡ false → is_some (mark_in b.whole.processes (b.pids p)) ≡ false
    unmarked busy =
        unmarked-of (living_at b.whole (b.pids p))
        (λ a lives. unparked-mark (b.call p) call a busy (marks-are a lives))

    its-pid : n.pid ≡ b.pids p
    its-pid = pid-is script w b holds p low high call under

    come-there : (at : Place) (parked : Bool) → get b.places (b.pids p) ≡ Some at
        → is_some (mark_in b.whole.processes (b.pids p)) ≡ parked → HasComeSo w n.pid at parked
    come-there at parked is mark =
        subst (λ pid. HasComeSo w pid at parked) (sym its-pid) (has-come (b.pids p) at parked is mark)

    at-node : (m : IsToBeMadeAt script p (call_sight w [] b p) call) (parked : Bool)
        → is_some (mark_in b.whole.processes (b.pids p)) ≡ parked
        → HasComeSo w n.pid (caller_place w.script p n.caller) parked
    at-node m parked mark =
        let shape = holds.shape
        in come-there (caller_place w.script p n.caller) parked
        (m.there ∙ ap (λ s. Some (caller_place s p n.caller)) (sym shape.of_script)) mark

    pub to-be-made : is_waiting_place (b.call p) ≡ false → IsToBeMadeAt script p (call_sight w [] b p) call
        → IsToBeMade w p n
    to-be-made busy m = at-node m false (unmarked busy)

    pub made : (reply : Reply) → is_waiting_place (b.call p) ≡ false
        → IsMadeAt script p (call_sight w [] b p) call reply → IsMade w p n call reply
    made reply busy m =
        let shape = holds.shape
        in come-there (place_after (caller_place w.script p n.caller) call (Some reply)) false
        (m.there ∙ ap (λ s. Some (place_after (caller_place s p n.caller) call (Some reply))) (sym shape.of_script))
        (unmarked busy)

    -- it has made its last call
    pub over : (last : Place) → get b.places (b.pids p) ≡ Some last → plain_living_at b.kernel (b.pids p) ≡ None
        → HasComeTo w n.pid last
    over last is dead = come-there last false is (dead-unmarked (b.pids p) dead)

    -- its call waits
    pub is-parked : is_waiting_place (b.call p) ≡ true → IsToBeMadeAt script p (call_sight w [] b p) call
        → IsParked w p n
    is-parked waits m =
        let alike : IsAlike b.whole b.kernel = whole.alike
        in let there =
        lives-whole (get b.whole.processes (b.pids p)) (get b.kernel.processes (b.pids p)) (alike.processes (b.pids p))
        m.alive m.lives
        in at-node m true
        (ap (λ o. is_some (mark_of o)) there.1
        ∙ parked-mark (b.call p) call there.0 waits (marks-are there.0 there.1))
