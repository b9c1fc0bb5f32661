-- Each kernel that a legal history leads to is valid.
use Rattle.std.proofs.Common.{◌≡◌, ◌∙◌, ℕ, true, List, [], ◌∷◌, Option, Some, refl, ap, sym, subst, inl, inr}
use Rattle.std.specs.Option.{option_and_then}
use Rattle.std.proofs.lemmas.Bool.{cases_eq, false≢true}
use Rattle.pico_base.specs.declared.reply.Entry.{Entry}
use Rattle.number_maps.proofs.LookUps.{get-later}
use Rattle.number_maps.proofs.Rising.{rising-nothing, rising-put}
use Rattle.kernel_model.specs.Row.{lists}
use Rattle.kernel_laws.proofs.Plain.{Of, from_some, not_some}
use Rattle.kernel_laws.proofs.Tables.{table-empty}
use Rattle.waiting_model.specs.Marks.{Alive, new_alive}
use Rattle.waiting_model.specs.Kernel.{Kernel, Process, Living, alive_in, living_in, opening}
use Rattle.waiting_model.specs.History.{Replays}
use Rattle.waiting_model.specs.Transition.{Successor, successor}
use Rattle.waiting_laws.specs.Parked.{ReachableWaitsFindNothing}
use Rattle.waiting_footprint_laws.specs.Valid.{ReachableKernelsAreValid}
use Rattle.waiting_footprint_laws.proofs.Kin.{People}
use Rattle.waiting_footprint_laws.proofs.Doomed.{IsFair}
use Rattle.waiting_footprint_laws.proofs.Midway.{IsSound}
use Rattle.waiting_footprint_laws.proofs.Sound.{entry-sound}

-- The opening kernel.

opening-living : (p : ℕ) (a : Alive) → living_in opening.processes p ≡ Some a → new_alive ≡ a
opening-living p a h =
    elim (cases_eq p 1) [
      | inl e ↦
          from_some new_alive a (subst (λ (q : ℕ). living_in opening.processes q ≡ Some a) e h)
      | inr ne ↦
          not_some a (sym (ap (option_and_then alive_in) (get-later (1, Living new_alive) [] p ne)) ∙ h)
    ]

opening-childless : {B : Type 0} (p c : ℕ) (a : Alive) → living_in opening.processes p ≡ Some a
    → lists a.row.family c ≡ true → B
opening-childless p c a l h =
    absurd (false≢true (ap (λ (x : Alive). lists x.row.family c) (opening-living p a l) ∙ h))

opening-fair : IsFair 1 new_alive
opening-fair = (λ d. refl, λ e. refl)

opening-people : People IsFair opening.processes opening.used_processes
opening-people =
    record {
      rising = rising-put [] 1 (Living new_alive) (rising-nothing Process);
      each = λ p a l. subst (λ (x : Alive). IsFair p x) (opening-living p a l) opening-fair;
      listed = λ p c a l h. opening-childless p c a l h;
      one_parent = λ p q a b c l m h g. opening-childless p c a l h;
    }

opening-sound : IsSound opening
opening-sound = record { people = opening-people; queues = table-empty _; sets = table-empty _ }

-- Along a history.

from-of : (P : Successor → Type 0) (o : Option Successor) (s : Successor) → o ≡ Some s → Of P o → P s
from-of P o s is h = subst (λ (x : Option Successor). Of P x) is h

sound-along : (h : List Entry) (k last : Kernel) → IsSound k → Replays k h last → IsSound last
sound-along [] k last sound r = subst (λ (x : Kernel). IsSound x) r sound
sound-along (e ∷ es) k last sound r =
    sound-along es r.next last
    (from-of (λ s. IsSound s.kernel) _ (successor r.next e.outcome) r.step (entry-sound k sound e.pid e.call _)) r.rest

-- with what waiting for children finds
pub reachable-valid : ReachableWaitsFindNothing → ReachableKernelsAreValid
reachable-valid finds h k r =
    let sound = sound-along h opening k opening-sound r
    in record {
      processes = sound.people.rising;
      queue_keys = sound.queues.keys_rise;
      set_keys = sound.sets.keys_rise;
      used_queues = sound.queues.used_at;
      used_sets = sound.sets.used_at;
      alive = λ pid a l.
          record {
            allowed = sound.people.each pid a l;
            patient = λ child nohang parked. finds h k r pid a child nohang l parked;
          };
      one_parent = λ p q a b c l m x y. sound.people.one_parent p q a b c l m x y;
    }
