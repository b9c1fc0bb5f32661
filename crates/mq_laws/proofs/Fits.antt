-- The history that a journal stands for fits the given script, entry by entry.
use Rattle.std.proofs.Common.{◌≡◌, ◌∙◌, ℕ, List, [], ◌∷◌, map, Option, Some, refl, ap, sym, subst, inl, inr}
use Rattle.std.specs.List.{AllByRecursion}
use Rattle.pico_base.specs.declared.call.Call.{Call}
use Rattle.pico_base.specs.declared.call.Call.TheVariants as calls
use Rattle.pico_base.specs.declared.reply.Entry.{Entry}
use Rattle.pico_base.specs.declared.script.Line.{Line}
use Rattle.pico_base.specs.declared.script.Script.{Script}
use Rattle.number_maps.specs.Maps.{get}
use Rattle.kernel_model.specs.History.{number_in}
use Rattle.waiting_model.specs.Kernel as plain
use Rattle.waiting_model.specs.History as plain_history
use Rattle.waiting_model.specs.Transition.{successor, transition}
use Rattle.waiting_model.specs.Fitting.{FitsFrom, IsNext, IsOver, Places, Progress, opening_places, places_after}
use Rattle.mq_model.specs.Calls.{MqEntry}
use Rattle.mq_model.specs.Fitting.{written}
use Rattle.mq_model.specs.Given.{IsGiven}
use Rattle.mq_model.specs.Shown.{history_from, history_of, places_behind, shown_at}
use Rattle.mq_model.specs.SystemV.{system_v, system_v_line}
use Rattle.mq_laws.specs.Histories.{HistoriesFit, HistoriesFitWhole}
use Rattle.mq_laws.proofs.Due.{Stands, Plainly, Refused as RefusedBy}
use Rattle.mq_laws.proofs.GivenCalls.{written-again}
use Rattle.mq_laws.proofs.GivenPlaces.{AreGiven, opening-given}
use Rattle.mq_laws.proofs.Places.{system_v_progress, system_v_places, same-opening}
use Rattle.mq_laws.proofs.Written.{looks-pending, plainly-same, refused-same}
use Rattle.mq_laws.proofs.Found.{Found, at-place, stands-here, rest-given, rest-fits}

-- the shown entry, written again, is next, and leads to the same places
record Moves (given : Script) (places : Places) (e : Entry) (p : Progress) (x : MqEntry) : Type 0 where
  pid : x.pid ≡ e.pid
  next : (let w : Entry = written x in IsNext p w.call)
  same : places_after given places (written x) p ≡ places_after given places e p

entry-moves : (given : Script) (places : Places) (k next : plain.Kernel) (e : Entry) (p : Progress)
    → transition k e.pid e.call (number_in e.outcome.own) ≡ Some (successor next e.outcome) → Stands e p
    → Moves given places e p (shown_at e (Some p))
entry-moves given places k next e p step (Plainly shows carried is_next) =
    subst (Moves given places e p) (sym shows)
    (record { pid = refl; next = is_next; same = plainly-same given places e p })
entry-moves given places k next e p step (RefusedBy call why shows at refuses is is_next) =
    let looked : transition k e.pid calls.SigPending (number_in e.outcome.own) ≡ Some (successor next e.outcome) =
    ap (λ (c : Call). transition k e.pid c (number_in e.outcome.own)) (sym at) ∙ step
    in subst (Moves given places e p) (sym shows)
    (record {
      pid = refl;
      next = subst (IsNext p) (sym (written-again call is)) is_next;
      same =
          refused-same given places e p call why at
          (looks-pending k e.pid (number_in e.outcome.own) (successor next e.outcome) looked) is refuses;
    })

record FitsOn (given : Script) (places : Places) (history : List MqEntry) (to : Places) : Type 0 where
  last : Places
  fits : FitsFrom given places (map written history) last
  ends : system_v_places last ≡ to

fits-along : (given : Script) → IsGiven given → (journal : List Entry) (k last : plain.Kernel) (places to : Places)
    → AreGiven places → plain_history.Replays k journal last
    → FitsFrom (system_v given) (system_v_places places) journal to
    → FitsOn given places (history_from given places journal) to
fits-along given is_given [] k last places to all r f = record { last = places; fits = refl; ends = f }
fits-along given is_given (e ∷ es) k last places to all r f =
    let at : Found places e.pid f.progress = at-place given is_given places all e es to f
    in let p : Progress = at.place
    in let m : Moves given places e p (shown_at e (Some p)) =
    entry-moves given places k r.next e p r.step (stands-here given is_given places all e es to f)
    in let rest : FitsOn given (places_after given places e p)
    (history_from given (places_after given places e p) es) to =
    fits-along given is_given es r.next last (places_after given places e p) to
    (rest-given given is_given places all e es to f) r.rest (rest-fits given is_given places all e es to f)
    in let first : FitsFrom given places
    (map written (shown_at e (Some p) ∷ history_from given (places_after given places e p) es)) rest.last =
    record {
      progress = p;
      there = ap (get places) m.pid ∙ at.there;
      next = m.next;
      rest =
          subst
          (λ (x : Places).
          FitsFrom given x (map written (history_from given (places_after given places e p) es)) rest.last)
          (sym m.same) rest.fits;
    }
    in subst
    (λ (o : Option Progress).
    FitsOn given places (shown_at e o ∷ history_from given (places_behind given places e o) es) to)
    (sym at.there) (record { last = rest.last; fits = first; ends = rest.ends })

fits-on : (given : Script) (journal : List Entry) → IsGiven given → plain_history.IsLegal journal → (to : Places)
    → FitsFrom (system_v given) (opening_places (system_v given)) journal to
    → FitsOn given (opening_places given) (history_of given journal) to
fits-on given journal is_given legal to fits =
    fits-along given is_given journal plain.opening legal.last (opening_places given) to (opening-given given is_given)
    legal.replays (subst (λ (x : Places). FitsFrom (system_v given) x journal to) (same-opening given) fits)

-- what a journal stands for fits the given script, since the journal fits the script of System V line for line
pub histories-fit : HistoriesFit
histories-fit given journal is_given legal fits =
    let on : FitsOn given (opening_places given) (history_of given journal) fits.last =
    fits-on given journal is_given legal fits.last fits.fits
    in record { last = on.last; fits = on.fits }

no-lines : (lines : List Line) → map system_v_line lines ≡ [] → lines ≡ []
no-lines [] h = refl
no-lines (line ∷ lines) h = absurd (cc)

over-one : (n : ℕ) (p : Progress) → IsOver (n, system_v_progress p) → IsOver (n, p)
over-one n p (inl nothing) = inl (no-lines p.place.left nothing)
over-one n p (inr waits) = inr waits

over-all : (places : Places) → AllByRecursion IsOver (system_v_places places) → AllByRecursion IsOver places
over-all [] over = tt
over-all (e ∷ places) over = (over-one e.0 e.1 over.0, over-all places over.1)

-- and fits it whole, since the places of both scripts are over together
pub histories-fit-whole : HistoriesFitWhole
histories-fit-whole given journal is_given legal fits =
    let on : FitsOn given (opening_places given) (history_of given journal) fits.last =
    fits-on given journal is_given legal fits.last fits.fits
    in record {
      last = on.last;
      fits = on.fits;
      over = over-all on.last (subst (AllByRecursion IsOver) (sym on.ends) fits.over);
    }
