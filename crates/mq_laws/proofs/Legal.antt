-- The history that a journal stands for is legal, entry by entry.
use Rattle.std.proofs.Common.{◌≡◌, ◌∙◌, ℕ, List, [], ◌∷◌, Option, Some, None, refl, ap, sym, subst}
use Rattle.pico_base.specs.declared.call.Call.{Call}
use Rattle.pico_base.specs.declared.call.Call.TheVariants as calls
use Rattle.pico_base.specs.declared.reply.Entry.{Entry}
use Rattle.pico_base.specs.declared.reply.Reply.{Reply}
use Rattle.pico_base.specs.declared.reply.Reply.TheVariants as replies
use Rattle.pico_base.specs.declared.script.Script.{Script}
use Rattle.std.specs.Prelude.{pos, negsuc}
use Rattle.kernel_model.specs.History.{number_in}
use Rattle.waiting_model.specs.Kernel as plain
use Rattle.waiting_model.specs.History as plain_history
use Rattle.waiting_model.specs.Transition.{Successor, successor, transition}
use Rattle.waiting_model.specs.Fitting.{FitsFrom, Places, Progress, opening_places, places_after}
use Rattle.waiting_laws.proofs.ParkWaits.{opening-sound}
use Rattle.mq_model.specs.Calls.{MqCall, MqEntry, MqOutcome, Open, Send, Receive, GetAttr, Other, Plain, Refused}
use Rattle.mq_model.specs.Kernel.{MqKernel, opening}
use Rattle.mq_model.specs.History as mq
use Rattle.mq_model.specs.History.{IsLegal, Replays}
use Rattle.mq_model.specs.Given.{IsGiven}
use Rattle.mq_model.specs.Shown.{history_from, history_of, places_behind, shown_at}
use Rattle.mq_model.specs.SystemV.{given_call, shown_call, shown_on_queues, shown_outcome, shown_own, system_v}
use Rattle.mq_model.specs.Transition as mq_steps
use Rattle.mq_model.specs.Transition.{MqSuccessor, alone, mq_transition}
use Rattle.mq_laws.specs.Alike.{Alike}
use Rattle.mq_laws.specs.Together.{LeadAlike, LeadsAlike}
use Rattle.mq_laws.specs.Histories.{HistoriesAreLegal}
use Rattle.mq_laws.proofs.Due.{Stands, Plainly, Refused as RefusedBy}
use Rattle.mq_laws.proofs.GivenPlaces.{AreGiven, opening-given}
use Rattle.mq_laws.proofs.Places.{system_v_places, same-opening}
use Rattle.mq_laws.proofs.Together.{calls-together, refusals-together}
use Rattle.mq_laws.proofs.Found.{Found, at-place, stands-here, rest-given, rest-fits}

-- ---- the number that an entry may have created

number-on-queues : (reply : Reply) → mq.number_in (Some (shown_on_queues reply)) ≡ number_in (Some reply)
number-on-queues (replies.Message (pos class) text) = refl
number-on-queues (replies.Message (negsuc n) text) = refl
number-on-queues (replies.Num n) = refl
number-on-queues reply = refl

number-plain : (reply : Reply) → mq.number_in (Some (Plain reply)) ≡ number_in (Some reply)
number-plain (replies.Num n) = refl
number-plain reply = refl

same-number : (call : MqCall) (own : Option Reply) → mq.number_in (shown_own call own) ≡ number_in own
same-number call None = refl
same-number (Other call) (Some reply) = number-plain reply
same-number (Open name create excl) (Some reply) = number-on-queues reply
same-number (Send id priority text) (Some reply) = number-on-queues reply
same-number (Receive id size) (Some reply) = number-on-queues reply
same-number (GetAttr id) (Some reply) = number-on-queues reply

-- ---- one entry

-- what a result that is alike is
record Next (outcome : MqOutcome) (next : plain.Kernel) (p : Option MqSuccessor) : Type 0 where
  kernel : MqKernel
  is : p ≡ Some (mq_steps.successor kernel outcome)
  alike : Alike next kernel

next-of : (outcome : Successor → MqOutcome) (s : Successor) (o : Option Successor) (p : Option MqSuccessor)
    → o ≡ Some s → LeadAlike outcome o p → Next (outcome s) s.kernel p
next-of outcome s None p is leads = absurd (cc)
next-of outcome s (Some t) None is leads = absurd leads
next-of outcome s (Some t) (Some u) is leads =
    let same : t ≡ s = cc
    in let l : LeadsAlike (outcome s) s u = subst (λ (x : Successor). LeadsAlike (outcome x) x u) same leads
    in record {
      kernel = u.kernel;
      is = ap (λ (x : MqOutcome). Some (mq_steps.successor u.kernel x)) l.outcome_is;
      alike = l.alike;
    }

-- the entry that is shown leads to a kernel that is alike
record Steps (m : MqKernel) (next : plain.Kernel) (e : MqEntry) : Type 0 where
  kernel : MqKernel
  step : mq_transition m e.pid e.call (mq.number_in e.outcome.own) ≡ Some (mq_steps.successor kernel e.outcome)
  alike : Alike next kernel

entry-steps : (k next : plain.Kernel) (m : MqKernel) (e : Entry) (p : Progress) → Alike k m
    → transition k e.pid e.call (number_in e.outcome.own) ≡ Some (successor next e.outcome) → Stands e p
    → Steps m next (shown_at e (Some p))
entry-steps k next m e p alike step (Plainly shows carried is_next) =
    let n : ℕ = number_in e.outcome.own
    in let s : Successor = successor next e.outcome
    in let f : Successor → MqOutcome = λ s. shown_outcome (shown_call e.call) s.outcome
    in let to : Next (shown_outcome (shown_call e.call) e.outcome) next (mq_transition m e.pid (shown_call e.call) n) =
    next-of f s (transition k e.pid e.call n) (mq_transition m e.pid (shown_call e.call) n) step
    (calls-together k m e.pid e.call n alike carried)
    in subst (Steps m next) (sym shows)
    (record {
      kernel = to.kernel;
      step =
          ap (mq_transition m e.pid (shown_call e.call)) (same-number (shown_call e.call) e.outcome.own) ∙ to.is;
      alike = to.alike;
    })
entry-steps k next m e p alike step (RefusedBy given why shows at refuses is is_next) =
    let n : ℕ = number_in e.outcome.own
    in let s : Successor = successor next e.outcome
    in let f : Successor → MqOutcome = λ s. alone (Refused why)
    in let looked : transition k e.pid calls.SigPending n ≡ Some s =
    ap (λ (c : Call). transition k e.pid c n) (sym at) ∙ step
    in let to : Next (alone (Refused why)) next (mq_transition m e.pid (given_call given) 0) =
    next-of f s (transition k e.pid calls.SigPending 0) (mq_transition m e.pid (given_call given) 0) looked
    (refusals-together k m e.pid given why 0 alike is refuses)
    in subst (Steps m next) (sym shows) (record { kernel = to.kernel; step = to.is; alike = to.alike })

-- ---- histories

record LegalFrom (m : MqKernel) (history : List MqEntry) : Type 0 where
  last : MqKernel
  replays : Replays m history last

legal-along : (given : Script) → IsGiven given → (journal : List Entry) (k last : plain.Kernel) (m : MqKernel)
    → (places to : Places) → Alike k m → AreGiven places → plain_history.Replays k journal last
    → FitsFrom (system_v given) (system_v_places places) journal to → LegalFrom m (history_from given places journal)
legal-along given is_given [] k last m places to alike all r f = record { last = m; replays = refl }
legal-along given is_given (e ∷ es) k last m places to alike all r f =
    let at : Found places e.pid f.progress = at-place given is_given places all e es to f
    in let p : Progress = at.place
    in let s : Steps m r.next (shown_at e (Some p)) =
    entry-steps k r.next m e p alike r.step (stands-here given is_given places all e es to f)
    in let rest : LegalFrom s.kernel (history_from given (places_after given places e p) es) =
    legal-along given is_given es r.next last s.kernel (places_after given places e p) to s.alike
    (rest-given given is_given places all e es to f) r.rest (rest-fits given is_given places all e es to f)
    in subst
    (λ (o : Option Progress). LegalFrom m (shown_at e o ∷ history_from given (places_behind given places e o) es))
    (sym at.there)
    (record { last = rest.last; replays = record { next = s.kernel; step = s.step; rest = rest.replays } })

opening-alike : Alike plain.opening opening
opening-alike = record { shown = refl; queues = tt; sound = opening-sound }

-- from the two opening kernels, which are alike, the two histories step together
pub histories-legal : HistoriesAreLegal
histories-legal given journal is_given legal fits =
    let on : LegalFrom opening (history_of given journal) =
    legal-along given is_given journal plain.opening legal.last opening (opening_places given) fits.last opening-alike
    (opening-given given is_given) legal.replays
    (subst (λ (x : Places). FitsFrom (system_v given) x journal fits.last) (same-opening given) fits.fits)
    in record { last = on.last; replays = on.replays }
