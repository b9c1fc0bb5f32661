-- A node's log with its turns, before a turn and after it.
use Rattle.std.proofs.Common.{◌≡◌, ℕ, List, [], Option, refl, ap, sym, subst, ◌∙◌, append-nil}
use Rattle.std.specs.List.{AllByRecursion, Contains, flat_map}
use Rattle.pico_base.specs.declared.script.Script.{Script}
use Rattle.stamp_merge.proofs.Filters.{all-map}
use Rattle.journal_core.specs.Journal.{BeginsWith}
use Rattle.journal_core.specs.Seated.{Seated}
use Rattle.world_model.specs.Node.{Node}
use Rattle.log_laws.specs.Logs.{Input, Runs, Takes, Logged, Log}
use Rattle.log_model.specs.declared.answer.LogFault.{LogFault}
use Rattle.log_model.specs.Views.{Line, LoggedNode}
use Rattle.log_model.specs.Logged.{others_in, IsOfScript, IsLineOf, IsFromOther, IsDrawn, GoesToOthers, entries_under, Stands, IsLogged}
use Rattle.logged_laws.proofs.Draws.{drawn-with-turns}

-- ---- lines with the same nodes

-- lines with the same nodes come from the same others
pub from-same : (olds news : List Line) (input : Input) → others_in olds ≡ others_in news → IsFromOther olds input
    → IsFromOther news input
from-same olds news Runs same from = tt
from-same olds news (Takes sender taken) same from = subst (λ (ps : List ℕ). Contains ps sender) same from

goes-same : (olds news : List Line) → others_in olds ≡ others_in news → (turn : Logged) → GoesToOthers olds turn
    → GoesToOthers news turn
goes-same olds news same turn goes =
    record {
      taken = from-same olds news turn.input same goes.taken;
      sent = subst (λ (ps : List ℕ). AllByRecursion (λ s. Contains ps s.0) turn.step.sends) same goes.sent;
    }

-- frames come from the same nodes and go to them
pub all-go-same : (olds news : List Line) → others_in olds ≡ others_in news → (turns : Log)
    → AllByRecursion (GoesToOthers olds) turns → AllByRecursion (GoesToOthers news) turns
all-go-same olds news same turns all = all-map (λ turn goes. goes-same olds news same turn goes) turns all

-- ---- no turn more

-- the node with its number, its clock and its log
abbrev pub left-as : LoggedNode → Option Node → Option ℕ → List Line → Seated → ℕ → Option LogFault → LoggedNode
left-as old machine forker lines seat quiet fault =
    record old { node = machine; forker = forker; lines = lines; seat = seat; quiet = quiet; fault = fault }

-- the seat has appended nothing, and has seen the journal that it saw before, or a longer one
pub record IsSeatStill (old new : Seated) : Type 0 where
  pub number : new.number ≡ old.number
  pub own : new.own ≡ old.own
  pub seen : BeginsWith new.seen old.seen

-- a seat that stays as it is
pub same-seat : (old : Seated) → IsSeatStill old old
same-seat old = record { number = refl; own = refl; seen = ([], sym (append-nil old.seen)) }

-- the same turns are all of its turns
pub with-same-turns : (script : Script) (old : LoggedNode) (machine : Option Node) (forker : Option ℕ)
    (lines : List Line) (seat : Seated) (quiet : ℕ) (fault : Option LogFault) (was : IsLogged script old)
    → IsSeatStill old.seat seat
    → IsOfScript script (left-as old machine forker lines seat quiet fault)
    → AllByRecursion (IsLineOf was.turns) lines
    → Stands script (left-as old machine forker lines seat quiet fault) was.turns was.last fault
    → IsLogged script (left-as old machine forker lines seat quiet fault)
with-same-turns script old machine forker lines seat quiet fault was still of all stands =
    record {
      of_script = of;
      turns = was.turns;
      last = was.last;
      leads = was.leads;
      rise = was.rise;
      clock = was.clock;
      clock_is = was.clock_is;
      log = was.log;
      own =
          still.own
          ∙ was.own
          ∙ ap (λ (seat : ℕ). flat_map (entries_under seat) was.turns) (sym still.number);
      seat = still.number ∙ was.seat;
      between = was.between;
      others = all-go-same old.lines lines (was.of_script.others ∙ sym of.others) was.turns was.others;
      frames = was.frames;
      drawn = subst (λ (turns : Log). AllByRecursion (IsDrawn turns seat.seen) was.turns) (append-nil was.turns)
          (drawn-with-turns was.turns [] old.seat.seen seat.seen still.seen was.turns was.drawn);
      lines = all;
      stands = stands;
    }
