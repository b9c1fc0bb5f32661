-- A node that makes turns in its thread.
use Rattle.std.proofs.Common.{◌≡◌, ◌≢◌, ℕ, ◌<◌, ◌≤◌, zero, suc, List, [], ◌∷◌, length, map, Option, Some, None, refl, ap, sym, subst, ◌∙◌, slice_index_or}
use Rattle.pico_base.specs.declared.script.Script.{Script}
use Rattle.journal_core.specs.Seated.{Lock}
use Rattle.log_model.specs.declared.answer.LogFault.{LogFault}
use Rattle.log_model.specs.declared.answer.TurnAnswer.{TurnAnswer}
use Rattle.log_model.specs.declared.answer.TurnAnswer.TheVariants.{Did, Piece, Idle, Memory, BadFrame, StampEnd}
use Rattle.log_model.specs.Views.{Line, LoggedNode}
use Rattle.log_model.specs.Logged.{IsOfScript}
use Rattle.log_model.specs.Turns.{IsTurnOrSpent, Turned, TurnsFrom}
use Rattle.logged_laws.specs.Laws.{TurnsKeepLogs}
use Rattle.node_lines.specs.Lines.{AreSameLines, IsSameLine}
use Rattle.node_log.specs.Steps.{AreIdleTurns, IsSameSeat}
use Rattle.pico_run.specs.Grid.{Wire, line_wire}
use Rattle.pico_run.specs.Opened.{AreReady, IsReady}
use Rattle.pico_run.specs.Turning.{CanTurn, IsTurning, IsWorked, quiet_turns}
use Rattle.pico_run.proofs.Lists.{at-place}

wire-same : (old new : Line) → IsSameLine old new → line_wire new ≡ line_wire old
wire-same old new same =
    ap (λ n. record { other = n; there = new.out.stream; back = new.into.stream }) same.other
    ∙ ap (λ s. record { other = old.other; there = s; back = new.into.stream }) same.out
    ∙ ap (λ s. record { other = old.other; there = old.out.stream; back = s }) same.into

pub same-wires : (olds news : List Line) → AreSameLines olds news → map line_wire news ≡ map line_wire olds
same-wires [] [] same = refl
same-wires [] (new ∷ news) same = absurd same
same-wires (old ∷ olds) [] same = absurd same
same-wires (old ∷ olds) (new ∷ news) same =
    ap (λ (w : Wire). w ∷ map line_wire news) (wire-same old new same.0)
    ∙ ap (λ (ws : List Wire). line_wire old ∷ ws) (same-wires olds news same.1)

pub turning-start : (script : Script) (lock : Lock) (l : LoggedNode) → CanTurn script lock l → IsTurning script lock l l
turning-start script lock l can = record { same = record { number = refl; lock = refl; wires = refl }; can_turn = can }

-- one turn more
pub turning-more : (script : Script) (lock : Lock) (old now new : LoggedNode) (answer : TurnAnswer) → TurnsKeepLogs
    → IsTurning script lock old now → Turned script now new answer → IsOfScript script new
    → AreSameLines now.lines new.lines → IsSameSeat now.seat new.seat → new.number ≡ now.number
    → IsTurning script lock old new
turning-more script lock old now new answer keep t turned of_script lines seat number =
    record {
      same = record {
        number = number ∙ t.same.number;
        lock = seat.0 ∙ t.same.lock;
        wires = same-wires now.lines new.lines lines ∙ t.same.wires;
      };
      can_turn = record {
        of_script = of_script;
        lock_is = seat.0 ∙ t.can_turn.lock_is;
        kept = keep script now new answer t.can_turn.kept turned of_script;
      };
    }

-- turns that found nothing, one behind the other
pub turning-idly : (script : Script) (lock : Lock) (count : ℕ) (old new : LoggedNode) → TurnsKeepLogs
    → CanTurn script lock old → AreIdleTurns script count old new → IsTurning script lock old new
turning-idly script lock zero old new keep can idle =
    subst (λ (l : LoggedNode). IsTurning script lock old l) (sym idle) (turning-start script lock old can)
turning-idly script lock (suc count) old new keep can idle =
    turning-more script lock old idle.mid new Idle keep
    (turning-idly script lock count old idle.mid keep can idle.before) idle.idle.turned idle.idle.of_script
    idle.idle.lines idle.idle.seat idle.idle.number

-- a turn behind turns that found nothing
pub turning-behind : (script : Script) (lock : Lock) (count : ℕ) (old now new : LoggedNode) (answer : TurnAnswer)
    → TurnsKeepLogs → CanTurn script lock old → AreIdleTurns script count old now → Turned script now new answer
    → IsOfScript script new → AreSameLines now.lines new.lines → IsSameSeat now.seat new.seat → new.number ≡ now.number
    → IsTurning script lock old new
turning-behind script lock count old now new answer keep can idle turned of_script lines seat number =
    turning-more script lock old now new answer keep (turning-idly script lock count old now keep can idle) turned
    of_script lines seat number

-- some turns behind others
pub turning-on : (script : Script) (lock : Lock) (old now new : LoggedNode) → IsTurning script lock old now
    → IsTurning script lock now new → IsTurning script lock old new
turning-on script lock old now new before behind =
    record {
      same = record {
        number = behind.same.number ∙ before.same.number;
        lock = behind.same.lock ∙ before.same.lock;
        wires = behind.same.wires ∙ before.same.wires;
      };
      can_turn = behind.can_turn;
    }

-- a thread that leaves as its node is quiet has done its work
pub worked-quiet : (script : Script) (lock : Lock) (old new : LoggedNode) → IsTurning script lock old new
    → quiet_turns ≤ new.quiet → IsWorked script old new
worked-quiet script lock old new t quiet = record { same = t.same; kept = t.can_turn.kept; quiet = λ none. quiet }

-- a turn that answers nothing else had a fault
spent-or-faulty : (script : Script) (old new : LoggedNode) (answer : TurnAnswer) → IsTurnOrSpent script old new answer
    → answer ≢ Did → answer ≢ Piece → answer ≢ Idle → new.fault ≢ None
spent-or-faulty script old new Did h not_did not_piece not_idle none = absurd (not_did refl)
spent-or-faulty script old new Piece h not_did not_piece not_idle none = absurd (not_piece refl)
spent-or-faulty script old new Idle h not_did not_piece not_idle none = absurd (not_idle refl)
spent-or-faulty script old new Memory h not_did not_piece not_idle none =
    let f : ⊥ = some-is-none _ (sym h.fault ∙ none) in absurd f
  where
    some-is-none : (x : LogFault) → Some x ≡ None → ⊥
    some-is-none x e = cc
spent-or-faulty script old new BadFrame h not_did not_piece not_idle none =
    let f : ⊥ = some-is-none _ (sym (ap (λ (l : LoggedNode). l.fault) h.ends.is) ∙ none) in absurd f
  where
    some-is-none : (x : LogFault) → Some x ≡ None → ⊥
    some-is-none x e = cc
spent-or-faulty script old new (StampEnd last) h not_did not_piece not_idle none =
    let f : ⊥ = some-is-none _ (sym (ap (λ (l : LoggedNode). l.fault) h.ends.is) ∙ none) in absurd f
  where
    some-is-none : (x : LogFault) → Some x ≡ None → ⊥
    some-is-none x e = cc

-- a node whose turn did nothing that turns do without a fault has one
pub faulty : (script : Script) (fault : Option LogFault) (old new : LoggedNode) (answer : TurnAnswer)
    → old.fault ≡ fault → TurnsFrom fault script old new answer → answer ≢ Did → answer ≢ Piece → answer ≢ Idle
    → new.fault ≢ None
faulty script None old new answer is h not_did not_piece not_idle =
    spent-or-faulty script old new answer h not_did not_piece not_idle
faulty script (Some x) old new answer is h not_did not_piece not_idle =
    λ none. some-is-none x (sym is ∙ sym (ap (λ (l : LoggedNode). l.fault) h.1) ∙ none)
  where
    some-is-none : (x : LogFault) → Some x ≡ None → ⊥
    some-is-none x e = cc

-- and one that leaves with a fault
pub worked-faulty : (script : Script) (lock : Lock) (old new : LoggedNode) → IsTurning script lock old new
    → new.fault ≢ None → IsWorked script old new
worked-faulty script lock old new t faulty =
    record { same = t.same; kept = t.can_turn.kept; quiet = λ none. absurd (faulty none) }

-- ---- all nodes, each in its thread

-- what was said of the list is said of what is lent at this place
pub lent-is-ready : (script : Script) (lock : Lock) (nodes : List LoggedNode) (place : ℕ) (now : LoggedNode)
    → AreReady script lock 1 nodes → place < length nodes → now ≡ slice_index_or nodes place now
    → CanTurn script lock now
lent-is-ready script lock nodes place now ready lt is =
    subst (λ (l : LoggedNode). CanTurn script lock l) (sym is)
    (at-place (IsReady script lock) 1 nodes place now ready lt).can_turn
