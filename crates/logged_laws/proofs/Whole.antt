-- What a node's turns keep true, from its first one on.
use Rattle.std.proofs.Common.{◌≡◌, List, [], Option, Some, None, refl, ap, sym, subst, inl, inr}
use Rattle.std.specs.List.{AllByRecursion}
use Rattle.pico_base.specs.declared.script.Script.{Script}
use Rattle.stream_pair.specs.declared.piece.Piece.{Piece}
use Rattle.stamp_merge.proofs.Filters.{all-map}
use Rattle.world_model.specs.Node.{Node, opening_node}
use Rattle.piece_laws.specs.Pieces.{Took, TookNothing}
use Rattle.log_model.specs.declared.answer.LogFault.{LogFault}
use Rattle.log_model.specs.declared.answer.TurnAnswer.{TurnAnswer}
use Rattle.log_model.specs.declared.answer.TurnAnswer.TheVariants.{Did, Piece as PieceAnswer, Idle, Memory, BadFrame, StampEnd}
use Rattle.log_model.specs.declared.found.Found.{Found}
use Rattle.log_model.specs.Views.{Line, LoggedNode}
use Rattle.log_model.specs.Looks.{ends_looks, Looks}
use Rattle.log_model.specs.Turns.{may_take, one_more_quiet, EndsAs, IsTurn, IsTurnOrSpent, TurnsFrom}
use Rattle.log_model.specs.Logged.{IsOfScript, IsWholeLine, Stands, IsLogged}
use Rattle.logged_laws.specs.Laws.{IsNewLine, NewNodesAreLogged, IsKept, TurnsKeepLogs}
use Rattle.logged_laws.proofs.Lines.{whole-line-of}
use Rattle.logged_laws.proofs.Ended.{HasLooked, kept-quiet, kept-bad, kept-full}
use Rattle.logged_laws.proofs.Did.{kept-did}

-- ---- no turn

new-line-whole : (line : Line) → IsNewLine line → IsWholeLine [] line
new-line-whole line new =
    record {
      sent = new.sent;
      took = subst (λ (taken : List Piece). Took taken [] line.left) (sym new.taken)
          (subst (Took [] []) (sym new.left) TookNothing);
    }

-- the log of a new node
pub new_nodes_are_logged_lemma : NewNodesAreLogged
new_nodes_are_logged_lemma script l new of =
    let whole : AllByRecursion (IsWholeLine []) l.lines =
    all-map (λ line is. new-line-whole line is) l.lines new.lines
    in record {
      of_script = of;
      turns = [];
      last = opening_node l.number;
      leads = refl;
      rise = tt;
      clock = tt;
      clock_is = inl new.clock;
      log = new.log;
      own = new.own;
      seat = new.seat;
      between = tt;
      others = tt;
      frames = tt;
      drawn = tt;
      lines = all-map (λ line is. whole-line-of [] line is) l.lines whole;
      stands = subst (Stands script l [] (opening_node l.number)) (sym new.fault) (new.node, whole);
    }

-- ---- a turn

-- a turn of a node that goes on is one on the last node of its log
record IsTurnHere (script : Script) (old new : LoggedNode) (was : IsLogged script old) (answer : TurnAnswer) : Type 0
  where
    found : Found
    lines : List Line
    looked : HasLooked script old was found lines
    ends : EndsAs script old was.last found lines new answer

turn-here : (script : Script) (old new : LoggedNode) (was : IsLogged script old) (answer : TurnAnswer)
    → old.fault ≡ None → IsTurn script old new answer → IsTurnHere script old new was answer
turn-here script old new was answer none turned =
    let stood : (old.node ≡ Some was.last) × AllByRecursion (IsWholeLine was.turns) old.lines =
    subst (Stands script old was.turns was.last) none was.stands
    in let there : old.node ≡ Some was.last = stood.0
    in let same : turned.node ≡ was.last = cc
    in record {
      found = turned.found;
      lines = turned.lines;
      looked = record {
        none = none;
        node = stood.0;
        whole = stood.1;
        looks = subst (λ (n : Node). Looks (may_take script old.number n) old.lines turned.found turned.lines) same
            turned.looks;
      };
      ends = subst (λ (n : Node). EndsAs script old n turned.found turned.lines new answer) same turned.ends;
    }

-- by what it answers
kept-here : (script : Script) (old new : LoggedNode) (was : IsLogged script old) (answer : TurnAnswer)
    → IsOfScript script new → IsTurnHere script old new was answer → IsLogged script new
kept-here script old new was Did of here = kept-did script old new was here.found here.lines here.looked of here.ends
kept-here script old new was PieceAnswer of here =
    kept-quiet script old new was here.found here.lines here.looked of 0 (ap ends_looks here.ends.0) here.ends.2
kept-here script old new was Idle of here =
    kept-quiet script old new was here.found here.lines here.looked of (one_more_quiet old.quiet)
    (ap ends_looks here.ends.0) here.ends.2
kept-here script old new was Memory of here = absurd here.ends
kept-here script old new was BadFrame of here =
    kept-bad script old new was here.found here.lines here.looked of here.ends
kept-here script old new was (StampEnd last) of here =
    kept-full script old new was here.found here.lines here.looked of last here.ends

kept-turn : (script : Script) (old new : LoggedNode) (was : IsLogged script old) (answer : TurnAnswer)
    → old.fault ≡ None → IsOfScript script new → IsTurn script old new answer → IsKept script new
kept-turn script old new was answer none of turned =
    inr (kept-here script old new was answer of (turn-here script old new was answer none turned))

-- a turn that memory ended, or another
kept-unspent : (script : Script) (old new : LoggedNode) (was : IsLogged script old) (answer : TurnAnswer)
    → old.fault ≡ None → IsOfScript script new → IsTurnOrSpent script old new answer → IsKept script new
kept-unspent script old new was Did none of turned = kept-turn script old new was Did none of turned
kept-unspent script old new was PieceAnswer none of turned = kept-turn script old new was PieceAnswer none of turned
kept-unspent script old new was Idle none of turned = kept-turn script old new was Idle none of turned
kept-unspent script old new was Memory none of turned = inl turned.fault
kept-unspent script old new was BadFrame none of turned = kept-turn script old new was BadFrame none of turned
kept-unspent script old new was (StampEnd last) none of turned =
    kept-turn script old new was (StampEnd last) none of turned

-- after a fault nothing changes
kept-from : (script : Script) (old new : LoggedNode) (answer : TurnAnswer) (fault : Option LogFault)
    → old.fault ≡ fault → IsKept script old → TurnsFrom fault script old new answer → IsOfScript script new
    → IsKept script new
kept-from script old new answer (Some fault) is kept turned of = subst (IsKept script) (sym turned.1) kept
kept-from script old new answer None is kept turned of =
    elim kept [
      | inl spent ↦ absurd (cc)
      | inr was ↦ kept-unspent script old new was answer is of turned
    ]

-- the log of a node after a turn
pub turns_keep_logs_lemma : TurnsKeepLogs
turns_keep_logs_lemma script old new answer kept turned of =
    kept-from script old new answer old.fault refl kept turned of
