-- One turn more at the end of a node's turns.
use Rattle.std.proofs.Common.{◌≡◌, ℕ, ◌<◌, ◌≤◌, List, [], ◌∷◌, ◌++◌, map, refl, ap, sym, subst, ◌∙◌, append-nil, arith}
use Rattle.std.specs.List.{AllByRecursion, flat_map}
use Rattle.std.proofs.lemmas.Grind.{flat_map-append}
use Rattle.rpc_frame.specs.declared.frame.Frame.{Frame}
use Rattle.stream_pair.specs.declared.piece.Piece.{Piece}
use Rattle.stamp_merge.proofs.Filters.{all-map}
use Rattle.journal_core.specs.declared.stamped.Stamped.{Stamped}
use Rattle.log_laws.specs.Logs.{StampedFrame, Logged, Log, sends_of, sent_in, takes_of, taken_in}
use Rattle.log_laws.specs.EventLogs.{event_item_of, event_log}
use Rattle.log_laws.proofs.Lists.{map-append, append-all}
use Rattle.piece_laws.specs.Pieces.{pieces_of_frame, pieces_of, Took}
use Rattle.log_model.specs.Views.{Line}
use Rattle.log_model.specs.Turns.{with_sent}
use Rattle.log_model.specs.Logged.{others_in, IsWholeLine, entries_under}
use Rattle.logged_laws.proofs.Lines.{IsLineWith}

-- ---- the turns

below-next : (a b c : ℕ) → b < c → a ≤ b → a < c
below-next a b c next low = omega arith

up-to-next : (a b c : ℕ) → b < c → a ≤ b → a ≤ c
up-to-next a b c next low = omega arith

-- stamps up to one are below each above it
pub all-below : (clock stamp : ℕ) (turns : Log) → clock < stamp
    → AllByRecursion (λ (t : Logged). t.stamp ≤ clock) turns → AllByRecursion (λ (t : Logged). t.stamp < stamp) turns
all-below clock stamp turns next low = all-map (λ (t : Logged) is. below-next t.stamp clock stamp next is) turns low

-- the last stamp is the highest
pub all-up-to : (clock : ℕ) (turns : Log) (turn : Logged) → clock < turn.stamp
    → AllByRecursion (λ (t : Logged). t.stamp ≤ clock) turns
    → AllByRecursion (λ (t : Logged). t.stamp ≤ turn.stamp) (turns ++ turn ∷ [])
all-up-to clock turns turn next low =
    let own : turn.stamp ≤ turn.stamp = omega arith
    in append-all (λ (t : Logged). t.stamp ≤ turn.stamp) turns (turn ∷ [])
    (all-map (λ (t : Logged) is. up-to-next t.stamp clock turn.stamp next is) turns low) (own, tt)

-- ---- its log, and its entries

-- the log of events with one turn more
pub log-with-turn : (number : ℕ) (turns : Log) (turn : Logged)
    → event_log number (turns ++ turn ∷ []) ≡ event_log number turns ++ event_item_of number turn ∷ []
log-with-turn number turns turn = map-append (event_item_of number) turns (turn ∷ [])

-- the entries with those of one turn more
pub entries-with-turn : (seat : ℕ) (turns : Log) (turn : Logged)
    → flat_map (entries_under seat) (turns ++ turn ∷ [])
    ≡ flat_map (entries_under seat) turns ++ entries_under seat turn
entries-with-turn seat turns turn =
    flat_map-append (entries_under seat) turns (turn ∷ [])
    ∙ ap (λ (es : List Stamped). flat_map (entries_under seat) turns ++ es) (append-nil (entries_under seat turn))

-- ---- its lines

sent-with-turn : (to : ℕ) (turns : Log) (turn : Logged)
    → sent_in to (turns ++ turn ∷ []) ≡ sent_in to turns ++ sends_of to turn
sent-with-turn to turns turn =
    flat_map-append (sends_of to) turns (turn ∷ [])
    ∙ ap (λ (fs : List StampedFrame). sent_in to turns ++ fs) (append-nil (sends_of to turn))

taken-with-turn : (from : ℕ) (turns : Log) (turn : Logged)
    → taken_in from (turns ++ turn ∷ []) ≡ taken_in from turns ++ takes_of from turn.input
taken-with-turn from turns turn =
    flat_map-append (λ (t : Logged). takes_of from t.input) turns (turn ∷ [])
    ∙ ap (λ (fs : List StampedFrame). taken_in from turns ++ fs) (append-nil (takes_of from turn.input))

-- a line with what the turn took and what it sends is whole
whole-with-turn : (turns : Log) (turn : Logged) (line : Line) → IsLineWith turns turn.input line
    → IsWholeLine (turns ++ turn ∷ []) (with_sent turn.stamp turn.step.sends line)
whole-with-turn turns turn line is =
    record {
      sent =
          ap (λ (ps : List Piece). ps ++ pieces_of (sends_of line.other turn)) is.sent
          ∙ sym (flat_map-append pieces_of_frame (sent_in line.other turns) (sends_of line.other turn))
          ∙ ap pieces_of (sym (sent-with-turn line.other turns turn));
      took = subst (λ (fs : List StampedFrame). Took line.into.taken fs line.left)
          (sym (taken-with-turn line.other turns turn)) is.took;
    }

-- and so are all
pub all-with-turn : (turns : Log) (turn : Logged) (lines : List Line)
    → AllByRecursion (IsLineWith turns turn.input) lines
    → AllByRecursion (IsWholeLine (turns ++ turn ∷ [])) (map (with_sent turn.stamp turn.step.sends) lines)
all-with-turn turns turn [] all = tt
all-with-turn turns turn (line ∷ lines) all =
    (whole-with-turn turns turn line all.0, all-with-turn turns turn lines all.1)

-- the lines are with the same nodes
pub others-with-turn : (stamp : ℕ) (sends : List (ℕ × Frame)) (lines : List Line)
    → others_in (map (with_sent stamp sends) lines) ≡ others_in lines
others-with-turn stamp sends [] = refl
others-with-turn stamp sends (line ∷ lines) =
    ap (λ (others : List ℕ). line.other ∷ others) (others-with-turn stamp sends lines)
