-- The logs of events are what `stamp_merge` asks for, as those of turns are, and a merge of them is made of turns.
use Rattle.std.proofs.Common.{◌≡◌, ◌≢◌, ℕ, zero, suc, ◌<◌, List, [], ◌∷◌, ◌++◌, map, nat_eq, if◌then◌else◌, refl, ap, sym, subst, ◌∙◌, inl, inr}
use Rattle.std.specs.List.{AllByRecursion}
use Rattle.std.proofs.lemmas.Bool.{cases_eq, eq-eqb, ne_eqb}
use Rattle.std.proofs.lemmas.List.{map-append}
use Rattle.pico_base.specs.declared.script.Script.{Script}
use Rattle.pico_base.specs.declared.script.Event.{Event}
use Rattle.stamp_merge.specs.declared.Stamped.{Stamped}
use Rattle.stamp_merge.specs.Merge as stamps
use Rattle.stamp_merge.proofs.Merges.{own-item, others-item}
use Rattle.world_model.specs.World.{IsNode, node_count}
use Rattle.log_laws.specs.Logs.{Logged, Log, items_in}
use Rattle.log_laws.specs.Merge.{logs_from, logs_of, NodeTurn, turn_item, event_at, event_of, events_of}
use Rattle.log_laws.specs.EventLogs.{event_item_of, event_log, event_logs_from, event_logs_of, EventLogsMayMerge, event_item, EventsMergeAsTurns}
use Rattle.log_laws.proofs.Lists.{all-moved, log_of, log-of-own, log-of-other}
use Rattle.log_laws.proofs.MayMerge.{log-part, all-of-logs, logs_may_merge_lemma}
use Rattle.log_laws.proofs.ByNode.{IsMergeByNode, from-nodes}

-- ---- an item with its turn's event in place of its turn

abbrev as_event : Stamped Logged → Stamped Event
as_event e = record { stamp = e.stamp; node = e.node; item = event_at e.node e.item.input }

as-events : (p : ℕ) (log : Log) → event_log p log ≡ map as_event (items_in p log)
as-events p [] = refl
as-events p (turn ∷ log) = ap (λ (es : List (Stamped Event)). event_item_of p turn ∷ es) (as-events p log)

all-as-events : (node count : ℕ) (logs : ℕ → Log)
    → event_logs_from node count logs ≡ map (map as_event) (logs_from node count logs)
all-as-events node zero logs = refl
all-as-events node (suc count) logs =
    ap (λ (es : List (Stamped Event)). es ∷ event_logs_from (suc node) count logs) (as-events node (logs node))
    ∙ ap (λ (ess : List (List (Stamped Event))). map as_event (items_in node (logs node)) ∷ ess)
    (all-as-events (suc node) count logs)

-- ---- what it keeps

keeps-above : (stamp : ℕ) (es : List (Stamped Logged)) → AllByRecursion (λ (e : Stamped Logged). stamp < e.stamp) es
    → AllByRecursion (λ (e : Stamped Event). stamp < e.stamp) (map as_event es)
keeps-above stamp [] h = tt
keeps-above stamp (e ∷ es) h = (h.0, keeps-above stamp es h.1)

keeps-rise : (es : List (Stamped Logged)) → stamps.StampsRise es → stamps.StampsRise (map as_event es)
keeps-rise [] h = tt
keeps-rise (e ∷ es) h = (keeps-above e.stamp es h.0, keeps-rise es h.1)

keeps-all_rise : (logs : List (List (Stamped Logged))) → AllByRecursion stamps.StampsRise logs
    → AllByRecursion stamps.StampsRise (map (map as_event) logs)
keeps-all_rise [] h = tt
keeps-all_rise (es ∷ logs) h = (keeps-rise es h.0, keeps-all_rise logs h.1)

keeps-node : (p : ℕ) (es : List (Stamped Logged)) → AllByRecursion (λ (e : Stamped Logged). e.node ≡ p) es
    → AllByRecursion (λ (e : Stamped Event). e.node ≡ p) (map as_event es)
keeps-node p [] h = tt
keeps-node p (e ∷ es) h = (h.0, keeps-node p es h.1)

keeps-one_node : (es : List (Stamped Logged)) → stamps.IsOfOneNode es → stamps.IsOfOneNode (map as_event es)
keeps-one_node [] h = tt
keeps-one_node (e ∷ es) h = keeps-node e.node es h

keeps-others : (p : ℕ) (es : List (Stamped Logged)) → AllByRecursion (λ (e : Stamped Logged). e.node ≢ p) es
    → AllByRecursion (λ (e : Stamped Event). e.node ≢ p) (map as_event es)
keeps-others p [] h = tt
keeps-others p (e ∷ es) h = (h.0, keeps-others p es h.1)

keeps-apart : (es fs : List (Stamped Logged)) → stamps.ShareNoNode es fs
    → stamps.ShareNoNode (map as_event es) (map as_event fs)
keeps-apart [] fs h = tt
keeps-apart (e ∷ es) fs h = (keeps-others e.node fs h.0, keeps-apart es fs h.1)

keeps-all_apart : (es : List (Stamped Logged)) (logs : List (List (Stamped Logged)))
    → AllByRecursion (stamps.ShareNoNode es) logs
    → AllByRecursion (stamps.ShareNoNode (map as_event es)) (map (map as_event) logs)
keeps-all_apart es [] h = tt
keeps-all_apart es (fs ∷ logs) h = (keeps-apart es fs h.0, keeps-all_apart es logs h.1)

keeps-own_nodes : (logs : List (List (Stamped Logged))) → stamps.HaveOwnNodes logs
    → stamps.HaveOwnNodes (map (map as_event) logs)
keeps-own_nodes [] h = tt
keeps-own_nodes (es ∷ logs) h = (keeps-one_node es h.0, keeps-all_apart es logs h.1, keeps-own_nodes logs h.2)

keeps-items : (p : ℕ) (es : List (Stamped Logged))
    → stamps.items_of p (map as_event es) ≡ map as_event (stamps.items_of p es)
keeps-items p [] = refl
keeps-items p (e ∷ es) =
    elim (cases_eq e.node p) [
      | inl s ↦
          own-item (as_event e) (map as_event es) p s
          ∙ ap (λ (fs : List (Stamped Event)). as_event e ∷ fs) (keeps-items p es)
          ∙ sym (ap (map as_event) (own-item e es p s))
      | inr d ↦
          others-item (as_event e) (map as_event es) p d
          ∙ keeps-items p es
          ∙ sym (ap (map as_event) (others-item e es p d))
    ]

keeps-all_items : (logs : List (List (Stamped Logged)))
    → stamps.all_items (map (map as_event) logs) ≡ map as_event (stamps.all_items logs)
keeps-all_items [] = refl
keeps-all_items (es ∷ logs) =
    ap (λ (fs : List (Stamped Event)). map as_event es ++ fs) (keeps-all_items logs)
    ∙ sym (map-append as_event es (stamps.all_items logs))

keeps-nodes : (script : Script) (es : List (Stamped Logged))
    → AllByRecursion (λ (e : Stamped Logged). IsNode script e.node) es
    → AllByRecursion (λ (e : Stamped Event). IsNode script e.node) (map as_event es)
keeps-nodes script [] h = tt
keeps-nodes script (e ∷ es) h = (h.0, keeps-nodes script es h.1)

-- the logs of events may be merged
pub event_logs_may_merge_lemma : EventLogsMayMerge
event_logs_may_merge_lemma script logs rise =
    let may = logs_may_merge_lemma script logs rise
    in let same : map (map as_event) (logs_of script logs) ≡ event_logs_of script logs =
    sym (all-as-events 1 (node_count script) logs)
    in record {
      rise = subst (AllByRecursion stamps.StampsRise) same (keeps-all_rise (logs_of script logs) may.rise);
      own_nodes = subst stamps.HaveOwnNodes same (keeps-own_nodes (logs_of script logs) may.own_nodes);
    }

all-items-of : (script : Script) (logs : ℕ → Log)
    → stamps.all_items (event_logs_of script logs) ≡ map as_event (stamps.all_items (logs_of script logs))
all-items-of script logs =
    ap stamps.all_items (all-as-events 1 (node_count script) logs) ∙ keeps-all_items (logs_of script logs)

-- each node's events in them are those of its turns
event-part : (script : Script) (logs : ℕ → Log) (p : ℕ) → IsNode script p
    → stamps.items_of p (stamps.all_items (event_logs_of script logs)) ≡ event_log p (logs p)
event-part script logs p is =
    ap (stamps.items_of p) (all-items-of script logs)
    ∙ keeps-items p (stamps.all_items (logs_of script logs))
    ∙ ap (map as_event) (log-part script logs p is)
    ∙ sym (as-events p (logs p))

event-nodes : (script : Script) (logs : ℕ → Log)
    → AllByRecursion (λ (e : Stamped Event). IsNode script e.node) (stamps.all_items (event_logs_of script logs))
event-nodes script logs =
    subst (AllByRecursion (λ (e : Stamped Event). IsNode script e.node)) (sym (all-items-of script logs))
    (keeps-nodes script (stamps.all_items (logs_of script logs))
    (all-of-logs (λ (e : Stamped Logged). IsNode script e.node) script logs (λ p is turn. is)))

-- ---- the turns of merged events

-- the first event of a log is that of its first turn
record BeginsWith (p : ℕ) (log : Log) (e : Stamped Event) (es : List (Stamped Event)) : Type 0 where
  turn : Logged
  rest : Log
  log_is : log ≡ turn ∷ rest
  first : event_item_of p turn ≡ e
  others : event_log p rest ≡ es

begins-with : (p : ℕ) (log : Log) (e : Stamped Event) (es : List (Stamped Event)) → event_log p log ≡ e ∷ es
    → BeginsWith p log e es
begins-with p [] e es h = absurd (cc)
begins-with p (turn ∷ log) e es h =
    let first : event_item_of p turn ≡ e = cc
    in let others : event_log p log ≡ es = cc
    in record { turn = turn; rest = log; log_is = refl; first = first; others = others }

no-turns : (p : ℕ) (log : Log) → [] ≡ event_log p log → [] ≡ log
no-turns p [] h = refl
no-turns p (turn ∷ log) h = absurd (cc)

-- the logs behind a turn of this node
abbrev behind : ℕ → Log → (ℕ → Log) → ℕ → Log
behind node rest logs p = if nat_eq node p then rest else logs p

behind-own : (node : ℕ) (rest : Log) (logs : ℕ → Log) (p : ℕ) → node ≡ p → behind node rest logs p ≡ rest
behind-own node rest logs p e = ap (λ b. if b then rest else logs p) (eq-eqb node p e)

behind-other : (node : ℕ) (rest : Log) (logs : ℕ → Log) (p : ℕ) → node ≢ p → behind node rest logs p ≡ logs p
behind-other node rest logs p d = ap (λ b. if b then rest else logs p) (ne_eqb node p d)

before-turns : (t : NodeTurn) (turns : List NodeTurn)
    → AllByRecursion (stamps.IsBefore (event_item t)) (map event_item turns)
    → AllByRecursion (stamps.IsBefore (turn_item t)) (map turn_item turns)
before-turns t [] h = tt
before-turns t (u ∷ turns) h = (h.0, before-turns t turns h.1)

items-of-turns : (turns : List NodeTurn) → map (λ (e : Stamped Event). e.item) (map event_item turns) ≡ events_of turns
items-of-turns [] = refl
items-of-turns (t ∷ turns) = ap (λ (es : List Event). event_of t ∷ es) (items-of-turns turns)

-- the merged events are those of turns, which are a merge node by node
record AreTurns (script : Script) (logs : ℕ → Log) (merged : List (Stamped Event)) : Type 0 where
  turns : List NodeTurn
  merge : IsMergeByNode script logs turns
  items : merged ≡ map event_item turns

-- each node's events are those of its log
abbrev ArePartsOf : Script → (ℕ → Log) → List (Stamped Event) → Type 0
ArePartsOf script logs merged = (p : ℕ) → IsNode script p → stamps.items_of p merged ≡ event_log p (logs p)

module _ (script : Script) (logs : ℕ → Log) (e : Stamped Event) (merged : List (Stamped Event))
    (parts : ArePartsOf script logs (e ∷ merged)) (here : IsNode script e.node) where
  begins : BeginsWith e.node (logs e.node) e (stamps.items_of e.node merged)
  begins =
      begins-with e.node (logs e.node) e (stamps.items_of e.node merged)
      (sym (parts e.node here) ∙ own-item e merged e.node refl)

  abbrev rest_logs : ℕ → Log
  rest_logs = behind e.node begins.rest logs

  rest-parts : ArePartsOf script rest_logs merged
  rest-parts p is =
      elim (cases_eq e.node p) [
        | inl s ↦
            ap (λ q. stamps.items_of q merged) (sym s)
            ∙ sym begins.others
            ∙ ap (λ q. event_log q begins.rest) s
            ∙ sym (ap (event_log p) (behind-own e.node begins.rest logs p s))
        | inr d ↦
            sym (others-item e merged p d)
            ∙ parts p is
            ∙ sym (ap (event_log p) (behind-other e.node begins.rest logs p d))
      ]

  abbrev first_turn : NodeTurn
  first_turn = record { node = e.node; turn = begins.turn }

  log-with-first : (turns : List NodeTurn) (p : ℕ) → log_of p turns ≡ rest_logs p
      → log_of p (first_turn ∷ turns) ≡ logs p
  log-with-first turns p h =
      elim (cases_eq e.node p) [
        | inl s ↦
            log-of-own first_turn turns p s
            ∙ ap (λ (log : Log). begins.turn ∷ log) (h ∙ behind-own e.node begins.rest logs p s)
            ∙ sym begins.log_is
            ∙ ap logs s
        | inr d ↦ log-of-other first_turn turns p d ∙ h ∙ behind-other e.node begins.rest logs p d
      ]

  with-first : (turns : List NodeTurn) → IsMergeByNode script rest_logs turns → merged ≡ map event_item turns
      → AllByRecursion (stamps.IsBefore e) merged → AreTurns script logs (e ∷ merged)
  with-first turns merge items before =
      let same : e ∷ merged ≡ event_item first_turn ∷ map event_item turns =
      ap (λ (f : Stamped Event). f ∷ merged) (sym begins.first)
      ∙ ap (λ (fs : List (Stamped Event)). event_item first_turn ∷ fs) items
      in record {
        turns = first_turn ∷ turns;
        merge = record {
          in_order = (
            before-turns first_turn turns
                (subst (λ (f : Stamped Event). AllByRecursion (stamps.IsBefore f) (map event_item turns))
                (sym begins.first) (subst (AllByRecursion (stamps.IsBefore e)) items before)),
            merge.in_order,
          );
          each = λ p is. log-with-first turns p (merge.each p is);
          nodes = (here, merge.nodes);
        };
        items = same;
      }

turns-of-parts : (script : Script) (merged : List (Stamped Event)) (logs : ℕ → Log) → ArePartsOf script logs merged
    → AllByRecursion (λ (e : Stamped Event). IsNode script e.node) merged → stamps.AreInOrder merged
    → AreTurns script logs merged
turns-of-parts script [] logs parts nodes order =
    record {
      turns = [];
      merge = record { in_order = tt; each = λ p is. no-turns p (logs p) (parts p is); nodes = tt };
      items = refl;
    }
turns-of-parts script (e ∷ merged) logs parts nodes order =
    let rest : AreTurns script (rest_logs script logs e merged parts nodes.0) merged =
    turns-of-parts script merged (rest_logs script logs e merged parts nodes.0)
    (rest-parts script logs e merged parts nodes.0) nodes.1 order.1
    in with-first script logs e merged parts nodes.0 rest.turns rest.merge rest.items order.0

-- merged events are those of turns
pub events_merge_as_turns_lemma : EventsMergeAsTurns
events_merge_as_turns_lemma script logs merged merge =
    let are : AreTurns script logs merged =
    turns-of-parts script merged logs (λ p is. merge.parts p ∙ event-part script logs p is)
    (all-moved (λ (e : Stamped Event). IsNode script e.node) (stamps.all_items (event_logs_of script logs)) merged
    merge.all (event-nodes script logs))
    merge.in_order
    in record {
      turns = are.turns;
      merge = from-nodes script logs are.turns are.merge;
      items = are.items;
      events = ap (map (λ (e : Stamped Event). e.item)) are.items ∙ items-of-turns are.turns;
    }
