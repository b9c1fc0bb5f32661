-- Logs that lead to a world, and an event of it as one turn more: they lead to the next world.
use Rattle.std.proofs.Common.{◌≡◌, ℕ, ◌+◌, ◌<◌, true, List, [], ◌∷◌, ◌++◌, Some, refl, ap, sym, subst, ◌∙◌, append-nil, arith}
use Rattle.std.proofs.lemmas.Grind.{flat_map-append}
use Rattle.pico_base.specs.declared.script.Script.{Script}
use Rattle.pico_base.specs.declared.script.Event.{Event}
use Rattle.pico_base.specs.declared.reply.Entry.{Entry}
use Rattle.stamp_merge.proofs.Filters.{all-map}
use Rattle.world_model.specs.Node.{opening_node}
use Rattle.world_model.specs.World.{World, node_at, stream, opening_world, step, is_enabled}
use Rattle.world_model.specs.Run.{IsRunOf}
use Rattle.world_model.specs.Schedule.{node_of}
use Rattle.log_laws.specs.Logs.{Log}
use Rattle.log_laws.specs.Merge.{NodeTurn, event_of, events_of, entries_of}
use Rattle.log_laws.specs.Laws.{IsRunOfTurns}
use Rattle.log_laws.specs.EventLogs.{event_item}
use Rattle.log_laws.specs.Follows.{IsRunOfLogs, LogsLeadThere, logs_after, AreBelow, EventsFollow}
use Rattle.log_laws.proofs.Lists.{map-append, append-all}
use Rattle.log_laws.proofs.Halfway.{nodes_after, on_way_after}
use Rattle.log_laws.proofs.ByNode.{from-nodes}
use Rattle.log_laws.proofs.Whole.{consistent_logs_are_runs_lemma}
use Rattle.log_laws.proofs.RunEnds.{one-end, runs-further}
use Rattle.log_laws.proofs.OneMore.{GoesOn, merge-with-last, consistent-with-last}
use Rattle.log_laws.proofs.EventTurns.{IsTurnThere, event-turn, goes-on}

-- the world to which a merge of consistent logs leads
pub logs_lead_there_lemma : LogsLeadThere
logs_lead_there_lemma script logs last untaken turns w consistent merge runs =
    let a : IsRunOfTurns script turns last untaken =
    consistent_logs_are_runs_lemma script logs last untaken turns consistent merge
    in let same : w ≡ a.world = one-end (events_of turns) (opening_world script) w a.world runs a.runs
    in record {
      last = last;
      untaken = untaken;
      consistent = consistent;
      merge = merge;
      runs = runs;
      node = λ p is. ap (λ (x : World). node_at x p) same ∙ a.node p is;
      stream_is = λ p q is_p is_q. ap (λ (x : World). stream x p q) same ∙ a.stream_is p q is_p is_q;
      journal = ap (λ (x : World). x.journal) same ∙ a.journal;
    }

-- where nothing is logged this is the opening world
pub opening-logs : (script : Script) → IsRunOfLogs script (λ p. []) [] (opening_world script)
opening-logs script =
    logs_lead_there_lemma script (λ p. []) opening_node (λ p q. []) [] (opening_world script)
    (record { rise = λ p is. tt; leads = λ p is. refl; streams = λ p q is_p is_q. refl; between = λ p is. tt })
    (from-nodes script (λ p. []) [] (record { in_order = tt; each = λ p is. refl; nodes = tt }))
    refl

-- with one turn more the logs lead to the next world
run-with-last : (script : Script) (logs : ℕ → Log) (turns : List NodeTurn) (w next : World) (t : NodeTurn)
    (r : IsRunOfLogs script logs turns w) → GoesOn script r.last r.untaken turns t
    → is_enabled w (event_of t) ≡ true → step w (event_of t) ≡ Some next
    → IsRunOfLogs script (logs_after logs t) (turns ++ t ∷ []) next
run-with-last script logs turns w next t r on enabled steps =
    let runs : IsRunOf script (events_of turns ++ event_of t ∷ []) next =
    runs-further (events_of turns) (opening_world script) w next (event_of t) r.runs enabled steps
    in logs_lead_there_lemma script (logs_after logs t) (nodes_after r.last t) (on_way_after on.left t)
    (turns ++ t ∷ []) next
    (consistent-with-last script logs r.last r.untaken turns t r.consistent r.merge on)
    (merge-with-last script logs turns t r.merge on.here on.below)
    (subst (λ (es : List Event). IsRunOf script es next) (sym (map-append event_of turns (t ∷ []))) runs)

entries-with-last : (turns : List NodeTurn) (t : NodeTurn)
    → entries_of (turns ++ t ∷ []) ≡ entries_of turns ++ t.turn.step.entries
entries-with-last turns t =
    flat_map-append (λ (u : NodeTurn). u.turn.step.entries) turns (t ∷ [])
    ∙ ap (λ (es : List Entry). entries_of turns ++ es) (append-nil t.turn.step.entries)

below-with-last : (stamp : ℕ) (turns : List NodeTurn) (t : NodeTurn) → t.turn.stamp ≡ stamp → AreBelow stamp turns
    → AreBelow (stamp + 1) (turns ++ t ∷ [])
below-with-last stamp turns t same below =
    let own : t.turn.stamp < stamp + 1 = omega arith
    in append-all (λ (u : NodeTurn). u.turn.stamp < stamp + 1) turns (t ∷ [])
    (all-map (λ (u : NodeTurn) (low : u.turn.stamp < stamp). below-next u.turn.stamp stamp low) turns below) (own, tt)
  where
    below-next : (a b : ℕ) → a < b → a < b + 1
    below-next a b low = omega arith

-- the turn as an item of a log of events
item-of-turn : (t : NodeTurn) (e : Event) (stamp : ℕ) → t.turn.stamp ≡ stamp → t.node ≡ node_of e → event_of t ≡ e
    → event_item t ≡ record { stamp = stamp; node = node_of e; item = e }
item-of-turn t e stamp stamped node event = λ i. record { stamp = stamped i; node = node i; item = event i }

-- an enabled event follows the logs
pub events_follow_lemma : EventsFollow
events_follow_lemma script logs turns w e next stamp r enabled steps to_nodes below =
    let found : IsTurnThere script w r.untaken e stamp =
    event-turn script logs turns w stamp r below e next enabled steps
    in let on : GoesOn script r.last r.untaken turns found.turn =
    goes-on script logs turns w stamp r below e found to_nodes
    in let event : event_of found.turn ≡ e = found.is.event
    in let run : IsRunOfLogs script (logs_after logs found.turn) (turns ++ found.turn ∷ []) next =
    run-with-last script logs turns w next found.turn r on (ap (is_enabled w) event ∙ enabled)
    (ap (step w) event ∙ steps)
    in record {
      turn = found.turn;
      made = found.is;
      item = item-of-turn found.turn e stamp found.stamped found.node event;
      stamped = found.stamped;
      node = found.node;
      entries =
          run.journal
          ∙ entries-with-last turns found.turn
          ∙ sym (ap (λ (es : List Entry). es ++ found.turn.turn.step.entries) r.journal);
      below = below-with-last stamp turns found.turn found.stamped below;
      run = run;
    }
