-- An event behind the run is one turn more: what it sends goes to nodes of the script.
use Rattle.std.proofs.Common.{ℕ}
use Rattle.stamp_merge.proofs.Filters.{all-map}
use Rattle.rpc_frame.specs.declared.frame.Frame.{Frame}
use Rattle.log_laws.specs.Merge.{events_of}
use Rattle.log_laws.proofs.Follows.{events_follow_lemma}
use Rattle.turn_laws.specs.Laws.{IsTurnIn, GoesToAnother, SendsGoToOthers}
use Rattle.thread_laws.specs.Laws.{StepsFollow}

-- an enabled event follows
pub steps_follow_lemma : SendsGoToOthers → StepsFollow
steps_follow_lemma sends script logs turns w e next stamp sound r enabled steps below =
    events_follow_lemma script logs turns w e next stamp r enabled steps
    (λ t is.
    let turn : IsTurnIn script w t.node is.node t.turn.input =
    record {
      reachable = (events_of turns, r.runs);
      is_node = is.is_node;
      node = is.here;
      there = is.there;
    }
    in all-map (λ (s : ℕ × Frame) (g : GoesToAnother script t.node s). g.receiver) t.turn.step.sends
    (sends script w t.node is.node t.turn.input t.turn.step sound turn is.turns))
    below
