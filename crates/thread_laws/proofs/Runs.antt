-- What the threads did is a run of the machine.
use Rattle.std.proofs.Common.{ℕ, ◌≤◌, List, length, sym, subst, ◌∙◌, arith}
use Rattle.std.proofs.lemmas.List.{length-map}
use Rattle.pico_base.specs.declared.script.Script.{Script}
use Rattle.pico_base.specs.declared.script.Event.{Event}
use Rattle.stamp_merge.specs.declared.Stamped as merged
use Rattle.stamp_merge.specs.Merge as stamps
use Rattle.journal_core.specs.declared.stamped.Stamped.{Stamped}
use Rattle.kernel_model.specs.Script.{IsSoundScript}
use Rattle.log_laws.specs.Merge.{event_of, events_of}
use Rattle.log_laws.specs.Journal.{IsJournalOf}
use Rattle.log_laws.specs.Laws.{IsRunOfTurns}
use Rattle.log_laws.specs.EventLogs.{HasTurns}
use Rattle.log_laws.specs.Drawn.{HasFewStamps}
use Rattle.log_laws.proofs.Whole.{consistent_logs_are_runs_lemma}
use Rattle.log_laws.proofs.Journals.{one_journal_lemma}
use Rattle.turn_laws.specs.Laws.{max_events, RunsAreFew}
use Rattle.piece_laws.specs.Laws.{TakenAreSent, TheNextIsSent}
use Rattle.log_model.specs.Views.{LoggedNode}
use Rattle.thread_laws.specs.Joined.{AreJoined, kept_logs, journal_of}
use Rattle.thread_laws.specs.Laws.{NodesMayMerge, IsRunOfThreads, ThreadsMakeARun}
use Rattle.thread_laws.proofs.Nodes.{HaveMade, have-made}
use Rattle.thread_laws.proofs.Streams.{HaveConsistentLogs, are-consistent}
use Rattle.thread_laws.proofs.Journals.{is-journal, same-entries}
use Rattle.thread_laws.proofs.Merged.{may-merge, merged-turns}
use Rattle.thread_laws.proofs.Stamps.{known-floor, few-stamps, low-stamp, all-below}
use Rattle.thread_laws.proofs.Faults.{IsEnd, HasLowFloors, TurnLaws, no-fault}

-- the kept logs may be merged
pub nodes_may_merge_lemma : NodesMayMerge
nodes_may_merge_lemma script nodes journal joined =
    may-merge script nodes (have-made script nodes joined.number joined.logged)

-- the laws of turns, of pieces and of runs
pub record AreLaws : Type 0 where
  pub turns : TurnLaws
  pub taken : TakenAreSent
  pub next : TheNextIsSent
  pub few : RunsAreFew

module _ (laws : AreLaws) (script : Script) (nodes : ℕ → LoggedNode) (journal : List Stamped)
    (merged : List (merged.Stamped Event)) (sound : IsSoundScript script) (joined : AreJoined script nodes journal)
    (merge : stamps.IsMerge (kept_logs script nodes) merged) where
  have : HaveMade script nodes
  have = have-made script nodes joined.number joined.logged

  way : HaveConsistentLogs script nodes have
  way = are-consistent script nodes have joined.settled laws.taken

  journal_is : IsJournalOf script have.logs (journal_of journal)
  journal_is = is-journal script nodes have journal joined.own joined.order joined.seats

  made : HasTurns script have.logs merged
  made = merged-turns script nodes have merged merge

  run : IsRunOfTurns script made.turns have.last way.untaken
  run = consistent_logs_are_runs_lemma script have.logs have.last way.untaken made.turns way.consistent made.merge

  -- ---- stamps

  few : HasFewStamps script have.logs made.turns
  few = few-stamps script nodes have journal journal_is joined.seen way.untaken way.consistent made.turns made.merge

  few-turns : length made.turns ≤ max_events
  few-turns =
      subst (λ n. n ≤ max_events) (length-map made.turns event_of)
      (laws.few script (events_of made.turns) run.world sound run.runs)

  low-floors : HasLowFloors script nodes have
  low-floors p is input floor from frame =
      let low : floor ≤ length made.turns =
      low-stamp script have.logs made.turns few floor
      (known-floor script nodes have journal journal_is joined.seen p is input floor from frame)
      in let most : length made.turns ≤ max_events = few-turns
      in omega arith

  -- ---- the run

  ends : IsEnd script nodes have way.untaken run.world
  ends =
      record {
        consistent = way.consistent;
        reachable = (events_of made.turns, run.runs);
        node = run.node;
        stream_is = run.stream_is;
      }

  threads-run : IsRunOfThreads script nodes journal merged
  threads-run =
      record {
        logs = have.logs;
        turns = made.turns;
        world = run.world;
        run = record {
          last = have.last;
          untaken = way.untaken;
          consistent = way.consistent;
          merge = made.merge;
          runs = run.runs;
          node = run.node;
          stream_is = run.stream_is;
          journal = run.journal;
        };
        kept = λ p is. (have.made p is).log;
        items = made.items;
        events = made.events;
        journal_is = journal_is;
        entries =
            sym (same-entries journal)
            ∙ one_journal_lemma script have.logs made.turns (journal_of journal) made.merge journal_is
            ∙ sym run.journal;
        below = all-below script have.logs made.turns few;
        no_fault = λ p is.
            no-fault laws.turns laws.next script sound nodes have joined.settled way.untaken run.world ends p is
            low-floors;
      }

-- what the threads did is a run
pub threads_make_a_run_lemma : AreLaws → ThreadsMakeARun
threads_make_a_run_lemma laws script nodes journal merged sound joined merge =
    threads-run laws script nodes journal merged sound joined merge
