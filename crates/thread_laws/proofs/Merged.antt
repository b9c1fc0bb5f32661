-- The logs that the nodes kept are the events of their turns, so a merge of them is a merge of the turns.
use Rattle.std.proofs.Common.{◌≡◌, ℕ, zero, suc, ◌+◌, List, ◌∷◌, map, refl, ap, sym, subst, ◌∙◌, arith}
use Rattle.pico_base.specs.declared.script.Script.{Script}
use Rattle.pico_base.specs.declared.script.Event.{Event}
use Rattle.stamp_merge.specs.declared.Stamped.{Stamped}
use Rattle.stamp_merge.specs.Merge as stamps
use Rattle.world_model.specs.World.{IsNode, numbers, node_count}
use Rattle.log_laws.specs.Logs.{Log}
use Rattle.log_laws.specs.Merge.{MayMerge}
use Rattle.log_laws.specs.EventLogs.{event_log, event_logs_from, event_logs_of, HasTurns}
use Rattle.log_laws.proofs.EventLogs.{event_logs_may_merge_lemma, events_merge_as_turns_lemma}
use Rattle.log_model.specs.Views.{LoggedNode}
use Rattle.thread_laws.specs.Joined.{kept_logs}
use Rattle.thread_laws.proofs.Lists.{IsAmong}
use Rattle.thread_laws.proofs.Nodes.{HaveMade}

kept-from : (kept : ℕ → List (Stamped Event)) (logs : ℕ → Log) (first count : ℕ)
    → ((p : ℕ) → IsAmong first count p → kept p ≡ event_log p (logs p))
    → map kept (numbers first count) ≡ event_logs_from first count logs
kept-from kept logs first zero same = refl
kept-from kept logs first (suc count) same =
    let next : first + 1 ≡ suc first = omega arith
    in ap (λ (es : List (Stamped Event)). es ∷ map kept (numbers (first + 1) count))
    (same first (record { low = omega arith; high = omega arith }))
    ∙ ap (λ (ess : List (List (Stamped Event))). event_log first (logs first) ∷ ess)
    (kept-from kept logs (first + 1) count (λ p is. same p (wider p is))
    ∙ ap (λ n. event_logs_from n count logs) next)
  where
    wider : (p : ℕ) → IsAmong (first + 1) count p → IsAmong first (suc count) p
    wider p is =
        let low = is.low in let high = is.high in record { low = omega arith; high = omega arith }

module _ (script : Script) (nodes : ℕ → LoggedNode) (have : HaveMade script nodes) where
  kept-are : kept_logs script nodes ≡ event_logs_of script have.logs
  kept-are =
      kept-from (λ p. (nodes p).log) have.logs 1 (node_count script) (λ p among. (have.made p (node p among)).log)
    where
      node : (p : ℕ) → IsAmong 1 (node_count script) p → IsNode script p
      node p among =
          let low = among.low in let high = among.high in record { low = low; high = omega arith }

  -- they may be merged
  pub may-merge : MayMerge (kept_logs script nodes)
  may-merge =
      subst MayMerge (sym kept-are)
      (event_logs_may_merge_lemma script have.logs (λ p is. (have.made p is).rise))

  -- and their merge is made of the turns
  pub merged-turns : (merged : List (Stamped Event)) → stamps.IsMerge (kept_logs script nodes) merged
      → HasTurns script have.logs merged
  merged-turns merged merge =
      events_merge_as_turns_lemma script have.logs merged
      (subst (λ (logs : List (List (Stamped Event))). stamps.IsMerge logs merged) kept-are merge)
