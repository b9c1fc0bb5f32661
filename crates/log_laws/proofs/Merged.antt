-- The items of a merge of logs are turns.
use Rattle.std.proofs.Common.{◌≡◌, List, [], ◌∷◌, map, refl, ap, sym, subst, ◌∙◌}
use Rattle.std.specs.List.{AllByRecursion}
use Rattle.stamp_merge.specs.declared.Stamped.{Stamped}
use Rattle.stamp_merge.specs.Merge as stamps
use Rattle.log_laws.specs.Logs.{Logged}
use Rattle.log_laws.specs.Merge.{logs_of, turn_item, turn_of}
use Rattle.log_laws.specs.Laws.{MergedLogsAreRuns}
use Rattle.log_laws.proofs.Lists.{all-moved}
use Rattle.log_laws.proofs.MayMerge.{all-of-logs}
use Rattle.log_laws.proofs.Whole.{consistent_logs_are_runs_lemma}

-- the item stands under the stamp of its turn
abbrev IsTurn : Stamped Logged → Type 0
IsTurn e = turn_item (turn_of e) ≡ e

turns-of-items : (es : List (Stamped Logged)) → AllByRecursion IsTurn es → map turn_item (map turn_of es) ≡ es
turns-of-items [] are = refl
turns-of-items (e ∷ es) are =
    ap (λ (f : Stamped Logged). f ∷ map turn_item (map turn_of es)) are.0
    ∙ ap (λ (fs : List (Stamped Logged)). e ∷ fs) (turns-of-items es are.1)

-- so a merge of consistent logs is a run
pub merged_logs_are_runs_lemma : MergedLogsAreRuns
merged_logs_are_runs_lemma script logs last untaken merged consistent merge =
    let are : AllByRecursion IsTurn merged =
    all-moved IsTurn (stamps.all_items (logs_of script logs)) merged merge.all
    (all-of-logs IsTurn script logs (λ p is turn. refl))
    in consistent_logs_are_runs_lemma script logs last untaken (map turn_of merged) consistent
    (subst (stamps.IsMerge (logs_of script logs)) (sym (turns-of-items merged are)) merge)
