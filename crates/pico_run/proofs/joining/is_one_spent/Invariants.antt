use Rattle.std.proofs.Common.{◌≢◌, Some, take}
use Rattle.std.specs.List.{AllByRecursion}
use Rattle.log_model.specs.declared.answer.LogFault.TheVariants as faults
use Rattle.log_model.specs.Views.{LoggedNode}
use Rattle.pico_run.proofs.joining.is_one_spent.Given as goal

-- none so far
abbrev pub invariant-loop-logged : goal.invariant-loop-logged
invariant-loop-logged l =
    AllByRecursion (λ (x : LoggedNode). x.fault ≢ Some faults.Memory) (take l.logged-index l.nodes)
