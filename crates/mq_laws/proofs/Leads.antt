-- What leads to kernels that are alike, but for what is known of the kernel of System V already.
use Rattle.std.proofs.Common.{◌≡◌, Option, Some, None}
use Rattle.waiting_model.specs.Plain.{AllValues}
use Rattle.waiting_model.specs.Transition.{Successor}
use Rattle.mq_model.specs.Calls.{MqOutcome}
use Rattle.mq_model.specs.Transition.{MqSuccessor}
use Rattle.mq_laws.specs.Alike.{StandsForQueue, shown_kernel}

-- this outcome, the kernel that is shown, and queues that stand for some
pub record LeadsShown (outcome : MqOutcome) (s : Successor) (t : MqSuccessor) : Type 0 where
  pub outcome_is : t.outcome ≡ outcome
  pub shown : t.kernel ≡ shown_kernel s.kernel
  pub queues : AllValues StandsForQueue s.kernel.queues

-- both have a result or none
abbrev pub LeadShown : (Successor → MqOutcome) → Option Successor → Option MqSuccessor → Type 0
LeadShown outcome None None = Unit {0}
LeadShown outcome (Some s) (Some t) = LeadsShown (outcome s) s t
LeadShown outcome s t = ⊥
