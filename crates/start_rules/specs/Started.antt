-- A step beside the one that starts a call.
use Rattle.node_model.specs.Cache.{Cache}
use Rattle.node_model.specs.Caller.{Caller}
use Rattle.world_model.specs.Step.{Step, with_node}

-- the step with another caller and another cache, on which no route depends
abbrev pub aside : Step → Caller → Cache → Step
aside step caller cache = with_node step (record step.node { caller = caller; cache = cache })
