-- The laws of runs in one record, and how a world at rest is left by them.
use Rattle.std.proofs.Common.{◌≡◌, Bool, ◌∙◌}
use Rattle.pico_base.specs.declared.script.Script.{Script}
use Rattle.kernel_model.specs.Script.{IsSoundScript}
use Rattle.world_model.specs.Run.{IsAtRest, IsReachableWorld, is_stalled}
use Rattle.world_model.specs.World.{World}
use Rattle.run_laws.specs.Laws.{JournalsAreLegal, RunsAreShort}
use Rattle.rest_laws.specs.Laws.{NamesHaveOneOwner, NeverWaitsNeverStalls, NoneLivesUnlessStalled, RestIsQuiet, RestIsWhole, SomebodyWaitsWhereStalled, WhoLivesAtRestWaits}
use Rattle.world_core.specs.Laws.{RestIsWhereNothingIsChosen}
use Rattle.pico_cmd.specs.Stalled.{IsLeftAs}

pub record Laws : Type 0 where
  pub legal : JournalsAreLegal
  pub quiet : RestIsQuiet
  pub waits : WhoLivesAtRestWaits
  pub ended : NoneLivesUnlessStalled
  pub left : SomebodyWaitsWhereStalled
  pub never : NeverWaitsNeverStalls
  pub whole : RestIsWhole
  pub owners : NamesHaveOneOwner
  pub short : RunsAreShort
  pub rest : RestIsWhereNothingIsChosen

-- a world at rest is left as it is stalled or not
pub left_as : Laws → (script : Script) (w : World) (stalled : Bool) → IsSoundScript script
    → IsReachableWorld script w → IsAtRest w → is_stalled w ≡ stalled → IsLeftAs stalled w
left_as laws script w stalled sound reachable rest is =
    record {
      stalled_is = is;
      waits = λ k pid a. laws.waits script w k pid a sound reachable rest;
      ended = λ calm k pid replays. laws.ended script w k pid sound reachable rest replays (is ∙ calm);
      left = λ some k replays. laws.left script w k sound reachable rest replays (is ∙ some);
    }
