-- What holds of owners and of rest in every world of a run.
use Rattle.std.proofs.Common.{◌≡◌, [], ap, subst, sym, ◌∙◌}
use Rattle.pico_base.specs.declared.script.Script.{Script}
use Rattle.kernel_model.specs.Script.{IsSoundScript}
use Rattle.waiting_model.specs.History.{Replays}
use Rattle.waiting_model.specs.Kernel.{Kernel, living_at, opening}
use Rattle.world_model.specs.Run.{IsReachableWorld}
use Rattle.world_model.specs.World.{World}
use Rattle.world_laws.specs.Invariant.{HasInvariant, Holds}
use Rattle.world_laws.specs.Places.{Beside}
use Rattle.world_laws.specs.Wholes.{HasWhole}
use Rattle.bound_laws.proofs.Runs.{reachable-is-bounded}
use Rattle.bound_laws.specs.Bounded.{IsBounded, IsShapedAndBounded}
use Rattle.rest_laws.specs.Laws.{NamesHaveOneOwner, NeverWaitsNeverStalls, NoneLivesUnlessStalled, RestIsQuiet, RestIsWhole, SomebodyLives, SomebodyWaitsWhereStalled, WhoLivesAtRestWaits}
use Rattle.run_laws.proofs.Runs.{worlds_have_the_invariant_lemma}
use Rattle.rest_laws.proofs.FollowerRuns.{others-lead-nothing}
use Rattle.rest_laws.proofs.Living.{rest-is-whole, who-lives-parks}
use Rattle.rest_laws.proofs.NoWaits.{due-never-parks}
use Rattle.rest_laws.proofs.OneReplay.{one-replay, owners-by-journal}
use Rattle.rest_laws.proofs.Stalled.{none-lives, somebody-lives, stalls-not}
use Rattle.rest_laws.proofs.Whole.{rest-is-quiet}

-- Each name has one owner, or none.
pub names_have_one_owner_lemma : NamesHaveOneOwner
names_have_one_owner_lemma script w k name sound run replays =
    let i : HasInvariant script w = worlds_have_the_invariant_lemma script w sound run
    in owners-by-journal script w i.beside i.holds (others-lead-nothing script sound w run) k replays name

-- ---- at rest

module _ (script : Script) (w : World) (sound : IsSoundScript script) (run : IsReachableWorld script w) where
  abbrev i : HasInvariant script w
  i = worlds_have_the_invariant_lemma script w sound run

  abbrev b : Beside
  b = i.beside

  holds : Holds script w [] b
  holds = i.holds

  bounded : IsBounded script w []
  bounded = let both : IsShapedAndBounded script w = reachable-is-bounded script sound w run in both.bounded

  -- the kernel that the journal replays to
  replayed : (k : Kernel) → Replays opening w.journal k → b.whole ≡ k
  replayed k replays =
      let whole : HasWhole w b = holds.whole in one-replay opening b.whole k w.journal whole.legal replays

-- Nothing is left to do.
pub rest_is_quiet_lemma : RestIsQuiet
rest_is_quiet_lemma script w sound run rest =
    rest-is-quiet script w (b script w sound run) (holds script w sound run) rest (bounded script w sound run)

-- Each process has made its last call, or waits.
pub rest_is_whole_lemma : RestIsWhole
rest_is_whole_lemma script w sound run rest =
    rest-is-whole script w (b script w sound run) (holds script w sound run) rest (bounded script w sound run)

-- Who lives waits.
pub who_lives_at_rest_waits_lemma : WhoLivesAtRestWaits
who_lives_at_rest_waits_lemma script w k pid a sound run rest replays lives =
    who-lives-parks script w (b script w sound run) (holds script w sound run) rest (bounded script w sound run) pid a
    (ap (λ (m : Kernel). living_at m pid) (replayed script w sound run k replays) ∙ lives)

-- None lives where the world isn't stalled.
pub none_lives_unless_stalled_lemma : NoneLivesUnlessStalled
none_lives_unless_stalled_lemma script w k pid sound run rest replays goes =
    sym (ap (λ (m : Kernel). living_at m pid) (replayed script w sound run k replays))
    ∙ none-lives script w (b script w sound run) (holds script w sound run) rest (bounded script w sound run) goes pid

-- Some process does where it is,
pub somebody_waits_where_stalled_lemma : SomebodyWaitsWhereStalled
somebody_waits_where_stalled_lemma script w k sound run rest replays stalls =
    subst SomebodyLives (replayed script w sound run k replays)
    (somebody-lives script w (b script w sound run) (holds script w sound run) rest (bounded script w sound run) stalls)

-- and it isn't where no line may wait.
pub never_waits_never_stalls_lemma : NeverWaitsNeverStalls
never_waits_never_stalls_lemma script w sound never run rest =
    stalls-not script w (b script w sound run) (holds script w sound run) rest (bounded script w sound run)
    (due-never-parks script never)
