-- What follows for every run of a sound script.
use Rattle.std.proofs.Common.{[], is_some, ap}
use Rattle.world_laws.specs.Invariant.{HasInvariant, Holds}
use Rattle.world_laws.specs.Places.{Beside}
use Rattle.world_laws.specs.Wholes.{HasWhole}
use Rattle.run_laws.specs.Laws.{EnabledEventsHaveSteps, JournalsAreLegal, RunsAreShort, WorldsHaveTheInvariant}
use Rattle.run_laws.proofs.JournalFits.{JournalFits, journal-fits}
use Rattle.run_laws.proofs.Worlds.{IsSettled, StaysSettled, event-stays-settled, reachable-is-settled, settled-runs-are-short}

-- Each world that a run leads to has the invariant.
pub worlds_have_the_invariant_lemma : WorldsHaveTheInvariant
worlds_have_the_invariant_lemma script w sound run =
    let k : IsSettled script w = reachable-is-settled script sound w run
    in k.invariant

-- Its journal is legal, and fits the script.
pub journals_are_legal_lemma : JournalsAreLegal
journals_are_legal_lemma script w sound run =
    let i : HasInvariant script w = worlds_have_the_invariant_lemma script w sound run
    in let holds : Holds script w [] i.beside = i.holds
    in let whole : HasWhole w i.beside = holds.whole
    in let last : Beside = i.beside
    in let f : JournalFits script w i.beside = journal-fits script w i.beside holds
    in (record { last = last.whole; replays = whole.legal }, record { last = f.last; fits = f.fits })

-- Each of its enabled events has a step.
pub enabled_events_have_steps_lemma : EnabledEventsHaveSteps
enabled_events_have_steps_lemma script w e sound run enabled =
    let s : StaysSettled script w e =
    event-stays-settled script sound w e (reachable-is-settled script sound w run) enabled
    in ap is_some s.is_step

-- And its runs are short.
pub runs_are_short_lemma : RunsAreShort
runs_are_short_lemma script sound = settled-runs-are-short script sound
