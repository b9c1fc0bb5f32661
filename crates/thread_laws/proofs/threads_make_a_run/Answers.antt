use Rattle.thread_laws.proofs.Runs.{threads_make_a_run_lemma}
use Rattle.thread_laws.proofs.threads_make_a_run.Goals as goal

pub returns : goal.returns
returns c =
    threads_make_a_run_lemma (record {
      turns = record {
        sends = c.sends_go_to_others.ensures;
        steps = c.enabled_turns_have_steps.ensures;
        forks = c.forkers_fork.ensures;
        births = c.unborn_take_their_checkpoint.ensures;
      };
      taken = c.taken_are_sent.ensures;
      next = c.the_next_is_sent.ensures;
      few = c.runs_are_few.ensures;
    })
