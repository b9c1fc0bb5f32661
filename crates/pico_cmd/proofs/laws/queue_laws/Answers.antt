use Rattle.pico_cmd.proofs.laws.queue_laws.Goals as goal

pub returns-clause-legal : goal.returns-clause-legal
returns-clause-legal c = c.histories_are_legal.ensures

pub returns-clause-whole : goal.returns-clause-whole
returns-clause-whole c = c.histories_fit_whole.ensures
