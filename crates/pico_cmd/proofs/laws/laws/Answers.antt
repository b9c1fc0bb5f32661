use Rattle.pico_cmd.proofs.laws.laws.Goals as goal

pub returns-clause-legal : goal.returns-clause-legal
returns-clause-legal c = c.journals_are_legal.ensures

pub returns-clause-quiet : goal.returns-clause-quiet
returns-clause-quiet c = c.rest_is_quiet.ensures

pub returns-clause-waits : goal.returns-clause-waits
returns-clause-waits c = c.who_lives_at_rest_waits.ensures

pub returns-clause-ended : goal.returns-clause-ended
returns-clause-ended c = c.none_lives_unless_stalled.ensures

pub returns-clause-left : goal.returns-clause-left
returns-clause-left c = c.somebody_waits_where_stalled.ensures

pub returns-clause-never : goal.returns-clause-never
returns-clause-never c = c.never_waits_never_stalls.ensures

pub returns-clause-whole : goal.returns-clause-whole
returns-clause-whole c = c.rest_is_whole.ensures

pub returns-clause-owners : goal.returns-clause-owners
returns-clause-owners c = c.names_have_one_owner.ensures

pub returns-clause-short : goal.returns-clause-short
returns-clause-short c = c.runs_are_short.ensures

pub returns-clause-rest : goal.returns-clause-rest
returns-clause-rest c = c.rest_is_where_nothing_is_chosen.ensures
