use Rattle.std.proofs.Common.{◌∙◌, ap}
use Rattle.number_maps.specs.Maps.{get}
use Rattle.trace_check.specs.Standings.{doom_in}
use Rattle.trace_check.proofs.StandingLaws.{standing-doom}
use Rattle.trace_check.proofs.due.last_doom.Goals as goal

pub returns : goal.returns
returns c =
    c.doom_in.ensures ∙ ap doom_in c.standing.ensures ∙ standing-doom (get c.args.kernel.now.processes c.args.pid)
