use Rattle.pico_cmd.proofs.RunLaws.{Laws}
use Rattle.pico_cmd.proofs.ThawLaw.{thaw_of_freeze}
use Rattle.pico_cmd.proofs.laws.thawing_is_simulating.Goals as goal

pub returns : goal.returns
returns c =
    let laws : Laws = record {
      legal = c.laws.ensures.legal;
      quiet = c.laws.ensures.quiet;
      waits = c.laws.ensures.waits;
      ended = c.laws.ensures.ended;
      left = c.laws.ensures.left;
      never = c.laws.ensures.never;
      whole = c.laws.ensures.whole;
      owners = c.laws.ensures.owners;
      short = c.laws.ensures.short;
      rest = c.laws.ensures.rest;
    } in
    thaw_of_freeze laws
