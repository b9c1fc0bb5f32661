use Rattle.image_text.specs.declared.fault.ImageStop.TheVariants.{Script as InScript, At}
use Rattle.pico_cmd.proofs.ImageFaults.{script_fault, stops_at_script}
use Rattle.pico_cmd.proofs.RunLaws.{Laws}
use Rattle.pico_cmd.proofs.Thaws.{fault_not_thawed, nodes_there, not_both, sound_there, thawed_no_fault, thaws_alone, thaws_end, thaws_so}
use Rattle.pico_cmd.proofs.thawed.answer_to_thaw.Goals as goal

pub answer_of-requires-clause-there : goal.answer_of-requires-clause-there
answer_of-requires-clause-there c = nodes_there _ _ _ c.in-Ok.ensures.ok

pub answer_of-requires-clause-sound : goal.answer_of-requires-clause-sound
answer_of-requires-clause-sound c = sound_there _ _ _ c.in-Ok.ensures.ok

pub returns-in-Ok-clause-answer : goal.returns-in-Ok-clause-answer
returns-in-Ok-clause-answer c =
    let laws : Laws = record {
      legal = c.laws.ensures.legal;
      quiet = c.laws.ensures.quiet;
      waits = c.laws.ensures.waits;
      ended = c.laws.ensures.ended;
      left = c.laws.ensures.left;
      never = c.laws.ensures.never;
      whole = c.laws.ensures.whole;
      owners = c.laws.ensures.owners;
      short = c.laws.ensures.short;
      rest = c.laws.ensures.rest;
    } in
    thaws_so laws _ _ c.in-Ok.ensures.ok c.answer_of.result c.answer_of.ensures

pub returns-in-Ok-clause-alone : goal.returns-in-Ok-clause-alone
returns-in-Ok-clause-alone c = thaws_alone _ c.answer_of.result c.answer_of.ensures

pub returns-in-Ok-clause-done : goal.returns-in-Ok-clause-done
returns-in-Ok-clause-done c w last is = thaws_end _ c.answer_of.result c.answer_of.ensures

pub returns-in-Ok-clause-fault : goal.returns-in-Ok-clause-fault
returns-in-Ok-clause-fault c line fault first =
    absurd (thawed_no_fault _ _ _ c.in-Ok.ensures.whole c.in-Ok.ensures.ok _ (stops_at_script _ line fault first))

pub returns-in-Ok-clause-image_fault : goal.returns-in-Ok-clause-image_fault
returns-in-Ok-clause-image_fault c line fault first =
    absurd (thawed_no_fault _ _ _ c.in-Ok.ensures.whole c.in-Ok.ensures.ok _ first)

-- the script's first fault

pub returns-in_ok-text_of_fault-in-Err-Script-clause-answer :
    goal.returns-in_ok-text_of_fault-in-Err-Script-clause-answer
returns-in_ok-text_of_fault-in-Err-Script-clause-answer c =
    record {
      line = c.in-Err-Script.line;
      fault = c.in-Err-Script.fault;
      first =
          script_fault c.args.bytes.now c.in-Err-Script.line c.in-Err-Script.fault
          (rw c.in-Err-Script.field-0-is at c.in-Err-Script.ensures.gives);
      is_text = c.in_ok-text_of_fault-in-Err-Script.ensures;
    }

pub returns-in_ok-text_of_fault-in-Err-Script-clause-done : goal.returns-in_ok-text_of_fault-in-Err-Script-clause-done
returns-in_ok-text_of_fault-in-Err-Script-clause-done c w last is =
    absurd
    (fault_not_thawed c.args.bytes.now (InScript c.in-Err-Script.line c.in-Err-Script.fault) w last
    (rw c.in-Err-Script.field-0-is at c.in-Err-Script.ensures.gives) is)

pub returns-in_ok-text_of_fault-in-Err-Script-clause-image_fault :
    goal.returns-in_ok-text_of_fault-in-Err-Script-clause-image_fault
returns-in_ok-text_of_fault-in-Err-Script-clause-image_fault c line fault first =
    absurd
    (not_both c.args.bytes.now c.in-Err-Script.line line c.in-Err-Script.fault fault
    (rw c.in-Err-Script.field-0-is at c.in-Err-Script.ensures.gives) first)

-- the first fault behind it

pub returns-in_ok-text_of_image_fault-in-Err-At-clause-answer :
    goal.returns-in_ok-text_of_image_fault-in-Err-At-clause-answer
returns-in_ok-text_of_image_fault-in-Err-At-clause-answer c =
    record {
      line = c.in-Err-At.line;
      fault = c.in-Err-At.fault;
      first = rw c.in-Err-At.field-0-is at c.in-Err-At.ensures.gives;
      is_text = c.in_ok-text_of_image_fault-in-Err-At.ensures;
    }

pub returns-in_ok-text_of_image_fault-in-Err-At-clause-done :
    goal.returns-in_ok-text_of_image_fault-in-Err-At-clause-done
returns-in_ok-text_of_image_fault-in-Err-At-clause-done c w last is =
    absurd
    (fault_not_thawed c.args.bytes.now (At c.in-Err-At.line c.in-Err-At.fault) w last
    (rw c.in-Err-At.field-0-is at c.in-Err-At.ensures.gives) is)

pub returns-in_ok-text_of_image_fault-in-Err-At-clause-fault :
    goal.returns-in_ok-text_of_image_fault-in-Err-At-clause-fault
returns-in_ok-text_of_image_fault-in-Err-At-clause-fault c line fault first =
    absurd
    (not_both c.args.bytes.now line c.in-Err-At.line fault c.in-Err-At.fault
    (stops_at_script c.args.bytes.now line fault first)
    (rw c.in-Err-At.field-0-is at c.in-Err-At.ensures.gives))
