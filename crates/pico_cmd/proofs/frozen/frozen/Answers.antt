use Rattle.std.proofs.Common.{List, ◌∙◌, ap}
use Rattle.pico_base.specs.declared.script.Event.{Event}
use Rattle.stamp_merge.specs.declared.Stamped.{Stamped}
use Rattle.image_text.specs.Image.{image_text}
use Rattle.pico_cmd.proofs.frozen.frozen.Goals as goal

pub returns-clause-text : goal.returns-clause-text
returns-clause-text c =
    let first = c.in_ok-events.ensures in
    record {
      script = c.args.script;
      reads = c.requires.reads;
      events = first.events;
      first = first.first;
      is_text =
          c.in_ok-freeze.ensures
          ∙ ap (λ (xs : List (Stamped Event)). image_text c.args.bytes.now xs)
          (c.deref.ensures.value ∙ first.are_stamped);
    }
