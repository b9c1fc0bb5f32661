use Rattle.std.proofs.Common.{List, map, sym, ap, subst, ◌∙◌}
use Rattle.std.specs.Prelude.{IsSome}
use Rattle.std.specs.List.{AllByRecursion}
use Rattle.sandbox_set.specs.declared.read.Sandbox.{Sandbox}
use Rattle.pico_run.specs.declared.rested.Rested.{Rested}
use Rattle.boxes_run.specs.Runs.{scripts_of}
use Rattle.pico_cmd.specs.Boxed.{worlds_text}
use Rattle.pico_cmd.proofs.WorldTexts.{text_of_boxes, worlds-are-there}
use Rattle.pico_cmd.specs.Stalled.{are_left_stalled, status_left}
use Rattle.pico_cmd.proofs.RunLaws.{Laws}
use Rattle.pico_cmd.proofs.boxed.run_boxes.Goals as goal

pub text_of_all-requires : goal.text_of_all-requires
text_of_all-requires g c =
    record {
      whole =
          subst (λ (rs : List Rested). AllByRecursion (λ (r : Rested). IsSome r.world) rs) (sym c.as_slice-2.ensures)
          (worlds-are-there (scripts_of c.args.boxes) c.in_ok-rested.rested c.in_ok-rested.ensures);
    }

pub are_left_stalled-requires : goal.are_left_stalled-requires
are_left_stalled-requires g c =
    record {
      whole =
          subst (λ (rs : List Rested). AllByRecursion (λ (r : Rested). IsSome r.world) rs) (sym c.as_slice-3.ensures)
          (worlds-are-there (scripts_of c.args.boxes) c.in_ok-rested.rested c.in_ok-rested.ensures);
    }

pub returns : goal.returns
returns g c =
    let laws : Laws = record {
      legal = c.laws.ensures.legal;
      quiet = c.laws.ensures.quiet;
      waits = c.laws.ensures.waits;
      ended = c.laws.ensures.ended;
      left = c.laws.ensures.left;
      never = c.laws.ensures.never;
      whole = c.laws.ensures.whole;
      owners = c.laws.ensures.owners;
      short = c.laws.ensures.short;
      rest = c.laws.ensures.rest;
    } in
    record {
      status_is =
          c.status_left.ensures
          ∙ ap status_left (c.are_left_stalled.ensures ∙ ap are_left_stalled c.as_slice-3.ensures);
      run =
          text_of_boxes laws c.args.boxes c.in_ok-rested.rested c.deref.result.now c.in_ok-text.text
          c.requires.sound.scripts c.in_ok-rested.ensures
          (c.deref.ensures.value
          ∙ c.in_ok-names.ensures
          ∙ ap (λ (bs : List Sandbox). map (λ (b : Sandbox). b.name) bs) c.as_slice.ensures)
          (c.in_ok-text.ensures ∙ ap (λ (rs : List Rested). worlds_text c.deref.result.now rs) c.as_slice-2.ensures);
    }
