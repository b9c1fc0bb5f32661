-- What a run ends in, and its text.
use Rattle.std.proofs.Common.{◌≡◌, List, [], ◌∷◌, ◌++◌, ℕ, Bool, true, false, refl, sym, ap, ◌∙◌}
use Rattle.pico_base.specs.declared.script.Event.{Event}
use Rattle.pico_base.specs.declared.script.Script.{Script}
use Rattle.kernel_model.specs.Trace.{totals_line, trace_text}
use Rattle.world_model.specs.World.{World, opening_world}
use Rattle.world_model.specs.Run.{Runs}
use Rattle.pico_words.specs.declared.words.Options.{Options}
use Rattle.pico_base.specs.declared.reply.Entry.{Entry}
use Rattle.pico_cmd.specs.declared.telling.Telling.{Telling}
use Rattle.pico_cmd.specs.Run.{IsTextOfRun, steps_if}
use Rattle.pico_cmd.specs.Telling.{IsToldRun, Tells, kept_if, lines_if}
use Rattle.pico_cmd.proofs.Runs.{step_script}

-- a run keeps the script
pub runs_keep : (w last : World) (es : List Event) → Runs w es last → last.script ≡ w.script
runs_keep w last [] r = ap (λ (x : World). x.script) (sym r)
runs_keep w last (e ∷ es) r = runs_keep r.next last es r.rest ∙ step_script w e r.next r.steps

-- what is told of a run comes to this text
abbrev pub GivesText : Telling → Bool → List Event → List ℕ → Type 0
GivesText telling steps es text =
    (script : Script) (history : List Entry) → Tells script history telling
    → text ≡ (lines_if telling.lines script history ++ totals_line history) ++ steps_if steps es

-- the events that were kept have the text of all
kept_text : (steps : Bool) (kept events : List Event) → kept ≡ kept_if steps events
    → steps_if steps kept ≡ steps_if steps events
kept_text true kept events are = ap (steps_if true) are
kept_text false kept events are = refl

-- the text of a run is that of the script's
pub text_told : (script : Script) (options : Options) (es : List Event) (stalled : Bool) (telling : Telling)
    (text : List ℕ)
    → IsToldRun script options.seed options.steps es stalled telling → telling.lines ≡ true
    → GivesText telling options.steps es text → IsTextOfRun script options stalled text
text_told script options es stalled telling text run wanted gives =
    let last : World = run.last
    in record {
      events = run.events;
      last = last;
      run = run.run;
      left = run.left;
      is_text = gives last.script last.journal run.tells
          ∙ ap (λ (b : Bool).
          (lines_if b last.script last.journal ++ totals_line last.journal) ++ steps_if options.steps es) wanted
          ∙ ap (λ (s : Script). trace_text s last.journal ++ steps_if options.steps es)
          (runs_keep (opening_world script) last run.events run.run.to_rest.run)
          ∙ ap (λ (text : List ℕ). trace_text script last.journal ++ text)
          (kept_text options.steps es run.events run.are_kept);
    }
