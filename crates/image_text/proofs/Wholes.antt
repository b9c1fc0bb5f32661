-- What an image says, from what its script and its lines say.
use Rattle.std.proofs.Common.{◌≡◌, ℕ, List, length, sym, ap, subst, ◌∙◌}
use Rattle.std.specs.Prelude.{Result, Ok, Err, IfOk}
use Rattle.kernel_model.specs.Script.{IsSoundScript}
use Rattle.pico_base.specs.declared.script.Script.{Script}
use Rattle.script_reader.specs.declared.fault.ScriptStop.{ScriptStop}
use Rattle.script_reader.specs.declared.fault.ScriptStop.TheVariants as scripts
use Rattle.script_reader.specs.Fault.{outcome, Reads, HasFault}
use Rattle.image_text.specs.declared.fault.ImageStop.{ImageStop}
use Rattle.image_text.specs.declared.fault.ImageStop.TheVariants.{Memory, Script as InScript, At}
use Rattle.image_text.specs.declared.image.Said.{Said}
use Rattle.image_text.specs.Gives.{Gives, Stops}
use Rattle.image_text.specs.Parts.{seen, script_of}
use Rattle.image_text.specs.Reading.{Events, with_script, events_of, stop_of, of_script, said_by}

given-with : (script : Script) (r wanted : Result Events ImageStop) → Gives r wanted
    → Gives (with_script script r) (with_script script wanted)
given-with script (Ok events) wanted h = ap (with_script script) h
given-with script (Err Memory) wanted h = tt
given-with script (Err (InScript line fault)) wanted h = ap (with_script script) h
given-with script (Err (At line fault)) wanted h = ap (with_script script) h

-- the script has a fault
pub script-stops : (image bytes script : List ℕ) (stop : ScriptStop) (result : ImageStop) → bytes ≡ seen image
    → script ≡ script_of bytes → result ≡ stop_of stop → HasFault script stop → Stops result (said_by image)
unfolding said_by
script-stops image bytes script stop result b s r h =
    subst (λ (t : ImageStop). Stops t (said_by image)) (sym r) (of stop h)
  where
    same : script ≡ script_of (seen image)
    same = s ∙ ap script_of b

    of : (stop : ScriptStop) → HasFault script stop → Stops (stop_of stop) (said_by image)
    of scripts.Memory h = tt
    of (scripts.At line fault) h = ap (of_script (seen image)) (ap outcome (sym same) ∙ h)

-- the script has none
pub script-goes : (image bytes text : List ℕ) (script : Script) (nodes : ℕ) (r : Result Events ImageStop)
    (result : Result Said ImageStop) → bytes ≡ seen image → text ≡ script_of bytes → Reads text script
    → nodes ≡ length script.blocks → Gives r (events_of nodes bytes) → result ≡ with_script script r
    → Gives result (said_by image)
unfolding said_by
script-goes image bytes text script nodes r result b s read n h is =
    let same : text ≡ script_of (seen image) = s ∙ ap script_of b in
    let there : outcome (script_of (seen image)) ≡ Ok script = ap outcome (sym same) ∙ read in
    let events : Gives r (events_of (length script.blocks) (seen image)) =
    subst (λ (k : ℕ). Gives r (events_of k (seen image))) n
    (subst (λ (xs : List ℕ). Gives r (events_of nodes xs)) b h) in
    subst (λ (w : Result Said ImageStop). Gives result w) (sym (ap (of_script (seen image)) there))
    (subst (λ (t : Result Said ImageStop). Gives t (with_script script (events_of (length script.blocks) (seen image))))
    (sym is) (given-with script r (events_of (length script.blocks) (seen image)) events))

-- it is sound
pub with-sound : (script : Script) (r : Result Events ImageStop) (result : Result Said ImageStop)
    → result ≡ with_script script r → IsSoundScript script → IfOk result (λ said. IsSoundScript said.script)
with-sound script r result is sound =
    subst (λ (t : Result Said ImageStop). IfOk t (λ said. IsSoundScript said.script)) (sym is) (of r)
  where
    of : (r : Result Events ImageStop) → IfOk (with_script script r) (λ said. IsSoundScript said.script)
    of (Ok events) = sound
    of (Err stop) = tt
