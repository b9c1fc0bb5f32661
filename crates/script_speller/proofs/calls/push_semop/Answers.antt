use Rattle.std.proofs.Common.{◌++◌, ◌∷◌, ℕ, ap, ◌∙◌}
use Rattle.std.proofs.lemmas.Result.{on_ok_weaker}
use Rattle.script_speller.specs.Spelling as spec
use Rattle.script_speller.proofs.Separated.{three_parts}
use Rattle.script_speller.proofs.calls.push_semop.Goals as goal

pub returns : goal.returns
returns c =
    let object = c.in_ok-push_object.ensures
    ∙ ap (λ (n : ℕ). c.push.new.out.items ++ 32 ∷ spec.object_text c.args.from n) c.id.view_is
    in on_ok_weaker c.push_steps.result
    (λ e. three_parts spec.step_word c.args.steps.now _ _ _ _ _ _ c.in_ok-push.ensures object e)
    c.push_steps.ensures
