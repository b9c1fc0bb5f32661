use Rattle.std.proofs.lemmas.Result.{err_from_is_err_and}
use Rattle.std.proofs.Common.{ℕ, ◌+◌, List, [], ◌∷◌, ◌++◌, sym, ap, subst, ◌∙◌}
use Rattle.script_reader.specs.Words.{lines_of}
use Rattle.sandbox_set.specs.Parts as parts
use Rattle.sandbox_set.specs.Sound.{AreSound}
use Rattle.sandbox_set.proofs.Headings.{named_box}
use Rattle.sandbox_set.proofs.Sandboxes.{sandbox_stops, script_stops, sandbox_goes, sandbox_nodes}
use Rattle.sandbox_set.proofs.Sounds.{sound_more}
use Rattle.sandbox_set.proofs.read.Reading.read_sandbox.Goals as goal

pub returns-in-Err-clause-fault : goal.returns-in-Err-clause-fault
returns-in-Err-clause-fault c =
    let self = c.args.self.now in
    let part = c.of.result in
    sandbox_stops self.boxes self.nodes c.args.name.now self.number c.args.after.now part.script.now part.lines
    part.behind.now c.of.ensures c.in-Err.found.line c.in-Err.found.fault c.first_stop.result c.in-Err.ensures.fault
    c.first_stop.ensures

pub returns-in_ok-push-in-Ok-clause-ok : goal.returns-in_ok-push-in-Ok-clause-ok
returns-in_ok-push-in-Ok-clause-ok c =
    let self = c.args.self.now in
    let part = c.of.result in
    let script = c.in_ok-script-in-Ok.script in
    let n = c.in-Ok.ended.nodes in
    ap (λ boxes. parts.from_here boxes n (self.number + (part.lines + 2)) c.in-Ok.ended.rest.now)
    (c.in_ok-push-in-Ok.ensures.ok
    ∙ ap (λ (x : List ℕ). self.boxes ++ named_box x script ∷ []) c.in_ok-name-in-Ok.ensures)
    ∙ sandbox_goes self.boxes self.nodes c.args.name.now self.number c.args.after.now part.script.now part.lines
    part.behind.now c.of.ensures n script c.in-Ok.ended.rest.now c.in-Ok.ensures.nodes c.in-Ok.ensures.rest
    c.in_ok-script-in-Ok.ensures.gives

pub returns-in_err-script-in-Ok-clause-fault : goal.returns-in_err-script-in-Ok-clause-fault
returns-in_err-script-in-Ok-clause-fault c =
    let self = c.args.self.now in
    let part = c.of.result in
    let p = err_from_is_err_and c.from_residual.result c.from_residual.ensures.1 in
    rw (p.1, p.2)
    (script_stops self.boxes self.nodes c.args.name.now self.number c.args.after.now part.script.now part.lines
    part.behind.now c.of.ensures c.in-Ok.ended.nodes _ c.in-Ok.ensures.nodes c.in-Ok.ensures.rest.closed
    c.in_err-script-in-Ok.ensures.gives)

pub returns-in_ok-push-in-Ok-clause-sound : goal.returns-in_ok-push-in-Ok-clause-sound
returns-in_ok-push-in-Ok-clause-sound c =
    let self = c.args.self.now in
    let script = c.in_ok-script-in-Ok.script in
    let n = c.in-Ok.ended.nodes in
    subst (AreSound n)
    (sym (c.in_ok-push-in-Ok.ensures.ok
    ∙ ap (λ (x : List ℕ). self.boxes ++ named_box x script ∷ []) c.in_ok-name-in-Ok.ensures))
    (sound_more self.nodes n self.boxes c.args.name.now script c.requires.sound c.requires.fresh
    c.in_ok-script-in-Ok.ensures.sound
    (sandbox_nodes self.number (lines_of c.of.result.script.now) self.nodes n script
    c.in_ok-script-in-Ok.ensures.gives c.in-Ok.ensures.nodes))
