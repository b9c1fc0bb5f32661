use Rattle.std.proofs.Common.{◌+◌, ◌-◌, ℕ, List, sym, ap, slice_get, ◌∙◌}
use Rattle.std.specs.List.{flat_map}
use Rattle.std.proofs.lemmas.List.Concat.{flat_map-append}
use Rattle.pico_base.specs.declared.script.Event.{Event}
use Rattle.world_model.specs.Schedule.{enabled_at}
use Rattle.world_model.specs.World.{numbers, size}
use Rattle.world_core.specs.State.{world_of}
use Rattle.world_core.proofs.Walks.{first_left, first_right, span-all}
use Rattle.world_core.proofs.state.State.in_turn.Goals as goal

pub returns-in-Some : goal.returns-in-Some
returns-in-Some c =
    let w = world_of c.args.self.now in
    let f = enabled_at w in
    let p = c.args.after in
    let behind = numbers (p + 1) (size w - p) in
    first_left (flat_map f behind) (flat_map f (numbers 1 p)) c.in-Some.event
    (c.in-Some.ensures ∙ ap (λ (q : ℕ). slice_get (flat_map f (numbers (q + 1) (c.size.result - q))) 0) c.after.view_is
    ∙ ap (λ (k : ℕ). slice_get (flat_map f (numbers (p + 1) (k - p))) 0) c.size.ensures.size)
    ∙ ap (λ (l : List Event). slice_get l 0) (sym (flat_map-append f behind (numbers 1 p)))

pub returns-in-None : goal.returns-in-None
returns-in-None c =
    let w = world_of c.args.self.now in
    let f = enabled_at w in
    let p = c.args.after in
    let behind = numbers (p + 1) (size w - p) in
    first_right (flat_map f behind) (flat_map f (numbers 1 p)) c.first_of-in-None.result
    (c.in-None.ensures ∙ ap (λ (q : ℕ). slice_get (flat_map f (numbers (q + 1) (c.size.result - q))) 0) c.after.view_is
    ∙ ap (λ (k : ℕ). slice_get (flat_map f (numbers (p + 1) (k - p))) 0) c.size.ensures.size)
    (c.first_of-in-None.ensures ∙ ap (λ (q : ℕ). slice_get (flat_map f (numbers 1 (q - 0))) 0) c.after.view_is
    ∙ ap (λ (l : List Event). slice_get l 0) (span-all f p))
    ∙ ap (λ (l : List Event). slice_get l 0) (sym (flat_map-append f behind (numbers 1 p)))
