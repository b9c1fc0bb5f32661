-- What a turn comes to, where what it made follows behind what was made before.
use Rattle.std.proofs.Common.{◌≡◌, ℕ, Option, Some, None, Result, Ok, Err, IsSome, refl, ap, sym, subst, ◌∙◌}
use Rattle.pico_base.specs.declared.script.Script.{Script}
use Rattle.rpc_frame.specs.declared.frame.Frame.{Frame}
use Rattle.world_model.specs.Node.{Node}
use Rattle.world_model.specs.Step.{Step}
use Rattle.world_model.specs.Starting.{run}
use Rattle.world_model.specs.Turn.{take_frame}
use Rattle.node_state.specs.declared.fault.TurnFault.{TurnFault}
use Rattle.node_state.specs.declared.fault.TurnFault.TheVariants.{Memory, NotAllowed}
use Rattle.node_core.specs.declared.turn.Input.{Input}
use Rattle.node_core.specs.declared.turn.Input.TheVariants as inputs
use Rattle.node_core.specs.declared.turn.Turn.{Turn}
use Rattle.node_core.specs.Step.{step_of, IsStepOnto, Follows}
use Rattle.node_core.specs.Turns.{IsTurnOnto, Turned}

-- the step by an input is that of the call due,
pub step_of-run : (script : Script) (n : Node) → step_of script n inputs.Run ≡ run script n
unfolding step_of
step_of-run script n = refl

-- or of the frame
pub step_of-take : (script : Script) (n : Node) (from : ℕ) (frame : Frame)
    → step_of script n (inputs.Take from frame) ≡ take_frame script n from frame
unfolding step_of
step_of-take script n from frame = refl

left_as : (step : Option Step) (old new left : Node) (before after : Turn) (turned : Result Unit TurnFault)
    → Follows step old new before after turned → ((turned ≡ Err Memory → ⊥) → left ≡ new)
    → Follows step old left before after turned
left_as step old new left before after (Ok x) follows kept =
    subst (λ (n : Node). IsStepOnto step n before after)
    (sym (kept (λ (e : Ok x ≡ Err Memory). let f : ⊥ = cc in f))) follows
left_as step old new left before after (Err NotAllowed) follows kept =
    (follows.0, kept (λ (e : Err NotAllowed ≡ Err Memory). let f : ⊥ = cc in f) ∙ follows.1, follows.2)
left_as step old new left before after (Err Memory) follows kept = follows

-- a turn that is settled comes to what it came to
pub settled : (step : Option Step) (old new left : Node) (before after : Turn) (turned result : Result Unit TurnFault)
    → Follows step old new before after turned → result ≡ turned → ((turned ≡ Err Memory → ⊥) → left ≡ new)
    → Follows step old left before after result
settled step old new left before after turned result follows same kept =
    subst (λ (r : Result Unit TurnFault). Follows step old left before after r) (sym same)
    (left_as step old new left before after turned follows kept)

-- a step that follows behind is a turn that does
turn_behind : (script : Script) (n m : Node) (input : Input) (before after : Turn) (step : Option Step)
    → step_of script n input ≡ step → IsStepOnto step m before after
    → IsTurnOnto script (Some n) input (Some m) before after
turn_behind script n m input before after None is onto = absurd onto
turn_behind script n m input before after (Some s) is onto =
    let left : Node → Option Step = λ at. Some (record s { node = at }) in
    record {
      turn = record { entries = s.entries; sends = s.sends };
      taken = (s.strikes, is ∙ ap left (sym onto.node));
      entries = onto.entries;
      sends = onto.sends;
    }

no_step_onto : (step : Option Step) (m : Node) (before after : Turn) → step ≡ None → IsStepOnto step m before after → ⊥
no_step_onto None m before after none onto = onto
no_step_onto (Some s) m before after none onto = let f : ⊥ = cc in f

some_step : (step : Option Step) → step ≡ None → IsSome step → ⊥
some_step None none some = let f : ⊥ = cc in f
some_step (Some s) none some = let f : ⊥ = cc in f

turned_at : (script : Script) (n m : Node) (new : Option Node) (input : Input) (before after : Turn)
    (result : Result Unit TurnFault) → Follows (step_of script n input) n m before after result
    → (result ≡ Err Memory → new ≡ None) → ((result ≡ Err Memory → ⊥) → new ≡ Some m)
    → Turned script (Some n) input new before after result
turned_at script n m new input before after (Ok x) follows spent left =
    let kept : new ≡ Some m = left (λ (e : Ok x ≡ Err Memory). let f : ⊥ = cc in f) in
    record {
      ok =
          subst (λ (o : Option Node). IsTurnOnto script (Some n) input o before after) (sym kept)
          (turn_behind script n m input before after (step_of script n input) refl follows);
      not_allowed = λ e. absurd (let f : ⊥ = cc in f);
      memory = λ e. absurd (let f : ⊥ = cc in f);
      spent = λ e. absurd (let f : ⊥ = cc in f);
      step = λ some e. let f : ⊥ = cc in f;
      no_step = λ none. absurd (no_step_onto (step_of script n input) m before after none follows);
    }
turned_at script n m new input before after (Err NotAllowed) follows spent left =
    let kept : new ≡ Some m = left (λ (e : Err NotAllowed ≡ Err Memory). let f : ⊥ = cc in f) in
    record {
      ok = tt;
      not_allowed = λ e. ((follows.0, kept ∙ ap (λ (k : Node). Some k) follows.1), follows.2);
      memory = λ e. absurd (let f : ⊥ = cc in f);
      spent = λ e. absurd (let f : ⊥ = cc in f);
      step = λ some e. some_step (step_of script n input) follows.0 some;
      no_step = λ none. refl;
    }
turned_at script n m new input before after (Err Memory) follows spent left = record {
  ok = tt;
  not_allowed = λ e. absurd (let f : ⊥ = cc in f);
  memory = spent;
  spent = λ e. refl;
  step = λ some e. let f : ⊥ = cc in f;
  no_step = λ none. refl;
}

-- what a turn of a node that isn't spent came to, once it is settled
pub turned_as : (script : Script) (old new : Option Node) (n m : Node) (input : Input) (before after : Turn)
    (turned result : Result Unit TurnFault) → old ≡ Some n → Follows (step_of script n input) n m before after turned
    → result ≡ turned → (turned ≡ Err Memory → new ≡ None) → ((turned ≡ Err Memory → ⊥) → new ≡ Some m)
    → Turned script old input new before after result
turned_as script old new n m input before after turned result is follows same spent left =
    subst (λ (o : Option Node). Turned script o input new before after result) (sym is)
    (subst (λ (r : Result Unit TurnFault). Turned script (Some n) input new before after r) (sym same)
    (turned_at script n m new input before after turned follows spent left))
