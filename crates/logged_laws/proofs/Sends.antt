-- A step that a rule gives, and to whom its frames go.
use Rattle.std.proofs.Common.{◌≡◌, ℕ, Bool, true, false, ◌&&◌, nat_eq, if◌then◌else◌, List, [], ◌∷◌, Option, Some, None, refl, ap, sym, subst, ◌∙◌, inl, inr}
use Rattle.std.specs.List.{AllByRecursion, Contains}
use Rattle.std.specs.Option.{option_and_then}
use Rattle.std.proofs.lemmas.Bool.{cases_Bool, and_parts, or_cases, eqb-true, both_ways}
use Rattle.pico_base.specs.declared.script.Script.{Script}
use Rattle.rpc_frame.specs.declared.frame.Frame.{Frame}
use Rattle.frame_bytes.specs.Limits.{is_frame}
use Rattle.world_model.specs.Node.{Node}
use Rattle.world_model.specs.Step.{Step}
use Rattle.log_laws.specs.Logs.{Input, turn_on}
use Rattle.log_model.specs.Views.{Line}
use Rattle.log_model.specs.Turns.{has_line, may_send, step_if_sent, rule_of}
use Rattle.log_model.specs.Logged.{others_in}
use Rattle.logged_laws.proofs.Lists.{contains-first, contains-later}

-- ---- the step of a rule

-- it is the machine's, and its frames may be sent
pub record IsRuled (script : Script) (lines : List Line) (n : Node) (input : Input) (step : Step) : Type 0 where
  pub turns : turn_on script n input ≡ Some step
  pub may_send : may_send lines step.sends ≡ true

abbrev sent-if : Bool → Step → Option Step
sent-if b step = if b then Some step else None

sent-step : (lines : List Line) (found : Option Step) (step : Step)
    → option_and_then (step_if_sent lines) found ≡ Some step
    → (found ≡ Some step) × (may_send lines step.sends ≡ true)
sent-step lines None step is = absurd (cc)
sent-step lines (Some made) step is =
    elim (cases_Bool (may_send lines made.sends)) [
      | inl may ↦
          let given : Some made ≡ Some step = sym (ap (λ b. sent-if b made) may) ∙ is
          in let same : made ≡ step = cc
          in (given, subst (λ (s : Step). may_send lines s.sends ≡ true) same may)
      | inr may_not ↦
          let nothing : Option Step = None
          in let given : nothing ≡ Some step = sym (ap (λ b. sent-if b made) may_not) ∙ is
          in absurd (cc)
    ]

-- where the rule gives it
pub ruled : (script : Script) (lines : List Line) (n : Node) (input : Input) (step : Step)
    → rule_of script lines n input ≡ Some step → IsRuled script lines n input step
ruled script lines n input step is =
    let both : (turn_on script n input ≡ Some step) × (may_send lines step.sends ≡ true) =
    sent-step lines (turn_on script n input) step is
    in record { turns = both.0; may_send = both.1 }

-- ---- the receivers

line-there : (lines : List Line) (to : ℕ) → has_line lines to ≡ true → Contains (others_in lines) to
line-there [] to has = absurd (both_ways false refl has)
line-there (line ∷ lines) to has =
    elim (or_cases (nat_eq line.other to) (has_line lines to) has) [
      | inl first ↦
          subst (Contains (others_in (line ∷ lines))) (eqb-true line.other to first)
          (contains-first line.other (others_in lines))
      | inr later ↦ contains-later line.other (others_in lines) to (line-there lines to later)
    ]

-- there is a line to each of them
pub receivers-there : (lines : List Line) (sends : List (ℕ × Frame)) → may_send lines sends ≡ true
    → AllByRecursion (λ s. Contains (others_in lines) s.0) sends
receivers-there lines [] may = tt
receivers-there lines (s ∷ sends) may =
    let parts : (has_line lines s.0 && is_frame s.1 ≡ true) × (may_send lines sends ≡ true) =
    and_parts (has_line lines s.0 && is_frame s.1) (may_send lines sends) may
    in let first : (has_line lines s.0 ≡ true) × (is_frame s.1 ≡ true) =
    and_parts (has_line lines s.0) (is_frame s.1) parts.0
    in (line-there lines s.0 first.0, receivers-there lines sends parts.1)
