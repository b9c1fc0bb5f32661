-- The line that says why a trace isn't legal.
use Rattle.std.specs.Prelude.{ℕ, List, [], ◌∷◌, ◌++◌, codes, Option, Some, None}
use Rattle.std.specs.Fmt.{decimal}
use Rattle.pico_base.specs.declared.call.Call.{Call}
use Rattle.pico_base.specs.declared.reply.Outcome.{Outcome}
use Rattle.pico_base.specs.declared.script.Script.{Script}
use Rattle.kernel_model.specs.Trace.{call_text}
use Rattle.trace_text.specs.Outcome.{outcome_text}
use Rattle.trace_text.specs.declared.fault.CheckFault.{CheckFault}
use Rattle.trace_text.specs.declared.fault.CheckFault.TheVariants.{Memory, NotATrace, Illegal, NotTheScript}

-- a call, or a word where there is none
abbrev pub call_or : Script → List ℕ → Option Call → List ℕ
call_or script word None = word
call_or script word (Some call) = call_text script call

-- the kernel's outcome, or `none` where it has no transition
abbrev pub outcome_or_none : Option Outcome → List ℕ
outcome_or_none None = codes "none"
outcome_or_none (Some outcome) = outcome_text outcome

unfoldable pub not_legal : ℕ → List ℕ
not_legal line = codes "not legal: line " ++ decimal line ++ codes ": "

-- what the lines are of: want of memory is no refusal
abbrev pub IsRefusal : CheckFault → Type 0
IsRefusal Memory = ⊥
IsRefusal _ = Unit {0}

-- which call was due, and which was found
abbrev pub calls_text : Script → Option Call → Option Call → List ℕ
calls_text script due found =
    codes "due " ++ call_or script (codes "nothing") due ++ codes " found " ++ call_or script (codes "totals") found
    ++ 10 ∷ []

-- what the call comes to in the kernel, and by the trace
abbrev pub outcomes_text : Option Outcome → Outcome → List ℕ
outcomes_text kernel trace =
    codes "kernel " ++ outcome_or_none kernel ++ codes " trace " ++ outcome_text trace ++ 10 ∷ []

abbrev pub refusal_text : Script → CheckFault → List ℕ
refusal_text script Memory = []
refusal_text script (NotATrace line) = not_legal line ++ codes "not a trace\n"
refusal_text script (NotTheScript line due found) = not_legal line ++ calls_text script due found
refusal_text script (Illegal line kernel trace) = not_legal line ++ outcomes_text kernel trace
