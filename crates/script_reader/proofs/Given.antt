-- What an answer of reading says.
use Rattle.std.proofs.Common.{◌≡◌, ◌⊎◌, inl, inr, ℕ, Result, Ok, Err, refl, sym, ap, ◌∙◌}
use Rattle.std.specs.Prelude.{IfOk, IfErr}
use Rattle.pico_base.specs.declared.script.Script.{Script}
use Rattle.script_reader.specs.declared.fault.ScriptFault.{ScriptFault}
use Rattle.script_reader.specs.declared.fault.ScriptStop.{ScriptStop}
use Rattle.script_reader.specs.declared.fault.ScriptStop.TheVariants.{Memory, At}
use Rattle.script_reader.specs.Fault.{Gives, Stops}

abbrev pub Read : Type 0
Read = Result Script ScriptStop

-- a script that is given is the one that is read
pub given_ok : (r read : Read) → Gives r read → IfOk r (λ script. read ≡ Ok script)
given_ok (Ok script) read h = h
given_ok (Err stop) read h = tt

-- a fault that is given is the first one
pub given_fault : (r read : Read) → Gives r read → IfErr r (λ stop. Stops stop read)
given_fault (Ok script) read h = tt
given_fault (Err stop) read h = h

given_script : (stop : ScriptStop) (read : Read) (script : Script) → Stops stop read → read ≡ Ok script → stop ≡ Memory
given_script Memory read script h e = refl
given_script (At line fault) read script h e = cc

-- a text of a script gives it, or memory ran out
pub given_only : (r read : Read) → Gives r read → (script : Script) → read ≡ Ok script → (r ≡ Ok script)
    ⊎ (r ≡ Err Memory)
given_only (Ok other) read h script e = inl (sym h ∙ e)
given_only (Err stop) read h script e = inr (ap Err (given_script stop read script h e))

given_stop : (stop : ScriptStop) (read : Read) (line : ℕ) (fault : ScriptFault) → Stops stop read
    → read ≡ Err (At line fault) → (stop ≡ At line fault) ⊎ (stop ≡ Memory)
given_stop Memory read line fault h e = inr refl
given_stop (At other kind) read line fault h e = inl cc

as_answer : (stop : ScriptStop) (line : ℕ) (fault : ScriptFault) → (stop ≡ At line fault) ⊎ (stop ≡ Memory)
    → let r : Read = Err stop in (r ≡ Err (At line fault)) ⊎ (r ≡ Err Memory)
as_answer stop line fault (inl e) = inl (ap Err e)
as_answer stop line fault (inr e) = inr (ap Err e)

-- a text with a fault gives that, or memory ran out
pub given_only_fault : (r read : Read) → Gives r read → (line : ℕ) (fault : ScriptFault) → read ≡ Err (At line fault)
    → (r ≡ Err (At line fault)) ⊎ (r ≡ Err Memory)
given_only_fault (Ok script) read h line fault e = inl cc
given_only_fault (Err stop) read h line fault e = as_answer stop line fault (given_stop stop read line fault h e)
