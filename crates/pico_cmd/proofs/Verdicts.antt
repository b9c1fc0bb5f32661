-- What `check` answers, from what its parts answer.
use Rattle.std.proofs.Common.{◌≡◌, ℕ, List, Option, Result, Ok, Err, refl, sym, ap, subst, ◌∙◌}
use Rattle.std.specs.Result.{result_ok}
use Rattle.std.proofs.lemmas.Option.{same_Some}
use Rattle.pico_base.specs.declared.reply.Entry.{Entry}
use Rattle.pico_base.specs.declared.script.Script.{Script}
use Rattle.script_reader.specs.declared.fault.ScriptFault.{ScriptFault}
use Rattle.script_reader.specs.declared.fault.ScriptStop.{ScriptStop}
use Rattle.script_reader.specs.declared.fault.ScriptStop.TheVariants.{At}
use Rattle.script_reader.specs.Fault.{Gives}
use Rattle.check_input.specs.Parts.{script_of, trace_of, first_line_of, marker_length, script_with, checked_script}
use Rattle.trace_text.specs.declared.fault.CheckFault.{CheckFault}
use Rattle.trace_text.specs.declared.fault.CheckFault.TheVariants.{Memory, NotATrace, Illegal, NotTheScript}
use Rattle.trace_check.specs.declared.check.Legal.{Legal}
use Rattle.trace_check.specs.FirstFault.{GivesFault, IsLegalTrace, verdict_of}
use Rattle.trace_check.specs.Refusal.{IsRefusal}
use Rattle.pico_cmd.specs.declared.status.Status.{Status}
use Rattle.pico_cmd.specs.declared.status.Status.TheVariants as status
use Rattle.pico_cmd.specs.Promise.{Judges, JudgesTrace, CauseOfCheck}

-- what is read of the parts is read of the bytes
pub gives_checked : (bytes script : List ℕ) (marker : Option ℕ) (first : ℕ) (r : Result Script ScriptStop)
    → script ≡ script_of bytes → marker ≡ marker_length bytes → first ≡ first_line_of bytes
    → Gives r (script_with marker first script) → Gives r (checked_script bytes)
unfolding checked_script
gives_checked bytes script marker first r a b c h =
    subst (λ (t : List ℕ). Gives r (script_with (marker_length bytes) (first_line_of bytes) t)) a
    (subst (λ (m : Option ℕ). Gives r (script_with m (first_line_of bytes) script)) b
    (subst (λ (n : ℕ). Gives r (script_with marker n script)) c h))

same_script : {E : Type 0} (a b : Script) (r : Result Script E) → r ≡ Ok a → r ≡ Ok b → a ≡ b
same_script a b r e f = same_Some a b (ap result_ok (sym e ∙ f))

module _ (bytes : List ℕ) (script : Script) (trace : List ℕ) (first : ℕ) (reads : checked_script bytes ≡ Ok script)
    (trace_is : trace ≡ trace_of bytes) (first_is : first ≡ first_line_of bytes) where
  judges_there : (s : Status) (text : List ℕ) → JudgesTrace script trace first s text
      → JudgesTrace script (trace_of bytes) (first_line_of bytes) s text
  judges_there s text h =
      subst (λ (t : List ℕ). JudgesTrace script t (first_line_of bytes) s text) trace_is
      (subst (λ (n : ℕ). JudgesTrace script trace n s text) first_is h)

  -- the answer to the trace is the answer to the bytes
  pub judges_bytes : (s : Status) (text : List ℕ) → JudgesTrace script trace first s text → Judges bytes s text
  judges_bytes status.Done text h =
      record { script = script; reads = reads; judges = judges_there status.Done text h }
  judges_bytes status.NotLegal text h =
      record { script = script; reads = reads; judges = judges_there status.NotLegal text h }
  judges_bytes status.BadScript text h = absurd h
  judges_bytes status.Usage text h = absurd h
  judges_bytes status.Memory text h = absurd h
  judges_bytes status.ReadFault text h = absurd h
  judges_bytes status.WriteFault text h = absurd h
  judges_bytes status.Stalled text h = absurd h
  judges_bytes status.BadImage text h = absurd h

  -- and has the causes that there are
  pub causes_read : (P : Status → Type 0)
      → ((history : List Entry) → IsLegalTrace script trace history → P status.Done)
      → ((fault : CheckFault) → verdict_of script trace first ≡ Err fault → IsRefusal fault → P status.NotLegal)
      → (s : Status) → CauseOfCheck bytes s → P s
  causes_read P legal refused status.Done c =
      let same : script ≡ c.script = same_script script c.script (checked_script bytes) reads c.reads in
      legal c.history
      (subst (λ (t : List ℕ). IsLegalTrace script t c.history) (sym trace_is)
      (subst (λ (x : Script). IsLegalTrace x (trace_of bytes) c.history) (sym same) c.legal))
  causes_read P legal refused status.NotLegal c =
      let same : script ≡ c.script = same_script script c.script (checked_script bytes) reads c.reads in
      refused c.fault
      (subst (λ (t : List ℕ). verdict_of script t first ≡ Err c.fault) (sym trace_is)
      (subst (λ (n : ℕ). verdict_of script (trace_of bytes) n ≡ Err c.fault) (sym first_is)
      (subst (λ (x : Script). verdict_of x (trace_of bytes) (first_line_of bytes) ≡ Err c.fault) (sym same) c.first)))
      c.is_refusal
  causes_read P legal refused status.BadScript c =
      absurd (let e : Ok script ≡ Err (At c.0 c.1) = sym reads ∙ c.2 in let f : ⊥ = cc in f)
  causes_read P legal refused status.Usage c = absurd c
  causes_read P legal refused status.Memory c = absurd c
  causes_read P legal refused status.ReadFault c = absurd c
  causes_read P legal refused status.WriteFault c = absurd c
  causes_read P legal refused status.Stalled c = absurd c
  causes_read P legal refused status.BadImage c = absurd c

-- a script with a fault is the only cause
pub causes_fault : (bytes : List ℕ) (line : ℕ) (fault : ScriptFault) → checked_script bytes ≡ Err (At line fault)
    → (s : Status) → CauseOfCheck bytes s → status.BadScript ≡ s
causes_fault bytes line fault e status.BadScript c = refl
causes_fault bytes line fault e status.Done c =
    absurd (let d : Ok c.script ≡ Err (At line fault) = sym c.reads ∙ e in let f : ⊥ = cc in f)
causes_fault bytes line fault e status.NotLegal c =
    absurd (let d : Ok c.script ≡ Err (At line fault) = sym c.reads ∙ e in let f : ⊥ = cc in f)
causes_fault bytes line fault e status.Usage c = absurd c
causes_fault bytes line fault e status.Memory c = absurd c
causes_fault bytes line fault e status.ReadFault c = absurd c
causes_fault bytes line fault e status.WriteFault c = absurd c
causes_fault bytes line fault e status.Stalled c = absurd c
causes_fault bytes line fault e status.BadImage c = absurd c

-- ---- refusals

pub refusal_unless_memory : (f : CheckFault) → (f ≡ Memory → ⊥) → IsRefusal f
refusal_unless_memory Memory h = h refl
refusal_unless_memory (NotATrace line) h = tt
refusal_unless_memory (Illegal line kernel trace) h = tt
refusal_unless_memory (NotTheScript line due found) h = tt

-- a refusal that was given is the verdict itself
pub refused_first : (f : CheckFault) (v : Result Legal CheckFault) → IsRefusal f → GivesFault f v → v ≡ Err f
refused_first Memory v r h = absurd r
refused_first (NotATrace line) v r h = h
refused_first (Illegal line kernel trace) v r h = h
refused_first (NotTheScript line due found) v r h = h

-- what is refused isn't want of memory
pub refused_not_memory : {T : Type 0} (f : CheckFault) → IsRefusal f
    → (let r : Result T CheckFault = Err f in r ≡ Err Memory) → ⊥
refused_not_memory Memory r e = r
refused_not_memory (NotATrace line) r e = cc
refused_not_memory (Illegal line kernel trace) r e = cc
refused_not_memory (NotTheScript line due found) r e = cc
