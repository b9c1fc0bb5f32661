-- In a script in which no line is in a form that may wait no call that is due is in such a form.
use Rattle.std.proofs.Common.{◌≡◌, ℕ, zero, suc, ◌-◌, Bool, true, false, not, ◌&&◌, List, [], ◌∷◌, drop, Option, Some, None, refl, ap, sym, ◌∙◌, inl, inr}
use Rattle.std.specs.Prelude.{if◌then◌else◌}
use Rattle.std.specs.List.{list_all}
use Rattle.std.proofs.lemmas.Bool.{and_parts, false≢true}
use Rattle.pico_base.specs.declared.call.Call.{Call}
use Rattle.pico_base.specs.declared.call.Call.TheVariants as calls
use Rattle.pico_base.specs.declared.script.Block.{Block}
use Rattle.pico_base.specs.declared.script.Line.{Line}
use Rattle.pico_base.specs.declared.script.Script.{Script}
use Rattle.kernel_laws.proofs.Plain.{from_some, not_some}
use Rattle.kernel_model.specs.Fitting.{IsDue, Place, block_at, call_due, is_killed}
use Rattle.kernel_model.specs.Script.{Vars, call_from, call_of, is_exit, with_exit, with_target}
use Rattle.kernel_model.specs.Waiting.{is_waiting}
use Rattle.waiting_model.specs.Calls.{may_park}
use Rattle.node_model.specs.Caller.{Caller, caller_place, lines_in, lines_of}
use Rattle.bound_laws.proofs.Scripts.{test-at}
use Rattle.rest_laws.specs.Laws.{never_waits, waits_never}

not-true : (t : Bool) → not t ≡ true → t ≡ false
not-true false h = refl
not-true true h = absurd (false≢true h)

both : (t u : Bool) → t ≡ true → u ≡ true → (t && u) ≡ true
both t u h g = rw (h, g) refl

-- the exit that a block's end stands for doesn't wait
exit-added : (lines : List Line) → list_all waits_never lines ≡ true → list_all waits_never (with_exit lines) ≡ true
exit-added [] h = refl
exit-added (line ∷ lines) h = by-test (is_exit line.call) (exit-added lines)
  where
    parts : (waits_never line ≡ true) × (list_all waits_never lines ≡ true)
    parts = and_parts (waits_never line) (list_all waits_never lines) h

    by-test : (t : Bool)
        → (list_all waits_never lines ≡ true → list_all waits_never (with_exit lines) ≡ true)
        → list_all waits_never (if t then line ∷ [] else line ∷ with_exit lines) ≡ true
    by-test true later = both (waits_never line) true parts.0 refl
    by-test false later = both (waits_never line) (list_all waits_never (with_exit lines)) parts.0 (later parts.1)

none-dropped : (i : ℕ) (lines : List Line) → list_all waits_never lines ≡ true
    → list_all waits_never (drop i lines) ≡ true
none-dropped zero lines h = h
none-dropped (suc i) [] h = refl
none-dropped (suc i) (line ∷ lines) h =
    none-dropped i lines (and_parts (waits_never line) (list_all waits_never lines) h).1

-- a variable's value in place of a number makes no other form
same-form : (call : Call) (n : ℕ) → is_waiting (with_target call n) ≡ is_waiting call
same-form (calls.Kill pid sig) n = refl
same-form (calls.WaitPid child nohang) n = refl
same-form (calls.MsgSnd id class text nowait) n = refl
same-form (calls.MsgRcv id class size noerror nowait) n = refl
same-form (calls.MsgStat id) n = refl
same-form (calls.MsgSet id qbytes) n = refl
same-form (calls.MsgRmid id) n = refl
same-form (calls.SemOp id steps) n = refl
same-form (calls.SemGetVal id num) n = refl
same-form (calls.SemGetPid id num) n = refl
same-form (calls.SemGetNcnt id num) n = refl
same-form (calls.SemGetZcnt id num) n = refl
same-form (calls.SemSetVal id num value) n = refl
same-form (calls.SemGetAll id) n = refl
same-form (calls.SemSetAll id values) n = refl
same-form (calls.SemRmid id) n = refl
same-form call n = refl

line-form : (call : Call) (vars : Vars) (var : Option ℕ) → is_waiting (call_from call vars var) ≡ is_waiting call
line-form call vars None = refl
line-form call vars (Some v) = same-form call _

parks-not : (call : Call) → is_waiting call ≡ false → may_park call ≡ false
parks-not (calls.Withdraw name) h = refl
parks-not call h = h

killed-parks-not : (call : Call) → is_killed call ≡ true → may_park call ≡ false
killed-parks-not (calls.Killed sig) h = refl
killed-parks-not call h = absurd (false≢true h)

due-parks-not : (place : Place) (lines : List Line) (call : Call) → list_all waits_never lines ≡ true
    → call_due place lines ≡ Some call → may_park call ≡ false
due-parks-not place [] call h e = not_some call e
due-parks-not place (line ∷ lines) call h e =
    let waits : is_waiting (call_of line place.vars) ≡ false =
    line-form line.call place.vars line.from
    ∙ not-true (is_waiting line.call) (and_parts (waits_never line) (list_all waits_never lines) h).0
    in parks-not call (sym (ap is_waiting (from_some (call_of line place.vars) call e)) ∙ waits)

module _ (script : Script) (never : never_waits script ≡ true) where
  block-waits-not : (p : ℕ) (o : Option Block) → block_at script p ≡ o → list_all waits_never (lines_in o) ≡ true
  block-waits-not p None is = refl
  block-waits-not p (Some b) is =
      exit-added b.lines (test-at (λ (x : Block). list_all waits_never x.lines) script.blocks (p - 1) b never is)

  -- A call that is due never parks.
  pub due-never-parks : (p : ℕ) (c : Caller) (call : Call) → IsDue (caller_place script p c) call
      → may_park call ≡ false
  due-never-parks p c call (inl e) =
      due-parks-not (caller_place script p c) (drop c.line (lines_of script p)) call
      (none-dropped c.line (lines_of script p) (block-waits-not p (block_at script p) refl)) e
  due-never-parks p c call (inr (killed, other, due)) = killed-parks-not call killed
