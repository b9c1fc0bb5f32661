-- Whether a process has a call due.
use Rattle.std.proofs.Common.{◌≡◌, ◌∙◌, ℕ, zero, suc, ◌<◌, ◌↔◌, Bool, true, false, ltb, List, [], ◌∷◌, length, drop, is_some, IsTrue, refl, sym, ap, arith}
use Rattle.std.proofs.lemmas.Bool.{ltb-true, lt-ltb}
use Rattle.pico_base.specs.declared.script.Line.{Line}
use Rattle.pico_base.specs.declared.script.Script.{Script}
use Rattle.kernel_model.specs.Fitting.{Place, call_due, due}
use Rattle.node_model.specs.Caller.{lines_of}
use Rattle.node_calls.specs.Caller as callers
use Rattle.trace_check.specs.declared.cursor.Cursor.{Cursor}
use Rattle.trace_check.specs.Cursors.{ended_if, place_of}

-- a call is due exactly where lines are left
due-left : (place : Place) (i : ℕ) (lines : List Line) → is_some (call_due place (drop i lines)) ≡ ltb i (length lines)
due-left place zero [] = refl
due-left place zero (line ∷ lines) = sym (lt-ltb 0 (length (line ∷ lines)) (omega arith))
due-left place (suc i) [] = of (ltb (suc i) 0) refl
  where
    of : (b : Bool) → ltb (suc i) 0 ≡ b → false ≡ ltb (suc i) 0
    of true is = let low : suc i < 0 = ltb-true (suc i) 0 is in absurd (omega (arith, low))
    of false is = sym is
due-left place (suc i) (line ∷ lines) =
    due-left place i lines ∙ of (ltb i (length lines)) refl (ltb (suc i) (length (line ∷ lines))) refl
  where
    of : (b : Bool) → ltb i (length lines) ≡ b → (c : Bool) → ltb (suc i) (length (line ∷ lines)) ≡ c
        → ltb i (length lines) ≡ ltb (suc i) (length (line ∷ lines))
    of true is true also = is ∙ sym also
    of false is false also = is ∙ sym also
    of true is false also =
        let low : i < length lines = ltb-true i (length lines) is in
        is ∙ sym (lt-ltb (suc i) (length (line ∷ lines)) (omega (arith, low)))
    of false is true also =
        let low : suc i < length (line ∷ lines) = ltb-true (suc i) (length (line ∷ lines)) also in
        lt-ltb i (length lines) (omega (arith, low)) ∙ sym also

-- where a call is due the line stands in the block
pub has-line : (script : Script) (c : Cursor) → is_some (due (callers.place_of script c.caller)) ≡ true
    → callers.HasLine script c.caller
has-line script c some =
    ltb-true c.caller.caller.line (length (lines_of script c.caller.block))
    (sym (due-left (callers.place_of script c.caller) c.caller.caller.line (lines_of script c.caller.block)) ∙ some)

-- a process that no signal has ended has a call due exactly where its line stands in its block
pub has-call : (script : Script) (c : Cursor) (b : Bool) → c.is_killed ≡ false
    → (IsTrue b ↔ callers.HasLine script c.caller) → b ≡ is_some (due (place_of script c))
has-call script c b alive has =
    of b has ∙ sym (due-left (callers.place_of script c.caller) c.caller.caller.line (lines_of script c.caller.block))
    ∙ ap (λ (k : Bool). is_some (due (ended_if k (callers.place_of script c.caller)))) (sym alive)
  where
    of : (b : Bool) → (IsTrue b ↔ callers.HasLine script c.caller)
        → b ≡ ltb c.caller.caller.line (length (lines_of script c.caller.block))
    of true has = sym (lt-ltb c.caller.caller.line (length (lines_of script c.caller.block)) (has.0 refl))
    of false has = by (ltb c.caller.caller.line (length (lines_of script c.caller.block))) refl
      where
        by : (d : Bool) → ltb c.caller.caller.line (length (lines_of script c.caller.block)) ≡ d
            → false ≡ ltb c.caller.caller.line (length (lines_of script c.caller.block))
        by true is =
            let no : false ≡ true =
            has.1 (ltb-true c.caller.caller.line (length (lines_of script c.caller.block)) is) in absurd (cc)
        by false is = sym is
