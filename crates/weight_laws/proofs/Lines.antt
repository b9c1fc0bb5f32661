-- The calls that a process hasn't started: one fewer once a call is started, and no more once its reply has come.
use Rattle.std.proofs.Common.{◌≡◌, ℕ, ◌+◌, ◌-◌, ◌≤◌, List, drop, slice_get, Option, Some, None, is_some, refl, ap, ◌∙◌, arith}
use Rattle.std.specs.Prelude.{sum_by}
use Rattle.std.proofs.lemmas.List.Sums.{sum_by-cons, sum_by-take-drop}
use Rattle.pico_base.specs.declared.call.Call.{Call}
use Rattle.pico_base.specs.declared.reply.Reply.{Reply}
use Rattle.pico_base.specs.declared.script.Line.{Line}
use Rattle.pico_base.specs.declared.script.Script.{Script}
use Rattle.node_model.specs.Caller.{Caller, lines_of, start_call, answer_call, answer_at, end_call}
use Rattle.world_model.specs.Census.{one_if}
use Rattle.world_laws.specs.Callers.{HasTryLeft, HasTries, tries_made}
use Rattle.world_laws.proofs.Lines.{cut-at, past-end, answered, IsAnswered}
use Rattle.weight_laws.specs.Weights.{left_to_start}

abbrev tries_of : Line → ℕ
tries_of line = line.tries

-- the tries of these lines
abbrev tries_in : List Line → ℕ
tries_in lines = sum_by (λ line. line.tries) lines

is-under-way : (script : Script) (p : ℕ) (c : Caller) (call : Call) → c.under_way ≡ Some call
    → left_to_start script p c ≡ tries_in (drop c.line (lines_of script p)) - (c.tried + 1)
is-under-way script p c call e =
    ap (λ o. tries_in (drop c.line (lines_of script p)) - (c.tried + one_if (is_some o))) e

is-free : (script : Script) (p : ℕ) (c : Caller) → c.under_way ≡ None
    → left_to_start script p c ≡ tries_in (drop c.line (lines_of script p)) - c.tried
is-free script p c e =
    ap (λ o. tries_in (drop c.line (lines_of script p)) - (c.tried + one_if (is_some o))) e ∙ omega arith

-- a call is started
pub start-below : (script : Script) (p : ℕ) (c : Caller) (call : Call) (line : Line) → c.under_way ≡ None
    → slice_get (lines_of script p) c.line ≡ Some line → HasTryLeft script p c
    → left_to_start script p (start_call c call) + 1 ≤ left_to_start script p c
start-below script p c call line free at left =
    let one : c.tried + 1 ≤ line.tries = left line at
    in let was = is-free script p c free
    in let now : left_to_start script p (start_call c call)
    ≡ tries_in (drop c.line (lines_of script p)) - (c.tried + 1) = refl
    in let first : tries_in (drop c.line (lines_of script p))
    ≡ line.tries + tries_in (drop (c.line + 1) (lines_of script p)) =
    ap tries_in (cut-at (lines_of script p) c.line line at)
    ∙ sum_by-cons (λ (l : Line). l.tries) line (drop (c.line + 1) (lines_of script p))
    in omega (arith, one, was, now, first)

-- and has its reply
pub answer-below : (script : Script) (p : ℕ) → HasTries script → (c : Caller) (other call : Call) (reply : Reply)
    → c.under_way ≡ Some other → HasTryLeft script p c
    → left_to_start script p (answer_call script p c call reply) ≤ left_to_start script p c
answer-below script p tries c other call reply under_way left = by-line (slice_get (lines_of script p) c.line) refl
  where
    by-line : (o : Option Line) → slice_get (lines_of script p) c.line ≡ o
        → left_to_start script p (answer_call script p c call reply) ≤ left_to_start script p c
    by-line None e =
        let next : answer_call script p c call reply ≡ end_call c = ap (answer_at c call reply) e
        in let none : left_to_start script p (answer_call script p c call reply) ≡ 0 =
        ap (left_to_start script p) next
        ∙ ap (λ (ls : List Line). tries_in ls - (c.tried + 0)) (past-end (lines_of script p) c.line e)
        ∙ omega arith
        in omega (arith, none)
    by-line (Some line) e =
        let next : Caller = answer_call script p c call reply
        in let done : IsAnswered script p c call reply next = answered script p tries c call reply line e left
        in let more : tries_made script p c + 1 ≤ tries_made script p next = done.more_tries
        in let was = is-under-way script p c other under_way
        in let now = is-free script p next done.free
        in let all = sum_by-take-drop (λ (l : Line). l.tries) (lines_of script p) c.line
        in let all_next = sum_by-take-drop (λ (l : Line). l.tries) (lines_of script p) next.line
        in omega (arith, more, was, now, all, all_next)
