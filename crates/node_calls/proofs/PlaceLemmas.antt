-- A caller's place after a reply: the lines left are those behind the lines passed.
use Rattle.std.proofs.Common.{◌≡◌, ◌∙◌, ℕ, ◌+◌, ◌<◌, zero, suc, Bool, true, false, ◌&&◌, nat_lt, List, [], ◌∷◌, length, drop, Option, Some, None, refl, sym, ap, arith, subst, get_or, IfSome, IfOk, Result, Ok, Err}
use Rattle.std.specs.Prelude.{slice_get, if◌then◌else◌}
use Rattle.std.proofs.lemmas.Option.{slice_get-get_or}
use Rattle.pico_base.specs.declared.call.Call.{Call}
use Rattle.pico_base.specs.declared.call.Call.TheVariants.{Exit}
use Rattle.pico_base.specs.declared.fault.Memory.{Memory}
use Rattle.pico_base.specs.declared.signal.Sig.{Sig}
use Rattle.pico_base.specs.declared.reply.Reply.{Reply}
use Rattle.pico_base.specs.declared.script.Line.{Line}
use Rattle.pico_base.specs.declared.script.Script.{Script}
use Rattle.kernel_model.specs.Script.{Vars, call_from, call_of, implied_exit}
use Rattle.kernel_model.specs.Fitting.{Place, place_after, after_line, call_due as call_due_at, child_vars, child_vars_at, due, asks_again, set_variable, value_in}
use Rattle.node_calls.specs.Lines.{written_lines}
use Rattle.node_calls.proofs.LineLemmas.{reached-written, reached-implied}
use Rattle.node_model.specs.Caller.{Caller, answer_at, end_call, lines_of}
use Rattle.node_calls.specs.Caller.{BlockCaller, HasLine, answered, call_due, place_of}

pub drop-at : (lines : List Line) (i : ℕ) (line : Line) → slice_get lines i ≡ Some line
    → drop i lines ≡ line ∷ drop (suc i) lines
drop-at [] i line there = absurd (cc)
drop-at (x ∷ xs) zero line there = let same : x ≡ line = cc in ap (λ (y : Line). y ∷ xs) same
drop-at (x ∷ xs) (suc i) line there = drop-at xs i line there

-- a line that is reached, and its terms
Terms : List Line → ℕ → Option ℕ → ℕ → Type 0
Terms lines i set tries = IfSome (slice_get lines i) (λ l. (set ≡ l.set) × (tries ≡ l.tries))

record IsReached (lines : List Line) (i : ℕ) (set : Option ℕ) (tries : ℕ) : Type 0 where
  line : Line
  there : slice_get lines i ≡ Some line
  left : drop i lines ≡ line ∷ drop (suc i) lines
  sets : set ≡ line.set
  tried : tries ≡ line.tries

reached : (lines : List Line) (i : ℕ) (set : Option ℕ) (tries : ℕ) → i < length lines → Terms lines i set tries
    → IsReached lines i set tries
unfolding Terms
reached lines i set tries within terms =
    let at : slice_get lines i ≡ Some (get_or lines i implied_exit) = slice_get-get_or lines i implied_exit within
    in let facts : (set ≡ (get_or lines i implied_exit).set) × (tries ≡ (get_or lines i implied_exit).tries) =
    rw at at terms
    in record {
      line = get_or lines i implied_exit;
      there = at;
      left = drop-at lines i (get_or lines i implied_exit) at;
      sets = facts.0;
      tried = facts.1;
    }

-- a reply moves the place

place_at : List Line → Caller → Place
place_at lines c = record { left = drop c.line lines; tried = c.tried; vars = c.vars }

moved_by : (again : Bool) (lines : List Line) (c : Caller) (line : Line) (n : ℕ)
    → place_at lines (if again then record (end_call c) { tried = c.tried + 1 }
    else record (end_call c) { line = c.line + 1; tried = 0; vars = set_variable c.vars line.set n })
    ≡ (if again then record (place_at lines c) { tried = c.tried + 1 }
    else record { left = drop (suc c.line) lines; tried = 0; vars = set_variable c.vars line.set n })
unfolding place_at
moved_by true lines c line n = refl
moved_by false lines c line n =
    let more : c.line + 1 ≡ suc c.line = omega arith
    in ap (λ (i : ℕ). at_left (drop i lines) 0 (set_variable c.vars line.set n)) more
  where
    at_left : List Line → ℕ → Vars → Place
    at_left left tried vars = record { left = left; tried = tried; vars = vars }

moves_at : (lines : List Line) (c : Caller) (call : Call) (reply : Reply) (line : Line)
    → slice_get lines c.line ≡ Some line
    → place_at lines (answer_at c call reply (slice_get lines c.line))
    ≡ place_after (place_at lines c) call (Some reply)
unfolding place_at
moves_at lines c call reply line there =
    ap (λ (o : Option Line). place_at lines (answer_at c call reply o)) there
    ∙ moved_by (asks_again call (Some reply) && nat_lt (c.tried + 1) line.tries) lines c line (value_in (Some reply))
    ∙ ap (after_line (place_at lines c) call (Some reply)) (sym (drop-at lines c.line line there))

-- a reply moves a caller whose line is there to the place that follows in a history
pub place-moves : (script : Script) (c : BlockCaller) (call : Call) (reply : Reply) → HasLine script c
    → place_of script (answered script c call reply) ≡ place_after (place_of script c) call (Some reply)
unfolding place_at
place-moves script c call reply reached =
    let lines = lines_of script c.block
    in moves_at lines c.caller call reply (get_or lines c.caller.line implied_exit)
    (slice_get-get_or lines c.caller.line implied_exit reached)

-- As the code has it: the parts of a caller in its fields.

abbrev caller_of : ℕ → ℕ → ℕ → Vars → ℕ → Option Call → Bool → BlockCaller
caller_of block line tried vars ticket under_way noted =
    record {
      block = block;
      caller =
          record { line = line; tried = tried; vars = vars; ticket = ticket; under_way = under_way; noted = noted };
    }

-- What is due, and what a child begins with, by the line that is reached.

due_with : (script : Script) (c : BlockCaller) (line : Line)
    → slice_get (lines_of script c.block) c.caller.line ≡ Some line
    → due (place_of script c) ≡ Some (call_of line c.caller.vars)
due_with script c line there =
    ap (call_due_at (place_of script c)) (drop-at (lines_of script c.block) c.caller.line line there)

pub line-due : (script : Script) (c : BlockCaller) (line : Line) (call : Call)
    → slice_get (lines_of script c.block) c.caller.line ≡ Some line
    → call ≡ call_of line c.caller.vars → due (place_of script c) ≡ Some call
line-due script c line call there is = due_with script c line there ∙ ap (λ (x : Call). Some x) (sym is)

pub child-vars-are : (script : Script) (c : BlockCaller) (set : Option ℕ) (tries : ℕ) → HasLine script c
    → IfSome (slice_get (lines_of script c.block) c.caller.line) (λ l. (set ≡ l.set) × (tries ≡ l.tries))
    → set_variable c.caller.vars set 0 ≡ child_vars (place_of script c)
unfolding Terms
child-vars-are script c set tries within terms =
    let line = reached (lines_of script c.block) c.caller.line set tries within terms
    in ap (λ (s : Option ℕ). set_variable c.caller.vars s 0) line.sets
    ∙ sym (ap (child_vars_at c.caller.vars) line.left)

Dues : Script → Option Sig → Result Call Memory → BlockCaller → Type 0
Dues script doom r c = IfOk r (λ call. call_due script c doom ≡ Some call)

dues_line : (script : Script) (c : BlockCaller) (line : Line) (r : Result Call Memory)
    → slice_get (lines_of script c.block) c.caller.line ≡ Some line
    → IfOk r (λ call. call ≡ call_of line c.caller.vars) → Dues script None r c
unfolding Dues
dues_line script c line (Ok call) there is = line-due script c line call there is
dues_line script c line (Err e) there is = tt

-- a call made from the written line at a caller's place is due, where no signal dooms the caller
pub due-line : (script : Script) (c : BlockCaller) (block line tried ticket : ℕ) (vars : Vars) (under_way : Option Call)
    (noted : Bool) (written : Line)
    (doom : Option Sig) (r : Result Call Memory) → caller_of block line tried vars ticket under_way noted ≡ c
    → HasLine script c → doom ≡ None
    → Some written ≡ slice_get (written_lines script block) line → IfOk r (λ call. call ≡ call_of written vars)
    → IfOk r (λ call. call_due script c doom ≡ Some call)
unfolding Dues
due-line script c block line tried ticket vars under_way noted written doom r view within is at called =
    let was = caller_of block line tried vars ticket under_way noted
    in let low : line < length (lines_of script block) = subst (HasLine script) (sym view) within
    in subst (λ (d : Option Sig). Dues script d r c) (sym is)
    (subst (Dues script None r) view
    (dues_line script was written r (reached-written script block line written (sym at) low) called))

-- the call of a written line that names no variable is due as it is, where no signal dooms the caller
pub due-as-written : (script : Script) (c : BlockCaller) (block line tried ticket : ℕ) (vars : Vars)
    (under_way : Option Call) (noted : Bool) (written : Line) (call : Call)
    → caller_of block line tried vars ticket under_way noted ≡ c → HasLine script c
    → Some written ≡ slice_get (written_lines script block) line → written.from ≡ None
    → call ≡ written.call → call_due script c None ≡ Some call
due-as-written script c block line tried ticket vars under_way noted written call view within at unnamed is =
    due-line script c block line tried ticket vars under_way noted written None (Ok call) view within refl at
    (is ∙ sym (ap (call_from written.call vars) unnamed))

-- the same where it is known to name none
pub due-if-written : (script : Script) (c : BlockCaller) (block line tried ticket : ℕ) (vars : Vars)
    (under_way : Option Call) (noted : Bool) (written : Line) (o : Option Call)
    → caller_of block line tried vars ticket under_way noted ≡ c → HasLine script c
    → Some written ≡ slice_get (written_lines script block) line
    → IfSome o (λ call. (written.from ≡ None) × (call ≡ written.call))
    → IfSome o (λ call. call_due script c None ≡ Some call)
due-if-written script c block line tried ticket vars under_way noted written None view within at as_is = tt
due-if-written script c block line tried ticket vars under_way noted written (Some call) view within at as_is =
    due-as-written script c block line tried ticket vars under_way noted written call view within at as_is.0 as_is.1

-- behind the written lines an exit with status 0 is due, where no signal dooms the caller
pub due-end : (script : Script) (c : BlockCaller) (block line tried ticket : ℕ) (vars : Vars) (under_way : Option Call)
    (noted : Bool) (doom : Option Sig) → caller_of block line tried vars ticket under_way noted ≡ c
    → HasLine script c → doom ≡ None
    → None ≡ slice_get (written_lines script block) line → call_due script c doom ≡ Some (Exit 0)
due-end script c block line tried ticket vars under_way noted doom view within is at =
    let was = caller_of block line tried vars ticket under_way noted
    in let low : line < length (lines_of script block) = subst (HasLine script) (sym view) within
    in let due_then : due (place_of script was) ≡ Some (Exit 0) =
    due_with script was implied_exit (reached-implied script block line (sym at) low)
    in subst (λ (d : Option Sig). call_due script c d ≡ Some (Exit 0)) (sym is)
    (subst (λ (x : BlockCaller). due (place_of script x) ≡ Some (Exit 0)) view due_then)

Begins : Script → Result Vars Memory → BlockCaller → Type 0
Begins script r c = IfOk r (λ vars. vars ≡ child_vars (place_of script c))

begins : (script : Script) (c : BlockCaller) (set : Option ℕ) (tries : ℕ) (r : Result Vars Memory) → HasLine script c
    → IfSome (slice_get (lines_of script c.block) c.caller.line) (λ l. (set ≡ l.set) × (tries ≡ l.tries))
    → IfOk r (λ vars. vars ≡ set_variable c.caller.vars set 0) → Begins script r c
unfolding Begins
begins script c set tries (Ok vars) within terms is = is ∙ child-vars-are script c set tries within terms
begins script c set tries (Err e) within terms is = tt

-- a forked child begins with the caller's variables, the one that the line sets being 0
pub begun-are : (script : Script) (c : BlockCaller) (block line tried ticket tries : ℕ) (vars : Vars) (set : Option ℕ)
    (under_way : Option Call) (noted : Bool)
    (r : Result Vars Memory) → caller_of block line tried vars ticket under_way noted ≡ c → HasLine script c
    → IfSome (slice_get (lines_of script block) line) (λ l. (set ≡ l.set) × (tries ≡ l.tries))
    → IfOk r (λ zeroed. zeroed ≡ set_variable vars set 0) → IfOk r (λ zeroed. zeroed ≡ child_vars (place_of script c))
unfolding Begins
begun-are script c block line tried ticket tries vars set under_way noted r view within terms is =
    let was = caller_of block line tried vars ticket under_way noted
    in let low : line < length (lines_of script block) = subst (HasLine script) (sym view) within
    in subst (Begins script r) view (begins script was set tries r low terms is)
