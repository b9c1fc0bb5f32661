-- Where a node's process is in its block, and its call under way.
use Rattle.std.specs.Prelude.{ℕ, ◌+◌, Bool, true, false, List, [], drop, if◌then◌else◌, Option, Some, None, slice_get}
use Rattle.std.specs.Option.{option_and_then}
use Rattle.pico_base.specs.declared.call.Call.{Call}
use Rattle.pico_base.specs.declared.call.Call.TheVariants as calls
use Rattle.pico_base.specs.declared.reply.Reply.{Reply}
use Rattle.pico_base.specs.declared.script.Line.{Line}
use Rattle.pico_base.specs.declared.script.Block.{Block}
use Rattle.pico_base.specs.declared.script.Script.{Script}
use Rattle.pico_base.specs.declared.signal.Sig.{Sig}
use Rattle.kernel_model.specs.Script.{Vars}
use Rattle.kernel_model.specs.Fitting.{Place, due, is_due_again, vars_after, with_exit, block_at}
use Rattle.waiting_model.specs.Calls.{may_park}

-- The lines passed, how often the line reached was tried, the variables, how many calls were started, the call under
-- way, from its start until its reply is here, and whether a signal has interrupted it already.
pub record Caller : Type 0 where
  pub line : ℕ
  pub tried : ℕ
  pub vars : Vars
  pub ticket : ℕ
  pub under_way : Option Call
  pub noted : Bool

abbrev pub new_caller : Vars → Caller
new_caller vars = record { line = 0; tried = 0; vars = vars; ticket = 0; under_way = None; noted = false }

-- a block's lines, with the `exit` that its end stands for
abbrev pub lines_in : Option Block → List Line
lines_in None = []
lines_in (Some block) = with_exit block.lines

abbrev pub lines_of : Script → ℕ → List Line
lines_of script block = lines_in (block_at script block)

-- the process's place in its block
abbrev pub caller_place : Script → ℕ → Caller → Place
caller_place script block c = record { left = drop c.line (lines_of script block); tried = c.tried; vars = c.vars }

-- the call due: the end by a signal of a doomed process, else the next one of its block
abbrev pub due_call : Script → ℕ → Caller → Option Sig → Option Call
due_call script block c (Some sig) = Some (calls.Killed sig)
due_call script block c None = due (caller_place script block c)

abbrev pub start_call : Caller → Call → Caller
start_call c call = record c { ticket = c.ticket + 1; under_way = Some call; noted = false }

-- The call that a signal interrupts: one that may have to wait, and that none has interrupted so far. Then this is
-- noted, so that each call is withdrawn once.
abbrev pub if_it_waits : Call → Option Call
if_it_waits call = if may_park call then Some call else None

abbrev pub to_cancel : Caller → Option Call
to_cancel c = if c.noted then None else option_and_then if_it_waits c.under_way

abbrev pub note_cancel : Caller → Caller
note_cancel c = record c { noted = true }

abbrev pub end_call : Caller → Caller
end_call c = record c { under_way = None }

-- once the reply is here, the line is due again, or its variable is set and the next line is due
abbrev pub answer_at : Caller → Call → Reply → Option Line → Caller
answer_at c call reply None = end_call c
answer_at c call reply (Some line) =
    if is_due_again call reply c.tried line.tries
    then record (end_call c) { tried = c.tried + 1 }
    else record (end_call c) { line = c.line + 1; tried = 0; vars = vars_after c.vars line.set reply }

abbrev pub answer_call : Script → ℕ → Caller → Call → Reply → Caller
answer_call script block c call reply = answer_at c call reply (slice_get (lines_of script block) c.line)
