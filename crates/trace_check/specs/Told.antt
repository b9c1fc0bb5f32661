-- A line judged beside the one that is expected: what that leaves, and what the judging of any line comes to.
use Rattle.std.specs.Prelude.{◌≡◌, ℕ, ◌≤◌, Bool, true, false, List, [], ◌∷◌, ◌++◌, codes, decimal, Option, Some, None, Result, Ok, Err}
use Rattle.std.specs.Option.{option_map_or}
use Rattle.pico_base.specs.declared.call.Call.{Call}
use Rattle.pico_base.specs.declared.call.Call.TheVariants.{Fork, Killed, MsgGet, SemGet, Withdraw}
use Rattle.pico_base.specs.declared.reply.Entry.{Entry}
use Rattle.pico_base.specs.declared.reply.Outcome.{Outcome}
use Rattle.pico_base.specs.declared.script.Script.{Script}
use Rattle.number_maps.specs.Maps.{Numbered, get}
use Rattle.kernel_model.specs.Fitting.{due}
use Rattle.kernel_model.specs.Trace.{call_text}
use Rattle.waiting_model.specs.Transition.{successor, transition}
use Rattle.trace_text.specs.Grammar.{is_call}
use Rattle.trace_text.specs.Reading.{entry_in}
use Rattle.trace_text.specs.Totals.{tally_of}
use Rattle.trace_text.specs.declared.fault.CheckFault.{CheckFault}
use Rattle.trace_text.specs.declared.fault.CheckFault.TheVariants.{Memory, NotATrace}
use Rattle.trace_check.specs.declared.cursor.Cursor.{Cursor}
use Rattle.trace_check.specs.declared.judge.Judge.{Judge}
use Rattle.trace_check.specs.declared.judge.lines.Told.{Told}
use Rattle.trace_check.specs.declared.judge.lines.Told.TheVariants.{Judged, Unread, Differs}
use Rattle.trace_check.specs.Cursors.{IsIdle, place_of}
use Rattle.trace_check.specs.FirstFault.{SoFar, GivesFault, judge_entry}
use Rattle.trace_check.specs.Judging.{so_far_of}

-- A call of a script that the kernel carries out whatever number is chosen for what it makes, since it makes nothing.
abbrev pub is_numberless : Call → Bool
is_numberless (Fork block) = false
is_numberless (Killed sig) = false
is_numberless (MsgGet key create excl) = false
is_numberless (SemGet key count create excl) = false
is_numberless (Withdraw name) = false
is_numberless call = true

-- what a line begins with, and what it has behind that
abbrev pub call_front : Script → Call → List ℕ
call_front script call = 32 ∷ (call_text script call ++ codes " = ")

abbrev pub line_with : Script → ℕ → Call → List ℕ → List ℕ
line_with script pid call rest = decimal pid ++ (call_front script call ++ rest)

-- a process of this number doesn't wait, and this call of the script is due
pub record IsDueAt (script : Script) (cursors : Numbered Cursor) (pid : ℕ) (call : Call) : Type 0 where
  pub cursor : Cursor
  pub there : get cursors pid ≡ Some cursor
  pub idle : IsIdle cursor
  pub due : due (place_of script cursor) ≡ Some call

-- the line begins with a call that is due
pub record IsBegun (script : Script) (cursors : Numbered Cursor) (text : List ℕ) : Type 0 where
  pub pid : ℕ
  pub call : Call
  pub rest : List ℕ
  pub small : pid ≤ 4294967295
  pub numberless : is_numberless call ≡ true
  pub grammar : is_call script call ≡ true
  pub due : IsDueAt script cursors pid call
  pub is : text ≡ line_with script pid call rest

-- the line is an entry without a fault, and is counted
pub record Goes (script : Script) (text : List ℕ) (old new : Judge) : Type 0 where
  pub entry : Entry
  pub reads : entry_in script text ≡ Some entry
  pub judged : (line : ℕ) → judge_entry script line (so_far_of script old.kernel old.cursors.entries) entry
      ≡ Ok (so_far_of script new.kernel new.cursors.entries)
  pub tally : (done : List Entry) → old.tally ≡ tally_of done → new.tally ≡ tally_of (done ++ entry ∷ [])

-- nothing was done
pub record Stays (old new : Judge) : Type 0 where
  pub kernel : new.kernel ≡ old.kernel
  pub cursors : new.cursors.entries ≡ old.cursors.entries
  pub tally : new.tally ≡ old.tally

-- the line begins with the call that is due, which the kernel has carried out with this outcome, and no more
pub record HasCarried (script : Script) (text : List ℕ) (old new : Judge) : Type 0 where
  pub begun : IsBegun script old.cursors.entries text
  pub outcome : Outcome
  pub other : new.other ≡ Some outcome
  pub step : (n : ℕ) → transition old.kernel begun.pid begun.call n ≡ Some (successor new.kernel outcome)
  pub cursors : new.cursors.entries ≡ old.cursors.entries
  pub tally : new.tally ≡ old.tally

-- what comes of a line that is held beside the one that is expected
abbrev pub Tells : Told → Script → List ℕ → Judge → Judge → Type 0
Tells Judged script text old new = Goes script text old new
Tells Unread script text old new = Stays old new
Tells Differs script text old new = HasCarried script text old new

-- where the line has another outcome it begins with a call that is due
abbrev pub Begun : Told → Script → List ℕ → Judge → Type 0
Begun Differs script text j = IsBegun script j.cursors.entries text
Begun told script text j = Unit {0}

-- the line, judged by what is read of it
abbrev pub judge_text : Script → ℕ → List ℕ → Judge → Result SoFar CheckFault
judge_text script line text j =
    option_map_or (judge_entry script line (so_far_of script j.kernel j.cursors.entries)) (entry_in script text)
    (Err (NotATrace line))

-- it has no fault and is counted, or it has this fault
abbrev pub Judges : {A : Type 0} → Result A CheckFault → Script → ℕ → List ℕ → Judge → Judge → Type 0
Judges (Ok x) script line text old new = Goes script text old new
Judges (Err fault) script line text old new = GivesFault fault (judge_text script line text old)

-- the fault that was kept; want of memory says nothing
abbrev pub kept_fault : Option CheckFault → CheckFault
kept_fault None = Memory
kept_fault (Some fault) = fault

-- the same where the fault is kept
abbrev pub Keeps : Bool → Script → ℕ → List ℕ → Judge → Judge → Type 0
Keeps true script line text old new = Goes script text old new
Keeps false script line text old new = GivesFault (kept_fault new.fault) (judge_text script line text old)
