-- The verdict on a trace: legal, or the first fault in the order of its lines. On one line the causes are tried in this
-- order: it is none of a trace, another call is due by the script, the kernel does otherwise.
use Rattle.std.specs.Prelude.{◌≡◌, ℕ, zero, suc, ◌+◌, ◌-◌, Bool, true, false, not, ◌&&◌, ◌||◌, nat_eq, bytes_eq, List, [], ◌∷◌, ◌++◌, length, if◌then◌else◌, Option, Some, None, is_some, option_map, Result, Ok, Err}
use Rattle.std.specs.Option.{option_and_then, option_map_or}
use Rattle.pico_base.specs.declared.call.Call.{Call}
use Rattle.pico_base.specs.declared.call.Call.TheVariants.{Killed, Withdraw}
use Rattle.pico_base.specs.declared.reply.Reply.{Reply}
use Rattle.pico_base.specs.declared.reply.Outcome.{Outcome}
use Rattle.pico_base.specs.declared.reply.Entry.{Entry}
use Rattle.pico_base.specs.declared.script.Script.{Script}
use Rattle.pico_base.specs.declared.signal.Sig.{Sig}
use Rattle.number_maps.specs.Maps.{get}
use Rattle.kernel_model.specs.Fitting.{due, is_killed}
use Rattle.kernel_model.specs.History.{number_in}
use Rattle.kernel_model.specs.Trace.{call_text, reply_text, totals_line}
use Rattle.kernel_model.specs.Transition.{is_spent}
use Rattle.waiting_model.specs.Calls.{waits_at}
use Rattle.waiting_model.specs.Marks.{Alive, is_parked_at}
use Rattle.waiting_model.specs.Kernel.{Kernel, opening, living_at}
use Rattle.waiting_model.specs.Transition.{Successor, transition}
use Rattle.waiting_model.specs.History.{IsLegal}
use Rattle.waiting_model.specs.Fitting.{Progress, Places, FitsWhole, opening_places, places_after}
use Rattle.trace_text.specs.Grammar.{is_call, is_reply}
use Rattle.trace_text.specs.Reading.{has_ended, is_line, entry_in}
use Rattle.trace_text.specs.Read.{IsTraceOf, max_trace, next_line, fits}
use Rattle.trace_text.specs.declared.fault.CheckFault.{CheckFault}
use Rattle.trace_text.specs.declared.fault.CheckFault.TheVariants.{Memory, NotATrace, Illegal, NotTheScript}
use Rattle.trace_check.specs.declared.check.Legal.{Legal}

-- What the entries so far have led to: the kernel, and how far each process is in its block. Process 1 and those that
-- were forked have a place.
pub record SoFar : Type 0 where
  pub kernel : Kernel
  pub places : Places

abbrev pub at_opening : Script → SoFar
at_opening script = record { kernel = opening; places = opening_places script }

-- The script: which call is due.

-- the signal that ends a process which isn't parked and may have no further entry before its end
abbrev pub last_doom : Option Alive → Option Sig
last_doom None = None
last_doom (Some a) =
    if is_some a.marks.parked then None else if is_spent a.marks.allowance then a.row.signals.doom else None

abbrev pub doom_at : SoFar → ℕ → Option Sig
doom_at so_far pid = last_doom (living_at so_far.kernel pid)

-- the next call by the script, or the end by that signal in its place
abbrev pub due_by : Option Sig → Option Call → Option Call
due_by doom None = None
due_by None (Some call) = Some call
due_by (Some sig) (Some call) = Some (Killed sig)

-- the withdrawal from where this call waits
abbrev pub withdrawal : ℕ → Call → Call
withdrawal pid call = Withdraw (waits_at pid call)

-- what a process must do next: while its call waits, withdraw it; else end by this signal, or make its next call
abbrev pub due_of : ℕ → Option Sig → Progress → Option Call
due_of pid doom p = if p.parked then option_map (withdrawal pid) (due p.place) else due_by doom (due p.place)

-- none for a process that was not forked, or has ended
abbrev pub due_at : SoFar → ℕ → Option Call
due_at so_far pid = option_and_then (due_of pid (doom_at so_far pid)) (get so_far.places pid)

-- the call that is due is in the grammar of a trace, and has the text of the other
abbrev pub is_same_call : Script → Call → Call → Bool
is_same_call script call other = is_call script call && bytes_eq (call_text script call) (call_text script other)

-- The call found is the one that is due. In place of the script's call the end by any signal may stand.
abbrev pub may_stand : Script → Option Sig → Option Call → Call → Bool
may_stand script doom None found = false
may_stand script doom (Some call) found =
    is_same_call script call found || (is_killed found && not (is_some doom))

-- A withdrawal may come while the process waits, from where it waits; what is due, while it doesn't wait.
abbrev pub may_follow : Script → ℕ → Option Sig → Progress → Call → Bool
may_follow script pid doom p (Withdraw name) = p.parked && is_parked_at pid name (due p.place)
may_follow script pid doom p found = not p.parked && may_stand script doom (due_by doom (due p.place)) found

abbrev pub may_come : Script → SoFar → ℕ → Call → Bool
may_come script so_far pid found =
    option_map_or (λ p. may_follow script pid (doom_at so_far pid) p found) (get so_far.places pid) false

-- The kernel: its outcome is that of the line.

-- the kernel's reply is in the grammar of a trace, and has the text of the other
abbrev pub is_same_reply : Reply → Reply → Bool
is_same_reply reply other = is_reply reply && bytes_eq (reply_text reply) (reply_text other)

-- the caller's own replies, none where the call parks
abbrev pub is_same_own : Option Reply → Option Reply → Bool
is_same_own None None = true
is_same_own (Some reply) (Some other) = is_same_reply reply other
is_same_own own other = false

-- the same callers are woken, in the same order, and with the same replies
abbrev pub are_same_wakes : List (ℕ × Reply) → List (ℕ × Reply) → Bool
are_same_wakes [] [] = true
are_same_wakes (w ∷ ws) (v ∷ vs) = (nat_eq w.0 v.0 && is_same_reply w.1 v.1) && are_same_wakes ws vs
are_same_wakes ws vs = false

abbrev pub is_same_outcome : Outcome → Outcome → Bool
is_same_outcome outcome other =
    is_same_own outcome.own other.own && are_same_wakes outcome.woken other.woken

abbrev pub judge_outcome : ℕ → Outcome → Option Successor → Result Kernel CheckFault
judge_outcome line outcome None = Err (Illegal line None outcome)
judge_outcome line outcome (Some s) =
    if is_same_outcome s.outcome outcome then Ok s.kernel else Err (Illegal line (Some s.outcome) outcome)

-- The lines.

-- what follows where there is no fault
abbrev pub or_fault : {A B : Type 0} → Result A CheckFault → (A → Result B CheckFault) → Result B CheckFault
or_fault (Err fault) next = Err fault
or_fault (Ok x) next = next x

-- the places after an entry, whoever carried it out
abbrev pub places_with : Script → Places → ℕ → Call → Outcome → Option Progress → Places
places_with script places pid call outcome None = places
places_with script places pid call outcome (Some p) =
    places_after script places (record { pid = pid; call = call; outcome = outcome; by = 1 }) p

abbrev pub with_call : Script → SoFar → ℕ → Call → Outcome → Kernel → SoFar
with_call script so_far pid call outcome kernel =
    record {
      kernel = kernel;
      places = places_with script so_far.places pid call outcome (get so_far.places pid);
    }

-- a call with its outcome, by the script and then by the kernel
abbrev pub judge_made : Script → ℕ → SoFar → ℕ → Call → Outcome → Result SoFar CheckFault
judge_made script line so_far pid call outcome =
    if may_come script so_far pid call
    then or_fault (judge_outcome line outcome (transition so_far.kernel pid call (number_in outcome.own)))
    (λ kernel. Ok (with_call script so_far pid call outcome kernel))
    else Err (NotTheScript line (due_at so_far pid) (Some call))

abbrev pub judge_entry : Script → ℕ → SoFar → Entry → Result SoFar CheckFault
judge_entry script line so_far e = judge_made script line so_far e.pid e.call e.outcome

-- the process of the smallest number that has neither ended nor waits
abbrev pub goes_on : Progress → Bool
goes_on p = not p.parked && is_some (due p.place)

abbrev pub first_going : Places → Option ℕ
first_going [] = None
first_going (p ∷ ps) = if goes_on p.1 then Some p.0 else first_going ps

-- the totals of so many entries, where each process must have ended or wait, and no line may follow
abbrev pub judge_totals : ℕ → ℕ → SoFar → List ℕ → Option ℕ → Result Legal CheckFault
judge_totals line entries so_far after (Some pid) = Err (NotTheScript line (due_at so_far pid) None)
judge_totals line entries so_far after None =
    if has_ended after then Ok (record { entries = entries }) else Err (NotATrace (line + 1))

abbrev pub judge_line : Script → ℕ → ℕ → List Entry → SoFar → List ℕ → List ℕ
    → (Entry → SoFar → Result Legal CheckFault) → Result Legal CheckFault
judge_line script line left done so_far text after next =
    if not (fits left text) then Err (NotATrace line) else
    if is_line (totals_line done) text
    then judge_totals line (length done) so_far after (first_going so_far.places)
    else option_map_or (λ e. or_fault (judge_entry script line so_far e) (next e)) (entry_in script text)
    (Err (NotATrace line))

-- At most so many lines, from this one on, where so many bytes may still come, behind those of the entries done.
unfoldable pub judge_from : Script → ℕ → ℕ → ℕ → List Entry → SoFar → List ℕ → Result Legal CheckFault
judge_from script zero line left done so_far bytes = Err (NotATrace line)
judge_from script (suc most) line left done so_far bytes =
    option_map_or
    (λ (p : List ℕ × List ℕ). judge_line script line left done so_far p.0 p.1
    (λ e so_far. judge_from script most (line + 1) (left - (length p.0 + 1)) (done ++ e ∷ []) so_far p.1))
    (next_line bytes)
    (Err (NotATrace line))

-- the verdict on a trace whose first line has this number
abbrev pub verdict_of : Script → List ℕ → ℕ → Result Legal CheckFault
verdict_of script bytes first = judge_from script (length bytes) first max_trace [] (at_opening script) bytes

-- the fault is that of the verdict, unless memory ran out
abbrev pub GivesFault : {A : Type 0} → CheckFault → Result A CheckFault → Type 0
GivesFault Memory verdict = Unit {0}
GivesFault (NotATrace line) verdict = verdict ≡ Err (NotATrace line)
GivesFault (Illegal line kernel trace) verdict = verdict ≡ Err (Illegal line kernel trace)
GivesFault (NotTheScript line due found) verdict = verdict ≡ Err (NotTheScript line due found)

-- the answer is the verdict, unless memory ran out
abbrev pub Gives : Result Legal CheckFault → Result Legal CheckFault → Type 0
Gives (Ok legal) verdict = verdict ≡ Ok legal
Gives (Err fault) verdict = GivesFault fault verdict

-- the bytes are the text of a history, with any nodes, that is legal and fits the script whole
pub record IsLegalTrace (script : Script) (bytes : List ℕ) (history : List Entry) : Type 0 where
  pub text : IsTraceOf script bytes history
  pub legal : IsLegal history
  pub whole : FitsWhole script history

-- so many entries are those of such a history
pub record CountsLegal (script : Script) (bytes : List ℕ) (entries : ℕ) : Type 0 where
  pub history : List Entry
  pub is : IsLegalTrace script bytes history
  pub count : entries ≡ length history
