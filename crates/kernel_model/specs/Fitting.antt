-- A history fits a script: each process makes the calls of its block, in order and each once.
use Rattle.std.specs.Prelude.{◌≡◌, ◌⊎◌, ℕ, ◌+◌, ◌-◌, Bool, true, false, ◌&&◌, nat_lt, List, [], ◌∷◌, if◌then◌else◌, Option, Some, None, slice_get}
use Rattle.std.specs.List.{AllByRecursion}
use Rattle.pico_base.specs.declared.call.Call.{Call}
use Rattle.pico_base.specs.declared.call.Call.TheVariants as calls
use Rattle.pico_base.specs.declared.reply.Reply.{Reply}
use Rattle.pico_base.specs.declared.reply.Reply.TheVariants as replies
use Rattle.pico_base.specs.declared.reply.Errno.{Errno}
use Rattle.pico_base.specs.declared.reply.Errno.TheVariants.{Enoent, Enomsg, Eagain}
use Rattle.pico_base.specs.declared.reply.Entry.{Entry}
use Rattle.pico_base.specs.declared.reply.Outcome.{Outcome}
use Rattle.pico_base.specs.declared.script.Line.{Line}
use Rattle.pico_base.specs.declared.script.Block.{Block}
use Rattle.pico_base.specs.declared.script.Script.{Script}
use Rattle.number_maps.specs.Maps.{Numbered, get, put}
use Rattle.kernel_model.specs.Effect.{reply_alone}
use Rattle.kernel_model.specs.Script.{Vars, call_of}
pub use Rattle.kernel_model.specs.Script.{implied_exit, is_exit, with_exit}

-- where a process is in its block: the lines left, how often the first was tried, and its variables
pub record Place : Type 0 where
  pub left : List Line
  pub tried : ℕ
  pub vars : Vars

-- the call due: that of the first line left. After exit there is none
abbrev pub call_due : Place → List Line → Option Call
call_due place [] = None
call_due place (line ∷ lines) = Some (call_of line place.vars)

abbrev pub due : Place → Option Call
due place = call_due place place.left

-- errors after which a line that may try again does
abbrev pub is_tried_again : Errno → Bool
is_tried_again Enomsg = true
is_tried_again Eagain = true
is_tried_again Enoent = true
is_tried_again _ = false

abbrev pub is_waitpid : Call → Bool
is_waitpid (calls.WaitPid child nohang) = true
is_waitpid _ = false

abbrev pub is_zero : ℕ → Bool
is_zero n = nat_lt n 1

abbrev pub asks_again : Call → Option Reply → Bool
asks_again call (Some (replies.Fail e)) = is_tried_again e
asks_again call (Some (replies.Num n)) = is_waitpid call && is_zero n
asks_again call _ = false

-- the value that a reply gives a variable
abbrev pub value_in : Option Reply → ℕ
value_in (Some (replies.Num n)) = n
value_in (Some (replies.Child pid ending)) = pid
value_in _ = 0

abbrev pub set_variable : Vars → Option ℕ → ℕ → Vars
set_variable vars None n = vars
set_variable vars (Some v) n = put vars v n

-- after this reply the call is made once more, by a line that was tried so often before, and is at most so often
abbrev pub is_due_again : Call → Reply → ℕ → ℕ → Bool
is_due_again call reply tried tries = asks_again call (Some reply) && nat_lt (tried + 1) tries

-- the variables behind a line, with the one that it sets
abbrev pub vars_after : Vars → Option ℕ → Reply → Vars
vars_after vars set reply = set_variable vars set (value_in (Some reply))

-- the place after a reply: the same line once more, or the next one with the variable set
abbrev pub after_reply : Place → Call → Reply → List Line → Place
after_reply place call reply [] = place
after_reply place call reply (line ∷ lines) =
    if is_due_again call reply place.tried line.tries
    then record place { tried = place.tried + 1 }
    else record { left = lines; tried = 0; vars = vars_after place.vars line.set reply }

-- a call without a reply is still under way at its line
abbrev pub after_line : Place → Call → Option Reply → List Line → Place
after_line place call None lines = place
after_line place call (Some reply) lines = after_reply place call reply lines

abbrev pub place_after : Place → Call → Option Reply → Place
place_after place call reply = after_line place call reply place.left

-- a process that a signal ended has nothing more to do
abbrev pub is_killed : Call → Bool
is_killed (calls.Killed sig) = true
is_killed _ = false

abbrev pub move_on : Place → Call → Option Reply → Place
move_on place call reply = if is_killed call then record place { left = [] } else place_after place call reply

-- the call due, or the end by a signal in its place
abbrev pub IsDue : Place → Call → Type 0
IsDue place call = (due place ≡ Some call) ⊎ ((is_killed call ≡ true) × (other : Call) × (due place ≡ Some other))

-- where a process begins: at the first line of its block
abbrev pub block_place : Option Block → Vars → Place
block_place None vars = record { left = []; tried = 0; vars = vars }
block_place (Some block) vars = record { left = with_exit block.lines; tried = 0; vars = vars }

-- block k, counted from 1
abbrev pub block_at : Script → ℕ → Option Block
block_at script k = slice_get script.blocks (k - 1)

-- the place of each process by its number; process 1 begins at block 1, with no variable set
abbrev pub Places : Type 0
Places = Numbered Place

abbrev pub opening_places : Script → Places
opening_places script = (1, block_place (block_at script 1) []) ∷ []

-- a forked process begins with the variables that its parent had before the line, the one that it sets at 0
abbrev pub child_vars_at : Vars → List Line → Vars
child_vars_at vars [] = vars
child_vars_at vars (line ∷ lines) = set_variable vars line.set 0

abbrev pub child_vars : Place → Vars
child_vars place = child_vars_at place.vars place.left

abbrev pub places_after_fork : Script → Places → Place → Call → Option Reply → Places
places_after_fork script places parent (calls.Fork block) (Some (replies.Num child)) =
    put places child (block_place (block_at script block) (child_vars parent))
places_after_fork script places parent call reply = places

-- the places after an entry, which wakes nobody, of a process that was at this place
abbrev pub places_after : Script → Places → Entry → Place → Places
places_after script places e place =
    places_after_fork script (put places e.pid (move_on place e.call e.outcome.own)) place e.call e.outcome.own

-- it has its reply, and wakes nobody. No other entry fits a script: what a process does while it waits isn't said here
pub record HasReplyAlone (outcome : Outcome) : Type 0 where
  pub reply : Reply
  pub alone : outcome ≡ reply_alone reply

-- an entry is of a process that was forked, or of process 1, and makes the call that is due; the rest goes on from
-- there
pub record FitsEntry (script : Script) (places : Places) (e : Entry) (Rest : Places → Type 0) : Type 0 where
  pub place : Place
  pub there : get places e.pid ≡ Some place
  pub due : IsDue place e.call
  pub replied : HasReplyAlone e.outcome
  pub rest : Rest (places_after script places e place)

-- entry by entry, from these places to the last ones
abbrev pub FitsFrom : Script → Places → List Entry → Places → Type 0
FitsFrom script places [] last = places ≡ last
FitsFrom script places (e ∷ es) last = FitsEntry script places e (λ next. FitsFrom script next es last)

pub record Fits (script : Script) (history : List Entry) : Type 0 where
  pub last : Places
  pub fits : FitsFrom script (opening_places script) history last

-- nothing is due any more at a place
abbrev pub IsOver : ℕ × Place → Type 0
IsOver p = p.1.left ≡ []

-- the history fits to its end: each process that was forked, and process 1, has ended
pub record FitsWhole (script : Script) (history : List Entry) : Type 0 where
  pub last : Places
  pub fits : FitsFrom script (opening_places script) history last
  pub over : AllByRecursion IsOver last
