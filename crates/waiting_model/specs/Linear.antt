-- A history with callers that wait, in line: each call stands where it has its reply, and nobody waits or is woken. So
-- it is a history of the kernel in which nobody waits, but for a few replies that this doesn't know of.
use Rattle.std.specs.Prelude.{◌≡◌, ℕ, Bool, true, false, List, [], ◌∷◌, ◌++◌, map, Option, Some, None}
use Rattle.pico_base.specs.declared.call.Call.{Call}
use Rattle.pico_base.specs.declared.call.Call.TheVariants as calls
use Rattle.pico_base.specs.declared.call.SemStep.{SemStep}
use Rattle.pico_base.specs.declared.reply.Entry.{Entry}
use Rattle.pico_base.specs.declared.reply.Errno.{Errno}
use Rattle.pico_base.specs.declared.reply.Errno.TheVariants.{Eintr, Eidrm}
use Rattle.pico_base.specs.declared.reply.Reply.{Reply}
use Rattle.pico_base.specs.declared.reply.Reply.TheVariants as replies
use Rattle.number_maps.specs.Maps.{Numbered, get, put, without}
use Rattle.kernel_model.specs.Effect.{reply_alone}
use Rattle.kernel_model.specs.History.{number_in}
use Rattle.kernel_model.specs.Kernel.{Kernel}
use Rattle.kernel_model.specs.Transition.{successor, transition}
use Rattle.waiting_model.specs.Calls.{may_park}

-- ---- the entries in line

abbrev pub line_of : ℕ → ℕ → Call → Reply → Entry
line_of node pid call reply = record { pid = pid; call = call; outcome = reply_alone reply; by = node }

-- the calls that wait, by process
abbrev pub Parked : Type 0
Parked = Numbered Call

-- so far: the entries in line, and the calls that wait
pub record Lined : Type 0 where
  pub lines : List Entry
  pub parked : Parked

-- A call that waits has its reply by this entry. One that isn't known to wait gives nothing.
abbrev pub line_up : ℕ → ℕ → Reply → Lined → Option Call → Lined
line_up node pid reply l None = l
line_up node pid reply l (Some call) =
    record { lines = l.lines ++ line_of node pid call reply ∷ []; parked = without l.parked pid }

abbrev pub ends_wait : ℕ → Lined → ℕ × Reply → Lined
ends_wait node l w = line_up node w.0 w.1 l (get l.parked w.0)

-- those who are woken, in order
abbrev pub all_end_wait : ℕ → Lined → List (ℕ × Reply) → Lined
all_end_wait node l [] = l
all_end_wait node l (w ∷ woken) = all_end_wait node (ends_wait node l w) woken

-- a call that parks stands nowhere as yet, and one that has its reply stands here
abbrev pub own_line : Entry → Lined → Option Reply → Lined
own_line e l None = record l { parked = put l.parked e.pid e.call }
own_line e l (Some reply) = record l { lines = l.lines ++ line_of e.by e.pid e.call reply ∷ [] }

-- a withdrawal stands for the call whose wait it ends
abbrev pub withdrawn_line : Entry → Lined → Option Reply → Lined
withdrawn_line e l None = l
withdrawn_line e l (Some reply) = ends_wait e.by l (e.pid, reply)

abbrev pub line_by : Entry → Lined → Call → Lined
line_by e l (calls.Withdraw name) = withdrawn_line e l e.outcome.own
line_by e l call = all_end_wait e.by (own_line e l e.outcome.own) e.outcome.woken

abbrev pub line_entry : Lined → Entry → Lined
line_entry l e = line_by e l e.call

abbrev pub line_all : Lined → List Entry → Lined
line_all l [] = l
line_all l (e ∷ es) = line_all (line_entry l e) es

abbrev pub no_lines : Lined
no_lines = record { lines = []; parked = [] }

abbrev pub in_line : List Entry → List Entry
in_line history =
    let l : Lined = line_all no_lines history
    in l.lines

-- ---- what each comes to, where nobody waits

-- a call as it is made where it needn't wait: with IPC_NOWAIT, or with WNOHANG
abbrev pub step_at_once : SemStep → SemStep
step_at_once step = record step { nowait = true }

abbrev pub at_once : Call → Call
at_once (calls.WaitPid child nohang) = calls.WaitPid child true
at_once (calls.MsgSnd id class text nowait) = calls.MsgSnd id class text true
at_once (calls.MsgRcv id class size noerror nowait) = calls.MsgRcv id class size noerror true
at_once (calls.SemOp id steps) = calls.SemOp id (map step_at_once steps)
at_once call = call

-- a count of those who wait
abbrev pub counts_waiters : Call → Bool
counts_waiters (calls.SemGetNcnt id num) = true
counts_waiters (calls.SemGetZcnt id num) = true
counts_waiters call = false

-- a wait that is broken off: a signal interrupts it, or what it waits at is removed
abbrev pub is_broken_off : Errno → Bool
is_broken_off Eintr = true
is_broken_off Eidrm = true
is_broken_off e = false

-- The entry does what its call does at once, with the same reply. Or it counts those who wait, of whom the kernel in
-- which nobody waits knows none. Or a wait is broken off, and nothing is done.
pub data LeadsTo (k : Kernel) (e : Entry) (next : Kernel) : Type 0 where
  Does : transition k e.pid (at_once e.call) (number_in e.outcome.own) ≡ Some (successor next e.outcome)
      → LeadsTo k e next
  Counts : (n : ℕ) → counts_waiters e.call ≡ true → e.outcome ≡ reply_alone (replies.Num n)
      → transition k e.pid e.call 0 ≡ Some (successor next (reply_alone (replies.Num 0))) → LeadsTo k e next
  BreaksOff : (error : Errno) → may_park e.call ≡ true → is_broken_off error ≡ true
      → e.outcome ≡ reply_alone (replies.Fail error) → next ≡ k → LeadsTo k e next

-- entry by entry, from a kernel to the last one
pub record LeadsOn (k : Kernel) (e : Entry) (Rest : Kernel → Type 0) : Type 0 where
  pub next : Kernel
  pub leads : LeadsTo k e next
  pub rest : Rest next

abbrev pub LeadInLine : Kernel → List Entry → Kernel → Type 0
LeadInLine k [] last = k ≡ last
LeadInLine k (e ∷ es) last = LeadsOn k e (λ next. LeadInLine next es last)
