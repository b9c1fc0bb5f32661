-- What is served on a body, as a node that holds its deed writes it down: in line it is what each call does on the
-- name's part where nobody waits, the caller's own and then those of the woken.
use Rattle.std.specs.Prelude.{◌≡◌, ◌≢◌, ℕ, Bool, true, false, nat_eq, List, [], ◌∷◌, ◌++◌, Option, Some, None, Contains}
use Rattle.std.specs.List.{flat_map, list_any}
use Rattle.pico_base.specs.declared.call.Call.{Call}
use Rattle.pico_base.specs.declared.numbers.Name.{Name}
use Rattle.pico_base.specs.declared.numbers.Name.TheVariants.{Proc}
use Rattle.pico_base.specs.declared.reply.Ending.{Ending}
use Rattle.pico_base.specs.declared.reply.Errno.TheVariants.{Eidrm}
use Rattle.pico_base.specs.declared.reply.Reply.{Reply}
use Rattle.pico_base.specs.declared.reply.Reply.TheVariants.{Child, Fail, Num}
use Rattle.kernel_model.specs.Row.{Row, ended_child}
use Rattle.waiting_model.specs.declared.callers.Waiting.{Waiting}
use Rattle.waiting_model.specs.declared.callers.Wake.{Wake}
use Rattle.waiting_model.specs.Calls.{may_park}
use Rattle.waiting_model.specs.Linear.{at_once, counts_waiters}
use Rattle.waiting_model.specs.Marks.{Alive, Marks}
use Rattle.waiting_model.specs.Kernel.{Kernel, with_alive}
use Rattle.node_model.specs.Awaiting.{Applied, on_whole}
use Rattle.node_model.specs.Bodies.{Body, Living, Gone, bare, fits_name, waiters_of, whole_in}
use Rattle.node_model.specs.Carrying.{Done, done, is_own, on_body}
use Rattle.node_model.specs.Serving.{Served, name_for, serve_on}

-- ---- the call on the body

-- the child that `waitpid` found is gone
abbrev pub found_gone : Option Reply → List (Name × Body)
found_gone (Some (Child child ending)) = (Proc child, Gone) ∷ []
found_gone own = []

-- a process that makes a call of its own lives, and isn't its own child
pub record MakesOwn (caller : ℕ) (body : Body) : Type 0 where
  pub row : Row
  pub lives : body ≡ Living row
  pub apart : (child : ℕ) (ending : Ending) → Contains row.family.ended (ended_child child ending) → caller ≢ child

-- the bodies that are other ones, the reply, and those who are woken
pub record IsServedAs (name : Name) (d : Applied Body) (s : Served) : Type 0 where
  pub changes : s.changes ≡ (name, d.left) ∷ found_gone d.own
  pub own : s.own ≡ d.own
  pub wakes : s.wakes ≡ d.wakes

-- The definition of a served call, by a kernel that has the name alone, is what the call does on the name's body.
abbrev pub ServedIsOnWhole : Type 0
ServedIsOnWhole =
    (name : Name) (body : Body) (who : Waiting) (s : Served) → name_for who.pid who.call ≡ Some name
    → fits_name name body ≡ true → (is_own who.pid who.call ≡ true → MakesOwn who.pid body)
    → serve_on name body who ≡ Some s → IsServedAs name (on_whole name body who) s

-- ---- in line

-- a process's call that has this reply
pub record Line : Type 0 where
  pub pid : ℕ
  pub call : Call
  pub reply : Reply

abbrev pub line : ℕ → Call → Reply → Line
line pid call reply = record { pid = pid; call = call; reply = reply }

abbrev pub own_line : Waiting → Option Reply → List Line
own_line who None = []
own_line who (Some reply) = line who.pid who.call reply ∷ []

abbrev pub line_if : Bool → Waiting → Wake → List Line → List Line
line_if true v w rest = line v.pid v.call w.reply ∷ []
line_if false v w rest = rest

-- who is woken waited in this call
abbrev pub woken_lines : List Waiting → Wake → List Line
woken_lines [] w = []
woken_lines (v ∷ waiters) w = line_if (nat_eq v.pid w.pid) v w (woken_lines waiters w)

abbrev pub lines_of : Body → Waiting → Applied Body → List Line
lines_of body who d = own_line who d.own ++ flat_map (woken_lines (waiters_of body)) d.wakes

-- What one line does to the name's part: what its call does at once; or it counts those who wait, of whom there are
-- none in the part; or its wait is broken off by a removal.
pub data DoesLine (name : Name) (before : Body) (l : Line) (after : Body) : Type 0 where
  Does : (d : Done Body) → on_body name before l.pid (at_once l.call) ≡ d → d.left ≡ after → d.reply ≡ l.reply
      → DoesLine name before l after
  Counts : (n : ℕ) → counts_waiters l.call ≡ true → l.reply ≡ Num n
      → on_body name before l.pid l.call ≡ done after (Num 0) → DoesLine name before l after
  BreaksOff : may_park l.call ≡ true → l.reply ≡ Fail Eidrm → after ≡ before → DoesLine name before l after

abbrev pub DoLines : Name → Body → List Line → Body → Type 0
DoLines name body [] after = body ≡ after
DoLines name body (l ∷ ls) after = (next : Body) × DoesLine name body l next × DoLines name next ls after

-- those who wait at a name: each with a call on it that may have to wait, and nobody twice
abbrev pub WaitAt : Name → List Waiting → Type 0
WaitAt name [] = Unit {0}
WaitAt name (w ∷ waiters) =
    (may_park w.call ≡ true) × (name_for w.pid w.call ≡ Some name)
    × (list_any (λ v. nat_eq w.pid v.pid) waiters ≡ false) × WaitAt name waiters

-- A call on a body, with all whom it wakes, is so many calls in turn where nobody waits.
abbrev pub ServingIsInLine : Type 0
ServingIsInLine =
    (name : Name) (body : Body) (who : Waiting) → fits_name name body ≡ true → WaitAt name (waiters_of body)
    → DoLines name (bare body) (lines_of body who (on_whole name body who)) (bare (on_whole name body who).left)

-- A process's marks are no part of any name's body.
abbrev pub BodiesCarryNoMarks : Type 0
BodiesCarryNoMarks =
    (k : Kernel) (pid : ℕ) (alive : Alive) (a b : Marks) (name : Name)
    → whole_in (with_alive k pid (record alive { marks = a })) name
    ≡ whole_in (with_alive k pid (record alive { marks = b })) name
