-- A living process: its row, and the marks beside it (POSIX.1-2017: fork, wait; System Interfaces 2.4).
use Rattle.std.specs.Prelude.{ℕ, Bool, false, not, ◌&&◌, ◌||◌, Option, Some, None, is_some}
use Rattle.pico_base.specs.declared.call.Call.{Call}
use Rattle.pico_base.specs.declared.call.Call.TheVariants as calls
use Rattle.pico_base.specs.declared.numbers.Name.{Name}
use Rattle.pico_base.specs.declared.signal.Sig.{Sig}
use Rattle.pico_base.specs.Signal.{at}
use Rattle.kernel_model.specs.Signals.{Signals, is_kill, discards}
use Rattle.kernel_model.specs.Row.{Row, Family, Allowance, Free, Spent, new_row}
use Rattle.kernel_model.specs.Row as plain
use Rattle.waiting_model.specs.Calls.{waits_at, is_same_name}

-- What a process may still do, the call of its that waits, and whether a signal has struck it since its last reply: one
-- that has may withdraw the call that waits.
pub record Marks : Type 0 where
  pub allowance : Allowance
  pub parked : Option Call
  pub struck : Bool

pub record Alive : Type 0 where
  pub row : Row
  pub marks : Marks

-- free to act, not parked, and not struck
abbrev pub new_marks : Marks
new_marks = record { allowance = Free; parked = None; struck = false }

abbrev pub new_alive : Alive
new_alive = record { row = new_row; marks = new_marks }

-- with other signals, and with another family
abbrev pub with_signals_of : Alive → Signals → Alive
with_signals_of a signals = record a { row = record { signals = signals; family = a.row.family } }

abbrev pub with_family : Alive → Family → Alive
with_family a family = record a { row = record { signals = a.row.signals; family = family } }

-- a process as it is where nobody waits, and with the row and the allowance of such a one
abbrev pub plain_alive : Alive → plain.Alive
plain_alive a = record { row = a.row; allowance = a.marks.allowance }

abbrev pub with_plain : Alive → plain.Alive → Alive
with_plain a p = record { row = p.row; marks = record a.marks { allowance = p.allowance } }

-- Replies. A reply to the process, by its own entry or by a wake, ends its wait and makes it unstruck.
abbrev pub marks_after_reply : Marks → Marks
marks_after_reply m = record m { parked = None; struck = false }

abbrev pub after_reply : Alive → Alive
after_reply a = record a { marks = marks_after_reply a.marks }

-- a doomed process that lives on after an entry of its own has nothing left but its ending
abbrev pub spent : Alive → Alive
spent a = record a { marks = record a.marks { allowance = Spent } }

-- Signals. A signal strikes that isn't discarded and isn't held off by the mask, whether the process catches it or ends
-- by it; a doomed process takes no notice.
abbrev pub strikes : Signals → Sig → Bool
strikes s g =
    not (is_some s.doom) && (is_kill g || (not (discards (at s.actions g) g) && not (at s.mask g)))

-- A signal is raised by another's entry. One that the process raises at itself leaves no mark: its own call has its
-- reply in the same entry.
abbrev pub struck_if : Bool → Alive → Alive
struck_if now a = record a { marks = record a.marks { struck = a.marks.struck || now } }

abbrev pub raise_by_other : Alive → Sig → Alive
raise_by_other a g =
    struck_if (strikes a.row.signals g) (with_plain a (plain.raise_by_other (plain_alive a) g))

-- Waiting for children: the children that a parked waitpid waits for, and what it finds
abbrev pub awaited_children : Option Call → Option (Option ℕ)
awaited_children (Some (calls.WaitPid child nohang)) = Some child
awaited_children parked = None

-- the process waits at this name, in the call that is marked
abbrev pub is_parked_at : ℕ → Name → Option Call → Bool
is_parked_at pid name None = false
is_parked_at pid name (Some call) = is_same_name name (waits_at pid call)
