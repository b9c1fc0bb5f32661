-- Which waiters have a spelling, and what is read of them without memory.
use Rattle.std.specs.Prelude.{◌≡◌, ℕ, ◌≤◌, true, List, length}
use Rattle.std.specs.List.{AllByRecursion}
use Rattle.std.specs.Option.{option_map}
use Rattle.pico_base.specs.declared.call.Call.{Call}
use Rattle.frame_bytes.specs.Fields.{IsNode, IsWord}
use Rattle.frame_bytes.specs.Limits.{is_nonzero}
use Rattle.frame_bytes.specs.Ranges.{HasAskedRanges}
use Rattle.frame_bytes.specs.Readers.{Reader, two}
use Rattle.waiting_model.specs.declared.callers.Waiting.{Waiting}
use Rattle.waiter_fields.specs.Waiters.{asked_of, are_different, head_at, max_waiters, processes_of, waiters_at}

-- one who waits in a call of these
pub record IsWaiter (IsCall : Call → Type 0) (w : Waiting) : Type 0 where
  pub caller : IsNode w.caller
  pub ticket : IsWord w.ticket
  pub positive : is_nonzero w.ticket ≡ true
  pub pid : IsWord w.pid
  pub call : IsCall w.call

-- those who wait at one queue or set
pub record AreWaiters (IsCall : Call → Type 0) (ws : List Waiting) : Type 0 where
  pub few : length ws ≤ max_waiters
  pub different : are_different (processes_of ws) ≡ true
  pub each : AllByRecursion (IsWaiter IsCall) ws

-- a waiter's process alone
unfoldable pub process_at : Reader Call → Reader ℕ
process_at call_at bytes = two head_at call_at (λ head call. head.2) bytes

-- how many wait
abbrev pub count_of_waiters : Reader Call → Reader ℕ
count_of_waiters call_at bytes = option_map (λ x. (length x.0, x.1)) (waiters_at call_at bytes)

-- the numbers of a waiter are in the ranges of their types
abbrev pub HasWaiterRanges : Waiting → Type 0
HasWaiterRanges w = HasAskedRanges (asked_of w)
