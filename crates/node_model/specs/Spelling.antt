-- A deed's body as bytes, and back (profile): a code for its kind, and its fields. Those who wait travel with their
-- queue or set, as its last field.
use Rattle.std.specs.Prelude.{ℕ, Bool, true, false, not, ◌&&◌, ◌==◌, List, [], ◌∷◌, ◌++◌, length, take, drop, slice_index, nat_le, nat_eq, if◌then◌else◌, Option, Some, None, bytes_eq}
use Rattle.std.specs.List.{list_all, list_any}
use Rattle.std.specs.Option.{option_map, option_and_then}
use Rattle.pico_base.specs.declared.numbers.Name.{Name}
use Rattle.pico_base.specs.declared.numbers.Name.TheVariants.{Proc, Msg, Sem}
use Rattle.pico_base.specs.declared.reply.Ending.{Ending}
use Rattle.pico_base.specs.declared.signal.Act.{Act}
use Rattle.pico_base.specs.declared.signal.Act.TheVariants.{Dfl, Ign, Catch}
use Rattle.rpc_frame.specs.declared.deed.PackedDeed.{PackedDeed}
use Rattle.kernel_model.specs.Signals.{Signals}
use Rattle.pico_base.specs.Signal.{all_signals}
use Rattle.kernel_model.specs.Row.{Row, Family}
use Rattle.signal_state.specs.Held.{is_kept}
use Rattle.signal_state.specs.Spelling.{signal_bytes}
use Rattle.signal_state.specs.Reading.{actions_from, set_at as signals_at, counts_from, doom_from}
use Rattle.fork_wait.specs.Children.{children, are_different}
use Rattle.fork_wait.specs.Spelling.{family_bytes, ending_bytes}
use Rattle.fork_wait.specs.Reading.{max_children, family_at, ending_from}
use Rattle.sysv_msg.specs.Body.{body as queue_bytes}
use Rattle.sysv_msg.specs.Reading.{queue_at}
use Rattle.sysv_sem.specs.Body.{body as set_bytes}
use Rattle.sysv_sem.specs.Reading.{set_at}
use Rattle.node_model.specs.Bodies.{Body, Living, Ended, Gone, AQueue, ASet, Removed}

-- ---- spelling

unfoldable pub row_bytes : Row → List ℕ
row_bytes row = signal_bytes row.signals ++ family_bytes row.family

unfoldable pub body_bytes : Body → List ℕ
body_bytes (Living row) = 1 ∷ row_bytes row
body_bytes (Ended ending) = 2 ∷ ending_bytes ending
body_bytes Gone = 3 ∷ []
body_bytes (AQueue queue) = queue_bytes queue
body_bytes (ASet set) = set_bytes set
body_bytes Removed = 6 ∷ []

-- the deed of a name on its way
abbrev pub pack : Name → Body → PackedDeed
pack name body = record { name = name; body = body_bytes body }

-- ---- reading: what bytes that are no body's come to is none

-- how many bytes the signals have
abbrev pub signals_size : ℕ
signals_size = 55

abbrev pub signals_from : List ℕ → Signals
signals_from bytes =
    record {
      actions = actions_from bytes;
      mask = signals_at bytes 10;
      pending = signals_at bytes 12;
      handled = counts_from bytes;
      doom = doom_from (slice_index bytes 54);
    }

abbrev pub is_default : Act → Bool
is_default Dfl = true
is_default Ign = false
is_default Catch = false

-- KILL has its default action and is in no set, and no pending signal has an action that discards it
abbrev pub are_signals : Signals → Bool
are_signals s =
    is_default s.actions.kill
    && (not s.mask.kill && (not s.pending.kill && list_all (is_kept s.actions s.pending) all_signals))

abbrev pub signals_if : List ℕ → Signals → Option Signals
signals_if bytes s = if bytes_eq (signal_bytes s) bytes && are_signals s then Some s else None

unfoldable pub read_signals : List ℕ → Option Signals
read_signals bytes = signals_if bytes (signals_from bytes)

-- at most 31 children, each with a number of its own, and none of them 0
abbrev pub are_children : List ℕ → Bool
are_children numbers =
    nat_le (length numbers) max_children && (not (list_any (nat_eq 0) numbers) && are_different numbers)

abbrev pub family_if : Family → Option Family
family_if f = if are_children (children f) then Some f else None

unfoldable pub read_family : List ℕ → Option Family
read_family bytes = option_and_then family_if (family_at bytes)

abbrev pub row_with : Signals → Family → Row
row_with signals family = record { signals = signals; family = family }

unfoldable pub read_row : List ℕ → Option Row
read_row bytes =
    option_and_then (λ signals. option_map (row_with signals) (read_family (drop signals_size bytes)))
    (read_signals (take signals_size bytes))

abbrev pub read_ending : List ℕ → Option Ending
read_ending (kind ∷ value ∷ []) = ending_from kind value
read_ending _ = None

-- a body that is its code alone
abbrev pub alone : Body → List ℕ → Option Body
alone body [] = Some body
alone body _ = None

unfoldable pub read_process : ℕ → List ℕ → Option Body
read_process code bytes =
    if code == 1 then option_map Living (read_row bytes)
    else if code == 2 then option_map Ended (read_ending bytes)
    else if code == 3 then alone Gone bytes
    else None

unfoldable pub read_queue : ℕ → List ℕ → Option Body
read_queue code bytes = if code == 6 then alone Removed bytes else option_map AQueue (queue_at (code ∷ bytes))

unfoldable pub read_set : ℕ → List ℕ → Option Body
read_set code bytes = if code == 6 then alone Removed bytes else option_map ASet (set_at (code ∷ bytes))

-- the body of these bytes, of a kind that goes with the name
unfoldable pub read_body : Name → List ℕ → Option Body
read_body name [] = None
read_body (Proc pid) (code ∷ bytes) = read_process code bytes
read_body (Msg id) (code ∷ bytes) = read_queue code bytes
read_body (Sem id) (code ∷ bytes) = read_set code bytes

unfoldable pub read_deed : PackedDeed → Option Body
read_deed deed = read_body deed.name deed.body
