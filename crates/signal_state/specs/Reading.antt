-- What the bytes of a signal state say, field by field. Bytes that no state has may say anything here.
use Rattle.std.specs.Prelude.{ℕ, ◌+◌, ◌/◌, ◌%◌, ◌==◌, false, if◌then◌else◌, Bool, List, [], ◌∷◌, Option, slice_index}
use Rattle.std.specs.Int.{w16, w32, from_be_bytes}
use Rattle.pico_base.specs.declared.signal.Act.{Act}
use Rattle.pico_base.specs.declared.signal.Act.TheVariants.{Dfl, Ign, Catch}
use Rattle.pico_base.specs.declared.signal.PerSignal.{PerSignal}
use Rattle.pico_base.specs.declared.signal.Sig.{Sig}
use Rattle.pico_base.specs.Signal.{everywhere, put_at, all_signals, signal_from}

abbrev pub act_from : ℕ → Act
act_from byte = if byte == 1 then Ign else if byte == 2 then Catch else Dfl

-- the doom of a byte: the signal with that number
abbrev pub doom_from : ℕ → Option Sig
doom_from byte = signal_from byte

-- these signals take the low bits of the number, in order
abbrev pub set_from : ℕ → List Sig → PerSignal Bool → PerSignal Bool
set_from number [] m = m
set_from number (g ∷ gs) m = set_from (number / 2) gs (put_at m g (number % 2 == 1))

abbrev pub set_at : List ℕ → ℕ → PerSignal Bool
set_at bytes place = set_from
    (from_be_bytes w16 (slice_index bytes place ∷ slice_index bytes (place + 1) ∷ [])) all_signals (everywhere false)

abbrev pub count_at : List ℕ → ℕ → ℕ
count_at bytes place =
    from_be_bytes w32 (slice_index bytes place ∷ slice_index bytes (place + 1) ∷ slice_index bytes (place + 2)
    ∷ slice_index bytes (place + 3) ∷ [])

abbrev pub actions_from : List ℕ → PerSignal Act
actions_from bytes =
    record {
      hup = act_from (slice_index bytes 0);
      int = act_from (slice_index bytes 1);
      quit = act_from (slice_index bytes 2);
      kill = act_from (slice_index bytes 3);
      usr1 = act_from (slice_index bytes 4);
      usr2 = act_from (slice_index bytes 5);
      pipe = act_from (slice_index bytes 6);
      alrm = act_from (slice_index bytes 7);
      term = act_from (slice_index bytes 8);
      chld = act_from (slice_index bytes 9);
    }

abbrev pub counts_from : List ℕ → PerSignal ℕ
counts_from bytes =
    record {
      hup = count_at bytes 14;
      int = count_at bytes 18;
      quit = count_at bytes 22;
      kill = count_at bytes 26;
      usr1 = count_at bytes 30;
      usr2 = count_at bytes 34;
      pipe = count_at bytes 38;
      alrm = count_at bytes 42;
      term = count_at bytes 46;
      chld = count_at bytes 50;
    }
