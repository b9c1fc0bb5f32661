-- A value for each of the ten signals.
use Rattle.std.specs.Prelude.{◌≡◌, refl, ℕ, List, [], ◌∷◌, find, Option, Some, None, ◌==◌}
use Rattle.pico_base.specs.declared.signal.Sig.{Sig}
use Rattle.pico_base.specs.declared.signal.Sig.TheVariants.{Hup, Int, Quit, Kill, Usr1, Usr2, Pipe, Alrm, Term, Chld}
use Rattle.pico_base.specs.declared.signal.PerSignal.{PerSignal}

-- the same value for each signal
abbrev pub everywhere : {A : Type 0} → A → PerSignal A
everywhere x =
    record {
      hup = x;
      int = x;
      quit = x;
      kill = x;
      usr1 = x;
      usr2 = x;
      pipe = x;
      alrm = x;
      term = x;
      chld = x;
    }

-- the value for a signal
abbrev pub at : {A : Type 0} → PerSignal A → Sig → A
at m Hup = m.hup
at m Int = m.int
at m Quit = m.quit
at m Kill = m.kill
at m Usr1 = m.usr1
at m Usr2 = m.usr2
at m Pipe = m.pipe
at m Alrm = m.alrm
at m Term = m.term
at m Chld = m.chld

-- another value for a signal, and the same for the others
abbrev pub put_at : {A : Type 0} → PerSignal A → Sig → A → PerSignal A
put_at m Hup x = record m { hup = x }
put_at m Int x = record m { int = x }
put_at m Quit x = record m { quit = x }
put_at m Kill x = record m { kill = x }
put_at m Usr1 x = record m { usr1 = x }
put_at m Usr2 x = record m { usr2 = x }
put_at m Pipe x = record m { pipe = x }
put_at m Alrm x = record m { alrm = x }
put_at m Term x = record m { term = x }
put_at m Chld x = record m { chld = x }

-- the table of signals, in order (profile)
abbrev pub all_signals : List Sig
all_signals = Hup ∷ Int ∷ Quit ∷ Kill ∷ Usr1 ∷ Usr2 ∷ Pipe ∷ Alrm ∷ Term ∷ Chld ∷ []

-- a signal's number, its place in the table from 1
abbrev pub signal_number : Sig → ℕ
signal_number Hup = 1
signal_number Int = 2
signal_number Quit = 3
signal_number Kill = 4
signal_number Usr1 = 5
signal_number Usr2 = 6
signal_number Pipe = 7
signal_number Alrm = 8
signal_number Term = 9
signal_number Chld = 10

-- the signal with a number, where one has it
abbrev pub signal_from : ℕ → Option Sig
signal_from number = find (λ g. signal_number g == number) all_signals

pub nine_is_term : signal_from 9 ≡ Some Term
nine_is_term = refl

pub zero_is_no_signal : signal_from 0 ≡ None
zero_is_no_signal = refl

pub eleven_is_no_signal : signal_from 11 ≡ None
eleven_is_no_signal = refl
