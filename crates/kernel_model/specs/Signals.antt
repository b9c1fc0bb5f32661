-- What a process knows of signals (POSIX.1-2017: System Interfaces 2.4; sigaction, sigprocmask, sigpending, kill). The
-- ten signals, their numbers and their order are the profile's.
use Rattle.std.specs.Prelude.{◌≡◌, ℕ, ◌+◌, min, Bool, true, false, not, ◌||◌, ◌&&◌, if◌then◌else◌, Option, Some, None, is_some, fold, Result, Ok, Err}
use Rattle.pico_base.specs.declared.signal.PerSignal.{PerSignal}
use Rattle.pico_base.specs.declared.signal.Sig.{Sig}
use Rattle.pico_base.specs.declared.signal.Sig.TheVariants.{Kill, Chld}
use Rattle.pico_base.specs.declared.signal.Act.{Act}
use Rattle.pico_base.specs.declared.signal.Act.TheVariants.{Dfl, Ign, Catch}
use Rattle.pico_base.specs.declared.signal.How.{How}
use Rattle.pico_base.specs.declared.signal.How.TheVariants.{Block, Unblock, SetMask}
use Rattle.pico_base.specs.declared.signal.SigArg.{SigArg}
use Rattle.pico_base.specs.declared.signal.SigArg.TheVariants.{Zero, Is, Bad}
use Rattle.pico_base.specs.declared.reply.Errno.{Errno}
use Rattle.pico_base.specs.declared.reply.Errno.TheVariants.{Einval}
use Rattle.pico_base.specs.Signal.{all_signals, at, put_at, everywhere}

-- An action and a count of catches for each signal, the mask, the pending signals, and the signal by which
-- the process will end, if there is one.
pub record Signals : Type 0 where
  pub actions : PerSignal Act
  pub mask : PerSignal Bool
  pub pending : PerSignal Bool
  pub handled : PerSignal ℕ
  pub doom : Option Sig

abbrev pub new_signals : Signals
new_signals =
    record {
      actions = everywhere Dfl;
      mask = everywhere false;
      pending = everywhere false;
      handled = everywhere 0;
      doom = None;
    }

-- fork: the child has its parent's actions and mask, and nothing is pending; no signal was caught (profile)
abbrev pub inherit : Signals → Signals
inherit s = record new_signals { actions = s.actions; mask = s.mask }

abbrev pub is_kill : Sig → Bool
is_kill Kill = true
is_kill _ = false

abbrev pub is_chld : Sig → Bool
is_chld Chld = true
is_chld _ = false

-- an action that discards the signal: to ignore it, or CHLD's default, masked or not (profile: System Interfaces 2.4
-- leaves it open for a masked one)
abbrev pub discards : Act → Sig → Bool
discards Ign g = true
discards Dfl g = is_chld g
discards Catch g = false

abbrev pub doom_by : Signals → Sig → Signals
doom_by s g = record s { doom = Some g }

-- a count stays at its greatest value (profile)
abbrev pub count_up : ℕ → ℕ
count_up n = min (n + 1) 4294967295

-- a signal that arrives is caught and counted, or ends the process (System Interfaces 2.4.3)
abbrev pub arrive_by : Act → Signals → Sig → Signals
arrive_by Catch s g = record s { handled = put_at s.handled g (count_up (at s.handled g)) }
arrive_by Dfl s g = doom_by s g
arrive_by Ign s g = doom_by s g

abbrev pub arrive : Signals → Sig → Signals
arrive s g = arrive_by (at s.actions g) s g

-- A signal is raised at a process (System Interfaces 2.4.1). A doomed process takes no notice (profile), KILL can't be
-- held off, a discarded signal is gone, and a masked one is pending once (profile: 2.4.1 leaves a second one open).
abbrev pub raise : Signals → Sig → Signals
raise s g =
    if is_some s.doom then s
    else if is_kill g then doom_by s g
    else if discards (at s.actions g) g then s
    else if at s.mask g then record s { pending = put_at s.pending g true }
    else arrive s g

-- sigaction: what is pending goes where the new action discards it (System Interfaces 2.4.3)
abbrev pub with_action : Signals → Sig → Act → Signals
with_action s g act =
    record s {
      actions = put_at s.actions g act;
      pending = put_at s.pending g (at s.pending g && not (discards act g));
    }

-- EINVAL: no action can be given to KILL, to 0 or to a number that is no signal's (sigaction)
abbrev pub act_on : Signals → SigArg → Act → Result Signals Errno
act_on s Zero act = Err Einval
act_on s Bad act = Err Einval
act_on s (Is g) act = if is_kill g then Err Einval else Ok (with_action s g act)

abbrev pub both : (Bool → Bool → Bool) → PerSignal Bool → PerSignal Bool → PerSignal Bool
both f a b =
    record {
      hup = f a.hup b.hup;
      int = f a.int b.int;
      quit = f a.quit b.quit;
      kill = f a.kill b.kill;
      usr1 = f a.usr1 b.usr1;
      usr2 = f a.usr2 b.usr2;
      pipe = f a.pipe b.pipe;
      alrm = f a.alrm b.alrm;
      term = f a.term b.term;
      chld = f a.chld b.chld;
    }

-- sigprocmask: the set is added, taken away, or becomes the mask; KILL is never in it
abbrev pub mask_by : How → PerSignal Bool → PerSignal Bool → PerSignal Bool
mask_by Block old set = both (λ a b. a || b) old set
mask_by Unblock old set = both (λ a b. a && not b) old set
mask_by SetMask old set = set

abbrev pub new_mask : How → PerSignal Bool → PerSignal Bool → PerSignal Bool
new_mask how old set = put_at (mask_by how old set) Kill false

-- a pending signal that isn't masked arrives, unless the process is doomed
abbrev pub deliver : Signals → Sig → Signals
deliver s g =
    if not (is_some s.doom) && (at s.pending g && not (at s.mask g))
    then arrive (record s { pending = put_at s.pending g false }) g
    else s

-- the mask changes, and then what is pending and unmasked arrives, in table order (profile: sigprocmask promises one of
-- them before it returns, and no order)
abbrev pub with_mask : Signals → How → PerSignal Bool → Signals
with_mask s how set = fold deliver (record s { mask = new_mask how s.mask set }) all_signals

-- What holds of each reachable state: no pending signal has an action that discards it, and KILL is in no mask
-- and has its default action.
pub record AreSoundSignals (s : Signals) : Type 0 where
  pub kept : (g : Sig) → at s.pending g ≡ true → discards (at s.actions g) g ≡ false
  pub unmasked : s.mask.kill ≡ false
  pub kill_default : s.actions.kill ≡ Dfl
