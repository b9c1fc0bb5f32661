-- What is read of the bytes of a state is that state.
use Rattle.std.proofs.Common.{◌≡◌, ℕ, ◌+◌, ◌*◌, ◌/◌, ◌%◌, ◌<◌, ◌^◌, zero, suc, Bool, true, false, not, ◌&&◌, cond, eqb, List, [], ◌∷◌, length, map, fold, Option, Some, None, get_or, refl, ap, ◌∙◌, arith}
use Rattle.std.proofs.lemmas.Bool.{and_parts}
use Rattle.std.proofs.lemmas.Bool.Decides.{nat_tests}
use Rattle.std.proofs.lemmas.Nat.{from_be_bytes-to_be_bytes_2, from_be_bytes-to_be_bytes_4}
use Rattle.std.proofs.Math.Nat.{pow-suc}
use Rattle.std.specs.List.{list_all}
use Rattle.pico_base.specs.declared.signal.Act.{Act}
use Rattle.pico_base.specs.declared.signal.Act.TheVariants.{Dfl, Ign, Catch}
use Rattle.pico_base.specs.declared.signal.PerSignal.{PerSignal}
use Rattle.pico_base.specs.declared.signal.Sig.{Sig}
use Rattle.pico_base.specs.declared.signal.Sig.TheVariants.{Hup, Int, Quit, Kill, Usr1, Usr2, Pipe, Alrm, Term, Chld}
use Rattle.pico_base.specs.Signal.{at, everywhere, put_at, all_signals}
use Rattle.kernel_model.specs.Signals.{Signals, discards}
use Rattle.signal_state.specs.Held.{AreHeld, IsHeld}
use Rattle.signal_state.specs.Reading.{act_from, actions_from, counts_from, doom_from, set_at, set_from}
use Rattle.signal_state.specs.Spelling.{HasBytes, act_byte, doom_byte, number_of_bits, set_number, signal_bytes}

act-again : (act : Act) → act_from (act_byte act) ≡ act
act-again Dfl = refl
act-again Ign = refl
act-again Catch = refl

-- a doom is read back from its byte
pub doom-again : (doom : Option Sig) → doom_from (doom_byte doom) ≡ doom
doom-again None = refl
doom-again (Some Hup) = refl
doom-again (Some Int) = refl
doom-again (Some Quit) = refl
doom-again (Some Kill) = refl
doom-again (Some Usr1) = refl
doom-again (Some Usr2) = refl
doom-again (Some Pipe) = refl
doom-again (Some Alrm) = refl
doom-again (Some Term) = refl
doom-again (Some Chld) = refl

low_bit : (b : Bool) (high : ℕ) → eqb ((cond b 1 0 + 2 * high) % 2) 1 ≡ b
low_bit true high = grind (arith, nat_tests)
low_bit false high = grind (arith, nat_tests)

high_bits : (b : Bool) (high : ℕ) → (cond b 1 0 + 2 * high) / 2 ≡ high
high_bits true high = omega arith
high_bits false high = omega arith

bits_small : (bits : List Bool) → number_of_bits bits < 2 ^ length bits
bits_small [] = omega arith
bits_small (true ∷ bits) = rw pow-suc (omega (arith, bits_small bits))
bits_small (false ∷ bits) = rw pow-suc (omega (arith, bits_small bits))

-- the bits of a set are its signals
set-again : (m acc : PerSignal Bool) (gs : List Sig)
    → set_from (number_of_bits (map (at m) gs)) gs acc ≡ fold (λ s g. put_at s g (at m g)) acc gs
set-again m acc [] = refl
set-again m acc (g ∷ gs) =
    rw (low_bit (at m g) (number_of_bits (map (at m) gs)), high_bits (at m g) (number_of_bits (map (at m) gs)))
    (set-again m (put_at acc g (at m g)) gs)

set_small : (m : PerSignal Bool) → set_number m < 2 ^ 16
set_small m = omega (arith, bits_small (map (at m) all_signals))

-- signals are spelled by 55 bytes
pub signal_bytes-length : (s : Signals) → length (signal_bytes s) ≡ 55
unfolding signal_bytes
signal_bytes-length s = refl

-- the actions are read back
pub actions-again : (s : Signals) → actions_from (signal_bytes s) ≡ s.actions
unfolding signal_bytes
actions-again s =
    λ i. record {
      hup = act-again s.actions.hup i;
      int = act-again s.actions.int i;
      quit = act-again s.actions.quit i;
      kill = act-again s.actions.kill i;
      usr1 = act-again s.actions.usr1 i;
      usr2 = act-again s.actions.usr2 i;
      pipe = act-again s.actions.pipe i;
      alrm = act-again s.actions.alrm i;
      term = act-again s.actions.term i;
      chld = act-again s.actions.chld i;
    }

-- the mask is read back
pub mask-again : (s : Signals) → set_at (signal_bytes s) 10 ≡ s.mask
unfolding signal_bytes
mask-again s =
    ap (λ (n : ℕ). set_from n all_signals (everywhere false))
    (from_be_bytes-to_be_bytes_2 (set_number s.mask) (set_small s.mask))
    ∙ set-again s.mask (everywhere false) all_signals

-- the pending set is read back
pub pending-again : (s : Signals) → set_at (signal_bytes s) 12 ≡ s.pending
unfolding signal_bytes
pending-again s =
    ap (λ (n : ℕ). set_from n all_signals (everywhere false))
    (from_be_bytes-to_be_bytes_2 (set_number s.pending) (set_small s.pending))
    ∙ set-again s.pending (everywhere false) all_signals

-- the counts of handled signals are read back
pub counts-again : (s : Signals) → ((g : Sig) → at s.handled g < 2 ^ 32) → counts_from (signal_bytes s) ≡ s.handled
unfolding signal_bytes
counts-again s small =
    λ i. record {
      hup = from_be_bytes-to_be_bytes_4 s.handled.hup (small Hup) i;
      int = from_be_bytes-to_be_bytes_4 s.handled.int (small Int) i;
      quit = from_be_bytes-to_be_bytes_4 s.handled.quit (small Quit) i;
      kill = from_be_bytes-to_be_bytes_4 s.handled.kill (small Kill) i;
      usr1 = from_be_bytes-to_be_bytes_4 s.handled.usr1 (small Usr1) i;
      usr2 = from_be_bytes-to_be_bytes_4 s.handled.usr2 (small Usr2) i;
      pipe = from_be_bytes-to_be_bytes_4 s.handled.pipe (small Pipe) i;
      alrm = from_be_bytes-to_be_bytes_4 s.handled.alrm (small Alrm) i;
      term = from_be_bytes-to_be_bytes_4 s.handled.term (small Term) i;
      chld = from_be_bytes-to_be_bytes_4 s.handled.chld (small Chld) i;
    }

-- the last byte is the doom's
pub last-again : (s : Signals) → get_or (signal_bytes s) 54 0 ≡ doom_byte s.doom
unfolding signal_bytes
last-again s = refl

-- the parts of a state that a process can have
kept-test : (pending discarded : Bool) → (pending ≡ true → discarded ≡ false) → not (pending && discarded) ≡ true
kept-test false discarded h = refl
kept-test true discarded h = ap not (h refl)

-- what holds of signals, part by part
pub held-parts : (s : Signals) → IsHeld s → AreHeld s.actions s.mask s.pending
held-parts s held =
    record {
      kill_default = held.sound.kill_default;
      unmasked = held.sound.unmasked;
      no_kill = held.no_kill;
      kept = λ g. kept-test (at s.pending g) (discards (at s.actions g) g) (held.sound.kept g);
    }

list_all-at : (p : Sig → Bool) (gs : List Sig) (i : ℕ) (d : Sig) → i < length gs → list_all p gs ≡ true
    → p (get_or gs i d) ≡ true
list_all-at p [] i d within h = absurd (omega arith)
list_all-at p (g ∷ gs) zero d within h = (and_parts (p g) (list_all p gs) h).0
list_all-at p (g ∷ gs) (suc i) d within h = list_all-at p gs i d (omega arith) (and_parts (p g) (list_all p gs) h).1

-- what all ten signals pass each signal passes
pub each-signal : (p : Sig → Bool) → list_all p all_signals ≡ true → (g : Sig) → p g ≡ true
each-signal p h Hup = list_all-at p all_signals 0 Hup (omega arith) h
each-signal p h Int = list_all-at p all_signals 1 Int (omega arith) h
each-signal p h Quit = list_all-at p all_signals 2 Quit (omega arith) h
each-signal p h Kill = list_all-at p all_signals 3 Kill (omega arith) h
each-signal p h Usr1 = list_all-at p all_signals 4 Usr1 (omega arith) h
each-signal p h Usr2 = list_all-at p all_signals 5 Usr2 (omega arith) h
each-signal p h Pipe = list_all-at p all_signals 6 Pipe (omega arith) h
each-signal p h Alrm = list_all-at p all_signals 7 Alrm (omega arith) h
each-signal p h Term = list_all-at p all_signals 8 Term (omega arith) h
each-signal p h Chld = list_all-at p all_signals 9 Chld (omega arith) h

-- and back
pub all_signals-pass : (p : Sig → Bool) → ((g : Sig) → p g ≡ true) → list_all p all_signals ≡ true
all_signals-pass p h = rw (h Hup, h Int, h Quit, h Kill, h Usr1, h Usr2, h Pipe, h Alrm, h Term, h Chld) refl

-- counts of which each is small
pub at-small : (m : PerSignal ℕ) (n : ℕ) → m.hup < n → m.int < n → m.quit < n → m.kill < n → m.usr1 < n → m.usr2 < n
    → m.pipe < n → m.alrm < n → m.term < n → m.chld < n → (g : Sig) → at m g < n
at-small m n hup int quit kill usr1 usr2 pipe alrm term chld Hup = hup
at-small m n hup int quit kill usr1 usr2 pipe alrm term chld Int = int
at-small m n hup int quit kill usr1 usr2 pipe alrm term chld Quit = quit
at-small m n hup int quit kill usr1 usr2 pipe alrm term chld Kill = kill
at-small m n hup int quit kill usr1 usr2 pipe alrm term chld Usr1 = usr1
at-small m n hup int quit kill usr1 usr2 pipe alrm term chld Usr2 = usr2
at-small m n hup int quit kill usr1 usr2 pipe alrm term chld Pipe = pipe
at-small m n hup int quit kill usr1 usr2 pipe alrm term chld Alrm = alrm
at-small m n hup int quit kill usr1 usr2 pipe alrm term chld Term = term
at-small m n hup int quit kill usr1 usr2 pipe alrm term chld Chld = chld

-- the fields that are read of a state's bytes make that state
pub fields-again : (bytes : List ℕ) (s : Signals) (actions : PerSignal Act) (mask pending : PerSignal Bool)
    (handled : PerSignal ℕ) (doom : Option Sig)
    → HasBytes s → bytes ≡ signal_bytes s
    → actions ≡ actions_from bytes → mask ≡ set_at bytes 10 → pending ≡ set_at bytes 12 → handled ≡ counts_from bytes
    → doom ≡ doom_from (get_or bytes 54 0)
    → ◌≡◌ {A = Signals} (record { actions = actions; mask = mask; pending = pending; handled = handled; doom = doom }) s
fields-again bytes s actions mask pending handled doom has spelled is_actions is_mask is_pending is_handled is_doom =
    let same_actions : actions ≡ s.actions = is_actions ∙ ap actions_from spelled ∙ actions-again s in
    let same_mask : mask ≡ s.mask = is_mask ∙ ap (λ (b : List ℕ). set_at b 10) spelled ∙ mask-again s in
    let same_pending : pending ≡ s.pending = is_pending ∙ ap (λ (b : List ℕ). set_at b 12) spelled ∙ pending-again s in
    let same_handled : handled ≡ s.handled = is_handled ∙ ap counts_from spelled ∙ counts-again s has.counts in
    let same_doom : doom ≡ s.doom =
    is_doom ∙ ap (λ (b : List ℕ). doom_from (get_or b 54 0)) spelled ∙ ap doom_from (last-again s)
    ∙ doom-again s.doom in
    λ i. record {
      actions = same_actions i;
      mask = same_mask i;
      pending = same_pending i;
      handled =
          same_handled i;
      doom = same_doom i;
    }
