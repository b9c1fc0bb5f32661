-- A new action keeps what holds of each signal state.
use Rattle.std.proofs.Common.{◌≡◌, Bool, true, false, not, ◌&&◌, refl, sym, ◌∙◌}
use Rattle.std.proofs.lemmas.Bool.{false≢true}
use Rattle.pico_base.specs.declared.signal.Act.{Act}
use Rattle.pico_base.specs.declared.signal.PerSignal.{PerSignal}
use Rattle.pico_base.specs.declared.signal.Sig.{Sig}
use Rattle.pico_base.specs.declared.signal.Sig.TheVariants.{Hup, Int, Quit, Kill, Usr1, Usr2, Pipe, Alrm, Term, Chld}
use Rattle.pico_base.specs.Signal.{at, put_at}
use Rattle.kernel_model.specs.Signals.{Signals, discards, is_kill, with_action}
use Rattle.signal_state.specs.Held.{IsHeld}

-- what holds of two maps at each signal holds where both have a new value at one, if it holds of the two
put-both : {A B : Type 0} (Q : Sig → A → B → Type 0) (m : PerSignal A) (n : PerSignal B) (g : Sig) (x : A) (y : B)
    → Q g x y → ((h : Sig) → Q h (at m h) (at n h)) → (h : Sig) → Q h (at (put_at m g x) h) (at (put_at n g y) h)
put-both Q m n Hup x y here there Hup = here
put-both Q m n Hup x y here there h = there h
put-both Q m n Int x y here there Int = here
put-both Q m n Int x y here there h = there h
put-both Q m n Quit x y here there Quit = here
put-both Q m n Quit x y here there h = there h
put-both Q m n Kill x y here there Kill = here
put-both Q m n Kill x y here there h = there h
put-both Q m n Usr1 x y here there Usr1 = here
put-both Q m n Usr1 x y here there h = there h
put-both Q m n Usr2 x y here there Usr2 = here
put-both Q m n Usr2 x y here there h = there h
put-both Q m n Pipe x y here there Pipe = here
put-both Q m n Pipe x y here there h = there h
put-both Q m n Alrm x y here there Alrm = here
put-both Q m n Alrm x y here there h = there h
put-both Q m n Term x y here there Term = here
put-both Q m n Term x y here there h = there h
put-both Q m n Chld x y here there Chld = here
put-both Q m n Chld x y here there h = there h

-- KILL keeps its value where another signal has a new one
put-kill : {A : Type 0} (m : PerSignal A) (g : Sig) (x : A) → is_kill g ≡ false → (put_at m g x).kill ≡ m.kill
put-kill m Kill x other = absurd (false≢true (sym other))
put-kill m g x other = refl

stays-kept : (pending discarded : Bool) → (pending && not discarded) ≡ true → discarded ≡ false
stays-kept pending false stays = refl
stays-kept true true stays = sym stays
stays-kept false true stays = absurd (false≢true stays)

-- another action keeps what holds of signals
pub with_action-held : (s : Signals) (g : Sig) (act : Act) → is_kill g ≡ false → IsHeld s → IsHeld (with_action s g act)
with_action-held s g act other held =
    record {
      sound = record {
        kept = put-both (λ h pending action. pending ≡ true → discards action h ≡ false) s.pending s.actions g
            (at s.pending g && not (discards act g)) act
            (stays-kept (at s.pending g) (discards act g)) held.sound.kept;
        unmasked = held.sound.unmasked;
        kill_default = put-kill s.actions g act other ∙ held.sound.kill_default;
      };
      no_kill = put-kill s.pending g (at s.pending g && not (discards act g)) other ∙ held.no_kill;
    }
