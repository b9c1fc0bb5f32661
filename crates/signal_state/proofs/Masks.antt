-- A change of the mask in its two steps.
use Rattle.std.proofs.Common.{◌≡◌, ℕ, ◌+◌, ◌<◌, Bool, true, false, not, is_some, ◌&&◌, List, [], ◌∷◌, length, get_or, drop, drop-cons, add-one, fold, refl, sym, ap, ◌∙◌}
use Rattle.pico_base.specs.declared.signal.How.{How}
use Rattle.pico_base.specs.declared.signal.PerSignal.{PerSignal}
use Rattle.kernel_model.specs.Signals.{Signals, deliver, new_mask, with_mask}
use Rattle.pico_base.specs.declared.signal.Sig.{Sig}
use Rattle.pico_base.specs.declared.signal.Sig.TheVariants.{Hup, Int, Quit, Kill, Usr1, Usr2, Pipe, Alrm, Term, Chld}
use Rattle.pico_base.specs.Signal.{all_signals, at, everywhere}

-- a new mask, and then each signal that it lets through, is `sigprocmask`
pub mask-then-deliver : (s after : Signals) (how : How) (set mask : PerSignal Bool) → mask ≡ new_mask how s.mask set
    → after ≡ fold deliver (record s { mask = mask }) all_signals → after ≡ with_mask s how set
mask-then-deliver s after how set mask e h =
    h ∙ ap (λ (m : PerSignal Bool). fold deliver (record s { mask = m }) all_signals) e

-- one more step of a fold over a list
pub fold-drop_more : {A B : Type 0} (f : B → A → B) (s : B) (xs : List A) (i : ℕ) (d : A) → i < length xs
    → fold f (f s (get_or xs i d)) (drop (i + 1) xs) ≡ fold f s (drop i xs)
fold-drop_more f s xs i d within = sym (rw (drop-cons xs i d) (rw add-one refl))

-- what is nowhere is not at a signal
at-nowhere : (g : Sig) → at (everywhere false) g ≡ false
at-nowhere Hup = refl
at-nowhere Int = refl
at-nowhere Quit = refl
at-nowhere Kill = refl
at-nowhere Usr1 = refl
at-nowhere Usr2 = refl
at-nowhere Pipe = refl
at-nowhere Alrm = refl
at-nowhere Term = refl
at-nowhere Chld = refl

and-false : (b : Bool) → (b && false) ≡ false
and-false true = refl
and-false false = refl

-- a signal that isn't pending doesn't arrive
not-delivered : (s : Signals) (g : Sig) → at s.pending g ≡ false → deliver s g ≡ s
not-delivered s g absent =
    let idle : (not (is_some s.doom) && (at s.pending g && not (at s.mask g))) ≡ false =
    ap (λ (b : Bool). not (is_some s.doom) && (b && not (at s.mask g))) absent ∙ and-false (not (is_some s.doom)) in
    rw idle refl

-- where none is pending, none arrives
pub none-delivered : (s : Signals) (sigs : List Sig) → s.pending ≡ everywhere false → fold deliver s sigs ≡ s
none-delivered s [] none = refl
none-delivered s (g ∷ gs) none =
    let same : deliver s g ≡ s = not-delivered s g (ap (λ (p : PerSignal Bool). at p g) none ∙ at-nowhere g) in
    ap (λ (t : Signals). fold deliver t gs) same ∙ none-delivered s gs none
