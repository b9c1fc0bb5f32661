-- A process's signals stay sound.
use Rattle.std.proofs.Common.{◌≡◌, Bool, true, false, not, ◌&&◌, List, [], ◌∷◌, Option, Some, None, refl, ap, sym, subst, ◌∙◌, inl, inr, nat_eq, ◌⊎◌}
use Rattle.std.specs.Prelude.{if◌then◌else◌, is_some, fold}
use Rattle.std.proofs.lemmas.Bool.{and_parts, not-true}
use Rattle.pico_base.specs.declared.signal.PerSignal.{PerSignal}
use Rattle.pico_base.specs.declared.signal.Sig.{Sig}
use Rattle.pico_base.specs.declared.signal.Sig.TheVariants.{Hup, Int, Quit, Kill, Usr1, Usr2, Pipe, Alrm, Term, Chld}
use Rattle.pico_base.specs.declared.signal.Act.{Act}
use Rattle.pico_base.specs.declared.signal.Act.TheVariants.{Dfl, Ign, Catch}
use Rattle.pico_base.specs.declared.signal.How.{How}
use Rattle.pico_base.specs.Signal.{at, put_at, everywhere, all_signals, signal_number}
use Rattle.kernel_model.specs.Signals.{Signals, AreSoundSignals, new_signals, inherit, is_kill, discards, doom_by, arrive_by, arrive, raise, with_action, new_mask, deliver, with_mask}
use Rattle.kernel_laws.proofs.Plain.{by_test, not_true}

-- the value of a signal after another is put: the new one there, and the old one elsewhere
at-put-same : {A : Type 0} (m : PerSignal A) (g : Sig) (x : A) → at (put_at m g x) g ≡ x
at-put-same m Hup x = refl
at-put-same m Int x = refl
at-put-same m Quit x = refl
at-put-same m Kill x = refl
at-put-same m Usr1 x = refl
at-put-same m Usr2 x = refl
at-put-same m Pipe x = refl
at-put-same m Alrm x = refl
at-put-same m Term x = refl
at-put-same m Chld x = refl

-- another signal: no value that is put here changes what stands there
abbrev Apart : Sig → Sig → Type 0
Apart g h = nat_eq (signal_number g) (signal_number h) ≡ false

at-put-other : {A : Type 0} (m : PerSignal A) (g h : Sig) (x : A) → Apart g h → at (put_at m g x) h ≡ at m h
at-put-other m Hup Hup x d = not_true (sym d)
at-put-other m Hup h x d = refl
at-put-other m Int Int x d = not_true (sym d)
at-put-other m Int h x d = refl
at-put-other m Quit Quit x d = not_true (sym d)
at-put-other m Quit h x d = refl
at-put-other m Kill Kill x d = not_true (sym d)
at-put-other m Kill h x d = refl
at-put-other m Usr1 Usr1 x d = not_true (sym d)
at-put-other m Usr1 h x d = refl
at-put-other m Usr2 Usr2 x d = not_true (sym d)
at-put-other m Usr2 h x d = refl
at-put-other m Pipe Pipe x d = not_true (sym d)
at-put-other m Pipe h x d = refl
at-put-other m Alrm Alrm x d = not_true (sym d)
at-put-other m Alrm h x d = refl
at-put-other m Term Term x d = not_true (sym d)
at-put-other m Term h x d = refl
at-put-other m Chld Chld x d = not_true (sym d)
at-put-other m Chld h x d = refl

same-or-apart : (g h : Sig) → (g ≡ h) ⊎ Apart g h
same-or-apart Hup Hup = inl refl
same-or-apart Hup h = inr refl
same-or-apart Int Int = inl refl
same-or-apart Int h = inr refl
same-or-apart Quit Quit = inl refl
same-or-apart Quit h = inr refl
same-or-apart Kill Kill = inl refl
same-or-apart Kill h = inr refl
same-or-apart Usr1 Usr1 = inl refl
same-or-apart Usr1 h = inr refl
same-or-apart Usr2 Usr2 = inl refl
same-or-apart Usr2 h = inr refl
same-or-apart Pipe Pipe = inl refl
same-or-apart Pipe h = inr refl
same-or-apart Alrm Alrm = inl refl
same-or-apart Alrm h = inr refl
same-or-apart Term Term = inl refl
same-or-apart Term h = inr refl
same-or-apart Chld Chld = inl refl
same-or-apart Chld h = inr refl

nothing : (g : Sig) → at (everywhere false) g ≡ false
nothing Hup = refl
nothing Int = refl
nothing Quit = refl
nothing Kill = refl
nothing Usr1 = refl
nothing Usr2 = refl
nothing Pipe = refl
nothing Alrm = refl
nothing Term = refl
nothing Chld = refl

kill-apart : (g : Sig) → is_kill g ≡ false → Apart g Kill
kill-apart Hup h = refl
kill-apart Int h = refl
kill-apart Quit h = refl
kill-apart Kill h = not_true (sym h)
kill-apart Usr1 h = refl
kill-apart Usr2 h = refl
kill-apart Pipe h = refl
kill-apart Alrm h = refl
kill-apart Term h = refl
kill-apart Chld h = refl

-- the same fact of the parts alone: doom and counts don't matter
record Sound (actions : PerSignal Act) (mask pending : PerSignal Bool) : Type 0 where
  kept : (g : Sig) → at pending g ≡ true → discards (at actions g) g ≡ false
  unmasked : mask.kill ≡ false
  kill_default : actions.kill ≡ Dfl

parts : (s : Signals) → AreSoundSignals s → Sound s.actions s.mask s.pending
parts s h = record { kept = h.kept; unmasked = h.unmasked; kill_default = h.kill_default }

whole : (s : Signals) → Sound s.actions s.mask s.pending → AreSoundSignals s
whole s h = record { kept = h.kept; unmasked = h.unmasked; kill_default = h.kill_default }

-- a new process's signals are sound
pub sound-new : AreSoundSignals new_signals
sound-new = record { kept = λ g h. not_true (sym (nothing g) ∙ h); unmasked = refl; kill_default = refl }

-- so are those that a child inherits
pub sound-inherited : (s : Signals) → AreSoundSignals s → AreSoundSignals (inherit s)
sound-inherited s h =
    record { kept = λ g p. not_true (sym (nothing g) ∙ p); unmasked = h.unmasked; kill_default = h.kill_default }

sound-doomed : (s : Signals) (g : Sig) → AreSoundSignals s → AreSoundSignals (doom_by s g)
sound-doomed s g h = record { kept = h.kept; unmasked = h.unmasked; kill_default = h.kill_default }

sound-arrive_by : (act : Act) (s : Signals) (g : Sig) → AreSoundSignals s → AreSoundSignals (arrive_by act s g)
sound-arrive_by Catch s g h = record { kept = h.kept; unmasked = h.unmasked; kill_default = h.kill_default }
sound-arrive_by Dfl s g h = sound-doomed s g h
sound-arrive_by Ign s g h = sound-doomed s g h

sound-arrive : (s : Signals) (g : Sig) → AreSoundSignals s → AreSoundSignals (arrive s g)
sound-arrive s g h = sound-arrive_by (at s.actions g) s g h

kept-pended : (actions : PerSignal Act) (pending : PerSignal Bool) (g : Sig) → discards (at actions g) g ≡ false
    → ((h : Sig) → at pending h ≡ true → discards (at actions h) h ≡ false)
    → (h : Sig) → at (put_at pending g true) h ≡ true → discards (at actions h) h ≡ false
kept-pended actions pending g d k h p =
    elim (same-or-apart g h) [
      | inl same ↦ subst (λ (x : Sig). discards (at actions x) x ≡ false) same d
      | inr apart ↦ k h (sym (at-put-other pending g h true apart) ∙ p)
    ]

sound-pended : (s : Signals) (g : Sig) → AreSoundSignals s → discards (at s.actions g) g ≡ false
    → AreSoundSignals (record s { pending = put_at s.pending g true })
sound-pended s g h d =
    record { kept = kept-pended s.actions s.pending g d h.kept; unmasked = h.unmasked; kill_default = h.kill_default }

-- a raised signal keeps them sound
pub sound-raise : (s : Signals) (g : Sig) → AreSoundSignals s → AreSoundSignals (raise s g)
sound-raise s g h =
    by_test AreSoundSignals (is_some s.doom) s
    (if is_kill g then doom_by s g else if discards
    (at s.actions g) g then s else if at s.mask g then record s {
      pending =
          put_at s.pending g true;
    } else arrive s g)
    (λ _. h)
    (λ _. by_test AreSoundSignals (is_kill g) (doom_by s g)
    (if discards (at s.actions g) g then s else if at s.mask g then record s {
      pending =
          put_at s.pending g true;
    } else arrive s g)
    (λ _. sound-doomed s g h)
    (λ _. by_test AreSoundSignals (discards (at s.actions g) g) s
    (if at s.mask g then record s { pending = put_at s.pending g true } else arrive s g) (λ _. h)
    (λ d. by_test AreSoundSignals (at s.mask g) (record s { pending = put_at s.pending g true }) (arrive s g)
    (λ _. sound-pended s g h d) (λ _. sound-arrive s g h))))

kept-acted : (actions : PerSignal Act) (pending : PerSignal Bool) (g : Sig) (act : Act)
    → ((h : Sig) → at pending h ≡ true → discards (at actions h) h ≡ false)
    → (h : Sig) → at (put_at pending g (at pending g && not (discards act g))) h ≡ true
    → discards (at (put_at actions g act) h) h ≡ false
kept-acted actions pending g act k h p =
    elim (same-or-apart g h) [
      | inl same ↦
          let P : Sig → Type 0 = λ x. at (put_at pending g (at pending g && not (discards act g))) x ≡ true
          in let own = subst P (sym same) p
          in let both = and_parts (at pending g) (not (discards act g))
          (sym (at-put-same pending g (at pending g && not (discards act g))) ∙ own)
          in let Q : Sig → Type 0 = λ x. discards (at (put_at actions g act) x) x ≡ false
          in subst Q same (ap (λ (x : Act). discards x g) (at-put-same actions g act)
          ∙ not-true (discards act g) both.1)
      | inr apart ↦
          ap (λ (x : Act). discards x h) (at-put-other actions g h act apart)
          ∙ k h (sym (at-put-other pending g h (at pending g && not (discards act g)) apart) ∙ p)
    ]

-- another action keeps them sound
pub sound-action : (s : Signals) (g : Sig) (act : Act) → is_kill g ≡ false → AreSoundSignals s
    → AreSoundSignals (with_action s g act)
sound-action s g act n h =
    record {
      kept = kept-acted s.actions s.pending g act h.kept;
      unmasked = h.unmasked;
      kill_default = at-put-other s.actions g Kill act (kill-apart g n) ∙ h.kill_default;
    }

kept-taken : (actions : PerSignal Act) (pending : PerSignal Bool) (g : Sig)
    → ((h : Sig) → at pending h ≡ true → discards (at actions h) h ≡ false)
    → (h : Sig) → at (put_at pending g false) h ≡ true → discards (at actions h) h ≡ false
kept-taken actions pending g k h p =
    elim (same-or-apart g h) [
      | inl same ↦
          let P : Sig → Type 0 = λ x. at (put_at pending g false) x ≡ true
          in not_true (sym (at-put-same pending g false) ∙ subst P (sym same) p)
      | inr apart ↦ k h (sym (at-put-other pending g h false apart) ∙ p)
    ]

sound-taken : (s : Signals) (g : Sig) → AreSoundSignals s
    → AreSoundSignals (record s { pending = put_at s.pending g false })
sound-taken s g h = record {
  kept = kept-taken s.actions s.pending g h.kept;
  unmasked = h.unmasked;
  kill_default =
      h.kill_default;
}

sound-deliver : (s : Signals) (g : Sig) → AreSoundSignals s → AreSoundSignals (deliver s g)
sound-deliver s g h =
    by_test AreSoundSignals (not (is_some s.doom) && (at s.pending g && not (at s.mask g)))
    (arrive (record s { pending = put_at s.pending g false }) g) s
    (λ _. sound-arrive (record s { pending = put_at s.pending g false }) g (sound-taken s g h))
    (λ _. h)

sound-delivered : (gs : List Sig) (s : Signals) → AreSoundSignals s → AreSoundSignals (fold deliver s gs)
sound-delivered [] s h = h
sound-delivered (g ∷ gs) s h = sound-delivered gs (deliver s g) (sound-deliver s g h)

sound-masked : (s : Signals) (how : How) (set : PerSignal Bool) → AreSoundSignals s
    → AreSoundSignals (record s { mask = new_mask how s.mask set })
sound-masked s how set h = record { kept = h.kept; unmasked = refl; kill_default = h.kill_default }

-- another mask keeps them sound
pub sound-mask : (s : Signals) (how : How) (set : PerSignal Bool) → AreSoundSignals s
    → AreSoundSignals (with_mask s how set)
sound-mask s how set h =
    sound-delivered all_signals (record s { mask = new_mask how s.mask set }) (sound-masked s how set h)

-- a doom stays
abbrev pub Stays : Signals → Signals → Type 0
Stays s next = next.doom ≡ None → s.doom ≡ None

-- no doom is there where none is said to be
pub no-doom : (o : Option Sig) → is_some o ≡ false → o ≡ None
no-doom None h = refl
no-doom (Some g) h = not_true (sym h)

pub doom-is : (o : Option Sig) → o ≡ None → is_some o ≡ false
doom-is o h = ap is_some h

-- a raised signal takes no doom away
pub raise-stays : (s : Signals) (g : Sig) → Stays s (raise s g)
raise-stays s g =
    by_test (Stays s) (is_some s.doom) s
    (if is_kill g then doom_by s g else if discards
    (at s.actions g) g then s else if at s.mask g then record s {
      pending =
          put_at s.pending g true;
    } else arrive s g)
    (λ t h. h) (λ f h. no-doom s.doom f)

deliver-stays : (s : Signals) (g : Sig) → Stays s (deliver s g)
deliver-stays s g =
    by_test (Stays s) (not (is_some s.doom) && (at s.pending g && not (at s.mask g)))
    (arrive (record s { pending = put_at s.pending g false }) g) s
    (λ t h. no-doom s.doom
    (not-true (is_some s.doom) (and_parts (not (is_some s.doom)) (at s.pending g && not (at s.mask g)) t).0))
    (λ f h. h)

delivered-stays : (gs : List Sig) (s : Signals) → Stays s (fold deliver s gs)
delivered-stays [] s h = h
delivered-stays (g ∷ gs) s h = deliver-stays s g (delivered-stays gs (deliver s g) h)

-- nor does another mask
pub mask-stays : (s : Signals) (how : How) (set : PerSignal Bool) → Stays s (with_mask s how set)
mask-stays s how set h = delivered-stays all_signals (record s { mask = new_mask how s.mask set }) h
