-- A living process's signals are sound, and it is doomed exactly where it isn't free to act.
use Rattle.std.proofs.Common.{◌≡◌, ◌≢◌, ℕ, Bool, true, false, Option, Some, None, refl, ap, sym, ◌∙◌}
use Rattle.std.specs.Prelude.{is_some}
use Rattle.pico_base.specs.declared.reply.Ending.{Ending}
use Rattle.pico_base.specs.declared.signal.Sig.{Sig}
use Rattle.pico_base.specs.declared.signal.Sig.TheVariants.{Chld}
use Rattle.kernel_model.specs.Signals.{Signals, AreSoundSignals, raise}
use Rattle.kernel_model.specs.Row.{Alive, Family, Allowance, Free, One, Spent, with_child, family_after_end, without_ended, ignores_children, allowance_after_raise, raise_by_other, with_ended_child}
use Rattle.kernel_model.specs.ProcessCalls.{new_child, parent_after_fork, parent_after_wait}
use Rattle.kernel_laws.proofs.Plain.{by_test, not_true}
use Rattle.kernel_laws.proofs.SignalLaws.{sound-raise, sound-inherited, Stays, raise-stays, no-doom}

pub record Strong (a : Alive) : Type 0 where
  pub sound : AreSoundSignals a.row.signals
  pub free : a.row.signals.doom ≡ None → a.allowance ≡ Free
  pub undoomed : a.allowance ≡ Free → a.row.signals.doom ≡ None

-- in an entry of the caller the caller itself may be doomed and not yet have had its last turn
pub record Weak (caller p : ℕ) (a : Alive) : Type 0 where
  pub sound : AreSoundSignals a.row.signals
  pub free : a.row.signals.doom ≡ None → a.allowance ≡ Free
  pub undoomed : p ≢ caller → a.allowance ≡ Free → a.row.signals.doom ≡ None

-- what holds of a living process holds in the middle of a call
pub weak : (caller p : ℕ) (a : Alive) → Strong a → Weak caller p a
weak caller p a s = record { sound = s.sound; free = s.free; undoomed = λ ne. s.undoomed }

-- the caller's own change of its signals
pub weak-own : (caller : ℕ) (a : Alive) (s : Signals) → Strong a → AreSoundSignals s → Stays a.row.signals s
    → Weak caller caller (record a { row = record { signals = s; family = a.row.family } })
weak-own caller a s h sound stays =
    record { sound = sound; free = λ d. h.free (stays d); undoomed = λ ne. absurd (ne refl) }

one-free : {B : Type 0} → One ≡ Free → B
one-free h = cc

spent-free : {B : Type 0} → Spent ≡ Free → B
spent-free h = cc

free-by_other : (before now : Bool) (allowance : Allowance) → before ≡ false → now ≡ false
    → allowance_after_raise before now allowance ≡ allowance
free-by_other before now allowance b n = rw (b, n) refl

undoomed-by_other : (before now : Option Sig) (allowance : Allowance) → (allowance ≡ Free → before ≡ None)
    → allowance_after_raise (is_some before) (is_some now) allowance ≡ Free → now ≡ None
undoomed-by_other None None allowance h e = refl
undoomed-by_other None (Some g) allowance h e = one-free e
undoomed-by_other (Some g) now allowance h e = not_true (sym (ap is_some (h e)))

-- a signal by another's entry
pub strong-raised : (a : Alive) (g : Sig) → Strong a → Strong (raise_by_other a g)
strong-raised a g h =
    record {
      sound = sound-raise a.row.signals g h.sound;
      free = λ d.
          let b = raise-stays a.row.signals g d
          in free-by_other (is_some a.row.signals.doom) (is_some (raise a.row.signals g).doom) a.allowance
          (ap is_some b) (ap is_some d) ∙ h.free b;
      undoomed = undoomed-by_other a.row.signals.doom (raise a.row.signals g).doom a.allowance h.undoomed;
    }

strong-family : (a : Alive) (f : Family) → Strong a
    → Strong (record a { row = record { signals = a.row.signals; family = f } })
strong-family a f h = record { sound = h.sound; free = h.free; undoomed = h.undoomed }

-- a new process is sound
pub strong-child : (a : Alive) → Strong a → Strong (new_child a)
strong-child a h = record { sound = sound-inherited a.row.signals h.sound; free = λ d. refl; undoomed = λ e. refl }

-- so is its parent
pub strong-forking : (a : Alive) (n : ℕ) → Strong a → Strong (parent_after_fork a n)
strong-forking a n h = strong-family a (with_child a.row.family n) h

-- so is a process that has waited for a child
pub strong-reaping : (a : Alive) (n : ℕ) → Strong a → Strong (parent_after_wait a n)
strong-reaping a n h = strong-family a (without_ended n a.row.family) h

-- so is one whose child has ended
pub strong-ended_child : (a : Alive) (child : ℕ) (ending : Ending) → Strong a → Strong (with_ended_child a child ending)
strong-ended_child a child ending h =
    let ignored = ignores_children a.row
    in let f = family_after_end a.row.family child ending ignored
    in let next : Alive = record a { row = record { signals = a.row.signals; family = f } }
    in let s = strong-family a f h
    in by_test Strong ignored next (raise_by_other next Chld) (λ t. s) (λ t. strong-raised next Chld s)

-- the family of a process whose child has ended
pub family-ended_child : (a : Alive) (child : ℕ) (ending : Ending)
    → (with_ended_child a child ending).row.family ≡ family_after_end a.row.family child ending (ignores_children a.row)
family-ended_child a child ending =
    let next : Alive = record a {
      row =
          record {
            signals = a.row.signals;
            family =
                family_after_end a.row.family child ending (ignores_children a.row);
          };
    }
    in by_test (λ (x : Alive). x.row.family ≡ family_after_end a.row.family child ending (ignores_children a.row))
    (ignores_children a.row) next (raise_by_other next Chld)
    (λ t. refl) (λ t. refl)

-- after the entry
pub strong-spent : (caller p : ℕ) (a : Alive) → Weak caller p a → is_some a.row.signals.doom ≡ true
    → Strong (record a { allowance = Spent })
strong-spent caller p a h d =
    record { sound = h.sound; free = λ e. not_true (sym (ap is_some e) ∙ d); undoomed = λ e. spent-free e }

-- a process that isn't doomed in the middle of a call is sound
pub strong-undoomed : (caller p : ℕ) (a : Alive) → Weak caller p a → is_some a.row.signals.doom ≡ false → Strong a
strong-undoomed caller p a h d = record { sound = h.sound; free = h.free; undoomed = λ e. no-doom a.row.signals.doom d }

-- so is one that isn't the caller
pub strong-other : (caller p : ℕ) (a : Alive) → Weak caller p a → p ≢ caller → Strong a
strong-other caller p a h ne = record { sound = h.sound; free = h.free; undoomed = h.undoomed ne }
