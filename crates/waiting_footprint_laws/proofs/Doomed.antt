-- A living process is doomed exactly where its allowance isn't free, as calls change it.
use Rattle.std.proofs.Common.{◌≡◌, ◌≢◌, ◌↔◌, ◌∙◌, ℕ, Bool, true, false, Option, Some, None, is_some, refl, sym}
use Rattle.pico_base.specs.declared.call.Call.{Call}
use Rattle.pico_base.specs.declared.reply.Ending.{Ending}
use Rattle.pico_base.specs.declared.reply.Reply.{Reply}
use Rattle.pico_base.specs.declared.signal.Sig.{Sig}
use Rattle.pico_base.specs.declared.signal.Sig.TheVariants.{Chld}
use Rattle.kernel_model.specs.Row.{Allowance, Free, Spent, Waited, Found, NotYet, NoChild, allowance_after_raise, family_after_end, ignores_children}
use Rattle.kernel_model.specs.Signals.{Signals, raise}
use Rattle.kernel_laws.proofs.SignalLaws.{Stays, raise-stays}
use Rattle.waiting_model.specs.Marks.{Alive, raise_by_other, with_family, with_signals_of}
use Rattle.waiting_model.specs.ProcessCalls.{after_waiting, found_after_end, parent_after_end, raise_chld}
use Rattle.waiting_footprint_laws.proofs.Moved.{remark}
use Rattle.waiting_footprint_laws.proofs.Finish.{finished_marks, spent_marks}

-- Between entries.
abbrev pub IsFair : ℕ → Alive → Type 0
IsFair p a = (a.row.signals.doom ≡ None) ↔ (a.marks.allowance ≡ Free)

-- In an entry of the caller the caller itself may be doomed, and not yet have had its last turn.
pub record IsNearlyFair (caller p : ℕ) (a : Alive) : Type 0 where
  pub free : a.row.signals.doom ≡ None → a.marks.allowance ≡ Free
  pub undoomed : p ≢ caller → a.marks.allowance ≡ Free → a.row.signals.doom ≡ None

-- what holds between entries holds in the middle of one
pub nearly : (caller p : ℕ) (a : Alive) → IsFair p a → IsNearlyFair caller p a
nearly caller p a h = record { free = h.0; undoomed = λ ne. h.1 }

-- the caller's own change of its signals
pub nearly-own : (caller : ℕ) (a : Alive) (s : Signals) → IsFair caller a → Stays a.row.signals s
    → IsNearlyFair caller caller (with_signals_of a s)
nearly-own caller a s h stays = record { free = λ d. h.0 (stays d); undoomed = λ ne. absurd (ne refl) }

-- A signal that another's entry raises.

free-raised : (before now : Option Sig) (allowance : Allowance) → before ≡ None → now ≡ None → allowance ≡ Free
    → allowance_after_raise (is_some before) (is_some now) allowance ≡ Free
free-raised None None allowance b n h = h
free-raised None (Some g) allowance b n h = cc
free-raised (Some g) now allowance b n h = cc

undoomed-raised : (before now : Option Sig) (allowance : Allowance) → (allowance ≡ Free → before ≡ None)
    → allowance_after_raise (is_some before) (is_some now) allowance ≡ Free → now ≡ None
undoomed-raised None None allowance h e = refl
undoomed-raised None (Some g) allowance h e = cc
undoomed-raised (Some g) now allowance h e = let none = h e in cc

-- it leaves a process doomed exactly where it isn't free
pub fair-raised : (p : ℕ) (a : Alive) (g : Sig) → IsFair p a → IsFair p (raise_by_other a g)
fair-raised p a g h = (
  λ d.
      let before = raise-stays a.row.signals g d
      in free-raised a.row.signals.doom (raise a.row.signals g).doom a.marks.allowance before d (h.0 before),
  undoomed-raised a.row.signals.doom (raise a.row.signals g).doom a.marks.allowance h.1,
)

fair-waiting : (p : ℕ) (a : Alive) (w : Waited) → IsFair p a → IsFair p (after_waiting a w)
fair-waiting p a (Found c ending) h = (h.0, h.1)
fair-waiting p a NotYet h = h
fair-waiting p a NoChild h = (h.0, h.1)

fair-chld : (p : ℕ) (b : Bool) (a : Alive) → IsFair p a → IsFair p (raise_chld b a)
fair-chld p true a h = h
fair-chld p false a h = fair-raised p a Chld h

-- nor does the end of a child
pub fair-parent : (p : ℕ) (a : Alive) (child : ℕ) (ending : Ending) → IsFair p a
    → IsFair p (parent_after_end a child ending)
fair-parent p a child ending h =
    let ignored = ignores_children a.row
    in let bereft = with_family a (family_after_end a.row.family child ending ignored)
    in let w = found_after_end a child ending
    in fair-chld p ignored (after_waiting bereft w) (fair-waiting p bereft w (h.0, h.1))

-- The caller afterwards.

finished-allowance : (call : Call) (own : Option Reply) (b : Bool) (a : Alive)
    → (remark (finished_marks call own b) a).marks.allowance ≡ (spent_marks b a.marks).allowance
finished-allowance call None b a = refl
finished-allowance call (Some reply) b a = refl

finished-by : (p : ℕ) (call : Call) (own : Option Reply) (a : Alive) (d : Option Sig) → a.row.signals.doom ≡ d
    → IsNearlyFair p p a → IsFair p (remark (finished_marks call own (is_some d)) a)
finished-by p call own a None is h = (
  λ e. finished-allowance call own false a ∙ h.free is,
  λ e. is,
)
finished-by p call own a (Some g) is h = (
  λ e. (let both : None ≡ Some g = sym e ∙ is in cc),
  λ e. (let spent : Spent ≡ Free = sym (finished-allowance call own true a) ∙ e in cc),
)

-- a doomed caller isn't free any more
pub fair-finished : (p : ℕ) (call : Call) (own : Option Reply) (a : Alive) → IsNearlyFair p p a
    → IsFair p (remark (finished_marks call own (is_some a.row.signals.doom)) a)
fair-finished p call own a h = finished-by p call own a a.row.signals.doom refl h
