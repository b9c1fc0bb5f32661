-- The kernel in which callers wait stays beside a world in which nothing is carried out; a call that moves without
-- being carried out may still be made there, and one that starts may be.
use Rattle.std.proofs.Common.{◌≡◌, ◌≢◌, ℕ, Bool, true, false, not, ◌&&◌, Option, Some, None, is_some, option_and_then, refl, ap, sym, subst, ◌∙◌, inl, inr}
use Rattle.std.proofs.lemmas.Bool.{cases_eq, false≢true}
use Rattle.number_maps.specs.Maps.{get}
use Rattle.pico_base.specs.declared.call.Call.{Call}
use Rattle.pico_base.specs.declared.call.Call.TheVariants as calls
use Rattle.pico_base.specs.declared.numbers.Name.{Name}
use Rattle.pico_base.specs.declared.signal.Sig.{Sig}
use Rattle.kernel_model.specs.Kernel as plain_kernels
use Rattle.kernel_model.specs.Row as plain
use Rattle.kernel_model.specs.Transition as plain_steps
use Rattle.kernel_laws.proofs.Plain.{from_some, not_some}
use Rattle.waiting_model.specs.Marks.{Alive, plain_alive}
use Rattle.waiting_model.specs.Kernel.{Kernel, Process, Living, Ended, Gone, alive_in, living_at, opening}
use Rattle.waiting_model.specs.History.{Replays}
use Rattle.waiting_model.specs.Linear.{in_line}
use Rattle.waiting_model.specs.Transition.{may_make}
use Rattle.waiting_laws.specs.InLine.{AlikeAt, IsAlike}
use Rattle.waiting_laws.specs.Sound.{IsSound}
use Rattle.node_model.specs.Bodies.{erase, whole_in}
use Rattle.world_model.specs.World.{World}
use Rattle.world_laws.specs.Places.{CallPlace, Parked, Waits, InAnswer, Beside}
use Rattle.world_laws.specs.Cancels.{Owing, Nothing, AStrike, Wakes}
use Rattle.world_laws.specs.Wholes.{HasMarks, HasMarksOf, HasWhole, WholeIf, under_way_at}
use Rattle.world_laws.proofs.Frames.{IsSameBut}

-- ---- where nothing is carried out

-- what an event without an entry leaves: all but where calls and deeds are, and of the calls that their processes may
-- make them
pub record LeavesWhole (w w' : World) (b b' : Beside) : Type 0 where
  pub journal_is : w'.journal ≡ w.journal
  pub lines_are : b'.lines ≡ b.lines
  pub kernel_is : b'.kernel ≡ b.kernel
  pub whole_is : b'.whole ≡ b.whole
  pub pids_are : (p : ℕ) → b'.pids p ≡ b.pids p
  pub bodies_are : (name : Name) → b'.body name ≡ b.body name
  pub marks_still : (p : ℕ) (a : Alive) → living_at b.whole (b.pids p) ≡ Some a
      → HasMarks (b.call p) (under_way_at w p) a → HasMarks (b'.call p) (under_way_at w' p) a

has-whole-still : (w w' : World) (b b' : Beside) → LeavesWhole w w' b b' → HasWhole w b → HasWhole w' b'
has-whole-still w w' b b' l h =
    record {
      legal = subst (λ j. Replays opening j b'.whole) (sym l.journal_is)
          (subst (λ k. Replays opening w.journal k) (sym l.whole_is) h.legal);
      lines = l.lines_are ∙ h.lines ∙ ap in_line (sym l.journal_is);
      alike = subst (λ k. IsAlike k b'.kernel) (sym l.whole_is)
          (subst (λ k. IsAlike b.whole k) (sym l.kernel_is) h.alike);
      sound = subst (λ k. IsSound k) (sym l.whole_is) h.sound;
      bodies = λ name. ap erase (l.bodies_are name) ∙ h.bodies name ∙ ap (λ k. whole_in k name) (sym l.whole_is);
      marks = λ p a lives.
          let was : living_at b.whole (b.pids p) ≡ Some a =
          ap (living_at b.whole) (sym (l.pids_are p)) ∙ ap (λ k. living_at k (b'.pids p)) (sym l.whole_is) ∙ lives
          in l.marks_still p a was (h.marks p a was);
    }

-- the kernel stays beside the world
pub whole-left-alone : (w w' : World) (b b' : Beside) (owes : Owing) → LeavesWhole w w' b b' → WholeIf owes w b
    → WholeIf owes w' b'
whole-left-alone w w' b b' Nothing l h = has-whole-still w w' b b' l h
whole-left-alone w w' b b' (AStrike p) l h = has-whole-still w w' b b' l h
whole-left-alone w w' b b' Wakes l h = tt

-- ---- calls that move

-- not parked, and not carried out
abbrev pub is_to_be_made : CallPlace → Bool
is_to_be_made Parked = false
is_to_be_made (Waits name) = false
is_to_be_made (InAnswer h reply) = false
is_to_be_made place = true

-- a call that isn't carried out may be made wherever it is
pub marks-go-on : (place next : CallPlace) (under_way : Option Call) (a : Alive) → is_to_be_made place ≡ true
    → is_to_be_made next ≡ true → HasMarks place under_way a → HasMarks next under_way a
marks-go-on place next None a from to h = h
marks-go-on place next (Some call) a from to h = to-made next call a to (made-from place call a from h)
  where
    made-from : (place : CallPlace) (call : Call) (a : Alive) → is_to_be_made place ≡ true → HasMarksOf place call a
        → may_make a call ≡ true
    made-from Parked call a from h = absurd (false≢true from)
    made-from (Waits name) call a from h = absurd (false≢true from)
    made-from (InAnswer to reply) call a from h = absurd (false≢true from)
    made-from place call a from h = h

    to-made : (place : CallPlace) (call : Call) (a : Alive) → is_to_be_made place ≡ true → may_make a call ≡ true
        → HasMarksOf place call a
    to-made Parked call a to h = absurd (false≢true to)
    to-made (Waits name) call a to h = absurd (false≢true to)
    to-made (InAnswer from reply) call a to h = absurd (false≢true to)
    to-made place call a to h = h

-- where only one node's call moves or ends, only that is to be shown
pub marks-of-others : (w w' : World) (call changed : ℕ → CallPlace) (x : ℕ) → IsSameBut x call changed
    → ((y : ℕ) → y ≢ x → under_way_at w' y ≡ under_way_at w y) → (p : ℕ) (a : Alive)
    → (p ≡ x → HasMarks (call x) (under_way_at w x) a → HasMarks (changed x) (under_way_at w' x) a)
    → HasMarks (call p) (under_way_at w p) a → HasMarks (changed p) (under_way_at w' p) a
marks-of-others w w' call changed x same others p a own h =
    elim (cases_eq p x) [
      | inl e ↦
          subst (λ y. HasMarks (changed y) (under_way_at w' y) a) (sym e)
          (own e (subst (λ y. HasMarks (call y) (under_way_at w y) a) e h))
      | inr d ↦
          subst (λ o. HasMarks (changed p) o a) (sym (others p d))
          (subst (λ place. HasMarks place (under_way_at w p) a) (sym (same p d)) h)
    ]

-- ---- a living process in both kernels

-- a process that lives in the kernel in which nobody waits, and what it is in the one in which callers wait
pub record LivesAlike (whole : Kernel) (pid : ℕ) (b : plain.Alive) : Type 0 where
  pub alive : Alive
  pub lives : living_at whole pid ≡ Some alive
  pub row : alive.row ≡ b.row
  pub allowance : alive.row.signals.doom ≡ None → alive.marks.allowance ≡ b.allowance

-- who lives in the one lives in the other
pub lives-alike : (whole : Kernel) (k : plain_kernels.Kernel) (pid : ℕ) (b : plain.Alive) → IsAlike whole k
    → plain_kernels.living_at k pid ≡ Some b → LivesAlike whole pid b
lives-alike whole k pid b alike h =
    by-process (get whole.processes pid) (get k.processes pid) refl (alike.processes pid) h
  where
    by-process : (o : Option Process) (q : Option plain_kernels.Process) → get whole.processes pid ≡ o → AlikeAt o q
        → option_and_then plain_kernels.alive_in q ≡ Some b → LivesAlike whole pid b
    by-process (Some (Living a)) (Some (plain_kernels.Living c)) e both h =
        let same : c ≡ b = from_some c b h
        in record {
          alive = a;
          lives = ap (option_and_then alive_in) e;
          row = both.0 ∙ ap (λ (z : plain.Alive). z.row) same;
          allowance = λ undoomed. both.1 undoomed ∙ ap (λ (z : plain.Alive). z.allowance) same;
        }
    by-process (Some (Ended ending)) (Some (plain_kernels.Living c)) e both h = absurd both
    by-process (Some Gone) (Some (plain_kernels.Living c)) e both h = absurd both
    by-process None (Some (plain_kernels.Living c)) e both h = absurd both
    by-process o (Some (plain_kernels.Ended ending)) e both h = not_some b h
    by-process o (Some plain_kernels.Gone) e both h = not_some b h
    by-process o None e both h = not_some b h

-- the call due: of a process that isn't doomed any, and else its end by the signal
abbrev pub IsDueBy : Option Sig → Call → Type 0
IsDueBy None call = Unit {0}
IsDueBy (Some sig) call = call ≡ calls.Killed sig

-- A process that isn't parked may make its call where it may in the kernel in which nobody waits.
pub may-start : (a : Alive) (b : plain.Alive) (call : Call) → a.row ≡ b.row
    → (a.row.signals.doom ≡ None → a.marks.allowance ≡ b.allowance) → a.marks.parked ≡ None
    → IsDueBy a.row.signals.doom call → plain_steps.may_make b call ≡ true → may_make a call ≡ true
may-start a b call row allowance unparked due may =
    ap (λ o. not (is_some o) && plain_steps.may_make (plain_alive a) call) unparked
    ∙ by-doom a.row.signals.doom refl due
  where
    by-doom : (doom : Option Sig) → a.row.signals.doom ≡ doom → IsDueBy doom call
        → plain_steps.may_make (plain_alive a) call ≡ true
    by-doom None e due =
        ap (λ (c : plain.Alive). plain_steps.may_make c call) (λ i. record { row = row i; allowance = allowance e i })
        ∙ may
    by-doom (Some sig) e due =
        ap (plain_steps.may_make (plain_alive a)) due
        ∙ ap (λ (r : plain.Row). plain_steps.is_doomed_by r.signals.doom sig) row
        ∙ sym (ap (plain_steps.may_make b) due) ∙ may
