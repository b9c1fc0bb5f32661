-- A living process that is doomed isn't free to act any more, as calls change processes.
use Rattle.std.proofs.Common.{◌≡◌, ◌≢◌, ◌∙◌, ℕ, Bool, true, false, nat_eq, List, [], ◌∷◌, Option, Some, None, is_some, refl, ap, sym, subst, inl, inr}
use Rattle.std.specs.Prelude.{if◌then◌else◌, fold}
use Rattle.std.specs.Option.{option_map}
use Rattle.std.proofs.lemmas.Bool.{cases_eq}
use Rattle.pico_base.specs.declared.call.Call.{Call}
use Rattle.pico_base.specs.declared.reply.Ending.{Ending}
use Rattle.pico_base.specs.declared.reply.Reply.{Reply}
use Rattle.pico_base.specs.declared.signal.Sig.{Sig}
use Rattle.pico_base.specs.declared.signal.Sig.TheVariants.{Chld}
use Rattle.number_maps.specs.Maps.{Numbered, put}
use Rattle.kernel_model.specs.Row.{Allowance, EndedChild, Free, Spent, Waited, Found, NotYet, NoChild, allowance_after_raise, family_after_end, ignores_children}
use Rattle.kernel_model.specs.Signals.{raise}
use Rattle.kernel_laws.proofs.Plain.{from_some, not_some}
use Rattle.kernel_laws.proofs.SignalLaws.{no-doom}
use Rattle.waiting_model.specs.declared.callers.Wake.{Wake}
use Rattle.waiting_model.specs.Marks.{Alive, after_reply, raise_by_other, spent, with_family}
use Rattle.waiting_model.specs.Kernel.{Kernel, Process, Living, Gone, alive_in, change_living, living_at, living_in, wake_one, with_alive}
use Rattle.waiting_model.specs.ProcessCalls.{after_waiting, bury, found_after_end, parent_after_end, raise_chld}
use Rattle.waiting_model.specs.Transition.{after_call, allowance_after, finish_call}
use Rattle.waiting_laws.proofs.People.{living-changed, living-put-other, living-put-same}
use Rattle.waiting_laws.proofs.Rows.{KeepsRow, keeps-called, keeps-replied}

-- a living process that is free isn't doomed
abbrev pub IsFair : Alive → Type 0
IsFair a = a.marks.allowance ≡ Free → a.row.signals.doom ≡ None

-- so it is of whoever lives under that number
abbrev pub FairAt : Numbered Process → ℕ → Type 0
FairAt ps pid = (a : Alive) → living_in ps pid ≡ Some a → IsFair a

-- and of everyone who lives
abbrev pub AllFair : Numbered Process → Type 0
AllFair ps = (pid : ℕ) → FairAt ps pid

-- In an entry of the caller the caller itself may be doomed, and not yet have had its last turn.
abbrev pub OthersFair : ℕ → Numbered Process → Type 0
OthersFair caller ps = (pid : ℕ) → pid ≢ caller → FairAt ps pid

-- ---- one process changes

pub fair-put : (ps : Numbered Process) (n : ℕ) (x : Process) (pid : ℕ) → (pid ≡ n → (b : Alive) → alive_in x ≡ Some b
    → IsFair b) → (pid ≢ n → FairAt ps pid) → FairAt (put ps n x) pid
fair-put ps n x pid new old a lives =
    elim (cases_eq pid n) [
      | inl same ↦
          new same a
          (sym (living-put-same ps n x) ∙ subst (λ (i : ℕ). living_in (put ps n x) i ≡ Some a) same lives)
      | inr ne ↦ old ne a (sym (living-put-other ps n x pid ne) ∙ lives)
    ]

-- the caller changes
pub fair-own : (caller : ℕ) (ps : Numbered Process) (x : Process) → OthersFair caller ps
    → OthersFair caller (put ps caller x)
fair-own caller ps x fair pid ne =
    fair-put ps caller x pid (λ same. absurd (ne same)) (λ other. fair pid ne)

-- another living process
pub fair-other : (caller : ℕ) (ps : Numbered Process) (n : ℕ) (b : Alive) → OthersFair caller ps
    → (n ≢ caller → IsFair b) → OthersFair caller (put ps n (Living b))
fair-other caller ps n b fair new pid ne =
    fair-put ps n (Living b) pid
    (λ same c is.
    subst (λ (d : Alive). IsFair d) (from_some b c is) (new (λ own. ne (same ∙ own))))
    (λ other. fair pid ne)

-- one that doesn't live any more
pub fair-over : (caller : ℕ) (ps : Numbered Process) (n : ℕ) (x : Process) → OthersFair caller ps → alive_in x ≡ None
    → OthersFair caller (put ps n x)
fair-over caller ps n x fair over pid ne =
    fair-put ps n x pid (λ same b is. not_some b (sym over ∙ is)) (λ other. fair pid ne)

-- the children of a process that ends
pub fair-buried : (caller : ℕ) (es : List EndedChild) (ps : Numbered Process) → OthersFair caller ps
    → OthersFair caller (fold bury ps es)
fair-buried caller [] ps fair = fair
fair-buried caller (e ∷ es) ps fair =
    fair-buried caller es (put ps e.pid Gone) (fair-over caller ps e.pid Gone fair refl)

-- ---- a signal that another's entry raises

undoomed-raised : (before now : Option Sig) (allowance : Allowance) → (allowance ≡ Free → before ≡ None)
    → allowance_after_raise (is_some before) (is_some now) allowance ≡ Free → now ≡ None
undoomed-raised None None allowance h e = refl
undoomed-raised None (Some g) allowance h e = cc
undoomed-raised (Some g) now allowance h e = let none = h e in cc

-- a signal that another one raises leaves nobody both free and doomed
pub fair-raised : (a : Alive) (g : Sig) → IsFair a → IsFair (raise_by_other a g)
fair-raised a g h = undoomed-raised a.row.signals.doom (raise a.row.signals g).doom a.marks.allowance h

-- nor does a wait, whether it finds a child or not
pub fair-waiting : (a : Alive) (w : Waited) → IsFair a → IsFair (after_waiting a w)
fair-waiting a (Found c ending) h = h
fair-waiting a NotYet h = h
fair-waiting a NoChild h = h

-- so it is of a parent that is told of an end, or ignores it
pub fair-chld : (b : Bool) (a : Alive) → IsFair a → IsFair (raise_chld b a)
fair-chld true a h = h
fair-chld false a h = fair-raised a Chld h

-- so it is of a parent whose child ends
pub fair-parent : (a : Alive) (child : ℕ) (ending : Ending) → IsFair a → IsFair (parent_after_end a child ending)
fair-parent a child ending h =
    let ignored = ignores_children a.row
    in let bereft = with_family a (family_after_end a.row.family child ending ignored)
    in let w = found_after_end a child ending
    in fair-chld ignored (after_waiting bereft w) (fair-waiting bereft w h)

-- ---- marks alone

marked-fair : (f : Alive → Alive) → KeepsRow f → (b : Bool) (o : Option Alive)
    → ((a : Alive) → o ≡ Some a → IsFair a) → (c : Alive) → option_map (λ a. if b then f a else a) o ≡ Some c
    → IsFair c
marked-fair f keeps b None fair c is = not_some c is
marked-fair f keeps true (Some a) fair c is =
    subst (λ (d : Alive). IsFair d) (from_some (f a) c is)
    (λ free. ap (λ r. r.signals.doom) (keeps.row a) ∙ fair a refl (sym (keeps.allowance a) ∙ free))
marked-fair f keeps false (Some a) fair c is = fair c is

-- a change that keeps row and allowance dooms nobody who is free
pub fair-marked : (ps : Numbered Process) (n : ℕ) (f : Alive → Alive) → KeepsRow f → (pid : ℕ) → FairAt ps pid
    → FairAt (change_living ps n f) pid
fair-marked ps n f keeps pid fair a lives =
    marked-fair f keeps (nat_eq n pid) (living_in ps pid) fair a (sym (living-changed ps n f pid) ∙ lives)

-- replies to those who wait doom nobody who is free
pub fair-woken : (ps : Numbered Process) (wakes : List Wake) (pid : ℕ) → FairAt ps pid
    → FairAt (fold wake_one ps wakes) pid
fair-woken ps [] pid fair = fair
fair-woken ps (w ∷ wakes) pid fair =
    fair-woken (change_living ps w.pid after_reply) wakes pid
    (fair-marked ps w.pid after_reply keeps-replied pid fair)

-- ---- the caller's last turn

isnt-free : (a : Alive) → IsFair (spent a)
isnt-free a free = absurd (let spent_is : Spent ≡ Free = free in cc)

fair-spent : (k : Kernel) (pid : ℕ) (a : Alive) → living_at k pid ≡ Some a → OthersFair pid k.processes → (b : Bool)
    → is_some a.row.signals.doom ≡ b
    → (let j : Kernel = (if b then with_alive k pid (spent a) else k) in AllFair j.processes)
fair-spent k pid a lives fair true doomed q =
    fair-put k.processes pid (Living (spent a)) q
    (λ same c is. subst (λ (d : Alive). IsFair d) (from_some (spent a) c is) (isnt-free a))
    (λ ne. fair q ne)
fair-spent k pid a lives fair false undoomed q =
    elim (cases_eq q pid) [
      | inl same ↦
          λ c living free.
          (let is : living_at k pid ≡ Some c = subst (λ (i : ℕ). living_at k i ≡ Some c) same living
          in subst (λ (d : Alive). d.row.signals.doom ≡ None) (from_some a c (sym lives ∙ is))
          (no-doom a.row.signals.doom undoomed))
      | inr ne ↦ fair q ne
    ]

fair-allowed : (k : Kernel) (pid : ℕ) → OthersFair pid k.processes → (o : Option Alive) → living_at k pid ≡ o
    → (let j : Kernel = allowance_after k pid o in AllFair j.processes)
fair-allowed k pid fair None lives q =
    elim (cases_eq q pid) [
      | inl same ↦
          λ c living. not_some c (sym lives ∙ subst (λ (i : ℕ). living_at k i ≡ Some c) same living)
      | inr ne ↦ fair q ne
    ]
fair-allowed k pid fair (Some a) lives q = fair-spent k pid a lives fair (is_some a.row.signals.doom) refl q

-- a doomed caller isn't free afterwards
pub fair-finished : (k : Kernel) (pid : ℕ) (call : Call) (own : Option Reply) → OthersFair pid k.processes
    → (let j : Kernel = finish_call k pid call own in AllFair j.processes)
fair-finished k pid call own fair q =
    fair-marked (allowance_after k pid (living_at k pid)).processes pid (after_call call own) (keeps-called call own) q
    (fair-allowed k pid fair (living_at k pid) refl q)
