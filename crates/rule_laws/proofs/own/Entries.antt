-- What an entry of a process leaves of the parts of the invariant that look at the kernel and at the places of its
-- history, where it makes no process and ends none: the numbers of processes, the families, and the calls of others.
use Rattle.std.proofs.Common.{◌≡◌, ◌≢◌, ◌⊎◌, ℕ, Bool, true, false, [], Option, Some, None, is_some, refl, ap, sym, subst, ◌∙◌, inl, inr}
use Rattle.std.specs.List.{list_any}
use Rattle.std.specs.Option.{option_and_then}
use Rattle.std.proofs.lemmas.Bool.{cases_eq, false≢true}
use Rattle.pico_base.specs.declared.call.Call.{Call}
use Rattle.pico_base.specs.declared.numbers.Name.TheVariants.{Proc}
use Rattle.pico_base.specs.declared.script.Line.{Line}
use Rattle.pico_base.specs.declared.script.Script.{Script}
use Rattle.number_maps.specs.Maps.{get}
use Rattle.kernel_model.specs.Row.{Alive}
use Rattle.kernel_model.specs.Kernel.{Kernel, Process, living_at}
use Rattle.kernel_model.specs.Kernel as kernel
use Rattle.kernel_model.specs.Fitting.{Place, Places}
use Rattle.kernel_model.specs.Transition.{may_make}
use Rattle.kernel_model.specs.Valid.{IsValid}
use Rattle.kernel_laws.proofs.People.{from-living}
use Rattle.entry_laws.specs.Entering.{IsKin, LeavesOthers, is_used_name}
use Rattle.entry_laws.proofs.Listed.{ListsOne}
use Rattle.entry_laws.proofs.Numbers.{process-there}
use Rattle.entry_laws.proofs.Others.{Lived, others-lived, others-stay-dead, others-still-may}
use Rattle.world_model.specs.Lives.{names_block}
use Rattle.world_laws.specs.Families.{PidsHold}

-- ---- the entry

-- What it leaves: the kernel is valid, and all others may do what they might; its process lives on; no process is made;
-- parents and children are so as before; and in the history its process alone has moved on, and has more to do.
pub record EntryLeaves (k : Kernel) (places : Places) (pid : ℕ) (next : Kernel) (after : Places) : Type 0 where
  pub valid : IsValid k
  pub others : LeavesOthers k pid next
  pub lived : Lived k pid
  pub lives : Lived next pid
  pub processes : (q : ℕ) → is_used_name next (Proc q) ≡ is_used_name k (Proc q)
  pub kin : (parent q : ℕ) → IsKin k parent q → IsKin next parent q
  pub listed : (q child : ℕ) → ListsOne next q child → ListsOne k q child
  pub was : Place
  pub place_was : get places pid ≡ Some was
  pub now : Place
  pub place_is : get after pid ≡ Some now
  pub places_stay : (q : ℕ) → q ≢ pid → get after q ≡ get places q
  pub more_left : now.left ≢ []
  pub shrinks : (test : Line → Bool) → list_any test now.left ≡ true → list_any test was.left ≡ true

-- a process that might make a call may still
pub record MayStill (after : Option Alive) (a : Alive) : Type 0 where
  pub alive : Alive
  pub lives : after ≡ Some alive
  pub may : (call : Call) → may_make a call ≡ true → may_make alive call ≡ true

-- who lives lives on, and may do what it might, and who doesn't live doesn't afterwards
pub record StillLives (before after : Option Alive) : Type 0 where
  pub lives : (a : Alive) → before ≡ Some a → MayStill after a
  pub dead : before ≡ None → after ≡ None

none-is-some : {A : Type 0} (a : A) → None ≡ Some a → ⊥
none-is-some a h = cc

same-in-some : {A : Type 0} (a c : A) → Some a ≡ Some c → a ≡ c
same-in-some a c h = cc

module _ (k next : Kernel) (places after : Places) (pid : ℕ) (l : EntryLeaves k places pid next after) where
  -- as many processes are there
  pub there-same : (q : ℕ) → is_some (get next.processes q) ≡ is_some (get k.processes q)
  there-same q =
      process-there next q l.others.valid ∙ l.processes q ∙ sym (process-there k q l.valid)

  -- the others go on as before
  pub others-go-on : (q : ℕ) → q ≢ pid → StillLives (living_at k q) (living_at next q)
  others-go-on q other =
      record {
        lives = λ a lives.
            let m = others-still-may k pid next q a l.others other lives
            in record { alive = m.alive; lives = m.lives; may = m.may };
        dead = λ dead. by-process (get k.processes q) refl dead;
      }
    where
      nobody : (o : Option Process) → is_some o ≡ false → o ≡ None
      nobody None h = refl
      nobody (Some process) h = absurd (false≢true (sym h))

      by-process : (o : Option Process) → get k.processes q ≡ o → living_at k q ≡ None → living_at next q ≡ None
      by-process (Some process) is dead =
          others-stay-dead k pid next q l.others other (ap is_some is) dead
      by-process None is dead =
          ap (option_and_then kernel.alive_in) (nobody (get next.processes q) (there-same q ∙ ap is_some is))

  -- ---- the numbers of processes

  own-or-other : (q : ℕ) (place : Place) → get after q ≡ Some place
      → (get places q ≡ Some place) ⊎ ((q ≡ pid) × (place ≡ l.now))
  own-or-other q place there =
      elim (cases_eq q pid) [
        | inl e ↦
            inr (e, same-in-some place l.now (sym there ∙ ap (get after) e ∙ l.place_is))
        | inr d ↦ inl (sym (l.places_stay q d) ∙ there)
      ]

  pub pids-after : (script : Script) (pids : ℕ → ℕ) → PidsHold script pids places k → PidsHold script pids after next
  pids-after script pids h =
      record {
        first = h.first;
        apart = h.apart;
        nodes = h.nodes;
        forked = h.forked;
        placed = λ q place there. elim (own-or-other q place there) [
          | inl old ↦ h.placed q place old
          | inr own ↦ h.placed q l.was (ap (get places) own.0 ∙ l.place_was)
        ];
        there = λ q process is. old-process q (get k.processes q) refl (sym (there-same q) ∙ ap is_some is);
        has_place = λ c forked. has-place c forked (cases_eq (pids c) pid);
        ahead = λ p c place there forked names. elim (own-or-other (pids p) place there) [
          | inl old ↦ h.ahead p c place old forked names
          | inr own ↦
              h.ahead p c l.was (ap (get places) own.0 ∙ l.place_was) forked
              (l.shrinks (λ line. names_block c line.call)
              (subst (λ (x : Place). list_any (λ line. names_block c line.call) x.left ≡ true) own.1 names))
        ];
        alive = λ c a place lives there. elim (own-or-other (pids c) place there) [
          | inl old ↦ alive-before c a place lives old (cases_eq (pids c) pid) there
          | inr own ↦ λ none. l.more_left (ap (λ (x : Place). x.left) (sym own.1) ∙ none)
        ];
        dead = λ c place forked dead there. dead-before c place forked dead there (cases_eq (pids c) pid);
      }
    where
      old-process : (q : ℕ) (o : Option Process) → get k.processes q ≡ o → is_some (get k.processes q) ≡ true
          → (c : ℕ) × (pids c ≡ q) × (q ≢ 0)
      old-process q (Some process) is some = h.there q process is
      old-process q None is some = absurd (false≢true (sym (ap is_some is) ∙ some))

      has-place : (c : ℕ) → pids c ≢ 0 → (pids c ≡ pid) ⊎ (pids c ≢ pid)
          → (place : Place) × (get after (pids c) ≡ Some place)
      has-place c forked (inl e) = (l.now, ap (get after) e ∙ l.place_is)
      has-place c forked (inr d) =
          let old = h.has_place c forked
          in (old.0, l.places_stay (pids c) d ∙ old.1)

      alive-before : (c : ℕ) (a : Alive) (place : Place) → living_at next (pids c) ≡ Some a
          → get places (pids c) ≡ Some place → (pids c ≡ pid) ⊎ (pids c ≢ pid) → get after (pids c) ≡ Some place
          → place.left ≢ []
      alive-before c a place lives there (inl e) now =
          let same : place ≡ l.now = same-in-some place l.now (sym now ∙ ap (get after) e ∙ l.place_is)
          in λ none. l.more_left (ap (λ (x : Place). x.left) (sym same) ∙ none)
      alive-before c a place lives there (inr d) now =
          let before = others-lived k pid next (pids c) a l.others d
          (sym (there-same (pids c)) ∙ ap is_some (from-living next.processes (pids c) a lives)) lives
          in h.alive c before.alive place before.lives there

      dead-before : (c : ℕ) (place : Place) → pids c ≢ 0 → living_at next (pids c) ≡ None
          → get after (pids c) ≡ Some place → (pids c ≡ pid) ⊎ (pids c ≢ pid) → place.left ≡ []
      dead-before c place forked dead there (inl e) =
          absurd (none-is-some l.lives.alive (sym dead ∙ ap (living_at next) e ∙ l.lives.lives))
      dead-before c place forked dead there (inr d) =
          h.dead c place forked (was-dead (living_at k (pids c)) refl) (sym (l.places_stay (pids c) d) ∙ there)
        where
          was-dead : (o : Option Alive) → living_at k (pids c) ≡ o → living_at k (pids c) ≡ None
          was-dead None is = is
          was-dead (Some a) is =
              let m = others-still-may k pid next (pids c) a l.others d is
              in absurd (none-is-some m.alive (sym dead ∙ m.lives))
