-- What an entry leaves of the processes that didn't make it: who lives lives on, and may do what it might before; who
-- has ended stays so, or is gone; and the kernel stays valid.
use Rattle.std.proofs.Common.{◌≡◌, ◌≢◌, ℕ, Bool, true, false, not, List, [], ◌∷◌, Option, Some, None, refl, ap, sym, subst, ◌∙◌, inl, inr}
use Rattle.std.specs.Prelude.{is_some, fold, Contains}
use Rattle.std.specs.Option.{option_and_then}
use Rattle.std.proofs.lemmas.Bool.{cases_eq, false≢true}
use Rattle.pico_base.specs.declared.call.Call.{Call}
use Rattle.pico_base.specs.declared.call.Call.TheVariants as calls
use Rattle.pico_base.specs.declared.reply.Ending.{Ending}
use Rattle.pico_base.specs.declared.reply.Outcome.{Outcome}
use Rattle.pico_base.specs.declared.reply.Reply.{Reply}
use Rattle.pico_base.specs.declared.reply.Reply.TheVariants as replies
use Rattle.pico_base.specs.declared.signal.Sig.{Sig}
use Rattle.pico_base.specs.declared.signal.Sig.TheVariants.{Chld}
use Rattle.number_maps.specs.Maps.{Numbered, get, put, is_used}
use Rattle.number_maps.proofs.LookUps.{get-put-same, get-put-other}
use Rattle.kernel_model.specs.Signals.{Signals, raise}
use Rattle.kernel_model.specs.Row.{Alive, Allowance, Spent, EndedChild, ended_child, allowance_after_raise, family_after_end, ignores_children, raise_by_other, with_ended_child}
use Rattle.kernel_model.specs.Kernel.{Kernel, Process, Parent, alive_in, living_at, with_alive, parent_in}
use Rattle.kernel_model.specs.Kernel as kernel
use Rattle.kernel_model.specs.Effect.{reply_alone}
use Rattle.kernel_model.specs.ProcessCalls.{bury, bury_all, end_under, process_after_end, processes_after_fork, processes_after_wait, parent_after_fork, parent_after_wait, new_child}
use Rattle.kernel_model.specs.Transition.{successor, transition, may_make, is_spent, is_doomed_by}
use Rattle.kernel_model.specs.History.{number_in}
use Rattle.kernel_model.specs.Valid.{IsValid}
use Rattle.waiting_model.specs.Linear.{LeadsTo, Does, Counts, BreaksOff, at_once, line_of}
use Rattle.kernel_laws.specs.Processes.{NoneListsItself}
use Rattle.kernel_laws.proofs.EndChanges.{parent-is}
use Rattle.kernel_laws.proofs.EntryLaws.{entries_keep_validity_lemma}
use Rattle.kernel_laws.proofs.Members.{contains-first, contains-later, found-contained}
use Rattle.kernel_laws.proofs.Moves.{Moves, after-step}
use Rattle.kernel_laws.proofs.People.{from-living, to-living}
use Rattle.kernel_laws.proofs.Plain.{by_test}
use Rattle.kernel_laws.proofs.Steps.{step}
use Rattle.kernel_laws.proofs.Tables.{fresh-unused}
use Rattle.entry_laws.specs.Entering.{Makes, IsAsFree, TurnsTo, LeavesOthers}

-- ---- what a process may do

pub as-free-itself : (a : Alive) → IsAsFree a a
as-free-itself a = record { unspent = λ h. h; doomed = λ sig h. h }

pub as-free-again : (a b c : Alive) → IsAsFree a b → IsAsFree b c → IsAsFree a c
as-free-again a b c f g = record {
  unspent = λ h. g.unspent (f.unspent h);
  doomed = λ sig h. g.doomed sig (f.doomed sig h);
}

unspent-from : (t : Bool) → not t ≡ true → t ≡ false
unspent-from true h = absurd (cc)
unspent-from false h = refl

not-spent : (t : Bool) → t ≡ false → not t ≡ true
not-spent t h = ap not h

-- who is as free makes the same calls
pub may-still : (a b : Alive) → IsAsFree a b → (call : Call) → may_make a call ≡ true → may_make b call ≡ true
may-still a b f (calls.Killed sig) h = f.doomed sig h
may-still a b f call h = not-spent (is_spent b.allowance) (f.unspent (unspent-from (is_spent a.allowance) h))

raised-unspent : (before now : Bool) (allowance : Allowance) → is_spent allowance ≡ false
    → is_spent (allowance_after_raise before now allowance) ≡ false
raised-unspent true now allowance h = h
raised-unspent false true allowance h = refl
raised-unspent false false allowance h = h

raised-doomed : (s : Signals) (o : Option Sig) (g sig : Sig) → s.doom ≡ o → is_doomed_by o sig ≡ true
    → is_doomed_by (raise s g).doom sig ≡ true
raised-doomed s None g sig is h = absurd (cc)
raised-doomed s (Some d) g sig is h =
    let doomed : is_some s.doom ≡ true = ap is_some is
    in by_test (λ (x : Signals). is_doomed_by x.doom sig ≡ true) (is_some s.doom) s _
    (λ t. ap (λ (o : Option Sig). is_doomed_by o sig) is ∙ h) (λ t. absurd (false≢true (sym t ∙ doomed)))

-- a raise by another takes nothing away
pub as-free-raised : (a : Alive) (g : Sig) → IsAsFree a (raise_by_other a g)
as-free-raised a g =
    record {
      unspent = raised-unspent (is_some a.row.signals.doom) (is_some (raise a.row.signals g).doom) a.allowance;
      doomed = λ sig h. raised-doomed a.row.signals a.row.signals.doom g sig refl h;
    }

-- nor does a child's end
pub as-free-parent : (a : Alive) (child : ℕ) (ending : Ending) → IsAsFree a (with_ended_child a child ending)
as-free-parent a child ending =
    let next : Alive = record a {
      row = record {
        signals = a.row.signals;
        family = family_after_end a.row.family child ending (ignores_children a.row);
      };
    }
    in let kept : IsAsFree a next = record { unspent = λ h. h; doomed = λ sig h. h }
    in by_test (IsAsFree a) (ignores_children a.row) next (raise_by_other next Chld) (λ t. kept)
    (λ t. as-free-again a next (raise_by_other next Chld) kept (as-free-raised next Chld))

-- ---- what a process turns to

turns-itself : (o : Option Process) → TurnsTo o o
turns-itself None = tt
turns-itself (Some (kernel.Living a)) = (a, refl, as-free-itself a)
turns-itself (Some (kernel.Ended e)) = inl refl
turns-itself (Some kernel.Gone) = refl

turns-same : (o p : Option Process) → p ≡ o → TurnsTo o p
turns-same o p same = subst (λ (q : Option Process). TurnsTo o q) (sym same) (turns-itself o)

-- an entry leaves a process at this number
abbrev Turned : Numbered Process → ℕ → Kernel → Type 0
Turned ps p j = TurnsTo (get ps p) (get j.processes p)

alive-turns : (o p : Option Process) (a b : Alive) → o ≡ Some (kernel.Living a) → p ≡ Some (kernel.Living b)
    → IsAsFree a b → TurnsTo o p
alive-turns o p a b was is f =
    subst (λ (q : Option Process). TurnsTo q p) (sym was) (b, is, f)

ended-turns : (o p : Option Process) (e : Ending) → o ≡ Some (kernel.Ended e) → p ≡ Some kernel.Gone → TurnsTo o p
ended-turns o p e was is = subst (λ (q : Option Process). TurnsTo q p) (sym was) (inr is)

-- the ended children of a process are gone
gone-turns : (ps qs : Numbered Process) (p n : ℕ) (e : Ending) → get ps n ≡ Some (kernel.Ended e)
    → TurnsTo (get ps p) (get qs p) → TurnsTo (get ps p) (get (put qs n kernel.Gone) p)
gone-turns ps qs p n e was h =
    elim (cases_eq p n) [
      | inl same ↦
          subst (λ (q : ℕ). TurnsTo (get ps q) (get (put qs n kernel.Gone) q)) (sym same)
          (ended-turns (get ps n) (get (put qs n kernel.Gone) n) e was (get-put-same qs n kernel.Gone))
      | inr other ↦
          subst (λ (o : Option Process). TurnsTo (get ps p) o) (sym (get-put-other qs n kernel.Gone p other)) h
    ]

buried-turns : (ps : Numbered Process) (es : List EndedChild) (qs : Numbered Process) (p : ℕ)
    → ((q : ℕ) (e : Ending) → Contains es (ended_child q e) → get ps q ≡ Some (kernel.Ended e))
    → TurnsTo (get ps p) (get qs p) → TurnsTo (get ps p) (get (fold bury qs es) p)
buried-turns ps [] qs p kept h = h
buried-turns ps (e ∷ es) qs p kept h =
    buried-turns ps es (bury qs e) p (λ q d c. kept q d (contains-later e es (ended_child q d) c))
    (gone-turns ps qs p e.pid e.ending (kept e.pid e.ending (contains-first e es)) h)

-- a child's end
parent-turns : (ps qs : Numbered Process) (p : ℕ) (parent : Parent) (child : ℕ) (ending : Ending)
    → get ps parent.pid ≡ Some (kernel.Living parent.alive) → TurnsTo (get ps p) (get qs p)
    → TurnsTo (get ps p) (get (put qs parent.pid (kernel.Living (with_ended_child parent.alive child ending))) p)
parent-turns ps qs p parent child ending was h =
    let v : Process = kernel.Living (with_ended_child parent.alive child ending)
    in elim (cases_eq p parent.pid) [
      | inl same ↦
          subst (λ (q : ℕ). TurnsTo (get ps q) (get (put qs parent.pid v) q)) (sym same)
          (alive-turns (get ps parent.pid) (get (put qs parent.pid v) parent.pid) parent.alive
          (with_ended_child parent.alive child ending) was (get-put-same qs parent.pid v)
          (as-free-parent parent.alive child ending))
      | inr other ↦
          subst (λ (o : Option Process). TurnsTo (get ps p) o) (sym (get-put-other qs parent.pid v p other)) h
    ]

none-at : (o : Option Process) → false ≡ is_some o → o ≡ None
none-at None h = refl
none-at (Some p) h = absurd (false≢true h)

-- ---- by what the entry changes

module _ (k : Kernel) (valid : IsValid k) (pid p : ℕ) (apart : p ≢ pid) where
  abbrev ps : Numbered Process
  ps = k.processes

  here : Turned ps p k
  here = turns-itself (get ps p)

  own : (v : Process) → Turned ps p (record k { processes = put k.processes pid v })
  own v = turns-same (get ps p) (get (put ps pid v) p) (get-put-other ps pid v p apart)

  forks : (a : Alive) (n : ℕ) → is_used k.used_processes n ≡ false
      → TurnsTo (get ps p) (get (processes_after_fork ps pid a n) p)
  forks a n unused =
      let mid : Numbered Process = put ps n (kernel.Living (new_child a))
      in elim (cases_eq p n) [
        | inl same ↦
            let none : get ps p ≡ None = ap (get ps) same ∙ none-at (get ps n) (sym unused ∙ valid.used_processes n)
            in subst (λ (o : Option Process). TurnsTo o (get (processes_after_fork ps pid a n) p)) (sym none) tt
        | inr other ↦
            turns-same (get ps p) (get (processes_after_fork ps pid a n) p)
            (get-put-other mid pid (kernel.Living (parent_after_fork a n)) p apart
            ∙ get-put-other ps n (kernel.Living (new_child a)) p other)
      ]

  reaps : (a : Alive) (child : ℕ) (e : Ending) → get ps child ≡ Some (kernel.Ended e)
      → TurnsTo (get ps p) (get (processes_after_wait ps pid a child) p)
  reaps a child e was =
      let v : Process = kernel.Living (parent_after_wait a child)
      in gone-turns ps (put ps pid v) p child e was (own v)

  raises : (other : ℕ) (target : Alive) (g : Sig) → get ps other ≡ Some (kernel.Living target)
      → Turned ps p (with_alive k other (raise_by_other target g))
  raises other target g was =
      let v : Process = kernel.Living (raise_by_other target g)
      in elim (cases_eq p other) [
        | inl same ↦
            subst (λ (q : ℕ). TurnsTo (get ps q) (get (put ps other v) q)) (sym same)
            (alive-turns (get ps other) (get (put ps other v) other) target (raise_by_other target g) was
            (get-put-same ps other v) (as-free-raised target g))
        | inr ne ↦ turns-same (get ps p) (get (put ps other v) p) (get-put-other ps other v p ne)
      ]

  ends-under : (a : Alive) (ending : Ending) → living_at k pid ≡ Some a → (found : Option Parent)
      → parent_in pid ps ≡ found → TurnsTo (get ps p) (get (end_under (bury_all ps a.row.family) pid ending found) p)
  ends-under a ending lives None is =
      let mid : Numbered Process = bury_all ps a.row.family
      in subst (λ (o : Option Process). TurnsTo (get ps p) o) (sym (get-put-other mid pid kernel.Gone p apart))
      (buried-turns ps a.row.family.ended ps p (λ q e c. (valid.alive pid a lives).ended q e c) here)
  ends-under a ending lives (Some parent) is =
      let mid : Numbered Process = bury_all ps a.row.family
      in let v : Process = process_after_end (ignores_children parent.alive.row) ending
      in let w = parent-is pid ps valid.processes parent is
      in parent-turns ps (put mid pid v) p parent pid ending w.0
      (subst (λ (o : Option Process). TurnsTo (get ps p) o) (sym (get-put-other mid pid v p apart))
      (buried-turns ps a.row.family.ended ps p (λ q e c. (valid.alive pid a lives).ended q e c) here))

  moves : (a : Alive) (n : ℕ) → living_at k pid ≡ Some a → Moves (Turned ps p) k pid a n
  moves a n lives =
      record {
        same = here;
        forks = λ f. forks a n (fresh-unused k.used_processes n f);
        ends = λ ending. ends-under a ending lives (parent_in pid ps) refl;
        acts = λ g act kill. own _;
        masks = λ how set. own _;
        raises_own = λ target g t. own _;
        raises_other = λ other target g t. raises other target g t;
        reaps = λ which child ending e.
            reaps a child ending
            ((valid.alive pid a lives).ended child ending (found-contained a.row.family which child ending e));
        makes_queue = λ f. here;
        binds_queue = λ key f. here;
        sends = λ id class text q next t e. here;
        receives = λ id class size noerror q r t e. here;
        limits = λ id qbytes q next t e. here;
        removes_queue = λ id. here;
        makes_set = λ count set e f. here;
        binds_set = λ key count set e f. here;
        operates = λ id steps set next t e. here;
        sets_one = λ id num value set next t e. here;
        fills = λ id values set next t e. here;
        removes_set = λ id. here;
      }

  pub turned : (call : Call) (n : ℕ) (next : Kernel) (outcome : Outcome)
      → transition k pid call n ≡ Some (successor next outcome) → TurnsTo (get ps p) (get next.processes p)
  turned call n next outcome t =
      let s = step k pid call n next outcome t
      in after-step (Turned ps p) k pid call n next outcome s (moves s.alive n s.lives)
      (λ j a h l d.
      subst (λ (o : Option Process). TurnsTo (get ps p) o)
      (sym (get-put-other j.processes pid (kernel.Living (record a { allowance = Spent })) p apart)) h)

-- the kernel's own step does
stepped : (k : Kernel) (pid : ℕ) (call : Call) (n : ℕ) (next : Kernel) (outcome : Outcome) → IsValid k
    → NoneListsItself k → transition k pid call n ≡ Some (successor next outcome) → LeavesOthers k pid next
stepped k pid call n next outcome valid alone step =
    let kept = entries_keep_validity_lemma k next pid call n outcome valid alone step
    in record {
      valid = kept.0;
      alone = kept.1;
      others = λ p apart. turned k valid pid p apart call n next outcome step;
    }

-- where nothing is done all are as they were
turns-to-itself : (o : Option Process) → TurnsTo o o
turns-to-itself None = tt
turns-to-itself (Some (kernel.Living a)) = (a, refl, as-free-itself a)
turns-to-itself (Some (kernel.Ended ending)) = inl refl
turns-to-itself (Some kernel.Gone) = refl

stayed : (k : Kernel) (pid : ℕ) (next : Kernel) → IsValid k → NoneListsItself k → next ≡ k → LeavesOthers k pid next
stayed k pid next valid alone same =
    subst (LeavesOthers k pid) (sym same)
    (record { valid = valid; alone = alone; others = λ p apart. turns-to-itself (get k.processes p) })

led-on : (k : Kernel) (pid : ℕ) (call : Call) (reply : Reply) (next : Kernel) → IsValid k → NoneListsItself k
    → LeadsTo k (line_of 0 pid call reply) next → LeavesOthers k pid next
led-on k pid call reply next valid alone (Does step) =
    stepped k pid (at_once call) (number_in (Some reply)) next (reply_alone reply) valid alone step
led-on k pid call reply next valid alone (Counts n counts is step) =
    stepped k pid call 0 next (reply_alone (replies.Num 0)) valid alone step
led-on k pid call reply next valid alone (BreaksOff error parks broken is same) = stayed k pid next valid alone same

-- each entry keeps the kernel valid, and the others as free as they were
pub goes : (k : Kernel) (pid : ℕ) (call : Call) (reply : Reply) (next : Kernel) → IsValid k → NoneListsItself k
    → Makes k pid call reply next → LeavesOthers k pid next
goes k pid call reply next valid alone makes = led-on k pid call reply next valid alone (makes.leads 0)

-- ---- the same in words of the invariant

pub record StillMay (next : Kernel) (p : ℕ) (a : Alive) : Type 0 where
  pub alive : Alive
  pub lives : living_at next p ≡ Some alive
  pub may : (call : Call) → may_make a call ≡ true → may_make alive call ≡ true

still-from : (next : Kernel) (p : ℕ) (a : Alive) (o : Option Process) → o ≡ Some (kernel.Living a)
    → TurnsTo o (get next.processes p) → StillMay next p a
still-from next p a o was h =
    let g : TurnsTo (Some (kernel.Living a)) (get next.processes p) =
    subst (λ (q : Option Process). TurnsTo q (get next.processes p)) was h
    in record {
      alive = g.0;
      lives = to-living next.processes p g.0 g.1;
      may = may-still a g.0 g.2;
    }

-- a process that lives and may make a call still may
pub others-still-may : (k : Kernel) (pid : ℕ) (next : Kernel) (p : ℕ) (a : Alive) → LeavesOthers k pid next → p ≢ pid
    → living_at k p ≡ Some a → StillMay next p a
others-still-may k pid next p a g apart lives =
    still-from next p a (get k.processes p) (from-living k.processes p a lives) (g.others p apart)

dead-from : (k next : Kernel) (p : ℕ) (o : Option Process) → get k.processes p ≡ o → is_some o ≡ true
    → living_at k p ≡ None → TurnsTo o (get next.processes p) → living_at next p ≡ None
dead-from k next p None there used dead h = absurd (false≢true used)
dead-from k next p (Some (kernel.Living a)) there used dead h =
    let lives : living_at k p ≡ Some a = ap (option_and_then alive_in) there in absurd (cc)
dead-from k next p (Some (kernel.Ended e)) there used dead (inl is) = ap (option_and_then alive_in) is
dead-from k next p (Some (kernel.Ended e)) there used dead (inr is) = ap (option_and_then alive_in) is
dead-from k next p (Some kernel.Gone) there used dead is = ap (option_and_then alive_in) is

-- a process that doesn't live any more stays so
pub others-stay-dead : (k : Kernel) (pid : ℕ) (next : Kernel) (p : ℕ) → LeavesOthers k pid next → p ≢ pid
    → is_some (get k.processes p) ≡ true → living_at k p ≡ None → living_at next p ≡ None
others-stay-dead k pid next p g apart there dead =
    dead-from k next p (get k.processes p) refl there dead (g.others p apart)

pub record Lived (k : Kernel) (p : ℕ) : Type 0 where
  pub alive : Alive
  pub lives : living_at k p ≡ Some alive

lived-from : (k : Kernel) (p : ℕ) (o : Option Alive) → living_at k p ≡ o → (o ≡ None → ⊥) → Lived k p
lived-from k p None is h = absurd (h refl)
lived-from k p (Some a) is h = record { alive = a; lives = is }

none-lives : (o : Option Alive) (b : Alive) → o ≡ Some b → o ≡ None → ⊥
none-lives o b h g = absurd (cc)

-- a process that lives afterwards lived before, but for a new one
pub others-lived : (k : Kernel) (pid : ℕ) (next : Kernel) (p : ℕ) (b : Alive) → LeavesOthers k pid next → p ≢ pid
    → is_some (get k.processes p) ≡ true → living_at next p ≡ Some b → Lived k p
others-lived k pid next p b g apart there lives =
    lived-from k p (living_at k p) refl
    (λ dead. none-lives (living_at next p) b lives (others-stay-dead k pid next p g apart there (dead)))
