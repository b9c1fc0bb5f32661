-- Two kernels that are alike, process by process: what a change of one process leaves of that, in both or in one.
use Rattle.std.proofs.Common.{◌≡◌, ◌≢◌, ◌∙◌, ℕ, Bool, true, false, nat_eq, List, [], ◌∷◌, Option, Some, None, is_some, refl, ap, sym, subst, inl, inr}
use Rattle.std.specs.Prelude.{if◌then◌else◌, fold}
use Rattle.std.specs.Option.{option_map, option_and_then}
use Rattle.std.proofs.lemmas.Bool.{cases_eq}
use Rattle.pico_base.specs.declared.call.Call.{Call}
use Rattle.pico_base.specs.declared.signal.Sig.{Sig}
use Rattle.pico_base.specs.declared.reply.Reply.{Reply}
use Rattle.number_maps.specs.Maps.{Numbered, get, put}
use Rattle.number_maps.proofs.LookUps.{get-put-same, get-put-other}
use Rattle.kernel_model.specs.Row.{Row, Allowance, Spent}
use Rattle.kernel_model.specs.Row as plain_rows
use Rattle.kernel_model.specs.Kernel as plain
use Rattle.kernel_model.specs.Transition as plain_steps
use Rattle.kernel_laws.proofs.Plain.{from_some, not_some}
use Rattle.kernel_laws.proofs.People.{from-living as plain-from-living}
use Rattle.waiting_model.specs.declared.callers.Wake.{Wake}
use Rattle.waiting_model.specs.Marks.{Alive, after_reply, spent}
use Rattle.waiting_model.specs.Kernel.{Kernel, Process, Living, Ended, Gone, alive_in, change_living, living_at, living_in, wake_one, where_living, with_alive}
use Rattle.waiting_model.specs.Plain.{each}
use Rattle.waiting_model.specs.Transition.{after_call, allowance_after, finish_call}
use Rattle.waiting_laws.specs.InLine.{AlikeProcess, AlikeAt, IsAlike}
use Rattle.waiting_laws.proofs.People.{get-changed}

-- process by process
abbrev pub RowsAlike : Numbered Process → Numbered plain.Process → Type 0
RowsAlike ps qs = (pid : ℕ) → AlikeAt (get ps pid) (get qs pid)

-- alike living processes
abbrev pub AliveAlike : Alive → plain_rows.Alive → Type 0
AliveAlike a b = AlikeProcess (Living a) (plain.Living b)

-- One process changes.

-- in both kernels
pub rows-put : (ps : Numbered Process) (qs : Numbered plain.Process) → RowsAlike ps qs → (n : ℕ) (x : Process)
    → (y : plain.Process) → AlikeProcess x y → RowsAlike (put ps n x) (put qs n y)
rows-put ps qs h n x y alike q =
    elim (cases_eq q n) [
      | inl same ↦
          subst (λ (i : ℕ). AlikeAt (get (put ps n x) i) (get (put qs n y) i)) (sym same)
          (subst (λ (o : Option Process). AlikeAt o (get (put qs n y) n)) (sym (get-put-same ps n x))
          (subst (λ (o : Option plain.Process). AlikeAt (Some x) o) (sym (get-put-same qs n y)) alike))
      | inr ne ↦
          subst (λ (o : Option Process). AlikeAt o (get (put qs n y) q)) (sym (get-put-other ps n x q ne))
          (subst (λ (o : Option plain.Process). AlikeAt (get ps q) o) (sym (get-put-other qs n y q ne)) (h q))
    ]

-- in the one kernel alone
pub rows-put-left : (ps : Numbered Process) (qs : Numbered plain.Process) → RowsAlike ps qs → (n : ℕ) (x : Process)
    → AlikeAt (Some x) (get qs n) → RowsAlike (put ps n x) qs
rows-put-left ps qs h n x alike q =
    elim (cases_eq q n) [
      | inl same ↦
          subst (λ (i : ℕ). AlikeAt (get (put ps n x) i) (get qs i)) (sym same)
          (subst (λ (o : Option Process). AlikeAt o (get qs n)) (sym (get-put-same ps n x)) alike)
      | inr ne ↦
          subst (λ (o : Option Process). AlikeAt o (get qs q)) (sym (get-put-other ps n x q ne)) (h q)
    ]

-- in the other one alone
pub rows-put-right : (ps : Numbered Process) (qs : Numbered plain.Process) → RowsAlike ps qs → (n : ℕ)
    → (y : plain.Process) → AlikeAt (get ps n) (Some y) → RowsAlike ps (put qs n y)
rows-put-right ps qs h n y alike q =
    elim (cases_eq q n) [
      | inl same ↦
          subst (λ (i : ℕ). AlikeAt (get ps i) (get (put qs n y) i)) (sym same)
          (subst (λ (o : Option plain.Process). AlikeAt (get ps n) o) (sym (get-put-same qs n y)) alike)
      | inr ne ↦
          subst (λ (o : Option plain.Process). AlikeAt (get ps q) o) (sym (get-put-other qs n y q ne)) (h q)
    ]

-- Who lives.

-- a living process of the other kernel that is alike
pub record LivesAlike (o : Option plain.Process) (a : Alive) : Type 0 where
  pub alive : plain_rows.Alive
  pub is : o ≡ Some (plain.Living alive)
  pub alike : AliveAlike a alive

-- what is like a living process lives
pub lives-alike : (a : Alive) (o : Option plain.Process) → AlikeAt (Some (Living a)) o → LivesAlike o a
lives-alike a None h = absurd h
lives-alike a (Some (plain.Living b)) h = record { alive = b; is = refl; alike = h }
lives-alike a (Some (plain.Ended ending)) h = absurd h
lives-alike a (Some plain.Gone) h = absurd h

-- the same the other way round
pub record LivedAlike (o : Option Process) (b : plain_rows.Alive) : Type 0 where
  pub alive : Alive
  pub is : o ≡ Some (Living alive)
  pub alike : AliveAlike alive b

-- what a living process is like lives, too
pub lived-alike : (b : plain_rows.Alive) (o : Option Process) → AlikeAt o (Some (plain.Living b)) → LivedAlike o b
lived-alike b None h = absurd h
lived-alike b (Some (Living a)) h = record { alive = a; is = refl; alike = h }
lived-alike b (Some (Ended ending)) h = absurd h
lived-alike b (Some Gone) h = absurd h

-- a living process is one of the map
pub from-living : (ps : Numbered Process) (pid : ℕ) (a : Alive) → living_in ps pid ≡ Some a
    → get ps pid ≡ Some (Living a)
from-living ps pid a lives = by_process (get ps pid) lives
  where
    by_process : (o : Option Process) → option_and_then alive_in o ≡ Some a → o ≡ Some (Living a)
    by_process None h = not_some a h
    by_process (Some (Living b)) h =
        ap (λ (x : Alive). (let o : Option Process = Some (Living x) in o)) (from_some b a h)
    by_process (Some (Ended ending)) h = not_some a h
    by_process (Some Gone) h = not_some a h

-- and so it is in the other kernel
pub alike-living : (ps : Numbered Process) (qs : Numbered plain.Process) → RowsAlike ps qs → (pid : ℕ) (a : Alive)
    → living_in ps pid ≡ Some a → LivesAlike (get qs pid) a
alike-living ps qs h pid a lives =
    lives-alike a (get qs pid)
    (subst (λ (o : Option Process). AlikeAt o (get qs pid)) (from-living ps pid a lives) (h pid))

-- Marks alone.

-- the row stays, and so does the allowance
pub record KeepsRow (f : Alive → Alive) : Type 0 where
  pub row : (a : Alive) → (f a).row ≡ a.row
  pub allowance : (a : Alive) → (f a).marks.allowance ≡ a.marks.allowance

-- the mark of a reply touches neither row nor allowance
pub keeps-replied : KeepsRow after_reply
keeps-replied = record { row = λ a. refl; allowance = λ a. refl }

-- the caller's mark, whether it has its reply or not
pub keeps-called : (call : Call) (own : Option Reply) → KeepsRow (after_call call own)
keeps-called call None = record { row = λ a. refl; allowance = λ a. refl }
keeps-called call (Some reply) = record { row = λ a. refl; allowance = λ a. refl }

marked-alike : (f : Alive → Alive) → KeepsRow f → (b : Bool) (o : Option Process) (p : Option plain.Process)
    → AlikeAt o p → AlikeAt (option_map (λ x. if b then where_living f x else x) o) p
marked-alike f keeps true None p h = h
marked-alike f keeps true (Some (Ended ending)) p h = h
marked-alike f keeps true (Some Gone) p h = h
marked-alike f keeps true (Some (Living a)) None h = h
marked-alike f keeps true (Some (Living a)) (Some (plain.Ended ending)) h = h
marked-alike f keeps true (Some (Living a)) (Some plain.Gone) h = h
marked-alike f keeps true (Some (Living a)) (Some (plain.Living b)) h = (
  keeps.row a ∙ h.0,
  λ none. keeps.allowance a ∙ h.1 (ap (λ (r : Row). r.signals.doom) (sym (keeps.row a)) ∙ none),
)
marked-alike f keeps false None p h = h
marked-alike f keeps false (Some x) p h = h

-- other marks leave two kernels alike
pub rows-marked : (ps : Numbered Process) (qs : Numbered plain.Process) → RowsAlike ps qs → (n : ℕ)
    → (f : Alive → Alive) → KeepsRow f → RowsAlike (change_living ps n f) qs
rows-marked ps qs h n f keeps q =
    subst (λ (o : Option Process). AlikeAt o (get qs q)) (sym (get-changed ps n f q))
    (marked-alike f keeps (nat_eq n q) (get ps q) (get qs q) (h q))

-- and so do wakes, however many
pub rows-woken : (ps : Numbered Process) (qs : Numbered plain.Process) → RowsAlike ps qs → (wakes : List Wake)
    → RowsAlike (fold wake_one ps wakes) qs
rows-woken ps qs h [] = h
rows-woken ps qs h (w ∷ wakes) =
    rows-woken (change_living ps w.pid after_reply) qs (rows-marked ps qs h w.pid after_reply keeps-replied) wakes

-- The caller's last turn.

spent-doomed : {B : Type 0} (o : Option Sig) → is_some o ≡ true → o ≡ None → B
spent-doomed o h g = cc

-- a doomed process has no more, in the one kernel
spent-left : (ps : Numbered Process) (qs : Numbered plain.Process) → RowsAlike ps qs → (pid : ℕ) (a : Alive)
    → living_in ps pid ≡ Some a → is_some a.row.signals.doom ≡ true → RowsAlike (put ps pid (Living (spent a))) qs
spent-left ps qs h pid a lives doomed =
    let other : LivesAlike (get qs pid) a = alike-living ps qs h pid a lives
    in rows-put-left ps qs h pid (Living (spent a))
    (subst (λ (o : Option plain.Process). AlikeAt (Some (Living (spent a))) o) (sym other.is)
    (other.alike.0, λ none. spent-doomed a.row.signals.doom doomed none))

-- The map of processes once the caller's own marks are changed.
pub rows-finished : (k : Kernel) (qs : Numbered plain.Process) → RowsAlike k.processes qs → (pid : ℕ) (call : Call)
    → (own : Option Reply) → (let j : Kernel = finish_call k pid call own in RowsAlike j.processes qs)
rows-finished k qs h pid call own =
    rows-marked (allowance_after k pid (living_at k pid)).processes qs (by_caller (living_at k pid) refl) pid
    (after_call call own) (keeps-called call own)
  where
    by_test : (a : Alive) → living_at k pid ≡ Some a → (b : Bool) → is_some a.row.signals.doom ≡ b
        → (let j : Kernel = (if b then with_alive k pid (spent a) else k) in RowsAlike j.processes qs)
    by_test a lives true doomed = spent-left k.processes qs h pid a lives doomed
    by_test a lives false doomed = h

    by_caller : (o : Option Alive) → living_at k pid ≡ o
        → (let j : Kernel = allowance_after k pid o in RowsAlike j.processes qs)
    by_caller None lives = h
    by_caller (Some a) lives = by_test a lives (is_some a.row.signals.doom) refl

-- In the other kernel: its processes once a doomed caller has had its last turn.
abbrev pub spent_in : Numbered plain.Process → ℕ → Option plain_rows.Alive → Numbered plain.Process
spent_in qs pid None = qs
spent_in qs pid (Some b) =
    if is_some b.row.signals.doom then put qs pid (plain.Living (record b { allowance = Spent })) else qs

-- nothing else changes there
pub plain-finished : (j : plain.Kernel) (pid : ℕ) (o : Option plain_rows.Alive)
    → plain_steps.finish_call j pid o ≡ record j { processes = spent_in j.processes pid o }
plain-finished j pid None = refl
plain-finished j pid (Some b) = by_test (is_some b.row.signals.doom)
  where
    by_test : (t : Bool)
        → (if t then plain.with_alive j pid (record b { allowance = Spent }) else j)
        ≡ record j {
          processes =
              if t then put j.processes pid (plain.Living (record b { allowance = Spent })) else j.processes;
        }
    by_test true = refl
    by_test false = refl

-- a doomed caller's last turn leaves all rows alike
pub rows-spent : (ps : Numbered Process) (qs : Numbered plain.Process) → RowsAlike ps qs → (pid : ℕ)
    → (o : Option plain_rows.Alive) → plain.living_in qs pid ≡ o → RowsAlike ps (spent_in qs pid o)
rows-spent ps qs h pid None lives = h
rows-spent ps qs h pid (Some b) lives = by_test (is_some b.row.signals.doom) refl
  where
    by_test : (t : Bool) → is_some b.row.signals.doom ≡ t
        → RowsAlike ps (if t then put qs pid (plain.Living (record b { allowance = Spent })) else qs)
    by_test false doomed = h
    by_test true doomed =
        let other : LivedAlike (get ps pid) b =
        lived-alike b (get ps pid)
        (subst (λ (o : Option plain.Process). AlikeAt (get ps pid) o) (plain-from-living qs pid b lives) (h pid))
        in rows-put-right ps qs h pid (plain.Living (record b { allowance = Spent }))
        (subst
        (λ (o : Option Process). AlikeAt o (Some (plain.Living (record b { allowance = Spent }))))
        (sym other.is) (
          other.alike.0,
          λ none.
              spent-doomed b.row.signals.doom doomed (ap (λ (r : Row). r.signals.doom) (sym other.alike.0) ∙ none),
        ))

-- all others live as before
pub spent-other : (qs : Numbered plain.Process) (pid : ℕ) (o : Option plain_rows.Alive) (q : ℕ) → q ≢ pid
    → plain.living_in (spent_in qs pid o) q ≡ plain.living_in qs q
spent-other qs pid None q ne = refl
spent-other qs pid (Some b) q ne = by_test (is_some b.row.signals.doom)
  where
    by_test : (t : Bool)
        → plain.living_in (if t then put qs pid (plain.Living (record b { allowance = Spent })) else qs) q
        ≡ plain.living_in qs q
    by_test true =
        ap (option_and_then plain.alive_in)
        (get-put-other qs pid (plain.Living (record b { allowance = Spent })) q ne)
    by_test false = refl

-- Kernels.

-- the kernel in which nobody waits, with these processes and all else of the whole one
abbrev pub in_form : Kernel → Numbered plain.Process → plain.Kernel
in_form k qs =
    record {
      processes = qs;
      queue_keys = k.queue_keys;
      set_keys = k.set_keys;
      queues = each (λ q. q.state) k.queues;
      sets = each (λ s. s.state) k.sets;
      used_processes = k.used_processes;
      used_queues = k.used_queues;
      used_sets = k.used_sets;
    }

-- an alike kernel is of this form
pub alike-form : (k : Kernel) (j : plain.Kernel) → IsAlike k j → in_form k j.processes ≡ j
alike-form k j h = λ i. record {
  processes = j.processes;
  queue_keys = h.queue_keys i;
  set_keys = h.set_keys i;
  queues = h.queues i;
  sets = h.sets i;
  used_processes = h.used_processes i;
  used_queues = h.used_queues i;
  used_sets = h.used_sets i;
}

-- and one of this form is alike
pub form-alike : (k : Kernel) (qs : Numbered plain.Process) → RowsAlike k.processes qs → IsAlike k (in_form k qs)
form-alike k qs h =
    record {
      processes = h;
      queue_keys = refl;
      set_keys = refl;
      queues = refl;
      sets = refl;
      used_processes = refl;
      used_queues = refl;
      used_sets = refl;
    }

-- in the whole kernel too the caller's own marks change its processes alone
allowance-kept : (k : Kernel) (pid : ℕ) (o : Option Alive)
    → (let j : Kernel = allowance_after k pid o in record k { processes = j.processes } ≡ j)
allowance-kept k pid None = refl
allowance-kept k pid (Some a) = by_test (is_some a.row.signals.doom)
  where
    by_test : (t : Bool)
        → (let j : Kernel = (if t then with_alive k pid (spent a) else k) in record k { processes = j.processes } ≡ j)
    by_test true = refl
    by_test false = refl

-- the caller's own marks change nothing but the processes
pub whole-finished : (k : Kernel) (pid : ℕ) (call : Call) (own : Option Reply)
    → (let j : Kernel = finish_call k pid call own in record k { processes = j.processes } ≡ j)
whole-finished k pid call own =
    let first : Kernel = allowance_after k pid (living_at k pid)
    in ap
    (λ (m : Kernel). record m { processes = change_living first.processes pid (after_call call own) })
    (allowance-kept k pid (living_at k pid))

-- so that it stays alike
pub alike-finished : (k : Kernel) (qs : Numbered plain.Process) → RowsAlike k.processes qs → (pid : ℕ) (call : Call)
    → (own : Option Reply) → IsAlike (finish_call k pid call own) (in_form k qs)
alike-finished k qs h pid call own =
    let after : Kernel = finish_call k pid call own
    in subst (λ (j : Kernel). IsAlike j (in_form k qs)) (whole-finished k pid call own)
    (form-alike (record k { processes = after.processes }) qs (rows-finished k qs h pid call own))
