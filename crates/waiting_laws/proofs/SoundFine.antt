-- A sound kernel has what the laws of marks and of lines ask for.
use Rattle.std.proofs.Common.{◌≡◌, ◌∙◌, ℕ, Bool, true, false, List, [], ◌∷◌, Option, Some, None, is_some, refl, ap, sym}
use Rattle.std.specs.Prelude.{Contains}
use Rattle.std.specs.List.{AllByRecursion}
use Rattle.std.specs.Option.{option_map}
use Rattle.std.proofs.lemmas.Bool.{true≢false}
use Rattle.pico_base.specs.declared.reply.Ending.{Ending}
use Rattle.number_maps.specs.Maps.{Numbered, get, is_used}
use Rattle.kernel_model.specs.Kernel as plain
use Rattle.kernel_model.specs.Queue.{Queue}
use Rattle.kernel_model.specs.SemaphoreSet.{SemaphoreSet}
use Rattle.kernel_model.specs.Valid.{IsValidProcess}
use Rattle.kernel_laws.proofs.Families.{living-ended}
use Rattle.kernel_laws.proofs.Plain.{from_some, not_none, not_some}
use Rattle.kernel_laws.proofs.Members.{contains-first, contains-later}
use Rattle.waiting_model.specs.Waiters.{Awaited}
use Rattle.waiting_model.specs.Marks.{Alive, plain_alive}
use Rattle.waiting_model.specs.Kernel.{Kernel, Process, Living, Ended, Gone, living_at}
use Rattle.waiting_model.specs.Plain.{each, plain_kernel, plain_process}
use Rattle.waiting_laws.specs.Sound.{IsSound}
use Rattle.waiting_laws.proofs.Parents.{OneParent}
use Rattle.waiting_laws.proofs.Fair.{AllFair}
use Rattle.waiting_laws.proofs.Maps.{get-each}
use Rattle.waiting_laws.proofs.Marked.{Fine}
use Rattle.waiting_laws.proofs.People.{AllOver, IsOver}
use Rattle.waiting_laws.proofs.Rows.{RowsAlike}
use Rattle.waiting_laws.proofs.Standing.{InBoth}
use Rattle.waiting_laws.proofs.Transitions.{living-each}

-- what holds of all that a list has, element by element
all-contained : {A : Type 0} (P : A → Type 0) (xs : List A) → ((x : A) → Contains xs x → P x) → AllByRecursion P xs
all-contained P [] f = tt
all-contained P (x ∷ xs) f =
    (f x (contains-first x xs), all-contained P xs (λ y h. f y (contains-later x xs y h)))

-- who has ended in the kernel without those who wait is over
over-from : (o : Option Process) (ending : Ending) → option_map plain_process o ≡ Some (plain.Ended ending) → IsOver o
over-from None ending h = not_some (plain.Ended ending) h
over-from (Some (Living a)) ending h = living-ended (plain_alive a) ending (from_some _ _ h)
over-from (Some (Ended other)) ending h = tt
over-from (Some Gone) ending h = tt

still-none : {V : Type 0} (o : Option V) (b : Bool) → (is_some o ≡ true → b ≡ true) → b ≡ false → o ≡ None
still-none None b h is = refl
still-none (Some v) b h is = absurd (true≢false (sym (h refl) ∙ is))

none-from : {V W : Type 0} (f : V → W) (o : Option V) → option_map f o ≡ None → o ≡ None
none-from f None h = refl
none-from f (Some v) h = not_none (f v) h

module _ (k : Kernel) (sound : IsSound k) where
  -- its living processes, without their marks
  pub plain-lives : (pid : ℕ) (a : Alive) → living_at k pid ≡ Some a
      → plain.living_at (plain_kernel k) pid ≡ Some (plain_alive a)
  plain-lives pid a lives = living-each k pid ∙ ap (option_map plain_alive) lives

  ended-over : (pid : ℕ) (a : Alive) → living_at k pid ≡ Some a → AllOver k.processes a.row.family.ended
  ended-over pid a lives =
      let valid : IsValidProcess (plain_kernel k) pid (plain_alive a) =
      sound.valid.alive pid (plain_alive a) (plain-lives pid a lives)
      in all-contained (λ e. IsOver (get k.processes e.pid)) a.row.family.ended
      (λ e h.
      over-from (get k.processes e.pid) e.ending
      (sym (get-each plain_process k.processes e.pid) ∙ valid.ended e.pid e.ending h))

  -- families in order, and nothing at a number that isn't used
  pub sound-fine : Fine k
  sound-fine =
      record {
        people = record {
          rising = sound.processes;
          ended = ended-over;
          apart = λ pid a lives. sound.alone pid (plain_alive a) (plain-lives pid a lives);
          patient = λ pid a lives child nohang parked. sound.waits pid a child nohang lives parked;
        };
        unused_processes = λ n unused.
            none-from plain_process (get k.processes n)
            (sym (get-each plain_process k.processes n)
            ∙ still-none (get (each plain_process k.processes) n) (is_used k.used_processes n)
            (λ h. sound.valid.used_processes n ∙ h) unused);
        unused_queues = λ n unused.
            none-from (λ (q : Awaited Queue). q.state) (get k.queues n)
            (sym (get-each (λ q. q.state) k.queues n)
            ∙ still-none (get (each (λ q. q.state) k.queues) n) (is_used k.used_queues n) (sound.valid.used_queues n)
            unused);
        unused_sets = λ n unused.
            none-from (λ (s : Awaited SemaphoreSet). s.state) (get k.sets n)
            (sym (get-each (λ s. s.state) k.sets n)
            ∙ still-none (get (each (λ s. s.state) k.sets) n) (is_used k.used_sets n) (sound.valid.used_sets n)
            unused);
        marks = sound.marks;
      }

  pub sound-fair : AllFair k.processes
  sound-fair pid a lives =
      let valid : IsValidProcess (plain_kernel k) pid (plain_alive a) =
      sound.valid.alive pid (plain_alive a) (plain-lives pid a lives)
      in valid.allowed.1

  pub sound-one : OneParent k
  sound-one p q a b child l m x y =
      sound.valid.one_parent p q (plain_alive a) (plain_alive b) child (plain-lives p a l) (plain-lives q b m) x y

  -- beside processes of the other kernel that are alike
  pub sound-both : (qs : Numbered plain.Process) → RowsAlike k.processes qs → InBoth k qs
  sound-both qs alike =
      record {
        alike = alike;
        fair = sound-fair;
        marks = sound.marks;
        queues = sound.queues;
        sets = sound.sets;
        settled = sound.settled;
      }
