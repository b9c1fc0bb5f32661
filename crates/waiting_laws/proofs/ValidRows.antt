-- Validity looks at no allowance but whether it is free: a valid kernel is so with other allowances of those who are
-- doomed.
use Rattle.std.proofs.Common.{◌≡◌, ◌↔◌, ◌∙◌, ℕ, Option, Some, None, is_some, refl, ap, sym, subst}
use Rattle.std.specs.Prelude.{Contains}
use Rattle.std.specs.Option.{option_and_then}
use Rattle.pico_base.specs.declared.reply.Ending.{Ending}
use Rattle.number_maps.specs.Maps.{Numbered, get}
use Rattle.number_maps.specs.Rising.{IsRising}
use Rattle.kernel_model.specs.Row.{Alive, Free, Row, ended_child, lists}
use Rattle.kernel_model.specs.Kernel.{Kernel, Process, Living, Ended, Gone, alive_in, living_in}
use Rattle.kernel_model.specs.Signals.{AreSoundSignals}
use Rattle.kernel_model.specs.Valid.{HasKeeper, IsValid, IsValidProcess, ListsEnded}
use Rattle.kernel_laws.specs.Processes.{NoneListsItself}
use Rattle.kernel_laws.proofs.People.{from-living}

-- the same row, and doomed exactly where the allowance isn't free
abbrev pub SameRow : Process → Process → Type 0
SameRow (Living a) (Living b) = (a.row ≡ b.row) × ((b.row.signals.doom ≡ None) ↔ (b.allowance ≡ Free))
SameRow (Ended ending) (Ended other) = ending ≡ other
SameRow Gone Gone = Unit {0}
SameRow process other = ⊥

-- both are there with the same row, or neither is there
abbrev pub SameRowAt : Option Process → Option Process → Type 0
SameRowAt None None = Unit {0}
SameRowAt (Some process) (Some other) = SameRow process other
SameRowAt process other = ⊥

-- ---- one process

same-there : (o p : Option Process) → SameRowAt o p → is_some p ≡ is_some o
same-there None None h = refl
same-there None (Some y) h = absurd h
same-there (Some x) None h = absurd h
same-there (Some x) (Some y) h = refl

same-lives : (o p : Option Process) → SameRowAt o p
    → is_some (option_and_then alive_in p) ≡ is_some (option_and_then alive_in o)
same-lives None None h = refl
same-lives None (Some y) h = absurd h
same-lives (Some x) None h = absurd h
same-lives (Some (Living a)) (Some (Living b)) h = refl
same-lives (Some (Living a)) (Some (Ended ending)) h = absurd h
same-lives (Some (Living a)) (Some Gone) h = absurd h
same-lives (Some (Ended ending)) (Some (Living b)) h = absurd h
same-lives (Some (Ended ending)) (Some (Ended other)) h = refl
same-lives (Some (Ended ending)) (Some Gone) h = absurd h
same-lives (Some Gone) (Some (Living b)) h = absurd h
same-lives (Some Gone) (Some (Ended ending)) h = absurd h
same-lives (Some Gone) (Some Gone) h = refl

-- a living one comes from a living one
record CameFrom (o : Option Process) (b : Alive) : Type 0 where
  alive : Alive
  lives : option_and_then alive_in o ≡ Some alive
  row : alive.row ≡ b.row
  allowed : (b.row.signals.doom ≡ None) ↔ (b.allowance ≡ Free)

came-from : (o : Option Process) (b : Alive) → SameRowAt o (Some (Living b)) → CameFrom o b
came-from None b h = absurd h
came-from (Some (Living a)) b h = record { alive = a; lives = refl; row = h.0; allowed = h.1 }
came-from (Some (Ended ending)) b h = absurd h
came-from (Some Gone) b h = absurd h

-- and goes on as one
record GoesTo (a : Alive) (p : Option Process) : Type 0 where
  alive : Alive
  lives : option_and_then alive_in p ≡ Some alive
  row : a.row ≡ alive.row

goes-to : (a : Alive) (p : Option Process) → SameRowAt (Some (Living a)) p → GoesTo a p
goes-to a None h = absurd h
goes-to a (Some (Living b)) h = record { alive = b; lives = refl; row = h.0 }
goes-to a (Some (Ended ending)) h = absurd h
goes-to a (Some Gone) h = absurd h

-- one that has ended stays so, and was so
ended-on : (ending : Ending) (p : Option Process) → SameRowAt (Some (Ended ending)) p → p ≡ Some (Ended ending)
ended-on ending None h = absurd h
ended-on ending (Some (Living b)) h = absurd h
ended-on ending (Some (Ended other)) h = ap (λ e. Some (Ended e)) (sym h)
ended-on ending (Some Gone) h = absurd h

ended-before : (ending : Ending) (o : Option Process) → SameRowAt o (Some (Ended ending)) → o ≡ Some (Ended ending)
ended-before ending None h = absurd h
ended-before ending (Some (Living a)) h = absurd h
ended-before ending (Some (Ended other)) h = ap (λ e. Some (Ended e)) h
ended-before ending (Some Gone) h = absurd h

-- ---- the kernel

module _ (j : Kernel) (valid : IsValid j) (rs : Numbered Process)
    (same : (pid : ℕ) → SameRowAt (get j.processes pid) (get rs pid)) where
  came : (pid : ℕ) (b : Alive) → living_in rs pid ≡ Some b → CameFrom (get j.processes pid) b
  came pid b lives =
      came-from (get j.processes pid) b
      (subst (λ (o : Option Process). SameRowAt (get j.processes pid) o) (from-living rs pid b lives) (same pid))

  alive-still : (pid : ℕ) (b : Alive) → living_in rs pid ≡ Some b
      → IsValidProcess (record j { processes = rs }) pid b
  alive-still pid b lives =
      let c : CameFrom (get j.processes pid) b = came pid b lives
      in let v : IsValidProcess j pid c.alive = valid.alive pid c.alive c.lives
      in record {
        signals = subst (λ (row : Row). AreSoundSignals row.signals) c.row v.signals;
        allowed = c.allowed;
        living = λ child listed.
            same-lives (get j.processes child) (get rs child) (same child)
            ∙ v.living child (ap (λ (row : Row). lists row.family child) c.row ∙ listed);
        ended = λ child ending kept.
            ended-on ending (get rs child)
            (subst (λ (o : Option Process). SameRowAt o (get rs child))
            (v.ended child ending
            (subst (λ (row : Row). Contains row.family.ended (ended_child child ending)) (sym c.row) kept))
            (same child));
      }

  lists-still : (a b : Alive) (child : ℕ) → a.row ≡ b.row → ListsEnded b child → ListsEnded a child
  lists-still a b child row h =
      (h.0, subst (λ (r : Row). Contains r.family.ended (ended_child child h.0)) (sym row) h.1)

  kept-still : (pid : ℕ) (ending : Ending) → get rs pid ≡ Some (Ended ending)
      → HasKeeper (record j { processes = rs }) pid ending
  kept-still pid ending there =
      let w : HasKeeper j pid ending =
      valid.kept pid ending
      (ended-before ending (get j.processes pid)
      (subst (λ (o : Option Process). SameRowAt (get j.processes pid) o) there (same pid)))
      in let g : GoesTo w.alive (get rs w.keeper) =
      goes-to w.alive (get rs w.keeper)
      (subst (λ (o : Option Process). SameRowAt o (get rs w.keeper))
      (from-living j.processes w.keeper w.alive w.lives) (same w.keeper))
      in record {
        keeper = w.keeper;
        alive = g.alive;
        lives = g.lives;
        kept = subst (λ (row : Row). Contains row.family.ended (ended_child pid ending)) g.row w.kept;
      }

  -- it is valid
  pub valid-rows : IsRising rs → IsValid (record j { processes = rs })
  valid-rows rising =
      record {
        processes = rising;
        queues = valid.queues;
        sets = valid.sets;
        used_processes = λ n. valid.used_processes n ∙ sym (same-there (get j.processes n) (get rs n) (same n));
        used_queues = valid.used_queues;
        used_sets = valid.used_sets;
        queue_keys = valid.queue_keys;
        set_keys = valid.set_keys;
        alive = alive-still;
        one_parent = λ p q a b child l m x y.
            (let c = came p a l
            in let d = came q b m
            in valid.one_parent p q c.alive d.alive child c.lives d.lives
            (ap (λ (row : Row). lists row.family child) c.row ∙ x)
            (ap (λ (row : Row). lists row.family child) d.row ∙ y));
        one_keeper = λ p q a b child l m x y.
            (let c = came p a l
            in let d = came q b m
            in valid.one_keeper p q c.alive d.alive child c.lives d.lives (lists-still c.alive a child c.row x)
            (lists-still d.alive b child d.row y));
        kept = kept-still;
      }

  -- and nobody lists itself
  pub alone-rows : NoneListsItself j → NoneListsItself (record j { processes = rs })
  alone-rows alone pid b lives =
      let c : CameFrom (get j.processes pid) b = came pid b lives
      in sym (ap (λ (row : Row). lists row.family pid) c.row) ∙ alone pid c.alive c.lives
