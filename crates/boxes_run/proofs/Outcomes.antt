-- What runs gave, put together.
use Rattle.std.proofs.Common.{◌≡◌, ℕ, zero, suc, ◌+◌, ◌<◌, List, [], ◌∷◌, ◌++◌, length, map, refl, ap, sym, subst, ◌∙◌, append_assoc, arith, slice_index_or, Result, Ok, Err}
use Rattle.std.specs.Prelude.{IfOk}
use Rattle.std.proofs.lemmas.List.{append-nil}
use Rattle.pico_base.specs.declared.fault.Memory.{Memory}
use Rattle.pico_base.specs.declared.script.Script.{Script}
use Rattle.sandbox_set.specs.declared.read.Sandbox.{Sandbox}
use Rattle.pico_run.specs.declared.rested.Rested.{Rested}
use Rattle.pico_run.specs.Rested.{IsRested}
use Rattle.boxes_run.specs.declared.job.Job.{Job}
use Rattle.boxes_run.specs.Jobs.{AreOutcomes, jobs_from}
use Rattle.boxes_run.specs.Runs.{AreRested, scripts_of}

abbrev pub Outcome : Type 0
Outcome = Result Rested Memory

-- an outcome at each place is one of each job
pub outcomes-by-place : (jobs : List Job) (outcomes : List Outcome) → length outcomes ≡ length jobs
    → ((k : ℕ) (j : Job) (o : Outcome) → k < length jobs
    → IfOk (slice_index_or outcomes k o) (IsRested (slice_index_or jobs k j).script)) → AreOutcomes jobs outcomes
outcomes-by-place [] [] same each = tt
outcomes-by-place [] (o ∷ outcomes) same each = let f : ⊥ = omega (arith, same) in f
outcomes-by-place (j ∷ jobs) [] same each = let f : ⊥ = omega (arith, same) in f
outcomes-by-place (j ∷ jobs) (o ∷ outcomes) same each = (
  each 0 j o (omega arith),
  outcomes-by-place jobs outcomes (omega (arith, same))
      (λ k x y lt. each (suc k) x y (omega (arith, lt))),
)

-- one outcome more is there
pub all-more : (outcomes : List Outcome) (list more : List Rested) (left rest : List Outcome) (o : Outcome) (r : Rested)
    → map Ok list ++ left ≡ outcomes → left ≡ o ∷ rest → o ≡ Ok r → more ≡ list ++ r ∷ []
    → map Ok more ++ rest ≡ outcomes
all-more outcomes list more left rest o r so_far is ok with_it =
    ap (λ (rs : List Rested). map Ok rs ++ rest) with_it
    ∙ behind list r rest
    ∙ ap (λ (x : Outcome). map Ok list ++ x ∷ rest) (sym ok)
    ∙ ap (λ (os : List Outcome). map Ok list ++ os) (sym is)
    ∙ so_far
  where
    behind : (list : List Rested) (r : Rested) (rest : List Outcome)
        → map Ok (list ++ r ∷ []) ++ rest ≡ map Ok list ++ Ok r ∷ rest
    behind [] r rest = refl
    behind (x ∷ list) r rest = ap (λ (os : List Outcome). Ok x ∷ os) (behind list r rest)

pub all-start : (outcomes left : List Outcome) (list : List Rested) → left ≡ outcomes → list ≡ []
    → map Ok list ++ left ≡ outcomes
all-start outcomes left list same none = ap (λ (rs : List Rested). map Ok rs ++ left) none ∙ same

pub all-end : (outcomes left : List Outcome) (list : List Rested) → map Ok list ++ left ≡ outcomes → left ≡ []
    → map Ok list ≡ outcomes
all-end outcomes left list so_far none =
    sym (append-nil (map Ok list)) ∙ ap (λ (os : List Outcome). map Ok list ++ os) (sym none) ∙ so_far

-- outcomes of the jobs of sandboxes, all of which are there
rested-from : (before : ℕ) (boxes : List Sandbox) (list : List Rested)
    → AreOutcomes (jobs_from before boxes) (map Ok list) → AreRested (scripts_of boxes) list
rested-from before [] [] h = tt
rested-from before [] (r ∷ list) h = h
rested-from before (b ∷ boxes) [] h = h
rested-from before (b ∷ boxes) (r ∷ list) h =
    (h.0, rested-from (before + length b.script.blocks) boxes list h.1)

-- what runs of all sandboxes gave is what each one's run may come to
pub all-are-rested : (boxes : List Sandbox) (jobs : List Job) (outcomes : List Outcome) (list : List Rested)
    → jobs ≡ jobs_from 0 boxes → AreOutcomes jobs outcomes → map Ok list ≡ outcomes
    → AreRested (scripts_of boxes) list
all-are-rested boxes jobs outcomes list jobs_are are all =
    rested-from 0 boxes list
    (subst (λ (js : List Job). AreOutcomes js (map Ok list)) jobs_are
    (subst (λ (os : List Outcome). AreOutcomes jobs os) (sym all) are))
