-- A job for each sandbox, made one after the other.
use Rattle.std.proofs.Common.{◌≡◌, ℕ, ◌+◌, ◌≤◌, List, [], ◌∷◌, ◌++◌, length, sum_by, refl, sym, ap, subst, ◌∙◌, append_assoc, arith}
use Rattle.std.specs.List.{All}
use Rattle.std.proofs.lemmas.List.{append-nil}
use Rattle.std.proofs.lemmas.List.Elements.{All-cons, All-head, All-nil, All-tail}
use Rattle.std.proofs.lemmas.List.Sums.{sum_by-cons}
use Rattle.kernel_model.specs.Script.{IsSoundScript}
use Rattle.sandbox_set.specs.declared.read.Sandbox.{Sandbox}
use Rattle.sandbox_set.specs.Sound.{blocks_in}
use Rattle.boxes_run.specs.declared.job.Job.{Job}
use Rattle.boxes_run.specs.Jobs.{jobs_from}

-- some sandboxes have jobs, and these are left
pub record AreMade (boxes : List Sandbox) (jobs : List Job) (before : ℕ) (left : List Sandbox) : Type 0 where
  pub so_far : jobs ++ jobs_from before left ≡ jobs_from 0 boxes
  pub room : before + blocks_in left ≤ 32

pub made-start : (boxes : List Sandbox) (jobs : List Job) (left : List Sandbox) → left ≡ boxes → jobs ≡ []
    → blocks_in boxes ≤ 32 → AreMade boxes jobs 0 left
made-start boxes jobs left same none few =
    let room : blocks_in left ≤ 32 = subst (λ (bs : List Sandbox). blocks_in bs ≤ 32) (sym same) few
    in record {
      so_far = ap (λ (js : List Job). js ++ jobs_from 0 left) none ∙ ap (λ (bs : List Sandbox). jobs_from 0 bs) same;
      room = omega (arith, room);
    }

-- there is room for its nodes
pub made-room : (boxes : List Sandbox) (jobs : List Job) (before : ℕ) (left rest : List Sandbox) (b : Sandbox)
    → AreMade boxes jobs before left → left ≡ b ∷ rest
    → before + (length b.script.blocks + blocks_in rest) ≤ 32
made-room boxes jobs before left rest b h is =
    let room : before + blocks_in (b ∷ rest) ≤ 32 =
    subst (λ (bs : List Sandbox). before + blocks_in bs ≤ 32) is h.room
    in let sum : blocks_in (b ∷ rest) ≡ length b.script.blocks + blocks_in rest =
    sum_by-cons (λ (x : Sandbox). length x.script.blocks) b rest
    in omega (arith, room, sum)

-- with one job more
pub made-more : (boxes : List Sandbox) (jobs more : List Job) (before next : ℕ) (left rest : List Sandbox) (b : Sandbox)
    (job : Job) → AreMade boxes jobs before left → left ≡ b ∷ rest
    → job ≡ record { script = b.script; before = before } → more ≡ jobs ++ job ∷ []
    → next ≡ before + length b.script.blocks → AreMade boxes more next rest
made-more boxes jobs more before next left rest b job h is job_is with_it next_is =
    let room = made-room boxes jobs before left rest b h is
    in record {
      so_far =
          ap (λ (js : List Job). js ++ jobs_from next rest) with_it
          ∙ append_assoc jobs (job ∷ []) (jobs_from next rest)
          ∙ ap (λ (j : Job). jobs ++ j ∷ jobs_from next rest) job_is
          ∙ ap (λ n. jobs ++ record { script = b.script; before = before } ∷ jobs_from n rest) next_is
          ∙ sym (ap (λ (bs : List Sandbox). jobs ++ jobs_from before bs) is)
          ∙ h.so_far;
      room = omega (arith, room, next_is);
    }

pub made-end : (boxes : List Sandbox) (jobs : List Job) (before : ℕ) (left : List Sandbox)
    → AreMade boxes jobs before left → left ≡ [] → jobs ≡ jobs_from 0 boxes
made-end boxes jobs before left h none =
    sym (append-nil jobs) ∙ sym (ap (λ (bs : List Sandbox). jobs ++ jobs_from before bs) none) ∙ h.so_far

-- the scripts of jobs are sound where those of the sandboxes are
pub jobs-are-sound : (before : ℕ) (boxes : List Sandbox) → All (λ (b : Sandbox). IsSoundScript b.script) boxes
    → All (λ (j : Job). IsSoundScript j.script) (jobs_from before boxes)
jobs-are-sound before [] h = All-nil (λ (j : Job). IsSoundScript j.script)
jobs-are-sound before (b ∷ boxes) h =
    All-cons (λ (j : Job). IsSoundScript j.script) (record { script = b.script; before = before })
    (jobs_from (before + length b.script.blocks) boxes)
    (All-head (λ (x : Sandbox). IsSoundScript x.script) b boxes h)
    (jobs-are-sound (before + length b.script.blocks) boxes
    (All-tail (λ (x : Sandbox). IsSoundScript x.script) b boxes h))
