-- What the watch keeps is how often in a row the last reader stands at the front of the reads.
use Rattle.std.proofs.Common.{◌≡◌, ◌≢◌, ℕ, ◌+◌, ◌<◌, zero, suc, Bool, true, false, cond, eqb, List, [], ◌∷◌, Option, Some, None, refl, sym, ap, ◌∙◌, arith, ⊎_elim}
use Rattle.std.proofs.lemmas.Bool.Decides.{nat_tests, eqb_tells}
use Rattle.migrate.specs.Watching.{Watching, watching_reads, watching_run, watching_after, watching_anew, run_of, run_with, in_a_row, NeverFour, FourthMoves}

cond-owner : (b : Bool) (u v : Watching) (owner : ℕ) → u.owner ≡ owner → v.owner ≡ owner → (cond b u v).owner ≡ owner
cond-owner true u v owner p q = p
cond-owner false u v owner p q = q

-- the owner stays
run-owner : (owner n run : ℕ) → (watching_run owner n run).owner ≡ owner
run-owner owner n run =
    cond-owner _ (watching_anew owner) (record { owner = owner; reader = Some n; run = run }) owner refl refl

reads-owner : (owner : ℕ) (reads : List ℕ) → (watching_reads owner reads).owner ≡ owner
reads-owner owner [] = refl
reads-owner owner (n ∷ reads) = run-owner _ n (run_with (watching_reads owner reads) n) ∙ reads-owner owner reads

cond-same : (b : Bool) (x : ℕ) → x ≡ cond b x x
cond-same true x = refl
cond-same false x = refl

-- below four the run is kept, for its reader alone
run-kept : (owner n node run : ℕ) → run < 4
    → run_of (watching_run owner n run).reader (watching_run owner n run).run node ≡ cond (eqb n node) run 0
run-kept owner n node zero below = cond-same (eqb n node) 0
run-kept owner n node (suc run) below =
    let some : eqb (suc run) 0 ≡ false = grind (arith, nat_tests) in
    let short : eqb (suc run) 4 ≡ false = grind (arith, nat_tests) in
    rw (some, short) refl

-- the run that a reader's next read makes
next-run : (w : Watching) (n owner : ℕ) → w.owner ≡ owner → n ≢ owner → run_with w n ≡ run_of w.reader w.run n + 1
next-run w n owner e other =
    let apart : eqb n w.owner ≡ false = grind (arith, nat_tests) in
    rw apart refl

own-run : (w : Watching) (n owner : ℕ) → w.owner ≡ owner → n ≡ owner → run_with w n ≡ 0
own-run w n owner e same =
    let here : eqb n w.owner ≡ true = grind (arith, nat_tests) in
    rw here refl

itself : (n : ℕ) (reads : List ℕ) → in_a_row n (n ∷ reads) ≡ in_a_row n reads + 1
itself n reads =
    let here : eqb n n ≡ true = grind (arith, nat_tests) in
    rw here refl

same_reader : (n node : ℕ) (reads : List ℕ)
    → cond (eqb n node) (in_a_row n reads + 1) 0 ≡ cond (eqb n node) (in_a_row node reads + 1) 0
same_reader n node reads =
    ⊎_elim
    (λ same. ap (λ (k : ℕ). cond (eqb n node) (in_a_row k reads + 1) 0) same.1)
    (λ apart. rw apart.0 refl)
    (eqb_tells n node)

runs : (owner : ℕ) (reads : List ℕ) (node : ℕ) → NeverFour owner reads → node ≢ owner
    → run_of (watching_reads owner reads).reader (watching_reads owner reads).run node ≡ in_a_row node reads
runs owner [] node never other = refl
runs owner (n ∷ reads) node never other =
    let w : Watching = watching_reads owner reads in
    let kept : (k : ℕ) → run_with w n ≡ k → k < 4
    → run_of (watching_after w n).reader (watching_after w n).run node ≡ cond (eqb n node) k 0 =
    λ k e below. rw (← e) (run-kept w.owner n node (run_with w n) (omega arith)) in
    ⊎_elim
    (λ own.
    let apart : eqb n node ≡ false = grind (arith, nat_tests) in
    kept 0 (own-run w n owner (reads-owner owner reads) own.1) (omega arith) ∙ rw apart refl)
    (λ another.
    let below : in_a_row n reads + 1 < 4 = omega (arith, never.0 another.1, itself n reads) in
    let now : run_with w n ≡ in_a_row n reads + 1 =
    next-run w n owner (reads-owner owner reads) another.1
    ∙ ap (λ (k : ℕ). k + 1) (runs owner reads n never.1 another.1) in
    kept (in_a_row n reads + 1) now below ∙ same_reader n node reads)
    (eqb_tells n owner)

-- a fourth read in a row moves the name
pub fourth_moves : FourthMoves
fourth_moves owner node reads never other =
    let run : run_with (watching_reads owner reads) node ≡ in_a_row node (node ∷ reads) =
    next-run (watching_reads owner reads) node owner (reads-owner owner reads) other
    ∙ ap (λ (k : ℕ). k + 1) (runs owner reads node never other) ∙ sym (itself node reads) in
    ap (λ (k : ℕ). cond {A = Option ℕ} (eqb k 4) (Some node) None) run
