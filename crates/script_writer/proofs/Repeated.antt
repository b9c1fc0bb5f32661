-- Lists in which one line is repeated: what a test or a count of lines comes to.
use Rattle.std.proofs.Common.{◌≡◌, ℕ, zero, suc, ◌+◌, ◌*◌, Bool, true, false, not, List, [], ◌∷◌, ◌++◌, replicate, Option, None, refl, sym, ap, ◌∙◌, arith}
use Rattle.std.specs.Prelude.{sum_by}
use Rattle.std.specs.List.{flat_map, list_all}
use Rattle.std.proofs.lemmas.Bool.{and_parts}
use Rattle.std.proofs.lemmas.List.Sums.{sum_by-append}
use Rattle.std.proofs.lemmas.List.Folds.{sum_by-replicate}
use Rattle.pico_base.specs.declared.call.Call.{Call}
use Rattle.pico_base.specs.declared.script.Line.{Line}
use Rattle.kernel_model.specs.Script.{fork_targets, is_exit, is_known, uses_known, begun_in, implied_exit, with_exit, ends_rightly}
use Rattle.script_writer.specs.Generated.{line}

-- the blocks that a line forks
abbrev pub targets : Line → List ℕ
targets line = fork_targets line.call

-- a line that forks nothing, however often it is repeated, adds no block to those forked
pub no_targets : (n : ℕ) (x : Line) (rest : List Line) → targets x ≡ []
    → flat_map targets (replicate n x ++ rest) ≡ flat_map targets rest
no_targets zero x rest e = refl
no_targets (suc n) x rest e = rw e (no_targets n x rest e)

-- lines pass a test with one of them repeated in front, where that one and the rest do
pub all_repeated : (test : Line → Bool) (n : ℕ) (x : Line) (rest : List Line) → test x ≡ true
    → list_all test rest ≡ true → list_all test (replicate n x ++ rest) ≡ true
all_repeated test zero x rest e h = h
all_repeated test (suc n) x rest e h = rw e (all_repeated test n x rest e h)

-- a call that names what is known and forks nothing
pub record IsSteady (known : List ℕ) (from : Option ℕ) (call : Call) : Type 0 where
  pub uses : is_known known from ≡ true
  pub forks : fork_targets call ≡ []

-- steady calls in front leave it to the rest whether each line uses what is known
pub uses_repeated : (known : List ℕ) (n : ℕ) (from : Option ℕ) (call : Call) (rest : List Line)
    → IsSteady known from call
    → uses_known known (replicate n (line None from call) ++ rest) ≡ uses_known known rest
uses_repeated known zero from call rest h = refl
uses_repeated known (suc n) from call rest h = rw h.uses (uses_repeated known n from call rest h)

-- steady calls in front begin no further block
pub begun_repeated : (known : List ℕ) (n : ℕ) (from : Option ℕ) (call : Call) (rest : List Line)
    → IsSteady known from call
    → begun_in known (replicate n (line None from call) ++ rest) ≡ begun_in known rest
begun_repeated known zero from call rest h = refl
begun_repeated known (suc n) from call rest h = rw h.forks (begun_repeated known n from call rest h)

-- how often the lines are tried
abbrev pub tries_in : List Line → ℕ
tries_in lines = sum_by (λ (x : Line). x.tries) lines

-- a line that is tried once adds one try each time that it is repeated
pub tries_repeated : (n : ℕ) (x : Line) (rest : List Line) → x.tries ≡ 1
    → tries_in (replicate n x ++ rest) ≡ n + tries_in rest
tries_repeated n x rest e =
    let f : Line → ℕ = λ (y : Line). y.tries in
    let both : sum_by f (replicate n x ++ rest) ≡ sum_by f (replicate n x) + sum_by f rest =
    sum_by-append f (replicate n x) rest in
    let same : sum_by f (replicate n x) ≡ n * 1 = sum_by-replicate f n x ∙ ap (λ (k : ℕ). n * k) e in
    let one : n * 1 ≡ n = omega arith in
    both ∙ ap (λ (k : ℕ). k + sum_by f rest) (same ∙ one)

-- lines without exit
abbrev pub stays : Line → Bool
stays line = not (is_exit line.call)

-- where no line is an exit, none stands before the last
pub ends_rightly_without_exit : (lines : List Line) → list_all stays lines ≡ true → ends_rightly lines ≡ true
ends_rightly_without_exit [] h = refl
ends_rightly_without_exit (line ∷ lines) h =
    let p = and_parts (stays line) (list_all stays lines) h in
    rw p.0 (ends_rightly_without_exit lines p.1)

not_exit : (b : Bool) → not b ≡ true → b ≡ false
not_exit true h = sym h
not_exit false h = refl

-- the exit at their end is the implied one
pub exit_follows : (lines : List Line) → list_all stays lines ≡ true → with_exit lines ≡ lines ++ implied_exit ∷ []
exit_follows [] h = refl
exit_follows (line ∷ lines) h =
    let p = and_parts (stays line) (list_all stays lines) h in
    let no : is_exit line.call ≡ false = not_exit (is_exit line.call) p.0 in
    rw no (ap (λ (xs : List Line). line ∷ xs) (exit_follows lines p.1))
