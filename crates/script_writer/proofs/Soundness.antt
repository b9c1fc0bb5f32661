-- A generated script is sound, and no call of it waits.
use Rattle.std.proofs.Common.{◌≡◌, ℕ, suc, ◌+◌, ◌*◌, ◌≤◌, Bool, true, false, ◌&&◌, ◌||◌, not, eqb, List, [], ◌∷◌, ◌++◌, map, length, replicate, Some, Result, refl, sym, ap, ap₂, ◌∙◌, subst, append_assoc, arith}
use Rattle.std.specs.Prelude.{nat_eq, nat_lt, nat_le, sum_by, count_by, codes, pos, IfOk}
use Rattle.std.specs.List.{flat_map, list_all, list_any, enumerate_from}
use Rattle.std.proofs.lemmas.Bool.{and_parts, and_from, eq-eqb, le-leb}
use Rattle.std.proofs.lemmas.List.{length-map, append-nil}
use Rattle.std.proofs.lemmas.List.Folds.{list_all-append, list_all-map}
use Rattle.std.specs.Fmt.{digits}
use Rattle.std.proofs.lemmas.List.Sums.{sum_by-append, sum_by-cons}
use Rattle.pico_base.specs.declared.call.Call.{Call}
use Rattle.pico_base.specs.declared.call.Call.TheVariants as calls
use Rattle.std.proofs.lemmas.Grind.{flat_map-append}
use Rattle.std.proofs.lemmas.Result.{IfOk-weaker}
use Rattle.pico_base.specs.declared.script.Line.{Line}
use Rattle.pico_base.specs.declared.script.Block.{Block}
use Rattle.pico_base.specs.declared.script.Script.{Script}
use Rattle.kernel_model.specs.Script.{Fork, fork_from, forks_of, is_name, is_same, names_differ, is_line, is_known, known_at, uses_known, uses_known_from, begun_in, calls_in, ends_rightly, IsSoundScript}
use Rattle.script_writer.specs.Generated as spec
use Rattle.script_writer.specs.Waits.{never_waits, waits_never}
use Rattle.script_writer.specs.Generated.{upto, main_queue, worker_queue, worker_name, make, send, receive, fork, lines_for, worker, script_with, generated}
use Rattle.script_writer.proofs.Tables.{all_pass, length-upto}
use Rattle.script_writer.proofs.Repeated.{targets, no_targets, all_repeated, IsSteady, uses_repeated, begun_repeated, tries_in, tries_repeated, stays, ends_rightly_without_exit, exit_follows}

module _ (m : ℕ) where
  -- ---- tests of lines

  -- the lines for worker k pass
  abbrev passes : (Line → Bool) → ℕ → Bool
  passes test k =
      test (make (worker_queue k))
      && (test (send (worker_queue k)) && (test (fork k) && test (receive (worker_queue k))))

  main_pass : (test : Line → Bool) (ks : List ℕ) → list_all (passes test) ks ≡ true
      → list_all test (flat_map (lines_for m) ks) ≡ true
  main_pass test [] h = refl
  main_pass test (k ∷ ks) h =
      let p = and_parts (passes test k) (list_all (passes test) ks) h in
      let a = and_parts (test (make (worker_queue k))) _ p.0 in
      let b = and_parts (test (send (worker_queue k))) _ a.1 in
      let c = and_parts (test (fork k)) _ b.1 in
      let last : list_all test (fork k ∷ []) ≡ true = rw c.0 refl in
      let here : list_all test (lines_for m k) ≡ true =
      rw a.0 (all_repeated test m (send (worker_queue k)) (fork k ∷ []) b.0 last) in
      list_all-append test (lines_for m k) (flat_map (lines_for m) ks)
      ∙ and_from _ _ here (main_pass test ks p.1)

  worker_passes : (test : Line → Bool) (k : ℕ) → test (send main_queue) ≡ true → passes test k ≡ true
      → list_all test (spec.worker_lines m k) ≡ true
  worker_passes test k tell h =
      let a = and_parts (test (make (worker_queue k))) _ h in
      let b = and_parts (test (send (worker_queue k))) _ a.1 in
      let c = and_parts (test (fork k)) _ b.1 in
      let last : list_all test (send main_queue ∷ []) ≡ true = rw tell refl in
      all_repeated test m (receive (worker_queue k)) (send main_queue ∷ []) c.1 last

  workers_pass : (test : Line → Bool) (ks : List ℕ) → test (send main_queue) ≡ true
      → list_all (passes test) ks ≡ true → list_all (λ (b : Block). list_all test b.lines) (map (worker m) ks) ≡ true
  workers_pass test [] tell h = refl
  workers_pass test (k ∷ ks) tell h =
      let p = and_parts (passes test k) (list_all (passes test) ks) h in
      and_from _ _ (worker_passes test k tell p.0) (workers_pass test ks tell p.1)

  each_passes : (test : Line → Bool) (w : ℕ) → test (make main_queue) ≡ true → test (send main_queue) ≡ true
      → list_all (passes test) (upto w) ≡ true
      → list_all (λ (b : Block). list_all test b.lines) (script_with m w).blocks ≡ true
  each_passes test w begin tell h =
      let main : list_all test (spec.main_lines m w) ≡ true = rw begin (main_pass test (upto w) h) in
      and_from _ _ main (workers_pass test (upto w) tell h)

  ends_right : (blocks : List Block) → list_all (λ (b : Block). list_all stays b.lines) blocks ≡ true
      → list_all (λ (b : Block). ends_rightly b.lines) blocks ≡ true
  ends_right [] h = refl
  ends_right (b ∷ bs) h =
      let p = and_parts (list_all stays b.lines) _ h in
      and_from _ _ (ends_rightly_without_exit b.lines p.0) (ends_right bs p.1)

  -- ---- names

  none_same : (name : List ℕ) (ks : List ℕ)
      → list_any (λ (other : Block). is_same name other.name) (map (worker m) ks)
      ≡ list_any (λ k. is_same name (worker_name k)) ks
  none_same name [] = refl
  none_same name (k ∷ ks) = ap (λ (b : Bool). is_same name (worker_name k) || b) (none_same name ks)

  abbrev differ : List ℕ → Bool
  differ [] = true
  differ (k ∷ ks) = not (list_any (λ j. is_same (worker_name k) (worker_name j)) ks) && differ ks

  names_apart : (ks : List ℕ) → names_differ (map (worker m) ks) ≡ differ ks
  names_apart [] = refl
  names_apart (k ∷ ks) =
      ap₂ (λ (a b : Bool). not a && b) (none_same (worker_name k) ks) (names_apart ks)

  -- ---- forks

  abbrev block_forks : ℕ × Block → List Fork
  block_forks b = map (fork_from b.0) (flat_map targets b.1.lines)

  main_forks : (ks : List ℕ) → flat_map targets (flat_map (lines_for m) ks) ≡ map (λ k. k + 1) ks
  main_forks [] = refl
  main_forks (k ∷ ks) =
      let here : flat_map targets (lines_for m k) ≡ (k + 1) ∷ [] =
      no_targets m (send (worker_queue k)) (fork k ∷ []) refl in
      flat_map-append targets (lines_for m k) (flat_map (lines_for m) ks)
      ∙ ap₂ (λ (a b : List ℕ). a ++ b) here (main_forks ks)

  workers_fork_none : (i : ℕ) (ks : List ℕ) → flat_map block_forks (enumerate_from i (map (worker m) ks)) ≡ []
  workers_fork_none i [] = refl
  workers_fork_none i (k ∷ ks) =
      let here : flat_map targets (spec.worker_lines m k) ≡ [] =
      no_targets m (receive (worker_queue k)) (send main_queue ∷ []) refl in
      ap₂ (λ (a : List ℕ) (b : List Fork). map (fork_from i) a ++ b) here (workers_fork_none (i + 1) ks)

  -- main forks each worker's block
  abbrev forks : ℕ → List Fork
  forks w = map (fork_from 1) (map (λ k. k + 1) (upto w))

  forks_are : (w : ℕ) → forks_of (script_with m w) ≡ forks w
  forks_are w =
      ap₂ (λ (a : List ℕ) (b : List Fork). map (fork_from 1) a ++ b) (main_forks (upto w))
      (workers_fork_none 2 (upto w))
      ∙ append-nil (forks w)

  numbers_only : (p : ℕ → Bool) (i : ℕ) (ks : List ℕ)
      → list_all (λ (b : ℕ × Block). p b.0) (enumerate_from i (map (worker m) ks))
      ≡ list_all (λ (b : ℕ × ℕ). p b.0) (enumerate_from i ks)
  numbers_only p i [] = refl
  numbers_only p i (k ∷ ks) = ap (λ (b : Bool). p i && b) (numbers_only p (i + 1) ks)

  -- ---- variables

  abbrev sending : Call
  sending = calls.MsgSnd 0 (pos 1) (codes "x") true

  abbrev receiving : Call
  receiving = calls.MsgRcv 0 (pos 0) 8 false true

  steady_send : (q : ℕ) (known : List ℕ) → IsSteady (q ∷ known) (Some q) sending
  steady_send q known =
      let same : eqb q q ≡ true = eq-eqb q q refl in
      record { uses = rw same refl; forks = refl }

  main_uses : (known : List ℕ) (ks : List ℕ) → uses_known known (flat_map (lines_for m) ks) ≡ true
  main_uses known [] = refl
  main_uses known (k ∷ ks) =
      let q : ℕ = worker_queue k in
      let rest : List Line = flat_map (lines_for m) ks in
      ap (uses_known (q ∷ known)) (append_assoc (replicate m (send q)) (fork k ∷ []) rest)
      ∙ uses_repeated (q ∷ known) m (Some q) sending (fork k ∷ rest) (steady_send q known)
      ∙ main_uses (q ∷ known) ks

  -- each worker begins with its queue and all that was known before
  abbrev begins : List ℕ → List ℕ → List (ℕ × List ℕ)
  begins known [] = []
  begins known (k ∷ ks) = (k + 1, worker_queue k ∷ known) ∷ begins (worker_queue k ∷ known) ks

  main_begins : (known : List ℕ) (ks : List ℕ) → begun_in known (flat_map (lines_for m) ks) ≡ begins known ks
  main_begins known [] = refl
  main_begins known (k ∷ ks) =
      let q : ℕ = worker_queue k in
      let rest : List Line = flat_map (lines_for m) ks in
      ap (begun_in (q ∷ known)) (append_assoc (replicate m (send q)) (fork k ∷ []) rest)
      ∙ begun_repeated (q ∷ known) m (Some q) sending (fork k ∷ rest) (steady_send q known)
      ∙ ap (λ (b : List (ℕ × List ℕ)). (k + 1, q ∷ known) ∷ b) (main_begins (q ∷ known) ks)

  -- the worker of a block with this number knows its queue and main's
  abbrev knows : List (ℕ × List ℕ) → ℕ × ℕ → Bool
  knows begun b =
      is_known (known_at begun b.0) (Some (worker_queue b.1)) && is_known (known_at begun b.0) (Some main_queue)

  workers_use : (begun : List (ℕ × List ℕ)) (i : ℕ) (ks : List ℕ)
      → list_all (knows begun) (enumerate_from i ks) ≡ true → uses_known_from begun i (map (worker m) ks) ≡ true
  workers_use begun i [] h = refl
  workers_use begun i (k ∷ ks) h =
      let known : List ℕ = known_at begun i in
      let q : ℕ = worker_queue k in
      let p = and_parts (knows begun (i, k)) (list_all (knows begun) (enumerate_from (i + 1) ks)) h in
      let a = and_parts (is_known known (Some q)) (is_known known (Some main_queue)) p.0 in
      let steady : IsSteady known (Some q) receiving = record { uses = a.0; forks = refl } in
      let uses : uses_known known (spec.worker_lines m k) ≡ true =
      uses_repeated known m (Some q) receiving (send main_queue ∷ []) steady ∙ and_from _ _ a.1 refl in
      let none : begun_in known (spec.worker_lines m k) ≡ [] =
      begun_repeated known m (Some q) receiving (send main_queue ∷ []) steady in
      let same : begun ++ begun_in known (spec.worker_lines m k) ≡ begun =
      ap (λ (b : List (ℕ × List ℕ)). begun ++ b) none ∙ append-nil begun in
      and_from _ _ uses
      (subst (λ (b : List (ℕ × List ℕ)). uses_known_from b (i + 1) (map (worker m) ks) ≡ true) (sym same)
      (workers_use begun (i + 1) ks p.1))

  variables_known : (w : ℕ) → list_all (knows (begins (main_queue ∷ []) (upto w))) (enumerate_from 2 (upto w)) ≡ true
      → uses_known_from [] 1 (script_with m w).blocks ≡ true
  variables_known w h =
      let begun : begun_in [] (spec.main_lines m w) ≡ begins (main_queue ∷ []) (upto w) =
      main_begins (main_queue ∷ []) (upto w) in
      and_from _ _ (main_uses (main_queue ∷ []) (upto w))
      (subst (λ (b : List (ℕ × List ℕ)). uses_known_from b 2 (map (worker m) (upto w)) ≡ true) (sym begun)
      (workers_use (begins (main_queue ∷ []) (upto w)) 2 (upto w) h))

  -- ---- counts of calls

  abbrev tries : Line → ℕ
  tries x = x.tries

  calls_without_exit : (b : Block) → list_all stays b.lines ≡ true → calls_in b ≡ tries_in b.lines + 1
  calls_without_exit b h =
      ap tries_in (exit_follows b.lines h) ∙ sum_by-append tries b.lines _

  few_more : (all first rest sent n : ℕ) → all ≡ first + rest → first ≡ 1 + sent → sent ≡ m + 1 → rest ≤ 302 * n
      → m ≤ 300 → all ≤ 302 * suc n
  few_more all first rest sent n a b c d few = omega arith

  main_tries : m ≤ 300 → (ks : List ℕ) → tries_in (flat_map (lines_for m) ks) ≤ 302 * length ks
  main_tries few [] = omega arith
  main_tries few (k ∷ ks) =
      let q : ℕ = worker_queue k in
      let rest : List Line = flat_map (lines_for m) ks in
      let sent : tries_in (replicate m (send q) ++ fork k ∷ []) ≡ m + 1 =
      tries_repeated m (send q) (fork k ∷ []) refl in
      let here : tries_in (lines_for m k) ≡ 1 + tries_in (replicate m (send q) ++ fork k ∷ []) =
      sum_by-cons tries (make q) (replicate m (send q) ++ fork k ∷ []) in
      let both : tries_in (flat_map (lines_for m) (k ∷ ks)) ≡ tries_in (lines_for m k) + tries_in rest =
      sum_by-append tries (lines_for m k) rest in
      let more : tries_in rest ≤ 302 * length ks = main_tries few ks in
      let count : length (k ∷ ks) ≡ suc (length ks) = refl in
      few_more (tries_in (flat_map (lines_for m) (k ∷ ks))) (tries_in (lines_for m k)) (tries_in rest)
      (tries_in (replicate m (send q) ++ fork k ∷ [])) (length ks) both here sent more few

  worker_calls : m ≤ 300 → (ks : List ℕ) → list_all (λ (b : Block). list_all stays b.lines) (map (worker m) ks) ≡ true
      → sum_by calls_in (map (worker m) ks) ≤ 302 * length ks
  worker_calls few [] h = omega arith
  worker_calls few (k ∷ ks) h =
      let p = and_parts (list_all stays (spec.worker_lines m k)) _ h in
      let sent : tries_in (spec.worker_lines m k) ≡ m + 1 =
      tries_repeated m (receive (worker_queue k)) (send main_queue ∷ []) refl in
      let here : calls_in (worker m k) ≡ tries_in (spec.worker_lines m k) + 1 = calls_without_exit (worker m k) p.0 in
      let turned : calls_in (worker m k) ≡ 1 + tries_in (spec.worker_lines m k) = omega (arith, here) in
      let both : sum_by calls_in (map (worker m) (k ∷ ks))
      ≡ calls_in (worker m k) + sum_by calls_in (map (worker m) ks) =
      sum_by-cons calls_in (worker m k) (map (worker m) ks) in
      few_more (sum_by calls_in (map (worker m) (k ∷ ks))) (calls_in (worker m k)) (sum_by calls_in (map (worker m) ks))
      (tries_in (spec.worker_lines m k)) (length ks) both turned sent (worker_calls few ks p.1) few

  calls_within : (all first rest lines most w n : ℕ) → all ≡ first + rest → first ≡ lines + 1 → lines ≡ 1 + most
      → most ≤ 302 * n → rest ≤ 302 * n → n ≡ w → w ≤ 31 → all ≤ 20000
  calls_within all first rest lines most w n a b c d e f small = omega arith

  few_calls : (w : ℕ) → m ≤ 300 → w ≤ 31
      → list_all (λ (b : Block). list_all stays b.lines) (script_with m w).blocks ≡ true
      → sum_by calls_in (script_with m w).blocks ≤ 20000
  few_calls w few small h =
      let p = and_parts (list_all stays (spec.main_lines m w)) _ h in
      let first : Block = spec.main m w in
      let others : List Block = map (worker m) (upto w) in
      calls_within (sum_by calls_in (first ∷ others)) (calls_in first) (sum_by calls_in others)
      (tries_in (spec.main_lines m w)) (tries_in (flat_map (lines_for m) (upto w))) w (length (upto w))
      (sum_by-cons calls_in first others) (calls_without_exit first p.0)
      (sum_by-cons tries (make main_queue) (flat_map (lines_for m) (upto w)))
      (main_tries few (upto w)) (worker_calls few (upto w) p.1) (length-upto w) small

  -- ---- the tests of each number of workers

  abbrev forward : ℕ → List Fork → Bool
  forward size fs = list_all (λ (f : Fork). nat_lt f.from f.to && nat_le f.to size) fs

  abbrev once : List Fork → ℕ → Bool
  once fs number = nat_eq number 1 || nat_eq (count_by (λ (f : Fork). nat_eq f.to number) fs) 1

  abbrev is_sound_for : ℕ → Bool
  is_sound_for w =
      list_all (λ k. is_name (worker_name k)) (upto w)
      && ((not (list_any (λ k. is_same (codes "main") (worker_name k)) (upto w)) && differ (upto w))
      && (forward (suc w) (forks w) && (list_all (λ (b : ℕ × ℕ). once (forks w) b.0) (enumerate_from 2 (upto w))
      && list_all (knows (begins (main_queue ∷ []) (upto w))) (enumerate_from 2 (upto w)))))

  abbrev lines_pass : (Line → Bool) → ℕ → Bool
  lines_pass test w = list_all (passes test) (upto w)

  sound_table : list_all is_sound_for (upto 31) ≡ true
  unfolding digits
  sound_table = refl

  line_table : list_all (lines_pass is_line) (upto 31) ≡ true
  line_table = refl

  waiting_table : list_all (lines_pass waits_never) (upto 31) ≡ true
  waiting_table = refl

  exit_table : list_all (lines_pass stays) (upto 31) ≡ true
  exit_table = refl

  pub with_waits_never : (w : ℕ) → 1 ≤ w → w ≤ 31 → never_waits (script_with m w) ≡ true
  with_waits_never w some small =
      each_passes waits_never w refl refl (all_pass (lines_pass waits_never) 31 w waiting_table some small)

  pub with_sound : (w : ℕ) → m ≤ 300 → 1 ≤ w → w ≤ 31 → IsSoundScript (script_with m w)
  with_sound w few some small =
      let s : Script = script_with m w in
      let tests = all_pass is_sound_for 31 w sound_table some small in
      let a = and_parts (list_all (λ k. is_name (worker_name k)) (upto w)) _ tests in
      let b = and_parts (not (list_any (λ k. is_same (codes "main") (worker_name k)) (upto w)) && differ (upto w)) _ a.1
      in
      let c = and_parts (forward (suc w) (forks w)) _ b.1 in
      let d = and_parts (list_all (λ (b : ℕ × ℕ). once (forks w) b.0) (enumerate_from 2 (upto w))) _ c.1 in
      let size : length s.blocks ≡ suc w = ap suc (length-map (upto w) (worker m) ∙ length-upto w) in
      let low : 1 ≤ length s.blocks = omega (arith, size) in
      let high : length s.blocks ≤ 32 = omega (arith, size, small) in
      let stay : list_all (λ (b : Block). list_all stays b.lines) s.blocks ≡ true =
      each_passes stays w refl refl (all_pass (lines_pass stays) 31 w exit_table some small) in
      record {
        size = and_from _ _ (le-leb _ _ low) (le-leb _ _ high);
        names = list_all-map (λ (b : Block). is_name b.name) (worker m) (upto w) ∙ a.0;
        names_apart = ap₂ (λ (x y : Bool). not x && y) (none_same (codes "main") (upto w)) (names_apart (upto w)) ∙ b.0;
        forward = ap₂ forward size (forks_are w) ∙ c.0;
        forked_once =
            ap (λ (fs : List Fork). list_all (λ (b : ℕ × Block). once fs b.0) (enumerate_from 1 s.blocks)) (forks_are w)
            ∙ numbers_only (once (forks w)) 2 (upto w)
            ∙ d.0;
        lines = each_passes is_line w refl refl (all_pass (lines_pass is_line) 31 w line_table some small);
        exits = ends_right s.blocks stay;
        variables = variables_known w d.1;
        calls = le-leb _ _ (few_calls w few small stay);
      }

-- the generated script of each number is sound
pub generated_sound : (number : ℕ) → IsSoundScript (generated number)
unfolding generated
generated_sound number =
    let few : spec.messages_of number ≤ 300 = omega arith in
    let some : 1 ≤ spec.workers_of number = omega arith in
    let small : spec.workers_of number ≤ 31 = omega arith in
    with_sound (spec.messages_of number) (spec.workers_of number) few some small

-- and no call of it may have to wait
pub generated_waits_never : (number : ℕ) → never_waits (generated number) ≡ true
unfolding generated
generated_waits_never number =
    let some : 1 ≤ spec.workers_of number = omega arith in
    let small : spec.workers_of number ≤ 31 = omega arith in
    with_waits_never (spec.messages_of number) (spec.workers_of number) some small

-- a result that, if it is a script, is that one, is a sound script then
pub given_sound : {E : Type 0} (number : ℕ) (r : Result Script E) → IfOk r (λ s. s ≡ generated number)
    → IfOk r IsSoundScript
given_sound number r h =
    IfOk-weaker r _ _ (λ s e. subst IsSoundScript (sym e) (generated_sound number)) h

-- and its calls never wait
pub given_waits_never : {E : Type 0} (number : ℕ) (r : Result Script E) → IfOk r (λ s. s ≡ generated number)
    → IfOk r (λ s. never_waits s ≡ true)
given_waits_never number r h =
    IfOk-weaker r _ _ (λ s e. ap never_waits e ∙ generated_waits_never number) h
