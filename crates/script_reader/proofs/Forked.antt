-- Each block but the first is forked once, by a line of an earlier block.
use Rattle.std.proofs.Common.{◌≡◌, ℕ, zero, suc, ◌+◌, ◌<◌, ◌≤◌, Bool, true, false, ◌&&◌, ◌||◌, not, cond, eqb, ltb, leb, List, [], ◌∷◌, ◌++◌, map, length, set, get_or, Option, Some, None, refl, sym, ap, subst, ◌∙◌, append_assoc, arith, get_or-set_other, get_or-set_same}
use Rattle.std.specs.Prelude.{count_by, nat_eq, replicate}
use Rattle.std.specs.List.{list_all, flat_map, enumerate_from}
use Rattle.std.proofs.lemmas.Bool.{and_from, le-leb, lt-ltb, leb-true, leb-false, eqb-false, eqb-true}
use Rattle.std.proofs.lemmas.List.{length-append, length-set, length-replicate, append-nil, map-append}
use Rattle.std.proofs.lemmas.List.Sums.{sum_by-append}
use Rattle.std.proofs.lemmas.Grind.{flat_map-append}
use Rattle.pico_base.specs.declared.script.Block.{Block}
use Rattle.pico_base.specs.declared.script.Line.{Line}
use Rattle.kernel_model.specs.Script as model
use Rattle.kernel_model.specs.Script.{Fork, fork_from, fork_targets}
use Rattle.script_reader.specs.declared.place.Place.{Place}
use Rattle.script_reader.specs.declared.says.Said.{Said}
use Rattle.script_reader.specs.declared.says.Said.TheVariants.{Skipped, Opens, BadProc, Ends, Unknown, Bad, Forks, Calls}
use Rattle.script_reader.specs.Fault as spec
use Rattle.script_reader.specs.Fault.{start, no_flags}
use Rattle.script_reader.proofs.Saying.{IsFine}
use Rattle.script_reader.proofs.Steps.{IsFaultless}
use Rattle.script_reader.proofs.Opened.{not_both, inside_of, number_here, not_true as no_true}
use Rattle.script_reader.proofs.Tidy.{IsTidy, all_push}

-- ---- the forks of the lines so far

-- the blocks that the forks in these lines name, in order
abbrev pub targets : List Line → List ℕ
targets lines = flat_map (λ line. fork_targets line.call) lines

-- the forks in the lines of the block with this number
abbrev pub forks_of_lines : ℕ → List Line → List Fork
forks_of_lines n lines = map (fork_from n) (targets lines)

-- the forks of these blocks, the first of which has this number
abbrev pub forks_from : ℕ → List Block → List Fork
forks_from k blocks = flat_map (λ (b : ℕ × Block). forks_of_lines b.0 b.1.lines) (enumerate_from k blocks)

targets_push : (lines : List Line) (line : Line)
    → targets (lines ++ line ∷ []) ≡ targets lines ++ fork_targets line.call
targets_push lines line =
    flat_map-append (λ line. fork_targets line.call) lines (line ∷ [])
    ∙ ap (λ (ts : List ℕ). targets lines ++ ts) (append-nil (fork_targets line.call))

lines_push : (n : ℕ) (lines : List Line) (line : Line)
    → forks_of_lines n (lines ++ line ∷ []) ≡ forks_of_lines n lines ++ map (fork_from n) (fork_targets line.call)
lines_push n lines line =
    ap (map (fork_from n)) (targets_push lines line) ∙ map-append (fork_from n) (targets lines) (fork_targets line.call)

forks_push : (k n : ℕ) (blocks : List Block) (block : Block) → k + length blocks ≡ n
    → forks_from k (blocks ++ block ∷ []) ≡ forks_from k blocks ++ forks_of_lines n block.lines
forks_push k n [] block e = let same : k ≡ n =
    omega (arith, e) in append-nil (forks_of_lines k block.lines) ∙ ap (λ (m : ℕ). forks_of_lines m block.lines) same
forks_push k n (b ∷ blocks) block e =
    ap (λ (r : List Fork). forks_of_lines k b.lines ++ r) (forks_push (k + 1) n blocks block (omega (arith, e)))
    ∙ sym (append_assoc (forks_of_lines k b.lines) (forks_from (k + 1) blocks) (forks_of_lines n block.lines))

-- the forks of the whole blocks and of the open one
abbrev pub forks_so_far : List Block → List Line → List Fork
forks_so_far blocks lines = forks_from 1 blocks ++ forks_of_lines (length blocks + 1) lines

end_forks : (blocks : List Block) (name : List ℕ) (lines : List Line)
    → forks_so_far (blocks ++ record { name = name; lines = lines } ∷ []) [] ≡ forks_so_far blocks lines
end_forks blocks name lines =
    let same : 1 + length blocks ≡ length blocks + 1 = omega arith in
    append-nil (forks_from 1 (blocks ++ record { name = name; lines = lines } ∷ []))
    ∙ forks_push 1 (length blocks + 1) blocks (record { name = name; lines = lines }) same

-- a call other than `fork` forks nothing
pub no_targets : (line : Line) → model.is_fork line.call ≡ false → fork_targets line.call ≡ []
no_targets line e = of line.call e
  where
    of : (call : Rattle.pico_base.specs.declared.call.Call.Call) → model.is_fork call ≡ false → fork_targets call ≡ []
    of (Rattle.pico_base.specs.declared.call.Call.TheVariants.Fork block) e = cc
    of call e = refl

call_forks : (blocks : List Block) (lines : List Line) (line : Line) → model.is_fork line.call ≡ false
    → forks_so_far blocks (lines ++ line ∷ []) ≡ forks_so_far blocks lines
call_forks blocks lines line e =
    ap (λ (r : List Fork). forks_from 1 blocks ++ r)
    (lines_push (length blocks + 1) lines line
    ∙ ap (λ (ts : List ℕ). forks_of_lines (length blocks + 1) lines ++ map (fork_from (length blocks + 1)) ts)
    (no_targets line e) ∙ append-nil (forks_of_lines (length blocks + 1) lines))

fork_forks : (blocks : List Block) (lines : List Line) (line : Line) (n : ℕ) → fork_targets line.call ≡ n ∷ []
    → forks_so_far blocks (lines ++ line ∷ []) ≡ forks_so_far blocks lines ++ fork_from (length blocks + 1) n ∷ []
fork_forks blocks lines line n e =
    ap (λ (r : List Fork). forks_from 1 blocks ++ r)
    (lines_push (length blocks + 1) lines line
    ∙ ap (λ (ts : List ℕ). forks_of_lines (length blocks + 1) lines ++ map (fork_from (length blocks + 1)) ts) e)
    ∙ sym (append_assoc (forks_from 1 blocks) (forks_of_lines (length blocks + 1) lines)
    (fork_from (length blocks + 1) n ∷ []))

-- ---- what stands, in a text of so many names

-- a fork of a later block, up to this one
abbrev pub goes_to : ℕ → Fork → Bool
goes_to total fork = ltb fork.from fork.to && leb fork.to total

-- a fork of this block
abbrev pub is_to : ℕ → Fork → Bool
is_to k fork = nat_eq fork.to k

pub record AreForked (total : ℕ) (place : Place) : Type 0 where
  pub forward : list_all (goes_to total) (forks_so_far place.blocks place.lines) ≡ true
  pub count : (k : ℕ) → count_by (is_to k) (forks_so_far place.blocks place.lines)
      ≡ cond (spec.is_at place.forked k) 1 0
  pub room : length place.forked ≡ total + 1
  pub forked : (k : ℕ) → 2 ≤ k → k ≤ length place.blocks + cond place.inside 1 0 → spec.is_at place.forked k ≡ true

flag_set : (flags : List Bool) (n k : ℕ) → n < length flags
    → spec.is_at (set flags n true) k ≡ (eqb n k || spec.is_at flags k)
flag_set flags n k room = of (eqb n k) refl
  where
    of : (b : Bool) → eqb n k ≡ b → spec.is_at (set flags n true) k ≡ (b || spec.is_at flags k)
    of true e = let same : n ≡ k =
        eqb-true n k e in subst (λ (m : ℕ). spec.is_at (set flags n true) m ≡ true) same
        (get_or-set_same flags n true false room)
    of false e = let other : k ≡ n → ⊥ = λ s. eqb-false n k e (sym s) in get_or-set_other flags n k true false other

count_more : (k n : ℕ) (forks : List Fork) (from : ℕ)
    → count_by (is_to k) (forks ++ fork_from from n ∷ []) ≡ count_by (is_to k) forks + cond (eqb n k) 1 0
count_more k n forks from = sum_by-append (λ f. cond (is_to k f) 1 0) forks (fork_from from n ∷ []) ∙ omega arith

one_or_none : (a b : Bool) (c : ℕ) → c ≡ cond b 1 0 → (a ≡ true → b ≡ false) → c + cond a 1 0 ≡ cond (a || b) 1 0
one_or_none true b c e f = omega (arith, e ∙ ap {B = ℕ} (λ (x : Bool). cond x 1 0) (f refl))
one_or_none false b c e f = omega (arith, e)

forked_fork : (total : ℕ) (place : Place) (line : Line) (n : ℕ) (known : List Bool) (calls : ℕ)
    (begun : List Rattle.script_reader.specs.declared.place.Begun.Begun) → AreForked total place
    → fork_targets line.call ≡ n ∷ [] → length place.blocks + 1 < n → n ≤ total → spec.is_at place.forked n ≡ false
    → AreForked total (record place {
      lines = place.lines ++ line ∷ [];
      known = known;
      forked =
          set place.forked n true;
      calls = calls;
      begun = begun;
    })
forked_fork total place line n known calls begun h is low high free =
    let all = fork_forks place.blocks place.lines line n is in
    let room : n < length place.forked = omega (arith, h.room, high) in
    record {
      forward = ap (list_all (goes_to total)) all
          ∙ all_push (goes_to total) (forks_so_far place.blocks place.lines)
          (fork_from (length place.blocks + 1) n) h.forward
          (and_from (ltb (length place.blocks + 1) n) (leb n total) (lt-ltb (length place.blocks + 1) n low)
          (le-leb n total high));
      count = λ k. ap (count_by (is_to k)) all
          ∙ count_more k n (forks_so_far place.blocks place.lines) (length place.blocks + 1)
          ∙ one_or_none (eqb n k) (spec.is_at place.forked k)
          (count_by (is_to k) (forks_so_far place.blocks place.lines)) (h.count k)
          (λ e. ap (spec.is_at place.forked) (sym (eqb-true n k e)) ∙ free)
          ∙ ap {B = ℕ} (λ (b : Bool). cond b 1 0) (sym (flag_set place.forked n k room));
      room = length-set place.forked n true ∙ h.room;
      forked = λ k lo hi. flag_set place.forked n k room ∙ rw (h.forked k lo hi) (or_true (eqb n k));
    }
  where
    or_true : (b : Bool) → (b || true) ≡ true
    or_true true = refl
    or_true false = refl

-- the node of a block that a script can have
pub node_is : (n : ℕ) → 1 ≤ n → n ≤ 32 → spec.node_of n ≡ n
node_is n low high = rw (lt-ltb 0 n low, le-leb n 32 high) refl

either_way : (c : Bool) (a b : ℕ) → (ltb 1 (a + 1) && not c) ≡ false → 2 ≤ b → b ≡ a + 1 → c ≡ true
either_way true a b e low is = refl
either_way false a b e low is =
    absurd (no_true (sym (and_from (ltb 1 (a + 1)) true (lt-ltb 1 (a + 1) (omega (arith, low, is))) refl) ∙ e))

opens_forked : (place : Place) (number k : ℕ) (b : Bool) → leb k (length place.blocks) ≡ b → 2 ≤ k
    → k ≤ length place.blocks + 1 → number ≡ length place.blocks + 1
    → (2 ≤ k → k ≤ length place.blocks + cond place.inside 1 0 → spec.is_at place.forked k ≡ true)
    → (ltb 1 (length place.blocks + 1) && not (spec.is_at place.forked number)) ≡ false
    → spec.is_at place.forked k ≡ true
opens_forked place number k true e low high is before f = before low (omega (arith, leb-true k (length place.blocks) e))
opens_forked place number k false e low high is before f =
    let last : k ≡ length place.blocks + 1 = omega (arith, high, leb-false k (length place.blocks) e) in
    ap (spec.is_at place.forked) (last ∙ sym is)
    ∙ either_way (spec.is_at place.forked number) (length place.blocks) k f low last

-- each line without a fault keeps what stands of forks
pub forked_step : (names : List (List ℕ)) (place : Place) (size : ℕ) (o : Option (List ℕ))
    (said : Said) → length names ≤ 32 → IsTidy place → AreForked (length names) place → IsFine names o said
    → IsFaultless place size said → AreForked (length names) (spec.behind place said)
forked_step names place size o (Opens name number) small t h fine f =
    let here = number_here place size name number f in
    let none : place.lines ≡ [] = t.outside here.0 in
    record {
      forward = ap (λ (ls : List Line). list_all (goes_to (length names)) (forks_so_far place.blocks ls)) (sym none)
          ∙ h.forward;
      count = λ k. ap (λ (ls : List Line). count_by (is_to k) (forks_so_far place.blocks ls)) (sym none) ∙ h.count k;
      room = h.room;
      forked = λ k low high.
          opens_forked place number k (leb k (length place.blocks)) refl low high here.1 (h.forked k) f.forked;
    }
forked_step names place size o Skipped small t h fine f = h
forked_step names place size o Ends small t h fine f =
    let same = end_forks place.blocks place.name place.lines in
    let within = inside_of place Ends f.no_proc refl in
    let count : length (place.blocks ++ record { name = place.name; lines = place.lines } ∷ [])
    ≡ length place.blocks + 1 =
    length-append place.blocks (record { name = place.name; lines = place.lines } ∷ []) in
    record {
      forward = ap (list_all (goes_to (length names))) same ∙ h.forward;
      count = λ k. ap (count_by (is_to k)) same ∙ h.count k;
      room = h.room;
      forked = λ k low high. h.forked k low (omega (arith, high, count, ap {B = ℕ} (λ (b : Bool). cond b 1 0) within));
    }
forked_step names place size o (Forks set None) small t h fine f = h
forked_step names place size o (Forks set (Some n)) small t h fine f =
    let line : Line = spec.fork_line set n in
    let node : fork_targets line.call ≡ n ∷ [] =
    ap (λ (m : ℕ). m ∷ []) (node_is n fine.1.0 (omega (arith, fine.1.1, small))) in
    let g = forked_fork (length names) place line n (spec.known_with place.known set) (place.calls + 1)
    (spec.with_begun place.begun n (spec.known_with place.known set)) h node
    (leb-false n (length place.blocks + 1) f.forward) fine.1.1 f.once in
    record { forward = g.forward; count = g.count; room = g.room; forked = g.forked }
forked_step names place size o (Calls line) small t h fine f =
    let same = call_forks place.blocks place.lines line fine.1 in
    record {
      forward = ap (list_all (goes_to (length names))) same ∙ h.forward;
      count = λ k. ap (count_by (is_to k)) same ∙ h.count k;
      room = h.room;
      forked = h.forked;
    }
forked_step names place size o BadProc small t h fine f = absurd (no_true f.good)
forked_step names place size o Bad small t h fine f = absurd (no_true f.good)
forked_step names place size o Unknown small t h fine f =
    absurd (no_true (sym (inside_of place Unknown f.no_proc refl) ∙ not_both place.inside true f.known_call refl))

no_flag_of : (n k : ℕ) → get_or (replicate n false) k false ≡ false
no_flag_of zero k = refl
no_flag_of (suc n) zero = refl
no_flag_of (suc n) (suc k) = no_flag_of n k

-- before the first line nothing is forked
pub first_forks : (names : ℕ) → AreForked names (start names)
unfolding start no_flags
first_forks names =
    record {
      forward = refl;
      count = λ k. ap {B = ℕ} (λ (b : Bool). cond b 1 0) (sym (no_flag_of (names + 1) k));
      room = length-replicate (names + 1) false;
      forked = λ k low high. absurd (omega (arith, low, high));
    }
