-- Variables that lines use are known there.
use Rattle.std.proofs.Common.{◌≡◌, ℕ, zero, suc, ◌+◌, ◌≤◌, Bool, true, false, ◌&&◌, ◌||◌, eqb, List, [], ◌∷◌, ◌++◌, map, length, get_or, set, Option, Some, None, refl, sym, ap, subst, ◌∙◌, append_assoc, arith, get_or-set_other}
use Rattle.std.specs.Prelude.{nat_eq, replicate}
use Rattle.std.specs.List.{list_any}
use Rattle.std.proofs.lemmas.Bool.{eqb-true, eqb-false, eq-eqb, ne_eqb, le-leb}
use Rattle.std.proofs.lemmas.List.{append-nil}
use Rattle.pico_base.specs.declared.script.Block.{Block}
use Rattle.pico_base.specs.declared.script.Line.{Line}
use Rattle.kernel_model.specs.Script as model
use Rattle.kernel_model.specs.Script.{fork_targets}
use Rattle.script_reader.specs.declared.place.Begun.{Begun}
use Rattle.script_reader.specs.declared.place.Place.{Place}
use Rattle.script_reader.specs.Fault as spec
use Rattle.script_reader.specs.Fault.{start, no_flags, begun_with}
use Rattle.script_reader.proofs.Opened.{not_false, not_true as no_true}

-- ---- the variables that are known behind lines

abbrev pub known_over : List ℕ → List Line → List ℕ
known_over known [] = known
known_over known (line ∷ lines) = known_over (model.known_with known line.set) lines

pub known-push : (known : List ℕ) (lines : List Line) (line : Line)
    → known_over known (lines ++ line ∷ []) ≡ model.known_with (known_over known lines) line.set
known-push known [] line = refl
known-push known (l ∷ lines) line = known-push (model.known_with known l.set) lines line

and_assoc : (a b c : Bool) → (a && (b && c)) ≡ ((a && b) && c)
and_assoc true b c = refl
and_assoc false b c = refl

and_true : (a : Bool) → (a && true) ≡ a
and_true true = refl
and_true false = refl

pub uses-push : (known : List ℕ) (lines : List Line) (line : Line)
    → model.uses_known known (lines ++ line ∷ [])
    ≡ (model.uses_known known lines && model.is_known (known_over known lines) line.from)
uses-push known [] line = and_true (model.is_known known line.from)
uses-push known (l ∷ lines) line =
    ap (λ b. model.is_known known l.from && b) (uses-push (model.known_with known l.set) lines line)
    ∙ and_assoc (model.is_known known l.from) (model.uses_known (model.known_with known l.set) lines)
    (model.is_known (known_over (model.known_with known l.set) lines) line.from)

abbrev pub begun_by : List ℕ → Line → List (ℕ × List ℕ)
begun_by known line = map (λ (block : ℕ). (block, model.known_with known line.set)) (fork_targets line.call)

pub begun-push : (known : List ℕ) (lines : List Line) (line : Line)
    → model.begun_in known (lines ++ line ∷ []) ≡ model.begun_in known lines ++ begun_by (known_over known lines) line
begun-push known [] line = append-nil (begun_by known line)
begun-push known (l ∷ lines) line =
    ap (λ (r : List (ℕ × List ℕ)). begun_by known l ++ r) (begun-push (model.known_with known l.set) lines line)
    ∙ sym (append_assoc (begun_by known l) (model.begun_in (model.known_with known l.set) lines)
    (begun_by (known_over (model.known_with known l.set) lines) line))

-- ---- the same over blocks

abbrev pub begun_over : List (ℕ × List ℕ) → ℕ → List Block → List (ℕ × List ℕ)
begun_over begun k [] = begun
begun_over begun k (block ∷ blocks) =
    begun_over (begun ++ model.begun_in (model.known_at begun k) block.lines) (k + 1) blocks

same_place : (k n : ℕ) → k + 1 + n ≡ k + suc n
same_place k n = omega arith

pub over-push : (begun : List (ℕ × List ℕ)) (k : ℕ) (blocks : List Block) (block : Block)
    → begun_over begun k (blocks ++ block ∷ []) ≡ begun_over begun k blocks
    ++ model.begun_in (model.known_at (begun_over begun k blocks) (k + length blocks)) block.lines
over-push begun k [] block = let same : k + 0 ≡ k =
    omega arith in ap (λ n. begun ++ model.begun_in (model.known_at begun n) block.lines) (sym same)
over-push begun k (b ∷ blocks) block =
    let next : List (ℕ × List ℕ) = begun ++ model.begun_in (model.known_at begun k) b.lines in
    over-push next (k + 1) blocks block
    ∙ ap (λ n. begun_over next (k + 1) blocks
    ++ model.begun_in (model.known_at (begun_over next (k + 1) blocks) n) block.lines)
    (same_place k (length blocks))

pub uses_from-push : (begun : List (ℕ × List ℕ)) (k : ℕ) (blocks : List Block) (block : Block)
    → model.uses_known_from begun k (blocks ++ block ∷ [])
    ≡ (model.uses_known_from begun k blocks
    && model.uses_known (model.known_at (begun_over begun k blocks) (k + length blocks)) block.lines)
uses_from-push begun k [] block =
    let same : k + 0 ≡ k = omega arith in
    and_true (model.uses_known (model.known_at begun k) block.lines)
    ∙ ap (λ n. model.uses_known (model.known_at begun n) block.lines) (sym same)
uses_from-push begun k (b ∷ blocks) block =
    let next : List (ℕ × List ℕ) = begun ++ model.begun_in (model.known_at begun k) b.lines in
    let here : Bool = model.uses_known (model.known_at begun k) b.lines in
    ap (λ r. here && r) (uses_from-push next (k + 1) blocks block
    ∙ ap (λ n. model.uses_known_from next (k + 1) blocks
    && model.uses_known (model.known_at (begun_over next (k + 1) blocks) n) block.lines)
    (same_place k (length blocks)))
    ∙ and_assoc here (model.uses_known_from next (k + 1) blocks)
    (model.uses_known (model.known_at (begun_over next (k + 1) blocks) (k + suc (length blocks))) block.lines)

-- ---- flags and lists

-- each variable whose flag is set is among these
abbrev pub Under : List Bool → List ℕ → Type 0
Under flags known = (v : ℕ) → spec.is_at flags v ≡ true → list_any (nat_eq v) known ≡ true

no_flag_of : (n v : ℕ) → get_or (replicate n false) v false ≡ false
no_flag_of zero v = refl
no_flag_of (suc n) zero = refl
no_flag_of (suc n) (suc v) = no_flag_of n v

pub no_flag : (n v : ℕ) → spec.is_at (no_flags n) v ≡ false
unfolding no_flags
no_flag n v = no_flag_of n v

pub under_nothing : (n : ℕ) (known : List ℕ) → Under (spec.no_flags n) known
under_nothing n known v e = absurd (no_true (sym e ∙ no_flag n v))

by_same : (flags : List Bool) (known : List ℕ) (u v : ℕ) (b : Bool) → eqb v u ≡ b
    → (spec.is_at flags v ≡ true → list_any (nat_eq v) known ≡ true) → spec.is_at (set flags u true) v ≡ true
    → (b || list_any (nat_eq v) known) ≡ true
by_same flags known u v true t h e = refl
by_same flags known u v false t h e = h (sym (get_or-set_other flags u v true false (eqb-false v u t)) ∙ e)

under_set : (flags : List Bool) (known : List ℕ) (u : ℕ) → Under flags known → Under (set flags u true) (u ∷ known)
under_set flags known u h v e = by_same flags known u v (eqb v u) refl (h v) e

pub under_with : (flags : List Bool) (known : List ℕ) (o : Option ℕ) → Under flags known
    → Under (spec.known_with flags o) (model.known_with known o)
under_with flags known None h = h
under_with flags known (Some u) h = under_set flags known u h

abbrev pub AreBegun : List Begun → List (ℕ × List ℕ) → Type 0
AreBegun [] [] = Unit {0}
AreBegun [] (c ∷ cs) = ⊥
AreBegun (b ∷ bs) [] = ⊥
AreBegun (b ∷ bs) (c ∷ cs) = (b.number ≡ c.0) × Under b.known c.1 × AreBegun bs cs

pub begun_push : (bs : List Begun) (cs : List (ℕ × List ℕ)) (b : Begun) (c : ℕ × List ℕ) → AreBegun bs cs
    → b.number ≡ c.0 → Under b.known c.1 → AreBegun (bs ++ b ∷ []) (cs ++ c ∷ [])
begun_push [] [] b c h e k = (e, k, tt)
begun_push [] (d ∷ cs) b c h e k = absurd h
begun_push (x ∷ bs) [] b c h e k = absurd h
begun_push (x ∷ bs) (d ∷ cs) b c h e k = (h.0, h.1, begun_push bs cs b c h.2 e k)

found_or_not : (b : Begun) (bs : List Begun) (c : ℕ × List ℕ) (cs : List (ℕ × List ℕ)) (n : ℕ) (t : Bool)
    → eqb b.number n ≡ t → eqb n c.0 ≡ t → Under b.known c.1 → Under (begun_with bs n) (model.known_at cs n)
    → Under (begun_with (b ∷ bs) n) (model.known_at (c ∷ cs) n)
unfolding begun_with
found_or_not b bs c cs n true e f here more = rw (e, f) here
found_or_not b bs c cs n false e f here more = rw (e, f) more

symmetric : (a b : ℕ) (t : Bool) → eqb a b ≡ t → eqb b a ≡ t
symmetric a b true e = eq-eqb b a (sym (eqb-true a b e))
symmetric a b false e = ne_eqb b a (λ s. eqb-false a b e (sym s))

pub begun_under : (bs : List Begun) (cs : List (ℕ × List ℕ)) (n : ℕ) → AreBegun bs cs
    → Under (begun_with bs n) (model.known_at cs n)
unfolding begun_with
begun_under [] [] n h = under_nothing 2886 []
begun_under [] (c ∷ cs) n h = absurd h
begun_under (b ∷ bs) [] n h = absurd h
begun_under (b ∷ bs) (c ∷ cs) n h =
    found_or_not b bs c cs n (eqb b.number n) refl
    (ap (λ (m : ℕ). eqb n m) (sym h.0) ∙ symmetric b.number n (eqb b.number n) refl) h.1 (begun_under bs cs n h.2)

-- ---- what stands

-- what the next block begins with
abbrev pub first_known : List Block → List ℕ
first_known blocks = model.known_at (begun_over [] 1 blocks) (length blocks + 1)

abbrev pub all_begun : List Block → List Line → List (ℕ × List ℕ)
all_begun blocks lines = begun_over [] 1 blocks ++ model.begun_in (first_known blocks) lines

pub record AreKnown (place : Place) : Type 0 where
  pub uses_blocks : model.uses_known_from [] 1 place.blocks ≡ true
  pub uses_lines : model.uses_known (first_known place.blocks) place.lines ≡ true
  pub known : place.inside ≡ true → Under place.known (known_over (first_known place.blocks) place.lines)
  pub begun : AreBegun place.begun (all_begun place.blocks place.lines)

next_place : (n : ℕ) → 1 + n ≡ n + 1
next_place n = omega arith

-- a block begins with what was known behind its fork
pub known_open : (place : Place) (name : List ℕ) (number : ℕ) → AreKnown place → place.lines ≡ []
    → number ≡ length place.blocks + 1 → AreKnown (spec.opened place name number)
known_open place name number h none is =
    let over : List (ℕ × List ℕ) = begun_over [] 1 place.blocks in
    let begun : AreBegun place.begun (over ++ []) =
    subst (λ (ls : List Line). AreBegun place.begun (all_begun place.blocks ls)) none h.begun in
    let plain : AreBegun place.begun over = subst (AreBegun place.begun) (append-nil over) begun in
    record {
      uses_blocks = h.uses_blocks;
      uses_lines = refl;
      known = λ _. subst (λ (n : ℕ). Under (begun_with place.begun number) (model.known_at over n)) is
          (begun_under place.begun over number plain);
      begun = begun;
    }

-- a whole block keeps what stands of variables
pub known_end : (place : Place) (implied : ℕ) → AreKnown place → AreKnown (spec.ended place implied)
known_end place implied h =
    let block : Block = record { name = place.name; lines = place.lines } in
    let over : List (ℕ × List ℕ) = begun_over [] 1 place.blocks in
    let pushed : begun_over [] 1 (place.blocks ++ block ∷ []) ≡ all_begun place.blocks place.lines =
    over-push [] 1 place.blocks block
    ∙ ap (λ (n : ℕ). over ++ model.begun_in (model.known_at over n) place.lines)
    (next_place (length place.blocks)) in
    let uses : model.uses_known (model.known_at over (1 + length place.blocks)) place.lines ≡ true =
    ap (λ (n : ℕ). model.uses_known (model.known_at over n) place.lines) (next_place (length place.blocks))
    ∙ h.uses_lines in
    record {
      uses_blocks = uses_from-push [] 1 place.blocks block ∙ rw (h.uses_blocks) uses;
      uses_lines = refl;
      known = λ e. absurd (no_true (sym e));
      begun = subst (AreBegun place.begun)
          (sym (append-nil (begun_over [] 1 (place.blocks ++ block ∷ [])) ∙ pushed)) h.begun;
    }

was_set : (place : Place) (known : List ℕ) (o : Option ℕ) → Under place.known known → spec.is_unset place o ≡ false
    → model.is_known known o ≡ true
was_set place known None h e = refl
was_set place known (Some v) h e = h v (not_false (spec.is_at place.known v) e)

uses_one_more : (place : Place) (line : Line) → AreKnown place → place.inside ≡ true
    → spec.is_unset place line.from ≡ false
    → model.uses_known (first_known place.blocks) (place.lines ++ line ∷ []) ≡ true
uses_one_more place line h within e =
    uses-push (first_known place.blocks) place.lines line
    ∙ rw (h.uses_lines) (was_set place (known_over (first_known place.blocks) place.lines) line.from
    (h.known within) e)

knows_one_more : (place : Place) (line : Line) → AreKnown place → place.inside ≡ true
    → Under (spec.known_with place.known line.set) (known_over (first_known place.blocks) (place.lines ++ line ∷ []))
knows_one_more place line h within =
    subst (Under (spec.known_with place.known line.set)) (sym (known-push (first_known place.blocks) place.lines line))
    (under_with place.known (known_over (first_known place.blocks) place.lines) line.set (h.known within))

begun_one_more : (blocks : List Block) (lines : List Line) (line : Line)
    → all_begun blocks (lines ++ line ∷ []) ≡ all_begun blocks lines
    ++ begun_by (known_over (first_known blocks) lines) line
begun_one_more blocks lines line =
    ap (λ (r : List (ℕ × List ℕ)). begun_over [] 1 blocks ++ r) (begun-push (first_known blocks) lines line)
    ∙ sym (append_assoc (begun_over [] 1 blocks) (model.begun_in (first_known blocks) lines)
    (begun_by (known_over (first_known blocks) lines) line))

-- a call line keeps it
pub known_call : (place : Place) (line : Line) → AreKnown place → place.inside ≡ true → fork_targets line.call ≡ []
    → spec.is_unset place line.from ≡ false → AreKnown (spec.calling place line)
known_call place line h within quiet e =
    let none : begun_by (known_over (first_known place.blocks) place.lines) line ≡ [] =
    ap (map (λ (block : ℕ). (block, model.known_with (known_over (first_known place.blocks) place.lines) line.set)))
    quiet in
    let same : all_begun place.blocks (place.lines ++ line ∷ []) ≡ all_begun place.blocks place.lines =
    begun_one_more place.blocks place.lines line
    ∙ ap (λ (r : List (ℕ × List ℕ)). all_begun place.blocks place.lines ++ r) none
    ∙ append-nil (all_begun place.blocks place.lines) in
    record {
      uses_blocks = h.uses_blocks;
      uses_lines = uses_one_more place line h within e;
      known = λ _. knows_one_more place line h within;
      begun = subst (AreBegun place.begun) (sym same) h.begun;
    }

-- a line that forks keeps it
pub known_fork : (place : Place) (set : Option ℕ) (n : ℕ) → AreKnown place → place.inside ≡ true → n ≤ 32
    → spec.node_of n ≡ n → AreKnown (spec.forking place set n)
known_fork place set n h within small node =
    let line : Line = spec.fork_line set n in
    let known : List Bool = spec.known_with place.known set in
    let after : List ℕ = model.known_with (known_over (first_known place.blocks) place.lines) set in
    let by : begun_by (known_over (first_known place.blocks) place.lines) line ≡ (n, after) ∷ [] =
    ap (λ (m : ℕ). (m, after) ∷ []) node in
    let all : all_begun place.blocks (place.lines ++ line ∷ []) ≡ all_begun place.blocks place.lines ++ (n, after)
    ∷ [] = begun_one_more place.blocks place.lines line
    ∙ ap (λ (r : List (ℕ × List ℕ)). all_begun place.blocks place.lines ++ r) by in
    let noted : spec.with_begun place.begun n known ≡ place.begun ++ record { number = n; known = known } ∷ [] =
    rw (le-leb n 32 small) refl in
    let pushed : AreBegun (place.begun ++ record { number = n; known = known } ∷ [])
    (all_begun place.blocks place.lines ++ (n, after) ∷ []) =
    begun_push place.begun (all_begun place.blocks place.lines) (record { number = n; known = known })
    (n, after) h.begun refl
    (under_with place.known (known_over (first_known place.blocks) place.lines) set (h.known within)) in
    record {
      uses_blocks = h.uses_blocks;
      uses_lines = uses_one_more place line h within refl;
      known = λ _. knows_one_more place line h within;
      begun = subst (λ (bs : List Begun). AreBegun bs (all_begun place.blocks (place.lines ++ line ∷ []))) (sym noted)
          (subst (AreBegun (place.begun ++ record { number = n; known = known } ∷ [])) (sym all) pushed);
    }

-- before the first line no variable is known
pub first_place_known : (names : ℕ) → AreKnown (start names)
unfolding start
first_place_known names =
    record { uses_blocks = refl; uses_lines = refl; known = λ e. absurd (no_true (sym e)); begun = tt }
