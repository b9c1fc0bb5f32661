-- A sound script forks each later block by one line of one block: so once it is forked, no line left forks it.
use Rattle.std.proofs.Common.{◌≡◌, ◌≢◌, ℕ, zero, suc, ◌+◌, ◌-◌, ◌≤◌, ◌<◌, Bool, true, false, cond, ◌||◌, ◌&&◌, nat_eq, List, [], ◌∷◌, ◌++◌, length, map, drop, Option, Some, None, refl, ap, sym, subst, ◌∙◌, inl, inr, arith}
use Rattle.std.specs.Prelude.{slice_get, count_by, if◌then◌else◌}
use Rattle.std.specs.List.{list_all, list_any, flat_map, enumerate_from}
use Rattle.std.proofs.lemmas.List.Recursion.{is_count_by}
use Rattle.std.proofs.lemmas.Bool.{cases_Bool, cases_eq, eqb-true, ne_eqb, false≢true}
use Rattle.pico_base.specs.declared.call.Call.{Call}
use Rattle.pico_base.specs.declared.call.Call.TheVariants as calls
use Rattle.pico_base.specs.declared.script.Line.{Line}
use Rattle.pico_base.specs.declared.script.Block.{Block}
use Rattle.pico_base.specs.declared.script.Script.{Script}
use Rattle.kernel_model.specs.Script.{Fork, IsSoundScript, fork_from, fork_targets, forks_of, is_forked_once, is_exit, with_exit}
use Rattle.kernel_model.specs.Fitting.{block_at}
use Rattle.node_model.specs.Caller.{Caller, caller_place, lines_in}

-- the call forks this block
abbrev pub forks_block : ℕ → Call → Bool
forks_block block (calls.Fork to) = nat_eq to block
forks_block block call = false

-- a line forks a block
abbrev pub forks_in_line : ℕ → Line → Bool
forks_in_line block line = forks_block block line.call

-- how many pass a test
abbrev one_if : Bool → ℕ
one_if b = cond b 1 0

abbrev hits : {X : Type 0} → (X → Bool) → List X → ℕ
hits p [] = 0
hits p (x ∷ xs) = one_if (p x) + hits p xs

add-if : (b : Bool) (m : ℕ) → one_if b + m ≡ cond b (1 + m) m
add-if true m = refl
add-if false m = omega arith

hits-count : {X : Type 0} (p : X → Bool) (xs : List X) → hits p xs ≡ count_by p xs
hits-count p xs = is_count_by (hits p) p refl (λ x xs. add-if (p x) (hits p xs)) xs

hits-append : {X : Type 0} (p : X → Bool) (xs ys : List X) → hits p (xs ++ ys) ≡ hits p xs + hits p ys
hits-append p [] ys = omega arith
hits-append p (x ∷ xs) ys = let rest = hits-append p xs ys in omega (arith, rest)

-- the forks of lines, and those of blocks from a number on
abbrev tos_of : List Line → List ℕ
tos_of lines = flat_map (λ line. fork_targets line.call) lines

abbrev pairs : ℕ → List ℕ → List Fork
pairs k tos = map (fork_from k) tos

abbrev forks_from : ℕ → List Block → List Fork
forks_from k blocks = flat_map (λ b. pairs b.0 (tos_of b.1.lines)) (enumerate_from k blocks)

abbrev is_to : ℕ → Fork → Bool
is_to block fork = nat_eq fork.to block

-- how often lines, and blocks, fork a block
abbrev named : ℕ → List Line → ℕ
named block lines = hits (forks_in_line block) lines

abbrev total : ℕ → List Block → ℕ
total block [] = 0
total block (b ∷ blocks) = named block b.lines + total block blocks

map-append : (k : ℕ) (xs ys : List ℕ) → pairs k (xs ++ ys) ≡ pairs k xs ++ pairs k ys
map-append k [] ys = refl
map-append k (x ∷ xs) ys = ap (λ zs. fork_from k x ∷ zs) (map-append k xs ys)

hits-line : (k block : ℕ) (call : Call)
    → hits (is_to block) (pairs k (fork_targets call)) ≡ one_if (forks_block block call)
hits-line k block (calls.Fork to) = omega arith
hits-line k block call = refl

hits-lines : (k block : ℕ) (lines : List Line) → hits (is_to block) (pairs k (tos_of lines)) ≡ named block lines
hits-lines k block [] = refl
hits-lines k block (line ∷ lines) =
    let rest = hits-lines k block lines
    in ap (hits (is_to block)) (map-append k (fork_targets line.call) (tos_of lines))
    ∙ hits-append (is_to block) (pairs k (fork_targets line.call)) (pairs k (tos_of lines))
    ∙ (let here = hits-line k block line.call in omega (arith, here, rest))

hits-blocks : (k block : ℕ) (blocks : List Block) → hits (is_to block) (forks_from k blocks) ≡ total block blocks
hits-blocks k block [] = refl
hits-blocks k block (b ∷ blocks) =
    let here = hits-lines k block b.lines
    in let rest = hits-blocks (k + 1) block blocks
    in hits-append (is_to block) (pairs k (tos_of b.lines)) (forks_from (k + 1) blocks) ∙ omega (arith, here, rest)

-- ---- one of them

get-within : {X : Type 0} (xs : List X) (i : ℕ) → i < length xs → (x : X) × (slice_get xs i ≡ Some x)
get-within [] i h = absurd (omega arith)
get-within (x ∷ xs) zero h = (x, refl)
get-within (x ∷ xs) (suc i) h = get-within xs i (omega arith)

all-numbered : {X : Type 0} (f : ℕ × X → Bool) (n : ℕ) (xs : List X) (i : ℕ) (x : X)
    → list_all f (enumerate_from n xs) ≡ true → slice_get xs i ≡ Some x → f (n + i, x) ≡ true
all-numbered f n [] i x a h = absurd (cc)
all-numbered f n (y ∷ xs) zero x a h =
    let e : y ≡ x = cc
    in let same : n + zero ≡ n = omega arith
    in subst (λ m. f (m, x) ≡ true) (sym same) (subst (λ z. f (n, z) ≡ true) e (first (f (n, y)) _ a))
  where
    first : (a b : Bool) → (a && b) ≡ true → a ≡ true
    first true b h = refl
    first false b h = absurd (false≢true h)
all-numbered f n (y ∷ xs) (suc i) x a h =
    let same : n + suc i ≡ n + 1 + i = omega arith
    in subst (λ m. f (m, x) ≡ true) (sym same) (all-numbered f (n + 1) xs i x (second (f (n, y)) _ a) h)
  where
    second : (a b : Bool) → (a && b) ≡ true → b ≡ true
    second true b h = h
    second false b h = absurd (false≢true h)

-- each later block is forked once
once : (s : Script) (block : ℕ) → IsSoundScript s → 2 ≤ block → block ≤ length s.blocks → total block s.blocks ≡ 1
once s block sound low high =
    let found = get-within s.blocks (block - 1) (omega arith)
    in let all = all-numbered (λ b. nat_eq b.0 1 || is_forked_once s b.0) 1 s.blocks (block - 1) found.0
    sound.forked_once found.1
    in let same : 1 + (block - 1) ≡ block = omega arith
    in let here : (nat_eq block 1 || is_forked_once s block) ≡ true =
    subst (λ q. (nat_eq q 1 || is_forked_once s q) ≡ true) same all
    in let other : nat_eq block 1 ≡ false = ne_eqb block 1 (λ x. omega arith)
    in let counted = eqb-true (count_by (is_to block) (forks_of s)) 1
    (sym (ap (λ b. b || is_forked_once s block) other) ∙ here)
    in let sums = hits-blocks 1 block s.blocks
    in let hits_are = hits-count (is_to block) (forks_of s)
    in omega (arith, counted, sums, hits_are)

named-at : (block : ℕ) (blocks : List Block) (i : ℕ) (b : Block) → slice_get blocks i ≡ Some b
    → named block b.lines ≤ total block blocks
named-at block [] i b h = absurd (cc)
named-at block (x ∷ blocks) zero b h =
    let same : x ≡ b = cc
    in let is : named block x.lines ≡ named block b.lines = ap (λ (y : Block). named block y.lines) same
    in omega (arith, is)
named-at block (x ∷ blocks) (suc i) b h = let rest = named-at block blocks i b h in omega (arith, rest)

named-two : (block : ℕ) (blocks : List Block) (i j : ℕ) (b d : Block) → slice_get blocks i ≡ Some b
    → slice_get blocks j ≡ Some d → i ≢ j → named block b.lines + named block d.lines ≤ total block blocks
named-two block [] i j b d h g apart = absurd (cc)
named-two block (x ∷ blocks) zero zero b d h g apart = absurd (apart refl)
named-two block (x ∷ blocks) zero (suc j) b d h g apart =
    let same : x ≡ b = cc
    in let is : named block x.lines ≡ named block b.lines = ap (λ (y : Block). named block y.lines) same
    in let rest = named-at block blocks j d g
    in omega (arith, is, rest)
named-two block (x ∷ blocks) (suc i) zero b d h g apart =
    let same : x ≡ d = cc
    in let is : named block x.lines ≡ named block d.lines = ap (λ (y : Block). named block y.lines) same
    in let rest = named-at block blocks i b h
    in omega (arith, is, rest)
named-two block (x ∷ blocks) (suc i) (suc j) b d h g apart =
    let rest = named-two block blocks i j b d h g (λ same. apart (ap suc same)) in omega (arith, rest)

-- ---- the lines of a block

named-if : (block : ℕ) (line : Line) (lines rest : List Line) (b : Bool) → named block lines ≤ named block rest
    → named block (if b then line ∷ [] else line ∷ lines) ≤ named block (line ∷ rest)
named-if block line lines rest true h = omega (arith, h)
named-if block line lines rest false h = omega (arith, h)

named-with_exit : (block : ℕ) (lines : List Line) → named block (with_exit lines) ≤ named block lines
named-with_exit block [] = omega arith
named-with_exit block (line ∷ lines) =
    named-if block line (with_exit lines) lines (is_exit line.call) (named-with_exit block lines)

named-drop : (block i : ℕ) (lines : List Line) → named block (drop i lines) ≤ named block lines
named-drop block zero lines = omega arith
named-drop block (suc i) [] = omega arith
named-drop block (suc i) (line ∷ lines) = let rest = named-drop block i lines in omega (arith, rest)

any-named : (block : ℕ) (lines : List Line) → list_any (forks_in_line block) lines ≡ true → 1 ≤ named block lines
any-named block [] h = absurd (false≢true h)
any-named block (line ∷ lines) h =
    elim (cases_Bool (forks_block block line.call)) [
      | inl t ↦ let e : one_if (forks_block block line.call) ≡ 1 = ap one_if t in omega (arith, e)
      | inr f ↦
          let rest = any-named block lines (sym (ap (λ b. b || list_any (forks_in_line block) lines) f) ∙ h)
          in omega (arith, rest)
    ]

-- what is left of a block forks another no oftener than the block
pub record NamedIn (s : Script) (block p : ℕ) (c : Caller) : Type 0 where
  pub of : Block
  pub there : slice_get s.blocks (p - 1) ≡ Some of
  pub few : named block (caller_place s p c).left ≤ named block of.lines

named-left : (s : Script) (block p : ℕ) (c : Caller) (o : Option Block) → slice_get s.blocks (p - 1) ≡ o
    → 1 ≤ named block (drop c.line (lines_in o)) → drop c.line (lines_in o) ≡ (caller_place s p c).left
    → NamedIn s block p c
named-left s block p c None is h same =
    absurd (let few = named-drop block c.line [] in omega (arith, few, h))
named-left s block p c (Some b) is h same =
    let few = named-drop block c.line (with_exit b.lines)
    in let cut = named-with_exit block b.lines
    in let lines : named block (drop c.line (with_exit b.lines)) ≡ named block (caller_place s p c).left =
    ap (named block) same
    in record { of = b; there = is; few = omega (arith, few, cut, lines) }

named-in : (s : Script) (block p : ℕ) (c : Caller) → 1 ≤ named block (caller_place s p c).left → NamedIn s block p c
named-in s block p c h = named-left s block p c (block_at s p) refl h refl

-- a line that forks a block is the only one left in its block that does
pub fork-line-once : (s : Script) (block p : ℕ) (c : Caller) (line : Line) (rest : List Line) → IsSoundScript s
    → 2 ≤ block → block ≤ length s.blocks → (caller_place s p c).left ≡ line ∷ rest
    → forks_in_line block line ≡ true → list_any (forks_in_line block) rest ≡ false
fork-line-once s block p c line rest sound low high left forks =
    elim (cases_Bool (list_any (forks_in_line block) rest)) [
      | inr f ↦ f
      | inl t ↦
          let one : one_if (forks_in_line block line) ≡ 1 = ap one_if forks
          in let more = any-named block rest t
          in let all : named block (caller_place s p c).left ≡ named block (line ∷ rest) = ap (named block) left
          in let within : NamedIn s block p c = named-in s block p c (omega (arith, one, more, all))
          in let few = within.few
          in let most = named-at block s.blocks (p - 1) within.of within.there
          in let is = once s block sound low high
          in absurd (omega (arith, one, more, all, few, most, is))
    ]

-- and no other block's lines fork it
pub fork-block-once : (s : Script) (block p q : ℕ) (c d : Caller) → IsSoundScript s → 2 ≤ block
    → block ≤ length s.blocks → 1 ≤ p → 1 ≤ q → list_any (forks_in_line block) (caller_place s p c).left ≡ true
    → list_any (forks_in_line block) (caller_place s q d).left ≡ true → p ≡ q
fork-block-once s block p q c d sound low high low_p low_q here there =
    elim (cases_eq (p - 1) (q - 1)) [
      | inl same ↦ omega (arith, same, low_p, low_q)
      | inr apart ↦
          let one = any-named block (caller_place s p c).left here
          in let other = any-named block (caller_place s q d).left there
          in let first : NamedIn s block p c = named-in s block p c one
          in let second : NamedIn s block q d = named-in s block q d other
          in let few = first.few
          in let fewer = second.few
          in let both = named-two block s.blocks (p - 1) (q - 1) first.of second.of first.there second.there apart
          in let is = once s block sound low high
          in absurd (omega (arith, one, other, few, fewer, both, is))
    ]
