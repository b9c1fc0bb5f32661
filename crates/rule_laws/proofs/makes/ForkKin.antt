-- What a fork leaves: one more node's process has a number, and a place in the history where its block begins; and
-- it is a child of the one that forked it.
use Rattle.std.proofs.Common.{◌≡◌, ◌≢◌, ◌⊎◌, ℕ, ◌<◌, ◌≤◌, Bool, true, false, if◌then◌else◌, List, [], ◌∷◌, nat_eq, get_or, ◌-◌, Option, Some, None, is_some, option_and_then, refl, ap, sym, subst, ◌∙◌, inl, inr, arith}
use Rattle.std.specs.List.{list_any}
use Rattle.std.proofs.lemmas.Bool.{cases_eq, eq-eqb, ne_eqb, false≢true}
use Rattle.std.proofs.lemmas.Option.{slice_get-get_or}
use Rattle.pico_base.specs.declared.numbers.Name.TheVariants.{Proc}
use Rattle.pico_base.specs.declared.script.Block.{Block}
use Rattle.pico_base.specs.declared.script.Line.{Line}
use Rattle.pico_base.specs.declared.script.Script.{Script}
use Rattle.number_maps.specs.Maps.{get}
use Rattle.kernel_model.specs.Fitting.{Place, Places, block_at, block_place}
use Rattle.kernel_model.specs.Kernel.{Kernel, Process, living_at}
use Rattle.kernel_model.specs.Kernel as kernel
use Rattle.kernel_model.specs.Row.{Alive, Row}
use Rattle.kernel_model.specs.Script.{Vars, implied_exit, is_exit, with_exit}
use Rattle.kernel_model.specs.Valid.{IsValid}
use Rattle.kernel_laws.proofs.People.{from-living}
use Rattle.entry_laws.specs.Entering.{LeavesOthers, is_used_name}
use Rattle.entry_laws.proofs.Kin.{LeavesFork}
use Rattle.entry_laws.proofs.Numbers.{process-there}
use Rattle.entry_laws.proofs.Others.{Lived, others-lived, others-stay-dead, others-still-may}
use Rattle.node_model.specs.Caller.{lines_in, lines_of}
use Rattle.world_model.specs.Lives.{is_new_row}
use Rattle.world_model.specs.World.{node_count}
use Rattle.world_laws.specs.Names.{forker}
use Rattle.world_laws.specs.Families.{PidsHold}
use Rattle.rule_laws.proofs.own.Entries.{MayStill, StillLives}
use Rattle.rule_laws.proofs.makes.Forkers.{IsForkedFrom, names_in_line}
use Rattle.rule_laws.proofs.makes.WithinLines.{block-lines}

-- the block's process has this number now
abbrev pub with_pid : (ℕ → ℕ) → ℕ → ℕ → ℕ → ℕ
with_pid pids block child c = if nat_eq c block then child else pids c

-- the block's process has it
pub with-pid-there : (pids : ℕ → ℕ) (block child : ℕ) → with_pid pids block child block ≡ child
with-pid-there pids block child = ap (λ t. if t then child else pids block) (eq-eqb block block refl)

-- and the others have theirs
pub with-pid-other : (pids : ℕ → ℕ) (block child c : ℕ) → c ≢ block → with_pid pids block child c ≡ pids c
with-pid-other pids block child c d = ap (λ t. if t then child else pids c) (ne_eqb c block d)

-- What a fork by node p's process leaves of the kernel and of the places.
pub record ForkLeaves (script : Script) (k : Kernel) (places : Places) (pids : ℕ → ℕ) (p block child : ℕ) (row : Row)
    (vars : Vars) (next : Kernel) (after : Places) : Type 0 where
  -- before it
  pub valid : IsValid k
  pub forked : pids p ≢ 0
  pub unforked : pids block ≡ 0
  pub from_here : IsForkedFrom script p block
  pub absent : get k.processes child ≡ None
  pub some_child : child ≢ 0
  pub lived : Lived k (pids p)
  pub is_there : (c : ℕ) → pids c ≢ 0 → (v : Process) × (get k.processes (pids c) ≡ Some v)
  pub parents : (c : ℕ) → pids c ≢ 0 → forker script c ≢ block
  pub apart : (c d : ℕ) → pids c ≢ 0 → pids c ≡ pids d → c ≡ d
  -- the entry
  pub others : LeavesOthers k (pids p) next
  pub lives : Lived next (pids p)
  pub child_lives : Lived next child
  pub child_new : is_new_row child_lives.alive.row ≡ true
  pub fork : LeavesFork k next (pids p) child row
  pub used : (q : ℕ) → q ≢ child → is_used_name next (Proc q) ≡ is_used_name k (Proc q)
  -- the history
  pub was : Place
  pub place_was : get places (pids p) ≡ Some was
  pub now : Place
  pub place_is : get after (pids p) ≡ Some now
  pub begins : get after child ≡ Some (block_place (block_at script block) vars)
  pub places_stay : (q : ℕ) → q ≢ pids p → q ≢ child → get after q ≡ get places q
  pub more_left : now.left ≢ []
  pub shrinks : (test : Line → Bool) → list_any test now.left ≡ true → list_any test was.left ≡ true
  pub passed : list_any (names_in_line block) now.left ≡ false
  pub of_no_other : (q : ℕ) (at : Place) → pids q ≢ 0 → get places (pids q) ≡ Some at
      → list_any (names_in_line block) at.left ≡ true → q ≡ p
  pub from_block : (c : ℕ) → list_any (names_in_line c) (lines_of script block) ≡ true → IsForkedFrom script block c

none-is-some : {A : Type 0} (a : A) → None ≡ Some a → ⊥
none-is-some a h = cc

same-in-some : {A : Type 0} (a c : A) → Some a ≡ Some c → a ≡ c
same-in-some a c h = cc

module _ (script : Script) (k : Kernel) (places : Places) (pids : ℕ → ℕ) (p block child : ℕ) (row : Row) (vars : Vars)
    (next : Kernel) (after : Places) (l : ForkLeaves script k places pids p block child row vars next after) where
  abbrev now : ℕ → ℕ
  now = with_pid pids block child

  -- ---- numbers

  -- no node's process had the new number
  pub apart-child : (c : ℕ) → pids c ≢ child
  apart-child c e =
      elim (cases_eq (pids c) 0) [
        | inl none ↦ l.some_child (sym e ∙ none)
        | inr some ↦
            let it = l.is_there c some
            in none-is-some it.0 (sym l.absent ∙ ap (get k.processes) (sym e) ∙ it.1)
      ]

  -- a node with a process isn't the block's
  pub other-block : (c : ℕ) → pids c ≢ 0 → c ≢ block
  other-block c some same = some (ap pids same ∙ l.unforked)

  -- so it has the number that it had
  pub now-other : (c : ℕ) → pids c ≢ 0 → now c ≡ pids c
  now-other c some = with-pid-other pids block child c (other-block c some)

  -- and so has its parent
  pub now-parent : (c : ℕ) → pids c ≢ 0 → now (forker script c) ≡ pids (forker script c)
  now-parent c some = with-pid-other pids block child (forker script c) (l.parents c some)

  -- the block's has the new one
  pub now-there : now block ≡ child
  now-there = with-pid-there pids block child

  -- its parent is the one that forked it
  pub now-parent-of-child : now (forker script block) ≡ pids p
  now-parent-of-child =
      ap now l.from_here.forker_is ∙ now-other p l.forked

  -- as many processes are there, and the new one
  pub there-same : (q : ℕ) → q ≢ child → is_some (get next.processes q) ≡ is_some (get k.processes q)
  there-same q d = process-there next q l.others.valid ∙ l.used q d ∙ sym (process-there k q l.valid)

  -- the others go on as before
  pub others-go-on : (q : ℕ) → q ≢ pids p → q ≢ child → StillLives (living_at k q) (living_at next q)
  others-go-on q other new =
      record {
        lives = λ a lives.
            let m = others-still-may k (pids p) next q a l.others other lives
            in record { alive = m.alive; lives = m.lives; may = m.may };
        dead = λ dead. by-process (get k.processes q) refl dead;
      }
    where
      nobody : (o : Option Process) → is_some o ≡ false → o ≡ None
      nobody None h = refl
      nobody (Some process) h = absurd (false≢true (sym h))

      by-process : (o : Option Process) → get k.processes q ≡ o → living_at k q ≡ None → living_at next q ≡ None
      by-process (Some process) is dead =
          others-stay-dead k (pids p) next q l.others other (ap is_some is) dead
      by-process None is dead =
          ap (option_and_then kernel.alive_in) (nobody (get next.processes q) (there-same q new ∙ ap is_some is))

  -- ---- the numbers of processes

  module _ (h : PidsHold script pids places k) where
    -- a place is the new process's, the caller's, or was there
    place-cases : (q : ℕ) (place : Place) → get after q ≡ Some place
        → (q ≡ child) ⊎ ((q ≡ pids p) × (place ≡ l.now)) ⊎ ((q ≢ pids p) × (get places q ≡ Some place))
    place-cases q place there =
        elim (cases_eq q child) [
          | inl e ↦ inl e
          | inr new ↦
              elim (cases_eq q (pids p)) [
                | inl e ↦
                    inr (inl (e, same-in-some place l.now (sym there ∙ ap (get after) e ∙ l.place_is)))
                | inr d ↦ inr (inr (d, sym (l.places_stay q d new) ∙ there))
              ]
        ]

    child-place : (place : Place) → get after (now block) ≡ Some place → (test : Line → Bool)
        → list_any test place.left ≡ true → list_any test (lines_of script block) ≡ true
    child-place place there test some =
        sym (ap (list_any test) (block-lines (block_at script block) vars))
        ∙ ap (λ (x : Place). list_any test x.left)
        (sym (same-in-some place (block_place (block_at script block) vars)
        (sym there ∙ ap (get after) now-there ∙ l.begins)))
        ∙ some

    -- who isn't forked yet isn't now, unless it is the new one
    still-none : (c : ℕ) → c ≢ block → pids c ≡ 0 → now c ≡ 0
    still-none c d none = with-pid-other pids block child c d ∙ none

    ahead-of-child : (c : ℕ) → list_any (names_in_line c) (lines_of script block) ≡ true → now c ≡ 0
    ahead-of-child c names =
        let from : IsForkedFrom script block c = l.from_block c names
        in let before = from.before
        in let low = from.low
        in still-none c (λ e. omega (arith, before, e))
        (elim (cases_eq (pids c) 0) [
          | inl none ↦ none
          | inr some ↦
              absurd
              ((h.forked c some (λ first. omega (arith, low, first))).0 (ap pids from.forker_is ∙ l.unforked))
        ])

    ahead-now : (q c : ℕ) (place : Place) → get after (now q) ≡ Some place → now q ≢ 0
        → list_any (names_in_line c) place.left ≡ true → now c ≡ 0
    ahead-now q c place there some names = by-node (cases_eq q block)
      where
        by-block : (at : Place) → pids q ≢ 0 → get places (pids q) ≡ Some at
            → list_any (names_in_line c) at.left ≡ true → (c ≡ block → ⊥) → now c ≡ 0
        by-block at forked old in_it away = still-none c away (h.ahead q c at old forked in_it)

        by-place : pids q ≢ 0
            → (pids q ≡ child) ⊎ ((pids q ≡ pids p) × (place ≡ l.now))
            ⊎ ((pids q ≢ pids p) × (get places (pids q) ≡ Some place))
            → now c ≡ 0
        by-place forked (inl new) = absurd (apart-child q new)
        by-place forked (inr (inl own)) =
            by-block l.was forked (ap (get places) own.0 ∙ l.place_was)
            (l.shrinks (names_in_line c)
            (ap (λ (x : Place). list_any (names_in_line c) x.left) (sym own.1) ∙ names))
            (λ same. false≢true (sym l.passed
            ∙ ap (λ (x : Place). list_any (names_in_line block) x.left) (sym own.1)
            ∙ ap (λ b. list_any (names_in_line b) place.left) (sym same) ∙ names))
        by-place forked (inr (inr old)) =
            by-block place forked old.1 names
            (λ same. old.0 (ap pids (l.of_no_other q place forked old.1
            (ap (λ b. list_any (names_in_line b) place.left) (sym same) ∙ names))))

        by-node : (q ≡ block) ⊎ (q ≢ block) → now c ≡ 0
        by-node (inl e) =
            ahead-of-child c
            (child-place place (subst (λ z. get after (now z) ≡ Some place) e there) (names_in_line c) names)
        by-node (inr d) =
            let is : now q ≡ pids q = with-pid-other pids block child q d
            in let forked : pids q ≢ 0 = λ none. some (is ∙ none)
            in by-place forked (place-cases (pids q) place (ap (get after) (sym is) ∙ there))

    not-none : (x : Line) (xs : List Line) → x ∷ xs ≡ [] → ⊥
    not-none x xs e = cc

    exit-there : (lines : List Line) → with_exit lines ≡ [] → ⊥
    exit-there [] e = not-none implied_exit [] e
    exit-there (line ∷ lines) e = by-test (is_exit line.call) e
      where
        by-test : (t : Bool) → (if t then line ∷ [] else line ∷ with_exit lines) ≡ [] → ⊥
        by-test true e = not-none line [] e
        by-test false e = not-none line (with_exit lines) e

    -- the new process has its block to do
    child-more : (block_place (block_at script block) vars).left ≢ []
    child-more e =
        let low = l.from_here.low
        in let high = l.from_here.high
        in let some : block_at script block ≡ Some (get_or script.blocks (block - 1) no-block) =
        slice_get-get_or script.blocks (block - 1) no-block (omega (arith, low, high))
        in exit-there (get_or script.blocks (block - 1) no-block).lines
        (sym (ap lines_in some) ∙ sym (block-lines (block_at script block) vars) ∙ e)
      where
        no-block : Block
        no-block = record { name = []; lines = [] }

    alive-now : (c : ℕ) (a : Alive) (place : Place) → living_at next (now c) ≡ Some a
        → get after (now c) ≡ Some place → place.left ≢ []
    alive-now c a place lives there = by-node (cases_eq c block)
      where
        left-of : (q : Place) → place ≡ q → q.left ≢ [] → place.left ≢ []
        left-of q same more none = more (ap (λ (x : Place). x.left) (sym same) ∙ none)

        before : (q : ℕ) → pids c ≡ q → living_at next q ≡ Some a
            → (q ≡ child) ⊎ ((q ≡ pids p) × (place ≡ l.now)) ⊎ ((q ≢ pids p) × (get places q ≡ Some place))
            → place.left ≢ []
        before q is living (inl new) = absurd (apart-child c (is ∙ new))
        before q is living (inr (inl own)) = left-of l.now own.1 l.more_left
        before q is living (inr (inr old)) =
            let was = others-lived k (pids p) next q a l.others old.0
            (sym (there-same q (λ new. apart-child c (is ∙ new)))
            ∙ ap is_some (from-living next.processes q a living)) living
            in h.alive c was.alive place (ap (living_at k) is ∙ was.lives) (ap (get places) is ∙ old.1)

        by-node : (c ≡ block) ⊎ (c ≢ block) → place.left ≢ []
        by-node (inl e) =
            left-of (block_place (block_at script block) vars)
            (same-in-some place (block_place (block_at script block) vars)
            (sym there ∙ ap (λ z. get after (now z)) e ∙ ap (get after) now-there ∙ l.begins)) child-more
        by-node (inr d) =
            let is : now c ≡ pids c = with-pid-other pids block child c d
            in before (pids c) refl (ap (living_at next) (sym is) ∙ lives)
            (place-cases (pids c) place (ap (get after) (sym is) ∙ there))

    dead-now : (c : ℕ) (place : Place) → now c ≢ 0 → living_at next (now c) ≡ None → get after (now c) ≡ Some place
        → place.left ≡ []
    dead-now c place some dead there = by-node (cases_eq c block)
      where
        was-dead : (q : ℕ) → q ≢ pids p → q ≢ child → (o : Option Alive) → living_at k q ≡ o → living_at next q ≡ None
            → living_at k q ≡ None
        was-dead q other new None is none = is
        was-dead q other new (Some a) is none =
            let lives : StillLives (living_at k q) (living_at next q) = others-go-on q other new
            in let m : MayStill (living_at next q) a = lives.lives a is
            in absurd (none-is-some m.alive (sym none ∙ m.lives))

        before : (q : ℕ) → pids c ≡ q → q ≢ 0 → living_at next q ≡ None
            → (q ≡ child) ⊎ ((q ≡ pids p) × (place ≡ l.now)) ⊎ ((q ≢ pids p) × (get places q ≡ Some place))
            → place.left ≡ []
        before q is forked none (inl new) = absurd (apart-child c (is ∙ new))
        before q is forked none (inr (inl own)) =
            absurd (none-is-some l.lives.alive (sym none ∙ ap (living_at next) own.0 ∙ l.lives.lives))
        before q is forked none (inr (inr old)) =
            h.dead c place (λ zero. forked (sym is ∙ zero))
            (ap (living_at k) is
            ∙ was-dead q old.0 (λ new. apart-child c (is ∙ new)) (living_at k q) refl none)
            (ap (get places) is ∙ old.1)

        by-node : (c ≡ block) ⊎ (c ≢ block) → place.left ≡ []
        by-node (inl e) =
            absurd
            (none-is-some l.child_lives.alive
            (sym dead ∙ ap (λ z. living_at next (now z)) e ∙ ap (living_at next) now-there ∙ l.child_lives.lives))
        by-node (inr d) =
            let is : now c ≡ pids c = with-pid-other pids block child c d
            in before (pids c) refl (λ zero. some (is ∙ zero)) (ap (living_at next) (sym is) ∙ dead)
            (place-cases (pids c) place (ap (get after) (sym is) ∙ there))

    apart-now : (c d : ℕ) → now c ≢ 0 → now c ≡ now d → c ≡ d
    apart-now c d some same = by-nodes (cases_eq c block) (cases_eq d block)
      where
        by-nodes : (c ≡ block) ⊎ (c ≢ block) → (d ≡ block) ⊎ (d ≢ block) → c ≡ d
        by-nodes (inl e) (inl g) = e ∙ sym g
        by-nodes (inl e) (inr g) =
            absurd
            (apart-child d
            (sym (with-pid-other pids block child d g) ∙ sym same ∙ ap now e ∙ now-there))
        by-nodes (inr e) (inl g) =
            absurd
            (apart-child c
            (sym (with-pid-other pids block child c e) ∙ same ∙ ap now g ∙ now-there))
        by-nodes (inr e) (inr g) =
            h.apart c d (λ none. some (with-pid-other pids block child c e ∙ none))
            (sym (with-pid-other pids block child c e) ∙ same ∙ with-pid-other pids block child d g)

    nodes-now : (c : ℕ) → now c ≢ 0 → (1 ≤ c) × (c ≤ node_count script)
    nodes-now c some =
        elim (cases_eq c block) [
          | inl e ↦
              let low = l.from_here.low
              in let high = l.from_here.high
              in (omega (arith, low, e), omega (arith, high, e))
          | inr d ↦ h.nodes c (λ none. some (with-pid-other pids block child c d ∙ none))
        ]

    forked-now : (c : ℕ) → now c ≢ 0 → c ≢ 1 → (now (forker script c) ≢ 0) × (forker script c < c)
    forked-now c some later =
        elim (cases_eq c block) [
          | inl e ↦
              subst (λ z. (now (forker script z) ≢ 0) × (forker script z < z)) (sym e) (
                λ none. l.forked (sym now-parent-of-child ∙ none),
                subst (λ f. f < block) (sym l.from_here.forker_is) l.from_here.before,
              )
          | inr d ↦
              let forked : pids c ≢ 0 = λ none. some (with-pid-other pids block child c d ∙ none)
              in let old = h.forked c forked later
              in (λ none. old.0 (sym (now-parent c forked) ∙ none), old.1)
        ]

    node-of-place : (q : ℕ) (place : Place) → get after q ≡ Some place → (c : ℕ) × (now c ≡ q) × (q ≢ 0)
    node-of-place q place there =
        elim (place-cases q place there) [
          | inl new ↦ (block, now-there ∙ sym new, λ none. l.some_child (sym new ∙ none))
          | inr old ↦
              elim old [
                | inl own ↦ (p, now-other p l.forked ∙ sym own.0, λ none. l.forked (sym own.0 ∙ none))
                | inr was ↦
                    let it = h.placed q place was.1
                    in (it.0, now-other it.0 (λ none. it.2 (sym it.1 ∙ none)) ∙ it.1, it.2)
              ]
        ]

    node-of-process : (q : ℕ) (process : Process) → get next.processes q ≡ Some process
        → (c : ℕ) × (now c ≡ q) × (q ≢ 0)
    node-of-process q process is =
        elim (cases_eq q child) [
          | inl new ↦ (block, now-there ∙ sym new, λ none. l.some_child (sym new ∙ none))
          | inr d ↦ old-process (get k.processes q) refl (sym (there-same q d) ∙ ap is_some is)
        ]
      where
        old-process : (o : Option Process) → get k.processes q ≡ o → is_some (get k.processes q) ≡ true
            → (c : ℕ) × (now c ≡ q) × (q ≢ 0)
        old-process (Some v) e some =
            let it = h.there q v e
            in (it.0, now-other it.0 (λ none. it.2 (sym it.1 ∙ none)) ∙ it.1, it.2)
        old-process None e some = absurd (false≢true (sym (ap is_some e) ∙ some))

    place-now : (c : ℕ) → now c ≢ 0 → (place : Place) × (get after (now c) ≡ Some place)
    place-now c some =
        elim (cases_eq c block) [
          | inl e ↦ (
            block_place (block_at script block) vars,
            ap (λ z. get after (now z)) e ∙ ap (get after) now-there ∙ l.begins,
          )
          | inr d ↦
              let is : now c ≡ pids c = with-pid-other pids block child c d
              in by-process is (λ none. some (is ∙ none)) (cases_eq (pids c) (pids p))
        ]
      where
        by-process : now c ≡ pids c → pids c ≢ 0 → (pids c ≡ pids p) ⊎ (pids c ≢ pids p)
            → (place : Place) × (get after (now c) ≡ Some place)
        by-process is forked (inl e) = (l.now, ap (get after) (is ∙ e) ∙ l.place_is)
        by-process is forked (inr d) =
            let old = h.has_place c forked
            in (old.0, ap (get after) is ∙ l.places_stay (pids c) d (apart-child c) ∙ old.1)

    -- the numbers of processes hold with the new one
    pub pids-forked : PidsHold script now after next
    pids-forked =
        record {
          first = with-pid-other pids block child 1 (let low = l.from_here.low in λ e. omega (arith, low, e)) ∙ h.first;
          apart = apart-now;
          nodes = nodes-now;
          forked = forked-now;
          placed = node-of-place;
          there = node-of-process;
          has_place = place-now;
          ahead = λ q c place there some names. ahead-now q c place there some names;
          alive = alive-now;
          dead = dead-now;
        }
