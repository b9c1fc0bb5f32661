-- A table of counts by name, as its calls change it, and loops over deeds and items.
use Rattle.std.proofs.Common.{◌≡◌, ℕ, ◌+◌, ◌≤◌, ◌<◌, Bool, true, false, cond, nat_eq, List, length, get_or, take, Option, Some, None, unwrap_or, Result, Ok, Err, IsOk, is_err, OnOk, OnErr, refl, sym, ap, ◌∙◌, arith}
use Rattle.std.proofs.lemmas.Bool.{false≢true, eq-eqb}
use Rattle.std.proofs.lemmas.Bool.Decides.{nat_tests}
use Rattle.std.proofs.lemmas.List.Sums.{count_by-le-length, sum_by_more, sum_by_more_le}
use Rattle.std.specs.Map.{lookup}
use Rattle.pico_base.specs.declared.numbers.Name.{Name}
use Rattle.pico_base.specs.declared.numbers.Name.TheVariants.{Proc, Msg, Sem}
use Rattle.pico_base.specs.contracts.numbers.NamePartialEq.TheImpl.{eq-value}
use Rattle.rpc_frame.specs.declared.deed.PackedDeed.{PackedDeed}
use Rattle.node_model.specs.declared.held.Held.{Held}
use Rattle.node_model.specs.Kinds.{is_same_name}
use Rattle.lease_leader.specs.Counting.{Counts, count_in, deeds_in, deeds_named, named_in}

-- ---- the derived equality of names is the one of the definitions

tests_same : (a b : Name) → eq-value.it a b ≡ is_same_name a b
tests_same (Proc a) (Proc b) = refl
tests_same (Msg a) (Msg b) = refl
tests_same (Sem a) (Sem b) = refl
tests_same (Proc a) (Msg b) = refl
tests_same (Proc a) (Sem b) = refl
tests_same (Msg a) (Proc b) = refl
tests_same (Msg a) (Sem b) = refl
tests_same (Sem a) (Proc b) = refl
tests_same (Sem a) (Msg b) = refl

lookup_same : (counts : Counts) (q : Name) → lookup (eq-value.it q) counts ≡ lookup (is_same_name q) counts
lookup_same counts q = ap (λ (test : Name → Bool). lookup test counts) (λ i. λ b. tests_same q b i)

-- what a look-up in the table gives
pub looked_up : (counts : Counts) (q : Name) (o : Option ℕ) → o ≡ lookup (eq-value.it q) counts
    → unwrap_or o 0 ≡ count_in counts q
looked_up counts q o is = ap (λ (r : Option ℕ). unwrap_or r 0) (is ∙ lookup_same counts q)

equal : (a b : ℕ) → nat_eq a b ≡ true → a ≡ b
equal a b h = grind (arith, nat_tests, h)

same_is : (a b : Name) → is_same_name a b ≡ true → a ≡ b
same_is (Proc a) (Proc b) h = ap Proc (equal a b h)
same_is (Msg a) (Msg b) h = ap Msg (equal a b h)
same_is (Sem a) (Sem b) h = ap Sem (equal a b h)
same_is (Proc a) (Msg b) h = absurd (cc)
same_is (Proc a) (Sem b) h = absurd (cc)
same_is (Msg a) (Proc b) h = absurd (cc)
same_is (Msg a) (Sem b) h = absurd (cc)
same_is (Sem a) (Proc b) h = absurd (cc)
same_is (Sem a) (Msg b) h = absurd (cc)

turned : (a b : ℕ) → nat_eq a b ≡ nat_eq b a
turned a b = grind (arith, nat_tests)

same_turned : (a b : Name) → is_same_name a b ≡ is_same_name b a
same_turned (Proc a) (Proc b) = turned a b
same_turned (Msg a) (Msg b) = turned a b
same_turned (Sem a) (Sem b) = turned a b
same_turned (Proc a) (Msg b) = refl
same_turned (Proc a) (Sem b) = refl
same_turned (Msg a) (Proc b) = refl
same_turned (Msg a) (Sem b) = refl
same_turned (Sem a) (Proc b) = refl
same_turned (Sem a) (Msg b) = refl

same_itself : (a : Name) → is_same_name a a ≡ true
same_itself (Proc a) = eq-eqb a a refl
same_itself (Msg a) = eq-eqb a a refl
same_itself (Sem a) = eq-eqb a a refl

-- ---- a change at one name

module _ (old new : Counts) (key : Name) (w : Option ℕ)
    (updates : (q : Name) → lookup (eq-value.it q) new ≡ cond (eq-value.it key q) w (lookup (eq-value.it q) old)) where
  changed : (q : Name) (b : Bool) → is_same_name q key ≡ b
      → lookup (is_same_name q) new ≡ cond b w (lookup (is_same_name q) old)
  changed q b h =
      sym (lookup_same new q) ∙ updates q
      ∙ ap (λ (t : Bool). cond t w (lookup (eq-value.it q) old)) (tests_same key q ∙ same_turned key q ∙ h)
      ∙ ap (cond b w) (lookup_same old q)

  -- one more
  pub counted-up : w ≡ Some (count_in old key + 1)
      → (q : Name) → count_in new q ≡ count_in old q + cond (is_same_name q key) 1 0
  counted-up is q =
      elim (is_same_name q key) as (λ b. is_same_name q key ≡ b → count_in new q ≡ count_in old q + cond b 1 0) [
        | true ↦ λ h.
            ap (λ (r : Option ℕ). unwrap_or r 0) (changed q true h ∙ is)
            ∙ ap (λ (k : Name). count_in old k + 1) (sym (same_is q key h))
        | false ↦ λ h.
            let same : count_in new q ≡ count_in old q = ap (λ (r : Option ℕ). unwrap_or r 0) (changed q false h) in
            omega (arith, same)
      ] refl

  -- one fewer
  pub counted-down : unwrap_or w 0 + 1 ≡ count_in old key
      → (q : Name) → count_in new q + cond (is_same_name q key) 1 0 ≡ count_in old q
  counted-down is q =
      elim (is_same_name q key) as (λ b. is_same_name q key ≡ b → count_in new q + cond b 1 0 ≡ count_in old q) [
        | true ↦ λ h.
            ap (λ (r : Option ℕ). unwrap_or r 0 + 1) (changed q true h) ∙ is
            ∙ ap (count_in old) (sym (same_is q key h))
        | false ↦ λ h.
            let same : count_in new q ≡ count_in old q = ap (λ (r : Option ℕ). unwrap_or r 0) (changed q false h) in
            omega (arith, same)
      ] refl

-- ---- loops

module _ (deeds : List PackedDeed) (i : ℕ) (deed : PackedDeed) (within : i < length deeds)
    (is : deed ≡ get_or deeds i deed) where
  -- the deeds so far and this one
  pub deeds_named-next : (q : Name)
      → deeds_named q (take (i + 1) deeds) ≡ deeds_named q (take i deeds) + cond (is_same_name q deed.name) 1 0
  deeds_named-next q =
      let count : PackedDeed → ℕ = λ d. cond (is_same_name q d.name) 1 0 in
      sum_by_more count deeds i deed within ∙ ap (λ (d : PackedDeed). deeds_named q (take i deeds) + count d) (sym is)

  pub this-in : deeds_named deed.name (take i deeds) + 1 ≤ deeds_named deed.name deeds
  this-in =
      let count : PackedDeed → ℕ = λ d. cond (is_same_name deed.name d.name) 1 0 in
      let here : count (get_or deeds i deed) ≡ 1 =
      ap count (sym is) ∙ ap (λ (b : Bool). cond b 1 0) (same_itself deed.name) in
      omega (arith, sum_by_more_le count deeds i deed within, here)

  pub this-fits : deeds_named deed.name (take i deeds) + 1 ≤ length deeds
  this-fits =
      omega (arith, this-in, count_by-le-length (λ d. is_same_name deed.name d.name) deeds)

module _ (holder : Name) (items : List Held) (i : ℕ) (item : Held) (within : i < length items)
    (is : item ≡ get_or items i item) where
  -- the items so far and this one
  pub named_in-next : (q : Name)
      → named_in q holder (take (i + 1) items) ≡ named_in q holder (take i items) + deeds_named q (deeds_in holder item)
  named_in-next q =
      let count : Held → ℕ = λ x. deeds_named q (deeds_in holder x) in
      sum_by_more count items i item within ∙ ap (λ (x : Held). named_in q holder (take i items) + count x) (sym is)

  pub item-in : (q : Name)
      → named_in q holder (take i items) + deeds_named q (deeds_in holder item) ≤ named_in q holder items
  item-in q =
      let count : Held → ℕ = λ x. deeds_named q (deeds_in holder x) in
      let here : count (get_or items i item) ≡ count item = ap count (sym is) in
      omega (arith, sum_by_more_le count items i item within, here)

-- ---- outcomes

-- a call that is refused only at an absent name isn't at one that is counted
pub never-refused : {U E : Type 0} (r : Result U E) (counts : Counts) (key : Name)
    → OnErr r (lookup (eq-value.it key) counts ≡ None) → 0 < count_in counts key → IsOk r
never-refused (Ok u) counts key absent above = refl
never-refused (Err e) counts key absent above =
    let none : 0 ≡ count_in counts key = looked_up counts key None (sym absent) in absurd (omega arith)

-- what holds of a call that isn't refused
pub on-ok : {U E : Type 0} (r : Result U E) {P : Type 0} → is_err r ≡ false → OnOk r P → P
on-ok (Ok u) h p = p
on-ok (Err e) h p = absurd (false≢true (sym h))
