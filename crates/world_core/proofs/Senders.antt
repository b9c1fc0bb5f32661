-- Looking for a sender, stream by stream.
use Rattle.std.proofs.Common.{◌≡◌, ℕ, ◌+◌, ◌-◌, ◌<◌, ◌≤◌, suc, zero, Bool, true, false, List, [], length, get_or, slice_get, Some, None, sym, ap, subst, ◌∙◌, ⊎_elim, arith}
use Rattle.std.specs.List.{filter}
use Rattle.std.proofs.lemmas.Bool.{cases_lt}
use Rattle.rpc_frame.specs.declared.frame.Frame.{Frame}
use Rattle.world_model.specs.World.{numbers}
use Rattle.world_core.specs.Inbox.{may_take, from_node, senders}
use Rattle.world_core.proofs.Lists.{filter_hit, filter_pass, filter_skip}

-- the node of this number sent a frame that may be taken
abbrev pub may : Bool → List (List Frame) → ℕ → Bool
may b row from = may_take b (from_node row from)

-- so many streams were looked at, and so many senders are still to be passed
pub record AreLeft (b : Bool) (row : List (List Frame)) (index at left : ℕ) : Type 0 where
  pub same : slice_get (senders b row) index ≡ slice_get (filter (may b row) (numbers (at + 1) (length row - at))) left

pub AreLeft-first : (b : Bool) (row : List (List Frame)) (index : ℕ) → AreLeft b row index 0 index
AreLeft-first b row index =
    let e : length row ≡ length row - 0 = omega arith
    in record { same = ap (λ (k : ℕ). slice_get (filter (may b row) (numbers 1 k)) index) e }

here : (b : Bool) (row : List (List Frame)) (at : ℕ) → may b row (at + 1) ≡ may_take b (get_or row at [])
here b row at = let e : at + 1 - 1 ≡ at = omega arith in ap (λ (k : ℕ). may_take b (get_or row k [])) e

pub AreLeft-hit : (b : Bool) (row : List (List Frame)) (index at left : ℕ) → AreLeft b row index at left
    → at < length row → may_take b (get_or row at []) ≡ true → left ≡ 0
    → Some (at + 1) ≡ slice_get (senders b row) index
AreLeft-hit b row index at left all lt e none =
    sym (all.same ∙ ap (λ (k : ℕ). slice_get (filter (may b row) (numbers (at + 1) (length row - at))) k) none
    ∙ filter_hit (may b row) (at + 1) (length row - at) (omega arith) (here b row at ∙ e))

next_count : (b : Bool) (row : List (List Frame)) (at left : ℕ)
    → slice_get (filter (may b row) (numbers (at + 1 + 1) (length row - at - 1))) left
    ≡ slice_get (filter (may b row) (numbers (at + 1 + 1) (length row - (at + 1)))) left
next_count b row at left =
    let e : length row - at - 1 ≡ length row - (at + 1) = omega arith
    in ap (λ (k : ℕ). slice_get (filter (may b row) (numbers (at + 1 + 1) k)) left) e

-- a stream with a frame to take is passed, and one sender fewer is left to pass
pub AreLeft-pass : (b : Bool) (row : List (List Frame)) (index at left : ℕ) → AreLeft b row index at left
    → at < length row → may_take b (get_or row at []) ≡ true → 0 < left → AreLeft b row index (at + 1) (left - 1)
AreLeft-pass b row index at left all lt e some = record {
  same =
      all.same ∙ filter_pass (may b row) (at + 1) (length row - at) left (omega arith) (here b row at ∙ e) some
      ∙ next_count b row at (left - 1);
}

-- a stream with no frame to take is passed, and as many senders are left to pass
pub AreLeft-skip : (b : Bool) (row : List (List Frame)) (index at left : ℕ) → AreLeft b row index at left
    → at < length row → may_take b (get_or row at []) ≡ false → AreLeft b row index (at + 1) left
AreLeft-skip b row index at left all lt e = record {
  same =
      all.same ∙ filter_skip (may b row) (at + 1) (length row - at) left (omega arith) (here b row at ∙ e)
      ∙ next_count b row at left;
}

-- behind the last stream nothing is left to pass
AreLeft-past : (b : Bool) (row : List (List Frame)) (index at left : ℕ) → AreLeft b row index at left
    → length row ≤ at → AreLeft b row index (at + 1) left
AreLeft-past b row index at left all le =
    let here : length row - at ≡ 0 = omega arith in
    let next : length row - (at + 1) ≡ 0 = omega arith in
    record {
      same =
          all.same ∙ ap (λ (k : ℕ). slice_get (filter (may b row) (numbers (at + 1) k)) left) here
          ∙ sym (ap (λ (k : ℕ). slice_get (filter (may b row) (numbers (at + 1 + 1) k)) left) next);
    }

-- streams with no frame to take are passed at once
pub AreLeft-after : (b : Bool) (row : List (List Frame)) (index at : ℕ)
    → ((i : ℕ) → i < at → may_take b (get_or row i []) ≡ false) → AreLeft b row index at index
AreLeft-after b row index zero none = AreLeft-first b row index
AreLeft-after b row index (suc at) none =
    let before = AreLeft-after b row index at (λ i lt. none i (omega arith)) in
    let e : at + 1 ≡ suc at = omega arith in
    subst (λ (k : ℕ). AreLeft b row index k index) e
    (⊎_elim (λ lt. AreLeft-skip b row index at index before lt (none at (omega arith)))
    (λ le. AreLeft-past b row index at index before le) (cases_lt at (length row)))

pub AreLeft-none : (b : Bool) (row : List (List Frame)) (index at left : ℕ) → AreLeft b row index at left
    → length row ≤ at → None ≡ slice_get (senders b row) index
AreLeft-none b row index at left all le =
    let e : length row - at ≡ 0 = omega arith
    in sym (all.same ∙ ap (λ (k : ℕ). slice_get (filter (may b row) (numbers (at + 1) k)) left) e)
