-- A bit for each stream, set where it has a frame.
use Rattle.std.proofs.Common.{◌≡◌, ◌≢◌, ℕ, ◌*◌, ◌/◌, ◌%◌, ◌^◌, ◌<◌, ◌≤◌, suc, zero, Bool, true, false, List, [], ◌∷◌, ◌++◌, length, map, replicate, set, get_or, cond, refl, sym, ap, ◌∙◌, ⊎_elim, arith, get_or-set_same, get_or-set_other, length-set, w32}
use Rattle.std.specs.Prelude.{bit_and, bit_or, count_ones, nat_eq}
use Rattle.std.specs.Int.{bit_at, bit_not, trailing_zeros}
use Rattle.std.specs.Simd.Lanes.{mask_l}
use Rattle.std.proofs.Math.ListN.{get_or-map}
use Rattle.std.proofs.Math.Seq.{map-set_same}
use Rattle.std.proofs.lemmas.Bool.{cases_eq}
use Rattle.std.proofs.lemmas.List.{get_or_read, length-map, map-set}
use Rattle.std.proofs.lemmas.Nat.{and_le_l, ones_le_self}
use Rattle.std.proofs.lemmas.Nat.Bits.{bit_at-trailing_zeros, bit_at-zero, bit_at_set_same, bit_at_set_other, bit_at_clear_same, bit_at_clear_other, shr_and_one, same_from_bits, same_from_bits_below}
use Rattle.std.proofs.lemmas.Simd.{mask_l-mod, bit_mask_l, ones-mask_l}
use Rattle.rpc_frame.specs.declared.frame.Frame.{Frame}
use Rattle.world_core.specs.Inbox.{is_filled, filled_in, filled_mask, may_take, IsMarked}

-- where no stream has a frame, no bit is set
pub mask-empty : (count : ℕ) → filled_mask (replicate count []) ≡ 0
mask-empty zero = refl
mask-empty (suc count) = let e = mask-empty count in omega arith

-- the bit at a place
pub mask-at : (row : List (List Frame)) (k : ℕ) → bit_at (filled_mask row) k ≡ cond (is_filled (get_or row k [])) 1 0
mask-at row k = bit_mask_l (map is_filled row) k ∙ ap (λ (b : Bool). cond b 1 0) (get_or-map is_filled row k [])

-- how many bits are set
pub mask-count : (row : List (List Frame)) → count_ones (filled_mask row) ≡ filled_in row
mask-count row = ones-mask_l is_filled row

-- ---- a bit is set or cleared, in a mask of any list of tests

-- one of the tests comes out true
pub mask_l-on : (bs : List Bool) (k : ℕ) → k < length bs → k < 32
    → bit_or (mask_l bs) (1 * 2 ^ k % 2 ^ 32) ≡ mask_l (set bs k true)
mask_l-on bs k lt within =
    let on = set bs k true in
    same_from_bits (bit_or (mask_l bs) (1 * 2 ^ k % 2 ^ 32)) (mask_l on)
    (λ i. ⊎_elim (λ (same : i ≡ k).
    ap (λ (j : ℕ). bit_at (bit_or (mask_l bs) (1 * 2 ^ k % 2 ^ 32)) j) same ∙ bit_at_set_same w32 (mask_l bs) k within
    ∙ sym (ap (bit_at (mask_l on)) same ∙ bit_mask_l on k
    ∙ ap (λ (b : Bool). cond b 1 0) (get_or-set_same bs k true false lt)))
    (λ (other : i ≢ k). bit_at_set_other w32 (mask_l bs) k within i other ∙ bit_mask_l bs i
    ∙ sym (bit_mask_l on i ∙ ap (λ (b : Bool). cond b 1 0) (get_or-set_other bs k i true false other)))
    (cases_eq i k))

-- the mask of at most 32 tests fits 32 bits
pub mask_l-below : (bs : List Bool) → length bs ≤ 32 → mask_l bs < 2 ^ 32
mask_l-below bs few = let whole = mask_l-mod bs 32 few in omega (arith, whole)

-- one of the tests comes out false
pub mask_l-off : (bs : List Bool) (k : ℕ) → k < length bs → length bs ≤ 32
    → bit_and (mask_l bs) (bit_not w32 (1 * 2 ^ k % 2 ^ 32)) ≡ mask_l (set bs k false)
mask_l-off bs k lt few =
    let off = set bs k false in
    let n = bit_and (mask_l bs) (bit_not w32 (1 * 2 ^ k % 2 ^ 32)) in
    same_from_bits_below 32 n (mask_l off)
    (let le = and_le_l (mask_l bs) (bit_not w32 (1 * 2 ^ k % 2 ^ 32)) in
    let lt' = mask_l-below bs few in omega arith)
    (mask_l-below off (let same = length-set bs k false in omega arith))
    (λ i lt_i. ⊎_elim (λ (same : i ≡ k).
    ap (bit_at n) same ∙ bit_at_clear_same w32 (mask_l bs) k (omega arith)
    ∙ sym (ap (bit_at (mask_l off)) same ∙ bit_mask_l off k
    ∙ ap (λ (b : Bool). cond b 1 0) (get_or-set_same bs k false false lt)))
    (λ (other : i ≢ k). bit_at_clear_other w32 (mask_l bs) k (omega arith) i lt_i other ∙ bit_mask_l bs i
    ∙ sym (bit_mask_l off i ∙ ap (λ (b : Bool). cond b 1 0) (get_or-set_other bs k i false false other)))
    (cases_eq i k))

-- ---- the mask of the streams

-- a frame comes
pub mask-set : (row : List (List Frame)) (k : ℕ) (fs : List Frame) → k < length row → k < 32 → is_filled fs ≡ true
    → bit_or (filled_mask row) (1 * 2 ^ k % 2 ^ 32) ≡ filled_mask (set row k fs)
mask-set row k fs lt within filled =
    mask_l-on (map is_filled row) k (omega (arith, length-map row is_filled)) within
    ∙ sym (ap mask_l (map-set is_filled row k fs ∙ ap (set (map is_filled row) k) filled))

mask-below : (row : List (List Frame)) → length row ≤ 32 → filled_mask row < 2 ^ 32
mask-below row few =
    mask_l-below (map is_filled row) (omega (arith, length-map row is_filled))

-- the last frame goes
pub mask-clear : (row : List (List Frame)) (k : ℕ) (fs : List Frame) → k < length row → length row ≤ 32
    → is_filled fs ≡ false
    → bit_and (filled_mask row) (bit_not w32 (1 * 2 ^ k % 2 ^ 32)) ≡ filled_mask (set row k fs)
mask-clear row k fs lt few empty =
    mask_l-off (map is_filled row) k (omega (arith, length-map row is_filled)) (omega (arith, length-map row is_filled))
    ∙ sym (ap mask_l (map-set is_filled row k fs ∙ ap (set (map is_filled row) k) empty))

-- ---- what is kept beside the streams

filled-behind : (fs : List Frame) (f : Frame) → is_filled (fs ++ f ∷ []) ≡ true
filled-behind [] f = refl
filled-behind (g ∷ fs) f = refl

-- a stream has frames
pub marked-filled : (filled : ℕ) (row : List (List Frame)) (k : ℕ) (new : List Frame)
    → IsMarked filled row → k < length row → is_filled new ≡ true
    → IsMarked (bit_or filled (1 * 2 ^ k % 2 ^ 32)) (set row k new)
marked-filled filled row k new marked lt some =
    let same = length-set row k new in (
      omega (arith, marked.0),
      ap (λ (n : ℕ). bit_or n (1 * 2 ^ k % 2 ^ 32)) marked.1 ∙ mask-set row k new lt (omega (arith, marked.0)) some,
    )

-- a frame came
pub marked-pushed : (filled : ℕ) (row : List (List Frame)) (k : ℕ) (old new : List Frame) (frame : Frame)
    → IsMarked filled row → k < length row → new ≡ old ++ frame ∷ []
    → IsMarked (bit_or filled (1 * 2 ^ k % 2 ^ 32)) (set row k new)
marked-pushed filled row k old new frame marked lt pushed =
    marked-filled filled row k new marked lt (ap is_filled pushed ∙ filled-behind old frame)

-- the last frame was taken
pub marked-emptied : (filled : ℕ) (row : List (List Frame)) (k : ℕ) (new : List Frame) → IsMarked filled row
    → k < length row → is_filled new ≡ false
    → IsMarked (bit_and filled (bit_not w32 (1 * 2 ^ k % 2 ^ 32))) (set row k new)
marked-emptied filled row k new marked lt empty =
    let same = length-set row k new in (
      omega (arith, marked.0),
      ap (λ (n : ℕ). bit_and n (bit_not w32 (1 * 2 ^ k % 2 ^ 32))) marked.1 ∙ mask-clear row k new lt marked.0 empty,
    )

-- a frame was taken, and another comes next
pub marked-left : (filled : ℕ) (row : List (List Frame)) (k : ℕ) (old new : List Frame) → IsMarked filled row
    → k < length row → old ≡ get_or row k old → is_filled old ≡ true → is_filled new ≡ true
    → IsMarked filled (set row k new)
marked-left filled row k old new marked lt read first more =
    let same = length-set row k new in
    let was : is_filled (get_or row k []) ≡ true = ap is_filled (sym (get_or_read row k old lt read [])) ∙ first in (
      omega (arith, marked.0),
      marked.1 ∙ sym (ap mask_l (map-set_same is_filled row k new [] (more ∙ sym was))),
    )

-- no bit is set
pub marked-none : (filled : ℕ) (row : List (List Frame)) → filled ≡ filled_mask row → filled ≡ 0 → filled_in row ≡ 0
marked-none filled row marked none =
    let few = ones_le_self filled in let same = ap count_ones marked ∙ mask-count row in omega arith

-- what the test of a bit says of its stream
tested : (filled : ℕ) (row : List (List Frame)) (k : ℕ) → filled ≡ filled_mask row
    → bit_and (filled / 2 ^ k) 1 ≡ cond (is_filled (get_or row k [])) 1 0
tested filled row k marked =
    shr_and_one filled k ∙ ap (λ (n : ℕ). bit_at n k) marked ∙ mask-at row k

takes-all : (fs : List Frame) → ◌≡◌ {A = ℕ} (cond (is_filled fs) 1 0) 1 → true ≡ may_take true fs
takes-all [] e = absurd (omega arith)
takes-all (f ∷ fs) e = refl

takes-none : (b : Bool) (fs : List Frame) → ◌≢◌ {A = ℕ} (cond (is_filled fs) 1 0) 1
    → nat_eq (cond (is_filled fs) 1 0) 1 ≡ may_take b fs
takes-none b [] e = refl
takes-none b (f ∷ fs) e = absurd (e refl)

-- where a stream's bit is set, a node that is born may take a frame from it
pub born-takes : (filled : ℕ) (row : List (List Frame)) (k : ℕ) (b : Bool) → filled ≡ filled_mask row
    → bit_and (filled / 2 ^ k) 1 ≡ 1 → b ≡ true → b ≡ may_take b (get_or row k [])
born-takes filled row k b marked e born =
    born ∙ takes-all (get_or row k []) (sym (tested filled row k marked) ∙ e)
    ∙ sym (ap (λ (x : Bool). may_take x (get_or row k [])) born)

-- where a stream's bit isn't set, nothing may be taken from it
pub empty-takes : (filled : ℕ) (row : List (List Frame)) (k : ℕ) (b : Bool) → filled ≡ filled_mask row
    → bit_and (filled / 2 ^ k) 1 ≢ 1 → nat_eq (bit_and (filled / 2 ^ k) 1) 1 ≡ may_take b (get_or row k [])
empty-takes filled row k b marked e =
    let same = tested filled row k marked in
    ap (λ (n : ℕ). nat_eq n 1) same ∙ takes-none b (get_or row k []) (λ one. e (same ∙ one))

-- ---- the lowest bit

pub no-bit-below : (n i : ℕ) → n < 2 ^ 32 → i < trailing_zeros w32 n → bit_at n i ≡ 0
no-bit-below zero i small lt = bit_at-zero i
no-bit-below (suc n) i small lt = (bit_at-trailing_zeros w32 (suc n) (omega arith) small).2 i lt

nothing-taken : (b : Bool) (fs : List Frame) → ◌≡◌ {A = ℕ} (cond (is_filled fs) 1 0) 0 → may_take b fs ≡ false
nothing-taken b [] e = refl
nothing-taken b (f ∷ fs) e = absurd (omega arith)

-- no stream before the lowest bit that is set has a frame to take
pub none-before : (filled : ℕ) (row : List (List Frame)) (b : Bool) → filled ≡ filled_mask row → length row ≤ 32
    → (i : ℕ) → i < trailing_zeros w32 filled → may_take b (get_or row i []) ≡ false
none-before filled row b marked few i lt =
    nothing-taken b (get_or row i [])
    (sym (mask-at row i) ∙ sym (ap (λ (n : ℕ). bit_at n i) marked)
    ∙ no-bit-below filled i (let small = mask-below row few in omega (arith, marked)) lt)
