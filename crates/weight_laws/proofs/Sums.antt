-- Sums over nodes, streams, maps and places of calls: how one changes where one element does.
use Rattle.std.proofs.Common.{◌≡◌, ℕ, zero, suc, ◌+◌, ◌-◌, ◌≤◌, ◌<◌, if◌then◌else◌, List, [], ◌∷◌, ◌++◌, get_or, slice_get, set, Some, refl, ap, sym, ◌∙◌, inl, inr, arith}
use Rattle.std.specs.Prelude.{sum_by}
use Rattle.std.proofs.lemmas.Bool.{cases_eq, eq-eqb, ne_eqb}
use Rattle.std.proofs.lemmas.List.Sums.{sum_by-cons, sum_by_push}
use Rattle.rpc_frame.specs.declared.frame.Frame.{Frame}
use Rattle.rpc_frame.specs.declared.frame.Frame.TheVariants as frames
use Rattle.pico_base.specs.declared.script.Script.{Script}
use Rattle.kernel_laws.proofs.Plain.{from_some}
use Rattle.world_model.specs.World.{Streams, numbers, node_count, stream_in, with_stream, with_sent, with_all_sent}
use Rattle.world_laws.specs.Places.{CallPlace, call_in}
use Rattle.rule_laws.proofs.own.Moved.{AreStill, IsCarriedOut, IsStillOrWoken, is_answered, is_over, is_still, is_woken, waited}
use Rattle.weight_laws.specs.Weights.{frame_weight, cancel_weight, stream_weight, row_weight, streams_weight, cancels_to, cancels_weight, send_weight, sends_weight, call_weight, call_at, calls_weight}

-- one element in place of another
pub sum-set : {X : Type 0} (f : X → ℕ) (xs : List X) (i : ℕ) (x y : X) → slice_get xs i ≡ Some y
    → sum_by f (set xs i x) + f y ≡ sum_by f xs + f x
sum-set f [] i x y h = cc
sum-set f (z ∷ xs) zero x y h =
    let a = sum_by-cons f x xs
    in let b = sum_by-cons f z xs
    in let c : f z ≡ f y = ap f (from_some _ _ h)
    in omega (arith, a, b, c)
sum-set f (z ∷ xs) (suc i) x y h =
    let rest = sum-set f xs i x y h
    in let a = sum_by-cons f z (set xs i x)
    in let b = sum_by-cons f z xs
    in omega (arith, a, b, rest)

-- the same, also where there is no such element: what isn't there counts nothing
pub sum-put : {X : Type 0} (f : X → ℕ) (xs : List X) (i : ℕ) (x d : X) → f d ≡ 0
    → sum_by f (set xs i x) + f (get_or xs i d) ≤ sum_by f xs + f x
sum-put f [] i x d z = omega (arith, z)
sum-put f (y ∷ xs) zero x d z =
    let a = sum_by-cons f x xs
    in let b = sum_by-cons f y xs
    in omega (arith, a, b)
sum-put f (y ∷ xs) (suc i) x d z =
    let rest = sum-put f xs i x d z
    in let a = sum_by-cons f y (set xs i x)
    in let b = sum_by-cons f y xs
    in omega (arith, a, b, rest)

-- ---- streams

stream-changes : (ss : Streams) (p q : ℕ) (fs : List Frame)
    → streams_weight (with_stream ss p q fs) + stream_weight (stream_in ss p q) ≤ streams_weight ss + stream_weight fs
stream-changes ss p q fs =
    let row : List (List Frame) = get_or ss (p - 1) []
    in let a = sum-put row_weight ss (p - 1) (set row (q - 1) fs) [] refl
    in let b = sum-put stream_weight row (q - 1) fs [] refl
    in omega (arith, a, b)

-- withdrawals by whom they go to: row i goes to node k

cancels-set : (rows : Streams) (to i k : ℕ) (row : List (List Frame)) → k ≡ to + i
    → cancels_weight to (set rows i row) + cancels_to k (get_or rows i [])
    ≤ cancels_weight to rows + cancels_to k row
cancels-set [] to i k row e = omega arith
cancels-set (r ∷ rows) to zero k row e =
    let at : k ≡ to = omega (arith, e)
    in let old : cancels_to k r ≡ cancels_to to r = ap (λ x. cancels_to x r) at
    in let new : cancels_to k row ≡ cancels_to to row = ap (λ x. cancels_to x row) at
    in omega (arith, old, new)
cancels-set (r ∷ rows) to (suc i) k row e =
    let rest = cancels-set rows (to + 1) i k row (omega (arith, e)) in omega (arith, rest)

-- node 0 would stand in the place of node 1
first-row : (p : ℕ) (f : Frame) → cancel_weight (1 + (p - 1)) f ≡ cancel_weight p f
first-row zero (frames.Cancel asked) = refl
first-row (suc p) f = let at : 1 + (suc p - 1) ≡ suc p = omega arith in ap (λ k. cancel_weight k f) at
first-row zero f = refl

cancels-change : (ss : Streams) (p q : ℕ) (fs : List Frame)
    → cancels_weight 1 (with_stream ss p q fs) + sum_by (cancel_weight p) (stream_in ss p q)
    ≤ cancels_weight 1 ss + sum_by (cancel_weight p) fs
cancels-change ss p q fs =
    let k : ℕ = 1 + (p - 1)
    in let row : List (List Frame) = get_or ss (p - 1) []
    in let a = cancels-set ss 1 (p - 1) k (set row (q - 1) fs) refl
    in let b = sum-put (λ there. sum_by (cancel_weight k) there) row (q - 1) fs [] refl
    in let same : (there : List Frame) → sum_by (cancel_weight k) there ≡ sum_by (cancel_weight p) there =
    λ there i. sum_by (λ f. first-row p f i) there
    in let old = same (stream_in ss p q)
    in let new = same fs
    in omega (arith, a, b, old, new)

-- the frames and the withdrawals that are on their way
abbrev pub on_way : Streams → ℕ
on_way ss = streams_weight ss + cancels_weight 1 ss

sent-one : (from : ℕ) (ss : Streams) (s : ℕ × Frame)
    → on_way (with_sent from ss s) ≤ on_way ss + send_weight s
sent-one from ss s =
    let a = stream-changes ss s.0 from (stream_in ss s.0 from ++ s.1 ∷ [])
    in let b = sum_by_push frame_weight (stream_in ss s.0 from) s.1
    in let c = cancels-change ss s.0 from (stream_in ss s.0 from ++ s.1 ∷ [])
    in let d = sum_by_push (cancel_weight s.0) (stream_in ss s.0 from) s.1
    in omega (arith, a, b, c, d)

-- frames that are sent count at most what they weigh
pub sent-all : (from : ℕ) (ss : Streams) (sends : List (ℕ × Frame))
    → on_way (with_all_sent from ss sends) ≤ on_way ss + sends_weight sends
sent-all from ss [] = omega arith
sent-all from ss (s ∷ sends) =
    let a = sent-one from ss s
    in let b = sent-all from (with_sent from ss s) sends
    in let c = sum_by-cons send_weight s sends
    in omega (arith, a, b, c)

-- a frame that is taken counts no more
pub taken-one : (ss : Streams) (p q : ℕ) (f : Frame) (fs : List Frame) → stream_in ss p q ≡ f ∷ fs
    → on_way (with_stream ss p q fs) + send_weight (p, f) ≤ on_way ss
taken-one ss p q f fs h =
    let a = stream-changes ss p q fs
    in let b : stream_weight (stream_in ss p q) ≡ frame_weight f + stream_weight fs =
    ap stream_weight h ∙ sum_by-cons frame_weight f fs
    in let c = cancels-change ss p q fs
    in let d : sum_by (cancel_weight p) (stream_in ss p q) ≡ cancel_weight p f + sum_by (cancel_weight p) fs =
    ap (sum_by (cancel_weight p)) h ∙ sum_by-cons (cancel_weight p) f fs
    in omega (arith, a, b, c, d)

-- one more frame is sent
pub sends-push : (sends : List (ℕ × Frame)) (s : ℕ × Frame)
    → sends_weight (sends ++ s ∷ []) ≡ sends_weight sends + send_weight s
sends-push sends s = sum_by_push send_weight sends s

-- ---- places of calls

-- a call that isn't among these numbers
calls-below : (call : ℕ → CallPlace) (p : ℕ) (place : CallPlace) (first count : ℕ) → p < first
    → sum_by (call_at (call_in call p place)) (numbers first count) ≡ sum_by (call_at call) (numbers first count)
calls-below call p place first zero h = refl
calls-below call p place first (suc count) h =
    let rest = calls-below call p place (first + 1) count (omega arith)
    in let a = sum_by-cons (call_at (call_in call p place)) first (numbers (first + 1) count)
    in let b = sum_by-cons (call_at call) first (numbers (first + 1) count)
    in let c : call_at (call_in call p place) first ≡ call_at call first =
    ap (λ t. call_weight (if t then place else call first)) (ne_eqb p first (λ e. omega (arith, e, h)))
    in omega (arith, a, b, c, rest)

calls-among : (call : ℕ → CallPlace) (p : ℕ) (place : CallPlace) (first count : ℕ) → first ≤ p → p < first + count
    → sum_by (call_at (call_in call p place)) (numbers first count) + call_weight (call p)
    ≡ sum_by (call_at call) (numbers first count) + call_weight place
calls-among call p place first zero low high = absurd (omega arith)
calls-among call p place first (suc count) low high =
    let a = sum_by-cons (call_at (call_in call p place)) first (numbers (first + 1) count)
    in let b = sum_by-cons (call_at call) first (numbers (first + 1) count)
    in elim (cases_eq p first) [
      | inl e ↦
          let rest = calls-below call p place (first + 1) count (omega (arith, e))
          in let c : call_at (call_in call p place) first ≡ call_weight place =
          ap (λ t. call_weight (if t then place else call first)) (eq-eqb p first e)
          in let d : call_at call first ≡ call_weight (call p) = ap (λ x. call_weight (call x)) (sym e)
          in omega (arith, a, b, c, d, rest)
      | inr other ↦
          let rest = calls-among call p place (first + 1) count (omega (arith, low, other)) (omega (arith, high))
          in let c : call_at (call_in call p place) first ≡ call_at call first =
          ap (λ t. call_weight (if t then place else call first)) (ne_eqb p first other)
          in omega (arith, a, b, c, rest)
    ]

-- a call of a node of the script is in another place
pub call-moves : (script : Script) (call : ℕ → CallPlace) (p : ℕ) (place : CallPlace) → 1 ≤ p → p ≤ node_count script
    → calls_weight script (call_in call p place) + call_weight (call p) ≡ calls_weight script call + call_weight place
call-moves script call p place low high = calls-among call p place 1 (node_count script) low (omega (arith, high))

-- calls in places that weigh no more
calls-light : (call after : ℕ → CallPlace) (first count : ℕ)
    → ((p : ℕ) → call_weight (after p) ≤ call_weight (call p))
    → sum_by (call_at after) (numbers first count) ≤ sum_by (call_at call) (numbers first count)
calls-light call after first zero h = omega arith
calls-light call after first (suc count) h =
    let rest = calls-light call after (first + 1) count h
    in let a = sum_by-cons (call_at after) first (numbers (first + 1) count)
    in let b = sum_by-cons (call_at call) first (numbers (first + 1) count)
    in let c = h first
    in omega (arith, a, b, c, rest)

-- whoever is woken weighs less than while it waited
pub woken-weight : (before after : CallPlace) → IsStillOrWoken before after → call_weight after ≤ call_weight before
woken-weight before after (is_still e) = let same = ap call_weight e in omega (arith, same)
woken-weight before after (is_woken name e over) = by-end over
  where
    was : call_weight before ≡ 6
    was = ap call_weight e

    by-end : IsCarriedOut after → call_weight after ≤ call_weight before
    by-end (is_over o) = let now = ap call_weight o in omega (arith, now)
    by-end (is_answered sender reply o) = let now = ap call_weight o in omega (arith, now, was)
woken-weight before after (waited e o) = let now = ap call_weight o in omega (arith, now)

-- Calls that are where they were, but for some that are woken, weigh no more.
pub calls-woken : (script : Script) (call after : ℕ → CallPlace) → AreStill call after
    → calls_weight script after ≤ calls_weight script call
calls-woken script call after still =
    calls-light call after 1 (node_count script) (λ p. woken-weight (call p) (after p) (still p))
