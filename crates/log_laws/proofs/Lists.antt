-- Facts about lists: what a list has at a place after a change, the streams of a turn, and a log behind its first
-- turn.
use Rattle.std.proofs.Common.{◌≡◌, ◌≢◌, ℕ, zero, suc, ◌<◌, ◌≤◌, Bool, true, false, if◌then◌else◌, List, [], ◌∷◌, ◌++◌, length, set, slice_get, nat_eq, map, Some, All, refl, ap, sym, subst, ◌∙◌, inl, inr, arith}
use Rattle.std.specs.List.{flat_map, AllByRecursion}
use Rattle.std.specs.List.Sorted.{IsPermutation}
use Rattle.std.proofs.lemmas.Bool.{cases_eq, eq-eqb, ne_eqb}
use Rattle.std.proofs.lemmas.List.Elements.{All-nil, All-cons, All-head, All-tail}
use Rattle.std.proofs.lemmas.List.Sorted.{All-permutation}
use Rattle.rpc_frame.specs.declared.frame.Frame.{Frame}
use Rattle.stamp_merge.specs.declared.Stamped.{Stamped}
use Rattle.stamp_merge.specs.Merge.{items_of, IsBefore}
use Rattle.stamp_merge.proofs.Merges.{own-item, others-item}
use Rattle.log_laws.specs.Logs.{StampedFrame, frame_of, Logged, Log, item_of, items_in, sent_to, stamped, sends_of, sent_in}
use Rattle.log_laws.specs.Merge.{NodeTurn, turn_item}

-- ---- a list after a change

-- a list has what was set at a place
pub get-set-same : {X : Type 0} (xs : List X) (i : ℕ) (x : X) → i < length xs → slice_get (set xs i x) i ≡ Some x
get-set-same [] i x h = absurd (omega arith)
get-set-same (y ∷ xs) zero x h = refl
get-set-same (y ∷ xs) (suc i) x h = get-set-same xs i x (omega arith)

-- and elsewhere what it had
pub get-set-other : {X : Type 0} (xs : List X) (i j : ℕ) (x : X) → j ≢ i → slice_get (set xs i x) j ≡ slice_get xs j
get-set-other [] i j x h = refl
get-set-other (y ∷ xs) zero zero x h = absurd (h refl)
get-set-other (y ∷ xs) zero (suc j) x h = refl
get-set-other (y ∷ xs) (suc i) zero x h = refl
get-set-other (y ∷ xs) (suc i) (suc j) x h = get-set-other xs i j x (λ e. h (ap suc e))

-- a map of two lists behind each other
pub map-append : {X Y : Type 0} (f : X → Y) (xs ys : List X) → map f (xs ++ ys) ≡ map f xs ++ map f ys
map-append f [] ys = refl
map-append {Y = Y} f (x ∷ xs) ys = ap (λ (zs : List Y). f x ∷ zs) (map-append f xs ys)

-- what holds of all of two lists holds of all of both
pub append-all : {X : Type 0} (P : X → Type 0) (xs ys : List X) → AllByRecursion P xs → AllByRecursion P ys
    → AllByRecursion P (xs ++ ys)
append-all P [] ys a b = b
append-all P (x ∷ xs) ys a b = (a.0, append-all P xs ys a.1 b)

-- and of both
pub left-all : {X : Type 0} (P : X → Type 0) (xs ys : List X) → AllByRecursion P (xs ++ ys) → AllByRecursion P xs
left-all P [] ys h = tt
left-all P (x ∷ xs) ys h = (h.0, left-all P xs ys h.1)

-- what holds of all of two lists behind each other holds of all of the second
pub right-all : {X : Type 0} (P : X → Type 0) (xs ys : List X) → AllByRecursion P (xs ++ ys) → AllByRecursion P ys
right-all P [] ys h = h
right-all P (x ∷ xs) ys h = right-all P xs ys h.1

-- what holds of each item that a map gives
pub all-mapped : {X Y : Type 0} (f : X → Y) (P : Y → Type 0) (xs : List X) → AllByRecursion (λ x. P (f x)) xs
    → AllByRecursion P (map f xs)
all-mapped f P [] h = tt
all-mapped f P (x ∷ xs) h = (h.0, all-mapped f P xs h.1)

-- and back
pub all-unmapped : {X Y : Type 0} (f : X → Y) (P : Y → Type 0) (xs : List X) → AllByRecursion P (map f xs)
    → AllByRecursion (λ x. P (f x)) xs
all-unmapped f P [] h = tt
all-unmapped f P (x ∷ xs) h = (h.0, all-unmapped f P xs h.1)

-- std's word for what holds of each item
pub to-all : {X : Type 0} (P : X → Type 0) (xs : List X) → AllByRecursion P xs → All P xs
to-all P [] h = All-nil P
to-all P (x ∷ xs) h = All-cons P x xs h.0 (to-all P xs h.1)

-- and back
pub from-all : {X : Type 0} (P : X → Type 0) (xs : List X) → All P xs → AllByRecursion P xs
from-all P [] h = tt
from-all P (x ∷ xs) h = (All-head P x xs h, from-all P xs (All-tail P x xs h))

-- what holds of all of a list holds of all of a permutation of it
pub all-moved : {X : Type 0} (P : X → Type 0) (xs ys : List X) → IsPermutation xs ys → AllByRecursion P xs
    → AllByRecursion P ys
all-moved P xs ys moved h = from-all P ys (All-permutation P xs ys moved (to-all P xs h))

-- ---- a stamp on each frame, and off again

frames-of-stamped : (stamp : ℕ) (fs : List Frame) → map frame_of (map (stamped stamp) fs) ≡ fs
frames-of-stamped stamp [] = refl
frames-of-stamped stamp (f ∷ fs) = ap (λ (gs : List Frame). f ∷ gs) (frames-of-stamped stamp fs)

-- the frames that a turn sends to a node
pub frames-of-sends : (to : ℕ) (turn : Logged) → map frame_of (sends_of to turn) ≡ sent_to to turn.step.sends
frames-of-sends to turn = frames-of-stamped turn.stamp (sent_to to turn.step.sends)

-- ---- one node's turns

-- a turn alone where the test says yes, else none
abbrev pub turn_if : Bool → Logged → Log
turn_if b turn = if b then turn ∷ [] else []

-- what a merge has of one node, as a log
abbrev pub log_of : ℕ → List NodeTurn → Log
log_of p turns = flat_map (λ t. turn_if (nat_eq t.node p) t.turn) turns

-- ---- a node's log behind the first turn of a merge

own-turn : (b : Bool) (turn : Logged) (rest : Log) → b ≡ true → turn_if b turn ++ rest ≡ turn ∷ rest
own-turn b turn rest h = ap (λ c. turn_if c turn ++ rest) h

others-turn : (b : Bool) (turn : Logged) (rest : Log) → b ≡ false → turn_if b turn ++ rest ≡ rest
others-turn b turn rest h = ap (λ c. turn_if c turn ++ rest) h

-- a node's log begins with its turn
pub log-of-own : (t : NodeTurn) (ts : List NodeTurn) (p : ℕ) → t.node ≡ p → log_of p (t ∷ ts) ≡ t.turn ∷ log_of p ts
log-of-own t ts p e = own-turn (nat_eq t.node p) t.turn (log_of p ts) (eq-eqb t.node p e)

-- the turn of another isn't in it
pub log-of-other : (t : NodeTurn) (ts : List NodeTurn) (p : ℕ) → t.node ≢ p → log_of p (t ∷ ts) ≡ log_of p ts
log-of-other t ts p d = others-turn (nat_eq t.node p) t.turn (log_of p ts) (ne_eqb t.node p d)

-- a node's items of a merge are those of its log
pub items-of-turns : (p : ℕ) (ts : List NodeTurn) → items_of p (map turn_item ts) ≡ items_in p (log_of p ts)
items-of-turns p [] = refl
items-of-turns p (t ∷ ts) =
    elim (cases_eq t.node p) [
      | inl e ↦
          own-item (turn_item t) (map turn_item ts) p e
          ∙ ap (λ (es : List (Stamped Logged)). turn_item t ∷ es) (items-of-turns p ts)
          ∙ ap (λ q. item_of q t.turn ∷ items_in p (log_of p ts)) e
          ∙ sym (ap (items_in p) (log-of-own t ts p e))
      | inr d ↦
          others-item (turn_item t) (map turn_item ts) p d
          ∙ items-of-turns p ts
          ∙ sym (ap (items_in p) (log-of-other t ts p d))
    ]

-- what holds of each turn of a merge holds of each turn of a node's log
pub all-of-log : (P : Logged → Type 0) (p : ℕ) (ts : List NodeTurn) → AllByRecursion (λ t. P t.turn) ts
    → AllByRecursion P (log_of p ts)
all-of-log P p [] h = tt
all-of-log P p (t ∷ ts) h =
    let rest = all-of-log P p ts h.1
    in elim (cases_eq t.node p) [
      | inl e ↦ subst (λ (l : Log). AllByRecursion P l) (sym (log-of-own t ts p e)) (h.0, rest)
      | inr d ↦ subst (λ (l : Log). AllByRecursion P l) (sym (log-of-other t ts p d)) rest
    ]

-- ---- stamps

-- what comes later in a merge has no lower stamp
pub not-below : (t u : NodeTurn) → IsBefore (turn_item t) (turn_item u) → t.turn.stamp ≤ u.turn.stamp
not-below t u (inl l) = let low : t.turn.stamp < u.turn.stamp = l in omega arith
not-below t u (inr e) = let same : t.turn.stamp ≡ u.turn.stamp = e.0 in omega arith

-- nor has anything that comes later
pub none-below : (t : NodeTurn) (us : List NodeTurn) → AllByRecursion (IsBefore (turn_item t)) (map turn_item us)
    → AllByRecursion (λ (u : NodeTurn). t.turn.stamp ≤ u.turn.stamp) us
none-below t [] h = tt
none-below t (u ∷ us) h = (not-below t u h.0, none-below t us h.1)

stamps-of-frames : (P : ℕ → Type 0) (stamp : ℕ) (fs : List Frame) → P stamp
    → AllByRecursion (λ (f : StampedFrame). P f.stamp) (map (stamped stamp) fs)
stamps-of-frames P stamp [] h = tt
stamps-of-frames P stamp (f ∷ fs) h = (h, stamps-of-frames P stamp fs h)

-- what holds of the stamps of turns holds of those of the frames that they sent
pub stamps-of-sent : (P : ℕ → Type 0) (to : ℕ) (log : Log) → AllByRecursion (λ (turn : Logged). P turn.stamp) log
    → AllByRecursion (λ (f : StampedFrame). P f.stamp) (sent_in to log)
stamps-of-sent P to [] h = tt
stamps-of-sent P to (turn ∷ log) h =
    append-all (λ (f : StampedFrame). P f.stamp) (sends_of to turn) (sent_in to log)
    (stamps-of-frames P turn.stamp (sent_to to turn.step.sends) h.0) (stamps-of-sent P to log h.1)
