-- The messages of a queue beside those that they stand for: how many bytes they have, and which is taken next.
use Rattle.std.proofs.Common.{◌≡◌, ◌≢◌, ◌∙◌, ℕ, zero, suc, ◌+◌, ◌*◌, ◌≤◌, ℤ, pos, negsuc, Bool, true, false, not, nat_eq, List, [], ◌∷◌, ◌++◌, length, map, Some, refl, ap, sym, inl, inr, arith, leb-true, le-leb, lt-ltb, le-ltb, eq-eqb, ne_eqb}
use Rattle.std.specs.Prelude.{if◌then◌else◌, nat_lt, nat_le, take, drop, slice_get, remove}
use Rattle.std.specs.List.{AllByRecursion, list_all, prefix_len, position_or_len}
use Rattle.std.specs.Ordering.{int_eq}
use Rattle.std.proofs.lemmas.Bool.{true≢false, cases_eq, cases_order, cases_Bool, and_parts, and_from}
use Rattle.std.proofs.lemmas.Bool.Decides.{Decides-int_eq}
use Rattle.std.proofs.lemmas.List.{length-map, map-append}
use Rattle.std.proofs.lemmas.List.Sums.{sum_by-cons}
use Rattle.kernel_model.specs.Queue as plain
use Rattle.kernel_model.specs.Queue.{Queue, bytes_of, lower_of, lowest_upto, first_of}
use Rattle.mq_model.specs.Queue.{Message, max_text, highest, oldest_of}
use Rattle.mq_model.specs.SystemV.{turned}
use Rattle.mq_laws.specs.Alike.{shown_message, is_turned, stands_for_message}

-- ---- one message

-- its type and its text, within the bounds
pub record Bounded (m : plain.Message) : Type 0 where
  pub class : ℕ
  pub is : m.class ≡ pos class
  pub above : 1 ≤ class
  pub below : class ≤ 32
  pub short : length m.text ≤ 16

pub record Turned (z : ℤ) : Type 0 where
  pub class : ℕ
  pub is : z ≡ pos class
  pub above : 1 ≤ class
  pub below : class ≤ 32

-- a type that stands for a priority is from 1 to 32
pub turned-class : (z : ℤ) → is_turned z ≡ true → Turned z
turned-class (pos c) h =
    let parts = and_parts (nat_le 1 c) (nat_le c 32) h
    in record { class = c; is = refl; above = leb-true 1 c parts.0; below = leb-true c 32 parts.1 }
turned-class (negsuc n) h = absurd (true≢false (sym h))

-- a message that stands for one of POSIX has such a type, and a text of at most 16 bytes
pub bounded : (m : plain.Message) → stands_for_message m ≡ true → Bounded m
bounded m h =
    let parts = and_parts (is_turned m.class) (nat_le (length m.text) max_text) h
    in let t : Turned m.class = turned-class m.class parts.0
    in record {
      class = t.class;
      is = t.is;
      above = t.above;
      below = t.below;
      short = leb-true (length m.text) max_text parts.1;
    }

-- ---- bytes

-- short texts have at most 16 bytes a message
pub bytes-bounded : (ms : List plain.Message) → list_all stands_for_message ms ≡ true → bytes_of ms ≤ 16 * length ms
bytes-bounded [] h = omega arith
bytes-bounded (m ∷ ms) h =
    let parts = and_parts (stands_for_message m) (list_all stands_for_message ms) h
    in let b : Bounded m = bounded m parts.0
    in let rest : bytes_of ms ≤ 16 * length ms = bytes-bounded ms parts.1
    in let short : length m.text ≤ 16 = b.short
    in let all : bytes_of (m ∷ ms) ≡ length m.text + bytes_of ms = sum_by-cons (λ x. length x.text) m ms
    in omega (arith, rest, short, all)

-- ---- the lowest type and the highest priority

pub int_eq-same : (a b : ℤ) → a ≡ b → int_eq a b ≡ true
int_eq-same a b same = (Decides-int_eq a b).1 same

pub int_eq-other : (a b : ℤ) → a ≢ b → int_eq a b ≡ false
int_eq-other a b ne =
    elim (cases_Bool (int_eq a b)) [
      | inl is_true ↦ absurd (ne ((Decides-int_eq a b).0 is_true))
      | inr is_false ↦ is_false
    ]

abbrev number_of : ℤ → ℕ
number_of (pos n) = n
number_of (negsuc n) = n

-- the same type is the same priority
same-turned : (c d : ℕ) → c ≤ 32 → d ≤ 32 → int_eq (pos c) (pos d) ≡ nat_eq (turned c) (turned d)
same-turned c d hc hd =
    elim (cases_eq c d) [
      | inl same ↦ int_eq-same (pos c) (pos d) (ap pos same) ∙ sym (eq-eqb (turned c) (turned d) (ap turned same))
      | inr ne ↦
          let differ : turned c ≢ turned d = λ h. ne (omega (arith, h, hc, hd))
          in let apart : pos c ≢ pos d = λ h. ne (ap number_of h)
          in int_eq-other (pos c) (pos d) apart ∙ sym (ne_eqb (turned c) (turned d) differ)
    ]

-- a lower type is a higher priority
lower-higher : (c d : ℕ) → c ≤ 32 → d ≤ 32 → nat_lt d c ≡ nat_lt (turned c) (turned d)
lower-higher c d hc hd =
    elim (cases_order d c) [
      | inl same ↦ le-ltb d c (omega arith) ∙ sym (le-ltb (turned c) (turned d) (omega arith))
      | inr other ↦
          elim other [
            | inl less ↦ lt-ltb d c less ∙ sym (lt-ltb (turned c) (turned d) (omega arith))
            | inr more ↦ le-ltb d c (omega arith) ∙ sym (le-ltb (turned c) (turned d) (omega arith))
          ]
    ]

-- the lowest type of some messages, which stands for their highest priority
pub record Lowest (ms : List plain.Message) : Type 0 where
  pub class : ℕ
  pub above : 1 ≤ class
  pub below : class ≤ 32
  pub low : lowest_upto (pos 32) ms ≡ Some (pos class)
  pub high : highest (map shown_message ms) ≡ turned class

one-lowest : (m : plain.Message) (b : Bounded m) → Lowest (m ∷ [])
one-lowest m b =
    record {
      class = b.class;
      above = b.above;
      below = b.below;
      low = rw (b.is, le-leb b.class 32 b.below) refl;
      high = rw (b.is, le-ltb (turned b.class) 0 (omega arith)) refl;
    }

if-lower : (b : Bool) (c d : ℕ) → (if b then pos d else pos c) ≡ pos (if b then d else c)
if-lower true c d = refl
if-lower false c d = refl

if-higher : (b : Bool) (c d : ℕ) → (if b then turned d else turned c) ≡ turned (if b then d else c)
if-higher true c d = refl
if-higher false c d = refl

if-between : (b : Bool) (c d : ℕ) (P : ℕ → Type 0) → P c → P d → P (if b then d else c)
if-between true c d P h g = g
if-between false c d P h g = h

more-lowest : (m : plain.Message) (b : Bounded m) (ms : List plain.Message) → Lowest ms → Lowest (m ∷ ms)
more-lowest m b ms l =
    let t : Bool = nat_lt l.class b.class
    in record {
      class = if t then l.class else b.class;
      above = if-between t b.class l.class (λ n. 1 ≤ n) b.above l.above;
      below = if-between t b.class l.class (λ n. n ≤ 32) b.below l.below;
      low =
          rw (b.is, l.low, le-leb b.class 32 b.below)
          (ap Some (if-lower t b.class l.class));
      high =
          rw (b.is, l.high, ← lower-higher b.class l.class b.below l.below)
          (if-higher t b.class l.class);
    }

-- among messages there is one of the lowest type, which is the highest priority
pub lowest : (m : plain.Message) (ms : List plain.Message) → list_all stands_for_message (m ∷ ms) ≡ true
    → Lowest (m ∷ ms)
lowest m [] h = one-lowest m (bounded m (and_parts (stands_for_message m) true h).0)
lowest m (n ∷ ms) h =
    let parts = and_parts (stands_for_message m) (list_all stands_for_message (n ∷ ms)) h
    in more-lowest m (bounded m parts.0) (n ∷ ms) (lowest n ms parts.1)

-- ---- the place of the oldest

place-map : (p : plain.Message → Bool) (q : Message → Bool) (ms : List plain.Message)
    → AllByRecursion (λ m. p m ≡ q (shown_message m)) ms
    → prefix_len p ms ≡ prefix_len q (map shown_message ms)
place-map p q [] all = refl
place-map p q (m ∷ ms) all = rw (all.0, place-map p q ms all.1) refl

tests-agree : (d : ℕ) → d ≤ 32 → (ms : List plain.Message) → list_all stands_for_message ms ≡ true
    → AllByRecursion (λ m. not (int_eq m.class (pos d)) ≡ not (nat_eq (shown_message m).priority (turned d))) ms
tests-agree d hd [] h = tt
tests-agree d hd (m ∷ ms) h =
    let parts = and_parts (stands_for_message m) (list_all stands_for_message ms) h
    in let b : Bounded m = bounded m parts.0
    in (rw b.is (ap not (same-turned b.class d b.below hd)), tests-agree d hd ms parts.1)

-- the oldest of a type is the oldest of its priority
pub same-place : (d : ℕ) → d ≤ 32 → (ms : List plain.Message) → list_all stands_for_message ms ≡ true
    → first_of (pos d) ms ≡ oldest_of (turned d) (map shown_message ms)
same-place d hd ms h =
    let at : position_or_len (λ m. int_eq m.class (pos d)) ms
    ≡ position_or_len (λ m. nat_eq m.priority (turned d)) (map shown_message ms) =
    place-map (λ m. not (int_eq m.class (pos d))) (λ m. not (nat_eq m.priority (turned d))) ms
    (tests-agree d hd ms h)
    in rw (at, length-map ms shown_message) refl

-- ---- what is left

pub map-take : {A B : Type 0} (f : A → B) (n : ℕ) (xs : List A) → map f (take n xs) ≡ take n (map f xs)
map-take f zero xs = refl
map-take f (suc n) [] = refl
map-take f (suc n) (x ∷ xs) = ap (λ ys. f x ∷ ys) (map-take f n xs)

pub map-drop : {A B : Type 0} (f : A → B) (n : ℕ) (xs : List A) → map f (drop n xs) ≡ drop n (map f xs)
map-drop f zero xs = refl
map-drop f (suc n) [] = refl
map-drop f (suc n) (x ∷ xs) = map-drop f n xs

-- what is taken out before a map and behind it
pub map-remove : {A B : Type 0} (f : A → B) (xs : List A) (i : ℕ) → map f (remove xs i) ≡ remove (map f xs) i
map-remove f xs i =
    map-append f (take i xs) (drop (suc i) xs) ∙ rw (map-take f i xs, map-drop f (suc i) xs) refl

all-and : {A : Type 0} (test : A → Bool) (xs ys : List A) → list_all test xs ≡ true → list_all test ys ≡ true
    → list_all test (xs ++ ys) ≡ true
all-and test [] ys h g = g
all-and test (x ∷ xs) ys h g =
    let parts = and_parts (test x) (list_all test xs) h
    in and_from (test x) (list_all test (xs ++ ys)) parts.0 (all-and test xs ys parts.1 g)

-- one more of a kind
pub all-more : {A : Type 0} (test : A → Bool) (xs : List A) (x : A) → list_all test xs ≡ true → test x ≡ true
    → list_all test (xs ++ x ∷ []) ≡ true
all-more test xs x h g = all-and test xs (x ∷ []) h (and_from (test x) true g refl)

all-taken : {A : Type 0} (test : A → Bool) (n : ℕ) (xs : List A) → list_all test xs ≡ true
    → list_all test (take n xs) ≡ true
all-taken test zero xs h = refl
all-taken test (suc n) [] h = refl
all-taken test (suc n) (x ∷ xs) h =
    let parts = and_parts (test x) (list_all test xs) h
    in and_from (test x) (list_all test (take n xs)) parts.0 (all-taken test n xs parts.1)

all-dropped : {A : Type 0} (test : A → Bool) (n : ℕ) (xs : List A) → list_all test xs ≡ true
    → list_all test (drop n xs) ≡ true
all-dropped test zero xs h = h
all-dropped test (suc n) [] h = refl
all-dropped test (suc n) (x ∷ xs) h = all-dropped test n xs (and_parts (test x) (list_all test xs) h).1

-- one less of a kind
pub all-removed : {A : Type 0} (test : A → Bool) (xs : List A) (i : ℕ) → list_all test xs ≡ true
    → list_all test (remove xs i) ≡ true
all-removed test xs i h =
    all-and test (take i xs) (drop (suc i) xs) (all-taken test i xs h) (all-dropped test (suc i) xs h)

-- each that is there is of the kind
pub all-there : {A : Type 0} (test : A → Bool) (xs : List A) (i : ℕ) (x : A) → list_all test xs ≡ true
    → slice_get xs i ≡ Some x → test x ≡ true
all-there test [] i x all is = absurd (cc)
all-there test (y ∷ ys) zero x all is =
    let same : y ≡ x = cc in ap test (sym same) ∙ (and_parts (test y) (list_all test ys) all).0
all-there test (y ∷ ys) (suc i) x all is = all-there test ys i x (and_parts (test y) (list_all test ys) all).1 is
